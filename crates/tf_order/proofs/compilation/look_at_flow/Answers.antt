use Rattle.tf_order.proofs.CompilationLemmas.{looked_step}
use Rattle.tf_order.proofs.compilation.look_at_flow.Goals as goal

pub returns : goal.returns
returns c = looked_step c.args.outline.now c.deref.result.now c.deref-2.result.now c.args.found.now.table.items c.args.found.now.faults.items c.args.flow c.index.result.now c.in_ok-looked.looked.arranged c.in_ok-looked.looked.refusal
    c.deref.ensures.value c.deref-2.ensures.value c.requires.looked c.requires.numbers c.requires.flow c.index.ensures c.in_ok-looked.ensures.arranged c.in_ok-looked.ensures.refusal
