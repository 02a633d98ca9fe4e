use Rattle.std.proofs.Common.{◌∙◌, ap, cond, true, arith, length, ◌<◌}
use Rattle.tf_flow.specs.Tree.{same_name}
use Rattle.tf_files.proofs.ArgumentLemmas.{speaks_more}
use Rattle.tf_files.proofs.document.arguments.spoken_of.Goals as goal

pub loop-arg-preserved : goal.loop-arg-preserved
loop-arg-preserved c = λ symbol.
    let within : c.loop-arg.arg-index < length c.args.args.now = omega arith in
    c.in_ok-insert-2.ensures.updates.0 symbol
    ∙ ap (cond (same_name c.arg-item.result.symbol symbol) true) (c.in_ok-insert.ensures.updates.0 symbol ∙ ap (cond (same_name c.arg-item.result.name symbol) true) (c.loop-arg.invariant symbol))
    ∙ speaks_more c.args.args.now c.loop-arg.arg-index c.arg-item.result symbol within c.arg-item.is
