use Rattle.tf_order.proofs.AmbiguityLemmas.{all_more}
use Rattle.tf_order.proofs.ambiguities.ambiguous_symbols.Goals as goal

pub loop-atom-preserved : goal.loop-atom-preserved
loop-atom-preserved c = all_more c.args.context.now c.args.item c.loop-atom.symbols.items c.add_of_atom.new.symbols.items c.loop-atom.atom c.loop-atom.invariant c.in_ok-add_of_atom.ensures
