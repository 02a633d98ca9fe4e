use Rattle.std.proofs.Common.{◌∙◌}
use Rattle.tf_order.proofs.StandingAtomLemmas.{atoms_more, atoms_all}
use Rattle.tf_order.proofs.standing_atoms.standing_atoms.Goals as goal

pub loop-item-preserved : goal.loop-item-preserved
loop-item-preserved c = atoms_more c.args.context.now c.loop-item.atoms.items c.add_item.new.atoms.items c.deref-item-items.result.now c.loop-item.item-index c.loop-item.invariant c.loop-item-test.true c.in_ok-add_item.ensures

pub returns : goal.returns
returns c = atoms_all c.args.context.now c.args.links.now c.loop-item.atoms.items c.deref-item-items.result.now c.loop-item.item-index c.loop-item.invariant c.loop-item-test.false c.requires
    (λ pairs are. c.deref-item-items.ensures.value ∙ c.in_ok-order.ensures pairs are)
