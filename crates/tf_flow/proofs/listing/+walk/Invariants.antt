use Rattle.tf_flow.proofs.ListingLemmas.{WalkedFlow}
use Rattle.tf_flow.proofs.listing.+walk.Given as goal

abbrev pub invariant-add_flow-loop-place : goal.invariant-add_flow-loop-place
invariant-add_flow-loop-place l =
    WalkedFlow l.path l.flow l.number l.fn.outline.atoms.items l.fn.outline.levels.items l.fn.outline.inner_first.items l.place l.outline.atoms.items l.outline.levels.items l.outline.inner_first.items l.items.items
