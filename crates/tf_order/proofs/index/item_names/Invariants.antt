use Rattle.std.proofs.Common.{◌≡◌, ℕ, List, map}
use Rattle.tf_numbers.specs.Numbers.{which_below}
use Rattle.tf_order.specs.Index.{told, is_named_at}
use Rattle.tf_flow.specs.Listing.{shown_item}
use Rattle.tf_order.proofs.index.item_names.Given as goal

abbrev pub invariant-loop-place : goal.invariant-loop-place
invariant-loop-place l = (name : List ℕ) → told l.index name ≡ which_below l.place (is_named_at (map shown_item l.items) name)
