use Rattle.std.proofs.Common.{◌≡◌, ℕ, ◌<◌, true}
use Rattle.tf_numbers.specs.Numbers.{has_number}
use Rattle.tf_links.specs.Links.{ArePivots}
use Rattle.tf_links.proofs.links.Links.pivots.Given as goal

abbrev pub invariant-loop-item : goal.invariant-loop-item
invariant-loop-item l = ArePivots l.count l.among l.pivots.items

abbrev pub invariant-loop-item-2 : goal.invariant-loop-item-2
invariant-loop-item-2 l = record {
  listed : ArePivots l.count l.among l.pivots.items;
  all : (k : ℕ) → k < l.item → has_number l.pivots.items k ≡ true;
}
