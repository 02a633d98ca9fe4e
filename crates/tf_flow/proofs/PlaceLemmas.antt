-- The items of a flow as members.
use Rattle.std.proofs.Common.{◌≡◌, List, [], ◌∷◌, length, map, refl, arith}
use Rattle.tf_flow.specs.declared.nested.Item.{Item}
use Rattle.tf_flow.specs.Tree.{members_of, item_tree, trees_of}

-- a flow has a member for each item
pub length_members : (items : List Item) → length (members_of (trees_of (map item_tree items))) ≡ length items
length_members [] = refl
length_members (item ∷ items) = omega (arith, length_members items)
