-- The lists of what leads back to itself.
use Rattle.std.specs.Prelude.{List}
use Rattle.tf_flow.specs.declared.deciders.Test.{Test}
use Rattle.tf_flow.specs.declared.deciders.Tests.{Tests}
use Rattle.tf_flow.specs.declared.nested.Item.{Item}
use Rattle.tf_flow.specs.declared.nested.Items.{Items}

-- the items that stand in a list of items, in order
abbrev pub item_list : Items → List Item
item_list list = list.items.items

-- the tests that stand in a list of tests, in order
abbrev pub test_list : Tests → List Test
test_list list = list.items.items
