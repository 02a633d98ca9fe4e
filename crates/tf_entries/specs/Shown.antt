-- What the code's tests, links and items are written as.
use Rattle.std.specs.Prelude.{ℕ, List, ◌∷◌}
use Rattle.tf_flow.specs.Outline.{condition_of, connection_of}
use Rattle.tf_flow.specs.declared.deciders.Link.{Link}
use Rattle.tf_flow.specs.declared.deciders.Test.{Test}
use Rattle.tf_flow.specs.declared.nested.Item.{Item}
use Rattle.tf_flow.specs.Plan.{item_as_written}
use Rattle.tf_entries.specs.Plans.{item_mark, tree_bytes, IsTree, condition_bytes, connection_bytes, IsCondition, IsConnection}

-- the bytes of a test, and whether it is within the limits
abbrev pub test_bytes : Test → List ℕ
test_bytes test = condition_bytes (condition_of test)

abbrev pub IsTest : Test → Type 0
IsTest test = IsCondition (condition_of test)

-- those of a link
abbrev pub link_bytes : Link → List ℕ
link_bytes link = connection_bytes (connection_of link)

abbrev pub IsLink : Link → Type 0
IsLink link = IsConnection (connection_of link)

-- those of an item, behind its mark
abbrev pub item_bytes : Item → List ℕ
item_bytes item = item_mark (item_as_written item) ∷ tree_bytes (item_as_written item)

abbrev pub IsItem : Item → Type 0
IsItem item = IsTree (item_as_written item)
