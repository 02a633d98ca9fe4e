use Rattle.std.proofs.Common.{◌≡◌, ℕ, List, take}
use Rattle.std.specs.Prelude.{if◌then◌else◌}
use Rattle.tf_flow.specs.Tree.{is_among}
use Rattle.tf_order.specs.Index.{told, add_once}
use Rattle.tf_order.proofs.index.add_names.Given as goal

abbrev pub invariant-loop-name : goal.invariant-loop-name
invariant-loop-name l = (name : List ℕ) → told l.index name ≡ (if is_among (take l.name-index l.names) name then add_once (told l.fn.index name) l.number else told l.fn.index name)
