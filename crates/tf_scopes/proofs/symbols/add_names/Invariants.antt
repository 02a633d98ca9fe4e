use Rattle.std.proofs.Common.{◌≡◌, ℕ, List, take}
use Rattle.std.specs.Prelude.{if◌then◌else◌}
use Rattle.tf_flow.specs.Tree.{is_among}
use Rattle.tf_order.specs.Index.{add_once}
use Rattle.tf_scopes.specs.Symbols.{told}
use Rattle.tf_scopes.proofs.symbols.add_names.Given as goal

abbrev pub invariant-loop-name : goal.invariant-loop-name
invariant-loop-name l = (symbol : List ℕ) → told l.symbols symbol ≡ (if is_among (take l.name-index l.names) symbol then add_once (told l.fn.symbols symbol) l.place else told l.fn.symbols symbol)
