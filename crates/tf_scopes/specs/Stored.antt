-- Where in the store a symbol has its value.
use Rattle.std.specs.Prelude.{◌≡◌, ℕ, List, Option}
use Rattle.indexmap.specs.IndexMap.{get}
use Rattle.tf_flow.specs.Plan.{PlanValue}
use Rattle.tf_flow.specs.Tree.{same_name}
use Rattle.tf_scopes.specs.declared.stored.Stored.{Stored}
use Rattle.tf_scopes.specs.Sources.{place_bound}

-- the place of a symbol
abbrev pub placed : Stored → List ℕ → Option ℕ
placed stored symbol = get same_name stored.places symbol

-- of each symbol the place is told at which the plan's store has its value first
abbrev pub IsStoreOf : Stored → PlanValue → Type 0
IsStoreOf stored plan = (symbol : List ℕ) → placed stored symbol ≡ place_bound plan.store symbol
