-- From where the scope of an atom is read.
use Rattle.std.specs.Prelude.{◌≡◌, ℕ, ◌<◌, Option, None, Some, take_while, if◌then◌else◌}
use Rattle.tf_flow.specs.Plan.{PlanValue}
use Rattle.tf_model.specs.Plan.{Outline, outline_of, count}
use Rattle.tf_model.specs.Scope.{is_earlier}
use Rattle.tf_order.specs.Graph.{IsGraphOf, standing_of_plan}
use Rattle.tf_scopes.specs.declared.scope.Scope.{Scope}
use Rattle.tf_scopes.specs.Standing.{is_other}
use Rattle.tf_scopes.specs.Stored.{IsStoreOf}
use Rattle.tf_scopes.specs.Symbols.{Tells}

-- the graph, the symbols and the store are the plan's, and in front are the atoms that stand before the atom
pub record IsScopeIn (scope : Scope) (plan : PlanValue) : Type 0 where
  pub graph : IsGraphOf scope.graph.now plan
  pub symbols : Tells scope.symbols.now (outline_of plan)
  pub stored : IsStoreOf scope.stored.now plan
  pub front : scope.front.now ≡ take_while (is_other scope.atom) (standing_of_plan (outline_of plan))
  pub atom : scope.atom < count (outline_of plan)

-- who is found, where that is before y
abbrev pub earlier_in : Outline → ℕ → Option ℕ → Option ℕ
earlier_in plan y None = None
earlier_in plan y (Some b) = if is_earlier plan y b then Some b else None
