-- The standing order of all atoms, with the place of each.
use Rattle.std.specs.Prelude.{◌≡◌, ℕ, nat_eq}
use Rattle.std.specs.List.{position_from}
use Rattle.indexmap.specs.IndexMap.{get}
use Rattle.tf_flow.specs.Plan.{PlanValue}
use Rattle.tf_model.specs.Plan.{outline_of}
use Rattle.tf_order.specs.Graph.{standing_of_plan}
use Rattle.tf_scopes.specs.declared.standing.StandingOrder.{StandingOrder}
use Rattle.tf_scopes.specs.Standing.{is_one}

-- of each number the first place in the order is told
abbrev pub HasPlaces : StandingOrder → Type 0
HasPlaces standing = (n : ℕ) → get nat_eq standing.places n ≡ position_from (is_one n) 0 standing.order.now

-- it is the order of the plan's atoms
abbrev pub IsOrderOf : StandingOrder → PlanValue → Type 0
IsOrderOf standing plan = standing.order.now ≡ standing_of_plan (outline_of plan)
