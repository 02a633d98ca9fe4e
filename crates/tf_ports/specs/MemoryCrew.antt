-- What a crew in memory keeps.
use Rattle.std.specs.Prelude.{ℕ, List, [], Option, Some, None}
use Rattle.tf_actions.specs.declared.orders.Order.{Order}
use Rattle.tf_ports.specs.declared.crews.Hands.{Hands}
use Rattle.tf_ports.specs.declared.crews.Want.{Want}
use Rattle.tf_ports.specs.Ports.{CrewTold, did_by}

-- the wants that were answered with hands, the orders that each of the hands that were given back last had been given,
-- and how many faults there were
pub record HeldByCrew : Type 0 where
  pub hired : List Want
  pub back : List (Option (List Order))
  pub faults : ℕ

-- the orders of hands that were given back, if any were
abbrev pub did_back : {P : Type 0} → (P → Option (List Order)) → Option (Hands P P) → List (Option (List Order))
did_back did None = []
did_back did (Some hands) = did_by did did hands

-- what such a crew tells
abbrev pub told_of : HeldByCrew → CrewTold
told_of held = record { hired = Some held.hired; back = Some held.back }
