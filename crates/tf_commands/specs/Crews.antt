-- What the program's crew tells by what it noted.
use Rattle.std.specs.Prelude.{List, [], ◌∷◌, Option, Some}
use Rattle.tf_actions.specs.declared.orders.Order.{Order}
use Rattle.tf_ports.specs.Noted.{noted}
use Rattle.tf_ports.specs.Ports.{CrewTold, did_by}
use Rattle.tf_ports.specs.declared.crews.Hands.{Hands}
use Rattle.tf_ports.specs.declared.crews.Want.{Want}

-- the orders of a hand that noted them, each with its outcome
abbrev pub orders_of : {Y : Type 0} → List (Order × Y) → Option (List Order)
orders_of done = Some (noted done)

module _ {H F : Type 0} (near : H → Option (List Order)) (far : F → Option (List Order)) where
  -- the orders of the hands that were noted as given back, if any were
  abbrev pub given_back : {Y : Type 0} → List (Hands H F × Y) → List (Option (List Order))
  given_back [] = []
  given_back (one ∷ more) = did_by near far one.0

  -- what a crew tells that noted these wants and these hands
  abbrev pub crew_told : {X Y : Type 0} → List (Want × X) → List (Hands H F × Y) → CrewTold
  crew_told wants back = record { hired = Some (noted wants); back = Some (given_back back) }
