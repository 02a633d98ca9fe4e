-- What is told of a plan's arguments, and when a symbol is missing.
use Rattle.std.specs.Prelude.{◌≡◌, List, Option, Some, map}
use Rattle.tf_flow.specs.Plan.{PlanValue}
use Rattle.tf_model.specs.Plan.{outline_of, count}
use Rattle.tf_model.specs.Scope.{Missing}
use Rattle.tf_numbers.specs.Numbers.{numbers_below}
use Rattle.tf_scopes.specs.declared.faults.ScopeFault.{ScopeFault}
use Rattle.tf_scopes.specs.declared.faults.ScopeFault.TheVariants as fault
use Rattle.tf_scopes.specs.declared.sources.Source.{Source}
use Rattle.tf_scopes.specs.Sources.{sources_of}

-- the providers are this plan's: they tell of each atom, by its number, from where it takes the values of
-- its arguments
pub record IsOf (providers : List (List Source)) (plan : PlanValue) : Type 0 where
  pub rows : providers ≡ map (sources_of (outline_of plan)) (numbers_below (count (outline_of plan)))

-- the fault tells the symbol that is missing; want of memory tells nothing
abbrev pub IsMissing : Option Missing → ScopeFault → Type 0
IsMissing missing fault.Memory = Unit {0}
IsMissing missing (fault.Missing atom symbol) = missing ≡ Some (record { atom = atom; symbol = symbol })
