-- Where in the standing order those stand that list a symbol.
use Rattle.std.specs.Prelude.{◌≡◌, ℕ, List, Bool, false, Option, Some, None, length, slice_get}
use Rattle.indexmap.specs.IndexMap.{get}
use Rattle.tf_flow.specs.Tree.{same_name}
use Rattle.tf_numbers.specs.Numbers.{which_below}
use Rattle.tf_model.specs.Plan.{Outline}
use Rattle.tf_model.specs.Scope.{lists_symbol}
use Rattle.tf_order.specs.Graph.{standing_of_plan}
use Rattle.tf_order.specs.Index.{numbers_or_none}
use Rattle.tf_scopes.specs.declared.symbols.Symbols.{Symbols}

-- the places of a symbol
abbrev pub told : Symbols → List ℕ → List ℕ
told symbols symbol = numbers_or_none (get same_name symbols.places symbol)

-- who is found lists the symbol
abbrev pub lists_in : Outline → List ℕ → Option ℕ → Bool
lists_in plan symbol None = false
lists_in plan symbol (Some b) = lists_symbol plan symbol b

-- who stands at that place of the standing order lists the symbol
abbrev pub lists_at : Outline → List ℕ → ℕ → Bool
lists_at plan symbol place = lists_in plan symbol (slice_get (standing_of_plan plan) place)

-- of each symbol the places are told of those that list it
abbrev pub Tells : Symbols → Outline → Type 0
Tells symbols plan =
    (symbol : List ℕ) → told symbols symbol ≡ which_below (length (standing_of_plan plan)) (lists_at plan symbol)
