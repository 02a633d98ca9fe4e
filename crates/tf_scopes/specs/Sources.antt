-- From where an atom takes the value of an argument.
use Rattle.std.specs.Prelude.{ℕ, List, [], ◌∷◌, Bool, true, false, Option, Some, None, option_map, position, filter, map, slice_get}
use Rattle.tf_flow.specs.declared.atoms.Arg.{Arg}
use Rattle.tf_flow.specs.declared.atoms.Bind.{Bind}
use Rattle.tf_flow.specs.Tree.{same_name}
use Rattle.tf_values.specs.declared.value.Val.{Val}
use Rattle.tf_model.specs.Plan.{Outline, arguments, injects}
use Rattle.tf_model.specs.Scope.{lists_symbol, members}
use Rattle.tf_scopes.specs.declared.sources.Source.{Source}
use Rattle.tf_scopes.specs.declared.sources.Source.TheVariants as source

-- the bind is one of the symbol
abbrev pub binds_symbol : List ℕ → Bind → Bool
binds_symbol symbol bind = same_name bind.symbol symbol

-- the place of the first bind of a symbol
abbrev pub place_bound : List Bind → List ℕ → Option ℕ
place_bound binds symbol = position (binds_symbol symbol) binds

-- the value of a bind
abbrev pub bound_value : Bind → Val
bound_value bind = bind.value

-- the value at a place of the binds
abbrev pub bound_at : List Bind → ℕ → Option Val
bound_at binds place = option_map bound_value (slice_get binds place)

-- the members of y's scope that list the symbol, in the order of the scope
unfoldable pub givers : Outline → ℕ → List ℕ → List ℕ
givers plan y symbol = filter (lists_symbol plan symbol) (members plan y)

-- the inject where there is one, else the store's value where there is one, else the atoms
abbrev pub source_among : Option ℕ → Option ℕ → List ℕ → Source
source_among (Some place) stored among = source.Injected place
source_among None (Some place) among = source.Stored place
source_among None None among = source.Given among

-- from where y takes the value of a symbol
abbrev pub source_of : Outline → ℕ → List ℕ → Source
source_of plan y symbol =
    source_among (place_bound (injects plan y) symbol) (place_bound plan.store symbol) (givers plan y symbol)

-- the same of an argument
abbrev pub source_of_argument : Outline → ℕ → Arg → Source
source_of_argument plan y arg = source_of plan y arg.symbol

-- from where y takes the values of its arguments, in their order
abbrev pub sources_of : Outline → ℕ → List Source
sources_of plan y = map (source_of_argument plan y) (arguments plan y)

-- the list is empty
abbrev pub is_empty : List ℕ → Bool
is_empty [] = true
is_empty (x ∷ xs) = false

-- no inject, no value of the store and no atom
abbrev pub gives_nothing : Source → Bool
gives_nothing (source.Injected place) = false
gives_nothing (source.Stored place) = false
gives_nothing (source.Given among) = is_empty among
