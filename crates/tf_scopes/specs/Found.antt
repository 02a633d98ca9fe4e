-- The value that is found of a symbol.
use Rattle.std.specs.Prelude.{Option, option_map}
use Rattle.tf_values.specs.declared.value.Val.{Val}
use Rattle.tf_values.specs.Value.{value_of}
use Rattle.tf_scopes.specs.declared.found.Found.{Found}
use Rattle.tf_scopes.specs.declared.found.Found.TheVariants as found

-- the value: a whole one, or an item of a list as a value
abbrev pub shown : Found → Val
shown (found.Whole v) = v.now
shown (found.Part scalar) = value_of scalar.now

-- the same, where one is found
abbrev pub shown_in : Option Found → Option Val
shown_in = option_map shown
