-- Symbols with their values as pairs.
use Rattle.std.specs.Prelude.{ℕ, List}
use Rattle.tf_values.specs.declared.value.Val.{Val}
use Rattle.tf_flow.specs.declared.atoms.Bind.{Bind}

-- a symbol with its value as a pair
abbrev pub pair_of : Bind → List ℕ × Val
pair_of bind = (bind.symbol, bind.value)

-- a pair of a symbol and a value
abbrev pub bind_of : List ℕ × Val → Bind
bind_of pair = record { symbol = pair.0; value = pair.1 }
