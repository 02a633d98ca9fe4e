-- A scope by the standing order of all atoms.
use Rattle.std.specs.Prelude.{ℕ, List, Bool, not, filter, reverse, take_while, nat_eq}
use Rattle.tf_model.specs.Plan.{Outline}
use Rattle.tf_model.specs.Scope.{is_earlier}
use Rattle.tf_order.specs.Graph.{standing_of_plan}

-- b is the atom y
abbrev pub is_one : ℕ → ℕ → Bool
is_one y b = nat_eq b y

-- b is another atom than y
abbrev pub is_other : ℕ → ℕ → Bool
is_other y b = not (nat_eq b y)

-- the atoms that stand before y in the standing order of all atoms and are before it, from the nearest on
unfoldable pub standing_scope : Outline → ℕ → List ℕ
standing_scope plan y = filter (is_earlier plan y) (reverse (take_while (is_other y) (standing_of_plan plan)))
