-- The numbers that tell without a walk whether an atom waits for others, or is held by them.
use Rattle.std.specs.Prelude.{◌≡◌, ℕ, suc, ◌+◌, ◌-◌, ◌<◌, min, List, [], ◌∷◌, length, Bool, true, false, not, Option, Some, option_map, slice_get, if◌then◌else◌}
use Rattle.tf_numbers.specs.Numbers.{has_number}
use Rattle.tf_order.specs.Graph.{predecessors_of, successors_of}
use Rattle.tf_model.specs.Plan.{Outline, count}
use Rattle.tf_model.specs.History.{Snapshot, is_done, is_settled}
use Rattle.tf_machine.specs.Tables.{shown_by}
use Rattle.tf_machine.specs.declared.counters.Counters.{Counters}
use Rattle.tf_machine.specs.declared.tables.Tables.{Tables}

-- how many of some numbers pass a test
abbrev pub how_many : (ℕ → Bool) → List ℕ → ℕ
how_many test [] = 0
how_many test (n ∷ numbers) = if test n then suc (how_many test numbers) else how_many test numbers

-- an atom is neither SUCCESS nor IGNORE
abbrev pub is_undone : Snapshot → ℕ → Bool
is_undone s a = not (is_done (s.state a))

-- an atom isn't settled: it is neither PENDING nor REVERTED nor IGNORE
abbrev pub is_unsettled : Snapshot → ℕ → Bool
is_unsettled s a = not (is_settled (s.state a))

-- the number of atoms before a that are neither SUCCESS nor IGNORE
unfoldable pub waiting_of : Outline → Snapshot → ℕ → ℕ
waiting_of plan s a = how_many (is_undone s) (predecessors_of plan a)

-- the number of atoms after a that aren't settled
unfoldable pub holding_of : Outline → Snapshot → ℕ → ℕ
holding_of plan s a = how_many (is_unsettled s) (successors_of plan a)

-- a list has for each number below n what is told of it
pub record AreNumbers (n : ℕ) (told : ℕ → ℕ) (numbers : List ℕ) : Type 0 where
  pub as_many : length numbers ≡ n
  pub each : (a : ℕ) → a < n → slice_get numbers a ≡ Some (told a)

-- the counters of each atom are these numbers
pub record AreCounted (plan : Outline) (s : Snapshot) (counters : Counters) : Type 0 where
  pub waiting : AreNumbers (count plan) (waiting_of plan s) counters.waiting.items
  pub holding : AreNumbers (count plan) (holding_of plan s) counters.holding.items

-- the counters that stand in the tables are those of what the tables show
abbrev pub HasCounters : Outline → Tables → Type 0
HasCounters plan tables = AreCounted plan (shown_by tables) tables.counters

-- one more, as far as a number of 16 bits tells it, or one less
abbrev pub stepped : Bool → ℕ → ℕ
stepped true n = min (n + 1) 65535
stepped false n = n - 1

-- what a list tells of a number after each of some numbers was told to be one more, or one less
abbrev pub after_steps : Bool → List ℕ → List ℕ → ℕ → Option ℕ
after_steps more atoms counts a =
    if has_number atoms a then option_map (stepped more) (slice_get counts a) else slice_get counts a

-- the same where a truth turned: one more where it was so, and one less where it is so now
abbrev pub after_turn : Bool → Bool → List ℕ → List ℕ → ℕ → Option ℕ
after_turn true true atoms counts a = slice_get counts a
after_turn false false atoms counts a = slice_get counts a
after_turn true false atoms counts a = after_steps true atoms counts a
after_turn false true atoms counts a = after_steps false atoms counts a

-- no number stands in the list twice
abbrev pub AreDistinct : List ℕ → Type 0
AreDistinct [] = Unit {0}
AreDistinct (n ∷ numbers) = (has_number numbers n ≡ false) × AreDistinct numbers
