-- What comes of a program that is run.
use Rattle.std.specs.Prelude.{◌≡◌, ℕ, ℤ, pos, negsuc, ◌-◌, List, [], ◌∷◌, ◌++◌, Bool, true, false, nat_lt, nat_eq, Option, Some, None, length, map, take, slice_get, ◌⊎◌, if◌then◌else◌}
use Rattle.std.specs.List.{list_all}
use Rattle.tf_values.specs.declared.value.Val.TheVariants as value
use Rattle.tf_values.specs.Text.{is_text}
use Rattle.tf_states.specs.declared.record.Failure.TheVariants as failure
use Rattle.tf_flow.specs.declared.atoms.Undo.{Undo}
use Rattle.tf_flow.specs.declared.atoms.Undo.TheVariants as undo
use Rattle.tf_actions.specs.declared.orders.Given.{Given}
use Rattle.tf_actions.specs.declared.orders.Given.TheVariants as given
use Rattle.tf_actions.specs.declared.orders.Order.{Order}
use Rattle.tf_actions.specs.declared.orders.Pair.{Pair}
use Rattle.tf_actions.specs.declared.outcomes.Action.{Action}
use Rattle.tf_actions.specs.declared.outcomes.Action.TheVariants as action
use Rattle.tf_actions.specs.declared.outcomes.Outcome.{Outcome}
use Rattle.tf_actions.specs.declared.outcomes.Outcome.TheVariants as outcome
use Rattle.tf_numbers.specs.Numbers.{Rises}
use Rattle.tf_actions.specs.Gives.{told_with}
use Rattle.tf_ports.specs.declared.programs.Done.{Done}
use Rattle.tf_ports.specs.declared.programs.ProgramRun.{ProgramRun}
use Rattle.tf_actions.specs.Built.{plain_pair}

-- the plain bytes of an argument are a text (they are UTF-8, so that only their length can keep them from
-- being one)
abbrev pub has_text : Pair → Bool
has_text pair = is_text (plain_pair pair)

-- the byte is a line feed
abbrev pub is_feed : Option ℕ → Bool
is_feed None = false
is_feed (Some byte) = nat_eq byte 10

-- the bytes without one last line feed
abbrev pub without_feed : List ℕ → List ℕ
without_feed bytes = if is_feed (slice_get bytes (length bytes - 1)) then take (length bytes - 1) bytes else bytes

-- the text of bytes that are few enough for one (a last line feed never decides whether bytes are UTF-8)
abbrev pub spelled : List ℕ → Outcome
spelled bytes =
    if is_text (without_feed bytes) then outcome.Gave (value.Text (without_feed bytes))
    else outcome.Failed failure.NotText

-- what an output gives
abbrev pub output_gives : List ℕ → Outcome
output_gives bytes = if nat_lt 65536 (length bytes) then outcome.Failed failure.TooLong else spelled bytes

-- the status is 0
abbrev pub is_zero : ℤ → Bool
is_zero (pos n) = nat_eq n 0
is_zero (negsuc n) = false

-- what a program gives that ended so
abbrev pub ended : Done → Outcome
ended done = if is_zero done.status then output_gives done.out else outcome.Failed (failure.Exit done.status)

-- what is seen of a spawner around a call: how its programs may end, whether its count of faults rose, and which
-- programs it had run before and after, each with how it ended
pub record Spawns : Type 1 where
  pub answers : List ℕ → List (List ℕ) → Done → Type 0
  pub rose : Type 0
  pub before : Option (List (ProgramRun × Done))
  pub after : Option (List (ProgramRun × Done))

abbrev pub spawns : {S : Type 0} → (S → List ℕ → List (List ℕ) → Done → Type 0) → (S → ℕ)
    → (S → Option (List (ProgramRun × Done))) → S → S → Spawns
spawns answers faults ran old new =
    record { answers = answers old; rose = Rises (faults old) (faults new); before = ran old; after = ran new }

-- no program was run
abbrev pub RunsNone : Spawns → Type 0
RunsNone seen = seen.after ≡ seen.before

-- this program was run, once, and no other, and ended so
abbrev pub RunsOnce : Spawns → ProgramRun → Done → Type 0
RunsOnce seen run done = seen.after ≡ told_with seen.before (run, done)

-- the program couldn't be run, which comes only where the count of faults rose, or it was run once and ended as it may
abbrev pub EndsWith : Spawns → ProgramRun → Outcome → Type 0
EndsWith seen run result =
    ((result ≡ outcome.Failed failure.Spawn) × seen.rose × RunsNone seen)
    ⊎ ((done : Done) × (seen.answers run.program run.args done) × (RunsOnce seen run done) × (result ≡ ended done))

-- it isn't run where an argument is too long
abbrev pub RunsWith : Bool → Spawns → ProgramRun → Outcome → Type 0
RunsWith false seen run result = (result ≡ outcome.Failed failure.TooLong) × RunsNone seen
RunsWith true seen run result = EndsWith seen run result

-- the first word is the program; the other words and the plain bytes of each argument are passed to it
abbrev pub run_for : List ℕ → List (List ℕ) → List Pair → ProgramRun
run_for program words pairs = record { program = program; args = words ++ map plain_pair pairs }

-- what comes of the program of these words
abbrev pub RunsTo : Spawns → List (List ℕ) → List Pair → Outcome → Type 0
RunsTo seen [] pairs result = ⊥
RunsTo seen (program ∷ words) pairs result =
    RunsWith (list_all has_text pairs) seen (run_for program words pairs) result

-- where memory ran out it was run once, or not at all
abbrev pub RunsAtMost : Spawns → List (List ℕ) → List Pair → Type 0
RunsAtMost seen [] pairs = ⊥
RunsAtMost seen (program ∷ words) pairs =
    RunsNone seen ⊎ ((done : Done) × RunsOnce seen (run_for program words pairs) done)

-- the same with the output dropped
abbrev pub dropped : Outcome → Outcome
dropped (outcome.Gave result) = outcome.Gave value.Nothing
dropped (outcome.Failed fault) = outcome.Failed fault

-- what comes of a program that undoes
abbrev pub UndoesTo : Spawns → Undo → List Pair → Outcome → Type 0
UndoesTo seen undo.Pass pairs result = ⊥
UndoesTo seen undo.Fail pairs result = ⊥
UndoesTo seen (undo.Run words) pairs result =
    (full : Outcome) × (RunsTo seen words pairs full) × (result ≡ dropped full)

-- where memory ran out it was run once, or not at all
abbrev pub UndoesAtMost : Spawns → Undo → List Pair → Type 0
UndoesAtMost seen undo.Pass pairs = ⊥
UndoesAtMost seen undo.Fail pairs = ⊥
UndoesAtMost seen (undo.Run words) pairs = RunsAtMost seen words pairs

-- what comes of an order for which a program is run
abbrev pub ObeysFor : Action → Spawns → Order → Given → Outcome → Type 0
ObeysFor action.Execute seen order (given.Found pairs) result = RunsTo seen order.words pairs result
ObeysFor action.Revert seen order (given.Found pairs) result = UndoesTo seen order.undo pairs result
ObeysFor how seen order (given.Missing symbol) result = ⊥

abbrev pub ObeysOrder : Spawns → Order → Outcome → Type 0
ObeysOrder seen order result = ObeysFor order.action seen order order.given result

-- where memory ran out, its program was run once, or not at all
abbrev pub RunsOutFor : Action → Spawns → Order → Given → Type 0
RunsOutFor action.Execute seen order (given.Found pairs) = RunsAtMost seen order.words pairs
RunsOutFor action.Revert seen order (given.Found pairs) = UndoesAtMost seen order.undo pairs
RunsOutFor how seen order (given.Missing symbol) = ⊥

abbrev pub RunsOutOnOrder : Spawns → Order → Type 0
RunsOutOnOrder seen order = RunsOutFor order.action seen order order.given
