-- The eight cases in which an entry is forced.
use Rattle.std.specs.Prelude.{◌≡◌, ℕ, ◌<◌, List, [], ◌∷◌, Bool, true, false, Option, Some, None, get_or, nat_lt, ◌&&◌, if◌then◌else◌}
use Rattle.std.specs.Option.{option_or}
use Rattle.tf_states.specs.declared.record.What.{What}
use Rattle.tf_machine.specs.declared.cases.Case.{Case}
use Rattle.tf_machine.specs.declared.cases.Case.TheVariants as case
use Rattle.tf_machine.specs.declared.cases.Forcing.{Forcing}
use Rattle.tf_machine.specs.declared.cases.Placed.{Placed}
use Rattle.tf_model.specs.Plan.{Outline, is_retry, own_flow}
use Rattle.tf_model.specs.History.{is_success, Snapshot}
use Rattle.tf_model.specs.Forced as rule

-- the case applies to atom a
abbrev pub applies : Outline → Snapshot → Case → ℕ → Bool
applies plan s case.Attempt a = rule.is_attempting plan s a
applies plan s case.Again a = rule.is_beginning_again plan s a
applies plan s case.Reverted a = rule.is_undone_retry plan s a
applies plan s case.Resolution a = rule.is_unresolved s a
applies plan s case.Retrying a = rule.is_to_begin_again plan s a
applies plan s case.Revert a = rule.is_retry_to_revert plan s a
applies plan s case.Ignore a = rule.is_refused plan s a
applies plan s case.Run a = rule.is_retry_to_run plan s a

-- a is a retry controller in SUCCESS, and a resolve of its own flow is to run it again
abbrev pub is_asked_again : Outline → Snapshot → ℕ → Bool
is_asked_again plan s a =
    (is_retry plan a && is_success (s.state a)) && rule.is_marked_again (own_flow plan a) (s.mark a)

-- the entry of the case for atom a
abbrev pub entry_in : Outline → Snapshot → Case → ℕ → What
entry_in plan s case.Attempt a = rule.attempt_entry plan s a
entry_in plan s case.Again a = rule.again_entry plan s a
entry_in plan s case.Reverted a = rule.reverted_entry a
entry_in plan s case.Resolution a = rule.resolution_entry plan s a
entry_in plan s case.Retrying a = rule.retrying_entry a
entry_in plan s case.Revert a = rule.reverting_entry a
entry_in plan s case.Ignore a = rule.ignore_entry plan s a
entry_in plan s case.Run a = rule.running_entry a

-- the cases in their order
abbrev pub cases : List Case
cases =
    case.Attempt ∷ case.Again ∷ case.Reverted ∷ case.Resolution
    ∷ case.Retrying ∷ case.Revert ∷ case.Ignore ∷ case.Run
    ∷ []

-- the case at a place in this order
abbrev pub case_of : ℕ → Case
case_of k = get_or cases k case.Attempt

-- the place of the first case that applies to atom a, where one does
abbrev pub IsCaseAt : Outline → Snapshot → ℕ → Option ℕ → Type 0
IsCaseAt plan s a None = (j : ℕ) → j < 8 → applies plan s (case_of j) a ≡ false
IsCaseAt plan s a (Some k) =
    (k < 8) × (applies plan s (case_of k) a ≡ true) × ((j : ℕ) → j < k → applies plan s (case_of j) a ≡ false)

-- what was found before, or a case of atom a at an earlier place
abbrev pub sooner : Option Placed → Option ℕ → ℕ → Option Placed
sooner None None a = None
sooner (Some found) None a = Some found
sooner None (Some k) a = Some (record { place = k; atom = a })
sooner (Some found) (Some k) a = if nat_lt k found.place then Some (record { place = k; atom = a }) else Some found

-- the entry of the first of some cases that applies, for the first atom to which it does
abbrev pub entry_among : Outline → Snapshot → List Case → Option What
entry_among plan s [] = None
entry_among plan s (first ∷ others) =
    option_or (rule.first_entry plan (applies plan s first) (entry_in plan s first)) (entry_among plan s others)

-- the entry of a case that was found, with its atom
abbrev pub entry_of : Outline → Snapshot → Forcing → What
entry_of plan s found = entry_in plan s found.case found.atom
