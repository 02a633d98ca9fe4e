-- What an audit finds in a log.
use Rattle.std.specs.Prelude.{ℕ, List, [], ◌∷◌, Bool, not, ◌||◌, ◌==◌, if◌then◌else◌, codes, nat_eq, ◌≡◌, ◌<◌, ◌^◌, length, Option, Some, None, ◌≢◌, ◌+◌, ◌++◌, filter, true, false}
use Rattle.std.specs.List.{list_all, starts_with, concat, AllByRecursion}
use Rattle.tf_states.specs.declared.record.Entry.{Entry}
use Rattle.tf_states.specs.declared.record.What.{What}
use Rattle.tf_entries.specs.Entries.{IsEntry}
use Rattle.tf_model.specs.Plan.{Outline, count, atom_name}
use Rattle.tf_report.specs.Lines.{line, lines, flow_word, what_text}
use Rattle.tf_audit.specs.declared.entries.Numbered.{Numbered}
use Rattle.tf_states.specs.declared.state.FlowState.{FlowState}
use Rattle.tf_actions.specs.Gives.{GivesFar}
use Rattle.tf_model.specs.Forced.{choice, forced}
use Rattle.tf_model.specs.History.{snapshot, flow_of, Snapshot}
use Rattle.tf_model.specs.Scope.{IsGiven, HasOutcomes}
use Rattle.tf_model.specs.Steps.{Step, LegalPast}
use Rattle.tf_hands.specs.Hands.{start_entry, action_in}
use Rattle.tf_audit.specs.declared.verdicts.Verdict.{Verdict}
use Rattle.tf_audit.specs.declared.verdicts.Verdict.TheVariants as verdict
use Rattle.tf_audit.specs.declared.verdicts.Why.{Why}
use Rattle.tf_audit.specs.declared.verdicts.Why.TheVariants as why
use Rattle.std.specs.Fmt.{decimal}

-- ---- the lines of a log

-- the first of the lines with a byte before it; before no line the byte is none's
abbrev pub begun_with : ℕ → List (List ℕ) → List (List ℕ)
begun_with byte [] = []
begun_with byte (first ∷ others) = (byte ∷ first) ∷ others

-- the lines of a log, each with its line feed; what stands behind the last line feed is no line
abbrev pub log_lines : List ℕ → List (List ℕ)
log_lines [] = []
log_lines (byte ∷ bytes) = if byte == 10 then (byte ∷ []) ∷ log_lines bytes else begun_with byte (log_lines bytes)

-- bytes without a line feed
abbrev pub is_unfed : List ℕ → Bool
is_unfed bytes = list_all (λ byte. not (byte == 10)) bytes

-- a line of a report or of a table, which is no entry's
abbrev pub is_passed_over : List ℕ → Bool
is_passed_over text =
    starts_with nat_eq text (codes "end ") || starts_with nat_eq text (codes "unreverted ")
    || starts_with nat_eq text (codes "state ") || starts_with nat_eq text (codes "atom ")

-- every other line is examined
abbrev pub is_examined : List ℕ → Bool
is_examined text = not (is_passed_over text)

-- ---- which entry a line says

-- an entry of the plan: its hand, its atom or flow and its payload are within the limits
abbrev pub IsPlanEntry : Outline → Entry → Type 0
IsPlanEntry plan e = IsEntry (count plan) (length plan.flows) e

-- the text is the line of an entry of the plan, with this number
pub record IsLineOf (plan : Outline) (number : ℕ) (e : Entry) (text : List ℕ) : Type 0 where
  pub fits : number < 2 ^ 64
  pub entry : IsPlanEntry plan e
  pub printed : text ≡ line plan number e

-- no entry of the plan has this line
abbrev pub IsUnreadable : Outline → List ℕ → Type 0
IsUnreadable plan text = (number : ℕ) (e : Entry) → ¬ (IsLineOf plan number e text)

-- what a line says: an entry with its number, and nothing where no entry has this line
abbrev pub IsReading : Outline → List ℕ → Option Numbered → Type 0
IsReading plan text None = IsUnreadable plan text
IsReading plan text (Some read) = IsLineOf plan read.number read.entry text

-- an entry with its number, where the number, the hand and what was recorded are there
abbrev pub numbered_with : Option ℕ → Option ℕ → Option What → Option Numbered
numbered_with None hand what = None
numbered_with (Some number) None what = None
numbered_with (Some number) (Some hand) None = None
numbered_with (Some number) (Some hand) (Some what) =
    Some (record { number = number; entry = record { hand = hand; what = what } })

-- ---- what an audit finds

-- the lines that are examined are the printed lines of this history, which is legal, and in which each end of a task
-- carries an outcome that the order of its start may have, wherever the hand is
pub record AreOfRun (plan : Outline) (texts : List (List ℕ)) (past : List Entry) : Type 0 where
  pub printed : concat (filter is_examined texts) ≡ lines plan past
  pub entries : AllByRecursion (IsPlanEntry plan) past
  pub legal : LegalPast plan past
  pub given : HasOutcomes GivesFar plan past

-- what should stand in the place of an entry that may not follow: what is forced; else the first candidate; else there
-- is neither
abbrev pub IsExpected : Outline → Snapshot → Why → Type 0
IsExpected plan s (why.Forced w) = forced plan s ≡ Some w
IsExpected plan s (why.First start) =
    (choice plan s ≡ Some (start_entry start)) × (start.action ≡ action_in (s.state start.atom))
IsExpected plan s why.NoStep = (forced plan s ≡ None) × (choice plan s ≡ None)
IsExpected plan s other = ⊥

-- why an entry can't stand after a history: it may not follow, and what should; or it ends a task with an outcome that
-- the order of the task's start can't have
abbrev pub MayNot : Outline → List Entry → Entry → Why → Type 0
MayNot plan past e why.Unreadable = ⊥
MayNot plan past e why.Number = ⊥
MayNot plan past e why.Value = Step plan (snapshot plan past) e × ¬ (IsGiven GivesFar plan past e.what)
MayNot plan past e other = ¬ (Step plan (snapshot plan past) e) × IsExpected plan (snapshot plan past) other

-- why a line can't be after a history: no entry has it; its number isn't the next; or its entry can't stand there
abbrev pub IsFaulty : Outline → List Entry → List ℕ → Why → Type 0
IsFaulty plan past text why.Unreadable = IsUnreadable plan text
IsFaulty plan past text why.Number =
    (number : ℕ) × (e : Entry) × IsLineOf plan number e text × (number ≢ length past + 1)
IsFaulty plan past text other = (e : Entry) × IsLineOf plan (length past + 1) e text × MayNot plan past e other

-- a log is that of a legal run, with so many entries and the flow in that state at its end
pub record IsLegalLog (plan : Outline) (log : List ℕ) (entries : ℕ) (state : FlowState) : Type 0 where
  pub past : List Entry
  pub run : AreOfRun plan (log_lines log) past
  pub as_many : entries ≡ length past
  pub stands : state ≡ flow_of past

-- the line of this number, counted from 1 among all lines, is the first that can't be
pub record IsBadLog (plan : Outline) (log : List ℕ) (number : ℕ) (because : Why) : Type 0 where
  pub before : List (List ℕ)
  pub text : List ℕ
  pub behind : List (List ℕ)
  pub lines : log_lines log ≡ before ++ text ∷ behind
  pub numbered : number ≡ length before + 1
  pub past : List Entry
  pub run : AreOfRun plan before past
  pub examined : is_examined text ≡ true
  pub faulty : IsFaulty plan past text because

-- the verdict on a log
abbrev pub IsVerdict : Outline → List ℕ → Verdict → Type 0
IsVerdict plan log (verdict.Legal entries state) = IsLegalLog plan log entries state
IsVerdict plan log (verdict.Bad number because) = IsBadLog plan log number because

-- ---- what is said of a verdict

-- a task is taken up for the first time, or again
abbrev pub start_word : Bool → List ℕ
start_word true = codes "restart "
start_word false = codes "start "

-- why a line can't be, and what should stand there
abbrev pub why_text : Outline → Why → List ℕ
why_text plan why.Unreadable = codes "unreadable"
why_text plan why.Number = codes "number"
why_text plan (why.Forced w) = codes "expected " ++ what_text plan w
why_text plan (why.First start) = codes "expected " ++ start_word start.restart ++ atom_name plan start.atom
why_text plan why.NoStep = codes "no step"
why_text plan why.Value = codes "value"

-- the text of a verdict
unfoldable pub verdict_text : Outline → Verdict → List ℕ
verdict_text plan (verdict.Legal entries state) =
    codes "legal " ++ decimal entries ++ codes " entries, " ++ flow_word state ++ 10 ∷ []
verdict_text plan (verdict.Bad line because) =
    codes "taskflow: audit line " ++ decimal line ++ codes ": " ++ why_text plan because ++ 10 ∷ []
