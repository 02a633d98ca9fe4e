-- A book of several flows: which elements it may hold, the bodies that they have in its file, and which body can't come
-- next.
use Rattle.std.specs.Prelude.{◌≡◌, ◌≢◌, ◌<◌, ◌≤◌, ◌+◌, ◌^◌, ℕ, List, [], ◌∷◌, ◌++◌, length, Bool, Option, None, Some, nat_eq, if◌then◌else◌, position, slice_get, map}
use Rattle.std.specs.List.{AllByRecursion}
use Rattle.tf_states.specs.declared.record.Entry.{Entry}
use Rattle.tf_flow.specs.Plan.{PlanValue}
use Rattle.tf_flow.specs.Plan as numbering
use Rattle.tf_flow.specs.Rules.{first_refusal}
use Rattle.tf_flow.specs.Tree.{same_name}
use Rattle.tf_model.specs.History.{snapshot}
use Rattle.tf_model.specs.Plan.{outline_of, compile_refusal}
use Rattle.tf_model.specs.Scope.{missing_symbol}
use Rattle.tf_model.specs.Steps.{Step, LegalPast}
use Rattle.tf_entries.specs.Entries.{HasItsPayload, entry_bytes, IsEntry}
use Rattle.tf_entries.specs.Heads.{head_bytes, BeginsWith}
use Rattle.tf_entries.specs.declared.heads.Head.{Head}
use Rattle.tf_entries.specs.declared.heads.Head.TheVariants as head
use Rattle.tf_entries.specs.Plans.{plan_bytes, IsPlan, KeepsLimits}

-- ---- plans and entries with a form that a book can read again

-- the hand is below 64, and the payload is within its limits and the one that the state names
abbrev pub IsForm : Entry → Type 0
IsForm e = (e.hand < 64) × HasItsPayload e.what

-- the same of all entries
abbrev pub AreForms : List Entry → Type 0
AreForms entries = AllByRecursion IsForm entries

-- a plan within every limit and rule
abbrev pub IsAcceptedPlan : PlanValue → Type 0
IsAcceptedPlan plan = first_refusal plan.root plan.store ≡ None

-- a plan that can run: it compiles and lacks no symbol
abbrev pub CanRun : PlanValue → Type 0
CanRun plan = (compile_refusal plan ≡ None) × (missing_symbol (outline_of plan) ≡ None)

-- a history that a book may hold: its plan is within every limit and rule, has a form that can be read again, and can
-- run; and each entry has such a form, and may follow those before it
pub record IsHistoryOf (plan : PlanValue) (past : List Entry) : Type 0 where
  pub accepted : IsAcceptedPlan plan
  pub limits : IsPlan plan
  pub runs : CanRun plan
  pub legal : LegalPast (outline_of plan) past
  pub forms : AreForms past

-- an entry of the plan: its numbers are in the plan's range
abbrev pub IsEntryOf : PlanValue → Entry → Type 0
IsEntryOf plan e = IsEntry (length (numbering.atoms plan)) (length (numbering.flows plan)) e

-- the same of all entries
abbrev pub AreEntriesOf : PlanValue → List Entry → Type 0
AreEntriesOf plan entries = AllByRecursion (IsEntryOf plan) entries

-- the body is no plan's form, or that of a plan that can't run
pub data IsNoPlan (body : List ℕ) : Type 0 where
  no_form : ((plan : PlanValue) → IsAcceptedPlan plan → KeepsLimits plan → plan_bytes plan ≢ body) → IsNoPlan body
  no_run : (plan : PlanValue) → IsAcceptedPlan plan → IsPlan plan → plan_bytes plan ≡ body → ¬ (CanRun plan)
      → IsNoPlan body

-- no entry of the plan that may follow the history has this form
abbrev pub IsNoStep : PlanValue → List Entry → List ℕ → Type 0
IsNoStep plan past body =
    (e : Entry) → IsEntryOf plan e → Step (outline_of plan) (snapshot (outline_of plan) past) e → entry_bytes e ≢ body

-- ---- elements, and what a list of them tells; lists are written with the newest element first, as histories are

-- the plan of a new detail, or an entry of the detail with that number; details are numbered from 0
pub data Element : Type 0 where
  detail : PlanValue → Element
  entry : ℕ → Entry → Element

-- the plans of the details, in the order of their numbers
abbrev pub details : List Element → List PlanValue
details [] = []
details (detail plan ∷ before) = details before ++ plan ∷ []
details (entry number e ∷ before) = details before

-- the plan of the detail with that number
abbrev pub plan_of : List Element → ℕ → Option PlanValue
plan_of book number = slice_get (details book) number

-- the history of the detail with that number
abbrev pub history : ℕ → List Element → List Entry
history number [] = []
history number (detail plan ∷ before) = history number before
history number (entry its e ∷ before) = if nat_eq its number then e ∷ history number before else history number before

-- a detail is named as the root flow of its plan is
abbrev pub detail_name : PlanValue → List ℕ
detail_name plan = plan.root.name

abbrev pub has_name : List ℕ → PlanValue → Bool
has_name name plan = same_name (detail_name plan) name

-- the number of the first plan with that name
abbrev pub number_among : List PlanValue → List ℕ → Option ℕ
number_among plans name = position (has_name name) plans

-- ---- the bodies of a book's file

-- a head, and the form of the plan or of the entry
abbrev pub element_bytes : Element → List ℕ
element_bytes (detail plan) = head_bytes head.Detail ++ plan_bytes plan
element_bytes (entry number e) = head_bytes (head.Entry number) ++ entry_bytes e

-- the bodies of a book, the oldest first
abbrev pub bodies_of : List Element → List (List ℕ)
bodies_of [] = []
bodies_of (element ∷ before) = bodies_of before ++ element_bytes element ∷ []

-- the size of a journal of them: a gate and a length before each body, and the title and two gates besides
abbrev pub book_size : List Element → ℕ
book_size [] = 18
book_size (element ∷ before) = book_size before + 5 + length (element_bytes element)

-- ---- which elements may stand after others

-- a new detail: its plan is within every limit and rule, has a form that can be read again, and can run; there are
-- fewer than 64 details, and none of them has its name
pub record MayBegin (before : List Element) (plan : PlanValue) : Type 0 where
  pub accepted : IsAcceptedPlan plan
  pub limits : IsPlan plan
  pub runs : CanRun plan
  pub few : length (details before) < 64
  pub unnamed : number_among (details before) (detail_name plan) ≡ None

-- an entry: there is a detail of its number, of whose plan it may follow the history, and it has a form that can be
-- read again
pub record MayFollow (before : List Element) (number : ℕ) (e : Entry) : Type 0 where
  pub plan : PlanValue
  pub of_detail : plan_of before number ≡ Some plan
  pub step : Step (outline_of plan) (snapshot (outline_of plan) (history number before)) e
  pub form : IsForm e

abbrev pub MayStand : List Element → Element → Type 0
MayStand before (detail plan) = MayBegin before plan
MayStand before (entry number e) = MayFollow before number e

-- a legal book: each element may stand after those before it
abbrev pub IsLegalBook : List Element → Type 0
IsLegalBook [] = Unit {0}
IsLegalBook (element ∷ before) = MayStand before element × IsLegalBook before

-- ---- which bodies can't come next

-- the form is that of no detail that may begin: of no plan that can run, or there are 64 details, or one of them has
-- its name
pub data IsNoDetail (before : List Element) (form : List ℕ) : Type 0 where
  no_plan : IsNoPlan form → IsNoDetail before form
  too_many : 64 ≤ length (details before) → IsNoDetail before form
  name_taken : (plan : PlanValue) → IsAcceptedPlan plan → IsPlan plan → plan_bytes plan ≡ form
      → number_among (details before) (detail_name plan) ≢ None → IsNoDetail before form

-- the form is that of no entry of this number that may follow: there is no such detail, or the entry may not follow its
-- history
pub data IsNoEntry (before : List Element) (number : ℕ) (form : List ℕ) : Type 0 where
  no_detail : plan_of before number ≡ None → IsNoEntry before number form
  no_step : (plan : PlanValue) → plan_of before number ≡ Some plan → IsNoStep plan (history number before) form
      → IsNoEntry before number form

-- the body is that of no element that may stand: it begins with no head, or what stands behind its head is no such
-- detail or entry
pub data IsNoElement (before : List Element) (body : List ℕ) : Type 0 where
  no_head : ((first : Head) → BeginsWith body first → ⊥) → IsNoElement before body
  bad_detail : (form : List ℕ) → body ≡ head_bytes head.Detail ++ form → IsNoDetail before form
      → IsNoElement before body
  bad_entry : (number : ℕ) (form : List ℕ) → number < 2 ^ 16 → body ≡ head_bytes (head.Entry number) ++ form
      → IsNoEntry before number form → IsNoElement before body

-- the body can't come after these: they are those of a legal book, and it is that of no element that may stand next
pub record CannotFollow (before : List (List ℕ)) (body : List ℕ) : Type 0 where
  pub book : List Element
  pub legal : IsLegalBook book
  pub bodies_are : before ≡ bodies_of book
  pub cannot : IsNoElement book body

-- ---- what a file holds, of which one detail is meant

-- the elements, the newest first, and the number of the detail that is meant
pub record Contents : Type 0 where
  pub number : ℕ
  pub elements : List Element

-- the same with these entries of the detail behind them, the newest first
abbrev pub with_entries : Contents → List Entry → Contents
with_entries contents entries = record contents { elements = map (entry contents.number) entries ++ contents.elements }

-- the history of the detail
abbrev pub past_of : Contents → List Entry
past_of contents = history contents.number contents.elements

-- the elements are a legal book, in which the detail has this plan
pub record IsContents (plan : PlanValue) (contents : Contents) : Type 0 where
  pub legal : IsLegalBook contents.elements
  pub of_detail : plan_of contents.elements contents.number ≡ Some plan
