-- What a book is, what its file holds, and where it is refused.
use Rattle.std.specs.Prelude.{List, ℕ, Bool, Option, ◌≡◌, ◌<◌, ◌+◌, [], ◌∷◌, length, None}
use Rattle.tf_states.specs.declared.record.Entry.{Entry}
use Rattle.tf_flow.specs.Plan.{PlanValue}
use Rattle.tf_states.specs.declared.state.FlowState.{FlowState}
use Rattle.tf_details.specs.Elements.{entry, element_bytes, bodies_of, book_size, CannotFollow, Element, detail, details, history, detail_name, number_among, IsHistoryOf, Contents, with_entries}
use Rattle.tf_journal.specs.Format.{Held, Recovered, SIZE_LIMIT}
use Rattle.tf_journal.specs.declared.faults.LoadFault.{LoadFault}
use Rattle.tf_journal.specs.declared.title.Title.TheVariants.{Book2 as book_title}
use Rattle.tf_model.specs.History.{flow_of, snapshot, Snapshot}
use Rattle.tf_model.specs.Plan.{Outline, outline_of}
use Rattle.tf_book.specs.declared.faults.Halt.{Halt}
use Rattle.tf_records.specs.Refusing.{IsMalformed, RefusesMalformed}
use Rattle.tf_book.specs.declared.shelf.Detail.{Detail}

-- ---- what a book is, and what its file holds

-- a book: its plan, its history with the newest entry first, what its file holds with the number of its plan's detail
-- there, its journal with its desk, whether it says no lines, why it was halted, if it was, the entry that couldn't be
-- recorded last, if there was one, and the length of the history from which on its session is to be suspended, if it
-- has a limit
pub record BookValue (K : Type 0) : Type 0 where
  pub plan : PlanValue
  pub past : List Entry
  pub contents : Contents
  pub journal : Held K
  pub quiet : Bool
  pub halt : Option Halt
  pub failed : Option Entry
  pub limit : Option ℕ

-- the outline of its plan
abbrev pub outline : {K : Type 0} → BookValue K → Outline
outline b = outline_of b.plan

-- what the rules read of its history
abbrev pub moment : {K : Type 0} → BookValue K → Snapshot
moment b = snapshot (outline_of b.plan) b.past

-- the state of its flow
abbrev pub flow_state : {K : Type 0} → BookValue K → FlowState
flow_state b = flow_of b.past

-- the body of an entry of the detail of that number
abbrev pub entry_body : ℕ → Entry → List ℕ
entry_body number e = element_bytes (entry number e)

-- the bodies of what a file holds, with these entries of its detail behind it
abbrev pub bodies_with : Contents → List Entry → List (List ℕ)
bodies_with contents entries = bodies_of (with_entries contents entries).elements

-- the size of a journal of what a file holds
abbrev pub size_of : Contents → ℕ
size_of contents = book_size contents.elements

-- ---- where a book's file is refused

-- the file is no book: it is no journal of that title, or one of its bodies can't come
abbrev pub IsNoBook : Recovered → ℕ → Option ℕ → Type 0
IsNoBook file offset byte = IsMalformed book_title CannotFollow file offset byte

-- a file was refused for what it is; a fault of the disk and want of memory say nothing of it
abbrev pub RefusesBook : LoadFault → Recovered → Type 0
RefusesBook fault file = RefusesMalformed book_title CannotFollow fault file

-- ---- the details of a book, and one more

-- the details of a book, by the names and the states of their flows
abbrev pub listed_from : List Element → ℕ → List PlanValue → List Detail
listed_from elements number [] = []
listed_from elements number (plan ∷ plans) =
    record { name = detail_name plan; state = flow_of (history number elements) }
    ∷ listed_from elements (number + 1) plans

abbrev pub listed : List Element → List Detail
listed elements = listed_from elements 0 (details elements)

-- the elements with a detail of the plan behind them
abbrev pub with_detail : List Element → PlanValue → List Element
with_detail elements plan = detail plan ∷ elements

-- what the file holds then, of which the new detail is meant
abbrev pub begun_contents : List Element → PlanValue → Contents
begun_contents elements plan = record { number = length (details elements); elements = with_detail elements plan }

-- the body of a new detail
abbrev pub detail_body : PlanValue → List ℕ
detail_body plan = element_bytes (detail plan)

-- a detail of the plan may begin behind the elements: there are fewer than 64, and none has its name
pub record HasPlaceFor (elements : List Element) (plan : PlanValue) : Type 0 where
  pub few : length (details elements) < 64
  pub unnamed : number_among (details elements) (detail_name plan) ≡ None

-- the record of the new detail would have made the journal longer than its limit
pub record IsFullToBegin (elements : List Element) (plan : PlanValue) (size need : ℕ) : Type 0 where
  pub history : IsHistoryOf plan []
  pub size_is : size ≡ book_size elements
  pub need_is : need ≡ 5 + length (detail_body plan)
  pub over : SIZE_LIMIT < size + need
