-- What becomes of a command on a book, put together from how the book was opened and what came then.
use Rattle.std.proofs.Common.{◌≡◌, ◌⊎◌, ℕ, List, Option, Some, refl, ◌∙◌, subst, inl, inr}
use Rattle.std.specs.Prelude.{IsTrue}
use Rattle.tf_desk.specs.ActLaws.{bytes_of-picked}
use Rattle.tf_desk.specs.State.{DeskState, bytes_now}
use Rattle.tf_flow.specs.Plan.{PlanValue, plan_tree}
use Rattle.tf_journal.specs.Start.{Untouched, Open, file_of}
use Rattle.tf_actions.specs.declared.orders.Order.{Order}
use Rattle.tf_actions.specs.declared.outcomes.Outcome.{Outcome}
use Rattle.tf_details.specs.Elements.{Element, details, history, detail_name, number_among, CanRun}
use Rattle.tf_book.specs.Book.{BookValue, HasPlaceFor}
use Rattle.tf_states.specs.declared.state.FlowState.{FlowState}
use Rattle.tf_model.specs.History.{flow_of}
use Rattle.tf_commands.specs.Begun.{IsNamedState}
use Rattle.tf_commands.specs.Messages.{state_forbids}
use Rattle.tf_commands.specs.Books.{Hires, IsFile, IsBookOf, Refuses, RefusesOrStops, exhausted, Unhired, exhausted_hire, unhired, RunsAnew, Runs, unopened, forbidden, unhired_run, hired_run, Resumes, unhired_again, resumed}
use Rattle.tf_report.specs.Closing.{cannot_hire}
use Rattle.tf_commands.specs.declared.running.Request.{Request}
use Rattle.tf_commands.specs.Runs.{HoldsBook, GoesFurther, nobody, went_on}
use Rattle.tf_report.specs.declared.statuses.TheConstants.{FORBIDDEN, UNHIRED}
use Rattle.tf_ports.specs.Ports.{CrewTold}

-- an equal desk is untouched too
pub untouched_by : {K : Type 0} (state : K → DeskState) {name : List ℕ} {entry : DeskState} (now other : K) → now ≡ other → Untouched name entry (state now) → Untouched name entry (state other)
untouched_by {K} state {name} {entry} now other same untouched = subst (λ (desk : K). Untouched name entry (state desk)) same untouched

-- the bytes of a book that was opened are those of the file at entry
pub opened_bytes : {name : List ℕ} {entry now : DeskState} → Open name entry now → IsTrue now.tells → bytes_now now ≡ file_of entry name
opened_bytes {name} {entry} {now} opened told =
    let told_entry : IsTrue entry.tells = subst IsTrue opened.untouched.told told in
    bytes_of-picked now.content name (opened.set told_entry).picked ∙ opened.untouched.file told_entry

-- a run went on as a new detail, or nobody was hired
pub begun_over : {gives : Order → Outcome → Type 0} {request : Request} {asked : Type 0} {name : List ℕ} {crew crew_after : CrewTold} {entry now : DeskState} {status : ℕ} (elements : List Element) (plan : PlanValue)
    → IsFile name entry (IsBookOf elements) → HasPlaceFor elements plan
    → Unhired name entry now crew crew_after status ⊎ (Hires request.want crew crew_after × RunsAnew gives request asked crew_after.back name elements plan entry now status)
    → Runs gives request asked name crew crew_after entry now (plan_tree plan) status
begun_over elements plan is has (inl none) = unhired_run elements plan refl is has none
begun_over elements plan is has (inr begun) = hired_run elements plan refl is has begun.0 begun.1

-- a detail of that name forbids a run, or memory ran out
pub named_over : {gives : Order → Outcome → Type 0} {request : Request} {asked : Type 0} {name : List ℕ} {crew : CrewTold} {entry now : DeskState} {status : ℕ} (elements : List Element) (plan : PlanValue) (named : List ℕ) (at : FlowState)
    → named ≡ detail_name plan → IsNamedState elements named (Some at) → IsFile name entry (IsBookOf elements)
    → RefusesOrStops name entry now (state_forbids named at) FORBIDDEN status
    → Runs gives request asked name crew crew entry now (plan_tree plan) status
named_over elements plan named at named_is has is (inl stops) = unopened refl (exhausted stops)
named_over {name = name} {entry = entry} {now} {status} elements plan named at named_is has is (inr refuses) =
    forbidden elements plan has.0 refl refl is (subst (λ (n : List ℕ). number_among (details elements) n ≡ Some has.0) named_is has.1)
    (subst (λ (n : List ℕ). Refuses name entry now (state_forbids n (flow_of (history has.0 elements))) FORBIDDEN status) named_is
    (subst (λ (f : FlowState). Refuses name entry now (state_forbids named f) FORBIDDEN status) has.2 refuses))

-- nobody was hired: it was said, or memory ran out
pub unhired_so : {name : List ℕ} {entry now : DeskState} {crew crew_after : CrewTold} {status : ℕ} → crew_after ≡ crew
    → RefusesOrStops name entry now cannot_hire UNHIRED status → Unhired name entry now crew crew_after status
unhired_so same (inl stops) = exhausted_hire same stops
unhired_so same (inr refuses) = unhired same refuses

-- a book that was opened went on
pub resumed_over : {K : Type 0} {gives : Order → Outcome → Type 0} {request : Request} {asked : Type 0} {name : List ℕ} {wanted : Option (List ℕ)} {crew crew_after : CrewTold} {entry now : DeskState} {status : ℕ}
    (book : BookValue K) → CanRun book.plan → HoldsBook name wanted entry book
    → GoesFurther gives request asked name entry book crew crew_after now status
    → Resumes gives request asked name wanted crew crew_after entry now status
resumed_over book can is (nobody going none) = unhired_again book.contents book.plan book.past is going none
resumed_over book can is (went_on back how promised) = resumed book.contents book.plan book.past can is back how promised
