-- What a run says last: its report, or nothing where the output failed or memory ran out before.
use Rattle.std.proofs.Common.{◌≡◌, ◌≢◌, ℕ, List, [], ◌++◌, Option, Some, None, refl, sym, ap, ◌∙◌, subst, arith}
use Rattle.tf_numbers.specs.Numbers.{Rises}
use Rattle.tf_desk.specs.Crash.{shown_with, ShowsPrefix}
use Rattle.tf_desk.specs.State.{DeskState}
use Rattle.tf_flow.specs.Plan.{PlanValue}
use Rattle.tf_states.specs.declared.record.Entry.{Entry}
use Rattle.tf_actions.specs.declared.orders.Order.{Order}
use Rattle.tf_actions.specs.declared.outcomes.Outcome.{Outcome}
use Rattle.tf_states.specs.declared.state.FlowState.{FlowState}
use Rattle.tf_states.specs.declared.state.FlowState.TheVariants as flow
use Rattle.tf_model.specs.History.{snapshot}
use Rattle.tf_model.specs.Plan.{outline_of}
use Rattle.tf_report.specs.Lines.{report}
use Rattle.tf_details.specs.Elements.{Contents}
use Rattle.tf_book.specs.Closed.{IsClosing}
use Rattle.tf_book.specs.SessionInvariant.{said, HasCause}
use Rattle.tf_book.specs.Faults.{IsHaltedBy, IsFault}
use Rattle.tf_book.specs.declared.faults.BookFault.{BookFault}
use Rattle.tf_book.specs.declared.faults.BookFault.TheVariants as fault
use Rattle.tf_book.specs.declared.faults.Halt.{Halt}
use Rattle.tf_book.specs.declared.faults.Halt.TheVariants as halt
use Rattle.tf_commands.specs.declared.running.Request.{Request}
use Rattle.tf_commands.specs.Books.{heading_of, stop_status, reported, RunShows, closed, stopped}
use Rattle.tf_commands.specs.Runs.{HasEnded}
use Rattle.tf_report.specs.Closing.{ClosesWith, said as was_said, cut}
use Rattle.tf_report.specs.declared.statuses.TheConstants.{UNSAID, OUT_OF_MEMORY, DISK_FAILED}

-- the status of a run whose report was to be said
abbrev pub StatusAfter : FlowState → Option Halt → ℕ → Type 0
StatusAfter last None status = status ≡ stop_status last
StatusAfter last (Some halt.Out) status = status ≡ UNSAID
StatusAfter last (Some halt.Memory) status = status ≡ OUT_OF_MEMORY
StatusAfter last (Some halt.Disk) status = ⊥
StatusAfter last (Some (halt.Full size need)) status = ⊥

-- what closes a run whose report was to be said: the report, unless memory ran out
abbrev pub ClosingFor : List ℕ → Option Halt → List ℕ → Type 0
ClosingFor report None closing = closing ≡ report
ClosingFor report (Some halt.Out) closing = closing ≡ report
ClosingFor report (Some halt.Memory) closing = closing ≡ []
ClosingFor report (Some halt.Disk) closing = ⊥
ClosingFor report (Some (halt.Full size need)) closing = ⊥

-- a report without a heading closed a run
report_closed : (gives : Order → Outcome → Type 0) (request : Request) (contents : Contents) (plan : PlanValue) (before entries : List Entry) (shown now : Option (List ℕ)) (last : FlowState) (status : ℕ) → heading_of request (outline_of plan) (entries ++ before) ≡ []
    → ClosesWith (shown_with shown (said request.quiet (outline_of plan) before entries)) (report (outline_of plan) (snapshot (outline_of plan) (entries ++ before))) (stop_status last) now status
    → RunShows gives request contents plan before entries shown now (Some last) (report (outline_of plan) (snapshot (outline_of plan) (entries ++ before))) status
report_closed gives request contents plan before entries shown now last status plain closes =
    let text = report (outline_of plan) (snapshot (outline_of plan) (entries ++ before)) in
    let same : heading_of request (outline_of plan) (entries ++ before) ++ text ≡ text = ap (λ (h : List ℕ). h ++ text) plain in
    subst (λ (c : List ℕ). RunShows gives request contents plan before entries shown now (Some last) c status) same
    (closed (heading_of request (outline_of plan) (entries ++ before) ++ text) (stop_status last) status (reported last)
    (subst (λ (m : List ℕ). ClosesWith (shown_with shown (said request.quiet (outline_of plan) before entries)) m (stop_status last) now status) (sym same) closes))

pub report_said : (gives : Order → Outcome → Type 0) (request : Request) (contents : Contents) (plan : PlanValue) (before entries : List Entry) (shown now : Option (List ℕ)) (closing : List ℕ) (last : FlowState) (status : ℕ) (halted : Option Halt)
    → heading_of request (outline_of plan) (entries ++ before) ≡ []
    → ClosingFor (report (outline_of plan) (snapshot (outline_of plan) (entries ++ before))) halted closing
    → IsClosing (shown_with shown (said request.quiet (outline_of plan) before entries)) closing halted now
    → StatusAfter last halted status → RunShows gives request contents plan before entries shown now (Some last) closing status
report_said gives request contents plan before entries shown now closing last status None plain closes text is =
    subst (λ (c : List ℕ). RunShows gives request contents plan before entries shown now (Some last) c status) (sym closes)
    (report_closed gives request contents plan before entries shown now last status plain
    (subst (λ (n : ℕ). ClosesWith (shown_with shown (said request.quiet (outline_of plan) before entries)) (report (outline_of plan) (snapshot (outline_of plan) (entries ++ before))) (stop_status last) now n) (sym is)
    (was_said (text ∙ ap (shown_with (shown_with shown (said request.quiet (outline_of plan) before entries))) closes))))
report_said gives request contents plan before entries shown now closing last status (Some halt.Out) plain closes text is =
    subst (λ (c : List ℕ). RunShows gives request contents plan before entries shown now (Some last) c status) (sym closes)
    (report_closed gives request contents plan before entries shown now last status plain
    (subst (λ (n : ℕ). ClosesWith (shown_with shown (said request.quiet (outline_of plan) before entries)) (report (outline_of plan) (snapshot (outline_of plan) (entries ++ before))) (stop_status last) now n) (sym is)
    (cut (subst (λ (c : List ℕ). ShowsPrefix (shown_with shown (said request.quiet (outline_of plan) before entries)) c now) closes text))))
report_said gives request contents plan before entries shown now closing last status (Some halt.Memory) plain closes text is =
    subst (λ (c : List ℕ). RunShows gives request contents plan before entries shown now (Some last) c status) (sym closes)
    (subst (λ (n : ℕ). RunShows gives request contents plan before entries shown now (Some last) [] n) (sym is) (stopped text))
report_said gives request contents plan before entries shown now closing last status (Some halt.Disk) plain closes text is = absurd text
report_said gives request contents plan before entries shown now closing last status (Some (halt.Full size need)) plain closes text is = absurd text

-- no state has the status of a fault
state_status : (last : FlowState) → (stop_status last ≢ UNSAID) × (stop_status last ≢ DISK_FAILED)
state_status flow.Pending = (λ is. absurd (cc), λ is. absurd (cc))
state_status flow.Running = (λ is. absurd (cc), λ is. absurd (cc))
state_status flow.Success = (λ is. absurd (cc), λ is. absurd (cc))
state_status flow.Failure = (λ is. absurd (cc), λ is. absurd (cc))
state_status flow.Reverted = (λ is. absurd (cc), λ is. absurd (cc))
state_status flow.Suspending = (λ is. absurd (cc), λ is. absurd (cc))
state_status flow.Suspended = (λ is. absurd (cc), λ is. absurd (cc))
state_status flow.Resuming = (λ is. absurd (cc), λ is. absurd (cc))

-- nor does a command that was closed with the status of a state
pub closed_sound : (last : FlowState) (wanted status : ℕ) → wanted ≡ stop_status last → (status ≢ UNSAID → status ≡ wanted) → status ≢ DISK_FAILED
closed_sound last wanted status same by is = (state_status last).1 (sym same ∙ sym (by (λ seven. omega (arith, is, seven))) ∙ is)

-- a report's status tells a fault only where there was one
reported_unsaid : (last : FlowState) (halted : Option Halt) (status : ℕ) (old now : DeskState) (held : Contents) (plan : PlanValue) (past : List Entry) (failed : Option Entry) → StatusAfter last halted status
    → HasCause held plan past old now failed halted → status ≡ UNSAID → Rises old.out_faults now.out_faults
reported_unsaid last None status old now held plan past failed is cause unsaid = absurd ((state_status last).0 (sym is ∙ unsaid))
reported_unsaid last (Some halt.Out) status old now held plan past failed is cause unsaid = cause
reported_unsaid last (Some halt.Memory) status old now held plan past failed is cause unsaid = absurd (cc)
reported_unsaid last (Some halt.Disk) status old now held plan past failed is cause unsaid = absurd is
reported_unsaid last (Some (halt.Full size need)) status old now held plan past failed is cause unsaid = absurd is

reported_sound : (last : FlowState) (halted : Option Halt) (status : ℕ) → StatusAfter last halted status → status ≢ DISK_FAILED
reported_sound last None status is failed = (state_status last).1 (sym is ∙ failed)
reported_sound last (Some halt.Out) status is failed = absurd (cc)
reported_sound last (Some halt.Memory) status is failed = absurd (cc)
reported_sound last (Some halt.Disk) status is failed = is
reported_sound last (Some (halt.Full size need)) status is failed = is

-- so what it tells of a fault has its cause
pub report_ended : (last : FlowState) (halted : Option Halt) (status : ℕ) (old now : DeskState) (held : Contents) (plan : PlanValue) (past : List Entry) (failed : Option Entry) → StatusAfter last halted status
    → HasCause held plan past old now failed halted → HasEnded old now status
report_ended last halted status old now held plan past failed is cause = record {
  unsaid = λ unsaid. reported_unsaid last halted status old now held plan past failed is cause unsaid;
  failed = λ damaged. absurd (reported_sound last halted status is damaged);
}

-- what a call that failed says of the halt
pub halted_out : (halted : Option Halt) → IsHaltedBy halted fault.Out → halted ≡ Some halt.Out
halted_out None by = absurd by
halted_out (Some halt.Out) by = refl
halted_out (Some halt.Disk) by = absurd (cc)
halted_out (Some halt.Memory) by = absurd (cc)
halted_out (Some (halt.Full size need)) by = absurd (cc)

pub halted_memory : (halted : Option Halt) → IsHaltedBy halted fault.Memory → halted ≡ Some halt.Memory
halted_memory None by = absurd by
halted_memory (Some halt.Memory) by = refl
halted_memory (Some halt.Disk) by = absurd (cc)
halted_memory (Some halt.Out) by = absurd (cc)
halted_memory (Some (halt.Full size need)) by = absurd (cc)

-- the same of a call's answer on a book that wasn't halted
pub fault_out : (before after : Option Halt) (answer : BookFault) → before ≡ None → answer ≡ fault.Out → IsFault before after answer → after ≡ Some halt.Out
fault_out before after answer sound is told =
    halted_out after (subst (λ (b : Option Halt). IsFault b after fault.Out) sound (subst (λ (f : BookFault). IsFault before after f) is told))

pub fault_memory : (before after : Option Halt) (answer : BookFault) → before ≡ None → answer ≡ fault.Memory → IsFault before after answer → after ≡ Some halt.Memory
fault_memory before after answer sound is told =
    halted_memory after (subst (λ (b : Option Halt). IsFault b after fault.Memory) sound (subst (λ (f : BookFault). IsFault before after f) is told))

-- the closing and the status by how the book stands after the report
pub closing_said : (text : List ℕ) (halted : Option Halt) → halted ≡ None → ClosingFor text halted text
closing_said text halted is = subst (λ (h : Option Halt). ClosingFor text h text) (sym is) refl

pub closing_cut : (text : List ℕ) (halted : Option Halt) → halted ≡ Some halt.Out → ClosingFor text halted text
closing_cut text halted is = subst (λ (h : Option Halt). ClosingFor text h text) (sym is) refl

pub closing_left : (text : List ℕ) (halted : Option Halt) → halted ≡ Some halt.Memory → ClosingFor text halted []
closing_left text halted is = subst (λ (h : Option Halt). ClosingFor text h []) (sym is) refl

pub status_said : (last : FlowState) (halted : Option Halt) (status : ℕ) → halted ≡ None → status ≡ stop_status last → StatusAfter last halted status
status_said last halted status is told = subst (λ (h : Option Halt). StatusAfter last h status) (sym is) told

pub status_cut : (last : FlowState) (halted : Option Halt) → halted ≡ Some halt.Out → StatusAfter last halted UNSAID
status_cut last halted is = subst (λ (h : Option Halt). StatusAfter last h UNSAID) (sym is) refl

pub status_left : (last : FlowState) (halted : Option Halt) → halted ≡ Some halt.Memory → StatusAfter last halted OUT_OF_MEMORY
status_left last halted is = subst (λ (h : Option Halt). StatusAfter last h OUT_OF_MEMORY) (sym is) refl
