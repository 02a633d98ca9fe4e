-- What a run promises, put together from what the book keeps and what was said last.
use Rattle.std.proofs.Common.{◌≡◌, ◌≢◌, ℕ, List, [], ◌∷◌, ◌++◌, Bool, false, Option, Some, None, refl, sym, ap, ◌∙◌, subst, inl, inr, arith}
use Rattle.std.proofs.lemmas.List.{append_cancel_right}
use Rattle.tf_desk.proofs.StateLemmas.{continues_on, says_continues, extends_told}
use Rattle.tf_numbers.specs.Numbers.{Rises}
use Rattle.tf_desk.specs.Crash.{shown_with}
use Rattle.tf_desk.specs.State.{DeskState, Says, passes_within}
use Rattle.tf_flow.specs.Plan.{PlanValue}
use Rattle.tf_states.specs.declared.record.Entry.{Entry}
use Rattle.tf_states.specs.declared.state.FlowState.{FlowState}
use Rattle.tf_states.specs.declared.state.FlowState.TheVariants as flow
use Rattle.tf_ports.specs.Ports.{wanted as number_of}
use Rattle.tf_actions.specs.declared.orders.Order.{Order}
use Rattle.tf_actions.specs.declared.outcomes.Outcome.{Outcome}
use Rattle.tf_model.proofs.HistoryLemmas.{session_legal, session_state}
use Rattle.tf_model.specs.Plan.{compile_refusal, Outline, outline_of}
use Rattle.tf_model.specs.History.{snapshot}
use Rattle.tf_model.specs.Steps.{Session, entered, flow_entry}
use Rattle.tf_journal.specs.Format.{Recovered}
use Rattle.tf_bound.specs.Short.{AreShort, IsWithinLimits}
use Rattle.tf_bound.proofs.SessionLemmas.{session_at_most}
use Rattle.tf_report.specs.Lines.{report}
use Rattle.tf_details.specs.Elements.{IsLegalBook, Contents, with_entries}
use Rattle.tf_book.specs.Book.{BookValue, outline, moment}
use Rattle.tf_book.specs.Closed.{Closed, IsClosing, LeavesClosed}
use Rattle.tf_book.specs.SessionInvariant.{said, IsExact}
use Rattle.tf_book.proofs.LogLemmas.{off_on, off_says}
use Rattle.tf_book.specs.declared.faults.Halt.{Halt}
use Rattle.tf_book.specs.declared.faults.Halt.TheVariants as halt
use Rattle.tf_engines.specs.Runs.{AreGiven, IsSession, MayRecord, MightRecord}
use Rattle.tf_commands.specs.declared.running.Request.{Request}
use Rattle.tf_book.specs.Turns.{IsTried}
use Rattle.tf_commands.specs.Books.{heading_of, MayRun, HasSteps, HasReached, HasStopped, stop_status, IsLastSaid, reported, disk_failed, filled, ShowsLines, RunShows, closed, stopped, Ran, MayLeave}
use Rattle.tf_commands.specs.Runs.{HasSaidHalt, IsRunTo, book_desk, RunsOn}
use Rattle.tf_report.specs.Closing.{ClosesWith}
use Rattle.tf_report.specs.declared.statuses.TheConstants.{UNSAID, OUT_OF_MEMORY, DISK_FAILED}
use Rattle.tf_commands.proofs.HaltLemmas.{says_nothing, left_runs, closing_runs, none_so, halt_lasts, halt_ended, halt_shows, said_lasts, sound_text}
use Rattle.tf_commands.proofs.HeldLemmas.{held_with, held_same}
use Rattle.tf_commands.proofs.OrderLemmas.{given_so, halt_unstopped}
use Rattle.tf_commands.proofs.ReachLemmas.{reached_by}
use Rattle.tf_commands.proofs.ReportLemmas.{StatusAfter, ClosingFor, report_said, report_ended}

-- the newer of short entries are short
prefix_short : (newer past : List Entry) → AreShort (newer ++ past) → AreShort newer
prefix_short [] past short = tt
prefix_short (e ∷ newer) past short = (short.0, prefix_short newer past short.1)

-- a session of these entries
same_session : (gives : Order → Outcome → Type 0) (asked : Type 0) (number : ℕ) (limit : Option ℕ) (plan : Outline) (before after entries : List Entry) (stop : Option FlowState) → IsSession gives asked number limit plan before after stop → after ≡ entries ++ before
    → HasSteps asked number limit plan before entries stop × AreGiven gives plan before entries
same_session gives asked number limit plan before after entries stop s recorded =
    let same : s.entries ≡ entries = append_cancel_right s.entries entries before (sym s.recorded ∙ recorded) in
    subst (λ (l : List Entry). HasSteps asked number limit plan before l stop × AreGiven gives plan before l) same
    (record { session = s.session; hands = s.hands; due = s.due; within = s.within; suspended = s.suspended }, s.given)

-- where a session stopped
stop_reached : (plan : PlanValue) (before entries : List Entry) (stop : Option FlowState) → compile_refusal plan ≡ None → Session (outline_of plan) before entries stop
    → (last : FlowState) → stop ≡ Some last → HasReached (outline_of plan) (entries ++ before) last
stop_reached plan before entries stop compiles session last is =
    let so : Session (outline_of plan) before entries (Some last) = subst (λ (o : Option FlowState). Session (outline_of plan) before entries o) is session in
    reached_by plan (entries ++ before) last compiles (session_legal (outline_of plan) before entries (Some last) so) (session_state (outline_of plan) before entries last so)

-- a run of these entries, by what was shown
pub ran_so : (gives : Order → Outcome → Type 0) (request : Request) (asked : Type 0) (contents : Contents) (plan : PlanValue) (before after entries : List Entry) (stop : Option FlowState) (shown now : Option (List ℕ)) (closing : List ℕ) (status : ℕ)
    → IsSession gives asked (number_of request.want) request.limit (outline_of plan) before after stop → after ≡ entries ++ before → compile_refusal plan ≡ None → IsWithinLimits (outline_of plan) → AreShort before → AreShort after
    → RunShows gives request contents plan before entries shown now stop closing status → Ran gives request asked contents plan before entries stop shown now closing status
ran_so gives request asked contents plan before after entries stop shown now closing status session recorded compiles limits short_before short text =
    let parts = same_session gives asked (number_of request.want) request.limit (outline_of plan) before after entries stop session recorded in
    record {
      steps = parts.0;
      bound = session_at_most plan before entries stop compiles limits short_before (prefix_short entries before (subst AreShort recorded short)) parts.0.session;
      outcomes = parts.1;
      text = text;
      end = stop_reached plan before entries stop compiles parts.0.session;
    }

-- nothing was recorded, since memory ran out or the disk failed before
pub unbegun : (gives : Order → Outcome → Type 0) (request : Request) (asked : Type 0) (contents : Contents) (plan : PlanValue) (shown now : Option (List ℕ)) (closing : List ℕ) (status : ℕ) → RunShows gives request contents plan [] [] shown now None closing status
    → Ran gives request asked contents plan [] [] None shown now closing status
unbegun gives request asked contents plan shown now closing status text = record {
  steps = record { session = entered [] (flow_entry flow.Running ∷ []) refl tt; hands = refl; due = tt; within = tt; suspended = λ is. absurd (cc) };
  bound = omega arith;
  outcomes = tt;
  text = text;
  end = λ last is. absurd (cc);
}

-- ---- how a run ends

-- the entry that a run couldn't record, by its request
pub run_failed : {K : Type 0} (gives : Order → Outcome → Type 0) (request : Request) (start now : BookValue K) (number : ℕ) → number ≡ number_of request.want → now.plan ≡ start.plan
    → MightRecord gives number now → IsTried (MayRun gives request start.plan now.past) now.halt now.failed
run_failed gives request start now number all plan failed =
    subst (λ (p : PlanValue). IsTried (MayRun gives request p now.past) now.halt now.failed) plan
    (subst (λ (n : ℕ). IsTried (MayRecord gives n (outline_of now.plan) now.past) now.halt now.failed) all failed)

module _ {K : Type 0} (state : K → DeskState) where
  -- the report was said, or cut, or memory ran out
  pub closes_run : (gives : Order → Outcome → Type 0) (request : Request) (asked : Type 0) (did : List (Option (List Order))) (start book new : BookValue K) (last : FlowState) (closing : List ℕ) (status : ℕ)
      → ((plan : Outline) (past : List Entry) → heading_of request plan past ≡ [])
      → IsRunTo state gives request asked did start book (Some last) → book.halt ≡ None → new.past ≡ book.past → new.plan ≡ book.plan → new.contents ≡ book.contents
      → Closed state start new closing → ClosingFor (report (outline book) (moment book)) new.halt closing → StatusAfter last new.halt status
      → RunsOn state gives request asked did start (book_desk state new) status
  closes_run gives request asked did start book new last closing status plain to sound same plan contents c closes is =
      let held = held_with start.plan start new c.entries c.held (held_same contents same to.held) in
      let report_is : report (outline book) (moment book) ≡ report (outline start) (snapshot (outline start) (c.entries ++ start.past)) =
      ap (λ (p : PlanValue). report (outline_of p) (snapshot (outline_of p) book.past)) to.kept.plan
      ∙ ap (λ (p : List Entry). report (outline start) (snapshot (outline start) p)) (sym same ∙ c.recorded) in
      let spoken : IsClosing (shown_with (book_desk state start).shown (said request.quiet (outline start) start.past c.entries)) closing new.halt (book_desk state new).shown =
      subst (λ (b : Bool). IsClosing (shown_with (book_desk state start).shown (said b (outline start) start.past c.entries)) closing new.halt (book_desk state new).shown) to.speaks c.text in
      let told = report_said gives request start.contents start.plan start.past c.entries (book_desk state start).shown (book_desk state new).shown closing last status new.halt (plain (outline start) (c.entries ++ start.past))
      (subst (λ (t : List ℕ). ClosingFor t new.halt closing) report_is closes) spoken is in
      record {
        entries = c.entries;
        stop = Some last;
        closing = closing;
        lasts = λ telling kept at_rest first. record {
          pending = [];
          few = none_so (MayRun gives request start.plan) start.plan (c.entries ++ start.past) [] (book_desk state start) (book_desk state new) refl;
          legal = held.legal;
          passes = passes_within (c.crash telling kept) (λ image text is_left. closed_leaves first c.entries held.legal image text is_left);
          leaves = λ image now_left. inl (c.left_now telling kept at_rest image now_left);
          exact = λ unrisen known. subst (λ (h : Contents). IsExact (book_desk state new) h) c.held (c.exact telling kept known);
        };
        ran = ran_so gives request asked start.contents start.plan start.past book.past c.entries (Some last) (book_desk state start).shown (book_desk state new).shown closing status to.session (sym same ∙ c.recorded)
            to.history.runs.0 to.limits to.short_before to.short told;
        orders_given = given_so (HasStopped status) (outline start) start.past (c.entries ++ start.past) did (sym same ∙ c.recorded) (λ stopped. sound) to.orders_given;
        continues = c.continues;
        off_disk = c.off_disk;
        ended = report_ended last new.halt status (book_desk state start) (book_desk state new) new.contents start.plan new.past new.failed is c.cause;
      }
    where
      closed_leaves : (first : Recovered) (entries : List Entry) → IsLegalBook (with_entries start.contents entries).elements → (image text : List ℕ)
          → LeavesClosed start.contents start.plan start.quiet start.past entries (book_desk state start).shown closing image text
          → MayLeave first start.contents start.plan start.quiet start.past entries [] (book_desk state start).shown closing image text
      closed_leaves first entries legal image text (inl l) =
          left_runs first start.contents start.plan start.quiet start.past entries [] (book_desk state start).shown closing image text legal l
      closed_leaves first entries legal image text (inr l) =
          closing_runs first start.contents start.plan start.quiet start.past entries [] [] (book_desk state start).shown closing image text (inr refl)
          (record { is = l.0; legal = legal }) l.1

  -- the report behind its heading was said, or cut
  pub sums_run : (gives : Order → Outcome → Type 0) (request : Request) (asked : Type 0) (did : List (Option (List Order))) (start book : BookValue K) (last : FlowState) (closing : List ℕ) (now : DeskState) (status : ℕ)
      → IsRunTo state gives request asked did start book (Some last) → book.halt ≡ None → book.journal.halted ≡ false
      → closing ≡ heading_of request (outline book) book.past ++ report (outline book) (moment book)
      → ClosesWith (book_desk state book).shown closing (stop_status last) now.shown status → Says closing (book_desk state book) now
      → (status ≡ UNSAID → Rises (book_desk state book).out_faults now.out_faults) → status ≢ DISK_FAILED
      → RunsOn state gives request asked did start now status
  sums_run gives request asked did start book last closing now status to sound unhalted closing_is closes says unsaid undamaged =
      let k = to.kept in
      let spoken = sound_text state start book sound k in
      let same : closing ≡ heading_of request (outline start) (k.entries ++ start.past) ++ report (outline start) (snapshot (outline start) (k.entries ++ start.past)) =
      closing_is ∙ ap (λ (p : PlanValue). heading_of request (outline_of p) book.past ++ report (outline_of p) (snapshot (outline_of p) book.past)) k.plan
      ∙ ap (λ (p : List Entry). heading_of request (outline start) p ++ report (outline start) (snapshot (outline start) p)) k.recorded in
      record {
        entries = k.entries;
        stop = Some last;
        closing = closing;
        lasts = said_lasts state (MayRun gives request start.plan) start book closing now says (λ unrisen. unhalted) k to.held to.failed (inl spoken);
        ran = ran_so gives request asked start.contents start.plan start.past book.past k.entries (Some last) (book_desk state start).shown now.shown closing status to.session k.recorded
            to.history.runs.0 to.limits to.short_before to.short
            (subst (λ (b : Bool). ShowsLines start.plan b start.past k.entries (book_desk state start).shown now.shown
            (IsLastSaid (MayRun gives request start.plan) (with_entries start.contents k.entries) start.plan (heading_of request (outline start) (k.entries ++ start.past)) (k.entries ++ start.past) (Some last)) closing status) to.speaks
            (closed closing (stop_status last) status
            (subst (λ (c : List ℕ). IsLastSaid (MayRun gives request start.plan) (with_entries start.contents k.entries) start.plan (heading_of request (outline start) (k.entries ++ start.past)) (k.entries ++ start.past) (Some last) c (stop_status last)) (sym same) (reported last))
            (subst (λ (t : Option (List ℕ)). ClosesWith t closing (stop_status last) now.shown status) spoken closes)));
        orders_given = given_so (HasStopped status) (outline start) start.past (k.entries ++ start.past) did k.recorded (λ stopped. sound) to.orders_given;
        continues = continues_on k.continues (says_continues says);
        off_disk = λ volatile. off_on (k.off_disk volatile) (λ told. extends_told k.continues.extends told) (off_says says);
        ended = record {
          unsaid = λ is. (let rose : Rises (book_desk state book).out_faults now.out_faults = unsaid is in omega (arith, rose, k.continues.extends.out_faults));
          failed = λ is. absurd (undamaged is);
        };
      }

  -- memory ran out before the report was made
  pub stops_run : (gives : Order → Outcome → Type 0) (request : Request) (asked : Type 0) (did : List (Option (List Order))) (start book : BookValue K) (last : FlowState)
      → IsRunTo state gives request asked did start book (Some last) → book.halt ≡ None → book.journal.halted ≡ false
      → RunsOn state gives request asked did start (book_desk state book) OUT_OF_MEMORY
  stops_run gives request asked did start book last to sound unhalted =
      let k = to.kept in
      let spoken = sound_text state start book sound k in
      record {
        entries = k.entries;
        stop = Some last;
        closing = [];
        lasts = said_lasts state (MayRun gives request start.plan) start book [] (book_desk state book) says_nothing (λ unrisen. unhalted) k to.held to.failed (inl spoken);
        ran = ran_so gives request asked start.contents start.plan start.past book.past k.entries (Some last) (book_desk state start).shown (book_desk state book).shown [] OUT_OF_MEMORY to.session k.recorded
            to.history.runs.0 to.limits to.short_before to.short
            (subst (λ (b : Bool). ShowsLines start.plan b start.past k.entries (book_desk state start).shown (book_desk state book).shown
            (IsLastSaid (MayRun gives request start.plan) (with_entries start.contents k.entries) start.plan (heading_of request (outline start) (k.entries ++ start.past)) (k.entries ++ start.past) (Some last)) [] OUT_OF_MEMORY) to.speaks (stopped spoken));
        orders_given = given_so (HasStopped OUT_OF_MEMORY) (outline start) start.past (k.entries ++ start.past) did k.recorded (λ stopped. sound) to.orders_given;
        continues = k.continues;
        off_disk = k.off_disk;
        ended = record { unsaid = λ is. absurd (cc); failed = λ is. absurd (cc) };
      }

  -- why the book was halted was said, or cut, or it says nothing
  pub halts_run : (gives : Order → Outcome → Type 0) (request : Request) (asked : Type 0) (did : List (Option (List Order))) (start book : BookValue K) (stop : Option FlowState) (why : Halt) (now : DeskState) (status : ℕ)
      → IsRunTo state gives request asked did start book stop → book.halt ≡ Some why
      → (book.halt ≢ Some halt.Disk → book.journal.halted ≡ false)
      → HasSaidHalt why (book_desk state book) now status
      → RunsOn state gives request asked did start now status
  halts_run gives request asked did start book stop why now status to halted unhalted s =
      let k = to.kept in
      record {
        entries = k.entries;
        stop = stop;
        closing = s.closing;
        lasts = halt_lasts state (MayRun gives request start.plan) start book why now status halted unhalted s k to.held to.failed;
        ran = ran_so gives request asked start.contents start.plan start.past book.past k.entries stop (book_desk state start).shown now.shown s.closing status to.session k.recorded
            to.history.runs.0 to.limits to.short_before to.short
            (subst (λ (b : Bool). ShowsLines start.plan b start.past k.entries (book_desk state start).shown now.shown
            (IsLastSaid (MayRun gives request start.plan) (with_entries start.contents k.entries) start.plan (heading_of request (outline start) (k.entries ++ start.past)) (k.entries ++ start.past) stop) s.closing status) to.speaks
            (halt_shows state start book why now status
            (IsLastSaid (MayRun gives request start.plan) (with_entries start.contents k.entries) start.plan (heading_of request (outline start) (k.entries ++ start.past)) (k.entries ++ start.past) stop)
            (MayRun gives request start.plan) halted s k (λ e may. disk_failed stop may.unended) (filled stop) to.failed));
        orders_given = given_so (HasStopped status) (outline start) start.past (k.entries ++ start.past) did k.recorded (λ stopped. absurd (halt_unstopped s stopped)) to.orders_given;
        continues = continues_on k.continues (says_continues s.says);
        off_disk = λ volatile. off_on (k.off_disk volatile) (λ told. extends_told k.continues.extends told) (off_says s.says);
        ended = halt_ended state start book why now status halted s k;
      }
