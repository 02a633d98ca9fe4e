-- How what was done ends: the statuses that it may have.
use Rattle.std.proofs.Common.{◌≡◌, ◌⊎◌, ℕ, List, [], ◌++◌, length, Option, Some, Bool, true, false, inl, inr, refl, ◌∙◌, sym, ap, subst, arith, ⊎_elim}
use Rattle.tf_desk.specs.State.{DeskState, told_as}
use Rattle.tf_flow.specs.Plan.{PlanValue, PlanTree}
use Rattle.tf_ports.specs.declared.crews.Want.{Want}
use Rattle.tf_actions.specs.declared.orders.Order.{Order}
use Rattle.tf_actions.specs.declared.outcomes.Outcome.{Outcome}
use Rattle.tf_states.specs.declared.record.Entry.{Entry}
use Rattle.tf_states.specs.declared.state.FlowState.{FlowState}
use Rattle.tf_states.specs.declared.state.FlowState.TheVariants as flow
use Rattle.tf_model.specs.Plan.{outline_of}
use Rattle.tf_book.specs.Turns.{is_reached}
use Rattle.tf_journal.specs.Format.{old_format}
use Rattle.tf_details.specs.Elements.{Element, Contents, with_entries}
use Rattle.tf_book.specs.Book.{begun_contents}
use Rattle.tf_board_service.specs.Sessions as service
use Rattle.tf_board_service.specs.Sessions.{IsServiceStatus}
use Rattle.tf_commands.specs.Asking.{demo_tree}
use Rattle.tf_commands.specs.Books.{IsFile, Unopened, exhausted, disk_failed_opening, old_book, no_book, Unfound, unopened_book, empty, not_there, Refuses, Unhired, exhausted_hire, unhired, Promised, RunsAnew, overfull, ran, Runs, unopened, forbidden, too_many, unhired_run, hired_run, Demonstrates, ungenerated, demonstrated, Resumes, unfound_again, unhired_again, resumed, ShowsBook, unfound_show, shown_whole, ListsDetails, unopened_list, were_listed, ResetsBook, unfound_reset, reset_forbidden, was_reset, IsResetSaid, all_back, disk_failed_back, filled_back, heading_of, stop_status, MayRun, Ran, ShowsLines, closed, line_cut, stopped, IsLastSaid, reported, disk_failed as disk_said, filled}
use Rattle.tf_commands.specs.Behaviour as behaviour
use Rattle.tf_commands.specs.Behaviour.{Tries, IsRunComplete}
use Rattle.tf_commands.specs.declared.running.Request.{Request}
use Rattle.tf_report.specs.Closing.{ClosesWithOrStops}
use Rattle.tf_report.proofs.ClosingLemmas.{closes_status}
use Rattle.tf_ports.specs.Ports.{GivenBack, CrewTold}

-- old tells where status 16 comes from
pub data Ended (old : Type 0) (status : ℕ) : Type 0 where
  is_complete : IsRunComplete status → Ended old status
  is_failed : status ≡ 5 → Ended old status
  is_no_book : status ≡ 6 → Ended old status
  is_unsaid : status ≡ 7 → Ended old status
  is_unhired : status ≡ 8 → Ended old status
  is_forbidden : status ≡ 14 → Ended old status
  is_suspended : status ≡ 12 → Ended old status
  is_old : status ≡ 16 → old → Ended old status

pub out_ends : {old : Type 0} (status : ℕ) → status ≡ 9 → Ended old status
out_ends status is = is_complete (inr (inr (inr (inl is))))

-- a worker's statuses
pub works_ended : {old : Type 0} (status : ℕ) → (status ≡ 0) ⊎ (status ≡ 9) ⊎ (status ≡ 8) ⊎ (status ≡ 7) → Ended old status
works_ended status (inl is) = is_complete (inl is)
works_ended status (inr (inl is)) = out_ends status is
works_ended status (inr (inr (inl is))) = is_unhired is
works_ended status (inr (inr (inr is))) = is_unsaid is

-- those of a board's service
pub service_ended : {old : Type 0} (status : ℕ) → IsServiceStatus status → Ended old status
service_ended status (service.is_served is) = is_complete (inl is)
service_ended status (service.is_failed is) = is_failed is
service_ended status (service.is_no_board is) = is_no_book is
service_ended status (service.is_unsaid is) = is_unsaid is
service_ended status (service.is_unlistened is) = is_unhired is
service_ended status (service.is_out is) = out_ends status is
service_ended status (service.is_full is) = is_complete (inr (inr (inr (inr is))))

apart_three : (status wanted other : ℕ) → status ≡ other → status ≡ wanted → (wanted ≡ 2) ⊎ (wanted ≡ 3) ⊎ (wanted ≡ 4) → ¬ (other ≡ 2) → ¬ (other ≡ 3) → ¬ (other ≡ 4) → ⊥
apart_three status wanted other a is (inl two) no_two no_three no_four = no_two (sym a ∙ is ∙ two)
apart_three status wanted other a is (inr (inl three)) no_two no_three no_four = no_three (sym a ∙ is ∙ three)
apart_three status wanted other a is (inr (inr four)) no_two no_three no_four = no_four (sym a ∙ is ∙ four)

-- no status of what was done is one of these
pub ended_apart : {old : Type 0} (status wanted : ℕ) → Ended old status → status ≡ wanted → (wanted ≡ 2) ⊎ (wanted ≡ 3) ⊎ (wanted ≡ 4) → ⊥
ended_apart status wanted (is_complete (inl a)) is one = apart_three status wanted 0 a is one (λ e. omega arith) (λ e. omega arith) (λ e. omega arith)
ended_apart status wanted (is_complete (inr (inl a))) is one = apart_three status wanted 10 a is one (λ e. omega arith) (λ e. omega arith) (λ e. omega arith)
ended_apart status wanted (is_complete (inr (inr (inl a)))) is one = apart_three status wanted 11 a is one (λ e. omega arith) (λ e. omega arith) (λ e. omega arith)
ended_apart status wanted (is_complete (inr (inr (inr (inl a))))) is one = apart_three status wanted 9 a is one (λ e. omega arith) (λ e. omega arith) (λ e. omega arith)
ended_apart status wanted (is_complete (inr (inr (inr (inr a))))) is one = apart_three status wanted 13 a is one (λ e. omega arith) (λ e. omega arith) (λ e. omega arith)
ended_apart status wanted (is_failed a) is one = apart_three status wanted 5 a is one (λ e. omega arith) (λ e. omega arith) (λ e. omega arith)
ended_apart status wanted (is_no_book a) is one = apart_three status wanted 6 a is one (λ e. omega arith) (λ e. omega arith) (λ e. omega arith)
ended_apart status wanted (is_unsaid a) is one = apart_three status wanted 7 a is one (λ e. omega arith) (λ e. omega arith) (λ e. omega arith)
ended_apart status wanted (is_unhired a) is one = apart_three status wanted 8 a is one (λ e. omega arith) (λ e. omega arith) (λ e. omega arith)
ended_apart status wanted (is_forbidden a) is one = apart_three status wanted 14 a is one (λ e. omega arith) (λ e. omega arith) (λ e. omega arith)
ended_apart status wanted (is_suspended a) is one = apart_three status wanted 12 a is one (λ e. omega arith) (λ e. omega arith) (λ e. omega arith)
ended_apart status wanted (is_old a from) is one = apart_three status wanted 16 a is one (λ e. omega arith) (λ e. omega arith) (λ e. omega arith)

-- ---- runs

stopped_with : {old : Type 0} (last : FlowState) → Ended old (stop_status last)
stopped_with flow.Success = is_complete (inl refl)
stopped_with flow.Reverted = is_complete (inr (inl refl))
stopped_with flow.Pending = is_complete (inr (inr (inl refl)))
stopped_with flow.Running = is_complete (inr (inr (inl refl)))
stopped_with flow.Failure = is_complete (inr (inr (inl refl)))
stopped_with flow.Suspending = is_complete (inr (inr (inl refl)))
stopped_with flow.Suspended = is_suspended refl
stopped_with flow.Resuming = is_complete (inr (inr (inl refl)))

pub last_said : {old : Type 0} (may : List Entry → Entry → Type 0) (contents : Contents) (plan : PlanValue) (heading : List ℕ) (past : List Entry) (stop : Option FlowState) (closing : List ℕ) (wanted : ℕ) → IsLastSaid may contents plan heading past stop closing wanted → Ended old wanted
last_said may contents plan heading past stop closing wanted (reported last) = stopped_with last
last_said may contents plan heading past stop closing wanted (disk_said halted unended) = is_failed refl
last_said may contents plan heading past stop closing wanted (filled halted size need full) = is_complete (inr (inr (inr (inr refl))))

-- what records and says its last ends as that tells
pub shows_last : {old : Type 0} (plan : PlanValue) (quiet : Bool) (before entries : List Entry) (shown now : Option (List ℕ)) (last : List ℕ → ℕ → Type 0) (closing : List ℕ) (status : ℕ)
    → ((text : List ℕ) (wanted : ℕ) → last text wanted → Ended old wanted) → ShowsLines plan quiet before entries shown now last closing status → Ended old status
shows_last {old} plan quiet before entries shown now last closing status ends (closed text wanted ended is closes) =
    ⊎_elim (λ same. subst (Ended old) (sym same) (ends text wanted is)) (λ seven. is_unsaid seven) (closes_status _ now text wanted ended closes)
shows_last plan quiet before entries shown now last closing status ends (line_cut prefix) = is_unsaid refl
shows_last plan quiet before entries shown now last closing status ends (stopped text) = out_ends 9 refl

pub ran_ended : {old : Type 0} {gives : Order → Outcome → Type 0} {request : Request} {asked : Type 0} (contents : Contents) (plan : PlanValue) (before entries : List Entry) (stop : Option FlowState) (shown now : Option (List ℕ)) (closing : List ℕ) (status : ℕ)
    → Ran gives request asked contents plan before entries stop shown now closing status → Ended old status
ran_ended {old} {gives} {request} contents plan before entries stop shown now closing status r =
    shows_last plan request.quiet before entries shown now (IsLastSaid (MayRun gives request plan) (with_entries contents entries) plan (heading_of request (outline_of plan) (entries ++ before)) (entries ++ before) stop) closing status
    (λ text wanted is. last_said (MayRun gives request plan) (with_entries contents entries) plan (heading_of request (outline_of plan) (entries ++ before)) (entries ++ before) stop text wanted is) r.text

-- the status of a suspension comes from one, which was asked for or reached the limit
suspends_by : (last : FlowState) → stop_status last ≡ 12 → last ≡ flow.Suspended
suspends_by flow.Suspended is = refl
suspends_by flow.Success is = absurd (omega (arith, is))
suspends_by flow.Reverted is = absurd (omega (arith, is))
suspends_by flow.Pending is = absurd (omega (arith, is))
suspends_by flow.Running is = absurd (omega (arith, is))
suspends_by flow.Failure is = absurd (omega (arith, is))
suspends_by flow.Suspending is = absurd (omega (arith, is))
suspends_by flow.Resuming is = absurd (omega (arith, is))

last_suspends : (may : List Entry → Entry → Type 0) (contents : Contents) (plan : PlanValue) (heading : List ℕ) (past : List Entry) (stop : Option FlowState) (closing : List ℕ) (wanted : ℕ) → IsLastSaid may contents plan heading past stop closing wanted → wanted ≡ 12
    → stop ≡ Some flow.Suspended
last_suspends may contents plan heading past stop closing wanted (reported last) is = ap Some (suspends_by last is)
last_suspends may contents plan heading past stop closing wanted (disk_said halted unended) is = absurd (omega (arith, is))
last_suspends may contents plan heading past stop closing wanted (filled halted size need full) is = absurd (omega (arith, is))

shows_suspended : (may : List Entry → Entry → Type 0) (contents : Contents) (plan : PlanValue) (quiet : Bool) (heading : List ℕ) (before entries past : List Entry) (shown now : Option (List ℕ)) (stop : Option FlowState) (closing : List ℕ) (status : ℕ)
    → ShowsLines plan quiet before entries shown now (IsLastSaid may contents plan heading past stop) closing status → status ≡ 12 → stop ≡ Some flow.Suspended
shows_suspended may contents plan quiet heading before entries past shown now stop closing status (closed text wanted ended last closes) is =
    ⊎_elim (λ same. last_suspends may contents plan heading past stop text wanted last (sym same ∙ is)) (λ seven. absurd (omega (arith, seven, is))) (closes_status _ now text wanted ended closes)
shows_suspended may contents plan quiet heading before entries past shown now stop closing status (line_cut prefix) is = absurd (omega (arith, is))
shows_suspended may contents plan quiet heading before entries past shown now stop closing status (stopped text) is = absurd (omega (arith, is))

pub ran_suspended : {gives : Order → Outcome → Type 0} {request : Request} {asked : Type 0} (contents : Contents) (plan : PlanValue) (before entries : List Entry) (stop : Option FlowState) (shown now : Option (List ℕ)) (closing : List ℕ) (status : ℕ)
    → Ran gives request asked contents plan before entries stop shown now closing status → status ≡ 12 → asked ⊎ (is_reached request.limit (length entries) ≡ true)
ran_suspended {gives} {request} contents plan before entries stop shown now closing status r is =
    (r.steps.suspended (shows_suspended (MayRun gives request plan) (with_entries contents entries) plan request.quiet (heading_of request (outline_of plan) (entries ++ before)) before entries (entries ++ before) shown now stop closing status r.text is)).cause

-- ---- trials and checks

pub tries_ended : {old : Type 0} {gives : Order → Outcome → Type 0} {hands : Want} {asked : Type 0} (crew crew_after : CrewTold) (before after : Option (List ℕ)) (tree : PlanTree) (status : ℕ) → Tries gives hands asked crew crew_after before after tree status → Ended old status
tries_ended crew crew_after before after tree status (behaviour.unfinished_hire stays is same) = out_ends status is
tries_ended crew crew_after before after tree status (behaviour.unhired same closes) = ⊎_elim (λ is. is_unhired is) (λ is. is_unsaid is) (closes_status before after _ 8 status closes)
tries_ended crew crew_after before after tree status (behaviour.tried hires t) = ran_ended (begun_contents [] t.plan) t.plan [] t.entries t.stop before after t.closing status t.ran

pub checks_ended : {old : Type 0} (before after : Option (List ℕ)) (message : List ℕ) (status : ℕ) → ClosesWithOrStops before message 0 after status → Ended old status
checks_ended before after message status (inl out) = out_ends status out.0
checks_ended before after message status (inr closes) = ⊎_elim (λ is. is_complete (inl is)) (λ is. is_unsaid is) (closes_status before after message 0 status closes)

refuses_ended : {old : Type 0} (name : List ℕ) (entry now : DeskState) (message : List ℕ) (wanted status : ℕ) → Ended old wanted → Refuses name entry now message wanted status → Ended old status
refuses_ended {old} name entry now message wanted status ended r =
    ⊎_elim (λ is. subst (Ended old) (sym is) ended) (λ is. is_unsaid is) (closes_status entry.shown now.shown message wanted status r.closes)

-- the file of that name is a book of the older format
abbrev pub IsOldFile : List ℕ → DeskState → Type 0
IsOldFile name entry = IsFile name entry (λ found. found ≡ old_format)

unopened_ended : (name : List ℕ) (entry now : DeskState) (status : ℕ) → Unopened name entry now status → Ended (IsOldFile name entry) status
unopened_ended name entry now status (exhausted stops) = out_ends status stops.status_is
unopened_ended name entry now status (disk_failed_opening r) = refuses_ended name entry now _ 5 status (is_failed refl) r
unopened_ended name entry now status (old_book old r) = refuses_ended name entry now _ 16 status (is_old refl old) r
unopened_ended name entry now status (no_book offset byte is r) = refuses_ended name entry now _ 6 status (is_no_book refl) r

unfound_ended : (name : List ℕ) (wanted : Option (List ℕ)) (entry now : DeskState) (status : ℕ) → Unfound name wanted entry now status → Ended (IsOldFile name entry) status
unfound_ended name wanted entry now status (unopened_book u) = unopened_ended name entry now status u
unfound_ended name wanted entry now status (empty none r) = refuses_ended name entry now _ 14 status (is_forbidden refl) r
unfound_ended name wanted entry now status (not_there elements sought is held some none r) = refuses_ended name entry now _ 14 status (is_forbidden refl) r

unhired_ended : {old : Type 0} (name : List ℕ) (entry now : DeskState) (crew crew_after : CrewTold) (status : ℕ) → Unhired name entry now crew crew_after status → Ended old status
unhired_ended name entry now crew crew_after status (exhausted_hire same stops) = out_ends status stops.status_is
unhired_ended name entry now crew crew_after status (unhired same r) = refuses_ended name entry now _ 8 status (is_unhired refl) r

promised_ended : {old : Type 0} {gives : Order → Outcome → Type 0} {request : Request} {asked : Type 0} {back : GivenBack} (name : List ℕ) (contents : Contents) (plan : PlanValue) (before : List Entry) (entry now : DeskState) (status : ℕ)
    → Promised gives request asked back name contents plan before entry now status → Ended old status
promised_ended name contents plan before entry now status p = ran_ended contents plan before p.entries p.stop entry.shown now.shown p.closing status p.ran

anew_ended : {old : Type 0} {gives : Order → Outcome → Type 0} {request : Request} {asked : Type 0} {back : GivenBack} (name : List ℕ) (elements : List Element) (plan : PlanValue) (entry now : DeskState) (status : ℕ)
    → RunsAnew gives request asked back name elements plan entry now status → Ended old status
anew_ended name elements plan entry now status (overfull size need fresh full r) = refuses_ended name entry now _ 13 status (is_complete (inr (inr (inr (inr refl))))) r
anew_ended name elements plan entry now status (ran p) = promised_ended name (begun_contents elements plan) plan [] entry now status p

pub runs_ended : {gives : Order → Outcome → Type 0} {request : Request} {asked : Type 0} (name : List ℕ) (crew crew_after : CrewTold) (entry now : DeskState) (tree : PlanTree) (status : ℕ)
    → Runs gives request asked name crew crew_after entry now tree status → Ended (IsOldFile name entry) status
runs_ended name crew crew_after entry now tree status (unopened same u) = unopened_ended name entry now status u
runs_ended name crew crew_after entry now tree status (forbidden elements plan number same stays held is r) = refuses_ended name entry now _ 14 status (is_forbidden refl) r
runs_ended name crew crew_after entry now tree status (too_many elements plan same stays held none many r) = refuses_ended name entry now _ 14 status (is_forbidden refl) r
runs_ended name crew crew_after entry now tree status (unhired_run elements plan same held has u) = unhired_ended name entry now crew crew_after status u
runs_ended name crew crew_after entry now tree status (hired_run elements plan same held has hires a) = anew_ended name elements plan entry now status a

pub demonstrates_ended : {K : Type 0} {state : K → DeskState} {gives : Order → Outcome → Type 0} {hands : Want} {asked : Type 0} (name : List ℕ) (crew crew_after : CrewTold) (entry now : K) (seed size status : ℕ)
    → Demonstrates state gives hands asked name crew crew_after entry now seed size status → Ended (IsOldFile name (told_as (state now) (state entry))) status
demonstrates_ended name crew crew_after entry now seed size status (ungenerated is same still) = out_ends status is
demonstrates_ended {K} {state} name crew crew_after entry now seed size status (demonstrated runs) = runs_ended name crew crew_after (told_as (state now) (state entry)) (state now) (demo_tree seed size) status runs

pub resumes_ended : {gives : Order → Outcome → Type 0} {request : Request} {asked : Type 0} (name : List ℕ) (wanted : Option (List ℕ)) (crew crew_after : CrewTold) (entry now : DeskState) (status : ℕ)
    → Resumes gives request asked name wanted crew crew_after entry now status → Ended (IsOldFile name entry) status
resumes_ended name wanted crew crew_after entry now status (unfound_again same u) = unfound_ended name wanted entry now status u
resumes_ended name wanted crew crew_after entry now status (unhired_again contents plan past held going u) = unhired_ended name entry now crew crew_after status u
resumes_ended name wanted crew crew_after entry now status (resumed contents plan past runs held back hires p) = promised_ended name contents plan past entry now status p

pub shows_ended : (name : List ℕ) (wanted : Option (List ℕ)) (entry now : DeskState) (status : ℕ) → ShowsBook name wanted entry now status → Ended (IsOldFile name entry) status
shows_ended name wanted entry now status (unfound_show u) = unfound_ended name wanted entry now status u
shows_ended name wanted entry now status (shown_whole contents plan past held r) = refuses_ended name entry now _ 0 status (is_complete (inl refl)) r

pub lists_ended : (name : List ℕ) (entry now : DeskState) (status : ℕ) → ListsDetails name entry now status → Ended (IsOldFile name entry) status
lists_ended name entry now status (unopened_list u) = unopened_ended name entry now status u
lists_ended name entry now status (were_listed elements held r) = refuses_ended name entry now _ 0 status (is_complete (inl refl)) r

pub resets_ended : (name : List ℕ) (wanted : Option (List ℕ)) (entry now : DeskState) (status : ℕ) → ResetsBook name wanted entry now status → Ended (IsOldFile name entry) status
resets_ended name wanted entry now status (unfound_reset u) = unfound_ended name wanted entry now status u
resets_ended name wanted entry now status (reset_forbidden contents plan past held never r) = refuses_ended name entry now _ 14 status (is_forbidden refl) r
resets_ended name wanted entry now status (was_reset contents plan past held may p) =
    shows_last plan false past p.entries entry.shown now.shown (IsResetSaid (with_entries contents p.entries) plan (p.entries ++ past)) p.closing status reset_said p.put_back.text
  where
    reset_said : (text : List ℕ) (wanted : ℕ) → IsResetSaid (with_entries contents p.entries) plan (p.entries ++ past) text wanted → Ended (IsOldFile name entry) wanted
    reset_said text wanted (all_back pending) = is_complete (inl refl)
    reset_said text wanted (disk_failed_back e next) = is_failed refl
    reset_said text wanted (filled_back size need full) = is_complete (inr (inr (inr (inr refl))))

-- no status of what was done with a flow is a board's refusal
pub ended_unrefused : {old : Type 0} (status : ℕ) → Ended old status → status ≡ 15 → ⊥
ended_unrefused status (is_complete (inl a)) is = omega (arith, a, is)
ended_unrefused status (is_complete (inr (inl a))) is = omega (arith, a, is)
ended_unrefused status (is_complete (inr (inr (inl a)))) is = omega (arith, a, is)
ended_unrefused status (is_complete (inr (inr (inr (inl a))))) is = omega (arith, a, is)
ended_unrefused status (is_complete (inr (inr (inr (inr a))))) is = omega (arith, a, is)
ended_unrefused status (is_failed a) is = omega (arith, a, is)
ended_unrefused status (is_no_book a) is = omega (arith, a, is)
ended_unrefused status (is_unsaid a) is = omega (arith, a, is)
ended_unrefused status (is_unhired a) is = omega (arith, a, is)
ended_unrefused status (is_forbidden a) is = omega (arith, a, is)
ended_unrefused status (is_suspended a) is = omega (arith, a, is)
ended_unrefused status (is_old a from) is = omega (arith, a, is)

-- nor the refusal of a log
pub ended_no_log : {old : Type 0} (status : ℕ) → Ended old status → status ≡ 17 → ⊥
ended_no_log status (is_complete (inl a)) is = omega (arith, a, is)
ended_no_log status (is_complete (inr (inl a))) is = omega (arith, a, is)
ended_no_log status (is_complete (inr (inr (inl a)))) is = omega (arith, a, is)
ended_no_log status (is_complete (inr (inr (inr (inl a))))) is = omega (arith, a, is)
ended_no_log status (is_complete (inr (inr (inr (inr a))))) is = omega (arith, a, is)
ended_no_log status (is_failed a) is = omega (arith, a, is)
ended_no_log status (is_no_book a) is = omega (arith, a, is)
ended_no_log status (is_unsaid a) is = omega (arith, a, is)
ended_no_log status (is_unhired a) is = omega (arith, a, is)
ended_no_log status (is_forbidden a) is = omega (arith, a, is)
ended_no_log status (is_suspended a) is = omega (arith, a, is)
ended_no_log status (is_old a from) is = omega (arith, a, is)

-- and status 16 comes from a book of the older format
pub ended_old : {old : Type 0} (status : ℕ) → Ended old status → status ≡ 16 → old
ended_old status (is_complete (inl a)) is = absurd (omega (arith, a, is))
ended_old status (is_complete (inr (inl a))) is = absurd (omega (arith, a, is))
ended_old status (is_complete (inr (inr (inl a)))) is = absurd (omega (arith, a, is))
ended_old status (is_complete (inr (inr (inr (inl a))))) is = absurd (omega (arith, a, is))
ended_old status (is_complete (inr (inr (inr (inr a))))) is = absurd (omega (arith, a, is))
ended_old status (is_failed a) is = absurd (omega (arith, a, is))
ended_old status (is_no_book a) is = absurd (omega (arith, a, is))
ended_old status (is_unsaid a) is = absurd (omega (arith, a, is))
ended_old status (is_unhired a) is = absurd (omega (arith, a, is))
ended_old status (is_forbidden a) is = absurd (omega (arith, a, is))
ended_old status (is_suspended a) is = absurd (omega (arith, a, is))
ended_old status (is_old a from) is = from
