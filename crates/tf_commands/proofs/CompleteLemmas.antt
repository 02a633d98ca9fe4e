-- What was asked for and met no fault is done.
use Rattle.std.proofs.Common.{◌≡◌, ◌⊎◌, ℕ, List, [], ◌++◌, length, Option, Some, None, Bool, true, false, inl, inr, refl, ◌∙◌, sym, subst, arith, ⊎_elim}
use Rattle.std.specs.Prelude.{IsTrue}
use Rattle.tf_desk.specs.State.{DeskState, told_as}
use Rattle.tf_flow.specs.Plan.{PlanValue, PlanTree}
use Rattle.tf_ports.specs.Ports.{Contents, GivenBack, CrewTold}
use Rattle.tf_ports.specs.declared.crews.Want.{Want}
use Rattle.tf_ports.specs.declared.crews.Want.TheVariants as want
use Rattle.tf_actions.specs.declared.orders.Order.{Order}
use Rattle.tf_actions.specs.declared.outcomes.Outcome.{Outcome}
use Rattle.tf_states.specs.declared.record.Entry.{Entry}
use Rattle.tf_states.specs.declared.state.FlowState.{FlowState}
use Rattle.tf_states.specs.declared.state.FlowState.TheVariants as flow
use Rattle.tf_model.specs.History.{snapshot}
use Rattle.tf_model.specs.Plan.{outline_of}
use Rattle.tf_journal.specs.Format.{Recovered}
use Rattle.tf_details.specs.Elements.{Element, details, detail_name, number_among, Contents as Held, with_entries}
use Rattle.tf_book.specs.Book.{begun_contents, HasPlaceFor}
use Rattle.tf_book.specs.Turns.{may_reset, is_reached}
use Rattle.tf_words.specs.declared.asked.Asked.{Asked}
use Rattle.tf_words.specs.declared.asked.Asked.TheVariants as asked
use Rattle.tf_board.proofs.DoesLemmas.{complete_so}
use Rattle.tf_board_service.proofs.CommandLemmas.{serves_complete}
use Rattle.tf_commands.specs.Asking.{demo_tree, Counts, HasEachCause, HasNoFault}
use Rattle.tf_commands.specs.Messages.{Audits}
use Rattle.tf_words.specs.Words.{command_of}
use Rattle.tf_commands.specs.Books.{IsAskedFor, Unopened, exhausted, disk_failed_opening, old_book, no_book, Unfound, unopened_book, empty, not_there, Unhired, exhausted_hire, unhired, Promised, RunsAnew, overfull, ran, Runs, unopened, forbidden, too_many, unhired_run, hired_run, Demonstrates, ungenerated, demonstrated, Resumes, unfound_again, unhired_again, resumed, ShowsBook, unfound_show, shown_whole, ListsDetails, unopened_list, were_listed, ResetsBook, unfound_reset, reset_forbidden, was_reset, book_at, HoldsNoFlow, IsResetSaid, all_back, disk_failed_back, filled_back, spoken_run, heading_of, stop_status, MayRun, Ran, ShowsLines, closed, line_cut, stopped, IsLastSaid, reported, disk_failed as disk_said, filled}
use Rattle.tf_commands.specs.Behaviour as behaviour
use Rattle.tf_commands.specs.Behaviour.{PortsTold, Tries, Checks, Behaviour, Obeys, source_so, IsBook, HasPlace, HoldsFlow, HoldsReverted, IsRunComplete, IsRunCompleteBy, IsDoneComplete, IsResetComplete, MayBeDone, IsComplete}
use Rattle.tf_commands.specs.declared.running.Request.{Request}
use Rattle.tf_report.specs.Closing.{ClosesWithOrStops}
use Rattle.tf_report.proofs.ClosingLemmas.{closes_status}
use Rattle.tf_commands.proofs.EndLemmas.{Ended, is_complete, is_failed, is_no_book, is_unsaid, is_unhired, is_forbidden, is_suspended, is_old, ran_ended, ran_suspended}
use Rattle.tf_commands.proofs.AuditLemmas.{audit_status, audits_whole, audits_well}
use Rattle.tf_commands.proofs.ConductLemmas.{conducts_complete}
use Rattle.tf_commands.specs.declared.reading.Source.{Source}
use Rattle.tf_commands.proofs.FileLemmas.{Deals, accepted_done}
use Rattle.tf_commands.proofs.MigrateLemmas.{migrates_well}
use Rattle.tf_commands.proofs.WorkLemmas.{works_one}

-- what ended and met no fault ended well
ended_well : {old : Type 0} (status : ℕ) → Ended old status → ¬ old → ¬ (status ≡ 5) → ¬ (status ≡ 6) → ¬ (status ≡ 7) → ¬ (status ≡ 8) → ¬ (status ≡ 14) → ¬ (status ≡ 12) → IsRunComplete status
ended_well status (is_complete is) new sound book sayable hirable allowed on = is
ended_well status (is_failed is) new sound book sayable hirable allowed on = absurd (sound is)
ended_well status (is_no_book is) new sound book sayable hirable allowed on = absurd (book is)
ended_well status (is_unsaid is) new sound book sayable hirable allowed on = absurd (sayable is)
ended_well status (is_unhired is) new sound book sayable hirable allowed on = absurd (hirable is)
ended_well status (is_forbidden is) new sound book sayable hirable allowed on = absurd (allowed is)
ended_well status (is_suspended is) new sound book sayable hirable allowed on = absurd (on is)
ended_well status (is_old is old) new sound book sayable hirable allowed on = absurd (new old)

-- the same, where a limit of entries may suspend it
ended_well_by : {old : Type 0} (limit : Option ℕ) (status count : ℕ) (asked : Type 0) → Ended old status → ¬ old → ¬ (status ≡ 5) → ¬ (status ≡ 6) → ¬ (status ≡ 7) → ¬ (status ≡ 8) → ¬ (status ≡ 14) → ¬ asked
    → (status ≡ 12 → asked ⊎ (is_reached limit count ≡ true)) → IsRunCompleteBy limit status
ended_well_by None status count asked ended new sound book sayable hirable allowed unasked why =
    ended_well status ended new sound book sayable hirable allowed (λ is. ⊎_elim unasked (λ reached. cc) (why is))
ended_well_by (Some limit) status count asked (is_suspended is) new sound book sayable hirable allowed unasked why = inr is
ended_well_by (Some limit) status count asked (is_complete is) new sound book sayable hirable allowed unasked why = inl is
ended_well_by (Some limit) status count asked (is_failed is) new sound book sayable hirable allowed unasked why = absurd (sound is)
ended_well_by (Some limit) status count asked (is_no_book is) new sound book sayable hirable allowed unasked why = absurd (book is)
ended_well_by (Some limit) status count asked (is_unsaid is) new sound book sayable hirable allowed unasked why = absurd (sayable is)
ended_well_by (Some limit) status count asked (is_unhired is) new sound book sayable hirable allowed unasked why = absurd (hirable is)
ended_well_by (Some limit) status count asked (is_forbidden is) new sound book sayable hirable allowed unasked why = absurd (allowed is)
ended_well_by (Some limit) status count asked (is_old is old) new sound book sayable hirable allowed unasked why = absurd (new old)

out_well : (status : ℕ) → status ≡ 9 → IsRunComplete status
out_well status is = inr (inr (inr (inl is)))

out_well_by : (limit : Option ℕ) (status : ℕ) → status ≡ 9 → IsRunCompleteBy limit status
out_well_by None status is = out_well status is
out_well_by (Some limit) status is = inl (out_well status is)

ran_last : (last : FlowState) → ¬ (stop_status last ≡ 6) × ¬ (stop_status last ≡ 14) × ¬ (stop_status last ≡ 8)
ran_last flow.Pending = (λ is. omega arith, λ is. omega arith, λ is. omega arith)
ran_last flow.Running = (λ is. omega arith, λ is. omega arith, λ is. omega arith)
ran_last flow.Success = (λ is. omega arith, λ is. omega arith, λ is. omega arith)
ran_last flow.Failure = (λ is. omega arith, λ is. omega arith, λ is. omega arith)
ran_last flow.Reverted = (λ is. omega arith, λ is. omega arith, λ is. omega arith)
ran_last flow.Suspending = (λ is. omega arith, λ is. omega arith, λ is. omega arith)
ran_last flow.Suspended = (λ is. omega arith, λ is. omega arith, λ is. omega arith)
ran_last flow.Resuming = (λ is. omega arith, λ is. omega arith, λ is. omega arith)

-- a run tells nothing of a book that can't be opened, and nothing of a state that forbids it
abbrev IsApart : ℕ → Type 0
IsApart status = ¬ (status ≡ 6) × ¬ (status ≡ 14) × ¬ (status ≡ 8)

shows_apart : (plan : PlanValue) (quiet : Bool) (before entries : List Entry) (shown now : Option (List ℕ)) (last : List ℕ → ℕ → Type 0) (closing : List ℕ) (status : ℕ)
    → ((text : List ℕ) (wanted : ℕ) → last text wanted → IsApart wanted) → ShowsLines plan quiet before entries shown now last closing status → IsApart status
shows_apart plan quiet before entries shown now last closing status told (closed text wanted ended is closes) =
    ⊎_elim
    (λ same. let apart = told text wanted is in (λ e. apart.0 (sym same ∙ e), λ e. apart.1 (sym same ∙ e), λ e. apart.2 (sym same ∙ e)))
    (λ seven. (λ e. omega arith, λ e. omega arith, λ e. omega arith))
    (closes_status _ now text wanted ended closes)
shows_apart plan quiet before entries shown now last closing status told (line_cut prefix) = (λ is. omega arith, λ is. omega arith, λ is. omega arith)
shows_apart plan quiet before entries shown now last closing status told (stopped text) = (λ is. omega arith, λ is. omega arith, λ is. omega arith)

said_apart : (may : List Entry → Entry → Type 0) (contents : Held) (plan : PlanValue) (heading : List ℕ) (past : List Entry) (stop : Option FlowState) (text : List ℕ) (wanted : ℕ) → IsLastSaid may contents plan heading past stop text wanted → IsApart wanted
said_apart may contents plan heading past stop text wanted (reported last) = ran_last last
said_apart may contents plan heading past stop text wanted (disk_said halted unended) = (λ is. omega arith, λ is. omega arith, λ is. omega arith)
said_apart may contents plan heading past stop text wanted (filled halted size need full) = (λ is. omega arith, λ is. omega arith, λ is. omega arith)

ran_apart : {gives : Order → Outcome → Type 0} {request : Request} {asked : Type 0} (contents : Held) (plan : PlanValue) (before entries : List Entry) (stop : Option FlowState) (shown now : Option (List ℕ)) (closing : List ℕ) (status : ℕ)
    → Ran gives request asked contents plan before entries stop shown now closing status → IsApart status
ran_apart {gives} {request} contents plan before entries stop shown now closing status r =
    shows_apart plan request.quiet before entries shown now (IsLastSaid (MayRun gives request plan) (with_entries contents entries) plan (heading_of request (outline_of plan) (entries ++ before)) (entries ++ before) stop) closing status
    (λ text wanted is. said_apart (MayRun gives request plan) (with_entries contents entries) plan (heading_of request (outline_of plan) (entries ++ before)) (entries ++ before) stop text wanted is) r.text

-- no fault of these kinds came
record IsUnhurt (status : ℕ) : Type 0 where
  readable : ¬ (status ≡ 3)
  sound : ¬ (status ≡ 5)
  sayable : ¬ (status ≡ 7)
  hirable : ¬ (status ≡ 8)

unhurt : (status : ℕ) (before after : Counts) → HasEachCause status before after → HasNoFault before after → IsUnhurt status
unhurt status before after causes none = record {
  readable = λ is. none.sources (causes.unread is);
  sound = λ is. none.disk (causes.failed is);
  sayable = λ is. none.out (causes.unsaid is);
  hirable = λ is. none.crew (causes.unhired is);
}

tries_well : {gives : Order → Outcome → Type 0} {hands : Want} {asked : Type 0} (crew crew_after : CrewTold) (before after : Option (List ℕ)) (tree : PlanTree) (status : ℕ) → IsUnhurt status → ¬ asked
    → Tries gives hands asked crew crew_after before after tree status → IsRunComplete status
tries_well crew crew_after before after tree status u unasked (behaviour.unfinished_hire stays is same) = out_well status is
tries_well crew crew_after before after tree status u unasked (behaviour.unhired same closes) = absurd (⊎_elim u.hirable u.sayable (closes_status before after _ 8 status closes))
tries_well {gives} {hands} {asked} crew crew_after before after tree status u unasked (behaviour.tried hires t) =
    let contents = begun_contents [] t.plan in
    let apart = ran_apart contents t.plan [] t.entries t.stop before after t.closing status t.ran in
    ended_well_by None status (length t.entries) asked (ran_ended {old = ⊥} contents t.plan [] t.entries t.stop before after t.closing status t.ran) (λ never. never) u.sound apart.0 u.sayable u.hirable apart.1 unasked
    (ran_suspended contents t.plan [] t.entries t.stop before after t.closing status t.ran)

works_well : (status : ℕ) → IsUnhurt status → (status ≡ 0) ⊎ (status ≡ 9) ⊎ (status ≡ 8) ⊎ (status ≡ 7) → IsDoneComplete status
works_well status u (inl is) = inl is
works_well status u (inr (inl is)) = inr is
works_well status u (inr (inr (inl is))) = absurd (u.hirable is)
works_well status u (inr (inr (inr is))) = absurd (u.sayable is)

checks_well : (before after : Option (List ℕ)) (message : List ℕ) (status : ℕ) → IsUnhurt status → ClosesWithOrStops before message 0 after status → IsDoneComplete status
checks_well before after message status u (inl out) = inr out.0
checks_well before after message status u (inr closes) = ⊎_elim (λ is. inl is) (λ is. absurd (u.sayable is)) (closes_status before after message 0 status closes)

well_or_out : (limit : Option ℕ) (status : ℕ) (files : Contents) (source : Source) (does : PlanTree → ℕ → Type 0) → (Deals files source does status → IsRunCompleteBy limit status) → (status ≡ 9) ⊎ Deals files source does status
    → IsRunCompleteBy limit status
well_or_out limit status files source does well (inl out) = out_well_by limit status out
well_or_out limit status files source does well (inr did) = well did

done_or_out : (status : ℕ) (files : Contents) (source : Source) (does : PlanTree → ℕ → Type 0) → ((plan : PlanTree) → does plan status → IsDoneComplete status) → (status ≡ 9) ⊎ Deals files source does status → IsDoneComplete status
done_or_out status files source does well (inl out) = inr out
done_or_out status files source does well (inr dealt) = well dealt.plan dealt.did

audited_whole : (status : ℕ) (files : Contents) (source : Source) (does : PlanTree → ℕ → Type 0) → ((plan : PlanTree) → does plan status → status ≡ 4 → ⊥) → (status ≡ 9) ⊎ Deals files source does status → ¬ (status ≡ 4)
audited_whole status files source does whole (inl out) four = omega (arith, out, four)
audited_whole status files source does whole (inr dealt) four = whole dealt.plan dealt.did four

reset_said_well : (contents : Held) (plan : PlanValue) (past : List Entry) (text : List ℕ) (wanted status : ℕ) → IsUnhurt status → IsResetSaid contents plan past text wanted → status ≡ wanted → IsResetComplete status
reset_said_well contents plan past text wanted status u (all_back pending) same = inl same
reset_said_well contents plan past text wanted status u (disk_failed_back e next) same = absurd (u.sound same)
reset_said_well contents plan past text wanted status u (filled_back size need full) same = inr (inr same)

reset_well : (contents : Held) (plan : PlanValue) (past entries : List Entry) (before after : Option (List ℕ)) (closing : List ℕ) (status : ℕ) → IsUnhurt status
    → ShowsLines plan false past entries before after (IsResetSaid (with_entries contents entries) plan (entries ++ past)) closing status → IsResetComplete status
reset_well contents plan past entries before after closing status u (closed text wanted ended is closes) =
    ⊎_elim (λ same. reset_said_well (with_entries contents entries) plan (entries ++ past) text wanted status u is same) (λ seven. absurd (u.sayable seven)) (closes_status _ after text wanted status closes)
reset_well contents plan past entries before after closing status u (line_cut prefix) = absurd (u.sayable refl)
reset_well contents plan past entries before after closing status u (stopped text) = inr (inl refl)

-- ---- what met no fault is done

unopened_well : (name : List ℕ) (entry now : DeskState) (status : ℕ) → IsUnhurt status → IsBook (book_at entry name) → IsTrue entry.tells
    → Unopened name entry now status → status ≡ 9
unopened_well name entry now status u book told (exhausted stops) = stops.status_is
unopened_well name entry now status u book told (disk_failed_opening r) = absurd (⊎_elim u.sound u.sayable (closes_status entry.shown now.shown _ 5 status r.closes))
unopened_well name entry now status u book told (old_book is r) = absurd (book.0 (is told))
unopened_well name entry now status u book told (no_book offset byte is r) = absurd (book.1 offset byte (is told))

-- a file without a flow holds no flow that is asked for
none_asked : (wanted : Option (List ℕ)) (number : ℕ) → IsAskedFor wanted [] number → ⊥
none_asked None number is = omega (arith, is)
none_asked (Some name) number is = cc

no_flow_asked : (wanted : Option (List ℕ)) (found : Recovered) → HoldsFlow wanted found → HoldsNoFlow found → ⊥
no_flow_asked wanted found has (inl none) = let asked = has.1 [] (inr (refl, none)) in none_asked wanted asked.0 asked.1
no_flow_asked wanted found has (inr none) = let asked = has.1 [] (inl (record { is = none; legal = tt })) in none_asked wanted asked.0 asked.1

not_there_asked : (wanted : Option (List ℕ)) (elements : List Element) (sought : List ℕ) (number : ℕ) → wanted ≡ Some sought → number_among (details elements) sought ≡ None → IsAskedFor wanted elements number → ⊥
not_there_asked wanted elements sought number is none asked =
    let both : number_among (details elements) sought ≡ Some number = subst (λ (o : Option (List ℕ)). IsAskedFor o elements number) is asked in
    let clash : None ≡ Some number = sym none ∙ both in
    cc

unfound_well : (name : List ℕ) (wanted : Option (List ℕ)) (entry now : DeskState) (status : ℕ) → IsUnhurt status → HoldsFlow wanted (book_at entry name) → IsTrue entry.tells
    → Unfound name wanted entry now status → status ≡ 9
unfound_well name wanted entry now status u has told (unopened_book is) = unopened_well name entry now status u has.0 told is
unfound_well name wanted entry now status u has told (empty none r) = absurd (no_flow_asked wanted (book_at entry name) has (none told))
unfound_well name wanted entry now status u has told (not_there elements sought is held some none r) =
    let asked = has.1 elements (inl (held told)) in
    absurd (not_there_asked wanted elements sought asked.0 is none asked.1)

unhired_well : (name : List ℕ) (entry now : DeskState) (crew crew_after : CrewTold) (status : ℕ) → IsUnhurt status
    → Unhired name entry now crew crew_after status → status ≡ 9
unhired_well name entry now crew crew_after status u (exhausted_hire same stops) = stops.status_is
unhired_well name entry now crew crew_after status u (unhired same r) = absurd (⊎_elim u.hirable u.sayable (closes_status entry.shown now.shown _ 8 status r.closes))

promised_well : {gives : Order → Outcome → Type 0} {request : Request} {asked : Type 0} {back : GivenBack} (name : List ℕ) (contents : Held) (plan : PlanValue) (before : List Entry) (entry now : DeskState) (status : ℕ) → IsUnhurt status → ¬ asked
    → Promised gives request asked back name contents plan before entry now status → IsRunCompleteBy request.limit status
promised_well {gives} {request} {asked} name contents plan before entry now status u unasked p =
    let apart = ran_apart contents plan before p.entries p.stop entry.shown now.shown p.closing status p.ran in
    ended_well_by request.limit status (length p.entries) asked (ran_ended {old = ⊥} contents plan before p.entries p.stop entry.shown now.shown p.closing status p.ran) (λ never. never) u.sound apart.0 u.sayable u.hirable apart.1 unasked
    (ran_suspended contents plan before p.entries p.stop entry.shown now.shown p.closing status p.ran)

-- a book that is full ends a run well
full_well_by : (limit : Option ℕ) (status : ℕ) → status ≡ 13 → IsRunCompleteBy limit status
full_well_by None status is = inr (inr (inr (inr is)))
full_well_by (Some limit) status is = inl (inr (inr (inr (inr is))))

anew_well : {gives : Order → Outcome → Type 0} {request : Request} {asked : Type 0} {back : GivenBack} (name : List ℕ) (elements : List Element) (plan : PlanValue) (entry now : DeskState) (status : ℕ) → IsUnhurt status → ¬ asked
    → RunsAnew gives request asked back name elements plan entry now status → IsRunCompleteBy request.limit status
anew_well {gives} {request} name elements plan entry now status u unasked (overfull size need fresh full r) =
    ⊎_elim (λ is. full_well_by request.limit status is) (λ is. absurd (u.sayable is)) (closes_status entry.shown now.shown _ 13 status r.closes)
anew_well name elements plan entry now status u unasked (ran p) = promised_well name (begun_contents elements plan) plan [] entry now status u unasked p

-- a name that is free isn't taken
free_name : (elements : List Element) (plan : PlanValue) (number : ℕ) → HasPlaceFor elements plan → number_among (details elements) (detail_name plan) ≡ Some number → ⊥
free_name elements plan number has is = let clash : None ≡ Some number = sym has.unnamed ∙ is in cc

runs_well : {gives : Order → Outcome → Type 0} {request : Request} {asked : Type 0} (name : List ℕ) (crew crew_after : CrewTold) (entry now : DeskState) (tree : PlanTree) (status : ℕ) → IsUnhurt status → ¬ asked → IsTrue entry.tells
    → HasPlace tree (book_at entry name) → Runs gives request asked name crew crew_after entry now tree status → IsRunCompleteBy request.limit status
runs_well {gives} {request} name crew crew_after entry now tree status u unasked told has (unopened same is) =
    out_well_by request.limit status (unopened_well name entry now status u has.0 told is)
runs_well name crew crew_after entry now tree status u unasked told has (forbidden elements plan number same stays found is r) =
    absurd (free_name elements plan number (has.1 elements plan (found told) same) is)
runs_well name crew crew_after entry now tree status u unasked told has (too_many elements plan same stays found none many r) =
    absurd (omega (arith, many, (has.1 elements plan (found told) same).few))
runs_well {gives} {request} name crew crew_after entry now tree status u unasked told has (unhired_run elements plan same found place is) = out_well_by request.limit status (unhired_well name entry now crew crew_after status u is)
runs_well name crew crew_after entry now tree status u unasked told has (hired_run elements plan same found place hires a) = anew_well name elements plan entry now status u unasked a

demonstrates_well : {K : Type 0} {state : K → DeskState} {gives : Order → Outcome → Type 0} {hands : Want} {asked : Type 0} (name : List ℕ) (crew crew_after : CrewTold) (entry now : K) (seed size status : ℕ) → IsUnhurt status → ¬ asked → IsTrue (state now).tells
    → HasPlace (demo_tree seed size) (book_at (told_as (state now) (state entry)) name) → Demonstrates state gives hands asked name crew crew_after entry now seed size status → IsRunComplete status
demonstrates_well name crew crew_after entry now seed size status u unasked told has (ungenerated is same still) = out_well status is
demonstrates_well {K} {state} name crew crew_after entry now seed size status u unasked told has (demonstrated runs) =
    runs_well name crew crew_after (told_as (state now) (state entry)) (state now) (demo_tree seed size) status u unasked told has runs

resumes_well : {gives : Order → Outcome → Type 0} {request : Request} {asked : Type 0} (name : List ℕ) (wanted : Option (List ℕ)) (crew crew_after : CrewTold) (entry now : DeskState) (status : ℕ) → IsUnhurt status → ¬ asked → IsTrue entry.tells
    → HoldsFlow wanted (book_at entry name) → Resumes gives request asked name wanted crew crew_after entry now status → IsRunCompleteBy request.limit status
resumes_well {gives} {request} name wanted crew crew_after entry now status u unasked told has (unfound_again same is) = out_well_by request.limit status (unfound_well name wanted entry now status u has told is)
resumes_well {gives} {request} name wanted crew crew_after entry now status u unasked told has (unhired_again contents plan past held going is) = out_well_by request.limit status (unhired_well name entry now crew crew_after status u is)
resumes_well name wanted crew crew_after entry now status u unasked told has (resumed contents plan past runs held back hires p) = promised_well name contents plan past entry now status u unasked p

resets_well : (name : List ℕ) (wanted : Option (List ℕ)) (entry now : DeskState) (status : ℕ) → IsUnhurt status → IsTrue entry.tells → HoldsReverted wanted (book_at entry name)
    → ResetsBook name wanted entry now status → IsResetComplete status
resets_well name wanted entry now status u told has (unfound_reset is) = inr (inl (unfound_well name wanted entry now status u has.0 told is))
resets_well name wanted entry now status u told has (reset_forbidden contents plan past held never r) =
    absurd (clash (may_reset (outline_of plan) (snapshot (outline_of plan) past)) (has.1 contents plan past (held told)) never)
  where
    clash : (b : Bool) → b ≡ true → b ≡ false → ⊥
    clash b is isnt = cc
resets_well name wanted entry now status u told has (was_reset contents plan past held may p) = reset_well contents plan past p.entries entry.shown now.shown p.closing status u p.put_back.text

shows_well : (name : List ℕ) (wanted : Option (List ℕ)) (entry now : DeskState) (status : ℕ) → IsUnhurt status → IsTrue entry.tells → HoldsFlow wanted (book_at entry name)
    → ShowsBook name wanted entry now status → IsDoneComplete status
shows_well name wanted entry now status u told has (unfound_show is) = inr (unfound_well name wanted entry now status u has told is)
shows_well name wanted entry now status u told has (shown_whole contents plan past held r) = ⊎_elim (λ is. inl is) (λ is. absurd (u.sayable is)) (closes_status entry.shown now.shown _ 0 status r.closes)

lists_well : (name : List ℕ) (entry now : DeskState) (status : ℕ) → IsUnhurt status → IsTrue entry.tells → IsBook (book_at entry name) → ListsDetails name entry now status → IsDoneComplete status
lists_well name entry now status u told book (unopened_list is) = inr (unopened_well name entry now status u book told is)
lists_well name entry now status u told book (were_listed elements held r) = ⊎_elim (λ is. inl is) (λ is. absurd (u.sayable is)) (closes_status entry.shown now.shown _ 0 status r.closes)

out_complete : (command : Asked) (status : ℕ) → status ≡ 9 → IsComplete command status
out_complete (asked.Try file sets defer hands target) status is = out_well status is
out_complete (asked.Run file book sets defer hands stop target) status is = out_well_by stop status is
out_complete (asked.Resume book name hands stop) status is = out_well_by stop status is
out_complete (asked.Show book name) status is = inr is
out_complete (asked.Details book) status is = inr is
out_complete (asked.Migrate old new) status is = inr (inl is)
out_complete (asked.Check file sets target) status is = inr is
out_complete (asked.Reset book name) status is = inr (inl is)
out_complete (asked.Audit file log sets defer) status is = inr is
out_complete (asked.Demo seed size book hands) status is = out_well status is
out_complete (asked.Worker address sessions) status is = inr is
out_complete (asked.Board board request) status is = inr (inl is)
out_complete (asked.Conduct board owner hands) status is = inr (inl is)
out_complete (asked.Serve board address sessions) status is = inr (inl is)

module _ {K : Type 0} (state : K → DeskState) where
  asked_well : (gives : Want → Order → Outcome → Type 0) (asked_so : Type 0) (command : Asked) (files : Contents) (ports later : PortsTold) (entry now : K) (status : ℕ) → IsUnhurt status → ¬ asked_so
      → MayBeDone command files (told_as (state now) (state entry)) → Obeys state gives asked_so command files ports later entry now status → IsComplete command status
  asked_well gives asked_so (asked.Try file sets defer hands target) files ports later entry now status u unasked ready obeys =
      well_or_out None status files (source_so file sets defer target) (Tries (gives hands) hands asked_so ports.crew later.crew (state entry).shown (state now).shown) (λ dealt. tries_well ports.crew later.crew (state entry).shown (state now).shown dealt.plan status u unasked dealt.did)
      (accepted_done files (source_so file sets defer target) _ _ (state entry).shown (state now).shown status ready u.readable u.sayable obeys.0)
  asked_well gives asked_so (asked.Check file sets target) files ports later entry now status u unasked ready obeys =
      done_or_out status files (source_so file sets false target) (Checks (state entry).shown (state now).shown) (λ plan did. checks_well (state entry).shown (state now).shown _ status u did)
      (accepted_done files (source_so file sets false target) _ _ (state entry).shown (state now).shown status ready u.readable u.sayable obeys.0)
  asked_well gives asked_so (asked.Audit file log sets defer) files ports later entry now status u unasked ready obeys =
      audits_well files (source_so file sets defer None) log status u.readable u.sayable
      (audited_whole status files (source_so file sets defer None) (Audits files log (state entry).shown (state now).shown) (λ plan did. audits_whole files log (state entry).shown (state now).shown plan status did)
      (accepted_done files (source_so file sets defer None) _ _ (state entry).shown (state now).shown status ready.0 u.readable u.sayable obeys.0))
      ready.1 (audit_status files (source_so file sets defer None) log (state entry).shown (state now).shown status _ obeys.0)
  asked_well gives asked_so (asked.Run file book sets defer hands stop target) files ports later entry now status u unasked ready obeys =
      well_or_out stop status files (source_so file sets defer target) (Runs (gives hands) (spoken_run hands stop) asked_so book ports.crew later.crew (told_as (state now) (state entry)) (state now))
      (λ dealt. runs_well book ports.crew later.crew (told_as (state now) (state entry)) (state now) dealt.plan status u unasked ready.1.0 (ready.1.1 dealt.bytes dealt.plan dealt.given dealt.gives) dealt.did)
      (accepted_done files (source_so file sets defer target) _ _ (state entry).shown (state now).shown status ready.0 u.readable u.sayable obeys)
  asked_well gives asked_so (asked.Resume book name hands stop) files ports later entry now status u unasked ready obeys =
      resumes_well book name ports.crew later.crew (told_as (state now) (state entry)) (state now) status u unasked ready.0 ready.1 obeys
  asked_well gives asked_so (asked.Show book name) files ports later entry now status u unasked ready obeys = shows_well book name (told_as (state now) (state entry)) (state now) status u ready.0 ready.1 obeys.0
  asked_well gives asked_so (asked.Reset book name) files ports later entry now status u unasked ready obeys = resets_well book name (told_as (state now) (state entry)) (state now) status u ready.0 ready.1 obeys.0
  asked_well gives asked_so (asked.Details book) files ports later entry now status u unasked ready obeys = lists_well book (told_as (state now) (state entry)) (state now) status u ready.0 ready.1 obeys.0
  asked_well gives asked_so (asked.Migrate old new) files ports later entry now status u unasked ready obeys =
      migrates_well old new (told_as (state now) (state entry)) (state now) status u.sound u.sayable ready.0 ready.1 ready.2 obeys.0
  asked_well gives asked_so (asked.Demo seed size book hands) files ports later entry now status u unasked ready obeys =
      demonstrates_well book ports.crew later.crew entry now seed size status u unasked ready.0 ready.1 obeys
  asked_well gives asked_so (asked.Worker address sessions) files ports later entry now status u unasked ready obeys =
      works_well status u (works_one (gives (want.Local 1)) ports.crew later.crew ports.door later.door (state entry).shown (state now).shown address sessions status obeys.0)
  asked_well gives asked_so (asked.Conduct board owner hands) files ports later entry now status u unasked ready obeys =
      conducts_complete obeys.0 ready.0 ready.1 u.readable u.sound u.sayable u.hirable
  asked_well gives asked_so (asked.Serve board address sessions) files ports later entry now status u unasked ready obeys =
      serves_complete obeys.0 ready.0 ready.1 u.sound u.sayable u.hirable
  asked_well gives asked_so (asked.Board board request) files ports later entry now status u unasked ready obeys =
      complete_so request board (told_as (state now) (state entry)) (state now) status obeys.0 ready.0 ready.1 u.sound u.sayable

  -- where nothing stands against it and no count of faults rose, what was asked for was done
  pub completes : {gives : Want → Order → Outcome → Type 0} {asked_so : Type 0} (words : List (List ℕ)) (files : Contents) (ports later : PortsTold) (entry now : K) (status : ℕ) (before after : Counts)
      → Behaviour state gives asked_so words files ports later entry now status → HasEachCause status before after
      → (command : Asked) → command_of words ≡ Some command → MayBeDone command files (told_as (state now) (state entry)) → HasNoFault before after → ¬ asked_so → IsComplete command status
  completes words files ports later entry now status before after (behaviour.unheard is same still) causes command wanted ready none unasked = out_complete command status is
  completes words files ports later entry now status before after (behaviour.no_command unknown closes still) causes command wanted ready none unasked = absurd (cc)
  completes {gives} {asked_so} words files ports later entry now status before after (behaviour.obeyed other asks obeys) causes command wanted ready none unasked =
      let same : other ≡ command = cc in
      asked_well gives asked_so command files ports later entry now status (unhurt status before after causes none) unasked ready
      (subst (λ (c : Asked). Obeys state gives asked_so c files ports later entry now status) same obeys)
