-- What is promised of a run, of a flow that is put back, and of a book that is kept; what becomes of the commands on a
-- book. Histories and elements have the newest first.
use Rattle.std.specs.Prelude.{◌≡◌, ◌≢◌, ◌⊎◌, ℕ, ◌≤◌, ◌+◌, Bool, IsTrue, List, [], ◌++◌, length, Option, Some, ◌<◌, ◌∷◌, not, is_none, None, true, false, if◌then◌else◌, slice_index_or}
use Rattle.tf_numbers.specs.Numbers.{Rises}
use Rattle.tf_desk.specs.Crash.{shown_with, ShowsPrefix}
use Rattle.tf_desk.specs.State.{DeskState, told_as}
use Rattle.tf_flow.specs.Plan.{PlanValue, PlanTree, plan_tree}
use Rattle.tf_states.specs.declared.record.Entry.{Entry}
use Rattle.tf_journal.specs.Start.{file_of, IsStart}
use Rattle.tf_journal.specs.Format.{Recovered, unborn, old_format, bodies, recovered, journal_bytes}
use Rattle.tf_journal.specs.declared.title.Title.TheVariants.{Book2 as book_title}
use Rattle.tf_details.specs.Elements.{Element, details, history, detail_name, number_among, bodies_of, CanRun, IsLegalBook, Contents, with_entries, past_of, IsContents}
use Rattle.tf_model.specs.Plan.{outline_of, entry_bound, Outline, count}
use Rattle.tf_book.specs.Book.{IsNoBook, bodies_with, listed, begun_contents, HasPlaceFor, IsFullToBegin}
use Rattle.tf_book.specs.SessionInvariant.{said, MayFollow, IsCut, IsFullFor, history_text}
use Rattle.std.specs.List.{list_all, AllByRecursion}
use Rattle.tf_states.specs.declared.state.FlowState.{FlowState}
use Rattle.tf_ports.specs.Ports.{GivenBack, IsFresh, wanted as number_of, CrewTold}
use Rattle.tf_ports.specs.declared.crews.Want.{Want}
use Rattle.tf_actions.specs.declared.orders.Order.{Order}
use Rattle.tf_actions.specs.declared.outcomes.Outcome.{Outcome}
use Rattle.tf_model.specs.Before.{Flow}
use Rattle.tf_model.specs.Forced.{end_of}
use Rattle.tf_model.specs.History.{flow_of, snapshot, state_of, is_settled}
use Rattle.tf_model.specs.Steps.{Session, entering, has_ended}
use Rattle.tf_facts.specs.Facts.{CompletedReversion}
use Rattle.tf_hands.specs.Hands.{is_of_flow, orders}
use Rattle.tf_report.specs.Lines.{report}
use Rattle.tf_engines.specs.Runs.{MayRecord, AreGiven, AreDue, AreWithin, IsSuspended, is_of}
use Rattle.tf_commands.specs.Messages.{summary, no_flow_text, no_flow_named, too_many_flows, state_forbids, detail_lines}
use Rattle.tf_report.specs.Closing.{disk_fault_text, book_full, ClosesWith, not_a_book, old_format as old_format_text, cannot_hire}
use Rattle.tf_report.specs.declared.statuses.TheConstants.{SUCCEEDED, DISK_FAILED, UNSAID, OUT_OF_MEMORY, REVERTED, FAILED, SUSPENDED, FULL, UNREAD, UNHIRED, NO_BOOK, FORBIDDEN, OLD_BOOK}
use Rattle.tf_commands.specs.declared.running.Request.{Request}
use Rattle.tf_book.specs.Turns.{AreReset, IsNextReset, may_reset}
use Rattle.tf_actions.specs.Gives.{told_with}
use Rattle.tf_commands.specs.Asking.{demo_tree}
use Rattle.tf_states.specs.declared.record.What.TheVariants as what
use Rattle.tf_states.specs.declared.state.FlowState.TheVariants as flow

-- ---- what is promised of a book's file, and of what a crash leaves of it
-- Histories have the newest entry first.

-- ---- files

-- no file changed, and none was picked or synced
abbrev pub NoFileChanges : DeskState → DeskState → Type 0
NoFileChanges entry now =
    IsTrue entry.tells → (now.content.files ≡ entry.content.files) × (now.content.marks ≡ entry.content.marks)

-- no file changed, and the disk had no fault
abbrev pub TouchesNoFile : DeskState → DeskState → Type 0
TouchesNoFile entry now = NoFileChanges entry now × (now.disk_faults ≡ entry.disk_faults)

-- what recovery makes of the bytes of a book's file
abbrev pub book_in : List ℕ → Recovered
book_in bytes = recovered book_title bytes

-- what it makes of the file of that name
abbrev pub book_at : DeskState → List ℕ → Recovered
book_at state name = book_in (file_of state name)

-- no flow is in it: it is unborn, or a book without a record
abbrev pub HoldsNoFlow : Recovered → Type 0
HoldsNoFlow found = (found ≡ unborn) ⊎ (found ≡ bodies [])

-- it holds just these elements, which are a legal book
pub record HoldsElements (elements : List Element) (found : Recovered) : Type 0 where
  pub is : found ≡ bodies (bodies_of elements)
  pub legal : IsLegalBook elements

-- it is a book of these elements; or it is unborn, and there are none
abbrev pub IsBookOf : List Element → Recovered → Type 0
IsBookOf elements found = HoldsElements elements found ⊎ ((elements ≡ []) × (found ≡ unborn))

-- it holds just the contents, a legal book in which the detail that is meant has this plan and this history
pub record HoldsHistory (contents : Contents) (plan : PlanValue) (past : List Entry) (found : Recovered) : Type 0 where
  pub is : found ≡ bodies (bodies_of contents.elements)
  pub held : IsContents plan contents
  pub past_is : past_of contents ≡ past

-- ---- the detail that a command asks for

-- without a name it is the last one, and else the one of that name
abbrev pub IsAskedFor : Option (List ℕ) → List Element → ℕ → Type 0
IsAskedFor None elements number = number + 1 ≡ length (details elements)
IsAskedFor (Some name) elements number = number_among (details elements) name ≡ Some number

-- a file holds the contents, in which the detail that is meant is the one that is asked for
pub record HoldsAsked (wanted : Option (List ℕ)) (contents : Contents) (plan : PlanValue) (past : List Entry)
    (found : Recovered) : Type 0 where
  pub holds : HoldsHistory contents plan past found
  pub asked : IsAskedFor wanted contents.elements contents.number

-- ---- nothing was recorded

-- the file stays, and the other files; a crash since the call's start leaves the file, and a prefix of what was said is
-- shown
pub record StaysAlone (name : List ℕ) (entry now : DeskState) (closing : List ℕ) : Type 0 where
  pub file : file_of now name ≡ file_of entry name
  pub others : (other : List ℕ) → other ≢ name → now.content.files other ≡ entry.content.files other
  pub crash : (moment : ℕ) → IsStart name entry now moment → (image text : List ℕ) → now.crashes moment image text
      → (image ≡ file_of entry name) × ShowsPrefix entry.shown closing (Some text)

-- ---- a run over a book

-- it holds the contents with these entries of the detail behind them
abbrev pub HoldsWith : Contents → List Entry → Recovered → Type 0
HoldsWith contents entries found = HoldsElements (with_entries contents entries).elements found

-- recovery finds that, and so every other detail as it was; or the detail didn't begin, and no entry was recorded: it
-- stays as it was found at first, or it was unborn, and is a book without a record
abbrev pub FindsSince : Recovered → Contents → List Entry → Recovered → Type 0
FindsSince first contents entries found = HoldsWith contents entries found
    ⊎ ((entries ≡ []) × ((found ≡ first) ⊎ ((first ≡ unborn) × (found ≡ bodies []))))

-- what is shown after a crash: a prefix of the lines of the entries that recovery finds, or, where these are all that
-- the call recorded and perhaps the pending one, all lines of the recorded entries and a prefix of the closing
abbrev pub IsShownThen : PlanValue → Bool → (before entries kept : List Entry) → Option (List ℕ) → List ℕ → List ℕ
    → Type 0
IsShownThen plan quiet before entries kept shown closing text =
    ShowsPrefix shown (said quiet (outline_of plan) before kept) (Some text)
    ⊎ ((more : List Entry) × (kept ≡ more ++ entries)
    × ShowsPrefix (shown_with shown (said quiet (outline_of plan) before entries)) closing (Some text))

-- a crash leaves this image and this text: recovery finds the contents with some of the call's entries, the oldest, and
-- perhaps the pending one the last
pub record MayLeave (first : Recovered) (contents : Contents) (plan : PlanValue) (quiet : Bool)
    (before entries pending : List Entry) (shown : Option (List ℕ)) (closing image text : List ℕ) : Type 0 where
  pub lost : List Entry
  pub kept : List Entry
  pub oldest : pending ++ entries ≡ lost ++ kept
  pub finds : FindsSince first contents kept (book_in image)
  pub spoken : IsShownThen plan quiet before entries kept shown closing text

-- at most one entry is pending behind the history, which it may follow as such an entry does, and only after a fault of
-- the disk
pub record IsPendingSo (may : List Entry → Entry → Type 0) (plan : PlanValue) (past pending : List Entry)
    (old new : DeskState) : Type 0 where
  pub few : MayFollow (may past) plan past pending
  pub caused : (pending ≡ []) ⊎ Rises old.disk_faults new.disk_faults

-- what is promised of the file and of a crash, where the desk tells its content and such an entry may be recorded: the
-- file has the contents with the entries behind them, and after a disk fault perhaps the pending one besides, or it may
-- still be as it was found at first, where nothing was recorded; of a file that held no flow and had at most 18 bytes,
-- where no fault of the disk came, each byte is told
pub record Lasts (may : List Entry → Entry → Type 0) (name : List ℕ) (contents : Contents) (plan : PlanValue)
    (quiet : Bool) (before entries : List Entry) (entry now : DeskState) (closing : List ℕ) : Type 0 where
  pub pending : List Entry
  pub few : IsPendingSo may plan (entries ++ before) pending entry now
  pub file : FindsSince (book_at entry name) contents entries (book_at now name)
      ⊎ HoldsWith contents (pending ++ entries) (book_at now name)
  pub exact : HoldsNoFlow (book_at entry name) → length (file_of entry name) ≤ 18
      → ¬ (Rises entry.disk_faults now.disk_faults)
      → HoldsWith contents entries (book_at now name)
      → file_of now name ≡ journal_bytes book_title (bodies_with contents entries)
  pub others : (other : List ℕ) → other ≢ name → now.content.files other ≡ entry.content.files other
  pub crash : (moment : ℕ) → IsStart name entry now moment → (image text : List ℕ) → now.crashes moment image text
      → MayLeave (book_at entry name) contents plan quiet before entries pending entry.shown closing image text

-- ---- what is promised of a run: its steps, its outcomes, the text that it shows and its end
-- Histories have the newest entry first.

-- a run with these hands that says each line, and is suspended after so many entries, if after so many
abbrev pub spoken_run : Want → Option ℕ → Request
spoken_run hands limit = record { want = hands; quiet = false; limit = limit }

-- a run with these hands that says no line of its entries
abbrev pub unspoken : Want → Request
unspoken hands = record { want = hands; quiet = true; limit = None }

-- ---- steps

-- what is recorded is a session of the plan: each entry is a step that a rule allows after those before it; a hand
-- records it whose number is below that of the hands that were hired; it is suspended only where a stop was asked for
-- or after so many entries; and past so many entries only the end of a task, SUSPENDING and a last state of the flow
-- come
pub record HasSteps (asked : Type 0) (number : ℕ) (limit : Option ℕ) (plan : Outline) (before entries : List Entry)
    (stop : Option FlowState) : Type 0 where
  pub session : Session plan before entries stop
  pub hands : list_all (is_of number) entries ≡ true
  pub due : AreDue asked limit entries
  pub within : AreWithin plan limit (length (entering (flow_of before))) entries
  pub suspended : stop ≡ Some flow.Suspended → IsSuspended asked limit entries

-- ---- the end

-- an entry that isn't of the flow
abbrev pub is_beside_flow : Entry → Bool
is_beside_flow e = not (is_of_flow e.what)

-- the flow's last entry records the end of the history before it
pub record EndsBy (plan : Outline) (past : List Entry) (last : FlowState) : Type 0 where
  pub since : List Entry
  pub hand : ℕ
  pub earlier : List Entry
  pub splits : past ≡ since ++ record { hand = hand; what = what.Flow last } ∷ earlier
  pub is_last : list_all is_beside_flow since ≡ true
  pub ends : end_of plan (snapshot plan earlier) ≡ Some last

-- the flow has no retry controller
abbrev pub has_no_retry : Flow → Bool
has_no_retry f = is_none f.place.retry

-- no flow of the plan has one
abbrev pub has_no_retries : Outline → Bool
has_no_retries plan = list_all has_no_retry plan.flows

-- the end: where the run stopped with an end, the flow's last entry records it; and where that is REVERTED, the
-- reversion is completed, and in a plan without retry controllers every atom is settled, so that all that was executed
-- is undone
pub record HasReached (plan : Outline) (past : List Entry) (last : FlowState) : Type 0 where
  pub end : has_ended last ≡ true → EndsBy plan past last
  pub completed : last ≡ flow.Reverted → CompletedReversion plan past
  pub undone : last ≡ flow.Reverted → has_no_retries plan ≡ true → (a : ℕ) → a < count plan
      → is_settled (state_of past a) ≡ true

-- ---- the text

-- the status of a run that stopped in a state
abbrev pub stop_status : FlowState → ℕ
stop_status flow.Success = SUCCEEDED
stop_status flow.Reverted = REVERTED
stop_status flow.Suspended = SUSPENDED
stop_status _ = FAILED

-- what is said before the report: of a run that said no lines, how many tasks the plan has and how many entries the
-- history
abbrev pub heading_of : Request → Outline → List Entry → List ℕ
heading_of request plan past = if request.quiet then summary plan (length past) else []

-- what a run may record after a history: an entry by one of its hands, with an outcome that its order may have, where
-- the flow hasn't ended
abbrev pub MayRun : (Order → Outcome → Type 0) → Request → PlanValue → List Entry → Entry → Type 0
MayRun gives request plan = MayRecord gives (number_of request.want) (outline_of plan)

-- what a run says last, and its status: the report behind its heading, where it stopped in a state; or, where the flow
-- hadn't ended, why it was halted: the disk failed, or the journal of the contents is full for the next such entry
pub data IsLastSaid (may : List Entry → Entry → Type 0) (contents : Contents) (plan : PlanValue) (heading : List ℕ)
    (past : List Entry) : Option FlowState → List ℕ → ℕ → Type 0 where
  reported : (last : FlowState) → IsLastSaid may contents plan heading past (Some last)
      (heading ++ report (outline_of plan) (snapshot (outline_of plan) past)) (stop_status last)
  disk_failed : (stop : Option FlowState) → has_ended (flow_of past) ≡ false
      → IsLastSaid may contents plan heading past stop disk_fault_text DISK_FAILED
  filled : (stop : Option FlowState) (size need : ℕ) → IsFullFor (may past) contents plan past size need
      → IsLastSaid may contents plan heading past stop (book_full size need) FULL

-- the text after a command that records: the one before it, the lines of its entries, and what it says last, which is
-- the closing; where the output failed it is cut within the line of the newest entry, and no entry was recorded after
-- it, or within the closing
pub data ShowsLines (plan : PlanValue) (quiet : Bool) (before entries : List Entry) (shown now : Option (List ℕ))
    (last : List ℕ → ℕ → Type 0) : List ℕ → ℕ → Type 0 where
  closed : (closing : List ℕ) (wanted status : ℕ) → last closing wanted
      → ClosesWith (shown_with shown (said quiet (outline_of plan) before entries)) closing wanted now status
      → ShowsLines plan quiet before entries shown now last closing status
  line_cut : IsCut quiet (outline_of plan) before shown entries now
      → ShowsLines plan quiet before entries shown now last [] UNSAID
  -- memory ran out after the lines of its entries were said
  stopped : now ≡ shown_with shown (said quiet (outline_of plan) before entries)
      → ShowsLines plan quiet before entries shown now last [] OUT_OF_MEMORY

-- the text after a run that stopped so
abbrev pub RunShows : (Order → Outcome → Type 0) → Request → Contents → PlanValue → (before entries : List Entry)
    → (shown now : Option (List ℕ)) → Option FlowState → List ℕ → ℕ → Type 0
RunShows gives request contents plan before entries shown now stop =
    ShowsLines plan request.quiet before entries shown now
    (IsLastSaid (MayRun gives request plan) (with_entries contents entries) plan
    (heading_of request (outline_of plan) (entries ++ before)) (entries ++ before) stop)

-- ---- the orders

-- what a hand was given since a history: the orders of the starts and restarts that it recorded after it, in order,
-- each once; the last one may be missing, but none is where so much is whole
pub record WasGiven (whole : Type 0) (plan : Outline) (before past : List Entry) (hand : ℕ)
    (did : List Order) : Type 0 where
  pub missing : List Order
  pub few : length missing ≤ 1
  pub none : whole → missing ≡ []
  pub since : orders plan hand past ≡ orders plan hand before ++ (did ++ missing)

-- the same of a hand that may tell nothing
abbrev pub WasGivenIfTold : Type 0 → Outline → (before past : List Entry) → ℕ → Option (List Order) → Type 0
WasGivenIfTold whole plan before past hand None = Unit {0}
WasGivenIfTold whole plan before past hand (Some did) = WasGiven whole plan before past hand did

-- so it is of each of these hands, in the order of their numbers
abbrev pub WereGiven : Type 0 → Outline → (before past : List Entry) → List (Option (List Order)) → Type 0
WereGiven whole plan before past hands =
    (hand : ℕ) → WasGivenIfTold whole plan before past hand (slice_index_or hands hand None)

-- so it is of those that were given back, where these are told
abbrev pub WereGivenBack : Type 0 → Outline → (before past : List Entry) → GivenBack → Type 0
WereGivenBack whole plan before past None = Unit {0}
WereGivenBack whole plan before past (Some hands) = WereGiven whole plan before past hands

-- a status tells of a run that stopped in a state
abbrev pub HasStopped : ℕ → Type 0
HasStopped status = (last : FlowState) × (status ≡ stop_status last)

-- ---- all of it

-- a run of the plan by the hands that were hired, which keep a relation of orders and outcomes, as it is requested:
-- from the contents of its book and the history before it to its entries and the state in which it stopped, or None
-- where it was halted before that; from the text shown before it to the one after it, its closing and its status
pub record Ran (gives : Order → Outcome → Type 0) (request : Request) (asked : Type 0) (contents : Contents)
    (plan : PlanValue) (before entries : List Entry)
    (stop : Option FlowState) (shown now : Option (List ℕ)) (closing : List ℕ) (status : ℕ) : Type 0 where
  pub steps : HasSteps asked (number_of request.want) request.limit (outline_of plan) before entries stop
  pub bound : length entries ≤ entry_bound plan
  pub outcomes : AreGiven gives (outline_of plan) before entries
  pub text : RunShows gives request contents plan before entries shown now stop closing status
  pub end : (last : FlowState) → stop ≡ Some last → HasReached (outline_of plan) (entries ++ before) last

-- ---- what is promised of a flow that is put back: its steps and the text that it shows
-- Histories have the newest entry first.

-- what a reset says last, and its status: nothing, where all was put back; or why the book was halted, while an entry
-- was left to record
pub data IsResetSaid (contents : Contents) (plan : PlanValue) (past : List Entry) : List ℕ → ℕ → Type 0 where
  all_back : flow_of past ≡ flow.Pending → IsResetSaid contents plan past [] SUCCEEDED
  disk_failed_back : (e : Entry) → IsNextReset (outline_of plan) past e
      → IsResetSaid contents plan past disk_fault_text DISK_FAILED
  filled_back : (size need : ℕ) → IsFullFor (IsNextReset (outline_of plan) past) contents plan past size need
      → IsResetSaid contents plan past (book_full size need) FULL

-- a flow is put back: by hand 0 its REVERTED and IGNORE atoms become PENDING, in tree order, and then the flow does;
-- with status 0 all of it was recorded, and what was recorded is said
pub record PutBack (contents : Contents) (plan : PlanValue) (before entries : List Entry) (shown now : Option (List ℕ))
    (closing : List ℕ) (status : ℕ) : Type 0 where
  pub steps : AreReset (outline_of plan) entries before
  pub text : ShowsLines plan false before entries shown now
      (IsResetSaid (with_entries contents entries) plan (entries ++ before)) closing status

-- ---- what is known of the desk where a command only said something

-- nothing was done with the desk but saying: no file changed, the disk had no fault, and no count fell
pub record OnlySays (entry now : DeskState) : Type 0 where
  pub tells : now.tells ≡ entry.tells
  pub files : NoFileChanges entry now
  pub disk : now.disk_faults ≡ entry.disk_faults
  pub out : entry.out_faults ≤ now.out_faults
  pub asks : entry.asks ≤ now.asks

-- a command said its last, or nothing: only a text that couldn't be said tells of an output fault, and no file was read
pub record HasSaid (entry now : DeskState) (status : ℕ) : Type 0 where
  pub says : OnlySays entry now
  pub unsaid : status ≡ UNSAID → Rises entry.out_faults now.out_faults
  pub read : status ≢ UNREAD

-- as many hands were given back as are wanted, where the crew tells them
abbrev pub AreAllBack : Want → GivenBack → Type 0
AreAllBack hands None = Unit {0}
AreAllBack hands (Some back) = length back ≡ number_of hands

-- the hands that were wanted were hired, and nobody else; and all were given back
pub record Hires (hands : Want) (crew crew_after : CrewTold) : Type 0 where
  pub hired : crew_after.hired ≡ told_with crew.hired hands
  pub back : AreAllBack hands crew_after.back

-- what the file of that name is, where the desk tells its content
abbrev pub IsFile : List ℕ → DeskState → (Recovered → Type 0) → Type 0
IsFile name entry is = IsTrue entry.tells → is (book_at entry name)

-- nothing was recorded, and this was said last, if it was
abbrev pub NothingRecorded : List ℕ → DeskState → DeskState → List ℕ → Type 0
NothingRecorded name entry now closing = IsTrue entry.tells → StaysAlone name entry now closing

-- a command ends with this message where it did nothing
pub record Refuses (name : List ℕ) (entry now : DeskState) (message : List ℕ) (wanted status : ℕ) : Type 0 where
  pub closes : ClosesWith entry.shown message wanted now.shown status
  pub alone : NothingRecorded name entry now message

-- memory ran out, and nothing was done or said
pub record Stops (name : List ℕ) (entry now : DeskState) (status : ℕ) : Type 0 where
  pub status_is : status ≡ OUT_OF_MEMORY
  pub quiet : now.shown ≡ entry.shown
  pub alone : NothingRecorded name entry now []

-- one or the other
abbrev pub RefusesOrStops : List ℕ → DeskState → DeskState → List ℕ → ℕ → ℕ → Type 0
RefusesOrStops name entry now message wanted status =
    Stops name entry now status ⊎ Refuses name entry now message wanted status

-- the book couldn't be opened: memory ran out, the disk failed, the file is a book of the older format, or it is no
-- book
pub data Unopened (name : List ℕ) (entry now : DeskState) (status : ℕ) : Type 0 where
  exhausted : Stops name entry now status → Unopened name entry now status
  disk_failed_opening : Refuses name entry now disk_fault_text DISK_FAILED status → Unopened name entry now status
  old_book : IsFile name entry (λ found. found ≡ old_format) → Refuses name entry now old_format_text OLD_BOOK status
      → Unopened name entry now status
  no_book : (offset : ℕ) (byte : Option ℕ) → IsFile name entry (λ found. IsNoBook found offset byte)
      → Refuses name entry now (not_a_book offset byte) NO_BOOK status → Unopened name entry now status

-- the flow that is asked for can't be had: the book couldn't be opened; it holds no flow; or it holds some, and none of
-- that name
pub data Unfound (name : List ℕ) (wanted : Option (List ℕ)) (entry now : DeskState) (status : ℕ) : Type 0 where
  unopened_book : Unopened name entry now status → Unfound name wanted entry now status
  empty : IsFile name entry HoldsNoFlow → Refuses name entry now no_flow_text FORBIDDEN status
      → Unfound name wanted entry now status
  not_there : (elements : List Element) (sought : List ℕ) → wanted ≡ Some sought
      → IsFile name entry (HoldsElements elements)
      → details elements ≢ [] → number_among (details elements) sought ≡ None
      → Refuses name entry now (no_flow_named sought) FORBIDDEN status → Unfound name wanted entry now status

-- a run of the plan from these contents and this history on, as it is requested, by hands that were given back so, with
-- what is promised of its file
pub record Promised (gives : Order → Outcome → Type 0) (request : Request) (asked : Type 0) (back : GivenBack)
    (name : List ℕ) (contents : Contents) (plan : PlanValue) (before : List Entry)
    (entry now : DeskState) (status : ℕ) : Type 0 where
  pub entries : List Entry
  pub stop : Option FlowState
  pub closing : List ℕ
  pub ran : Ran gives request asked contents plan before entries stop entry.shown now.shown closing status
  pub orders_given : WereGivenBack (HasStopped status) (outline_of plan) before (entries ++ before) back
  pub lasts : IsTrue entry.tells → Lasts
      (MayRun gives request plan) name contents plan request.quiet before entries entry now closing

-- a flow that was put back from these contents and this history on, with what is promised of its file
pub record PutsBack (name : List ℕ) (contents : Contents) (plan : PlanValue) (before : List Entry)
    (entry now : DeskState) (status : ℕ) : Type 0 where
  pub entries : List Entry
  pub closing : List ℕ
  pub put_back : PutBack contents plan before entries entry.shown now.shown closing status
  pub lasts : IsTrue entry.tells → Lasts
      (IsNextReset (outline_of plan)) name contents plan false before entries entry now closing

-- no hands were hired, and nothing was recorded: memory ran out, or they couldn't be hired
pub data Unhired (name : List ℕ) (entry now : DeskState) (crew crew_after : CrewTold) (status : ℕ) : Type 0 where
  exhausted_hire : crew_after ≡ crew → Stops name entry now status → Unhired name entry now crew crew_after status
  unhired : crew_after ≡ crew → Refuses name entry now cannot_hire UNHIRED status
      → Unhired name entry now crew crew_after status

-- the hands that were given back had got no order, where the crew tells them
abbrev pub AreFreshBack : GivenBack → Type 0
AreFreshBack None = Unit {0}
AreFreshBack (Some back) = AllByRecursion IsFresh back

-- a run of the plan as a new detail behind the elements, by hands that were given back so: the book is full for the
-- detail, and they got no order; or they run it from the empty history on
pub data RunsAnew (gives : Order → Outcome → Type 0) (request : Request) (asked : Type 0) (back : GivenBack)
    (name : List ℕ) (elements : List Element) (plan : PlanValue)
    (entry now : DeskState) (status : ℕ) : Type 0 where
  overfull : (size need : ℕ) → AreFreshBack back → IsFullToBegin elements plan size need
      → Refuses name entry now (book_full size need) FULL status
      → RunsAnew gives request asked back name elements plan entry now status
  ran : Promised gives request asked back name (begun_contents elements plan) plan [] entry now status
      → RunsAnew gives request asked back name elements plan entry now status

-- to run a plan over a book: it can't be opened; it has a detail of that name, whose state is said; it has as many
-- details as it may; no hands are hired; or those that the request wants are, and run this plan as a new detail
pub data Runs (gives : Order → Outcome → Type 0) (request : Request) (asked : Type 0) (name : List ℕ)
    (crew crew_after : CrewTold)
    (entry now : DeskState) (tree : PlanTree) (status : ℕ) : Type 0 where
  unopened : crew_after ≡ crew → Unopened name entry now status
      → Runs gives request asked name crew crew_after entry now tree status
  forbidden : (elements : List Element) (plan : PlanValue) (number : ℕ) → plan_tree plan ≡ tree → crew_after ≡ crew
      → IsFile name entry (IsBookOf elements)
      → number_among (details elements) (detail_name plan) ≡ Some number
      → Refuses name entry now (state_forbids (detail_name plan) (flow_of (history number elements))) FORBIDDEN status
      → Runs gives request asked name crew crew_after entry now tree status
  too_many : (elements : List Element) (plan : PlanValue) → plan_tree plan ≡ tree → crew_after ≡ crew
      → IsFile name entry (IsBookOf elements)
      → number_among (details elements) (detail_name plan) ≡ None → length (details elements) ≡ 64
      → Refuses name entry now too_many_flows FORBIDDEN status
      → Runs gives request asked name crew crew_after entry now tree status
  unhired_run : (elements : List Element) (plan : PlanValue) → plan_tree plan ≡ tree
      → IsFile name entry (IsBookOf elements) → HasPlaceFor elements plan
      → Unhired name entry now crew crew_after status
      → Runs gives request asked name crew crew_after entry now tree status
  hired_run : (elements : List Element) (plan : PlanValue) → plan_tree plan ≡ tree
      → IsFile name entry (IsBookOf elements) → HasPlaceFor elements plan
      → Hires request.want crew crew_after
      → RunsAnew gives request asked crew_after.back name elements plan entry now status
      → Runs gives request asked name crew crew_after entry now tree status

-- to demonstrate is to run the generated flow, without a line of an entry; memory may run out before it was generated
pub data Demonstrates {K : Type 0} (state : K → DeskState) (gives : Order → Outcome → Type 0) (hands : Want)
    (asked : Type 0) (name : List ℕ)
    (crew crew_after : CrewTold) (entry now : K) (seed size status : ℕ) : Type 0 where
  ungenerated : status ≡ OUT_OF_MEMORY → crew_after ≡ crew → now ≡ entry
      → Demonstrates state gives hands asked name crew crew_after entry now seed size status
  demonstrated : Runs gives (unspoken hands) asked name crew crew_after (told_as (state now) (state entry)) (state now)
      (demo_tree seed size) status
      → Demonstrates state gives hands asked name crew crew_after entry now seed size status

-- who goes on with a flow in this state: nobody, where it had ended; else the hands that are wanted, which are given
-- back so
abbrev pub GoesOnBy : FlowState → Want → CrewTold → CrewTold → GivenBack → Type 0
GoesOnBy at hands crew crew_after back =
    ((has_ended at ≡ true) × (crew_after ≡ crew) × (back ≡ None))
    ⊎ ((has_ended at ≡ false) × Hires hands crew crew_after × (back ≡ crew_after.back))

-- to resume a flow of a book: it can't be had; no hands are hired; or its plan runs on from the history that it has,
-- with the hands that the request wants, or without any where the flow had ended
pub data Resumes (gives : Order → Outcome → Type 0) (request : Request) (asked : Type 0) (name : List ℕ)
    (wanted : Option (List ℕ)) (crew crew_after : CrewTold)
    (entry now : DeskState) (status : ℕ) : Type 0 where
  unfound_again : crew_after ≡ crew → Unfound name wanted entry now status
      → Resumes gives request asked name wanted crew crew_after entry now status
  unhired_again : (contents : Contents) (plan : PlanValue) (past : List Entry)
      → IsFile name entry (HoldsAsked wanted contents plan past) → has_ended (flow_of past) ≡ false
      → Unhired name entry now crew crew_after status
      → Resumes gives request asked name wanted crew crew_after entry now status
  resumed : (contents : Contents) (plan : PlanValue) (past : List Entry) → CanRun plan
      → IsFile name entry (HoldsAsked wanted contents plan past)
      → (back : GivenBack) → GoesOnBy (flow_of past) request.want crew crew_after back
      → Promised gives request asked back name contents plan past entry now status
      → Resumes gives request asked name wanted crew crew_after entry now status

-- to show a flow of a book: it can't be had; or the lines of its whole history are said, and then the table
pub data ShowsBook (name : List ℕ) (wanted : Option (List ℕ)) (entry now : DeskState) (status : ℕ) : Type 0 where
  unfound_show : Unfound name wanted entry now status → ShowsBook name wanted entry now status
  shown_whole : (contents : Contents) (plan : PlanValue) (past : List Entry)
      → IsFile name entry (HoldsAsked wanted contents plan past)
      → Refuses name entry now (history_text (outline_of plan) past) SUCCEEDED status
      → ShowsBook name wanted entry now status

-- to put a flow of a book back: it can't be had; it isn't REVERTED or an atom isn't settled, and its state is said; or
-- it is put back
pub data ResetsBook (name : List ℕ) (wanted : Option (List ℕ)) (entry now : DeskState) (status : ℕ) : Type 0 where
  unfound_reset : Unfound name wanted entry now status → ResetsBook name wanted entry now status
  reset_forbidden : (contents : Contents) (plan : PlanValue) (past : List Entry)
      → IsFile name entry (HoldsAsked wanted contents plan past)
      → may_reset (outline_of plan) (snapshot (outline_of plan) past) ≡ false
      → Refuses name entry now (state_forbids (detail_name plan) (flow_of past)) FORBIDDEN status
      → ResetsBook name wanted entry now status
  was_reset : (contents : Contents) (plan : PlanValue) (past : List Entry)
      → IsFile name entry (HoldsAsked wanted contents plan past)
      → may_reset (outline_of plan) (snapshot (outline_of plan) past) ≡ true
      → PutsBack name contents plan past entry now status → ResetsBook name wanted entry now status

-- to list the details of a book: it can't be opened; or the line of each is said, in the order of their numbers
pub data ListsDetails (name : List ℕ) (entry now : DeskState) (status : ℕ) : Type 0 where
  unopened_list : Unopened name entry now status → ListsDetails name entry now status
  were_listed : (elements : List Element) → IsFile name entry (IsBookOf elements)
      → Refuses name entry now (detail_lines 0 (listed elements)) SUCCEEDED status → ListsDetails name entry now status
