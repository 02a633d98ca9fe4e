-- How the command that lets conductors work on a board goes. Lists of commands and histories have the newest first,
-- lists of calls the oldest.
use Rattle.std.specs.Prelude.{◌≡◌, ◌≢◌, ◌⊎◌, ◌≤◌, ◌<◌, ℕ, true, false, List, [], ◌++◌, length, Option, Some, None, IfSome, IsTrue}
use Rattle.std.specs.List.{AllByRecursion, flat_map, list_all}
use Rattle.tf_accept.specs.Accepted.{GivesNone, GivesPlan}
use Rattle.tf_accept.specs.declared.accepting.Refusal.{Refusal}
use Rattle.tf_actions.specs.Gives.{told_with}
use Rattle.tf_actions.specs.declared.orders.Order.{Order}
use Rattle.tf_actions.specs.declared.outcomes.Outcome.{Outcome}
use Rattle.tf_board.specs.Does.{call_text, Ends, EndsUnopened, HasJobs}
use Rattle.tf_board.specs.Board.{AreOfBoard, LeavesBoard, board_in}
use Rattle.tf_board.specs.declared.commands.Command.{Command}
use Rattle.tf_book.specs.SessionInvariant.{IsFullFor}
use Rattle.tf_book.specs.Book.{begun_contents}
use Rattle.tf_conductor.specs.Rounds.{AllClaimed, EndsConducting, HoldsKept, HoldsSome, IsCallBy, owner_name}
use Rattle.tf_conductor.specs.declared.runners.Ran.{Ran}
use Rattle.tf_conductor.specs.declared.runners.Ran.TheVariants as ran
use Rattle.tf_desk.specs.Crash.{Pairs, ShowsPrefix}
use Rattle.tf_desk.specs.State.{DeskState}
use Rattle.tf_details.specs.Elements.{Contents as BookContents, with_entries}
use Rattle.tf_engines.specs.Runs.{AreGiven, MayRecord, is_of, is_unsuspended}
use Rattle.tf_flow.specs.Plan.{PlanTree, PlanValue, plan_tree}
use Rattle.tf_journal.specs.Start.{IsStart, file_of}
use Rattle.tf_model.specs.Plan.{outline_of}
use Rattle.tf_model.specs.Steps.{Session}
use Rattle.tf_ports.specs.Ports.{CrewTold, GivenBack, Contents, GivesBytes, PassesLimit}
use Rattle.tf_ports.specs.declared.crews.Want.TheVariants as want
use Rattle.tf_ports.specs.declared.reading.TheConstants.{SOURCE_LIMIT}
use Rattle.tf_report.specs.Closing.{ClosesWithOrStops, cannot_read, cannot_hire}
use Rattle.tf_report.specs.declared.statuses.TheConstants.{UNREAD, UNHIRED, OUT_OF_MEMORY}
use Rattle.tf_shared_board.specs.Shared.{followed_by, HaltsFor, halt_status, halt_text}
use Rattle.tf_shared_board.specs.declared.calls.BoardHalt.{BoardHalt}
use Rattle.tf_shared_board.specs.declared.calls.Made.{Made}
use Rattle.tf_states.specs.declared.record.Entry.{Entry}
use Rattle.tf_states.specs.declared.state.FlowState.{FlowState}
use Rattle.tf_states.specs.declared.state.FlowState.TheVariants as flow
use Rattle.tf_values.specs.declared.value.Val.{Val}
use Rattle.tf_values.specs.declared.value.Val.TheVariants as value

-- ---- how the run of a job may end

-- what the book of a run would hold: the plan as its only detail, and these entries of it
abbrev pub run_contents : PlanValue → List Entry → BookContents
run_contents plan entries = with_entries (begun_contents [] plan) entries

module _ (gives : Order → Outcome → Type 0) where
  -- a plan was run by one hand from no entry on: a session was recorded, with outcomes that the hand gives, in which
  -- nobody suspended the flow; it stopped in this state, or was halted before
  pub record RunsAlone (plan : PlanTree) (stop : Option FlowState) : Type 0 where
    pub value : PlanValue
    pub same : plan_tree value ≡ plan
    pub entries : List Entry
    pub session : Session (outline_of value) [] entries stop
    pub given : AreGiven gives (outline_of value) [] entries
    pub hands : list_all (is_of 1) entries ≡ true
    pub unsuspended : list_all is_unsuspended entries ≡ true

  -- how the run of a plan may end: it is done where the flow ended in SUCCESS; and it is left where the flow ended
  -- otherwise, and where the record of the next entry, one that the hand may record, would have made the book longer
  -- than its limit
  pub data PlanRunsTo (plan : PlanTree) : Ran → Type 0 where
    succeeded : RunsAlone plan (Some flow.Success) → PlanRunsTo plan ran.Done
    ended : (last : FlowState) → last ≢ flow.Success → RunsAlone plan (Some last) → PlanRunsTo plan ran.Left
    filled : (stop : Option FlowState) (run : RunsAlone plan stop) (size need : ℕ)
        → IsFullFor (MayRecord gives 1 (outline_of run.value) run.entries)
        (run_contents run.value run.entries) run.value run.entries size need → PlanRunsTo plan ran.Left

  -- the same by the bytes of a flow file: their plan was run, or it is left for the first reason why they give none
  pub data BytesRunTo (bytes : List ℕ) : Ran → Type 0 where
    planned : (plan : PlanTree) (r : Ran) → GivesPlan [] false None bytes plan → PlanRunsTo plan r → BytesRunTo bytes r
    refused : (reason : Refusal) → GivesNone [] false None bytes reason → BytesRunTo bytes ran.Left

  -- by the details of a job and what the sources hold: as the run of the plan that the file of that name gives, or of
  -- the first reason why it gives none; it is left where the file is too long, and where the details are no text
  pub data JobRunsTo (files : Contents) : Val → Ran → Type 0 where
    by_file : (name bytes : List ℕ) (r : Ran) → GivesBytes files name bytes → length bytes ≤ SOURCE_LIMIT
        → BytesRunTo bytes r
        → JobRunsTo files (value.Text name) r
    too_long : (name : List ℕ) → PassesLimit files name → JobRunsTo files (value.Text name) ran.Left
    no_text : (details : Val) → ((name : List ℕ) → details ≢ value.Text name) → JobRunsTo files details ran.Left

-- ---- what conductors do

-- a call of one of so many conductors, by its owner, whom the word and the conductor's number name
pub record IsOwned (word : List ℕ) (count : ℕ) (m : Made) : Type 0 where
  pub few : m.number < count
  pub by : IsCallBy (owner_name word m.number) m.call

-- these calls were added to these commands: a board may hold them all; each is a conductor's; of each conductor they
-- are whole rounds, whose runs may end so, and only the last claim may lack its end, where the board was halted; else
-- each job that nobody had has a claim
pub record AreConducted (gives : Order → Outcome → Type 0) (files : Contents) (word : List ℕ) (count : ℕ)
    (past : List Command) (made : List Made)
    (halted : Option BoardHalt) : Type 0 where
  pub legal : AreOfBoard (followed_by past made)
  pub owned : AllByRecursion (IsOwned word count) made
  pub each : (number : ℕ) → number < count
      → EndsConducting (JobRunsTo gives files) None past number (owner_name word number) None made halted
  pub all : halted ≡ None → AllClaimed past made

-- ---- what is said

-- the line of a call that was made
abbrev pub made_text : Made → List ℕ
made_text m = call_text m.call m.job

-- the lines of the calls, in their order
abbrev pub calls_text : List Made → List ℕ
calls_text made = flat_map made_text made

-- the lines of the calls, and why the board doesn't go on
abbrev pub closing_text : List Made → Option BoardHalt → List ℕ
closing_text made halted = calls_text made ++ halt_text halted

-- ---- what the file has, and what a crash leaves

-- a crash leaves the commands from before and nothing said; or those of the first calls too, or of one more, and
-- nothing said; or those of all calls, or of one more where the disk failed, and a prefix of the message shown
abbrev pub LeavesCalls : List ℕ → ℕ → List Command → List Made → Option BoardHalt → DeskState → Pairs
LeavesCalls word count past made halted entry image text =
    LeavesBoard past entry image text
    ⊎ (HoldsSome (IsOwned word count) past made (board_in image) × (entry.shown ≡ Some text))
    ⊎ (HoldsKept (IsOwned word count) (followed_by past made) halted (board_in image)
    × ShowsPrefix entry.shown (closing_text made halted) (Some text))

-- the file has all calls, or one more where the disk failed; other files stay; and so much is left by a crash since the
-- call's start
pub record KeepsCalls (name word : List ℕ) (count : ℕ) (past : List Command) (made : List Made)
    (halted : Option BoardHalt) (entry now : DeskState) : Type 0 where
  pub file : HoldsKept (IsOwned word count) (followed_by past made) halted (board_in (file_of now name))
  pub others : (other : List ℕ) → other ≢ name → now.content.files other ≡ entry.content.files other
  pub crash : (moment : ℕ) → IsStart name entry now moment → (image text : List ℕ) → now.crashes moment image text
      → LeavesCalls word count past made halted entry image text

-- a halt has its cause; the lines of the calls were said, and why the board didn't go on, unless memory ran out for
-- that
pub record EndsCalls (name word : List ℕ) (count : ℕ) (past : List Command) (made : List Made)
    (halted : Option BoardHalt) (entry now : DeskState) (status : ℕ) : Type 0 where
  pub cause : IfSome halted (HaltsFor (followed_by past made) entry now)
  pub closes : ClosesWithOrStops entry.shown (closing_text made halted) (halt_status halted) now.shown status
  pub keeps : IsTrue entry.tells → KeepsCalls name word count past made halted entry now

-- ---- the command

-- so many hands were given back, where the crew tells them
abbrev pub AreManyBack : ℕ → GivenBack → Type 0
AreManyBack count None = Unit {0}
AreManyBack count (Some back) = length back ≡ count

-- so many hands of this process were hired, and nobody else; and as many were given back
pub record HiresMany (count : ℕ) (crew crew_after : CrewTold) : Type 0 where
  pub hired : crew_after.hired ≡ told_with crew.hired (want.Local count)
  pub back : AreManyBack count crew_after.back

-- so many conductors worked on the board, and their calls were said
pub record WorksOff (gives : Order → Outcome → Type 0) (files : Contents) (name word : List ℕ) (count : ℕ)
    (entry now : DeskState) (status : ℕ) : Type 0 where
  pub past : List Command
  pub legal : AreOfBoard past
  pub found : HasJobs name entry past
  pub made : List Made
  pub halted : Option BoardHalt
  pub conducted : AreConducted gives files word count past made halted
  pub ends : EndsCalls name word count past made halted entry now status

-- the ways that the command goes, with sources and a crew that tell so, and hands that keep a relation of orders and
-- outcomes: the board couldn't be opened; memory ran out before anyone was hired, a file couldn't be read, or no hand
-- be hired, and the board has what it had; or so many hands were hired, worked, and were given back
pub data Conducts (gives : Order → Outcome → Type 0) (files : Contents) (crew crew_after : CrewTold)
    (name word : List ℕ) (count : ℕ)
    (entry now : DeskState) (status : ℕ) : Type 0 where
  unopened : crew_after ≡ crew → EndsUnopened name entry now status
      → Conducts gives files crew crew_after name word count entry now status
  unready : crew_after ≡ crew → (past : List Command) → AreOfBoard past → HasJobs name entry past
      → status ≡ OUT_OF_MEMORY
      → Ends name past [] past entry now [] OUT_OF_MEMORY status
      → Conducts gives files crew crew_after name word count entry now status
  unread : crew_after ≡ crew → (past : List Command) → AreOfBoard past → HasJobs name entry past
      → Ends name past [] past entry now cannot_read UNREAD status
      → Conducts gives files crew crew_after name word count entry now status
  unhired : crew_after ≡ crew → (past : List Command) → AreOfBoard past → HasJobs name entry past
      → Ends name past [] past entry now cannot_hire UNHIRED status
      → Conducts gives files crew crew_after name word count entry now status
  conducted : HiresMany count crew crew_after → WorksOff gives files name word count entry now status
      → Conducts gives files crew crew_after name word count entry now status
