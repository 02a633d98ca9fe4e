-- A life of a file: calls of the program, one after another, each from what the one before it left.
use Rattle.std.specs.Prelude.{◌≡◌, ◌⊎◌, ◌<◌, ℕ, Bool, true, IsTrue, List, [], ◌∷◌, ◌++◌, Option, Some, None}
use Rattle.tf_desk.specs.Crash.{shown_with, Mark}
use Rattle.tf_desk.specs.State.{DeskState}
use Rattle.tf_flow.specs.Plan.{PlanValue}
use Rattle.tf_states.specs.declared.record.Entry.{Entry}
use Rattle.tf_states.specs.declared.state.FlowState.{FlowState}
use Rattle.tf_ports.specs.Ports.{Contents, wanted as number_of}
use Rattle.tf_ports.specs.declared.crews.Want.{Want}
use Rattle.tf_actions.specs.declared.orders.Order.{Order}
use Rattle.tf_actions.specs.declared.outcomes.Outcome.{Outcome}
use Rattle.tf_journal.specs.Format.{Recovered, unborn}
use Rattle.tf_journal.specs.Start.{file_of, IsStart}
use Rattle.tf_hands.specs.Hands.{orders}
use Rattle.tf_model.specs.Scope.{IsGiven}
use Rattle.tf_model.specs.Plan.{Outline, outline_of}
use Rattle.tf_model.specs.Steps.{has_ended}
use Rattle.tf_board.specs.declared.calls.BoardRequest.{BoardRequest}
use Rattle.tf_board.specs.declared.calls.BoardRequest.TheVariants as request
use Rattle.tf_board.specs.declared.calls.JobCall.TheVariants as call
use Rattle.tf_words.specs.declared.asked.Asked.{Asked}
use Rattle.tf_words.specs.declared.asked.Asked.TheVariants as asked
use Rattle.tf_board.specs.Does.{answer_of, number_of as job_of, Does}
use Rattle.tf_board.specs.Board.{AreOfBoard, board_in, Holds, Finds, state_of}
use Rattle.tf_board.specs.declared.jobs.Standing.{Standing}
use Rattle.tf_states.specs.Transitions.{job_may}
use Rattle.tf_board.specs.declared.commands.Command.{Command}
use Rattle.tf_board.specs.declared.commands.Command.TheVariants as command
use Rattle.tf_board.specs.declared.commands.JobAction.TheVariants as action
use Rattle.tf_book.specs.Turns.{IsNextReset}
use Rattle.tf_commands.specs.Asking.{counts_of, HasNoFault, IsWork, wanted_by, WasAsked}
use Rattle.tf_numbers.specs.Numbers.{Rises}
use Rattle.tf_words.specs.Words.{command_of}
use Rattle.tf_details.specs.Elements.{Element, plan_of, history, Contents as BookContents, with_entries}
use Rattle.tf_commands.specs.Books.{Hires, book_in, book_at, HoldsElements, IsShownThen, HasReached, stop_status}
use Rattle.tf_commands.specs.Behaviour.{PortsTold, Behaviour, MayBeDone, IsComplete}
use Rattle.tf_migration.specs.Migrates.{HoldsFlow, carried, IsFirstSync}
use Rattle.tf_report.specs.declared.statuses.TheConstants.{OUT_OF_MEMORY, FULL}

-- the book or the board that a command is about
abbrev pub file_of_command : Asked → Option (List ℕ)
file_of_command (asked.Run file book sets defer hands stop target) = Some book
file_of_command (asked.Resume book name hands stop) = Some book
file_of_command (asked.Show book name) = Some book
file_of_command (asked.Reset book name) = Some book
file_of_command (asked.Details book) = Some book
file_of_command (asked.Demo seed size book hands) = Some book
file_of_command (asked.Conduct board owner hands) = Some board
file_of_command (asked.Serve board address sessions) = Some board
file_of_command (asked.Board board request) = Some board
file_of_command command = None

-- the words are a command about the file of that name
abbrev pub IsAbout : List (List ℕ) → List ℕ → Type 0
IsAbout words name = (command : Asked) × (command_of words ≡ Some command) × (file_of_command command ≡ Some name)

-- how many faults the sources, the crew and the door have met
pub record PortFaults : Type 0 where
  pub sources : ℕ
  pub crew : ℕ
  pub door : ℕ

module _ {K : Type 0} (state : K → DeskState) (gives : Want → Order → Outcome → Type 0) where
  -- a call of the program, of which the top call's clauses on its behaviour and on completeness hold: by any words, with
  -- any sources, hired hands and faults, on a desk that told what its files have and still tells it, and whatever its
  -- status
  pub record Call : Type 0 where
    pub words : List (List ℕ)
    pub files : Contents
    pub ports : PortsTold
    pub later : PortsTold
    pub entry : K
    pub now : K
    pub status : ℕ
    pub told : IsTrue (state entry).tells
    pub tells : IsTrue (state now).tells
    pub behaviour : Behaviour state gives (WasAsked (state entry) (state now)) words files ports later entry now status
    pub faults : PortFaults
    pub faults_later : PortFaults
    pub complete : (command : Asked) → command_of words ≡ Some command → MayBeDone command files (state entry)
        → ¬ (WasAsked (state entry) (state now)) → (IsWork command → ¬ (Rises faults.door faults_later.door))
        → HasNoFault (counts_of (state entry) faults.sources faults.crew)
        (counts_of (state now) faults_later.sources faults_later.crew) → IsComplete command status

  -- what a call leaves of the file: what it has when the call returns; or, where the words are about it, what a crash
  -- inside the call left; or of a migration's new book, which was unborn, what a crash since its first sync left; or,
  -- where the words aren't about it, what it had before the call, since a crash leaves other files as they are
  pub data Leaves (name : List ℕ) (call : Call) : List ℕ → Type 0 where
    returned : Leaves name call (file_of (state call.now) name)
    crashed : IsAbout call.words name → (moment : ℕ) → IsStart name (state call.entry) (state call.now) moment
        → (image text : List ℕ) → (state call.now).crashes moment image text → Leaves name call image
    migrating : (old : List ℕ) → command_of call.words ≡ Some (asked.Migrate old name)
        → book_at (state call.entry) name ≡ unborn → (before : List Mark) (moment : ℕ)
        → IsFirstSync name before (state call.entry) (state call.now) moment → (image text : List ℕ)
        → (state call.now).crashes moment image text → Leaves name call image
    elsewhere : ¬ (IsAbout call.words name) → Leaves name call (file_of (state call.entry) name)

  -- no count of faults rose in it, and no stop was asked for
  pub record IsUnfailing (call : Call) : Type 0 where
    pub counts : HasNoFault (counts_of (state call.entry) call.faults.sources call.faults.crew)
        (counts_of (state call.now) call.faults_later.sources call.faults_later.crew)
    pub door : ¬ (Rises call.faults.door call.faults_later.door)
    pub unasked : ¬ (WasAsked (state call.entry) (state call.now))

  -- a hand of this number was hired for a call as one of the hands that are wanted: its words ask for these, they were
  -- hired, and so many there are
  pub record IsHired (call : Call) (hand : ℕ) (hands : Want) : Type 0 where
    pub wanted : wanted_by call.words ≡ Some hands
    pub hires : Hires hands call.ports.crew call.later.crew
    pub among : hand < number_of hands

  -- the text that was shown when a call had left the file so
  pub data Shown (name : List ℕ) (call : Call) : List ℕ → List ℕ → Type 0 where
    after_call : (text : List ℕ) → (state call.now).shown ≡ Some text
        → Shown name call (file_of (state call.now) name) text
    at_crash : IsAbout call.words name → (moment : ℕ) → IsStart name (state call.entry) (state call.now) moment
        → (image text : List ℕ) → (state call.now).crashes moment image text → Shown name call image text

  -- a life of the file, from the bytes that it had at first to those that it has at last: each call began on what the
  -- one before it left
  pub data Life (name first : List ℕ) : List ℕ → Type 0 where
    unlived : Life name first first
    lived : {mid last : List ℕ} → Life name first mid → (call : Call) → file_of (state call.entry) name ≡ mid
        → Leaves name call last
        → Life name first last

  -- a hand of this number was hired for some call of the life, as one of the hands that are wanted there
  abbrev pub HiredIn : {name first last : List ℕ} → Life name first last → ℕ → Want → Type 0
  HiredIn unlived hand hands = ⊥
  HiredIn (lived before call same leaves) hand hands = HiredIn before hand hands ⊎ IsHired call hand hands

-- an entry is by a hand that was hired as one of some that were wanted; and where it ends a task, it carries an outcome
-- that their relation gives for the order of the task's last start
pub record IsByHand (gives : Want → Order → Outcome → Type 0) (hired : ℕ → Want → Type 0) (plan : Outline)
    (past : List Entry) (e : Entry) : Type 0 where
  pub hands : Want
  pub hires : hired e.hand hands
  pub given : IsGiven (gives hands) plan past e.what

-- an entry that was recorded after a history, or may be: by such a hand, or by hand 0 to put the flow back
abbrev pub IsRecordedBy : (Want → Order → Outcome → Type 0) → (ℕ → Want → Type 0) → Outline → List Entry → Entry
    → Type 0
IsRecordedBy gives hired plan past e = IsByHand gives hired plan past e ⊎ IsNextReset plan past e

-- so is each of the entries that were recorded after a history, after those before it
abbrev pub AreRecorded : (Want → Order → Outcome → Type 0) → (ℕ → Want → Type 0) → Outline → List Entry → List Entry
    → Type 0
AreRecorded gives hired plan past [] = Unit {0}
AreRecorded gives hired plan past (e ∷ entries) =
    IsRecordedBy gives hired plan (entries ++ past) e × AreRecorded gives hired plan past entries

-- what was recorded behind the elements of a book: of each detail that is there then, each entry was recorded after
-- those before it
abbrev pub AreAllRecorded : (Want → Order → Outcome → Type 0) → (ℕ → Want → Type 0) → (elements newer : List Element)
    → Type 0
AreAllRecorded gives hired elements newer =
    (number : ℕ) (plan : PlanValue) → plan_of (newer ++ elements) number ≡ Some plan
    → AreRecorded gives hired (outline_of plan) (history number elements) (history number newer)

-- the file holds these elements, and perhaps more behind them
abbrev pub HoldsBeneath : List Element → List ℕ → Type 0
HoldsBeneath elements file = (newer : List Element) × HoldsElements (newer ++ elements) (book_in file)

-- the text that a call showed is told by entries that a file holds behind what it held before the call: by the lines of
-- these, and, where they are all that the call recorded, by a prefix of its closing; where there are none the file may
-- hold no flow
pub record IsToldBy (contents : BookContents) (plan : PlanValue) (quiet : Bool) (before entries : List Entry)
    (shown : Option (List ℕ)) (closing text file : List ℕ) : Type 0 where
  pub kept : List Entry
  pub spoken : IsShownThen plan quiet before entries kept shown closing text
  pub holds : (kept ≡ []) ⊎ HoldsBeneath (with_entries contents kept).elements file

-- a book of one flow held a plan and a history, and the file holds the flow with them as its detail 0, and perhaps more
-- behind it
pub record IsCarriedOver (old : Recovered) (file : List ℕ) : Type 0 where
  pub plan : PlanValue
  pub past : List Entry
  pub had : HoldsFlow plan past old
  pub stands : HoldsBeneath (carried plan past) file

-- a run that goes on from what the file held ended as stated: memory ran out; or the next record would make the book
-- longer than its limit; or the file holds that with what was recorded, whose end is that of the flow, and the status
-- tells it: 0 for SUCCESS, 10 for REVERTED, which is completed reversion, and 11 for FAILURE
pub data EndsAsStated (contents : BookContents) (plan : PlanValue) (past : List Entry) (file : List ℕ) : ℕ
    → Type 0 where
  exhausted : EndsAsStated contents plan past file OUT_OF_MEMORY
  filled : EndsAsStated contents plan past file FULL
  ended : (last : FlowState) (entries : List Entry)
      → HoldsElements (with_entries contents entries).elements (book_in file) → has_ended last ≡ true
      → HasReached (outline_of plan) (entries ++ past) last → EndsAsStated contents plan past file (stop_status last)

-- the file is a board of these commands, which a board may hold: each is within its limits, and none was refused after
-- those before it
abbrev pub IsBoardOf : List Command → List ℕ → Type 0
IsBoardOf past file = AreOfBoard past × Holds past (board_in file)

-- a command on a board was done, and said so: it said what it comes to on the legal commands that the board had, and
-- the file is a board of these, with what was added by it behind them and perhaps more behind that; where it added
-- nothing, nothing is said of the file
pub record IsDone (request : BoardRequest) (name : List ℕ) (entry now : DeskState) (file : List ℕ) : Type 0 where
  pub past : List Command
  pub legal : AreOfBoard past
  pub had : Finds past (board_in (file_of entry name))
  pub said : now.shown ≡ shown_with entry.shown (answer_of request past).text
  pub stands : ((answer_of request past).added ≡ [])
      ⊎ ((newer : List Command) × IsBoardOf (newer ++ ((answer_of request past).added ++ past)) file)

-- an owner was told that it has claimed the job which that id names on the board of that name
pub record WasClaimed (name id owner : List ℕ) (entry now : DeskState) (status : ℕ) : Type 0 where
  pub done : status ≡ 0
  pub does : Does (request.Call (call.Apply action.Claim id owner)) name entry now status

-- a board had these commands before, and afterwards its list has the claim of the job that the id names there by one
-- owner, the claim of the same job by another, and between the two that the first one gave it up
pub record IsHandedOn (id first second before after : List ℕ) : Type 0 where
  pub past : List Command
  pub older : List Command
  pub later : List Command
  pub had : Finds past (board_in before)
  pub stands : IsBoardOf
      (command.Apply action.Claim (job_of past id) second ∷
      (later ++ (command.Apply action.Abandon (job_of past id) first
      ∷ (older ++ (command.Apply action.Claim (job_of past id) first ∷ past))))) after

-- ---- the states of jobs

-- a job stands after a command where it stood before it, or a job may go from the one state to the other
abbrev pub GoesAsItMay : (before after : Standing) → Type 0
GoesAsItMay before after =
    (state_of after ≡ state_of before) ⊎ (job_may (state_of before) (state_of after) ≡ true)

-- ---- the orders of hands

-- after a history a hand was given just the first of the orders that its starts and restarts ask for in a later one
pub record AreFirst (plan : Outline) (before past : List Entry) (hand : ℕ) (did : List Order) : Type 0 where
  pub others : List Order
  pub are : orders plan hand past ≡ orders plan hand before ++ (did ++ others)

-- the same of a hand that may tell nothing
abbrev pub AreFirstIfTold : Outline → (before past : List Entry) → ℕ → Option (List Order) → Type 0
AreFirstIfTold plan before past hand None = Unit {0}
AreFirstIfTold plan before past hand (Some did) = AreFirst plan before past hand did
