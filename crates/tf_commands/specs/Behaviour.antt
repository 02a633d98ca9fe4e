-- The ways that a command can go.
use Rattle.std.specs.Prelude.{◌≡◌, ◌≢◌, ◌≤◌, ◌⊎◌, ℕ, List, [], ◌++◌, length, codes, true, false, IsTrue, Bool, Option, Some, None}
use Rattle.tf_desk.specs.State.{DeskState, told_as}
use Rattle.tf_flow.specs.declared.atoms.Bind.{Bind}
use Rattle.tf_ports.specs.Ports.{GivenBack, Contents, GivesBytes, PassesLimit, DoorTold, CrewTold}
use Rattle.tf_ports.specs.declared.crews.Want.{Want}
use Rattle.tf_ports.specs.declared.crews.Want.TheVariants as want
use Rattle.tf_actions.specs.declared.orders.Order.{Order}
use Rattle.tf_actions.specs.declared.outcomes.Outcome.{Outcome}
use Rattle.tf_ports.specs.declared.reading.TheConstants.{SOURCE_LIMIT}
use Rattle.tf_flow.specs.Plan.{PlanValue, PlanTree, plan_tree}
use Rattle.tf_journal.specs.Format.{Recovered, unborn, old_format}
use Rattle.tf_details.specs.Elements.{Element}
use Rattle.tf_details.specs.Elements as held
use Rattle.tf_migration.specs.Migrates.{Migrates, IsBookOfFlow, IsComplete as IsMigrationComplete, old_at, new_at}
use Rattle.tf_book.specs.Book.{IsNoBook, begun_contents, HasPlaceFor}
use Rattle.tf_book.specs.Turns.{may_reset}
use Rattle.tf_model.specs.History.{snapshot}
use Rattle.tf_model.specs.Plan.{outline_of}
use Rattle.tf_states.specs.declared.record.Entry.{Entry}
use Rattle.tf_states.specs.declared.state.FlowState.{FlowState}
use Rattle.tf_words.specs.declared.asked.Asked.{Asked}
use Rattle.tf_words.specs.declared.asked.Asked.TheVariants as asked
use Rattle.tf_board.specs.Does.{answer_of, Does, IsAllowed, IsBoard, IsBoardComplete}
use Rattle.tf_board_service.specs.Sessions.{ServesBoard}
use Rattle.tf_runner.specs.Conducts.{Conducts}
use Rattle.tf_board.specs.Board.{AreOfBoard, board_in, Finds}
use Rattle.tf_board.specs.declared.commands.Command.{Command}
use Rattle.tf_board.specs.declared.calls.BoardRequest.{BoardRequest}
use Rattle.tf_report.specs.declared.statuses.TheConstants.{BOARD_REFUSED, SUCCEEDED, NO_COMMAND, UNREAD, REFUSED, UNHIRED, OUT_OF_MEMORY, REVERTED, FAILED, SUSPENDED, FULL}
use Rattle.tf_report.specs.Closing.{ClosesWith, ClosesWithOrStops, cannot_read, cannot_hire}
use Rattle.tf_target.specs.Target.{outline_in}
use Rattle.tf_accept.specs.Accepted.{GivesPlan, GivesWhole, GivesNone, MayTarget}
use Rattle.tf_commands.specs.Asking.{file_asked_for, book_asked_for, demo_tree, wanted_by}
use Rattle.tf_commands.specs.Messages.{Audits, RefusesLog, checked, usage, refusal, reason_text, Works}
use Rattle.tf_words.specs.Words.{command_of}
use Rattle.tf_commands.specs.Books.{Hires, Runs, WereGivenBack, HasStopped, Demonstrates, Resumes, ShowsBook, ResetsBook, ListsDetails, NoFileChanges, TouchesNoFile, IsFile, book_at, IsBookOf, IsAskedFor, HoldsAsked, spoken_run, Ran}
use Rattle.tf_journal.specs.Start.{file_of}
use Rattle.tf_accept.specs.declared.accepting.Refusal.{Refusal}
use Rattle.tf_commands.specs.declared.reading.Source.{Source}

-- ---- flow files

-- what becomes of the bytes of a flow file, which these values, this deferral and this target go with, where its plan
-- is dealt with so; where they give none, all else is untouched
pub data BytesRead (source : Source) (bytes : List ℕ) (untouched : Type 0) (does : PlanTree → ℕ → Type 0)
    (before after : Option (List ℕ)) (status : ℕ) : Type 0 where
  -- memory ran out before anything was said or run
  exhausted : untouched → status ≡ OUT_OF_MEMORY → after ≡ before
      → BytesRead source bytes untouched does before after status
  -- they are refused for the first reason why they give no plan, and that is said
  refused : untouched → (reason : Refusal) → GivesNone source.sets source.defer source.target bytes reason
      → ClosesWith before (refusal (reason_text reason)) REFUSED after status
      → BytesRead source bytes untouched does before after status
  -- the plan that they give is dealt with
  done : (plan : PlanTree) → GivesPlan source.sets source.defer source.target bytes plan → does plan status
      → BytesRead source bytes untouched does before after status

-- what becomes of a flow file, where its plan is dealt with so; where it gives none, all else is untouched
pub data FileRead (files : Contents) (source : Source) (untouched : Type 0) (does : PlanTree → ℕ → Type 0)
    (before after : Option (List ℕ)) (status : ℕ) : Type 0 where
  -- memory ran out before anything was said or run
  unfinished : untouched → status ≡ OUT_OF_MEMORY → after ≡ before
      → FileRead files source untouched does before after status
  -- it can't be read
  unread : untouched → ClosesWith before cannot_read UNREAD after status
      → FileRead files source untouched does before after status
  -- it is longer than a flow file may be
  too_long : untouched → PassesLimit files source.file
      → ClosesWith before (refusal (codes "too long")) REFUSED after status
      → FileRead files source untouched does before after status
  -- its bytes are those that the sources have under its name, and not longer than a flow file may be
  read : (bytes : List ℕ) → GivesBytes files source.file bytes → length bytes ≤ SOURCE_LIMIT
      → BytesRead source bytes untouched does before after status
      → FileRead files source untouched does before after status

-- nothing is done with a plan
abbrev pub Undone : PlanTree → ℕ → Type 0
Undone plan status = ⊥

-- ---- trials and checks

-- a run of a plan with these hands, which were given back so, of which nothing is kept
pub record Tried (gives : Order → Outcome → Type 0) (hands : Want) (stopped : Type 0) (back : GivenBack)
    (tree : PlanTree) (shown now : Option (List ℕ)) (status : ℕ) : Type 0 where
  pub plan : PlanValue
  pub same : plan_tree plan ≡ tree
  pub entries : List Entry
  pub stop : Option FlowState
  pub closing : List ℕ
  pub ran : Ran gives (spoken_run hands None) stopped
      (begun_contents [] plan) plan [] entries stop shown now closing status
  pub orders_given : WereGivenBack (HasStopped status) (outline_of plan) [] (entries ++ []) back

-- to try a plan is to hire the hands that are wanted and to run the plan with them
pub data Tries (gives : Order → Outcome → Type 0) (hands : Want) (stopped : Type 0) (crew crew_after : CrewTold)
    (before after : Option (List ℕ)) (tree : PlanTree) (status : ℕ) : Type 0 where
  -- memory ran out as the hands were hired, and nothing was said
  unfinished_hire : crew_after ≡ crew → status ≡ OUT_OF_MEMORY → after ≡ before
      → Tries gives hands stopped crew crew_after before after tree status
  -- they couldn't be hired, and that is said
  unhired : crew_after ≡ crew → ClosesWith before cannot_hire UNHIRED after status
      → Tries gives hands stopped crew crew_after before after tree status
  -- they were hired, and ran the plan
  tried : Hires hands crew crew_after → Tried gives hands stopped crew_after.back tree before after status
      → Tries gives hands stopped crew crew_after before after tree status

-- nobody was hired, or the hands that were wanted were, and given back
abbrev pub HiresAtMost : Want → CrewTold → CrewTold → Type 0
HiresAtMost hands crew crew_after = (crew_after ≡ crew) ⊎ Hires hands crew crew_after

-- nobody was hired, or the hands that were wanted, if any were
abbrev pub HiresAsWanted : Option Want → CrewTold → CrewTold → Type 0
HiresAsWanted None crew crew_after = crew_after ≡ crew
HiresAsWanted (Some hands) crew crew_after = HiresAtMost hands crew crew_after

-- nobody was hired, or the hands that the words ask for
abbrev pub HiresAsAsked : List (List ℕ) → CrewTold → CrewTold → Type 0
HiresAsAsked words crew crew_after = HiresAsWanted (wanted_by words) crew crew_after

-- to check a plan is to say what it has, unless memory runs out
abbrev pub Checks : Option (List ℕ) → Option (List ℕ) → PlanTree → ℕ → Type 0
Checks before after plan status = ClosesWithOrStops before (checked (outline_in plan)) SUCCEEDED after status

-- ---- all commands

-- these values, this deferral and this target of that flow file
abbrev pub source_so : List ℕ → List Bind → Bool → Option (List ℕ) → Source
source_so file sets defer target = record { file = file; sets = sets; defer = defer; target = target }

-- what is told of the crew and of the door
pub record PortsTold : Type 0 where
  pub crew : CrewTold
  pub door : DoorTold

-- what a crew and a door tell
abbrev pub ports_told : {W L : Type 0} → (W → CrewTold) → (L → DoorTold) → W → L → PortsTold
ports_told crew_told door_told crew door = record { crew = crew_told crew; door = door_told door }

-- nobody was hired, and no file changed
abbrev pub IsUntouched : CrewTold → CrewTold → DeskState → DeskState → Type 0
IsUntouched crew crew_after entry now = (crew_after ≡ crew) × NoFileChanges entry now

module _ {K : Type 0} (state : K → DeskState) where
  -- the desk before a call, telling what it tells after it: an answer of the system may show that it isn't so
  abbrev before : K → K → DeskState
  before entry now = told_as (state now) (state entry)

  -- what becomes of what the words ask for, where a run may be suspended for a stop that was asked for; a trial changes
  -- no file and meets no fault of the disk, and a check and an audit change none
  abbrev pub Obeys : (Want → Order → Outcome → Type 0) → Type 0 → Asked → Contents → PortsTold → PortsTold → K → K → ℕ
      → Type 0
  Obeys gives stopped (asked.Try file sets defer hands target) files ports later entry now status =
      FileRead files (source_so file sets defer target) (IsUntouched ports.crew later.crew (state entry) (state now))
      (Tries (gives hands) hands stopped ports.crew later.crew (state entry).shown (state now).shown)
      (state entry).shown (state now).shown status × TouchesNoFile (state entry) (state now)
  Obeys gives stopped (asked.Check file sets target) files ports later entry now status =
      FileRead files (source_so file sets false target) (IsUntouched ports.crew later.crew (state entry) (state now))
      (Checks (state entry).shown (state now).shown) (state entry).shown (state now).shown status
      × IsUntouched ports.crew later.crew (state entry) (state now)
  Obeys gives stopped (asked.Audit file log sets defer) files ports later entry now status =
      FileRead files (source_so file sets defer None) (IsUntouched ports.crew later.crew (state entry) (state now))
      (Audits files log (state entry).shown (state now).shown) (state entry).shown (state now).shown status
      × IsUntouched ports.crew later.crew (state entry) (state now)
  Obeys gives stopped (asked.Run file book sets defer hands stop target) files ports later entry now status =
      FileRead files (source_so file sets defer target) (IsUntouched ports.crew later.crew
      (before entry now) (state now))
      (Runs (gives hands) (spoken_run hands stop) stopped book ports.crew later.crew (before entry now) (state now))
      (before entry now).shown (state now).shown status
  Obeys gives stopped (asked.Resume book name hands stop) files ports later entry now status =
      Resumes (gives hands) (spoken_run hands stop) stopped book name ports.crew later.crew (before entry now)
      (state now) status
  Obeys gives stopped (asked.Show book name) files ports later entry now status =
      ShowsBook book name (before entry now) (state now) status × (later ≡ ports)
  Obeys gives stopped (asked.Reset book name) files ports later entry now status =
      ResetsBook book name (before entry now) (state now) status × (later ≡ ports)
  Obeys gives stopped (asked.Details book) files ports later entry now status =
      ListsDetails book (before entry now) (state now) status × (later ≡ ports)
  Obeys gives stopped (asked.Migrate old new) files ports later entry now status =
      Migrates old new (before entry now) (state now) status × (later ≡ ports)
  Obeys gives stopped (asked.Demo seed size book hands) files ports later entry now status =
      Demonstrates state (gives (want.Local hands))
      (want.Local hands) stopped book ports.crew later.crew entry now seed size status
  Obeys gives stopped (asked.Worker address sessions) files ports later entry now status =
      Works (gives (want.Local 1)) ports.crew later.crew ports.door later.door (state entry).shown
      (state now).shown address sessions status
      × NoFileChanges (state entry) (state now)
  Obeys gives stopped (asked.Board board request) files ports later entry now status =
      Does request board (before entry now) (state now) status × (later ≡ ports)
  Obeys gives stopped (asked.Conduct board owner hands) files ports later entry now status =
      Conducts (gives (want.Local hands)) files ports.crew later.crew board owner hands
      (before entry now) (state now) status
      × (later.door ≡ ports.door)
  Obeys gives stopped (asked.Serve board address sessions) files ports later entry now status =
      ServesBoard board address sessions ports.door later.door (before entry now) (state now) status
      × (later.crew ≡ ports.crew)

  -- the way that a command went, with hands that keep the relation of orders and outcomes of those that are wanted, and
  -- with runs that may be suspended where a stop was asked for: its words, what the sources tell, what the crew and the
  -- door tell before and after, the desk before and after, the status
  pub data Behaviour (gives : Want → Order → Outcome → Type 0) (stopped : Type 0) (words : List (List ℕ))
      (files : Contents) (ports later : PortsTold) (entry now : K)
      (status : ℕ) : Type 0 where
    -- memory ran out before the words were read
    unheard : status ≡ OUT_OF_MEMORY → now ≡ entry → later ≡ ports
        → Behaviour gives stopped words files ports later entry now status
    -- the words are no command
    no_command : command_of words ≡ None → ClosesWith (state entry).shown usage NO_COMMAND (state now).shown status
        → IsUntouched ports.crew later.crew (state entry) (state now)
        → Behaviour gives stopped words files ports later entry now status
    -- what they ask for was done, or it was said why not
    obeyed : (command : Asked) → command_of words ≡ Some command
        → Obeys gives stopped command files ports later entry now status
        → Behaviour gives stopped words files ports later entry now status

-- ---- what a status tells

-- the words ask for a flow file that the sources refuse as too long or whose bytes give no plan
pub data IsRefused (words : List (List ℕ)) (files : Contents) : Type 0 where
  passes_limit : (command : Asked) (source : Source) → command_of words ≡ Some command
      → file_asked_for command ≡ Some source → PassesLimit files source.file
      → IsRefused words files
  gives_none : (command : Asked) (source : Source) (bytes : List ℕ) (reason : Refusal) → command_of words ≡ Some command
      → file_asked_for command ≡ Some source
      → GivesBytes files source.file bytes → GivesNone source.sets source.defer source.target bytes reason
      → IsRefused words files

-- the words are a command on a board which refuses it, by the commands that its file has
pub record IsBoardRefused (words : List (List ℕ)) (entry : DeskState) : Type 0 where
  pub name : List ℕ
  pub request : BoardRequest
  pub past : List Command
  pub asks : command_of words ≡ Some (asked.Board name request)
  pub legal : AreOfBoard past
  pub found : IsTrue entry.tells → Finds past (board_in (file_of entry name))
  pub refuses : (answer_of request past).status ≡ BOARD_REFUSED

-- the words are a command on a book, whose file is one of the older format
pub record IsOldBook (words : List (List ℕ)) (entry : DeskState) : Type 0 where
  pub command : Asked
  pub name : List ℕ
  pub asks : command_of words ≡ Some command
  pub about : book_asked_for command ≡ Some name
  pub old : IsFile name entry (λ found. found ≡ old_format)

-- the sources tell bytes under the name of a flow file that give a plan, against whose target nothing stands, and that
-- aren't too long
pub record IsAccepted (source : Source) (files : Contents) : Type 0 where
  pub told : List ℕ → Option (List ℕ)
  pub bytes : List ℕ
  pub plan : PlanTree
  pub sources : files ≡ Some told
  pub under : told source.file ≡ Some bytes
  pub short : length bytes ≤ SOURCE_LIMIT
  pub given : GivesWhole source.sets source.defer bytes plan
  pub target : MayTarget source.target plan

-- a file is a book, or may be made one
abbrev pub IsBook : Recovered → Type 0
IsBook found = (found ≢ old_format) × ((offset : ℕ) (byte : Option ℕ) → ¬ (IsNoBook found offset byte))

-- a book behind whose elements a plan of this tree may begin as a new detail
abbrev pub HasPlace : PlanTree → Recovered → Type 0
HasPlace tree found = IsBook found
    × ((elements : List Element) (plan : PlanValue) → IsBookOf elements found → plan_tree plan ≡ tree
    → HasPlaceFor elements plan)

-- the same of each plan that a flow file gives
abbrev pub HasPlaceForFile : Source → Contents → Recovered → Type 0
HasPlaceForFile source files found = (bytes : List ℕ) (tree : PlanTree) → GivesBytes files source.file bytes
    → GivesPlan source.sets source.defer source.target bytes tree → HasPlace tree found

-- a book that holds the flow which is asked for
abbrev pub HoldsFlow : Option (List ℕ) → Recovered → Type 0
HoldsFlow wanted found = IsBook found
    × ((elements : List Element) → IsBookOf elements found → (number : ℕ) × IsAskedFor wanted elements number)

-- a run that met no fault ends with SUCCESS, in completed reversion or in FAILURE, or memory runs out; or its next
-- record would make the book longer than its limit
abbrev pub IsRunComplete : ℕ → Type 0
IsRunComplete status =
    (status ≡ SUCCEEDED) ⊎ (status ≡ REVERTED) ⊎ (status ≡ FAILED) ⊎ (status ≡ OUT_OF_MEMORY) ⊎ (status ≡ FULL)

-- the same, where it may be suspended after so many entries
abbrev pub IsRunCompleteBy : Option ℕ → ℕ → Type 0
IsRunCompleteBy None status = IsRunComplete status
IsRunCompleteBy (Some limit) status = IsRunComplete status ⊎ (status ≡ SUSPENDED)

-- what else was done and met no fault ends well, or memory runs out
abbrev pub IsDoneComplete : ℕ → Type 0
IsDoneComplete status = (status ≡ SUCCEEDED) ⊎ (status ≡ OUT_OF_MEMORY)

-- a reset that met no fault ends well, or memory runs out, or its next record would make the book longer than its limit
abbrev pub IsResetComplete : ℕ → Type 0
IsResetComplete status = (status ≡ SUCCEEDED) ⊎ (status ≡ OUT_OF_MEMORY) ⊎ (status ≡ FULL)

-- and that flow may be put back: it is REVERTED, and every atom is settled
abbrev pub HoldsReverted : Option (List ℕ) → Recovered → Type 0
HoldsReverted wanted found = HoldsFlow wanted found
    × ((contents : held.Contents) (plan : PlanValue) (past : List Entry) → HoldsAsked wanted contents plan past found
    → may_reset (outline_of plan) (snapshot (outline_of plan) past) ≡ true)

-- what the desk has under a name is this, and it tells so
abbrev pub HasBook : List ℕ → DeskState → (Recovered → Type 0) → Type 0
HasBook name entry is = IsTrue entry.tells × is (book_at entry name)

-- the file of that name is a board, and the desk tells so
abbrev pub HasSomeBoard : List ℕ → DeskState → Type 0
HasSomeBoard name entry = IsTrue entry.tells × IsBoard (board_in (file_of entry name))

-- nothing stands against what the words ask for: the flow file gives a plan, the book or the board is as the command
-- wants it, and no line of a log can't be
abbrev pub MayBeDone : Asked → Contents → DeskState → Type 0
MayBeDone (asked.Try file sets defer hands target) files entry = IsAccepted (source_so file sets defer target) files
MayBeDone (asked.Run file book sets defer hands stop target) files entry =
    IsAccepted (source_so file sets defer target) files
    × HasBook book entry (HasPlaceForFile (source_so file sets defer target) files)
MayBeDone (asked.Resume book name hands stop) files entry = HasBook book entry (HoldsFlow name)
MayBeDone (asked.Show book name) files entry = HasBook book entry (HoldsFlow name)
MayBeDone (asked.Reset book name) files entry = HasBook book entry (HoldsReverted name)
MayBeDone (asked.Details book) files entry = HasBook book entry IsBook
MayBeDone (asked.Migrate old new) files entry =
    IsTrue entry.tells × IsBookOfFlow (old_at entry old) × (new_at entry new ≡ unborn)
MayBeDone (asked.Check file sets target) files entry = IsAccepted (source_so file sets false target) files
MayBeDone (asked.Audit file log sets defer) files entry =
    IsAccepted (source_so file sets defer None) files × ¬ (RefusesLog files (source_so file sets defer None) log)
MayBeDone (asked.Demo seed size book hands) files entry = HasBook book entry (HasPlace (demo_tree seed size))
MayBeDone (asked.Worker address sessions) files entry = Unit {0}
MayBeDone (asked.Board board request) files entry =
    IsTrue entry.tells × IsAllowed request (board_in (file_of entry board))
MayBeDone (asked.Conduct board owner hands) files entry = HasSomeBoard board entry
MayBeDone (asked.Serve board address sessions) files entry = HasSomeBoard board entry

-- it ends so, where no count of faults rose
abbrev pub IsComplete : Asked → ℕ → Type 0
IsComplete (asked.Try file sets defer hands target) status = IsRunComplete status
IsComplete (asked.Run file book sets defer hands stop target) status = IsRunCompleteBy stop status
IsComplete (asked.Resume book name hands stop) status = IsRunCompleteBy stop status
IsComplete (asked.Show book name) status = IsDoneComplete status
IsComplete (asked.Reset book name) status = IsResetComplete status
IsComplete (asked.Details book) status = IsDoneComplete status
IsComplete (asked.Migrate old new) status = IsMigrationComplete status
IsComplete (asked.Check file sets target) status = IsDoneComplete status
IsComplete (asked.Audit file log sets defer) status = IsDoneComplete status
IsComplete (asked.Demo seed size book hands) status = IsRunComplete status
IsComplete (asked.Worker address sessions) status = IsDoneComplete status
IsComplete (asked.Board board request) status = IsBoardComplete status
IsComplete (asked.Conduct board owner hands) status = IsBoardComplete status
IsComplete (asked.Serve board address sessions) status = IsBoardComplete status
