-- A board that several share: what its calls mean, what a call does to the board, what its type keeps, and why it is
-- halted. Lists of commands have the newest first, lists of calls the oldest.
use Rattle.std.specs.Prelude.{◌≡◌, ℕ, ◌+◌, List, [], ◌∷◌, map, Option, None, true, IsTrue, Some, Result, Ok, Err, IfOk, IfErr, ◌⊎◌, ◌<◌, false, ◌++◌, length, IfSome}
use Rattle.tf_numbers.specs.Numbers.{Rises}
use Rattle.tf_desk.specs.State.{DeskState, MayLeave, GoesOn, anything}
use Rattle.tf_desk.specs.Crash.{Pairs}
use Rattle.tf_journal.specs.Format.{SIZE_LIMIT, Recovered}
use Rattle.tf_report.specs.Closing.{book_full, disk_fault_text}
use Rattle.tf_report.specs.declared.statuses.TheConstants.{SUCCEEDED, DISK_FAILED, OUT_OF_MEMORY, FULL}
use Rattle.tf_board.specs.Board.{BoardValue, board_in, AreOfBoard, Holds, LeavesHeld, command_bytes, size_of}
use Rattle.tf_board.specs.Does.{HoldsMaybe, LeavesRecorded, IsRecorded, IsHalted, HasNoPlace, fault_of, HoldsEither, IsBoardFull, job_of, command_of, asked_for, refuses_call, id_named}
use Rattle.tf_board.specs.declared.commands.Command.{Command}
use Rattle.tf_board.specs.declared.rules.Refusal.{Refusal}
use Rattle.tf_board.specs.declared.faults.BoardFault.{BoardFault}
use Rattle.tf_board.specs.declared.calls.JobCall.{JobCall}
use Rattle.tf_shared_board.specs.declared.calls.Made.{Made}
use Rattle.tf_shared_board.specs.declared.calls.BoardHalt.{BoardHalt}
use Rattle.tf_shared_board.specs.declared.calls.CallFault.{CallFault}
use Rattle.tf_board.specs.declared.commands.Command.TheVariants as command
use Rattle.tf_board.specs.declared.calls.JobCall.TheVariants as call
use Rattle.tf_board.specs.declared.faults.BoardFault.TheVariants as fault
use Rattle.tf_shared_board.specs.declared.calls.BoardHalt.TheVariants as halt
use Rattle.tf_shared_board.specs.declared.calls.CallFault.TheVariants as call_fault

-- ---- the calls that were made

-- the command of a call that was made
abbrev pub made_command : Made → Command
made_command m = command_of m.call m.job

-- a call that was made, with the number that it carries
abbrev pub carried : Made → ℕ × Made
carried m = (m.number, m)

-- the calls that were made, each with the number that it carries
abbrev pub numbered : List Made → List (ℕ × Made)
numbered made = map carried made

-- these commands, followed by those of the calls
abbrev pub followed_by : List Command → List Made → List Command
followed_by past [] = past
followed_by past (m ∷ made) = followed_by (made_command m ∷ past) made

-- each of the calls has the number of the job that it was about when it was made
abbrev pub AreAbout : List Command → List Made → Type 0
AreAbout past [] = Unit {0}
AreAbout past (m ∷ made) = (m.job ≡ job_of past m.call) × AreAbout (made_command m ∷ past) made

-- ---- faults

-- the fault of a board that halts it so
abbrev pub fault_for : BoardHalt → BoardFault
fault_for halt.Disk = fault.Disk
fault_for (halt.Full size need) = fault.Full size need
fault_for halt.Memory = fault.Memory

-- a call is refused by such a fault
abbrev pub IsRule : BoardFault → Type 0
IsRule (fault.NoJob id) = Unit {0}
IsRule (fault.Gone id) = Unit {0}
IsRule (fault.Claimed owner) = Unit {0}
IsRule (fault.NotOwner owner) = Unit {0}
IsRule fault.Disk = ⊥
IsRule (fault.Full size need) = ⊥
IsRule fault.Halted = ⊥
IsRule fault.Memory = ⊥

-- a fault is one by which a call is refused, or one that halts
abbrev pub Sorts : BoardFault → Result BoardFault BoardHalt → Type 0
Sorts fault (Ok rule) = (rule ≡ fault) × IsRule fault
Sorts fault (Err halt) = fault ≡ fault_for halt

-- ---- a call that is asked of the board

module _ {K : Type 0} where
  -- it is refused for this reason, of the job of this id, and nothing changed
  pub record IsRuled (refused : Option Refusal) (id : List ℕ) (old new : BoardValue K)
      (fault : BoardFault) : Type 0 where
    pub now : new ≡ old
    pub why : Refusal
    pub refused_is : refused ≡ Some why
    pub fault_is : fault ≡ fault_of why id

module _ {K : Type 0} (state : K → DeskState) where
  -- the disk failed where this was to be recorded; a crash leaves the commands from before, or with this one
  pub record FailsOnDisk (added : Command) (old new : BoardValue K) : Type 0 where
    pub halted : IsHalted state added old new
    pub leaves : IsTrue (state old.journal.desk).tells → (image : List ℕ) → MayLeave (state new.journal.desk) image
        → HoldsMaybe old.past added (board_in image)

  -- why a call did nothing that is refused for this reason, of the job of this id, or else was to record this; and what
  -- changed
  abbrev pub FailsToAsk : Option Refusal → List ℕ → Command → BoardValue K → BoardValue K → BoardFault → Type 0
  FailsToAsk refused id added old new fault.Disk = (refused ≡ None) × FailsOnDisk added old new
  FailsToAsk refused id added old new (fault.Full size need) = (refused ≡ None) × HasNoPlace size need added old new
  FailsToAsk refused id added old new fault.Halted = (old.journal.halted ≡ true) × (new ≡ old)
  FailsToAsk refused id added old new fault.Memory = new ≡ old
  FailsToAsk refused id added old new (fault.NoJob text) = IsRuled refused id old new (fault.NoJob text)
  FailsToAsk refused id added old new (fault.Gone text) = IsRuled refused id old new (fault.Gone text)
  FailsToAsk refused id added old new (fault.Claimed owner) = IsRuled refused id old new (fault.Claimed owner)
  FailsToAsk refused id added old new (fault.NotOwner owner) = IsRuled refused id old new (fault.NotOwner owner)

  -- a call that is refused for this reason, of the job of this id, or else is to record this of the job of that number
  pub record AsksFor (refused : Option Refusal) (id : List ℕ) (job : ℕ) (added : Command) (old new : BoardValue K)
      (result : Result ℕ BoardFault) : Type 0 where
    pub recorded : IfOk result (λ number. (number ≡ job) × (refused ≡ None) × IsRecorded state added old new)
    pub fails : IfErr result (λ fault. FailsToAsk refused id added old new fault)
    pub goes : GoesOn (LeavesRecorded old.past added (state old.journal.desk)) (state old.journal.desk)
        (state new.journal.desk)

  -- a call as its words say
  abbrev pub Asks : JobCall → BoardValue K → BoardValue K → Result ℕ BoardFault → Type 0
  Asks call old new result =
      AsksFor (refuses_call old.past call) (id_named call) (job_of old.past call)
      (asked_for old.past call) old new result

-- the board as it was made with, and as it is now; the calls that were made since; and why it doesn't go on, if it
-- doesn't
pub record SharedValue (K : Type 0) : Type 0 where
  pub start : BoardValue K
  pub board : BoardValue K
  pub made : List Made
  pub halt : Option BoardHalt

-- ---- what the type keeps

-- a record of some command would pass the limit, as the two numbers show
pub record IsFull {K : Type 0} (size need : ℕ) (board : BoardValue K) : Type 0 where
  pub command : Command
  pub size_is : size ≡ board.journal.size
  pub need_is : need ≡ 5 + length (command_bytes command)
  pub over : SIZE_LIMIT < size + need

-- The commands that aren't among those of a board, but may be in its file: none, or the one whose record met the fault
-- of the disk that halted the board, which it may hold after the others.
pub data IsUnrecorded (halted : Option BoardHalt) (past : List Command) : List Command → Type 0 where
  no_pending : IsUnrecorded halted past []
  one_pending : (last : Command) → halted ≡ Some halt.Disk → AreOfBoard (last ∷ past)
      → IsUnrecorded halted past (last ∷ [])

-- a file has these commands, followed by those of some first of the calls; or by those of all calls and the pending one
pub data HoldsSome (past : List Command) (made : List Made) (pending : List Command) (found : Recovered) : Type 0 where
  holds_first : (first others : List Made) → made ≡ first ++ others → Holds (followed_by past first) found
      → HoldsSome past made pending found
  holds_all : Holds (pending ++ followed_by past made) found → HoldsSome past made pending found

-- a crash leaves such a file, and nothing more was shown
abbrev pub LeavesSome : List Command → List Made → List Command → DeskState → Pairs
LeavesSome past made pending entry image text = HoldsSome past made pending (board_in image) × (entry.shown ≡ Some text)

module _ {K : Type 0} (state : K → DeskState) where
  -- What the file has since the board was shared, where a crash left its commands then: the board's commands now, or
  -- the pending one too; and a crash since leaves those from the start followed by those of some first of the calls.
  pub record KeepsFile (s : SharedValue K) : Type 0 where
    pub pending : List Command
    pub is_pending : IsUnrecorded s.halt s.board.past pending
    pub leaves : IsTrue (state s.start.journal.desk).tells → LeavesHeld s.start.past (state s.start.journal.desk)
        → (image : List ℕ)
        → MayLeave (state s.board.journal.desk) image → HoldsEither pending s.board.past (board_in image)
    pub crash : GoesOn (LeavesSome s.start.past s.made pending (state s.start.journal.desk))
        (state s.start.journal.desk) (state s.board.journal.desk)

  -- the cause of a halt since a board was so: the count of disk faults rose, the board is full, or memory ran out
  abbrev pub HasCause : BoardValue K → BoardValue K → BoardHalt → Type 0
  HasCause start now halt.Disk = Rises (state start.journal.desk).disk_faults (state now.journal.desk).disk_faults
  HasCause start now (halt.Full size need) = IsFull size need now
  HasCause start now halt.Memory = Unit {0}

  -- the board's commands are those that it was made with, followed by those of the calls that were made; each call has
  -- the number of the job that it was about; unless it is halted no append found a disk fault; no count fell, and the
  -- same file is picked; a halt has its cause; the file has the commands, and its size is theirs, where it was
  pub record IsShared (s : SharedValue K) : Type 0 where
    pub begins : s.board.past ≡ followed_by s.start.past s.made
    pub about : AreAbout s.start.past s.made
    pub sound : s.halt ≡ None → s.board.journal.halted ≡ false
    pub goes : GoesOn anything (state s.start.journal.desk) (state s.board.journal.desk)
    pub cause : IfSome s.halt (HasCause s.start s.board)
    pub file : KeepsFile s
    pub sized : s.start.journal.size ≡ size_of s.start.past → s.board.journal.size ≡ size_of s.board.past

  -- ---- what a call does

  -- the call was made, and nothing else changed: it isn't refused, it is about this job, and its command was recorded
  pub record IsMade (m : Made) (old new : SharedValue K) : Type 0 where
    pub now : new ≡ record old { board = new.board; made = old.made ++ m ∷ [] }
    pub going : old.halt ≡ None
    pub allowed : refuses_call old.board.past m.call ≡ None
    pub job_is : m.job ≡ job_of old.board.past m.call
    pub recorded : IsRecorded state (made_command m) old.board new.board

  -- it was halted before for this cause and nothing changed, or it is halted now for it
  pub record Halts (call : JobCall) (halt : BoardHalt) (old new : SharedValue K) : Type 0 where
    pub now : new ≡ record old { board = new.board; halt = Some halt }
    pub cause : ((old.halt ≡ Some halt) × (new.board ≡ old.board))
        ⊎ ((old.halt ≡ None)
        × FailsToAsk state (refuses_call old.board.past call) (id_named call)
        (asked_for old.board.past call) old.board new.board (fault_for halt))

  -- why a call wasn't made: it is refused, and nothing changed; or the board is halted
  abbrev pub FailsToCall : JobCall → SharedValue K → SharedValue K → CallFault → Type 0
  FailsToCall call old new (call_fault.Rule fault) =
      (new ≡ old) × (old.halt ≡ None) × IsRuled (refuses_call old.board.past call)
      (id_named call) old.board new.board fault
  FailsToCall call old new (call_fault.Halted halt) = Halts call halt old new

-- halted for want of memory, unless it was before
abbrev pub halt_or_memory : Option BoardHalt → Option BoardHalt
halt_or_memory None = Some halt.Memory
halt_or_memory (Some halt) = Some halt

-- ---- why it was halted, as a command tells it

-- the disk failed, and the count of its faults rose; the record of a command would make the file longer than its limit,
-- as the two numbers show; or memory ran out
abbrev pub HaltsFor : List Command → DeskState → DeskState → BoardHalt → Type 0
HaltsFor past entry now halt.Disk = Rises entry.disk_faults now.disk_faults
HaltsFor past entry now (halt.Full size need) = (last : Command) × IsBoardFull past (last ∷ []) size need
HaltsFor past entry now halt.Memory = Unit {0}

-- what is said of it; nothing for want of memory
abbrev pub halt_text : Option BoardHalt → List ℕ
halt_text None = []
halt_text (Some halt.Disk) = disk_fault_text
halt_text (Some (halt.Full size need)) = book_full size need
halt_text (Some halt.Memory) = []

-- the status that tells it
abbrev pub halt_status : Option BoardHalt → ℕ
halt_status None = SUCCEEDED
halt_status (Some halt.Disk) = DISK_FAILED
halt_status (Some (halt.Full size need)) = FULL
halt_status (Some halt.Memory) = OUT_OF_MEMORY
