-- What is known on the way through the command that lets conductors work. Lists of commands have the newest first,
-- lists of calls the oldest.
use Rattle.std.specs.Prelude.{◌≡◌, ◌⊎◌, ℕ, List, Option, Some, IfSome, IsTrue}
use Rattle.tf_desk.specs.Crash.{Pairs}
use Rattle.tf_desk.specs.State.{DeskState, anything, OnDisk}
use Rattle.tf_journal.specs.Start.{Path, file_of}
use Rattle.tf_board.specs.Board.{LeavesBoard, board_in}
use Rattle.tf_board.specs.declared.commands.Command.{Command}
use Rattle.tf_conductor.specs.Rounds.{HoldsKept, HoldsSome}
use Rattle.tf_shared_board.specs.Shared.{followed_by, HaltsFor}
use Rattle.tf_shared_board.specs.declared.calls.BoardHalt.{BoardHalt}
use Rattle.tf_shared_board.specs.declared.calls.Made.{Made}
use Rattle.tf_book.specs.declared.faults.Halt.{Halt}
use Rattle.tf_book.specs.declared.faults.Halt.TheVariants as book_halt
use Rattle.tf_conductor.specs.declared.runners.Ran.{Ran}
use Rattle.tf_conductor.specs.declared.runners.Ran.TheVariants as ran
use Rattle.tf_states.specs.declared.state.FlowState.{FlowState}
use Rattle.tf_states.specs.declared.state.FlowState.TheVariants as flow
use Rattle.tf_runner.specs.Conducts.{IsOwned}

-- a crash since the call's start leaves the commands from before, or those of the first calls too, or of one more;
-- nothing was said
abbrev pub LeavesUnsaidCalls : List ℕ → ℕ → List Command → List Made → DeskState → Pairs
LeavesUnsaidCalls word count past made entry image text =
    LeavesBoard past entry image text ⊎
    (HoldsSome (IsOwned word count) past made (board_in image) × (entry.shown ≡ Some text))

-- these calls were made; what is left is to say them: the file has them, or one more where the disk failed; a halt has
-- its cause
pub record HasCalled (name word : List ℕ) (count : ℕ) (past : List Command) (made : List Made)
    (halted : Option BoardHalt) (entry now : DeskState) : Type 0 where
  pub on_disk : OnDisk anything entry now
  pub cause : IfSome halted (HaltsFor (followed_by past made) entry now)
  pub file : IsTrue entry.tells → HoldsKept (IsOwned word count) (followed_by past made) halted
      (board_in (file_of now name))
  pub path : IsTrue entry.tells
      → Path name entry now (LeavesUnsaidCalls word count past made entry)
      (λ image. HoldsKept (IsOwned word count) (followed_by past made) halted (board_in image))

-- ---- runs

-- a run is done where its flow ended in SUCCESS, and else the job is left
abbrev pub ran_by : FlowState → Ran
ran_by flow.Success = ran.Done
ran_by other = ran.Left

-- neither the disk nor the output failed
abbrev pub IsCalm : Halt → Type 0
IsCalm book_halt.Disk = ⊥
IsCalm book_halt.Out = ⊥
IsCalm other = Unit {0}

-- the job is left whose run filled its book
abbrev pub LeftBy : Halt → Ran → Type 0
LeftBy (book_halt.Full size need) r = r ≡ ran.Left
LeftBy other r = ⊥
