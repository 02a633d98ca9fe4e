-- Why a board was halted, as a command tells it.
use Rattle.std.proofs.Common.{◌≡◌, ℕ, List, Option, Some, None, refl, sym, subst, ◌∙◌}
use Rattle.std.specs.Prelude.{IfSome}
use Rattle.tf_numbers.specs.Numbers.{Rises}
use Rattle.tf_desk.specs.State.{DeskState}
use Rattle.tf_board.specs.Board.{BoardValue, size_of}
use Rattle.tf_board.specs.declared.commands.Command.{Command}
use Rattle.tf_shared_board.specs.Shared.{HasCause, HaltsFor}
use Rattle.tf_shared_board.specs.declared.calls.BoardHalt.{BoardHalt}
use Rattle.tf_shared_board.specs.declared.calls.BoardHalt.TheVariants as halt

-- a halt that has its cause since a board was so has it in these words, where the board now has these commands and so many bytes as they have
pub cause_told : {K : Type 0} (state : K → DeskState) (start now : BoardValue K) (past : List Command) (entry last : DeskState) → now.journal.size ≡ size_of past
    → (Rises (state start.journal.desk).disk_faults (state now.journal.desk).disk_faults → Rises entry.disk_faults last.disk_faults)
    → (halted : Option BoardHalt) → IfSome halted (HasCause state start now) → IfSome halted (HaltsFor past entry last)
cause_told state start now past entry last sized rose None cause = tt
cause_told state start now past entry last sized rose (Some halt.Disk) cause = rose cause
cause_told state start now past entry last sized rose (Some (halt.Full size need)) cause = (
  cause.command,
  record { new = cause.command; is_added = refl; size_is = cause.size_is ∙ sized; need_is = cause.need_is; over = cause.over },
)
cause_told state start now past entry last sized rose (Some halt.Memory) cause = tt

-- a later desk with the same count of disk faults
pub cause_later : (past : List Command) (entry mid last : DeskState) → last.disk_faults ≡ mid.disk_faults → (halted : Option BoardHalt)
    → IfSome halted (HaltsFor past entry mid) → IfSome halted (HaltsFor past entry last)
cause_later past entry mid last same None cause = tt
cause_later past entry mid last same (Some halt.Disk) cause = subst (λ (n : ℕ). Rises entry.disk_faults n) (sym same) cause
cause_later past entry mid last same (Some (halt.Full size need)) cause = cause
cause_later past entry mid last same (Some halt.Memory) cause = tt
