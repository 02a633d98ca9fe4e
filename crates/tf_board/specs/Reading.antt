-- How commands are read from a journal, one after another.
use Rattle.std.specs.Prelude.{◌≡◌, ◌≤◌, ℕ, IsTrue, List}
use Rattle.tf_desk.specs.State.{DeskState}
use Rattle.tf_journal.specs.Format.{SIZE_LIMIT, Held}
use Rattle.tf_journal.specs.Reading.{HasBodies}
use Rattle.tf_board.specs.Board.{bodies_of, size_of, past_in, IsTrueTo}
use Rattle.tf_board.specs.declared.kept.Kept.{Kept}

-- just these bodies were read: they are the forms of the commands that are kept
pub record HasReadCommands (kept : Kept) (bodies : List (List ℕ)) : Type 0 where
  pub true_to : IsTrueTo kept (past_in kept)
  pub bodies_are : bodies ≡ bodies_of (past_in kept)

-- all was read of a journal, up to this desk: its bodies are the forms of the commands that are kept
pub record HasReadBoard {K : Type 0} (state : K → DeskState) (journal : Held K) (desk : K) (kept : Kept) : Type 0 where
  pub true_to : IsTrueTo kept (past_in kept)
  pub size : journal.size ≡ size_of (past_in kept)
  pub limit : journal.size ≤ SIZE_LIMIT
  pub whole : IsTrue (state desk).tells → (held : List (List ℕ)) → HasBodies state journal held
      → held ≡ bodies_of (past_in kept)
