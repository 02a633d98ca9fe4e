-- How commands are read from a journal body by body.
use Rattle.std.proofs.Common.{◌≡◌, ℕ, ◌+◌, List, [], ◌∷◌, length, refl, sym, ◌∙◌, ap, subst, arith, length-append}
use Rattle.std.specs.List.{flat_map}
use Rattle.tf_desk.specs.State.{DeskState}
use Rattle.tf_journal.specs.Format.{OPEN, record_of, prefix_of, title_of, Held}
use Rattle.tf_journal.specs.declared.title.Title.{Title}
use Rattle.tf_journal.specs.declared.title.Title.TheVariants.{Jobs as jobs_title}
use Rattle.tf_journal.proofs.ReachLemmas.{flat_map-push, length-record_of}
use Rattle.tf_records.specs.Replaying.{HasReadAll}
use Rattle.tf_board.specs.Board.{bodies_of, size_of, past_in, IsTrueTo, command_bytes}
use Rattle.tf_board.specs.Reading.{HasReadCommands, HasReadBoard}
use Rattle.tf_board.specs.declared.commands.Command.{Command}
use Rattle.tf_board.specs.declared.kept.Kept.{Kept}

-- the next gate of a journal with these bodies stands before its size
pub prefix_long : (past : List Command) → length (prefix_of jobs_title (bodies_of past)) + 1 ≡ size_of past
prefix_long past = omega (arith, long past, length-append (OPEN ∷ title_of jobs_title) (flat_map record_of (bodies_of past)))
  where
    long : (past : List Command) → length (flat_map record_of (bodies_of past)) + 18 ≡ size_of past
    long [] = refl
    long (c ∷ past) =
        omega (arith, long past, ap length (flat_map-push (bodies_of past) (command_bytes c)), length-append (flat_map record_of (bodies_of past)) (record_of (command_bytes c)), length-record_of (command_bytes c))

-- no command was read yet
pub read_none : (kept : Kept) → IsTrueTo kept [] → HasReadCommands kept []
read_none kept none = record {
  true_to = subst (λ (p : List Command). IsTrueTo kept p) (sym none.commands) none;
  bodies_are = ap bodies_of (sym none.commands);
}

-- all was read
pub read_all : {K : Type 0} (state : K → DeskState) (j : Held K) (desk : K) (kept : Kept) → j.title ≡ jobs_title → HasReadAll state HasReadCommands j desk kept
    → HasReadBoard state j desk kept
read_all state j desk kept titled read =
    let are : read.bodies ≡ bodies_of (past_in kept) = read.is_replayed.bodies_are in
    let same : length (prefix_of j.title read.bodies) ≡ length (prefix_of jobs_title (bodies_of (past_in kept))) =
    ap (λ (t : Title). length (prefix_of t read.bodies)) titled ∙ ap (λ (b : List (List ℕ)). length (prefix_of jobs_title b)) are in
    record {
      true_to = read.is_replayed.true_to;
      size = omega (arith, read.size, same, prefix_long (past_in kept));
      limit = read.limit;
      whole = λ told held lies. read.whole told held lies ∙ are;
    }
