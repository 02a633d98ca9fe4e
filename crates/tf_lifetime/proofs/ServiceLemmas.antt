-- What the service of a board, and conductors who work on one, leave of its file: the commands from before, and some that were added behind them.
use Rattle.std.proofs.Common.{◌≡◌, ℕ, List, [], ◌∷◌, ◌++◌, Option, refl, sym, ap, ◌∙◌, subst, inl, inr, ◌⊎◌, append_assoc}
use Rattle.tf_desk.specs.State.{DeskState}
use Rattle.tf_board.specs.Board.{AreOfBoard, Finds, Holds, board_in}
use Rattle.tf_board.specs.Does.{HoldsEither}
use Rattle.tf_board.specs.declared.commands.Command.{Command}
use Rattle.tf_board.proofs.StayLemmas.{older_of_board}
use Rattle.tf_shared_board.specs.Shared.{followed_by, made_command, HoldsSome, IsUnrecorded, holds_all, holds_first, no_pending, one_pending}
use Rattle.tf_shared_board.specs.declared.calls.BoardHalt.{BoardHalt}
use Rattle.tf_shared_board.specs.declared.calls.Made.{Made}
use Rattle.tf_board_service.specs.Sessions.{LeavesCalls}
use Rattle.tf_conductor.specs.Rounds.{HoldsKept, HoldsSome as HoldsSomeTried, HoldsTried, all_held, one_more}
use Rattle.tf_runner.specs.Conducts.{LeavesCalls as LeavesConducted}

-- a board's file has these commands and those that were added behind them, all of which a board may hold
pub record GrownBy (before : List Command) (file : List ℕ) : Type 0 where
  pub added : List Command
  pub legal : AreOfBoard (added ++ before)
  pub holds : Holds (added ++ before) (board_in file)

-- commands that are followed by those of calls have more behind them
followed_added : (past : List Command) (made : List Made) → (added : List Command) × (followed_by past made ≡ added ++ past)
followed_added past [] = ([], refl)
followed_added past (m ∷ made) =
    let more = followed_added (made_command m ∷ past) made in
    (more.0 ++ made_command m ∷ [], more.1 ∙ sym (append_assoc more.0 (made_command m ∷ []) past))

followed_append : (past : List Command) (first others : List Made) → followed_by past (first ++ others) ≡ followed_by (followed_by past first) others
followed_append past [] others = refl
followed_append past (m ∷ first) others = followed_append (made_command m ∷ past) first others

-- a board may hold the pending one too
pending_legal : (halted : Option BoardHalt) (all pending : List Command) → AreOfBoard all → IsUnrecorded halted all pending → AreOfBoard (pending ++ all)
pending_legal halted all pending legal no_pending = legal
pending_legal halted all pending legal (one_pending last is may) = may

-- a file that has all commands, or the pending one too
pub either_grown : (past added pending all : List Command) (file : List ℕ) → all ≡ added ++ past → AreOfBoard (pending ++ all) → HoldsEither pending all (board_in file) → GrownBy past file
either_grown past added pending all file is may (inl held) = record {
  added = added;
  legal = subst AreOfBoard is (older_of_board pending all may);
  holds = subst (λ (l : List Command). Holds l (board_in file)) is held;
}
either_grown past added pending all file is may (inr held) =
    let whole : pending ++ all ≡ (pending ++ added) ++ past = ap (λ (l : List Command). pending ++ l) is ∙ sym (append_assoc pending added past) in
    record {
      added = pending ++ added;
      legal = subst AreOfBoard whole may;
      holds = subst (λ (l : List Command). Holds l (board_in file)) whole held;
    }

module _ (past : List Command) (made : List Made) (halted : Option BoardHalt) (pending : List Command) (legal : AreOfBoard (followed_by past made)) (is : IsUnrecorded halted (followed_by past made) pending) where
  -- a file that has the commands of all calls
  pub all_grown : (file : List ℕ) → HoldsEither pending (followed_by past made) (board_in file) → GrownBy past file
  all_grown file holds =
      let all = followed_added past made in
      either_grown past all.0 pending (followed_by past made) file all.1 (pending_legal halted (followed_by past made) pending legal is) holds

  -- or of some first of them
  some_grown : (file : List ℕ) → HoldsSome past made pending (board_in file) → GrownBy past file
  some_grown file (holds_first first others splits holds) =
      let head = followed_added past first in
      let more = followed_added (followed_by past first) others in
      let whole : followed_by past made ≡ more.0 ++ followed_by past first = ap (followed_by past) splits ∙ followed_append past first others ∙ more.1 in
      either_grown past head.0 [] (followed_by past first) file head.1 (older_of_board more.0 (followed_by past first) (subst AreOfBoard whole legal)) (inl holds)
  some_grown file (holds_all holds) = all_grown file (inr holds)

  -- what a crash leaves
  pub crash_grown : (entry : DeskState) (message image text : List ℕ) → LeavesCalls past made pending entry message image text → Finds past (board_in image) ⊎ GrownBy past image
  crash_grown entry message image text (inl (inl before)) = inl before.0
  crash_grown entry message image text (inl (inr some)) = inr (some_grown image some.0)
  crash_grown entry message image text (inr all) = inr (all_grown image all.0)

-- ---- conductors

-- a file that has the commands of the calls, or one more
tried_grown : {kind : Made → Type 0} (past added all : List Command) (file : List ℕ) → all ≡ added ++ past → AreOfBoard all → HoldsTried kind all (board_in file) → GrownBy past file
tried_grown past added all file is legal (all_held holds) = either_grown past added [] all file is legal (inl holds)
tried_grown past added all file is legal (one_more m who may holds) = either_grown past added (made_command m ∷ []) all file is may (inr holds)

module _ {kind : Made → Type 0} (past : List Command) (made : List Made) (legal : AreOfBoard (followed_by past made)) where
  -- a file that has the commands of all calls, or one more where the disk failed
  pub conducted_grown : {halted : Option BoardHalt} (file : List ℕ) → HoldsKept kind (followed_by past made) halted (board_in file) → GrownBy past file
  conducted_grown file (inl holds) =
      let all = followed_added past made in
      either_grown past all.0 [] (followed_by past made) file all.1 legal (inl holds)
  conducted_grown file (inr failed) =
      let all = followed_added past made in
      tried_grown past all.0 (followed_by past made) file all.1 legal failed.1

  -- a file that has those of some first of the calls, or one more
  some_tried : (file : List ℕ) → HoldsSomeTried kind past made (board_in file) → GrownBy past file
  some_tried file some =
      let head = followed_added past some.first in
      let more = followed_added (followed_by past some.first) some.others in
      let whole : followed_by past made ≡ more.0 ++ followed_by past some.first = ap (followed_by past) some.splits ∙ followed_append past some.first some.others ∙ more.1 in
      tried_grown past head.0 (followed_by past some.first) file head.1 (older_of_board more.0 (followed_by past some.first) (subst AreOfBoard whole legal)) some.holds

-- what a crash leaves
pub conducted_crash : {word : List ℕ} {count : ℕ} {halted : Option BoardHalt} (past : List Command) (made : List Made) → AreOfBoard (followed_by past made) → (entry : DeskState) (image text : List ℕ)
    → LeavesConducted word count past made halted entry image text → Finds past (board_in image) ⊎ GrownBy past image
conducted_crash past made legal entry image text (inl before) = inl before.0
conducted_crash past made legal entry image text (inr (inl some)) = inr (some_tried past made legal image some.0)
conducted_crash past made legal entry image text (inr (inr all)) = inr (conducted_grown past made legal image all.0)
