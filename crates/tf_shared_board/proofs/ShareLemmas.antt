-- What the type of a shared board keeps.
use Rattle.std.proofs.Common.{◌≡◌, ◌≤◌, ℕ, ◌+◌, false, List, [], ◌∷◌, ◌++◌, length, Option, Some, None, refl, sym, ap, subst, ◌∙◌, inl, inr, ⊎_elim, append-nil, append_assoc, arith}
use Rattle.std.specs.Prelude.{IsTrue, is_some}
use Rattle.tf_numbers.specs.Numbers.{Rises}
use Rattle.tf_desk.specs.Crash.{Pairs}
use Rattle.tf_desk.specs.State.{DeskState, anything, GoesOn}
use Rattle.tf_desk.proofs.StateLemmas.{goes_none, goes_on, on_disk_told}
use Rattle.tf_board.specs.Board.{AreOfBoard, BoardValue, Holds, board_in, command_bytes, size_of}
use Rattle.tf_board.specs.Does.{HoldsMaybe, IsRecorded, LeavesRecorded, job_of}
use Rattle.tf_board.specs.declared.commands.Command.{Command}
use Rattle.tf_board.specs.declared.faults.BoardFault.{BoardFault}
use Rattle.tf_board.specs.declared.faults.BoardFault.TheVariants as fault
use Rattle.tf_board.specs.declared.rules.Refusal.{Refusal}
use Rattle.tf_shared_board.specs.declared.calls.BoardHalt.{BoardHalt}
use Rattle.tf_shared_board.specs.declared.calls.BoardHalt.TheVariants as halt
use Rattle.tf_shared_board.specs.declared.calls.Made.{Made}
use Rattle.tf_shared_board.specs.Shared.{FailsToAsk, FailsOnDisk, IsRule, fault_for, made_command, followed_by, HasCause, IsShared, IsUnrecorded, no_pending, one_pending, HoldsSome, holds_first, holds_all, LeavesSome, KeepsFile}
use Rattle.tf_shared_board.proofs.CallLemmas.{followed_more, about_more}

-- ---- what the file has

-- a board that goes on has no pending command
none_pending : (halted : Option BoardHalt) (past pending : List Command) → halted ≡ None → IsUnrecorded halted past pending → pending ≡ []
none_pending halted past pending going no_pending = refl
none_pending halted past pending going (one_pending last is legal) = let no : None ≡ Some halt.Disk = sym going ∙ is in absurd (cc)

-- what the file has, has it too with one call more
some_more : (past : List Command) (made : List Made) (m : Made) (image : List ℕ) → HoldsSome past made [] (board_in image) → HoldsSome past (made ++ m ∷ []) [] (board_in image)
some_more past made m image (holds_first first others is holds) =
    holds_first first (others ++ m ∷ []) (ap (λ (l : List Made). l ++ m ∷ []) is ∙ append_assoc first others (m ∷ [])) holds
some_more past made m image (holds_all holds) = holds_first made (m ∷ []) refl holds

-- or with a pending command
some_pending : (past : List Command) (made : List Made) (last : Command) (image : List ℕ) → HoldsSome past made [] (board_in image) → HoldsSome past made (last ∷ []) (board_in image)
some_pending past made last image (holds_first first others is holds) = holds_first first others is holds
some_pending past made last image (holds_all holds) = holds_first made [] (sym (append-nil made)) holds

module _ {K : Type 0} (state : K → DeskState) where
  -- a board that is shared now
  pub file_new : (board : BoardValue K) → KeepsFile state record { start = board; board = board; made = []; halt = None }
  file_new board = record { pending = []; is_pending = no_pending; leaves = λ told held image left. inl (held image left); crash = goes_none }

  -- it is halted, and nothing else changed
  pub file_stopped : (start board : BoardValue K) (made : List Made) (h : BoardHalt) → KeepsFile state record { start = start; board = board; made = made; halt = None }
      → KeepsFile state record { start = start; board = board; made = made; halt = Some h }
  file_stopped start board made h f =
      let none : f.pending ≡ [] = none_pending None board.past f.pending refl f.is_pending in
      record {
        pending = f.pending;
        is_pending = subst (λ (l : List Command). IsUnrecorded (Some h) board.past l) (sym none) no_pending;
        leaves = f.leaves;
        crash = f.crash;
      }

  -- a call was made
  file_made : (start old new : BoardValue K) (made : List Made) (m : Made) → KeepsFile state record { start = start; board = old; made = made; halt = None } → old.past ≡ followed_by start.past made
      → GoesOn anything (state start.journal.desk) (state old.journal.desk) → IsRecorded state (made_command m) old new
      → GoesOn (LeavesRecorded old.past (made_command m) (state old.journal.desk)) (state old.journal.desk) (state new.journal.desk)
      → KeepsFile state record { start = start; board = new; made = made ++ m ∷ []; halt = None }
  file_made start old new made m f begins came recorded goes =
      let none : f.pending ≡ [] = none_pending None old.past f.pending refl f.is_pending in
      let was : GoesOn (LeavesSome start.past made [] (state start.journal.desk)) (state start.journal.desk) (state old.journal.desk) =
      subst (λ (l : List Command). GoesOn (LeavesSome start.past made l (state start.journal.desk)) (state start.journal.desk) (state old.journal.desk)) none f.crash in
      record {
        pending = [];
        is_pending = no_pending;
        leaves = λ told held image left. inl (subst (λ (l : List Command). Holds l (board_in image)) (sym (ap (λ (b : BoardValue K). b.past) recorded.now))
            (recorded.lasts (on_disk_told came.on_disk told) image left));
        crash = goes_on was goes
            (λ told image text left. (some_more start.past made m image left.0, left.1))
            (λ told image text left. (
              ⊎_elim
                  (λ before. holds_first made (m ∷ []) refl (subst (λ (l : List Command). Holds l (board_in image)) begins before))
                  (λ after. holds_all (subst (λ (l : List Command). Holds l (board_in image)) (ap (λ (l : List Command). made_command m ∷ l) begins ∙ sym (followed_more start.past made m)) after))
                  left.0,
              sym came.on_disk.shown ∙ left.1,
            ));
      }

  -- the disk failed where a call was to be recorded
  file_failed : (start old new : BoardValue K) (made : List Made) (added : Command) → KeepsFile state record { start = start; board = old; made = made; halt = None } → old.past ≡ followed_by start.past made
      → GoesOn anything (state start.journal.desk) (state old.journal.desk) → FailsOnDisk state added old new
      → GoesOn (LeavesRecorded old.past added (state old.journal.desk)) (state old.journal.desk) (state new.journal.desk)
      → KeepsFile state record { start = start; board = new; made = made; halt = Some halt.Disk }
  file_failed start old new made added f begins came fails goes =
      let none : f.pending ≡ [] = none_pending None old.past f.pending refl f.is_pending in
      let same : new.past ≡ old.past = ap (λ (b : BoardValue K). b.past) fails.halted.now in
      let was : GoesOn (LeavesSome start.past made [] (state start.journal.desk)) (state start.journal.desk) (state old.journal.desk) =
      subst (λ (l : List Command). GoesOn (LeavesSome start.past made l (state start.journal.desk)) (state start.journal.desk) (state old.journal.desk)) none f.crash in
      record {
        pending = added ∷ [];
        is_pending = one_pending added refl (subst (λ (l : List Command). AreOfBoard (added ∷ l)) (sym same) fails.halted.legal);
        leaves = λ told held image left. subst (λ (l : List Command). HoldsMaybe l added (board_in image)) (sym same) (fails.leaves (on_disk_told came.on_disk told) image left);
        crash = goes_on was goes
            (λ told image text left. (some_pending start.past made added image left.0, left.1))
            (λ told image text left. (
              ⊎_elim
                  (λ before. holds_first made [] (sym (append-nil made)) (subst (λ (l : List Command). Holds l (board_in image)) begins before))
                  (λ after. holds_all (subst (λ (l : List Command). Holds l (board_in image)) (ap (λ (l : List Command). added ∷ l) begins) after))
                  left.0,
              sym came.on_disk.shown ∙ left.1,
            ));
      }

  -- ---- what the type keeps

  -- a board that is shared now
  pub kept_new : (board : BoardValue K) → board.journal.halted ≡ false → IsShared state record { start = board; board = board; made = []; halt = None }
  kept_new board sound = record { begins = refl; about = tt; sound = λ is. sound; goes = goes_none; cause = tt; file = file_new board; sized = λ is. is }

  -- a call was made
  pub kept_made : (start old new : BoardValue K) (made : List Made) (m : Made) → IsShared state record { start = start; board = old; made = made; halt = None } → m.job ≡ job_of old.past m.call
      → IsRecorded state (made_command m) old new → GoesOn (LeavesRecorded old.past (made_command m) (state old.journal.desk)) (state old.journal.desk) (state new.journal.desk)
      → IsShared state record { start = start; board = new; made = made ++ m ∷ []; halt = None }
  kept_made start old new made m s is recorded goes = record {
    begins = ap (λ (b : BoardValue K). b.past) recorded.now ∙ ap (λ (p : List Command). made_command m ∷ p) s.begins ∙ sym (followed_more start.past made m);
    about = about_more start.past made m s.about (is ∙ ap (λ (p : List Command). job_of p m.call) s.begins);
    sound = λ going. ap (λ (b : BoardValue K). b.journal.halted) recorded.now ∙ recorded.sound;
    goes = goes_on {during = anything} s.goes goes (λ told image text left. tt) (λ told image text left. tt);
    cause = tt;
    file = file_made start old new made m s.file s.begins s.goes recorded goes;
    sized = λ is. ap (λ (b : BoardValue K). b.journal.size) recorded.now ∙ ap (λ (n : ℕ). n + 5 + length (command_bytes (made_command m))) (s.sized is)
        ∙ sym (ap (λ (b : BoardValue K). size_of b.past) recorded.now);
  }

  -- nothing was recorded, and there is a cause
  with_cause : {during : Pairs} (start old new : BoardValue K) (made : List Made) (h : BoardHalt) → IsShared state record { start = start; board = old; made = made; halt = None } → new.past ≡ old.past
      → GoesOn during (state old.journal.desk) (state new.journal.desk) → HasCause state start new h → new.journal.size ≡ old.journal.size → KeepsFile state record { start = start; board = new; made = made; halt = Some h } → IsShared state record { start = start; board = new; made = made; halt = Some h }
  with_cause start old new made h s same goes cause size file = record {
    begins = same ∙ s.begins;
    about = s.about;
    sound = λ is. absurd (cc);
    goes = goes_on {during = anything} s.goes goes (λ told image text left. tt) (λ told image text left. tt);
    cause = cause;
    file = file;
    sized = λ is. size ∙ s.sized is ∙ ap size_of (sym same);
  }

  -- memory ran out, and nothing else changed
  pub kept_stopped : (start board : BoardValue K) (made : List Made) → IsShared state record { start = start; board = board; made = made; halt = None }
      → IsShared state record { start = start; board = board; made = made; halt = Some halt.Memory }
  kept_stopped start board made s = with_cause {during = anything} start board board made halt.Memory s refl goes_none tt refl (file_stopped start board made halt.Memory s.file)

  -- the same of a board that isn't halted
  pub kept_for_memory : (start board : BoardValue K) (made : List Made) (h : Option BoardHalt) → is_some h ≡ false → IsShared state record { start = start; board = board; made = made; halt = h }
      → IsShared state record { start = start; board = board; made = made; halt = Some halt.Memory }
  kept_for_memory start board made None going s = kept_stopped start board made s
  kept_for_memory start board made (Some h) going s = absurd (cc)

  rises_since : (start old new : ℕ) → start ≤ old → Rises old new → Rises start new
  rises_since start old new le rises = omega (arith, le, rises)

  -- it is halted
  pub kept_halted : (start old new : BoardValue K) (made : List Made) (h : BoardHalt) (refused : Option Refusal) (id : List ℕ) (added : Command)
      → IsShared state record { start = start; board = old; made = made; halt = None } → FailsToAsk state refused id added old new (fault_for h)
      → GoesOn (LeavesRecorded old.past added (state old.journal.desk)) (state old.journal.desk) (state new.journal.desk) → IsShared state record { start = start; board = new; made = made; halt = Some h }
  kept_halted start old new made halt.Disk refused id added s fails goes =
      with_cause start old new made halt.Disk s (ap (λ (b : BoardValue K). b.past) fails.1.halted.now) goes
      (rises_since _ _ _ s.goes.on_disk.disk_faults fails.1.halted.rose) (ap (λ (b : BoardValue K). b.journal.size) fails.1.halted.now) (file_failed start old new made added s.file s.begins s.goes fails.1 goes)
  kept_halted start old new made (halt.Full size need) refused id added s fails goes =
      with_cause start old new made (halt.Full size need) s (ap (λ (b : BoardValue K). b.past) fails.1.now) goes
      (record { command = added; size_is = fails.1.size_is ∙ ap (λ (b : BoardValue K). b.journal.size) (sym fails.1.now); need_is = fails.1.need_is; over = fails.1.over })
      (ap (λ (b : BoardValue K). b.journal.size) fails.1.now)
      (subst (λ (b : BoardValue K). KeepsFile state record { start = start; board = b; made = made; halt = Some (halt.Full size need) }) (sym fails.1.now) (file_stopped start old made (halt.Full size need) s.file))
  kept_halted start old new made halt.Memory refused id added s fails goes = with_cause start old new made halt.Memory s (ap (λ (b : BoardValue K). b.past) fails) goes tt (ap (λ (b : BoardValue K). b.journal.size) fails)
      (subst (λ (b : BoardValue K). KeepsFile state record { start = start; board = b; made = made; halt = Some halt.Memory }) (sym fails) (file_stopped start old made halt.Memory s.file))

  -- where a call is refused nothing changed
  ruled_same : (refused : Option Refusal) (id : List ℕ) (added : Command) (old new : BoardValue K) (f : BoardFault) → IsRule f → FailsToAsk state refused id added old new f → new ≡ old
  ruled_same refused id added old new fault.Disk rule fails = absurd rule
  ruled_same refused id added old new (fault.Full size need) rule fails = absurd rule
  ruled_same refused id added old new fault.Halted rule fails = absurd rule
  ruled_same refused id added old new fault.Memory rule fails = absurd rule
  ruled_same refused id added old new (fault.NoJob text) rule fails = fails.now
  ruled_same refused id added old new (fault.Gone text) rule fails = fails.now
  ruled_same refused id added old new (fault.Claimed owner) rule fails = fails.now
  ruled_same refused id added old new (fault.NotOwner owner) rule fails = fails.now

  pub kept_ruled : (start old new : BoardValue K) (made : List Made) (h : Option BoardHalt) (refused : Option Refusal) (id : List ℕ) (added : Command) (f : BoardFault)
      → IsShared state record { start = start; board = old; made = made; halt = h } → IsRule f → FailsToAsk state refused id added old new f
      → IsShared state record { start = start; board = new; made = made; halt = h }
  kept_ruled start old new made h refused id added f s rule fails =
      subst (λ (b : BoardValue K). IsShared state record { start = start; board = b; made = made; halt = h }) (sym (ruled_same refused id added old new f rule fails)) s
