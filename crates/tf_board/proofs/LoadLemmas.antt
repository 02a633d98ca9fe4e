-- How a board's file is read, or made.
use Rattle.std.proofs.Common.{◌≡◌, ℕ, List, [], Result, Ok, Err, sym, ap, subst, ◌∙◌, inl, inr}
use Rattle.std.specs.Prelude.{IsTrue, IfOk, IfErr}
use Rattle.tf_desk.specs.State.{DeskState, nothing_left, bytes_now, told_as, Trusts, Rests, GoesOn}
use Rattle.tf_desk.proofs.CountLemmas.{rises_later}
use Rattle.tf_desk.proofs.StateLemmas.{none_within, trusts_goes, trusts_goes_on}
use Rattle.tf_journal.specs.Format.{bodies, unborn, Held, IsAtRest, LeavesBirth}
use Rattle.tf_journal.specs.declared.faults.LoadFault.{LoadFault}
use Rattle.tf_journal.specs.declared.faults.LoadFault.TheVariants as load_fault
use Rattle.tf_journal.specs.declared.title.Title.TheVariants.{Jobs as jobs_title}
use Rattle.tf_records.specs.Replaying.{FailsToReadBack}
use Rattle.tf_records.proofs.ReplayLemmas.{unread}
use Rattle.tf_board.specs.Board.{BoardValue, board_in, bodies_of, IsRefusedCommand, desk_loaded, IsReadyBoard, IsLoadedBoard, FailsToMake, FailsToLoad, LeavesLoad}
use Rattle.tf_board.specs.declared.commands.Command.{Command}
use Rattle.tf_board.proofs.BoardLemmas.{rest_holds, rest_leaves_held}

module _ {K : Type 0} (state : K → DeskState) where
  -- ---- a load, as far as the desk tells after it

  -- a board was loaded
  abbrev pub Loads : K → BoardValue K → Type 0
  Loads desk board = IsLoadedBoard state (told_as (state board.journal.desk) (state desk)) board

  -- none was
  abbrev pub Unloads : K → K → LoadFault → Type 0
  Unloads desk back fault = FailsToLoad fault (told_as (state back) (state desk)) (state back)

  -- ---- a journal that was read

  -- these bodies are in the file, and the journal is at rest
  abbrev pub Recovers : K → Held K → Type 0
  Recovers desk journal =
      IsTrue (state journal.desk).tells → (held : List (List ℕ)) × (board_in (bytes_now (state desk)) ≡ bodies held) × IsAtRest state journal held

  -- its commands were read back
  pub read_loaded : (desk : K) (journal : Held K) (r : Result (BoardValue K) (K × LoadFault)) → Recovers desk journal
      → Trusts Rests (state journal.desk) (state (desk_loaded r)) → IfOk r IsReadyBoard
      → IfOk r (λ board. IsTrue (state board.journal.desk).tells → (held : List (List ℕ)) → IsAtRest state journal held → held ≡ bodies_of board.past)
      → IfOk r (λ board. IsTrue (state board.journal.desk).tells → IsAtRest state board.journal (bodies_of board.past))
      → IfOk r (λ board. Loads desk board)
  read_loaded desk journal (Err back) lies rests fresh loads rest = tt
  read_loaded desk journal (Ok board) lies rests fresh loads rest = record {
    fresh = fresh;
    found = λ told. let held = lies (rests.falls told) in inl (held.1 ∙ ap bodies (loads told held.0 held.2));
    holds = λ told. rest_holds state board.journal board.past fresh.titled (rest told);
    leaves = λ told. rest_leaves_held state board.journal board.past fresh.titled (rest told);
  }

  -- they weren't
  pub unread_unloaded : (desk : K) (journal : Held K) (r : Result (BoardValue K) (K × LoadFault)) → journal.title ≡ jobs_title
      → Trusts Rests (state desk) (state journal.desk) → Recovers desk journal → Trusts Rests (state journal.desk) (state (desk_loaded r))
      → IfErr r (λ back. FailsToReadBack state IsRefusedCommand back.1 journal back.0) → IfErr r (λ back. Unloads desk back.0 back.1)
  unread_unloaded desk journal (Ok board) titled rests lies later fails = tt
  unread_unloaded desk journal (Err back) titled rests lies later fails =
      let is = unread state IsRefusedCommand jobs_title (board_in (bytes_now (state desk))) desk journal back.1 back.0 titled rests lies fails later.falls in
      record { refused = is.0; cause = is.1; new_format = fails.new_format }

  -- ---- an unborn file

  module _ (desk before : K) (rests : Trusts Rests (state desk) (state before)) (unborn_then : IsTrue (state before).tells → board_in (bytes_now (state desk)) ≡ unborn) where
    -- a call that makes a board of it
    abbrev pub Births : K → Type 0
    Births now = Trusts (GoesOn (LeavesBirth jobs_title (state before).shown)) (state before) (state now)

    -- a board was made of it
    pub made_loaded : (r : Result (BoardValue K) (K × LoadFault)) → Births (desk_loaded r) → IfOk r IsReadyBoard → IfOk r (λ board. board.past ≡ [])
        → IfOk r (λ board. IsTrue (state board.journal.desk).tells → IsAtRest state board.journal []) → IfOk r (λ board. Loads desk board)
    made_loaded (Err back) goes fresh none rest = tt
    made_loaded (Ok board) goes fresh none rest =
        let at_rest : IsTrue (state board.journal.desk).tells → IsAtRest state board.journal (bodies_of board.past) =
        λ told. subst (λ (l : List Command). IsAtRest state board.journal (bodies_of l)) (sym none) (rest told) in
        record {
          fresh = fresh;
          found = λ told. inr (none, unborn_then (goes.falls told));
          holds = λ told. rest_holds state board.journal board.past fresh.titled (at_rest told);
          leaves = λ told. rest_leaves_held state board.journal board.past fresh.titled (at_rest told);
        }

    unmade_fault : (back : K) (fault : LoadFault) → FailsToMake fault (state before) (state back) → Unloads desk back fault
    unmade_fault back load_fault.Disk fails = record { refused = λ told. tt; cause = λ is. rises_later (state desk).disk_faults (state before).disk_faults (state back).disk_faults rests.does.on_disk.disk_faults fails; new_format = λ is. cc }
    unmade_fault back load_fault.Memory fails = record { refused = λ told. tt; cause = λ is. absurd (cc); new_format = λ is. cc }
    unmade_fault back (load_fault.NotABook offset byte) fails = absurd fails
    unmade_fault back load_fault.Old fails = absurd fails

    -- it couldn't be made
    pub unmade_unloaded : (r : Result (BoardValue K) (K × LoadFault)) → IfErr r (λ back. FailsToMake back.1 (state before) (state back.0))
        → IfErr r (λ back. Unloads desk back.0 back.1)
    unmade_unloaded (Ok board) fails = tt
    unmade_unloaded (Err back) fails = unmade_fault back.0 back.1 fails

    -- in either case a crash leaves it unborn or a board without a command
    pub made_goes : (now : K) → Births now → Trusts (GoesOn (LeavesLoad (state desk))) (state desk) (state now)
    made_goes now goes =
        trusts_goes_on (trusts_goes {during = nothing_left} rests) goes (λ told. none_within (LeavesLoad (state desk)))
        (λ told image text left. (unborn_then (goes.falls told), (left.0, sym rests.does.on_disk.shown ∙ left.1)))
