-- What becomes of a board where a call is asked of it.
use Rattle.std.proofs.Common.{◌≡◌, inl, inr, ℕ, ◌+◌, false, List, [], Option, Some, None, Result, Ok, Err, refl, sym, subst}
use Rattle.std.specs.Prelude.{IsTrue, IfOk}
use Rattle.tf_desk.specs.State.{DeskState, MayLeave, GoesOn}
use Rattle.tf_desk.proofs.StateLemmas.{goes_none}
use Rattle.tf_board.specs.Board.{BoardValue, board_in, posted}
use Rattle.tf_board.specs.Does.{HoldsMaybe, LeavesRecorded, FailsToRecord, Records, fault_of, number_of, applied, Acts}
use Rattle.tf_board.specs.declared.commands.Command.{Command}
use Rattle.tf_board.specs.declared.commands.JobAction.{JobAction}
use Rattle.tf_board.specs.declared.faults.BoardFault.{BoardFault}
use Rattle.tf_board.specs.declared.faults.BoardFault.TheVariants as fault
use Rattle.tf_board.specs.declared.rules.Refusal.{Refusal}
use Rattle.tf_board.specs.declared.rules.Refusal.TheVariants as refusal
use Rattle.tf_shared_board.specs.Shared.{FailsToAsk, AsksFor}

module _ {K : Type 0} (state : K → DeskState) where
  -- nothing changed
  pub asks_same : (refused : Option Refusal) (id : List ℕ) (job : ℕ) (added : Command) (old new : BoardValue K) (f : BoardFault) → new ≡ old → FailsToAsk state refused id added old new f
      → AsksFor state refused id job added old new (Err f)
  asks_same refused id job added old new f same fails = record {
    recorded = tt;
    fails = fails;
    goes = subst (λ (b : BoardValue K). GoesOn (LeavesRecorded old.past added (state old.journal.desk)) (state old.journal.desk) (state b.journal.desk)) (sym same) goes_none;
  }

  -- a command that isn't refused wasn't recorded
  unrecorded : (id : List ℕ) (added : Command) (old new : BoardValue K) (f : BoardFault)
      → (IsTrue (state old.journal.desk).tells → old.journal.halted ≡ false → (image : List ℕ) → MayLeave (state new.journal.desk) image → HoldsMaybe old.past added (board_in image))
      → FailsToRecord state added old new f → FailsToAsk state None id added old new f
  unrecorded id added old new fault.Disk leaves fails = (refl, record { halted = fails; leaves = λ told. leaves told fails.sound })
  unrecorded id added old new (fault.Full size need) leaves fails = (refl, fails)
  unrecorded id added old new fault.Halted leaves fails = fails
  unrecorded id added old new fault.Memory leaves fails = fails
  unrecorded id added old new (fault.NoJob text) leaves fails = absurd fails
  unrecorded id added old new (fault.Gone text) leaves fails = absurd fails
  unrecorded id added old new (fault.Claimed owner) leaves fails = absurd fails
  unrecorded id added old new (fault.NotOwner owner) leaves fails = absurd fails

  -- a job was to be posted
  pub posted_asks : (added : Command) (old new : BoardValue K) (result : Result ℕ BoardFault) → Records state old new added result → IfOk result (λ number. number ≡ posted old.past + 1)
      → AsksFor state None [] (posted old.past + 1) added old new result
  posted_asks added old new (Ok number) records is = record { recorded = (is, refl, records.recorded); fails = tt; goes = records.goes }
  posted_asks added old new (Err f) records is = record { recorded = tt; fails = unrecorded [] added old new f records.leaves records.fails; goes = records.goes }

  -- an owner did something
  pub acted_ok : (refused : Option Refusal) (old new : BoardValue K) (action : JobAction) (id owner : List ℕ) (job : ℕ) → job ≡ number_of old.past id → Acts state refused old new action id owner (Ok tt)
      → AsksFor state refused id (number_of old.past id) (applied old.past action id owner) old new (Ok job)
  acted_ok None old new action id owner job is records = record { recorded = (is, refl, records.recorded); fails = tt; goes = records.goes }
  acted_ok (Some why) old new action id owner job is ruled = elim ruled.answer [ inl clash ↦ absurd (cc) | inr clash ↦ absurd (cc) ]

  -- it is refused for this reason
  ruled_for : (why : Refusal) (id : List ℕ) (added : Command) (old new : BoardValue K) → new ≡ old → FailsToAsk state (Some why) id added old new (fault_of why id)
  ruled_for refusal.NoJob id added old new same = record { now = same; why = refusal.NoJob; refused_is = refl; fault_is = refl }
  ruled_for refusal.Gone id added old new same = record { now = same; why = refusal.Gone; refused_is = refl; fault_is = refl }
  ruled_for (refusal.Claimed owner) id added old new same = record { now = same; why = refusal.Claimed owner; refused_is = refl; fault_is = refl }
  ruled_for (refusal.NotOwner owner) id added old new same = record { now = same; why = refusal.NotOwner owner; refused_is = refl; fault_is = refl }

  -- an owner couldn't do something
  pub acted_err : (refused : Option Refusal) (old new : BoardValue K) (action : JobAction) (id owner : List ℕ) (f : BoardFault) → Acts state refused old new action id owner (Err f)
      → AsksFor state refused id (number_of old.past id) (applied old.past action id owner) old new (Err f)
  acted_err None old new action id owner f records = record { recorded = tt; fails = unrecorded id (applied old.past action id owner) old new f records.leaves records.fails; goes = records.goes }
  acted_err (Some why) old new action id owner f ruled =
      asks_same (Some why) id (number_of old.past id) (applied old.past action id owner) old new f ruled.now
      (elim ruled.answer [
        | inl is ↦ (let same : fault_of why id ≡ f = cc in subst (λ (x : BoardFault). FailsToAsk state (Some why) id (applied old.past action id owner) old new x) same (ruled_for why id (applied old.past action id owner) old new ruled.now))
        | inr is ↦ (let same : fault.Memory ≡ f = cc in subst (λ (x : BoardFault). FailsToAsk state (Some why) id (applied old.past action id owner) old new x) same ruled.now)
      ])
