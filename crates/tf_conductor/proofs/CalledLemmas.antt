-- What a call of the shared board leaves of what conductors hand round.
use Rattle.std.proofs.Common.{◌≡◌, ◌⊎◌, inl, inr, ℕ, ◌+◌, List, length, Option, Some, None, Result, Ok, Err, refl, sym, ap, subst, ◌∙◌, arith}
use Rattle.std.specs.Prelude.{IfOk, IfErr, IfSome, IsSome, IsTrue, slice_get}
use Rattle.tf_desk.specs.State.{DeskState, GoesOn, MayLeave}
use Rattle.tf_desk.proofs.StateLemmas.{goes_within}
use Rattle.tf_board.specs.Board.{BoardValue, LeavesHeld, board_in, refuses_id}
use Rattle.tf_board.specs.Does.{LeavesRecorded, number_of, asked_for, command_of, job_of, refuses_call, id_named}
use Rattle.tf_board.specs.Seeking.{free_job, id_at}
use Rattle.tf_board.specs.declared.commands.Command.{Command}
use Rattle.tf_board.specs.declared.commands.JobAction.TheVariants as action
use Rattle.tf_board.proofs.ClaimLemmas.{found_claim}
use Rattle.tf_board.specs.declared.rules.Refusal.{Refusal}
use Rattle.tf_shared_board.specs.Shared.{FailsToAsk, fault_for, numbered, SharedValue, HasCause, IsMade, IsShared, FailsToCall}
use Rattle.tf_shared_board.specs.declared.calls.BoardHalt.{BoardHalt}
use Rattle.tf_shared_board.specs.declared.calls.BoardHalt.TheVariants as halt
use Rattle.tf_shared_board.specs.declared.calls.CallFault.{CallFault}
use Rattle.tf_shared_board.specs.declared.calls.CallFault.TheVariants as call_fault
use Rattle.tf_board.specs.declared.calls.JobCall.{JobCall}
use Rattle.tf_shared_board.specs.declared.calls.Made.{Made}
use Rattle.tf_shared_board.proofs.CallLemmas.{length-followed, length-numbered}
use Rattle.tf_conductor.specs.declared.turns.Next.{Next}
use Rattle.tf_conductor.specs.declared.turns.Next.TheVariants as next
use Rattle.tf_conductor.specs.Conducting.{ConductingValue, MakesNoCall, IsConducting, Claims}
use Rattle.tf_conductor.specs.Rounds.{IsConductors, claim_by, HoldsKept, IsBy, LeavesTried}
use Rattle.tf_conductor.proofs.TurnLemmas.{kept_none, kept_one, same_none, still_goes, still_leaves, tried_of}

-- a call of the conductor of this number is one of a conductor's
pub by_conductor : (owners : List (List ℕ)) (number : ℕ) (owner : List ℕ) → slice_get owners number ≡ Some owner → (m : Made) → IsBy number owner m → IsConductors owners m
by_conductor owners number owner has m is = (owner, ap (λ (n : ℕ). slice_get owners n) is.0 ∙ has, is.1)

module _ {K : Type 0} (state : K → DeskState) where
  -- the board of a call that failed so keeps its commands
  failed_past : (refused : Option Refusal) (id : List ℕ) (added : Command) (old new : BoardValue K) (h : BoardHalt) → FailsToAsk state refused id added old new (fault_for h) → new.past ≡ old.past
  failed_past refused id added old new halt.Disk fails = ap (λ (b : BoardValue K). b.past) fails.1.halted.now
  failed_past refused id added old new (halt.Full size need) fails = ap (λ (b : BoardValue K). b.past) fails.1.now
  failed_past refused id added old new halt.Memory fails = ap (λ (b : BoardValue K). b.past) fails

  -- and the halt has its cause
  failed_cause : (refused : Option Refusal) (id : List ℕ) (added : Command) (old new : BoardValue K) (h : BoardHalt) → FailsToAsk state refused id added old new (fault_for h) → HasCause state old new h
  failed_cause refused id added old new halt.Disk fails = fails.1.halted.rose
  failed_cause refused id added old new (halt.Full size need) fails =
      record { command = added; size_is = fails.1.size_is ∙ ap (λ (b : BoardValue K). b.journal.size) (sym fails.1.now); need_is = fails.1.need_is; over = fails.1.over }
  failed_cause refused id added old new halt.Memory fails = tt

  -- the call as it would be made under a number
  abbrev call_so : ℕ → JobCall → List Command → Made
  call_so number call past = record { number = number; job = job_of past call; call = call }

  -- why it wasn't made leaves the commands, or this call more where the disk failed
  failed_goes : (kind : Made → Type 0) (number : ℕ) (call : JobCall) (old new : BoardValue K) (h : BoardHalt)
      → FailsToAsk state (refuses_call old.past call) (id_named call) (asked_for old.past call) old new (fault_for h) → kind (call_so number call old.past)
      → GoesOn (LeavesRecorded old.past (asked_for old.past call) (state old.journal.desk)) (state old.journal.desk) (state new.journal.desk)
      → GoesOn (LeavesTried kind old.past (state old.journal.desk)) (state old.journal.desk) (state new.journal.desk)
  failed_goes kind number call old new halt.Disk fails is goes = goes_within goes (λ told image text left. (tried_of (call_so number call old.past) is fails.1.halted.legal left.0, left.1))
  failed_goes kind number call old new (halt.Full size need) fails is goes = still_goes state fails.1.now
  failed_goes kind number call old new halt.Memory fails is goes = still_goes state fails

  failed_leaves : (kind : Made → Type 0) (number : ℕ) (call : JobCall) (old new : BoardValue K) (h : BoardHalt)
      → FailsToAsk state (refuses_call old.past call) (id_named call) (asked_for old.past call) old new (fault_for h) → kind (call_so number call old.past)
      → IsTrue (state old.journal.desk).tells → LeavesHeld old.past (state old.journal.desk)
      → (image : List ℕ) → MayLeave (state new.journal.desk) image → HoldsKept kind old.past (Some h) (board_in image)
  failed_leaves kind number call old new halt.Disk fails is told held image left = inr (refl, tried_of (call_so number call old.past) is fails.1.halted.legal (fails.1.leaves told image left))
  failed_leaves kind number call old new (halt.Full size need) fails is told held image left = still_leaves state fails.1.now told held image left
  failed_leaves kind number call old new halt.Memory fails is told held image left = still_leaves state fails told held image left

  -- a call that failed made none
  pub failed_none : (kind : Made → Type 0) (number : ℕ) (call : JobCall) (old new : SharedValue K) (f : CallFault) → FailsToCall state call old new f
      → kind (call_so number call old.board.past)
      → GoesOn (LeavesRecorded old.board.past (asked_for old.board.past call) (state old.board.journal.desk)) (state old.board.journal.desk) (state new.board.journal.desk)
      → MakesNoCall state kind old new
  failed_none kind number call old new (call_fault.Rule fault) fails is goes = same_none state kind old new fails.0
  failed_none kind number call old new (call_fault.Halted h) fails is goes = by fails.cause
    where
      halted : new.halt ≡ Some h
      halted = ap (λ (s : SharedValue K). s.halt) fails.now

      by : ((old.halt ≡ Some h) × (new.board ≡ old.board)) ⊎ ((old.halt ≡ None)
          × FailsToAsk state (refuses_call old.board.past call) (id_named call) (asked_for old.board.past call) old.board new.board (fault_for h)) → MakesNoCall state kind old new
      by (inl was) = record {
        start = ap (λ (s : SharedValue K). s.start) fails.now;
        made = ap (λ (s : SharedValue K). s.made) fails.now;
        past = ap (λ (b : BoardValue K). b.past) was.1;
        goes = still_goes state was.1;
        leaves = still_leaves state was.1;
        stays = λ other had. halted ∙ sym was.0 ∙ had;
        still = λ other had. was.1;
        cause = λ none. (let clash : Some h ≡ None = sym was.0 ∙ none in absurd (cc));
      }
      by (inr now) = record {
        start = ap (λ (s : SharedValue K). s.start) fails.now;
        made = ap (λ (s : SharedValue K). s.made) fails.now;
        past = failed_past _ _ _ old.board new.board h now.1;
        goes = failed_goes kind number call old.board new.board h now.1 is goes;
        leaves = λ told held image left.
            subst (λ (o : Option BoardHalt). HoldsKept kind old.board.past o (board_in image)) (sym halted) (failed_leaves kind number call old.board new.board h now.1 is told held image left);
        stays = λ other had. (let clash : Some other ≡ None = sym had ∙ now.0 in absurd (cc));
        still = λ other had. (let clash : Some other ≡ None = sym had ∙ now.0 in absurd (cc));
        cause = λ none. subst (λ (o : Option BoardHalt). IfSome o (HasCause state old.board new.board)) (sym halted) (failed_cause _ _ _ old.board new.board h now.1);
      }

  -- what conductors hand round keeps to a call by one of them
  pub kept_called : (c : ConductingValue K) (new : SharedValue K) (number : ℕ) (call : JobCall) (result : Result ℕ CallFault) → IsConducting state c
      → IfOk result (λ job. IsMade state (record { number = number; job = job; call = call }) c.now new) → IfErr result (λ f. FailsToCall state call c.now new f)
      → GoesOn (LeavesRecorded c.now.board.past (asked_for c.now.board.past call) (state c.now.board.journal.desk)) (state c.now.board.journal.desk) (state new.board.journal.desk)
      → ((job : ℕ) → IsConductors c.owners (record { number = number; job = job; call = call }))
      → IsConducting state (record c { now = new })
  kept_called c new number call (Ok job) k made fails goes mine =
      kept_one state (record { number = number; job = job; call = call }) c new k made
      (subst (λ (n : ℕ). GoesOn (LeavesRecorded c.now.board.past (command_of call n) (state c.now.board.journal.desk)) (state c.now.board.journal.desk) (state new.board.journal.desk)) (sym made.job_is) goes) (mine job)
  kept_called c new number call (Err f) k made fails goes mine =
      kept_none state (IsConductors c.owners) c new k (failed_none (IsConductors c.owners) number call c.now new f fails (mine (job_of c.now.board.past call)) goes) (λ m is. is)

  -- how many calls there are
  pub counted : (s : SharedValue K) → IsShared state s → length s.start.past + length (numbered s.made) ≡ length s.board.past
  counted s shared = omega (arith, ap length shared.begins, length-followed s.start.past s.made, length-numbered s.made)

  -- a call that isn't refused and wasn't made halts
  pub halted_call : (kind : Made → Type 0) (number : ℕ) (call : JobCall) (old new : SharedValue K) (f : CallFault) → refuses_call old.board.past call ≡ None → FailsToCall state call old new f
      → kind (call_so number call old.board.past)
      → GoesOn (LeavesRecorded old.board.past (asked_for old.board.past call) (state old.board.journal.desk)) (state old.board.journal.desk) (state new.board.journal.desk)
      → MakesNoCall state kind old new × IsSome new.halt
  halted_call kind number call old new (call_fault.Rule fault) may fails is goes = (let clash : Some fails.2.why ≡ None = sym fails.2.refused_is ∙ may in absurd (cc))
  halted_call kind number call old new (call_fault.Halted h) may fails is goes = (
    failed_none kind number call old new (call_fault.Halted h) fails is goes,
    subst (λ (o : Option BoardHalt). IsSome o) (sym (ap (λ (s : SharedValue K). s.halt) fails.now)) refl,
  )

  -- what conductors hand round keeps to a turn to claim
  pub kept_claims : (c : ConductingValue K) (new : SharedValue K) (number : ℕ) (owner skip : List ℕ) (n : Next) → IsConducting state c → Claims state number owner skip c.now new n → slice_get c.owners number ≡ Some owner
      → IsConducting state (record c { now = new })
  kept_claims c new number owner skip next.Stop k claims has = subst (λ (s : SharedValue K). IsConducting state (record c { now = s })) (sym claims.0) k
  kept_claims c new number owner skip next.Halt k claims has = kept_none state (IsBy number owner) c new k claims.0 (by_conductor c.owners number owner has)
  kept_claims c new number owner skip (next.Run claim) k claims has = kept_one state (claim_by number owner claim.job claim.id) c new k claims.0 claims.1 (owner, has, refl)

-- the job that is found may be claimed by its id
pub claim_may : (past : List Command) (skip : List ℕ) (job : ℕ) (id owner : List ℕ) → free_job past skip ≡ Some job → id_at past job ≡ Some id
    → (number_of past id ≡ job) × (refuses_id past action.Claim id owner ≡ None)
claim_may past skip job id owner free is =
    let f = found_claim past skip job free in
    let both : Some f.0 ≡ Some id = sym f.1 ∙ is in
    let same : f.0 ≡ id = cc in
    (ap (number_of past) (sym same) ∙ f.2, subst (λ (i : List ℕ). refuses_id past action.Claim i owner ≡ None) same (f.3 owner))
