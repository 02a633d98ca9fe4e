use Rattle.std.proofs.Common.{◌≡◌, ◌∙◌, ℕ, Some, refl, sym, ap, subst}
use Rattle.tf_desk.specs.State.{GoesOn}
use Rattle.tf_values.specs.declared.value.Val.{Val}
use Rattle.tf_board.specs.Board.{BoardValue}
use Rattle.tf_board.specs.Does.{LeavesRecorded, command_of}
use Rattle.tf_board.specs.Seeking.{free_job, id_at, details_at}
use Rattle.tf_shared_board.specs.Shared.{IsMade}
use Rattle.tf_board.specs.declared.calls.JobCall.TheVariants as call
use Rattle.tf_board.specs.declared.commands.JobAction.TheVariants as action
use Rattle.tf_conductor.specs.Rounds.{IsBy}
use Rattle.tf_conductor.proofs.CalledLemmas.{claim_may, halted_call}
use Rattle.tf_conductor.proofs.turns.claim_next.Goals as goal

pub returns-in-Ok-call : goal.returns-in-Ok-call
returns-in-Ok-call g c =
    let state = g.K.Desk.state in
    let old = c.args.shared.now in
    let job = c.in-Some.job in
    let free : free_job old.board.past c.args.skip.now ≡ Some job = ap (λ (b : BoardValue _). free_job b.past c.args.skip.now) (sym c.board.ensures) ∙ sym c.in-Some.ensures in
    let named : id_at old.board.past job ≡ Some c.in-Some-id_of.id = ap (λ (b : BoardValue _). id_at b.past job) (sym c.board-2.ensures) ∙ sym c.in-Some-id_of.ensures in
    let details : details_at old.board.past job ≡ Some c.in-Ok.details =
    ap (λ (b : BoardValue _). details_at b.past job) (sym c.board-3.ensures) ∙ sym c.in-Some-details_of.ensures ∙ ap (λ (v : Val). Some v) (sym c.in-Ok.ensures) in
    let may = claim_may old.board.past c.args.skip.now job c.in-Some-id_of.id c.args.owner.now free named in
    let made = c.in-Ok-call.ensures.made in (
      subst (λ (n : ℕ). IsMade g.K.Desk.state (record { number = c.args.number; job = n; call = call.Apply action.Claim c.in-Some-id_of.id c.args.owner.now }) old c.call.new.self) (made.job_is ∙ may.0) made,
      subst (λ (n : ℕ). GoesOn (LeavesRecorded old.board.past (command_of (call.Apply action.Claim c.in-Some-id_of.id c.args.owner.now) n) (state old.board.journal.desk)) (state old.board.journal.desk) (state c.call.new.self.board.journal.desk)) may.0
          c.in-Ok-call.ensures.goes,
      free,
      named,
      details,
    )

pub returns-in-Err : goal.returns-in-Err
returns-in-Err g c =
    let old = c.args.shared.now in
    let job = c.in-Some.job in
    let free : free_job old.board.past c.args.skip.now ≡ Some job = ap (λ (b : BoardValue _). free_job b.past c.args.skip.now) (sym c.board.ensures) ∙ sym c.in-Some.ensures in
    let named : id_at old.board.past job ≡ Some c.in-Some-id_of.id = ap (λ (b : BoardValue _). id_at b.past job) (sym c.board-2.ensures) ∙ sym c.in-Some-id_of.ensures in
    let may = claim_may old.board.past c.args.skip.now job c.in-Some-id_of.id c.args.owner.now free named in
    halted_call g.K.Desk.state (IsBy c.args.number c.args.owner.now) c.args.number (call.Apply action.Claim c.in-Some-id_of.id c.args.owner.now) old c.call.new.self c.in-Err.field-0 may.1 c.in-Err.ensures.fails (refl, refl) c.in-Err.ensures.goes
