use Rattle.std.proofs.Common.{◌≡◌, ℕ, Bool, true, false, List, Some, Result, Ok, Err, refl, sym, ap, subst, ◌∙◌}
use Rattle.std.specs.Prelude.{IfErr, IfOk, is_ok, slice_get}
use Rattle.tf_desk.specs.State.{DeskState, GoesOn}
use Rattle.tf_board.specs.Does.{LeavesRecorded, asked_for}
use Rattle.tf_shared_board.specs.Shared.{FailsToCall, IsMade}
use Rattle.tf_shared_board.specs.declared.calls.CallFault.{CallFault}
use Rattle.tf_board.specs.declared.calls.JobCall.{JobCall}
use Rattle.tf_conductor.specs.declared.runners.Ran.{Ran}
use Rattle.tf_conductor.specs.declared.runners.Ran.TheVariants as ran
use Rattle.tf_conductor.specs.Conducting.{ConductingValue, EndsJob, conducting_origin}
use Rattle.tf_conductor.specs.Rounds.{IsBy, IsCallBy, end_call}
use Rattle.tf_conductor.proofs.CalledLemmas.{failed_none, kept_called}
use Rattle.tf_conductor.proofs.turns.Conducting.end.Goals as goal

-- an end is a call by its owner
ends_by : (r : Ran) (id owner : List ℕ) → IsCallBy owner (end_call r id owner)
ends_by ran.Done id owner = refl
ends_by ran.Left id owner = refl

-- an end that was asked for was made, or no call
ended_so : {K : Type 0} (state : K → DeskState) (number : ℕ) (owner id : List ℕ) (r : Ran) (old new : ConductingValue K) (x : JobCall) (result : Result ℕ CallFault) (made : Bool) → x ≡ end_call r id owner
    → conducting_origin new ≡ conducting_origin old → made ≡ is_ok result → IfOk result (λ job. IsMade state (record { number = number; job = job; call = x }) old.now new.now)
    → IfErr result (λ f. FailsToCall state x old.now new.now f)
    → GoesOn (LeavesRecorded old.now.board.past (asked_for old.now.board.past x) (state old.now.board.journal.desk)) (state old.now.board.journal.desk) (state new.now.board.journal.desk)
    → EndsJob state number owner id r old new made
ended_so state number owner id r old new x (Ok job) made same origin is so fails goes = record {
  same = origin;
  ended = λ yes. (job, subst (λ (y : JobCall). IsMade state (record { number = number; job = job; call = y }) old.now new.now) same so);
  none = λ no. (let clash : true ≡ false = sym is ∙ no in absurd (cc));
}
ended_so state number owner id r old new x (Err f) made same origin is so fails goes = record {
  same = origin;
  ended = λ yes. (let clash : false ≡ true = sym is ∙ yes in absurd (cc));
  none = λ no. failed_none state (IsBy number owner) number x old.now new.now f fails (refl, subst (λ (y : JobCall). IsCallBy owner y) (sym same) (ends_by r id owner)) goes;
}

pub invariant_of-self : goal.invariant_of-self
invariant_of-self g c =
    let inside = c.self.inside in
    let owner = c.args.owner.now in
    let has : slice_get inside.owners.value c.args.number ≡ Some owner = ap (λ (v : ConductingValue _). slice_get v.owners c.args.number) c.self.view_is ∙ c.requires in
    kept_called g.K.Desk.state record { begun = inside.begun.value; now = inside.shared; owners = inside.owners.value } c.call.new.self c.args.number c.ending.result c.call.result c.self.invariant c.call.ensures.made c.call.ensures.fails
    c.call.ensures.goes
    (λ job. (owner, has, subst (λ (x : JobCall). IsCallBy owner x) (sym c.ending.ensures) (ends_by c.args.ran c.args.id owner)))

pub returns : goal.returns
returns g c =
    let state = g.K.Desk.state in
    let inside = c.self.inside in
    subst (λ (v : ConductingValue g.row.K.Denot). EndsJob state c.args.number c.args.owner.now c.args.id c.args.ran v (record { begun = inside.begun.value; now = c.call.new.self; owners = inside.owners.value }) c.is_ok.result) c.self.view_is
    (ended_so state c.args.number c.args.owner.now c.args.id c.args.ran (record { begun = inside.begun.value; now = inside.shared; owners = inside.owners.value }) (record { begun = inside.begun.value; now = c.call.new.self; owners = inside.owners.value })
    c.ending.result c.call.result c.is_ok.result c.ending.ensures refl c.is_ok.ensures.value c.call.ensures.made c.call.ensures.fails c.call.ensures.goes)
