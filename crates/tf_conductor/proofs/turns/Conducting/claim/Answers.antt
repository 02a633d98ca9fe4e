use Rattle.std.proofs.Common.{◌≡◌, Some, ap, ◌∙◌}
use Rattle.std.specs.Prelude.{slice_get}
use Rattle.tf_conductor.specs.Conducting.{ConductingValue}
use Rattle.tf_conductor.proofs.CalledLemmas.{kept_claims}
use Rattle.tf_conductor.proofs.turns.Conducting.claim.Goals as goal

pub invariant_of-self : goal.invariant_of-self
invariant_of-self g c =
    let inside = c.self.inside in
    let has : slice_get inside.owners.value c.args.number ≡ Some c.args.owner.now = ap (λ (v : ConductingValue _). slice_get v.owners c.args.number) c.self.view_is ∙ c.requires in
    kept_claims g.K.Desk.state record { begun = inside.begun.value; now = inside.shared; owners = inside.owners.value } c.claim_next.new.shared c.args.number c.args.owner.now c.args.skip.now _ c.self.invariant c.claim_next.ensures has
