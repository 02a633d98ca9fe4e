use Rattle.tf_conductor.specs.Rounds.{IsNobodys}
use Rattle.tf_conductor.proofs.TurnLemmas.{halting_none, kept_none}
use Rattle.tf_conductor.proofs.turns.Conducting.halt.Goals as goal

pub invariant_of-self : goal.invariant_of-self
invariant_of-self g c =
    let state = g.K.Desk.state in
    let inside = c.self.inside in
    kept_none state IsNobodys record { begun = inside.begun.value; now = inside.shared; owners = inside.owners.value } c.halt_for_memory.new.self c.self.invariant
    (halting_none state IsNobodys inside.shared c.halt_for_memory.new.self c.halt_for_memory.ensures) (λ m no. absurd no)
