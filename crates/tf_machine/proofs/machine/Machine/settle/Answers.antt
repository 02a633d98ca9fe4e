use Rattle.std.proofs.Common.{◌∙◌, ap}
use Rattle.tf_states.specs.declared.state.AtomState.{AtomState}
use Rattle.tf_hands.specs.Hands.{ended_from}
use Rattle.tf_machine.proofs.LeftLemmas.{settled_less}
use Rattle.tf_machine.proofs.machine.Machine.settle.Goals as goal

pub returns-clause-less : goal.returns-clause-less
returns-clause-less c =
    settled_less c.args.self.now c.advance.new.self c.args.hand c.ended_from-what.result _ c.advance.ensures.plan c.advance.ensures.moved
    (c.ended_from-what.ensures ∙ ap (λ (state : AtomState). ended_from c.in-Some.atom state c.args.outcome) c.state.ensures)
    (c.in_flight.ensures.less c.in-Some.atom c.args.outcome c.in-Some.is)
