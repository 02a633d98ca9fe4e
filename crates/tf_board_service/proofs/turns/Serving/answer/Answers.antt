use Rattle.tf_board_service.proofs.TurnLemmas.{kept_answers}
use Rattle.tf_board_service.proofs.turns.Serving.answer.Goals as goal

pub invariant_of-self : goal.invariant_of-self
invariant_of-self g c =
    let inside = c.self.inside in
    kept_answers g.K.Desk.state c.args.number c.args.request record { begun = inside.begun.value; now = inside.shared } c.answer.new.shared c.answer.result c.self.invariant c.answer.ensures
