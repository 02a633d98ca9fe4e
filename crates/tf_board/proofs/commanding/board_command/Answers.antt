use Rattle.tf_desk.specs.State.{told_as}
use Rattle.tf_board.proofs.DoesLemmas.{complete_so}
use Rattle.tf_board.proofs.commanding.board_command.Goals as goal

pub returns-clause-complete : goal.returns-clause-complete
returns-clause-complete g c = λ told allowed no_disk no_out.
    let D = g.K.Desk in
    complete_so c.args.request c.args.board.now (told_as (D.state c.answer.result.0) (D.state c.args.desk)) (D.state c.answer.result.0) c.answer.result.1 c.answer.ensures.does told allowed
    (λ is. no_disk (c.answer.ensures.causes.failed is)) (λ is. no_out (c.answer.ensures.causes.unsaid is))
