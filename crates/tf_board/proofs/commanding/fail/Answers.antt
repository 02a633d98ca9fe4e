use Rattle.std.proofs.Common.{subst, ℕ}
use Rattle.tf_desk.specs.State.{told_as}
use Rattle.tf_board.specs.Does.{fault_text, Ends}
use Rattle.tf_board.proofs.commanding.fail.Goals as goal

pub returns-clause-ends : goal.returns-clause-ends
returns-clause-ends g c = λ name past pending after entry seen r.
    let D = g.K.Desk in
    subst (λ (n : ℕ). Ends name past pending after (told_as (D.state seen) (D.state entry)) (D.state c.end_with_text.result.0) (fault_text c.args.fault) n c.end_with_text.result.1) c.status_of-status.ensures
    (c.end_with_text.ensures.reached (fault_text c.args.fault) c.fault_line-text.ensures.line name past pending after entry seen r)
