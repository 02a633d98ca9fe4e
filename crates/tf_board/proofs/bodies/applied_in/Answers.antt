use Rattle.tf_board.proofs.FormLemmas.{no_owner}
use Rattle.tf_board.proofs.bodies.applied_in.Goals as goal

pub returns-in_default-name_at : goal.returns-in_default-name_at
returns-in_default-name_at c = no_owner c.args.bytes.now c.in-Some.rest.now c.in-Some.job c.in-Some.ensures.0 c.in-Some.ensures.1 c.in_default-name_at.ensures
