use Rattle.tf_board.proofs.OwnerLemmas.{given_up_between}
use Rattle.tf_board.proofs.laws.a_job_is_given_up_between_claims.Goals as goal

pub returns : goal.returns
returns c newer past job first second legal = given_up_between newer past job first second legal
