use Rattle.tf_board.proofs.JobLemmas.{claim_free}
use Rattle.tf_board.proofs.laws.a_claim_is_of_a_free_job.Goals as goal

pub returns-clause-free : goal.returns-clause-free
returns-clause-free c = λ past job owner legal. claim_free past job owner legal.0
