use Rattle.tf_board.proofs.ClaimLemmas.{claimant_may}
use Rattle.tf_board.proofs.laws.a_claimant_keeps_its_job.Goals as goal

pub returns : goal.returns
returns c = claimant_may
