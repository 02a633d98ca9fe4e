use Rattle.tf_board.proofs.ClaimLemmas.{is_found, found_claim, found_details}
use Rattle.tf_board.proofs.laws.a_free_job_may_be_claimed.Goals as goal

pub returns-clause-claim : goal.returns-clause-claim
returns-clause-claim c = found_claim

pub returns-clause-details : goal.returns-clause-details
returns-clause-details c = found_details

pub returns-clause-unskipped : goal.returns-clause-unskipped
returns-clause-unskipped c = λ past skip number is. (is_found past skip number is).unskipped
