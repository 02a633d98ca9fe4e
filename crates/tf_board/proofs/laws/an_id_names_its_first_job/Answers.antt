use Rattle.tf_board.proofs.JobLemmas.{first_named}
use Rattle.tf_board.proofs.laws.an_id_names_its_first_job.Goals as goal

pub returns : goal.returns
returns c = first_named
