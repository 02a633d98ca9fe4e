use Rattle.tf_lifetime.proofs.JobLemmas.{goes_on}
use Rattle.tf_lifetime.proofs.laws.jobs_go_as_they_may.Goals as goal

pub returns : goal.returns
returns c = goes_on
