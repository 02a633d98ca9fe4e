use Rattle.tf_board.proofs.StayLemmas.{named_on}
use Rattle.tf_board.proofs.laws.an_id_goes_on_naming_its_job.Goals as goal

pub returns : goal.returns
returns c = named_on
