-- What the contract says is the lemma.
use Rattle.tf_model.proofs.HistoryLemmas.{put_back_between}
use Rattle.tf_model.proofs.laws.put_back_between_starts.Goals as goal

pub returns : goal.returns
returns c = put_back_between
