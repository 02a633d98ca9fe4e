use Rattle.tf_details.proofs.BookLemmas.{history_legal}
use Rattle.tf_details.proofs.laws.details_have_histories.Goals as goal

pub returns : goal.returns
returns c = history_legal
