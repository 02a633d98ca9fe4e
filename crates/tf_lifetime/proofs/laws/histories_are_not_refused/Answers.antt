use Rattle.tf_lifetime.proofs.BookLemmas.{is_book}
use Rattle.tf_lifetime.proofs.laws.histories_are_not_refused.Goals as goal

pub returns : goal.returns
returns c elements found holds offset byte none = is_book found holds offset byte none
