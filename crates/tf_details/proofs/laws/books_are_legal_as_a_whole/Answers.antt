use Rattle.tf_details.proofs.WholeLemmas.{legal_whole}
use Rattle.tf_details.proofs.laws.books_are_legal_as_a_whole.Goals as goal

pub returns-clause-whole : goal.returns-clause-whole
returns-clause-whole c = legal_whole
