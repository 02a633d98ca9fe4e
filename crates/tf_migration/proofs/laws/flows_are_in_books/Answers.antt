use Rattle.tf_migration.proofs.HeadedLemmas.{book_of_flow}
use Rattle.tf_migration.proofs.laws.flows_are_in_books.Goals as goal

pub returns : goal.returns
returns c = book_of_flow (λ before after body plan past h splits. c.old_books_are_never_refused.ensures plan past before after body h splits)
