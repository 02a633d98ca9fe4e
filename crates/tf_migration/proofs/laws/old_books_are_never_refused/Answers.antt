use Rattle.tf_migration.proofs.HeadedLemmas.{never_refused}
use Rattle.tf_migration.proofs.laws.old_books_are_never_refused.Goals as goal

pub returns : goal.returns
returns c = never_refused c.books_are_never_refused.ensures
