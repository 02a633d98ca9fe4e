use Rattle.tf_migration.proofs.SizeLemmas.{longer}
use Rattle.tf_migration.proofs.laws.a_new_book_is_longer.Goals as goal

pub returns : goal.returns
returns c = longer
