use Rattle.std.proofs.Common.{refl, subst}
use Rattle.tf_journal.specs.declared.faults.LoadFault.{LoadFault}
use Rattle.tf_journal.specs.declared.title.Title.TheVariants.{Book as old_title}
use Rattle.tf_records.specs.Refusing.{RefusesBodies, bad_body}
use Rattle.tf_migration.specs.Migrates.{CannotFollow}
use Rattle.tf_migration.proofs.reading.unread.Goals as goal

pub returns-in-NotABook-clause-refused : goal.returns-in-NotABook-clause-refused
returns-in-NotABook-clause-refused c = λ held refused.
    bad_body held refl (subst (λ (f : LoadFault). RefusesBodies old_title CannotFollow f held) c.in-NotABook.is refused)
