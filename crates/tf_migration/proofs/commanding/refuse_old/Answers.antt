use Rattle.std.proofs.Common.{[], subst}
use Rattle.tf_report.specs.Closing.{not_a_book}
use Rattle.tf_migration.specs.Migrates.{unread_no_memory, unread_failed, no_book, no_flow, old_at}
use Rattle.tf_migration.specs.Reading.{RefusesOld}
use Rattle.tf_migration.specs.declared.reading.OldFault.{OldFault}
use Rattle.tf_migration.proofs.SayLemmas.{concludes_none, causes_so}
use Rattle.tf_migration.proofs.EndLemmas.{unread_so}
use Rattle.tf_migration.proofs.commanding.refuse_old.Goals as goal

pub returns-in-Disk-clause-migrates : goal.returns-in-Disk-clause-migrates
returns-in-Disk-clause-migrates g c = λ old new entry seen u. unread_so new u unread_failed c.say.ensures.concludes

pub returns-in-NotABook-clause-migrates : goal.returns-in-NotABook-clause-migrates
returns-in-NotABook-clause-migrates g c = λ old new entry seen u.
    let D = g.K.Desk in
    unread_so new u
    (no_book c.in-NotABook.offset c.in-NotABook.byte
    (λ told. subst (λ (f : OldFault). RefusesOld f (old_at (g.K.Desk.state entry) old)) c.in-NotABook.is (u.refused told)))
    (c.say_text.ensures (not_a_book c.in-NotABook.offset c.in-NotABook.byte) c.not_a_book_text-text.ensures)

pub returns-in-NotABook-clause-causes : goal.returns-in-NotABook-clause-causes
returns-in-NotABook-clause-causes g c = λ old entry seen u.
    causes_so u.on_disk (c.say_text.ensures (not_a_book c.in-NotABook.offset c.in-NotABook.byte) c.not_a_book_text-text.ensures) (λ is. cc)

pub returns-in-NoFlow-clause-migrates : goal.returns-in-NoFlow-clause-migrates
returns-in-NoFlow-clause-migrates g c = λ old new entry seen u.
    let D = g.K.Desk in
    unread_so new u (no_flow (λ told. subst (λ (f : OldFault). RefusesOld f (old_at (g.K.Desk.state entry) old)) c.in-NoFlow.is (u.refused told))) c.say-in-NoFlow.ensures.concludes

pub returns-in-Memory-clause-migrates : goal.returns-in-Memory-clause-migrates
returns-in-Memory-clause-migrates g c = λ old new entry seen u.
    let D = g.K.Desk in
    unread_so new u unread_no_memory (concludes_none [] 9 (D.state c.args.desk))

pub returns-in-NotABook-clause-tells : goal.returns-in-NotABook-clause-tells
returns-in-NotABook-clause-tells g c = (c.say_text.ensures (not_a_book c.in-NotABook.offset c.in-NotABook.byte) c.not_a_book_text-text.ensures).says.tells
