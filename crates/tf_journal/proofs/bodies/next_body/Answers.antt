use Rattle.std.proofs.Common.{arith}
use Rattle.tf_journal.proofs.PlaceLemmas.{nothing_behind}
use Rattle.tf_journal.proofs.ReadingLemmas.{next_by}
use Rattle.tf_journal.proofs.bodies.next_body.Goals as goal

pub returns-in-Ok-Some-clause-found : goal.returns-in-Ok-Some-clause-found
returns-in-Ok-Some-clause-found g c = λ shows before rest told lies at.
    next_by _ before rest _ _ _ _ lies at (rw c.in-Ok-Some.field-0-is at (c.in-Ok-Some.ensures.gives told c.requires.in_file (shows (c.body_through.ensures.reads.rests.falls told))))

pub returns-in-Ok-None-clause-found : goal.returns-in-Ok-None-clause-found
returns-in-Ok-None-clause-found g c = λ shows before rest told lies at.
    next_by _ before rest _ _ _ _ lies at (rw c.in-Ok-None.field-0-is at (c.in-Ok-None.ensures.gives told c.requires.in_file (shows (c.body_through.ensures.reads.rests.falls told)))).0

pub returns-in-Err-NotABook-clause-whole : goal.returns-in-Err-NotABook-clause-whole
returns-in-Err-NotABook-clause-whole g c = λ shows before rest told lies at.
    next_by _ before rest _ _ _ _ lies at (rw c.in-Err-NotABook.field-0-is at (c.in-Err-NotABook.ensures.refuses told c.requires.in_file (shows (c.body_through.ensures.reads.rests.falls told))))

pub returns-then-place-size-clause-found : goal.returns-then-place-size-clause-found
returns-then-place-size-clause-found g c = λ shows before rest told lies at.
    nothing_behind _ before rest _ _ lies (omega (arith, at, c.if-place-size.true, c.size.ensures))
