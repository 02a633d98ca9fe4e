use Rattle.std.proofs.Common.{◌≡◌, false, ◌∙◌, ⊎_elim}
use Rattle.tf_commands.proofs.BeginLemmas.{begins_on, failed_unbegun, stays_unbegun, not_halted, start_fails, start_failed}
use Rattle.tf_commands.proofs.books.begin.Goals as goal

pub returns-in-Ok-clause-begins : goal.returns-in-Ok-clause-begins
returns-in-Ok-clause-begins g c = λ name entry seen so.
    let D = g.K.Desk in
    let book = c.in-Ok.book in
    let e = c.in-Ok.ensures in
    let b = e.begun in
    let kept : book.journal.volatile ≡ false = b.volatile ∙ c.requires.shelf.kept in
    begins_on D.state c.args.machine.plan book c.requires.shelf so c.requires.place b.plan_is b.past b.contents b.halt kept
    e.goes e.crash
    (λ told. c.state-pending.ensures.leaves told kept (not_halted book.halt b.halt))
    e.exact c.state-pending.ensures.history

pub returns-in-Err-clause-unbegun : goal.returns-in-Err-clause-unbegun
returns-in-Err-clause-unbegun g c = λ name entry seen so.
    let D = g.K.Desk in
    let now = c.in-Err.back.0 in
    let plan = c.args.machine.plan in
    let e = c.in-Err.ensures in
    ⊎_elim
    (λ why. failed_unbegun D.state plan (D.state now) c.requires.shelf so c.requires.place e.goes e.crash
    (record { shows = g.met.K.Desk.tells_shown now; reaches = λ told start i t le leaves. g.met.K.Desk.counts_now now start i t told le leaves; only = λ told i t was. g.met.K.Desk.only_now _ i t told was })
    why.0 why.1)
    (λ same. stays_unbegun D.state plan now so same)
    (start_failed D.state c.args.shelf plan c.in-Err.back.1 _ now e.fails)

pub returns-in-Err-clause-fails : goal.returns-in-Err-clause-fails
returns-in-Err-clause-fails g c = start_fails g.K.Desk.state c.args.shelf c.args.machine.plan c.in-Err.back.1 _ c.in-Err.back.0 c.in-Err.ensures.fails
