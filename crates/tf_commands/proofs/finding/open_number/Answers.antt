use Rattle.std.proofs.Common.{[]}
use Rattle.tf_desk.specs.State.{told_as}
use Rattle.tf_desk.proofs.StateLemmas.{told_through}
use Rattle.tf_journal.proofs.OpenLemmas.{untouched_now, open_lowered}
use Rattle.tf_commands.specs.Books.{unopened_book, book_at, Unfound}
use Rattle.tf_commands.proofs.CountLemmas.{refused_causes, rests_reaches}
use Rattle.tf_commands.proofs.FindLemmas.{rests_open, rests_untouched, opened_holds, unread_so}
use Rattle.tf_commands.proofs.finding.open_number.Goals as goal

pub returns-in-Ok-clause-opened : goal.returns-in-Ok-clause-opened
returns-in-Ok-clause-opened g c = λ name entry seen is_open.
    let r = c.in-Ok.ensures.rests in
    rests_open (open_lowered (g.K.Desk.state c.in-Ok.book.journal.desk) r.falls is_open) r.does

pub returns-in-Ok-clause-holds : goal.returns-in-Ok-clause-holds
returns-in-Ok-clause-holds g c = λ name wanted entry seen so asked.
    let s = c.requires.shelf in
    opened_holds g.K.Desk.state name wanted (told_as (g.K.Desk.state seen) (g.K.Desk.state entry)) c.args.shelf c.args.number c.in-Ok.book so s.placed s.legal c.requires.within c.in-Ok.ensures.opened
    (record { held = c.state-state.ensures.held; told = c.state-state.ensures.told }) asked c.in-Ok.ensures.rests.falls

pub returns-in-Err-clause-unfound : goal.returns-in-Err-clause-unfound
returns-in-Err-clause-unfound g c = λ name wanted entry seen so.
    let D = g.K.Desk in
    let e = c.in-Err.ensures in
    let r = c.refuse_book in
    told_through (λ before. Unfound name wanted before (D.state r.result.desk) r.result.status) (told_as (g.K.Desk.state seen) (g.K.Desk.state entry)) r.ensures.said.says.tells
    (unopened_book (r.ensures.unopened name entry c.in-Err.desk (rests_untouched (open_lowered (D.state c.in-Err.desk) e.rests.falls so.opened) e.rests.does)
    (λ told. unread_so c.in-Err.fault (book_at (g.K.Desk.state entry) name) (e.book told))))

pub returns-in-Err-clause-causes : goal.returns-in-Err-clause-causes
returns-in-Err-clause-causes g c =
    let D = g.K.Desk in
    let e = c.in-Err.ensures in
    let r = c.refuse_book in
    refused_causes {name = []} (rests_reaches e.rests) r.ensures.said (λ is. e.cause (r.ensures.failed is))
    (r.ensures.unopened [] c.in-Err.desk c.in-Err.desk untouched_now
    (λ told. unread_so c.in-Err.fault (book_at (D.state c.in-Err.desk) []) (e.book told)))
