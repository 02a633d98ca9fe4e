use Rattle.std.proofs.Common.{sym, ⊎_elim}
use Rattle.tf_commands.specs.Books.{unopened_book, exhausted, empty, not_there, book_at}
use Rattle.tf_commands.proofs.BookLemmas.{untouched_by}
use Rattle.tf_commands.proofs.FindLemmas.{no_details, some_details, some_found, no_flow_found, not_there_so}
use Rattle.tf_commands.proofs.finding.say_none.Goals as goal

pub returns-then-is_empty-clause-unfound : goal.returns-then-is_empty-clause-unfound
returns-then-is_empty-clause-unfound g c = λ name entry seen so.
    let D = g.K.Desk in
    let d = c.details.ensures in
    let shelf = c.args.shelf in
    let none = no_details shelf.elements _ d.count c.if-is_empty.ensures in
    empty (λ told. no_flow_found D.state shelf.place shelf.elements (book_at (g.K.Desk.state entry) name) d.placed d.legal none (so.found told))
    (c.say_empty.ensures.refuses name entry seen (untouched_by D.state _ c.close.result (sym c.close.ensures) so.opened.untouched))

pub returns-clause-unfound : goal.returns-clause-unfound
returns-clause-unfound g c = λ name entry seen so.
    let D = g.K.Desk in
    let d = c.details.ensures in
    let shelf = c.args.shelf in
    let some = some_details shelf.elements _ d.count c.if-is_empty.ensures in
    ⊎_elim (λ stops. unopened_book (exhausted stops))
    (λ refuses. not_there shelf.elements c.in-Some.sought c.in-Some.is
    (λ told. record { is = some_found D.state shelf.place shelf.elements (book_at (g.K.Desk.state entry) name) d.placed some (so.found told); legal = d.legal })
    some (not_there_so c.args.wanted.now shelf.elements c.in-Some.sought c.in-Some.is c.requires.none) refuses)
    (c.say_not_there.ensures.refuses name entry seen (untouched_by D.state _ c.close-in-Some.result (sym c.close-in-Some.ensures) so.opened.untouched))
