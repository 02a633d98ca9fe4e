use Rattle.std.proofs.Common.{◌≡◌, ℕ, List, ◌++◌, ap, sym, subst, ◌∙◌}
use Rattle.tf_desk.specs.State.{told_as}
use Rattle.tf_book.specs.Book.{listed}
use Rattle.tf_commands.specs.Books.{Refuses, were_listed, book_at}
use Rattle.tf_commands.specs.Messages.{detail_lines}
use Rattle.tf_report.specs.declared.statuses.TheConstants.{SUCCEEDED}
use Rattle.tf_commands.proofs.BookLemmas.{untouched_by}
use Rattle.tf_commands.proofs.FindLemmas.{book_found}
use Rattle.tf_commands.proofs.detailing.say_details.Goals as goal

pub returns-in-Ok-clause-lists : goal.returns-in-Ok-clause-lists
returns-in-Ok-clause-lists g c = λ name entry seen so.
    let D = g.K.Desk in
    let d = c.details.ensures in
    let shelf = c.args.shelf in
    let text : c.deref.result.now ≡ detail_lines 0 (listed shelf.elements) =
    c.deref.ensures.value ∙ c.in-Ok.ensures ∙ ap (λ (made : List ℕ). made ++ detail_lines 0 c.details.result.now) c.new-text.ensures.items ∙ ap (detail_lines 0) d.list in
    were_listed shelf.elements (λ told. book_found D.state shelf.place shelf.elements (book_at (g.K.Desk.state entry) name) d.placed d.legal (so.found told))
    (subst (λ (message : List ℕ). Refuses name (told_as (g.K.Desk.state seen) (g.K.Desk.state entry)) (D.state c.say_over.result.desk) message SUCCEEDED c.say_over.result.status) text
    (c.say_over.ensures.refuses name entry seen (untouched_by D.state _ c.close-desk.result (sym c.close-desk.ensures) so.opened.untouched)))
