use Rattle.std.proofs.Common.{sym, ap, ◌∙◌}
use Rattle.tf_book.specs.Book.{listed}
use Rattle.tf_book.proofs.ShelfLemmas.{no_elements, holds_none}
use Rattle.tf_book.proofs.shelf.Shelf.volatile_in.Goals as goal

pub invariant_of-result : goal.invariant_of-result
invariant_of-result g c =
    let gathered = c.in-Ok.ensures.gathered in
    let none = no_elements _ gathered.bodies_are in
    let made = c.in-Ok-volatile.ensures.made in (
      holds_none g.K.Desk.state _ _ none c.in-Ok-volatile.ensures.title made.1 made.2 made.3,
      gathered.legal,
      gathered.machines_are,
      gathered.room,
      c.new.ensures.items ∙ sym (ap listed none),
      gathered.kept,
    )

pub returns-in-Ok-volatile-clause-none : goal.returns-in-Ok-volatile-clause-none
returns-in-Ok-volatile-clause-none g c = no_elements _ c.in-Ok.ensures.gathered.bodies_are
