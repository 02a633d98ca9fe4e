use Rattle.std.proofs.Common.{refl, sym, ap, ◌∙◌}
use Rattle.tf_book.specs.Book.{listed}
use Rattle.tf_book.proofs.ShelfLemmas.{no_elements}
use Rattle.tf_book.proofs.shelf.Shelf.unborn.Goals as goal

pub invariant_of-result : goal.invariant_of-result
invariant_of-result g c =
    let gathered = c.in-Ok.ensures.gathered in
    let none = no_elements _ gathered.bodies_are in
    ((none, c.requires), gathered.legal, gathered.machines_are, gathered.room, c.new.ensures.items ∙ sym (ap listed none), gathered.kept)

pub returns-in-Ok-clause-made : goal.returns-in-Ok-clause-made
returns-in-Ok-clause-made g c = (refl, no_elements _ c.in-Ok.ensures.gathered.bodies_are)
