use Rattle.std.proofs.Common.{◌≡◌, List, ◌++◌, drop}
use Rattle.tf_details.specs.Elements.{Element, details}
use Rattle.tf_details.specs.Reading.{AreMachinesOf}
use Rattle.tf_book.specs.Book.{listed_from, listed}
use Rattle.tf_book.proofs.shelf.loading.list.Given as goal

abbrev pub invariant-listing : goal.invariant-listing
invariant-listing l = (elements : List Element) → AreMachinesOf l.details elements
    → l.list.items ++ listed_from elements l.number (drop l.number (details elements)) ≡ listed elements
