-- What a book's file holds.
use Rattle.std.specs.Prelude.{◌≤◌, vec_capacity}
use Rattle.tf_details.specs.Elements.{Contents}
use Rattle.tf_details.specs.Marks.{elements_shown}
use Rattle.tf_book.specs.declared.holding.Holding.{Holding}

-- the elements, and the number of the book's detail among them
abbrev pub contents_of : Holding → Contents
contents_of h = record { number = h.number; elements = elements_shown h.marks.items }

-- there is room for every element that a journal can hold
pub record HasHoldingRoom (holding : Holding) : Type 0 where
  pub marks : 67108864 ≤ vec_capacity holding.marks
