-- How many elements a book's file holds, and what it holds after one more.
use Rattle.std.proofs.Common.{◌≤◌, length, arith}
use Rattle.tf_details.specs.Elements.{book_size}
use Rattle.tf_details.proofs.ContentsLemmas.{elements_long, elements_many}
use Rattle.tf_book.specs.Holding.{contents_of}
use Rattle.tf_book.specs.declared.holding.Holding.{Holding}

-- there are no more elements than bytes
pub marks_short : (h : Holding) → length h.marks.items ≤ book_size (contents_of h).elements
marks_short h = omega (arith, elements_long (contents_of h).elements, elements_many h.marks.items)
