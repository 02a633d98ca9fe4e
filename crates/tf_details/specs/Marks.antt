-- The elements of a book that was read, as marks show them, which take no bytes.
use Rattle.std.specs.Prelude.{List, reverse, map}
use Rattle.std.specs.declared.snapshot.Snapshot.{Snapshot}
use Rattle.tf_details.specs.Elements.{Element, detail, entry}
use Rattle.tf_details.specs.declared.marks.Mark.{Mark}
use Rattle.tf_details.specs.declared.marks.Mark.TheVariants as mark

-- the element of a mark
abbrev pub element_of : Mark → Element
element_of (mark.Detail plan) = detail plan.value
element_of (mark.Entry number e) = entry number e.value

abbrev pub element_shown : Snapshot Mark → Element
element_shown s = element_of s.value

-- the elements that marks show, the newest first
abbrev pub elements_shown : List (Snapshot Mark) → List Element
elements_shown marks = reverse (map element_shown marks)
