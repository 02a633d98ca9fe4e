-- A file holds one book, as far as a book tells something.
use Rattle.std.proofs.Common.{◌≡◌, List, ◌++◌, sym, ap, ◌∙◌}
use Rattle.tf_journal.specs.Format.{Recovered, bodies}
use Rattle.tf_details.specs.Elements.{Element, bodies_of}
use Rattle.tf_details.specs.Whole.{AreAlike}
use Rattle.tf_details.proofs.GrowLemmas.{grow_alike, same_bodies_on}
use Rattle.tf_details.proofs.OnceLemmas.{read_once}
use Rattle.tf_commands.specs.Books.{HoldsElements}

-- two books that one file holds have the same bodies
one_file : {a b : List Element} {found : Recovered} → HoldsElements a found → HoldsElements b found → bodies_of a ≡ bodies_of b
one_file {a} {b} first second = let both : bodies (bodies_of a) ≡ bodies (bodies_of b) = sym first.is ∙ second.is in cc

-- and tell the same
pub once : {a b : List Element} {found : Recovered} → HoldsElements a found → HoldsElements b found → AreAlike a b
once {a} {b} first second = read_once a b first.legal second.legal (one_file first second)

-- what the file holds later begins with both
pub grows_so : {a b : List Element} {found later : Recovered} (newer : List Element) → HoldsElements a found → HoldsElements b found
    → HoldsElements (newer ++ b) later → HoldsElements (newer ++ a) later
grows_so {a} {b} newer first second on = record {
  is = on.is ∙ ap bodies (sym (same_bodies_on newer a b (one_file first second)));
  legal = (grow_alike newer a b (once first second) first.legal on.legal).0;
}
