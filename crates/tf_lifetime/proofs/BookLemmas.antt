-- A file that holds a legal book is refused at none of its bodies.
use Rattle.std.proofs.Common.{◌≡◌, ℕ, List, Option, sym, ◌∙◌}
use Rattle.tf_journal.specs.Format.{Recovered, bodies, not_a_book}
use Rattle.tf_records.specs.Refusing.{no_journal, bad_body}
use Rattle.tf_details.specs.Elements.{Element, bodies_of}
use Rattle.tf_details.proofs.OnceLemmas.{never_refused}
use Rattle.tf_book.specs.Book.{IsNoBook}
use Rattle.tf_commands.specs.Books.{HoldsElements}

pub is_book : {elements : List Element} (found : Recovered) → HoldsElements elements found → (offset : ℕ) (byte : Option ℕ) → IsNoBook found offset byte → ⊥
is_book {elements} found holds offset byte (no_journal is) = let clash : bodies (bodies_of elements) ≡ not_a_book offset byte = sym holds.is ∙ is in cc
is_book {elements} found holds offset byte (bad_body held is refused) =
    let same : bodies_of elements ≡ held = (let both : bodies (bodies_of elements) ≡ bodies held = sym holds.is ∙ is in cc) in
    never_refused elements refused.before refused.after refused.body holds.legal (same ∙ refused.splits) refused.cannot
