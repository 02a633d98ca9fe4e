use Rattle.std.proofs.Common.{ap, sym, subst, ◌∙◌, position, Option, List, ℕ, None}
use Rattle.tf_book.specs.declared.shelf.Detail.{Detail}
use Rattle.tf_commands.specs.Begun.{is_listed, IsNumberAsked}
use Rattle.tf_commands.specs.Books.{IsAskedFor}
use Rattle.tf_commands.proofs.FindLemmas.{named_place, last_asked}
use Rattle.tf_commands.proofs.finding.number_asked.Goals as goal

pub returns-in-Some-place_of : goal.returns-in-Some-place_of
returns-in-Some-place_of c = λ elements same.
    let name = c.in-Some.name in
    subst (λ (o : Option (List ℕ)). IsAskedFor o elements c.in-Some-place_of.place) (sym c.in-Some.is)
    (sym (c.in-Some-place_of.ensures.is ∙ ap (λ (list : List Detail). position (is_listed name) list) same ∙ named_place name elements))

pub returns-in-None-place_of : goal.returns-in-None-place_of
returns-in-None-place_of c = λ elements same.
    let name = c.in-Some.name in
    subst (λ (o : Option (List ℕ)). IsNumberAsked o elements None) (sym c.in-Some.is)
    (sym (c.in-None-place_of.ensures.is ∙ ap (λ (list : List Detail). position (is_listed name) list) same ∙ named_place name elements))

pub returns-in-None : goal.returns-in-None
returns-in-None c = λ elements same.
    let e = rw same at c.last_number.ensures in
    subst (λ (o : Option (List ℕ)). IsNumberAsked o elements c.last_number.result) (sym c.in-None.is) (last_asked elements c.last_number.result e.none e.last)
