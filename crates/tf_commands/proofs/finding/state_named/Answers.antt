use Rattle.std.proofs.Common.{ap, sym, length, ◌∙◌, position, List, arith}
use Rattle.std.specs.Prelude.{slice_index_or}
use Rattle.tf_book.proofs.ShelfLemmas.{listed_long}
use Rattle.tf_book.specs.declared.shelf.Detail.{Detail}
use Rattle.tf_commands.specs.Begun.{is_listed}
use Rattle.tf_commands.proofs.FindLemmas.{named_place, state_at}
use Rattle.tf_commands.proofs.finding.state_named.Goals as goal

pub returns-in-Some : goal.returns-in-Some
returns-in-Some c = λ elements same.
    let name = c.args.name.now in
    let place = c.in-Some.place in
    let d = c.index-list-place.result in (
      place,
      sym (c.in-Some.ensures.is ∙ ap (λ (list : List Detail). position (is_listed name) list) same ∙ named_place name elements),
      ap (λ (list : List Detail). (slice_index_or list place d).state) same ∙ state_at elements place d (omega (arith, c.in-Some.ensures.within, ap length same, listed_long elements)),
    )

pub returns-in-None : goal.returns-in-None
returns-in-None c = λ elements same.
    let name = c.args.name.now in
    sym (c.in-None.ensures.is ∙ ap (λ (list : List Detail). position (is_listed name) list) same ∙ named_place name elements)
