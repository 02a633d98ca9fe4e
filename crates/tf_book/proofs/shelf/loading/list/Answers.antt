use Rattle.std.proofs.Common.{◌+◌, List, ◌++◌, drop, ap, ◌∙◌}
use Rattle.tf_details.specs.Elements.{details}
use Rattle.tf_book.specs.Book.{listed_from}
use Rattle.tf_book.specs.declared.shelf.Detail.{Detail}
use Rattle.tf_book.proofs.ShelfLemmas.{listed_on}
use Rattle.tf_book.proofs.shelf.loading.list.Goals as goal

pub listing-preserved : goal.listing-preserved
listing-preserved c = λ elements are.
    ap (λ (l : List Detail). l ++ listed_from elements (c.listing.number + 1) (drop (c.listing.number + 1) (details elements))) c.in_ok-push.ensures.items
    ∙ listed_on elements c.listing.number c.listing.list.items _ _ (c.name.ensures elements are) (c.state.ensures elements are) (c.listing.invariant elements are)
