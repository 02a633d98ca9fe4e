use Rattle.tf_details.proofs.OnceLemmas.{read_once}
use Rattle.tf_details.proofs.GrowLemmas.{grow_alike, same_bodies_on}
use Rattle.tf_details.proofs.laws.books_grow_alike.Goals as goal

pub returns : goal.returns
returns c a b newer legal_a legal_b same grown =
    ((grow_alike newer a b (read_once a b legal_a legal_b same) legal_a grown).0, same_bodies_on newer a b same)
