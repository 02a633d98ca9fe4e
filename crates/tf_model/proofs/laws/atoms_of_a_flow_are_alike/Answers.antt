-- What the contract says is the lemma.
use Rattle.tf_model.proofs.PathLemmas.{alike_in}
use Rattle.tf_model.proofs.laws.atoms_of_a_flow_are_alike.Goals as goal

pub returns : goal.returns
returns c = alike_in
