-- What the contract says is the lemma.
use Rattle.tf_model.proofs.NestingLemmas.{nested_in}
use Rattle.tf_model.proofs.laws.flows_are_nested_or_apart.Goals as goal

pub returns : goal.returns
returns c = nested_in
