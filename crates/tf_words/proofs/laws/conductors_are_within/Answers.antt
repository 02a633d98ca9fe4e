use Rattle.tf_words.proofs.WithinLemmas.{conductors_within}
use Rattle.tf_words.proofs.laws.conductors_are_within.Goals as goal

pub returns : goal.returns
returns c = conductors_within
