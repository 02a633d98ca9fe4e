use Rattle.tf_words.proofs.WithinLemmas.{command_within}
use Rattle.tf_words.proofs.laws.demo_numbers_are_within.Goals as goal

pub returns : goal.returns
returns c = command_within
