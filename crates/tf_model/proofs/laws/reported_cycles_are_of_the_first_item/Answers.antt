use Rattle.tf_model.proofs.CycleLemmas.{none_goes_round}
use Rattle.tf_model.proofs.laws.reported_cycles_are_of_the_first_item.Goals as goal

pub returns-clause-none : goal.returns-clause-none
returns-clause-none c plan g f found is u below chain = none_goes_round plan g f found is u below chain
