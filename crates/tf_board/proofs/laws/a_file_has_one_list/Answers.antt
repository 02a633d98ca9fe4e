use Rattle.tf_board.proofs.StayLemmas.{one_list}
use Rattle.tf_board.proofs.laws.a_file_has_one_list.Goals as goal

pub returns : goal.returns
returns c = one_list
