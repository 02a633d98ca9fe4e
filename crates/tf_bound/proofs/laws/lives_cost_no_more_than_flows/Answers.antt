-- By induction on the tree.
use Rattle.tf_bound.proofs.RoomLemmas.{lives_at_most, lives_leave_room}
use Rattle.tf_bound.proofs.laws.lives_cost_no_more_than_flows.Goals as goal

pub returns-clause-root : goal.returns-clause-root
returns-clause-root c = lives_at_most

pub returns-clause-room : goal.returns-clause-room
returns-clause-room c = lives_leave_room
