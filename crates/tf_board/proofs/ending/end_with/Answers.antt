use Rattle.tf_board.proofs.EndLemmas.{reached_ends, unopened_ends, concludes_said}
use Rattle.tf_board.proofs.ending.end_with.Goals as goal

pub returns-clause-reached : goal.returns-clause-reached
returns-clause-reached g c = λ name past pending after entry seen r. reached_ends r c.close-status.ensures.closes c.close-status.ensures.says

pub returns-clause-unopened : goal.returns-clause-unopened
returns-clause-unopened g c = λ name fault entry seen u. unopened_ends u c.close-status.ensures.closes c.close-status.ensures.says

pub returns-clause-concludes : goal.returns-clause-concludes
returns-clause-concludes g c =
    concludes_said c.close-status.result c.close-status.ensures.says (λ is. c.close-status.ensures.unsaid is c.requires.apart)
