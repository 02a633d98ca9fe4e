use Rattle.std.proofs.Common.{refl}
use Rattle.tf_board.proofs.EndLemmas.{reached_stops, unopened_stops, concludes_none}
use Rattle.tf_board.proofs.ending.end_with_text.Goals as goal

pub returns-in-Err-clause-reached : goal.returns-in-Err-clause-reached
returns-in-Err-clause-reached g c = λ message has name past pending after entry seen r. reached_stops r refl

pub returns-in-Err-clause-unopened : goal.returns-in-Err-clause-unopened
returns-in-Err-clause-unopened g c = λ message has name fault entry seen u. unopened_stops u refl

pub returns-in-Err-clause-concludes : goal.returns-in-Err-clause-concludes
returns-in-Err-clause-concludes g c = concludes_none 9 (λ is. cc)
