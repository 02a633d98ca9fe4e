use Rattle.tf_words.proofs.ChoiceLemmas.{filled_behind}
use Rattle.tf_words.proofs.verbs.chosen_in.Goals as goal

pub returns-then-eq-clause-filled : goal.returns-then-eq-clause-filled
returns-then-eq-clause-filled c = λ filled. c.chosen_of_board.ensures.filled (filled_behind c.args.words.now c.in_ok-first.others.now c.in_ok-first.first.now c.in_ok-first.ensures.cases.0 filled)
