use Rattle.std.proofs.Common.{◌∙◌}
use Rattle.tf_engines.proofs.CloseLemmas.{idle_done}
use Rattle.tf_engines.proofs.many_hands.give_up.Goals as goal

pub returns-clause-orders : goal.returns-clause-orders
returns-clause-orders g c = λ hand did. c.conclude.ensures.orders _ _ _ _ (idle_done _ hand c.args.shared.start.past c.conclude.result.book.past did (c.conclude.ensures.past ∙ c.requires.fresh.fresh))
