use Rattle.tf_engines.proofs.OrderLemmas.{done_none}
use Rattle.tf_engines.proofs.RunLemmas.{ran_bounded}
use Rattle.tf_engines.proofs.one_hand.serial.Goals as goal

pub returns-clause-orders : goal.returns-clause-orders
returns-clause-orders g c = c.run_session-how.ensures.stopped _ _ (done_none _ _)

pub returns-clause-bound : goal.returns-clause-bound
returns-clause-bound g c =
    let b = c.state-before.ensures in
    ran_bounded g.P.Performer.gives _ 1 _ c.args.book.plan c.args.book.past _ _
    (λ entries last short session. c.runs_are_bounded.ensures.bound c.args.book.plan c.args.book.past entries last b.compiles b.limits b.short short session)
    c.state-after.ensures.short c.run_session-how.ensures.ran
