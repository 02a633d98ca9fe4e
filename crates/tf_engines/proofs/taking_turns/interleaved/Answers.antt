use Rattle.tf_engines.proofs.RunLemmas.{ran_bounded}
use Rattle.tf_engines.proofs.taking_turns.interleaved.Goals as goal

pub returns-clause-keeps : goal.returns-clause-keeps
returns-clause-keeps g c = c.run_session-end.ensures.run.keeps

pub returns-clause-stops : goal.returns-clause-stops
returns-clause-stops g c = c.run_session-end.ensures.run.stops

pub returns-clause-bound : goal.returns-clause-bound
returns-clause-bound g c =
    let b = c.state-before.ensures in
    ran_bounded g.P.Performer.gives _ _ _ c.args.book.plan c.args.book.past _ _
    (λ entries last short session. c.runs_are_bounded.ensures.bound c.args.book.plan c.args.book.past entries last b.compiles b.limits b.short short session)
    c.state-after.ensures.short c.run_session-end.ensures.run.ran
