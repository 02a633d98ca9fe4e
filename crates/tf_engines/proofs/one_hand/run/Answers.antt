use Rattle.std.proofs.Common.{ℕ, sym, subst}
use Rattle.tf_numbers.specs.Numbers.{Rises}
use Rattle.tf_flow.specs.Plan.{PlanValue}
use Rattle.tf_model.specs.Plan.{outline_of}
use Rattle.tf_engines.specs.Runs.{HasRun, IsUnderWay}
use Rattle.tf_engines.proofs.StopLemmas.{run_later}
use Rattle.tf_engines.proofs.one_hand.run.Goals as goal
use Rattle.tf_desk.proofs.CountLemmas.{rises_later}

pub returns-in-Some-clause-ran : goal.returns-in-Some-clause-ran
returns-in-Some-clause-ran g c = λ limit before on.
    let had = c.turns.invariant in
    let mid : ℕ = (g.K.Desk.state c.turns.book.journal.desk).asks in
    let last : ℕ = (g.K.Desk.state c.take_turn.new.book.journal.desk).asks in
    run_later g.P.Performer.gives (Rises mid last) _ 1 limit _ before _ c.in-Some.how (rises_later _ mid last had.asks)
    (subst (λ (p : PlanValue). HasRun g.P.Performer.gives (Rises mid last) 1 limit (outline_of p) before c.take_turn.new.book.past c.in-Some.how) had.plan
    (c.in-Some.ensures.ran limit before (subst (λ (p : PlanValue). IsUnderWay g.P.Performer.gives 1 limit (outline_of p) before c.turns.book.past c.turns.book.limit) (sym had.plan) (had.on limit before on))))
