use Rattle.std.proofs.Common.{refl, subst, sym, ℕ, arith}
use Rattle.tf_numbers.specs.Numbers.{Rises}
use Rattle.tf_engines.specs.Asked.{HasDone, HasDoneBy}
use Rattle.tf_engines.specs.Runs.{HasRun, IsUnderWay}
use Rattle.tf_hands.specs.Hands.{orders}
use Rattle.tf_engines.proofs.RunLemmas.{was_sound}
use Rattle.tf_engines.proofs.StopLemmas.{run_later}
use Rattle.tf_flow.specs.Plan.{PlanValue}
use Rattle.tf_model.specs.Plan.{outline_of}
use Rattle.tf_model.specs.Steps.{LegalPast}
use Rattle.tf_engines.proofs.FailLemmas.{turn_failed, unhalted_might}
use Rattle.tf_engines.proofs.OrderLemmas.{entered_done, cut_done, halted_asks}
use Rattle.tf_engines.proofs.EnterLemmas.{entered_goes, entered_going, ended_before, cut_before}
use Rattle.tf_engines.proofs.one_hand.run_session.Goals as goal
use Rattle.tf_desk.proofs.CountLemmas.{rises_later}

pub run-requires : goal.run-requires
run-requires g c =
    let t = rw c.in-Ok-Running.field-0-is at c.in-Ok-Running.ensures.entered in
    record { going = entered_going _ c.args.book.now.past _ _ c.in-Ok-Running.ensures.sound c.state-after.ensures.legal t }

pub returns-in-Ok-Running-clause-ran : goal.returns-in-Ok-Running-clause-ran
returns-in-Ok-Running-clause-ran g c =
    let t = rw c.in-Ok-Running.field-0-is at c.in-Ok-Running.ensures.entered in
    let e = c.enter.ensures in
    let mid : ℕ = (g.K.Desk.state c.enter.new.self.journal.desk).asks in
    let last : ℕ = (g.K.Desk.state c.run.new.book.journal.desk).asks in
    let on = entered_goes g.P.Performer.gives 1 c.args.limit _ _ _ c.enter.new.self.limit refl (e.limit (was_sound _ _ c.in-Ok-Running.ensures.sound e.halted)) t.0 t.1 in
    run_later g.P.Performer.gives (Rises mid last) _ 1 c.args.limit _ _ _ c.run.result (rises_later _ mid last (omega (arith, e.unasked.asks)))
    (subst (λ (p : PlanValue). HasRun g.P.Performer.gives (Rises mid last) 1 c.args.limit (outline_of p) c.args.book.now.past c.run.new.book.past c.run.result) e.plan
    (c.run.ensures.ran c.args.limit c.args.book.now.past
    (subst (λ (p : PlanValue). IsUnderWay g.P.Performer.gives 1 c.args.limit (outline_of p) c.args.book.now.past c.enter.new.self.past c.enter.new.self.limit) (sym e.plan) on)))

pub returns-in-Ok-Ended-clause-ran : goal.returns-in-Ok-Ended-clause-ran
returns-in-Ok-Ended-clause-ran g c =
    let t = rw c.in-Ok-Ended.field-0-is at c.in-Ok-Ended.ensures.entered in
    ended_before g.P.Performer.gives _ 1 _ _ _ _ _ c.state-before.ensures.legal t

pub returns-in-Err-clause-ran : goal.returns-in-Err-clause-ran
returns-in-Err-clause-ran g c =
    cut_before g.P.Performer.gives _ 1 _ _ _ _ _ _ refl c.halted.ensures.cause (subst (λ (p : PlanValue). LegalPast (outline_of p) c.enter.new.self.past) c.enter.ensures.plan c.halted.ensures.legal) c.in-Err.ensures.cut

pub returns-in-Err-clause-stopped : goal.returns-in-Err-clause-stopped
returns-in-Err-clause-stopped g c = λ told base has.
    halted_asks told base _ _ _ _ c.halted.ensures.cause (cut_done 0 told base (g.P.Performer.did c.args.hand.now) _ _ _ c.in-Err.ensures.cut has)

pub returns-in-Ok-Running-clause-stopped : goal.returns-in-Ok-Running-clause-stopped
returns-in-Ok-Running-clause-stopped g c = λ told base has.
    let t = rw c.in-Ok-Running.field-0-is at c.in-Ok-Running.ensures.entered in
    let did = g.P.Performer.did c.args.hand.now in
    subst (λ (p : PlanValue). HasDoneBy told base (g.P.Performer.did c.run.new.hand) (orders (outline_of p) 0 c.run.new.book.past) c.run.result) c.enter.ensures.plan
    (c.run.ensures.stopped told base
    (subst (λ (p : PlanValue). HasDone told base did (orders (outline_of p) 0 c.enter.new.self.past)) (sym c.enter.ensures.plan)
    (entered_done 0 told base did (outline_of c.args.book.now.plan) c.args.book.now.past c.enter.new.self.past t has)))

pub returns-in-Ok-Ended-clause-failed : goal.returns-in-Ok-Ended-clause-failed
returns-in-Ok-Ended-clause-failed g c = λ was. unhalted_might g.P.Performer.gives 1 c.enter.new.self c.in-Ok-Ended.ensures.sound

pub returns-in-Err-clause-failed : goal.returns-in-Err-clause-failed
returns-in-Err-clause-failed g c = λ was.
    let e = c.enter.ensures in
    turn_failed g.P.Performer.gives 0 1 (omega arith) c.args.book.now c.enter.new.self c.enter.result e.sound e.tried e.halted
    (unhalted_might g.P.Performer.gives 1 c.args.book.now was)
