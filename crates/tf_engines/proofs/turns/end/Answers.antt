use Rattle.std.proofs.Common.{◌≡◌, true, subst, sym}
use Rattle.tf_flow.specs.Plan.{PlanValue}
use Rattle.tf_model.specs.History.{snapshot}
use Rattle.tf_model.specs.Plan.{outline_of}
use Rattle.tf_model.specs.Steps.{is_free}
use Rattle.tf_book.specs.Book.{outline}
use Rattle.tf_hands.proofs.FlightLemmas.{order_told}
use Rattle.tf_engines.proofs.FailLemmas.{end_failed}
use Rattle.tf_engines.proofs.OrderLemmas.{finished_asks, finished_or_asks}
use Rattle.tf_engines.proofs.NextLemmas.{finished_adds, finished_or_adds, finished_free}
use Rattle.tf_engines.proofs.RunLemmas.{told_some}
use Rattle.tf_engines.proofs.SharedLemmas.{finish_leaves, finish_or_leaves}
use Rattle.tf_engines.proofs.turns.end.Goals as goal

pub finish-requires-clause-task : goal.finish-requires-clause-task
finish-requires-clause-task g c = told_some _ _ (order_told _ _ c.args.hand _ c.state-before.ensures.legal c.requires.has.has)

pub returns-in-Ok-clause-stands : goal.returns-in-Ok-clause-stands
returns-in-Ok-clause-stands g c = λ number asked limit before below le s.
    let e = c.finish.ensures in
    finish_leaves c.args.hand number below g.P.Performer.gives limit _ before _ _ c.args.book.now.limit c.finish.new.self.limit asked _ _ e.proceeds.unasked.asks e.proceeds.limit c.args.outcome g.met.P.Performer.reverts_to_nothing c.state-before.ensures.legal
    c.requires.has c.in-Ok.ensures.finished s

pub returns-in-Ok-clause-added : goal.returns-in-Ok-clause-added
returns-in-Ok-clause-added g c = finished_adds c.args.hand _ _ _ _ c.in-Ok.ensures.finished

pub returns-in-Ok-clause-free : goal.returns-in-Ok-clause-free
returns-in-Ok-clause-free g c = λ goes.
    subst (λ (p : PlanValue). is_free (outline c.args.book.now) (snapshot (outline_of p) c.finish.new.self.past) c.args.hand ≡ true) (sym c.finish.ensures.proceeds.plan)
    (finished_free c.args.hand _ _ _ _ c.state-before.ensures.legal c.in-Ok.ensures.finished)

pub returns-in-Ok-clause-orders : goal.returns-in-Ok-clause-orders
returns-in-Ok-clause-orders g c = finished_asks c.args.hand _ _ _ _ c.in-Ok.ensures.finished

pub returns-in-Err-clause-stands : goal.returns-in-Err-clause-stands
returns-in-Err-clause-stands g c = λ number asked limit before below le s.
    let e = c.finish.ensures in
    finish_or_leaves c.args.hand number below g.P.Performer.gives limit _ before _ _ c.args.book.now.limit c.finish.new.self.limit asked _ _ e.proceeds.unasked.asks e.proceeds.limit c.args.outcome g.met.P.Performer.reverts_to_nothing c.state-before.ensures.legal
    c.requires.has c.in-Err.ensures.cut s

pub returns-in-Err-clause-added : goal.returns-in-Err-clause-added
returns-in-Err-clause-added g c = finished_or_adds c.args.hand _ _ _ _ c.in-Err.ensures.cut

pub returns-in-Err-clause-orders : goal.returns-in-Err-clause-orders
returns-in-Err-clause-orders g c = finished_or_asks c.args.hand _ _ _ _ c.in-Err.ensures.cut

pub returns-in-Ok-clause-failed : goal.returns-in-Ok-clause-failed
returns-in-Ok-clause-failed g c = λ number below was.
    let e = c.finish.ensures in
    end_failed g.P.Performer.gives c.args.hand number below c.args.book.now c.finish.new.self c.args.outcome c.finish.result g.met.P.Performer.reverts_to_nothing c.state-before.ensures.legal
    c.requires.has e.proceeds.plan e.sound e.tried e.halted was

pub returns-in-Err-clause-failed : goal.returns-in-Err-clause-failed
returns-in-Err-clause-failed g c = λ number below was.
    let e = c.finish.ensures in
    end_failed g.P.Performer.gives c.args.hand number below c.args.book.now c.finish.new.self c.args.outcome c.finish.result g.met.P.Performer.reverts_to_nothing c.state-before.ensures.legal
    c.requires.has e.proceeds.plan e.sound e.tried e.halted was
