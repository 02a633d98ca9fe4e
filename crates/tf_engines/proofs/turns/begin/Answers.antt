use Rattle.std.proofs.Common.{subst, sym}
use Rattle.tf_flow.specs.Plan.{PlanValue}
use Rattle.tf_hands.specs.Hands.{orders}
use Rattle.tf_model.specs.Plan.{outline_of}
use Rattle.tf_model.specs.Steps.{LegalPast}
use Rattle.tf_book.specs.Book.{outline}
use Rattle.tf_engines.specs.Working.{HasNext, HasDoneNext}
use Rattle.tf_engines.specs.declared.turns.Next.{Next}
use Rattle.tf_engines.proofs.FailLemmas.{turn_failed}
use Rattle.tf_engines.proofs.OrderLemmas.{halted_done}
use Rattle.tf_engines.proofs.NextLemmas.{turn_adds, turn_next, turn_done, halted_adds}
use Rattle.tf_engines.proofs.SharedLemmas.{turn_leaves, halted_leaves}
use Rattle.tf_engines.proofs.turns.begin.Goals as goal

pub returns-in-Ok-clause-stands : goal.returns-in-Ok-clause-stands
returns-in-Ok-clause-stands g c = λ number asked limit before below le s.
    let e = c.next.ensures in
    turn_leaves c.args.hand number below g.P.Performer.gives limit _ before _ _ c.args.book.now.limit c.next.new.self.limit asked _ _ le e.takes.asks e.takes.limit
    (subst (λ (p : PlanValue). LegalPast (outline_of p) c.next.new.self.past) e.takes.plan c.state-after.ensures.legal) c.in-Ok.turn c.in-Ok.ensures.turn s

pub returns-in-Ok-clause-added : goal.returns-in-Ok-clause-added
returns-in-Ok-clause-added g c = turn_adds c.args.hand _ _ _ _ _ _ c.in-Ok.turn c.in-Ok.ensures.turn

pub returns-in-Ok-clause-has : goal.returns-in-Ok-clause-has
returns-in-Ok-clause-has g c =
    subst (λ (n : Next). HasNext (outline c.args.book.now) c.next.new.self.past c.args.hand n) (sym c.after.ensures)
    (turn_next c.args.hand _ _ _ _ _ _ c.in-Ok.turn (subst (λ (p : PlanValue). LegalPast (outline_of p) c.next.new.self.past) c.next.ensures.takes.plan c.state-after.ensures.legal) c.requires.free c.in-Ok.ensures.turn)

pub returns-in-Ok-clause-orders : goal.returns-in-Ok-clause-orders
returns-in-Ok-clause-orders g c = λ told base did has.
    subst (λ (n : Next). HasDoneNext told base did (orders (outline c.args.book.now) c.args.hand c.next.new.self.past) n) (sym c.after.ensures)
    (turn_done c.args.hand told base did _ _ _ _ _ _ c.in-Ok.turn c.in-Ok.ensures.turn has)

pub returns-in-Err-clause-stands : goal.returns-in-Err-clause-stands
returns-in-Err-clause-stands g c = λ number asked limit before below le s.
    let e = c.next.ensures in
    halted_leaves c.args.hand number below g.P.Performer.gives limit _ before _ _ c.args.book.now.limit c.next.new.self.limit asked _ _ le e.takes.asks e.takes.limit
    (subst (λ (p : PlanValue). LegalPast (outline_of p) c.next.new.self.past) e.takes.plan c.state-after-in-Err.ensures.legal) c.in-Err.ensures.cut s

pub returns-in-Err-clause-added : goal.returns-in-Err-clause-added
returns-in-Err-clause-added g c = halted_adds c.args.hand _ _ _ _ _ _ c.in-Err.ensures.cut

pub returns-in-Err-clause-orders : goal.returns-in-Err-clause-orders
returns-in-Err-clause-orders g c = λ told base did has. halted_done c.args.hand told base did _ _ _ _ _ _ c.in-Err.ensures.cut has

pub returns-in-Ok-clause-failed : goal.returns-in-Ok-clause-failed
returns-in-Ok-clause-failed g c = λ number below was.
    let e = c.next.ensures in
    turn_failed g.P.Performer.gives c.args.hand number below c.args.book.now c.next.new.self c.next.result e.sound e.tried e.halted was

pub returns-in-Err-clause-failed : goal.returns-in-Err-clause-failed
returns-in-Err-clause-failed g c = λ number below was.
    let e = c.next.ensures in
    turn_failed g.P.Performer.gives c.args.hand number below c.args.book.now c.next.new.self c.next.result e.sound e.tried e.halted was
