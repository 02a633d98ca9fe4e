use Rattle.std.proofs.Common.{sym, subst, arith}
use Rattle.tf_book.specs.Book.{BookValue}
use Rattle.tf_engines.specs.Shared.{IsJustEntered, IsShared}
use Rattle.tf_engines.proofs.EnterLemmas.{ended_entering}
use Rattle.tf_engines.proofs.OpenLemmas.{is_fresh, entered_shared, ended_run, cut_run}
use Rattle.tf_engines.proofs.FailLemmas.{turn_failed, unhalted_might}
use Rattle.tf_engines.proofs.OrderLemmas.{cut_asks}
use Rattle.tf_engines.proofs.RunLemmas.{was_sound}
use Rattle.tf_engines.proofs.shared.Shared.enter.Goals as goal

pub invariant_of-result : goal.invariant_of-result
invariant_of-result g c =
    let t = rw c.in-Ok-Running.field-0-is at c.in-Ok-Running.ensures.entered in
    let e = c.enter.ensures in
    subst (λ (b : BookValue _). IsShared g.K.Desk.state g.P.Performer.gives record { start = b; now = c.enter.new.self; limit = c.args.limit; number = c.args.hands }) (sym c.of-start.ensures)
    (entered_shared g.K.Desk.state g.P.Performer.gives record { start = c.args.book; now = c.enter.new.self; limit = c.args.limit; number = c.args.hands }
    c.requires.some c.requires.few e.keeps e.plan e.unasked.asks (e.limit (was_sound _ _ c.in-Ok-Running.ensures.sound e.halted)) c.in-Ok-Running.ensures.sound c.state-after.ensures.legal t)

pub returns-in-Ok-Running-clause-fresh : goal.returns-in-Ok-Running-clause-fresh
returns-in-Ok-Running-clause-fresh g c =
    let t = rw c.in-Ok-Running.field-0-is at c.in-Ok-Running.ensures.entered in
    subst (λ (b : BookValue _). IsJustEntered record { start = b; now = c.enter.new.self; limit = c.args.limit; number = c.args.hands }) (sym c.of-start.ensures)
    (is_fresh record { start = c.args.book; now = c.enter.new.self; limit = c.args.limit; number = c.args.hands } c.enter.ensures.plan c.state-after.ensures.legal t)

pub returns-in-Ok-Ended-clause-run : goal.returns-in-Ok-Ended-clause-run
returns-in-Ok-Ended-clause-run g c =
    let t = rw c.in-Ok-Ended.field-0-is at c.in-Ok-Ended.ensures.entered in
    let e = c.enter.ensures in
    ended_run g.K.Desk.state g.P.Performer.gives c.args.hands c.args.limit c.args.book c.enter.new.self c.in-Ok-Ended.state e.keeps e.plan e.unasked.asks c.in-Ok-Ended.ensures.sound c.state-before.ensures.legal t

pub returns-in-Ok-Ended-clause-begun : goal.returns-in-Ok-Ended-clause-begun
returns-in-Ok-Ended-clause-begun g c =
    let t = rw c.in-Ok-Ended.field-0-is at c.in-Ok-Ended.ensures.entered in
    ended_entering c.args.book.past c.enter.new.self.past c.in-Ok-Ended.state t

pub returns-in-Err-clause-run : goal.returns-in-Err-clause-run
returns-in-Err-clause-run g c =
    let e = c.enter.ensures in
    cut_run g.K.Desk.state g.P.Performer.gives c.args.hands c.args.limit c.args.book c.enter.new.self c.halted-how.result c.requires.some e.keeps e.plan e.unasked.asks c.halted-how.ensures.cause c.halted-how.ensures.stands c.halted-how.ensures.legal (λ sound. turn_failed g.P.Performer.gives 0 c.args.hands (omega (arith, c.requires.some)) c.args.book c.enter.new.self c.enter.result e.sound e.tried e.halted (unhalted_might g.P.Performer.gives c.args.hands c.args.book sound)) c.in-Err.ensures.cut

pub returns-in-Err-clause-orders : goal.returns-in-Err-clause-orders
returns-in-Err-clause-orders g c = λ hand. cut_asks hand _ _ _ c.in-Err.ensures.cut
