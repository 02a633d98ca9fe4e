use Rattle.std.proofs.Common.{refl, arith, subst, sym, ℕ, List, Option}
use Rattle.std.specs.Prelude.{IfSome, IfNone}
use Rattle.tf_flow.specs.Plan.{PlanValue}
use Rattle.tf_numbers.specs.Numbers.{Rises}
use Rattle.tf_hands.specs.Hands.{HasOrder, IsAlone, orders}
use Rattle.tf_hands.proofs.FlightLemmas.{still_free}
use Rattle.tf_model.specs.Plan.{outline_of}
use Rattle.tf_model.specs.Steps.{LegalPast}
use Rattle.tf_engines.specs.Runs.{IsUnderWay, HasRun}
use Rattle.tf_engines.specs.declared.engine.How.{How}
use Rattle.tf_actions.specs.declared.orders.Order.{Order}
use Rattle.tf_engines.specs.Asked.{HasDone, HasToDo, HasDoneBy}
use Rattle.tf_engines.proofs.FailLemmas.{turn_failed, unhalted_might}
use Rattle.tf_engines.proofs.OrderLemmas.{started_to_do, ended_done, suspended_done, halted_done, halted_asks}
use Rattle.tf_engines.proofs.StopLemmas.{some_later}
use Rattle.tf_engines.proofs.TurnLemmas.{goes_started, has_started, alone_started, runs_started, never_waits, turn_ended, turn_stops, turn_suspended, turn_is_suspended, halted_run}
use Rattle.tf_engines.proofs.one_hand.take_turn.Goals as goal
use Rattle.tf_desk.proofs.CountLemmas.{rises_later}

pub next-requires-clause-free : goal.next-requires-clause-free
next-requires-clause-free g c = still_free _ _ 0 c.requires.going.still

pub perform-requires : goal.perform-requires
perform-requires g c =
    let t = rw c.in-Ok-Start.field-0-is at c.in-Ok-Start.ensures.turn in
    record {
      at_work = record {
        sound = c.in-Ok-Start.ensures.sound;
        running = runs_started 0 _ _ _ t.stop _ _ t.is.0;
        has = subst (λ (p : PlanValue). HasOrder (outline_of p) c.next.new.self.past 0 c.in-Ok-Start.order) (sym c.next.ensures.takes.plan) (has_started 0 _ _ _ t.stop _ _ t.is.0);
        alone = subst (λ (p : PlanValue). IsAlone (outline_of p) c.next.new.self.past 0) (sym c.next.ensures.takes.plan) (alone_started 0 _ _ _ t.stop _ _ c.requires.going.still t.is.0);
        whole = t.is.1;
      };
    }

pub unreachable-requires : goal.unreachable-requires
unreachable-requires g c =
    let t = rw c.in-Ok-Idle.field-0-is at c.in-Ok-Idle.ensures.turn in
    never_waits 0 _ _ _ t.stop _ c.requires.going.still
    (subst (λ (p : PlanValue). LegalPast (outline_of p) c.next.new.self.past) c.next.ensures.takes.plan c.state-after.ensures.legal) t.is

pub returns-in-Ok-Start-clause-ran : goal.returns-in-Ok-Start-clause-ran
returns-in-Ok-Start-clause-ran g c = λ limit before on.
    let t = rw c.in-Ok-Start.field-0-is at c.in-Ok-Start.ensures.turn in
    let started = goes_started 0 1 refl g.P.Performer.gives limit _ before _ _ t.stop _ _ t.is.0 on in
    let mid : ℕ = (g.K.Desk.state c.next.new.self.journal.desk).asks in
    let last : ℕ = (g.K.Desk.state c.perform.new.book.journal.desk).asks in
    some_later g.P.Performer.gives (Rises mid last) _ 1 limit _ before _ c.perform.result (rises_later _ mid last c.next.ensures.takes.asks)
    (subst (λ (p : PlanValue). IfSome c.perform.result (λ (h : How). HasRun g.P.Performer.gives (Rises mid last) 1 limit (outline_of p) before c.perform.new.book.past h)) c.next.ensures.takes.plan
    (c.perform.ensures.ran limit before
    (subst (λ (p : PlanValue). IsUnderWay g.P.Performer.gives 1 limit (outline_of p) before c.next.new.self.past c.next.new.self.limit) (sym c.next.ensures.takes.plan)
    (subst (λ (k : Option ℕ). IsUnderWay g.P.Performer.gives 1 limit (outline_of c.args.book.now.plan) before c.next.new.self.past k) (sym c.next.ensures.takes.limit) started))))

pub returns-in-Ok-Start-clause-on : goal.returns-in-Ok-Start-clause-on
returns-in-Ok-Start-clause-on g c = λ limit before on.
    let t = rw c.in-Ok-Start.field-0-is at c.in-Ok-Start.ensures.turn in
    let started = goes_started 0 1 refl g.P.Performer.gives limit _ before _ _ t.stop _ _ t.is.0 on in
    subst (λ (p : PlanValue). IfNone c.perform.result (IsUnderWay g.P.Performer.gives 1 limit (outline_of p) before c.perform.new.book.past c.perform.new.book.limit)) c.next.ensures.takes.plan
    (c.perform.ensures.on limit before
    (subst (λ (p : PlanValue). IsUnderWay g.P.Performer.gives 1 limit (outline_of p) before c.next.new.self.past c.next.new.self.limit) (sym c.next.ensures.takes.plan)
    (subst (λ (k : Option ℕ). IsUnderWay g.P.Performer.gives 1 limit (outline_of c.args.book.now.plan) before c.next.new.self.past k) (sym c.next.ensures.takes.limit) started)))

pub returns-in-Ok-Ended-clause-stops : goal.returns-in-Ok-Ended-clause-stops
returns-in-Ok-Ended-clause-stops g c =
    let t = rw c.in-Ok-Ended.field-0-is at c.in-Ok-Ended.ensures.turn in
    let stops = turn_stops 0 _ _ _ _ _ _ _ c.requires.going.running t in
    (c.in-Ok-Ended.ensures.sound, stops.0, stops.1)

pub returns-in-Ok-Ended-clause-ran : goal.returns-in-Ok-Ended-clause-ran
returns-in-Ok-Ended-clause-ran g c = λ limit before on.
    let t = rw c.in-Ok-Ended.field-0-is at c.in-Ok-Ended.ensures.turn in
    turn_ended 0 1 refl g.P.Performer.gives limit _ before _ _ _ _ _ _ c.requires.going.running
    (subst (λ (p : PlanValue). LegalPast (outline_of p) c.next.new.self.past) c.next.ensures.takes.plan c.state-after-in-Ok-Ended.ensures.legal) t on

pub returns-in-Ok-Suspended-clause-stops : goal.returns-in-Ok-Suspended-clause-stops
returns-in-Ok-Suspended-clause-stops g c =
    let t = rw c.in-Ok-Suspended.field-0-is at c.in-Ok-Suspended.ensures.turn in
    (c.in-Ok-Suspended.ensures.sound, turn_is_suspended 0 _ _ _ _ _ _ t)

pub returns-in-Ok-Suspended-clause-ran : goal.returns-in-Ok-Suspended-clause-ran
returns-in-Ok-Suspended-clause-ran g c = λ limit before on.
    let t = rw c.in-Ok-Suspended.field-0-is at c.in-Ok-Suspended.ensures.turn in
    turn_suspended 0 1 refl g.P.Performer.gives limit _ before _ _ _ _ _ c.requires.going.running
    (subst (λ (p : PlanValue). LegalPast (outline_of p) c.next.new.self.past) c.next.ensures.takes.plan c.state-after-in-Ok-Suspended.ensures.legal) t on

pub returns-in-Ok-Suspended-clause-stopped : goal.returns-in-Ok-Suspended-clause-stopped
returns-in-Ok-Suspended-clause-stopped g c = λ told base has.
    let t = rw c.in-Ok-Suspended.field-0-is at c.in-Ok-Suspended.ensures.turn in
    suspended_done 0 told base (g.P.Performer.did c.args.hand.now) _ _ _ _ _ _ t has

pub returns-in-Err-clause-ran : goal.returns-in-Err-clause-ran
returns-in-Err-clause-ran g c = λ limit before on.
    halted_run 0 1 refl g.P.Performer.gives limit _ before _ _ _ _ _ _ _ c.halted.ensures.cause c.requires.going.running
    (subst (λ (p : PlanValue). LegalPast (outline_of p) c.next.new.self.past) c.next.ensures.takes.plan c.halted.ensures.legal) c.in-Err.ensures.cut on

pub returns-in-Ok-Start-clause-asked : goal.returns-in-Ok-Start-clause-asked
returns-in-Ok-Start-clause-asked g c = λ told base has.
    let t = rw c.in-Ok-Start.field-0-is at c.in-Ok-Start.ensures.turn in
    let did : Option (List Order) = g.P.Performer.did c.args.hand.now in
    subst (λ (p : PlanValue). IfNone c.perform.result (HasDone told base (g.P.Performer.did c.perform.new.hand) (orders (outline_of p) 0 c.perform.new.book.past))) c.next.ensures.takes.plan
    (c.perform.ensures.asked told base
    (subst (λ (p : PlanValue). HasToDo told base did (orders (outline_of p) 0 c.next.new.self.past) c.in-Ok-Start.order) (sym c.next.ensures.takes.plan) (started_to_do 0 told base did _ _ _ t.stop _ _ t.is.0 has)))

pub returns-in-Ok-Start-clause-stopped : goal.returns-in-Ok-Start-clause-stopped
returns-in-Ok-Start-clause-stopped g c = λ told base has.
    let t = rw c.in-Ok-Start.field-0-is at c.in-Ok-Start.ensures.turn in
    let did : Option (List Order) = g.P.Performer.did c.args.hand.now in
    subst (λ (p : PlanValue). IfSome c.perform.result (λ (h : How). HasDoneBy told base (g.P.Performer.did c.perform.new.hand) (orders (outline_of p) 0 c.perform.new.book.past) h)) c.next.ensures.takes.plan
    (c.perform.ensures.stopped told base
    (subst (λ (p : PlanValue). HasToDo told base did (orders (outline_of p) 0 c.next.new.self.past) c.in-Ok-Start.order) (sym c.next.ensures.takes.plan) (started_to_do 0 told base did _ _ _ t.stop _ _ t.is.0 has)))

pub returns-in-Ok-Ended-clause-stopped : goal.returns-in-Ok-Ended-clause-stopped
returns-in-Ok-Ended-clause-stopped g c = λ told base has.
    let t = rw c.in-Ok-Ended.field-0-is at c.in-Ok-Ended.ensures.turn in
    ended_done 0 told base (g.P.Performer.did c.args.hand.now) _ _ _ _ _ _ _ t has

pub returns-in-Err-clause-stopped : goal.returns-in-Err-clause-stopped
returns-in-Err-clause-stopped g c = λ told base has.
    halted_asks told base _ _ _ _ c.halted.ensures.cause (halted_done 0 told base (g.P.Performer.did c.args.hand.now) _ _ _ _ _ _ c.in-Err.ensures.cut has)

pub returns-in-Err-clause-failed : goal.returns-in-Err-clause-failed
returns-in-Err-clause-failed g c =
    let e = c.next.ensures in
    turn_failed g.P.Performer.gives 0 1 (omega arith) c.args.book.now c.next.new.self c.next.result e.sound e.tried e.halted
    (unhalted_might g.P.Performer.gives 1 c.args.book.now c.requires.going.sound)
