use Rattle.std.proofs.Common.{◌≡◌, true, refl, ap, subst, sym, None, ◌∙◌, ℕ, List, Option, arith}
use Rattle.tf_flow.specs.Plan.{PlanValue}
use Rattle.tf_model.specs.History.{snapshot}
use Rattle.tf_model.specs.Plan.{outline_of}
use Rattle.tf_model.specs.Steps.{LegalPast, is_still}
use Rattle.tf_states.specs.declared.record.Entry.{Entry}
use Rattle.tf_hands.proofs.FlightLemmas.{order_told}
use Rattle.tf_book.specs.Book.{BookValue}
use Rattle.tf_engines.specs.Runs.{IsUnderWay}
use Rattle.tf_book.specs.Recording.{halt_for_memory}
use Rattle.tf_book.proofs.TriedLemmas.{none_tried}
use Rattle.tf_engines.proofs.FailLemmas.{end_failed, unhalted_might}
use Rattle.tf_engines.proofs.OrderLemmas.{finished_done, finished_or_done, done_next, done_whole, halted_asks}
use Rattle.tf_engines.proofs.RunLemmas.{goes_session, halts_so, goes_finished, finished_or_not, still_after, runs_after, told_some}
use Rattle.tf_engines.proofs.one_hand.perform.Goals as goal

pub returns-in_default-clause-ran : goal.returns-in_default-clause-ran
returns-in_default-clause-ran g c = λ limit before on.
    let same = c.halt_for_memory.ensures.same in
    halts_so _ _ 1 _ _ before _ _ _ c.halted.ensures.cause None
    (goes_session _ _ 1 _ _ before _ c.args.book.now.limit (subst (λ (p : PlanValue). LegalPast (outline_of p) c.halt_for_memory.new.self.past) (ap (λ (b : BookValue _). b.plan) same) c.halted.ensures.legal)
    (subst (λ (l : List Entry). IsUnderWay g.P.Performer.gives 1 limit (outline_of c.args.book.now.plan) before l c.args.book.now.limit) (sym (ap (λ (b : BookValue _). b.past) same)) on))

pub finish-requires-clause-task : goal.finish-requires-clause-task
finish-requires-clause-task g c = told_some _ _ (order_told _ _ 0 _ c.state-before.ensures.legal c.requires.at_work.has)

pub returns-in-Ok-finish-clause-on : goal.returns-in-Ok-finish-clause-on
returns-in-Ok-finish-clause-on g c = λ limit before on.
    subst (λ (k : Option ℕ). IsUnderWay g.P.Performer.gives 1 limit (outline_of c.args.book.now.plan) before c.finish.new.self.past k) (sym c.finish.ensures.proceeds.limit)
    (goes_finished _ 0 1 _ _ before _ _ _ _ _ refl g.met.P.Performer.reverts_to_nothing c.state-before.ensures.legal c.requires.at_work.has c.in-Ok.ensures.given c.in-Ok-finish.ensures.finished on)

pub returns-in-Ok-finish-clause-goes : goal.returns-in-Ok-finish-clause-goes
returns-in-Ok-finish-clause-goes g c =
    let e = c.in-Ok-finish.ensures in
    record {
      sound = e.sound;
      running = runs_after 0 _ _ _ _ e.finished ∙ c.requires.at_work.running;
      still = subst (λ (p : PlanValue). is_still (outline_of p) (snapshot (outline_of p) c.finish.new.self.past) ≡ true) (sym e.proceeds.plan)
          (still_after 0 _ _ _ _ c.state-before.ensures.legal c.requires.at_work.alone e.finished);
    }

pub returns-clause-ran : goal.returns-clause-ran
returns-clause-ran g c = λ limit before on.
    halts_so _ _ 1 _ _ before _ _ _ c.halted-in-Err.ensures.cause None
    (finished_or_not _ _ 0 1 _ _ before _ _ _ _ _ refl g.met.P.Performer.reverts_to_nothing c.state-before.ensures.legal
    (subst (λ (p : PlanValue). LegalPast (outline_of p) c.finish.new.self.past) c.in-Err.ensures.proceeds.plan c.halted-in-Err.ensures.legal) c.requires.at_work.has c.in-Ok.ensures.given c.in-Err.ensures.cut on)

pub returns-in-Ok-finish-clause-asked : goal.returns-in-Ok-finish-clause-asked
returns-in-Ok-finish-clause-asked g c = λ told base to_do.
    finished_done 0 told base _ _ _ _ _ c.in-Ok-finish.ensures.finished (done_next told base _ _ _ _ to_do c.in-Ok.ensures.done)

pub returns-clause-stopped : goal.returns-clause-stopped
returns-clause-stopped g c = λ told base to_do.
    halted_asks told base _ _ _ _ c.halted-in-Err.ensures.cause
    (done_whole told base _ _ (finished_or_done 0 told base _ _ _ _ _ c.in-Err.ensures.cut (done_next told base _ _ _ _ to_do c.in-Ok.ensures.done)))

pub returns-in_default-clause-failed : goal.returns-in_default-clause-failed
returns-in_default-clause-failed g c =
    none_tried _ _ _ (ap (λ (b : BookValue _). b.halt) c.halt_for_memory.ensures.same ∙ ap halt_for_memory c.requires.at_work.sound)

pub returns-clause-failed : goal.returns-clause-failed
returns-clause-failed g c =
    let e = c.finish.ensures in
    end_failed g.P.Performer.gives 0 1 (omega arith) c.args.book.now c.finish.new.self c.in-Ok.outcome c.finish.result g.met.P.Performer.reverts_to_nothing c.state-before.ensures.legal
    record { order = c.args.order; has = c.requires.at_work.has; gave = c.in-Ok.ensures.given } e.proceeds.plan e.sound e.tried e.halted
    (unhalted_might g.P.Performer.gives 1 c.args.book.now c.requires.at_work.sound)
