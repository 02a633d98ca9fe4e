use Rattle.std.proofs.Common.{◌≡◌, vec_len, subst, arith}
use Rattle.tf_flow.specs.Plan.{PlanValue}
use Rattle.tf_details.specs.Elements.{IsHistoryOf}
use Rattle.tf_commands.specs.Runs.{IsHeld}
use Rattle.tf_book.proofs.InvariantLemmas.{keeps_none}
use Rattle.tf_commands.proofs.AskedLemmas.{session_more}
use Rattle.tf_commands.proofs.CountLemmas.{rises_until}
use Rattle.tf_commands.proofs.OrderLemmas.{given_in_run}
use Rattle.tf_commands.proofs.RunLemmas.{run_failed}
use Rattle.tf_commands.proofs.running.run_book.Goals as goal

pub returns-in-Ended-clause-runs : goal.returns-in-Ended-clause-runs
returns-in-Ended-clause-runs g c =
    c.end_run.ensures.runs c.args.book _ (record {
      kept = c.go_through-book.ensures.keeps c.args.book (keeps_none g.K.Desk.state c.args.book c.requires.sound);
      session = session_more _ _ _ _ _ _ _ _ _ (λ rose. rises_until (g.K.Desk.state c.args.book.journal.desk).asks (g.K.Desk.state c.go_through-book.result.book.journal.desk).asks _ rose c.end_run.ensures.asks) (rw c.requires.all at (rw c.in-Ended.is at c.go_through-book.ensures.ran));
      history = subst (λ (p : PlanValue). IsHistoryOf p c.go_through-book.result.book.past) c.go_through-book.ensures.plan c.state-after.ensures.history;
      held = subst (λ (p : PlanValue). IsHeld p c.go_through-book.result.book) c.go_through-book.ensures.plan (record { held = c.state-after.ensures.held; told = c.state-after.ensures.told });
      limits = c.state-before.ensures.limits;
      short_before = c.state-before.ensures.short;
      short = c.state-after.ensures.short;
      speaks = c.requires.speaks;
      failed = run_failed g.P.Performer.gives c.args.request.now c.args.book c.go_through-book.result.book _ c.requires.all c.go_through-book.ensures.plan (c.go_through-book.ensures.failed c.requires.sound);
      orders_given = given_in_run g.P.Performer.did c.go_through-book.result.book.halt _ _ _ _ c.args.hands.now.items c.go_through-book.new.hands.items c.go_through-book.result.how c.go_through-book.ensures.stops
          c.requires.idle
          (let counted : vec_len c.go_through-book.new.hands ≡ vec_len c.args.hands.now = c.go_through-book.ensures.count in omega (arith, counted, c.go_through-book.new.hands.ok.0, c.args.hands.now.ok.0))
          (λ i d below. c.go_through-book.ensures.orders i d (omega (arith, below, c.args.hands.now.ok.0)));
    })

pub returns-in-Suspended-clause-runs : goal.returns-in-Suspended-clause-runs
returns-in-Suspended-clause-runs g c =
    c.end_run-in-Suspended.ensures.runs c.args.book _ (record {
      kept = c.go_through-book.ensures.keeps c.args.book (keeps_none g.K.Desk.state c.args.book c.requires.sound);
      session = session_more _ _ _ _ _ _ _ _ _ (λ rose. rises_until (g.K.Desk.state c.args.book.journal.desk).asks (g.K.Desk.state c.go_through-book.result.book.journal.desk).asks _ rose c.end_run-in-Suspended.ensures.asks) (rw c.requires.all at (rw c.in-Suspended.is at c.go_through-book.ensures.ran));
      history = subst (λ (p : PlanValue). IsHistoryOf p c.go_through-book.result.book.past) c.go_through-book.ensures.plan c.state-after.ensures.history;
      held = subst (λ (p : PlanValue). IsHeld p c.go_through-book.result.book) c.go_through-book.ensures.plan (record { held = c.state-after.ensures.held; told = c.state-after.ensures.told });
      limits = c.state-before.ensures.limits;
      short_before = c.state-before.ensures.short;
      short = c.state-after.ensures.short;
      speaks = c.requires.speaks;
      failed = run_failed g.P.Performer.gives c.args.request.now c.args.book c.go_through-book.result.book _ c.requires.all c.go_through-book.ensures.plan (c.go_through-book.ensures.failed c.requires.sound);
      orders_given = given_in_run g.P.Performer.did c.go_through-book.result.book.halt _ _ _ _ c.args.hands.now.items c.go_through-book.new.hands.items c.go_through-book.result.how c.go_through-book.ensures.stops
          c.requires.idle
          (let counted : vec_len c.go_through-book.new.hands ≡ vec_len c.args.hands.now = c.go_through-book.ensures.count in omega (arith, counted, c.go_through-book.new.hands.ok.0, c.args.hands.now.ok.0))
          (λ i d below. c.go_through-book.ensures.orders i d (omega (arith, below, c.args.hands.now.ok.0)));
    })

pub returns-in-Halted-clause-runs : goal.returns-in-Halted-clause-runs
returns-in-Halted-clause-runs g c =
    let ran = rw c.requires.all at (rw c.in-Halted.is at c.go_through-book.ensures.ran) in
    c.say_halt.ensures.runs c.args.request.now c.args.book _ ran.0 (record {
      kept = c.go_through-book.ensures.keeps c.args.book (keeps_none g.K.Desk.state c.args.book c.requires.sound);
      session = session_more _ _ _ _ _ _ _ _ _ (λ rose. rises_until (g.K.Desk.state c.args.book.journal.desk).asks (g.K.Desk.state c.go_through-book.result.book.journal.desk).asks _ rose c.say_halt.ensures.asks) (ran.1);
      history = subst (λ (p : PlanValue). IsHistoryOf p c.go_through-book.result.book.past) c.go_through-book.ensures.plan c.state-after.ensures.history;
      held = subst (λ (p : PlanValue). IsHeld p c.go_through-book.result.book) c.go_through-book.ensures.plan (record { held = c.state-after.ensures.held; told = c.state-after.ensures.told });
      limits = c.state-before.ensures.limits;
      short_before = c.state-before.ensures.short;
      short = c.state-after.ensures.short;
      speaks = c.requires.speaks;
      failed = run_failed g.P.Performer.gives c.args.request.now c.args.book c.go_through-book.result.book _ c.requires.all c.go_through-book.ensures.plan (c.go_through-book.ensures.failed c.requires.sound);
      orders_given = given_in_run g.P.Performer.did c.go_through-book.result.book.halt _ _ _ _ c.args.hands.now.items c.go_through-book.new.hands.items c.go_through-book.result.how c.go_through-book.ensures.stops
          c.requires.idle
          (let counted : vec_len c.go_through-book.new.hands ≡ vec_len c.args.hands.now = c.go_through-book.ensures.count in omega (arith, counted, c.go_through-book.new.hands.ok.0, c.args.hands.now.ok.0))
          (λ i d below. c.go_through-book.ensures.orders i d (omega (arith, below, c.args.hands.now.ok.0)));
    })
