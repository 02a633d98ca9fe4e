use Rattle.std.proofs.Common.{[], Some, subst}
use Rattle.tf_actions.specs.declared.orders.Order.{Order}
use Rattle.tf_actions.specs.declared.outcomes.Outcome.{Outcome}
use Rattle.tf_commands.specs.Asking.{WasAsked}
use Rattle.tf_commands.specs.Runs.{IsRunTo, RunsOn}
use Rattle.tf_commands.proofs.WantLemmas.{local_gives, remote_gives}
use Rattle.tf_commands.proofs.resuming.report_ended.Goals as goal

pub returns-in-Local-clause-runs : goal.returns-in-Local-clause-runs
returns-in-Local-clause-runs g c start spoken =
    let D = g.K.Desk in
    let now = c.report_end.result.desk in
    subst (λ (r : Order → Outcome → Type 0). IsRunTo D.state r c.args.request.now (WasAsked (D.state start.journal.desk) (D.state now)) [] start c.args.book (Some c.args.last)
    → RunsOn D.state r c.args.request.now (WasAsked (D.state start.journal.desk) (D.state now)) [] start (D.state now) c.report_end.result.status)
    (local_gives c.args.request.now.want c.in-Local.field-0 g.W.Hand.Performer.gives g.W.Far.Performer.gives c.in-Local.is)
    (c.report_end.ensures.runs c.args.request.now start [] spoken)

pub returns-in-Remote-clause-runs : goal.returns-in-Remote-clause-runs
returns-in-Remote-clause-runs g c start spoken =
    let D = g.K.Desk in
    let end = c.report_end-in-Remote in
    let now = end.result.desk in
    subst (λ (r : Order → Outcome → Type 0). IsRunTo D.state r c.args.request.now (WasAsked (D.state start.journal.desk) (D.state now)) [] start c.args.book (Some c.args.last)
    → RunsOn D.state r c.args.request.now (WasAsked (D.state start.journal.desk) (D.state now)) [] start (D.state now) end.result.status)
    (remote_gives c.args.request.now.want c.in-Remote.field-0 g.W.Hand.Performer.gives g.W.Far.Performer.gives c.in-Remote.is)
    (end.ensures.runs c.args.request.now start [] spoken)
