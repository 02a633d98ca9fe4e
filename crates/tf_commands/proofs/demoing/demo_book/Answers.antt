use Rattle.std.proofs.Common.{subst}
use Rattle.tf_desk.specs.State.{told_as}
use Rattle.tf_flow.specs.Plan.{PlanTree}
use Rattle.tf_ports.specs.declared.crews.Want.TheVariants as want
use Rattle.tf_commands.specs.Books.{Runs, demonstrated, unspoken}
use Rattle.tf_commands.specs.Asking.{WasAsked}
use Rattle.tf_commands.proofs.demoing.demo_book.Goals as goal

pub returns-in-Ok-clause-demonstrates : goal.returns-in-Ok-clause-demonstrates
returns-in-Ok-clause-demonstrates g c =
    let D = g.K.Desk in
    let run = c.run_plan in
    let entry = D.state c.args.desk in
    let now = D.state run.result.desk in
    demonstrated (subst (λ (t : PlanTree). Runs g.W.Hand.Performer.gives (unspoken (want.Local c.args.hands)) (WasAsked entry now)
    c.args.name.now (g.W.Crew.told c.args.crew.now) (g.W.Crew.told run.new.crew) (told_as now entry) now t run.result.status) c.in-Ok.ensures.generated run.ensures.runs)
