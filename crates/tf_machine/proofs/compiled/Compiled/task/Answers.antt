use Rattle.std.proofs.Common.{◌<◌, true, ◌≡◌, ap, ◌∙◌, arith}
use Rattle.tf_flow.specs.Plan.{PlanValue}
use Rattle.tf_model.specs.Plan.{outline_of, count, is_task}
use Rattle.tf_model.proofs.PlanLemmas.{task_below}
use Rattle.tf_model.proofs.PlanLemmas.{atoms_counted}
use Rattle.tf_machine.proofs.compiled.Compiled.task.Goals as goal

pub part-requires : goal.part-requires
part-requires c =
    let task : is_task (outline_of c.self.inside.plan) c.args.atom ≡ true = ap (λ (plan : PlanValue). is_task (outline_of plan) c.args.atom) c.self.view_is ∙ c.requires in
    let below : c.args.atom < count (outline_of c.self.inside.plan) = task_below (outline_of c.self.inside.plan) c.args.atom task in
    omega (arith, atoms_counted c.self.inside.plan, below)
