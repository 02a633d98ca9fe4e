use Rattle.std.proofs.Common.{◌≤◌, sym, ap, ◌∙◌, arith}
use Rattle.tf_flow.specs.Plan.{PlanValue}
use Rattle.tf_model.specs.Plan.{outline_of, count, is_task}
use Rattle.tf_model.proofs.PlanLemmas.{no_task}
use Rattle.tf_model.proofs.PlanLemmas.{atoms_counted}
use Rattle.tf_machine.proofs.compiled.Compiled.is_task.Goals as goal

pub returns-then-atom-atoms : goal.returns-then-atom-atoms
returns-then-atom-atoms c =
    let past : count (outline_of c.self.inside.plan) ≤ c.args.atom = omega (arith, atoms_counted c.self.inside.plan, c.atoms.ensures.count, c.if-atom-atoms.true) in
    sym (no_task (outline_of c.self.inside.plan) c.args.atom past) ∙ ap (λ (plan : PlanValue). is_task (outline_of plan) c.args.atom) c.self.view_is
