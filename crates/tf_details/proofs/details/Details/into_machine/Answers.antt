use Rattle.std.proofs.Common.{rules, ◌≡◌, ◌∙◌, sym, ap, Some, get_or}
use Rattle.tf_machine.specs.Machine.{MachineValue}
use Rattle.tf_details.proofs.MachineLemmas.{plan_found}
use Rattle.tf_details.proofs.details.Details.into_machine.Goals as goal

pub returns-clause-plan : goal.returns-clause-plan
returns-clause-plan c = λ book are.
    let found : c.swap_remove.result ≡ get_or c.args.self c.args.number c.swap_remove.result = search rules in
    plan_found c.args.self book are c.args.number c.swap_remove.result c.requires ∙ ap (λ (m : MachineValue). Some m.plan) (sym found)
