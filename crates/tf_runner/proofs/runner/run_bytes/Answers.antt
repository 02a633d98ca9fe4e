use Rattle.std.proofs.Common.{◌≡◌, [], sym, ◌∙◌}
use Rattle.tf_flow.specs.Plan.{plan_tree}
use Rattle.tf_runner.proofs.RunLemmas.{planned_so, refused_so}
use Rattle.tf_runner.proofs.runner.run_bytes.Goals as goal

pub returns-in-Ok : goal.returns-in-Ok
returns-in-Ok g c =
    let none : c.make.result ≡ [] = c.make.ensures ∙ c.new.ensures.items in
    planned_so g.P.Performer.gives c.args.bytes.now c.make.result (plan_tree c.in-Ok.machine.plan) c.run_plan.result none c.in-Ok.ensures.ok c.run_plan.ensures

pub returns-else-is_memory : goal.returns-else-is_memory
returns-else-is_memory g c =
    let none : c.make.result ≡ [] = c.make.ensures ∙ c.new.ensures.items in
    refused_so g.P.Performer.gives c.args.bytes.now c.make.result c.in-Err.reason none (sym c.is_memory.ensures ∙ c.if-is_memory.false) c.in-Err.ensures.refused
