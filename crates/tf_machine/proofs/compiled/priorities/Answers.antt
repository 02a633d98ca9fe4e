use Rattle.std.proofs.Common.{rules}
use Rattle.tf_machine.proofs.PlanLemmas.{priorities_next}
use Rattle.tf_machine.proofs.compiled.priorities.Goals as goal

pub loop-atom-preserved : goal.loop-atom-preserved
loop-atom-preserved c =
    let next = priorities_next c.args.plan.now c.loop-atom.atom c.part.result c.loop-atom.priorities.items c.loop-atom.invariant c.part.ensures in
    search (rules, next, c.priority.ensures, c.in_ok-push.ensures.items)
