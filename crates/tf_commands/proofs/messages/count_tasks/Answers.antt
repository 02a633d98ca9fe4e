use Rattle.std.proofs.Common.{◌≡◌, true, false, ◌∙◌, arith}
use Rattle.tf_model.specs.Plan.{outline_of, count, is_task}
use Rattle.tf_commands.proofs.MessageLemmas.{counted_task, counted_other}
use Rattle.tf_model.proofs.PlanLemmas.{atoms_counted, task_told}
use Rattle.tf_commands.proofs.messages.count_tasks.Goals.{then-not-is_retry, else-not-is_retry}
use Rattle.tf_commands.proofs.messages.count_tasks.Goals as goal

pub loop-atom-preserved : goal.loop-atom-preserved
loop-atom-preserved c = elim c.if-not-is_retry.branch [
  | then-not-is_retry w ↦
      let is : is_task (outline_of c.args.plan.now) c.loop-atom.atom ≡ true = task_told c.args.plan.now c.loop-atom.atom false w.if-not-is_retry.ensures in
      (w.tasks-is ∙ counted_task (outline_of c.args.plan.now) c.loop-atom.atom c.loop-atom.tasks is c.loop-atom.invariant.0, omega (arith, w.tasks-is, c.loop-atom.invariant.1))
  | else-not-is_retry w ↦
      let is : is_task (outline_of c.args.plan.now) c.loop-atom.atom ≡ false = task_told c.args.plan.now c.loop-atom.atom true w.if-not-is_retry.ensures in
      (w.tasks-is ∙ counted_other (outline_of c.args.plan.now) c.loop-atom.atom c.loop-atom.tasks is c.loop-atom.invariant.0, omega (arith, w.tasks-is, c.loop-atom.invariant.1))
]

pub returns-clause-is : goal.returns-clause-is
returns-clause-is c =
    let end : c.loop-atom.atom ≡ count (outline_of c.args.plan.now) = omega (arith, c.loop-atom-test.false, c.loop-atom.auto.atom-end, c.atoms-atom-end.ensures.count, atoms_counted c.args.plan.now) in
    rw end at c.loop-atom.invariant.0

pub returns-clause-few : goal.returns-clause-few
returns-clause-few c =
    let end : c.loop-atom.atom ≡ count (outline_of c.args.plan.now) = omega (arith, c.loop-atom-test.false, c.loop-atom.auto.atom-end, c.atoms-atom-end.ensures.count, atoms_counted c.args.plan.now) in
    rw end at c.loop-atom.invariant.1
