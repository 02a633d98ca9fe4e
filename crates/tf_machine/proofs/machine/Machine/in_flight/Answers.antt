use Rattle.std.proofs.Common.{◌≡◌, true, ◌∙◌, ◌<◌, sym, subst}
use Rattle.tf_model.specs.Plan.{is_task}
use Rattle.tf_model.specs.Steps.{Step}
use Rattle.tf_model.specs.History.{later}
use Rattle.tf_hands.specs.Hands.{end_by}
use Rattle.tf_bound.specs.Owed.{left}
use Rattle.tf_machine.specs.Machine.{MachineValue, outline, shown}
use Rattle.tf_machine.proofs.MachineLemmas.{sound_facts, flying_task, settled_step}
use Rattle.tf_machine.proofs.LeftLemmas.{machine_ended}
use Rattle.tf_machine.proofs.machine.Machine.in_flight.Goals as goal

pub returns-clause-ends : goal.returns-clause-ends
returns-clause-ends c = λ a outcome is.
    subst (λ (m : MachineValue). Step (outline m) (shown m) (end_by (shown m) c.args.hand outcome a)) c.self.view_is
    (settled_step _ _ c.args.hand a outcome (sound_facts _ c.self.invariant.sound) (sym c.task_of.ensures ∙ is))

pub returns-clause-less : goal.returns-clause-less
returns-clause-less c = λ a outcome is.
    subst (λ (m : MachineValue). left m.plan (later (outline m) (end_by (shown m) c.args.hand outcome a) (shown m)) < left m.plan (shown m)) c.self.view_is
    (machine_ended _ c.args.hand a outcome c.self.invariant.sound (sym c.task_of.ensures ∙ is))

pub returns-clause-task : goal.returns-clause-task
returns-clause-task c = λ a is. subst (λ (m : MachineValue). is_task (outline m) a ≡ true) c.self.view_is (flying_task _ c.args.hand a c.self.invariant.sound (sym c.task_of.ensures ∙ is))
