use Rattle.std.proofs.Common.{◌∙◌, ap}
use Rattle.tf_machine.specs.Answers.{views_of}
use Rattle.tf_machine.specs.Machine.{MachineValue, outline, shown}
use Rattle.tf_machine.proofs.MachineLemmas.{views_told}
use Rattle.tf_machine.proofs.machine.Machine.views.Goals as goal

pub returns-clause-is : goal.returns-clause-is
returns-clause-is c = c.deref.ensures.value ∙ (views_told _ c.self.invariant.sound ∙ ap (λ (m : MachineValue). views_of (outline m) (shown m)) c.self.view_is)

pub returns-clause-after : goal.returns-clause-after
returns-clause-after c = λ past stands.
    c.deref.ensures.value ∙ (views_told _ c.self.invariant.sound ∙ (ap (λ (m : MachineValue). views_of (outline m) (shown m)) c.self.view_is ∙ ap (views_of (outline c.args.self.now)) stands.shows))
