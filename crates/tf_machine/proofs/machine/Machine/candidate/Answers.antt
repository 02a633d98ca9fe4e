use Rattle.std.proofs.Common.{◌∙◌, ap, subst}
use Rattle.tf_model.specs.Forced.{choice}
use Rattle.tf_machine.specs.Machine.{MachineValue, IsSoundMachine, outline, shown}
use Rattle.tf_machine.proofs.LeftLemmas.{machine_chosen}
use Rattle.tf_machine.proofs.machine.Machine.candidate.Goals as goal

pub returns-clause-less : goal.returns-clause-less
returns-clause-less c =
    machine_chosen c.args.self.now c.candidate.result (subst IsSoundMachine c.self.view_is c.self.invariant.sound)
    (c.candidate.ensures.entry ∙ ap (λ (m : MachineValue). choice (outline m) (shown m)) c.self.view_is)
