use Rattle.std.proofs.Common.{◌∙◌, ap, sym, subst}
use Rattle.tf_model.specs.Forced.{forced}
use Rattle.tf_machine.specs.Machine.{MachineValue, IsSoundMachine, outline, shown}
use Rattle.tf_machine.proofs.LeftLemmas.{machine_forced}
use Rattle.tf_machine.proofs.machine.Machine.forced.Goals as goal

pub returns-clause-less : goal.returns-clause-less
returns-clause-less c = λ hand w is.
    machine_forced c.args.self.now hand w (subst IsSoundMachine c.self.view_is c.self.invariant.sound)
    (ap (λ (m : MachineValue). forced (outline m) (shown m)) (sym c.self.view_is) ∙ (sym c.in_ok-found.ensures ∙ is))
