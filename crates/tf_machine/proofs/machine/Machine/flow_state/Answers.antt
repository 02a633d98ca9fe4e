use Rattle.std.proofs.Common.{◌∙◌, sym, ap, subst}
use Rattle.tf_machine.specs.Machine.{MachineValue, IsSoundMachine, shown}
use Rattle.tf_machine.proofs.MachineLemmas.{facts_here, completed_here}
use Rattle.tf_machine.proofs.machine.Machine.flow_state.Goals as goal

pub returns-clause-facts : goal.returns-clause-facts
returns-clause-facts c = λ past stands. facts_here c.args.self.now past (subst IsSoundMachine c.self.view_is c.self.invariant.sound) stands

pub returns-clause-reversion : goal.returns-clause-reversion
returns-clause-reversion c = λ past stands reverted.
    completed_here c.args.self.now past (subst IsSoundMachine c.self.view_is c.self.invariant.sound) stands (ap (λ (m : MachineValue). (shown m).flow) (sym c.self.view_is) ∙ reverted)
