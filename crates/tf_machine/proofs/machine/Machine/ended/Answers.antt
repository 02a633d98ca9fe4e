use Rattle.std.proofs.Common.{◌∙◌, ap, subst}
use Rattle.std.specs.Prelude.{is_some}
use Rattle.tf_model.specs.Forced.{end_of}
use Rattle.tf_machine.specs.Machine.{MachineValue, IsSoundMachine, outline, shown}
use Rattle.tf_machine.proofs.MachineLemmas.{stuck_never}
use Rattle.tf_machine.proofs.machine.Machine.ended.Goals as goal

pub returns-clause-never_stuck : goal.returns-clause-never_stuck
returns-clause-never_stuck c = λ past stands runs unforced unstarted still.
    ap is_some c.end_of.ensures
    ∙ (ap (λ (m : MachineValue). is_some (end_of (outline m) (shown m))) c.self.view_is
    ∙ stuck_never c.args.self.now past (subst IsSoundMachine c.self.view_is c.self.invariant.sound) stands runs unforced unstarted still)
