-- What opening a file keeps.
use Rattle.std.specs.Prelude.{ℕ, ◌≤◌, List, length}
use Rattle.tf_ports.specs.Ports.{Contents, GivesBytes}
use Rattle.tf_ports.specs.declared.reading.TheConstants.{SOURCE_LIMIT}
use Rattle.tf_flow.specs.Plan.{plan_tree}
use Rattle.tf_machine.specs.Machine.{MachineValue}
use Rattle.tf_accept.specs.Accepted.{GivesPlan}
use Rattle.tf_commands.specs.declared.reading.Source.{Source}

-- the machine's plan is the one that the file gives
pub record Opened (files : Contents) (source : Source) (m : MachineValue) : Type 0 where
  pub bytes : List ℕ
  pub given : GivesBytes files source.file bytes
  pub short : length bytes ≤ SOURCE_LIMIT
  pub plan : GivesPlan source.sets source.defer source.target bytes (plan_tree m.plan)
