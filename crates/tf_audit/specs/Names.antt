-- The names of a plan's atoms and flows.
use Rattle.std.specs.Prelude.{◌≡◌, ℕ, ◌<◌, length, true}
use Rattle.tf_values.specs.Text.{is_name}
use Rattle.tf_model.specs.Plan.{Outline, count, atom_name}
use Rattle.tf_report.specs.Lines.{flow_name}

-- each atom and each flow has a name, and there is a flow
pub record AreNamed (plan : Outline) : Type 0 where
  pub root : 0 < length plan.flows
  pub atoms : (a : ℕ) → a < count plan → is_name (atom_name plan a) ≡ true
  pub flows : (g : ℕ) → g < length plan.flows → is_name (flow_name plan g) ≡ true
