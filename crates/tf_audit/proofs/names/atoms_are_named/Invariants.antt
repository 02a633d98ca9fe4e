use Rattle.std.proofs.Common.{◌≡◌, ◌<◌, ℕ, true}
use Rattle.tf_values.specs.Text.{is_name}
use Rattle.tf_model.specs.Plan.{outline_of, atom_name}
use Rattle.tf_audit.proofs.names.atoms_are_named.Given as goal

abbrev pub invariant-loop-atom : goal.invariant-loop-atom
invariant-loop-atom l = (a : ℕ) → a < l.atom → is_name (atom_name (outline_of l.plan) a) ≡ true
