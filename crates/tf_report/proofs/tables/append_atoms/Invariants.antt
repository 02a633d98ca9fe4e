use Rattle.std.proofs.Common.{◌≡◌, ◌++◌}
use Rattle.tf_model.specs.Plan.{outline_of}
use Rattle.tf_report.specs.Lines.{state_shown, payload_shown, atom_lines_below}
use Rattle.tf_report.proofs.tables.append_atoms.Given as goal

abbrev pub invariant-loop-atom : goal.invariant-loop-atom
invariant-loop-atom l = l.out.items ≡ l.initial.out.items ++ atom_lines_below (outline_of l.plan) (state_shown l.views) (payload_shown l.views) l.atom
