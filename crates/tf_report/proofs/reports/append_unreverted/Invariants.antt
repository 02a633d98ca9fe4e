use Rattle.std.proofs.Common.{◌≡◌, ◌++◌}
use Rattle.tf_model.specs.Plan.{outline_of}
use Rattle.tf_report.specs.Lines.{unreverted_below, state_shown, payload_shown}
use Rattle.tf_report.proofs.reports.append_unreverted.Given as goal

abbrev pub invariant-loop-atom : goal.invariant-loop-atom
invariant-loop-atom l = l.out.items ≡ l.initial.out.items ++ unreverted_below (outline_of l.plan) (state_shown l.views) (payload_shown l.views) l.atom
