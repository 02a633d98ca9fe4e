use Rattle.std.proofs.Common.{◌≡◌, drop}
use Rattle.tf_flow.specs.Tree.{first_some}
use Rattle.tf_flow.specs.Rules as rule
use Rattle.tf_flow.specs.Shown.{shown_places}
use Rattle.tf_flow.proofs.link_rules.first_bad_link.Given as goal

abbrev pub invariant-loop-place : goal.invariant-loop-place
invariant-loop-place l = first_some rule.bad_link_at (shown_places (drop l.place-index l.order)) ≡ first_some rule.bad_link_at (shown_places l.order)
