use Rattle.std.proofs.Common.{drop}
use Rattle.tf_model.specs.Readiness.{refused_depth}
use Rattle.tf_model.specs.Plan.{outline_of}
use Rattle.tf_model.specs.History.{Snapshot, Shows}
use Rattle.tf_rules.specs.Seen.{seen_in}
use Rattle.tf_rules.proofs.DepthLemmas.{IsFound}
use Rattle.tf_rules.proofs.deciders.widest_of.Given as goal

abbrev pub invariant-loop-link : goal.invariant-loop-link
invariant-loop-link l = (s : Snapshot) → Shows l.seen.views.now s
    → IsFound (refused_depth (outline_of l.seen.plan.now) s (seen_in s l.seen)) l.seen.task.now l.seen.links.now l.found (drop l.link-index l.seen.links.now)
