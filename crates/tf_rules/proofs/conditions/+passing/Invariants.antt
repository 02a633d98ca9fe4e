use Rattle.std.proofs.Common.{◌≡◌, map, drop}
use Rattle.tf_flow.specs.Outline.{condition_of, conditions_of}
use Rattle.tf_model.specs.Readiness.{passes_all, passes_one}
use Rattle.tf_model.specs.History.{Snapshot, Shows}
use Rattle.tf_rules.specs.Seen.{seen_in}
use Rattle.tf_rules.proofs.conditions.+passing.Given as goal

abbrev pub invariant-passes_all-loop-test : goal.invariant-passes_all-loop-test
invariant-passes_all-loop-test l = (s : Snapshot) → Shows l.seen.views.now s
    → passes_all (seen_in s l.seen) (conditions_of (map condition_of l.tests)) ≡ passes_all (seen_in s l.seen) (conditions_of (map condition_of (drop l.test-index l.tests)))

abbrev pub invariant-passes_one-loop-test : goal.invariant-passes_one-loop-test
invariant-passes_one-loop-test l = (s : Snapshot) → Shows l.seen.views.now s
    → passes_one (seen_in s l.seen) (conditions_of (map condition_of l.tests)) ≡ passes_one (seen_in s l.seen) (conditions_of (map condition_of (drop l.test-index l.tests)))
