use Rattle.std.proofs.Common.{◌≡◌, map, take}
use Rattle.tf_flow.specs.Outline.{condition_of}
use Rattle.tf_target.proofs.links.+tests.Given as goal

abbrev pub invariant-copy_tests-loop-test : goal.invariant-copy_tests-loop-test
invariant-copy_tests-loop-test l = map condition_of l.copies.items ≡ map condition_of (take l.test-index l.tests)
