use Rattle.std.proofs.Common.{◌≡◌, ◌+◌, ◌-◌, ◌*◌, map}
use Rattle.tf_flow.specs.Outline.{condition_of}
use Rattle.tf_entries.specs.PlanReading.{read_test}
use Rattle.tf_entries.specs.Reading.{read_many}
use Rattle.tf_entries.proofs.ReadingLemmas.{after}
use Rattle.tf_entries.proofs.reader.Reader.+tests.Given as goal

-- a test in a test comes with one less that may still stand within it; between two tests the calls go
-- from a test to those in it
abbrev pub decreases-test_over : goal.decreases-test_over
decreases-test_over l = 4 * l.left + 4

abbrev pub decreases-negated : goal.decreases-negated
decreases-negated l = 4 * l.left + 3

abbrev pub decreases-tests : goal.decreases-tests
decreases-tests l = 4 * l.left + 3

abbrev pub decreases-test : goal.decreases-test
decreases-test l = 4 * l.left + 1

-- the tests that were read, followed by those that are left, are all of them
abbrev pub invariant-tests-loop : goal.invariant-tests-loop
invariant-tests-loop l = after (map condition_of l.tests.items) (read_many (read_test l.left) (l.count - l.counter) l.self) ≡ read_many (read_test l.left) l.count l.initial.self
