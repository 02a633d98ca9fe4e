use Rattle.std.proofs.Common.{◌≡◌, ◌+◌, ◌*◌, map}
use Rattle.tf_flow.specs.Outline.{condition_of}
use Rattle.tf_files.specs.FlowFile.{test_within}
use Rattle.tf_files.specs.document.Reading.{each}
use Rattle.tf_files.proofs.ReadingLemmas.{after, each_from}
use Rattle.toml.specs.View.{items_view}
use Rattle.tf_files.proofs.document.conditions.+conditions.Given as goal

-- a test in a test comes with one less that may still stand within it; between two tests the calls go
-- from a table to its row, to an array and to its items
abbrev pub decreases-test_row : goal.decreases-test_row
decreases-test_row l = 8 * l.left + 7

abbrev pub decreases-all_test : goal.decreases-all_test
decreases-all_test l = 8 * l.left + 6

abbrev pub decreases-any_test : goal.decreases-any_test
decreases-any_test l = 8 * l.left + 6

abbrev pub decreases-not_test : goal.decreases-not_test
decreases-not_test l = 8 * l.left + 6

abbrev pub decreases-tests_at : goal.decreases-tests_at
decreases-tests_at l = 8 * l.left + 5

abbrev pub decreases-tests_form : goal.decreases-tests_form
decreases-tests_form l = 8 * l.left + 4

abbrev pub decreases-each_test : goal.decreases-each_test
decreases-each_test l = 8 * l.left + 3

abbrev pub decreases-test_within : goal.decreases-test_within
decreases-test_within l = 8 * l.left + 2

abbrev pub decreases-test_table : goal.decreases-test_table
decreases-test_table l = 8 * l.left + 1

-- the tests made, followed by those of what is left, are those of all
abbrev pub invariant-each_test-loop-number : goal.invariant-each_test-loop-number
invariant-each_test-loop-number l = after (map condition_of l.tests.items) (each_from (test_within l.left) l.path l.number l.items) ≡ each (test_within l.left) l.path 0 (items_view l.items)
