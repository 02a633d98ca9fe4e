use Rattle.std.proofs.lemmas.Result.{on_ok_weaker}
use Rattle.tf_entries.proofs.ShownLemmas.{all_bytes, any_bytes, all_is_test, any_is_test}
use Rattle.tf_entries.proofs.link_writing.+testing.Goals as goal

pub append_test-returns-in-All-clause-ok : goal.append_test-returns-in-All-clause-ok
append_test-returns-in-All-clause-ok t c =
    rw (c.in-All.is, all_bytes c.in-All.tests, ← c.items.ensures) c.append_tests.ensures.ok

pub append_test-returns-in-All-clause-good : goal.append_test-returns-in-All-clause-good
append_test-returns-in-All-clause-good t c =
    rw c.in-All.is (on_ok_weaker c.append_tests.result (all_is_test c.in-All.tests) (rw c.items.ensures at c.append_tests.ensures.good))

pub append_test-returns-in-Any-clause-ok : goal.append_test-returns-in-Any-clause-ok
append_test-returns-in-Any-clause-ok t c =
    rw (c.in-Any.is, any_bytes c.in-Any.tests, ← c.items-in-Any.ensures) c.append_tests-in-Any.ensures.ok

pub append_test-returns-in-Any-clause-good : goal.append_test-returns-in-Any-clause-good
append_test-returns-in-Any-clause-good t c =
    rw c.in-Any.is (on_ok_weaker c.append_tests-in-Any.result (any_is_test c.in-Any.tests) (rw c.items-in-Any.ensures at c.append_tests-in-Any.ensures.good))
