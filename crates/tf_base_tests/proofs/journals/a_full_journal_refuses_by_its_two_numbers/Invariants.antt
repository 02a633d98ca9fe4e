use Rattle.std.proofs.Common.{◌≡◌, true}
use Rattle.tf_base_tests.proofs.journals.a_full_journal_refuses_by_its_two_numbers.Given as goal

-- nothing of the journal is kept in a file
abbrev pub invariant-loop : goal.invariant-loop
invariant-loop g l = l.journal.volatile ≡ true
