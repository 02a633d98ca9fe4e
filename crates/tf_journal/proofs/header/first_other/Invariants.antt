use Rattle.std.proofs.Common.{◌≡◌, ◌≤◌, ◌+◌, length, drop}
use Rattle.tf_journal.specs.Format.{title_fault}
use Rattle.tf_journal.proofs.header.first_other.Given as goal

abbrev pub invariant-loop-at : goal.invariant-loop-at
invariant-loop-at l =
    (l.at ≤ length l.rest)
    × (title_fault (drop l.at l.letters) (drop l.at l.rest) (l.at + 1) ≡ title_fault l.letters l.rest 1)
