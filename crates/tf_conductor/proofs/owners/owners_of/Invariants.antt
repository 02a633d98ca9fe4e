use Rattle.std.proofs.Common.{◌≡◌, length}
use Rattle.tf_conductor.specs.Rounds.{AreNamedBy}
use Rattle.tf_conductor.proofs.owners.owners_of.Given as goal

abbrev pub invariant-loop-number : goal.invariant-loop-number
invariant-loop-number l = record {
  long : length l.owners.items ≡ l.number;
  named : AreNamedBy l.word l.owners.items;
}
