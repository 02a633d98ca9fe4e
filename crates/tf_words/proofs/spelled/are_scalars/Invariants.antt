use Rattle.std.proofs.Common.{◌≡◌, ◌≤◌, [], drop, is_some, slice_range}
use Rattle.tf_words.specs.declared.spelled.Quoting.TheVariants as quoting
use Rattle.tf_words.specs.Verbs.{scalars_from}
use Rattle.tf_words.proofs.spelled.are_scalars.Given as goal

abbrev pub invariant-loop-end : goal.invariant-loop-end
invariant-loop-end l = record {
  before : l.begin ≤ l.end;
  same : is_some (scalars_from [] quoting.Outside l.bytes) ≡ is_some (scalars_from (slice_range l.bytes l.begin l.end) l.place (drop l.end l.bytes));
}
