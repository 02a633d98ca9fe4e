use Rattle.std.proofs.Common.{◌≡◌, ◌≤◌, ◌++◌, ◌-◌, [], take, drop, option_map}
use Rattle.tf_words.specs.Words.{pieces_behind, addresses_in}
use Rattle.tf_words.proofs.addresses.all_in.Given as goal

abbrev pub invariant-loop-end : goal.invariant-loop-end
invariant-loop-end l = record {
  begins : l.begin ≤ l.end;
  rest : addresses_in (pieces_behind [] l.word) ≡ option_map (λ others. l.addresses.items ++ others) (addresses_in (pieces_behind (take (l.end - l.begin) (drop l.begin l.word)) (drop l.end l.word)));
}
