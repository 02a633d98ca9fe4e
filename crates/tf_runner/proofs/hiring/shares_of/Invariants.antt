use Rattle.std.proofs.Common.{◌≡◌, vec_len, vec_capacity}
use Rattle.std.specs.Arc.{arc_value}
use Rattle.std.specs.List.{All}
use Rattle.tf_runner.proofs.hiring.shares_of.Given as goal

abbrev pub invariant-loop-made : goal.invariant-loop-made
invariant-loop-made l = record {
  many : vec_len l.shares ≡ l._made;
  room : vec_capacity l.shares ≡ vec_capacity l.initial.shares;
  files : All (λ share. arc_value share ≡ arc_value l.files) l.shares.items;
}
