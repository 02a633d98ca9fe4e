use Rattle.std.proofs.Common.{◌≡◌, ◌≤◌, ◌++◌, take, vec_capacity}
use Rattle.std.specs.List.{flat_map}
use Rattle.tf_values.specs.Value.{further_text}
use Rattle.tf_values.proofs.text_form.append_scalars.Given as goal

abbrev pub invariant-loop-scalar : goal.invariant-loop-scalar
invariant-loop-scalar l = record {
  appended : l.out.items ≡ l.initial.out.items ++ flat_map further_text (take l.scalar-index l.others);
  room : vec_capacity l.initial.out ≤ vec_capacity l.out;
}
