use Rattle.std.proofs.Common.{◌≡◌, ◌≤◌, ◌++◌, take, vec_capacity}
use Rattle.std.specs.List.{flat_map}
use Rattle.tf_values.specs.Value.{quoted_byte}
use Rattle.tf_values.proofs.text_form.append_quoted_bytes.Given as goal

abbrev pub invariant-loop-byte : goal.invariant-loop-byte
invariant-loop-byte l = record {
  appended : l.out.items ≡ l.initial.out.items ++ flat_map quoted_byte (take l.byte-index l.text);
  room : vec_capacity l.initial.out ≤ vec_capacity l.out;
}
