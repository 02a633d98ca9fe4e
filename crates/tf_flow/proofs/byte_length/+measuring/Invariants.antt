use Rattle.std.proofs.Common.{◌≡◌, take}
use Rattle.tf_flow.specs.Limits as form
use Rattle.tf_flow.specs.Limits.{capped}
use Rattle.tf_flow.proofs.byte_length.+measuring.Given as goal

abbrev pub invariant-measured_all-loop-test : goal.invariant-measured_all-loop-test
invariant-measured_all-loop-test l = record {
  nesting : l.all.nesting ≡ capped (form.measure_all (take l.test-index l.tests)).nesting;
  comparisons : l.all.comparisons ≡ capped (form.measure_all (take l.test-index l.tests)).comparisons;
  len : l.all.len ≡ capped (form.measure_all (take l.test-index l.tests)).len;
}
