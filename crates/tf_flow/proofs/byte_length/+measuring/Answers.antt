use Rattle.std.proofs.Common.{◌∙◌, sym, ap, arith, length, ◌<◌}
use Rattle.tf_flow.specs.Limits.{capped}
use Rattle.tf_flow.proofs.MeasureLemmas.{nesting_more, comparisons_more, len_more}
use Rattle.tf_flow.proofs.byte_length.+measuring.Goals as goal

pub measured_all-loop-test-preserved : goal.measured_all-loop-test-preserved
measured_all-loop-test-preserved t c =
    let within : c.loop-test.test-index < length c.args.tests.now = omega arith in
    record {
      nesting = c.beside-all.ensures.nesting _ _ c.loop-test.invariant.nesting c.measured.ensures.nesting ∙ sym (ap capped (nesting_more c.args.tests.now c.loop-test.test-index c.test-item.result within c.test-item.is));
      comparisons = c.beside-all.ensures.comparisons _ _ c.loop-test.invariant.comparisons c.measured.ensures.comparisons ∙ sym (ap capped (comparisons_more c.args.tests.now c.loop-test.test-index c.test-item.result within c.test-item.is));
      len = c.beside-all.ensures.len _ _ c.loop-test.invariant.len c.measured.ensures.len ∙ sym (ap capped (len_more c.args.tests.now c.loop-test.test-index c.test-item.result within c.test-item.is));
    }
