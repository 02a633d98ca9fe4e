use Rattle.std.proofs.Common.{List, ℕ, Some, ap, ◌∙◌}
use Rattle.tf_values.specs.Text.{is_name}
use Rattle.tf_audit.proofs.EventLemmas.{failure_read}
use Rattle.tf_audit.proofs.NameLemmas.{made_name}
use Rattle.tf_audit.proofs.failures.failure_of.Goals as goal

pub returns : goal.returns
returns c = λ f good is.
    c.failure_with.ensures
    ∙ failure_read f good c.args.bytes.now c.cut.result.0.now c.cut.result.1.now c.cut-2.result.0.now c.cut-2.result.1.now c.in_ok-text.text c.make.result c.status_of.result c.place_of.result c.cut.ensures c.cut-2.ensures
    (record {
      text = c.in_ok-text.ensures;
      name = λ n named at. made_name c.make.result c.cut-2.result.0.now c.make.ensures.variant c.make.ensures.value (ap is_name at ∙ named) ∙ ap (λ (m : List ℕ). Some m) at;
      status = c.status_of.ensures;
      place = c.place_of.ensures;
    }) is
