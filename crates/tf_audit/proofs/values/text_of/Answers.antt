use Rattle.std.proofs.Common.{ap, ◌∙◌}
use Rattle.tf_values.specs.declared.value.Val.TheVariants as value
use Rattle.tf_audit.specs.Events.{text_within}
use Rattle.tf_audit.proofs.values.text_of.Goals as goal

pub returns : goal.returns
returns c = λ t good is. c.text_in.ensures ∙ ap text_within (c.in_ok-read.ensures (value.Text t) good is)
