use Rattle.std.proofs.Common.{◌∙◌}
use Rattle.tf_model.specs.Plan.{outline_of}
use Rattle.tf_audit.proofs.LineLemmas.{line_read}
use Rattle.tf_audit.proofs.entries.spelled.Goals as goal

pub returns : goal.returns
returns c = λ number e said.
    c.joined.ensures
    ∙ line_read (outline_of c.args.plan.now) number e c.args.text.now c.cut.result.0.now c.cut.result.1.now c.cut-2.result.0.now c.cut-2.result.1.now c.number_of-number.result c.hand_of-hand.result c.in_ok-what.what
    c.cut.ensures c.cut-2.ensures c.number_of-number.ensures c.hand_of-hand.ensures c.in_ok-what.ensures said
