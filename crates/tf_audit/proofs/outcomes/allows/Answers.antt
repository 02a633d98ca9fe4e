use Rattle.std.proofs.Common.{sym, ◌∙◌}
use Rattle.tf_audit.specs.Outcomes.{outcome_in}
use Rattle.tf_audit.proofs.OutcomeLemmas.{far_allowed, program_allowed, built_allowed}
use Rattle.tf_audit.proofs.outcomes.allows.Goals as goal

pub returns-then-fails_far : goal.returns-then-fails_far
returns-then-fails_far c = far_allowed c.args.order.now (outcome_in c.args.payload.now) c.fails_far.result c.if-fails_far.true c.fails_far.ensures

pub returns-then-is_program : goal.returns-then-is_program
returns-then-is_program c = program_allowed c.args.order.now (outcome_in c.args.payload.now) c.fails_far.result c.ends_program.result c.if-fails_far.false c.fails_far.ensures (sym c.is_program.ensures ∙ c.if-is_program.true) c.ends_program.ensures

pub returns : goal.returns
returns c = built_allowed c.args.order.now c.in_ok-outcome.outcome (outcome_in c.args.payload.now) c.fails_far.result c.is_outcome.result c.if-fails_far.false c.fails_far.ensures (sym c.is_program.ensures ∙ c.if-is_program.false) c.in_ok-outcome.ensures c.is_outcome.ensures
