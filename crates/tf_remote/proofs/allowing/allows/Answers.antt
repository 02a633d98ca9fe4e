use Rattle.std.proofs.Common.{sym, ◌∙◌}
use Rattle.tf_remote.proofs.OutcomeLemmas.{program_allowed, built_allowed}
use Rattle.tf_remote.proofs.allowing.allows.Goals as goal

pub returns-then-is_program : goal.returns-then-is_program
returns-then-is_program c = program_allowed c.args.order.now c.args.came.now c.ends_program.result (sym c.is_program.ensures ∙ c.if-is_program.true) c.ends_program.ensures

pub returns : goal.returns
returns c = built_allowed c.args.order.now c.in_ok-outcome.outcome c.args.came.now c.same_outcome.result (sym c.is_program.ensures ∙ c.if-is_program.false) c.in_ok-outcome.ensures c.same_outcome.ensures
