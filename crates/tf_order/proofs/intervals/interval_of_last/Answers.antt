use Rattle.tf_order.specs.Tables.{plan_seen}
use Rattle.tf_order.proofs.IntervalLemmas.{last_told}
use Rattle.tf_order.proofs.intervals.interval_of_last.Goals as goal

pub interval_at-requires-clause-same : goal.interval_at-requires-clause-same
interval_at-requires-clause-same c = last_told (plan_seen c.args.outline.now) c.args.a c.args.b c.args.found.end c.args.found.is_after c.if-a-eq0.false c.requires.same
