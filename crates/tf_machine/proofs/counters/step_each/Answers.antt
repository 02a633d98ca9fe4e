use Rattle.std.proofs.Common.{get_or, length}
use Rattle.tf_machine.proofs.CountLemmas.{interval_stepped}
use Rattle.tf_machine.proofs.IntervalLemmas.{passed, interval_within}
use Rattle.tf_machine.proofs.counters.step_each.Goals as goal

pub step_interval-requires-clause-within : goal.step_interval-requires-clause-within
step_interval-requires-clause-within c =
    interval_within c.args.atoms.now c.loop-start.start c.interval_end-end.result (get_or c.args.atoms.now c.loop-start.start 0) (length c.loop-start.counts)
    (passed c.args.atoms.now c.loop-start.start c.interval_end-end.result c.requires.distinct c.interval_end-end.ensures.begins c.interval_end-end.ensures.ends c.interval_end-end.ensures.beside)
    c.interval_end-end.ensures.begins c.loop-start.invariant.within

pub loop-start-preserved : goal.loop-start-preserved
loop-start-preserved c =
    interval_stepped c.args.more c.args.atoms.now c.loop-start.start c.interval_end-end.result (get_or c.args.atoms.now c.loop-start.start 0) c.args.counts.now c.loop-start.counts c.step_interval.new.counts
    (passed c.args.atoms.now c.loop-start.start c.interval_end-end.result c.requires.distinct c.interval_end-end.ensures.begins c.interval_end-end.ensures.ends c.interval_end-end.ensures.beside)
    c.step_interval.ensures c.loop-start.invariant
