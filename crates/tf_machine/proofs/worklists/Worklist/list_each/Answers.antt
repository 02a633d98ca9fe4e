use Rattle.std.proofs.Common.{get_or}
use Rattle.tf_model.specs.Plan.{outline_of, count}
use Rattle.tf_machine.specs.Tables.{shown_by}
use Rattle.tf_machine.proofs.IntervalLemmas.{left_of, passed, interval_within}
use Rattle.tf_machine.proofs.ListedLemmas.{interval_so_far}
use Rattle.tf_machine.proofs.worklists.Worklist.list_each.Goals as goal

pub list_interval-requires-clause-within : goal.list_interval-requires-clause-within
list_interval-requires-clause-within c =
    interval_within c.args.atoms.now c.loop-start.start c.interval_end-end.result (get_or c.args.atoms.now c.loop-start.start 0) (count (outline_of c.args.compiled.now))
    (passed c.args.atoms.now c.loop-start.start c.interval_end-end.result c.requires.distinct c.interval_end-end.ensures.begins c.interval_end-end.ensures.ends c.interval_end-end.ensures.beside)
    c.interval_end-end.ensures.begins (λ a inside. c.requires.within a (left_of c.args.atoms.now c.loop-start.start a inside))

pub loop-start-preserved : goal.loop-start-preserved
loop-start-preserved c =
    interval_so_far (outline_of c.args.compiled.now) (shown_by c.args.tables.now) c.args.reach c.args.atoms.now c.loop-start.start c.interval_end-end.result (get_or c.args.atoms.now c.loop-start.start 0)
    c.args.self.now c.loop-start.self c.list_interval.new.self
    (passed c.args.atoms.now c.loop-start.start c.interval_end-end.result c.requires.distinct c.interval_end-end.ensures.begins c.interval_end-end.ensures.ends c.interval_end-end.ensures.beside)
    c.loop-start.invariant c.list_interval.ensures
