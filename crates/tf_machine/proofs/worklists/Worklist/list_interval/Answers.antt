use Rattle.std.proofs.Common.{arith}
use Rattle.tf_model.specs.Plan.{outline_of}
use Rattle.tf_machine.specs.Tables.{shown_by}
use Rattle.tf_machine.proofs.ListedLemmas.{none_reached, next_reached}
use Rattle.tf_machine.proofs.worklists.Worklist.list_interval.Goals as goal

pub loop-atom-init : goal.loop-atom-init
loop-atom-init c = record {
  from = c.next_zero-atom.ensures.from;
  within = c.next_zero-atom.ensures.within;
  reached = none_reached (outline_of c.args.compiled.now) (shown_by c.args.tables.now) c.args.reach c.args.tables.now.counters c.counts_of-counts.result.now c.args.first c.next_zero-atom.result c.args.self.now
      c.requires.counted c.counts_of-counts.ensures c.requires.room (omega (arith, c.next_zero-atom.ensures.within, c.requires.within)) c.next_zero-atom.ensures.none;
}

pub list-requires-clause-room : goal.list-requires-clause-room
list-requires-clause-room c = c.loop-atom.invariant.reached.room

pub loop-atom-preserved : goal.loop-atom-preserved
loop-atom-preserved c = record {
  from = omega (arith, c.loop-atom.invariant.from, c.next_zero-atom-in-loop-atom.ensures.from);
  within = c.next_zero-atom-in-loop-atom.ensures.within;
  reached = next_reached (outline_of c.args.compiled.now) (shown_by c.args.tables.now) c.args.reach c.args.tables.now.counters c.counts_of-counts.result.now c.args.first c.loop-atom.atom c.next_zero-atom-in-loop-atom.result c.args.self.now c.loop-atom.self c.list.new.self
      c.requires.counted c.counts_of-counts.ensures (omega (arith, c.next_zero-atom-in-loop-atom.ensures.within, c.requires.within)) c.loop-atom.invariant.reached c.list.ensures.room c.list.ensures.hurt c.list.ensures.here c.list.ensures.others c.next_zero-atom-in-loop-atom.ensures.none;
}
