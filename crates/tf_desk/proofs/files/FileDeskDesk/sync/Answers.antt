use Rattle.std.proofs.Common.{sym, subst}
use Rattle.tf_desk.specs.State.{Rests}
use Rattle.tf_desk.specs.Replay.{replay, with_counts}
use Rattle.tf_desk.proofs.files.FileDeskDesk.sync.Goals as goal

pub returns-in-Err-clause-rests : goal.returns-in-Err-clause-rests
returns-in-Err-clause-rests g c =
    let first = g.W.World.first in
    let old = c.args.self.now in
    let was = with_counts old.disk_faults old.out_faults old.asks old.turns (replay first old.opened) in
    subst (λ desk. Rests was (with_counts desk.disk_faults desk.out_faults desk.asks desk.turns (replay first desk.opened)))
    (sym c.file_fault.ensures.same)
    (c.sync.ensures.rests first old.disk_faults c.file_fault.new.self.disk_faults old.out_faults old.asks old.turns c.file_fault.ensures.no_fall)
