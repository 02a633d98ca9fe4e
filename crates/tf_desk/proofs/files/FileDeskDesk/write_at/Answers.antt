use Rattle.std.proofs.Common.{length, sym, subst}
use Rattle.tf_desk.specs.State.{LeftNow, GoesOn, Tears}
use Rattle.tf_desk.specs.Replay.{replay, with_counts}
use Rattle.tf_desk.proofs.files.FileDeskDesk.write_at.Goals as goal

pub returns-in-Err-clause-tears : goal.returns-in-Err-clause-tears
returns-in-Err-clause-tears g c told =
    let first = g.W.World.first in
    let old = c.args.self.now in
    let was = with_counts old.disk_faults old.out_faults old.asks old.turns (replay first old.opened) in
    subst (λ desk. Tears c.args.at (length c.args.bytes.now) was (with_counts desk.disk_faults desk.out_faults desk.asks desk.turns (replay first desk.opened)))
    (sym c.file_fault.ensures.same)
    (c.write_at.ensures.tears first old.disk_faults c.file_fault.new.self.disk_faults old.out_faults old.asks old.turns c.file_fault.ensures.no_fall)

pub returns-in-Err-clause-goes : goal.returns-in-Err-clause-goes
returns-in-Err-clause-goes g c =
    let first = g.W.World.first in
    let old = c.args.self.now in
    let was = with_counts old.disk_faults old.out_faults old.asks old.turns (replay first old.opened) in
    subst (λ desk. GoesOn (LeftNow (with_counts desk.disk_faults desk.out_faults desk.asks desk.turns (replay first desk.opened))) was (with_counts desk.disk_faults desk.out_faults desk.asks desk.turns (replay first desk.opened)))
    (sym c.file_fault.ensures.same)
    (c.write_at.ensures.goes first old.disk_faults c.file_fault.new.self.disk_faults old.out_faults old.asks old.turns c.file_fault.ensures.no_fall)
