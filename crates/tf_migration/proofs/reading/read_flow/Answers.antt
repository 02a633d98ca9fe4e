use Rattle.std.proofs.Common.{subst}
use Rattle.tf_desk.specs.State.{FailsToPick}
use Rattle.tf_desk.specs.declared.device.DeskFault.{DeskFault}
use Rattle.tf_migration.specs.declared.reading.OldFault.TheVariants as fault
use Rattle.tf_migration.proofs.DeskLaws.{KeepsLaws}
use Rattle.tf_migration.proofs.ReadLemmas.{flow_read, none_read, not_picked}
use Rattle.tf_migration.proofs.reading.read_flow.Goals as goal

pub returns-in-Ok-clause-read : goal.returns-in-Ok-clause-read
returns-in-Ok-clause-read g c =
    let D = g.K.Desk in
    let laws : KeepsLaws D.state =
    record { tells_shown = g.met.K.Desk.tells_shown; picked_is_there = g.met.K.Desk.picked_is_there; reads_left = g.met.K.Desk.reads_left; counts_now = g.met.K.Desk.counts_now; only_now = g.met.K.Desk.only_now } in
    let p = c.in-Ok.ensures in
    let l = c.load.ensures in
    flow_read D.state laws c.args.name.now c.args.desk c.pick.new.self p.on_disk p.picked p.leaves (λ kept. kept.items) c.load.result l.rests l.synced l.at_sync l.flow

pub returns-in-Ok-clause-unread : goal.returns-in-Ok-clause-unread
returns-in-Ok-clause-unread g c =
    let D = g.K.Desk in
    let laws : KeepsLaws D.state =
    record { tells_shown = g.met.K.Desk.tells_shown; picked_is_there = g.met.K.Desk.picked_is_there; reads_left = g.met.K.Desk.reads_left; counts_now = g.met.K.Desk.counts_now; only_now = g.met.K.Desk.only_now } in
    let p = c.in-Ok.ensures in
    let l = c.load.ensures in
    none_read D.state laws c.args.name.now c.args.desk c.pick.new.self p.on_disk p.picked p.leaves c.load.result l.rests l.synced l.refused l.cause

pub returns-in-Err-Disk-clause-unread : goal.returns-in-Err-Disk-clause-unread
returns-in-Err-Disk-clause-unread g c =
    let D = g.K.Desk in
    not_picked fault.Disk (λ found. tt) c.in-Err-Disk.ensures.on_disk c.in-Err-Disk.ensures.unpicked
    (λ is. subst (λ (f : DeskFault). FailsToPick f (D.state c.args.desk) (D.state c.pick.new.self)) c.in-Err-Disk.field-0-is c.in-Err-Disk.ensures.fails)

pub returns-in-Err-Memory-clause-unread : goal.returns-in-Err-Memory-clause-unread
returns-in-Err-Memory-clause-unread g c = not_picked fault.Memory (λ found. tt) c.in-Err-Memory.ensures.on_disk c.in-Err-Memory.ensures.unpicked (λ is. cc)
