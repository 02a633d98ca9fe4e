use Rattle.std.proofs.Common.{inl, subst}
use Rattle.tf_desk.specs.State.{FailsToPick}
use Rattle.tf_desk.specs.declared.device.DeskFault.{DeskFault}
use Rattle.tf_journal.proofs.OpenLemmas.{picks_lowered}
use Rattle.tf_migration.proofs.MakeLemmas.{unpicked_kept}
use Rattle.tf_migration.proofs.writing.make_book.Goals as goal

pub returns-in-Err-Disk-clause-makes : goal.returns-in-Err-Disk-clause-makes
returns-in-Err-Disk-clause-makes g c =
    let D = g.K.Desk in
    (subst (λ (f : DeskFault). FailsToPick f (D.state c.args.desk) (D.state c.pick.new.self)) c.in-Err-Disk.field-0-is c.in-Err-Disk.ensures.fails, inl (unpicked_kept c.in-Err-Disk.ensures.on_disk c.in-Err-Disk.ensures.unpicked c.in-Err-Disk.ensures.leaves))

pub returns-in-Err-Memory-clause-makes : goal.returns-in-Err-Memory-clause-makes
returns-in-Err-Memory-clause-makes g c = unpicked_kept c.in-Err-Memory.ensures.on_disk c.in-Err-Memory.ensures.unpicked c.in-Err-Memory.ensures.leaves

pub returns-in-Ok-clause-makes : goal.returns-in-Ok-clause-makes
returns-in-Ok-clause-makes g c =
    let p = c.in-Ok.ensures in
    let mid = g.K.Desk.state c.pick.new.self in
    c.create.ensures.makes c.args.name.now c.args.desk c.pick.new.self
    (record { on_disk = p.on_disk.does; picks = λ told. picks_lowered mid (p.picked told); made = p.leaves })
