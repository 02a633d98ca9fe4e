use Rattle.std.proofs.Common.{subst}
use Rattle.tf_desk.specs.State.{FailsToPick}
use Rattle.tf_desk.specs.declared.device.DeskFault.{DeskFault}
use Rattle.tf_desk.proofs.StateLemmas.{on_disk_within}
use Rattle.tf_journal.specs.declared.faults.LoadFault.TheVariants as load_fault
use Rattle.tf_journal.proofs.OpenLemmas.{unpicked}
use Rattle.tf_board.proofs.OpeningLemmas.{untouched_unopened}
use Rattle.tf_board.proofs.ToldLemmas.{picks_told}
use Rattle.tf_board.proofs.opening.open.Goals as goal

pub returns-in-Ok-clause-opens : goal.returns-in-Ok-clause-opens
returns-in-Ok-clause-opens g c =
    let p = c.pick.ensures in
    c.load.ensures.opens c.args.name.now c.args.desk
    (record {
      on_disk = on_disk_within p.on_disk.does (λ told image text left. tt);
      picks = λ told. picks_told (c.in-Ok.ensures.picked told);
      made = p.leaves;
    })

pub returns-in-Err-Disk-clause-opens : goal.returns-in-Err-Disk-clause-opens
returns-in-Err-Disk-clause-opens g c =
    let p = c.pick.ensures in
    untouched_unopened load_fault.Disk (unpicked p.on_disk c.in-Err-Disk.ensures.unpicked).does (on_disk_within p.on_disk.does (λ told image text left. tt)) (λ told. tt)
    (λ is. subst (λ (f : DeskFault). FailsToPick f (g.K.Desk.state c.args.desk) (g.K.Desk.state c.pick.new.self)) c.in-Err-Disk.field-0-is c.in-Err-Disk.ensures.fails)
    (λ is. cc)

pub returns-in-Err-Memory-clause-opens : goal.returns-in-Err-Memory-clause-opens
returns-in-Err-Memory-clause-opens g c =
    let p = c.pick.ensures in
    untouched_unopened load_fault.Memory (unpicked p.on_disk c.in-Err-Memory.ensures.unpicked).does (on_disk_within p.on_disk.does (λ told image text left. tt)) (λ told. tt)
    (λ is. absurd (cc))
    (λ is. cc)
