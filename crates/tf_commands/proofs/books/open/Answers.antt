use Rattle.tf_book.specs.Shelf.{desk_after_load}
use Rattle.tf_journal.proofs.OpenLemmas.{unpicked, opened}
use Rattle.tf_commands.proofs.OpenLemmas.{opened_so, unopened_so}
use Rattle.tf_commands.proofs.books.open.Goals as goal

pub returns-in-Ok-clause-opened : goal.returns-in-Ok-clause-opened
returns-in-Ok-clause-opened g c =
    let D = g.K.Desk in
    let mid = c.pick.new.self in
    let now = desk_after_load c.load.result in
    let p = c.in-Ok.ensures in
    let l = c.load.ensures in
    opened_so D.state c.args.name.now (D.state c.args.desk) (D.state mid) c.load.result p.on_disk p.picked l.rests l.at_sync
    (opened p.on_disk p.picked p.leaves l.rests l.synced
    (λ telling image text was. g.met.K.Desk.only_now mid image text telling was) (λ telling. g.met.K.Desk.tells_shown now telling)
    (λ telling start image text le left. g.met.K.Desk.counts_now now start image text telling le left))

pub returns-in-Ok-clause-unopened : goal.returns-in-Ok-clause-unopened
returns-in-Ok-clause-unopened g c =
    let D = g.K.Desk in
    let mid = c.pick.new.self in
    let now = desk_after_load c.load.result in
    let p = c.in-Ok.ensures in
    let l = c.load.ensures in
    unopened_so D.state c.args.name.now (D.state c.args.desk) c.load.result
    (opened p.on_disk p.picked p.leaves l.rests l.synced
    (λ telling image text was. g.met.K.Desk.only_now mid image text telling was) (λ telling. g.met.K.Desk.tells_shown now telling)
    (λ telling start image text le left. g.met.K.Desk.counts_now now start image text telling le left))

pub returns-in-Err-Disk-clause-unopened : goal.returns-in-Err-Disk-clause-unopened
returns-in-Err-Disk-clause-unopened g c = unpicked c.in-Err-Disk.ensures.on_disk c.in-Err-Disk.ensures.unpicked

pub returns-in-Err-Memory-clause-unopened : goal.returns-in-Err-Memory-clause-unopened
returns-in-Err-Memory-clause-unopened g c = unpicked c.in-Err-Memory.ensures.on_disk c.in-Err-Memory.ensures.unpicked
