use Rattle.tf_book.proofs.StartingLemmas.{first_added, first_failed, told_made}
use Rattle.tf_book.proofs.shelf.starting.add.Goals as goal

pub returns-in-Ok-clause-adds : goal.returns-in-Ok-clause-adds
returns-in-Ok-clause-adds g c =
    let e = c.in-Ok.ensures in
    first_added g.K.Desk.state c.args.place c.in-Unborn.desk c.in-Ok.journal c.args.body.now c.append-in-Ok.result c.in-Unborn.is e.made e.kept e.exact
    (told_made g.K.Desk.state c.in-Ok.journal c.append-in-Ok.result c.append-in-Ok.ensures.goes.on_disk.tells) c.append-in-Ok.ensures.adds

pub returns-in-Ok-clause-fails : goal.returns-in-Ok-clause-fails
returns-in-Ok-clause-fails g c =
    let e = c.in-Ok.ensures in
    first_failed g.K.Desk.state c.args.place c.in-Unborn.desk c.in-Ok.journal c.args.body.now c.append-in-Ok.result c.in-Unborn.is e.made e.goes.does.on_disk.disk_faults c.requires.is_body
    c.append-in-Ok.ensures.no_memory c.append-in-Ok.ensures.fails
