use Rattle.tf_book.proofs.OpeningLemmas.{read_holds}
use Rattle.tf_book.proofs.shelf.Shelf.read.Goals as goal

pub invariant_of-result : goal.invariant_of-result
invariant_of-result g c =
    let r = c.in-Ok-read_back.ensures in
    let gathered = r.read.is_replayed in (
      read_holds g.K.Desk.state _ c.args.journal c.read_back.new.journal _ c.requires.title c.requires.sound c.requires.kept c.requires.told r.read r.reads,
      gathered.legal,
      gathered.machines_are,
      gathered.room,
      c.in-Ok-list.ensures _ gathered.machines_are,
      gathered.kept,
    )
