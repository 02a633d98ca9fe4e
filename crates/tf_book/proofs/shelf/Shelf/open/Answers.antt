use Rattle.std.proofs.Common.{refl, ap, ◌∙◌, subst, arith}
use Rattle.std.specs.Prelude.{IsTrue}
use Rattle.tf_journal.specs.Format.{Held}
use Rattle.tf_details.specs.Reading.{elements_in}
use Rattle.tf_book.proofs.OpeningLemmas.{stands_in, opening_fails, still_there, opened_sound, same_bodies, same_past}
use Rattle.tf_book.proofs.shelf.Shelf.open.Goals as goal

pub returns-in-Err-clause-book : goal.returns-in-Err-clause-book
returns-in-Err-clause-book g c = λ told.
    let in_it = stands_in g.K.Desk.state (record { place = c.self.inside.place; elements = elements_in c.self.inside.read }) c.args.self c.args.number c.in-Kept.journal c.self.view_is c.in-Kept.is
    c.self.invariant.0 c.self.invariant.1 c.requires in
    opening_fails g.K.Desk.state c.args.self c.args.number c.in-Kept.journal in_it c.in-Err.fault _ c.in-Err.ensures.fails c.in-Err.ensures.reads.rests.falls
    (subst (λ (k : g.row.K.Denot). IsTrue (g.K.Desk.state k).tells) c.into_desk.ensures told)

pub returns-then-number-count-clause-book : goal.returns-then-number-count-clause-book
returns-then-number-count-clause-book g c = λ told.
    let in_it = stands_in g.K.Desk.state (record { place = c.self.inside.place; elements = elements_in c.self.inside.read }) c.args.self c.args.number c.in-Kept.journal c.self.view_is c.in-Kept.is
    c.self.invariant.0 c.self.invariant.1 c.requires in
    absurd (still_there g.K.Desk.state c.args.self c.args.number c.in-Kept.journal in_it c.gather.new.journal c.in-Ok.gathering c.gather.ensures.reads c.in-Ok.ensures.read
    (omega (arith, c.count.ensures.is, c.if-number-count.true))
    (subst (λ (k : g.row.K.Denot). IsTrue (g.K.Desk.state k).tells) c.into_desk-then-number-count.ensures told))

pub invariant_of-result : goal.invariant_of-result
invariant_of-result g c =
    let in_it = stands_in g.K.Desk.state (record { place = c.self.inside.place; elements = elements_in c.self.inside.read }) c.args.self c.args.number c.in-Kept.journal c.self.view_is c.in-Kept.is
    c.self.invariant.0 c.self.invariant.1 c.requires in
    let read = c.in-Ok.ensures.read in
    let gathered = read.is_replayed in (
      gathered.kept.room,
      c.in-Ok-make.ensures,
      record { marks = gathered.room },
      opened_sound g.K.Desk.state c.args.self c.args.number c.in-Kept.journal in_it c.gather.new.journal c.in-Ok.gathering c.gather.ensures.reads read c.in-Ok.ensures.number c.into_machine-machine.result
          (c.into_machine-machine.ensures.plan _ gathered.machines_are) (c.into_machine-machine.ensures.stands _ gathered.machines_are),
    )

pub returns-clause-opened : goal.returns-clause-opened
returns-clause-opened g c =
    let in_it = stands_in g.K.Desk.state (record { place = c.self.inside.place; elements = elements_in c.self.inside.read }) c.args.self c.args.number c.in-Kept.journal c.self.view_is c.in-Kept.is
    c.self.invariant.0 c.self.invariant.1 c.requires in
    let read = c.in-Ok.ensures.read in
    record {
      number_is = refl;
      bodies = same_bodies g.K.Desk.state c.args.self c.args.number c.in-Kept.journal in_it c.gather.new.journal c.in-Ok.gathering c.gather.ensures.reads read;
      past = same_past g.K.Desk.state c.args.self c.args.number c.in-Kept.journal in_it c.gather.new.journal c.in-Ok.gathering c.gather.ensures.reads read c.in-Ok.ensures.number;
      volatile = ap (λ (h : Held _). h.volatile) c.gather.ensures.reads.journal ∙ in_it.kept;
      halt = refl;
      failed = refl;
      quiet = refl;
      limit = refl;
    }
