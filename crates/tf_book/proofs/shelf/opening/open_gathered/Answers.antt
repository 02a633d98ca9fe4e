use Rattle.std.proofs.Common.{refl}
use Rattle.tf_book.proofs.OpeningLemmas.{gathered_sound}
use Rattle.tf_book.proofs.shelf.opening.open_gathered.Goals as goal

pub invariant_of-result : goal.invariant_of-result
invariant_of-result g c =
    let r = c.requires in (
      r.kept.room,
      c.in-Ok.ensures,
      record { marks = r.room },
      gathered_sound g.K.Desk.state c.args.journal c.args.gathering c.into_machine-machine.result r.holds r.legal r.kept (c.into_machine-machine.ensures.plan _ r.machines)
          (c.into_machine-machine.ensures.stands _ r.machines),
    )

pub returns-clause-opened : goal.returns-clause-opened
returns-clause-opened g c = record {
  number_is = refl;
  bodies = λ told. refl;
  past = λ told. c.requires.kept.entries;
  volatile = c.requires.in_file;
  halt = refl;
  failed = refl;
  quiet = refl;
  limit = refl;
}
