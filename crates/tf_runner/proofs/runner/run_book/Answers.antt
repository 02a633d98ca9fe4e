use Rattle.std.proofs.Common.{refl, sym, subst}
use Rattle.tf_book.proofs.InvariantLemmas.{keeps_none}
use Rattle.tf_runner.specs.Conducts.{PlanRunsTo}
use Rattle.tf_runner.proofs.RunLemmas.{ended_so, halted_book, halted_calm, never_rises, suspended_so}
use Rattle.tf_runner.proofs.runner.run_book.Goals as goal

pub returns-in-Ended : goal.returns-in-Ended
returns-in-Ended g c =
    subst (PlanRunsTo g.P.Performer.gives _) (sym c.ran_of.ensures)
    (ended_so g.P.Performer.gives (never_rises _ _ refl refl) c.args.book.plan c.args.book.past c.serial-book.result.book.past c.requires.none c.in-Ended.last (rw c.in-Ended.is at c.serial-book.ensures.ran))

pub returns-in-Halted : goal.returns-in-Halted
returns-in-Halted g c =
    halted_book _ c.args.book c.serial-book.result.book c.in-Halted.halt (c.serial-book.ensures.keeps c.args.book (keeps_none _ c.args.book c.requires.sound)) (rw c.in-Halted.is at c.serial-book.ensures.stops) c.requires.none c.requires.contents
    g.P.Performer.gives c.left_by.result (never_rises _ _ refl refl) c.serial-book.ensures.plan (c.serial-book.ensures.failed c.requires.sound) (rw c.in-Halted.is at c.serial-book.ensures.ran) c.left_by.ensures

pub left_by-requires : goal.left_by-requires
left_by-requires g c =
    halted_calm _ c.args.book c.serial-book.result.book c.in-Halted.halt (c.serial-book.ensures.keeps c.args.book (keeps_none _ c.args.book c.requires.sound)) (rw c.in-Halted.is at c.serial-book.ensures.stops) c.requires.none c.requires.contents
    (never_rises _ _ refl refl) (never_rises _ _ refl refl)

pub unreachable-requires : goal.unreachable-requires
unreachable-requires g c =
    suspended_so g.P.Performer.gives (never_rises _ _ refl refl) c.args.book.plan c.args.book.past c.serial-book.result.book.past c.requires.none (rw c.in-Suspended.is at c.serial-book.ensures.ran)
