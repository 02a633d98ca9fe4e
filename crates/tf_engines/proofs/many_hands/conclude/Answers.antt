use Rattle.tf_engines.proofs.OrderLemmas.{so_by}
use Rattle.tf_engines.proofs.SharedLemmas.{concluded, lasts_unhalted}
use Rattle.tf_engines.proofs.many_hands.conclude.Goals as goal

pub stopped-how-requires : goal.stopped-how-requires
stopped-how-requires g c =
    lasts_unhalted g.K.Desk.state g.P.Performer.gives c.args.shared c.into_book-book.result c.halt_for.new.book c.args.failed c.into_book-book.ensures.book c.halt_for.ensures.same c.halt_for.ensures.halted c.requires

pub returns-clause-run : goal.returns-clause-run
returns-clause-run g c =
    concluded g.K.Desk.state g.P.Performer.gives c.args.shared c.into_book-book.result c.halt_for.new.book c.stopped-how.result c.into_book-book.ensures.shared c.into_book-book.ensures.legal c.into_book-book.ensures.book
    c.halt_for.ensures.keeps c.halt_for.ensures.same c.halt_for.ensures.memory c.stopped-how.ensures

pub returns-clause-orders : goal.returns-clause-orders
returns-clause-orders g c = λ told base did asked has.
    so_by c.args.failed c.halt_for.new.book.halt _ c.stopped-how.result told base did asked c.halt_for.ensures.halted c.stopped-how.ensures has
