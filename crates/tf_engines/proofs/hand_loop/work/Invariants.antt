use Rattle.std.proofs.Common.{List, Option}
use Rattle.tf_actions.specs.declared.orders.Order.{Order}
use Rattle.tf_hands.specs.Hands.{orders}
use Rattle.tf_book.specs.Book.{outline}
use Rattle.tf_engines.specs.Asked.{HasDone}
use Rattle.tf_engines.specs.Shared.{seen_past}
use Rattle.tf_engines.specs.Working.{IsReadyToTurn}
use Rattle.tf_engines.proofs.hand_loop.work.Given as goal

abbrev pub invariant-turns : goal.invariant-turns
invariant-turns g l = record {
  ready : IsReadyToTurn l.turnstile l.hand l.worker.pass;
  goes : (told : Option (List Order)) (base : List Order) → HasDone told base (g.P.Performer.did l.fn.worker.hand) (orders (outline l.turnstile.start.start) l.hand (seen_past l.turnstile l.fn.worker.pass))
      → HasDone told base (g.P.Performer.did l.worker.hand) (orders (outline l.turnstile.start.start) l.hand (seen_past l.turnstile l.worker.pass));
}
