use Rattle.std.proofs.Common.{◌≡◌, ◌≤◌, ◌-◌, ℕ, List, Option}
use Rattle.tf_states.specs.declared.record.Entry.{Entry}
use Rattle.tf_actions.specs.declared.orders.Order.{Order}
use Rattle.tf_hands.specs.Hands.{orders}
use Rattle.tf_engines.specs.Asked.{HasDone}
use Rattle.tf_book.specs.Book.{BookValue, outline}
use Rattle.tf_book.specs.SessionInvariant.{SessionInvariant}
use Rattle.tf_engines.specs.Runs.{IsUnderWay, IsBetweenTurns}
use Rattle.tf_engines.proofs.one_hand.run.Given as goal

abbrev pub invariant-turns : goal.invariant-turns
invariant-turns g l = record {
  keeps : (start : BookValue g.row.K.Denot) → SessionInvariant g.K.Desk.state start l.fn.book
      → SessionInvariant g.K.Desk.state start l.book;
  plan : l.book.plan ≡ l.fn.book.plan;
  asks : (g.K.Desk.state l.fn.book.journal.desk).asks ≤ (g.K.Desk.state l.book.journal.desk).asks;
  going : IsBetweenTurns (outline l.book) l.book.past l.book.halt;
  asked : (told : Option (List Order)) (base : List Order) → HasDone told base (g.P.Performer.did l.fn.hand) (orders (outline l.fn.book) 0 l.fn.book.past)
      → HasDone told base (g.P.Performer.did l.hand) (orders (outline l.fn.book) 0 l.book.past);
  on : (limit : Option ℕ) (before : List Entry) → IsUnderWay g.P.Performer.gives 1 limit (outline l.fn.book) before l.fn.book.past l.fn.book.limit
      → IsUnderWay g.P.Performer.gives 1 limit (outline l.fn.book) before l.book.past l.book.limit;
}

abbrev pub decreases-turns : goal.decreases-turns
decreases-turns g l = 67108864 - l.book.journal.size
