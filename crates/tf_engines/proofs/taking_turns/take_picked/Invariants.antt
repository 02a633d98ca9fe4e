use Rattle.std.proofs.Common.{◌≡◌, ℕ, List, Option, vec_len}
use Rattle.tf_actions.specs.declared.orders.Order.{Order}
use Rattle.tf_book.specs.Book.{outline}
use Rattle.tf_engines.specs.Shared.{origin_of}
use Rattle.tf_engines.specs.Taking.{AllGiven, AreSeated, AreTurns}
use Rattle.tf_engines.proofs.taking_turns.take_picked.Given as goal

abbrev pub invariant-loop-pick : goal.invariant-loop-pick
invariant-loop-pick g l = record {
  origin : origin_of l.shared ≡ origin_of l.fn.shared;
  hands : vec_len l.hands ≡ vec_len l.fn.hands;
  seats : vec_len l.seats ≡ vec_len l.fn.hands;
  turns : AreTurns (outline l.fn.shared.start) l.picks (vec_len l.fn.hands) l.pick-index l.fn.shared.now.past l.shared.now.past;
  seated : AreSeated (outline l.fn.shared.start) l.shared.now.past l.seats.items;
  given : (told : ℕ → Option (List Order)) (base : ℕ → List Order)
      → AllGiven g.P.Performer.did (outline l.fn.shared.start) l.fn.shared.now.past told base l.fn.hands.items l.fn.seats.items
      → AllGiven g.P.Performer.did (outline l.fn.shared.start) l.shared.now.past told base l.hands.items l.seats.items;
}
