use Rattle.std.proofs.Common.{◌≡◌, ◌+◌, ℕ, List, Option, vec_len}
use Rattle.tf_actions.specs.declared.orders.Order.{Order}
use Rattle.tf_states.specs.declared.record.Entry.{Entry}
use Rattle.tf_book.specs.Book.{outline}
use Rattle.tf_engines.specs.Shared.{origin_of}
use Rattle.tf_engines.specs.Taking.{AllGiven, AreSeated, AreTurns, IsRoundAt}
use Rattle.tf_engines.proofs.TakingLemmas.{HasGrownOrWaits}
use Rattle.tf_engines.proofs.taking_turns.take_round.Given as goal

abbrev pub invariant-loop-number : goal.invariant-loop-number
invariant-loop-number g l = record {
  origin : origin_of l.shared ≡ origin_of l.fn.shared;
  hands : vec_len l.hands ≡ vec_len l.fn.hands;
  seats : vec_len l.seats ≡ vec_len l.fn.hands;
  turns : (picks : List ℕ) (first : List Entry) (r : IsRoundAt (outline l.fn.shared.start) picks (vec_len l.fn.hands) first l.fn.shared.now.past)
      → AreTurns (outline l.fn.shared.start) picks (vec_len l.fn.hands) (r.turns + l.number) first l.shared.now.past;
  grows : HasGrownOrWaits (outline l.fn.shared.start) l.number l.fn.shared.now.past l.shared.now.past;
  seated : AreSeated (outline l.fn.shared.start) l.shared.now.past l.seats.items;
  given : (told : ℕ → Option (List Order)) (base : ℕ → List Order)
      → AllGiven g.P.Performer.did (outline l.fn.shared.start) l.fn.shared.now.past told base l.fn.hands.items l.fn.seats.items
      → AllGiven g.P.Performer.did (outline l.fn.shared.start) l.shared.now.past told base l.hands.items l.seats.items;
}
