use Rattle.std.proofs.Common.{◌≡◌, ◌-◌, ◌^◌, ℕ, List, Option, length, vec_len}
use Rattle.tf_actions.specs.declared.orders.Order.{Order}
use Rattle.tf_states.specs.declared.record.Entry.{Entry}
use Rattle.tf_book.specs.Book.{outline}
use Rattle.tf_engines.specs.Shared.{origin_of}
use Rattle.tf_engines.specs.Taking.{AllGiven, AreSeated, IsRoundAt}
use Rattle.tf_engines.proofs.taking_turns.take_rounds.Given as goal

abbrev pub invariant-rounds : goal.invariant-rounds
invariant-rounds g l = record {
  origin : origin_of l.shared ≡ origin_of l.fn.shared;
  hands : vec_len l.hands ≡ vec_len l.fn.hands;
  seats : vec_len l.seats ≡ vec_len l.fn.hands;
  turns : (picks : List ℕ) (first : List Entry) → IsRoundAt (outline l.fn.shared.start) picks (vec_len l.fn.hands) first l.fn.shared.now.past
      → IsRoundAt (outline l.fn.shared.start) picks (vec_len l.fn.hands) first l.shared.now.past;
  seated : AreSeated (outline l.fn.shared.start) l.shared.now.past l.seats.items;
  given : (told : ℕ → Option (List Order)) (base : ℕ → List Order)
      → AllGiven g.P.Performer.did (outline l.fn.shared.start) l.fn.shared.now.past told base l.fn.hands.items l.fn.seats.items
      → AllGiven g.P.Performer.did (outline l.fn.shared.start) l.shared.now.past told base l.hands.items l.seats.items;
}

abbrev pub decreases-rounds : goal.decreases-rounds
decreases-rounds g l = 2 ^ 63 - length l.shared.now.past
