use Rattle.std.proofs.Common.{◌≡◌, vec_len}
use Rattle.tf_engines.specs.Taking.{AreEmpty}
use Rattle.tf_engines.proofs.taking_turns.make_seats.Given as goal

abbrev pub invariant-loop : goal.invariant-loop
invariant-loop l = record { empty : AreEmpty l.seats.items; count : vec_len l.seats ≡ l.counter }
