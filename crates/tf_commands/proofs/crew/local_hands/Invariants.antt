use Rattle.std.proofs.Common.{◌≡◌, length, map}
use Rattle.std.specs.List.{AllByRecursion}
use Rattle.tf_ports.specs.Ports.{IsFresh}
use Rattle.tf_commands.specs.Crews.{orders_of}
use Rattle.tf_commands.proofs.crew.local_hands.Given as goal

abbrev pub invariant-loop-hand : goal.invariant-loop-hand
invariant-loop-hand g l = record {
  count : length l.hands.items ≡ l._hand;
  fresh : AllByRecursion IsFresh (map (λ hand. orders_of hand.done.items) l.hands.items);
}
