use Rattle.std.proofs.Common.{◌≡◌, ◌≤◌, map, take, vec_len}
use Rattle.std.specs.List.{AllByRecursion}
use Rattle.tf_ports.specs.Ports.{IsFresh, told_with_all}
use Rattle.tf_commands.specs.Crews.{orders_of}
use Rattle.tf_commands.proofs.crew.ProgramCrewCrew.hire.Given as goal

abbrev pub invariant-loop-address : goal.invariant-loop-address
invariant-loop-address g l = record {
  count : vec_len l.hands ≡ l.address-index;
  fresh : AllByRecursion IsFresh (map (λ hand. orders_of hand.done.items) l.hands.items);
  hired : l.self.hired ≡ l.fn.self.hired;
  back : l.self.back ≡ l.fn.self.back;
  dialled : g.D.Dialer.dialled l.self.dialer ≡ told_with_all (g.D.Dialer.dialled l.fn.self.dialer) (take l.address-index l.address-items);
  faults : g.D.Dialer.faults l.fn.self.dialer ≤ g.D.Dialer.faults l.self.dialer;
}
