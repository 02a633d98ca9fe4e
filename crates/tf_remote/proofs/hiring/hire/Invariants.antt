use Rattle.std.proofs.Common.{◌≡◌, ◌≤◌, take, vec_len}
use Rattle.tf_ports.specs.Ports.{told_with_all}
use Rattle.tf_remote.proofs.hiring.hire.Given as goal

abbrev pub invariant-loop-address : goal.invariant-loop-address
invariant-loop-address g l = record {
  count : vec_len l.hands ≡ l.address-index;
  dialled : g.D.Dialer.dialled l.dialer ≡ told_with_all (g.D.Dialer.dialled l.fn.dialer) (take l.address-index l.addresses);
  faults : g.D.Dialer.faults l.fn.dialer ≤ g.D.Dialer.faults l.dialer;
}
