use Rattle.std.proofs.Common.{◌≡◌, ◌≤◌, ◌-◌, length}
use Rattle.tf_ports.specs.Ports.{seen_link}
use Rattle.tf_remote.specs.Received.{Brings}
use Rattle.tf_remote.proofs.receiving.receive_bytes.Given as goal

abbrev pub invariant-loop-piece : goal.invariant-loop-piece
invariant-loop-piece g l = record {
  brings : Brings l.bytes.items (seen_link g.L.Link.left g.L.Link.transcript g.L.Link.faults g.L.Link.ends l.fn.link) (seen_link g.L.Link.left g.L.Link.transcript g.L.Link.faults g.L.Link.ends l.link);
  within : length l.bytes.items ≤ l.count;
  size : length l.piece ≡ 8192;
}

abbrev pub decreases-loop-piece : goal.decreases-loop-piece
decreases-loop-piece g l = l.count - length l.bytes.items
