use Rattle.std.proofs.Common.{◌≡◌, ◌≤◌, length, take}
use Rattle.std.specs.Io.KnownBytes.{Appends}
use Rattle.tf_ports.specs.Noted.{passed_in}
use Rattle.tf_ports.specs.Transcript.{sent_with}
use Rattle.tf_ports.proofs.sockets.send_whole.Given as goal

abbrev pub invariant-loop : goal.invariant-loop
invariant-loop g l = record {
  within : l.done ≤ length l.bytes;
  taken : Appends (g.S.Write.contents l.fn.stream) (g.S.Write.contents l.stream) (take l.done l.bytes);
  passed : passed_in l.trace.calls ≡ sent_with (passed_in l.fn.trace.calls) (take l.done l.bytes);
}
