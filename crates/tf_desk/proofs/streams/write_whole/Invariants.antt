use Rattle.std.proofs.Common.{◌≤◌, length, take}
use Rattle.tf_desk.specs.Replay.{First, replay}
use Rattle.tf_desk.specs.Loops.{Puts}
use Rattle.tf_desk.proofs.streams.write_whole.Given as goal

abbrev pub invariant-loop : goal.invariant-loop
invariant-loop g l = record {
  within : l.done ≤ length l.bytes;
  puts : (first : First) → Puts l.at (length l.bytes) (take l.done l.bytes) (replay first l.fn.trace.calls) (replay first l.trace.calls);
}
