use Rattle.std.proofs.Common.{◌≤◌, length}
use Rattle.tf_desk.specs.Replay.{First, replay}
use Rattle.tf_desk.specs.Loops.{SaysFront}
use Rattle.tf_desk.proofs.streams.say_whole.Given as goal

abbrev pub invariant-loop : goal.invariant-loop
invariant-loop g l = record {
  within : l.done ≤ length l.bytes;
  says : (first : First) → SaysFront l.bytes l.done (replay first l.fn.trace.calls) (replay first l.trace.calls);
}
