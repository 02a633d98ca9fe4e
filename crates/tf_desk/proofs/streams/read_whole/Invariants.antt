use Rattle.std.proofs.Common.{◌≤◌, length, IsTrue}
use Rattle.tf_desk.specs.Replay.{First, replay}
use Rattle.tf_desk.specs.State.{bytes_now}
use Rattle.tf_desk.specs.Loops.{Answers, ReadsFront}
use Rattle.tf_desk.proofs.streams.read_whole.Given as goal

abbrev pub invariant-loop : goal.invariant-loop
invariant-loop g l = record {
  within : l.done ≤ length l.buf;
  answers : (first : First) → Answers (replay first l.fn.trace.calls) (replay first l.trace.calls);
  front : (first : First) → IsTrue (replay first l.trace.calls).tells → ReadsFront (bytes_now (replay first l.fn.trace.calls)) l.at l.done l.buf;
}
