use Rattle.std.proofs.Common.{◌≤◌, ◌-◌, length}
use Rattle.tf_wire.specs.Stream.{KeepsFrames}
use Rattle.tf_wire.proofs.frames.keep_frames.Given as goal

abbrev pub invariant-loop-frame : goal.invariant-loop-frame
invariant-loop-frame l = record {
  within : l.len ≤ length l.bytes;
  kept : KeepsFrames l.bytes l.initial.waiting l.waiting l.len;
}

abbrev pub decreases-loop-frame : goal.decreases-loop-frame
decreases-loop-frame l = length l.bytes - l.len
