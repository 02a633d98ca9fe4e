use Rattle.std.proofs.Common.{◌≤◌, length, take}
use Rattle.std.specs.Io.KnownBytes.{Consumes}
use Rattle.tf_desk.proofs.streams.read_on.Given as goal

abbrev pub invariant-loop : goal.invariant-loop
invariant-loop g l = (l.done ≤ length l.buf) × Consumes (g.R.Read.remaining l.fn.from) (g.R.Read.remaining l.from) (take l.done l.buf)
