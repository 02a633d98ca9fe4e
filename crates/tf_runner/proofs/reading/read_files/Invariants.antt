use Rattle.std.proofs.Common.{◌≤◌, take}
use Rattle.std.specs.List.{AllByRecursion}
use Rattle.tf_runner.specs.Reading.{AreReadFrom, HasLineFile}
use Rattle.tf_runner.proofs.reading.read_files.Given as goal

abbrev pub invariant-loop-line : goal.invariant-loop-line
invariant-loop-line g l = record {
  no_fall : g.S.Sources.faults l.fn.sources ≤ g.S.Sources.faults l.sources;
  read : AreReadFrom (g.S.Sources.contents l.sources) l.files.items;
  lines : AllByRecursion (HasLineFile l.board.past l.files.items) (take l.line-index l.line-items);
}
