use Rattle.std.proofs.Common.{◌-◌, ◌<◌}
use Rattle.tf_links.proofs.NumberLemmas.{IsRun}
use Rattle.tf_links.proofs.bits.Bits.run_end.Given as goal

abbrev pub invariant-loop-end : goal.invariant-loop-end
invariant-loop-end l = record {
  begins : l.from < l.end;
  alike : IsRun l.self l.from l.end;
}

abbrev pub decreases-loop-end : goal.decreases-loop-end
decreases-loop-end l = l.past - l.end
