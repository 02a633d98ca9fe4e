use Rattle.std.proofs.Common.{◌≡◌, length}
use Rattle.tf_model.specs.Plan.{outline_of}
use Rattle.tf_machine.specs.Compiled.{AreSpans}
use Rattle.tf_machine.proofs.compiled.spans.Given as goal

abbrev pub invariant-loop-flow : goal.invariant-loop-flow
invariant-loop-flow l = record {
  as_many : length l.spans.items ≡ l.flow;
  each : AreSpans (outline_of l.plan) l.spans.items;
}
