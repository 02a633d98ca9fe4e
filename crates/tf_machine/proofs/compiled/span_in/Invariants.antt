use Rattle.tf_model.specs.Plan.{outline_of}
use Rattle.tf_machine.proofs.SpanLemmas.{IsSpanBelow}
use Rattle.tf_machine.proofs.compiled.span_in.Given as goal

abbrev pub invariant-loop-atom : goal.invariant-loop-atom
invariant-loop-atom l = IsSpanBelow (outline_of l.plan) l.flow l.atom l.span
