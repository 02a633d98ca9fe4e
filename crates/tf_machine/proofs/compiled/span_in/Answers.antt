use Rattle.std.proofs.Common.{arith}
use Rattle.tf_model.specs.Plan.{outline_of}
use Rattle.tf_model.proofs.PlanLemmas.{atoms_counted}
use Rattle.tf_machine.proofs.SpanLemmas.{all_atoms}
use Rattle.tf_machine.proofs.compiled.span_in.Goals as goal

pub returns : goal.returns
returns c =
    all_atoms (outline_of c.args.plan.now) c.args.flow c.loop-atom.atom c.loop-atom.span
    (omega (arith, c.loop-atom-test.false, c.loop-atom.auto.atom-end, c.atoms-atom-end.ensures.count, atoms_counted c.args.plan.now)) c.loop-atom.invariant
