use Rattle.std.proofs.Common.{refl, subst, slice_index_or}
use Rattle.tf_order.specs.Refusals.{IsRefusedBy}
use Rattle.tf_order.specs.Tables.{told_at}
use Rattle.tf_order.proofs.CompilationLemmas.{refused_here}
use Rattle.tf_order.proofs.compilation.first_fault.Goals as goal

pub returns-in-Some : goal.returns-in-Some
returns-in-Some c =
    let flow = slice_index_or c.args.inner_first.now c.loop-flow.flow-index 0 in
    refused_here (told_at c.args.faults.items) c.args.inner_first.now c.loop-flow.flow-index flow c.in-Some.fault c.loop-flow.invariant.none c.loop-flow-test.true refl
    (subst (λ refusal. IsRefusedBy refusal c.in-Some.fault) (c.loop-flow.invariant.kept flow) c.in-Some.ensures.fault)
