use Rattle.std.proofs.lemmas.Result.{err_from_is_err_and}
use Rattle.tf_values.proofs.FaultLemmas.{passed_on}
use Rattle.tf_values.proofs.ByteLemmas.{no_value-list, no_value-scalar}
use Rattle.tf_values.proofs.decoding.value_at.Goals as goal

pub returns-in_err-scalars-clause-refused : goal.returns-in_err-scalars-clause-refused
returns-in_err-scalars-clause-refused c =
    let p = err_from_is_err_and c.from_residual.result c.from_residual.ensures.1 in
    rw (p.1, p.2) (λ is. no_value-list c.in-Some.tag.now c.in-Some.rest.now c.args.bytes.now c.in-Some.ensures.cases.0 c.if-tag-eq5.true (c.in_err-scalars.ensures.refused (passed_on _ _ is)))

pub returns-in_err-scalar-clause-refused : goal.returns-in_err-scalar-clause-refused
returns-in_err-scalar-clause-refused c =
    let p = err_from_is_err_and c.from_residual-in_err-scalar.result c.from_residual-in_err-scalar.ensures.1 in
    rw (p.1, p.2) (λ is. no_value-scalar c.in-Some.tag.now c.in-Some.rest.now c.args.bytes.now c.in-Some.ensures.cases.0 c.if-tag-eq5.false (c.in_err-scalar.ensures.refused (passed_on _ _ is)))
