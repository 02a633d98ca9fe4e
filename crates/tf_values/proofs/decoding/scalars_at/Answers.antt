use Rattle.std.proofs.Common.{sym, ◌∙◌, arith}
use Rattle.std.proofs.lemmas.Result.{err_from_is_err_and}
use Rattle.tf_values.proofs.FaultLemmas.{passed_on}
use Rattle.tf_values.proofs.ByteLemmas.{stuck_scalars}
use Rattle.tf_values.proofs.decoding.scalars_at.Goals as goal

pub returns-in_err-scalar-clause-refused : goal.returns-in_err-scalar-clause-refused
returns-in_err-scalar-clause-refused c =
    let p = err_from_is_err_and c.from_residual.result c.from_residual.ensures.1 in
    rw (p.1, p.2) (λ is scalars rest good counted e.
    stuck_scalars c.loop.items.items scalars c.loop.rest.now rest c.loop.invariant.elements good (omega arith) (c.in_err-scalar.ensures.refused (passed_on _ _ is)) (sym c.loop.invariant.read ∙ e))
