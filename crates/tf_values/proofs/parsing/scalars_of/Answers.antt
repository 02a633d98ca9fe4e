use Rattle.std.proofs.Common.{refl, ◌∷◌, []}
use Rattle.std.proofs.lemmas.Result.{err_from_is_err_and}
use Rattle.tf_values.proofs.FaultLemmas.{passed_on}
use Rattle.tf_values.proofs.ListLemmas.{differ}
use Rattle.tf_values.proofs.ValueLemmas.{no_scalars, comma_none, no_comma_none, comma_is_no_bracket, comma_goes_on}
use Rattle.tf_values.proofs.parsing.scalars_of.Goals as goal

pub returns-in_err-first-clause-refused : goal.returns-in_err-first-clause-refused
returns-in_err-first-clause-refused c =
    let p = err_from_is_err_and c.from_residual.result c.from_residual.ensures.1 in
    rw (p.1, p.2) (λ is. no_scalars [] (44 ∷ c.args.bytes.now) c.args.bytes.now tt refl refl (comma_none (44 ∷ c.args.bytes.now) c.args.bytes.now refl (c.in_err-first.ensures.refused (passed_on _ _ is)))
    (comma_is_no_bracket c.args.bytes.now) (λ e. differ c.closes.result c.if-closes.false (c.closes.ensures.1 e)))

pub returns-in_err-scalar-clause-refused : goal.returns-in_err-scalar-clause-refused
returns-in_err-scalar-clause-refused c =
    let p = err_from_is_err_and c.from_residual-in_err-scalar.result c.from_residual-in_err-scalar.ensures.1 in
    let kept = c.loop-after.invariant in
    rw (p.1, p.2) (λ is. no_scalars c.loop-after.items.items c.loop-after.rest.now c.args.bytes.now kept.elements kept.read kept.ends
    (comma_none c.loop-after.rest.now c.in-Some.after.now c.in-Some.ensures (c.in_err-scalar.ensures.refused (passed_on _ _ is)))
    (comma_goes_on c.loop-after.rest.now c.in-Some.after.now c.in-Some.ensures) (λ e. differ c.closes.result c.if-closes.false (c.closes.ensures.1 e)))

pub returns-then-not-closes-clause-refused : goal.returns-then-not-closes-clause-refused
returns-then-not-closes-clause-refused c =
    let kept = c.loop-after.invariant in
    λ is. no_scalars c.loop-after.items.items c.loop-after.rest.now c.args.bytes.now kept.elements kept.read kept.ends
    (no_comma_none c.loop-after.rest.now c.in_default.ensures)
    (λ e. differ c.closes-2.result c.if-not-closes.true (c.closes-2.ensures.1 e)) (λ e. differ c.closes.result c.if-closes.false (c.closes.ensures.1 e))
