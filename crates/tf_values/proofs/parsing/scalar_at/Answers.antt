use Rattle.std.proofs.lemmas.Result.{err_from_is_err_and}
use Rattle.tf_values.proofs.FaultLemmas.{passed_on}
use Rattle.tf_values.proofs.ScalarLemmas.{empty_is_none, none-quoted, none-bare}
use Rattle.tf_values.proofs.parsing.scalar_at.Goals as goal

pub returns-in_default-clause-refused : goal.returns-in_default-clause-refused
returns-in_default-clause-refused c = λ is. empty_is_none c.args.bytes.now c.in_default.ensures.cases

pub returns-in_err-text-clause-refused : goal.returns-in_err-text-clause-refused
returns-in_err-text-clause-refused c =
    let p = err_from_is_err_and c.from_residual.result c.from_residual.ensures.1 in
    rw (p.1, p.2) (λ is. none-quoted c.in-Some.first.now c.in-Some.inner.now c.args.bytes.now c.in-Some.ensures.cases.0 c.if-first-eq34.true (c.in_err-text.ensures.refused (passed_on _ _ is)))

pub returns-in-None-clause-refused : goal.returns-in-None-clause-refused
returns-in-None-clause-refused c = λ is.
    none-bare c.in-Some.first.now c.in-Some.inner.now c.args.bytes.now c.word_at.result.0.now c.word_at.result.1.now c.in-Some.ensures.cases.0 c.if-first-eq34.false c.word_at.ensures.whole c.word_at.ensures.word c.word_at.ensures.end c.in-None.ensures
