use Rattle.std.proofs.Common.{sym, ◌∙◌}
use Rattle.std.proofs.lemmas.Result.{err_from_is_err_and}
use Rattle.tf_values.proofs.FaultLemmas.{passed_on}
use Rattle.tf_values.proofs.ListLemmas.{otherwise, empty_begins_none}
use Rattle.tf_values.proofs.ScalarLemmas.{empty_is_none}
use Rattle.tf_values.proofs.ValueLemmas.{no_value-bare, none_whole, none_followed}
use Rattle.tf_values.proofs.parsing.whole_value.Goals as goal

pub returns-in_default-clause-refused : goal.returns-in_default-clause-refused
returns-in_default-clause-refused c =
    λ is. no_value-bare c.args.text.now (empty_begins_none c.args.text.now c.in_default.ensures.cases 91) (none_whole c.args.text.now (empty_is_none c.args.text.now c.in_default.ensures.cases))

pub returns-in_err-scalar-clause-refused : goal.returns-in_err-scalar-clause-refused
returns-in_err-scalar-clause-refused c =
    let p = err_from_is_err_and c.from_residual.result c.from_residual.ensures.1 in
    rw (p.1, p.2) (λ is. no_value-bare c.args.text.now (otherwise c.in-Some.first.now 91 c.in-Some.rest.now c.args.text.now c.in-Some.ensures.cases.0 c.if-first-eq91.false)
    (none_whole c.args.text.now (c.in_err-scalar.ensures.refused (passed_on _ _ is))))

pub returns-then-not-is_empty-clause-refused : goal.returns-then-not-is_empty-clause-refused
returns-then-not-is_empty-clause-refused c =
    let read = c.in_ok-scalar.ensures.ok in
    λ is. no_value-bare c.args.text.now (otherwise c.in-Some.first.now 91 c.in-Some.rest.now c.args.text.now c.in-Some.ensures.cases.0 c.if-first-eq91.false)
    (none_followed c.in_ok-scalar.scalar c.in_ok-scalar.rest.now c.args.text.now read.0 read.1 read.2 (sym c.is_empty.ensures ∙ c.if-not-is_empty.true))
