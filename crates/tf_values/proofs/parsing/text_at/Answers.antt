use Rattle.std.proofs.Common.{sym, ap, ◌∙◌}
use Rattle.std.proofs.lemmas.Result.{err_from_is_err_and}
use Rattle.tf_values.specs.Text.{is_text}
use Rattle.tf_values.proofs.FaultLemmas.{passed_on}
use Rattle.tf_values.proofs.ScalarLemmas.{no_text-unended, no_text-bytes}
use Rattle.tf_values.proofs.parsing.text_at.Goals as goal

pub returns-then-not-ends_here-clause-refused : goal.returns-then-not-ends_here-clause-refused
returns-then-not-ends_here-clause-refused c =
    λ is. no_text-unended c.in_ok-text.text.items c.in_ok-text.rest.now c.args.bytes.now c.in_ok-text.ensures.ok (sym c.if-not-ends_here.ensures)

pub returns-in_err-make-clause-refused : goal.returns-in_err-make-clause-refused
returns-in_err-make-clause-refused c =
    let p = err_from_is_err_and c.from_residual-in_err-make.result c.from_residual-in_err-make.ensures.1 in
    rw (p.1, p.2) (λ is. no_text-bytes c.in_ok-text.text.items c.in_ok-text.rest.now c.args.bytes.now c.in_ok-text.ensures.ok
    (ap is_text (sym c.deref.ensures.value) ∙ c.in_err-make.ensures.refused.0 (passed_on _ _ is)))
