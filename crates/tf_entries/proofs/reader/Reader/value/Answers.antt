use Rattle.std.proofs.Common.{◌∙◌, ap, Some, arith}
use Rattle.std.proofs.lemmas.Result.{err_from_is_err_and}
use Rattle.std.proofs.lemmas.Grind.{common_steps}
use Rattle.tf_entries.proofs.ValueLemmas.{value_begins, refused_value}
use Rattle.tf_entries.proofs.reader.Reader.value.Goals as goal

pub returns-in_err-value-clause-refused : goal.returns-in_err-value-clause-refused
returns-in_err-value-clause-refused c =
    let p = err_from_is_err_and c.from_residual.result c.from_residual.ensures.1 in
    rw (p.1, p.2, ← c.self.view_is) (refused_value c.self.inside.bytes.now c.in_err-value.field-0.0 c.in_err-value.ensures.refused)

pub returns-clause-ok : goal.returns-clause-ok
returns-clause-ok c =
    rw (← c.self.view_is) (value_begins c.self.inside.bytes.now c.in_ok-value.value c.in_ok-value.len c.in_ok-value.ensures.ok ∙ ap (λ rest. Some (c.in_ok-value.value, rest)) (grind (arith, common_steps)))
