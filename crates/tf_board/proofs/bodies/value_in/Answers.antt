use Rattle.std.proofs.Common.{◌∙◌, length, ap}
use Rattle.std.proofs.lemmas.Result.{err_from_is_err_and}
use Rattle.tf_values.proofs.FaultLemmas.{passed_on}
use Rattle.tf_board.proofs.FormLemmas.{whole_begins}
use Rattle.tf_board.proofs.bodies.value_in.Goals as goal

pub returns-in_err-value-clause-refused : goal.returns-in_err-value-clause-refused
returns-in_err-value-clause-refused c =
    let p = err_from_is_err_and c.from_residual.result c.from_residual.ensures.1 in
    rw (p.1, p.2) (λ is v good form. c.in_err-value.ensures.refused (passed_on _ _ is) v _ (whole_begins v c.args.bytes.now good form))

pub returns-then-len-bytes-clause-refused : goal.returns-then-len-bytes-clause-refused
returns-then-len-bytes-clause-refused c = λ is v good form.
    let same = c.in_ok-value.ensures.found v _ (whole_begins v c.args.bytes.now good form) in
    c.if-len-bytes.true (same.1 ∙ ap length form)
