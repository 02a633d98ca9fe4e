use Rattle.std.proofs.lemmas.Result.{err_from_is_err_and}
use Rattle.tf_values.proofs.FaultLemmas.{passed_on}
use Rattle.tf_board.proofs.FormLemmas.{no_priority, no_details}
use Rattle.tf_board.proofs.bodies.post_in.Goals as goal

pub returns-in_default-priority_at-clause-refused : goal.returns-in_default-priority_at-clause-refused
returns-in_default-priority_at-clause-refused c = λ is name priority details good value.
    no_priority c.args.bytes.now c.in-Some.read.0 c.in-Some.read.1.now c.in-Some.ensures.1 c.in_default-priority_at.ensures name priority details

pub returns-in_err-details-clause-refused : goal.returns-in_err-details-clause-refused
returns-in_err-details-clause-refused c =
    let p = err_from_is_err_and c.from_residual.result c.from_residual.ensures.1 in
    rw (p.1, p.2) (λ is name priority details good value.
    no_details c.args.bytes.now c.in-Some.read.0 c.in-Some.read.1.now c.in-Some-priority_at.form.now c.in-Some-priority_at.priority c.in-Some.ensures.1 c.in-Some-priority_at.ensures (c.in_err-details.ensures.refused (passed_on _ _ is)) name priority details value)
