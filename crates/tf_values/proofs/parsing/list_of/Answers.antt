use Rattle.std.proofs.Common.{sym}
use Rattle.std.proofs.lemmas.Result.{err_from_is_err_and}
use Rattle.tf_values.proofs.FaultLemmas.{passed_on}
use Rattle.tf_values.proofs.ValueLemmas.{no_value-bracket, no_list-long}
use Rattle.tf_values.proofs.parsing.list_of.Goals as goal

pub returns-in_err-items-clause-refused : goal.returns-in_err-items-clause-refused
returns-in_err-items-clause-refused c =
    let p = err_from_is_err_and c.from_residual.result c.from_residual.ensures.1 in
    rw (p.1, p.2) (λ is. no_value-bracket c.args.bytes.now (λ scalars limits good. c.in_err-items.ensures.refused (passed_on _ _ is) scalars good))

pub returns-clause-refused : goal.returns-clause-refused
returns-clause-refused c =
    let read = c.in_ok-items.ensures.ok in
    λ is. no_value-bracket c.args.bytes.now (no_list-long c.in_ok-items.items.items c.args.bytes.now read.0 read.1 (sym c.in-Err.ensures.variant))
