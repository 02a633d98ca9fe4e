use Rattle.std.proofs.Common.{◌≡◌, ap, Err}
use Rattle.std.proofs.lemmas.Result.{err_from_is_err_and}
use Rattle.tf_values.specs.declared.faults.MakeFault.{MakeFault}
use Rattle.tf_values.specs.declared.faults.MakeFault.TheVariants as fault
use Rattle.tf_migration.proofs.flows.Flow.read_entry.Goals as goal

pub returns-in_err-entry-clause-refused : goal.returns-in_err-entry-clause-refused
returns-in_err-entry-clause-refused c =
    let p = err_from_is_err_and c.from_residual.result c.from_residual.ensures.1 in
    rw (p.1, p.2) (λ is. let same : c.in_err-entry.field-0.0 ≡ fault.No = cc in c.in_err-entry.ensures.refused (ap (λ (f : MakeFault). Err f) same))

pub returns-clause-refused : goal.returns-clause-refused
returns-clause-refused c = λ is book are. c.take.ensures.refused is book c.args.form.now are c.in_ok-entry.ensures.read
