use Rattle.std.proofs.Common.{◌≡◌, ap, subst, Err}
use Rattle.std.proofs.lemmas.Result.{err_from_is_err_and}
use Rattle.tf_values.specs.declared.faults.MakeFault.{MakeFault}
use Rattle.tf_values.specs.declared.faults.MakeFault.TheVariants as fault
use Rattle.tf_migration.specs.Migrates.{first}
use Rattle.tf_migration.specs.Reading.{HasReadBook}
use Rattle.tf_migration.specs.declared.flows.OldBook.{OldBook}
use Rattle.tf_details.proofs.ReadingLemmas.{ok_so}
use Rattle.tf_migration.proofs.FlowLemmas.{flow_on, flow_refused}
use Rattle.tf_migration.proofs.flows.OldBookReplay.replay.Goals as goal

pub returns-in_err-read_first-in-Empty-clause-refused : goal.returns-in_err-read_first-in-Empty-clause-refused
returns-in_err-read_first-in-Empty-clause-refused c =
    let p = err_from_is_err_and c.from_residual.result c.from_residual.ensures.1 in
    rw (p.1, p.2)
    (λ is before none.
    let same : c.in_err-read_first-in-Empty.field-0.0 ≡ fault.No = cc in
    first (subst (λ (b : OldBook). HasReadBook b before) c.in-Empty.is none) (c.in_err-read_first-in-Empty.ensures.refused (ap (λ (f : MakeFault). Err f) same)))

pub returns-in-Of-clause-replayed : goal.returns-in-Of-clause-replayed
returns-in-Of-clause-replayed c =
    ok_so c.read_entry.result
    (λ read before r. flow_on c.in-Of.flow c.read_entry.new.self before c.args.body.now (subst (λ (b : OldBook). HasReadBook b before) c.in-Of.is r) read)
    c.read_entry.ensures.read

pub returns-in-Of-clause-refused : goal.returns-in-Of-clause-refused
returns-in-Of-clause-refused c = λ is before r.
    flow_refused c.in-Of.flow before c.args.body.now (subst (λ (b : OldBook). HasReadBook b before) c.in-Of.is r) (c.read_entry.ensures.refused is)
