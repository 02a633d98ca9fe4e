use Rattle.std.proofs.Common.{◌≡◌, ap, sym, subst, Err, List}
use Rattle.std.proofs.lemmas.Result.{err_from_is_err_and}
use Rattle.tf_values.specs.declared.faults.MakeFault.{MakeFault}
use Rattle.tf_values.specs.declared.faults.MakeFault.TheVariants as fault
use Rattle.tf_machine.specs.Machine.{MachineValue}
use Rattle.tf_details.specs.Reading.{AreMachinesOf, IsReadEntry}
use Rattle.tf_details.specs.declared.gathering.Gathering.{Gathering}
use Rattle.tf_details.proofs.gathering.Gathering.read_entry.Goals as goal

pub returns-in_err-entry-clause-refused : goal.returns-in_err-entry-clause-refused
returns-in_err-entry-clause-refused g c =
    let p = err_from_is_err_and c.from_residual.result c.from_residual.ensures.1 in
    rw (p.1, p.2) (λ is. let same : c.in_err-entry.field-0.0 ≡ fault.No = cc in c.in_err-entry.ensures.refused (ap (λ (f : MakeFault). Err f) same))

pub returns-in-Ok-clause-refused : goal.returns-in-Ok-clause-refused
returns-in-Ok-clause-refused g c = λ is book are.
    let same : c.keep_of.new.self.details ≡ c.args.self.now.details = ap (λ (s : Gathering g.row.H.Denot). s.details) c.keep_of.ensures.same in
    c.take.ensures.refused is book c.args.form.now (subst (λ (d : List MachineValue). AreMachinesOf d book) (sym same) are)
    (subst (λ (d : List MachineValue). IsReadEntry d c.args.number c.args.form.now c.in_ok-entry.entry) (sym same) c.in_ok-entry.ensures.read)
