use Rattle.std.proofs.Common.{◌≡◌}
use Rattle.tf_values.specs.declared.faults.MakeFault.TheVariants as fault
use Rattle.tf_details.specs.Elements.{no_run}
use Rattle.tf_details.proofs.reading.read_plan.Goals as goal

pub returns-in-Err-clause-refused : goal.returns-in-Err-clause-refused
returns-in-Err-clause-refused c = λ is.
    let same : c.unfit-why.result ≡ fault.No = cc in
    no_run c.in_ok-plan.plan c.root-root.ensures.accepted c.in_ok-plan.ensures.ok.0 c.in_ok-plan.ensures.ok.1 (c.unfit-why.ensures same c.in_ok-plan.plan c.in-Err.ensures.refused)
