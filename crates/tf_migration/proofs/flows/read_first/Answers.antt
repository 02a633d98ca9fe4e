use Rattle.std.proofs.Common.{◌≡◌, ◌∙◌, ◌++◌, ◌∷◌, [], List, ap, Err}
use Rattle.std.proofs.lemmas.Result.{err_from_is_err_and}
use Rattle.tf_values.specs.declared.faults.MakeFault.{MakeFault}
use Rattle.tf_values.specs.declared.faults.MakeFault.TheVariants as fault
use Rattle.tf_flow.specs.Plan.{PlanValue}
use Rattle.tf_machine.specs.Machine.{MachineValue}
use Rattle.tf_details.specs.Elements.{detail, element_bytes}
use Rattle.tf_migration.proofs.FlowLemmas.{flow_begun, none_before}
use Rattle.tf_migration.proofs.flows.read_first.Goals as goal

pub returns-in_err-machine-clause-refused : goal.returns-in_err-machine-clause-refused
returns-in_err-machine-clause-refused c =
    let p = err_from_is_err_and c.from_residual.result c.from_residual.ensures.1 in
    rw (p.1, p.2) (λ is. let same : c.in_err-machine.field-0.0 ≡ fault.No = cc in c.in_err-machine.ensures.refused (ap (λ (f : MakeFault). Err f) same))

pub returns-in_err-add-clause-refused : goal.returns-in_err-add-clause-refused
returns-in_err-add-clause-refused c =
    let p = err_from_is_err_and c.from_residual-in_err-add.result c.from_residual-in_err-add.ensures.1 in
    rw (p.1, p.2)
    (λ is.
    let same : c.in_err-add.field-0.0 ≡ fault.No = cc in
    absurd (none_before c.none-details.result c.in_ok-machine.machine.plan.root.name c.none-details.ensures.is (c.in_err-add.ensures.refused (ap (λ (f : MakeFault). Err f) same))))

pub returns-clause-read : goal.returns-clause-read
returns-clause-read c =
    let m = c.in_ok-machine.machine in
    let e = c.in_ok-machine.ensures in
    flow_begun _ c.args.form.now m e.form e.history e.fresh
    (c.in_ok-add.ensures.added ∙ ap (λ (l : List MachineValue). l ++ m ∷ []) c.none-details.ensures.is)
    (c.in_ok-push.ensures.items ∙ ap (λ l. l ++ c.in-Ok.body ∷ []) c.new-bodies.ensures.items
    ∙ ap (λ b. b ∷ []) (c.in-Ok.ensures ∙ ap (λ (p : PlanValue). element_bytes (detail p)) c.plan.ensures.is))
