-- The first reason why a flow file gives no plan.
use Rattle.std.proofs.Common.{◌≡◌, ◌∙◌, List, Bool, Some, None, Result, Ok, refl, sym}
use Rattle.tf_files.specs.document.Reading.{RefusesWith}
use Rattle.tf_files.specs.declared.document.faults.FileFault.{FileFault}
use Rattle.tf_files.specs.declared.document.faults.FileFault.TheVariants as fault
use Rattle.tf_flow.proofs.AlikeLemmas.{refused_alike}
use Rattle.tf_flow.specs.Rules.{first_refusal, IsAnswer}
use Rattle.tf_flow.specs.Tree.{tree_of}
use Rattle.tf_flow.specs.declared.atoms.Bind.{Bind}
use Rattle.tf_flow.specs.declared.faults.PlanFault.{PlanFault}
use Rattle.tf_flow.specs.declared.faults.PlanFault.TheVariants as plan_fault
use Rattle.tf_flow.specs.declared.nested.Flow.{Flow}
use Rattle.tf_flow.specs.Plan.{as_written, WrittenPlan}
use Rattle.tf_files.specs.FlowFile.{plan_refusal, IsBroken, IsFirstReason, unspelled, broken, no_memory}

-- the reason why nothing is spelled comes first
pub reads_first : (spelled : Result WrittenPlan FileFault) (e : FileFault) → RefusesWith spelled e → IsFirstReason spelled e
reads_first spelled fault.NotToml is = unspelled fault.NotToml is
reads_first spelled (fault.UnknownKey path) is = unspelled (fault.UnknownKey path) is
reads_first spelled (fault.MissingKey path) is = unspelled (fault.MissingKey path) is
reads_first spelled (fault.WrongKind path) is = unspelled (fault.WrongKind path) is
reads_first spelled (fault.BadName path) is = unspelled (fault.BadName path) is
reads_first spelled (fault.BadChoice path) is = unspelled (fault.BadChoice path) is
reads_first spelled (fault.BadNumber path) is = unspelled (fault.BadNumber path) is
reads_first spelled (fault.BadValue path) is = unspelled (fault.BadValue path) is
reads_first spelled (fault.Plan reason) is = unspelled (fault.Plan reason) is
reads_first spelled fault.Memory is = no_memory

-- a plan of this flow and this store
abbrev pub plan_of : Flow → List Bind → Bool → WrittenPlan
plan_of root store defer = record { root = as_written (tree_of root); store = store; defer = defer }

-- a limit that the flow passes, or a rule that it breaks
pub breaks : (root : Flow) (store : List Bind) (defer : Bool) (e : PlanFault) → IsAnswer (first_refusal root store) e → IsFirstReason (Ok (plan_of root store defer)) (plan_refusal e)
breaks root store defer plan_fault.Memory is = no_memory
breaks root store defer (plan_fault.TooLarge which n) is = broken (plan_of root store defer) (plan_fault.TooLarge which n) refl record { root = root; is_written = refl; refused = is }
breaks root store defer plan_fault.Empty is = broken (plan_of root store defer) plan_fault.Empty refl record { root = root; is_written = refl; refused = is }
breaks root store defer (plan_fault.Duplicate name) is = broken (plan_of root store defer) (plan_fault.Duplicate name) refl record { root = root; is_written = refl; refused = is }
breaks root store defer (plan_fault.Unknown name) is = broken (plan_of root store defer) (plan_fault.Unknown name) refl record { root = root; is_written = refl; refused = is }
breaks root store defer (plan_fault.BadLink name) is = broken (plan_of root store defer) (plan_fault.BadLink name) refl record { root = root; is_written = refl; refused = is }
breaks root store defer (plan_fault.BadAtom name) is = broken (plan_of root store defer) (plan_fault.BadAtom name) refl record { root = root; is_written = refl; refused = is }

-- where a flow isn't refused, none is that is written alike
pub unbroken : (root : Flow) (store : List Bind) (defer : Bool) → first_refusal root store ≡ None → (reason : PlanFault) → ¬ (IsBroken (plan_of root store defer) reason)
unbroken root store defer accepted reason other =
    let both : None ≡ Some reason = sym accepted ∙ refused_alike root other.root store (sym other.is_written) ∙ other.refused in
    cc
