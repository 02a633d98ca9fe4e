-- The plan of bytes, and bytes that are no plan's.
use Rattle.std.proofs.Common.{◌≡◌, ℕ, List, Bool, Some, None, Err, sym, ap, subst, ◌∙◌}
use Rattle.std.specs.Prelude.{IsErrOf}
use Rattle.tf_flow.specs.Plan.{PlanValue, as_written}
use Rattle.tf_flow.specs.Rules.{first_refusal, IsAnswer}
use Rattle.tf_flow.specs.Tree.{tree_of}
use Rattle.tf_flow.specs.declared.atoms.Bind.{Bind}
use Rattle.tf_flow.specs.declared.faults.PlanFault.{PlanFault}
use Rattle.tf_flow.specs.declared.faults.PlanFault.TheVariants as plan_fault
use Rattle.tf_flow.specs.declared.nested.Flow.{Flow}
use Rattle.tf_flow.proofs.AlikeLemmas.{refused_alike}
use Rattle.tf_flow.proofs.WrittenLemmas.{flow_written}
use Rattle.tf_values.specs.declared.faults.MakeFault.{MakeFault}
use Rattle.tf_values.specs.declared.faults.MakeFault.TheVariants as fault
use Rattle.tf_entries.specs.PlanReading.{PlanAsWritten, written_of, read_plan, fault_of}
use Rattle.tf_entries.specs.Plans.{plan_bytes, IsPlan, KeepsLimits}
use Rattle.tf_entries.specs.Reading.{RefusesForm, whole}
use Rattle.tf_entries.proofs.CountLemmas.{counted_plan}
use Rattle.tf_entries.proofs.DepthLemmas.{within_limits}
use Rattle.tf_entries.proofs.PlanLemmas.{IsFlow, plan_found, plan_made}

-- what a plan is written as
abbrev written_plan : PlanValue → PlanAsWritten
written_plan plan = written_of plan.root plan.store plan.defer

is_flow : (root : Flow) → IsFlow (as_written (tree_of root))
is_flow root = subst IsFlow (sym (flow_written root)) tt

-- an accepted plan within the limits of its parts is found
found : (plan : PlanValue) → first_refusal plan.root plan.store ≡ None → KeepsLimits plan → whole (read_plan (plan_bytes plan)) ≡ Some (written_plan plan)
found plan accepted kept =
    let good = counted_plan plan accepted kept in
    plan_found (written_plan plan) (record { flow = is_flow plan.root; root = within_limits plan.root plan.store accepted good.root; store = good.store })

-- where nothing is read no such plan has these bytes
no_form : (bytes : List ℕ) → whole (read_plan bytes) ≡ None → (plan : PlanValue) → first_refusal plan.root plan.store ≡ None → KeepsLimits plan → plan_bytes plan ≡ bytes → ⊥
no_form bytes none plan accepted good is =
    let no : Some (written_plan plan) ≡ None = sym (found plan accepted good) ∙ ap (λ xs. whole (read_plan xs)) is ∙ none in
    cc

pub refused_form : (bytes : List ℕ) (e : MakeFault) → RefusesForm (whole (read_plan bytes)) e → IsErrOf {T = PlanValue} (Err e) fault.No
    → (plan : PlanValue) → first_refusal plan.root plan.store ≡ None → KeepsLimits plan → plan_bytes plan ≡ bytes → ⊥
refused_form bytes fault.No refused is = no_form bytes refused
refused_form bytes fault.Memory refused is = absurd (cc)

-- an answer that says something of a plan is no answer to one that is accepted
answered : (f : PlanFault) → IsAnswer None f → fault_of f ≡ fault.No → ⊥
answered plan_fault.Memory answer is = cc
answered (plan_fault.TooLarge which n) answer is = absurd (cc)
answered plan_fault.Empty answer is = absurd (cc)
answered (plan_fault.Duplicate name) answer is = absurd (cc)
answered (plan_fault.Unknown name) answer is = absurd (cc)
answered (plan_fault.BadLink name) answer is = absurd (cc)
answered (plan_fault.BadAtom name) answer is = absurd (cc)

-- where what is read is refused no accepted plan has these bytes
pub refused_plan : (bytes : List ℕ) (root : Flow) (store : List Bind) (defer : Bool) (f : PlanFault) → whole (read_plan bytes) ≡ Some (written_of root store defer) → IsAnswer (first_refusal root store) f → fault_of f ≡ fault.No
    → (plan : PlanValue) → first_refusal plan.root plan.store ≡ None → KeepsLimits plan → plan_bytes plan ≡ bytes → ⊥
refused_plan bytes root store defer f read answer refuses plan accepted good is =
    let both : Some (written_plan plan) ≡ Some (written_of root store defer) = sym (found plan accepted good) ∙ ap (λ xs. whole (read_plan xs)) is ∙ read in
    let same : written_plan plan ≡ written_of root store defer = cc in
    let alike : first_refusal root store ≡ first_refusal plan.root store = sym (refused_alike plan.root root store (ap (λ w. w.root) same)) in
    let none : first_refusal root store ≡ None = alike ∙ ap (first_refusal plan.root) (sym (ap (λ w. w.store) same)) ∙ accepted in
    answered f (subst (λ refusal. IsAnswer refusal f) none answer) refuses

-- what is read is a plan with this form
pub made_plan : (bytes : List ℕ) (root : Flow) (store : List Bind) (defer : Bool) (plan : PlanValue) → whole (read_plan bytes) ≡ Some (written_of root store defer) → plan ≡ record { root = root; store = store; defer = defer }
    → IsPlan plan × (plan_bytes plan ≡ bytes)
made_plan bytes root store defer plan read is =
    let made = plan_made bytes (written_of root store defer) read in
    rw is (record { root = made.0.root.good; store = made.0.store }, made.1)

-- a form is that of plans that are written alike
pub plan_one : (p q : PlanValue) → first_refusal p.root p.store ≡ None → first_refusal q.root q.store ≡ None → KeepsLimits p → KeepsLimits q → plan_bytes p ≡ plan_bytes q
    → (as_written (tree_of p.root) ≡ as_written (tree_of q.root)) × (p.store ≡ q.store) × (p.defer ≡ q.defer)
plan_one p q accepted_p accepted_q good_p good_q same =
    let both : Some (written_plan p) ≡ Some (written_plan q) = sym (found p accepted_p good_p) ∙ ap (λ bytes. whole (read_plan bytes)) same ∙ found q accepted_q good_q in
    let one : written_plan p ≡ written_plan q = cc in
    (ap (λ w. w.root) one, ap (λ w. w.store) one, ap (λ w. w.defer) one)

-- ---- faults

pub this_fault : {T : Type 0} (e f : MakeFault) → IsErrOf {T = T} (Err e) f → e ≡ f
this_fault e f is = cc

-- the same fault of a result of another type
pub passed_fault : {S T : Type 0} (e f : MakeFault) → IsErrOf {T = S} (Err e) f → IsErrOf {T = T} (Err e) f
passed_fault e f is = let same : e ≡ f = cc in ap (λ (x : MakeFault). Err x) same
