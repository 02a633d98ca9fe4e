-- A flow file that gives a plan doesn't give none, and the faults of a machine are reasons.
use Rattle.std.proofs.Common.{◌≡◌, ℕ, List, Bool, false, Option, Some, None, refl, sym, ap, ◌∙◌, subst}
use Rattle.std.specs.Prelude.{Result, Ok, Err, IfOk, IfErr}
use Rattle.tf_files.specs.document.Reading.{is_memory as is_memory_fault}
use Rattle.tf_files.specs.declared.document.faults.FileFault.{FileFault}
use Rattle.tf_files.proofs.OutlineLemmas.{atoms_alike, flows_alike, innermost_alike}
use Rattle.tf_files.specs.FlowFile.{flow_of, IsBroken, IsFirstReason, unspelled, broken, no_memory}
use Rattle.tf_flow.specs.Plan.{PlanTree, plan_tree, WrittenPlan, plan_as_written, as_written, PlanValue}
use Rattle.tf_flow.specs.Outline.{Atom, FlowPlace, atoms_of, flows_of}
use Rattle.tf_flow.specs.declared.atoms.Bind.{Bind}
use Rattle.tf_model.specs.Plan.{ambiguous, cycle, tree_refusal, compile_refusal, refusal_at, Outline, outline_of, outline_with}
use Rattle.tf_model.specs.Scope.{missing_symbol}
use Rattle.tf_machine.specs.Machine.{MachineValue}
use Rattle.tf_flow.specs.Tree.{first_some}
use Rattle.tf_order.specs.Refusals.{IsRefusedBy}
use Rattle.tf_order.specs.declared.faults.CompileFault.{CompileFault}
use Rattle.tf_order.specs.declared.faults.CompileFault.TheVariants as compile_fault
use Rattle.tf_scopes.specs.Providers.{IsMissing}
use Rattle.tf_scopes.specs.declared.faults.ScopeFault.{ScopeFault}
use Rattle.tf_scopes.specs.declared.faults.ScopeFault.TheVariants as scope_fault
use Rattle.tf_target.specs.Target.{outline_in, target_refusal, IsTargetAnswer}
use Rattle.tf_target.proofs.AlikeLemmas.{same_target}
use Rattle.tf_target.specs.declared.faults.TargetFault.{TargetFault}
use Rattle.tf_target.specs.declared.faults.TargetFault.TheVariants as target_fault
use Rattle.tf_accept.specs.Accepted.{Spells, GivesWhole, IsUpTo, GivesPlan, all_of_it, up_to, MayTarget, GivesNone, IsReason, misspelled, uncompiled, unprovided, untargeted, target_reason}
use Rattle.tf_accept.specs.declared.accepting.Refusal.{Refusal}
use Rattle.tf_accept.specs.declared.accepting.Refusal.TheVariants as refusal

-- ---- plans that are written alike are alike to a run

pub same_outline : (p q : PlanTree) → plan_as_written p ≡ plan_as_written q → outline_in p ≡ outline_in q
same_outline p q same =
    let root : as_written p.root ≡ as_written q.root = ap (λ (w : WrittenPlan). w.root) same in
    let store : p.store ≡ q.store = ap (λ (w : WrittenPlan). w.store) same in
    let defer : p.defer ≡ q.defer = ap (λ (w : WrittenPlan). w.defer) same in
    ap (λ (atoms : List Atom). outline_with atoms (flows_of 0 0 p.root) p.store p.defer) (atoms_alike 0 p.root q.root root)
    ∙ (ap (λ (places : List FlowPlace). outline_with (atoms_of 0 q.root) places p.store p.defer) (flows_alike 0 0 p.root q.root root)
    ∙ (ap (λ (values : List Bind). outline_with (atoms_of 0 q.root) (flows_of 0 0 q.root) values p.defer) store
    ∙ ap (λ (b : Bool). outline_with (atoms_of 0 q.root) (flows_of 0 0 q.root) q.store b) defer))

pub same_refusal : (p q : PlanTree) → plan_as_written p ≡ plan_as_written q → tree_refusal p.root (outline_in p) ≡ tree_refusal q.root (outline_in q)
same_refusal p q same =
    let root : as_written p.root ≡ as_written q.root = ap (λ (w : WrittenPlan). w.root) same in
    ap (λ (order : List ℕ). first_some (refusal_at (outline_in p)) order) (innermost_alike 0 p.root q.root root)
    ∙ ap (λ (outline : Outline). tree_refusal q.root outline) (same_outline p q same)

written_once : (sets : List Bind) (defer : Bool) (bytes : List ℕ) (p q : PlanTree) → Spells sets defer bytes p → Spells sets defer bytes q → plan_as_written p ≡ plan_as_written q
written_once sets defer bytes p q first second =
    let twice : Ok (plan_as_written p) ≡ flow_of bytes sets defer = sym first.spelled in
    let both : flow_of bytes sets defer ≡ Ok (plan_as_written q) = second.spelled in
    ok_once (flow_of bytes sets defer) (plan_as_written p) (plan_as_written q) first.spelled second.spelled
  where
    ok_once : (r : Result WrittenPlan FileFault) (v w : WrittenPlan) → r ≡ Ok v → r ≡ Ok w → v ≡ w
    ok_once (Ok x) v w one other = let left : x ≡ v = cc in let right : x ≡ w = cc in sym left ∙ right
    ok_once (Err x) v w one other = absurd (cc)

-- ---- a file that gives a plan doesn't give none

spelled_is : (sets : List Bind) (defer : Bool) (bytes : List ℕ) (plan : PlanTree) (fault : FileFault) → Spells sets defer bytes plan → is_memory_fault fault ≡ false
    → IsFirstReason (flow_of bytes sets defer) fault → ⊥
spelled_is sets defer bytes plan fault spells kept (unspelled reason is) = let spelled = spells.spelled in absurd (cc)
spelled_is sets defer bytes plan _ spells kept (broken other reason is breaks) =
    spells.unbroken reason (subst (λ (w : WrittenPlan). IsBroken w reason) (ok_once (flow_of bytes sets defer) other (plan_as_written plan) is spells.spelled) breaks)
  where
    ok_once : (r : Result WrittenPlan FileFault) (v w : WrittenPlan) → r ≡ Ok v → r ≡ Ok w → v ≡ w
    ok_once (Ok x) v w one two = let left : x ≡ v = cc in let right : x ≡ w = cc in sym left ∙ right
    ok_once (Err x) v w one two = absurd (cc)
spelled_is sets defer bytes plan _ spells kept no_memory = absurd (cc)

-- the target of plans that are written alike
same_refused : (p q : PlanTree) (name : List ℕ) → plan_as_written p ≡ plan_as_written q → target_refusal p name ≡ target_refusal q name
same_refused p q name same = same_target p q (ap (λ (w : WrittenPlan). w.root) same) (ap (λ (w : WrittenPlan). w.store) same) (ap (λ (w : WrittenPlan). w.defer) same) name

may_target : (target : Option (List ℕ)) (plan : PlanTree) (name : List ℕ) → target ≡ Some name → MayTarget target plan → target_refusal plan name ≡ None
may_target None plan name is may = absurd (cc)
may_target (Some other) plan name is may = let same : other ≡ name = cc in ap (target_refusal plan) (sym same) ∙ may

pub gives_one : (sets : List Bind) (defer : Bool) (target : Option (List ℕ)) (bytes : List ℕ) (plan : PlanTree) (why : Refusal) → GivesWhole sets defer bytes plan → MayTarget target plan
    → GivesNone sets defer target bytes why → ⊥
gives_one sets defer target bytes plan _ gives may (misspelled fault kept reason) = spelled_is sets defer bytes plan fault gives.spells kept reason
gives_one sets defer target bytes plan _ gives may (uncompiled other reason spells is) =
    let none : tree_refusal other.root (outline_in other) ≡ None = same_refusal other plan (written_once sets defer bytes other plan spells gives.spells) ∙ gives.compiles in
    absurd (cc)
gives_one sets defer target bytes plan _ gives may (unprovided other missing spells compiles is) =
    let none : missing_symbol (outline_in other) ≡ None = ap missing_symbol (same_outline other plan (written_once sets defer bytes other plan spells gives.spells)) ∙ gives.provided in
    absurd (cc)
gives_one sets defer target bytes plan _ gives may (untargeted other name fault named whole is) =
    let none : target_refusal other name ≡ None = same_refused other plan name (written_once sets defer bytes other plan whole.spells gives.spells) ∙ may_target target plan name named may in
    let both : Some fault ≡ None = sym is ∙ none in
    absurd (cc)

-- ---- the faults of a machine are reasons

pub compile_reason : (sets : List Bind) (defer : Bool) (target : Option (List ℕ)) (bytes : List ℕ) (plan : PlanValue) (fault : CompileFault) → Spells sets defer bytes (plan_tree plan)
    → IsRefusedBy (compile_refusal plan) fault → ¬ (fault ≡ compile_fault.Memory) → GivesNone sets defer target bytes (refusal.Compile fault)
compile_reason sets defer target bytes plan compile_fault.Memory spells refused kept = absurd (kept refl)
compile_reason sets defer target bytes plan (compile_fault.Ambiguous symbol first second) spells refused kept = uncompiled (plan_tree plan) (ambiguous symbol first second) spells refused
compile_reason sets defer target bytes plan (compile_fault.Cycle names) spells refused kept = uncompiled (plan_tree plan) (cycle names) spells refused

pub scope_reason : (sets : List Bind) (defer : Bool) (target : Option (List ℕ)) (bytes : List ℕ) (plan : PlanValue) (fault : ScopeFault) → Spells sets defer bytes (plan_tree plan) → compile_refusal plan ≡ None
    → IsMissing (missing_symbol (outline_of plan)) fault → ¬ (fault ≡ scope_fault.Memory) → GivesNone sets defer target bytes (refusal.Scope fault)
scope_reason sets defer target bytes plan scope_fault.Memory spells compiles missing kept = absurd (kept refl)
scope_reason sets defer target bytes plan (scope_fault.Missing atom symbol) spells compiles missing kept = unprovided (plan_tree plan) (record { atom = atom; symbol = symbol }) spells compiles missing

-- ---- the plan that is given

-- that of a machine whose plan the bytes spell
pub given_whole : (sets : List Bind) (defer : Bool) (bytes : List ℕ) (plan : PlanValue) (m : MachineValue) → Spells sets defer bytes (plan_tree plan) → m.plan ≡ plan → compile_refusal plan ≡ None
    → missing_symbol (outline_of plan) ≡ None → GivesWhole sets defer bytes (plan_tree m.plan)
given_whole sets defer bytes plan m spells is compiles provided =
    subst (λ (p : PlanValue). GivesWhole sets defer bytes (plan_tree p)) (sym is) (record { spells = spells; compiles = compiles; provided = provided })

-- what it has up to the target
pub given_up_to : (sets : List Bind) (defer : Bool) (target : Option (List ℕ)) (bytes : List ℕ) (whole : PlanTree) (name : List ℕ) (r : Result MachineValue Refusal) → target ≡ Some name
    → GivesWhole sets defer bytes whole → IfOk r (λ m. IsUpTo whole name (plan_tree m.plan)) → IfOk r (λ m. GivesPlan sets defer target bytes (plan_tree m.plan))
given_up_to sets defer target bytes whole name (Ok m) is given kept = up_to whole name is given kept
given_up_to sets defer target bytes whole name (Err why) is given kept = tt

-- the refusal of the target
pub refused_target : (sets : List Bind) (defer : Bool) (target : Option (List ℕ)) (bytes name : List ℕ) (r : Result MachineValue Refusal) → target ≡ Some name
    → IfErr r (IsReason sets defer (Some name) bytes) → IfErr r (IsReason sets defer target bytes)
refused_target sets defer target bytes name r is refused = subst (λ (t : Option (List ℕ)). IfErr r (IsReason sets defer t bytes)) (sym is) refused

-- a refusal of a target of a plan that the bytes give whole is a reason
pub target_refused : (sets : List Bind) (defer : Bool) (bytes name : List ℕ) (plan : PlanTree) (fault : TargetFault) → GivesWhole sets defer bytes plan
    → IsTargetAnswer (target_refusal plan name) fault → IsReason sets defer (Some name) bytes (target_reason fault)
target_refused sets defer bytes name plan target_fault.Memory whole answer = tt
target_refused sets defer bytes name plan target_fault.NotAGraph whole answer = untargeted plan name target_fault.NotAGraph refl whole answer
target_refused sets defer bytes name plan (target_fault.UnknownTarget other) whole answer = untargeted plan name (target_fault.UnknownTarget other) refl whole answer
target_refused sets defer bytes name plan target_fault.Empty whole answer = untargeted plan name target_fault.Empty refl whole answer
