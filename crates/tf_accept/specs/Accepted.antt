-- Which plan the bytes of a flow file give to run, and the first reason why they give none.
use Rattle.std.specs.Prelude.{◌≡◌, ℕ, List, Bool, true, false, Option, Some, None, Ok}
use Rattle.tf_files.specs.document.Reading.{is_memory as is_memory_fault}
use Rattle.tf_files.specs.declared.document.faults.FileFault.{FileFault}
use Rattle.tf_files.specs.FlowFile.{flow_of, IsBroken, IsFirstReason}
use Rattle.tf_flow.specs.Plan.{PlanTree, plan_as_written}
use Rattle.tf_flow.specs.declared.atoms.Bind.{Bind}
use Rattle.tf_flow.specs.declared.faults.PlanFault.{PlanFault}
use Rattle.tf_model.specs.Plan.{CompileRefusal, ambiguous, cycle, tree_refusal}
use Rattle.tf_model.specs.Scope.{Missing, missing_symbol}
use Rattle.tf_order.specs.declared.faults.CompileFault.{CompileFault}
use Rattle.tf_order.specs.declared.faults.CompileFault.TheVariants as compile_fault
use Rattle.tf_scopes.specs.declared.faults.ScopeFault.{ScopeFault}
use Rattle.tf_scopes.specs.declared.faults.ScopeFault.TheVariants as scope_fault
use Rattle.tf_target.specs.Target.{KeepsOrder, outline_in, target_refusal, IsTargetOf, LeavesNoneBefore}
use Rattle.tf_target.specs.declared.faults.TargetFault.{TargetFault}
use Rattle.tf_target.specs.declared.faults.TargetFault.TheVariants as target_fault
use Rattle.tf_accept.specs.declared.accepting.Refusal.{Refusal}
use Rattle.tf_accept.specs.declared.accepting.Refusal.TheVariants as refusal

-- the fault that tells a refusal of compilation
abbrev pub compile_fault_of : CompileRefusal → CompileFault
compile_fault_of (ambiguous symbol first second) = compile_fault.Ambiguous symbol first second
compile_fault_of (cycle names) = compile_fault.Cycle names

-- the fault that tells a symbol that nobody gives an atom
abbrev pub missing_fault : Missing → ScopeFault
missing_fault missing = scope_fault.Missing missing.atom missing.symbol

-- the bytes of a flow file spell the plan, with these values beside its store's and its reverts deferred or not, and it
-- passes no limit and breaks no rule of plans
pub record Spells (sets : List Bind) (defer : Bool) (bytes : List ℕ) (plan : PlanTree) : Type 0 where
  pub spelled : flow_of bytes sets defer ≡ Ok (plan_as_written plan)
  pub unbroken : (reason : PlanFault) → ¬ (IsBroken (plan_as_written plan) reason)

-- they give it whole: it compiles besides, and somebody gives each symbol
pub record GivesWhole (sets : List Bind) (defer : Bool) (bytes : List ℕ) (plan : PlanTree) : Type 0 where
  pub spells : Spells sets defer bytes plan
  pub compiles : tree_refusal plan.root (outline_in plan) ≡ None
  pub provided : missing_symbol (outline_in plan) ≡ None

-- the plan is what another has up to the target of a name: of its root, a graph flow, the item of that name and those
-- that reach it by links, with the links between them; it compiles and misses no symbol; links, order, scopes and
-- deciders are those of the other, and no item of its root that is left out comes before one that is kept
pub record IsUpTo (whole : PlanTree) (name : List ℕ) (plan : PlanTree) : Type 0 where
  pub unrefused : target_refusal whole name ≡ None
  pub kept : IsTargetOf whole name plan
  pub compiles : tree_refusal plan.root (outline_in plan) ≡ None
  pub provided : missing_symbol (outline_in plan) ≡ None
  pub order : KeepsOrder (outline_in whole) (outline_in plan)
  pub apart : LeavesNoneBefore whole name

-- they give it to run: whole where no target is named, else what the plan that they give whole has up to the target
pub data GivesPlan (sets : List Bind) (defer : Bool) (target : Option (List ℕ)) (bytes : List ℕ)
    (plan : PlanTree) : Type 0 where
  all_of_it : target ≡ None → GivesWhole sets defer bytes plan → GivesPlan sets defer target bytes plan
  up_to : (whole : PlanTree) (name : List ℕ) → target ≡ Some name → GivesWhole sets defer bytes whole
      → IsUpTo whole name plan → GivesPlan sets defer target bytes plan

-- nothing stands against the target of a plan, where one is named
abbrev pub MayTarget : Option (List ℕ) → PlanTree → Type 0
MayTarget None plan = Unit {0}
MayTarget (Some name) plan = target_refusal plan name ≡ None

-- this is the first reason why they give none
pub data GivesNone (sets : List Bind) (defer : Bool) (target : Option (List ℕ)) (bytes : List ℕ) : Refusal
    → Type 0 where
  -- they spell none, or one that passes a limit or breaks a rule
  misspelled : (fault : FileFault) → is_memory_fault fault ≡ false → IsFirstReason (flow_of bytes sets defer) fault
      → GivesNone sets defer target bytes (refusal.File fault)
  -- the plan that they spell doesn't compile
  uncompiled : (plan : PlanTree) (reason : CompileRefusal) → Spells sets defer bytes plan
      → tree_refusal plan.root (outline_in plan) ≡ Some reason
      → GivesNone sets defer target bytes (refusal.Compile (compile_fault_of reason))
  -- it compiles, and nobody gives one of its atoms a symbol
  unprovided : (plan : PlanTree) (missing : Missing) → Spells sets defer bytes plan
      → tree_refusal plan.root (outline_in plan) ≡ None
      → missing_symbol (outline_in plan) ≡ Some missing
      → GivesNone sets defer target bytes (refusal.Scope (missing_fault missing))
  -- they give it whole, and the target is refused
  untargeted : (plan : PlanTree) (name : List ℕ) (fault : TargetFault) → target ≡ Some name
      → GivesWhole sets defer bytes plan
      → target_refusal plan name ≡ Some fault → GivesNone sets defer target bytes (refusal.Target fault)

-- the reason that a refusal of a target is
abbrev pub target_reason : TargetFault → Refusal
target_reason target_fault.Memory = refusal.Memory
target_reason target_fault.NotAGraph = refusal.Target target_fault.NotAGraph
target_reason (target_fault.UnknownTarget name) = refusal.Target (target_fault.UnknownTarget name)
target_reason target_fault.Empty = refusal.Target target_fault.Empty

-- it is want of memory
abbrev pub is_want_of_memory : Refusal → Bool
is_want_of_memory refusal.Memory = true
is_want_of_memory reason = false

-- it is that reason, or want of memory
abbrev pub IsReason : List Bind → Bool → Option (List ℕ) → List ℕ → Refusal → Type 0
IsReason sets defer target bytes refusal.Memory = Unit {0}
IsReason sets defer target bytes reason = GivesNone sets defer target bytes reason
