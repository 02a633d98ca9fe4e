-- What a machine answers, by what it shows.
use Rattle.std.specs.Prelude.{◌≡◌, ◌≢◌, ℕ, List, None, map}
use Rattle.tf_states.specs.declared.record.AtomView.{AtomView}
use Rattle.tf_states.specs.declared.record.Entry.{Entry}
use Rattle.tf_states.specs.declared.record.Payload.TheVariants as payload
use Rattle.tf_states.specs.declared.record.What.TheVariants as what
use Rattle.tf_states.specs.declared.state.AtomState.TheVariants as atom
use Rattle.tf_actions.specs.declared.outcomes.Action.TheVariants as action
use Rattle.tf_actions.specs.declared.outcomes.Outcome.TheVariants as outcome
use Rattle.tf_order.specs.declared.faults.CompileFault.TheVariants as compile_fault
use Rattle.tf_order.specs.Refusals.{IsRefusedBy}
use Rattle.tf_machine.specs.declared.faults.ApplyFault.{ApplyFault}
use Rattle.tf_machine.specs.declared.faults.ApplyFault.TheVariants as apply_fault
use Rattle.tf_machine.specs.declared.faults.BuildFault.{BuildFault}
use Rattle.tf_machine.specs.declared.faults.BuildFault.TheVariants as build_fault
use Rattle.tf_flow.specs.Plan.{PlanValue}
use Rattle.tf_scopes.specs.declared.faults.ScopeFault.TheVariants as scope_fault
use Rattle.tf_scopes.specs.Providers.{IsMissing}
use Rattle.tf_model.specs.Plan.{compile_refusal, Outline, outline_of, count}
use Rattle.tf_model.specs.Scope.{missing_symbol}
use Rattle.tf_numbers.specs.Numbers.{numbers_below}
use Rattle.tf_model.specs.History.{Snapshot}

-- the view of atom a
abbrev pub view_at : Snapshot → ℕ → AtomView
view_at s a = record { state = s.state a; payload = s.payload a }

-- the views of all atoms, by their numbers
abbrev pub views_of : Outline → Snapshot → List AtomView
views_of plan s = map (view_at s) (numbers_below (count plan))

-- the fault is the plan's first refusal: to compile it, or else the symbol that is missing; want of memory says nothing
-- of it, and is neither
abbrev pub IsBuildRefusal : PlanValue → BuildFault → Type 0
IsBuildRefusal plan (build_fault.Compile fault) =
    IsRefusedBy (compile_refusal plan) fault × (fault ≢ compile_fault.Memory)
IsBuildRefusal plan (build_fault.Scope fault) =
    (compile_refusal plan ≡ None) × IsMissing (missing_symbol (outline_of plan)) fault × (fault ≢ scope_fault.Memory)
IsBuildRefusal plan build_fault.Memory = Unit {0}

-- the entry comes back
abbrev pub IsBack : Entry → ApplyFault → Type 0
IsBack e (apply_fault.NotAStep back) = back ≡ e
IsBack e (apply_fault.Memory back) = back ≡ e
