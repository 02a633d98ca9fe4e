-- Which plans are refused, and which may begin.
use Rattle.std.proofs.Common.{◌≢◌, [], refl}
use Rattle.tf_flow.specs.Plan.{PlanValue}
use Rattle.tf_order.specs.declared.faults.CompileFault.TheVariants as compile_fault
use Rattle.tf_scopes.specs.declared.faults.ScopeFault.TheVariants as scope_fault
use Rattle.tf_entries.specs.Plans.{IsPlan}
use Rattle.tf_machine.specs.Answers.{IsBuildRefusal}
use Rattle.tf_machine.specs.declared.faults.BuildFault.{BuildFault}
use Rattle.tf_machine.specs.declared.faults.BuildFault.TheVariants as build_fault
use Rattle.tf_details.specs.Elements.{CanRun, IsAcceptedPlan, IsHistoryOf}

-- a plan of which no machine is made can't run
pub refused_plan : (plan : PlanValue) (fault : BuildFault) → fault ≢ build_fault.Memory → IsBuildRefusal plan fault → ¬ (CanRun plan)
refused_plan plan build_fault.Memory apart is = absurd (apart refl)
refused_plan plan (build_fault.Compile (compile_fault.Ambiguous symbol a b)) apart is = λ can. absurd (cc)
refused_plan plan (build_fault.Compile (compile_fault.Cycle names)) apart is = λ can. absurd (cc)
refused_plan plan (build_fault.Compile compile_fault.Memory) apart is = absurd (is.1 refl)
refused_plan plan (build_fault.Scope (scope_fault.Missing a symbol)) apart is = λ can. absurd (cc)
refused_plan plan (build_fault.Scope scope_fault.Memory) apart is = absurd (is.2 refl)

-- a plan that a book may hold has the empty history
pub not_begun : (plan : PlanValue) → IsAcceptedPlan plan → IsPlan plan → CanRun plan → IsHistoryOf plan []
not_begun plan accepted limits runs = record { accepted = accepted; limits = limits; runs = runs; legal = tt; forms = tt }
