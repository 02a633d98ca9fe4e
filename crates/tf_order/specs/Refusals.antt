-- The refusals of compilation as faults.
use Rattle.std.specs.Prelude.{◌≡◌, Option, Some}
use Rattle.tf_model.specs.Plan.{CompileRefusal, ambiguous, cycle}
use Rattle.tf_order.specs.declared.faults.CompileFault.{CompileFault}
use Rattle.tf_order.specs.declared.faults.CompileFault.TheVariants as fault

-- the fault is this refusal of a plan; want of memory says nothing of it
abbrev pub IsRefusedBy : Option CompileRefusal → CompileFault → Type 0
IsRefusedBy refusal (fault.Ambiguous symbol first second) = refusal ≡ Some (ambiguous symbol first second)
IsRefusedBy refusal (fault.Cycle names) = refusal ≡ Some (cycle names)
IsRefusedBy refusal fault.Memory = Unit {0}
