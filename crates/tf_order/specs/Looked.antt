-- What is found of a flow when it is looked at.
use Rattle.std.specs.Prelude.{List, Option, Some, None}
use Rattle.tf_model.specs.Before.{Flow, arrange}
use Rattle.tf_model.specs.Plan.{CompileRefusal, ambiguous, cycle, refusal_of}
use Rattle.tf_order.specs.declared.faults.CompileFault.{CompileFault}
use Rattle.tf_order.specs.declared.faults.CompileFault.TheVariants as fault
use Rattle.tf_order.specs.declared.context.Context.{Context}
use Rattle.tf_order.specs.Context.{atoms_seen, place_seen}

-- the refusal that a fault tells; want of memory tells none
abbrev pub told_by : CompileFault → Option CompileRefusal
told_by (fault.Ambiguous symbol first second) = Some (ambiguous symbol first second)
told_by (fault.Cycle names) = Some (cycle names)
told_by fault.Memory = None

-- the same, where there is a fault
abbrev pub told_in : Option CompileFault → Option CompileRefusal
told_in None = None
told_in (Some found) = told_by found

-- the flow that is looked at as it is arranged, beside those that are arranged already
abbrev pub arranged_seen : Context → List Flow → Flow
arranged_seen context inner = arrange (atoms_seen context) inner (place_seen context)

-- its refusal
abbrev pub refusal_seen : Context → List Flow → Option CompileRefusal
refusal_seen context inner = refusal_of (atoms_seen context) inner (arranged_seen context inner)
