-- Refusals to compile and missing symbols as refusals to build.
use Rattle.std.specs.Prelude.{◌≡◌}
use Rattle.tf_order.specs.declared.faults.CompileFault.{CompileFault}
use Rattle.tf_order.specs.declared.faults.CompileFault.TheVariants as compile_fault
use Rattle.tf_scopes.specs.declared.faults.ScopeFault.{ScopeFault}
use Rattle.tf_scopes.specs.declared.faults.ScopeFault.TheVariants as scope_fault
use Rattle.tf_machine.specs.declared.faults.BuildFault.{BuildFault}
use Rattle.tf_machine.specs.declared.faults.BuildFault.TheVariants as build_fault

-- want of memory stays what it is, and any other fault is one of compilation
abbrev pub build_fault_of : CompileFault → BuildFault
build_fault_of compile_fault.Memory = build_fault.Memory
build_fault_of (compile_fault.Ambiguous symbol first second) =
    build_fault.Compile (compile_fault.Ambiguous symbol first second)
build_fault_of (compile_fault.Cycle names) = build_fault.Compile (compile_fault.Cycle names)

-- the fault is made of the other
abbrev pub build_gives : CompileFault → BuildFault → Type 0
build_gives fault made = made ≡ build_fault_of fault

-- the same of a symbol that is missing
abbrev pub build_fault_of_scope : ScopeFault → BuildFault
build_fault_of_scope scope_fault.Memory = build_fault.Memory
build_fault_of_scope (scope_fault.Missing atom symbol) = build_fault.Scope (scope_fault.Missing atom symbol)

-- the fault is made of the other
abbrev pub scope_gives : ScopeFault → BuildFault → Type 0
scope_gives fault made = made ≡ build_fault_of_scope fault
