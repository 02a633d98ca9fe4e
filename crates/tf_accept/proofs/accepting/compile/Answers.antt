use Rattle.tf_accept.proofs.AcceptLemmas.{compile_reason, scope_reason}
use Rattle.tf_accept.proofs.accepting.compile.Goals as goal

pub returns-in-Err-Compile-clause-refused : goal.returns-in-Err-Compile-clause-refused
returns-in-Err-Compile-clause-refused c sets defer target bytes spells =
    let told = rw c.in-Err-Compile.field-0-is at c.in-Err-Compile.ensures.refused in
    compile_reason sets defer target bytes c.args.plan c.in-Err-Compile.fault spells told.0 told.1

pub returns-in-Err-Scope-clause-refused : goal.returns-in-Err-Scope-clause-refused
returns-in-Err-Scope-clause-refused c sets defer target bytes spells =
    let told = rw c.in-Err-Scope.field-0-is at c.in-Err-Scope.ensures.refused in
    scope_reason sets defer target bytes c.args.plan c.in-Err-Scope.fault spells told.0 told.1 told.2
