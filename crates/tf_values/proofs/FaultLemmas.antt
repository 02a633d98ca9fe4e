-- A fault that is passed on.
use Rattle.std.proofs.Common.{◌≡◌, Err, ap}
use Rattle.std.specs.Result.{IsErrOf}
use Rattle.tf_values.specs.declared.faults.MakeFault.{MakeFault}

-- the same fault of a result of another type
pub passed_on : {S T : Type 0} (e f : MakeFault) → IsErrOf {T = S} (Err e) f → IsErrOf {T = T} (Err e) f
passed_on e f is = let same : e ≡ f = cc in ap (λ (fault : MakeFault). Err fault) same
