use Rattle.std.proofs.Common.{arith, vec_capacity}
use Rattle.std.proofs.lemmas.Result.{err_from_is_err_and}
use Rattle.tf_values.specs.Scalars.{scalar_bytes}
use Rattle.tf_entries.proofs.AppendLemmas.{no_room}
use Rattle.tf_entries.proofs.appending.append_scalars.Goals as goal

pub returns-in_err-append_scalar-clause-full : goal.returns-in_err-append_scalar-clause-full
returns-in_err-append_scalar-clause-full c =
    let p = err_from_is_err_and c.from_residual.result c.from_residual.ensures.1 in
    rw p.1 (no_room scalar_bytes c.args.scalars.now c.loop-scalar.scalar-index c.scalar-item.result c.args.out.now.items c.loop-scalar.out.items (vec_capacity c.args.out.now) (vec_capacity c.loop-scalar.out)
    (omega arith) c.scalar-item.is c.loop-scalar.invariant.appended c.loop-scalar.invariant.room c.in_err-append_scalar.ensures.full)
