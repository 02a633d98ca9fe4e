use Rattle.std.proofs.Common.{arith, vec_capacity, get_or, refl}
use Rattle.std.proofs.lemmas.Result.{err_from_is_err_and}
use Rattle.tf_values.specs.Value.{quoted_byte}
use Rattle.tf_values.proofs.RoomLemmas.{no_room}
use Rattle.tf_values.proofs.text_form.append_quoted_bytes.Goals as goal

pub returns-in_err-append_quoted_byte-clause-full : goal.returns-in_err-append_quoted_byte-clause-full
returns-in_err-append_quoted_byte-clause-full c =
    let p = err_from_is_err_and c.from_residual.result c.from_residual.ensures.1 in
    rw p.1 (no_room quoted_byte c.args.text.now c.loop-byte.byte-index (get_or c.args.text.now c.loop-byte.byte-index 0) 0 c.args.out.now.items c.loop-byte.out.items (vec_capacity c.args.out.now) (vec_capacity c.loop-byte.out)
    (omega arith) refl c.loop-byte.invariant.appended c.loop-byte.invariant.room c.in_err-append_quoted_byte.ensures.full)
