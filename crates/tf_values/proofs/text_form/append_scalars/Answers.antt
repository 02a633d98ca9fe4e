use Rattle.std.proofs.Common.{◌≡◌, ◌+◌, ◌<◌, ◌≤◌, ℕ, List, length, ap, ◌∙◌, arith, length-append, vec_capacity}
use Rattle.std.proofs.lemmas.Result.{err_from_is_err_and}
use Rattle.std.specs.List.{flat_map}
use Rattle.tf_values.specs.declared.elements.Scalar.{Scalar}
use Rattle.tf_values.specs.Value.{scalar_text, further_text, scalars_text}
use Rattle.tf_values.proofs.RoomLemmas.{no_room}
use Rattle.tf_values.proofs.text_form.append_scalars.Goals as goal

pub returns-in_err-append_further-clause-full : goal.returns-in_err-append_further-clause-full
returns-in_err-append_further-clause-full c =
    let p = err_from_is_err_and c.from_residual-in_err-append_further.result c.from_residual-in_err-append_further.ensures.1 in
    let first : List ℕ = scalar_text c.in-Some.first.now in
    let others : List ℕ = flat_map further_text c.in-Some.others.now in
    let room : vec_capacity c.args.out.now ≤ vec_capacity c.loop-scalar.out = omega (arith, c.append_scalar.ensures.capacity, c.loop-scalar.invariant.room) in
    let full : vec_capacity c.args.out.now < length c.append_scalar.new.out.items + length others =
    no_room further_text c.in-Some.others.now c.loop-scalar.scalar-index c.scalar-item.result c.scalar-item.result c.append_scalar.new.out.items c.loop-scalar.out.items (vec_capacity c.args.out.now)
    (vec_capacity c.loop-scalar.out) (omega arith) c.scalar-item.is c.loop-scalar.invariant.appended room c.in_err-append_further.ensures.full
    in
    let begun : length c.append_scalar.new.out.items ≡ length c.args.out.now.items + length first = ap length c.in_ok-append_scalar.ensures.ok ∙ length-append c.args.out.now.items first in
    let whole : length (scalars_text c.args.scalars.now) ≡ length first + length others = ap (λ (scalars : List Scalar). length (scalars_text scalars)) c.in-Some.ensures.cases.0 ∙ length-append first others in
    rw p.1 (omega arith)
