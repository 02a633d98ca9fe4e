use Rattle.std.proofs.Common.{◌≡◌, ◌∙◌, ◌+◌, ◌-◌, ◌<◌, suc, ℕ, Bool, Some, Option, cond, nat_eq, length, drop, slice_index_or, ap, arith}
use Rattle.std.specs.List.{position_from}
use Rattle.tf_scopes.specs.Standing.{is_one}
use Rattle.tf_scopes.proofs.PlaceLemmas.{place_before}
use Rattle.tf_scopes.proofs.standing.places_of.Goals as goal

pub loop-i-preserved : goal.loop-i-preserved
loop-i-preserved c = λ n.
    let some = c.loop-i-test.true in
    let most = c.loop-i.auto.i in
    let next : c.loop-i.i ≡ suc (c.loop-i.i - 1) = omega (arith, some) in
    let more : c.loop-i.i ≡ (c.loop-i.i - 1) + 1 = omega (arith, some) in
    let below : c.loop-i.i - 1 < length c.args.order.now = omega (arith, some, most) in
    let here : Bool = nat_eq (slice_index_or c.args.order.now (c.loop-i.i - 1) 0) n in
    c.in_ok-insert.ensures.updates.0 n
    ∙ ap (λ (o : Option ℕ). cond here (Some (c.loop-i.i - 1)) o) (c.loop-i.invariant n ∙ ap (λ (j : ℕ). position_from (is_one n) c.loop-i.i (drop j c.args.order.now)) next)
    ∙ place_before n c.args.order.now (c.loop-i.i - 1) (c.loop-i.i - 1) c.loop-i.i below more
