use Rattle.std.proofs.Common.{◌≡◌, ◌<◌, ◌-◌, ◌++◌, ◌∙◌, suc, ℕ, List, length, take, sym, ap, arith}
use Rattle.std.specs.Prelude.{reverse}
use Rattle.std.specs.List.{filter_map}
use Rattle.tf_model.specs.Plan.{outline_of}
use Rattle.tf_numbers.proofs.ListLemmas.{take_whole}
use Rattle.tf_scopes.specs.Sources.{givers}
use Rattle.tf_scopes.proofs.GiverLemmas.{at_front, givers_walked, walk_kept, walk_left}
use Rattle.tf_scopes.proofs.scope.find_givers.Goals as goal

pub loop-left-init : goal.loop-left-init
loop-left-init c =
    let places : List ℕ = c.places-places.result.now in (
      omega arith,
      λ plan is.
          let give = at_front (outline_of plan) c.args.scope.now.atom c.args.scope.now.front.now in
          ap (λ (xs : List ℕ). xs ++ filter_map give (reverse (take (length places) places))) c.new-found.ensures.items
          ∙ (ap (λ (xs : List ℕ). filter_map give (reverse xs)) (take_whole places (length places) (omega arith)) ∙ givers_walked c.args.scope.now plan c.args.symbol.now places is c.places-places.ensures),
    )

pub loop-left-preserved-in-Continue-1 : goal.loop-left-preserved-in-Continue-1
loop-left-preserved-in-Continue-1 c =
    let places : List ℕ = c.places-places.result.now in
    let within = c.loop-left.invariant.0 in
    let some = c.loop-left-test.true in
    let next : c.loop-left.left ≡ suc (c.loop-left.left - 1) = omega (arith, some) in
    let below : c.loop-left.left - 1 < length places = omega (arith, some, within) in (
      omega (arith, within),
      λ plan is. walk_kept (at_front (outline_of plan) c.args.scope.now.atom c.args.scope.now.front.now) places c.loop-left.found.items c.push.new.self.items (givers (outline_of plan) c.args.scope.now.atom c.args.symbol.now) c.loop-left.left
          (c.loop-left.left - 1) c.in-Some.member (c.loop-left.invariant.1 plan is) next below (sym (c.member_at.ensures plan is) ∙ c.in-Some.is) c.in_ok-push.ensures.items,
    )

pub loop-left-preserved : goal.loop-left-preserved
loop-left-preserved c =
    let places : List ℕ = c.places-places.result.now in
    let within = c.loop-left.invariant.0 in
    let some = c.loop-left-test.true in
    let next : c.loop-left.left ≡ suc (c.loop-left.left - 1) = omega (arith, some) in
    let below : c.loop-left.left - 1 < length places = omega (arith, some, within) in (
      omega (arith, within),
      λ plan is. walk_left (at_front (outline_of plan) c.args.scope.now.atom c.args.scope.now.front.now) places c.loop-left.found.items (givers (outline_of plan) c.args.scope.now.atom c.args.symbol.now) c.loop-left.left (c.loop-left.left - 1)
          (c.loop-left.invariant.1 plan is) next below (sym (c.member_at.ensures plan is) ∙ c.in_default.is),
    )
