-- For callers: passes that take turns one at a time are all still there.
use Rattle.std.proofs.Common.{◌≡◌, ℕ, ◌<◌, List, length, slice_index_or, slice_set, sym, subst, ◌∙◌, arith, length-set, get_or-set_same, get_or-set_other}
use mathlib.Core.Logic.{dite}
use native.Mathlib.Decide.{ℕ_discrete}
use Rattle.tf_turnstile.specs.Passes.{TurnstileValue, PassValue, IsIdle, AreAll}

module _ {B E : Type 0} where
  -- the pass of this number has taken a turn
  pub are_all_after : (turnstile : TurnstileValue B) (passes : List (PassValue B E)) (i : ℕ) (pass : PassValue B E) → i < length passes → AreAll turnstile passes → IsIdle turnstile i pass → AreAll turnstile (slice_set passes i pass)
  are_all_after turnstile passes i pass there all idle =
      let long : length (slice_set passes i pass) ≡ length passes = length-set passes i pass in record {
        count = long ∙ all.count;
        each = λ j d lt. let within : j < length passes = omega (arith, lt, long) in dite (ℕ_discrete j i)
            (λ e. let P : ℕ → Type 0 = λ k. IsIdle turnstile k (slice_index_or (slice_set passes i pass) k d) in
            let Q : PassValue B E → Type 0 = λ p. IsIdle turnstile i p in
            subst P (sym e) (subst Q (sym (get_or-set_same passes i pass d there)) idle))
            (λ ne. let Q : PassValue B E → Type 0 = λ p. IsIdle turnstile j p in subst Q (sym (get_or-set_other passes i j pass d ne)) (all.each j d within));
      }
