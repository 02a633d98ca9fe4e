use Rattle.std.proofs.Common.{◌≡◌, None, sym, refl, subst}
use Rattle.tf_flow.specs.Plan.{PlanValue}
use Rattle.tf_model.specs.Plan.{compile_refusal, outline_of, count}
use Rattle.tf_model.specs.Scope.{missing_symbol}
use Rattle.tf_bound.specs.Short.{IsWithinLimits}
use Rattle.tf_machine.specs.Tries.{HasFewTries}
use Rattle.tf_machine.proofs.MachineLemmas.{stands_first, sound_first}
use Rattle.tf_machine.proofs.machine.Machine.make.Goals as goal

pub invariant_of-result : goal.invariant_of-result
invariant_of-result c = record {
  sound = sound_first _ (count (outline_of c.in_ok-compiled.compiled))
      (subst (λ (p : PlanValue). compile_refusal p ≡ None) (sym c.in_ok-compiled.ensures.given) c.in_ok-compiled.ensures.accepted)
      (subst (λ (p : PlanValue). missing_symbol (outline_of p) ≡ None) (sym c.in_ok-compiled.ensures.given) c.in_ok-compiled.ensures.complete)
      (subst (λ (p : PlanValue). HasFewTries (outline_of p)) (sym c.in_ok-compiled.ensures.given) c.tries_are_few.ensures)
      (subst (λ (p : PlanValue). IsWithinLimits (outline_of p)) (sym c.in_ok-compiled.ensures.given) c.plan_is_within_limits.ensures)
      refl c.in-Ok.ensures.views c.in-Ok.ensures.places c.in-Ok.ensures.flow;
  counted = c.in-Ok.ensures.counted;
  listed = c.in-Ok-make.ensures _;
}

pub returns-clause-empty : goal.returns-clause-empty
returns-clause-empty c = stands_first _ (count (outline_of c.in_ok-compiled.compiled)) c.in-Ok.ensures.views c.in-Ok.ensures.places c.in-Ok.ensures.flow
