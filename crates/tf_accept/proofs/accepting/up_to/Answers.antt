use Rattle.std.proofs.Common.{Some, subst, sym}
use Rattle.tf_flow.specs.Plan.{PlanValue, plan_tree}
use Rattle.tf_target.specs.Target.{target_refusal, IsTargetAnswer}
use Rattle.tf_accept.specs.Accepted.{IsReason}
use Rattle.tf_accept.specs.declared.accepting.Refusal.{Refusal}
use Rattle.tf_accept.proofs.AcceptLemmas.{target_refused}
use Rattle.tf_accept.proofs.accepting.up_to.Goals as goal

pub returns-in-Err-clause-refused : goal.returns-in-Err-clause-refused
returns-in-Err-clause-refused c sets defer bytes whole =
    subst (λ (r : Refusal). IsReason sets defer (Some c.args.name.now) bytes r) (sym c.reason_of.ensures)
    (target_refused sets defer bytes c.args.name.now (plan_tree c.args.whole.now.plan) c.in-Err.fault whole
    (subst (λ (p : PlanValue). IsTargetAnswer (target_refusal (plan_tree p) c.args.name.now) c.in-Err.fault) c.plan.ensures.is c.in-Err.ensures.refused))
