use Rattle.std.proofs.Common.{sym, subst}
use Rattle.tf_flow.specs.Plan.{PlanValue}
use Rattle.tf_details.specs.Elements.{IsEntryOf, no_step}
use Rattle.tf_details.proofs.details.Details.decode.Goals as goal

pub returns-clause-refused : goal.returns-clause-refused
returns-clause-refused c = λ is book are.
    no_step c.machine.result.now.plan (c.machine.ensures.plan book are)
    (λ e is_entry step. c.decode_entry.ensures.refused is e (subst (λ (p : PlanValue). IsEntryOf p e) (sym c.plan.ensures.is) is_entry))
