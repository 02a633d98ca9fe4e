use Rattle.std.proofs.Common.{◌≡◌, ◌<◌, ◌∙◌, ℕ, ℤ, false, sym, ap, subst, rules}
use Rattle.std.specs.Prelude.{int_lt}
use Rattle.tf_flow.specs.Plan.{PlanValue}
use Rattle.tf_model.specs.Plan.{outline_of, count}
use Rattle.tf_model.specs.Forced.{priority}
use Rattle.tf_machine.proofs.PlanLemmas.{none_outranks}
use Rattle.tf_machine.proofs.compiled.Compiled.is_outranked_by_none.Goals as goal

pub returns : goal.returns
returns c = λ lower.
    let plan = c.self.inside.plan in
    let told : c.is_less.result ≡ int_lt c.priority.result c.self.inside.greatest = search rules in
    subst (λ (p : PlanValue). (a : ℕ) → a < count (outline_of p) → int_lt (priority (outline_of p) c.args.atom) (priority (outline_of p) a) ≡ false) c.self.view_is
    (none_outranks (outline_of plan) c.self.inside.priorities.items c.self.inside.greatest (priority (outline_of plan) c.args.atom) c.is_less.result c.self.invariant.priorities c.self.invariant.greatest
    (told ∙ ap (λ (n : ℤ). int_lt n c.self.inside.greatest) (c.priority.ensures ∙ ap (λ (p : PlanValue). priority (outline_of p) c.args.atom) (sym c.self.view_is))) lower)
