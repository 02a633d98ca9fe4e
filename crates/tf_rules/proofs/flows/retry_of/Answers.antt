use Rattle.std.proofs.Common.{◌≡◌, ℕ, Some, true, Option, sym, subst, ◌∙◌}
use Rattle.std.specs.Prelude.{IfSome}
use Rattle.tf_model.specs.Plan.{outline_of, is_retry}
use Rattle.tf_rules.proofs.FlowLemmas.{retry_nowhere, no_retry, stands_in, stands_named, stands_retry}
use Rattle.tf_rules.proofs.NameLemmas.{named_at}
use Rattle.tf_rules.proofs.flows.retry_of.Goals as goal

pub returns-in_err-flow-clause-number : goal.returns-in_err-flow-clause-number
returns-in_err-flow-clause-number c = c.from_residual.ensures ∙ sym (retry_nowhere c.args.plan.now c.args.flow (sym c.in_err-flow.ensures.flow))

pub returns-in_err-retry-clause-number : goal.returns-in_err-retry-clause-number
returns-in_err-retry-clause-number c = c.from_residual-in_err-retry.ensures
    ∙ sym (no_retry c.args.plan.now c.args.flow c.in_ok-flow.flow.now (sym c.in_ok-flow.ensures.flow) (sym c.in_err-retry.ensures.value))

pub returns-clause-number : goal.returns-clause-number
returns-clause-number c =
    let stands = stands_in c.args.plan.now c.args.flow c.in_ok-flow.flow.now c.in_ok-retry.retry.now (sym c.in_ok-flow.ensures.flow) (sym c.in_ok-retry.ensures.value) in
    c.find.ensures.number
    ∙ (named_at c.args.plan.now stands.number c.in_ok-retry.retry.now.name c.root-root.ensures.accepted (stands_named c.args.plan.now stands.number c.in_ok-retry.retry.now stands.there)
    ∙ sym stands.is)

pub returns-clause-retry : goal.returns-clause-retry
returns-clause-retry c =
    let stands = stands_in c.args.plan.now c.args.flow c.in_ok-flow.flow.now c.in_ok-retry.retry.now (sym c.in_ok-flow.ensures.flow) (sym c.in_ok-retry.ensures.value) in
    let found : c.find.result ≡ Some stands.number = c.find.ensures.number
    ∙ named_at c.args.plan.now stands.number c.in_ok-retry.retry.now.name c.root-root.ensures.accepted (stands_named c.args.plan.now stands.number c.in_ok-retry.retry.now stands.there) in
    subst (λ (o : Option ℕ). IfSome o (λ r. is_retry (outline_of c.args.plan.now) r ≡ true)) (sym found) (stands_retry c.args.plan.now stands.number c.in_ok-retry.retry.now stands.there)
