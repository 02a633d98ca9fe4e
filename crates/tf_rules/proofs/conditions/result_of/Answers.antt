use Rattle.std.proofs.Common.{Some, None, refl, sym, ap, ◌∙◌, Bool}
use Rattle.std.specs.Prelude.{if◌then◌else◌}
use Rattle.std.specs.List.{list_any}
use Rattle.tf_model.specs.History as views
use Rattle.tf_rules.specs.Seen.{begins_at, deciding}
use Rattle.tf_rules.proofs.SeenLemmas.{nothing_seen, this_seen, no_result}
use Rattle.tf_rules.proofs.conditions.result_of.Goals as goal

pub returns-in_err-source : goal.returns-in_err-source
returns-in_err-source c = λ s shows. rw c.from_residual.ensures
    (sym (nothing_seen c.args.seen.now.plan.now s c.args.name.now (deciding c.args.seen.now.task.now c.args.seen.now.links.now) None c.in_err-source.ensures.number refl))

pub returns-in_err-result : goal.returns-in_err-result
returns-in_err-result c = λ s shows. rw c.from_residual-in_err-result.ensures
    (sym (this_seen c.args.seen.now.plan.now s c.args.name.now (deciding c.args.seen.now.task.now c.args.seen.now.links.now) (Some c.in_ok-source.source) c.in_ok-source.source c.in_ok-source.ensures.number refl
    ∙ no_result (list_any (begins_at c.args.name.now) (deciding c.args.seen.now.task.now c.args.seen.now.links.now)) (views.result_of s c.in_ok-source.source) (sym (c.in_err-result.ensures s shows))))

pub returns-then-is_source : goal.returns-then-is_source
returns-then-is_source c = λ s shows.
    sym (this_seen c.args.seen.now.plan.now s c.args.name.now (deciding c.args.seen.now.task.now c.args.seen.now.links.now) (Some c.in_ok-source.source) c.in_ok-source.source c.in_ok-source.ensures.number refl
    ∙ (ap (λ (b : Bool). if b then views.result_of s c.in_ok-source.source else None) (sym c.is_source.ensures ∙ c.if-is_source.true) ∙ sym (c.in_ok-result.ensures s shows)))

pub returns-else-is_source : goal.returns-else-is_source
returns-else-is_source c = λ s shows.
    sym (this_seen c.args.seen.now.plan.now s c.args.name.now (deciding c.args.seen.now.task.now c.args.seen.now.links.now) (Some c.in_ok-source.source) c.in_ok-source.source c.in_ok-source.ensures.number refl
    ∙ ap (λ (b : Bool). if b then views.result_of s c.in_ok-source.source else None) (sym c.is_source.ensures ∙ c.if-is_source.false))
