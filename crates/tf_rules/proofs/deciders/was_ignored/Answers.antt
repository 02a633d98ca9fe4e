use Rattle.std.proofs.Common.{sym, ap, ◌∙◌}
use Rattle.tf_model.specs.Readiness.{was_ignored}
use Rattle.tf_rules.proofs.SeenLemmas.{found_named}
use Rattle.tf_rules.proofs.deciders.was_ignored.Goals as goal

pub returns-in-None : goal.returns-in-None
returns-in-None c = λ s shows. sym (ap (was_ignored s) (found_named c.args.seen.now.plan.now c.args.name.now ∙ sym c.in-None.ensures.number))

pub returns-in-Some : goal.returns-in-Some
returns-in-Some c = λ s shows. c.is_ignored.ensures s shows ∙ sym (ap (was_ignored s) (found_named c.args.seen.now.plan.now c.args.name.now ∙ sym c.in-Some.ensures.number))
