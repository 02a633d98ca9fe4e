use Rattle.std.proofs.Common.{◌≡◌, ◌∷◌, Option, subst, arith, ◌∙◌}
use Rattle.tf_machine.specs.Machine.{outline}
use Rattle.tf_audit.specs.declared.verdicts.Why.{Why}
use Rattle.tf_audit.specs.Verdicts.{log_lines}
use Rattle.tf_audit.specs.Progress.{TakesLine}
use Rattle.tf_audit.proofs.ProgressLemmas.{followed_more, followed_bad, followed_all}
use Rattle.tf_audit.proofs.auditing.audit_with.Goals as goal

pub returns-in-Some-2-clause-verdict : goal.returns-in-Some-2-clause-verdict
returns-in-Some-2-clause-verdict c =
    let first : log_lines c.loop-text.rest.now ≡ c.in-Some.text.now ∷ log_lines c.in-Some.behind.now = c.in-Some.ensures.0 in
    let takes = subst (λ (o : Option Why). TakesLine c.loop-text.progress c.follow.new.self c.in-Some.text.now o) c.in-Some-2.is c.in_ok-why.ensures.follows in
    followed_bad (outline c.args.machine) c.args.log.now c.loop-text.rest.now c.in-Some.text.now c.in-Some.behind.now c.loop-text.line c.loop-text.progress c.follow.new.self c.in-Some-2.why c.loop-text.invariant.followed first takes

pub loop-text-preserved : goal.loop-text-preserved
loop-text-preserved c =
    let first : log_lines c.loop-text.rest.now ≡ c.in-Some.text.now ∷ log_lines c.in-Some.behind.now = c.in-Some.ensures.0 in
    let takes = subst (λ (o : Option Why). TakesLine c.loop-text.progress c.follow.new.self c.in-Some.text.now o) c.in_default-2.is c.in_ok-why.ensures.follows in
    record {
      ready = c.in_ok-why.ensures.ready;
      followed = followed_more (outline c.args.machine) c.args.log.now c.loop-text.rest.now c.in-Some.text.now c.in-Some.behind.now c.loop-text.line c.loop-text.progress c.follow.new.self c.loop-text.invariant.followed first takes;
      plan = c.follow.ensures.plan ∙ c.loop-text.invariant.plan;
      few = omega (arith, c.follow.ensures.few, c.loop-text.invariant.few);
      left = omega (arith, c.in-Some.ensures.1, c.loop-text.invariant.left);
    }

pub returns-clause-verdict : goal.returns-clause-verdict
returns-clause-verdict c =
    followed_all (outline c.args.machine) c.args.log.now c.loop-text.rest.now c.loop-text.line c.loop-text.progress c.legal-verdict.result c.loop-text.invariant.followed c.in_default.ensures (λ texts come. c.legal-verdict.ensures (outline c.args.machine) texts come)
