use Rattle.std.proofs.Common.{Option, subst}
use Rattle.tf_flow.specs.Plan.{PlanValue}
use Rattle.tf_model.specs.Plan.{outline_of}
use Rattle.tf_audit.specs.declared.entries.Numbered.{Numbered}
use Rattle.tf_audit.specs.Verdicts.{IsLineOf, IsReading}
use Rattle.tf_audit.proofs.ProgressLemmas.{answer_follows}
use Rattle.tf_audit.proofs.progress.Progress.examine.Goals as goal

pub returns-clause-follows : goal.returns-clause-follows
returns-clause-follows c =
    let read : IsLineOf (outline_of c.plan.result.now) c.in-Some.read.number c.in-Some.read.entry c.args.text.now = subst (λ (o : Option Numbered). IsReading (outline_of c.plan.result.now) c.args.text.now o) c.in-Some.is c.in_ok-read.ensures.is in
    let here = subst (λ (p : PlanValue). IsLineOf (outline_of p) c.in-Some.read.number c.in-Some.read.entry c.args.text.now) c.plan.ensures.is read in
    answer_follows c.take.result c.args.self.now c.take.new.self c.args.text.now c.in-Some.read.number c.in-Some.read.entry c.requires.examined here c.if-read-self.false c.take.ensures.takes
