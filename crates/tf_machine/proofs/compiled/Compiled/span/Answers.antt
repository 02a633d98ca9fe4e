use Rattle.std.proofs.Common.{refl, subst, arith}
use Rattle.tf_flow.specs.Plan.{PlanValue}
use Rattle.tf_model.specs.Plan.{outline_of}
use Rattle.tf_machine.specs.declared.compiled.Span.{Span}
use Rattle.tf_machine.specs.Compiled.{IsSpanOf}
use Rattle.tf_model.proofs.PlanLemmas.{atoms_counted}
use Rattle.tf_machine.proofs.SpanLemmas.{whole_span}
use Rattle.tf_machine.proofs.compiled.Compiled.span.Goals as goal

pub returns-in-None : goal.returns-in-None
returns-in-None c =
    let span : Span = record { first = 0; end = c.atoms.result } in
    subst (λ (plan : PlanValue). IsSpanOf (outline_of plan) c.args.flow span) c.self.view_is
    (whole_span (outline_of c.self.inside.plan) c.args.flow span refl (omega (arith, atoms_counted c.self.inside.plan, c.atoms.ensures.count)))
