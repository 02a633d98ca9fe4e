use Rattle.std.proofs.Common.{sym, subst}
use Rattle.tf_model.specs.Plan.{outline_of}
use Rattle.tf_machine.specs.declared.tables.Change.{Change}
use Rattle.tf_machine.specs.Changes.{Stays}
use Rattle.tf_machine.proofs.ChangeLemmas.{stays_begun, stays_resolved}
use Rattle.tf_machine.proofs.tables.reach_of.Goals as goal

pub returns-in-Begin-clause-others : goal.returns-in-Begin-clause-others
returns-in-Begin-clause-others c =
    subst (λ (change : Change). Stays (outline_of c.args.compiled.now) change c.span_of.result) (sym c.in-Begin.is)
    (stays_begun (outline_of c.args.compiled.now) c.in-Begin.own c.span_of.result c.span_of.ensures)

pub returns-in-Resolve-clause-others : goal.returns-in-Resolve-clause-others
returns-in-Resolve-clause-others c =
    subst (λ (change : Change). Stays (outline_of c.args.compiled.now) change c.span.result) (sym c.in-Resolve.is)
    (stays_resolved (outline_of c.args.compiled.now) c.in-Resolve.mark c.span.result c.span.ensures)
