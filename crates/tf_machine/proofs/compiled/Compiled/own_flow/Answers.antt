use Rattle.std.proofs.Common.{◌≤◌, sym, ap, ◌∙◌, arith}
use Rattle.tf_flow.specs.Plan.{PlanValue}
use Rattle.tf_model.specs.Plan.{outline_of, count, own_flow}
use Rattle.tf_machine.proofs.PlanLemmas.{no_own_flow, own_flow_told}
use Rattle.tf_model.proofs.PlanLemmas.{atoms_counted}
use Rattle.tf_machine.proofs.compiled.Compiled.own_flow.Goals as goal

pub returns-then-atom-atoms : goal.returns-then-atom-atoms
returns-then-atom-atoms c =
    let past : count (outline_of c.self.inside.plan) ≤ c.args.atom = omega (arith, atoms_counted c.self.inside.plan, c.atoms.ensures.count, c.if-atom-atoms.true) in
    sym (no_own_flow (outline_of c.self.inside.plan) c.args.atom past) ∙ ap (λ (plan : PlanValue). own_flow (outline_of plan) c.args.atom) c.self.view_is

pub returns : goal.returns
returns c =
    c.last_flow.ensures
    ∙ (own_flow_told c.self.inside.plan c.args.atom c.path.result.now c.path.ensures ∙ ap (λ (plan : PlanValue). own_flow (outline_of plan) c.args.atom) c.self.view_is)
