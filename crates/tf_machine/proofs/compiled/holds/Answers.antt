use Rattle.std.proofs.Common.{◌≤◌, sym, ◌∙◌, arith}
use Rattle.tf_model.specs.Plan.{outline_of, count}
use Rattle.tf_machine.proofs.PlanLemmas.{never_held, holds_told}
use Rattle.tf_model.proofs.PlanLemmas.{atoms_counted}
use Rattle.tf_machine.proofs.compiled.holds.Goals as goal

pub returns-then-atom-atoms : goal.returns-then-atom-atoms
returns-then-atom-atoms c =
    let past : count (outline_of c.args.plan.now) ≤ c.args.atom = omega (arith, atoms_counted c.args.plan.now, c.atoms.ensures.count, c.if-atom-atoms.true) in
    sym (never_held (outline_of c.args.plan.now) c.args.flow c.args.atom past)

pub returns : goal.returns
returns c = c.passes_flow.ensures ∙ holds_told c.args.plan.now c.args.flow c.args.atom c.path.result.now c.path.ensures
