use Rattle.std.proofs.Common.{◌<◌, length, sym, ap, ◌∙◌, subst, arith}
use Rattle.tf_flow.specs.Plan as numbering
use Rattle.tf_flow.specs.Plan.{PlanValue}
use Rattle.tf_model.specs.Plan.{outline_of, path}
use Rattle.tf_model.proofs.PlanLemmas.{atoms_counted, path_told}
use Rattle.tf_machine.proofs.compiled.Compiled.path.Goals as goal

pub path-requires : goal.path-requires
path-requires c = subst (λ (plan : PlanValue). c.args.atom < length (numbering.atoms plan)) (sym c.self.view_is) (omega (arith, c.requires, atoms_counted c.args.self.now))

pub returns : goal.returns
returns c =
    path_told c.self.inside.plan c.args.atom c.path.result.now c.path.ensures ∙ ap (λ (plan : PlanValue). path (outline_of plan) c.args.atom) c.self.view_is
