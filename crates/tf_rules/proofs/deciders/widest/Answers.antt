use Rattle.std.proofs.Common.{◌∙◌}
use Rattle.tf_model.specs.Plan.{outline_of}
use Rattle.tf_rules.specs.Seen.{deciding}
use Rattle.tf_rules.proofs.DepthLemmas.{deciding_told, refused_told}
use Rattle.tf_model.proofs.PlanLemmas.{name_told}
use Rattle.tf_rules.proofs.deciders.widest.Goals as goal

pub returns : goal.returns
returns c = λ s shows.
    c.widest_of.ensures s shows
    ∙ refused_told (outline_of c.args.plan.now) s c.args.atom (deciding c.atom_name.result.now c.links_around.result.now)
    (deciding_told (outline_of c.args.plan.now) c.args.atom c.atom_name.result.now c.links_around.result.now c.links_around.ensures (name_told c.args.plan.now c.args.atom c.atom_name.result.now c.atom_name.ensures))
