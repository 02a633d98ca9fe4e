use Rattle.std.proofs.Common.{◌≡◌, ◌∙◌, ap}
use Rattle.std.specs.Prelude.{option_map}
use Rattle.tf_flow.specs.declared.nested.Flow.{Flow}
use Rattle.tf_flow.specs.Tree.{tree_of}
use Rattle.tf_flow.specs.Paths.{shown_part, part_at}
use Rattle.tf_flow.proofs.ReadLemmas.{part_found}
use Rattle.tf_flow.proofs.plans.Plan.part.Goals as goal

pub returns : goal.returns
returns c =
    let reached : option_map shown_part c.part_in.result ≡ part_at (tree_of c.args.self.now.root) c.path.result.now =
    c.part_in.ensures ∙ ap (λ (f : Flow). part_at (tree_of f) c.path.result.now) c.root.ensures.value in
    part_found c.args.self.now c.args.atom c.path.result.now c.part_in.result c.unwrap.result c.path.ensures reached c.unwrap.ensures
