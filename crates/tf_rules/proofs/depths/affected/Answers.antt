use Rattle.std.proofs.Common.{sym, ◌∙◌}
use Rattle.tf_flow.specs.declared.deciders.Depth.TheVariants as depth
use Rattle.tf_model.specs.Readiness.{is_sibling}
use Rattle.tf_model.specs.Plan.{outline_of, is_before}
use Rattle.tf_rules.proofs.NeighborLemmas.{itself, by_depth, both_hold, first_fails}
use Rattle.tf_rules.proofs.depths.affected.Goals as goal

pub returns-then-refused-atom : goal.returns-then-refused-atom
returns-then-refused-atom c = itself (outline_of c.args.plan.now) c.args.refused c.args.depth c.args.atom c.if-refused-atom.true

pub returns-in-All : goal.returns-in-All
returns-in-All c =
    c.is_before.ensures c.args.plan.now c.requires.graph
    ∙ sym (by_depth (outline_of c.args.plan.now) c.args.refused c.args.depth depth.All c.args.atom c.if-refused-atom.false c.in-All.is)

pub returns-then-is_sibling : goal.returns-then-is_sibling
returns-then-is_sibling c =
    both_hold (is_sibling (outline_of c.args.plan.now) c.args.refused c.args.atom) c.is_before-then-is_sibling.result (is_before (outline_of c.args.plan.now) c.args.refused c.args.atom) (sym c.is_sibling.ensures ∙ c.if-is_sibling.true)
    (c.is_before-then-is_sibling.ensures c.args.plan.now c.requires.graph)
    ∙ sym (by_depth (outline_of c.args.plan.now) c.args.refused c.args.depth depth.Flow c.args.atom c.if-refused-atom.false c.in-Flow.is)

pub returns-else-is_sibling : goal.returns-else-is_sibling
returns-else-is_sibling c =
    c.if-is_sibling.false
    ∙ (first_fails (is_sibling (outline_of c.args.plan.now) c.args.refused c.args.atom) (is_before (outline_of c.args.plan.now) c.args.refused c.args.atom) (sym c.is_sibling.ensures ∙ c.if-is_sibling.false)
    ∙ sym (by_depth (outline_of c.args.plan.now) c.args.refused c.args.depth depth.Flow c.args.atom c.if-refused-atom.false c.in-Flow.is))

pub returns-in-Neighbors : goal.returns-in-Neighbors
returns-in-Neighbors c =
    c.is_neighbor.ensures ∙ sym (by_depth (outline_of c.args.plan.now) c.args.refused c.args.depth depth.Neighbors c.args.atom c.if-refused-atom.false c.in-Neighbors.is)

pub returns-in-Atom : goal.returns-in-Atom
returns-in-Atom c = sym (by_depth (outline_of c.args.plan.now) c.args.refused c.args.depth depth.Atom c.args.atom c.if-refused-atom.false c.in-Atom.is)
