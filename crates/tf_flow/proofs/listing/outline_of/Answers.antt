use Rattle.std.proofs.Common.{length}
use Rattle.tf_flow.specs.Tree.{tree_of}
use Rattle.tf_flow.proofs.NumberingLemmas.{whole_atoms, whole_levels, as_many_atoms, as_many_flows, levels_numbered, few}
use Rattle.tf_flow.proofs.listing.outline_of.Goals as goal

pub returns-clause-atoms : goal.returns-clause-atoms
returns-clause-atoms c =
    whole_atoms c.root.result.now c.args.plan.now.root c.in_ok-with_capacity.field-0.items c.add_flow.new.outline.atoms.items c.in_ok-with_capacity-2.field-0.items
    c.root.ensures.value c.in_ok-with_capacity.ensures.items c.in_ok-with_capacity-2.ensures.items c.in_ok-add_flow.ensures.atoms

pub returns-clause-few_atoms : goal.returns-clause-few_atoms
returns-clause-few_atoms c =
    few (length c.add_flow.new.outline.atoms.items) _ 1000 c.atoms.result
    (as_many_atoms c.args.plan.now c.add_flow.new.outline.atoms.items
    (whole_atoms c.root.result.now c.args.plan.now.root c.in_ok-with_capacity.field-0.items c.add_flow.new.outline.atoms.items c.in_ok-with_capacity-2.field-0.items
    c.root.ensures.value c.in_ok-with_capacity.ensures.items c.in_ok-with_capacity-2.ensures.items c.in_ok-add_flow.ensures.atoms))
    c.atoms.ensures.count c.atoms.ensures.few

pub returns-clause-few_flows : goal.returns-clause-few_flows
returns-clause-few_flows c =
    few (length c.add_flow.new.outline.levels.items) _ 500 c.flows.result
    (as_many_flows c.args.plan.now c.add_flow.new.outline.levels.items
    (whole_levels c.root.result.now c.args.plan.now.root c.in_ok-with_capacity.field-0.items c.in_ok-with_capacity-2.field-0.items c.add_flow.new.outline.levels.items
    c.root.ensures.value c.in_ok-with_capacity.ensures.items c.in_ok-with_capacity-2.ensures.items c.in_ok-add_flow.ensures.levels))
    c.flows.ensures.count c.flows.ensures.few

pub returns-clause-numbers : goal.returns-clause-numbers
returns-clause-numbers c =
    levels_numbered (tree_of c.args.plan.now.root) c.add_flow.new.outline.levels.items
    (whole_levels c.root.result.now c.args.plan.now.root c.in_ok-with_capacity.field-0.items c.in_ok-with_capacity-2.field-0.items c.add_flow.new.outline.levels.items
    c.root.ensures.value c.in_ok-with_capacity.ensures.items c.in_ok-with_capacity-2.ensures.items c.in_ok-add_flow.ensures.levels)
