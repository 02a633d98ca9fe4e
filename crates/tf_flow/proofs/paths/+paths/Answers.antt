use Rattle.std.proofs.Common.{◌∙◌, ap, List, map, length, ◌++◌}
use Rattle.tf_flow.specs.Outline.{atoms_of, flow_paths}
use Rattle.tf_flow.specs.declared.paths.Turn.{Turn}
use Rattle.tf_flow.specs.Tree.{item_tree}
use Rattle.tf_flow.proofs.PathLemmas.{walk_next, under, paths_of}
use Rattle.tf_flow.proofs.paths.+paths.Goals as goal

pub add_flow-loop-place-preserved : goal.add_flow-loop-place-preserved
add_flow-loop-place-preserved t c =
    let atoms = c.loop-place.paths.atoms.items in
    let flows = c.loop-place.paths.flows.items in
    walk_next c.args.path.now c.args.flow.now c.len-number.result c.loop-place.place c.item-item.result c.items-item-items.result.now
    c.args.paths.now.atoms.items atoms c.add_item.new.paths.atoms.items
    c.args.paths.now.flows.items flows c.add_item.new.paths.flows.items
    c.loop-place.invariant c.items-item-items.ensures c.loop-place-test.true c.item-item.is
    (c.in_ok-add_item.ensures.atoms ∙ ap (λ (w : List Turn). atoms ++ map (under w) (paths_of (atoms_of (length flows) (item_tree c.item-item.result)))) c.in_ok-below.ensures)
    (c.in_ok-add_item.ensures.flows ∙ ap (λ (w : List Turn). flows ++ map (under w) (flow_paths (length flows) (item_tree c.item-item.result))) c.in_ok-below.ensures)
