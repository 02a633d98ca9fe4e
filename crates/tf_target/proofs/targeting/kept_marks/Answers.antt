use Rattle.std.proofs.Common.{◌≡◌, ◌∙◌, true, length, ap, refl, arith, slice_set}
use Rattle.tf_flow.specs.Items.{item_list}
use Rattle.tf_model.specs.Plan.{outline_of, root_item_before}
use Rattle.tf_order.proofs.GraphLemmas.{rows_length}
use Rattle.tf_target.proofs.TargetLemmas.{marks_kept}
use Rattle.tf_target.proofs.targeting.kept_marks.Goals as goal

pub index_mut-requires : goal.index_mut-requires
index_mut-requires c =
    let count : length c.in_ok-marks.marks.items ≡ length (item_list c.args.plan.now.root.items) =
    ap length c.in_ok-marks.ensures ∙ rows_length (root_item_before (outline_of c.args.plan.now) c.args.item) (length (item_list c.args.plan.now.root.items)) in
    omega (arith, count, c.requires, c.in_ok-marks.marks.ok.0)

pub returns : goal.returns
returns c = λ u below.
    marks_kept c.args.plan.now c.args.item (length (item_list c.args.plan.now.root.items)) c.in_ok-marks.marks.items (slice_set c.in_ok-marks.marks.items c.args.item true) c.in_ok-marks.ensures c.requires refl u below
