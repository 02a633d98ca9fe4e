use Rattle.std.proofs.Common.{◌++◌, ◌∷◌}
use Rattle.std.proofs.lemmas.Result.{on_ok_weaker}
use Rattle.tf_entries.specs.Plans.{name_bytes, listed, flow_kind_byte, control_bytes}
use Rattle.tf_entries.specs.Shown.{item_bytes, link_bytes}
use Rattle.tf_entries.proofs.AppendLemmas.{three_parts}
use Rattle.tf_entries.proofs.ShownLemmas.{flow_bytes, flow_is_tree}
use Rattle.tf_entries.proofs.plan_writing.+writing.Goals as goal

pub append_flow-returns-clause-ok : goal.append_flow-returns-clause-ok
append_flow-returns-clause-ok t c =
    let f = c.args.flow.now in
    rw (flow_bytes f) (on_ok_weaker c.append_listed.result
    (λ links. three_parts c.args.out.now.items (name_bytes f.name ++ (flow_kind_byte f.kind ∷ control_bytes f.retry)) (listed item_bytes f.items.items.items) (listed link_bytes f.links)
    c.append_head.new.out.items c.append_items.new.out.items c.append_listed.new.out.items
    c.in_ok-append_head.ensures.ok (rw c.items.ensures at c.in_ok-append_items.ensures.ok) (rw c.items-2.ensures at links))
    c.append_listed.ensures.ok)

pub append_flow-returns-clause-good : goal.append_flow-returns-clause-good
append_flow-returns-clause-good t c =
    on_ok_weaker c.append_listed.result
    (λ links. flow_is_tree c.args.flow.now c.in_ok-append_head.ensures.name c.in_ok-append_head.ensures.control (rw c.items.ensures at c.in_ok-append_items.ensures.good) (rw c.items-2.ensures at links))
    c.append_listed.ensures.good
