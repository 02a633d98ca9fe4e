use Rattle.std.proofs.Common.{◌≡◌, arith}
use Rattle.std.proofs.lemmas.Grind.{common_steps}
use Rattle.tf_order.specs.Tables.{atoms_found}
use Rattle.tf_order.proofs.SpreadLemmas.{rows_end}
use Rattle.tf_order.proofs.tables.order_atoms.Goals as goal

pub returns-clause-predecessors : goal.returns-clause-predecessors
returns-clause-predecessors c =
    let many : c.len-count.result ≡ atoms_found c.args.outline.now = grind (arith, common_steps, c.len-count.ensures) in
    rows_end c.args.outline.now c.len-count.result c.add_atom-2.new.rows.items c.add_atom-2.new.opened.items c.in_ok-_none.ensures.rows many
