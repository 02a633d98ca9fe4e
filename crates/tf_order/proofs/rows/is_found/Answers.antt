use Rattle.tf_order.proofs.RowLemmas.{found_nowhere}
use Rattle.tf_order.proofs.rows.is_found.Goals as goal

pub returns-in-Err : goal.returns-in-Err
returns-in-Err c = found_nowhere c.args.row.now c.args.number c.in-Err.field-0 c.in-Err.ensures.position
