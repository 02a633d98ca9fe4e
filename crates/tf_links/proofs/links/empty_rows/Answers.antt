use Rattle.tf_links.proofs.LinkLemmas.{empty_start}
use Rattle.tf_links.proofs.links.empty_rows.Goals as goal

pub loop-init : goal.loop-init
loop-init c = empty_start c.args.count c.in_ok-rows.rows.items c.in_ok-rows.ensures.items
