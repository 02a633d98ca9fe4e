use Rattle.std.proofs.Common.{◌≤◌, length, arith}
use Rattle.std.proofs.lemmas.Grind.{common_steps}
use Rattle.tf_links.proofs.ReachLemmas.{passed_all}
use Rattle.tf_links.proofs.reach.pass.Goals as goal

pub returns-clause-more : goal.returns-clause-more
returns-clause-more c =
    let whole : length c.args.rows.now.items ≤ c.loop-u.u = grind (arith, common_steps) in
    passed_all (length c.args.rows.now.items) c.args.rows.now.items c.args.pivot c.args.through.now c.loop-u.rows.items c.loop-u.u c.loop-u.invariant c.requires.square whole
