use Rattle.std.proofs.Common.{◌≡◌, ◌∙◌, refl, arith}
use Rattle.std.proofs.lemmas.Grind.{common_steps}
use Rattle.tf_order.specs.Context.{count_seen}
use Rattle.tf_order.proofs.LookLemmas.{plain_arranged}
use Rattle.tf_order.proofs.looking.look_at_plain.Goals as goal

pub returns-clause-arranged : goal.returns-clause-arranged
returns-clause-arranged c =
    let counted : c.len.result ≡ count_seen c.args.context.now = grind (arith, common_steps) in
    plain_arranged c.args.context.now (record { kind = c.args.context.now.level.now.flow.now.kind; links = c.in_ok-links.links; reach = c.new-2.result; standing = c.in_ok-standing.standing })
    c.requires.kind refl (c.in_ok-links.ensures.count ∙ counted) c.in_ok-links.ensures.none c.in_ok-standing.ensures
