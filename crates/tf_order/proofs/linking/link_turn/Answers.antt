use Rattle.tf_order.proofs.TurnLemmas.{turn_here}
use Rattle.tf_order.proofs.linking.link_turn.Goals as goal

pub returns-clause-links : goal.returns-clause-links
returns-clause-links c = turn_here c.args.context.now c.args.atom c.args.turn c.in-Some.item c.args.found.now.links c.link_item.new.found.links c.args.found.now.ambiguities c.link_item.new.found.ambiguities c.if-turn-context.false c.in-Some.is c.in_ok-link_item.ensures.links
