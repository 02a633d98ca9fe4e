use Rattle.std.proofs.Common.{arith}
use Rattle.tf_order.proofs.TurnLemmas.{inferred_more, inferred_all}
use Rattle.tf_order.proofs.linking.infer.Goals as goal

pub loop-atom-preserved : goal.loop-atom-preserved
loop-atom-preserved c = record {
  count = c.in_ok-link_atom.ensures.count;
  wide = c.in_ok-link_atom.ensures.wide;
  seen = inferred_more c.args.context.now c.args.found.now.links c.loop-atom.found.links c.link_atom.new.found.links c.args.found.now.ambiguities c.loop-atom.found.ambiguities c.link_atom.new.found.ambiguities c.loop-atom.atom c.loop-atom.invariant.seen c.in_ok-link_atom.ensures.links;
}

pub returns-clause-links : goal.returns-clause-links
returns-clause-links c = inferred_all c.args.context.now c.args.found.now.links c.loop-atom.found.links c.args.found.now.ambiguities c.loop-atom.found.ambiguities c.loop-atom.atom c.loop-atom.invariant.seen (omega arith)
