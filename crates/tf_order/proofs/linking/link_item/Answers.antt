use Rattle.tf_flow.specs.Paths.{shown_part}
use Rattle.std.proofs.Common.{ap, slice_index_or}
use Rattle.tf_order.proofs.LinkingLemmas.{args_more, args_all}
use Rattle.tf_order.proofs.linking.link_item.Goals as goal

pub loop-arg-preserved : goal.loop-arg-preserved
loop-arg-preserved c = record {
  count = c.in_ok-link_argument.ensures.count;
  wide = c.in_ok-link_argument.ensures.wide;
  seen = args_more c.args.context.now c.args.item c.args.atom (shown_part (slice_index_or c.args.context.now.atoms.now c.args.atom c.index-context-atom.result).part) c.args.found.now.links c.loop-arg.found.links c.link_argument.new.found.links
      c.args.found.now.ambiguities c.loop-arg.found.ambiguities c.link_argument.new.found.ambiguities c.args-arg-items.result.now c.loop-arg.arg-index c.arg-item.result c.loop-arg.invariant.seen c.loop-arg-test.true c.arg-item.is c.in_ok-link_argument.ensures.links;
}

pub returns-clause-links : goal.returns-clause-links
returns-clause-links c = args_all c.args.context.now c.args.item c.args.atom (slice_index_or c.args.context.now.atoms.now c.args.atom c.index-context-atom.result) c.args.found.now.links c.loop-arg.found.links c.args.found.now.ambiguities c.loop-arg.found.ambiguities c.args-arg-items.result.now c.loop-arg.arg-index
    c.loop-arg.invariant.seen c.loop-arg-test.false c.args-arg-items.ensures c.requires.atom
    (ap (slice_index_or c.args.context.now.atoms.now c.args.atom) (c.index-context-atom.is))
