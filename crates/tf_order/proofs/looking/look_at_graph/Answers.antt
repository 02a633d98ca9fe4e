use Rattle.std.proofs.Common.{ap, refl}
use Rattle.tf_flow.specs.Rules.{is_graph}
use Rattle.tf_flow.specs.declared.nested.FlowKind.TheVariants as kind
use Rattle.tf_model.specs.Before.{linked_pairs}
use Rattle.tf_numbers.specs.Numbers.{first_below}
use Rattle.tf_links.specs.Bits.{room, has}
use Rattle.tf_order.specs.Looked.{told_in}
use Rattle.tf_order.specs.Context.{atoms_seen, place_seen, count_seen}
use Rattle.tf_order.proofs.LookLemmas.{graph_links, graph_arranged, graph_refusal, reach_as}
use Rattle.tf_order.proofs.looking.look_at_graph.Goals as goal

pub returns-clause-arranged : goal.returns-clause-arranged
returns-clause-arranged c =
    graph_arranged c.args.context.now (record { kind = kind.Graph; links = c.infer.new.found.links; reach = c.in_ok-reach.reach; standing = c.in_ok-standing.standing })
    c.requires.kind refl c.in_ok-infer.ensures.count
    (λ inner shows. graph_links c.args.context.now inner c.in_ok-links.links c.infer.new.found.links c.in_ok-ambiguities.ambiguities c.infer.new.found.ambiguities (ap is_graph c.requires.kind) c.in_ok-links.ensures.count c.in_ok-infer.ensures.count c.in_ok-links.ensures.links (c.in_ok-infer.ensures.links inner shows))
    c.in_ok-reach.ensures c.in_ok-standing.ensures

pub returns-clause-refusal : goal.returns-clause-refusal
returns-clause-refusal c = λ inner shows.
    graph_refusal c.args.context.now inner c.in_ok-links.links c.infer.new.found.links c.in_ok-ambiguities.ambiguities c.infer.new.found.ambiguities (told_in c.in_ok-refusal.refusal)
    (first_below (room c.infer.new.found.ambiguities) (has c.infer.new.found.ambiguities)) refl c.requires.kind c.in_ok-ambiguities.ensures.none c.in_ok-infer.ensures.wide (c.in_ok-infer.ensures.links inner shows)
    (λ item first. c.in_ok-refusal.ensures.ambiguity item inner first shows)
    (λ nobody. c.in_ok-refusal.ensures.cycle (linked_pairs (atoms_seen c.args.context.now) inner (place_seen c.args.context.now)) nobody
    (graph_links c.args.context.now inner c.in_ok-links.links c.infer.new.found.links c.in_ok-ambiguities.ambiguities c.infer.new.found.ambiguities (ap is_graph c.requires.kind) c.in_ok-links.ensures.count c.in_ok-infer.ensures.count c.in_ok-links.ensures.links (c.in_ok-infer.ensures.links inner shows))
    (reach_as c.infer.new.found.links.count (count_seen c.args.context.now) (linked_pairs (atoms_seen c.args.context.now) inner (place_seen c.args.context.now)) c.in_ok-reach.reach.items c.deref-5.result.now
    (c.in_ok-reach.ensures (linked_pairs (atoms_seen c.args.context.now) inner (place_seen c.args.context.now))
    (graph_links c.args.context.now inner c.in_ok-links.links c.infer.new.found.links c.in_ok-ambiguities.ambiguities c.infer.new.found.ambiguities (ap is_graph c.requires.kind) c.in_ok-links.ensures.count c.in_ok-infer.ensures.count c.in_ok-links.ensures.links (c.in_ok-infer.ensures.links inner shows)))
    c.in_ok-infer.ensures.count c.deref-5.ensures.value))
