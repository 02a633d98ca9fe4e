use Rattle.std.proofs.Common.{◌∙◌, sym, ap, None}
use Rattle.tf_flow.specs.declared.listing.AtomPlace.{AtomPlace}
use Rattle.tf_order.specs.Context.{atoms_seen}
use Rattle.tf_model.specs.Before.{path_at}
use Rattle.tf_order.proofs.ContextLemmas.{path_seen}
use Rattle.tf_order.proofs.TurnLemmas.{turns_next, turns_all}
use Rattle.tf_order.proofs.linking.link_atom.Goals as goal

pub loop-turn-preserved : goal.loop-turn-preserved
loop-turn-preserved c = record {
  count = c.in_ok-link_turn.ensures.count;
  wide = c.in_ok-link_turn.ensures.wide;
  seen = turns_next c.args.context.now c.args.atom c.args.found.now.links c.loop-turn.found.links c.link_turn.new.found.links c.args.found.now.ambiguities c.loop-turn.found.ambiguities c.link_turn.new.found.ambiguities c.turns-turn-items.result.now c.loop-turn.turn-index (record { flow = 0; item = None })
      c.loop-turn.invariant.seen c.loop-turn-test.true c.in_ok-link_turn.ensures.links;
}

pub returns-clause-links : goal.returns-clause-links
returns-clause-links c = turns_all c.args.context.now c.args.atom c.args.found.now.links c.loop-turn.found.links c.args.found.now.ambiguities c.loop-turn.found.ambiguities c.turns-turn-items.result.now c.loop-turn.turn-index (path_at (atoms_seen c.args.context.now) c.args.atom)
    c.loop-turn.invariant.seen c.loop-turn-test.false
    (c.turns-turn-items.ensures ∙ (ap (λ (a : AtomPlace). a.path) (sym c.index-context-atom.is) ∙ sym (path_seen c.args.context.now.atoms.now c.args.atom c.index-context-atom.result c.requires.atom c.index-context-atom.is)))
