use Rattle.std.proofs.Common.{◌≡◌, ◌∙◌, sym, ap, slice_index_or}
use Rattle.tf_model.specs.Before.{path_at}
use Rattle.tf_flow.specs.declared.listing.AtomPlace.{AtomPlace}
use Rattle.tf_order.specs.Context.{atoms_seen}
use Rattle.tf_order.proofs.ContextLemmas.{path_seen}
use Rattle.tf_order.proofs.AmbiguityLemmas.{atom_outside, atom_inside}
use Rattle.tf_order.proofs.ambiguities.add_of_atom.Goals as goal

pub returns-then-not-passes_item : goal.returns-then-not-passes_item
returns-then-not-passes_item c =
    let path : c.turns.result.now ≡ path_at (atoms_seen c.args.context.now) c.args.atom =
    c.turns.ensures ∙ (ap (λ (a : AtomPlace). a.path) (sym c.index-context-atom.is) ∙ sym (path_seen c.args.context.now.atoms.now c.args.atom c.index-context-atom.result c.requires.atom c.index-context-atom.is)) in
    λ inner shows. atom_outside c.args.context.now inner c.args.item c.args.atom c.index-context-atom.result c.args.symbols.now.items c.turns.result.now path (sym c.passes_item.ensures ∙ c.if-not-passes_item.true)

pub returns : goal.returns
returns c =
    let path : c.turns.result.now ≡ path_at (atoms_seen c.args.context.now) c.args.atom =
    c.turns.ensures ∙ (ap (λ (a : AtomPlace). a.path) (sym c.index-context-atom.is) ∙ sym (path_seen c.args.context.now.atoms.now c.args.atom c.index-context-atom.result c.requires.atom c.index-context-atom.is)) in
    atom_inside c.args.context.now c.args.item c.args.atom (slice_index_or c.args.context.now.atoms.now c.args.atom c.index-context-atom.result) c.args.symbols.now.items c.add_of_part.new.symbols.items c.turns.result.now path
    (sym c.passes_item.ensures ∙ c.if-not-passes_item.false) c.requires.atom (ap (slice_index_or c.args.context.now.atoms.now c.args.atom) c.index-context-atom.is) c.in_ok-add_of_part.ensures
