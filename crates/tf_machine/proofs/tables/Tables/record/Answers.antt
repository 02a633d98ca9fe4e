use Rattle.std.proofs.Common.{◌<◌, refl, sym, ap, ◌∙◌, subst, arith, length, List}
use Rattle.tf_states.specs.declared.record.AtomView.{AtomView}
use Rattle.tf_machine.specs.declared.tables.Change.TheVariants as change
use Rattle.tf_machine.specs.declared.tables.Mark.{Mark}
use Rattle.tf_machine.specs.declared.tables.Place.{Place}
use Rattle.tf_model.specs.Plan.{outline_of, count}
use Rattle.tf_model.specs.History.{state_in, payload_in}
use Rattle.tf_machine.specs.Changes.{ArePlacesHeld, AreChanged, changed, cleared, turned}
use Rattle.tf_machine.proofs.ChangeLemmas.{places_held}
use Rattle.tf_machine.specs.Counts.{AreCounted}
use Rattle.tf_machine.specs.Tables.{shown_of, shown_by}
use Rattle.std.specs.Prelude.{slice_get}
use Rattle.tf_machine.proofs.CountLemmas.{same_counted}
use Rattle.tf_hands.proofs.FitLemmas.{entered_below, restarted_below}
use Rattle.tf_machine.proofs.RecordLemmas.{written_back, entered_recorded, taken_recorded, turned_recorded, resolved_recorded}
use Rattle.tf_machine.proofs.tables.Tables.record.Goals as goal

pub enter-requires : goal.enter-requires
enter-requires c =
    let below : c.in-Atom.atom < count (outline_of c.args.compiled.now) = entered_below (outline_of c.args.compiled.now) (shown_by c.args.self.now) c.args.entry c.in-Atom.atom c.in-Atom.state c.in-Atom.payload c.requires.facts c.requires.step c.in-Atom.is in
    record {
      view = omega (arith, c.requires.views);
      place = omega (arith, c.requires.places);
      few = c.requires.few c.in-Atom.atom;
    }

pub take-requires : goal.take-requires
take-requires c =
    let below : c.in-Restart.atom < count (outline_of c.args.compiled.now) = restarted_below (outline_of c.args.compiled.now) (shown_by c.args.self.now) c.args.entry c.in-Restart.atom c.requires.facts c.requires.step c.in-Restart.is in
    record { place = omega (arith, c.requires.places) }

pub clear_each-requires-clause-marked : goal.clear_each-requires-clause-marked
clear_each-requires-clause-marked c =
    subst (ArePlacesHeld (outline_of c.args.compiled.now)) (sym c.deref_mut.ensures.value)
    (places_held (outline_of c.args.compiled.now) c.enter.new.self.views.items c.enter.new.self.places.items c.enter.new.self.flow (λ a m is. c.requires.marked a m (sym (c.enter.ensures.mark a) ∙ is)))

pub turn_each-requires-clause-marked : goal.turn_each-requires-clause-marked
turn_each-requires-clause-marked c =
    subst (ArePlacesHeld (outline_of c.args.compiled.now)) (sym c.deref_mut-in-Flow.ensures.value)
    (places_held (outline_of c.args.compiled.now) c.args.self.now.views.items c.args.self.now.places.items c.args.self.now.flow c.requires.marked)

pub change_each-requires-clause-marked : goal.change_each-requires-clause-marked
change_each-requires-clause-marked c =
    subst (ArePlacesHeld (outline_of c.args.compiled.now)) (sym c.deref_mut-in-Resolve.ensures.value)
    (places_held (outline_of c.args.compiled.now) c.args.self.now.views.items c.args.self.now.places.items c.args.self.now.flow c.requires.marked)

pub returns-in-Atom : goal.returns-in-Atom
returns-in-Atom c =
    let old = c.enter.new.self.places.items in
    let new = c.clear_each.new.places in
    let are : AreChanged (λ a. cleared (outline_of c.args.compiled.now) c.in-Atom.atom c.in-Atom.state) old new
    = subst (λ (xs : List Place). AreChanged (λ a. cleared (outline_of c.args.compiled.now) c.in-Atom.atom c.in-Atom.state) xs new) c.deref_mut.ensures.value c.clear_each.ensures in
    let back = written_back c.enter.new.self.places.len old new (ap (λ (xs : List Place). length xs) (sym c.deref_mut.ensures.value) ∙ c.deref_mut.ensures.len) are.as_many in
    record {
      moved = ap (λ (ps : List Place). shown_of c.enter.new.self.views.items ps c.enter.new.self.flow) back
          ∙ entered_recorded (outline_of c.args.compiled.now) (shown_by c.args.self.now) c.enter.new.self.views.items old new c.enter.new.self.flow c.args.entry c.in-Atom.atom c.in-Atom.state c.in-Atom.payload c.taken_by-taken.result
          c.in-Atom.is c.taken_by-taken.ensures are c.enter.ensures.state c.enter.ensures.payload c.enter.ensures.hand c.enter.ensures.mark c.enter.ensures.attempts c.enter.ensures.flow;
      views = c.enter.ensures.views;
      places = ap (λ (ps : List Place). length ps) back ∙ (are.as_many ∙ c.enter.ensures.places);
      counted = c.follow.ensures (shown_by c.args.self.now) _
          (subst (AreCounted (outline_of c.args.compiled.now) (shown_by c.args.self.now)) (sym c.enter.ensures.counters) c.requires.counted)
          (sym c.state-from.ensures) c.enter.ensures.state;
    }

pub returns-in-Flow : goal.returns-in-Flow
returns-in-Flow c =
    let old = c.args.self.now.places.items in
    let new = c.turn_each.new.places in
    let are : AreChanged (λ a. turned c.in-Flow.state) old new = subst (λ (xs : List Place). AreChanged (λ a. turned c.in-Flow.state) xs new) c.deref_mut-in-Flow.ensures.value c.turn_each.ensures in
    let back = written_back c.args.self.now.places.len old new (ap (λ (xs : List Place). length xs) (sym c.deref_mut-in-Flow.ensures.value) ∙ c.deref_mut-in-Flow.ensures.len) are.as_many in
    record {
      moved = ap (λ (ps : List Place). shown_of c.args.self.now.views.items ps c.in-Flow.state) back
          ∙ turned_recorded (outline_of c.args.compiled.now) c.args.self.now.views.items old new c.args.self.now.flow c.in-Flow.state c.args.entry c.in-Flow.is are;
      views = refl;
      places = ap (λ (ps : List Place). length ps) back ∙ are.as_many;
      counted = same_counted (outline_of c.args.compiled.now) (shown_by c.args.self.now) _ c.args.self.now.counters (λ a. refl) c.requires.counted;
    }

pub returns-in-Resolve : goal.returns-in-Resolve
returns-in-Resolve c =
    let old = c.args.self.now.places.items in
    let new = c.change_each.new.places in
    let mark : Mark = record { flow = c.in-Resolve.flow; kind = c.in-Resolve.kind } in
    let are : AreChanged (changed (outline_of c.args.compiled.now) (change.Resolve mark)) old new
    = subst (λ (xs : List Place). AreChanged (changed (outline_of c.args.compiled.now) (change.Resolve mark)) xs new) c.deref_mut-in-Resolve.ensures.value c.change_each.ensures in
    let back = written_back c.args.self.now.places.len old new (ap (λ (xs : List Place). length xs) (sym c.deref_mut-in-Resolve.ensures.value) ∙ c.deref_mut-in-Resolve.ensures.len) are.as_many in
    record {
      moved = ap (λ (ps : List Place). shown_of c.args.self.now.views.items ps c.args.self.now.flow) back
          ∙ resolved_recorded (outline_of c.args.compiled.now) c.args.self.now.views.items old new c.args.self.now.flow c.args.entry mark c.requires.places c.in-Resolve.is are;
      views = refl;
      places = ap (λ (ps : List Place). length ps) back ∙ are.as_many;
      counted = same_counted (outline_of c.args.compiled.now) (shown_by c.args.self.now) _ c.args.self.now.counters (λ a. refl) c.requires.counted;
    }

pub returns-in-Restart : goal.returns-in-Restart
returns-in-Restart c = record {
  moved = taken_recorded (outline_of c.args.compiled.now) (shown_by c.args.self.now) (shown_by c.take.new.self) c.args.entry c.in-Restart.atom c.in-Restart.is
      (λ a. ap (λ (xs : List AtomView). state_in (slice_get xs a)) c.take.ensures.views) (λ a. ap (λ (xs : List AtomView). payload_in (slice_get xs a)) c.take.ensures.views)
      c.take.ensures.hand c.take.ensures.mark c.take.ensures.attempts c.take.ensures.flow;
  views = ap (λ (xs : List AtomView). length xs) c.take.ensures.views;
  places = c.take.ensures.places;
  counted = subst (AreCounted (outline_of c.args.compiled.now) (shown_by c.take.new.self)) (sym c.take.ensures.counters)
      (same_counted (outline_of c.args.compiled.now) (shown_by c.args.self.now) (shown_by c.take.new.self) c.args.self.now.counters
      (λ a. ap (λ (xs : List AtomView). state_in (slice_get xs a)) c.take.ensures.views) c.requires.counted);
}
