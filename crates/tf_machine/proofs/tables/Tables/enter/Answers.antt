use Rattle.std.proofs.Common.{ap}
use Rattle.tf_states.specs.declared.record.AtomView.{AtomView}
use Rattle.tf_machine.specs.declared.tables.Place.{Place}
use Rattle.tf_machine.proofs.ChangeLemmas.{state_set, payload_set, hand_set, mark_set, attempts_set}
use Rattle.tf_machine.proofs.tables.Tables.enter.Goals as goal

pub returns-clause-state : goal.returns-clause-state
returns-clause-state c = λ a.
    state_set c.args.self.now.views.items c.args.atom a c.args.state c.enter_view.new.view c.requires.view (ap (λ (v : AtomView). v.state) c.enter_view.ensures)

pub returns-clause-payload : goal.returns-clause-payload
returns-clause-payload c = λ a.
    payload_set c.args.self.now.views.items c.args.atom a c.args.state c.args.payload c.enter_view.new.view c.index_mut.result.now c.requires.view c.index_mut.ensures.value c.enter_view.ensures

pub returns-clause-hand : goal.returns-clause-hand
returns-clause-hand c = λ a.
    hand_set c.args.self.now.places.items c.args.atom a c.args.hand c.enter_place.new.place c.requires.place (ap (λ (p : Place). p.hand) c.enter_place.ensures)

pub returns-clause-mark : goal.returns-clause-mark
returns-clause-mark c = λ a.
    mark_set c.args.self.now.places.items c.args.atom a c.enter_place.new.place c.index_mut-2.result.now c.requires.place c.index_mut-2.ensures.value (ap (λ (p : Place). p.mark) c.enter_place.ensures)

pub returns-clause-attempts : goal.returns-clause-attempts
returns-clause-attempts c = λ a.
    attempts_set c.args.self.now.places.items c.args.atom a c.args.state c.enter_place.new.place c.index_mut-2.result.now c.requires.place c.index_mut-2.ensures.value (ap (λ (p : Place). p.attempts) c.enter_place.ensures)
