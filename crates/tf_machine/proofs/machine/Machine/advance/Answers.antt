use Rattle.std.proofs.Common.{◌≡◌, ◌≢◌, ◌<◌, ◌||◌, true, sym, refl, subst}
use Rattle.tf_states.specs.declared.record.What.TheVariants as what
use Rattle.tf_states.specs.declared.state.FlowState.TheVariants as flow
use Rattle.tf_model.specs.History.{flow_runs, flow_suspends}
use Rattle.tf_bound.specs.Owed.{left}
use Rattle.tf_machine.proofs.LeftLemmas.{moved_less}
use Rattle.tf_model.specs.Steps.{Step}
use Rattle.tf_machine.specs.Worklists.{AreMoved}
use Rattle.tf_machine.specs.Machine.{MachineValue, outline, shown, StandsFor}
use Rattle.tf_machine.proofs.MachineLemmas.{sound_facts, sound_few, sound_marked, stands_later, sound_later}
use Rattle.tf_machine.proofs.machine.Machine.advance.Goals as goal

pub record-requires-clause-facts : goal.record-requires-clause-facts
record-requires-clause-facts c = sound_facts _ c.self.invariant.sound

pub record-requires-clause-few : goal.record-requires-clause-few
record-requires-clause-few c = sound_few _ c.self.invariant.sound

pub record-requires-clause-marked : goal.record-requires-clause-marked
record-requires-clause-marked c = sound_marked _ c.self.invariant.sound

pub invariant_of-self : goal.invariant_of-self
invariant_of-self c = record {
  sound = sound_later _ _ c.args.entry c.self.invariant.sound c.event_is_short.ensures refl (subst (λ (m : MachineValue). Step (outline m) (shown m) c.args.entry) (sym c.self.view_is) c.requires) c.record.ensures.moved c.record.ensures.views c.record.ensures.places;
  counted = c.record.ensures.counted;
  listed = c.follow.ensures _ c.self.invariant.listed (subst (AreMoved _ _ c.extent_of-extent.result) (sym c.record.ensures.moved) (c.extent_of-extent.ensures _ c.args.entry.hand (sound_marked _ c.self.invariant.sound)));
}

pub returns-clause-stands : goal.returns-clause-stands
returns-clause-stands c = λ past stands.
    stands_later _ _ c.args.entry refl (subst (λ (m : MachineValue). Step (outline m) (shown m) c.args.entry) (sym c.self.view_is) c.requires) c.record.ensures.moved past
    (subst (λ (m : MachineValue). StandsFor m past) (sym c.self.view_is) stands)

pub returns-clause-less : goal.returns-clause-less
returns-clause-less c =
    let now : MachineValue = record { plan = c.self.inside.compiled; views = c.record.new.self.views.items; places = c.record.new.self.places.items; flow = c.record.new.self.flow } in
    subst (λ (m : MachineValue). flow_runs (shown m).flow || flow_suspends (shown m).flow ≡ true → c.args.entry.what ≢ what.Flow flow.Resuming → left now.plan (shown now) < left m.plan (shown m)) c.self.view_is
    (moved_less _ now c.args.entry c.self.invariant.sound refl c.record.ensures.moved
    (subst (λ (m : MachineValue). Step (outline m) (shown m) c.args.entry) (sym c.self.view_is) c.requires))
