use Rattle.std.proofs.Common.{◌≡◌, ◌∙◌, sym, ap, subst, List, Result, Err, get_or, slice_set}
use Rattle.std.specs.Prelude.{OnOk}
use Rattle.tf_values.specs.declared.faults.MakeFault.{MakeFault}
use Rattle.tf_values.specs.declared.faults.MakeFault.TheVariants as fault
use Rattle.tf_states.specs.declared.record.Entry.{Entry}
use Rattle.tf_machine.specs.Machine.{MachineValue, StandsFor}
use Rattle.tf_machine.specs.declared.faults.ApplyFault.{ApplyFault}
use Rattle.tf_model.specs.History.{snapshot}
use Rattle.tf_model.specs.Plan.{outline_of}
use Rattle.tf_model.specs.Steps.{Step}
use Rattle.tf_details.specs.Elements.{history, no_step}
use Rattle.tf_details.specs.Reading.{HasTaken}
use Rattle.tf_details.proofs.MachineLemmas.{plan_found, same_machine}
use Rattle.tf_details.proofs.details.Details.take.Goals.{in-Ok, in-Err}
use Rattle.tf_details.proofs.details.Details.take.Goals as goal

pub returns-clause-taken : goal.returns-clause-taken
returns-clause-taken c =
    let here : (d : MachineValue) → c.index_mut-machine.result.now ≡ get_or c.args.self.now c.args.number d = λ d.
    c.index_mut-machine.ensures.value ∙ ap (λ (l : List MachineValue). get_or l c.args.number c.index_mut-machine.result.now) c.self.view_is
    ∙ same_machine c.args.self.now c.args.number c.index_mut-machine.result.now d c.requires in
    elim c.match-apply.branch [
      | in-Ok w ↦ subst (λ (r : Result (Unit {0}) MakeFault). OnOk r (HasTaken c.args.self.now (slice_set c.self.inside.machines.items c.args.number c.apply.new.self) c.args.number c.args.entry)) (sym w.result-is)
          (record {
            machine = c.apply.new.self;
            replaced = ap (λ (l : List MachineValue). slice_set l c.args.number c.apply.new.self) c.self.view_is;
            plan = λ d. c.apply.ensures.plan ∙ ap (λ (m : MachineValue). m.plan) (here d);
            stands = λ d past stands. (w.in-Ok.ensures.stands past (subst (λ (m : MachineValue). StandsFor m past) (sym (here d)) stands));
          })
      | in-Err w ↦ subst (λ (r : Result (Unit {0}) MakeFault). OnOk r (HasTaken c.args.self.now (slice_set c.self.inside.machines.items c.args.number c.apply.new.self) c.args.number c.args.entry)) (sym w.result-is) tt
    ]

pub returns-clause-refused : goal.returns-clause-refused
returns-clause-refused c =
    let here : (d : MachineValue) → c.index_mut-machine.result.now ≡ get_or c.args.self.now c.args.number d = λ d.
    c.index_mut-machine.ensures.value ∙ ap (λ (l : List MachineValue). get_or l c.args.number c.index_mut-machine.result.now) c.self.view_is
    ∙ same_machine c.args.self.now c.args.number c.index_mut-machine.result.now d c.requires in
    elim c.match-apply.branch [
      | in-Ok w ↦ λ is book form are read. absurd (cc)
      | in-Err w ↦ λ is book form are read.
          let why : w.unapplied-why.result ≡ fault.No = cc in
          let d : MachineValue = c.apply.new.self in
          let refused = w.unapplied-why.ensures why c.args.entry w.in-Err.ensures.back in
          no_step (get_or c.args.self.now c.args.number d).plan (plan_found c.args.self.now book are c.args.number d c.requires)
          (λ e is_entry step same.
          let one : e ≡ c.args.entry = c.entry_has_one_form.ensures.one _ _ e c.args.entry is_entry (read.is_entry d) (same ∙ sym read.form_is) in
          let past = history c.args.number book in
          let stands : StandsFor c.index_mut-machine.result.now past = subst (λ (m : MachineValue). StandsFor m past) (sym (here d)) (are.stand c.args.number d c.requires) in
          c.apply.ensures.refused_after c.args.entry (w.in-Err.is ∙ ap (λ (f : ApplyFault). Err f) refused) past stands
          (subst (λ (m : MachineValue). Step (outline_of m.plan) (snapshot (outline_of m.plan) past) c.args.entry) (sym (here d))
          (subst (λ (x : Entry). Step (outline_of (get_or c.args.self.now c.args.number d).plan) (snapshot (outline_of (get_or c.args.self.now c.args.number d).plan) past) x) one step)))
    ]
