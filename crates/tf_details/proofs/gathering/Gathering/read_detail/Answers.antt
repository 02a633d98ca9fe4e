use Rattle.std.proofs.Common.{◌≡◌, ◌∷◌, ◌∙◌, ap, Err, List, ⊎_elim, arith}
use Rattle.std.proofs.lemmas.Result.{err_from_is_err_and}
use Rattle.tf_values.specs.declared.faults.MakeFault.{MakeFault}
use Rattle.tf_values.specs.declared.faults.MakeFault.TheVariants as fault
use Rattle.tf_flow.specs.Plan.{PlanValue}
use Rattle.tf_details.specs.Elements.{detail, detail_name, number_among, no_plan, too_many, name_taken}
use Rattle.tf_details.specs.Reading.{elements_in}
use Rattle.tf_details.specs.declared.gathering.Gathering.{Gathering}
use Rattle.tf_details.proofs.MachineLemmas.{as_many}
use Rattle.tf_details.proofs.gathering.Gathering.read_detail.Goals as goal

pub returns-in_err-machine-clause-refused : goal.returns-in_err-machine-clause-refused
returns-in_err-machine-clause-refused g c =
    let p = err_from_is_err_and c.from_residual.result c.from_residual.ensures.1 in
    rw (p.1, p.2) (λ is book are. let same : c.in_err-machine.field-0.0 ≡ fault.No = cc in no_plan (c.in_err-machine.ensures.refused (ap (λ (f : MakeFault). Err f) same)))

pub returns-in_err-add-clause-refused : goal.returns-in_err-add-clause-refused
returns-in_err-add-clause-refused g c =
    let p = err_from_is_err_and c.from_residual-in_err-add.result c.from_residual-in_err-add.ensures.1 in
    rw (p.1, p.2) (λ is book are.
    let same : c.in_err-add.field-0.0 ≡ fault.No = cc in
    let m = c.in_ok-machine.machine in
    let h = c.in_ok-machine.ensures.history in
    ⊎_elim (λ many. too_many (omega (arith, many, as_many c.args.self.now.details book are)))
    (λ taken. name_taken m.plan h.accepted h.limits c.in_ok-machine.ensures.form
    (λ none. taken (ap (λ (plans : List PlanValue). number_among plans (detail_name m.plan)) are.plans ∙ none)))
    (c.in_err-add.ensures.refused (ap (λ (f : MakeFault). Err f) same)))

pub returns-in-Ok-clause-read : goal.returns-in-Ok-clause-read
returns-in-Ok-clause-read g c =
    let e = c.in_ok-machine.ensures in
    let same = c.note.ensures.same in
    record {
      read = record {
        machine = c.in_ok-machine.machine;
        form_is = e.form;
        history = e.history;
        fresh = e.fresh;
        few = c.in_ok-add.ensures.few;
        unnamed = c.in_ok-add.ensures.unnamed;
        added = ap (λ (s : Gathering g.row.H.Denot). s.details) same ∙ c.in_ok-add.ensures.added;
      };
      marked = c.in-Ok.ensures.marked ∙ ap (λ (p : PlanValue). detail p ∷ elements_in c.args.self.now) (c.of.ensures ∙ c.plan.ensures.is);
      number = ap (λ (s : Gathering g.row.H.Denot). s.number) same;
      kept = ap (λ (s : Gathering g.row.H.Denot). s.kept) same;
      room = c.note.ensures.room;
    }
