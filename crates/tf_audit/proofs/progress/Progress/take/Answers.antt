use Rattle.std.proofs.Common.{List, Option, Err, refl, sym, ap, subst, ◌∙◌, slice_get}
use Rattle.std.specs.Prelude.{◌↔◌, IsTrue}
use Rattle.tf_states.specs.declared.record.Entry.{Entry as Record}
use Rattle.tf_actions.specs.declared.orders.Order.{Order}
use Rattle.tf_actions.specs.Gives.{GivesFar}
use Rattle.tf_model.specs.Scope.{IsGiven}
use Rattle.tf_machine.specs.Machine.{MachineValue, outline, shown}
use Rattle.tf_machine.specs.declared.faults.ApplyFault.{ApplyFault}
use Rattle.tf_audit.specs.Kept.{Follows}
use Rattle.tf_audit.specs.Verdicts.{IsExpected}
use Rattle.tf_audit.proofs.KeepLemmas.{asked_below}
use Rattle.tf_audit.proofs.ProgressLemmas.{taken, taken_ready, refused}
use Rattle.tf_audit.proofs.progress.Progress.take.Goals as goal

pub fits-requires : goal.fits-requires
fits-requires c = λ a order there. c.requires.ready.whole a order (sym (ap (λ (os : List (Option Order)). slice_get os a) c.as_slice.ensures.value) ∙ there)

pub put-requires : goal.put-requires
put-requires c = asked_below (outline c.args.self.now.machine) (shown c.args.self.now.machine) c.args.entry.what c.in_ok-asked.asked c.args.self.now.orders.items c.requires.ready.places c.in_ok-asked.ensures.some

pub returns-else-not-fits-clause-ready : goal.returns-else-not-fits-clause-ready
returns-else-not-fits-clause-ready c = taken_ready c.args.self.now _ c.args.entry c.in_ok-asked.asked c.requires.ready c.in_ok-asked.ensures.some c.apply.ensures.plan refl c.put.ensures

pub returns-else-not-fits-clause-takes : goal.returns-else-not-fits-clause-takes
returns-else-not-fits-clause-takes c =
    let decides = subst (λ (os : List (Option Order)). (past : List Record) → Follows c.args.self.now.machine os past c.args.entry → IsTrue c.in_ok-fits.fits ↔ IsGiven GivesFar (outline c.args.self.now.machine) past c.args.entry.what) c.as_slice.ensures.value c.in_ok-fits.ensures in
    taken c.args.self.now _ c.args.entry c.in_ok-asked.asked c.in_ok-fits.fits c.requires.ready c.in_ok-asked.ensures.none c.in_ok-asked.ensures.some decides c.if-not-fits.false c.in-Ok.ensures.step c.apply.ensures.plan c.in-Ok.ensures.stands c.put.ensures refl

pub returns-in_ok-why-in-Err-clause-takes : goal.returns-in_ok-why-in-Err-clause-takes
returns-in_ok-why-in-Err-clause-takes c =
    let back = c.in_ok-why-in-Err.ensures.refused c.args.entry c.in-Err.ensures.back in
    refused c.args.self.now c.args.entry c.in_ok-why-in-Err.why (λ past stands. c.apply.ensures.refused_after c.args.entry (c.in-Err.is ∙ ap (λ (f : ApplyFault). Err f) back) past stands)
    (subst (λ (m : MachineValue). IsExpected (outline m) (shown m) c.in_ok-why-in-Err.why) c.in-Err.ensures.kept c.in_ok-why-in-Err.ensures.expected)
