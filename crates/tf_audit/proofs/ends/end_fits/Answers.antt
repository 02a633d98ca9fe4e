use Rattle.std.proofs.Common.{◌≡◌, Option, None, Some, arith, sym, ap, ◌∙◌, slice_get}
use Rattle.std.proofs.lemmas.Grind.{common_steps}
use Rattle.std.proofs.lemmas.Option.{gets}
use Rattle.tf_actions.specs.declared.orders.Order.{Order}
use Rattle.tf_machine.specs.Machine.{outline}
use Rattle.tf_audit.proofs.EndLemmas.{no_task, slot_there, slot_asked, slot_decides}
use Rattle.tf_audit.proofs.ends.end_fits.Goals as goal

pub returns-then-not-is_task : goal.returns-then-not-is_task
returns-then-not-is_task c = λ past e follows is. no_task (outline c.args.machine.now) past c.args.atom c.args.state c.args.payload.now (sym c.is_task.ensures ∙ c.if-not-is_task.true)

pub returns-in_default : goal.returns-in_default
returns-in_default c = λ past e follows is.
    let none : slice_get c.args.orders.now c.args.atom ≡ None = grind (arith, common_steps, gets, c.in_default.ensures.lookup) in
    absurd (slot_there c.args.machine.now c.args.orders.now past e c.args.atom c.args.state c.args.payload.now follows is (sym c.is_over.ensures ∙ c.if-not-is_over.false) (sym c.is_task.ensures ∙ c.if-not-is_task.false) none)

pub allows-requires : goal.allows-requires
allows-requires c =
    let read : slice_get c.args.orders.now c.args.atom ≡ Some c.in-Some.slot.now = grind (arith, common_steps, gets, c.in-Some.ensures.lookup) in
    c.requires c.args.atom c.in-Some-slot.order (read ∙ ap (λ (o : Option Order). Some o) c.in-Some-slot.is)

pub returns-in_ok-allowed-in-Some-slot : goal.returns-in_ok-allowed-in-Some-slot
returns-in_ok-allowed-in-Some-slot c = λ past e follows is.
    let read : slice_get c.args.orders.now c.args.atom ≡ Some c.in-Some.slot.now = grind (arith, common_steps, gets, c.in-Some.ensures.lookup) in
    slot_decides c.args.machine.now c.args.orders.now past e c.args.atom c.args.state c.args.payload.now c.in-Some-slot.order c.in_ok-allowed-in-Some-slot.allowed follows is (sym c.is_over.ensures ∙ c.if-not-is_over.false) (sym c.is_task.ensures ∙ c.if-not-is_task.false)
    (read ∙ ap (λ (o : Option Order). Some o) c.in-Some-slot.is) c.in_ok-allowed-in-Some-slot.ensures

pub returns-in-None : goal.returns-in-None
returns-in-None c = λ past e follows is.
    let read : slice_get c.args.orders.now c.args.atom ≡ Some c.in-Some.slot.now = grind (arith, common_steps, gets, c.in-Some.ensures.lookup) in
    absurd (slot_asked c.args.machine.now c.args.orders.now past e c.args.atom c.args.state c.args.payload.now follows is (sym c.is_over.ensures ∙ c.if-not-is_over.false) (sym c.is_task.ensures ∙ c.if-not-is_task.false)
    (read ∙ ap (λ (o : Option Order). Some o) c.in-None.is))
