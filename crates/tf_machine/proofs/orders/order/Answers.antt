use Rattle.std.proofs.Common.{◌≡◌, ◌∙◌, ap, List}
use Rattle.std.specs.Prelude.{ℕ, Some}
use Rattle.tf_flow.specs.declared.atoms.Undo.{Undo}
use Rattle.tf_actions.specs.declared.orders.Given.{Given}
use Rattle.tf_model.specs.Scope.{order_with, given_for}
use Rattle.tf_model.specs.Plan.{outline_of}
use Rattle.tf_machine.specs.Tables.{shown_by}
use Rattle.tf_machine.proofs.EntryLemmas.{views_seen}
use Rattle.tf_machine.proofs.WholeLemmas.{order_whole, order_told}
use Rattle.tf_machine.proofs.orders.order.Goals as goal

pub returns-clause-is : goal.returns-clause-is
returns-clause-is c =
    let t = c.task-task.result.now in
    ap (λ (ws : List (List ℕ)). Some (record { atom = c.args.atom; action = c.args.action; kind = t.kind; words = ws; undo = c.in_ok-undo.undo; given = c.in_ok-given.given })) c.in_ok-words.ensures
    ∙ (ap (λ (u : Undo). Some (record { atom = c.args.atom; action = c.args.action; kind = t.kind; words = t.words; undo = u; given = c.in_ok-given.given })) c.in_ok-undo.ensures
    ∙ (ap (λ (g : Given). Some (order_with c.args.atom c.args.action g t)) (c.in_ok-given.ensures (shown_by c.args.tables.now) (views_seen c.args.tables.now c.deref.result.now c.deref.ensures.value))
    ∙ order_told (outline_of c.args.compiled.now) (shown_by c.args.tables.now) c.args.atom c.args.action t c.task-task.ensures.task))

pub returns-clause-whole : goal.returns-clause-whole
returns-clause-whole c =
    let t = c.task-task.result.now in
    let given_is : c.in_ok-given.given ≡ given_for (outline_of c.args.compiled.now) (shown_by c.args.tables.now) c.args.atom c.args.action
    = c.in_ok-given.ensures (shown_by c.args.tables.now) (views_seen c.args.tables.now c.deref.result.now c.deref.ensures.value) in
    rw (c.in_ok-words.ensures, c.in_ok-undo.ensures, given_is)
    (order_whole c.args.compiled.now (shown_by c.args.tables.now) c.args.atom c.args.action t c.task-task.ensures.accepted c.task-task.ensures.task)
