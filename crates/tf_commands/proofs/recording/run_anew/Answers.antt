use Rattle.std.proofs.Common.{◌≡◌, ap, refl, sym, ◌∙◌, subst, arith}
use Rattle.std.specs.Prelude.{IsTrue}
use Rattle.tf_desk.specs.State.{told_as}
use Rattle.tf_flow.specs.declared.nested.Flow.{Flow}
use Rattle.tf_flow.specs.Plan.{PlanValue, plan_tree}
use Rattle.tf_details.specs.Elements.{detail_name}
use Rattle.tf_desk.proofs.StateLemmas.{told_still}
use Rattle.tf_ports.specs.Ports.{gives_by}
use Rattle.tf_book.specs.Shelf.{desk_of}
use Rattle.tf_commands.specs.Asking.{WasAsked}
use Rattle.tf_commands.specs.Books.{too_many, book_at, Runs}
use Rattle.tf_commands.proofs.BookLemmas.{untouched_by, named_over, begun_over}
use Rattle.tf_commands.proofs.FindLemmas.{book_found, many_details}
use Rattle.tf_commands.proofs.recording.run_anew.Goals as goal

pub returns-in-Some-clause-runs : goal.returns-in-Some-clause-runs
returns-in-Some-clause-runs g c = λ name entry seen so.
    let D = g.K.Desk in
    let d = c.details-list.ensures in
    let shelf = c.args.shelf in
    let plan = c.args.machine.plan in
    let named : c.root.result.now.name ≡ detail_name plan = ap (λ (f : Flow). f.name) c.root.ensures.value ∙ ap (λ (p : PlanValue). detail_name p) c.plan.ensures.is in
    told_still (λ before. Runs (gives_by g.W.Hand.Performer.gives g.W.Far.Performer.gives c.args.request.now.want) c.args.request.now (WasAsked (D.state (desk_of shelf)) (D.state c.forbid.result.desk)) name (g.W.Crew.told c.args.crew.now) (g.W.Crew.told c.args.crew.now) before (D.state c.forbid.result.desk) (plan_tree plan) c.forbid.result.status) (told_as (g.K.Desk.state seen) (g.K.Desk.state entry))
    (c.forbid.ensures.said.says.tells ∙ ap (λ k. (D.state k).tells) c.close.ensures ∙ so.opened.untouched.told)
    (named_over shelf.elements plan c.root.result.now.name c.in-Some.state named (c.in-Some.ensures shelf.elements d.list)
    (λ told. book_found D.state shelf.place shelf.elements (book_at (g.K.Desk.state entry) name) d.placed d.legal (so.found told))
    (c.forbid.ensures.refuses name entry seen (untouched_by D.state _ c.close.result (sym c.close.ensures) so.opened.untouched)))

pub returns-then-list-ge-DETAIL_LIMIT-clause-runs : goal.returns-then-list-ge-DETAIL_LIMIT-clause-runs
returns-then-list-ge-DETAIL_LIMIT-clause-runs g c = λ name entry seen so.
    let D = g.K.Desk in
    let d = c.details-list.ensures in
    let shelf = c.args.shelf in
    let plan = c.args.machine.plan in
    let named : c.root.result.now.name ≡ detail_name plan = ap (λ (f : Flow). f.name) c.root.ensures.value ∙ ap (λ (p : PlanValue). detail_name p) c.plan.ensures.is in
    told_still (λ before. Runs (gives_by g.W.Hand.Performer.gives g.W.Far.Performer.gives c.args.request.now.want) c.args.request.now (WasAsked (D.state (desk_of shelf)) (D.state c.say_over.result.desk)) name (g.W.Crew.told c.args.crew.now) (g.W.Crew.told c.args.crew.now) before (D.state c.say_over.result.desk) (plan_tree plan) c.say_over.result.status) (told_as (g.K.Desk.state seen) (g.K.Desk.state entry))
    (c.say_over.ensures.said.says.tells ∙ ap (λ k. (D.state k).tells) c.close-then-list-ge-DETAIL_LIMIT.ensures ∙ so.opened.untouched.told)
    (too_many shelf.elements plan refl refl
    (λ told. book_found D.state shelf.place shelf.elements (book_at (g.K.Desk.state entry) name) d.placed d.legal (so.found told))
    (rw named at (c.in-None.ensures shelf.elements d.list))
    (many_details shelf.elements _ d.legal d.count c.if-list-ge-DETAIL_LIMIT.true)
    (c.say_over.ensures.refuses name entry seen (untouched_by D.state _ c.close-then-list-ge-DETAIL_LIMIT.result (sym c.close-then-list-ge-DETAIL_LIMIT.ensures) so.opened.untouched)))

pub returns-else-list-ge-DETAIL_LIMIT-clause-runs : goal.returns-else-list-ge-DETAIL_LIMIT-clause-runs
returns-else-list-ge-DETAIL_LIMIT-clause-runs g c = λ name entry seen so.
    let D = g.K.Desk in
    let d = c.details-list.ensures in
    let shelf = c.args.shelf in
    let plan = c.args.machine.plan in
    let named : c.root.result.now.name ≡ detail_name plan = ap (λ (f : Flow). f.name) c.root.ensures.value ∙ ap (λ (p : PlanValue). detail_name p) c.plan.ensures.is in
    begun_over shelf.elements plan
    (λ told. book_found D.state shelf.place shelf.elements (book_at (g.K.Desk.state entry) name) d.placed d.legal (so.found (subst IsTrue so.opened.untouched.told (c.hire_and_run.ensures.falls told))))
    (record { few = omega (arith, c.if-list-ge-DETAIL_LIMIT.false, d.count); unnamed = rw named at (c.in-None.ensures shelf.elements d.list) }) (c.hire_and_run.ensures.runs name entry seen so)
