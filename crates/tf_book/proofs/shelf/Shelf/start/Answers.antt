use Rattle.std.specs.Prelude.{IsTrue}
use Rattle.std.proofs.Common.{◌≡◌, List, ℕ, ap, ◌∙◌, sym, subst, true}
use Rattle.tf_desk.specs.State.{Passes}
use Rattle.tf_entries.specs.Plans.{IsPlan}
use Rattle.tf_details.specs.Elements.{IsAcceptedPlan}
use Rattle.tf_details.specs.Reading.{elements_in}
use Rattle.tf_book.specs.Shelf.{ShelfValue, desk_at, desk_of, is_volatile, IsTold}
use Rattle.tf_book.specs.Starting.{AddsTo, LeavesAdded, LeavesBegun, FailsToAdd, FailsToStart}
use Rattle.tf_book.specs.Book.{detail_body, with_detail, HasPlaceFor}
use Rattle.tf_book.proofs.StartingLemmas.{may_begin, new_history, begun_held, room_begun, goes_nowhere, passes_nowhere, begun_sound, start_fails}
use Rattle.tf_book.proofs.shelf.Shelf.start.Goals as goal

pub returns-in_default-clause-goes : goal.returns-in_default-clause-goes
returns-in_default-clause-goes g c = goes_nowhere g.K.Desk.state _ _ (c.into_desk.ensures ∙ ap (λ (s : ShelfValue _). desk_of s) c.self.view_is)

pub returns-in_default-make-clause-crash : goal.returns-in_default-make-clause-crash
returns-in_default-make-clause-crash g c = λ told still. passes_nowhere g.K.Desk.state _ _ (c.into_desk-in_default-make.ensures ∙ ap (λ (s : ShelfValue _). desk_of s) c.self.view_is)

pub returns-in_default-make-clause-goes : goal.returns-in_default-make-clause-goes
returns-in_default-make-clause-goes g c = goes_nowhere g.K.Desk.state _ _ (c.into_desk-in_default-make.ensures ∙ ap (λ (s : ShelfValue _). desk_of s) c.self.view_is)

pub begin-requires : goal.begin-requires
begin-requires g c =
    record { room = room_begun g.K.Desk.state c.self.inside.read _ c.in-Ok-add.journal c.self.invariant.3 (c.in-Ok-add.ensures.adds _ c.self.invariant.0).has }

pub invariant_of-result : goal.invariant_of-result
invariant_of-result g c =
    let plan = c.args.machine.plan in
    let is = c.plan-plan.ensures.is in
    let body : c.deref.result.now ≡ detail_body plan = c.deref.ensures.value ∙ c.in-Ok.ensures.body ∙ ap detail_body is in
    let adds = subst (λ (b : List ℕ). AddsTo g.K.Desk.state c.self.inside.place (elements_in c.self.inside.read) b c.in-Ok-add.journal) body (c.in-Ok-add.ensures.adds _ c.self.invariant.0) in
    let held = c.begin.ensures.held ∙ ap (with_detail (elements_in c.self.inside.read)) c.plan.ensures.is in (
      c.clear.ensures.all_room c.self.invariant.5.room,
      c.in-Ok-make.ensures,
      c.begin.ensures.all_room (record { marks = c.self.invariant.3 }),
      begun_sound g.K.Desk.state (elements_in c.self.inside.read) c.args.machine _ _ _ c.in-Ok-add.journal c.args.quiet c.clear.ensures.bodies c.clear.ensures.entries
          (begun_held c.begin.new.self _ plan (c.begin.ensures.number ∙ c.count-number.ensures.details _ c.self.invariant.2) held) c.self.invariant.1
          (may_begin _ plan (subst (λ (s : ShelfValue _). HasPlaceFor s.elements plan) (sym c.self.view_is) c.requires.place) (subst IsAcceptedPlan is c.root-root.ensures.accepted)
          (subst IsPlan is c.in-Ok.ensures.is_plan) (c.plan-plan.ensures.compiles, c.plan-plan.ensures.complete)) c.requires.fresh adds.has,
    )

pub returns-clause-crash : goal.returns-clause-crash
returns-clause-crash g c =
    let D = g.K.Desk in
    let plan = c.args.machine.plan in
    let at = c.self.inside.place in
    let elements = elements_in c.self.inside.read in
    let body : c.deref.result.now ≡ detail_body plan = c.deref.ensures.value ∙ c.in-Ok.ensures.body ∙ ap detail_body c.plan-plan.ensures.is in
    subst (λ (s : ShelfValue _). IsTold D.state s.place → IsTrue (D.state c.in-Err.back.0).tells → Passes (LeavesBegun s plan (D.state (desk_of s)).shown) (D.state (desk_of s)) (D.state c.in-Err.back.0)) c.self.view_is
    (λ told still. subst (λ (b : List ℕ). Passes (LeavesAdded at elements b (D.state (desk_at at)).shown) (D.state (desk_at at)) (D.state c.in-Err.back.0)) body
    (c.in-Err.ensures.crash elements c.self.invariant.0 told still))

pub returns-clause-fails : goal.returns-clause-fails
returns-clause-fails g c =
    let D = g.K.Desk in
    let plan = c.args.machine.plan in
    let is = c.plan-plan.ensures.is in
    let at = c.self.inside.place in
    let elements = elements_in c.self.inside.read in
    let body : c.deref.result.now ≡ detail_body plan = c.deref.ensures.value ∙ c.in-Ok.ensures.body ∙ ap detail_body is in
    subst (λ (s : ShelfValue _). FailsToStart D.state s plan c.in-Err.back.1 (desk_of s) c.in-Err.back.0) c.self.view_is
    (start_fails D.state (record { place = at; elements = elements }) plan c.in-Err.back.1 (desk_at at) c.in-Err.back.0
    (new_history plan (subst IsAcceptedPlan is c.root-root.ensures.accepted) (subst IsPlan is c.in-Ok.ensures.is_plan) (c.plan-plan.ensures.compiles, c.plan-plan.ensures.complete))
    (subst (λ (b : List ℕ). FailsToAdd D.state elements b c.in-Err.back.1 (desk_at at) c.in-Err.back.0) body (c.in-Err.ensures.fails elements c.self.invariant.0)))

pub returns-clause-volatile : goal.returns-clause-volatile
returns-clause-volatile g c = subst (λ (s : ShelfValue _). is_volatile s.place ≡ true → c.in-Err.back.0 ≡ desk_of s) c.self.view_is c.in-Err.ensures.volatile
