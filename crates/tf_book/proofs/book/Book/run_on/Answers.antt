use Rattle.std.proofs.Common.{◌≡◌, true, Bool, Ok, sym, ap, subst}
use Rattle.tf_flow.specs.Plan.{PlanValue}
use Rattle.tf_model.specs.History.{snapshot}
use Rattle.tf_model.specs.Plan.{outline_of}
use Rattle.tf_model.specs.Steps.{LegalPast, is_free}
use Rattle.tf_book.proofs.ForceLemmas.{free_on, err_so, ok_so, halted_start, halted_rest, stopped_turn, stopped_cut, stopped_less}
use Rattle.tf_book.proofs.book.Book.run_on.Goals as goal

pub take_up-requires-clause-free : goal.take_up-requires-clause-free
take_up-requires-clause-free g c =
    let ran = c.in_ok-force.ensures.ran (ap (λ (b : Bool). Ok b) c.if-branch.false) in
    subst (λ (p : PlanValue). is_free (outline_of p) (snapshot (outline_of p) c.force.new.self.past) c.args.hand ≡ true) (sym c.in_ok-force.ensures.proceeds.plan)
    (free_on _ _ c.args.hand _ _ _ _ (subst (λ (p : PlanValue). LegalPast (outline_of p) c.force.new.self.past) c.in_ok-force.ensures.proceeds.plan c.candidate.ensures.legal) ran c.requires.free)

pub returns-in-Some-clause-cut : goal.returns-in-Some-clause-cut
returns-in-Some-clause-cut g c =
    let ran = c.in_ok-force.ensures.ran (ap (λ (b : Bool). Ok b) c.if-branch.false) in
    err_so _ _ _ (halted_start _ _ _ _ _ _ _ _ _ (ap outline_of c.in_ok-force.ensures.proceeds.plan) ran) c.take_up.ensures.cut

pub returns-in-None-clause-cut : goal.returns-in-None-clause-cut
returns-in-None-clause-cut g c =
    let ran = c.in_ok-force.ensures.ran (ap (λ (b : Bool). Ok b) c.if-branch.false) in
    err_so _ _ _ (halted_rest _ _ _ _ _ _ _ _ (ap outline_of c.in_ok-force.ensures.proceeds.plan) ran (sym c.in-None.ensures.is)) c.rest.ensures.cut

pub returns-then-branch-clause-turn : goal.returns-then-branch-clause-turn
returns-then-branch-clause-turn g c =
    let ran = c.in_ok-force.ensures.stops (ap (λ (b : Bool). Ok b) c.if-branch.true) in
    ok_so _ _ _ (λ answer. stopped_turn _ _ _ _ _ _ _ _ answer (ap outline_of c.in_ok-force.ensures.proceeds.plan) ran) c.stop.ensures.stopped

pub returns-then-branch-clause-cut : goal.returns-then-branch-clause-cut
returns-then-branch-clause-cut g c =
    let ran = c.in_ok-force.ensures.stops (ap (λ (b : Bool). Ok b) c.if-branch.true) in
    err_so _ _ _ (stopped_cut _ _ _ _ _ _ _ _ (ap outline_of c.in_ok-force.ensures.proceeds.plan) ran) c.stop.ensures.cut

pub returns-then-branch-clause-less : goal.returns-then-branch-clause-less
returns-then-branch-clause-less g c = ok_so _ _ _ (λ answer. stopped_less _ _ _ _ answer _ _) c.stop.ensures.stopped
