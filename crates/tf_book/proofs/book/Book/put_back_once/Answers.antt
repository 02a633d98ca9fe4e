use Rattle.std.proofs.Common.{◌≡◌, ◌∷◌, ◌∙◌, List, ap, sym, subst, true}
use Rattle.std.specs.Prelude.{Result}
use Rattle.tf_flow.specs.Plan.{PlanValue}
use Rattle.tf_states.specs.declared.record.Entry.{Entry}
use Rattle.tf_hands.specs.Hands.{by_hand}
use Rattle.tf_model.specs.History.{snapshot}
use Rattle.tf_model.specs.Plan.{outline_of}
use Rattle.tf_book.specs.Book.{BookValue, outline}
use Rattle.tf_book.specs.Recording.{past_after}
use Rattle.tf_book.specs.Turns.{may_reset}
use Rattle.tf_book.specs.declared.faults.Halt.{Halt}
use Rattle.tf_book.proofs.ResetLemmas.{more_left}
use Rattle.tf_book.proofs.book.Book.put_back_once.Goals as goal

pub returns-clause-more : goal.returns-clause-more
returns-clause-more g c = λ is.
    let old = c.args.self.now in
    let w = c.reset_event-what.result in
    let past_is : c.record.new.self.past ≡ by_hand 0 w ∷ old.past =
    ap (λ (b : BookValue _). b.past) c.record.ensures.same ∙ ap (λ (r : Result (Unit {0}) Halt). past_after (by_hand 0 w) old.past r) c.in_ok-record.was in
    let plan_is : c.record.new.self.plan ≡ old.plan = ap (λ (b : BookValue _). b.plan) c.record.ensures.same in
    subst (λ (p : PlanValue). may_reset (outline_of p) (snapshot (outline_of p) c.record.new.self.past) ≡ true) (sym plan_is)
    (subst (λ (l : List Entry). may_reset (outline old) (snapshot (outline old) l) ≡ true) (sym past_is)
    (more_left (outline old) old.past _ w c.reset_event-what.ensures.is (sym c.is_of_flow-last.ensures ∙ c.if-last.false) c.requires.may))
