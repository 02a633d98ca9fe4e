use Rattle.std.proofs.Common.{◌≡◌, ◌∙◌, ap, inl}
use Rattle.std.specs.Prelude.{Result}
use Rattle.tf_states.specs.declared.record.What.TheVariants as what
use Rattle.tf_states.specs.declared.state.FlowState.TheVariants as flow
use Rattle.tf_hands.specs.Hands.{by_hand}
use Rattle.tf_model.specs.Plan.{outline_of}
use Rattle.tf_book.specs.Book.{BookValue}
use Rattle.tf_book.specs.Recording.{past_after}
use Rattle.tf_book.specs.Turns.{suspending_after}
use Rattle.tf_book.specs.declared.faults.Halt.{Halt}
use Rattle.tf_book.proofs.ForceLemmas.{err_so, cut_suspending, closed_so}
use Rattle.tf_book.proofs.TurnLemmas.{on_err}
use Rattle.tf_book.proofs.book.Book.suspend.Goals as goal

pub returns-in_err-turn_to-clause-cut : goal.returns-in_err-turn_to-clause-cut
returns-in_err-turn_to-clause-cut g c = on_err _ _ (cut_suspending _ c.args.hand _ _ _ (ap (λ (b : BookValue _). b.past) c.turn_to.ensures.same))

pub returns-clause-cut : goal.returns-clause-cut
returns-clause-cut g c =
    let past_is : c.turn_to.new.self.past ≡ suspending_after c.args.hand c.args.self.now.past =
    ap (λ (b : BookValue _). b.past) c.turn_to.ensures.same
    ∙ ap (λ (r : Result (Unit {0}) Halt). past_after (by_hand c.args.hand (what.Flow flow.Suspending)) c.args.self.now.past r) c.in_ok-turn_to.was in
    err_so _ _ _ (λ closed. inl (closed_so _ _ _ _ _ _ (ap (λ (b : BookValue _). outline_of b.plan) c.turn_to.ensures.same) past_is closed)) c.wind_up.ensures.cut
