use Rattle.std.proofs.Common.{[], ◌∷◌, ◌∙◌, refl, ap}
use Rattle.std.specs.Prelude.{Result}
use Rattle.tf_book.proofs.TurnLemmas.{cut_entering, last_cut, on_err, suspends_from, to_running, to_suspended}
use Rattle.tf_book.specs.Book.{BookValue}
use Rattle.tf_book.specs.Recording.{past_after}
use Rattle.tf_book.specs.declared.faults.Halt.{Halt}
use Rattle.tf_book.proofs.book.Book.suspend_and_run.Goals as goal

pub returns-in_err-turn_to-clause-cut : goal.returns-in_err-turn_to-clause-cut
returns-in_err-turn_to-clause-cut g c =
    on_err _ _ (cut_entering c.args.hand c.args.self.now.past c.args.self.now.past _ [] (to_running c.args.hand ∷ []) (to_suspended c.args.hand) c.turn_to.result
    (suspends_from c.args.hand _ c.requires.from).1 refl refl (ap (λ (b : BookValue _). b.past) c.turn_to.ensures.same))

pub returns-clause-cut : goal.returns-clause-cut
returns-clause-cut g c =
    last_cut c.args.hand c.args.self.now.past _ _ (to_suspended c.args.hand ∷ []) (to_running c.args.hand) c.turn_to-2.result (suspends_from c.args.hand _ c.requires.from).1
    (ap (λ (b : BookValue _). b.past) c.turn_to.ensures.same ∙ ap (λ (r : Result (Unit {0}) Halt). past_after (to_suspended c.args.hand) c.args.self.now.past r) c.in_ok-turn_to.was) refl
    (ap (λ (b : BookValue _). b.past) c.turn_to-2.ensures.same)
