-- The outcome relation of a remote hand keeps the laws of outcomes.
use Rattle.std.specs.Prelude.{◌≡◌, ℕ, List}
use Rattle.std.proofs.Common.{inl, inr, subst, true}
use Rattle.tf_actions.specs.declared.orders.Given.{Given}
use Rattle.tf_actions.specs.declared.orders.Given.TheVariants as given
use Rattle.tf_actions.specs.declared.orders.Order.{Order}
use Rattle.tf_actions.specs.declared.outcomes.Action.{Action}
use Rattle.tf_actions.specs.declared.outcomes.Action.TheVariants as action
use Rattle.tf_actions.specs.Gives.{GivesFar, is_sent_so}
use Rattle.tf_actions.specs.Laws.{LooksUp, RevertsToNothing}
use Rattle.tf_tasks.specs.GivesLaws.{gives_looks_up, gives_reverts}

-- an execution with a missing symbol isn't sent
pub missing_stays : (order : Order) (symbol : List ℕ) → order.action ≡ action.Execute
    → order.given ≡ given.Missing symbol → is_sent_so order.action order.given order.undo ≡ true → ⊥
missing_stays order symbol execute missing sent =
    let P : Action → Given → Type 0 = λ a g. is_sent_so a g order.undo ≡ true in
    let clash : is_sent_so action.Execute (given.Missing symbol) order.undo
    ≡ true = subst (P action.Execute) missing (subst (λ (a : Action). P a order.given) execute sent) in cc

pub far_looks_up : LooksUp GivesFar
far_looks_up order symbol result execute missing gives = elim gives [
  | inl near ↦ gives_looks_up order symbol result execute missing near
  | inr far ↦ absurd (missing_stays order symbol execute missing far.sent)
]

pub far_reverts : RevertsToNothing GivesFar
far_reverts order result revert gives = elim gives [
  | inl near ↦ gives_reverts order result revert near
  | inr far ↦ let failed = far.failed in cc
]
