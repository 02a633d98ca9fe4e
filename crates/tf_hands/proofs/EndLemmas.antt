-- The end of a task frees its hand, and carries an outcome of its order.
use Rattle.std.proofs.Common.{◌≡◌, ℕ, List, ◌∷◌, true, false, not, ◌&&◌, Option, Some, None, refl, sym, ap, ◌∙◌, subst, inl, inr}
use Rattle.std.specs.Prelude.{nat_eq, if◌then◌else◌}
use Rattle.tf_values.specs.declared.value.Val.{Val}
use Rattle.tf_values.specs.declared.value.Val.TheVariants as value
use Rattle.tf_states.specs.declared.record.Entry.{Entry}
use Rattle.tf_states.specs.declared.record.Payload.TheVariants as payload
use Rattle.tf_states.specs.declared.record.What.{What}
use Rattle.tf_states.specs.declared.state.AtomState.{AtomState}
use Rattle.tf_states.specs.declared.state.AtomState.TheVariants as atom
use Rattle.tf_actions.specs.declared.orders.Order.{Order}
use Rattle.tf_actions.specs.declared.outcomes.Action.{Action}
use Rattle.tf_actions.specs.declared.outcomes.Action.TheVariants as action
use Rattle.tf_actions.specs.declared.outcomes.Outcome.{Outcome}
use Rattle.tf_actions.specs.declared.outcomes.Outcome.TheVariants as outcome
use Rattle.tf_actions.specs.Laws.{RevertsToNothing}
use Rattle.tf_numbers.proofs.TruthLemmas.{and_false}
use Rattle.tf_model.specs.Plan.{Outline, is_task}
use Rattle.tf_model.specs.History.{hand_after, is_at_work, snapshot, state_of, hand_of}
use Rattle.tf_model.specs.Scope.{order_at, Allows, IsGiven}
use Rattle.tf_model.specs.Steps.{is_inner, LegalPast, is_free}
use Rattle.tf_hands.specs.Hands.{begun, task_of, ended_from, end_by, is_no_end, is_of_flow, takes_task, orders, HasOrder}
use Rattle.tf_hands.proofs.EntryLemmas.{set_here, hand_origin, no_orders}
use Rattle.tf_hands.proofs.ForcedLemmas.{idle_taken, within_inner}
use Rattle.tf_hands.proofs.FlightLemmas.{free_of, busy_of, task_held, one_task}

-- ---- the entry

pub ended_within : (a : ℕ) (state : AtomState) (result : Outcome) → is_of_flow (ended_from a state result) ≡ false
ended_within a atom.Running (outcome.Gave v) = refl
ended_within a atom.Running (outcome.Failed f) = refl
ended_within a state (outcome.Gave v) = refl
ended_within a state (outcome.Failed f) = refl

pub ended_inner : (a : ℕ) (state : AtomState) (result : Outcome) → is_inner (ended_from a state result) ≡ true
ended_inner a state result = within_inner (ended_from a state result) (ended_within a state result)

pub ended_takes : (plan : Outline) (a : ℕ) (state : AtomState) (result : Outcome) → takes_task plan (ended_from a state result) ≡ None
ended_takes plan a atom.Running (outcome.Gave v) = idle_taken plan a atom.Success (payload.Value v) refl
ended_takes plan a atom.Running (outcome.Failed f) = idle_taken plan a atom.Failure (payload.Fault f) refl
ended_takes plan a state (outcome.Gave v) = idle_taken plan a atom.Reverted payload.Empty refl
ended_takes plan a state (outcome.Failed f) = idle_taken plan a atom.RevertFailure (payload.Fault f) refl

-- it ends its task
ended_ends : (plan : Outline) (a : ℕ) (state : AtomState) (result : Outcome) → is_task plan a ≡ true → is_no_end plan (ended_from a state result) ≡ false
ended_ends plan a atom.Running (outcome.Gave v) task = ap not task
ended_ends plan a atom.Running (outcome.Failed f) task = ap not task
ended_ends plan a state (outcome.Gave v) task = ap not task
ended_ends plan a state (outcome.Failed f) task = ap not task

pub end_ends : (plan : Outline) (past : List Entry) (hand a : ℕ) (result : Outcome) → LegalPast plan past → task_of plan (snapshot plan past) hand ≡ Some a
    → is_no_end plan (end_by (snapshot plan past) hand result a).what ≡ false
unfolding snapshot
end_ends plan past hand a result legal is = ended_ends plan a (state_of past a) result (busy_of plan past legal a hand (task_held plan (snapshot plan past) hand a is)).task

-- nobody has an atom that isn't at work
entered_none : (plan : Outline) (hand a : ℕ) (to : AtomState) (before : Option ℕ) → is_at_work to ≡ false
    → (if nat_eq a a then (if is_task plan a && is_at_work to then Some hand else None) else before) ≡ None
entered_none plan hand a to before idle = set_here a (if is_task plan a && is_at_work to then Some hand else None) before ∙ rw (idle, and_false (is_task plan a)) refl

ended_hand : (plan : Outline) (hand a : ℕ) (state : AtomState) (result : Outcome) (before : Option ℕ) → hand_after plan hand (ended_from a state result) a before ≡ None
ended_hand plan hand a atom.Running (outcome.Gave v) before = entered_none plan hand a atom.Success before refl
ended_hand plan hand a atom.Running (outcome.Failed f) before = entered_none plan hand a atom.Failure before refl
ended_hand plan hand a state (outcome.Gave v) before = entered_none plan hand a atom.Reverted before refl
ended_hand plan hand a state (outcome.Failed f) before = entered_none plan hand a atom.RevertFailure before refl

-- ---- the hand is free then

nobody : (o : Option ℕ) (h : ℕ) → o ≡ None → o ≡ Some h → ⊥
nobody o h none some = let no : None ≡ Some h = sym none ∙ some in cc

-- it has no other task
none_left : (plan : Outline) (past : List Entry) (hand a k : ℕ) (w : What) → LegalPast plan past → hand_of plan past a ≡ Some hand → takes_task plan w ≡ None
    → hand_after plan hand w a (hand_of plan past a) ≡ None → hand_after plan hand w k (hand_of plan past k) ≡ Some hand → ⊥
none_left plan past hand a k w legal had takes gone has = elim (hand_origin plan hand w k (hand_of plan past k) hand has) [
  | inl was ↦
      let same : k ≡ a = one_task plan past legal k a hand was had in
      nobody (hand_after plan hand w a (hand_of plan past a)) hand gone (subst (λ (i : ℕ). hand_after plan hand w i (hand_of plan past i) ≡ Some hand) same has)
  | inr taken ↦ nobody (takes_task plan w) k takes taken.0
]

pub end_frees : (plan : Outline) (past : List Entry) (hand a : ℕ) (result : Outcome) → LegalPast plan past → task_of plan (snapshot plan past) hand ≡ Some a
    → is_free plan (snapshot plan (end_by (snapshot plan past) hand result a ∷ past)) hand ≡ true
unfolding snapshot
end_frees plan past hand a result legal is =
    free_of plan (snapshot plan (end_by (snapshot plan past) hand result a ∷ past)) hand
    (λ k below has. none_left plan past hand a k (ended_from a (state_of past a) result) legal (task_held plan (snapshot plan past) hand a is)
    (ended_takes plan a (state_of past a) result) (ended_hand plan hand a (state_of past a) result (hand_of plan past a)) has)

pub end_orders : (plan : Outline) (past : List Entry) (hand other a : ℕ) (result : Outcome) → orders plan other (end_by (snapshot plan past) hand result a ∷ past) ≡ orders plan other past
end_orders plan past hand other a result =
    no_orders plan other (end_by (snapshot plan past) hand result a) past (ended_takes plan a ((snapshot plan past).state a) result)

-- ---- the outcome

came_given : (gives : Order → Outcome → Type 0) (plan : Outline) (past : List Entry) (a : ℕ) (how : Action) (order : Order) (came : Outcome) → RevertsToNothing gives
    → order_at plan past a how ≡ Some order → order.action ≡ how → gives order came → IsGiven gives plan past (ended_from a (begun how) came)
came_given gives plan past a action.Execute order (outcome.Gave v) law asked does gave = subst (λ (o : Option Order). Allows gives o (outcome.Gave v)) (sym asked) gave
came_given gives plan past a action.Execute order (outcome.Failed f) law asked does gave = subst (λ (o : Option Order). Allows gives o (outcome.Failed f)) (sym asked) gave
came_given gives plan past a action.Revert order (outcome.Gave v) law asked does gave =
    subst (λ (o : Option Order). Allows gives o (outcome.Gave value.Nothing)) (sym asked) (subst (λ (x : Val). gives order (outcome.Gave x)) (law order v does gave) gave)
came_given gives plan past a action.Revert order (outcome.Failed f) law asked does gave = subst (λ (o : Option Order). Allows gives o (outcome.Failed f)) (sym asked) gave

-- the end of the order's task
order_given : (gives : Order → Outcome → Type 0) (plan : Outline) (past : List Entry) (hand : ℕ) (order : Order) (came : Outcome) → RevertsToNothing gives → HasOrder plan past hand order
    → gives order came → IsGiven gives plan past (ended_from order.atom (state_of past order.atom) came)
order_given gives plan past hand order came law has gave =
    subst (λ (x : AtomState). IsGiven gives plan past (ended_from order.atom x came)) (sym has.works) (came_given gives plan past order.atom order.action order came law has.asked refl gave)

pub end_given : (gives : Order → Outcome → Type 0) (plan : Outline) (past : List Entry) (hand a : ℕ) (order : Order) (came : Outcome) → RevertsToNothing gives → LegalPast plan past
    → task_of plan (snapshot plan past) hand ≡ Some a → HasOrder plan past hand order → gives order came → IsGiven gives plan past (ended_from a ((snapshot plan past).state a) came)
unfolding snapshot
end_given gives plan past hand a order came law legal is has gave =
    subst (λ (k : ℕ). IsGiven gives plan past (ended_from k (state_of past k) came)) (one_task plan past legal order.atom a hand has.held (task_held plan (snapshot plan past) hand a is))
    (order_given gives plan past hand order came law has gave)
