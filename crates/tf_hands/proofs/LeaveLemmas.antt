-- What is forced leaves every hand with what it has and what it was asked for.
use Rattle.std.proofs.Common.{◌≡◌, ℕ, ◌<◌, List, ◌∷◌, true, false, not, Option, Some, None, refl, sym, ap, ◌∙◌}
use Rattle.std.specs.Prelude.{is_none}
use Rattle.tf_states.specs.declared.record.Entry.{Entry}
use Rattle.tf_states.specs.declared.record.What.{What}
use Rattle.tf_actions.specs.declared.orders.Order.{Order}
use Rattle.tf_actions.specs.declared.outcomes.Action.{Action}
use Rattle.tf_actions.specs.declared.outcomes.Action.TheVariants as action
use Rattle.tf_numbers.specs.Numbers.{is_number}
use Rattle.tf_numbers.proofs.BelowLemmas.{all_same}
use Rattle.tf_model.specs.Plan.{Outline, count, is_task}
use Rattle.tf_model.specs.History.{Snapshot, hand_after, is_at_work, snapshot, hand_of}
use Rattle.tf_model.specs.Forced.{forced}
use Rattle.tf_model.specs.Steps.{by_force, LegalPast, is_not_with, is_free, is_idle, is_still}
use Rattle.tf_model.proofs.StepLemmas.{step_allowed}
use Rattle.tf_hands.specs.Hands.{begun, by_hand, orders, HasOrder}
use Rattle.tf_hands.proofs.EntryLemmas.{touches, within_resumes, hand_stays, none_stays, no_orders, order_stays}
use Rattle.tf_hands.proofs.ForcedLemmas.{forced_spares, forced_takes_none, forced_within}
use Rattle.tf_hands.proofs.KeptLemmas.{spared_untouched}
use Rattle.tf_hands.proofs.FlightLemmas.{busy_of}

-- ---- the same hands

-- where every atom is in the same hand, a hand is free as before
pub same_free : (plan : Outline) (s t : Snapshot) (hand : ℕ) → ((a : ℕ) → a < count plan → t.hand a ≡ s.hand a) → is_free plan t hand ≡ is_free plan s hand
unfolding is_free
same_free plan s t hand same = all_same (count plan) (is_not_with t hand) (is_not_with s hand) (λ a below. ap (λ (o : Option ℕ). not (is_number o hand)) (same a below))

-- and so is it, whether anything is in flight
pub same_still : (plan : Outline) (s t : Snapshot) → ((a : ℕ) → a < count plan → t.hand a ≡ s.hand a) → is_still plan t ≡ is_still plan s
unfolding is_still
same_still plan s t same = all_same (count plan) (is_idle t) (is_idle s) (λ a below. ap is_none (same a below))

-- the same of histories
pub same_hands : (plan : Outline) (past : List Entry) (e : Entry) → ((a : ℕ) → hand_of plan (e ∷ past) a ≡ hand_of plan past a)
    → (a : ℕ) → a < count plan → (snapshot plan (e ∷ past)).hand a ≡ (snapshot plan past).hand a
unfolding snapshot
same_hands plan past e same a below = same a

-- ---- what is forced

pub begun_works : (how : Action) → is_at_work (begun how) ≡ true
begun_works action.Execute = refl
begun_works action.Revert = refl

forced_untouched : (plan : Outline) (s : Snapshot) (w : What) (a : ℕ) → forced plan s ≡ Some w → is_task plan a ≡ true → is_at_work (s.state a) ≡ true → touches w a ≡ false
forced_untouched plan s w a is task works = spared_untouched plan s w a task works (forced_spares plan s w is) (step_allowed plan s (by_hand 0 w) (by_force is))

pub forced_hands : (plan : Outline) (past : List Entry) (hand : ℕ) (w : What) → LegalPast plan past → forced plan (snapshot plan past) ≡ Some w → (a : ℕ)
    → hand_of plan (by_hand hand w ∷ past) a ≡ hand_of plan past a
forced_hands plan past hand w legal is a = by (hand_of plan past a) refl
  where
    by : (o : Option ℕ) → hand_of plan past a ≡ o → hand_after plan hand w a (hand_of plan past a) ≡ hand_of plan past a
    by None none = none_stays plan hand w a (hand_of plan past a) (forced_takes_none plan (snapshot plan past) w is) none ∙ sym none
    by (Some h) has =
        let busy = busy_of plan past legal a h has in
        hand_stays plan hand w a (hand_of plan past a) (forced_untouched plan (snapshot plan past) w a is busy.task busy.at_work) (within_resumes w (forced_within plan (snapshot plan past) w is))

pub forced_free : (plan : Outline) (past : List Entry) (hand other : ℕ) (w : What) → LegalPast plan past → forced plan (snapshot plan past) ≡ Some w
    → is_free plan (snapshot plan (by_hand hand w ∷ past)) other ≡ is_free plan (snapshot plan past) other
forced_free plan past hand other w legal is =
    same_free plan (snapshot plan past) (snapshot plan (by_hand hand w ∷ past)) other (same_hands plan past (by_hand hand w) (forced_hands plan past hand w legal is))

pub forced_still : (plan : Outline) (past : List Entry) (hand : ℕ) (w : What) → LegalPast plan past → forced plan (snapshot plan past) ≡ Some w
    → is_still plan (snapshot plan (by_hand hand w ∷ past)) ≡ is_still plan (snapshot plan past)
forced_still plan past hand w legal is =
    same_still plan (snapshot plan past) (snapshot plan (by_hand hand w ∷ past)) (same_hands plan past (by_hand hand w) (forced_hands plan past hand w legal is))

pub working : (plan : Outline) (past : List Entry) (hand : ℕ) (order : Order) → HasOrder plan past hand order → is_at_work ((snapshot plan past).state order.atom) ≡ true
unfolding snapshot
working plan past hand order has = ap is_at_work has.works ∙ begun_works order.action

pub forced_order : (plan : Outline) (past : List Entry) (hand other : ℕ) (w : What) (order : Order) → forced plan (snapshot plan past) ≡ Some w → HasOrder plan past other order
    → HasOrder plan (by_hand hand w ∷ past) other order
forced_order plan past hand other w order is has =
    order_stays plan past (by_hand hand w) other order (forced_untouched plan (snapshot plan past) w order.atom is has.task (working plan past other order has))
    (within_resumes w (forced_within plan (snapshot plan past) w is)) has

pub forced_orders : (plan : Outline) (past : List Entry) (hand other : ℕ) (w : What) → forced plan (snapshot plan past) ≡ Some w → orders plan other (by_hand hand w ∷ past) ≡ orders plan other past
forced_orders plan past hand other w is = no_orders plan other (by_hand hand w) past (forced_takes_none plan (snapshot plan past) w is)
