-- What a hand has in flight in a legal history.
use Rattle.std.proofs.Common.{◌≡◌, ℕ, ◌<◌, List, [], ◌∷◌, Bool, true, false, not, Option, Some, None, refl, sym, ap, ◌∙◌, inl, inr, eq-eqb}
use Rattle.std.specs.Prelude.{is_none}
use Rattle.tf_states.specs.declared.record.Entry.{Entry}
use Rattle.tf_actions.specs.declared.orders.Order.{Order}
use Rattle.tf_numbers.specs.Numbers.{is_number}
use Rattle.tf_numbers.proofs.BelowLemmas.{all_at, all_of, not_each, found_passes, found_below, none_at}
use Rattle.tf_numbers.proofs.OptionLemmas.{is_this_number}
use Rattle.tf_numbers.proofs.TruthLemmas.{clash, not_true}
use Rattle.tf_model.specs.Plan.{Outline, count}
use Rattle.tf_model.specs.History.{Snapshot, snapshot, hand_of}
use Rattle.tf_model.specs.Steps.{Step, LegalPast, is_not_with, is_free, is_idle, is_still}
use Rattle.tf_hands.specs.Hands.{is_with, task_of, Busy, takes_task, HasOrder}
use Rattle.tf_model.proofs.PlanLemmas.{task_below}
use Rattle.tf_hands.proofs.FactLemmas.{past_facts}
use Rattle.tf_hands.proofs.EntryLemmas.{hand_origin}
use Rattle.tf_hands.proofs.KeptLemmas.{rule_takes}

-- ---- numbers that may be there

number_here : (o : Option ℕ) (h : ℕ) → o ≡ Some h → is_number o h ≡ true
number_here o h is = rw is (eq-eqb h h refl)

number_apart : (o : Option ℕ) (h : ℕ) → (o ≡ Some h → ⊥) → not (is_number o h) ≡ true
number_apart o h apart = by (is_number o h) refl
  where
    by : (b : Bool) → is_number o h ≡ b → not b ≡ true
    by true is = absurd (apart (is_this_number o h is))
    by false is = refl

number_off : (o : Option ℕ) (h : ℕ) → not (is_number o h) ≡ true → o ≡ Some h → ⊥
number_off o h off is = clash (is_number o h) (number_here o h is) (not_true (is_number o h) off)

-- ---- a hand with nothing in flight

-- it has none of the atoms
pub free_at : (plan : Outline) (s : Snapshot) (hand a : ℕ) → is_free plan s hand ≡ true → a < count plan → s.hand a ≡ Some hand → ⊥
unfolding is_free
free_at plan s hand a free below has = number_off (s.hand a) hand (all_at (count plan) (is_not_with s hand) a free below) has

pub free_of : (plan : Outline) (s : Snapshot) (hand : ℕ) → ((a : ℕ) → a < count plan → s.hand a ≡ Some hand → ⊥) → is_free plan s hand ≡ true
unfolding is_free
free_of plan s hand each = all_of (count plan) (is_not_with s hand) (λ a below. number_apart (s.hand a) hand (each a below))

pub busy_not_free : (plan : Outline) (s : Snapshot) (hand a : ℕ) → a < count plan → s.hand a ≡ Some hand → is_free plan s hand ≡ false
unfolding is_free
busy_not_free plan s hand a below has = not_each (count plan) (is_not_with s hand) a below (ap not (number_here (s.hand a) hand has))

-- ---- where nothing is in flight

pub still_at : (plan : Outline) (s : Snapshot) (a h : ℕ) → is_still plan s ≡ true → a < count plan → s.hand a ≡ Some h → ⊥
unfolding is_still
still_at plan s a h still below has = clash (is_none (s.hand a)) (all_at (count plan) (is_idle s) a still below) (ap is_none has)

none_so : (o : Option ℕ) → ((h : ℕ) → o ≡ Some h → ⊥) → is_none o ≡ true
none_so None never = refl
none_so (Some h) never = absurd (never h refl)

pub still_of : (plan : Outline) (s : Snapshot) → ((a h : ℕ) → a < count plan → s.hand a ≡ Some h → ⊥) → is_still plan s ≡ true
unfolding is_still
still_of plan s each = all_of (count plan) (is_idle s) (λ a below. none_so (s.hand a) (λ h. each a h below))

pub still_free : (plan : Outline) (s : Snapshot) (hand : ℕ) → is_still plan s ≡ true → is_free plan s hand ≡ true
still_free plan s hand still = free_of plan s hand (λ a below has. still_at plan s a hand still below has)

-- ---- the task of a hand

pub task_held : (plan : Outline) (s : Snapshot) (hand a : ℕ) → task_of plan s hand ≡ Some a → s.hand a ≡ Some hand
task_held plan s hand a is = is_this_number (s.hand a) hand (found_passes (count plan) (is_with s hand) a is)

pub task_within : (plan : Outline) (s : Snapshot) (hand a : ℕ) → task_of plan s hand ≡ Some a → a < count plan
task_within plan s hand a is = found_below (count plan) (is_with s hand) a is

pub task_not_free : (plan : Outline) (s : Snapshot) (hand a : ℕ) → task_of plan s hand ≡ Some a → is_free plan s hand ≡ false
task_not_free plan s hand a is = busy_not_free plan s hand a (task_within plan s hand a is) (task_held plan s hand a is)

pub no_task_free : (plan : Outline) (s : Snapshot) (hand : ℕ) → task_of plan s hand ≡ None → is_free plan s hand ≡ true
no_task_free plan s hand none =
    free_of plan s hand (λ a below has. clash (is_number (s.hand a) hand) (number_here (s.hand a) hand has) (none_at (count plan) (is_with s hand) a none below))

pub free_no_task : (plan : Outline) (s : Snapshot) (hand : ℕ) → is_free plan s hand ≡ true → task_of plan s hand ≡ None
free_no_task plan s hand free = by (task_of plan s hand) refl
  where
    by : (o : Option ℕ) → task_of plan s hand ≡ o → o ≡ None
    by None is = refl
    by (Some a) is = absurd (clash (is_free plan s hand) free (task_not_free plan s hand a is))

-- ---- one task a hand

-- of a snapshot: no hand has two atoms
abbrev pub HasOneEach : Snapshot → Type 0
HasOneEach s = (a b h : ℕ) → s.hand a ≡ Some h → s.hand b ≡ Some h → a ≡ b

-- what is in flight in a legal history is a task at work, while the flow is RUNNING or SUSPENDING
pub busy_of : (plan : Outline) (past : List Entry) → LegalPast plan past → (a h : ℕ) → hand_of plan past a ≡ Some h → Busy plan (snapshot plan past) a h
unfolding snapshot
busy_of plan past legal a h has = (past_facts plan past legal).busy a h has

pub held_below : (plan : Outline) (past : List Entry) → LegalPast plan past → (a h : ℕ) → hand_of plan past a ≡ Some h → a < count plan
held_below plan past legal a h has = task_below plan a (busy_of plan past legal a h has).task

-- what the newest entry takes up is the only task of its hand
taken_alone : (plan : Outline) (e : Entry) (past : List Entry) → LegalPast plan past → Step plan (snapshot plan past) e → (a b : ℕ) → takes_task plan e.what ≡ Some a → hand_of plan past b ≡ Some e.hand → ⊥
unfolding snapshot
taken_alone plan e past legal step a b takes has =
    free_at plan (snapshot plan past) e.hand b (rule_takes plan (snapshot plan past) e a step.rule takes).1 (held_below plan past legal b e.hand has) has

same_some : (o : Option ℕ) (a b : ℕ) → o ≡ Some a → o ≡ Some b → a ≡ b
same_some o a b first second = let same : Some a ≡ Some b = sym first ∙ second in cc

pub one_task : (plan : Outline) (past : List Entry) → LegalPast plan past → (a b h : ℕ) → hand_of plan past a ≡ Some h → hand_of plan past b ≡ Some h → a ≡ b
one_task plan [] legal a b h first second = absurd (cc)
one_task plan (e ∷ past) legal a b h first second = elim (hand_origin plan e.hand e.what a (hand_of plan past a) h first) [
  | inl was ↦ elim (hand_origin plan e.hand e.what b (hand_of plan past b) h second) [
    | inl before ↦ one_task plan past legal.1 a b h was before
    | inr taken ↦ absurd (taken_alone plan e past legal.1 legal.0 b a taken.0 (was ∙ ap Some (sym taken.1)))
  ]
  | inr taken ↦ elim (hand_origin plan e.hand e.what b (hand_of plan past b) h second) [
    | inl before ↦ absurd (taken_alone plan e past legal.1 legal.0 a b taken.0 (before ∙ ap Some (sym taken.1)))
    | inr also ↦ same_some (takes_task plan e.what) a b taken.0 also.0
  ]
]

-- the task that a hand has in flight is the one that is found
task_by : (plan : Outline) (past : List Entry) → LegalPast plan past → (hand a : ℕ) (o : Option ℕ) → task_of plan (snapshot plan past) hand ≡ o → hand_of plan past a ≡ Some hand → o ≡ Some a
unfolding snapshot
task_by plan past legal hand a None is has =
    absurd (free_at plan (snapshot plan past) hand a (no_task_free plan (snapshot plan past) hand is) (held_below plan past legal a hand has) has)
task_by plan past legal hand a (Some b) is has = ap Some (one_task plan past legal b a hand (task_held plan (snapshot plan past) hand b is) has)

pub task_told : (plan : Outline) (past : List Entry) → LegalPast plan past → (hand a : ℕ) → hand_of plan past a ≡ Some hand → task_of plan (snapshot plan past) hand ≡ Some a
task_told plan past legal hand a has = task_by plan past legal hand a (task_of plan (snapshot plan past) hand) refl has

-- ---- orders

pub order_told : (plan : Outline) (past : List Entry) (hand : ℕ) (order : Order) → LegalPast plan past → HasOrder plan past hand order → task_of plan (snapshot plan past) hand ≡ Some order.atom
order_told plan past hand order legal has = task_told plan past legal hand order.atom has.held

pub order_not_free : (plan : Outline) (past : List Entry) (hand : ℕ) (order : Order) → HasOrder plan past hand order → is_free plan (snapshot plan past) hand ≡ false
unfolding snapshot
order_not_free plan past hand order has = busy_not_free plan (snapshot plan past) hand order.atom has.below has.held

pub still_no_order : (plan : Outline) (past : List Entry) (hand : ℕ) (order : Order) → is_still plan (snapshot plan past) ≡ true → HasOrder plan past hand order → ⊥
unfolding snapshot
still_no_order plan past hand order still has = still_at plan (snapshot plan past) order.atom hand still has.below has.held
