-- An entry that takes a task up brings the order that is kept of it.
use Rattle.std.proofs.Common.{◌≡◌, ℕ, zero, suc, ◌<◌, List, [], ◌∷◌, ◌++◌, length, Bool, true, false, Option, Some, None, refl, sym, ap, subst, ◌∙◌, arith, eqb-true, eq-eqb, slice_get, slice_set, length-set}
use Rattle.std.specs.Prelude.{if◌then◌else◌, nat_eq, IfSome}
use Rattle.std.proofs.lemmas.Option.{same_Some}
use Rattle.tf_numbers.proofs.TruthLemmas.{clash}
use Rattle.tf_states.specs.declared.record.Entry.{Entry}
use Rattle.tf_states.specs.declared.record.What.{What}
use Rattle.tf_states.specs.declared.record.What.TheVariants as what
use Rattle.tf_states.specs.declared.state.AtomState.{AtomState}
use Rattle.tf_actions.specs.declared.orders.Order.{Order}
use Rattle.tf_actions.specs.Gives.{IsWhole}
use Rattle.tf_model.specs.History.{snapshot, state_of, Snapshot, is_at_work, state_after}
use Rattle.tf_model.specs.Scope.{order_of, order_at, takes_up, before_start}
use Rattle.tf_model.specs.Plan.{Outline, count, is_task}
use Rattle.tf_model.proofs.PlanLemmas.{task_below}
use Rattle.tf_hands.specs.Hands.{asked_in}
use Rattle.tf_order.proofs.SpreadLemmas.{get_set_same, get_set_other}
use Rattle.tf_audit.specs.Kept.{KeepsOrders}
use Rattle.tf_audit.specs.Progress.{AreWhole, orders_with}
use Rattle.tf_audit.specs.Starts.{TakesNone, IsTakenUp}

-- ---- which task an entry takes up

first_true : (t u : Bool) → (if t then u else false) ≡ true → t ≡ true
first_true true u is = refl
first_true false u is = absurd (cc)

-- it takes one up at most
one_taken : (w : What) (a b : ℕ) → takes_up w a ≡ true → takes_up w b ≡ true → a ≡ b
one_taken (what.Atom entered state held) a b p q =
    sym (eqb-true entered a (first_true (nat_eq entered a) (is_at_work state) p)) ∙ eqb-true entered b (first_true (nat_eq entered b) (is_at_work state) q)
one_taken (what.Restart again) a b p q = sym (eqb-true again a p) ∙ eqb-true again b q
one_taken (what.Flow state) a b p q = absurd (cc)
one_taken (what.Resolve named resolved) a b p q = absurd (cc)

-- a task at work that isn't taken up was in its state before
untouched : (w : What) (a : ℕ) (s : AtomState) → takes_up w a ≡ false → is_at_work (state_after w a s) ≡ true → state_after w a s ≡ s
untouched (what.Atom entered state held) a s idle works = by (nat_eq entered a) idle works
  where
    by : (t : Bool) → (if t then is_at_work state else false) ≡ false → is_at_work (if t then state else s) ≡ true → (if t then state else s) ≡ s
    by true p q = absurd (cc)
    by false p q = refl
untouched (what.Restart again) a s idle works = refl
untouched (what.Flow state) a s idle works = refl
untouched (what.Resolve named resolved) a s idle works = refl

-- ---- the order of its last start

-- one that isn't taken up keeps its order
told_before : (plan : Outline) (orders : List (Option Order)) (past : List Entry) (e : Entry) (a : ℕ) → KeepsOrders plan orders past → is_task plan a ≡ true → is_at_work (state_of (e ∷ past) a) ≡ true → takes_up e.what a ≡ false
    → slice_get orders a ≡ Some (order_at plan (e ∷ past) a (asked_in (state_of (e ∷ past) a)))
told_before plan orders past e a keeps task works idle =
    let same : state_of (e ∷ past) a ≡ state_of past a = untouched e.what a (state_of past a) idle works in
    let before : before_start (e ∷ past) a ≡ before_start past a = ap (λ (t : Bool). if t then past else before_start past a) idle in
    keeps.each a task (ap is_at_work (sym same) ∙ works)
    ∙ (ap (λ (h : List Entry). Some (order_of plan (snapshot plan h) a (asked_in (state_of past a)))) (sym before)
    ∙ ap (λ (s : AtomState). Some (order_of plan (snapshot plan (before_start (e ∷ past) a)) a (asked_in s))) (sym same))

-- one that is taken up has the order of this moment
told_now : (plan : Outline) (past : List Entry) (e : Entry) (a : ℕ) (order : Order) → IsTakenUp plan (snapshot plan past) e.what a order → order_at plan (e ∷ past) a (asked_in (state_of (e ∷ past) a)) ≡ Some order
unfolding snapshot
told_now plan past e a order taken =
    ap (λ (t : Bool). order_of plan (snapshot plan (if t then past else before_start past a)) a (asked_in (state_of (e ∷ past) a))) taken.taken ∙ taken.asked

told_at : (plan : Outline) (orders : List (Option Order)) (past : List Entry) (e : Entry) (b : ℕ) (order : Order) → length orders ≡ count plan → IsTakenUp plan (snapshot plan past) e.what b order
    → slice_get (slice_set orders b (Some order)) b ≡ Some (order_at plan (e ∷ past) b (asked_in (state_of (e ∷ past) b)))
told_at plan orders past e b order many taken =
    let below : b < count plan = task_below plan b taken.task in
    get_set_same orders b (Some order) (omega arith) ∙ ap (λ (o : Option Order). Some o) (sym (told_now plan past e b order taken))

told_both : (plan : Outline) (orders : List (Option Order)) (past : List Entry) (e : Entry) (b : ℕ) (order : Order) → KeepsOrders plan orders past → length orders ≡ count plan → IsTakenUp plan (snapshot plan past) e.what b order
    → (a : ℕ) (t : Bool) → takes_up e.what a ≡ t → is_task plan a ≡ true → is_at_work (state_of (e ∷ past) a) ≡ true
    → slice_get (slice_set orders b (Some order)) a ≡ Some (order_at plan (e ∷ past) a (asked_in (state_of (e ∷ past) a)))
told_both plan orders past e b order keeps many taken a true is task works =
    let same : b ≡ a = one_taken e.what b a taken.taken is in
    subst (λ (k : ℕ). slice_get (slice_set orders b (Some order)) k ≡ Some (order_at plan (e ∷ past) k (asked_in (state_of (e ∷ past) k)))) same (told_at plan orders past e b order many taken)
told_both plan orders past e b order keeps many taken a false is task works =
    let idle : (a ≡ b) → ⊥ = λ same. let taken_too : takes_up e.what a ≡ true = ap (takes_up e.what) same ∙ taken.taken in cc in
    get_set_other orders b a (Some order) idle ∙ told_before plan orders past e a keeps task works is

-- so the orders are kept behind the entry
pub keeps_with : (plan : Outline) (orders : List (Option Order)) (past : List Entry) (e : Entry) (asked : Option (ℕ × Order)) → KeepsOrders plan orders past → length orders ≡ count plan → (asked ≡ None → TakesNone plan e.what)
    → IfSome asked (λ p. IsTakenUp plan (snapshot plan past) e.what p.0 p.1) → KeepsOrders plan (orders_with orders asked) (e ∷ past)
keeps_with plan orders past e None keeps many none some = record { each = λ a task works. told_before plan orders past e a keeps task works ((none refl).none a task) }
keeps_with plan orders past e (Some asked) keeps many none some = record { each = λ a task works. told_both plan orders past e asked.0 asked.1 keeps many some a (takes_up e.what a) refl task works }

-- before the first entry no task is at work
pub keeps_none : (plan : Outline) (orders : List (Option Order)) → KeepsOrders plan orders []
keeps_none plan orders = record { each = λ a task works. absurd (cc) }

-- ---- whole orders

differs : (a b : ℕ) → b ≡ a → nat_eq a b ≡ false → ⊥
differs a b same is = clash (nat_eq a b) (eq-eqb a b (sym same)) is

set_whole : (orders : List (Option Order)) (b : ℕ) (order : Order) → AreWhole orders → IsWhole order → b < length orders
    → (a : ℕ) (t : Bool) (kept : Order) → nat_eq b a ≡ t → slice_get (slice_set orders b (Some order)) a ≡ Some (Some kept) → IsWhole kept
set_whole orders b order whole good below a true kept is there =
    let same : b ≡ a = eqb-true b a is in
    let read : slice_get (slice_set orders b (Some order)) a ≡ Some (Some order) = ap (slice_get (slice_set orders b (Some order))) (sym same) ∙ get_set_same orders b (Some order) below in
    let both : Some (Some order) ≡ Some (Some kept) = sym read ∙ there in
    subst IsWhole (same_Some order kept (same_Some (Some order) (Some kept) both)) good
set_whole orders b order whole good below a false kept is there =
    let differ : (a ≡ b) → ⊥ = λ same. differs b a same is in
    whole a kept (sym (get_set_other orders b a (Some order) differ) ∙ there)

pub whole_with : (orders : List (Option Order)) (asked : Option (ℕ × Order)) → AreWhole orders → IfSome asked (λ p. IsWhole p.1) → IfSome asked (λ p. p.0 < length orders) → AreWhole (orders_with orders asked)
whole_with orders None whole good below = whole
whole_with orders (Some asked) whole good below = λ a kept there. set_whole orders asked.0 asked.1 whole good below a (nat_eq asked.0 a) kept refl there

pub whole_none : (orders : List (Option Order)) → AreWhole orders → (a : ℕ) (order : Order) → slice_get (orders ++ None ∷ []) a ≡ Some (Some order) → IsWhole order
whole_none [] whole zero order is = let none : None ≡ Some order = same_Some None (Some order) is in absurd (cc)
whole_none [] whole (suc a) order is = absurd (cc)
whole_none (first ∷ others) whole zero order is = whole 0 order is
whole_none (first ∷ others) whole (suc a) order is = whole_none others (λ b kept at. whole (suc b) kept at) a order is

pub whole_more : (orders more : List (Option Order)) → more ≡ orders ++ None ∷ [] → AreWhole orders → AreWhole more
whole_more orders more is whole = subst AreWhole (sym is) (whole_none orders whole)

-- ---- a task that is taken up has a place, and its order is whole

pub asked_below : (plan : Outline) (s : Snapshot) (w : What) (asked : Option (ℕ × Order)) (orders : List (Option Order)) → length orders ≡ count plan → IfSome asked (λ p. IsTakenUp plan s w p.0 p.1) → IfSome asked (λ p. p.0 < length orders)
asked_below plan s w None orders many some = tt
asked_below plan s w (Some asked) orders many some = let below : asked.0 < count plan = task_below plan asked.0 some.task in omega arith

pub asked_whole : (plan : Outline) (s : Snapshot) (w : What) (asked : Option (ℕ × Order)) → IfSome asked (λ p. IsTakenUp plan s w p.0 p.1) → IfSome asked (λ p. IsWhole p.1)
asked_whole plan s w None some = tt
asked_whole plan s w (Some asked) some = some.whole

pub length_with : (orders : List (Option Order)) (asked : Option (ℕ × Order)) → length (orders_with orders asked) ≡ length orders
length_with orders None = refl
length_with orders (Some asked) = length-set orders asked.0 (Some asked.1)
