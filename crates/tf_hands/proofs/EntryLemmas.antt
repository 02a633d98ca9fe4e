-- What one entry does to what is in flight, and to orders.
use Rattle.std.proofs.Common.{◌≡◌, ◌≢◌, ℕ, List, [], ◌∷◌, ◌++◌, Bool, true, false, ◌&&◌, Option, Some, None, refl, ap, ◌∙◌, ◌⊎◌, inl, inr, append-nil, eqb-true, eq-eqb}
use Rattle.std.specs.Prelude.{nat_eq, if◌then◌else◌}
use Rattle.std.specs.Option.{option_to_list}
use Rattle.std.proofs.lemmas.Bool.{ne_eqb}
use Rattle.tf_states.specs.declared.record.Entry.{Entry}
use Rattle.tf_states.specs.declared.record.What.{What}
use Rattle.tf_states.specs.declared.record.What.TheVariants as what
use Rattle.tf_states.specs.declared.state.AtomState.{AtomState}
use Rattle.tf_states.specs.declared.state.FlowState.TheVariants as flow
use Rattle.tf_actions.specs.declared.orders.Order.{Order}
use Rattle.tf_model.specs.Plan.{Outline, is_task}
use Rattle.tf_model.specs.History.{state_after, hand_after, is_at_work, snapshot, state_of, hand_of}
use Rattle.tf_model.specs.Scope.{order_of, takes_up, before_start}
use Rattle.tf_hands.specs.Hands.{is_of_flow, is_resuming, takes_task, asked_by, orders, HasOrder}

-- ---- numbers

pub set_here : {A : Type 0} (a : ℕ) (x y : A) → (if nat_eq a a then x else y) ≡ x
set_here a x y = rw (eq-eqb a a refl) refl

pub set_there : {A : Type 0} (a k : ℕ) (x y : A) → a ≢ k → (if nat_eq a k then x else y) ≡ y
set_there a k x y apart = rw (ne_eqb a k apart) refl

-- ---- the atom that an entry is of

-- the entry is of atom a: a enters a state, or is restarted
abbrev pub touches : What → ℕ → Bool
touches (what.Atom entered state held) a = nat_eq entered a
touches (what.Restart again) a = nat_eq again a
touches (what.Flow state) a = false
touches (what.Resolve named resolved) a = false

pub flow_touches : (w : What) (a : ℕ) → is_of_flow w ≡ true → touches w a ≡ false
flow_touches (what.Flow state) a is = refl
flow_touches (what.Atom entered state held) a is = absurd (cc)
flow_touches (what.Resolve named resolved) a is = absurd (cc)
flow_touches (what.Restart again) a is = absurd (cc)

pub within_resumes : (w : What) → is_of_flow w ≡ false → is_resuming w ≡ false
within_resumes (what.Flow state) is = absurd (cc)
within_resumes (what.Atom entered state held) is = refl
within_resumes (what.Resolve named resolved) is = refl
within_resumes (what.Restart again) is = refl

-- an entry of another atom leaves an atom's state as it is
pub state_stays : (w : What) (a : ℕ) (before : AtomState) → touches w a ≡ false → state_after w a before ≡ before
state_stays (what.Atom entered state held) a before is = rw is refl
state_stays (what.Flow state) a before is = refl
state_stays (what.Resolve named resolved) a before is = refl
state_stays (what.Restart again) a before is = refl

-- and who has it in flight, but for RESUMING
pub hand_stays : (plan : Outline) (hand : ℕ) (w : What) (a : ℕ) (before : Option ℕ) → touches w a ≡ false → is_resuming w ≡ false → hand_after plan hand w a before ≡ before
hand_stays plan hand (what.Atom entered state held) a before is goes = rw is refl
hand_stays plan hand (what.Resolve named resolved) a before is goes = refl
hand_stays plan hand (what.Restart again) a before is goes = rw is refl
hand_stays plan hand (what.Flow flow.Resuming) a before is goes = absurd (cc)
hand_stays plan hand (what.Flow state) a before is goes = refl

-- and doesn't take it up
pub takes_other : (w : What) (a : ℕ) → touches w a ≡ false → takes_up w a ≡ false
takes_other (what.Atom entered state held) a is = rw is refl
takes_other (what.Flow state) a is = refl
takes_other (what.Resolve named resolved) a is = refl
takes_other (what.Restart again) a is = is

-- ---- who has a task in flight after an entry

entered_origin : (plan : Outline) (hand entered : ℕ) (state : AtomState) (a : ℕ) (before : Option ℕ) (h : ℕ) (b : Bool) → nat_eq entered a ≡ b
    → (if b then (if is_task plan a && is_at_work state then Some hand else None) else before) ≡ Some h
    → (before ≡ Some h) ⊎ (((if is_task plan entered && is_at_work state then Some entered else None) ≡ Some a) × (hand ≡ h))
entered_origin plan hand entered state a before h false is has = inl has
entered_origin plan hand entered state a before h true is has = by (is_task plan a && is_at_work state) refl has
  where
    by : (c : Bool) → (is_task plan a && is_at_work state) ≡ c → (if c then Some hand else None) ≡ Some h
        → (before ≡ Some h) ⊎ (((if is_task plan entered && is_at_work state then Some entered else None) ≡ Some a) × (hand ≡ h))
    by true works has = inr (rw (eqb-true entered a is, works) refl, cc)
    by false works has = absurd (cc)

-- what a hand has in flight after an entry it had before, or it took it up by this entry
pub hand_origin : (plan : Outline) (hand : ℕ) (w : What) (a : ℕ) (before : Option ℕ) (h : ℕ) → hand_after plan hand w a before ≡ Some h
    → (before ≡ Some h) ⊎ ((takes_task plan w ≡ Some a) × (hand ≡ h))
hand_origin plan hand (what.Atom entered state held) a before h has = entered_origin plan hand entered state a before h (nat_eq entered a) refl has
hand_origin plan hand (what.Resolve named resolved) a before h has = inl has
hand_origin plan hand (what.Restart again) a before h has = by (nat_eq again a) refl has
  where
    by : (b : Bool) → nat_eq again a ≡ b → (if b then Some hand else before) ≡ Some h → (before ≡ Some h) ⊎ ((Some again ≡ Some a) × (hand ≡ h))
    by true is has = inr (ap Some (eqb-true again a is), cc)
    by false is has = inl has
hand_origin plan hand (what.Flow flow.Resuming) a before h has = absurd (cc)
hand_origin plan hand (what.Flow flow.Pending) a before h has = inl has
hand_origin plan hand (what.Flow flow.Running) a before h has = inl has
hand_origin plan hand (what.Flow flow.Success) a before h has = inl has
hand_origin plan hand (what.Flow flow.Failure) a before h has = inl has
hand_origin plan hand (what.Flow flow.Reverted) a before h has = inl has
hand_origin plan hand (what.Flow flow.Suspending) a before h has = inl has
hand_origin plan hand (what.Flow flow.Suspended) a before h has = inl has

-- an entry that takes nothing up leaves nobody with what nobody had
pub none_stays : (plan : Outline) (hand : ℕ) (w : What) (a : ℕ) (before : Option ℕ) → takes_task plan w ≡ None → before ≡ None → hand_after plan hand w a before ≡ None
none_stays plan hand w a before takes none = by (hand_after plan hand w a before) refl
  where
    by : (o : Option ℕ) → hand_after plan hand w a before ≡ o → o ≡ None
    by None has = refl
    by (Some h) has = elim (hand_origin plan hand w a before h has) [ inl was ↦ absurd (cc) | inr taken ↦ let first = taken.0 in absurd (cc) ]

-- ---- orders

-- an entry that takes nothing up has no order
pub no_orders : (plan : Outline) (hand : ℕ) (e : Entry) (past : List Entry) → takes_task plan e.what ≡ None → orders plan hand (e ∷ past) ≡ orders plan hand past
no_orders plan hand e past takes = rw (takes, nothing (nat_eq e.hand hand)) (append-nil (orders plan hand past))
  where
    none : List Order
    none = []

    nothing : (b : Bool) → (if b then none else none) ≡ none
    nothing true = refl
    nothing false = refl

-- an entry of another hand neither
pub other_orders : (plan : Outline) (hand : ℕ) (e : Entry) (past : List Entry) → e.hand ≢ hand → orders plan hand (e ∷ past) ≡ orders plan hand past
other_orders plan hand e past apart = rw (ne_eqb e.hand hand apart) (append-nil (orders plan hand past))

-- an entry of the hand with an order adds it
pub one_order : (plan : Outline) (e : Entry) (past : List Entry) (order : Order) → asked_by plan past e ≡ Some order → orders plan e.hand (e ∷ past) ≡ orders plan e.hand past ++ option_to_list (Some order)
one_order plan e past order asks = rw (eq-eqb e.hand e.hand refl, asks) refl

-- ---- what leaves a task alone leaves its order

pub order_stays : (plan : Outline) (past : List Entry) (e : Entry) (hand : ℕ) (order : Order) → touches e.what order.atom ≡ false → is_resuming e.what ≡ false
    → HasOrder plan past hand order → HasOrder plan (e ∷ past) hand order
order_stays plan past e hand order apart goes has = record {
  held = hand_stays plan e.hand e.what order.atom (hand_of plan past order.atom) apart goes ∙ has.held;
  below = has.below;
  task = has.task;
  works = state_stays e.what order.atom (state_of past order.atom) apart ∙ has.works;
  asked = ap (λ (b : Bool). order_of plan (snapshot plan (if b then past else before_start past order.atom)) order.atom order.action) (takes_other e.what order.atom apart) ∙ has.asked;
}
