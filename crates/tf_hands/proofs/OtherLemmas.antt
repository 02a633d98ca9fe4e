-- What the other hands record, and how tasks begin and end.
use Rattle.std.proofs.Common.{◌≡◌, ◌≢◌, ℕ, List, [], ◌∷◌, ◌++◌, Bool, true, false, not, Option, Some, None, refl, sym, ap, ◌∙◌, subst, inl, inr, slice_get, eq-eqb}
use Rattle.std.specs.Prelude.{is_none, is_some, option_map, nat_eq}
use Rattle.std.specs.List.{list_all}
use Rattle.tf_states.specs.declared.record.Entry.{Entry}
use Rattle.tf_states.specs.declared.record.Payload.{Payload}
use Rattle.tf_states.specs.declared.record.What.{What}
use Rattle.tf_states.specs.declared.record.What.TheVariants as what
use Rattle.tf_states.specs.declared.state.AtomState.{AtomState}
use Rattle.tf_states.specs.declared.state.AtomState.TheVariants as atom
use Rattle.tf_states.specs.declared.state.FlowState.TheVariants as flow
use Rattle.tf_flow.specs.Outline.{Atom, Part, a_task, a_retry, is_task_part}
use Rattle.tf_actions.specs.declared.orders.Order.{Order}
use Rattle.tf_actions.specs.declared.outcomes.Action.{Action}
use Rattle.tf_numbers.proofs.TruthLemmas.{clash, never_true, not_true, true_both, and_first, and_second}
use Rattle.tf_model.specs.Plan.{Outline, is_task, is_retry}
use Rattle.tf_model.specs.History.{Snapshot, is_at_work, snapshot, state_of, hand_of}
use Rattle.tf_model.specs.Forced.{is_interrupted, taken_up}
use Rattle.tf_model.specs.Scope.{task_part, task_at, order_with, order_of, given_for}
use Rattle.tf_model.proofs.Told.{is_task_in, task_in}
use Rattle.tf_model.specs.Steps.{LegalPast, is_free, ends_task}
use Rattle.tf_model.specs.Laws.{atom_may, is_allowed}
use Rattle.tf_model.proofs.StepLemmas.{step_allowed}
use Rattle.tf_hands.proofs.FitLemmas.{candidate_task}
use Rattle.tf_hands.specs.Hands.{is_no_end, is_of_flow, is_resuming, is_by_other, takes_task, action_of, order_for, asked_by, orders, HasOrder}
use Rattle.tf_hands.proofs.EntryLemmas.{flow_touches, hand_origin, other_orders, order_stays}
use Rattle.tf_hands.proofs.ForcedLemmas.{no_task}
use Rattle.tf_hands.proofs.TakenLemmas.{Taken, taken_of, taken_number, restarts_work, working_candidate}
use Rattle.tf_hands.proofs.KeptLemmas.{rule_apart, rule_takes, rule_ends}
use Rattle.tf_hands.proofs.FlightLemmas.{free_at, free_of}
use Rattle.tf_hands.proofs.LeaveLemmas.{working}

-- ---- a free hand

pub other_free : (plan : Outline) (past : List Entry) (e : Entry) (hand : ℕ) → e.hand ≢ hand → is_free plan (snapshot plan past) hand ≡ true → is_free plan (snapshot plan (e ∷ past)) hand ≡ true
unfolding snapshot
other_free plan past e hand apart free =
    free_of plan (snapshot plan (e ∷ past)) hand (λ a below has. elim (hand_origin plan e.hand e.what a (hand_of plan past a) hand has) [
      | inl was ↦ free_at plan (snapshot plan past) hand a free below was
      | inr taken ↦ apart taken.1
    ])

-- an entry that takes no task up leaves every free hand free
pub idle_free : (plan : Outline) (past : List Entry) (e : Entry) (hand : ℕ) → takes_task plan e.what ≡ None → is_free plan (snapshot plan past) hand ≡ true → is_free plan (snapshot plan (e ∷ past)) hand ≡ true
unfolding snapshot
idle_free plan past e hand takes free =
    free_of plan (snapshot plan (e ∷ past)) hand (λ a below has. elim (hand_origin plan e.hand e.what a (hand_of plan past a) hand has) [
      | inl was ↦ free_at plan (snapshot plan past) hand a free below was
      | inr taken ↦ let no : None ≡ Some a = sym takes ∙ taken.0 in cc
    ])

-- ---- a hand with an order

no_resuming : (w : What) → w ≢ what.Flow flow.Resuming → is_resuming w ≡ false
no_resuming (what.Flow flow.Resuming) isnt = absurd (isnt refl)
no_resuming w isnt = refl

pub other_order : (plan : Outline) (past : List Entry) (e : Entry) (hand : ℕ) (order : Order) → LegalPast plan (e ∷ past) → e.hand ≢ hand → e.what ≢ what.Flow flow.Resuming
    → HasOrder plan past hand order → HasOrder plan (e ∷ past) hand order
unfolding snapshot
other_order plan past e hand order legal apart goes has = elim (rule_apart plan (snapshot plan past) e order.atom hand has.task (working plan past hand order has) has.held legal.0.rule) [
  | inl untouched ↦ order_stays plan past e hand order untouched (no_resuming e.what goes) has
  | inr ended ↦ absurd (apart ended.0)
]

pub flow_order : (plan : Outline) (past : List Entry) (e : Entry) (hand : ℕ) (order : Order) → is_of_flow e.what ≡ true → e.what ≢ what.Flow flow.Resuming
    → HasOrder plan past hand order → HasOrder plan (e ∷ past) hand order
flow_order plan past e hand order turns goes has = order_stays plan past e hand order (flow_touches e.what order.atom turns) (no_resuming e.what goes) has

-- ---- entries of others, one after another

apart_hand : (e : Entry) (hand : ℕ) → is_by_other hand e ≡ true → e.hand ≢ hand
apart_hand e hand is same = clash (nat_eq e.hand hand) (eq-eqb e.hand hand same) (not_true (nat_eq e.hand hand) (and_first (not (nat_eq e.hand hand)) _ is))

apart_turn : (e : Entry) (hand : ℕ) → is_by_other hand e ≡ true → e.what ≢ what.Flow flow.Resuming
apart_turn e hand is same =
    clash (is_resuming e.what) (ap is_resuming same) (not_true (is_resuming e.what) (and_second (not (nat_eq e.hand hand)) (not (is_resuming e.what)) is))

pub order_through : (plan : Outline) (newer past : List Entry) (hand : ℕ) (order : Order) → LegalPast plan (newer ++ past) → list_all (is_by_other hand) newer ≡ true
    → HasOrder plan past hand order → HasOrder plan (newer ++ past) hand order
order_through plan [] past hand order legal others has = has
order_through plan (e ∷ newer) past hand order legal others has =
    let other : is_by_other hand e ≡ true = and_first (is_by_other hand e) _ others in
    other_order plan (newer ++ past) e hand order legal (apart_hand e hand other) (apart_turn e hand other)
    (order_through plan newer past hand order legal.1 (and_second (is_by_other hand e) _ others) has)

pub free_through : (plan : Outline) (newer past : List Entry) (hand : ℕ) → list_all (is_by_other hand) newer ≡ true
    → is_free plan (snapshot plan past) hand ≡ true → is_free plan (snapshot plan (newer ++ past)) hand ≡ true
free_through plan [] past hand others free = free
free_through plan (e ∷ newer) past hand others free =
    other_free plan (newer ++ past) e hand (apart_hand e hand (and_first (is_by_other hand e) _ others)) (free_through plan newer past hand (and_second (is_by_other hand e) _ others) free)

pub orders_through : (plan : Outline) (newer past : List Entry) (hand : ℕ) → list_all (is_by_other hand) newer ≡ true → orders plan hand (newer ++ past) ≡ orders plan hand past
orders_through plan [] past hand others = refl
orders_through plan (e ∷ newer) past hand others =
    other_orders plan hand e (newer ++ past) (apart_hand e hand (and_first (is_by_other hand e) _ others)) ∙ orders_through plan newer past hand (and_second (is_by_other hand e) _ others)

-- ---- how a task begins

runs_from : (b : Bool) (x : AtomState) → b ≡ false → atom_may b x atom.Running ≡ true → x ≡ atom.Pending
runs_from true x is may = absurd (cc)
runs_from false atom.Pending is may = refl
runs_from false x is may = absurd (cc)

task_is_no_retry : (plan : Outline) (a : ℕ) → is_task plan a ≡ true → is_retry plan a ≡ false
task_is_no_retry plan a task = never_true (is_retry plan a) (λ retry. clash (is_task plan a) task (no_task plan a retry))

pub start_pending : (plan : Outline) (past : List Entry) (e : Entry) (a : ℕ) (held : Payload) → LegalPast plan (e ∷ past) → e.what ≡ what.Atom a atom.Running held → is_task plan a ≡ true
    → state_of past a ≡ atom.Pending
unfolding snapshot
start_pending plan past e a held legal is task =
    let may : is_allowed plan (snapshot plan past) (what.Atom a atom.Running held) ≡ true
    = ap (is_allowed plan (snapshot plan past)) (sym is) ∙ step_allowed plan (snapshot plan past) e legal.0.rule in
    runs_from (is_retry plan a) (state_of past a) (task_is_no_retry plan a task) may

-- what a restart takes up
restarted : (plan : Outline) (s : Snapshot) (w : What) (a : ℕ) → Taken plan s w → w ≡ what.Restart a → is_interrupted plan s a ≡ true
restarted plan s w a taken is =
    let how : taken_up (s.state taken.number) taken.number ≡ what.Restart a = taken.how ∙ is in
    let same : taken.number ≡ a = taken_number plan s w a taken (ap (takes_task plan) is) in
    let works = restarts_work (s.state taken.number) taken.number a how in
    subst (λ (k : ℕ). is_interrupted plan s k ≡ true) same
    (true_both (is_task plan taken.number) _ (candidate_task plan s taken.number taken.candidate)
    (true_both (is_at_work (s.state taken.number)) (is_none (s.hand taken.number)) works (working_candidate plan s taken.number taken.candidate works)))

pub restart_interrupted : (plan : Outline) (past : List Entry) (e : Entry) (a : ℕ) → LegalPast plan (e ∷ past) → e.what ≡ what.Restart a → is_interrupted plan (snapshot plan past) a ≡ true
restart_interrupted plan past e a legal is =
    restarted plan (snapshot plan past) e.what a (taken_of plan (snapshot plan past) e.what (rule_takes plan (snapshot plan past) e a legal.0.rule (ap (takes_task plan) is)).0) is

nothing_there : (o : Option ℕ) → is_none o ≡ true → o ≡ None
nothing_there None is = refl
nothing_there (Some h) is = absurd (cc)

-- and nobody has it in flight
pub restart_in_no_hand : (plan : Outline) (past : List Entry) (e : Entry) (a : ℕ) → LegalPast plan (e ∷ past) → e.what ≡ what.Restart a → hand_of plan past a ≡ None
unfolding snapshot
restart_in_no_hand plan past e a legal is =
    nothing_there (hand_of plan past a) (and_second (is_at_work (state_of past a)) (is_none (hand_of plan past a)) (and_second (is_task plan a) _ (restart_interrupted plan past e a legal is)))

-- ---- who takes a task up, and who ends it

pub taken_by_free : (plan : Outline) (past : List Entry) (e : Entry) (a : ℕ) → LegalPast plan (e ∷ past) → takes_task plan e.what ≡ Some a → is_free plan (snapshot plan past) e.hand ≡ true
taken_by_free plan past e a legal takes = (rule_takes plan (snapshot plan past) e a legal.0.rule takes).1

task_there : (o : Option Atom) → is_task_in o ≡ true → is_some (task_in o) ≡ true
task_there None is = absurd (cc)
task_there (Some atom) is = by atom.part is
  where
    by : (p : Part) → is_task_part p ≡ true → is_some (task_part p) ≡ true
    by (a_task t) is = refl
    by (a_retry r) is = absurd (cc)

some_of : {X Y : Type 0} (f : X → Y) (o : Option X) → is_some o ≡ true → is_some (option_map f o) ≡ true
some_of f None is = absurd (cc)
some_of f (Some x) is = refl

order_there : (plan : Outline) (s : Snapshot) (a : ℕ) (how : Action) → is_task plan a ≡ true → is_some (order_of plan s a how) ≡ true
unfolding order_of
order_there plan s a how task = some_of (order_with a how (given_for plan s a how)) (task_at plan a) (task_there (slice_get plan.atoms a) task)

-- each entry that takes a task up has an order
pub taken_has_order : (plan : Outline) (past : List Entry) (e : Entry) (a : ℕ) → LegalPast plan (e ∷ past) → takes_task plan e.what ≡ Some a → is_some (asked_by plan past e) ≡ true
taken_has_order plan past e a legal takes =
    let taken = taken_of plan (snapshot plan past) e.what (rule_takes plan (snapshot plan past) e a legal.0.rule takes).0 in
    let same : taken.number ≡ a = taken_number plan (snapshot plan past) e.what a taken takes in
    let task : is_task plan a ≡ true = subst (λ (k : ℕ). is_task plan k ≡ true) same (candidate_task plan (snapshot plan past) taken.number taken.candidate) in
    ap (λ (o : Option ℕ). is_some (order_for plan (snapshot plan past) e.what o)) takes
    ∙ order_there plan (snapshot plan past) a (action_of (snapshot plan past) e.what a) task

pub ended_by_hand : (plan : Outline) (past : List Entry) (e : Entry) → LegalPast plan (e ∷ past) → is_no_end plan e.what ≡ false → ends_task (snapshot plan past) e.hand e.what ≡ true
ended_by_hand plan past e legal ends = rule_ends plan (snapshot plan past) e legal.0.rule ends
