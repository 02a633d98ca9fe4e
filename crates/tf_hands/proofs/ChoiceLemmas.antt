-- A hand that takes a task up has its order.
use Rattle.std.proofs.Common.{◌≡◌, ◌≢◌, ℕ, ◌<◌, List, [], ◌∷◌, ◌++◌, Bool, true, false, ◌&&◌, Option, Some, None, refl, sym, ap, ◌∙◌, subst, eq-eqb}
use Rattle.std.specs.Prelude.{option_map, if◌then◌else◌}
use Rattle.tf_states.specs.declared.record.Entry.{Entry}
use Rattle.tf_states.specs.declared.record.Payload.TheVariants as payload
use Rattle.tf_states.specs.declared.record.What.{What}
use Rattle.tf_states.specs.declared.record.What.TheVariants as what
use Rattle.tf_states.specs.declared.state.AtomState.{AtomState}
use Rattle.tf_states.specs.declared.state.AtomState.TheVariants as atom
use Rattle.tf_flow.specs.declared.atoms.Task.{Task}
use Rattle.tf_actions.specs.declared.orders.Order.{Order}
use Rattle.tf_actions.specs.declared.outcomes.Action.{Action}
use Rattle.tf_actions.specs.declared.outcomes.Action.TheVariants as action
use Rattle.tf_model.specs.Forced.{taken_up, choice}
use Rattle.tf_model.specs.Scope.{task_at, order_with, order_of, takes_up, before_start, order_at, given_for}
use Rattle.tf_model.specs.Plan.{Outline, count, is_task}
use Rattle.tf_model.specs.Steps.{is_inner, is_free}
use Rattle.tf_model.specs.History.{Snapshot, state_after, hand_after, is_at_work, snapshot, state_of, hand_of}
use Rattle.tf_hands.proofs.FitLemmas.{candidate_task}
use Rattle.tf_hands.specs.Hands.{begun, start_entry, action_in, by_hand, is_no_end, is_of_flow, takes_task, asked_in, order_for, asked_by, orders, HasOrder}
use Rattle.tf_hands.specs.declared.starts.Start.{Start}
use Rattle.tf_hands.proofs.EntryLemmas.{set_here, set_there, one_order}
use Rattle.tf_hands.proofs.TakenLemmas.{taken_of}
use Rattle.tf_hands.proofs.FlightLemmas.{order_not_free}
use Rattle.tf_hands.proofs.LeaveLemmas.{begun_works}

-- ---- the entry of a start

pub start_no_end : (plan : Outline) (start : Start) → is_no_end plan (start_entry start) ≡ true
start_no_end plan start = by start.restart start.action
  where
    by : (b : Bool) (how : Action) → is_no_end plan (if b then what.Restart start.atom else what.Atom start.atom (begun how) payload.Empty) ≡ true
    by true how = refl
    by false action.Execute = refl
    by false action.Revert = refl

pub start_within : (start : Start) → is_of_flow (start_entry start) ≡ false
start_within start = by start.restart
  where
    by : (b : Bool) → is_of_flow (if b then what.Restart start.atom else what.Atom start.atom (begun start.action) payload.Empty) ≡ false
    by true = refl
    by false = refl

pub start_inner : (start : Start) → is_inner (start_entry start) ≡ true
start_inner start = by start.restart
  where
    by : (b : Bool) → is_inner (if b then what.Restart start.atom else what.Atom start.atom (begun start.action) payload.Empty) ≡ true
    by true = refl
    by false = refl

start_takes_up : (start : Start) → takes_up (start_entry start) start.atom ≡ true
start_takes_up start = by start.restart
  where
    by : (b : Bool) → takes_up (if b then what.Restart start.atom else what.Atom start.atom (begun start.action) payload.Empty) start.atom ≡ true
    by true = eq-eqb start.atom start.atom refl
    by false = set_here start.atom (is_at_work (begun start.action)) false ∙ begun_works start.action

start_takes : (plan : Outline) (start : Start) → is_task plan start.atom ≡ true → takes_task plan (start_entry start) ≡ Some start.atom
start_takes plan start task = by start.restart
  where
    by : (b : Bool) → takes_task plan (if b then what.Restart start.atom else what.Atom start.atom (begun start.action) payload.Empty) ≡ Some start.atom
    by true = refl
    by false = rw (task, begun_works start.action) refl

-- ---- the task that is chosen

-- the atom of a start is one that the plan numbers, a task, and taken up as its state says
record Started (plan : Outline) (s : Snapshot) (start : Start) : Type 0 where
  below : start.atom < count plan
  task : is_task plan start.atom ≡ true
  how : taken_up (s.state start.atom) start.atom ≡ start_entry start

abbrev started_atom : What → ℕ
started_atom (what.Atom a state held) = a
started_atom (what.Restart a) = a
started_atom (what.Flow state) = 0
started_atom (what.Resolve named resolved) = 0

taken_atom : (x : AtomState) (a : ℕ) → started_atom (taken_up x a) ≡ a
taken_atom atom.Running a = refl
taken_atom atom.Reverting a = refl
taken_atom atom.Pending a = refl
taken_atom x a = refl

entry_atom : (start : Start) → started_atom (start_entry start) ≡ start.atom
entry_atom start = by start.restart
  where
    by : (b : Bool) → started_atom (if b then what.Restart start.atom else what.Atom start.atom (begun start.action) payload.Empty) ≡ start.atom
    by true = refl
    by false = refl

started_of : (plan : Outline) (s : Snapshot) (start : Start) → choice plan s ≡ Some (start_entry start) → Started plan s start
started_of plan s start is =
    let taken = taken_of plan s (start_entry start) is in
    let same : taken.number ≡ start.atom = sym (taken_atom (s.state taken.number) taken.number) ∙ (ap started_atom taken.how ∙ entry_atom start) in
    record {
      below = subst (λ (k : ℕ). k < count plan) same taken.below;
      task = subst (λ (k : ℕ). is_task plan k ≡ true) same (candidate_task plan s taken.number taken.candidate);
      how = subst (λ (k : ℕ). taken_up (s.state k) k ≡ start_entry start) same taken.how;
    }

pub choice_takes : (plan : Outline) (s : Snapshot) (start : Start) → choice plan s ≡ Some (start_entry start) → takes_task plan (start_entry start) ≡ Some start.atom
choice_takes plan s start is = start_takes plan start (started_of plan s start is).task

-- ---- what is in flight then

-- a task at work is in the state that its action begins with
works_so : (x : AtomState) → is_at_work x ≡ true → begun (action_in x) ≡ x
works_so atom.Running works = refl
works_so atom.Reverting works = refl
works_so x works = absurd (cc)

restarts_at_work : (x : AtomState) (a : ℕ) → taken_up x a ≡ what.Restart a → is_at_work x ≡ true
restarts_at_work atom.Running a is = refl
restarts_at_work atom.Reverting a is = refl
restarts_at_work atom.Pending a is = absurd (cc)
restarts_at_work x a is = absurd (cc)

state_by : (x : AtomState) (a : ℕ) (how : Action) (again : Bool) → how ≡ action_in x
    → taken_up x a ≡ (if again then what.Restart a else what.Atom a (begun how) payload.Empty)
    → state_after (if again then what.Restart a else what.Atom a (begun how) payload.Empty) a x ≡ begun how
state_by x a how true acts is = sym (ap begun acts ∙ works_so x (restarts_at_work x a is))
state_by x a how false acts is = set_here a (begun how) x

start_state : (plan : Outline) (s : Snapshot) (start : Start) → choice plan s ≡ Some (start_entry start) → start.action ≡ action_in (s.state start.atom)
    → state_after (start_entry start) start.atom (s.state start.atom) ≡ begun start.action
start_state plan s start is acts = state_by (s.state start.atom) start.atom start.action start.restart acts (started_of plan s start is).how

start_hand : (plan : Outline) (hand : ℕ) (start : Start) (before : Option ℕ) → is_task plan start.atom ≡ true → hand_after plan hand (start_entry start) start.atom before ≡ Some hand
start_hand plan hand start before task = by start.restart
  where
    by : (b : Bool) → hand_after plan hand (if b then what.Restart start.atom else what.Atom start.atom (begun start.action) payload.Empty) start.atom before ≡ Some hand
    by true = set_here start.atom (Some hand) before
    by false = set_here start.atom (if is_task plan start.atom && is_at_work (begun start.action) then Some hand else None) before ∙ rw (task, begun_works start.action) refl

start_others : (plan : Outline) (hand : ℕ) (start : Start) (k : ℕ) (before : Option ℕ) → start.atom ≢ k → hand_after plan hand (start_entry start) k before ≡ before
start_others plan hand start k before apart = by start.restart
  where
    by : (b : Bool) → hand_after plan hand (if b then what.Restart start.atom else what.Atom start.atom (begun start.action) payload.Empty) k before ≡ before
    by true = set_there start.atom k (Some hand) before apart
    by false = set_there start.atom k (if is_task plan k && is_at_work (begun start.action) then Some hand else None) before apart

-- ---- its order

-- the order is of the atom and the action that it was made for
record IsFor (order : Order) (a : ℕ) (how : Action) : Type 0 where
  atom : order.atom ≡ a
  action : order.action ≡ how

order_is_for : (plan : Outline) (s : Snapshot) (a : ℕ) (how : Action) (order : Order) → order_of plan s a how ≡ Some order → IsFor order a how
unfolding order_of
order_is_for plan s a how order is = by (task_at plan a) is
  where
    by : (o : Option Task) → option_map (order_with a how (given_for plan s a how)) o ≡ Some order → IsFor order a how
    by None is = absurd (cc)
    by (Some t) is =
        let same : order_with a how (given_for plan s a how) t ≡ order = cc in
        record { atom = ap (λ (x : Order). x.atom) (sym same); action = ap (λ (x : Order). x.action) (sym same) }

-- the order of a start is the one at the moment before it
asked_at : (plan : Outline) (past : List Entry) (hand : ℕ) (start : Start) (how : Action)
    → order_at plan (by_hand hand (start_entry start) ∷ past) start.atom how ≡ order_of plan (snapshot plan past) start.atom how
asked_at plan past hand start how = ap (λ (b : Bool). order_of plan (snapshot plan (if b then past else before_start past start.atom)) start.atom how) (start_takes_up start)

same_state : (plan : Outline) (past : List Entry) (a : ℕ) → (snapshot plan past).state a ≡ state_of past a
unfolding snapshot
same_state plan past a = refl

has_here : (plan : Outline) (past : List Entry) (hand : ℕ) (start : Start) (order : Order) → choice plan (snapshot plan past) ≡ Some (start_entry start)
    → start.action ≡ action_in ((snapshot plan past).state start.atom) → order_of plan (snapshot plan past) start.atom start.action ≡ Some order → order.atom ≡ start.atom → order.action ≡ start.action
    → HasOrder plan (by_hand hand (start_entry start) ∷ past) hand order
unfolding snapshot
has_here plan past hand start order is acts asks atom how =
    let began = started_of plan (snapshot plan past) start is in
    record {
      held = ap (λ (k : ℕ). hand_of plan (by_hand hand (start_entry start) ∷ past) k) atom ∙ start_hand plan hand start (hand_of plan past start.atom) began.task;
      below = subst (λ (k : ℕ). k < count plan) (sym atom) began.below;
      task = ap (is_task plan) atom ∙ began.task;
      works = ap (λ (k : ℕ). state_of (by_hand hand (start_entry start) ∷ past) k) atom ∙ (start_state plan (snapshot plan past) start is acts ∙ ap begun (sym how));
      asked = ap (λ (k : ℕ). order_at plan (by_hand hand (start_entry start) ∷ past) k order.action) atom
          ∙ (ap (order_at plan (by_hand hand (start_entry start) ∷ past) start.atom) how ∙ (asked_at plan past hand start start.action ∙ asks));
    }

pub choice_order : (plan : Outline) (past : List Entry) (hand : ℕ) (start : Start) (order : Order) → choice plan (snapshot plan past) ≡ Some (start_entry start)
    → start.action ≡ action_in ((snapshot plan past).state start.atom) → order_of plan (snapshot plan past) start.atom start.action ≡ Some order
    → HasOrder plan (by_hand hand (start_entry start) ∷ past) hand order
choice_order plan past hand start order is acts asks =
    let for = order_is_for plan (snapshot plan past) start.atom start.action order asks in
    has_here plan past hand start order is acts asks for.atom for.action

pub choice_busy : (plan : Outline) (past : List Entry) (hand : ℕ) (start : Start) (order : Order) → choice plan (snapshot plan past) ≡ Some (start_entry start)
    → start.action ≡ action_in ((snapshot plan past).state start.atom) → order_of plan (snapshot plan past) start.atom start.action ≡ Some order
    → is_free plan (snapshot plan (by_hand hand (start_entry start) ∷ past)) hand ≡ false
choice_busy plan past hand start order is acts asks =
    order_not_free plan (by_hand hand (start_entry start) ∷ past) hand order (choice_order plan past hand start order is acts asks)

pub choice_others : (plan : Outline) (past : List Entry) (hand : ℕ) (start : Start) (k : ℕ) → start.atom ≢ k
    → hand_of plan (by_hand hand (start_entry start) ∷ past) k ≡ hand_of plan past k
choice_others plan past hand start k apart = start_others plan hand start k (hand_of plan past k) apart

asked_begun : (how : Action) → asked_in (begun how) ≡ how
asked_begun action.Execute = refl
asked_begun action.Revert = refl

-- what the entry of a start asks for is the start's order
start_asks : (plan : Outline) (past : List Entry) (hand : ℕ) (start : Start) → choice plan (snapshot plan past) ≡ Some (start_entry start)
    → start.action ≡ action_in ((snapshot plan past).state start.atom)
    → asked_by plan past (by_hand hand (start_entry start)) ≡ order_of plan (snapshot plan past) start.atom start.action
start_asks plan past hand start is acts =
    ap (order_for plan (snapshot plan past) (start_entry start)) (choice_takes plan (snapshot plan past) start is)
    ∙ ap (order_of plan (snapshot plan past) start.atom) (ap asked_in (start_state plan (snapshot plan past) start is acts) ∙ asked_begun start.action)

pub choice_orders : (plan : Outline) (past : List Entry) (hand : ℕ) (start : Start) (order : Order) → choice plan (snapshot plan past) ≡ Some (start_entry start)
    → start.action ≡ action_in ((snapshot plan past).state start.atom) → order_of plan (snapshot plan past) start.atom start.action ≡ Some order
    → orders plan hand (by_hand hand (start_entry start) ∷ past) ≡ orders plan hand past ++ order ∷ []
choice_orders plan past hand start order is acts asks =
    one_order plan (by_hand hand (start_entry start)) past order (start_asks plan past hand start is acts ∙ asks)
