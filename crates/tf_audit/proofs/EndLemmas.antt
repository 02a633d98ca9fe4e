-- An end of a task carries an outcome of the order that is kept of it.
use Rattle.std.proofs.Common.{◌≡◌, ℕ, List, Bool, true, false, ◌&&◌, ◌||◌, not, Option, Some, None, refl, sym, ap, subst, ◌∙◌, slice_get}
use Rattle.std.specs.Prelude.{◌↔◌, IsTrue, option_map, is_some}
use Rattle.tf_numbers.specs.Numbers.{is_number}
use Rattle.tf_states.specs.declared.record.Entry.{Entry}
use Rattle.tf_states.specs.declared.record.Payload.{Payload}
use Rattle.tf_states.specs.declared.record.Payload.TheVariants as payload
use Rattle.tf_states.specs.declared.record.What.{What}
use Rattle.tf_states.specs.declared.record.What.TheVariants as what
use Rattle.tf_states.specs.declared.state.AtomState.{AtomState}
use Rattle.tf_states.specs.declared.state.AtomState.TheVariants as atom
use Rattle.tf_actions.specs.declared.orders.Order.{Order}
use Rattle.tf_actions.specs.Gives.{GivesFar}
use Rattle.tf_model.specs.History.{snapshot, state_of, flow_of, hand_of, Snapshot, is_at_work, flow_runs, flow_suspends}
use Rattle.tf_model.specs.Scope.{task_part, task_at, order_with, order_of, order_at, before_start, IsGiven, Allows, given_for}
use Rattle.tf_model.specs.Plan.{Outline, is_task}
use Rattle.tf_model.specs.Steps.{Step, LegalPast, ends_task, ends_as}
use Rattle.tf_model.proofs.Told.{is_task_in, task_in}
use Rattle.tf_flow.specs.Outline.{Part, a_task, a_retry, Atom, is_task_part}
use Rattle.tf_actions.specs.declared.outcomes.Action.{Action}
use Rattle.tf_machine.specs.Machine.{MachineValue, outline}
use Rattle.tf_hands.specs.Hands.{is_over, is_no_end, asked_in}
use Rattle.tf_hands.proofs.GivenLemmas.{no_end_given}
use Rattle.tf_hands.proofs.OtherLemmas.{ended_by_hand}
use Rattle.tf_audit.specs.Kept.{Follows}
use Rattle.tf_audit.specs.Outcomes.{outcome_in}

-- ---- what ends no task is given

pub not_an_atom : (plan : Outline) (past : List Entry) (w : What) → is_no_end plan w ≡ true → IsTrue true ↔ IsGiven GivesFar plan past w
not_an_atom plan past w is = (λ _. no_end_given GivesFar plan past w is, λ _. refl)

pub not_over : (plan : Outline) (past : List Entry) (a : ℕ) (s : AtomState) (held : Payload) → is_over s ≡ false → IsTrue true ↔ IsGiven GivesFar plan past (what.Atom a s held)
not_over plan past a s held is = not_an_atom plan past (what.Atom a s held) (ap (λ (b : Bool). not (b && is_task plan a)) is)

and_false : (b : Bool) → b && false ≡ false
and_false true = refl
and_false false = refl

pub no_task : (plan : Outline) (past : List Entry) (a : ℕ) (s : AtomState) (held : Payload) → is_task plan a ≡ false → IsTrue true ↔ IsGiven GivesFar plan past (what.Atom a s held)
no_task plan past a s held is = not_an_atom plan past (what.Atom a s held) (ap (λ (b : Bool). not (is_over s && b)) is ∙ ap not (and_false (is_over s)))

-- ---- the end of a task

both_true_second : (b c : Bool) → b && c ≡ true → c ≡ true
both_true_second true c is = is
both_true_second false c is = absurd (cc)

ends_told : (plan : Outline) (past : List Entry) (hand a : ℕ) (s : AtomState) (held : Payload) → ends_task (snapshot plan past) hand (what.Atom a s held) ≡ true → ends_as (state_of past a) s held ≡ true
unfolding ends_task snapshot
ends_told plan past hand a s held ends =
    both_true_second (is_number (hand_of plan past a) hand) (ends_as (state_of past a) s held)
    (both_true_second (flow_runs (flow_of past) || flow_suspends (flow_of past)) (is_number (hand_of plan past a) hand && ends_as (state_of past a) s held) ends)

-- the task was in the state from which it may end so
ended_as : (plan : Outline) (past : List Entry) (e : Entry) (a : ℕ) (s : AtomState) (held : Payload) → LegalPast plan past → Step plan (snapshot plan past) e → e.what ≡ what.Atom a s held → is_over s ≡ true → is_task plan a ≡ true
    → ends_as (state_of past a) s held ≡ true
ended_as plan past e a s held legal step is over task =
    let end : is_no_end plan e.what ≡ false = ap (is_no_end plan) is ∙ (ap (λ (b : Bool). not (b && is_task plan a)) over ∙ ap not task) in
    let ends : ends_task (snapshot plan past) e.hand e.what ≡ true = ended_by_hand plan past e (step, legal) end in
    ends_told plan past e.hand a s held (ap (ends_task (snapshot plan past) e.hand) (sym is) ∙ ends)

pub was_at_work : (from to : AtomState) (held : Payload) → ends_as from to held ≡ true → is_at_work from ≡ true
was_at_work atom.Running to held is = refl
was_at_work atom.Reverting to held is = refl
was_at_work atom.Pending to held is = absurd (cc)
was_at_work atom.Success to held is = absurd (cc)
was_at_work atom.Failure to held is = absurd (cc)
was_at_work atom.Reverted to held is = absurd (cc)
was_at_work atom.RevertFailure to held is = absurd (cc)
was_at_work atom.Ignore to held is = absurd (cc)
was_at_work atom.Retrying to held is = absurd (cc)

-- what is asked of the end is the outcome that its payload carries
abbrev pub Given : Outline → List Entry → ℕ → AtomState → AtomState → Payload → Order → Type 0
Given plan past a from to held order = IsGiven GivesFar plan past (what.Atom a to held) ↔ GivesFar order (outcome_in held)

allows_as : (o : Option Order) (order : Order) (held : Payload) → o ≡ Some order → Allows GivesFar o (outcome_in held) ↔ GivesFar order (outcome_in held)
allows_as o order held is = subst (λ (p : Option Order). Allows GivesFar p (outcome_in held) ↔ GivesFar order (outcome_in held)) (sym is) (λ g. g, λ g. g)

given_as : (plan : Outline) (past : List Entry) (a : ℕ) (from to : AtomState) (held : Payload) (order : Order) → ends_as from to held ≡ true → order_at plan past a (asked_in from) ≡ Some order → Given plan past a from to held order
given_as plan past a atom.Running atom.Success (payload.Value result) order is asked = allows_as _ order (payload.Value result) asked
given_as plan past a atom.Running atom.Failure (payload.Fault fault) order is asked = allows_as _ order (payload.Fault fault) asked
given_as plan past a atom.Reverting atom.Reverted payload.Empty order is asked = allows_as _ order payload.Empty asked
given_as plan past a atom.Reverting atom.RevertFailure (payload.Fault fault) order is asked = allows_as _ order (payload.Fault fault) asked
given_as plan past a from to held order is asked = absurd (cc)

-- ---- a task has an order

part_asked : (p : Part) → is_task_part p ≡ true → is_some (task_part p) ≡ true
part_asked (a_task t) is = refl
part_asked (a_retry r) is = absurd (cc)

atom_asked : (o : Option Atom) → is_task_in o ≡ true → is_some (task_in o) ≡ true
atom_asked None is = absurd (cc)
atom_asked (Some atom) is = part_asked atom.part is

some_mapped : {X Y : Type 0} (f : X → Y) (o : Option X) → is_some o ≡ true → option_map f o ≡ None → ⊥
some_mapped f None is none = cc
some_mapped f (Some x) is none = cc

is_asked : (plan : Outline) (s : Snapshot) (a : ℕ) (how : Action) → is_task plan a ≡ true → order_of plan s a how ≡ None → ⊥
unfolding order_of
is_asked plan s a how task none = some_mapped (order_with a how (given_for plan s a how)) (task_at plan a) (atom_asked (slice_get plan.atoms a) task) none

-- ---- so the order that is kept decides

module _ (machine : MachineValue) (orders : List (Option Order)) (past : List Entry) (e : Entry) (a : ℕ) (s : AtomState) (held : Payload) where
  from_state : Follows machine orders past e → e.what ≡ what.Atom a s held → is_over s ≡ true → is_task (outline machine) a ≡ true → ends_as (state_of past a) s held ≡ true
  from_state follows is over task = ended_as (outline machine) past e a s held follows.stands.legal (subst (λ (t : Snapshot). Step (outline machine) t e) follows.stands.shows follows.step) is over task

  pub slot_told : Follows machine orders past e → e.what ≡ what.Atom a s held → is_over s ≡ true → is_task (outline machine) a ≡ true
      → slice_get orders a ≡ Some (order_at (outline machine) past a (asked_in (state_of past a)))
  slot_told follows is over task = follows.keeps.each a task (was_at_work (state_of past a) s held (from_state follows is over task))

  pub slot_there : Follows machine orders past e → e.what ≡ what.Atom a s held → is_over s ≡ true → is_task (outline machine) a ≡ true → slice_get orders a ≡ None → ⊥
  slot_there follows is over task none = let told = slot_told follows is over task in let clash_of : None ≡ Some (order_at (outline machine) past a (asked_in (state_of past a))) = sym none ∙ told in cc

  pub slot_asked : Follows machine orders past e → e.what ≡ what.Atom a s held → is_over s ≡ true → is_task (outline machine) a ≡ true → slice_get orders a ≡ Some None → ⊥
  slot_asked follows is over task none =
      let told = slot_told follows is over task in
      let same : Some None ≡ Some (order_at (outline machine) past a (asked_in (state_of past a))) = sym none ∙ told in
      let unasked : None ≡ order_at (outline machine) past a (asked_in (state_of past a)) = cc in
      is_asked (outline machine) (snapshot (outline machine) (before_start past a)) a (asked_in (state_of past a)) task (sym unasked)

  pub slot_decides : (order : Order) (fits : Bool) → Follows machine orders past e → e.what ≡ what.Atom a s held → is_over s ≡ true → is_task (outline machine) a ≡ true → slice_get orders a ≡ Some (Some order)
      → IsTrue fits ↔ GivesFar order (outcome_in held) → IsTrue fits ↔ IsGiven GivesFar (outline machine) past (what.Atom a s held)
  slot_decides order fits follows is over task there allowed =
      let told = slot_told follows is over task in
      let same : Some (Some order) ≡ Some (order_at (outline machine) past a (asked_in (state_of past a))) = sym there ∙ told in
      let asked : Some order ≡ order_at (outline machine) past a (asked_in (state_of past a)) = cc in
      let given = given_as (outline machine) past a (state_of past a) s held order (from_state follows is over task) (sym asked) in
      (λ yes. given.1 (allowed.0 yes), λ g. allowed.1 (given.0 g))
