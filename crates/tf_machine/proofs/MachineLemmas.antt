-- For which histories a machine stands.
use Rattle.std.proofs.Common.{◌≡◌, ℕ, zero, suc, ◌<◌, ◌≤◌, List, [], ◌∷◌, ◌++◌, length, true, ◌||◌, Option, Some, None, refl, sym, ap, ◌∙◌, subst, arith, slice_get, length-append}
use Rattle.tf_states.specs.declared.record.AtomView.{AtomView}
use Rattle.tf_states.specs.declared.record.Entry.{Entry}
use Rattle.tf_states.specs.declared.state.AtomState.{AtomState}
use Rattle.tf_states.specs.declared.state.AtomState.TheVariants as atom
use Rattle.tf_states.specs.declared.state.FlowState.{FlowState}
use Rattle.tf_states.specs.declared.state.FlowState.TheVariants as flow
use Rattle.tf_actions.specs.declared.outcomes.Outcome.{Outcome}
use Rattle.tf_actions.specs.declared.outcomes.Outcome.TheVariants as outcome
use Rattle.tf_machine.specs.declared.tables.Place.{Place}
use Rattle.tf_numbers.specs.Numbers.{is_number}
use Rattle.tf_model.specs.Plan.{compile_refusal, Outline, outline_of, count, is_task}
use Rattle.tf_model.specs.Scope.{missing_symbol}
use Rattle.tf_model.specs.History.{Snapshot, later, is_at_work, snapshot, flow_of, flow_runs, flow_suspends, state_in, payload_in}
use Rattle.tf_model.specs.Forced.{forced, choice, end_of}
use Rattle.tf_model.specs.Steps.{Step, by_end_of_task, LegalPast, ends_task, is_still}
use Rattle.tf_model.proofs.HistoryLemmas.{one_more}
use Rattle.std.specs.Prelude.{is_some}
use Rattle.std.proofs.lemmas.Option.{slice_get-get_or}
use Rattle.tf_facts.specs.Facts.{Facts, CompletedReversion}
use Rattle.tf_facts.proofs.PastLemmas.{facts_hold, never_stuck, reversion_completed}
use Rattle.tf_order.proofs.GraphLemmas.{rows_length, row_told}
use Rattle.tf_numbers.proofs.BelowLemmas.{found_passes}
use Rattle.tf_bound.specs.Costs.{tries_at}
use Rattle.tf_bound.specs.Kept.{IsKept, IsBounded}
use Rattle.tf_bound.specs.Short.{IsShortEvent, IsWithinLimits}
use Rattle.tf_bound.proofs.PastLemmas.{first_bounded, next_bounded, bounded_kept}
use Rattle.tf_machine.specs.Answers.{view_at, views_of}
use Rattle.tf_hands.specs.Hands.{is_with, task_of, end_by, ended_from, FlightFacts}
use Rattle.tf_machine.specs.Tries.{HasTries, HasFewTries}
use Rattle.tf_machine.specs.Machine.{MachineValue, outline, shown, StandsFor, IsSoundMachine}
use Rattle.tf_machine.specs.Worklists.{AreMarksHeld}
use Rattle.tf_machine.specs.Tables.{hand_in, mark_in, attempts_told}
use Rattle.tf_machine.specs.Changes.{first_view, first_place, first_views, first_places}
use Rattle.tf_hands.proofs.FactLemmas.{past_facts}
use Rattle.tf_machine.proofs.AttemptLemmas.{step_tries, first_tries}
use Rattle.tf_numbers.proofs.OptionLemmas.{is_this_number}
use Rattle.tf_machine.proofs.LaterLemmas.{same_snapshot}

-- the facts of legal histories hold of what a machine shows
pub sound_facts : (m : MachineValue) → IsSoundMachine m → FlightFacts (outline m) (shown m)
sound_facts m sound = subst (FlightFacts (outline m)) (sym sound.some.1.shows) (past_facts (outline m) sound.some.0 sound.some.1.legal)

-- each mark is one of a flow that holds the atom
pub sound_marked : (m : MachineValue) → IsSoundMachine m → AreMarksHeld (outline m) (shown m)
sound_marked m sound =
    let facts : Facts (outline m) (shown m) = subst (Facts (outline m)) (sym sound.some.1.shows) (facts_hold m.plan sound.some.0 sound.compiles sound.some.1.legal) in
    λ a mark is. (facts.whole_marks a mark is).0

-- what makes less owed holds of what a machine shows
pub sound_kept : (m : MachineValue) → IsSoundMachine m → IsKept (outline m) (shown m)
sound_kept m sound =
    let facts : Facts (outline m) (shown m) = subst (Facts (outline m)) (sym sound.some.1.shows) (facts_hold m.plan sound.some.0 sound.compiles sound.some.1.legal) in
    bounded_kept m.plan (shown m) sound.compiles facts.order sound.bounded

-- after a step it stands for one entry more
pub stands_later : (old new : MachineValue) (e : Entry) → new.plan ≡ old.plan → Step (outline old) (shown old) e → shown new ≡ later (outline old) e (shown old)
    → (past : List Entry) → StandsFor old past → StandsFor new (e ∷ past)
stands_later old new e plan step moved past stands =
    let same : outline new ≡ outline old = ap outline_of plan in
    record {
      legal = subst (λ (o : Outline). LegalPast o (e ∷ past)) (sym same) (subst (λ (s : Snapshot). Step (outline old) s e) stands.shows step, stands.legal);
      shows = moved ∙ (ap (later (outline old) e) stands.shows ∙ (sym (one_more (outline old) e past) ∙ ap (λ (o : Outline). snapshot o (e ∷ past)) (sym same)));
    }

pub sound_later : (old new : MachineValue) (e : Entry) → IsSoundMachine old → IsShortEvent e.what → new.plan ≡ old.plan → Step (outline old) (shown old) e → shown new ≡ later (outline old) e (shown old)
    → length new.views ≡ length old.views → length new.places ≡ length old.places → IsSoundMachine new
sound_later old new e sound short plan step moved views places =
    let same : outline new ≡ outline old = ap outline_of plan in
    record {
      compiles = ap compile_refusal plan ∙ sound.compiles;
      complete = ap missing_symbol same ∙ sound.complete;
      few = subst HasFewTries (sym same) sound.few;
      views = views ∙ (sound.views ∙ ap count (sym same));
      places = places ∙ (sound.places ∙ ap count (sym same));
      some = (e ∷ sound.some.0, stands_later old new e plan step moved sound.some.0 sound.some.1);
      bounded = subst (λ (o : Outline). IsBounded o (shown new)) (sym same)
          (subst (IsBounded (outline old)) (sym moved) (next_bounded old.plan (shown old) e sound.compiles short step sound.bounded));
      tries = subst (λ (o : Outline). HasTries o (shown new)) (sym same)
          (subst (HasTries (outline old)) (sym moved) (step_tries (outline old) (shown old) e sound.bounded.limits.attempts sound.bounded.counted (sound_facts old sound) sound.tries step));
    }

-- attempts of what a machine shows fit 16 bits
pub sound_few : (m : MachineValue) → IsSoundMachine m → (a : ℕ) → (shown m).attempts a < 65536
sound_few m sound a =
    let most : (shown m).attempts a ≤ tries_at (outline m) a = sound.tries.most a in
    let few : tries_at (outline m) a < 65536 = sound.few a in
    omega (arith, most, few)

-- ---- before a run

first_at : {X Y : Type 0} (f : Option X → Y) (x : X) (xs : List X) (a : ℕ) (y : Y) → f None ≡ y → f (Some x) ≡ y → ((b : ℕ) → f (slice_get xs b) ≡ y) → f (slice_get (xs ++ x ∷ []) a) ≡ y
first_at f x [] zero y none here each = here
first_at f x [] (suc a) y none here each = none
first_at f x (v ∷ vs) zero y none here each = each 0
first_at f x (v ∷ vs) (suc a) y none here each = first_at f x vs a y none here (λ b. each (suc b))

views_first : {Y : Type 0} (f : Option AtomView → Y) (n a : ℕ) (y : Y) → f None ≡ y → f (Some first_view) ≡ y → f (slice_get (first_views n) a) ≡ y
views_first f zero a y none here = none
views_first f (suc n) a y none here = first_at f first_view (first_views n) a y none here (λ b. views_first f n b y none here)

-- every atom is PENDING
pub first_pending : (views : List AtomView) (n a : ℕ) → views ≡ first_views n → state_in (slice_get views a) ≡ atom.Pending
first_pending views n a is = ap (λ (xs : List AtomView). state_in (slice_get xs a)) is ∙ views_first state_in n a _ refl refl

places_first : {Y : Type 0} (f : Option Place → Y) (n a : ℕ) (y : Y) → f None ≡ y → f (Some first_place) ≡ y → f (slice_get (first_places n) a) ≡ y
places_first f zero a y none here = none
places_first f (suc n) a y none here = first_at f first_place (first_places n) a y none here (λ b. places_first f n b y none here)

pub first_views_length : (n : ℕ) → length (first_views n) ≡ n
first_views_length zero = refl
first_views_length (suc n) = length-append (first_views n) (first_view ∷ []) ∙ omega (arith, first_views_length n)

pub first_places_length : (n : ℕ) → length (first_places n) ≡ n
first_places_length zero = refl
first_places_length (suc n) = length-append (first_places n) (first_place ∷ []) ∙ omega (arith, first_places_length n)

-- it stands for the empty history
pub stands_first : (m : MachineValue) (n : ℕ) → m.views ≡ first_views n → m.places ≡ first_places n → m.flow ≡ flow.Pending → StandsFor m []
unfolding snapshot
stands_first m n views places state = record {
  legal = tt;
  shows = same_snapshot (shown m) (snapshot (outline m) [])
      (λ a. ap (λ (xs : List AtomView). state_in (slice_get xs a)) views ∙ views_first state_in n a _ refl refl)
      (λ a. ap (λ (xs : List AtomView). payload_in (slice_get xs a)) views ∙ views_first payload_in n a _ refl refl)
      (λ a. ap (λ (xs : List Place). hand_in (slice_get xs a)) places ∙ places_first hand_in n a _ refl refl)
      (λ a. ap (λ (xs : List Place). mark_in (slice_get xs a)) places ∙ places_first mark_in n a _ refl refl)
      (λ a. ap (λ (xs : List Place). attempts_told (slice_get xs a)) places ∙ places_first attempts_told n a _ refl refl)
      state;
}

pub sound_first : (m : MachineValue) (n : ℕ) → compile_refusal m.plan ≡ None → missing_symbol (outline m) ≡ None → HasFewTries (outline m) → IsWithinLimits (outline m) → n ≡ count (outline m) → m.views ≡ first_views n → m.places ≡ first_places n → m.flow ≡ flow.Pending → IsSoundMachine m
sound_first m n compiles complete few limits all views places state = record {
  compiles = compiles;
  complete = complete;
  few = few;
  views = ap (λ (xs : List AtomView). length xs) views ∙ (first_views_length n ∙ all);
  places = ap (λ (xs : List Place). length xs) places ∙ (first_places_length n ∙ all);
  some = ([], stands_first m n views places state);
  bounded = subst (IsBounded (outline m)) (sym (stands_first m n views places state).shows) (first_bounded (outline m) limits);
  tries = subst (HasTries (outline m)) (sym (stands_first m n views places state).shows) (first_tries (outline m));
}

-- ---- the end of a task in flight

pub ended_as : (plan : Outline) (s : Snapshot) (hand a : ℕ) (state : AtomState) (result : Outcome) → s.state a ≡ state → is_at_work state ≡ true → flow_runs s.flow || flow_suspends s.flow ≡ true → is_number (s.hand a) hand ≡ true
    → ends_task s hand (ended_from a state result) ≡ true
unfolding ends_task
ended_as plan s hand a atom.Running (outcome.Gave v) was works goes has = rw (goes, has, was) refl
ended_as plan s hand a atom.Running (outcome.Failed f) was works goes has = rw (goes, has, was) refl
ended_as plan s hand a atom.Reverting (outcome.Gave v) was works goes has = rw (goes, has, was) refl
ended_as plan s hand a atom.Reverting (outcome.Failed f) was works goes has = rw (goes, has, was) refl
ended_as plan s hand a state result was works goes has = absurd (cc)

-- what a hand has in flight is a task
pub flying_task : (m : MachineValue) (hand a : ℕ) → IsSoundMachine m → task_of (outline m) (shown m) hand ≡ Some a → is_task (outline m) a ≡ true
flying_task m hand a sound is =
    ((sound_facts m sound).busy a hand (is_this_number ((shown m).hand a) hand (found_passes (count (outline m)) (is_with (shown m) hand) a is))).task

-- it may follow
pub settled_step : (plan : Outline) (s : Snapshot) (hand a : ℕ) (result : Outcome) → FlightFacts plan s → task_of plan s hand ≡ Some a → Step plan s (end_by s hand result a)
settled_step plan s hand a result facts is =
    let has = found_passes (count plan) (is_with s hand) a is in
    let busy = facts.busy a hand (is_this_number (s.hand a) hand has) in
    record { hand = busy.numbered; rule = by_end_of_task (ended_as plan s hand a (s.state a) result refl busy.at_work busy.goes has) }

-- ---- views

same_list : {X : Type 0} (xs ys : List X) → length xs ≡ length ys → ((k : ℕ) → k < length xs → slice_get xs k ≡ slice_get ys k) → xs ≡ ys
same_list [] [] lengths each = refl
same_list [] (y ∷ ys) lengths each = absurd (omega arith)
same_list (x ∷ xs) [] lengths each = absurd (omega arith)
same_list {X = X} (x ∷ xs) (y ∷ ys) lengths each =
    let first : slice_get (x ∷ xs) 0 ≡ slice_get (y ∷ ys) 0 = each 0 (omega arith) in
    let same : x ≡ y = cc in
    ap (λ (z : X). z ∷ xs) same ∙ ap (λ (zs : List X). y ∷ zs) (same_list xs ys (omega arith) (λ k below. each (suc k) (omega (arith, below))))

seen : (m : MachineValue) (k : ℕ) (o : Option AtomView) → slice_get m.views k ≡ o → (k < length m.views) → o ≡ Some (view_at (shown m) k)
seen m k None is below = let within = slice_get-get_or m.views k first_view below in absurd (cc)
seen m k (Some v) is below = ap (λ (o : Option AtomView). Some (record { state = state_in o; payload = payload_in o })) (sym is)

-- the views are those of what is shown
pub views_told : (m : MachineValue) → IsSoundMachine m → m.views ≡ views_of (outline m) (shown m)
views_told m sound =
    same_list m.views (views_of (outline m) (shown m)) (sound.views ∙ sym (rows_length (view_at (shown m)) (count (outline m))))
    (λ k below. seen m k (slice_get m.views k) refl below
    ∙ sym (row_told (view_at (shown m)) (count (outline m)) k (omega (arith, below, sound.views))))

-- ---- what holds of each history that it stands for

pub stuck_never : (m : MachineValue) (past : List Entry) → IsSoundMachine m → StandsFor m past → flow_of past ≡ flow.Running
    → forced (outline m) (snapshot (outline m) past) ≡ None → choice (outline m) (snapshot (outline m) past) ≡ None → is_still (outline m) (snapshot (outline m) past) ≡ true
    → is_some (end_of (outline m) (shown m)) ≡ true
stuck_never m past sound stands runs unforced unstarted still =
    ap (λ (s : Snapshot). is_some (end_of (outline m) s)) stands.shows ∙ never_stuck m.plan past sound.compiles stands.legal runs unforced unstarted still

pub facts_here : (m : MachineValue) (past : List Entry) → IsSoundMachine m → StandsFor m past → Facts (outline m) (snapshot (outline m) past)
facts_here m past sound stands = facts_hold m.plan past sound.compiles stands.legal

flow_read : (plan : Outline) (past : List Entry) (f : FlowState) → (snapshot plan past).flow ≡ f → flow_of past ≡ f
unfolding snapshot
flow_read plan past f is = is

pub completed_here : (m : MachineValue) (past : List Entry) → IsSoundMachine m → StandsFor m past → (shown m).flow ≡ flow.Reverted → CompletedReversion (outline m) past
completed_here m past sound stands reverted =
    reversion_completed m.plan past sound.compiles stands.legal (flow_read (outline m) past flow.Reverted (ap (λ (s : Snapshot). s.flow) (sym stands.shows) ∙ reverted))
