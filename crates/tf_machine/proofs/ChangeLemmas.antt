-- How the tables change at one place or at each.
use Rattle.std.proofs.Common.{◌≡◌, ℕ, zero, suc, ◌+◌, ◌<◌, ◌≤◌, ◌⊎◌, List, [], ◌∷◌, length, get_or, Bool, true, false, ◌&&◌, Option, Some, None, refl, sym, ap, ◌∙◌, inl, inr, arith, slice_get, length-set, eqb-true, eq-eqb, ◌≢◌}
use Rattle.std.specs.Prelude.{if◌then◌else◌, nat_eq, option_map}
use Rattle.std.proofs.lemmas.Bool.{cases_lt}
use Rattle.std.proofs.Math.ListN.{set}
use Rattle.std.proofs.lemmas.Option.{slice_get-get_or, slice_get_past}
use Rattle.tf_states.specs.declared.record.AtomView.{AtomView}
use Rattle.tf_states.specs.declared.record.Payload.{Payload}
use Rattle.tf_states.specs.declared.state.AtomState.{AtomState}
use Rattle.tf_states.specs.declared.state.FlowState.{FlowState}
use Rattle.tf_machine.specs.declared.tables.Place.{Place}
use Rattle.tf_model.specs.Plan.{Outline, count, holds, is_retry, own_flow}
use Rattle.tf_model.specs.Forced.{holds_with, is_marked_again}
use Rattle.tf_model.specs.History.{held_after, attempts_in, is_running, state_in, payload_in}
use Rattle.tf_machine.specs.Tables.{hand_in, mark_in, attempts_told, resolve_of, shown_of}
use Rattle.tf_machine.specs.declared.compiled.Span.{Span}
use Rattle.tf_machine.specs.declared.tables.Change.{Change}
use Rattle.tf_machine.specs.declared.tables.Change.TheVariants as change
use Rattle.tf_machine.specs.declared.tables.Mark.{Mark}
use Rattle.tf_machine.specs.Compiled.{IsInSpan, IsSpanOf, IsSpanAround}
use Rattle.tf_machine.specs.Worklists.{AreMarksHeld}
use Rattle.tf_machine.proofs.ExtentLemmas.{kept_outside}
use Rattle.tf_numbers.proofs.TruthLemmas.{never_true}
use Rattle.tf_machine.specs.Changes.{ArePlacesHeld, Stays, changed, AreChanged, entered_view, flow_resumes, flow_rests, turned, marked, released, begun, cleared}

-- ---- one element

set_same : {X : Type 0} (xs : List X) (i : ℕ) (y : X) → i < length xs → slice_get (set xs i y) i ≡ Some y
set_same [] i y below = absurd (omega arith)
set_same (x ∷ xs) zero y below = refl
set_same (x ∷ xs) (suc i) y below = set_same xs i y (omega arith)

set_other : {X : Type 0} (xs : List X) (i k : ℕ) (y : X) → i ≢ k → slice_get (set xs i y) k ≡ slice_get xs k
set_other [] i k y apart = refl
set_other (x ∷ xs) zero zero y apart = absurd (apart refl)
set_other (x ∷ xs) zero (suc k) y apart = refl
set_other (x ∷ xs) (suc i) zero y apart = refl
set_other (x ∷ xs) (suc i) (suc k) y apart = set_other xs i k y (λ same. apart (ap suc same))

-- one element is set
pub set_told : {X : Type 0} (xs : List X) (i k : ℕ) (y : X) → i < length xs → slice_get (set xs i y) k ≡ (if nat_eq i k then Some y else slice_get xs k)
set_told {X = X} xs i k y below = by (nat_eq i k) refl
  where
    by : (b : Bool) → nat_eq i k ≡ b → slice_get (set xs i y) k ≡ (if b then Some y else slice_get xs k)
    by true is = ap (slice_get (set xs i y)) (sym (eqb-true i k is)) ∙ set_same xs i y below
    by false is = set_other xs i k y (λ same. let no : nat_eq i k ≡ true = eq-eqb i k same in absurd (cc))

-- ---- the view of an atom

pub state_set : (views : List AtomView) (i a : ℕ) (state : AtomState) (new : AtomView) → i < length views → new.state ≡ state
    → state_in (slice_get (set views i new) a) ≡ (if nat_eq i a then state else state_in (slice_get views a))
state_set views i a state new below is = ap state_in (set_told views i a new below) ∙ by (nat_eq i a)
  where
    by : (b : Bool) → state_in (if b then Some new else slice_get views a) ≡ (if b then state else state_in (slice_get views a))
    by true = is
    by false = refl

pub payload_set : (views : List AtomView) (i a : ℕ) (state : AtomState) (held : Payload) (new was : AtomView) → i < length views → was ≡ get_or views i was → new ≡ entered_view state held was
    → payload_in (slice_get (set views i new) a)
    ≡ (if nat_eq i a then held_after state held (state_in (slice_get views a)) (payload_in (slice_get views a)) else payload_in (slice_get views a))
payload_set views i a state held new was below at is = ap payload_in (set_told views i a new below) ∙ by (nat_eq i a) refl
  where
    by : (b : Bool) → nat_eq i a ≡ b → payload_in (if b then Some new else slice_get views a)
        ≡ (if b then held_after state held (state_in (slice_get views a)) (payload_in (slice_get views a)) else payload_in (slice_get views a))
    by true same = ap (λ (v : AtomView). v.payload) is
        ∙ ap (λ (o : Option AtomView). held_after state held (state_in o) (payload_in o)) (ap (λ (v : AtomView). Some v) at ∙ (sym (slice_get-get_or views i was below) ∙ ap (slice_get views) (eqb-true i a same)))
    by false same = refl

-- ---- its place

pub hand_set : (places : List Place) (i a : ℕ) (hand : Option ℕ) (new : Place) → i < length places → new.hand ≡ hand
    → hand_in (slice_get (set places i new) a) ≡ (if nat_eq i a then hand else hand_in (slice_get places a))
hand_set places i a hand new below is = ap hand_in (set_told places i a new below) ∙ by (nat_eq i a)
  where
    by : (b : Bool) → hand_in (if b then Some new else slice_get places a) ≡ (if b then hand else hand_in (slice_get places a))
    by true = is
    by false = refl

-- what another function of the places tells
place_set : {Y : Type 0} (f : Option Place → Y) (g : Y → Y) (places : List Place) (i a : ℕ) (new was : Place) → i < length places → was ≡ get_or places i was
    → f (Some new) ≡ g (f (Some was)) → f (slice_get (set places i new) a) ≡ (if nat_eq i a then g (f (slice_get places a)) else f (slice_get places a))
place_set {Y = Y} f g places i a new was below at tells = ap f (set_told places i a new below) ∙ by (nat_eq i a) refl
  where
    by : (b : Bool) → nat_eq i a ≡ b → f (if b then Some new else slice_get places a) ≡ (if b then g (f (slice_get places a)) else f (slice_get places a))
    by true is = tells ∙ ap (λ (o : Option Place). g (f o)) (ap (λ (p : Place). Some p) at ∙ (sym (slice_get-get_or places i was below) ∙ ap (slice_get places) (eqb-true i a is)))
    by false is = refl

as_before : {Y : Type 0} (b : Bool) (y : Y) → (if b then y else y) ≡ y
as_before true y = refl
as_before false y = refl

pub mark_set : (places : List Place) (i a : ℕ) (new was : Place) → i < length places → was ≡ get_or places i was → new.mark ≡ was.mark
    → mark_in (slice_get (set places i new) a) ≡ mark_in (slice_get places a)
mark_set places i a new was below at is = place_set mark_in (λ m. m) places i a new was below at (ap (option_map resolve_of) is) ∙ as_before (nat_eq i a) (mark_in (slice_get places a))

pub attempts_set : (places : List Place) (i a : ℕ) (state : AtomState) (new was : Place) → i < length places → was ≡ get_or places i was → new.attempts ≡ attempts_in state was.attempts
    → attempts_told (slice_get (set places i new) a) ≡ (if nat_eq i a then attempts_in state (attempts_told (slice_get places a)) else attempts_told (slice_get places a))
attempts_set places i a state new was below at is = place_set attempts_told (attempts_in state) places i a new was below at is

pub attempts_kept : (places : List Place) (i a : ℕ) (new was : Place) → i < length places → was ≡ get_or places i was → new.attempts ≡ was.attempts
    → attempts_told (slice_get (set places i new) a) ≡ attempts_told (slice_get places a)
attempts_kept places i a new was below at is = place_set attempts_told (λ m. m) places i a new was below at is ∙ as_before (nat_eq i a) (attempts_told (slice_get places a))

-- ---- the place of each atom

-- the places below k are changed, and the others as they were
pub record AreChangedBelow (change : ℕ → Place → Place) (k : ℕ) (old new : List Place) : Type 0 where
  pub as_many : length new ≡ length old
  pub changed : (a : ℕ) → a < k → slice_get new a ≡ option_map (change a) (slice_get old a)
  pub same : (a : ℕ) → k ≤ a → slice_get new a ≡ slice_get old a

pub none_changed : (change : ℕ → Place → Place) (places : List Place) → AreChangedBelow change 0 places places
none_changed change places = record { as_many = refl; changed = λ a below. absurd (omega arith); same = λ a from. refl }

pub one_changed : (change : ℕ → Place → Place) (k : ℕ) (old new : List Place) (d p : Place) → k < length new → p ≡ change k (get_or new k d) → AreChangedBelow change k old new
    → AreChangedBelow change (k + 1) old (set new k p)
one_changed change k old new d p within is below = record {
  as_many = length-set new k p ∙ below.as_many;
  changed = λ a before. set_told new k a p within ∙ at a (nat_eq k a) refl before;
  same = λ a from. set_told new k a p within ∙ (past a (nat_eq k a) refl from ∙ below.same a (omega (arith, from)));
}
  where
    here : Some p ≡ option_map (change k) (slice_get old k)
    here = ap (λ (q : Place). Some q) is ∙ ap (option_map (change k)) (sym (slice_get-get_or new k d within) ∙ below.same k (omega arith))

    at : (a : ℕ) (b : Bool) → nat_eq k a ≡ b → a < k + 1 → (if b then Some p else slice_get new a) ≡ option_map (change a) (slice_get old a)
    at a true same before = here ∙ ap (λ (n : ℕ). option_map (change n) (slice_get old n)) (eqb-true k a same)
    at a false same before = below.changed a (let other : k ≢ a = λ is_same. (let no : nat_eq k a ≡ true = eq-eqb k a is_same in absurd (cc)) in omega (arith, before, other))

    past : (a : ℕ) (b : Bool) → nat_eq k a ≡ b → k + 1 ≤ a → (if b then Some p else slice_get new a) ≡ slice_get new a
    past a true same from = let equal : k ≡ a = eqb-true k a same in absurd (omega (arith, from, equal))
    past a false same from = refl

stays_at : (plan : Outline) (change : Change) (span : Span) (places : List Place) (a : ℕ) → length places ≡ count plan → ArePlacesHeld plan places → Stays plan change span → (IsInSpan span a → ⊥)
    → slice_get places a ≡ option_map (changed plan change a) (slice_get places a)
stays_at plan change span places a all held stays out = by (slice_get places a) refl (cases_lt a (length places))
  where
    by : (o : Option Place) → slice_get places a ≡ o → (a < length places) ⊎ (length places ≤ a) → o ≡ option_map (changed plan change a) o
    by None is where_ = refl
    by (Some p) is (inl below) = ap (λ (q : Place). Some q) (sym (stays a p (omega (arith, below, all)) (held a p is) out))
    by (Some p) is (inr past) = let none = sym is ∙ slice_get_past places a past in absurd (cc)

pub none_changed_before : (plan : Outline) (change : Change) (span : Span) (places : List Place) → length places ≡ count plan → ArePlacesHeld plan places → Stays plan change span → AreChangedBelow (changed plan change) span.first places places
none_changed_before plan change span places all held stays = record {
  as_many = refl;
  changed = λ a below. stays_at plan change span places a all held stays (λ inside. let low = inside.0 in omega (arith, below, low));
  same = λ a from. refl;
}

pub all_changed_within : (plan : Outline) (change : Change) (span : Span) (n : ℕ) (old new : List Place) → length old ≡ count plan → ArePlacesHeld plan old → Stays plan change span → span.end ≤ n → AreChangedBelow (changed plan change) n old new → AreChanged (changed plan change) old new
all_changed_within plan change span n old new all held stays end below = record {
  as_many = below.as_many;
  each = λ a. elim (cases_lt a n) [
    | inl before ↦ below.changed a before
    | inr from ↦ below.same a from ∙ stays_at plan change span old a all held stays (λ inside. let high = inside.1 in omega (arith, from, high, end))
  ];
}

-- another change that makes the same of each place
pub same_changes : (f g : ℕ → Place → Place) (old new : List Place) → ((a : ℕ) (p : Place) → f a p ≡ g a p) → AreChanged f old new → AreChanged g old new
same_changes f g old new same are = record { as_many = are.as_many; each = λ a. are.each a ∙ by a (slice_get old a) }
  where
    by : (a : ℕ) (o : Option Place) → option_map (f a) o ≡ option_map (g a) o
    by a None = refl
    by a (Some p) = ap (λ (q : Place). Some q) (same a p)

-- a change that makes nothing of each place
pub not_changed : (f : ℕ → Place → Place) (places : List Place) → ((a : ℕ) (p : Place) → p ≡ f a p) → AreChanged f places places
not_changed f places same = record { as_many = refl; each = λ a. by a (slice_get places a) }
  where
    by : (a : ℕ) (o : Option Place) → o ≡ option_map (f a) o
    by a None = refl
    by a (Some p) = ap (λ (q : Place). Some q) (same a p)

-- ---- the places that a change may change

pub stays_whole : (plan : Outline) (change : Change) (span : Span) → span.first ≡ 0 → span.end ≡ count plan → Stays plan change span
stays_whole plan change span first end = λ a place below held out. absurd (out (omega (arith, first), omega (arith, below, end)))

not_held : (plan : Outline) (own : Option ℕ) (span : Span) (a : ℕ) → IsSpanAround plan own span → (IsInSpan span a → ⊥) → holds_with plan own a ≡ false
not_held plan own span a around out = never_true (holds_with plan own a) (λ held. out (around.each a held))

pub stays_begun : (plan : Outline) (own : Option ℕ) (span : Span) → IsSpanAround plan own span → Stays plan (change.Begin own) span
stays_begun plan own span around = λ a place below held out. ap (λ (x : Bool). if x then marked None place else place) (by a place.mark held (not_held plan own span a around out))
  where
    by : (a : ℕ) (mark : Option Mark) → ((m : Mark) → mark ≡ Some m → holds plan m.flow a ≡ true) → holds_with plan own a ≡ false → is_marked_again own (option_map resolve_of mark) ≡ false
    by a None held free = refl
    by a (Some m) held free = kept_outside plan own a (resolve_of m) (held m refl) free

pub stays_resolved : (plan : Outline) (mark : Mark) (span : Span) → IsSpanOf plan mark.flow span → Stays plan (change.Resolve mark) span
stays_resolved plan mark span around = λ a place below held out.
    ap (λ (x : Bool). if x then marked (Some mark) place else place) (never_true (holds plan mark.flow a) (λ is. out (around.each a is)))

-- marks that stand in places are those that are shown
pub places_held : (plan : Outline) (views : List AtomView) (places : List Place) (state : FlowState) → AreMarksHeld plan (shown_of views places state) → ArePlacesHeld plan places
places_held plan views places state marks = λ a p is m marked_so. marks a (resolve_of m) (ap mark_in is ∙ ap (option_map resolve_of) marked_so)

-- ---- the flow enters a state

pub released_by_turn : (state : FlowState) (old new : List Place) → flow_resumes state ≡ true → AreChanged (λ a. released) old new → AreChanged (λ a. turned state) old new
released_by_turn state old new is = same_changes (λ a. released) (λ a. turned state) old new (λ a p. ap (λ (b : Bool). if b then released p else if flow_rests state then marked None p else p) (sym is))

pub unmarked_by_turn : (state : FlowState) (old new : List Place) → flow_resumes state ≡ false → flow_rests state ≡ true → AreChanged (λ a. marked None) old new → AreChanged (λ a. turned state) old new
unmarked_by_turn state old new goes is = same_changes (λ a. marked None) (λ a. turned state) old new (λ a p. rw (goes, is) refl)

pub kept_by_turn : (state : FlowState) (places : List Place) → flow_resumes state ≡ false → flow_rests state ≡ false → AreChanged (λ a. turned state) places places
kept_by_turn state places goes is = not_changed (λ a. turned state) places (λ a p. rw (goes, is) refl)

-- ---- a retry controller begins to run

pub cleared_by_run : (plan : Outline) (i : ℕ) (state : AtomState) (own : Option ℕ) (old new : List Place) → is_running state ≡ true → is_retry plan i ≡ true → own ≡ own_flow plan i
    → AreChanged (λ a. begun own) old new → AreChanged (λ a. cleared plan i state) old new
cleared_by_run plan i state own old new runs retry home =
    same_changes (λ a. begun own) (λ a. cleared plan i state) old new (λ a p. ap (λ (g : Option ℕ). begun g p) home ∙ by p (is_running state) (is_retry plan i) runs retry)
  where
    by : (p : Place) (x y : Bool) → x ≡ true → y ≡ true → begun (own_flow plan i) p ≡ (if x && y then begun (own_flow plan i) p else p)
    by p x y first second = rw (first, second) refl

pub kept_by_run : (plan : Outline) (i : ℕ) (state : AtomState) (places : List Place) → is_running state && is_retry plan i ≡ false → AreChanged (λ a. cleared plan i state) places places
kept_by_run plan i state places is = not_changed (λ a. cleared plan i state) places (λ a p. ap (λ (b : Bool). if b then begun (own_flow plan i) p else p) (sym is))
