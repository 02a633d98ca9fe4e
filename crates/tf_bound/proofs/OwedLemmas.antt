-- What an atom owes, before and after an entry.
use Rattle.std.proofs.Common.{◌≡◌, ◌≢◌, ℕ, ◌+◌, ◌-◌, ◌*◌, ◌<◌, ◌≤◌, Bool, true, false, ◌&&◌, Option, Some, None, refl, sym, ap, ◌∙◌, inl, inr, eq-eqb, arith}
use Rattle.std.specs.Prelude.{if◌then◌else◌, is_none, nat_eq}
use Rattle.std.proofs.Math.Nat.{mul-le-mul_right}
use Rattle.std.proofs.lemmas.Bool.{ne_eqb}
use Rattle.tf_states.specs.declared.record.Payload.{Payload}
use Rattle.tf_states.specs.declared.record.What.TheVariants as what
use Rattle.tf_states.specs.declared.state.AtomState.{AtomState}
use Rattle.tf_states.specs.declared.state.AtomState.TheVariants as atom
use Rattle.tf_model.specs.Plan.{Outline, count, is_retry, is_task}
use Rattle.tf_model.specs.History.{Snapshot, later, is_at_work, attempts_in, is_failure, is_retrying, is_done, is_settled, is_put_back}
use Rattle.tf_model.specs.Readiness.{is_unmarked}
use Rattle.tf_model.specs.Forced.{is_of_its_flow, is_beginning_again, is_interrupted}
use Rattle.tf_numbers.proofs.TruthLemmas.{and_first, and_second, clash, either_way, true_both}
use Rattle.tf_numbers.proofs.NumberLemmas.{same_or_other}
use Rattle.tf_numbers.proofs.BelowLemmas.{any_at, any_of}
use Rattle.tf_facts.proofs.CoreLemmas.{retrying_is}
use Rattle.tf_facts.proofs.MoveLemmas.{after, entered_here, stays_there}
use Rattle.tf_bound.specs.Costs.{tries_at, sum_below}
use Rattle.tf_bound.specs.Owed.{holds_back, held, further_in, rest_of_life, restart_of, owed_held, owed_with, turn, left_with}
use Rattle.tf_bound.specs.Kept.{IsGuarded}
use Rattle.tf_bound.proofs.SumLemmas.{sum_falls}

-- ---- one atom's numbers

-- what an atom owes where it isn't held
abbrev pub free_in : AtomState → Bool → Bool → ℕ → ℕ → ℕ → ℕ
free_in state unmarked interrupted tries made attempt = rest_of_life state unmarked + restart_of interrupted + further_in state tries made * attempt

abbrev pub free : Outline → (ℕ → ℕ) → Snapshot → ℕ → ℕ
free plan attempt s a = free_in (s.state a) (is_unmarked s a) (is_interrupted plan s a) (tries_at plan a) (s.attempts a) (attempt a)

-- what owes less in the second state than in the first, whatever else changes
abbrev pub descends : AtomState → AtomState → Bool
descends atom.Pending atom.Running = true
descends atom.Pending atom.Ignore = true
descends atom.Running atom.Success = true
descends atom.Running atom.Failure = true
descends atom.Success atom.Reverting = true
descends atom.Success atom.Retrying = true
descends atom.Failure atom.Reverting = true
descends atom.Reverting atom.Reverted = true
descends atom.Reverting atom.RevertFailure = true
descends from to = false

failed_at_most : (now : Bool) → rest_of_life atom.Failure now ≤ 4
failed_at_most true = omega arith
failed_at_most false = omega arith

failed_at_least : (was : Bool) → 3 ≤ rest_of_life atom.Failure was
failed_at_least true = omega arith
failed_at_least false = omega arith

-- the numbers fall by one at least
pub life_falls : (from to : AtomState) (was now stopped : Bool) (tries made attempt : ℕ) → descends from to ≡ true
    → free_in to now false tries (attempts_in to made) attempt + 1 ≤ free_in from was stopped tries made attempt
life_falls atom.Pending atom.Running was now stopped tries made attempt is =
    let fewer : (tries - 1 - made) * attempt ≤ (tries - 1) * attempt = mul-le-mul_right attempt (omega arith) in omega (arith, fewer)
life_falls atom.Pending atom.Ignore was now stopped tries made attempt is = omega arith
life_falls atom.Running atom.Success was now stopped tries made attempt is =
    let same : tries - (made + 1) ≡ tries - 1 - made = omega arith in
    let all : (tries - (made + 1)) * attempt ≡ (tries - 1 - made) * attempt = ap (λ (n : ℕ). n * attempt) same in omega (arith, all)
life_falls atom.Running atom.Failure was now stopped tries made attempt is = omega (arith, failed_at_most now)
life_falls atom.Success atom.Reverting was now stopped tries made attempt is = omega arith
life_falls atom.Success atom.Retrying was now stopped tries made attempt is = omega arith
life_falls atom.Failure atom.Reverting was now stopped tries made attempt is = omega (arith, failed_at_least was)
life_falls atom.Reverting atom.Reverted was now stopped tries made attempt is = omega arith
life_falls atom.Reverting atom.RevertFailure was now stopped tries made attempt is = omega arith
life_falls from to was now stopped tries made attempt is = absurd (cc)

-- a mark that is gained, or that a failure doesn't lose, makes an atom owe no more
pub marked_at_most : (x : AtomState) (now was : Bool) → (is_failure x ≡ true → now ≡ true → was ≡ true) → rest_of_life x now ≤ rest_of_life x was
marked_at_most atom.Failure true true gains = omega arith
marked_at_most atom.Failure true false gains = let no : false ≡ true = gains refl refl in absurd (cc)
marked_at_most atom.Failure false true gains = omega arith
marked_at_most atom.Failure false false gains = omega arith
marked_at_most atom.Pending now was gains = omega arith
marked_at_most atom.Running now was gains = omega arith
marked_at_most atom.Success now was gains = omega arith
marked_at_most atom.Reverting now was gains = omega arith
marked_at_most atom.Reverted now was gains = omega arith
marked_at_most atom.RevertFailure now was gains = omega arith
marked_at_most atom.Ignore now was gains = omega arith
marked_at_most atom.Retrying now was gains = omega arith

-- what is held owes no more than elsewhere
held_at_most : (x : AtomState) (unmarked interrupted : Bool) (tries made attempt : ℕ) → owed_held x ≤ free_in x unmarked interrupted tries made attempt
held_at_most atom.Pending unmarked interrupted tries made attempt = omega arith
held_at_most atom.Running unmarked interrupted tries made attempt = omega arith
held_at_most atom.Success unmarked interrupted tries made attempt = omega arith
held_at_most atom.Failure unmarked interrupted tries made attempt = omega arith
held_at_most atom.Reverting unmarked interrupted tries made attempt = omega arith
held_at_most atom.Reverted unmarked interrupted tries made attempt = omega arith
held_at_most atom.RevertFailure unmarked interrupted tries made attempt = omega arith
held_at_most atom.Ignore unmarked interrupted tries made attempt = omega arith
held_at_most atom.Retrying unmarked interrupted tries made attempt = omega arith

pub owed_if_free : (plan : Outline) (attempt : ℕ → ℕ) (s : Snapshot) (a : ℕ) → held plan s a ≡ false → owed_with plan attempt s a ≡ free plan attempt s a
unfolding owed_with
owed_if_free plan attempt s a is = rw is refl

pub owed_if_held : (plan : Outline) (attempt : ℕ → ℕ) (s : Snapshot) (a : ℕ) → held plan s a ≡ true → owed_with plan attempt s a ≡ owed_held (s.state a)
unfolding owed_with
owed_if_held plan attempt s a is = rw is refl

pub owed_at_most : (plan : Outline) (attempt : ℕ → ℕ) (s : Snapshot) (a : ℕ) → owed_with plan attempt s a ≤ free plan attempt s a
owed_at_most plan attempt s a = elim (either_way (held plan s a)) [
  | inl holds_it ↦ rw (owed_if_held plan attempt s a holds_it) (held_at_most (s.state a) (is_unmarked s a) (is_interrupted plan s a) (tries_at plan a) (s.attempts a) (attempt a))
  | inr isnt ↦ rw (owed_if_free plan attempt s a isnt) (omega arith)
]

-- ---- what is held

-- a retry controller in RETRYING whose flow holds another atom
pub record Holder (plan : Outline) (s : Snapshot) (a : ℕ) : Type 0 where
  pub number : ℕ
  pub below : number < count plan
  pub retry : is_retry plan number ≡ true
  pub retrying : is_retrying (s.state number) ≡ true
  pub flow : is_of_its_flow plan number a ≡ true

pub holder : (plan : Outline) (s : Snapshot) (a : ℕ) → held plan s a ≡ true → Holder plan s a
unfolding held
holder plan s a is =
    let found = any_at (count plan) (holds_back plan s a) is in
    let again = and_first (is_beginning_again plan s found.number) _ found.passes in
    record {
      number = found.number;
      below = found.below;
      retry = and_first (is_retry plan found.number) _ again;
      retrying = and_second (is_retry plan found.number) _ again;
      flow = and_second (is_beginning_again plan s found.number) _ found.passes;
    }

pub is_held : (plan : Outline) (s : Snapshot) (a : ℕ) → Holder plan s a → held plan s a ≡ true
unfolding held
is_held plan s a h =
    any_of (count plan) (holds_back plan s a) h.number h.below
    (true_both (is_beginning_again plan s h.number) _ (true_both (is_retry plan h.number) _ h.retry h.retrying) h.flow)

-- an atom stays held where its holders stay in RETRYING
pub stays_held : (plan : Outline) (s t : Snapshot) (a : ℕ) → ((r : ℕ) → is_of_its_flow plan r a ≡ true → is_retrying (s.state r) ≡ true → is_retrying (t.state r) ≡ true)
    → held plan s a ≡ true → held plan t a ≡ true
stays_held plan s t a stay is =
    let h = holder plan s a is in
    is_held plan t a (record { number = h.number; below = h.below; retry = h.retry; retrying = stay h.number h.flow h.retrying; flow = h.flow })

-- an atom that isn't settled isn't held
pub unsettled_free : (plan : Outline) (s : Snapshot) (a : ℕ) → IsGuarded plan s → is_settled (s.state a) ≡ false → held plan s a ≡ false
unsettled_free plan s a guarded isnt = elim (either_way (held plan s a)) [
  | inr free_one ↦ free_one
  | inl is ↦ let h = holder plan s a is in
      absurd (clash (is_settled (s.state a)) (guarded h.number a h.retry (ap is_done (retrying_is (s.state h.number) h.retrying)) h.flow) isnt)
]

-- nothing is held where nothing is RETRYING
pub none_held : (plan : Outline) (s : Snapshot) (a : ℕ) → ((r : ℕ) → r < count plan → is_beginning_again plan s r ≡ false) → held plan s a ≡ false
none_held plan s a none = elim (either_way (held plan s a)) [
  | inr free_one ↦ free_one
  | inl is ↦ let h = holder plan s a is in
      absurd (clash (is_beginning_again plan s h.number) (true_both (is_retry plan h.number) _ h.retry h.retrying) (none h.number h.below))
]

-- ---- other atoms than the one of an entry

-- nothing of atom b changes but its mark
pub record SameAt (s t : Snapshot) (b : ℕ) : Type 0 where
  pub state : t.state b ≡ s.state b
  pub attempts : t.attempts b ≡ s.attempts b
  pub hand : t.hand b ≡ s.hand b

free_same : (plan : Outline) (attempt : ℕ → ℕ) (s t : Snapshot) (b : ℕ) → SameAt s t b → (is_failure (s.state b) ≡ true → is_unmarked t b ≡ true → is_unmarked s b ≡ true)
    → free plan attempt t b ≤ free plan attempt s b
free_same plan attempt s t b same marks =
    let state : free plan attempt t b ≡ free_in (s.state b) (is_unmarked t b) (is_task plan b && (is_at_work (s.state b) && is_none (t.hand b))) (tries_at plan b) (t.attempts b) (attempt b)
    = ap (λ (x : AtomState). free_in x (is_unmarked t b) (is_task plan b && (is_at_work x && is_none (t.hand b))) (tries_at plan b) (t.attempts b) (attempt b)) same.state in
    let hand : free_in (s.state b) (is_unmarked t b) (is_task plan b && (is_at_work (s.state b) && is_none (t.hand b))) (tries_at plan b) (t.attempts b) (attempt b)
    ≡ free_in (s.state b) (is_unmarked t b) (is_interrupted plan s b) (tries_at plan b) (t.attempts b) (attempt b)
    = ap (λ (h : Option ℕ). free_in (s.state b) (is_unmarked t b) (is_task plan b && (is_at_work (s.state b) && is_none h)) (tries_at plan b) (t.attempts b) (attempt b)) same.hand in
    let made : free_in (s.state b) (is_unmarked t b) (is_interrupted plan s b) (tries_at plan b) (t.attempts b) (attempt b)
    ≡ free_in (s.state b) (is_unmarked t b) (is_interrupted plan s b) (tries_at plan b) (s.attempts b) (attempt b)
    = ap (λ (m : ℕ). free_in (s.state b) (is_unmarked t b) (is_interrupted plan s b) (tries_at plan b) m (attempt b)) same.attempts in
    let marked : rest_of_life (s.state b) (is_unmarked t b) ≤ rest_of_life (s.state b) (is_unmarked s b) = marked_at_most (s.state b) (is_unmarked t b) (is_unmarked s b) marks in
    omega (arith, state, hand, made, marked)

-- it owes no more, where it stays held and no failure loses its mark
pub others_stay : (plan : Outline) (attempt : ℕ → ℕ) (s t : Snapshot) (b : ℕ) → SameAt s t b → (is_failure (s.state b) ≡ true → is_unmarked t b ≡ true → is_unmarked s b ≡ true)
    → (held plan s b ≡ true → held plan t b ≡ true) → owed_with plan attempt t b ≤ owed_with plan attempt s b
others_stay plan attempt s t b same marks stays = elim (either_way (held plan s b)) [
  | inl was ↦
      let before : owed_with plan attempt s b ≡ owed_held (s.state b) = owed_if_held plan attempt s b was in
      let now : owed_with plan attempt t b ≡ owed_held (s.state b) = owed_if_held plan attempt t b (stays was) ∙ ap owed_held same.state in
      omega (arith, before, now)
  | inr wasnt ↦
      let before : owed_with plan attempt s b ≡ free plan attempt s b = owed_if_free plan attempt s b wasnt in
      let now : owed_with plan attempt t b ≤ free plan attempt t b = owed_at_most plan attempt t b in
      let less : free plan attempt t b ≤ free plan attempt s b = free_same plan attempt s t b same marks in
      omega (arith, before, now, less)
]

-- ---- an entry of an atom

-- atom a enters a state: its attempts change as they do there, it isn't interrupted, and of other atoms at most marks change
pub record Moves (plan : Outline) (s t : Snapshot) (a : ℕ) (to : AtomState) : Type 0 where
  pub state : t.state a ≡ to
  pub attempts : t.attempts a ≡ attempts_in to (s.attempts a)
  pub flying : is_interrupted plan t a ≡ false
  pub others : (b : ℕ) → b ≢ a → SameAt s t b
  pub flow : t.flow ≡ s.flow

made_here : (a : ℕ) (now was : ℕ) → (if nat_eq a a then now else was) ≡ now
made_here a now was = rw (eq-eqb a a refl) refl

hand_here : (a : ℕ) (now was : Option ℕ) → (if nat_eq a a then now else was) ≡ now
hand_here a now was = rw (eq-eqb a a refl) refl

flying_in : (task works : Bool) (hand : ℕ) → (task && (works && is_none (if task && works then Some hand else None))) ≡ false
flying_in true true hand = refl
flying_in true false hand = refl
flying_in false works hand = refl

pub moves : (plan : Outline) (s : Snapshot) (hand a : ℕ) (to : AtomState) (carried : Payload) → Moves plan s (after plan hand (what.Atom a to carried) s) a to
unfolding later
moves plan s hand a to carried = record {
  state = entered_here a to (s.state a);
  attempts = made_here a (attempts_in to (s.attempts a)) (s.attempts a);
  flying =
      let state : (if nat_eq a a then to else s.state a) ≡ to = entered_here a to (s.state a) in
      let held_by : (if nat_eq a a then (if is_task plan a && is_at_work to then Some hand else None) else s.hand a) ≡ (if is_task plan a && is_at_work to then Some hand else None)
      = hand_here a (if is_task plan a && is_at_work to then Some hand else None) (s.hand a) in
      rw (state, held_by) (flying_in (is_task plan a) (is_at_work to) hand);
  others = λ b other. record {
    state = stays_there a b to (s.state b) other;
    attempts = rw (ne_eqb a b (λ same. other (sym same))) refl;
    hand = rw (ne_eqb a b (λ same. other (sym same))) refl;
  };
  flow = refl;
}

-- what the atom itself owes falls
own_falls : (plan : Outline) (attempt : ℕ → ℕ) (s t : Snapshot) (a : ℕ) (to : AtomState) → Moves plan s t a to → descends (s.state a) to ≡ true → held plan s a ≡ false
    → owed_with plan attempt t a + 1 ≤ owed_with plan attempt s a
own_falls plan attempt s t a to move down isnt =
    let before : owed_with plan attempt s a ≡ free plan attempt s a = owed_if_free plan attempt s a isnt in
    let now : owed_with plan attempt t a ≤ free plan attempt t a = owed_at_most plan attempt t a in
    let flying : free plan attempt t a ≡ free_in (t.state a) (is_unmarked t a) false (tries_at plan a) (t.attempts a) (attempt a)
    = ap (λ (i : Bool). free_in (t.state a) (is_unmarked t a) i (tries_at plan a) (t.attempts a) (attempt a)) move.flying in
    let made : free_in (t.state a) (is_unmarked t a) false (tries_at plan a) (t.attempts a) (attempt a) ≡ free_in (t.state a) (is_unmarked t a) false (tries_at plan a) (attempts_in to (s.attempts a)) (attempt a)
    = ap (λ (m : ℕ). free_in (t.state a) (is_unmarked t a) false (tries_at plan a) m (attempt a)) move.attempts in
    let state : free_in (t.state a) (is_unmarked t a) false (tries_at plan a) (attempts_in to (s.attempts a)) (attempt a) ≡ free_in to (is_unmarked t a) false (tries_at plan a) (attempts_in to (s.attempts a)) (attempt a)
    = ap (λ (x : AtomState). free_in x (is_unmarked t a) false (tries_at plan a) (attempts_in to (s.attempts a)) (attempt a)) move.state in
    let falls : free_in to (is_unmarked t a) false (tries_at plan a) (attempts_in to (s.attempts a)) (attempt a) + 1 ≤ free plan attempt s a
    = life_falls (s.state a) to (is_unmarked s a) (is_unmarked t a) (is_interrupted plan s a) (tries_at plan a) (s.attempts a) (attempt a) down in
    omega (arith, before, now, flying, made, state, falls)

-- a state that an atom descends from isn't RETRYING
retrying_stays : (from to : AtomState) → descends from to ≡ true → is_retrying from ≡ true → ⊥
retrying_stays atom.Retrying to down is = cc
retrying_stays from to down is = cc

-- no failure but the atom's own loses its mark
abbrev pub KeepsMarks : Snapshot → Snapshot → ℕ → Type 0
KeepsMarks s t a = (b : ℕ) → b ≢ a → is_failure (s.state b) ≡ true → is_unmarked t b ≡ true → is_unmarked s b ≡ true

-- one atom owes less, and no other more
pub one_falls : (plan : Outline) (attempt : ℕ → ℕ) (s t : Snapshot) (a : ℕ) → a < count plan → t.flow ≡ s.flow → owed_with plan attempt t a + 1 ≤ owed_with plan attempt s a
    → ((b : ℕ) → b ≢ a → owed_with plan attempt t b ≤ owed_with plan attempt s b) → left_with plan attempt t < left_with plan attempt s
one_falls plan attempt s t a below flow falls others =
    let sum : sum_below (count plan) (owed_with plan attempt t) + 1 ≤ sum_below (count plan) (owed_with plan attempt s)
    = sum_falls (count plan) (owed_with plan attempt t) (owed_with plan attempt s) a 1 below (λ b low other. others b other) falls in
    let same : turn t.flow ≡ turn s.flow = ap turn flow in
    omega (arith, sum, same)

-- an entry by which an atom that isn't held descends
pub descent_falls : (plan : Outline) (attempt : ℕ → ℕ) (s t : Snapshot) (a : ℕ) (to : AtomState) → a < count plan → Moves plan s t a to → descends (s.state a) to ≡ true → held plan s a ≡ false
    → KeepsMarks s t a → left_with plan attempt t < left_with plan attempt s
descent_falls plan attempt s t a to below move down isnt marks =
    one_falls plan attempt s t a below move.flow (own_falls plan attempt s t a to move down isnt)
    (λ b other. others_stay plan attempt s t b (move.others b other) (marks b other)
    (stays_held plan s t b (λ r inside retrying. elim (same_or_other r a) [
      | inl same ↦ absurd (retrying_stays (s.state a) to down (ap (λ (n : ℕ). is_retrying (s.state n)) (sym same) ∙ retrying))
      | inr apart ↦ ap is_retrying (move.others r apart).state ∙ retrying
    ])))

put_back_owes : (x : AtomState) → is_put_back x ≡ true → (owed_held x ≡ 1) × (is_retrying x ≡ false)
put_back_owes atom.Reverted is = (refl, refl)
put_back_owes atom.Ignore is = (refl, refl)
put_back_owes x is = absurd (cc)

-- a held atom is put back
pub put_back_falls : (plan : Outline) (attempt : ℕ → ℕ) (s t : Snapshot) (a : ℕ) → a < count plan → Moves plan s t a atom.Pending → is_put_back (s.state a) ≡ true → held plan s a ≡ true
    → KeepsMarks s t a → left_with plan attempt t < left_with plan attempt s
put_back_falls plan attempt s t a below move back was marks =
    let from = put_back_owes (s.state a) back in
    let stays : (r : ℕ) → is_retrying (s.state r) ≡ true → is_retrying (t.state r) ≡ true = λ r retrying. elim (same_or_other r a) [
      | inl same ↦ absurd (clash (is_retrying (s.state a)) (ap (λ (n : ℕ). is_retrying (s.state n)) (sym same) ∙ retrying) from.1)
      | inr apart ↦ ap is_retrying (move.others r apart).state ∙ retrying
    ] in
    let before : owed_with plan attempt s a ≡ owed_held (s.state a) = owed_if_held plan attempt s a was in
    let now : owed_with plan attempt t a ≡ 0 = owed_if_held plan attempt t a (stays_held plan s t a (λ r inside. stays r) was) ∙ ap owed_held move.state in
    one_falls plan attempt s t a below move.flow (omega (arith, before, now, from.0))
    (λ b other. others_stay plan attempt s t b (move.others b other) (marks b other) (stays_held plan s t b (λ r inside. stays r)))
