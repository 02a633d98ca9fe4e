-- The best candidate, found in one pass over the atoms.
use Rattle.std.proofs.Common.{◌≡◌, ◌≢◌, ℕ, ℤ, zero, suc, ◌<◌, ◌≤◌, Bool, true, false, not, ◌&&◌, Option, Some, None, refl, sym, ap, ◌∙◌, inl, inr, arith}
use Rattle.std.specs.Prelude.{if◌then◌else◌, is_none, is_some, option_map, int_lt}
use Rattle.std.proofs.lemmas.Bool.{cases_lt}
use Rattle.tf_states.specs.declared.record.What.{What}
use Rattle.tf_states.specs.declared.state.AtomState.{AtomState}
use Rattle.tf_states.specs.declared.state.AtomState.TheVariants as atom
use Rattle.tf_numbers.specs.Numbers.{first_below}
use Rattle.tf_model.specs.Plan.{Outline, count, is_task}
use Rattle.tf_model.specs.History.{Snapshot}
use Rattle.tf_model.specs.Forced.{forced, forced_if_running, is_active, priority, is_candidate, outranks, is_best, taken_up, candidate_entry, candidate_if_running, choice}
use Rattle.tf_numbers.proofs.TruthLemmas.{and_first, true_both, first_false, second_false}
use Rattle.tf_hands.proofs.FitLemmas.{candidate_task}
use Rattle.tf_machine.specs.Best.{outranked, best_below, is_start}
use Rattle.tf_links.specs.Bits.{has}
use Rattle.tf_machine.specs.declared.worklists.Worklist.{Worklist}
use Rattle.tf_machine.specs.Worklists.{IsListed}
use Rattle.std.proofs.lemmas.Int.{ints}
use Rattle.tf_numbers.proofs.BelowLemmas.{found_passes, first_found, first_none, any_of, never_any}

-- the best so far, by what it means: a candidate that no candidate so far outranks, and that outranks
-- all before it
abbrev IsBestSoFar : Outline → Snapshot → ℕ → Option ℕ → Type 0
IsBestSoFar plan s n None = (b : ℕ) → b < n → is_candidate plan s b ≡ false
IsBestSoFar plan s n (Some a) = (a < n) × (is_candidate plan s a ≡ true)
    × ((b : ℕ) → b < n → is_candidate plan s b ≡ true → int_lt (priority plan a) (priority plan b) ≡ false)
    × ((b : ℕ) → b < a → is_candidate plan s b ≡ true → int_lt (priority plan b) (priority plan a) ≡ true)

-- ---- numbers

not_over : (x y z : ℤ) → int_lt x z ≡ false → int_lt x y ≡ true → int_lt y z ≡ false
not_over x y z first second = grind (arith, ints)

is_over : (x y z : ℤ) → int_lt x z ≡ false → int_lt x y ≡ true → int_lt z y ≡ true
is_over x y z first second = grind (arith, ints)

not_self : (x : ℤ) → int_lt x x ≡ false
not_self x = grind (arith, ints)

-- ---- the best so far

-- one atom more, by whether it outranks the best so far and whether it is a candidate
one_more : (plan : Outline) (s : Snapshot) (n : ℕ) (o : Option ℕ) → IsBestSoFar plan s n o → (x y : Bool) → outranked plan o n ≡ x → is_candidate plan s n ≡ y → IsBestSoFar plan s (suc n) (if x && y then Some n else o)
one_more plan s n None each true true over is = (
  omega arith,
  is,
  λ b below candidate. elim (cases_lt b n) [ inl before ↦ let fails = each b before in absurd (cc) | inr from ↦ let same : n ≡ b = omega arith in ap (λ (k : ℕ). int_lt (priority plan n) (priority plan k)) (sym same) ∙ not_self (priority plan n) ],
  λ b below candidate. let fails = each b below in absurd (cc),
)
one_more plan s n None each true false over is = λ b below. elim (cases_lt b n) [ inl before ↦ each b before | inr from ↦ let same : b ≡ n = omega arith in ap (is_candidate plan s) same ∙ is ]
one_more plan s n None each false y over is = absurd (cc)
one_more plan s n (Some a) (below_n, candidate_a, none_over, over_first) true true over is = (
  omega arith,
  is,
  λ b below candidate. elim (cases_lt b n) [
    | inl before ↦ not_over (priority plan a) (priority plan n) (priority plan b) (none_over b before candidate) over
    | inr from ↦ let same : n ≡ b = omega arith in ap (λ (k : ℕ). int_lt (priority plan n) (priority plan k)) (sym same) ∙ not_self (priority plan n)
  ],
  λ b below candidate. is_over (priority plan a) (priority plan n) (priority plan b) (none_over b below candidate) over,
)
one_more plan s n (Some a) (below_n, candidate_a, none_over, over_first) true false over is = (
  omega arith,
  candidate_a,
  λ b below candidate. elim (cases_lt b n) [
    | inl before ↦ none_over b before candidate
    | inr from ↦ let same : b ≡ n = omega arith in let fails : is_candidate plan s b ≡ false = ap (is_candidate plan s) same ∙ is in absurd (cc)
  ],
  over_first,
)
one_more plan s n (Some a) (below_n, candidate_a, none_over, over_first) false y over is = (
  omega arith,
  candidate_a,
  λ b below candidate. elim (cases_lt b n) [
    | inl before ↦ none_over b before candidate
    | inr from ↦ let same : b ≡ n = omega arith in ap (λ (k : ℕ). int_lt (priority plan a) (priority plan k)) same ∙ over
  ],
  over_first,
)

best_so_far : (plan : Outline) (s : Snapshot) (n : ℕ) → IsBestSoFar plan s n (best_below plan s n)
best_so_far plan s zero = λ b below. absurd (omega arith)
best_so_far plan s (suc n) = one_more plan s n (best_below plan s n) (best_so_far plan s n) (outranked plan (best_below plan s n) n) (is_candidate plan s n) refl refl

-- ---- it is the first of the best

not_second : (x y : Bool) → (x ≡ true → y ≡ false) → (x && y) ≡ false
not_second true y is = is refl
not_second false y is = refl

-- what a candidate outranks isn't best
outranked_by : (plan : Outline) (s : Snapshot) (a b : ℕ) → a < count plan → is_candidate plan s a ≡ true → int_lt (priority plan b) (priority plan a) ≡ true → is_best plan s b ≡ false
outranked_by plan s a b below candidate over =
    not_second (is_candidate plan s b) _ (λ is. ap not (any_of (count plan) (outranks plan s b) a below (true_both (is_candidate plan s a) _ candidate over)))

first_by : (plan : Outline) (s : Snapshot) (o : Option ℕ) → IsBestSoFar plan s (count plan) o → o ≡ first_below (count plan) (is_best plan s)
first_by plan s None each = sym (first_none (count plan) (is_best plan s) (λ k below. first_false (is_candidate plan s k) _ (each k below)))
first_by plan s (Some a) (below, candidate_a, none_over, over_first) =
    sym (first_found (count plan) (is_best plan s) a
    (first_none a (is_best plan s) (λ b before. not_first_by b before (is_candidate plan s b) refl))
    (true_both (is_candidate plan s a) _ candidate_a (ap not (never_any (count plan) (outranks plan s a) (λ b within. not_second (is_candidate plan s b) _ (λ is. none_over b within is)))))
    below)
  where
    not_first_by : (b : ℕ) → b < a → (x : Bool) → is_candidate plan s b ≡ x → is_best plan s b ≡ false
    not_first_by b before true is = outranked_by plan s a b below candidate_a (over_first b before is)
    not_first_by b before false is = first_false (is_candidate plan s b) _ is

pub best_is : (plan : Outline) (s : Snapshot) (n : ℕ) → n ≡ count plan → best_below plan s n ≡ first_below (count plan) (is_best plan s)
best_is plan s n all = ap (best_below plan s) all ∙ first_by plan s (best_below plan s (count plan)) (best_so_far plan s (count plan))

-- none of those that aren't listed
pub none_best : (plan : Outline) (s : Snapshot) (list : Worklist) (n : ℕ) → IsListed plan s list → n ≤ count plan → ((a : ℕ) → a < n → has list.ready a ≡ false) → None ≡ best_below plan s n
none_best plan s list zero listed within before = refl
none_best plan s list (suc n) listed within before =
    none_best plan s list n listed (omega (arith, within)) (λ a below. before a (omega (arith, below)))
    ∙ sym (ap (λ (b : Bool). if b then Some n else best_below plan s n) (second_false (outranked plan (best_below plan s n) n) _ ((listed.each n (omega (arith, within))).ready (before n (omega arith)))))

-- one that nobody outranks stays the best
best_stays : (plan : Outline) (s : Snapshot) (a n : ℕ) → n ≤ count plan → ((b : ℕ) → b < count plan → int_lt (priority plan a) (priority plan b) ≡ false) → (k : ℕ) → k ≤ n → best_below plan s k ≡ Some a → best_below plan s n ≡ Some a
best_stays plan s a zero within none k most is = let same : k ≡ 0 = omega (arith, most) in ap (best_below plan s) (sym same) ∙ is
best_stays plan s a (suc n) within none k most is = elim (cases_lt k (suc n)) [
  | inl below ↦
      let before : best_below plan s n ≡ Some a = best_stays plan s a n (omega (arith, within)) none k (omega (arith, below)) is in
      ap (λ (o : Option ℕ). if outranked plan o n && is_candidate plan s n then Some n else o) before
      ∙ ap (λ (b : Bool). if b && is_candidate plan s n then Some n else Some a) (none n (omega (arith, within)))
  | inr from ↦ let same : k ≡ suc n = omega (arith, most, from) in ap (best_below plan s) (sym same) ∙ is
]

pub top_best : (plan : Outline) (s : Snapshot) (a : ℕ) (before : Option ℕ) → before ≡ best_below plan s a → outranked plan before a ≡ true → is_candidate plan s a ≡ true → a < count plan
    → ((b : ℕ) → b < count plan → int_lt (priority plan a) (priority plan b) ≡ false) → Some a ≡ first_below (count plan) (is_best plan s)
top_best plan s a before is over candidate below none =
    sym (best_stays plan s a (count plan) (omega arith) none (suc a) (omega (arith, below))
    (ap (λ (b : Bool). if b then Some a else best_below plan s a) (true_both (outranked plan (best_below plan s a) a) _ (ap (λ (o : Option ℕ). outranked plan o a) (sym is) ∙ over) candidate)))
    ∙ best_is plan s (count plan) refl

-- ---- the choice

pub choice_none : (plan : Outline) (s : Snapshot) → is_active plan s ≡ false → None ≡ choice plan s
unfolding choice
choice_none plan s is = ap (λ (b : Bool). if b && is_none (forced plan s) then candidate_if_running plan s else None) (sym is)

choice_by : (plan : Outline) (s : Snapshot) → is_active plan s ≡ true → choice plan s ≡ (if is_none (forced_if_running plan s) then option_map (candidate_entry s) (first_below (count plan) (is_best plan s)) else None)
unfolding choice forced candidate_if_running
choice_by plan s active = rw (active) refl

pub choice_forced : (plan : Outline) (s : Snapshot) → is_active plan s ≡ true → is_some (forced_if_running plan s) ≡ true → None ≡ choice plan s
choice_forced plan s active is = sym (choice_by plan s active ∙ ap (λ (b : Bool). if not b then option_map (candidate_entry s) (first_below (count plan) (is_best plan s)) else None) is)

pub choice_found : (plan : Outline) (s : Snapshot) (o : Option ℕ) → is_active plan s ≡ true → is_some (forced_if_running plan s) ≡ false → o ≡ first_below (count plan) (is_best plan s)
    → option_map (candidate_entry s) o ≡ choice plan s
choice_found plan s o active calm is = sym (choice_by plan s active ∙ (ap (λ (b : Bool). if not b then option_map (candidate_entry s) (first_below (count plan) (is_best plan s)) else None) calm ∙ ap (option_map (candidate_entry s)) (sym is)))

-- an entry that takes nothing up isn't chosen
taken_starts : (state : AtomState) (a : ℕ) → is_start (taken_up state a) ≡ true
taken_starts atom.Pending a = refl
taken_starts atom.Running a = refl
taken_starts atom.Success a = refl
taken_starts atom.Failure a = refl
taken_starts atom.Reverting a = refl
taken_starts atom.Reverted a = refl
taken_starts atom.RevertFailure a = refl
taken_starts atom.Ignore a = refl
taken_starts atom.Retrying a = refl

chosen_starts : (s : Snapshot) (b : Bool) (o : Option ℕ) (w : What) → (if b then option_map (candidate_entry s) o else None) ≡ Some w → is_start w ≡ true
chosen_starts s true None w is = absurd (cc)
chosen_starts s true (Some a) w is = let same : candidate_entry s a ≡ w = cc in ap is_start (sym same) ∙ taken_starts (s.state a) a
chosen_starts s false o w is = absurd (cc)

pub never_chosen : (plan : Outline) (s : Snapshot) (w : What) → is_start w ≡ false → choice plan s ≢ Some w
unfolding choice candidate_if_running
never_chosen plan s w is chosen =
    let starts = chosen_starts s (is_active plan s && is_none (forced plan s)) (first_below (count plan) (is_best plan s)) w chosen in absurd (cc)

-- the best candidate is a task
pub best_task : (plan : Outline) (s : Snapshot) (a : ℕ) → Some a ≡ first_below (count plan) (is_best plan s) → is_task plan a ≡ true
best_task plan s a is = candidate_task plan s a (and_first (is_candidate plan s a) _ (found_passes (count plan) (is_best plan s) a (sym is)))
