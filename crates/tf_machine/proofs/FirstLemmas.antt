-- The first case that applies, found in one pass over the atoms.
use Rattle.std.proofs.Common.{◌≡◌, ℕ, zero, suc, ◌+◌, ◌<◌, ◌≤◌, drop, add-one, Bool, true, false, ◌&&◌, Option, Some, None, refl, sym, ap, ◌∙◌, subst, inl, inr, arith}
use Rattle.std.specs.Prelude.{if◌then◌else◌, nat_lt}
use Rattle.std.proofs.lemmas.Bool.{cases_lt, ltb-true, ltb-false}
use Rattle.tf_machine.specs.declared.cases.Case.{Case}
use Rattle.tf_machine.specs.declared.cases.Case.TheVariants as case
use Rattle.tf_machine.specs.declared.cases.Placed.{Placed}
use Rattle.tf_numbers.proofs.BelowLemmas.{first_is, first_none}
use Rattle.tf_numbers.proofs.TruthLemmas.{first_false}
use Rattle.tf_model.specs.Plan.{Outline, count, is_retry}
use Rattle.tf_model.specs.History.{Snapshot, is_failure, is_success}
use Rattle.tf_model.specs.Forced.{forced_if_running, is_refused}
use Rattle.tf_machine.specs.Cases.{applies, entry_in, entry_among, cases, case_of, IsCaseAt, sooner}
use Rattle.tf_links.specs.Bits.{has}
use Rattle.tf_machine.specs.declared.worklists.Worklist.{Worklist}
use Rattle.tf_machine.specs.Worklists.{IsListed}
use Rattle.tf_machine.proofs.CaseLemmas.{all_cases, case_here, case_next, no_case}

-- ---- the cases of an atom

-- a task that is neither FAILURE nor refused is in no case
pub no_case_at : (plan : Outline) (s : Snapshot) (a : ℕ) → is_retry plan a ≡ false → is_failure (s.state a) ≡ false → is_refused plan s a ≡ false → (k : Case) → applies plan s k a ≡ false
no_case_at plan s a task lives allowed case.Attempt = first_false (is_retry plan a) _ task
no_case_at plan s a task lives allowed case.Again = first_false (is_retry plan a) _ task
no_case_at plan s a task lives allowed case.Reverted = first_false (is_retry plan a) _ task
no_case_at plan s a task lives allowed case.Resolution = first_false (is_failure (s.state a)) _ lives
no_case_at plan s a task lives allowed case.Retrying = first_false (is_retry plan a && is_success (s.state a)) _ (first_false (is_retry plan a) _ task)
no_case_at plan s a task lives allowed case.Revert = first_false (is_retry plan a) _ task
no_case_at plan s a task lives allowed case.Ignore = allowed
no_case_at plan s a task lives allowed case.Run = first_false (is_retry plan a) _ task

-- ---- the first case so far

-- the first of the cases that apply to atoms below n, and the first of these atoms
abbrev pub IsFirstBelow : Outline → Snapshot → ℕ → Option Placed → Type 0
IsFirstBelow plan s n None = (j a : ℕ) → j < 8 → a < n → applies plan s (case_of j) a ≡ false
IsFirstBelow plan s n (Some found) = (found.atom < n) × (found.place < 8) × (applies plan s (case_of found.place) found.atom ≡ true)
    × ((a : ℕ) → a < found.atom → applies plan s (case_of found.place) a ≡ false)
    × ((j a : ℕ) → j < found.place → a < n → applies plan s (case_of j) a ≡ false)

-- none applies to those that aren't listed
pub none_yet : (plan : Outline) (s : Snapshot) (list : Worklist) (n : ℕ) → IsListed plan s list → n ≤ count plan → ((a : ℕ) → a < n → has list.forcing a ≡ false) → IsFirstBelow plan s n None
none_yet plan s list n listed within before = λ j a place below. (listed.each a (omega (arith, within, below))).cases (before a below) (case_of j)

-- what fails below n and at n fails below the next number
fails_further : (test : ℕ → Bool) (n : ℕ) → ((a : ℕ) → a < n → test a ≡ false) → test n ≡ false → (a : ℕ) → a < suc n → test a ≡ false
fails_further test n each last a below = elim (cases_lt a n) [
  | inl before ↦ each a before
  | inr from ↦ let same : a ≡ n = omega (arith, below, from) in ap test same ∙ last
]

sooner_by : (plan : Outline) (s : Snapshot) (n k : ℕ) (found : Placed) (x : Bool) → nat_lt k found.place ≡ x → IsFirstBelow plan s n (Some found) → IsCaseAt plan s n (Some k)
    → IsFirstBelow plan s (suc n) (if x then Some (record { place = k; atom = n }) else Some found)
sooner_by plan s n k found true less (within, placed, passes, none_before, no_sooner) (place, here, others) =
    let lower : k < found.place = ltb-true k found.place less in (
      omega arith,
      place,
      here,
      λ a below. no_sooner k a lower below,
      λ j a earlier. fails_further (applies plan s (case_of j)) n (λ b before. no_sooner j b (omega (arith, earlier, lower)) before) (others j earlier) a,
    )
sooner_by plan s n k found false less (within, placed, passes, none_before, no_sooner) (place, here, others) =
    let lower : found.place ≤ k = ltb-false k found.place less in (
      omega (arith, within),
      placed,
      passes,
      none_before,
      λ j a earlier. fails_further (applies plan s (case_of j)) n (λ b before. no_sooner j b earlier before) (others j (omega (arith, earlier, lower))) a,
    )

-- one atom more
pub next_first : (plan : Outline) (s : Snapshot) (n : ℕ) (found : Option Placed) (next : Option ℕ) → IsFirstBelow plan s n found → IsCaseAt plan s n next → IsFirstBelow plan s (n + 1) (sooner found next n)
next_first plan s n found next first is = subst (λ (m : ℕ). IsFirstBelow plan s m (sooner found next n)) (sym (add-one n)) (by found next first is)
  where
    by : (o : Option Placed) (p : Option ℕ) → IsFirstBelow plan s n o → IsCaseAt plan s n p → IsFirstBelow plan s (suc n) (sooner o p n)
    by None None each none = λ j a place. fails_further (applies plan s (case_of j)) n (λ b before. each j b place before) (none j place) a
    by None (Some k) each (place, here, others) = (
      omega arith,
      place,
      here,
      λ a below. each k a place below,
      λ j a earlier. fails_further (applies plan s (case_of j)) n (λ b before. each j b (omega (arith, earlier, place)) before) (others j earlier) a,
    )
    by (Some f) None (within, placed, passes, none_before, no_sooner) none = (
      omega (arith, within),
      placed,
      passes,
      none_before,
      λ j a earlier. fails_further (applies plan s (case_of j)) n (λ b before. no_sooner j b earlier before) (none j (omega (arith, earlier, placed))) a,
    )
    by (Some f) (Some k) old new = sooner_by plan s n k f (nat_lt k f.place) refl old new

-- those that aren't listed are passed by
pub skipped_first : (plan : Outline) (s : Snapshot) (list : Worklist) (n m : ℕ) (found : Option Placed) → IsListed plan s list → n ≤ m → m ≤ count plan → ((a : ℕ) → n ≤ a → a < m → has list.forcing a ≡ false)
    → IsFirstBelow plan s n found → IsFirstBelow plan s m found
skipped_first plan s list n m found listed from within none first = by found first
  where
    further : (j a : ℕ) → a < m → (a < n → applies plan s (case_of j) a ≡ false) → applies plan s (case_of j) a ≡ false
    further j a below before = elim (cases_lt a n) [
      | inl less ↦ before less
      | inr past ↦ (listed.each a (omega (arith, below, within))).cases (none a past below) (case_of j)
    ]

    by : (o : Option Placed) → IsFirstBelow plan s n o → IsFirstBelow plan s m o
    by None each = λ j a place below. further j a below (each j a place)
    by (Some f) (before, placed, passes, none_before, no_sooner) = (omega (arith, before, from), placed, passes, none_before, λ j a earlier below. further j a below (no_sooner j a earlier))

-- ---- it is what is forced

-- where the cases before a place apply to no atom
reaches : (plan : Outline) (s : Snapshot) (k : ℕ) → k ≤ 8 → ((j a : ℕ) → j < k → a < count plan → applies plan s (case_of j) a ≡ false) → entry_among plan s (drop k cases) ≡ forced_if_running plan s
reaches plan s zero within each = all_cases plan s
reaches plan s (suc k) within each =
    ap (λ (n : ℕ). entry_among plan s (drop n cases)) (sym (add-one k))
    ∙ case_next plan s k case.Attempt (omega (arith, within)) (reaches plan s k (omega (arith, within)) (λ j a earlier. each j a (omega (arith, earlier))))
    (first_none (count plan) (applies plan s (case_of k)) (λ a below. each k a (omega arith) below))

pub first_forced : (plan : Outline) (s : Snapshot) (n : ℕ) (found : Placed) → n ≡ count plan → IsFirstBelow plan s n (Some found) → Some (entry_in plan s (case_of found.place) found.atom) ≡ forced_if_running plan s
first_forced plan s n found all first = by (subst (λ (m : ℕ). IsFirstBelow plan s m (Some found)) all first)
  where
    by : IsFirstBelow plan s (count plan) (Some found) → Some (entry_in plan s (case_of found.place) found.atom) ≡ forced_if_running plan s
    by (within, placed, passes, none_before, no_sooner) =
        case_here plan s found.place case.Attempt found.atom placed (reaches plan s found.place (omega (arith, placed)) no_sooner)
        (first_is (count plan) (applies plan s (case_of found.place)) found.atom within passes none_before)

pub first_within : (plan : Outline) (s : Snapshot) (n : ℕ) (found : Placed) → n ≡ count plan → IsFirstBelow plan s n (Some found) → found.atom < count plan
first_within plan s n found all first = subst (λ (m : ℕ). found.atom < m) all first.0

pub none_forced : (plan : Outline) (s : Snapshot) (n : ℕ) → n ≡ count plan → IsFirstBelow plan s n None → None ≡ forced_if_running plan s
none_forced plan s n all first = no_case plan s 8 (omega arith) (reaches plan s 8 (omega arith) (λ j a place below. first j a place (subst (λ (m : ℕ). a < m) (sym all) below)))
