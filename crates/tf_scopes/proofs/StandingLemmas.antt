-- Where links lead round to no item, each item stands in the standing order of its flow.
use Rattle.std.proofs.Common.{◌≡◌, ℕ, zero, suc, ◌+◌, ◌<◌, ◌≤◌, List, [], ◌∷◌, ◌++◌, Bool, true, false, not, ◌||◌, Option, Some, None, refl, sym, ap, ◌∙◌, ◌⊎◌, inl, inr, arith, eqb-true, eq-eqb}
use Rattle.std.specs.Prelude.{nat_eq, is_some}
use Rattle.std.specs.List.{list_all}
use Rattle.std.proofs.lemmas.Bool.{cases_lt}
use Rattle.tf_numbers.specs.Numbers.{first_below, has_number, Pair, pair, is_pair, has_pair}
use Rattle.tf_numbers.proofs.BelowLemmas.{none_or_last, first_there, found_passes, found_below}
use Rattle.tf_numbers.proofs.TruthLemmas.{true_both, true_first, true_second, and_first, either_way, not_true, clash, or_of_not}
use Rattle.tf_links.specs.Graphs.{is_behind, is_next, take_one, take_items, standing_items}
use Rattle.tf_links.proofs.StandingLemmas.{number_more}

all_pairs : (test : Pair → Bool) (pairs : List Pair) → ((u v : ℕ) → has_pair pairs u v ≡ true → test (pair u v) ≡ true) → list_all test pairs ≡ true
all_pairs test [] each = refl
all_pairs test (p ∷ ps) each =
    true_both (test p) (list_all test ps)
    (each p.first p.second (true_first (is_pair p.first p.second p) (has_pair ps p.first p.second) (true_both (nat_eq p.first p.first) (nat_eq p.second p.second) (eq-eqb p.first p.first refl) (eq-eqb p.second p.second refl))))
    (all_pairs test ps (λ u v on. each u v (true_second (is_pair u v p) (has_pair ps u v) on)))

-- ---- how many are yet to be taken

abbrev weight : Bool → ℕ
weight true = 0
weight false = 1

abbrev untaken : ℕ → List ℕ → ℕ
untaken zero xs = 0
untaken (suc m) xs = weight (has_number xs m) + untaken m xs

weight_or : (b c : Bool) → weight (b || c) ≤ weight b
weight_or true c = omega arith
weight_or false true = omega arith
weight_or false false = omega arith

weight_most : (b : Bool) → weight b ≤ 1
weight_most true = omega arith
weight_most false = omega arith

untaken_most : (m : ℕ) (xs : List ℕ) → untaken m xs ≤ m
untaken_most zero xs = omega arith
untaken_most (suc m) xs = omega (arith, weight_most (has_number xs m), untaken_most m xs)

untaken_kept : (m v : ℕ) (xs : List ℕ) → untaken m (xs ++ v ∷ []) ≤ untaken m xs
untaken_kept zero v xs = omega arith
untaken_kept (suc m) v xs =
    let one = weight_or (has_number xs m) (nat_eq m v) in
    let same : weight (has_number (xs ++ v ∷ []) m) ≡ weight (has_number xs m || nat_eq m v) = ap weight (number_more xs v m) in
    omega (arith, one, same, untaken_kept m v xs)

untaken_less : (m v : ℕ) (xs : List ℕ) → v < m → has_number xs v ≡ false → untaken m (xs ++ v ∷ []) + 1 ≤ untaken m xs
untaken_less zero v xs below off = absurd (omega arith)
untaken_less (suc m) v xs below off = elim (cases_lt v m) [
  | inl sooner ↦
      let one = weight_or (has_number xs m) (nat_eq m v) in
      let same : weight (has_number (xs ++ v ∷ []) m) ≡ weight (has_number xs m || nat_eq m v) = ap weight (number_more xs v m) in
      omega (arith, one, same, untaken_less m v xs sooner off)
  | inr from ↦
      let is : v ≡ m = omega arith in
      let before : weight (has_number xs m) ≡ 1 = ap (λ (k : ℕ). weight (has_number xs k)) (sym is) ∙ ap weight off in
      let after : weight (has_number (xs ++ v ∷ []) m) ≡ 0 = ap weight (number_more xs v m ∙ true_second (has_number xs m) (nat_eq m v) (eq-eqb m v (sym is))) in
      omega (arith, before, after, untaken_kept m v xs)
]

none_untaken : (m v : ℕ) (xs : List ℕ) → untaken m xs ≡ 0 → v < m → has_number xs v ≡ true
none_untaken m v xs none below = elim (either_way (has_number xs v)) [
  | inl on ↦ on
  | inr off ↦ let less = untaken_less m v xs below off in absurd (omega (arith, less, none))
]

-- ---- one after the other is taken

still_taken : (o : Option ℕ) (taken : List ℕ) (v : ℕ) → has_number taken v ≡ true → has_number (take_one o taken) v ≡ true
still_taken None taken v on = on
still_taken (Some w) taken v on = number_more taken w v ∙ true_first (has_number taken v) (nat_eq v w) on

-- at a stage so many were taken, or all
abbrev Stage : ℕ → ℕ → List ℕ → Type 0
Stage n k taken = (untaken n taken + k ≤ n) ⊎ ((v : ℕ) → v < n → has_number taken v ≡ true)

next_stage : (n k : ℕ) (linked : List Pair) (taken : List ℕ) (o : Option ℕ) → first_below n (is_next linked taken) ≡ o → is_some o ≡ true → untaken n taken + k ≤ n → Stage n (suc k) (take_one o taken)
next_stage n k linked taken None is some few = absurd (cc)
next_stage n k linked taken (Some w) is some few =
    let next = found_passes n (is_next linked taken) w is in
    let off = not_true (has_number taken w) (and_first (not (has_number taken w)) (list_all (is_behind taken w) linked) next) in
    let less = untaken_less n w taken (found_below n (is_next linked taken) w is) off in
    inl (omega (arith, less, few))

-- the items are in an order along which the links lead
pub record LeadsOn (n : ℕ) (linked : List Pair) (less : ℕ → ℕ → Bool) : Type 0 where
  pub within : (u v : ℕ) → has_pair linked u v ≡ true → u < n
  pub along : (u v : ℕ) → has_pair linked u v ≡ true → less u v ≡ true
  pub chain : (u v w : ℕ) → less u v ≡ true → less v w ≡ true → less u w ≡ true
  pub strict : (u : ℕ) → less u u ≡ false

-- of those that are yet to be taken a first one is next
first_is_next : (n : ℕ) (linked : List Pair) (less : ℕ → ℕ → Bool) (taken : List ℕ) (c : ℕ) → LeadsOn n linked less → has_number taken c ≡ false → ((b : ℕ) → b < n → not (has_number taken b) ≡ true → less b c ≡ false) → is_next linked taken c ≡ true
first_is_next n linked less taken c is off first =
    true_both (not (has_number taken c)) (list_all (is_behind taken c) linked) (ap not off)
    (all_pairs (is_behind taken c) linked (λ u v on. or_of_not (nat_eq v c) (has_number taken u) (λ same.
    elim (either_way (has_number taken u)) [
      | inl taken_already ↦ taken_already
      | inr yet ↦ absurd (clash (less u c) (ap (less u) (sym (eqb-true v c same)) ∙ is.along u v on) (first u (is.within u v on) (ap not yet)))
    ])))

stage_on : (n k : ℕ) (linked : List Pair) (less : ℕ → ℕ → Bool) (taken : List ℕ) → LeadsOn n linked less → Stage n k taken → Stage n (suc k) (take_one (first_below n (is_next linked taken)) taken)
stage_on n k linked less taken is (inr all) = inr (λ v below. still_taken (first_below n (is_next linked taken)) taken v (all v below))
stage_on n k linked less taken is (inl few) = elim (none_or_last n (λ a b. less b a) (λ v. not (has_number taken v)) (λ a b c ab bc. is.chain c b a bc ab) is.strict) [
  | inl none ↦ inr (λ v below. still_taken (first_below n (is_next linked taken)) taken v (by (has_number taken v) (none v below)))
  | inr last ↦ next_stage n k linked taken (first_below n (is_next linked taken)) refl
      (first_there n (is_next linked taken) last.number last.below
      (first_is_next n linked less taken last.number is (not_true (has_number taken last.number) last.passes) last.last)) few
]
  where
    by : (b : Bool) → not b ≡ false → b ≡ true
    by true is = refl
    by false is = absurd (cc)

stages : (n k : ℕ) (linked : List Pair) (less : ℕ → ℕ → Bool) → LeadsOn n linked less → Stage n k (take_items n k linked)
stages n zero linked less is = inl (omega (arith, untaken_most n []))
stages n (suc k) linked less is = stage_on n k linked less (take_items n k linked) is (stages n k linked less is)

pub each_stands : (n : ℕ) (linked : List Pair) (less : ℕ → ℕ → Bool) (v : ℕ) → LeadsOn n linked less → v < n → has_number (standing_items n linked) v ≡ true
each_stands n linked less v is below = elim (stages n n linked less is) [
  | inl few ↦ none_untaken n v (standing_items n linked) (omega (arith, few)) below
  | inr all ↦ all v below
]
