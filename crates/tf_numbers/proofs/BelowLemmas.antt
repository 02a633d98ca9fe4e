-- Tests of the numbers below a count.
use Rattle.std.proofs.Common.{◌≡◌, ℕ, zero, suc, ◌<◌, ◌≤◌, [], ◌∷◌, Bool, true, false, not, ◌&&◌, ◌||◌, Option, Some, None, refl, sym, ap, ◌∙◌, ◌⊎◌, inl, inr, arith}
use Rattle.std.specs.Prelude.{is_some, if◌then◌else◌}
use Rattle.std.specs.List.{list_all}
use Rattle.std.specs.Option.{option_or}
use Rattle.std.proofs.lemmas.Bool.{cases_lt}
use Rattle.std.proofs.lemmas.List.Folds.{list_all-append}
use Rattle.tf_numbers.specs.Numbers.{all_below, any_below, first_below, which_below}
use Rattle.tf_numbers.proofs.TruthLemmas.{clash, either_way, true_both, and_first, and_second, first_false, second_false, and_true, true_first, true_second, or_either, neither}
use Rattle.tf_numbers.proofs.OptionLemmas.{or_none}
use Rattle.tf_numbers.proofs.ListLemmas.{nothing_after}

-- ---- all of them

-- one number below n, where the test passes at each
pub all_at : (n : ℕ) (test : ℕ → Bool) (k : ℕ) → all_below n test ≡ true → k < n → test k ≡ true
all_at zero test k is below = absurd (omega arith)
all_at (suc n) test k is below = elim (cases_lt k n) [
  | inl before ↦ all_at n test k (and_first (all_below n test) (test n) is) before
  | inr from ↦ let same : k ≡ n = omega arith in ap test same ∙ and_second (all_below n test) (test n) is
]

pub all_of : (n : ℕ) (test : ℕ → Bool) → ((k : ℕ) → k < n → test k ≡ true) → all_below n test ≡ true
all_of zero test each = refl
all_of (suc n) test each = true_both (all_below n test) (test n) (all_of n test (λ k below. each k (omega (arith, below)))) (each n (omega arith))

pub all_same : (n : ℕ) (p q : ℕ → Bool) → ((k : ℕ) → k < n → p k ≡ q k) → all_below n p ≡ all_below n q
all_same zero p q each = refl
all_same (suc n) p q each = rw (all_same n p q (λ k below. each k (omega arith)), each n (omega arith)) refl

-- where all past n pass, it is the same below any greater count
pub all_more : (n m : ℕ) (test : ℕ → Bool) → n ≤ m → ((k : ℕ) → n ≤ k → k < m → test k ≡ true) → all_below m test ≡ all_below n test
all_more n zero test less past = let same : n ≡ 0 = omega arith in rw same refl
all_more n (suc m) test less past = elim (cases_lt m n) [
  | inl last ↦ let same : suc m ≡ n = omega arith in ap (λ (k : ℕ). all_below k test) same
  | inr from ↦ rw (all_more n m test from (λ k above below. past k above (omega arith)), past m from (omega arith)) (and_true (all_below n test))
]

-- one number more that passes
pub still_all : (test : ℕ → Bool) (k : ℕ) → all_below k test ≡ true → test k ≡ true → all_below (suc k) test ≡ true
still_all test k all is = true_both (all_below k test) (test k) all is

-- where not all pass, one fails
pub record Fails (n : ℕ) (test : ℕ → Bool) : Type 0 where
  pub number : ℕ
  pub below : number < n
  pub fails : test number ≡ false

pub not_all : (n : ℕ) (test : ℕ → Bool) → all_below n test ≡ false → Fails n test
not_all zero test is = absurd (cc)
not_all (suc n) test is = elim (either_way (test n)) [
  | inr fails ↦ record { number = n; below = omega arith; fails = fails }
  | inl passes ↦ elim (either_way (all_below n test)) [
    | inl all ↦ absurd (clash (all_below n test && test n) (true_both (all_below n test) (test n) all passes) is)
    | inr not ↦ let found = not_all n test not in record { number = found.number; below = omega (arith, found.below); fails = found.fails }
  ]
]

-- where it doesn't pass at one number below n, it doesn't at each
pub not_each : (n : ℕ) (test : ℕ → Bool) (k : ℕ) → k < n → test k ≡ false → all_below n test ≡ false
not_each zero test k below fails = absurd (omega arith)
not_each (suc n) test k below fails = elim (cases_lt k n) [
  | inl before ↦ first_false (all_below n test) (test n) (not_each n test k before fails)
  | inr from ↦ let same : k ≡ n = omega arith in second_false (all_below n test) (test n) (ap test (sym same) ∙ fails)
]

-- ---- one of them

-- a number below n that passes
pub record Below (n : ℕ) (test : ℕ → Bool) : Type 0 where
  pub number : ℕ
  pub below : number < n
  pub passes : test number ≡ true

pub any_at : (n : ℕ) (test : ℕ → Bool) → any_below n test ≡ true → Below n test
any_at zero test is = absurd (cc)
any_at (suc n) test is = elim (or_either (any_below n test) (test n) is) [
  | inl before ↦ let found = any_at n test before in record { number = found.number; below = omega (arith, found.below); passes = found.passes }
  | inr here ↦ record { number = n; below = omega arith; passes = here }
]

pub any_of : (n : ℕ) (test : ℕ → Bool) (k : ℕ) → k < n → test k ≡ true → any_below n test ≡ true
any_of zero test k below is = absurd (omega arith)
any_of (suc n) test k below is = elim (cases_lt k n) [
  | inl before ↦ true_first (any_below n test) (test n) (any_of n test k before is)
  | inr from ↦ let same : k ≡ n = omega arith in true_second (any_below n test) (test n) (ap test (sym same) ∙ is)
]

pub any_same : (n : ℕ) (p q : ℕ → Bool) → ((k : ℕ) → k < n → p k ≡ q k) → any_below n p ≡ any_below n q
any_same zero p q each = refl
any_same (suc n) p q each = rw (any_same n p q (λ k below. each k (omega arith)), each n (omega arith)) refl

-- it passes at none
pub never_any : (n : ℕ) (test : ℕ → Bool) → ((k : ℕ) → k < n → test k ≡ false) → any_below n test ≡ false
never_any zero test each = refl
never_any (suc n) test each = neither (any_below n test) (test n) (never_any n test (λ k below. each k (omega (arith, below)))) (each n (omega arith))

-- ---- the least of them

-- the least number that passes, passes
first_of : (n k : ℕ) (test : ℕ → Bool) (o : Option ℕ) → (o ≡ Some k → test k ≡ true) → (b : Bool) → test n ≡ b → option_or o (if b then Some n else None) ≡ Some k → test k ≡ true
first_of n k test (Some x) before b was is = before is
first_of n k test None before true was is = let same : n ≡ k = cc in ap test (sym same) ∙ was
first_of n k test None before false was is = absurd (cc)

pub found_passes : (n : ℕ) (test : ℕ → Bool) (k : ℕ) → first_below n test ≡ Some k → test k ≡ true
found_passes zero test k is = absurd (cc)
found_passes (suc n) test k is = first_of n k test (first_below n test) (found_passes n test k) (test n) refl is

-- and is below the count
found_more : (n : ℕ) (b : Bool) (a : ℕ) (o : Option ℕ) → (o ≡ Some a → a < n) → option_or o (if b then Some n else None) ≡ Some a → a < suc n
found_more n b a (Some c) before is = let earlier : a < n = before is in omega (arith, earlier)
found_more n true a None before is = let same : n ≡ a = cc in omega (arith, same)
found_more n false a None before is = absurd (cc)

pub found_below : (n : ℕ) (test : ℕ → Bool) (a : ℕ) → first_below n test ≡ Some a → a < n
found_below zero test a is = absurd (cc)
found_below (suc n) test a is = found_more n (test n) a (first_below n test) (found_below n test a) is

pub first_there : (n : ℕ) (test : ℕ → Bool) (k : ℕ) → k < n → test k ≡ true → is_some (first_below n test) ≡ true
first_there zero test k below is = absurd (omega arith)
first_there (suc n) test k below is = elim (cases_lt k n) [
  | inl before ↦ left (first_below n test) _ (first_there n test k before is)
  | inr from ↦ let same : k ≡ n = omega arith in right (first_below n test) (test n) n (ap test (sym same) ∙ is)
]
  where
    left : (o p : Option ℕ) → is_some o ≡ true → is_some (option_or o p) ≡ true
    left (Some x) p is = refl
    left None p is = absurd (cc)

    right : (o : Option ℕ) (b : Bool) (n : ℕ) → b ≡ true → is_some (option_or o (if b then Some n else None)) ≡ true
    right (Some x) b n is = refl
    right None true n is = refl
    right None false n is = absurd (cc)

none_before : (n : ℕ) (b : Bool) (o : Option ℕ) → option_or o (if b then Some n else None) ≡ None → (o ≡ None) × (b ≡ false)
none_before n b (Some c) is = absurd (cc)
none_before n true None is = absurd (cc)
none_before n false None is = (refl, refl)

pub none_at : (n : ℕ) (test : ℕ → Bool) (k : ℕ) → first_below n test ≡ None → k < n → test k ≡ false
none_at zero test k is below = absurd (omega arith)
none_at (suc n) test k is below =
    let parts = none_before n (test n) (first_below n test) is in
    elim (cases_lt k n) [
      | inl before ↦ none_at n test k parts.0 before
      | inr from ↦ let same : k ≡ n = omega arith in ap test same ∙ parts.1
    ]

pub first_none : (n : ℕ) (test : ℕ → Bool) → ((k : ℕ) → k < n → test k ≡ false) → first_below n test ≡ None
first_none zero test each = refl
first_none (suc n) test each = rw (first_none n test (λ k below. each k (omega arith)), each n (omega arith)) refl

-- none is found where the test never passes
pub never_first : (n : ℕ) (test : ℕ → Bool) → ((k : ℕ) → test k ≡ false) → first_below n test ≡ None
never_first n test each = first_none n test (λ k below. each k)

pub first_is : (n : ℕ) (test : ℕ → Bool) (k : ℕ) → k < n → test k ≡ true → ((j : ℕ) → j < k → test j ≡ false) → first_below n test ≡ Some k
first_is zero test k below is before = absurd (omega arith)
first_is (suc n) test k below is before = elim (cases_lt k n) [
  | inl earlier ↦ rw (first_is n test k earlier is before) refl
  | inr from ↦ let same : k ≡ n = omega arith in
      rw (first_none n test (λ j less. before j (omega arith)), sym same, is) refl
]

pub first_same : (n : ℕ) (p q : ℕ → Bool) → ((k : ℕ) → k < n → p k ≡ q k) → first_below n p ≡ first_below n q
first_same zero p q each = refl
first_same (suc n) p q each = rw (first_same n p q (λ k below. each k (omega arith)), each n (omega arith)) refl

-- where none past n passes, it is the same below any greater count
pub first_more : (n m : ℕ) (test : ℕ → Bool) → n ≤ m → ((k : ℕ) → n ≤ k → k < m → test k ≡ false) → first_below m test ≡ first_below n test
first_more n zero test less past = let same : n ≡ 0 = omega arith in rw same refl
first_more n (suc m) test less past = elim (cases_lt m n) [
  | inl last ↦ let same : suc m ≡ n = omega arith in ap (λ (k : ℕ). first_below k test) same
  | inr from ↦ rw (first_more n m test from (λ k above below. past k above (omega arith)), past m from (omega arith)) (or_none (first_below n test))
]

-- before the least number that passes none passes
before_of : (n : ℕ) (test : ℕ → Bool) (k j : ℕ) (o : Option ℕ) → first_below n test ≡ o → (o ≡ Some k → test j ≡ false) → (b : Bool) → option_or o (if b then Some n else None) ≡ Some k → (o ≡ None → j < n → test j ≡ false) → j < k → test j ≡ false
before_of n test k j (Some x) was earlier b is none less = earlier is
before_of n test k j None was earlier true is none less = let same : n ≡ k = cc in none refl (omega (arith, same, less))
before_of n test k j None was earlier false is none less = absurd (cc)

pub first_before : (n : ℕ) (test : ℕ → Bool) (k j : ℕ) → first_below n test ≡ Some k → j < k → test j ≡ false
first_before zero test k j is less = absurd (cc)
first_before (suc n) test k j is less = before_of n test k j (first_below n test) refl (λ found. first_before n test k j found less) (test n) is (λ none below. none_at n test j none below) less

-- no number below k passes, and k does, and is below n
at_last : (test : ℕ → Bool) (k n : ℕ) → k ≡ n → first_below k test ≡ None → test k ≡ true → first_below (suc n) test ≡ Some k
at_last test k n same none is =
    ap (λ (m : ℕ). option_or (first_below m test) (if test m then Some m else None)) (sym same)
    ∙ (ap (λ (o : Option ℕ). option_or o (if test k then Some k else None)) none ∙ ap (λ (b : Bool). if b then Some k else None) is)

pub first_found : (n : ℕ) (test : ℕ → Bool) (k : ℕ) → first_below k test ≡ None → test k ≡ true → k < n → first_below n test ≡ Some k
first_found zero test k none is below = absurd (omega arith)
first_found (suc n) test k none is below = elim (cases_lt k n) [
  | inl before ↦ ap (λ (o : Option ℕ). option_or o (if test n then Some n else None)) (first_found n test k none is before)
  | inr from ↦ at_last test k n (omega arith) none is
]

-- one number more that doesn't pass
pub still_none : (test : ℕ → Bool) (k : ℕ) → first_below k test ≡ None → test k ≡ false → first_below (suc k) test ≡ None
still_none test k none fails = ap (λ (o : Option ℕ). option_or o (if test k then Some k else None)) none ∙ ap (λ (b : Bool). if b then Some k else None) fails

-- ---- those that pass

pub which_same : (n : ℕ) (p q : ℕ → Bool) → ((k : ℕ) → k < n → p k ≡ q k) → which_below n p ≡ which_below n q
which_same zero p q each = refl
which_same (suc n) p q each = rw (which_same n p q (λ k below. each k (omega arith)), each n (omega arith)) refl

pub which_more : (n m : ℕ) (test : ℕ → Bool) → n ≤ m → ((k : ℕ) → n ≤ k → k < m → test k ≡ false) → which_below m test ≡ which_below n test
which_more n zero test less past = let same : n ≡ 0 = omega arith in rw same refl
which_more n (suc m) test less past = elim (cases_lt m n) [
  | inl last ↦ let same : suc m ≡ n = omega arith in ap (λ (k : ℕ). which_below k test) same
  | inr from ↦ rw (which_more n m test from (λ k above below. past k above (omega arith)), past m from (omega arith)) (nothing_after (which_below n test))
]

last_which : (t p : ℕ → Bool) (n : ℕ) (b : Bool) → list_all p (if b then n ∷ [] else []) ≡ (not b || p n)
last_which t p n true = and_true (p n)
last_which t p n false = refl

-- each of the numbers at which t passes passes p, where each number below n doesn't pass t or passes p
pub all_which : (n : ℕ) (t p : ℕ → Bool) → list_all p (which_below n t) ≡ all_below n (λ b. not (t b) || p b)
all_which zero t p = refl
all_which (suc n) t p =
    list_all-append p (which_below n t) (if t n then n ∷ [] else [])
    ∙ (ap (λ (b : Bool). b && list_all p (if t n then n ∷ [] else [])) (all_which n t p)
    ∙ ap (λ (b : Bool). all_below n (λ b. not (t b) || p b) && b) (last_which t p n (t n)))

-- ---- a last one, by an order

-- a number below n that passes, and none of those that pass is beyond it
pub record Last (n : ℕ) (less : ℕ → ℕ → Bool) (test : ℕ → Bool) : Type 0 where
  pub number : ℕ
  pub below : number < n
  pub passes : test number ≡ true
  pub last : (b : ℕ) → b < n → test b ≡ true → less number b ≡ false

one_more : (n : ℕ) (less : ℕ → ℕ → Bool) (test : ℕ → Bool) → ((a b c : ℕ) → less a b ≡ true → less b c ≡ true → less a c ≡ true) → ((a : ℕ) → less a a ≡ false)
    → test n ≡ true → (((a : ℕ) → a < n → test a ≡ false) ⊎ Last n less test) → Last (suc n) less test
one_more n less test chain strict here (inl none) = record {
  number = n;
  below = omega arith;
  passes = here;
  last = λ b below passes. elim (cases_lt b n) [
    | inl before ↦ absurd (clash (test b) passes (none b before))
    | inr from ↦ let same : b ≡ n = omega arith in ap (less n) same ∙ strict n
  ];
}
one_more n less test chain strict here (inr old) = elim (either_way (less old.number n)) [
  | inl beyond ↦ record {
    number = n;
    below = omega arith;
    passes = here;
    last = λ b below passes. elim (cases_lt b n) [
      | inl before ↦ elim (either_way (less n b)) [
        | inr isnt ↦ isnt
        | inl more ↦ absurd (clash (less old.number b) (chain old.number n b beyond more) (old.last b before passes))
      ]
      | inr from ↦ let same : b ≡ n = omega arith in ap (less n) same ∙ strict n
    ];
  }
  | inr stays ↦ record {
    number = old.number;
    below = omega (arith, old.below);
    passes = old.passes;
    last = λ b below passes. elim (cases_lt b n) [
      | inl before ↦ old.last b before passes
      | inr from ↦ let same : b ≡ n = omega arith in ap (less old.number) same ∙ stays
    ];
  }
]

pub none_or_last : (n : ℕ) (less : ℕ → ℕ → Bool) (test : ℕ → Bool) → ((a b c : ℕ) → less a b ≡ true → less b c ≡ true → less a c ≡ true) → ((a : ℕ) → less a a ≡ false)
    → ((a : ℕ) → a < n → test a ≡ false) ⊎ Last n less test
none_or_last zero less test chain strict = inl (λ a below. absurd (omega arith))
none_or_last (suc n) less test chain strict = elim (either_way (test n)) [
  | inl here ↦ inr (one_more n less test chain strict here (none_or_last n less test chain strict))
  | inr fails ↦ elim (none_or_last n less test chain strict) [
    | inl none ↦ inl (λ a below. elim (cases_lt a n) [
      | inl before ↦ none a before
      | inr from ↦ let same : a ≡ n = omega arith in ap test same ∙ fails
    ])
    | inr old ↦ inr (record {
      number = old.number;
      below = omega (arith, old.below);
      passes = old.passes;
      last = λ b below passes. elim (cases_lt b n) [
        | inl before ↦ old.last b before passes
        | inr from ↦ let same : b ≡ n = omega arith in absurd (clash (test b) passes (ap test same ∙ fails))
      ];
    })
  ]
]
