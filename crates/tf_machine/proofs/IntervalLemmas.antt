-- Numbers side by side: where they end, where a zero stands among them, and how they change together.
use Rattle.std.proofs.Common.{◌≡◌, ◌≢◌, ℕ, zero, suc, ◌+◌, ◌-◌, ◌<◌, ◌≤◌, ◌⊎◌, List, [], ◌∷◌, ◌++◌, length, drop, get_or, Bool, true, false, ◌||◌, Option, Some, refl, sym, ap, ◌∙◌, subst, inl, inr, arith, slice_get, length-set, eqb-true, eq-eqb}
use Rattle.std.specs.Prelude.{if◌then◌else◌, nat_eq, option_map}
use Rattle.std.proofs.Math.ListN.{set, get_or-append}
use Rattle.std.proofs.Math.Seq.{get_or-append_seam}
use Rattle.std.proofs.lemmas.Bool.{cases_lt}
use Rattle.std.proofs.lemmas.Grind.{get_or_default_zero}
use Rattle.std.proofs.lemmas.List.{get_or-drop}
use Rattle.std.proofs.lemmas.Option.{slice_get-get_or}
use Rattle.tf_numbers.specs.Numbers.{has_number, which_below}
use Rattle.tf_numbers.proofs.ListLemmas.{length_both, nothing_after}
use Rattle.tf_numbers.proofs.TruthLemmas.{never_true, neither_first, neither_second, true_first, true_second}
use Rattle.tf_model.specs.Plan.{Outline, count, is_before}
use Rattle.tf_model.specs.Scope.{is_earlier}
use Rattle.tf_order.specs.Graph.{predecessors_of, successors_of}
use Rattle.tf_machine.specs.Counts.{stepped, after_steps, AreDistinct}
use Rattle.tf_machine.specs.Intervals.{AreApart, AreBeside, IsZeroless, AreSteppedFrom}
use Rattle.tf_machine.proofs.ChangeLemmas.{set_told}

-- ---- what stands at a place

-- it is the same whatever would stand past the end
same_there : (xs : List ℕ) (k d e : ℕ) → k < length xs → get_or xs k d ≡ get_or xs k e
same_there xs k d e below = get_or_default_zero xs k d below ∙ sym (get_or_default_zero xs k e below)

-- ---- rows of a graph ascend

-- so far: numbers below n, ascending, each of them so much less than n as others may still stand behind it
record AreApartBelow (n : ℕ) (xs : List ℕ) : Type 0 where
  pub apart : AreApart xs
  pub room : (k d : ℕ) → k < length xs → get_or xs k d + (length xs - k) ≤ n

one_apart : (n : ℕ) (xs : List ℕ) → AreApartBelow n xs → AreApartBelow (suc n) (xs ++ n ∷ [])
one_apart n xs are = record {
  apart = λ k m d e below. apart k m d e (cases_lt (k + m) (length xs)) below;
  room = λ k d below. room k d (cases_lt k (length xs)) below;
}
  where
    long : length (xs ++ n ∷ []) ≡ length xs + 1
    long = length_both xs (n ∷ [])

    last : (k d : ℕ) → k ≡ length xs → get_or (xs ++ n ∷ []) k d ≡ n
    last k d same = ap (λ (i : ℕ). get_or (xs ++ n ∷ []) i d) same ∙ get_or-append_seam xs n [] d

    apart : (k m d e : ℕ) → (k + m < length xs) ⊎ (length xs ≤ k + m) → k + m < length (xs ++ n ∷ []) → get_or (xs ++ n ∷ []) k d + m ≤ get_or (xs ++ n ∷ []) (k + m) e
    apart k m d e (inl before) below =
        let near = get_or-append xs (n ∷ []) d k (omega (arith, before)) in
        let far = get_or-append xs (n ∷ []) e (k + m) before in
        let as_was = are.apart k m d e before in
        omega (arith, near, far, as_was)
    apart k m d e (inr from) below = at (cases_lt k (length xs))
      where
        end : get_or (xs ++ n ∷ []) (k + m) e ≡ n
        end = last (k + m) e (omega (arith, below, from, long))

        at : (k < length xs) ⊎ (length xs ≤ k) → get_or (xs ++ n ∷ []) k d + m ≤ get_or (xs ++ n ∷ []) (k + m) e
        at (inl inside) =
            let near = get_or-append xs (n ∷ []) d k inside in
            let free = are.room k d inside in
            omega (arith, near, free, end, from, below, long)
        at (inr past) =
            let near = last k d (omega (arith, past, below, long)) in
            omega (arith, near, end, past, below, long)

    room : (k d : ℕ) → (k < length xs) ⊎ (length xs ≤ k) → k < length (xs ++ n ∷ []) → get_or (xs ++ n ∷ []) k d + (length (xs ++ n ∷ []) - k) ≤ suc n
    room k d (inl inside) below =
        let near = get_or-append xs (n ∷ []) d k inside in
        let free = are.room k d inside in
        omega (arith, near, free, long, inside)
    room k d (inr past) below =
        let near = last k d (omega (arith, past, below, long)) in
        omega (arith, near, long, past, below)

apart_if : (n : ℕ) (b : Bool) (xs : List ℕ) → AreApartBelow n xs → AreApartBelow (suc n) (xs ++ (if b then n ∷ [] else []))
apart_if n true xs are = one_apart n xs are
apart_if n false xs are = subst (AreApartBelow (suc n)) (sym (nothing_after xs)) (record { apart = are.apart; room = λ k d below. let free = are.room k d below in omega (arith, free) })

which_apart : (n : ℕ) (test : ℕ → Bool) → AreApartBelow n (which_below n test)
which_apart zero test = record { apart = λ k m d e below. absurd (omega arith); room = λ k d below. absurd (omega arith) }
which_apart (suc n) test = apart_if n (test n) (which_below n test) (which_apart n test)

pub successors_apart : (plan : Outline) (a : ℕ) → AreApart (successors_of plan a)
successors_apart plan a = (which_apart (count plan) (is_before plan a)).apart

pub predecessors_apart : (plan : Outline) (a : ℕ) → AreApart (predecessors_of plan a)
predecessors_apart plan a = (which_apart (count plan) (is_earlier plan a)).apart

-- ---- where an interval ends

-- one number stands by itself
pub one_beside : (numbers : List ℕ) (start : ℕ) → start < length numbers → AreBeside numbers start (start + 1)
one_beside numbers start below = λ n d e inside.
    let none : n ≡ 0 = omega (arith, inside) in
    let at : start + n ≡ start = omega (arith, none) in
    let same = ap (λ (k : ℕ). get_or numbers k d) at ∙ same_there numbers start d e below in
    omega (arith, same, none)

-- the last of some stands as far from the first as their places, at least
pub far_enough : (numbers : List ℕ) (start end : ℕ) → start < end → end ≤ length numbers → AreApart numbers → get_or numbers start 0 ≤ get_or numbers (end - 1) 0
far_enough numbers start end begins within apart =
    let to : start + (end - 1 - start) ≡ end - 1 = omega (arith, begins) in
    let far = subst (λ (k : ℕ). get_or numbers start 0 + (end - 1 - start) ≤ get_or numbers k 0) to (apart start (end - 1 - start) 0 0 (omega (arith, begins, within))) in
    omega (arith, far)

-- where it stands just so far, they stand side by side
pub beside_told : (numbers : List ℕ) (start end : ℕ) → start < end → end ≤ length numbers → AreApart numbers
    → nat_eq (get_or numbers (end - 1) 0 - get_or numbers start 0) (end - 1 - start) ≡ true → AreBeside numbers start end
beside_told numbers start end begins within apart is = λ n d e inside.
    let far : get_or numbers (end - 1) 0 - get_or numbers start 0 ≡ end - 1 - start = eqb-true (get_or numbers (end - 1) 0 - get_or numbers start 0) (end - 1 - start) is in
    let order = far_enough numbers start end begins within apart in
    let first = same_there numbers start 0 e (omega (arith, begins, within)) in
    let low = apart start n e d (omega (arith, inside, within)) in
    let to : start + n + (end - 1 - (start + n)) ≡ end - 1 = omega (arith, inside) in
    let high = subst (λ (k : ℕ). get_or numbers (start + n) d + (end - 1 - (start + n)) ≤ get_or numbers k 0) to (apart (start + n) (end - 1 - (start + n)) d 0 (omega (arith, inside, within))) in
    omega (arith, far, order, first, low, high, inside)

-- ---- where a zero stands

pub zeroless_start : (counts : List ℕ) (from : ℕ) → IsZeroless counts from from
zeroless_start counts from = λ a d low high. absurd (omega (arith, low, high))

pub zeroless_more : (counts : List ℕ) (from at x : ℕ) → at < length counts → x ≡ get_or counts at x → x ≢ 0 → IsZeroless counts from at → IsZeroless counts from (at + 1)
zeroless_more counts from at x below is other none = λ a d low high. by a d low high (cases_lt a at)
  where
    by : (a d : ℕ) → from ≤ a → a < at + 1 → (a < at) ⊎ (at ≤ a) → get_or counts a d ≢ 0
    by a d low high (inl before) = none a d low before
    by a d low high (inr past) = λ zero_there.
        let same : a ≡ at = omega (arith, high, past) in
        other (is ∙ (same_there counts at x d below ∙ (ap (λ (k : ℕ). get_or counts k d) (sym same) ∙ zero_there)))

pub zeroless_on : (counts : List ℕ) (from at past : ℕ) → IsZeroless counts from at → IsZeroless counts at past → IsZeroless counts from past
zeroless_on counts from at past first second = λ a d low high. elim (cases_lt a at) [
  | inl before ↦ first a d low before
  | inr later ↦ second a d later high
]

-- where none was found before, and none at the next place
pub zeroless_told : (counts : List ℕ) (from at x : ℕ) (found : Bool) → at < length counts → x ≡ get_or counts at x → (found ≡ false → IsZeroless counts from at) → found || nat_eq x 0 ≡ false → IsZeroless counts from (at + 1)
zeroless_told counts from at x found below is before none =
    zeroless_more counts from at x below is (λ is_zero. let no : nat_eq x 0 ≡ true = eq-eqb x 0 is_zero in let yes = neither_second found (nat_eq x 0) none in absurd (cc)) (before (neither_first found (nat_eq x 0) none))

-- ---- an interval of counters changes

pub none_from : (more : Bool) (first : ℕ) (counts : List ℕ) → AreSteppedFrom more first first counts counts
none_from more first counts = record { as_many = refl; inside = λ a low high. absurd (omega (arith, low, high)); outside = λ a out. refl }

pub one_from : (more : Bool) (first place : ℕ) (old now : List ℕ) (c e : ℕ) → first ≤ place → place < length now → c ≡ stepped more (get_or now place e) → AreSteppedFrom more first place old now → AreSteppedFrom more first (place + 1) old (set now place c)
one_from more first place old now c e from below is are = record {
  as_many = length-set now place c ∙ are.as_many;
  inside = λ a low high. set_told now place a c below ∙ inside a low high (nat_eq place a) refl;
  outside = λ a out. set_told now place a c below ∙ outside a out (nat_eq place a) refl;
}
  where
    here : Some c ≡ option_map (stepped more) (slice_get old place)
    here = ap (λ (n : ℕ). Some n) is ∙ ap (option_map (stepped more)) (sym (slice_get-get_or now place e below) ∙ are.outside place (inr (omega arith)))

    apart : (a : ℕ) → nat_eq place a ≡ false → place ≢ a
    apart a other same = let no : nat_eq place a ≡ true = eq-eqb place a same in absurd (cc)

    inside : (a : ℕ) → first ≤ a → a < place + 1 → (b : Bool) → nat_eq place a ≡ b → (if b then Some c else slice_get now a) ≡ option_map (stepped more) (slice_get old a)
    inside a low high true same = here ∙ ap (λ (k : ℕ). option_map (stepped more) (slice_get old k)) (eqb-true place a same)
    inside a low high false other = are.inside a low (let differ = apart a other in omega (arith, high, differ))

    outside : (a : ℕ) → (a < first) ⊎ (place + 1 ≤ a) → (b : Bool) → nat_eq place a ≡ b → (if b then Some c else slice_get now a) ≡ slice_get old a
    outside a (inl low) true same = let equal = eqb-true place a same in absurd (omega (arith, low, equal, from))
    outside a (inr high) true same = let equal = eqb-true place a same in absurd (omega (arith, high, equal))
    outside a (inl low) false other = are.outside a (inl low)
    outside a (inr high) false other = are.outside a (inr (omega (arith, high)))

-- ---- what is left of a row behind an interval

none_left : (xs : List ℕ) (m a : ℕ) → has_number xs a ≡ false → has_number (drop m xs) a ≡ false
none_left xs zero a none = none
none_left [] (suc m) a none = refl
none_left (x ∷ xs) (suc m) a none = none_left xs m a (neither_second (nat_eq a x) _ none)

-- what is left was there
pub left_of : (xs : List ℕ) (m a : ℕ) → has_number (drop m xs) a ≡ true → has_number xs a ≡ true
left_of xs m a is = by (has_number xs a) refl
  where
    by : (b : Bool) → has_number xs a ≡ b → b ≡ true
    by true there = refl
    by false out = let never = sym (none_left xs m a out) ∙ is in absurd (cc)

-- a number that isn't one of the first is left
left_still : (xs : List ℕ) (m a : ℕ) → ((n : ℕ) → n < m → n < length xs → nat_eq a (get_or xs n a) ≡ false) → has_number (drop m xs) a ≡ has_number xs a
left_still xs zero a each = refl
left_still [] (suc m) a each = refl
left_still (x ∷ xs) (suc m) a each =
    left_still xs m a (λ n below within. each (suc n) (omega (arith, below)) (omega (arith, within)))
    ∙ ap (λ (b : Bool). b || has_number xs a) (sym (each 0 (omega arith) (omega arith)))

-- one of the first isn't
first_gone : (xs : List ℕ) (m n d : ℕ) → AreDistinct xs → n < m → n < length xs → has_number (drop m xs) (get_or xs n d) ≡ false
first_gone xs zero n d distinct below within = absurd (omega (arith, below))
first_gone [] (suc m) n d distinct below within = absurd (omega (arith, within))
first_gone (x ∷ xs) (suc m) zero d distinct below within = none_left xs m x distinct.0
first_gone (x ∷ xs) (suc m) (suc n) d distinct below within = first_gone xs m n d distinct.1 (omega (arith, below)) (omega (arith, within))

distinct_left : (xs : List ℕ) (m : ℕ) → AreDistinct xs → AreDistinct (drop m xs)
distinct_left xs zero distinct = distinct
distinct_left [] (suc m) distinct = tt
distinct_left (x ∷ xs) (suc m) distinct = distinct_left xs m distinct.1

drop_none : (m : ℕ) → drop {A = ℕ} m [] ≡ []
drop_none zero = refl
drop_none (suc m) = refl

drop_on : (xs : List ℕ) (k m : ℕ) → drop m (drop k xs) ≡ drop (k + m) xs
drop_on xs zero m = let same : m ≡ 0 + m = omega arith in ap (λ (n : ℕ). drop n xs) same
drop_on [] (suc k) m = drop_none m ∙ sym (drop_none (suc k + m))
drop_on (x ∷ xs) (suc k) m = let same : suc (k + m) ≡ suc k + m = omega arith in drop_on xs k m ∙ ap (λ (n : ℕ). drop n (x ∷ xs)) same

-- a list has what stands at one of its places
pub has_there : (xs : List ℕ) (k d : ℕ) → k < length xs → has_number xs (get_or xs k d) ≡ true
has_there [] k d below = absurd (omega (arith, below))
has_there (x ∷ xs) zero d below = true_first (nat_eq x x) _ (eq-eqb x x refl)
has_there (x ∷ xs) (suc k) d below = true_second (nat_eq (get_or xs k d) x) _ (has_there xs k d (omega (arith, below)))

length_left : (xs : List ℕ) (k : ℕ) → length (drop k xs) ≡ length xs - k
length_left xs zero = omega arith
length_left [] (suc k) = omega arith
length_left (x ∷ xs) (suc k) = let rest = length_left xs k in omega (arith, rest)

-- of a row whose places from k on and before e stand side by side, from x on: what is left behind them is what was left before them, but for these
pub record IsPassed (row : List ℕ) (k e x : ℕ) : Type 0 where
  pub inside : (a : ℕ) → x ≤ a → a < x + (e - k) → (has_number (drop k row) a ≡ true) × (has_number (drop e row) a ≡ false)
  pub outside : (a : ℕ) → (a < x) ⊎ (x + (e - k) ≤ a) → has_number (drop e row) a ≡ has_number (drop k row) a

pub passed : (row : List ℕ) (k e : ℕ) → AreDistinct row → k < e → e ≤ length row → AreBeside row k e → IsPassed row k e (get_or row k 0)
passed row k e distinct begins ends beside = record {
  inside = λ a low high. inside a low high;
  outside = λ a out. ap (λ (xs : List ℕ). has_number xs a) (sym rest) ∙ left_still (drop k row) (e - k) a (λ n below within. apart a out n below);
}
  where
    x : ℕ
    x = get_or row k 0

    rest : drop (e - k) (drop k row) ≡ drop e row
    rest = let same : k + (e - k) ≡ e = omega (arith, begins) in drop_on row k (e - k) ∙ ap (λ (n : ℕ). drop n row) same

    long : length (drop k row) ≡ length row - k
    long = length_left row k

    -- the number at the n-th of these places
    at : (n d : ℕ) → n < e - k → get_or (drop k row) n d ≡ x + n
    at n d below =
        let there = get_or-drop k row n d in
        let as_far = beside n d 0 (omega (arith, below)) in
        omega (arith, there, as_far)

    inside : (a : ℕ) → x ≤ a → a < x + (e - k) → (has_number (drop k row) a ≡ true) × (has_number (drop e row) a ≡ false)
    inside a low high =
        let same : get_or (drop k row) (a - x) a ≡ a = at (a - x) a (omega (arith, low, high)) ∙ omega (arith, low) in (
          ap (has_number (drop k row)) (sym same) ∙ has_there (drop k row) (a - x) a (omega (arith, low, high, long, ends)),
          ap (has_number (drop e row)) (sym same) ∙ (ap (λ (xs : List ℕ). has_number xs (get_or (drop k row) (a - x) a)) (sym rest)
              ∙ first_gone (drop k row) (e - k) (a - x) a (distinct_left row k distinct) (omega (arith, low, high)) (omega (arith, low, high, long, ends))),
        )

    apart : (a : ℕ) → (a < x) ⊎ (x + (e - k) ≤ a) → (n : ℕ) → n < e - k → nat_eq a (get_or (drop k row) n a) ≡ false
    apart a out n below = never_true (nat_eq a (get_or (drop k row) n a)) (λ same.
        let equal = eqb-true a (get_or (drop k row) n a) same in
        let value = at n a below in
        elim out [
          | inl less ↦ absurd (omega (arith, less, equal, value))
          | inr more ↦ absurd (omega (arith, more, equal, value, below))
        ])

-- the last of these places stands within what has all that is left
pub interval_within : (row : List ℕ) (k e x n : ℕ) → IsPassed row k e x → k < e → ((a : ℕ) → has_number (drop k row) a ≡ true → a < n) → x + (e - k) ≤ n
interval_within row k e x n are begins within =
    let last : x + (e - k) - 1 < n = within (x + (e - k) - 1) ((are.inside (x + (e - k) - 1) (omega (arith, begins)) (omega (arith, begins))).0) in
    omega (arith, last, begins)

-- what is left behind was left before
pub left_before : (row : List ℕ) (k e x a : ℕ) → IsPassed row k e x → has_number (drop e row) a ≡ true → has_number (drop k row) a ≡ true
left_before row k e x a are is = by (cases_lt a x) (cases_lt a (x + (e - k)))
  where
    by : (a < x) ⊎ (x ≤ a) → (a < x + (e - k)) ⊎ (x + (e - k) ≤ a) → has_number (drop k row) a ≡ true
    by (inl less) anywhere = sym (are.outside a (inl less)) ∙ is
    by (inr from) (inr past) = sym (are.outside a (inr past)) ∙ is
    by (inr from) (inl before) = (are.inside a from before).0

-- what is left before is one of the interval, or is left behind it
pub left_or_there : (row : List ℕ) (k e x a : ℕ) → IsPassed row k e x → has_number (drop k row) a ≡ true → ((x ≤ a) × (a < x + (e - k))) ⊎ (has_number (drop e row) a ≡ true)
left_or_there row k e x a are is = by (cases_lt a x) (cases_lt a (x + (e - k)))
  where
    by : (a < x) ⊎ (x ≤ a) → (a < x + (e - k)) ⊎ (x + (e - k) ≤ a) → ((x ≤ a) × (a < x + (e - k))) ⊎ (has_number (drop e row) a ≡ true)
    by (inl less) anywhere = inr (are.outside a (inl less) ∙ is)
    by (inr from) (inr past) = inr (are.outside a (inr past) ∙ is)
    by (inr from) (inl before) = inl (from, before)

-- what the steps of those that are left make of the counters is the same after those of the interval were made
pub interval_steps : (more : Bool) (row : List ℕ) (k e x : ℕ) (mid new : List ℕ) → IsPassed row k e x → AreSteppedFrom more x (x + (e - k)) mid new
    → (a : ℕ) → after_steps more (drop e row) new a ≡ after_steps more (drop k row) mid a
interval_steps more row k e x mid new are steps a = by (cases_lt a x) (cases_lt a (x + (e - k)))
  where
    kept : (a < x) ⊎ (x + (e - k) ≤ a) → after_steps more (drop e row) new a ≡ after_steps more (drop k row) mid a
    kept out = ap (λ (b : Bool). if b then option_map (stepped more) (slice_get new a) else slice_get new a) (are.outside a out)
        ∙ ap (λ (o : Option ℕ). if has_number (drop k row) a then option_map (stepped more) o else o) (steps.outside a out)

    by : (a < x) ⊎ (x ≤ a) → (a < x + (e - k)) ⊎ (x + (e - k) ≤ a) → after_steps more (drop e row) new a ≡ after_steps more (drop k row) mid a
    by (inl less) anywhere = kept (inl less)
    by (inr from) (inr past) = kept (inr past)
    by (inr from) (inl before) =
        let here = are.inside a from before in
        ap (λ (b : Bool). if b then option_map (stepped more) (slice_get new a) else slice_get new a) here.1
        ∙ (steps.inside a from before ∙ ap (λ (b : Bool). if b then option_map (stepped more) (slice_get mid a) else slice_get mid a) (sym here.0))
