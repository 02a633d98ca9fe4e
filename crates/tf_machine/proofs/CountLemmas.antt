-- How many of some atoms pass a test, and how this changes with one of them.
use Rattle.std.proofs.Common.{◌≡◌, ◌≢◌, ℕ, zero, suc, ◌+◌, ◌-◌, ◌<◌, ◌≤◌, List, [], ◌∷◌, ◌++◌, length, map, drop, Bool, true, false, not, ◌&&◌, ◌||◌, Some, None, refl, sym, ap, ◌∙◌, subst, inl, inr, arith, slice_get, add-one, eqb-true, eq-eqb}
use Rattle.std.specs.Prelude.{if◌then◌else◌, nat_eq, option_map}
use Rattle.std.specs.List.{list_all}
use Rattle.std.proofs.lemmas.Bool.{cases_lt}
use Rattle.std.proofs.lemmas.List.{map-append}
use Rattle.tf_states.specs.declared.state.AtomState.{AtomState}
use Rattle.tf_states.specs.declared.state.AtomState.TheVariants as atom
use Rattle.tf_numbers.specs.Numbers.{has_number, which_below, numbers_below}
use Rattle.tf_numbers.proofs.ListLemmas.{nothing_after, drop_whole, length_both}
use Rattle.tf_numbers.proofs.NumberLemmas.{turn_eq}
use Rattle.tf_numbers.proofs.PairLemmas.{which_passes, passes_which}
use Rattle.tf_numbers.proofs.TruthLemmas.{same_truth, never_true, neither, neither_first, neither_second}
use Rattle.tf_model.specs.Plan.{Outline, count, is_before}
use Rattle.tf_model.specs.Scope.{is_earlier}
use Rattle.tf_model.specs.History.{Snapshot, is_done, is_settled}
use Rattle.tf_model.specs.Forced.{is_done_at}
use Rattle.tf_model.specs.Steps.{is_settled_at}
use Rattle.tf_facts.proofs.LayoutLemmas.{before_below, before_below_first}
use Rattle.tf_order.specs.Graph.{predecessors_of, successors_of}
use Rattle.tf_order.proofs.GraphLemmas.{rows_length, row_told}
use Rattle.tf_machine.specs.declared.counters.Counters.{Counters}
use Rattle.tf_machine.specs.Counts.{how_many, is_undone, is_unsettled, waiting_of, holding_of, AreNumbers, AreCounted, stepped, after_steps, after_turn, AreDistinct}
use Rattle.tf_machine.specs.Intervals.{AreSteppedFrom}
use Rattle.tf_machine.proofs.IntervalLemmas.{IsPassed, left_before, interval_steps}

-- ---- how many pass

-- the same numbers pass two tests that agree
same_many : (p q : ℕ → Bool) (xs : List ℕ) → ((b : ℕ) → p b ≡ q b) → how_many p xs ≡ how_many q xs
same_many p q [] each = refl
same_many p q (x ∷ xs) each =
    ap (λ (b : Bool). if b then suc (how_many p xs) else how_many p xs) (each x) ∙ ap (λ (n : ℕ). if q x then suc n else n) (same_many p q xs each)

-- so where they agree but at a number that isn't there
same_elsewhere : (p q : ℕ → Bool) (a : ℕ) (xs : List ℕ) → ((b : ℕ) → nat_eq a b ≡ false → p b ≡ q b) → has_number xs a ≡ false → how_many p xs ≡ how_many q xs
same_elsewhere p q a [] each outside = refl
same_elsewhere p q a (x ∷ xs) each outside =
    ap (λ (b : Bool). if b then suc (how_many p xs) else how_many p xs) (each x (neither_first (nat_eq a x) _ outside))
    ∙ ap (λ (n : ℕ). if q x then suc n else n) (same_elsewhere p q a xs each (neither_second (nat_eq a x) _ outside))

-- one more passes the test that it passes at this number, where the other fails there
one_more : (p q : ℕ → Bool) (a : ℕ) (xs : List ℕ) → ((b : ℕ) → nat_eq a b ≡ false → p b ≡ q b) → p a ≡ true → q a ≡ false → AreDistinct xs → has_number xs a ≡ true → how_many p xs ≡ suc (how_many q xs)
one_more p q a [] each on off distinct inside = absurd (cc)
one_more p q a (x ∷ xs) each on off distinct inside = by (λ there. one_more p q a xs each on off distinct.1 there) (nat_eq a x) refl
  where
    told : (b : Bool) (m n : ℕ) → m ≡ suc n → (if b then suc m else m) ≡ suc (if b then suc n else n)
    told true m n is = ap suc is
    told false m n is = is

    by : (has_number xs a ≡ true → how_many p xs ≡ suc (how_many q xs)) → (b : Bool) → nat_eq a x ≡ b → (if p x then suc (how_many p xs) else how_many p xs) ≡ suc (if q x then suc (how_many q xs) else how_many q xs)
    by further true is =
        let same : a ≡ x = eqb-true a x is in
        let outside : has_number xs a ≡ false = ap (has_number xs) same ∙ distinct.0 in
        ap (λ (b : Bool). if b then suc (how_many p xs) else how_many p xs) (ap p (sym same) ∙ on)
        ∙ (ap suc (same_elsewhere p q a xs each outside) ∙ ap (λ (b : Bool). suc (if b then suc (how_many q xs) else how_many q xs)) (sym (ap q (sym same) ∙ off)))
    by further false is =
        ap (λ (b : Bool). if b then suc (how_many p xs) else how_many p xs) (each x is)
        ∙ told (q x) (how_many p xs) (how_many q xs) (further (ap (λ (b : Bool). b || has_number xs a) (sym is) ∙ inside))

few_pass : (test : ℕ → Bool) (xs : List ℕ) → how_many test xs ≤ length xs
few_pass test [] = omega arith
few_pass test (x ∷ xs) = by (few_pass test xs) (test x)
  where
    by : how_many test xs ≤ length xs → (b : Bool) → (if b then suc (how_many test xs) else how_many test xs) ≤ suc (length xs)
    by less true = omega (arith, less)
    by less false = omega (arith, less)

-- all pass
pub all_pass : (test : ℕ → Bool) (xs : List ℕ) → ((b : ℕ) → test b ≡ true) → how_many test xs ≡ length xs
all_pass test [] each = refl
all_pass test (x ∷ xs) each = ap (λ (b : Bool). if b then suc (how_many test xs) else how_many test xs) (each x) ∙ ap suc (all_pass test xs each)

-- none passes
pub none_pass : (test : ℕ → Bool) (xs : List ℕ) → ((b : ℕ) → test b ≡ false) → how_many test xs ≡ 0
none_pass test [] each = refl
none_pass test (x ∷ xs) each = ap (λ (b : Bool). if b then suc (how_many test xs) else how_many test xs) (each x) ∙ none_pass test xs each

never_zero : (m : ℕ) → nat_eq (suc m) 0 ≡ false
never_zero m = never_true (nat_eq (suc m) 0) (λ is. let same : suc m ≡ 0 = eqb-true (suc m) 0 is in absurd (omega (arith, same)))

-- none fails where all pass
pub none_fail : (test : ℕ → Bool) (xs : List ℕ) → nat_eq (how_many (λ b. not (test b)) xs) 0 ≡ list_all test xs
none_fail test [] = refl
none_fail test (x ∷ xs) = by (none_fail test xs) (test x)
  where
    by : nat_eq (how_many (λ c. not (test c)) xs) 0 ≡ list_all test xs → (b : Bool) → nat_eq (if not b then suc (how_many (λ c. not (test c)) xs) else how_many (λ c. not (test c)) xs) 0 ≡ b && list_all test xs
    by others true = others
    by others false = never_zero (how_many (λ c. not (test c)) xs)

-- ---- the atoms before one and after one

few_below : (n : ℕ) (test : ℕ → Bool) → length (which_below n test) ≤ n
few_below zero test = omega arith
few_below (suc n) test = by (few_below n test) (test n)
  where
    by : length (which_below n test) ≤ n → (b : Bool) → length (which_below n test ++ (if b then n ∷ [] else [])) ≤ suc n
    by few true = let both = length_both (which_below n test) (n ∷ []) in omega (arith, both, few)
    by few false = let both = length_both (which_below n test) [] in omega (arith, both, few)

has_both : (xs ys : List ℕ) (a : ℕ) → has_number xs a ≡ false → has_number ys a ≡ false → has_number (xs ++ ys) a ≡ false
has_both [] ys a first second = second
has_both (x ∷ xs) ys a first second = neither (nat_eq a x) _ (neither_first (nat_eq a x) _ first) (has_both xs ys a (neither_second (nat_eq a x) _ first) second)

distinct_more : (xs : List ℕ) (n : ℕ) → AreDistinct xs → has_number xs n ≡ false → AreDistinct (xs ++ n ∷ [])
distinct_more [] n distinct outside = (refl, tt)
distinct_more (x ∷ xs) n distinct outside =
    (has_both xs (n ∷ []) x distinct.0 (neither (nat_eq x n) false (turn_eq x n ∙ neither_first (nat_eq n x) _ outside) refl), distinct_more xs n distinct.1 (neither_second (nat_eq n x) _ outside))

not_there : (n : ℕ) (test : ℕ → Bool) → has_number (which_below n test) n ≡ false
not_there n test = never_true (has_number (which_below n test) n) (λ is.
    let found = which_passes n test (nat_eq n) is in
    let same : n ≡ found.number = eqb-true n found.number found.passes in
    let below : found.number < n = found.below in absurd (omega (arith, same, below)))

-- one number more, where the test passes at it
distinct_if : (n : ℕ) (b : Bool) (xs : List ℕ) → AreDistinct xs → has_number xs n ≡ false → AreDistinct (xs ++ (if b then n ∷ [] else []))
distinct_if n true xs distinct outside = distinct_more xs n distinct outside
distinct_if n false xs distinct outside = subst AreDistinct (sym (nothing_after xs)) distinct

pub which_distinct : (n : ℕ) (test : ℕ → Bool) → AreDistinct (which_below n test)
which_distinct zero test = tt
which_distinct (suc n) test = distinct_if n (test n) (which_below n test) (which_distinct n test) (not_there n test)

pub successors_distinct : (plan : Outline) (a : ℕ) → AreDistinct (successors_of plan a)
successors_distinct plan a = which_distinct (count plan) (is_before plan a)

pub predecessors_distinct : (plan : Outline) (a : ℕ) → AreDistinct (predecessors_of plan a)
predecessors_distinct plan a = which_distinct (count plan) (is_earlier plan a)

-- a number stands among those below n that pass where it passes, if none passes past n
listed : (n : ℕ) (test : ℕ → Bool) (k : ℕ) → (n ≤ k → test k ≡ false) → has_number (which_below n test) k ≡ test k
listed n test k past = same_truth (has_number (which_below n test) k) (test k)
    (λ is. let found = which_passes n test (nat_eq k) is in ap test (eqb-true k found.number found.passes) ∙ found.tested)
    (λ is. elim (cases_lt k n) [
      | inl below ↦ passes_which n test (nat_eq k) k below is (eq-eqb k k refl)
      | inr from ↦ let never : true ≡ false = sym is ∙ past from in absurd (cc)
    ])

pub successor_told : (plan : Outline) (a b : ℕ) → has_number (successors_of plan a) b ≡ is_before plan a b
successor_told plan a b =
    listed (count plan) (is_before plan a) b (λ past. never_true (is_before plan a b) (λ is. let below : b < count plan = before_below plan a b is in absurd (omega (arith, past, below))))

pub predecessor_told : (plan : Outline) (a b : ℕ) → has_number (predecessors_of plan b) a ≡ is_before plan a b
predecessor_told plan a b =
    listed (count plan) (is_earlier plan b) a (λ past. never_true (is_before plan a b) (λ is. let below : a < count plan = before_below_first plan a b is in absurd (omega (arith, past, below))))

pub successors_below : (plan : Outline) (a b : ℕ) → has_number (successors_of plan a) b ≡ true → b < count plan
successors_below plan a b is = before_below plan a b (sym (successor_told plan a b) ∙ is)

pub predecessors_below : (plan : Outline) (a b : ℕ) → has_number (predecessors_of plan a) b ≡ true → b < count plan
predecessors_below plan a b is = before_below_first plan b a (sym (predecessor_told plan b a) ∙ is)

pub few_before : (plan : Outline) (a : ℕ) → length (predecessors_of plan a) ≤ count plan
few_before plan a = few_below (count plan) (is_earlier plan a)

pub few_after : (plan : Outline) (a : ℕ) → length (successors_of plan a) ≤ count plan
few_after plan a = few_below (count plan) (is_before plan a)

-- ---- what the counters tell

pub told_at : (n : ℕ) (told : ℕ → ℕ) (numbers : List ℕ) (a m : ℕ) → AreNumbers n told numbers → a < n → slice_get numbers a ≡ Some m → m ≡ told a
told_at n told numbers a m are below is = let same : Some m ≡ Some (told a) = sym is ∙ are.each a below in cc

pub not_missing : (n : ℕ) (told : ℕ → ℕ) (numbers : List ℕ) (a : ℕ) → AreNumbers n told numbers → a < n → slice_get numbers a ≡ None → ⊥
not_missing n told numbers a are below is = let same : None ≡ Some (told a) = sym is ∙ are.each a below in absurd (cc)

-- where an atom waits for none, all before it are done with
pub none_waiting : (plan : Outline) (s : Snapshot) (a m : ℕ) → m ≡ waiting_of plan s a → nat_eq m 0 ≡ list_all (is_done_at s) (predecessors_of plan a)
unfolding waiting_of
none_waiting plan s a m is = ap (λ (n : ℕ). nat_eq n 0) is ∙ none_fail (is_done_at s) (predecessors_of plan a)

-- where it holds none, all after it are settled
pub none_holding : (plan : Outline) (s : Snapshot) (a m : ℕ) → m ≡ holding_of plan s a → nat_eq m 0 ≡ list_all (is_settled_at s) (successors_of plan a)
unfolding holding_of
none_holding plan s a m is = ap (λ (n : ℕ). nat_eq n 0) is ∙ none_fail (is_settled_at s) (successors_of plan a)

-- ---- before a run

-- so far: each atom waits for all before it, and none is held
pub record AreFirst (plan : Outline) (n : ℕ) (before after : List ℕ) : Type 0 where
  pub waiting : before ≡ map (λ a. length (predecessors_of plan a)) (numbers_below n)
  pub holding : after ≡ map (λ (a : ℕ). 0) (numbers_below n)

pub none_counted : (plan : Outline) → AreFirst plan 0 [] []
none_counted plan = record { waiting = refl; holding = refl }

one_row_more : (f : ℕ → ℕ) (n m : ℕ) (rows : List ℕ) → rows ≡ map f (numbers_below n) → m ≡ f n → rows ++ m ∷ [] ≡ map f (numbers_below (n + 1))
one_row_more f n m rows are is =
    ap (λ (xs : List ℕ). xs ++ m ∷ []) are
    ∙ (ap (λ (k : ℕ). map f (numbers_below n) ++ k ∷ []) is ∙ (sym (map-append f (numbers_below n) (n ∷ [])) ∙ ap (λ (k : ℕ). map f (numbers_below k)) (sym (add-one n))))

pub one_counted : (plan : Outline) (n m : ℕ) (waiting holding : List ℕ) → AreFirst plan n waiting holding → m ≡ length (predecessors_of plan n) → AreFirst plan (n + 1) (waiting ++ m ∷ []) (holding ++ 0 ∷ [])
one_counted plan n m waiting holding first is = record {
  waiting = one_row_more (λ a. length (predecessors_of plan a)) n m waiting first.waiting is;
  holding = one_row_more (λ (a : ℕ). 0) n 0 holding first.holding refl;
}

are_rows : (f : ℕ → ℕ) (told : ℕ → ℕ) (n : ℕ) (rows : List ℕ) → rows ≡ map f (numbers_below n) → ((a : ℕ) → f a ≡ told a) → AreNumbers n told rows
are_rows f told n rows are same = record {
  as_many = ap (λ (xs : List ℕ). length xs) are ∙ rows_length f n;
  each = λ a below. ap (λ (xs : List ℕ). slice_get xs a) are ∙ (row_told f n a below ∙ ap (λ (m : ℕ). Some m) (same a));
}

pub all_counted : (plan : Outline) (n : ℕ) (counters : Counters) (s : Snapshot) → n ≡ count plan → AreFirst plan n counters.waiting.items counters.holding.items → ((a : ℕ) → s.state a ≡ atom.Pending) → AreCounted plan s counters
unfolding waiting_of holding_of
all_counted plan n counters s all first rests = record {
  waiting = are_rows (λ a. length (predecessors_of plan a)) (waiting_of plan s) (count plan) counters.waiting.items (first.waiting ∙ ap (λ (k : ℕ). map (λ a. length (predecessors_of plan a)) (numbers_below k)) all)
      (λ a. sym (all_pass (is_undone s) (predecessors_of plan a) (λ b. ap (λ (state : AtomState). not (is_done state)) (rests b))));
  holding = are_rows (λ (a : ℕ). 0) (holding_of plan s) (count plan) counters.holding.items (first.holding ∙ ap (λ (k : ℕ). map (λ (a : ℕ). 0) (numbers_below k)) all)
      (λ a. sym (none_pass (is_unsettled s) (successors_of plan a) (λ b. ap (λ (state : AtomState). not (is_settled state)) (rests b))));
}

-- ---- one step more for each of some atoms

-- of the atoms some are left: their steps in the list as it stands now are those of all in the list as it was
pub record AreStepped (more : Bool) (atoms left old now : List ℕ) : Type 0 where
  pub as_many : length now ≡ length old
  pub within : (a : ℕ) → has_number left a ≡ true → a < length now
  pub each : (a : ℕ) → after_steps more left now a ≡ after_steps more atoms old a

pub none_stepped : (more : Bool) (atoms counts : List ℕ) → ((a : ℕ) → has_number atoms a ≡ true → a < length counts) → AreStepped more atoms atoms counts counts
none_stepped more atoms counts within = record { as_many = refl; within = within; each = λ a. refl }

pub interval_stepped : (more : Bool) (atoms : List ℕ) (k e x : ℕ) (old mid new : List ℕ) → IsPassed atoms k e x → AreSteppedFrom more x (x + (e - k)) mid new
    → AreStepped more atoms (drop k atoms) old mid → AreStepped more atoms (drop e atoms) old new
interval_stepped more atoms k e x old mid new passed steps are = record {
  as_many = steps.as_many ∙ are.as_many;
  within = λ a inside. subst (λ (n : ℕ). a < n) (sym steps.as_many) (are.within a (left_before atoms k e x a passed inside));
  each = λ a. interval_steps more atoms k e x mid new passed steps a ∙ are.each a;
}

pub all_stepped : (more : Bool) (atoms : List ℕ) (k : ℕ) (old now : List ℕ) → length atoms ≤ k → AreStepped more atoms (drop k atoms) old now → (a : ℕ) → slice_get now a ≡ after_steps more atoms old a
all_stepped more atoms k old now past are a =
    ap (λ (left : List ℕ). after_steps more left now a) (sym (drop_whole atoms k past)) ∙ are.each a

-- ---- an atom goes from one state to another

-- the numbers of two moments whose states agree are the same
pub same_counted : (plan : Outline) (s t : Snapshot) (counters : Counters) → ((a : ℕ) → t.state a ≡ s.state a) → AreCounted plan s counters → AreCounted plan t counters
unfolding waiting_of holding_of
same_counted plan s t counters same are = record {
  waiting = record {
    as_many = are.waiting.as_many;
    each = λ a below. are.waiting.each a below ∙ ap (λ (n : ℕ). Some n) (same_many (is_undone s) (is_undone t) (predecessors_of plan a) (λ b. ap (λ (state : AtomState). not (is_done state)) (sym (same b))));
  };
  holding = record {
    as_many = are.holding.as_many;
    each = λ a below. are.holding.each a below ∙ ap (λ (n : ℕ). Some n) (same_many (is_unsettled s) (is_unsettled t) (successors_of plan a) (λ b. ap (λ (state : AtomState). not (is_settled state)) (sym (same b))));
  };
}

-- one more passes, or one less
stepped_many : (p q : ℕ → Bool) (a : ℕ) (xs : List ℕ) (more : Bool) → ((b : ℕ) → nat_eq a b ≡ false → p b ≡ q b) → p a ≡ not more → q a ≡ more → AreDistinct xs → has_number xs a ≡ true → length xs ≤ 1000
    → stepped more (how_many p xs) ≡ how_many q xs
stepped_many p q a xs true each was is distinct inside few =
    let more : how_many q xs ≡ suc (how_many p xs) = one_more q p a xs (λ b other. sym (each b other)) is was distinct inside in
    let within : how_many q xs ≤ length xs = few_pass q xs in
    omega (arith, more, within, few)
stepped_many p q a xs false each was is distinct inside few =
    let less : how_many p xs ≡ suc (how_many q xs) = one_more p q a xs each was is distinct inside in
    omega (arith, less)

-- what is told of each number after the state of an atom changed, where its truth turned so
stepped_numbers : (n : ℕ) (lists : ℕ → List ℕ) (atoms : List ℕ) (p q : ℕ → Bool) (a : ℕ) (more : Bool) (old : List ℕ)
    → ((b : ℕ) → AreDistinct (lists b)) → ((b : ℕ) → length (lists b) ≤ 1000) → ((b : ℕ) → has_number atoms b ≡ has_number (lists b) a)
    → ((b : ℕ) → nat_eq a b ≡ false → p b ≡ q b) → p a ≡ not more → q a ≡ more
    → AreNumbers n (λ b. how_many p (lists b)) old → (b : ℕ) → b < n → after_steps more atoms old b ≡ Some (how_many q (lists b))
stepped_numbers n lists atoms p q a more old distinct few told each was is are b below = by (has_number atoms b) refl
  where
    by : (x : Bool) → has_number atoms b ≡ x → (if x then option_map (stepped more) (slice_get old b) else slice_get old b) ≡ Some (how_many q (lists b))
    by true inside = ap (option_map (stepped more)) (are.each b below) ∙ ap (λ (m : ℕ). Some m) (stepped_many p q a (lists b) more each was is (distinct b) (sym (told b) ∙ inside) (few b))
    by false outside = are.each b below ∙ ap (λ (m : ℕ). Some m) (same_elsewhere p q a (lists b) each (sym (told b) ∙ outside))

-- a truth that stays at the atom is the same everywhere
same_truths : (p q : ℕ → Bool) (a : ℕ) → ((b : ℕ) → nat_eq a b ≡ false → p b ≡ q b) → p a ≡ q a → (b : ℕ) → p b ≡ q b
same_truths p q a each here b = by (nat_eq a b) refl
  where
    by : (x : Bool) → nat_eq a b ≡ x → p b ≡ q b
    by true same = subst (λ (k : ℕ). p k ≡ q k) (eqb-true a b same) here
    by false other = each b other

-- the same, whether it turned or not
turned_numbers : (n : ℕ) (lists : ℕ → List ℕ) (atoms : List ℕ) (p q : ℕ → Bool) (a : ℕ) (was is : Bool) (old new : List ℕ)
    → ((b : ℕ) → AreDistinct (lists b)) → ((b : ℕ) → length (lists b) ≤ 1000) → ((b : ℕ) → has_number atoms b ≡ has_number (lists b) a)
    → ((b : ℕ) → nat_eq a b ≡ false → p b ≡ q b) → p a ≡ not was → q a ≡ not is
    → length new ≡ length old → ((b : ℕ) → slice_get new b ≡ after_turn was is atoms old b)
    → AreNumbers n (λ b. how_many p (lists b)) old → AreNumbers n (λ b. how_many q (lists b)) new
turned_numbers n lists atoms p q a was is old new distinct few told each before after as_many steps are = record {
  as_many = as_many ∙ are.as_many;
  each = λ b below. steps b ∙ by was is before after b below;
}
  where
    by : (x y : Bool) → p a ≡ not x → q a ≡ not y → (b : ℕ) → b < n → after_turn x y atoms old b ≡ Some (how_many q (lists b))
    by true true first second b below = are.each b below ∙ ap (λ (m : ℕ). Some m) (same_many p q (lists b) (same_truths p q a each (first ∙ sym second)))
    by false false first second b below = are.each b below ∙ ap (λ (m : ℕ). Some m) (same_many p q (lists b) (same_truths p q a each (first ∙ sym second)))
    by true false first second b below = stepped_numbers n lists atoms p q a true old distinct few told each first second are b below
    by false true first second b below = stepped_numbers n lists atoms p q a false old distinct few told each first second are b below

-- the states of two moments agree but at an atom
other_states : (s t : Snapshot) (a : ℕ) (to : AtomState) (test : AtomState → Bool) → ((b : ℕ) → t.state b ≡ (if nat_eq a b then to else s.state b)) → (b : ℕ) → nat_eq a b ≡ false → test (s.state b) ≡ test (t.state b)
other_states s t a to test each b other = ap test (sym (each b ∙ ap (λ (x : Bool). if x then to else s.state b) other))

its_state : (s t : Snapshot) (a : ℕ) (to : AtomState) → ((b : ℕ) → t.state b ≡ (if nat_eq a b then to else s.state b)) → t.state a ≡ to
its_state s t a to each = each a ∙ ap (λ (x : Bool). if x then to else s.state a) (eq-eqb a a refl)

same_turn : (x y x' y' : Bool) (atoms atoms' counts : List ℕ) (b : ℕ) → x ≡ x' → y ≡ y' → atoms ≡ atoms' → after_turn x y atoms counts b ≡ after_turn x' y' atoms' counts b
same_turn x y x' y' atoms atoms' counts b first second they =
    ap (λ (z : Bool). after_turn z y atoms counts b) first
    ∙ (ap (λ (z : Bool). after_turn x' z atoms counts b) second ∙ ap (λ (xs : List ℕ). after_turn x' y' xs counts b) they)

pub waiting_moved : (plan : Outline) (s t : Snapshot) (a : ℕ) (from to : AtomState) (x y : Bool) (atoms old new : List ℕ) → count plan ≤ 1000 → x ≡ is_done from → y ≡ is_done to → atoms ≡ successors_of plan a → s.state a ≡ from → ((b : ℕ) → t.state b ≡ (if nat_eq a b then to else s.state b))
    → length new ≡ length old → ((b : ℕ) → slice_get new b ≡ after_turn x y atoms old b)
    → AreNumbers (count plan) (waiting_of plan s) old → AreNumbers (count plan) (waiting_of plan t) new
unfolding waiting_of
waiting_moved plan s t a from to x y atoms old new few first second they was each as_many steps are =
    turned_numbers (count plan) (predecessors_of plan) (successors_of plan a) (is_undone s) (is_undone t) a (is_done from) (is_done to) old new
    (predecessors_distinct plan) (λ b. let most = few_before plan b in omega (arith, most, few)) (λ b. successor_told plan a b ∙ sym (predecessor_told plan a b))
    (other_states s t a to (λ state. not (is_done state)) each) (ap (λ (state : AtomState). not (is_done state)) was) (ap (λ (state : AtomState). not (is_done state)) (its_state s t a to each))
    as_many (λ b. steps b ∙ same_turn x y (is_done from) (is_done to) atoms (successors_of plan a) old b first second they) are

pub holding_moved : (plan : Outline) (s t : Snapshot) (a : ℕ) (from to : AtomState) (x y : Bool) (atoms old new : List ℕ) → count plan ≤ 1000 → x ≡ is_settled from → y ≡ is_settled to → atoms ≡ predecessors_of plan a → s.state a ≡ from → ((b : ℕ) → t.state b ≡ (if nat_eq a b then to else s.state b))
    → length new ≡ length old → ((b : ℕ) → slice_get new b ≡ after_turn x y atoms old b)
    → AreNumbers (count plan) (holding_of plan s) old → AreNumbers (count plan) (holding_of plan t) new
unfolding holding_of
holding_moved plan s t a from to x y atoms old new few first second they was each as_many steps are =
    turned_numbers (count plan) (successors_of plan) (predecessors_of plan a) (is_unsettled s) (is_unsettled t) a (is_settled from) (is_settled to) old new
    (successors_distinct plan) (λ b. let most = few_after plan b in omega (arith, most, few)) (λ b. predecessor_told plan b a ∙ sym (successor_told plan b a))
    (other_states s t a to (λ state. not (is_settled state)) each) (ap (λ (state : AtomState). not (is_settled state)) was) (ap (λ (state : AtomState). not (is_settled state)) (its_state s t a to each))
    as_many (λ b. steps b ∙ same_turn x y (is_settled from) (is_settled to) atoms (predecessors_of plan a) old b first second they) are

-- ---- whether a truth turned

pub not_turned : (was is : Bool) (atoms counts : List ℕ) (a : ℕ) → was ≡ is → slice_get counts a ≡ after_turn was is atoms counts a
not_turned true true atoms counts a same = refl
not_turned false false atoms counts a same = refl
not_turned true false atoms counts a same = absurd (cc)
not_turned false true atoms counts a same = absurd (cc)

pub has_turned : (was is : Bool) (atoms counts : List ℕ) (a : ℕ) → was ≢ is → after_steps was atoms counts a ≡ after_turn was is atoms counts a
has_turned true true atoms counts a other = absurd (other refl)
has_turned false false atoms counts a other = absurd (other refl)
has_turned true false atoms counts a other = refl
has_turned false true atoms counts a other = refl
