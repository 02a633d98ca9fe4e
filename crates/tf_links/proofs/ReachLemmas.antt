-- Which item reaches which, by way of one pivot after another.
use Rattle.std.proofs.Common.{◌≡◌, ◌≢◌, ℕ, zero, suc, ◌+◌, ◌<◌, ◌≤◌, List, [], ◌∷◌, ◌++◌, length, take, reverse, Bool, true, false, ◌&&◌, ◌||◌, not, None, refl, sym, ap, subst, ◌∙◌, add-one, inl, inr, ◌⊎◌, arith, eqb-true, eq-eqb, slice_index_or, slice_set}
use Rattle.std.specs.Prelude.{nat_eq, nat_lt, if◌then◌else◌}
use Rattle.std.proofs.lemmas.Bool.{cases_lt, ltb-true, lt-ltb}
use Rattle.std.proofs.lemmas.List.{reverse-append}
use Rattle.tf_numbers.specs.Numbers.{first_below, which_below, has_number, Pair, has_pair}
use Rattle.tf_links.specs.Graphs.{leads_by, reached_by, reached}
use Rattle.tf_numbers.proofs.TruthLemmas.{and_first, and_second, or_either, true_first, true_second, true_both, same_truth, never_true, clash, and_false, neither_second, or_chain, or_false, or_nothing, or_turn}
use Rattle.tf_numbers.proofs.BelowLemmas.{all_at, none_at}
use Rattle.tf_numbers.proofs.PairLemmas.{pair_passes, which_passes, passes_which}
use Rattle.tf_links.proofs.BitLemmas.{past_none}
use Rattle.tf_links.proofs.ReachedLemmas.{reached_chain, reached_keeps}
use Rattle.tf_links.specs.Bits.{has, has_if, is_within, room, words_for}
use Rattle.tf_links.specs.Links.{leads, IsSquare, LinksValue, AreLinks, leads_by_path, AreReached, ArePivots}
use Rattle.tf_numbers.proofs.EquationLemmas.{ap2}
use Rattle.tf_links.proofs.LinkLemmas.{past_row, row_zero, row_read, set_row}
use Rattle.tf_links.proofs.StandingLemmas.{number_more, taking_next, taking_none, taking_all, next_within}
use Rattle.tf_numbers.proofs.NumberLemmas.{turn_eq}

-- ---- pivots

pub pivots_start : (count : ℕ) (among pivots : List ℕ) → pivots ≡ [] → length among ≡ words_for count → ((k : ℕ) → has among k ≡ false) → ArePivots count among pivots
pivots_start count among pivots none wide nothing = record {
  width = wide;
  listed = λ k. nothing k ∙ sym (ap (λ (xs : List ℕ). has_number xs k) none);
  within = λ k on. absurd (clash (has_number pivots k) on (ap (λ (xs : List ℕ). has_number xs k) none));
}

pub pivots_more : (count : ℕ) (among pivots among_new : List ℕ) (item : ℕ) → ArePivots count among pivots → item < count → length among_new ≡ length among → ((k : ℕ) → has among_new k ≡ (nat_eq item k || has among k))
    → ArePivots count among_new (pivots ++ item ∷ [])
pivots_more count among pivots among_new item is below wide more = record {
  width = wide ∙ is.width;
  listed = λ k. more k ∙ (ap2 (λ (a b : Bool). a || b) (turn_eq item k) (is.listed k) ∙ (or_turn (nat_eq k item) (has_number pivots k) ∙ sym (number_more pivots item k)));
  within = λ k on. elim (or_either (has_number pivots k) (nat_eq k item) (sym (number_more pivots item k) ∙ on)) [
    | inl before ↦ is.within k before
    | inr last ↦ let same : k ≡ item = eqb-true k item last in omega (arith, same, below)
  ];
}

pub kept_pivot : (pivots : List ℕ) (item k : ℕ) → has_number pivots k ≡ true → has_number (pivots ++ item ∷ []) k ≡ true
kept_pivot pivots item k on = number_more pivots item k ∙ true_first (has_number pivots k) (nat_eq k item) on

pub new_pivot : (pivots : List ℕ) (item : ℕ) → has_number (pivots ++ item ∷ []) item ≡ true
new_pivot pivots item = number_more pivots item item ∙ true_second (has_number pivots item) (nat_eq item item) (eq-eqb item item refl)

-- ---- one pivot

-- the rows below i have what the pivot leads to, where they lead to the pivot
pub record PassedBelow (count : ℕ) (old : List (List ℕ)) (pivot : ℕ) (through : List ℕ) (rows : List (List ℕ)) (i : ℕ) : Type 0 where
  pub square : IsSquare count rows
  pub told : (u v : ℕ) → leads rows u v ≡ (leads old u v || ((nat_lt u i && leads old u pivot) && has through v))

-- a row with nothing in it passes nothing on
pub passed_nothing : (old : List (List ℕ)) (pivot : ℕ) (through : List ℕ) → first_below (room through) (has through) ≡ None → (u v : ℕ) → leads old u v ≡ (leads old u v || (leads old u pivot && has through v))
passed_nothing old pivot through none u v = or_nothing (leads old u v) _ (ap (λ (b : Bool). leads old u pivot && b) nothing ∙ and_false (leads old u pivot))
  where
    nothing : has through v ≡ false
    nothing = elim (cases_lt v (room through)) [
      | inl within ↦ none_at (room through) (has through) v none within
      | inr past ↦ past_none through v (omega (arith, past))
    ]

pub passed_start : (old : List (List ℕ)) (pivot : ℕ) (through : List ℕ) (count : ℕ) → IsSquare count old → PassedBelow count old pivot through old 0
passed_start old pivot through count square = record {
  square = square;
  told = λ u v. or_nothing (leads old u v) _ (ap (λ (b : Bool). (b && leads old u pivot) && has through v) (never_true (nat_lt u 0) (λ less. let below : u < 0 = ltb-true u 0 less in omega (arith, below))));
}

lt_more : (u i : ℕ) → nat_eq i u ≡ false → nat_lt u i ≡ nat_lt u (i + 1)
lt_more u i other = same_truth (nat_lt u i) (nat_lt u (i + 1))
    (λ less. let below : u < i = ltb-true u i less in lt-ltb u (i + 1) (omega (arith, below)))
    (λ less. let below : u < i + 1 = ltb-true u (i + 1) less in let differ : i ≢ u = λ same. clash (nat_eq i u) (eq-eqb i u same) other in lt-ltb u i (omega (arith, below, differ)))

pub row_kept : (rows : List (List ℕ)) (u pivot : ℕ) (through : List ℕ) → leads rows u pivot ≡ false → (a b : ℕ) → leads rows a b ≡ (leads rows a b || (nat_eq u a && (leads rows u pivot && has through b)))
row_kept rows u pivot through off a b = or_nothing (leads rows a b) _ (ap (λ (c : Bool). nat_eq u a && (c && has through b)) off ∙ and_false (nat_eq u a))

pub row_joined : (rows : List (List ℕ)) (u pivot : ℕ) (through row row_old : List ℕ) → u < length rows → leads rows u pivot ≡ true → row_old ≡ slice_index_or rows u row_old → ((k : ℕ) → has row k ≡ (has row_old k || has through k)) → (a b : ℕ)
    → leads (slice_set rows u row) a b ≡ (leads rows a b || (nat_eq u a && (leads rows u pivot && has through b)))
row_joined rows u pivot through row row_old below on read joined a b = set_row rows u row a b below ∙ by_row (nat_eq u a) refl
  where
    by_row : (c : Bool) → nat_eq u a ≡ c → (if c then has row b else leads rows a b) ≡ (leads rows a b || (c && (leads rows u pivot && has through b)))
    by_row true same = joined b ∙ (ap2 (λ (x y : Bool). x || y) (row_read rows u b row_old below read ∙ ap (λ (k : ℕ). leads rows k b) (eqb-true u a same)) (ap (λ (x : Bool). x && has through b) (sym on)))
    by_row false other = sym (or_false (leads rows a b))

-- the row i is passed
pub passed_next : (count : ℕ) (old : List (List ℕ)) (pivot : ℕ) (through : List ℕ) (rows rows_new : List (List ℕ)) (i : ℕ) → PassedBelow count old pivot through rows i → IsSquare count rows_new
    → ((a b : ℕ) → leads rows_new a b ≡ (leads rows a b || (nat_eq i a && (leads rows i pivot && has through b)))) → PassedBelow count old pivot through rows_new (i + 1)
passed_next count old pivot through rows rows_new i is square more = record { square = square; told = λ u v. more u v ∙ by_row u v (nat_eq i u) refl }
  where
    not_yet : nat_lt i i ≡ false
    not_yet = never_true (nat_lt i i) (λ less. let no : i < i = ltb-true i i less in omega (arith, no))

    told_here : (v : ℕ) → leads rows i v ≡ leads old i v
    told_here v = is.told i v ∙ (ap (λ (b : Bool). leads old i v || ((b && leads old i pivot) && has through v)) not_yet ∙ or_false (leads old i v))

    by_row : (u v : ℕ) (b : Bool) → nat_eq i u ≡ b → (leads rows u v || (b && (leads rows i pivot && has through v))) ≡ (leads old u v || ((nat_lt u (i + 1) && leads old u pivot) && has through v))
    by_row u v true same = let e : i ≡ u = eqb-true i u same in
        ap (λ (k : ℕ). leads rows k v || (leads rows i pivot && has through v)) (sym e)
        ∙ (ap2 (λ (x y : Bool). x || (y && has through v)) (told_here v) (told_here pivot)
        ∙ (ap (λ (b : Bool). leads old i v || ((b && leads old i pivot) && has through v)) (sym (lt-ltb i (i + 1) (omega arith)))
        ∙ ap (λ (k : ℕ). leads old k v || ((nat_lt k (i + 1) && leads old k pivot) && has through v)) e))
    by_row u v false other = or_false (leads rows u v) ∙ (is.told u v ∙ ap (λ (b : Bool). leads old u v || ((b && leads old u pivot) && has through v)) (lt_more u i other))

pub passed_all : (count : ℕ) (old : List (List ℕ)) (pivot : ℕ) (through : List ℕ) (rows : List (List ℕ)) (i : ℕ) → PassedBelow count old pivot through rows i → IsSquare count old → count ≤ i → (u v : ℕ) → leads rows u v ≡ (leads old u v || (leads old u pivot && has through v))
passed_all count old pivot through rows i is square whole u v = is.told u v ∙ elim (cases_lt u i) [
  | inl below ↦ ap (λ (b : Bool). leads old u v || ((b && leads old u pivot) && has through v)) (lt-ltb u i below)
  | inr past ↦ let none : leads old u pivot ≡ false = sym (past_row old u pivot (omega (arith, square.height, whole, past))) in
      ap (λ (b : Bool). leads old u v || (b && has through v)) (ap (λ (b : Bool). nat_lt u i && b) none ∙ (and_false (nat_lt u i) ∙ sym none))
]

-- ---- one pivot, by way of the items that may lead to it

-- the rows of these items have what the pivot leads to, where they lead to the pivot
pub record PassedAmong (count : ℕ) (old : List (List ℕ)) (pivot : ℕ) (through : List ℕ) (rows : List (List ℕ)) (items : List ℕ) : Type 0 where
  pub square : IsSquare count rows
  pub told : (u v : ℕ) → leads rows u v ≡ (leads old u v || ((has_number items u && leads old u pivot) && has through v))

or_again : (o d a t : Bool) → (o || ((d && a) && t)) || (a && t) ≡ o || (((d || true) && a) && t)
or_again true true true true = refl
or_again true true true false = refl
or_again true true false true = refl
or_again true true false false = refl
or_again true false true true = refl
or_again true false true false = refl
or_again true false false true = refl
or_again true false false false = refl
or_again false true true true = refl
or_again false true true false = refl
or_again false true false true = refl
or_again false true false false = refl
or_again false false true true = refl
or_again false false true false = refl
or_again false false false true = refl
or_again false false false false = refl

or_absorbed : (a d t : Bool) → (a || ((d && a) && t)) ≡ a
or_absorbed true true true = refl
or_absorbed true true false = refl
or_absorbed true false true = refl
or_absorbed true false false = refl
or_absorbed false true true = refl
or_absorbed false true false = refl
or_absorbed false false true = refl
or_absorbed false false false = refl

pub among_start : (count : ℕ) (old : List (List ℕ)) (pivot : ℕ) (through items : List ℕ) → IsSquare count old → PassedAmong count old pivot through old (take 0 items)
among_start count old pivot through items square = record {
  square = square;
  told = λ u v. or_nothing (leads old u v) _ (ap (λ (xs : List ℕ). (has_number xs u && leads old u pivot) && has through v) (taking_none items));
}

pub among_next : (count : ℕ) (old : List (List ℕ)) (pivot : ℕ) (through items : List ℕ) (rows new : List (List ℕ)) (i item : ℕ) → PassedAmong count old pivot through rows (take i items) → i < length items → item ≡ slice_index_or items i 0 → IsSquare count new
    → ((a b : ℕ) → leads new a b ≡ (leads rows a b || (nat_eq item a && (leads rows item pivot && has through b)))) → PassedAmong count old pivot through new (take (i + 1) items)
among_next count old pivot through items rows new i item is below read square more = record {
  square = square;
  told = λ u v. more u v ∙ (ap (λ (b : Bool). b || (nat_eq item u && (leads rows item pivot && has through v))) (is.told u v) ∙ (by_row u v (nat_eq item u) refl
      ∙ ap (λ (b : Bool). leads old u v || ((b && leads old u pivot) && has through v)) (sym (one_more u))));
}
  where
    one_more : (u : ℕ) → has_number (take (i + 1) items) u ≡ (has_number (take i items) u || nat_eq item u)
    one_more u = ap (λ (xs : List ℕ). has_number xs u) (ap (λ (n : ℕ). take n items) (add-one i) ∙ taking_next items i below)
        ∙ (number_more (take i items) (slice_index_or items i 0) u ∙ (ap (λ (n : ℕ). has_number (take i items) u || nat_eq u n) (sym read) ∙ ap (λ (b : Bool). has_number (take i items) u || b) (turn_eq u item)))

    led : leads rows item pivot ≡ leads old item pivot
    led = is.told item pivot ∙ or_absorbed (leads old item pivot) (has_number (take i items) item) (has through pivot)

    by_row : (u v : ℕ) (b : Bool) → nat_eq item u ≡ b → ((leads old u v || ((has_number (take i items) u && leads old u pivot) && has through v)) || (b && (leads rows item pivot && has through v)))
        ≡ (leads old u v || (((has_number (take i items) u || b) && leads old u pivot) && has through v))
    by_row u v true same =
        ap (λ (b : Bool). (leads old u v || ((has_number (take i items) u && leads old u pivot) && has through v)) || (b && has through v)) (led ∙ ap (λ (n : ℕ). leads old n pivot) (eqb-true item u same))
        ∙ or_again (leads old u v) (has_number (take i items) u) (leads old u pivot) (has through v)
    by_row u v false other = or_false _ ∙ ap (λ (b : Bool). leads old u v || ((b && leads old u pivot) && has through v)) (sym (or_false (has_number (take i items) u)))

pub among_all : (count : ℕ) (old : List (List ℕ)) (pivot : ℕ) (through items : List ℕ) (rows : List (List ℕ)) (i : ℕ) → PassedAmong count old pivot through rows (take i items) → length items ≤ i → ((u : ℕ) → leads old u pivot ≡ true → has_number items u ≡ true)
    → (u v : ℕ) → leads rows u v ≡ (leads old u v || (leads old u pivot && has through v))
among_all count old pivot through items rows i is whole all u v =
    is.told u v ∙ (ap (λ (xs : List ℕ). leads old u v || ((has_number xs u && leads old u pivot) && has through v)) (taking_all items i whole)
    ∙ ap (λ (b : Bool). leads old u v || (b && has through v)) (same_truth (has_number items u && leads old u pivot) (leads old u pivot)
    (λ both. and_second (has_number items u) (leads old u pivot) both)
    (λ on. true_both (has_number items u) (leads old u pivot) (all u on) on)))

-- all that lead to an item, by the rows of links turned round
pub led_from_all : (to from : List (List ℕ)) (count item : ℕ) (row items : List ℕ) → IsSquare count to → ((u v : ℕ) → leads to v u ≡ leads from u v) → item < count → row ≡ slice_index_or to item row → items ≡ which_below (room row) (has row)
    → (u : ℕ) → leads from u item ≡ true → has_number items u ≡ true
led_from_all to from count item row items square back below read are u on =
    let has_it : has row u ≡ true = row_read to item u row (omega (arith, square.height, below)) read ∙ (back u item ∙ on) in
    ap (λ (xs : List ℕ). has_number xs u) are ∙ elim (cases_lt u (room row)) [
      | inl within ↦ passes_which (room row) (has row) (nat_eq u) u within has_it (eq-eqb u u refl)
      | inr past ↦ absurd (clash (has row u) has_it (past_none row u (omega (arith, past))))
    ]

pub led_from_within : (to from : List (List ℕ)) (count item : ℕ) (row items : List ℕ) → IsSquare count to → IsSquare count from → ((u v : ℕ) → leads to v u ≡ leads from u v) → item < count → row ≡ slice_index_or to item row → items ≡ which_below (room row) (has row)
    → (u : ℕ) → has_number items u ≡ true → u < count
led_from_within to from count item row items square from_square back below read are u on =
    let found = which_passes (room row) (has row) (nat_eq u) (ap (λ (xs : List ℕ). has_number xs u) (sym are) ∙ on) in
    let same : u ≡ found.number = eqb-true u found.number found.passes in
    let leads_it : leads from u item ≡ true = sym (back u item) ∙ (sym (row_read to item u row (omega (arith, square.height, below)) read) ∙ (ap (has row) same ∙ found.tested)) in
    elim (cases_lt u count) [
      | inl within ↦ within
      | inr past ↦ absurd (clash (leads from u item) leads_it (sym (past_row from u item (omega (arith, past, from_square.height)))))
    ]

-- what isn't in a set isn't in another that is within it
pub passed_within : (through passed : List ℕ) (on : Bool) → on ≡ is_within through passed → on ≡ true → (k : ℕ) → has passed k ≡ false → has through k ≡ false
passed_within through passed on is within k out = elim (cases_lt k (room through)) [
  | inl below ↦ never_true (has through k) (λ has_it. clash (has_if through passed k) (all_at (room through) (has_if through passed) k (sym is ∙ within) below)
      (ap2 (λ (a b : Bool). not a || b) has_it out))
  | inr past ↦ past_none through k (omega (arith, past))
]

-- no row has got a pivot that isn't passed
abbrev pub IsKept : List (List ℕ) → List (List ℕ) → List ℕ → Type 0
IsKept links rows passed = (u w : ℕ) → has passed w ≡ false → leads rows u w ≡ leads links u w

pub kept_more : (links rows new : List (List ℕ)) (passed others through : List ℕ) (pivot : ℕ) → IsKept links rows passed → ((k : ℕ) → has others k ≡ (nat_eq pivot k || has passed k))
    → ((u v : ℕ) → leads new u v ≡ (leads rows u v || (leads rows u pivot && has through v))) → ((k : ℕ) → has others k ≡ false → has through k ≡ false) → IsKept links new others
kept_more links rows new passed others through pivot before set more within u w out =
    more u w
    ∙ (sym (or_nothing (leads rows u w) (leads rows u pivot && has through w) (ap (λ (b : Bool). leads rows u pivot && b) (within w out) ∙ and_false (leads rows u pivot)))
    ∙ before u w (neither_second (nat_eq pivot w) (has passed w) (sym (set w) ∙ out)))

-- ---- all pivots

-- a relation that what leads on is led on by
pub record IsClosed (R : ℕ → ℕ → Bool) : Type 0 where
  pub chain : (u v w : ℕ) → R u v ≡ true → R v w ≡ true → R u w ≡ true

-- what leads by way of pivots leads in each closed relation that the links are in
least_path : (test R : ℕ → ℕ → Bool) (pivots : List ℕ) → IsClosed R → ((u v : ℕ) → test u v ≡ true → R u v ≡ true) → (u v : ℕ) → leads_by_path test pivots u v ≡ true → R u v ≡ true
least_path test R [] closed within u v is = within u v is
least_path test R (k ∷ ks) closed within u v is = elim (or_either (leads_by_path test ks u v) (leads_by_path test ks u k && leads_by_path test ks k v) is) [
  | inl at_once ↦ least_path test R ks closed within u v at_once
  | inr by ↦ closed.chain u k v (least_path test R ks closed within u k (and_first (leads_by_path test ks u k) (leads_by_path test ks k v) by)) (least_path test R ks closed within k v (and_second (leads_by_path test ks u k) (leads_by_path test ks k v) by))
]

-- what leads at once leads by way of pivots
path_keeps : (test : ℕ → ℕ → Bool) (pivots : List ℕ) (u v : ℕ) → test u v ≡ true → leads_by_path test pivots u v ≡ true
path_keeps test [] u v is = is
path_keeps test (k ∷ ks) u v is = true_first (leads_by_path test ks u v) _ (path_keeps test ks u v is)

path_on : (test : ℕ → ℕ → Bool) (ks : List ℕ) (k w u v : ℕ) → ((a b : ℕ) → leads_by_path test ks a w ≡ true → leads_by_path test ks w b ≡ true → leads_by_path test ks a b ≡ true)
    → (leads_by_path test ks u w ≡ true) ⊎ ((leads_by_path test ks u k && leads_by_path test ks k w) ≡ true) → (leads_by_path test ks w v ≡ true) ⊎ ((leads_by_path test ks w k && leads_by_path test ks k v) ≡ true) → leads_by_path test (k ∷ ks) u v ≡ true
path_on test ks k w u v closed (inl uw) (inl wv) = true_first (leads_by_path test ks u v) _ (closed u v uw wv)
path_on test ks k w u v closed (inl uw) (inr wkv) = true_second (leads_by_path test ks u v) _ (true_both (leads_by_path test ks u k) (leads_by_path test ks k v)
    (closed u k uw (and_first (leads_by_path test ks w k) (leads_by_path test ks k v) wkv)) (and_second (leads_by_path test ks w k) (leads_by_path test ks k v) wkv))
path_on test ks k w u v closed (inr ukw) (inl wv) = true_second (leads_by_path test ks u v) _ (true_both (leads_by_path test ks u k) (leads_by_path test ks k v)
    (and_first (leads_by_path test ks u k) (leads_by_path test ks k w) ukw) (closed k v (and_second (leads_by_path test ks u k) (leads_by_path test ks k w) ukw) wv))
path_on test ks k w u v closed (inr ukw) (inr wkv) = true_second (leads_by_path test ks u v) _ (true_both (leads_by_path test ks u k) (leads_by_path test ks k v)
    (and_first (leads_by_path test ks u k) (leads_by_path test ks k w) ukw) (and_second (leads_by_path test ks w k) (leads_by_path test ks k v) wkv))

to_pivot : (test : ℕ → ℕ → Bool) (ks : List ℕ) (k u : ℕ) → leads_by_path test (k ∷ ks) u k ≡ true → leads_by_path test ks u k ≡ true
to_pivot test ks k u is = elim (or_either (leads_by_path test ks u k) (leads_by_path test ks u k && leads_by_path test ks k k) is) [ inl at_once ↦ at_once | inr by ↦ and_first (leads_by_path test ks u k) (leads_by_path test ks k k) by ]

from_pivot : (test : ℕ → ℕ → Bool) (ks : List ℕ) (k v : ℕ) → leads_by_path test (k ∷ ks) k v ≡ true → leads_by_path test ks k v ≡ true
from_pivot test ks k v is = elim (or_either (leads_by_path test ks k v) (leads_by_path test ks k k && leads_by_path test ks k v) is) [ inl at_once ↦ at_once | inr by ↦ and_second (leads_by_path test ks k k) (leads_by_path test ks k v) by ]

-- it is closed at each pivot
path_closed : (test : ℕ → ℕ → Bool) (pivots : List ℕ) (w : ℕ) → has_number pivots w ≡ true → (u v : ℕ) → leads_by_path test pivots u w ≡ true → leads_by_path test pivots w v ≡ true → leads_by_path test pivots u v ≡ true
path_closed test [] w on u v first second = absurd (cc)
path_closed test (k ∷ ks) w on u v first second = elim (or_either (nat_eq w k) (has_number ks w) on) [
  | inl here ↦ let same : w ≡ k = eqb-true w k here in
      true_second (leads_by_path test ks u v) (leads_by_path test ks u k && leads_by_path test ks k v)
      (true_both (leads_by_path test ks u k) (leads_by_path test ks k v)
      (to_pivot test ks k u (ap (λ (m : ℕ). leads_by_path test (k ∷ ks) u m) (sym same) ∙ first)) (from_pivot test ks k v (ap (λ (m : ℕ). leads_by_path test (k ∷ ks) m v) (sym same) ∙ second)))
  | inr among ↦ path_on test ks k w u v (λ a b. path_closed test ks w among a b)
      (or_either (leads_by_path test ks u w) (leads_by_path test ks u k && leads_by_path test ks k w) first) (or_either (leads_by_path test ks w v) (leads_by_path test ks w k && leads_by_path test ks k v) second)
]

-- what leads by way of pivots leads to a number below the count, where each link does
path_within : (test : ℕ → ℕ → Bool) (pivots : List ℕ) (count : ℕ) → ((u v : ℕ) → test u v ≡ true → v < count) → (u v : ℕ) → leads_by_path test pivots u v ≡ true → v < count
path_within test [] count within u v is = within u v is
path_within test (k ∷ ks) count within u v is = elim (or_either (leads_by_path test ks u v) (leads_by_path test ks u k && leads_by_path test ks k v) is) [
  | inl at_once ↦ path_within test ks count within u v at_once
  | inr by ↦ path_within test ks count within k v (and_second (leads_by_path test ks u k) (leads_by_path test ks k v) by)
]

-- what is reached leads in each closed relation that the pairs are in
least_reached : (n : ℕ) (pairs : List Pair) (R : ℕ → ℕ → Bool) (k : ℕ) → IsClosed R → ((u v : ℕ) → has_pair pairs u v ≡ true → R u v ≡ true) → (u v : ℕ) → has_pair (reached_by n pairs k) u v ≡ true → R u v ≡ true
least_reached n pairs R zero closed within u v is = within u v is
least_reached n pairs R (suc k) closed within u v is =
    let passes = pair_passes n (leads_by (reached_by n pairs k) k) u v is in
    elim (or_either (has_pair (reached_by n pairs k) u v) (has_pair (reached_by n pairs k) u k && has_pair (reached_by n pairs k) k v) passes.tested) [
      | inl at_once ↦ least_reached n pairs R k closed within u v at_once
      | inr by ↦ closed.chain u k v
          (least_reached n pairs R k closed within u k (and_first (has_pair (reached_by n pairs k) u k) (has_pair (reached_by n pairs k) k v) by))
          (least_reached n pairs R k closed within k v (and_second (has_pair (reached_by n pairs k) u k) (has_pair (reached_by n pairs k) k v) by))
    ]

pub path_reached : (links : LinksValue) (pairs : List Pair) (pivots : List ℕ) → AreLinks links pairs → ((k : ℕ) → k < links.count → has_number pivots k ≡ true) → (u v : ℕ)
    → leads_by_path (leads links.rows) pivots u v ≡ has_pair (reached links.count pairs) u v
path_reached links pairs pivots are all u v =
    let within : (a b : ℕ) → leads links.rows a b ≡ true → b < links.count = λ a b on. are.second a b (sym (are.same a b) ∙ on) in
    same_truth (leads_by_path (leads links.rows) pivots u v) (has_pair (reached links.count pairs) u v)
    (λ is. least_path (leads links.rows) (has_pair (reached links.count pairs)) pivots (record { chain = λ a b d. reached_chain links.count pairs are.second a b d })
    (λ a b on. let pair_on : has_pair pairs a b ≡ true = sym (are.same a b) ∙ on in reached_keeps links.count pairs links.count a b (are.first a b pair_on) (are.second a b pair_on) pair_on) u v is)
    (λ is. least_reached links.count pairs (leads_by_path (leads links.rows) pivots) links.count
    (record { chain = λ a b d first second. path_closed (leads links.rows) pivots b (all b (path_within (leads links.rows) pivots links.count within a b first)) a d first second })
    (λ a b on. path_keeps (leads links.rows) pivots a b (are.same a b ∙ on)) u v is)

has_both_lists : (xs ys : List ℕ) (k : ℕ) → has_number (xs ++ ys) k ≡ (has_number xs k || has_number ys k)
has_both_lists [] ys k = refl
has_both_lists (x ∷ xs) ys k = ap (λ (b : Bool). nat_eq k x || b) (has_both_lists xs ys k) ∙ or_chain (nat_eq k x) (has_number xs k) (has_number ys k)

pub reversed_has : (xs : List ℕ) (k : ℕ) → has_number (reverse xs) k ≡ has_number xs k
reversed_has [] k = refl
reversed_has (x ∷ xs) k = ap (λ (ys : List ℕ). has_number ys k) (reverse-append (x ∷ []) xs) ∙ (number_more (reverse xs) x k ∙ (ap (λ (b : Bool). b || nat_eq k x) (reversed_has xs k) ∙ or_turn (has_number xs k) (nat_eq k x)))

pub reversed_next : (xs : List ℕ) (i : ℕ) → i < length xs → reverse (take (i + 1) xs) ≡ slice_index_or xs i 0 ∷ reverse (take i xs)
reversed_next xs i below = ap reverse (ap (λ (n : ℕ). take n xs) (add-one i) ∙ taking_next xs i below) ∙ reverse-append (take i xs) (slice_index_or xs i 0 ∷ [])

-- ---- the rows after some pivots

-- the rows tell what leads by way of these pivots, the last one first
pub record Reaching (links : LinksValue) (rows : List (List ℕ)) (pivots : List ℕ) : Type 0 where
  pub square : IsSquare links.count rows
  pub told : (u v : ℕ) → leads rows u v ≡ leads_by_path (leads links.rows) pivots u v

pub reaching_start : (links : LinksValue) (rows : List (List ℕ)) (pivots : List ℕ) → rows ≡ links.rows → IsSquare links.count links.rows → Reaching links rows (reverse (take 0 pivots))
reaching_start links rows pivots same square = record { square = subst (IsSquare links.count) (sym same) square; told = λ u v. ap (λ (rs : List (List ℕ)). leads rs u v) same ∙ ap (λ (ps : List ℕ). leads_by_path (leads links.rows) (reverse ps) u v) (sym (taking_none pivots)) }

pub reaching_more : (links : LinksValue) (rows rows_new : List (List ℕ)) (pivots : List ℕ) (i : ℕ) (through : List ℕ) → Reaching links rows (reverse (take i pivots)) → i < length pivots → slice_index_or pivots i 0 < links.count
    → through ≡ slice_index_or rows (slice_index_or pivots i 0) through → IsSquare links.count rows_new
    → ((u v : ℕ) → leads rows_new u v ≡ (leads rows u v || (leads rows u (slice_index_or pivots i 0) && has through v))) → Reaching links rows_new (reverse (take (i + 1) pivots))
reaching_more links rows rows_new pivots i through is below within read square more = record {
  square = square;
  told = λ u v. more u v ∙ (ap (λ (b : Bool). leads rows u v || (leads rows u (slice_index_or pivots i 0) && b)) (row_read rows (slice_index_or pivots i 0) v through (omega (arith, is.square.height, within)) read)
      ∙ (ap2 (λ (a b : Bool). a || b) (is.told u v) (ap2 (λ (a b : Bool). a && b) (is.told u (slice_index_or pivots i 0)) (is.told (slice_index_or pivots i 0) v))
      ∙ ap (λ (ps : List ℕ). leads_by_path (leads links.rows) ps u v) (sym (reversed_next pivots i below))));
}

pub reaching_all : (links : LinksValue) (rows : List (List ℕ)) (pivots : List ℕ) (i : ℕ) → Reaching links rows (reverse (take i pivots)) → length pivots ≤ i → ((k : ℕ) → k < links.count → has_number pivots k ≡ true)
    → (pairs : List Pair) → AreLinks links pairs → AreReached links.count (reached links.count pairs) rows
reaching_all links rows pivots i is whole all pairs are = record {
  square = is.square;
  same = λ u v. is.told u v ∙ (ap (λ (ps : List ℕ). leads_by_path (leads links.rows) (reverse ps) u v) (taking_all pivots i whole)
      ∙ path_reached links pairs (reverse pivots) are (λ k below. reversed_has pivots k ∙ all k below) u v);
}

pub pivot_within : (pivots : List ℕ) (count i : ℕ) → ((k : ℕ) → has_number pivots k ≡ true → k < count) → i < length pivots → slice_index_or pivots i 0 < count
pivot_within pivots count i within below = next_within count i pivots within below

pub row_width : (count : ℕ) (rows : List (List ℕ)) (u : ℕ) (row : List ℕ) → IsSquare count rows → u < count → row ≡ slice_index_or rows u row → length row ≡ words_for count
row_width count rows u row is below read = ap length (row_zero rows u row (omega (arith, is.height, below)) read) ∙ is.width u below

pub read_same : (rows : List (List ℕ)) (i : ℕ) (v w : List ℕ) → v ≡ w → w ≡ slice_index_or rows i w → v ≡ slice_index_or rows i v
read_same rows i v w same read = same ∙ (read ∙ ap (λ (d : List ℕ). slice_index_or rows i d) (sym same))

pub square_of : (count other : ℕ) (rows : List (List ℕ)) → count ≡ other → IsSquare count rows → IsSquare other rows
square_of count other rows same is = subst (λ (n : ℕ). IsSquare n rows) same is
