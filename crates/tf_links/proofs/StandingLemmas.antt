-- The standing order of items, by sets of those that are done and those that are ready.
use Rattle.std.proofs.Common.{◌≡◌, ◌≢◌, ℕ, zero, suc, ◌+◌, ◌*◌, ◌<◌, ◌≤◌, List, [], ◌∷◌, ◌++◌, length, take, Bool, true, false, ◌&&◌, ◌||◌, not, Option, Some, None, refl, sym, ap, ◌∙◌, add-one, inl, inr, arith, eqb-true, eq-eqb, slice_index_or}
use Rattle.std.specs.Prelude.{nat_eq, nat_lt, if◌then◌else◌}
use Rattle.std.specs.List.{list_all}
use Rattle.std.proofs.lemmas.Bool.{cases_lt, ltb-true, lt-ltb}
use Rattle.tf_numbers.specs.Numbers.{all_below, first_below, which_below, has_number, Pair, has_pair}
use Rattle.tf_links.specs.Graphs.{is_behind, is_next, take_one, take_items}
use Rattle.tf_numbers.proofs.TruthLemmas.{and_first, and_second, or_either, true_first, true_second, true_both, same_truth, never_true, clash, and_false, or_chain, or_false, or_of_not, or_true}
use Rattle.tf_numbers.proofs.PairLemmas.{which_passes, passes_which}
use Rattle.tf_links.specs.Bits.{has, room, has_if, is_within, words_for}
use Rattle.tf_links.specs.Links.{leads, IsSquare, LinksValue, AreLinks, lets_take, is_ready, AreReady, Taken}
use Rattle.tf_numbers.proofs.BelowLemmas.{all_at, all_of, all_same, all_more, first_same, first_more, found_passes}
use Rattle.tf_links.proofs.BitLemmas.{past_none}
use Rattle.tf_numbers.proofs.EquationLemmas.{ap2}
use Rattle.tf_links.proofs.LinkLemmas.{past_row, row_zero, row_read}

-- ---- one item

pub within_takes : (count : ℕ) (from to : List (List ℕ)) (done : List ℕ) (w : ℕ) (row : List ℕ) → IsSquare count from → IsSquare count to
    → ((u v : ℕ) → leads to v u ≡ leads from u v) → w < count → row ≡ slice_index_or to w row → is_within row done ≡ all_below count (lets_take from done w)
within_takes count from to done w row from_is to_is back below read =
    let wide : length row ≡ words_for count = ap length (row_zero to w row (omega (arith, to_is.height, below)) read) ∙ to_is.width w below in
    all_same (room row) (has_if row done) (lets_take from done w) (λ u within.
    ap (λ (b : Bool). not b || has done u) (row_read to w u row (omega (arith, to_is.height, below)) read ∙ back u w))
    ∙ all_more count (room row) (lets_take from done w) (omega (arith, wide)) (λ u above within.
    ap (λ (b : Bool). not b || has done u) (sym (past_row from u w (omega (arith, from_is.height, above)))))

pub ready_read : (links : LinksValue) (from to : List (List ℕ)) (done : List ℕ) (w : ℕ) (row : List ℕ) → from ≡ links.rows → IsSquare links.count from → IsSquare links.count to
    → ((u v : ℕ) → leads to v u ≡ leads from u v) → w < links.count → row ≡ slice_index_or to w row → has done w ≡ false → is_within row done ≡ is_ready links done w
unfolding is_ready
ready_read links from to done w row same from_is to_is back below read undone =
    within_takes links.count from to done w row from_is to_is back below read
    ∙ (ap (λ (rows : List (List ℕ)). all_below links.count (lets_take rows done w)) same ∙ ap (λ (b : Bool). not b && all_below links.count (lets_take links.rows done w)) (sym undone))

pub not_ready : (links : LinksValue) (done : List ℕ) (w : ℕ) → has done w ≡ true → false ≡ is_ready links done w
unfolding is_ready
not_ready links done w is = ap (λ (b : Bool). not b && all_below links.count (lets_take links.rows done w)) (sym is)

-- ---- the items that are ready at first

-- the items below i were looked at
pub record ReadyBelow (links : LinksValue) (done ready : List ℕ) (i : ℕ) : Type 0 where
  pub width : length ready ≡ words_for links.count
  pub told : (w : ℕ) → has ready w ≡ (nat_lt w i && is_ready links done w)

lt_false : (a b : ℕ) → b ≤ a → nat_lt a b ≡ false
lt_false a b less = never_true (nat_lt a b) (λ is. let below : a < b = ltb-true a b is in omega (arith, below, less))

pub ready_start : (links : LinksValue) (done ready : List ℕ) → length ready ≡ words_for links.count → ((w : ℕ) → has ready w ≡ false) → ReadyBelow links done ready 0
ready_start links done ready wide none = record { width = wide; told = λ w. none w ∙ sym (ap (λ (b : Bool). b && is_ready links done w) (lt_false w 0 (omega arith))) }

pub ready_more : (links : LinksValue) (done ready new : List ℕ) (i : ℕ) (on : Bool) → ReadyBelow links done ready i → length new ≡ length ready → on ≡ is_ready links done i
    → ((w : ℕ) → has new w ≡ (if nat_eq i w then on else has ready w)) → ReadyBelow links done new (i + 1)
ready_more links done ready new i on before wide is set = record { width = wide ∙ before.width; told = λ w. set w ∙ by_item w (nat_eq i w) refl }
  where
    by_item : (w : ℕ) (b : Bool) → nat_eq i w ≡ b → (if b then on else has ready w) ≡ (nat_lt w (i + 1) && is_ready links done w)
    by_item w true same = is ∙ (ap (is_ready links done) (eqb-true i w same) ∙ sym (ap (λ (b : Bool). b && is_ready links done w) (lt-ltb w (i + 1) (let e : i ≡ w = eqb-true i w same in omega (arith, e)))))
    by_item w false other = before.told w ∙ ap (λ (b : Bool). b && is_ready links done w)
        (same_truth (nat_lt w i) (nat_lt w (i + 1))
        (λ less. let below : w < i = ltb-true w i less in lt-ltb w (i + 1) (omega (arith, below)))
        (λ less. let below : w < i + 1 = ltb-true w (i + 1) less in
        let differ : i ≢ w = λ same. clash (nat_eq i w) (eq-eqb i w same) other in lt-ltb w i (omega (arith, below, differ))))

pub ready_all : (links : LinksValue) (done ready : List ℕ) (i : ℕ) → ReadyBelow links done ready i → i ≡ links.count → AreReady links done ready
ready_all links done ready i is whole w = is.told w ∙ ap (λ (n : ℕ). nat_lt w n && is_ready links done w) whole

-- ---- one item is taken

-- those of the list were looked at anew
pub record ReadyAmong (links : LinksValue) (item : ℕ) (old done ready seen : List ℕ) : Type 0 where
  pub width : length ready ≡ words_for links.count
  pub told : (w : ℕ) → has ready w ≡ (if has_number seen w then nat_lt w links.count && is_ready links done w else not (nat_eq item w) && has old w)

pub among_start : (links : LinksValue) (item : ℕ) (old done ready seen : List ℕ) → seen ≡ [] → length ready ≡ words_for links.count → ((w : ℕ) → has ready w ≡ (not (nat_eq item w) && has old w)) → ReadyAmong links item old done ready seen
among_start links item old done ready seen none wide told = record {
  width = wide;
  told = λ w. told w ∙ sym (ap (λ (xs : List ℕ). if has_number xs w then nat_lt w links.count && is_ready links done w else not (nat_eq item w) && has old w) none);
}

pub number_more : (xs : List ℕ) (x w : ℕ) → has_number (xs ++ x ∷ []) w ≡ (has_number xs w || nat_eq w x)
number_more [] x w = or_false (nat_eq w x)
number_more (y ∷ ys) x w = ap (λ (b : Bool). nat_eq w y || b) (number_more ys x w) ∙ or_chain (nat_eq w y) (has_number ys w) (nat_eq w x)

pub among_more : (links : LinksValue) (item : ℕ) (old done ready new seen more : List ℕ) (next : ℕ) (on : Bool) → ReadyAmong links item old done ready seen → more ≡ seen ++ next ∷ [] → length new ≡ length ready → next < links.count
    → on ≡ is_ready links done next → ((w : ℕ) → has new w ≡ (if nat_eq next w then on else has ready w)) → ReadyAmong links item old done new more
among_more links item old done ready new seen more next on before is_more wide within is set = record {
  width = wide ∙ before.width;
  told = λ w. set w ∙ (by_item w (nat_eq next w) refl ∙ ap (λ (xs : List ℕ). if has_number xs w then nat_lt w links.count && is_ready links done w else not (nat_eq item w) && has old w) (sym is_more));
}
  where
    turn : (w : ℕ) (b : Bool) → nat_eq next w ≡ b → nat_eq w next ≡ b
    turn w true same = eq-eqb w next (sym (eqb-true next w same))
    turn w false other = never_true (nat_eq w next) (λ same. clash (nat_eq next w) (eq-eqb next w (sym (eqb-true w next same))) other)

    by_item : (w : ℕ) (b : Bool) → nat_eq next w ≡ b → (if b then on else has ready w) ≡ (if has_number (seen ++ next ∷ []) w then nat_lt w links.count && is_ready links done w else not (nat_eq item w) && has old w)
    by_item w true same = let e : next ≡ w = eqb-true next w same in
        (is ∙ (ap (is_ready links done) e ∙ sym (ap (λ (b : Bool). b && is_ready links done w) (lt-ltb w links.count (omega (arith, e, within))))))
        ∙ sym (ap (λ (b : Bool). if b then nat_lt w links.count && is_ready links done w else not (nat_eq item w) && has old w) (number_more seen next w ∙ (ap (λ (b : Bool). has_number seen w || b) (turn w true same) ∙ or_true (has_number seen w))))
    by_item w false other = before.told w
        ∙ sym (ap (λ (b : Bool). if b then nat_lt w links.count && is_ready links done w else not (nat_eq item w) && has old w) (number_more seen next w ∙ (ap (λ (b : Bool). has_number seen w || b) (turn w false other) ∙ or_false (has_number seen w))))

-- what item doesn't lead to, is as ready as before
same_ready : (links : LinksValue) (item : ℕ) (old done : List ℕ) (w : ℕ) → ((k : ℕ) → has done k ≡ (nat_eq item k || has old k)) → leads links.rows item w ≡ false
    → (not (nat_eq item w) && (nat_lt w links.count && is_ready links old w)) ≡ (nat_lt w links.count && is_ready links done w)
unfolding is_ready
same_ready links item old done w more off = by_item (nat_eq item w) refl
  where
    each : (u : ℕ) → lets_take links.rows old w u ≡ lets_take links.rows done w u
    each u = by_number (nat_eq item u) refl ∙ ap (λ (b : Bool). not (leads links.rows u w) || b) (sym (more u))
      where
        by_number : (b : Bool) → nat_eq item u ≡ b → (not (leads links.rows u w) || has old u) ≡ (not (leads links.rows u w) || (b || has old u))
        by_number true same = let no : leads links.rows u w ≡ false = ap (λ (k : ℕ). leads links.rows k w) (sym (eqb-true item u same)) ∙ off in
            ap (λ (b : Bool). not b || has old u) no ∙ sym (ap (λ (b : Bool). not b || true) no)
        by_number false other = refl

    by_item : (b : Bool) → nat_eq item w ≡ b → (not b && (nat_lt w links.count && (not (has old w) && all_below links.count (lets_take links.rows old w)))) ≡ (nat_lt w links.count && (not (has done w) && all_below links.count (lets_take links.rows done w)))
    by_item true same = sym (ap (λ (b : Bool). nat_lt w links.count && (not b && all_below links.count (lets_take links.rows done w))) (more w ∙ ap (λ (b : Bool). b || has old w) same) ∙ and_false (nat_lt w links.count))
    by_item false other = ap2 (λ (a b : Bool). nat_lt w links.count && (not a && b)) (sym (more w ∙ ap (λ (b : Bool). b || has old w) other)) (all_same links.count (lets_take links.rows old w) (lets_take links.rows done w) (λ u below. each u))

-- a number that the list of those that pass doesn't have, doesn't pass
unlisted : (n : ℕ) (test : ℕ → Bool) (w : ℕ) → (n ≤ w → test w ≡ false) → has_number (which_below n test) w ≡ false → test w ≡ false
unlisted n test w past off = elim (cases_lt w n) [
  | inl below ↦ never_true (test w) (λ is. clash (has_number (which_below n test) w) (passes_which n test (nat_eq w) w below is (eq-eqb w w refl)) off)
  | inr from ↦ past from
]

no_room : (rows : List (List ℕ)) (count item w : ℕ) → IsSquare count rows → 64 * words_for count ≤ w → leads rows item w ≡ false
no_room rows count item w is past = elim (cases_lt item count) [
  | inl below ↦ past_none (slice_index_or rows item []) w (rw (is.width item below) (omega (arith, past)))
  | inr from ↦ sym (past_row rows item w (omega (arith, is.height, from)))
]

pub among_all : (links : LinksValue) (item : ℕ) (ready_old done_old done ready seen : List ℕ) → ReadyAmong links item ready_old done ready seen → seen ≡ which_below (64 * words_for links.count) (leads links.rows item)
    → IsSquare links.count links.rows → ((k : ℕ) → has done k ≡ (nat_eq item k || has done_old k)) → AreReady links done_old ready_old → AreReady links done ready
among_all links item ready_old done_old done ready seen is whole square more before w = is.told w ∙ by_listed (has_number seen w) refl
  where
    by_listed : (b : Bool) → has_number seen w ≡ b → (if b then nat_lt w links.count && is_ready links done w else not (nat_eq item w) && has ready_old w) ≡ (nat_lt w links.count && is_ready links done w)
    by_listed true is_listed = refl
    by_listed false is_listed =
        ap (λ (b : Bool). not (nat_eq item w) && b) (before w)
        ∙ same_ready links item done_old done w more
        (unlisted (64 * words_for links.count) (leads links.rows item) w (no_room links.rows links.count item w square) (ap (λ (xs : List ℕ). has_number xs w) (sym whole) ∙ is_listed))

-- ---- the pairs

if_so : (a b : Bool) → a ≡ true → not a || b ≡ true → b ≡ true
if_so true b was is = is
if_so false b was is = absurd (cc)

-- all pairs that lead to w have a first that was taken
behind_told : (taken : List ℕ) (w : ℕ) (pairs : List Pair) → list_all (is_behind taken w) pairs ≡ true → (u : ℕ) → has_pair pairs u w ≡ true → has_number taken u ≡ true
behind_told taken w [] is u on = absurd (cc)
behind_told taken w (p ∷ ps) is u on = elim (or_either (nat_eq p.first u && nat_eq p.second w) (has_pair ps u w) on) [
  | inl here ↦ ap (has_number taken) (sym (eqb-true p.first u (and_first (nat_eq p.first u) (nat_eq p.second w) here)))
      ∙ if_so (nat_eq p.second w) (has_number taken p.first) (and_second (nat_eq p.first u) (nat_eq p.second w) here) (and_first (is_behind taken w p) (list_all (is_behind taken w) ps) is)
  | inr there ↦ behind_told taken w ps (and_second (is_behind taken w p) (list_all (is_behind taken w) ps) is) u there
]

told_behind : (taken : List ℕ) (w : ℕ) (pairs : List Pair) → ((u : ℕ) → has_pair pairs u w ≡ true → has_number taken u ≡ true) → list_all (is_behind taken w) pairs ≡ true
told_behind taken w [] each = refl
told_behind taken w (p ∷ ps) each = true_both (is_behind taken w p) (list_all (is_behind taken w) ps)
    (or_of_not (nat_eq p.second w) (has_number taken p.first) (λ is. each p.first (true_first (nat_eq p.first p.first && nat_eq p.second w) (has_pair ps p.first w) (true_both (nat_eq p.first p.first) (nat_eq p.second w) (eq-eqb p.first p.first refl) is))))
    (told_behind taken w ps (λ u on. each u (true_second (nat_eq p.first u && nat_eq p.second w) (has_pair ps u w) on)))

pub next_told : (links : LinksValue) (pairs : List Pair) (done taken : List ℕ) → AreLinks links pairs → ((k : ℕ) → has done k ≡ has_number taken k) → (w : ℕ) → is_ready links done w ≡ is_next pairs taken w
unfolding is_ready
next_told links pairs done taken are listed w =
    ap2 (λ (a b : Bool). not a && b) (listed w)
    (same_truth (all_below links.count (lets_take links.rows done w)) (list_all (is_behind taken w) pairs)
    (λ is. told_behind taken w pairs (λ u on. sym (listed u) ∙ if_so (leads links.rows u w) (has done u) (are.same u w ∙ on) (all_at links.count (lets_take links.rows done w) u is (are.first u w on))))
    (λ is. all_of links.count (lets_take links.rows done w) (λ u below. or_of_not (leads links.rows u w) (has done u) (λ on. listed u ∙ behind_told taken w pairs is u (sym (are.same u w) ∙ on)))))

-- the first that is ready is the next
pub first_next : (links : LinksValue) (pairs : List Pair) (done taken ready : List ℕ) → AreLinks links pairs → ((k : ℕ) → has done k ≡ has_number taken k) → AreReady links done ready → length ready ≡ words_for links.count
    → first_below (room ready) (has ready) ≡ first_below links.count (is_next pairs taken)
first_next links pairs done taken ready are listed is wide =
    first_more links.count (room ready) (has ready) (omega (arith, wide)) (λ k above below. is k ∙ ap (λ (b : Bool). b && is_ready links done k) (lt_false k links.count above))
    ∙ first_same links.count (has ready) (is_next pairs taken) (λ k below. is k ∙ (ap (λ (b : Bool). b && is_ready links done k) (lt-ltb k links.count below) ∙ next_told links pairs done taken are listed k))

-- ---- all of them, one after another

pub taken_none : (links : LinksValue) (done ready taken : List ℕ) → taken ≡ [] → length done ≡ words_for links.count → length ready ≡ words_for links.count → AreReady links done ready → ((k : ℕ) → has done k ≡ false) → Taken links done ready taken 0
taken_none links done ready taken none done_wide wide is nothing = record {
  done_width = done_wide;
  width = wide;
  now_ready = is;
  listed = λ k. nothing k ∙ sym (ap (λ (xs : List ℕ). has_number xs k) none);
  so_far = λ pairs are. none;
}

-- no item is ready: none is taken any more
pub taken_over : (links : LinksValue) (done ready taken : List ℕ) (rounds : ℕ) → Taken links done ready taken rounds → first_below (room ready) (has ready) ≡ None → Taken links done ready taken (rounds + 1)
taken_over links done ready taken rounds is none = record {
  done_width = is.done_width;
  width = is.width;
  now_ready = is.now_ready;
  listed = is.listed;
  so_far = λ pairs are. rw (add-one rounds) (is.so_far pairs are ∙ ap (λ (o : Option ℕ). take_one o (take_items links.count rounds pairs))
      (sym none ∙ (first_next links pairs done taken ready are is.listed is.now_ready is.width ∙ ap (λ (xs : List ℕ). first_below links.count (is_next pairs xs)) (is.so_far pairs are))));
}

pub taken_more : (links : LinksValue) (done ready taken done_new ready_new : List ℕ) (rounds item : ℕ) → Taken links done ready taken rounds → Some item ≡ first_below (room ready) (has ready)
    → length done_new ≡ words_for links.count → length ready_new ≡ words_for links.count → AreReady links done_new ready_new → ((k : ℕ) → has done_new k ≡ (nat_eq item k || has done k))
    → Taken links done_new ready_new (taken ++ item ∷ []) (rounds + 1)
taken_more links done ready taken done_new ready_new rounds item is first done_wide wide ready_is more = record {
  done_width = done_wide;
  width = wide;
  now_ready = ready_is;
  listed = λ k. more k ∙ (ap (λ (b : Bool). nat_eq item k || b) (is.listed k) ∙ (turned (nat_eq item k) (nat_eq k item) (has_number taken k) (same_truth (nat_eq item k) (nat_eq k item) (λ same. eq-eqb k item (sym (eqb-true item k same))) (λ same. eq-eqb item k (sym (eqb-true k item same)))) ∙ sym (number_more taken item k)));
  so_far = λ pairs are. rw (add-one rounds) (ap2 take_one
      (first ∙ (first_next links pairs done taken ready are is.listed is.now_ready is.width ∙ ap (λ (xs : List ℕ). first_below links.count (is_next pairs xs)) (is.so_far pairs are)))
      (is.so_far pairs are));
}
  where
    turned : (a b c : Bool) → a ≡ b → a || c ≡ c || b
    turned true true true same = refl
    turned true true false same = refl
    turned false false true same = refl
    turned false false false same = refl
    turned true false c same = absurd (cc)
    turned false true c same = absurd (cc)

pub taken_below : (links : LinksValue) (done ready : List ℕ) (item : ℕ) → AreReady links done ready → Some item ≡ first_below (room ready) (has ready) → item < links.count
taken_below links done ready item is first = ltb-true item links.count (and_first (nat_lt item links.count) (is_ready links done item) (sym (is item) ∙ found_passes (room ready) (has ready) item (sym first)))

-- what stands in a list of numbers that pass, passes
pub listed_within : (xs : List ℕ) (i : ℕ) → i < length xs → has_number xs (slice_index_or xs i 0) ≡ true
listed_within [] i below = absurd (omega arith)
listed_within (x ∷ xs) zero below = true_first (nat_eq x x) (has_number xs x) (eq-eqb x x refl)
listed_within (x ∷ xs) (suc i) below = true_second (nat_eq (slice_index_or xs i 0) x) (has_number xs (slice_index_or xs i 0)) (listed_within xs i (omega arith))

pub led_within : (rows : List (List ℕ)) (count n item : ℕ) (items : List ℕ) → ((u v : ℕ) → leads rows u v ≡ true → v < count) → items ≡ which_below n (leads rows item) → (k : ℕ) → has_number items k ≡ true → k < count
led_within rows count n item items within is k on =
    let found = which_passes n (leads rows item) (nat_eq k) (ap (λ (xs : List ℕ). has_number xs k) (sym is) ∙ on) in
    let below : found.number < count = within item found.number found.tested in
    let same : k ≡ found.number = eqb-true k found.number found.passes in
    omega (arith, below, same)

pub next_within : (count i : ℕ) (items : List ℕ) → ((k : ℕ) → has_number items k ≡ true → k < count) → i < length items → slice_index_or items i 0 < count
next_within count i items within below = within (slice_index_or items i 0) (listed_within items i below)

pub taking_next : (xs : List ℕ) (i : ℕ) → i < length xs → take (suc i) xs ≡ take i xs ++ slice_index_or xs i 0 ∷ []
taking_next [] i below = absurd (omega arith)
taking_next (x ∷ xs) zero below = refl
taking_next (x ∷ xs) (suc i) below = ap (λ (ys : List ℕ). x ∷ ys) (taking_next xs i (omega arith))

pub taking_none : (xs : List ℕ) → take 0 xs ≡ []
taking_none [] = refl
taking_none (x ∷ xs) = refl

pub taking_all : (xs : List ℕ) (i : ℕ) → length xs ≤ i → take i xs ≡ xs
taking_all [] zero whole = refl
taking_all [] (suc i) whole = refl
taking_all (x ∷ xs) zero whole = absurd (omega arith)
taking_all (x ∷ xs) (suc i) whole = ap (λ (ys : List ℕ). x ∷ ys) (taking_all xs i (omega arith))

pub seen_start : (links : LinksValue) (item : ℕ) (old done ready xs : List ℕ) → length ready ≡ words_for links.count → ((w : ℕ) → has ready w ≡ (not (nat_eq item w) && has old w)) → ReadyAmong links item old done ready (take 0 xs)
seen_start links item old done ready xs wide told = among_start links item old done ready (take 0 xs) (taking_none xs) wide told

pub seen_more : (links : LinksValue) (item : ℕ) (old done ready new xs : List ℕ) (i : ℕ) (on : Bool) → ReadyAmong links item old done ready (take i xs) → i < length xs → length new ≡ length ready
    → slice_index_or xs i 0 < links.count → on ≡ is_ready links done (slice_index_or xs i 0) → ((w : ℕ) → has new w ≡ (if nat_eq (slice_index_or xs i 0) w then on else has ready w)) → ReadyAmong links item old done new (take (i + 1) xs)
seen_more links item old done ready new xs i on before below wide within is set =
    among_more links item old done ready new (take i xs) (take (i + 1) xs) (slice_index_or xs i 0) on before (ap (λ (n : ℕ). take n xs) (add-one i) ∙ taking_next xs i below) wide within is set

pub seen_all : (links : LinksValue) (item : ℕ) (ready_old done_old done ready xs : List ℕ) (i : ℕ) → ReadyAmong links item ready_old done ready (take i xs) → length xs ≤ i → xs ≡ which_below (64 * words_for links.count) (leads links.rows item)
    → IsSquare links.count links.rows → ((k : ℕ) → has done k ≡ (nat_eq item k || has done_old k)) → AreReady links done_old ready_old → AreReady links done ready
seen_all links item ready_old done_old done ready xs i is whole same square more before =
    among_all links item ready_old done_old done ready (take i xs) is (taking_all xs i whole ∙ same) square more before
