-- Links as rows of bits.
use Rattle.std.proofs.Common.{◌≡◌, ℕ, zero, suc, ◌+◌, ◌*◌, ◌<◌, ◌≤◌, List, [], ◌∷◌, ◌++◌, length, Bool, true, false, ◌&&◌, ◌||◌, refl, sym, ap, ◌∙◌, inl, inr, arith, eqb-true, eq-eqb, slice_set, slice_index_or}
use Rattle.std.specs.Prelude.{not, nat_eq, if◌then◌else◌}
use Rattle.std.proofs.lemmas.Bool.{cases_lt}
use Rattle.std.proofs.lemmas.List.{get_or-set_same, get_or-set_other, length-set}
use Rattle.tf_numbers.specs.Numbers.{which_below, first_below}
use Rattle.tf_links.specs.Bits.{has, words_for, room, has_both, has_if, is_within}
use Rattle.tf_links.specs.Links.{leads, IsSquare, LinksValue}
use Rattle.tf_links.specs.Layers.{first_into, goes_into}
use Rattle.tf_numbers.proofs.TruthLemmas.{same_truth, never_true, clash, and_second}
use Rattle.tf_numbers.proofs.BelowLemmas.{all_at, first_same, first_more}
use Rattle.tf_links.proofs.BitLemmas.{past_none}
use Rattle.tf_numbers.proofs.ListLemmas.{read_more, read_last, length_more}

-- ---- what a row has

pub empty_none : (v : ℕ) → has [] v ≡ false
empty_none v = past_none [] v (omega arith)

no_row : (rows : List (List ℕ)) (u : ℕ) → length rows ≤ u → slice_index_or rows u [] ≡ []
no_row [] u past = refl
no_row (row ∷ rows) zero past = absurd (omega arith)
no_row (row ∷ rows) (suc u) past = no_row rows u (omega arith)

pub past_row : (rows : List (List ℕ)) (u v : ℕ) → length rows ≤ u → false ≡ leads rows u v
past_row rows u v past = sym (ap (λ (row : List ℕ). has row v) (no_row rows u past) ∙ empty_none v)

-- what is read within rows doesn't depend on what stands for none
pub row_zero : (rows : List (List ℕ)) (u : ℕ) (row : List ℕ) → u < length rows → row ≡ slice_index_or rows u row → row ≡ slice_index_or rows u []
row_zero [] u row within is = absurd (omega arith)
row_zero (x ∷ xs) zero row within is = is
row_zero (x ∷ xs) (suc u) row within is = row_zero xs u row (omega arith) is

pub row_read : (rows : List (List ℕ)) (u v : ℕ) (row : List ℕ) → u < length rows → row ≡ slice_index_or rows u row → has row v ≡ leads rows u v
row_read rows u v row within is = ap (λ (r : List ℕ). has r v) (row_zero rows u row within is)

pub set_row : (rows : List (List ℕ)) (u : ℕ) (row : List ℕ) (a b : ℕ) → u < length rows → leads (slice_set rows u row) a b ≡ (if nat_eq u a then has row b else leads rows a b)
set_row rows u row a b within = by_row (nat_eq u a) refl
  where
    by_row : (is_row : Bool) → nat_eq u a ≡ is_row → leads (slice_set rows u row) a b ≡ (if is_row then has row b else leads rows a b)
    by_row true is = ap (λ (k : ℕ). leads (slice_set rows u row) k b) (sym (eqb-true u a is)) ∙ ap (λ (r : List ℕ). has r b) (get_or-set_same rows u row [] within)
    by_row false is = ap (λ (r : List ℕ). has r b) (get_or-set_other rows u a row [] (λ same. clash (nat_eq u a) (eq-eqb u a (sym same)) is))

-- ---- a square

pub square_set : (count : ℕ) (rows : List (List ℕ)) (u : ℕ) (row : List ℕ) → u < count → IsSquare count rows → length row ≡ words_for count → IsSquare count (slice_set rows u row)
square_set count rows u row within is wide = record {
  height = length-set rows u row ∙ is.height;
  width = λ a below. by_row a below (nat_eq u a) refl;
}
  where
    by_row : (a : ℕ) → a < count → (is_row : Bool) → nat_eq u a ≡ is_row → length (slice_index_or (slice_set rows u row) a []) ≡ words_for count
    by_row a below true same = ap length (ap (λ (k : ℕ). slice_index_or (slice_set rows u row) k []) (sym (eqb-true u a same)) ∙ get_or-set_same rows u row [] (omega (arith, within, is.height))) ∙ wide
    by_row a below false other = ap length (get_or-set_other rows u a row [] (λ same. clash (nat_eq u a) (eq-eqb u a (sym same)) other)) ∙ is.width a below

-- each number below the count has room
pub has_room : (count : ℕ) (rows : List (List ℕ)) (u v : ℕ) (row : List ℕ) → IsSquare count rows → u < count → v < count → row ≡ slice_index_or rows u row → v < room row
has_room count rows u v row is within below read =
    let wide : length row ≡ words_for count = ap length (row_zero rows u row (omega (arith, is.height, within)) read) ∙ is.width u within in
    omega (arith, wide, below)

-- ---- one link more

pub inserted : (rows : List (List ℕ)) (u v : ℕ) (row : List ℕ) → u < length rows → ((k : ℕ) → has row k ≡ (nat_eq v k || leads rows u k)) → (a b : ℕ)
    → leads (slice_set rows u row) a b ≡ ((nat_eq u a && nat_eq v b) || leads rows a b)
inserted rows u v row within is a b = set_row rows u row a b within ∙ by_row (nat_eq u a) refl
  where
    by_row : (is_row : Bool) → nat_eq u a ≡ is_row → (if is_row then has row b else leads rows a b) ≡ ((is_row && nat_eq v b) || leads rows a b)
    by_row true same = is b ∙ ap (λ (k : ℕ). nat_eq v b || leads rows k b) (eqb-true u a same)
    by_row false other = refl

-- ---- empty rows

pub record AreEmpty (count so_far : ℕ) (rows : List (List ℕ)) : Type 0 where
  pub height : length rows ≡ so_far
  pub width : (u : ℕ) → u < so_far → length (slice_index_or rows u []) ≡ words_for count
  pub none : (u v : ℕ) → leads rows u v ≡ false

read_past : (rows : List (List ℕ)) (row : List ℕ) (u : ℕ) → length rows < u → slice_index_or (rows ++ row ∷ []) u [] ≡ []
read_past [] row zero past = absurd (omega arith)
read_past [] row (suc u) past = refl
read_past (x ∷ xs) row zero past = absurd (omega arith)
read_past (x ∷ xs) row (suc u) past = read_past xs row u (omega arith)

pub empty_more : (count so_far : ℕ) (rows : List (List ℕ)) (row : List ℕ) → AreEmpty count so_far rows → length row ≡ words_for count → ((k : ℕ) → has row k ≡ false) → AreEmpty count (so_far + 1) (rows ++ row ∷ [])
empty_more count so_far rows row is wide none = record {
  height = length_more rows row ∙ ap (λ (n : ℕ). n + 1) is.height;
  width = (λ u below. elim (cases_lt u (length rows)) [
    | inl before ↦ ap length (read_more rows row u before) ∙ is.width u (omega (arith, before, is.height))
    | inr from ↦ let same : u ≡ length rows = omega (arith, from, below, is.height) in ap length (ap (λ (k : ℕ). slice_index_or (rows ++ row ∷ []) k []) same ∙ read_last rows row) ∙ wide
  ]);
  none = (λ u v. elim (cases_lt u (length rows)) [
    | inl before ↦ ap (λ (r : List ℕ). has r v) (read_more rows row u before) ∙ is.none u v
    | inr from ↦ elim (cases_lt (length rows) u) [
      | inl past ↦ ap (λ (r : List ℕ). has r v) (read_past rows row u past) ∙ empty_none v
      | inr upto ↦ let same : u ≡ length rows = omega (arith, from, upto) in ap (λ (r : List ℕ). has r v) (ap (λ (k : ℕ). slice_index_or (rows ++ row ∷ []) k []) same ∙ read_last rows row) ∙ none v
    ]
  ]);
}

pub empty_start : (count : ℕ) (rows : List (List ℕ)) → rows ≡ [] → AreEmpty count 0 rows
empty_start count rows is = record {
  height = ap length is;
  width = λ u below. absurd (omega arith);
  none = λ u v. ap (λ (r : List ℕ). has r v) (ap (λ (rs : List (List ℕ)). slice_index_or rs u []) is ∙ no_row [] u (omega arith)) ∙ empty_none v;
}

pub empty_square : (count : ℕ) (rows : List (List ℕ)) → AreEmpty count count rows → IsSquare count rows
empty_square count rows is = record { height = is.height; width = is.width }

pub empty_leads : (count so_far : ℕ) (rows : List (List ℕ)) → AreEmpty count so_far rows → (u v : ℕ) → leads rows u v ≡ false
empty_leads count so_far rows is = is.none

pub inserted_within : (old new : List (List ℕ)) (u v count : ℕ) → ((a b : ℕ) → leads old a b ≡ true → b < count) → v < count → ((a b : ℕ) → leads new a b ≡ ((nat_eq u a && nat_eq v b) || leads old a b)) → (a b : ℕ) → leads new a b ≡ true → b < count
inserted_within old new u v count within below more a b on = by_pair (nat_eq u a && nat_eq v b) refl
  where
    rest : (x y : Bool) → x ≡ false → x || y ≡ true → y ≡ true
    rest true y off is = absurd (cc)
    rest false y off is = is

    by_pair : (c : Bool) → (nat_eq u a && nat_eq v b) ≡ c → b < count
    by_pair true here = let same : v ≡ b = eqb-true v b (and_second (nat_eq u a) (nat_eq v b) here) in omega (arith, same, below)
    by_pair false off = within a b (rest (nat_eq u a && nat_eq v b) (leads old a b) off (sym (more a b) ∙ on))

-- the numbers of a row
pub led_row : (rows : List (List ℕ)) (count u : ℕ) (row : List ℕ) → IsSquare count rows → u < count → row ≡ slice_index_or rows u row → which_below (room row) (has row) ≡ which_below (64 * words_for count) (leads rows u)
led_row rows count u row is below read =
    let same : row ≡ slice_index_or rows u [] = row_zero rows u row (omega (arith, is.height, below)) read in
    let wide : length row ≡ words_for count = ap length same ∙ is.width u below in
    ap (λ (n : ℕ). which_below (64 * n) (has row)) wide ∙ ap (λ (r : List ℕ). which_below (64 * words_for count) (has r)) same

-- the first number of a set that a row has
pub first_read : (links : LinksValue) (rows : List (List ℕ)) (set : List ℕ) (u : ℕ) (row : List ℕ) → rows ≡ links.rows → IsSquare links.count rows → ((a b : ℕ) → leads rows a b ≡ true → b < links.count) → u < links.count
    → row ≡ slice_index_or rows u row → first_below (room row) (has_both row set) ≡ first_into links set u
unfolding first_into
first_read links rows set u row same square within below read =
    let wide : length row ≡ words_for links.count = ap length (row_zero rows u row (omega (arith, square.height, below)) read) ∙ square.width u below in
    first_more links.count (room row) (has_both row set) (omega (arith, wide)) (λ k above inside.
    ap (λ (b : Bool). b && has set k) (row_read rows u k row (omega (arith, square.height, below)) read
    ∙ never_true (leads rows u k) (λ on. let less : k < links.count = within u k on in omega (arith, less, above))))
    ∙ first_same links.count (has_both row set) (goes_into links set u) (λ k inside.
    ap (λ (b : Bool). b && has set k) (row_read rows u k row (omega (arith, square.height, below)) read ∙ ap (λ (rs : List (List ℕ)). leads rs u k) same))

-- ---- rows that have the same in them

-- the rows below i have the same in them
abbrev pub AreSameBelow : List (List ℕ) → List (List ℕ) → ℕ → Type 0
AreSameBelow rows other i = (u v : ℕ) → u < i → leads rows u v ≡ leads other u v

pub same_start : (rows other : List (List ℕ)) → AreSameBelow rows other 0
same_start rows other u v below = absurd (omega (arith, below))

has_same : (xs ys : List ℕ) → is_within xs ys ≡ true → is_within ys xs ≡ true → length xs ≡ length ys → (k : ℕ) → has xs k ≡ has ys k
has_same xs ys there back wide k = elim (cases_lt k (room xs)) [
  | inl within ↦ same_truth (has xs k) (has ys k)
      (λ on. carried (has xs k) (has ys k) (all_at (room xs) (has_if xs ys) k there within) on)
      (λ on. carried (has ys k) (has xs k) (all_at (room ys) (has_if ys xs) k back (omega (arith, within, wide))) on)
  | inr past ↦ past_none xs k (omega (arith, past)) ∙ sym (past_none ys k (omega (arith, past, wide)))
]
  where
    carried : (a b : Bool) → (not a || b) ≡ true → a ≡ true → b ≡ true
    carried true b is on = is
    carried false b is on = absurd (cc)

pub same_width : (rows other : List (List ℕ)) (count u : ℕ) (row row_other : List ℕ) → IsSquare count rows → IsSquare count other → u < count → row ≡ slice_index_or rows u row → row_other ≡ slice_index_or other u row_other → length row ≡ length row_other
same_width rows other count u row row_other is is_other below read read_other =
    ap length (row_zero rows u row (omega (arith, is.height, below)) read) ∙ (is.width u below
    ∙ sym (ap length (row_zero other u row_other (omega (arith, is_other.height, below)) read_other) ∙ is_other.width u below))

pub same_more : (rows other : List (List ℕ)) (count i : ℕ) (row row_other : List ℕ) → AreSameBelow rows other i → IsSquare count rows → IsSquare count other → i < count → row ≡ slice_index_or rows i row → row_other ≡ slice_index_or other i row_other
    → is_within row row_other ≡ true → is_within row_other row ≡ true → AreSameBelow rows other (i + 1)
same_more rows other count i row row_other before is is_other below read read_other there back u v within = elim (cases_lt u i) [
  | inl earlier ↦ before u v earlier
  | inr late ↦
      let here : u ≡ i = omega (arith, late, within) in
      ap (λ (n : ℕ). leads rows n v) here
      ∙ (ap (λ (r : List ℕ). has r v) (sym (row_zero rows i row (omega (arith, is.height, below)) read))
      ∙ (has_same row row_other there back (same_width rows other count i row row_other is is_other below read read_other) v
      ∙ (ap (λ (r : List ℕ). has r v) (row_zero other i row_other (omega (arith, is_other.height, below)) read_other)
      ∙ ap (λ (n : ℕ). leads other n v) (sym here))))
]

pub same_all : (rows other : List (List ℕ)) (count i : ℕ) → AreSameBelow rows other i → IsSquare count rows → IsSquare count other → count ≤ i → (u v : ℕ) → leads rows u v ≡ leads other u v
same_all rows other count i before is is_other whole u v = elim (cases_lt u i) [
  | inl below ↦ before u v below
  | inr past ↦ sym (past_row rows u v (omega (arith, past, whole, is.height))) ∙ past_row other u v (omega (arith, past, whole, is_other.height))
]
