-- What stands at a place of a journal.
use Rattle.std.proofs.Common.{◌≡◌, ◌≢◌, ◌⊎◌, inl, inr, ℕ, ◌+◌, ◌*◌, ◌/◌, ◌%◌, ◌≤◌, ◌<◌, Bool, true, false, List, [], ◌∷◌, ◌++◌, length, get_or, take, drop, Option, Some, None, refl, sym, ◌∙◌, ap, arith, length-take, length-drop}
use Rattle.std.proofs.lemmas.List.{get_or-take, get_or-drop, drop-drop}
use Rattle.std.proofs.Math.Seq.{take-add}
use Rattle.std.specs.Prelude.{nat_eq, nat_lt, ◌||◌, if◌then◌else◌}
use Rattle.std.proofs.lemmas.Bool.{cases_lt}
use Rattle.std.proofs.lemmas.Bool.Decides.{nat_tests}
use Rattle.tf_journal.specs.Format.{OPEN, body_limit, SIZE_LIMIT, length_bytes, length_at, IsBody, record_of, closed, body, bad, record_within, record_at}
use Rattle.tf_journal.specs.Reach.{HasRecord}
use Rattle.tf_journal.specs.declared.title.Title.{Title}
use Rattle.tf_journal.specs.declared.title.Title.TheVariants.{Book, Jobs, Book2}

-- a gate that isn't open, or isn't there
pub found_closed : (title : Title) (bytes : List ℕ) (place : ℕ) → (length bytes ≤ place) ⊎ (get_or bytes place 0 ≢ OPEN) → record_at title bytes place ≡ closed
found_closed title bytes place (inl past) = grind (arith, nat_tests)
found_closed title bytes place (inr shut) = grind (arith, nat_tests)

-- an open gate
pub found_open : (title : Title) (bytes : List ℕ) (place : ℕ) → place + 5 ≤ length bytes → get_or bytes place 0 ≡ OPEN → record_at title bytes place ≡ record_within title bytes place (length_at bytes (place + 1))
found_open title bytes place whole gate = grind (arith, nat_tests)

-- an open gate without a whole length
pub found_short : (title : Title) (bytes : List ℕ) (place : ℕ) → place < length bytes → length bytes < place + 5 → get_or bytes place 0 ≡ OPEN → record_at title bytes place ≡ bad (length bytes) None
found_short title bytes place there short gate = grind (arith, nat_tests)

-- behind an open gate something is found
pub found_some : (title : Title) (bytes : List ℕ) (place : ℕ) → place < length bytes → get_or bytes place 0 ≡ OPEN → record_at title bytes place ≡ closed → ⊥
found_some title bytes place there gate is = elim (cases_lt (length bytes) (place + 5)) [
  | inl short ↦ let e = found_short title bytes place there short gate in cc
  | inr whole ↦ within_some (length_at bytes (place + 1)) (found_open title bytes place whole gate)
]
  where
    either : (b d : Bool) (o : ℕ) (v : Option ℕ) (s : ℕ) (l : List ℕ) (m : ℕ) → (if b then bad o v else (if d then bad s None else body l m)) ≡ closed → ⊥
    either true d o v s l m e = cc
    either false true o v s l m e = cc
    either false false o v s l m e = cc

    within_some : (n : ℕ) → record_at title bytes place ≡ record_within title bytes place n → ⊥
    within_some n e =
        either (nat_eq n 0 || nat_lt (body_limit title) n || nat_lt SIZE_LIMIT (place + 6 + n)) (nat_lt (length bytes) (place + 6 + n)) (place + 1) (Some (get_or bytes (place + 1) 0)) (length bytes) (take n (drop (place + 5) bytes)) (place + 5 + n) (sym e ∙ is)

-- a length that no record has
pub within_bad : (title : Title) (bytes : List ℕ) (place n : ℕ) → (n ≡ 0) ⊎ ((body_limit title < n) ⊎ (SIZE_LIMIT < place + 6 + n)) → record_within title bytes place n ≡ bad (place + 1) (Some (get_or bytes (place + 1) 0))
within_bad title bytes place n (inl none) = grind (arith, nat_tests)
within_bad title bytes place n (inr (inl long)) = grind (arith, nat_tests)
within_bad title bytes place n (inr (inr far)) = grind (arith, nat_tests)

-- a body or a gate that isn't whole
pub within_cut : (title : Title) (bytes : List ℕ) (place n : ℕ) → 0 < n → n ≤ body_limit title → place + 6 + n ≤ SIZE_LIMIT → length bytes < place + 6 + n → record_within title bytes place n ≡ bad (length bytes) None
within_cut title bytes place n some short near cut = grind (arith, nat_tests)

-- a whole record
pub within_body : (title : Title) (bytes : List ℕ) (place n : ℕ) → 0 < n → n ≤ body_limit title → place + 6 + n ≤ SIZE_LIMIT → place + 6 + n ≤ length bytes → record_within title bytes place n ≡ body (take n (drop (place + 5) bytes)) (place + 5 + n)
within_body title bytes place n some short near whole = grind (arith, nat_tests)

-- the greatest length of a body, of any title
pub small_limit : (title : Title) → body_limit title ≤ 1048577
small_limit Book = omega arith
small_limit Jobs = omega arith
small_limit Book2 = omega arith

-- a body of a book of one flow is one of every journal
pub body_fits : (title : Title) (b : List ℕ) → IsBody Book b → IsBody title b
body_fits Book b is = is
body_fits Jobs b is = is
body_fits Book2 b is = (is.0, omega (arith, is.1))

-- a length of four bytes is spelled by these
pub length_spelled : (a b c d : ℕ) → a < 256 → b < 256 → c < 256 → d < 256 → length_bytes (256 * (256 * (256 * a + b) + c) + d) ≡ a ∷ b ∷ c ∷ d ∷ []
length_spelled a b c d wa wb wc wd =
    let n = 256 * (256 * (256 * a + b) + c) + d in
    let first : n / 256 ≡ 256 * (256 * a + b) + c = omega (arith, wd) in
    let second : (256 * (256 * a + b) + c) / 256 ≡ 256 * a + b = omega (arith, wc) in
    let third : (256 * a + b) / 256 ≡ a = omega (arith, wb) in
    let last : n % 256 ≡ d = omega (arith, wd) in
    let next : (256 * (256 * a + b) + c) % 256 ≡ c = omega (arith, wc) in
    let before : (256 * a + b) % 256 ≡ b = omega (arith, wb) in
    let two : n / 256 / 256 ≡ 256 * a + b = ap (λ (m : ℕ). m / 256) first ∙ second in
    let three : n / 256 / 256 / 256 ≡ a = ap (λ (m : ℕ). m / 256) two ∙ third in
    four (n / 256 / 256 / 256) a (n / 256 / 256 % 256) b (n / 256 % 256) c (n % 256) d three (ap (λ (m : ℕ). m % 256) two ∙ before) (ap (λ (m : ℕ). m % 256) first ∙ next) last
  where
    four : (p p' q q' r r' s s' : ℕ) → p ≡ p' → q ≡ q' → r ≡ r' → s ≡ s' → p ∷ q ∷ r ∷ s ∷ [] ≡ p' ∷ q' ∷ r' ∷ s' ∷ []
    four p p' q q' r r' s s' e f g h = cc

-- a length that was written reads as it was
pub length_read : (n : ℕ) → n ≤ SIZE_LIMIT → 256 * (256 * (256 * (n / 256 / 256 / 256) + n / 256 / 256 % 256) + n / 256 % 256) + n % 256 ≡ n
length_read n short = omega (arith, short)

five_of : (l : List ℕ) → length l ≡ 5 → l ≡ get_or l 0 0 ∷ get_or l 1 0 ∷ get_or l 2 0 ∷ get_or l 3 0 ∷ get_or l 4 0 ∷ []
five_of [] is = absurd (omega (arith, is))
five_of (a ∷ []) is = absurd (omega (arith, is))
five_of (a ∷ b ∷ []) is = absurd (omega (arith, is))
five_of (a ∷ b ∷ c ∷ []) is = absurd (omega (arith, is))
five_of (a ∷ b ∷ c ∷ d ∷ []) is = absurd (omega (arith, is))
five_of (a ∷ b ∷ c ∷ d ∷ e ∷ []) is = refl
five_of (a ∷ b ∷ c ∷ d ∷ e ∷ f ∷ l) is = absurd (omega (arith, is))

-- what the first five bytes from a place on tell, where they are there
module _ (title : Title) (head bytes : List ℕ) (place : ℕ) (are : head ≡ take 5 (drop place bytes)) (whole : 5 ≤ length head) where
  pub head_within : place + 5 ≤ length bytes
  head_within = omega (arith, whole, ap length are, length-take 5 (drop place bytes), length-drop place bytes)

  pub head_at : (k : ℕ) → k < 5 → get_or head k 0 ≡ get_or bytes (place + k) 0
  head_at k below = ap (λ (l : List ℕ). get_or l k 0) are ∙ get_or-take 5 (drop place bytes) k 0 below ∙ get_or-drop place bytes k 0

  -- the length that they spell
  pub head_length : ℕ
  head_length = 256 * (256 * (256 * get_or head 1 0 + get_or head 2 0) + get_or head 3 0) + get_or head 4 0

  length_is : (n : ℕ) → n ≡ 256 * (256 * (256 * get_or head 1 0 + get_or head 2 0) + get_or head 3 0) + get_or head 4 0 → length_at bytes (place + 1) ≡ n
  length_is n is =
      let second : get_or bytes (place + 1 + 1) 0 ≡ get_or head 2 0 = let at : place + 1 + 1 ≡ place + 2 = omega arith in ap (λ (k : ℕ). get_or bytes k 0) at ∙ sym (head_at 2 (omega arith)) in
      let third : get_or bytes (place + 1 + 2) 0 ≡ get_or head 3 0 = let at : place + 1 + 2 ≡ place + 3 = omega arith in ap (λ (k : ℕ). get_or bytes k 0) at ∙ sym (head_at 3 (omega arith)) in
      let fourth : get_or bytes (place + 1 + 3) 0 ≡ get_or head 4 0 = let at : place + 1 + 3 ≡ place + 4 = omega arith in ap (λ (k : ℕ). get_or bytes k 0) at ∙ sym (head_at 4 (omega arith)) in
      omega (arith, is, head_at 1 (omega arith), second, third, fourth)

  gate_is : get_or head 0 0 ≡ OPEN → get_or bytes place 0 ≡ OPEN
  gate_is is = let at : place + 0 ≡ place = omega arith in ap (λ (k : ℕ). get_or bytes k 0) (sym at) ∙ sym (head_at 0 (omega arith)) ∙ is

  pub shows_bad : (n : ℕ) → n ≡ 256 * (256 * (256 * get_or head 1 0 + get_or head 2 0) + get_or head 3 0) + get_or head 4 0 → get_or head 0 0 ≡ OPEN
      → (n ≡ 0) ⊎ ((body_limit title < n) ⊎ (SIZE_LIMIT < place + 6 + n)) → record_at title bytes place ≡ bad (place + 1) (Some (get_or head 1 0))
  shows_bad n is gate cause =
      found_open title bytes place head_within (gate_is gate)
      ∙ ap (record_within title bytes place) (length_is n is)
      ∙ within_bad title bytes place n cause
      ∙ ap (λ (b : ℕ). bad (place + 1) (Some b)) (sym (head_at 1 (omega arith)))

  pub shows_body : (n : ℕ) → n ≡ 256 * (256 * (256 * get_or head 1 0 + get_or head 2 0) + get_or head 3 0) + get_or head 4 0 → get_or head 0 0 ≡ OPEN
      → get_or head 1 0 < 256 → get_or head 2 0 < 256 → get_or head 3 0 < 256 → get_or head 4 0 < 256
      → 0 < n → n ≤ body_limit title → place + 6 + n ≤ SIZE_LIMIT → place + 6 + n ≤ length bytes
      → (record_body : List ℕ) × (length record_body ≡ n) × HasRecord title bytes place record_body
  shows_body n is gate b1 b2 b3 b4 some short near there =
      let record_body : List ℕ = take n (drop (place + 5) bytes) in
      let long : length record_body ≡ n = omega (arith, length-take n (drop (place + 5) bytes), length-drop (place + 5) bytes, there) in
      let found : record_at title bytes place ≡ body record_body (place + 5 + length record_body) =
      found_open title bytes place head_within (gate_is gate) ∙ ap (record_within title bytes place) (length_is n is) ∙ within_body title bytes place n some short near there ∙ ap (λ (k : ℕ). body record_body (place + 5 + k)) (sym long) in
      let spelled : head ≡ OPEN ∷ length_bytes n =
      five_of head (omega (arith, whole, ap length are, length-take 5 (drop place bytes))) ∙ heads (get_or head 0 0) OPEN gate
      ∙ ap (λ (l : List ℕ). OPEN ∷ l) (sym (length_spelled (get_or head 1 0) (get_or head 2 0) (get_or head 3 0) (get_or head 4 0) b1 b2 b3 b4))
      ∙ ap (λ (k : ℕ). OPEN ∷ length_bytes k) (sym is) in
      let rest : take n (drop 5 (drop place bytes)) ≡ record_body = ap (take n) (drop-drop 5 place bytes) in
      let record_is : take (5 + n) (drop place bytes) ≡ record_of record_body =
      take-add 5 n (drop place bytes) ∙ ap (λ (l : List ℕ). l ++ take n (drop 5 (drop place bytes))) (sym are ∙ spelled) ∙ ap (λ (l : List ℕ). (OPEN ∷ length_bytes n) ++ l) rest ∙ ap (λ (k : ℕ). (OPEN ∷ length_bytes k) ++ record_body) (sym long) in
      let sum : place + 5 + length record_body ≡ place + (5 + n) = omega (arith, long) in (
        record_body,
        long,
        record {
          found = found;
          prefix = ap (λ (k : ℕ). take k bytes) sum ∙ take-add place (5 + n) bytes ∙ ap (λ (l : List ℕ). take place bytes ++ l) record_is;
          is_body = (omega (arith, long, some), omega (arith, long, short));
          within = omega (arith, long, there);
          limit = omega (arith, long, near);
        },
      )
    where
      heads : (a b : ℕ) → a ≡ b → a ∷ get_or head 1 0 ∷ get_or head 2 0 ∷ get_or head 3 0 ∷ get_or head 4 0 ∷ [] ≡ b ∷ get_or head 1 0 ∷ get_or head 2 0 ∷ get_or head 3 0 ∷ get_or head 4 0 ∷ []
      heads a b e = cc
