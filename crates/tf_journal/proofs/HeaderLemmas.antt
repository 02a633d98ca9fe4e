-- What a file is, by its first bytes.
use Rattle.std.proofs.Common.{◌≡◌, ◌≢◌, ◌⊎◌, inl, inr, ⊎_elim, ℕ, suc, ◌+◌, ◌≤◌, ◌<◌, Bool, true, false, List, [], ◌∷◌, ◌++◌, length, get_or, take, drop, Option, Some, None, refl, sym, ◌∙◌, ap, arith, length-take, length-drop}
use Rattle.std.specs.Prelude.{nat_eq, nat_le, ◌==◌, ◌||◌, ◌&&◌, not, if◌then◌else◌}
use Rattle.std.specs.Cmp.Lexicographic.{pointwise, bytes_decides}
use Rattle.std.proofs.lemmas.Bool.{eqb-true, eq-eqb}
use Rattle.std.proofs.lemmas.Bool.Decides.{nat_tests}
use Rattle.std.proofs.lemmas.List.{get_or-take, drop-take, take_at, drop_all, drop_more}
use Rattle.tf_journal.specs.declared.title.Title.{Title}
use Rattle.tf_journal.specs.declared.title.Title.TheVariants.{Book, Jobs, Book2}
use Rattle.tf_journal.specs.Format.{OPEN, title_of, Recovered, unborn, old_format, not_a_book, records_from, title_fault, titled, has_title, is_old, is_unborn, recovered_born, recovered}

last_true : (a b c d : Bool) → c ≡ true → d ≡ false → (a || b || (c && not d)) ≡ true
last_true true true c d p q = cc
last_true true false c d p q = cc
last_true false true c d p q = cc
last_true false false true true p q = cc
last_true false false true false p q = refl
last_true false false false d p q = cc

none_true : (a b b' c d : Bool) → a ≡ false → (b ≡ true → b' ≡ true → ⊥) → (c ≡ true → d ≡ false → ⊥) → (a || (b && b') || (c && not d)) ≡ false
none_true true b b' c d p q r = cc
none_true false true true c d p q r = absurd (q refl refl)
none_true false true false true true p q r = refl
none_true false true false true false p q r = absurd (r refl refl)
none_true false true false false d p q r = refl
none_true false false b' true true p q r = refl
none_true false false b' true false p q r = absurd (r refl refl)
none_true false false b' false d p q r = refl

pub eq_false : (a b : ℕ) → a ≢ b → a == b ≡ false
eq_false a b other = grind (arith, nat_tests)

pub false_eq : (a b : ℕ) → a == b ≡ false → a ≢ b
false_eq a b is same = let told = eq-eqb a b same in cc

le_true : (a b : ℕ) → nat_le a b ≡ true → a ≤ b
le_true a b is = grind (arith, nat_tests)

-- ---- the title

pub sixteen : (title : Title) → length (title_of title) ≡ 16
sixteen Book = refl
sixteen Jobs = refl
sixteen Book2 = refl

-- ---- the title behind a gate that isn't open

-- sixteen letters, and bytes behind them
pub letters_stand : (letters rest : List ℕ) → length letters ≡ 16 → take 16 (letters ++ rest) ≡ letters
letters_stand letters rest sixteen = take_at letters rest 16 sixteen

-- the title and a closed gate, and nothing behind them but in a book of several flows
pub title_there : (title : Title) (behind : List ℕ) → (behind ≡ []) ⊎ (title ≡ Book2) → has_title title (title_of title ++ 0 ∷ behind) ≡ true
title_there Book behind (inl none) = (bytes_decides (title_of Book ++ 0 ∷ behind) (title_of Book ++ 0 ∷ [])).1 (ap (λ (l : List ℕ). title_of Book ++ 0 ∷ l) none)
title_there Jobs behind (inl none) = (bytes_decides (title_of Jobs ++ 0 ∷ behind) (title_of Jobs ++ 0 ∷ [])).1 (ap (λ (l : List ℕ). title_of Jobs ++ 0 ∷ l) none)
title_there Book2 behind why = (bytes_decides (take 16 (title_of Book2 ++ 0 ∷ behind)) (title_of Book2)).1 refl
title_there Book behind (inr is) = absurd (cc)
title_there Jobs behind (inr is) = absurd (cc)

-- the letters of the title alone, in a book of several flows
pub letters_there : (title : Title) (rest : List ℕ) → title ≡ Book2 → take 16 rest ≡ title_of title → has_title title rest ≡ true
letters_there Book rest is same = absurd (cc)
letters_there Jobs rest is same = absurd (cc)
letters_there Book2 rest is same = (bytes_decides (take 16 rest) (title_of Book2)).1 same

-- what stands there
pub title_is : (title : Title) (rest : List ℕ) → has_title title rest ≡ true → (rest ≡ title_of title ++ 0 ∷ []) ⊎ ((title ≡ Book2) × (take 16 rest ≡ title_of title))
title_is Book rest is = inl ((bytes_decides rest (title_of Book ++ 0 ∷ [])).0 is)
title_is Jobs rest is = inl ((bytes_decides rest (title_of Jobs ++ 0 ∷ [])).0 is)
title_is Book2 rest is = inr (refl, (bytes_decides (take 16 rest) (title_of Book2)).0 is)

-- it has the title's letters in front
pub title_letters : (title : Title) (rest : List ℕ) → has_title title rest ≡ true → take 16 rest ≡ title_of title
title_letters title rest is =
    ⊎_elim (λ whole. ap (take 16) whole ∙ letters_stand (title_of title) (0 ∷ []) (sixteen title)) (λ letters. letters.1) (title_is title rest is)

-- ---- unborn files

pub unborn_short : (title : Title) (bytes : List ℕ) → length bytes < 2 → recovered title bytes ≡ unborn
unborn_short title [] short = refl
unborn_short title (gate ∷ []) short = refl
unborn_short title (gate ∷ next ∷ rest) short = absurd (omega (arith, short))

whole_if : (b : Bool) (x y : Recovered) → b ≡ true → (if b then x else y) ≡ x
whole_if true x y is = refl
whole_if false x y is = cc

else_if : (b : Bool) (x y : Recovered) → b ≡ false → (if b then x else y) ≡ y
else_if true x y is = cc
else_if false x y is = refl

-- what is found of a file that isn't unborn
abbrev further : Title → List ℕ → Recovered
further title bytes = if is_old title (drop 1 bytes) then old_format else recovered_born title bytes

pub is_found : (title : Title) (bytes : List ℕ) → is_unborn title bytes ≡ true → recovered title bytes ≡ unborn
is_found title bytes is = whole_if (is_unborn title bytes) unborn (further title bytes) is

zero_true : (n gate : ℕ) (c d : Bool) → n ≤ 17 → gate ≡ 0 → (nat_eq n 0 || (nat_le n 17 && gate == 0) || (c && not d)) ≡ true
zero_true n gate c d short is = by (nat_eq n 0) (nat_le n 17) (gate == 0) c d (grind (arith, nat_tests)) (eq-eqb gate 0 is)
  where
    by : (a b b' c d : Bool) → b ≡ true → b' ≡ true → (a || (b && b') || (c && not d)) ≡ true
    by true true true c d p q = refl
    by false true true c d p q = refl
    by a false b' c d p q = absurd (cc)
    by a true false c d p q = absurd (cc)

pub unborn_zero : (title : Title) (bytes : List ℕ) → 2 ≤ length bytes → length bytes ≤ 18 → get_or bytes 0 0 ≡ 0 → recovered title bytes ≡ unborn
unborn_zero title [] long short gate = refl
unborn_zero title (gate ∷ rest) long short is = is_found title (gate ∷ rest) (zero_true (length rest) gate (has_title title rest) (gate == OPEN) (omega (arith, short)) is)

-- its title stands there, and its gate isn't open
pub unborn_titled : (title : Title) (bytes : List ℕ) → get_or bytes 0 0 ≢ OPEN → has_title title (drop 1 bytes) ≡ true → recovered title bytes ≡ unborn
unborn_titled title [] shut there = refl
unborn_titled title (gate ∷ rest) shut there =
    is_found title (gate ∷ rest) (last_true (nat_eq (length rest) 0) (nat_le (length rest) 17 && gate == 0) (has_title title rest) (gate == OPEN) there (eq_false gate OPEN shut))

-- ---- files that aren't

pub born : (title : Title) (bytes : List ℕ) → 2 ≤ length bytes → (length bytes ≤ 18 → get_or bytes 0 0 ≢ 0) → (get_or bytes 0 0 ≢ OPEN → has_title title (drop 1 bytes) ≡ false) → is_unborn title bytes ≡ false
born title [] long zero_gate shut = absurd (omega (arith, long))
born title (gate ∷ rest) long zero_gate shut =
    none_true (nat_eq (length rest) 0) (nat_le (length rest) 17) (gate == 0) (has_title title rest) (gate == OPEN)
    (eq_false (length rest) 0 (λ none. omega (arith, none, long)))
    (λ short zero_it. zero_gate (omega (arith, le_true (length rest) 17 short)) (eqb-true gate 0 zero_it))
    (λ there shut_it. let none : true ≡ false = sym there ∙ shut (false_eq gate OPEN shut_it) in cc)

-- one that hasn't a 0 first in 18 bytes at most, nor an open gate, is unborn where its title stands there
pub titled_so : (title : Title) (bytes : List ℕ) → 2 ≤ length bytes → (length bytes ≤ 18 → get_or bytes 0 0 ≢ 0) → get_or bytes 0 0 ≢ OPEN → has_title title (drop 1 bytes) ≡ is_unborn title bytes
titled_so title [] long zero_gate shut = absurd (omega (arith, long))
titled_so title (gate ∷ rest) long zero_gate shut = by (has_title title rest) refl
  where
    by : (there : Bool) → has_title title rest ≡ there → has_title title rest ≡ is_unborn title (gate ∷ rest)
    by true there = there ∙ sym (last_true (nat_eq (length rest) 0) (nat_le (length rest) 17 && gate == 0) (has_title title rest) (gate == OPEN) there (eq_false gate OPEN shut))
    by false there = there ∙ sym (born title (gate ∷ rest) long zero_gate (λ open_gate. there))

-- a 0 first in 18 bytes at most
pub zero_unborn : (title : Title) (bytes : List ℕ) → 2 ≤ length bytes → length bytes ≤ 18 → get_or bytes 0 0 ≡ 0 → is_unborn title bytes ≡ true
zero_unborn title [] long short gate = refl
zero_unborn title (gate ∷ rest) long short is = zero_true (length rest) gate (has_title title rest) (gate == OPEN) (omega (arith, short)) is

-- an open gate
pub open_born : (title : Title) (bytes : List ℕ) → 2 ≤ length bytes → get_or bytes 0 0 ≡ OPEN → is_unborn title bytes ≡ false
open_born title bytes long opened = born title bytes long (λ short is. open_zero (get_or bytes 0 0) opened is) (λ shut. absurd (shut opened))
  where
    open_zero : (gate : ℕ) → gate ≡ OPEN → gate ≡ 0 → ⊥
    open_zero gate opened is = omega (arith, opened, is)

-- a book of one flow where one of several is asked for
pub old_found : (title : Title) (bytes : List ℕ) → is_unborn title bytes ≡ false → is_old title (drop 1 bytes) ≡ true → recovered title bytes ≡ old_format
old_found title bytes is told =
    else_if (is_unborn title bytes) unborn (further title bytes) is ∙ whole_if (is_old title (drop 1 bytes)) old_format (recovered_born title bytes) told

-- neither of them
pub born_found : (title : Title) (bytes : List ℕ) → is_unborn title bytes ≡ false → is_old title (drop 1 bytes) ≡ false → recovered title bytes ≡ recovered_born title bytes
born_found title bytes is told =
    else_if (is_unborn title bytes) unborn (further title bytes) is ∙ else_if (is_old title (drop 1 bytes)) old_format (recovered_born title bytes) told

-- a title isn't that of a book of one flow where one of several is asked for
pub not_old : (title : Title) (rest : List ℕ) → take 16 rest ≡ title_of title → is_old title rest ≡ false
not_old Book rest there = refl
not_old Jobs rest there = refl
not_old Book2 rest there = ap (λ (l : List ℕ). pointwise ◌==◌ l (title_of Book)) there

pub bad_gate : (title : Title) (bytes : List ℕ) → 2 ≤ length bytes → is_unborn title bytes ≡ false → is_old title (drop 1 bytes) ≡ false → get_or bytes 0 0 ≢ OPEN
    → recovered title bytes ≡ not_a_book 0 (Some (get_or bytes 0 0))
bad_gate title [] long is young shut = absurd (omega (arith, long))
bad_gate title (gate ∷ rest) long is young shut = born_found title (gate ∷ rest) is young ∙ else_if (gate == OPEN) (titled (title_fault (title_of title) rest 1) (records_from title (length (gate ∷ rest)) (gate ∷ rest) 17)) (not_a_book 0 (Some gate)) told
  where
    told : gate == OPEN ≡ false
    told = grind (arith, nat_tests)

pub open_header : (title : Title) (bytes : List ℕ) → 2 ≤ length bytes → is_unborn title bytes ≡ false → is_old title (drop 1 bytes) ≡ false → get_or bytes 0 0 ≡ OPEN
    → recovered title bytes ≡ titled (title_fault (title_of title) (drop 1 bytes) 1) (records_from title (length bytes) bytes 17)
open_header title [] long is young gate = absurd (omega (arith, long))
open_header title (first ∷ rest) long is young gate = born_found title (first ∷ rest) is young ∙ whole_if (first == OPEN) (titled (title_fault (title_of title) rest 1) (records_from title (length (first ∷ rest)) (first ∷ rest) 17)) (not_a_book 0 (Some first)) told
  where
    told : first == OPEN ≡ true
    told = grind (arith, nat_tests)

-- ---- letters

same_if : {X : Type 0} (b : Bool) (x x' y : X) → x ≡ x' → (if b then x else y) ≡ (if b then x' else y)
same_if true x x' y e = e
same_if false x x' y e = refl

-- bytes behind the one after the title don't matter
pub title_fault-take : (title rest : List ℕ) (offset : ℕ) → title_fault title (take (suc (length title)) rest) offset ≡ title_fault title rest offset
title_fault-take [] [] offset = refl
title_fault-take [] (gate ∷ rest) offset = refl
title_fault-take (letter ∷ title) [] offset = refl
title_fault-take (letter ∷ title) (byte ∷ rest) offset = same_if (letter == byte) (title_fault title (take (suc (length title)) rest) (offset + 1)) (title_fault title rest (offset + 1)) (Some (offset, Some byte)) (title_fault-take title rest (offset + 1))

-- where no byte differs, the title stands whole with a byte behind it
pub title_whole : (title rest : List ℕ) (offset : ℕ) → title_fault title rest offset ≡ None → (take (length title) rest ≡ title) × (length title < length rest)
title_whole [] [] offset is = cc
title_whole [] (gate ∷ rest) offset is = (refl, omega arith)
title_whole (letter ∷ title) [] offset is = cc
title_whole (letter ∷ title) (byte ∷ rest) offset is = by (letter == byte) refl is (title_whole title rest (offset + 1))
  where
    by : (b : Bool) → letter == byte ≡ b → (if b then title_fault title rest (offset + 1) else Some (offset, Some byte)) ≡ None
        → (title_fault title rest (offset + 1) ≡ None → (take (length title) rest ≡ title) × (length title < length rest))
        → (byte ∷ take (length title) rest ≡ letter ∷ title) × (suc (length title) < suc (length rest))
    by true same none further = let more = further none in let its : letter ≡ byte = grind (arith, nat_tests) in let prefix = more.0 in (cc, omega (arith, more.1))
    by false same none further = cc

-- the title, and then another byte
pub title_stands : (title : List ℕ) (gate : ℕ) (rest : List ℕ) (offset : ℕ) → title_fault title (title ++ gate ∷ rest) offset ≡ None
title_stands [] gate rest offset = refl
title_stands (letter ∷ title) gate rest offset = by (letter == letter) (eq-eqb letter letter refl) (title_stands title gate rest (offset + 1))
  where
    by : (b : Bool) → b ≡ true → title_fault title (title ++ gate ∷ rest) (offset + 1) ≡ None → (if b then title_fault title (title ++ gate ∷ rest) (offset + 1) else Some (offset, Some letter)) ≡ None
    by true is stands = stands
    by false is stands = cc

-- ---- the first 18 bytes

module _ (title : Title) (head bytes : List ℕ) (are : head ≡ take 18 bytes) (long : 2 ≤ length head) where
  pub bytes_long : 2 ≤ length bytes
  bytes_long = omega (arith, long, ap length are, length-take 18 bytes)

  pub head_gate : get_or head 0 0 ≡ get_or bytes 0 0
  head_gate = ap (λ (l : List ℕ). get_or l 0 0) are ∙ get_or-take 18 bytes 0 0 (omega arith)

  pub head_rest : drop 1 head ≡ take 17 (drop 1 bytes)
  head_rest = ap (drop 1) are ∙ drop-take 1 17 bytes

  pub header_zero : length bytes ≤ 18 → get_or head 0 0 ≡ 0 → true ≡ is_unborn title bytes
  header_zero short is = sym (zero_unborn title bytes bytes_long short (sym head_gate ∙ is))

  pub header_open : get_or head 0 0 ≡ OPEN → false ≡ is_unborn title bytes
  header_open is = sym (open_born title bytes bytes_long (sym head_gate ∙ is))

  pub header_shut : (length bytes ≤ 18 → get_or head 0 0 ≢ 0) → get_or head 0 0 ≢ OPEN → has_title title (drop 1 bytes) ≡ is_unborn title bytes
  header_shut zero_gate shut = titled_so title bytes bytes_long (λ short is. zero_gate short (head_gate ∙ is)) (λ is. shut (head_gate ∙ is))

  pub header_bad_gate : is_unborn title bytes ≡ false → is_old title (drop 1 bytes) ≡ false → get_or head 0 0 ≢ OPEN → recovered title bytes ≡ not_a_book 0 (Some (get_or head 0 0))
  header_bad_gate is young shut = bad_gate title bytes bytes_long is young (λ open_gate. shut (head_gate ∙ open_gate)) ∙ ap (λ (b : ℕ). not_a_book 0 (Some b)) (sym head_gate)

  fault_is : title_fault (title_of title) (drop 1 head) 1 ≡ title_fault (title_of title) (drop 1 bytes) 1
  fault_is =
      ap (λ (l : List ℕ). title_fault (title_of title) l 1) head_rest
      ∙ let n : 17 ≡ suc (length (title_of title)) = omega (arith, sixteen title) in ap (λ (k : ℕ). title_fault (title_of title) (take k (drop 1 bytes)) 1) n ∙ title_fault-take (title_of title) (drop 1 bytes) 1

  pub header_bad_title : (offset : ℕ) (byte : Option ℕ) → is_unborn title bytes ≡ false → is_old title (drop 1 bytes) ≡ false → get_or head 0 0 ≡ OPEN
      → title_fault (title_of title) (drop 1 head) 1 ≡ Some (offset, byte) → recovered title bytes ≡ not_a_book offset byte
  header_bad_title offset byte is young gate fault =
      open_header title bytes bytes_long is young (sym head_gate ∙ gate) ∙ ap (λ (f : Option (ℕ × Option ℕ)). titled f (records_from title (length bytes) bytes 17)) (sym fault_is ∙ fault)

  pub header_titled : is_unborn title bytes ≡ false → is_old title (drop 1 bytes) ≡ false → get_or head 0 0 ≡ OPEN → title_fault (title_of title) (drop 1 head) 1 ≡ None
      → (take 17 bytes ≡ OPEN ∷ title_of title) × (18 ≤ length bytes) × (recovered title bytes ≡ records_from title (length bytes) bytes 17)
  header_titled is young gate fault =
      let none = sym fault_is ∙ fault in
      let stands = title_whole (title_of title) (drop 1 bytes) 1 none in (
        begins bytes (title_of title) (sym head_gate ∙ gate) (let n : 16 ≡ length (title_of title) = omega (arith, sixteen title) in ap (λ (k : ℕ). take k (drop 1 bytes)) n ∙ stands.0) bytes_long,
        omega (arith, stands.1, length-drop 1 bytes, sixteen title),
        open_header title bytes bytes_long is young (sym head_gate ∙ gate) ∙ ap (λ (f : Option (ℕ × Option ℕ)). titled f (records_from title (length bytes) bytes 17)) none,
      )
    where
      begins : (l letters : List ℕ) → get_or l 0 0 ≡ OPEN → take 16 (drop 1 l) ≡ letters → 2 ≤ length l → take 17 l ≡ OPEN ∷ letters
      begins [] letters first rest whole = absurd (omega (arith, whole))
      begins (a ∷ l) letters first rest whole = cc

-- ---- letter by letter

-- the bytes end where a letter is still to come
pub title_ends : (letters rest : List ℕ) (at : ℕ) → at < length letters → length rest ≤ at → title_fault (drop at letters) (drop at rest) (at + 1) ≡ title_fault letters rest 1
    → Some (at + 1, None) ≡ title_fault letters rest 1
title_ends letters rest at more ended is =
    let none : drop at rest ≡ [] = drop_all at rest ended in
    let some : drop at letters ≡ get_or letters at 0 ∷ drop (at + 1) letters = drop_more letters at 0 more in
    ap (λ (l : List ℕ). title_fault l [] (at + 1)) (sym some) ∙ ap (λ (l : List ℕ). title_fault (drop at letters) l (at + 1)) (sym none) ∙ is

-- all letters stand, and a byte behind them
pub title_done : (letters rest : List ℕ) (at : ℕ) → length letters ≤ at → at < length rest → title_fault (drop at letters) (drop at rest) (at + 1) ≡ title_fault letters rest 1
    → None ≡ title_fault letters rest 1
title_done letters rest at done more is =
    let none : drop at letters ≡ [] = drop_all at letters done in
    let some : drop at rest ≡ get_or rest at 0 ∷ drop (at + 1) rest = drop_more rest at 0 more in
    ap (λ (l : List ℕ). title_fault [] l (at + 1)) (sym some) ∙ ap (λ (l : List ℕ). title_fault l (drop at rest) (at + 1)) (sym none) ∙ is
