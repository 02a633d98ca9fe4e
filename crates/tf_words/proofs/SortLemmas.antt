-- How the library sees a word, by what it is.
use Rattle.std.proofs.Common.{◌≡◌, ◌∙◌, ◌+◌, ◌==◌, ◌||◌, ℕ, Bool, cond, true, false, refl, sym, ap, arith, List, [], ◌∷◌, length, drop, take, codes, Option, Some, None, not, option_map, suc, ◌<◌}
use Rattle.std.specs.Prelude.{slice_get}
use Rattle.std.specs.List.{position_or_len}
use Rattle.std.specs.Str.{IsUtf8, IsCharBoundary, bytes_eq, chars, is_utf8}
use Rattle.std.proofs.Math.Utf8.{encodes}
use Rattle.std.proofs.lemmas.Bool.Decides.{Decides-eqb}
use Rattle.std.proofs.lemmas.Str.{IsUtf8-from_is_utf8, IsUtf8-drop, IsCharBoundary-after_ascii, encodes-chars}
use Rattle.clap.specs.Lexer.{has_byte, long_of as library_long, name_and_value, short_of}
use Rattle.tf_words.specs.Verbs.{Halves, halves_of, longer, Sort, ending, long, plain, short, sort_of, behind_hyphens, long_of}

-- the first letter of a bundle of flags
abbrev pub HasLetter : List ℕ → Type 0
HasLetter flags = (letter : ℕ) × (slice_get (chars flags) 0 ≡ Some letter)

-- what the library sees in a word of a sort
pub record Sees (ends : Bool) (long_name : Option (List ℕ × Option (List ℕ))) (flags : Option (List ℕ)) (word : List ℕ) : Type 0 where
  pub ending : bytes_eq word (codes "--") ≡ ends
  pub name : library_long word ≡ long_name
  pub letters : short_of word ≡ flags

abbrev pub SeenAs : Sort → List ℕ → Type 0
SeenAs ending word = bytes_eq word (codes "--") ≡ true
SeenAs (long name value) word = Sees false (Some (name, value)) None word
SeenAs short word = (flags : List ℕ) × Sees false None (Some flags) word × HasLetter flags
SeenAs plain word = Sees false None None word

-- a name and a value by the halves at the first `=`
abbrev named : List ℕ → Option Halves → List ℕ × Option (List ℕ)
named text None = (text, None)
named text (Some halves) = (halves.name, Some halves.value)

named_longer : (byte : ℕ) (bytes : List ℕ) (rest : Option Halves) → named (byte ∷ bytes) (option_map (longer byte) rest) ≡ (byte ∷ (named bytes rest).0, (named bytes rest).1)
named_longer byte bytes None = refl
named_longer byte bytes (Some halves) = refl

one_further : (n byte : ℕ) (bytes : List ℕ) (has : Bool) (rest : Option Halves) → ◌≡◌ {A = List ℕ × Option (List ℕ)} (take n bytes, cond has (Some (drop (n + 1) bytes)) None) (named bytes rest)
    → ◌≡◌ {A = List ℕ × Option (List ℕ)} (take (1 + n) (byte ∷ bytes), cond has (Some (drop (1 + n + 1) (byte ∷ bytes))) None) (named (byte ∷ bytes) (option_map (longer byte) rest))
one_further n byte bytes has rest is =
    let one : 1 + n ≡ suc n = omega arith in
    let two : suc n + 1 ≡ suc (n + 1) = omega arith in
    let longer_pair : List ℕ × Option (List ℕ) → List ℕ × Option (List ℕ) = λ pair. (byte ∷ pair.0, pair.1) in
    rw (one, two) (ap longer_pair is ∙ sym (named_longer byte bytes rest))

halves_seen : (text : List ℕ) → name_and_value text ≡ named text (halves_of text)
halves_seen [] = refl
halves_seen (byte ∷ bytes) = go (byte == 61) (halves_seen bytes)
  where
    go : (equals : Bool) → name_and_value bytes ≡ named bytes (halves_of bytes)
        → ◌≡◌ {A = List ℕ × Option (List ℕ)}
        (take (cond (not equals) (1 + position_or_len (λ x. x == 61) bytes) 0) (byte ∷ bytes), cond (equals || has_byte 61 bytes) (Some (drop (cond (not equals) (1 + position_or_len (λ x. x == 61) bytes) 0 + 1) (byte ∷ bytes))) None)
        (named (byte ∷ bytes) (cond equals (Some (record { name = []; value = bytes })) (option_map (longer byte) (halves_of bytes))))
    go true is = refl
    go false is = one_further (position_or_len (λ x. x == 61) bytes) byte bytes (has_byte 61 bytes) (halves_of bytes) is

-- ---- each sort

sees_plain : (word : List ℕ) → bytes_eq word (codes "--") ≡ false → library_long word ≡ None → short_of word ≡ None → Sees false None None word
sees_plain word other no_name no_letters = record { ending = other; name = no_name; letters = no_letters }

one_byte : (first : ℕ) → SeenAs plain (first ∷ [])
one_byte first = go (first == 45) refl
  where
    go : (hyphen : Bool) → (first == 45) ≡ hyphen → SeenAs plain (first ∷ [])
    go true is = sees_plain (first ∷ []) (rw is refl) (rw is refl) (rw is refl)
    go false is = sees_plain (first ∷ []) (rw is refl) (rw is refl) (rw is refl)

other_first : (first second : ℕ) (others : List ℕ) → (first == 45) ≡ false → SeenAs plain (first ∷ second ∷ others)
other_first first second others is = sees_plain (first ∷ second ∷ others) (rw is refl) (rw is refl) (rw is refl)

letter_of : (flags letters : List ℕ) → encodes letters ≡ flags → chars flags ≡ letters → (0 < length flags) → HasLetter flags
letter_of flags [] spelled is some = absurd (omega (arith, ap length spelled))
letter_of flags (letter ∷ letters) spelled is some = (letter, ap (λ (cs : List ℕ). slice_get cs 0) is)

has_letter : (first second : ℕ) (others : List ℕ) → is_utf8 (first ∷ second ∷ others) ≡ true → first < 128 → HasLetter (second ∷ others)
has_letter first second others text ascii =
    let word : List ℕ = first ∷ second ∷ others in
    let utf8 : IsUtf8 word = IsUtf8-from_is_utf8 word text in
    let begins : IsCharBoundary word 1 = IsCharBoundary-after_ascii word 0 utf8 (omega arith) ascii in
    let rest : IsUtf8 (second ∷ others) = IsUtf8-drop word 1 utf8 begins in
    letter_of (second ∷ others) (chars (second ∷ others)) (encodes-chars (second ∷ others) rest) refl (omega arith)

hyphen_first : (first second : ℕ) (others : List ℕ) → is_utf8 (first ∷ second ∷ others) ≡ true → (first == 45) ≡ true → (second == 45) ≡ false → SeenAs short (first ∷ second ∷ others)
hyphen_first first second others text is other = (
  second ∷ others,
  record { ending = rw (is, other) refl; name = rw (is, other) refl; letters = rw (is, other) refl },
  has_letter first second others text (let small : first ≡ 45 = (Decides-eqb first 45).0 is in omega arith),
)

hyphens_first : (first second : ℕ) (others : List ℕ) → (first == 45) ≡ true → (second == 45) ≡ true → SeenAs (behind_hyphens others) (first ∷ second ∷ others)
hyphens_first first second [] is also = rw (is, also) refl
hyphens_first first second (byte ∷ bytes) is also = go (halves_of (byte ∷ bytes)) (halves_seen (byte ∷ bytes))
  where
    go : (halves : Option Halves) → name_and_value (byte ∷ bytes) ≡ named (byte ∷ bytes) halves → SeenAs (long_of (byte ∷ bytes) halves) (first ∷ second ∷ byte ∷ bytes)
    go None seen = record { ending = rw (is, also) refl; name = rw (is, also) (ap Some seen); letters = rw (is, also) refl }
    go (Some halves) seen = record { ending = rw (is, also) refl; name = rw (is, also) (ap Some seen); letters = rw (is, also) refl }

-- a word of UTF-8 is seen as what it is
pub seen_as : (word : List ℕ) → is_utf8 word ≡ true → SeenAs (sort_of word) word
seen_as [] text = sees_plain [] refl refl refl
seen_as (first ∷ []) text = one_byte first
seen_as (first ∷ second ∷ others) text = go (first == 45) refl (second == 45) refl
  where
    go : (hyphen : Bool) → (first == 45) ≡ hyphen → (again : Bool) → (second == 45) ≡ again
        → SeenAs (cond hyphen (cond again (behind_hyphens others) short) plain) (first ∷ second ∷ others)
    go false is again same = other_first first second others is
    go true is false same = hyphen_first first second others text is same
    go true is true same = hyphens_first first second others is same
