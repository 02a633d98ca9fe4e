-- The text form of a scalar has one reading, up to a comma, a closing bracket or the end.
use Rattle.std.proofs.Common.{◌≡◌, ◌≢◌, ℕ, ℤ, ◌<◌, ◌≤◌, ◌⊎◌, inl, inr, List, [], ◌∷◌, ◌++◌, length, get_or, true, false, refl, sym, ap, subst, ◌∙◌, append_assoc, arith}
use Rattle.std.specs.Prelude.{FitsSigned, codes}
use Rattle.std.specs.Int.{w64}
use Rattle.std.specs.Fmt.{signed_decimal}
use Rattle.std.specs.List.{flat_map}
use Rattle.std.proofs.lemmas.Fmt.{signed_decimal_injective}
use Rattle.tf_values.specs.declared.elements.Scalar.{Scalar}
use Rattle.tf_values.specs.declared.elements.Scalar.TheVariants as scalar
use Rattle.tf_values.specs.Text.{is_text}
use Rattle.tf_values.specs.Value.{quoted_byte, quoted, scalar_text}
use Rattle.tf_values.specs.Scalars.{IsElement}
use Rattle.tf_values.specs.Word.{ends_here, is_word, IsNoScalar}
use Rattle.tf_values.proofs.ListLemmas.{tails, same_heads, differ}
use Rattle.tf_values.proofs.QuoteLemmas.{quoted_text_one}
use Rattle.tf_values.proofs.WordLemmas.{number_begins, number_is_word, word_one}

-- a scalar that is no text
abbrev pub IsWord : Scalar → Type 0
IsWord scalar.Nothing = Unit {0}
IsWord (scalar.Truth truth) = Unit {0}
IsWord (scalar.Int number) = Unit {0}
IsWord (scalar.Text text) = ⊥

-- a scalar that is a text
pub record IsTextScalar (s : Scalar) : Type 0 where
  pub text : List ℕ
  pub is : s ≡ scalar.Text text

kind : (s : Scalar) → IsTextScalar s ⊎ IsWord s
kind scalar.Nothing = inr tt
kind (scalar.Truth truth) = inr tt
kind (scalar.Int number) = inr tt
kind (scalar.Text text) = inl (record { text = text; is = refl })

-- the first byte of an integer's text is a digit or a sign
number_head : (z : ℤ) (rest : List ℕ) → FitsSigned w64 z → (45 ≤ get_or (signed_decimal z ++ rest) 0 0) × (get_or (signed_decimal z ++ rest) 0 0 ≤ 57)
number_head z rest fits = let begins = number_begins z fits in rw begins.is (begins.low, begins.high)

number_other : (z : ℤ) (xs : List ℕ) → FitsSigned w64 z → 57 < get_or xs 0 0 → signed_decimal z ≢ xs
number_other z xs fits above e = let begins = number_begins z fits in let head : get_or xs 0 0 ≡ begins.first = same_heads xs (begins.first ∷ begins.others) (sym e ∙ begins.is) in let high = begins.high in omega arith

words_one : (x y : Scalar) → IsElement x → IsElement y → IsWord x → IsWord y → scalar_text x ≡ scalar_text y → x ≡ y
words_one scalar.Nothing scalar.Nothing gx gy wx wy e = refl
words_one scalar.Nothing (scalar.Truth false) gx gy wx wy e = absurd (omega (arith, same_heads (codes "null") (codes "false") e))
words_one scalar.Nothing (scalar.Truth true) gx gy wx wy e = absurd (omega (arith, same_heads (codes "null") (codes "true") e))
words_one scalar.Nothing (scalar.Int n) gx gy wx wy e = absurd (number_other n (codes "null") gy (omega arith) (sym e))
words_one scalar.Nothing (scalar.Text u) gx gy wx wy e = absurd wy
words_one (scalar.Truth false) scalar.Nothing gx gy wx wy e = absurd (omega (arith, same_heads (codes "false") (codes "null") e))
words_one (scalar.Truth false) (scalar.Truth false) gx gy wx wy e = refl
words_one (scalar.Truth false) (scalar.Truth true) gx gy wx wy e = absurd (omega (arith, same_heads (codes "false") (codes "true") e))
words_one (scalar.Truth false) (scalar.Int n) gx gy wx wy e = absurd (number_other n (codes "false") gy (omega arith) (sym e))
words_one (scalar.Truth false) (scalar.Text u) gx gy wx wy e = absurd wy
words_one (scalar.Truth true) scalar.Nothing gx gy wx wy e = absurd (omega (arith, same_heads (codes "true") (codes "null") e))
words_one (scalar.Truth true) (scalar.Truth false) gx gy wx wy e = absurd (omega (arith, same_heads (codes "true") (codes "false") e))
words_one (scalar.Truth true) (scalar.Truth true) gx gy wx wy e = refl
words_one (scalar.Truth true) (scalar.Int n) gx gy wx wy e = absurd (number_other n (codes "true") gy (omega arith) (sym e))
words_one (scalar.Truth true) (scalar.Text u) gx gy wx wy e = absurd wy
words_one (scalar.Int m) scalar.Nothing gx gy wx wy e = absurd (number_other m (codes "null") gx (omega arith) e)
words_one (scalar.Int m) (scalar.Truth false) gx gy wx wy e = absurd (number_other m (codes "false") gx (omega arith) e)
words_one (scalar.Int m) (scalar.Truth true) gx gy wx wy e = absurd (number_other m (codes "true") gx (omega arith) e)
words_one (scalar.Int m) (scalar.Int n) gx gy wx wy e = ap (λ (z : ℤ). scalar.Int z) (signed_decimal_injective m n gx.sfits gy.sfits e)
words_one (scalar.Int m) (scalar.Text u) gx gy wx wy e = absurd wy
words_one (scalar.Text t) scalar.Nothing gx gy wx wy e = absurd wx
words_one (scalar.Text t) (scalar.Truth false) gx gy wx wy e = absurd wx
words_one (scalar.Text t) (scalar.Truth true) gx gy wx wy e = absurd wx
words_one (scalar.Text t) (scalar.Int n) gx gy wx wy e = absurd wx
words_one (scalar.Text t) (scalar.Text u) gx gy wx wy e = absurd wx

words_are_words : (s : Scalar) → IsElement s → IsWord s → is_word (scalar_text s) ≡ true
words_are_words scalar.Nothing is word = refl
words_are_words (scalar.Truth false) is word = refl
words_are_words (scalar.Truth true) is word = refl
words_are_words (scalar.Int number) is word = number_is_word number is
words_are_words (scalar.Text text) is word = absurd word

-- no word begins with a quote
word_no_quote : (s : Scalar) (rest after : List ℕ) → IsElement s → IsWord s → 34 ∷ after ≢ scalar_text s ++ rest
word_no_quote scalar.Nothing rest after is word e = absurd (omega (arith, same_heads (34 ∷ after) (codes "null" ++ rest) e))
word_no_quote (scalar.Truth false) rest after is word e = absurd (omega (arith, same_heads (34 ∷ after) (codes "false" ++ rest) e))
word_no_quote (scalar.Truth true) rest after is word e = absurd (omega (arith, same_heads (34 ∷ after) (codes "true" ++ rest) e))
word_no_quote (scalar.Int number) rest after is word e = let head = number_head number rest is in absurd (omega (arith, head.0, same_heads (34 ∷ after) (signed_decimal number ++ rest) e))
word_no_quote (scalar.Text text) rest after is word e = absurd word

quoted_rest : (text rest : List ℕ) → quoted text ++ rest ≡ 34 ∷ (flat_map quoted_byte text ++ 34 ∷ rest)
quoted_rest text rest = ap (λ (xs : List ℕ). 34 ∷ xs) (append_assoc (flat_map quoted_byte text) (34 ∷ []) rest)

pub quoted_one : (text other a b : List ℕ) → quoted text ++ a ≡ quoted other ++ b → (text ≡ other) × (a ≡ b)
quoted_one text other a b e =
    quoted_text_one text other a b (tails 34 34 (flat_map quoted_byte text ++ 34 ∷ a) (flat_map quoted_byte other ++ 34 ∷ b) (sym (quoted_rest text a) ∙ e ∙ quoted_rest other b))

both_texts : (x y : Scalar) (a b : List ℕ) → IsTextScalar x → IsTextScalar y → scalar_text x ++ a ≡ scalar_text y ++ b → (x ≡ y) × (a ≡ b)
both_texts x y a b tx ty e =
    let same = quoted_one tx.text ty.text a b (ap (λ (s : Scalar). scalar_text s ++ a) (sym tx.is) ∙ e ∙ ap (λ (s : Scalar). scalar_text s ++ b) ty.is) in
    (tx.is ∙ ap (λ (text : List ℕ). scalar.Text text) same.0 ∙ sym ty.is, same.1)

text_and_word : (x y : Scalar) (a b : List ℕ) → IsTextScalar x → IsElement y → IsWord y → scalar_text x ++ a ≢ scalar_text y ++ b
text_and_word x y a b tx gy wy e = word_no_quote y b (flat_map quoted_byte tx.text ++ 34 ∷ a) gy wy (sym (quoted_rest tx.text a) ∙ ap (λ (s : Scalar). scalar_text s ++ a) (sym tx.is) ∙ e)

both_words : (x y : Scalar) (a b : List ℕ) → IsElement x → IsElement y → IsWord x → IsWord y → ends_here a ≡ true → ends_here b ≡ true → scalar_text x ++ a ≡ scalar_text y ++ b → (x ≡ y) × (a ≡ b)
both_words x y a b gx gy wx wy ea eb e =
    let same = word_one (scalar_text x) (scalar_text y) a b (words_are_words x gx wx) (words_are_words y gy wy) ea eb e in
    (words_one x y gx gy wx wy same.0, same.1)

pub scalar_text_one : (x y : Scalar) (a b : List ℕ) → IsElement x → IsElement y → ends_here a ≡ true → ends_here b ≡ true → scalar_text x ++ a ≡ scalar_text y ++ b → (x ≡ y) × (a ≡ b)
scalar_text_one x y a b gx gy ea eb e =
    elim (kind x) [
      | inl tx ↦ elim (kind y) [ inl ty ↦ both_texts x y a b tx ty e | inr wy ↦ absurd (text_and_word x y a b tx gy wy e) ]
      | inr wx ↦ elim (kind y) [ inl ty ↦ absurd (text_and_word y x b a ty gx wx (sym e)) | inr wy ↦ both_words x y a b gx gy wx wy ea eb e ]
    ]

-- a quoted text that something else than a mark follows is no scalar
pub no_text-unended : (read rest bytes : List ℕ) → bytes ≡ flat_map quoted_byte read ++ 34 ∷ rest → ends_here rest ≡ false
    → (text after : List ℕ) → is_text text ≡ true → ends_here after ≡ true → 34 ∷ bytes ≢ quoted text ++ after
no_text-unended read rest bytes is unended text after good ends e =
    let same = quoted_one read text rest after (quoted_rest read rest ∙ ap (λ (xs : List ℕ). 34 ∷ xs) (sym is) ∙ e) in
    differ (ends_here rest) unended (ap ends_here same.1 ∙ ends)

-- quoted bytes that are no text are no scalar
pub no_text-bytes : (read rest bytes : List ℕ) → bytes ≡ flat_map quoted_byte read ++ 34 ∷ rest → is_text read ≡ false
    → (text after : List ℕ) → is_text text ≡ true → ends_here after ≡ true → 34 ∷ bytes ≢ quoted text ++ after
no_text-bytes read rest bytes is other text after good ends e =
    let same = quoted_one read text rest after (quoted_rest read rest ∙ ap (λ (xs : List ℕ). 34 ∷ xs) (sym is) ∙ e) in
    differ (is_text read) other (ap is_text same.0 ∙ good)

abbrev pub NoScalar : List ℕ → Type 0
NoScalar bytes = (s : Scalar) (rest : List ℕ) → IsElement s → ends_here rest ≡ true → bytes ≢ scalar_text s ++ rest

-- the text form of a scalar isn't empty
pub empty_is_none : (bytes : List ℕ) → length bytes ≡ 0 → NoScalar bytes
empty_is_none [] empty scalar.Nothing rest is ends e = cc
empty_is_none [] empty (scalar.Truth false) rest is ends e = cc
empty_is_none [] empty (scalar.Truth true) rest is ends e = cc
empty_is_none [] empty (scalar.Int number) rest is ends e = let head = number_head number rest is in absurd (omega (arith, head.0, same_heads [] (signed_decimal number ++ rest) e))
empty_is_none [] empty (scalar.Text text) rest is ends e = cc
empty_is_none (x ∷ xs) empty s rest is ends e = absurd (omega arith)

-- behind a quote only a text can stand
pub none-quoted : (first : ℕ) (inner bytes : List ℕ) → bytes ≡ first ∷ inner → first ≡ 34
    → ((text rest : List ℕ) → is_text text ≡ true → ends_here rest ≡ true → 34 ∷ inner ≢ quoted text ++ rest) → NoScalar bytes
none-quoted first inner bytes read quote none s rest is ends e =
    let begins : 34 ∷ inner ≡ bytes = ap (λ (n : ℕ). n ∷ inner) (sym quote) ∙ sym read in
    elim (kind s) [
      | inl text ↦ none text.text rest (subst IsElement text.is is) ends (begins ∙ e ∙ ap (λ (t : Scalar). scalar_text t ++ rest) text.is)
      | inr word ↦ word_no_quote s rest inner is word (begins ∙ e)
    ]

none-word : (s : Scalar) → IsElement s → IsWord s → (word : List ℕ) → IsNoScalar word → word ≢ scalar_text s
none-word scalar.Nothing is word bytes none e = none.nothing e
none-word (scalar.Truth truth) is word bytes none e = none.truth truth e
none-word (scalar.Int number) is word bytes none e = none.number number is e
none-word (scalar.Text text) is word bytes none e = absurd word

-- without a quote only a word can stand
pub none-bare : (first : ℕ) (inner bytes word rest : List ℕ) → bytes ≡ first ∷ inner → first ≢ 34 → bytes ≡ word ++ rest → is_word word ≡ true → ends_here rest ≡ true → IsNoScalar word → NoScalar bytes
none-bare first inner bytes word rest read bare whole plain ends none s after is ended e =
    elim (kind s) [
      | inl text ↦ bare (same_heads (first ∷ inner) (quoted text.text ++ after) (sym read ∙ e ∙ ap (λ (t : Scalar). scalar_text t ++ after) text.is))
      | inr named ↦ none-word s is named word none (word_one word (scalar_text s) rest after plain (words_are_words s is named) ends ended (sym whole ∙ e)).0
    ]
