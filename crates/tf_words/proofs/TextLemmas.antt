-- What words that are texts give to names are texts.
use Rattle.std.proofs.Common.{◌≡◌, ◌∙◌, ◌+◌, ◌<◌, ◌==◌, ℕ, suc, Bool, cond, true, false, refl, sym, ap, subst, arith, List, [], ◌∷◌, ◌++◌, map, length, get_or, drop, Option, Some, None, option_map, length-append, append_assoc, not}
use Rattle.std.specs.List.{All, list_all}
use Rattle.std.proofs.lemmas.Bool.Decides.{Decides-eqb}
use Rattle.std.proofs.lemmas.Str.{is_utf8-from_IsUtf8, IsUtf8-nil}
use Rattle.std.proofs.lemmas.List.Sums.{AllPass-from_list_all, list_all-from_AllPass}
use Rattle.std.proofs.lemmas.List.Folds.{list_all-map}
use Rattle.std.specs.Borrow.{Bor}
use Rattle.std.specs.Prelude.{IfSome, unwrap_or}
use Rattle.tf_words.specs.Held.{texts_in}
use Rattle.tf_numbers.proofs.TruthLemmas.{and_first, and_second, true_both}
use Rattle.tf_values.specs.Text.{is_text}
use Rattle.tf_words.specs.Verbs.{Halves, halves_of, longer, same_word, Form, Piece, Sort, read_by, alone, are_filled, behind_hyphens, ending, piece_before, is_filled, long, long_of, option_met, pieces, plain, short, sort_of, takes_value, value_met, values_in, word_met}
use Rattle.tf_words.proofs.PairLemmas.{text_behind}

abbrev has_text : Piece → Bool
has_text piece = is_text piece.value

-- each piece that is found has a text
abbrev AreTexts : Option (List Piece) → Type 0
AreTexts None = Unit {0}
AreTexts (Some found) = list_all has_text found ≡ true

no_text : is_text [] ≡ true
no_text = is_utf8-from_IsUtf8 [] IsUtf8-nil

front_texts : (name value : List ℕ) (found : Option (List Piece)) → is_text value ≡ true → AreTexts found → AreTexts (piece_before name value found)
front_texts name value None text texts = tt
front_texts name value (Some others) text texts = true_both (is_text value) (list_all has_text others) text texts

alone_texts : (words : List (List ℕ)) → list_all is_text words ≡ true → list_all has_text (map alone words) ≡ true
alone_texts [] texts = refl
alone_texts (word ∷ words) texts =
    true_both (is_text word) (list_all has_text (map alone words)) (and_first (is_text word) (list_all is_text words) texts) (alone_texts words (and_second (is_text word) (list_all is_text words) texts))

-- ---- the part of a word behind `=`

after_front : (front value : List ℕ) → drop (length front + 1) (front ++ 61 ∷ value) ≡ value
after_front [] value = refl
after_front (byte ∷ front) value = let next : suc (length front) + 1 ≡ suc (length front + 1) = omega arith in rw next (after_front front value)

equals_behind : (front value : List ℕ) → get_or (front ++ 61 ∷ value) (length front) 0 ≡ 61
equals_behind [] value = refl
equals_behind (byte ∷ front) value = equals_behind front value

behind : (front value : List ℕ) → is_text (front ++ 61 ∷ value) ≡ true → is_text value ≡ true
behind front value text =
    let within : length front < length (front ++ 61 ∷ value) = omega (arith, length-append front (61 ∷ value)) in
    subst (λ (rest : List ℕ). is_text rest ≡ true) (after_front front value) (text_behind (front ++ 61 ∷ value) (length front) text within (equals_behind front value))

halves_join : (text : List ℕ) (halves : Halves) → halves_of text ≡ Some halves → text ≡ halves.name ++ 61 ∷ halves.value
halves_join [] halves is = absurd (cc)
halves_join (byte ∷ bytes) halves is = go (byte == 61) refl (halves_of bytes) (halves_join bytes) is
  where
    go : (equals : Bool) → (byte == 61) ≡ equals → (rest : Option Halves) → ((halves : Halves) → rest ≡ Some halves → bytes ≡ halves.name ++ 61 ∷ halves.value)
        → cond equals (Some (record { name = []; value = bytes })) (option_map (longer byte) rest) ≡ Some halves → byte ∷ bytes ≡ halves.name ++ 61 ∷ halves.value
    go true equals rest more is =
        let found : ◌≡◌ {A = Halves} (record { name = []; value = bytes }) halves = cc in
        let same : byte ≡ 61 = (Decides-eqb byte 61).0 equals in
        ap (λ (first : ℕ). first ∷ bytes) same ∙ ap (λ (cut : Halves). cut.name ++ 61 ∷ cut.value) found
    go false equals None more is = absurd (cc)
    go false equals (Some rest) more is =
        let found : ◌≡◌ {A = Halves} (record { name = byte ∷ rest.name; value = rest.value }) halves = cc in
        ap (λ (others : List ℕ). byte ∷ others) (more rest refl) ∙ ap (λ (cut : Halves). cut.name ++ 61 ∷ cut.value) found

-- the value of an option in the same word is a text
abbrev HasTextIn : Sort → Type 0
HasTextIn (long name (Some value)) = is_text value ≡ true
HasTextIn _ = Unit {0}

long_text : (front rest : List ℕ) (halves : Option Halves) → is_text (front ++ rest) ≡ true → halves_of rest ≡ halves → HasTextIn (long_of rest halves)
long_text front rest None text is = tt
long_text front rest (Some halves) text is =
    behind (front ++ halves.name) halves.value (subst (λ (word : List ℕ). is_text word ≡ true) (ap (λ (part : List ℕ). front ++ part) (halves_join rest halves is) ∙ sym (append_assoc front halves.name (61 ∷ halves.value))) text)

sort_text : (word : List ℕ) → is_text word ≡ true → HasTextIn (sort_of word)
sort_text [] text = tt
sort_text (first ∷ []) text = tt
sort_text (first ∷ second ∷ others) text = go (first == 45) (second == 45)
  where
    named : (rest : List ℕ) → is_text (first ∷ second ∷ rest) ≡ true → HasTextIn (behind_hyphens rest)
    named [] text = tt
    named (byte ∷ bytes) text = long_text (first ∷ second ∷ []) (byte ∷ bytes) (halves_of (byte ∷ bytes)) text refl

    go : (hyphen again : Bool) → HasTextIn (cond hyphen (cond again (behind_hyphens others) short) plain)
    go false again = tt
    go true false = tt
    go true true = named others text

-- ---- the words in turn

option_texts : (takes : Option Bool) (name : List ℕ) (value : Option (List ℕ)) (rest : Option (List ℕ) → Option (List Piece)) → HasTextIn (long name value) → ((waiting : Option (List ℕ)) → AreTexts (rest waiting))
    → AreTexts (option_met takes name value rest)
option_texts None name value rest text texts = tt
option_texts (Some true) name (Some value) rest text texts = front_texts name value (rest None) text (texts None)
option_texts (Some true) name None rest text texts = texts (Some name)
option_texts (Some false) name (Some value) rest text texts = tt
option_texts (Some false) name None rest text texts = front_texts name [] (rest None) no_text (texts None)

met_texts : (forms : List Form) (sort : Sort) (word : List ℕ) (words : List (List ℕ)) (rest : Option (List ℕ) → Option (List Piece)) → HasTextIn sort → is_text word ≡ true → list_all is_text words ≡ true
    → ((waiting : Option (List ℕ)) → AreTexts (rest waiting)) → AreTexts (word_met forms sort word words rest)
met_texts forms ending word words rest inside text texts more = alone_texts words texts
met_texts forms (long name value) word words rest inside text texts more = option_texts (takes_value forms name) name value rest inside more
met_texts forms short word words rest inside text texts more = tt
met_texts forms plain word words rest inside text texts more = front_texts [] word (rest None) text (more None)

value_texts : (sort : Sort) (name word : List ℕ) (rest : Option (List Piece)) → is_text word ≡ true → AreTexts rest → AreTexts (value_met sort name word rest)
value_texts ending name word rest text more = tt
value_texts (long other value) name word rest text more = tt
value_texts short name word rest text more = tt
value_texts plain name word rest text more = front_texts name word rest text more

pieces_texts : (forms : List Form) (words : List (List ℕ)) → list_all is_text words ≡ true → (waiting : Option (List ℕ)) → AreTexts (pieces forms waiting words)
pieces_texts forms [] texts None = refl
pieces_texts forms [] texts (Some name) = tt
pieces_texts forms (word ∷ words) texts None =
    let text : is_text word ≡ true = and_first (is_text word) (list_all is_text words) texts in
    let others : list_all is_text words ≡ true = and_second (is_text word) (list_all is_text words) texts in
    met_texts forms (sort_of word) word words (λ waiting. pieces forms waiting words) (sort_text word text) text others (pieces_texts forms words others)
pieces_texts forms (word ∷ words) texts (Some name) =
    let text : is_text word ≡ true = and_first (is_text word) (list_all is_text words) texts in
    let others : list_all is_text words ≡ true = and_second (is_text word) (list_all is_text words) texts in
    value_texts (sort_of word) name word (pieces forms None words) text (pieces_texts forms words others None)

values_texts : (found : List Piece) (name : List ℕ) → list_all has_text found ≡ true → list_all is_text (values_in found name) ≡ true
values_texts [] name texts = refl
values_texts (piece ∷ others) name texts = go (same_word piece.name name) (values_texts others name (and_second (has_text piece) (list_all has_text others) texts))
  where
    go : (same : Bool) → list_all is_text (values_in others name) ≡ true → list_all is_text (cond same (piece.value ∷ values_in others name) (values_in others name)) ≡ true
    go true more = true_both (is_text piece.value) (list_all is_text (values_in others name)) (and_first (has_text piece) (list_all has_text others) texts) more
    go false more = more

filled_texts : (words : List (List ℕ)) → are_filled words ≡ true → list_all is_text words ≡ true
filled_texts [] filled = refl
filled_texts (word ∷ words) filled =
    true_both (is_text word) (list_all is_text words) (and_second (not (length word == 0)) (is_text word) (and_first (is_filled word) (are_filled words) filled)) (filled_texts words (and_second (is_filled word) (are_filled words) filled))

-- all that filled words give to a name
pub said_texts : (forms : List Form) (words : List (List ℕ)) (said : List ℕ → List (List ℕ)) (name : List ℕ) → are_filled words ≡ true → Some said ≡ read_by forms words → All (λ text. is_text text ≡ true) (said name)
said_texts forms words said name filled is = go (pieces forms None words) (pieces_texts forms words (filled_texts words filled) None) is
  where
    go : (found : Option (List Piece)) → AreTexts found → Some said ≡ option_map values_in found → All (λ text. is_text text ≡ true) (said name)
    go None texts is = absurd (cc)
    go (Some found) texts is =
        let same : said ≡ values_in found = cc in
        AllPass-from_list_all is_text (said name) (ap (λ (by : List ℕ → List (List ℕ)). list_all is_text (by name)) same ∙ values_texts found name texts)

-- ---- texts behind references

behind_references : (texts : List (Bor (List ℕ))) → list_all is_text (texts_in texts) ≡ true → All (λ text. is_text text.now ≡ true) texts
behind_references texts all = AllPass-from_list_all (λ (text : Bor (List ℕ)). is_text text.now) texts (sym (list_all-map is_text (λ (text : Bor (List ℕ)). text.now) texts) ∙ all)

pub found_texts : (found : Option (Bor (List (Bor (List ℕ))))) (held : List (List ℕ)) → unwrap_or (option_map (λ texts. texts_in texts.now) found) [] ≡ held → All (λ text. is_text text ≡ true) held
    → IfSome found (λ texts. All (λ text. is_text text.now ≡ true) texts.now)
found_texts None held is all = tt
found_texts (Some texts) held is all = behind_references texts.now (ap (list_all is_text) is ∙ list_all-from_AllPass is_text held all)
