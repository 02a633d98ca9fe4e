-- A value's forms have one reading.
use Rattle.std.proofs.Common.{◌≡◌, ◌≢◌, ◌==◌, ℕ, ◌<◌, ◌⊎◌, inl, inr, List, [], ◌∷◌, ◌++◌, length, true, false, refl, sym, ap, subst, ◌∙◌, append_assoc, arith}
use Rattle.std.specs.Prelude.{codes}
use Rattle.std.specs.List.{flat_map, AllByRecursion}
use Rattle.std.proofs.lemmas.List.{append-nil}
use Rattle.tf_values.specs.declared.elements.Scalar.{Scalar}
use Rattle.tf_values.specs.declared.elements.Scalar.TheVariants as scalar
use Rattle.tf_values.specs.declared.value.Val.{Val}
use Rattle.tf_values.specs.declared.value.Val.TheVariants as value
use Rattle.tf_values.specs.Scalars.{scalar_bytes, list_bytes, are_scalars, IsElement}
use Rattle.tf_values.specs.Value.{quoted_byte, scalar_text, further_text, scalars_text, text_form, value_of, byte_form, IsValue, IsTextOf}
use Rattle.tf_values.specs.Word.{ends_here}
use Rattle.tf_values.proofs.ListLemmas.{heads, tails, same_heads, differ}
use Rattle.tf_values.proofs.Codes.{IsCode, BeginsNone, one_reading}
use Rattle.tf_values.proofs.ByteLemmas.{scalar_one, list_one, list_is_short}
use Rattle.tf_values.proofs.WordLemmas.{number_begins}
use Rattle.tf_values.proofs.ScalarLemmas.{NoScalar, scalar_text_one}

abbrev Ends : List ℕ → Type 0
Ends rest = ends_here rest ≡ true

-- ---- lists in the text form

-- each scalar with a comma before it: no form begins another's
further_code : IsCode further_text IsElement Ends
further_code = record {
  one = λ x y a b gx gy fa fb e. scalar_text_one x y a b gx gy fa fb (tails 44 44 (scalar_text x ++ a) (scalar_text y ++ b) e);
  forms_follow = λ x a gx. refl;
}

bracket_none : BeginsNone further_text IsElement Ends (93 ∷ [])
bracket_none s rest good ends e = absurd (omega (arith, heads 93 44 [] (scalar_text s ++ rest) e))

pub comma_none : (rest after : List ℕ) → rest ≡ 44 ∷ after → NoScalar after → BeginsNone further_text IsElement Ends rest
comma_none rest after is none s more good ends e = none s more good ends (tails 44 44 after (scalar_text s ++ more) (sym is ∙ e))

pub no_comma_none : (rest : List ℕ) → ((after : List ℕ) → rest ≢ 44 ∷ after) → BeginsNone further_text IsElement Ends rest
no_comma_none rest none s more good ends e = none (scalar_text s ++ more) e

with_comma : (scalars : List Scalar) (bytes : List ℕ) → bytes ≡ scalars_text scalars ++ 93 ∷ [] → bytes ≢ 93 ∷ [] → 44 ∷ bytes ≡ flat_map further_text scalars ++ 93 ∷ []
with_comma [] bytes e other = absurd (other e)
with_comma (first ∷ others) bytes e other = ap (λ (xs : List ℕ). 44 ∷ xs) e

-- what is read up to something else than a comma with a scalar or the last bracket is no list
pub no_scalars : (items : List Scalar) (rest bytes : List ℕ) → AllByRecursion IsElement items → 44 ∷ bytes ≡ flat_map further_text items ++ rest → ends_here rest ≡ true
    → BeginsNone further_text IsElement Ends rest → rest ≢ 93 ∷ [] → bytes ≢ 93 ∷ [] → (scalars : List Scalar) → AllByRecursion IsElement scalars → bytes ≢ scalars_text scalars ++ 93 ∷ []
no_scalars items rest bytes gi read ends none unclosed filled scalars gs e =
    unclosed (one_reading further_text IsElement Ends further_code items scalars rest (93 ∷ []) gi gs ends refl none bracket_none (sym read ∙ with_comma scalars bytes e filled)).1

pub comma_is_no_bracket : (after : List ℕ) → 44 ∷ after ≢ 93 ∷ []
comma_is_no_bracket after e = absurd (omega (arith, heads 44 93 after [] e))

pub comma_goes_on : (rest after : List ℕ) → rest ≡ 44 ∷ after → rest ≢ 93 ∷ []
comma_goes_on rest after is e = comma_is_no_bracket after (sym is ∙ e)

-- no scalar's text begins with a bracket
bracket_begins_none : (n : ℕ) (xs rest : List ℕ) (s : Scalar) → 57 < n → n < 100 → IsElement s → n ∷ xs ≢ scalar_text s ++ rest
bracket_begins_none n xs rest scalar.Nothing low high is e = absurd (omega (arith, same_heads (n ∷ xs) (codes "null" ++ rest) e))
bracket_begins_none n xs rest (scalar.Truth false) low high is e = absurd (omega (arith, same_heads (n ∷ xs) (codes "false" ++ rest) e))
bracket_begins_none n xs rest (scalar.Truth true) low high is e = absurd (omega (arith, same_heads (n ∷ xs) (codes "true" ++ rest) e))
bracket_begins_none n xs rest (scalar.Int number) low high is e =
    let begins = number_begins number is in
    let whole : n ∷ xs ≡ begins.first ∷ (begins.others ++ rest) = e ∙ ap (λ (ys : List ℕ). ys ++ rest) begins.is in
    let first_high = begins.high in
    absurd (omega (arith, heads n begins.first xs (begins.others ++ rest) whole))
bracket_begins_none n xs rest (scalar.Text text) low high is e = absurd (omega (arith, heads n 34 xs ((flat_map quoted_byte text ++ 34 ∷ []) ++ rest) e))

-- two lists with one text are one
pub list_text_one : (items scalars : List Scalar) → AllByRecursion IsElement items → AllByRecursion IsElement scalars → scalars_text items ++ 93 ∷ [] ≡ scalars_text scalars ++ 93 ∷ [] → items ≡ scalars
list_text_one [] [] gi gs e = refl
list_text_one [] (y ∷ ys) gi gs e = absurd (bracket_begins_none 93 [] (flat_map further_text ys ++ 93 ∷ []) y (omega arith) (omega arith) gs.0 (e ∙ append_assoc (scalar_text y) (flat_map further_text ys) (93 ∷ [])))
list_text_one (x ∷ xs) [] gi gs e = absurd (bracket_begins_none 93 [] (flat_map further_text xs ++ 93 ∷ []) x (omega arith) (omega arith) gi.0 (sym e ∙ append_assoc (scalar_text x) (flat_map further_text xs) (93 ∷ [])))
list_text_one (x ∷ xs) (y ∷ ys) gi gs e =
    (one_reading further_text IsElement Ends further_code (x ∷ xs) (y ∷ ys) (93 ∷ []) (93 ∷ []) gi gs refl refl bracket_none bracket_none (ap (λ (zs : List ℕ). 44 ∷ zs) e)).0

-- ---- values

pub record IsScalarValue (v : Val) : Type 0 where
  pub scalar : Scalar
  pub is : v ≡ value_of scalar

pub record IsListValue (v : Val) : Type 0 where
  pub scalars : List Scalar
  pub is : v ≡ value.List scalars

kind : (v : Val) → IsScalarValue v ⊎ IsListValue v
kind value.Nothing = inl (record { scalar = scalar.Nothing; is = refl })
kind (value.Truth truth) = inl (record { scalar = scalar.Truth truth; is = refl })
kind (value.Int number) = inl (record { scalar = scalar.Int number; is = refl })
kind (value.Text text) = inl (record { scalar = scalar.Text text; is = refl })
kind (value.List scalars) = inr (record { scalars = scalars; is = refl })

good_scalar : (s : Scalar) → IsValue (value_of s) → IsElement s
good_scalar scalar.Nothing is = tt
good_scalar (scalar.Truth truth) is = tt
good_scalar (scalar.Int number) is = is
good_scalar (scalar.Text text) is = is

text_of_scalar : (s : Scalar) → text_form (value_of s) ≡ scalar_text s
text_of_scalar scalar.Nothing = refl
text_of_scalar (scalar.Truth truth) = refl
text_of_scalar (scalar.Int number) = refl
text_of_scalar (scalar.Text text) = refl

bytes_of_scalar : (s : Scalar) → byte_form (value_of s) ≡ scalar_bytes s
bytes_of_scalar scalar.Nothing = refl
bytes_of_scalar (scalar.Truth truth) = refl
bytes_of_scalar (scalar.Int number) = refl
bytes_of_scalar (scalar.Text text) = refl

-- behind a bracket only a list can stand
pub no_value-bracket : (bytes : List ℕ) → ((scalars : List Scalar) → are_scalars scalars ≡ true → AllByRecursion IsElement scalars → bytes ≢ scalars_text scalars ++ 93 ∷ [])
    → (v : Val) → ¬ (IsTextOf (91 ∷ bytes) v)
no_value-bracket bytes none v is = elim (kind v) [
  | inl single ↦ bracket_begins_none 91 bytes [] single.scalar (omega arith) (omega arith) (good_scalar single.scalar (subst IsValue single.is is.value))
      (is.form ∙ ap text_form single.is ∙ text_of_scalar single.scalar ∙ sym (append-nil (scalar_text single.scalar)))
  | inr list ↦ let good : IsValue (value.List list.scalars) = subst IsValue list.is is.value in
      none list.scalars good.0 good.1 (tails 91 91 bytes (scalars_text list.scalars ++ 93 ∷ []) (is.form ∙ ap text_form list.is))
]

-- items that pass a limit are no list's
pub no_list-long : (items : List Scalar) (bytes : List ℕ) → AllByRecursion IsElement items → bytes ≡ scalars_text items ++ 93 ∷ [] → are_scalars items ≡ false
    → (scalars : List Scalar) → are_scalars scalars ≡ true → AllByRecursion IsElement scalars → bytes ≢ scalars_text scalars ++ 93 ∷ []
no_list-long items bytes gi read long scalars is gs e = differ (are_scalars items) long (ap are_scalars (list_text_one items scalars gi gs (sym read ∙ e)) ∙ is)

-- without a bracket only a scalar can stand
pub no_value-bare : (bytes : List ℕ) → ((rest : List ℕ) → bytes ≢ 91 ∷ rest) → ((s : Scalar) → IsElement s → bytes ≢ scalar_text s) → (v : Val) → ¬ (IsTextOf bytes v)
no_value-bare bytes bare none v is = elim (kind v) [
  | inl single ↦ none single.scalar (good_scalar single.scalar (subst IsValue single.is is.value)) (is.form ∙ ap text_form single.is ∙ text_of_scalar single.scalar)
  | inr list ↦ bare (scalars_text list.scalars ++ 93 ∷ []) (is.form ∙ ap text_form list.is)
]

pub none_whole : (bytes : List ℕ) → NoScalar bytes → (s : Scalar) → IsElement s → bytes ≢ scalar_text s
none_whole bytes none s good e = none s [] good refl (e ∙ sym (append-nil (scalar_text s)))

-- a scalar that something follows is no value
pub none_followed : (read : Scalar) (rest bytes : List ℕ) → IsElement read → bytes ≡ scalar_text read ++ rest → ends_here rest ≡ true → (length rest == 0) ≡ false → (s : Scalar) → IsElement s → bytes ≢ scalar_text s
none_followed read rest bytes gr is ends more s good e =
    let same = scalar_text_one read s rest [] gr good ends refl (sym is ∙ e ∙ sym (append-nil (scalar_text s))) in
    differ (length rest == 0) more (ap (λ (xs : List ℕ). length xs == 0) same.1)

-- ---- one reading of each form

both_text_lists : (v w : Val) → IsValue v → IsValue w → IsListValue v → IsListValue w → text_form v ≡ text_form w → v ≡ w
both_text_lists v w gv gw lv lw e =
    let good_v : IsValue (value.List lv.scalars) = subst IsValue lv.is gv in
    let good_w : IsValue (value.List lw.scalars) = subst IsValue lw.is gw in
    let whole : text_form (value.List lv.scalars) ≡ text_form (value.List lw.scalars) = ap text_form (sym lv.is) ∙ e ∙ ap text_form lw.is in
    let same = list_text_one lv.scalars lw.scalars good_v.1 good_w.1 (tails 91 91 (scalars_text lv.scalars ++ 93 ∷ []) (scalars_text lw.scalars ++ 93 ∷ []) whole) in
    lv.is ∙ ap (λ (scalars : List Scalar). value.List scalars) same ∙ sym lw.is

both_text_scalars : (v w : Val) → IsValue v → IsValue w → IsScalarValue v → IsScalarValue w → text_form v ≡ text_form w → v ≡ w
both_text_scalars v w gv gw sv sw e =
    let whole : scalar_text sv.scalar ++ [] ≡ scalar_text sw.scalar ++ [] =
    append-nil (scalar_text sv.scalar) ∙ sym (text_of_scalar sv.scalar) ∙ ap text_form (sym sv.is) ∙ e ∙ ap text_form sw.is ∙ text_of_scalar sw.scalar ∙ sym (append-nil (scalar_text sw.scalar)) in
    let same = scalar_text_one sv.scalar sw.scalar [] [] (good_scalar sv.scalar (subst IsValue sv.is gv)) (good_scalar sw.scalar (subst IsValue sw.is gw)) refl refl whole in
    sv.is ∙ ap value_of same.0 ∙ sym sw.is

text_scalar_list : (v w : Val) → IsValue v → IsScalarValue v → IsListValue w → text_form v ≢ text_form w
text_scalar_list v w gv sv lw e =
    bracket_begins_none 91 (scalars_text lw.scalars ++ 93 ∷ []) [] sv.scalar (omega arith) (omega arith) (good_scalar sv.scalar (subst IsValue sv.is gv))
    (ap text_form (sym lw.is) ∙ sym e ∙ ap text_form sv.is ∙ text_of_scalar sv.scalar ∙ sym (append-nil (scalar_text sv.scalar)))

pub value_text_one : (v w : Val) → IsValue v → IsValue w → text_form v ≡ text_form w → v ≡ w
value_text_one v w gv gw e =
    elim (kind v) [
      | inl sv ↦ elim (kind w) [ inl sw ↦ both_text_scalars v w gv gw sv sw e | inr lw ↦ absurd (text_scalar_list v w gv sv lw e) ]
      | inr lv ↦ elim (kind w) [ inl sw ↦ absurd (text_scalar_list w v gw sw lv (sym e)) | inr lw ↦ both_text_lists v w gv gw lv lw e ]
    ]

list_tag_none : (s : Scalar) (xs rest : List ℕ) → 5 ∷ xs ≢ scalar_bytes s ++ rest
list_tag_none scalar.Nothing xs rest e = absurd (omega (arith, same_heads (5 ∷ xs) (scalar_bytes scalar.Nothing ++ rest) e))
list_tag_none (scalar.Truth false) xs rest e = absurd (omega (arith, same_heads (5 ∷ xs) (scalar_bytes (scalar.Truth false) ++ rest) e))
list_tag_none (scalar.Truth true) xs rest e = absurd (omega (arith, same_heads (5 ∷ xs) (scalar_bytes (scalar.Truth true) ++ rest) e))
list_tag_none (scalar.Int number) xs rest e = absurd (omega (arith, same_heads (5 ∷ xs) (scalar_bytes (scalar.Int number) ++ rest) e))
list_tag_none (scalar.Text text) xs rest e = absurd (omega (arith, same_heads (5 ∷ xs) (scalar_bytes (scalar.Text text) ++ rest) e))

both_byte_lists : (v w : Val) (x y : List ℕ) → IsValue v → IsValue w → IsListValue v → IsListValue w → byte_form v ++ x ≡ byte_form w ++ y → (v ≡ w) × (x ≡ y)
both_byte_lists v w x y gv gw lv lw e =
    let good_v : IsValue (value.List lv.scalars) = subst IsValue lv.is gv in
    let good_w : IsValue (value.List lw.scalars) = subst IsValue lw.is gw in
    let whole : list_bytes lv.scalars ++ x ≡ list_bytes lw.scalars ++ y = ap (λ (u : Val). byte_form u ++ x) (sym lv.is) ∙ e ∙ ap (λ (u : Val). byte_form u ++ y) lw.is in
    let same = list_one lv.scalars lw.scalars x y good_v.1 good_w.1 (list_is_short lv.scalars good_v.0) (list_is_short lw.scalars good_w.0) whole in
    (lv.is ∙ ap (λ (scalars : List Scalar). value.List scalars) same.0 ∙ sym lw.is, same.1)

scalar_front : (v : Val) (x : List ℕ) (sv : IsScalarValue v) → byte_form v ++ x ≡ scalar_bytes sv.scalar ++ x
scalar_front v x sv = ap (λ (xs : List ℕ). xs ++ x) (ap byte_form sv.is ∙ bytes_of_scalar sv.scalar)

both_byte_scalars : (v w : Val) (x y : List ℕ) → IsValue v → IsValue w → IsScalarValue v → IsScalarValue w → byte_form v ++ x ≡ byte_form w ++ y → (v ≡ w) × (x ≡ y)
both_byte_scalars v w x y gv gw sv sw e =
    let same = scalar_one sv.scalar sw.scalar x y (good_scalar sv.scalar (subst IsValue sv.is gv)) (good_scalar sw.scalar (subst IsValue sw.is gw)) (sym (scalar_front v x sv) ∙ e ∙ scalar_front w y sw) in
    (sv.is ∙ ap value_of same.0 ∙ sym sw.is, same.1)

byte_scalar_list : (v w : Val) (x y : List ℕ) → IsScalarValue v → IsListValue w → byte_form v ++ x ≢ byte_form w ++ y
byte_scalar_list v w x y sv lw e = absurd (tagged lw.scalars y (ap (λ (u : Val). byte_form u ++ y) (sym lw.is) ∙ sym e ∙ scalar_front v x sv))
  where
    tagged : (scalars : List Scalar) (rest : List ℕ) → list_bytes scalars ++ rest ≢ scalar_bytes sv.scalar ++ x
    tagged scalars rest = list_tag_none sv.scalar _ x

pub value_byte_one : (v w : Val) (x y : List ℕ) → IsValue v → IsValue w → byte_form v ++ x ≡ byte_form w ++ y → (v ≡ w) × (x ≡ y)
value_byte_one v w x y gv gw e =
    elim (kind v) [
      | inl sv ↦ elim (kind w) [ inl sw ↦ both_byte_scalars v w x y gv gw sv sw e | inr lw ↦ absurd (byte_scalar_list v w x y sv lw e) ]
      | inr lv ↦ elim (kind w) [ inl sw ↦ absurd (byte_scalar_list w v y x sw lv (sym e)) | inr lw ↦ both_byte_lists v w x y gv gw lv lw e ]
    ]
