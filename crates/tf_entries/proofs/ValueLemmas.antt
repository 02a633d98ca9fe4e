-- Values are read where they stand, and only where they stand.
use Rattle.std.proofs.Common.{◌≡◌, ℕ, List, [], ◌∷◌, ◌++◌, length, take, drop, true, false, Option, Some, None, refl, sym, ap, subst, ◌∙◌, append_assoc, w16}
use Rattle.std.specs.Prelude.{IsErrOf, Err}
use Rattle.std.specs.Int.{to_be_bytes}
use Rattle.std.specs.List.{flat_map, AllByRecursion}
use Rattle.std.proofs.lemmas.List.{take_at, take-append-drop}
use Rattle.tf_values.proofs.ByteLemmas.{list_is_short}
use Rattle.tf_values.specs.Scalars.{scalar_bytes, IsElement, are_scalars}
use Rattle.tf_values.specs.Value.{value_of, byte_form, IsValue, BeginsWith}
use Rattle.tf_values.specs.declared.elements.Scalar.{Scalar}
use Rattle.tf_values.specs.declared.elements.Scalar.TheVariants as scalar
use Rattle.tf_values.specs.declared.faults.MakeFault.{MakeFault}
use Rattle.tf_values.specs.declared.faults.MakeFault.TheVariants as fault
use Rattle.tf_values.specs.declared.value.Val.{Val}
use Rattle.tf_values.specs.declared.value.Val.TheVariants as value
use Rattle.tf_entries.specs.Reading.{RefusesForm, chain, where_true, read_many, read_scalar_of, read_scalar, read_scalars, read_value_of, read_value}
use Rattle.tf_entries.proofs.ReadingLemmas.{Reads, same_read, opened, began, went_on, went_past, on_tag, no_tag, bare, with_part, kept, keeps, many_again, many_sound}
use Rattle.tf_entries.proofs.NumberLemmas.{number_16, signed_64, text_read}

-- ---- scalars

scalar_again : (s : Scalar) (rest : List ℕ) → IsElement s → read_scalar (scalar_bytes s ++ rest) ≡ Some (s, rest)
scalar_again scalar.Nothing rest good = refl
scalar_again (scalar.Truth false) rest good = refl
scalar_again (scalar.Truth true) rest good = refl
scalar_again (scalar.Int number) rest good = went_on signed_64 (λ n after. Some (scalar.Int n, after)) number rest good
scalar_again (scalar.Text text) rest good = went_on text_read (λ t after. Some (scalar.Text t, after)) text rest good

-- a scalar with its form
abbrev IsScalarAt : ℕ → List ℕ → Scalar → List ℕ → Type 0
IsScalarAt tag bytes s rest = IsElement s × (tag ∷ bytes ≡ scalar_bytes s ++ rest)

scalar_of_sound : (tag : ℕ) (bytes : List ℕ) (s : Scalar) (rest : List ℕ) → read_scalar_of tag bytes ≡ Some (s, rest) → IsScalarAt tag bytes s rest
scalar_of_sound tag bytes s rest is =
    on_tag (IsScalarAt tag bytes s rest) tag 0 _ _ (s, rest) is (λ at found. bare scalar_bytes IsElement scalar.Nothing 0 tt refl tag bytes s rest at found)
    (λ is1. on_tag (IsScalarAt tag bytes s rest) tag 1 _ _ (s, rest) is1 (λ at found. bare scalar_bytes IsElement (scalar.Truth false) 1 tt refl tag bytes s rest at found)
    (λ is2. on_tag (IsScalarAt tag bytes s rest) tag 2 _ _ (s, rest) is2 (λ at found. bare scalar_bytes IsElement (scalar.Truth true) 2 tt refl tag bytes s rest at found)
    (λ is3. on_tag (IsScalarAt tag bytes s rest) tag 3 _ _ (s, rest) is3 (λ at found. with_part signed_64 scalar_bytes IsElement scalar.Int 3 (λ n fits. fits) (λ n. refl) tag bytes s rest at found)
    (λ is4. on_tag (IsScalarAt tag bytes s rest) tag 4 _ _ (s, rest) is4 (λ at found. with_part text_read scalar_bytes IsElement scalar.Text 4 (λ t good. good) (λ t. refl) tag bytes s rest at found)
    (no_tag (IsScalarAt tag bytes s rest) (s, rest))))))

scalar_sound : (bytes : List ℕ) (s : Scalar) (rest : List ℕ) → read_scalar bytes ≡ Some (s, rest) → IsElement s × (bytes ≡ scalar_bytes s ++ rest)
scalar_sound [] s rest is = absurd (cc)
scalar_sound (tag ∷ bytes) s rest is = scalar_of_sound tag bytes s rest is

scalar_read : Reads scalar_bytes IsElement read_scalar
scalar_read = record { again = scalar_again; sound = scalar_sound }

-- ---- lists

-- a list behind its tag
abbrev pub counted_scalars : List Scalar → List ℕ
counted_scalars scalars = to_be_bytes w16 (length scalars) ++ flat_map scalar_bytes scalars

abbrev pub AreScalars : List Scalar → Type 0
AreScalars scalars = (are_scalars scalars ≡ true) × AllByRecursion IsElement scalars

-- what is read behind the number of a list's scalars
abbrev behind_count : ℕ → List ℕ → Option (List Scalar × List ℕ)
behind_count count rest = chain (read_many read_scalar count rest) (λ scalars after. where_true (are_scalars scalars) (Some (scalars, after)))

scalars_again : (scalars : List Scalar) (rest : List ℕ) → AreScalars scalars → read_scalars (counted_scalars scalars ++ rest) ≡ Some (scalars, rest)
scalars_again scalars rest good =
    went_past number_16 behind_count (length scalars) (flat_map scalar_bytes scalars) rest (list_is_short scalars good.0)
    ∙ ap (λ o. chain o (λ found after. where_true (are_scalars found) (Some (found, after)))) (many_again scalar_read scalars rest good.1)
    ∙ keeps (are_scalars scalars) (Some (scalars, rest)) good.0

scalars_sound : (bytes : List ℕ) (scalars : List Scalar) (rest : List ℕ) → read_scalars bytes ≡ Some (scalars, rest) → AreScalars scalars × (bytes ≡ counted_scalars scalars ++ rest)
scalars_sound bytes scalars rest is =
    let b = began number_16 behind_count bytes scalars rest is in
    let o = opened (read_many read_scalar b.first b.behind) (λ found after. where_true (are_scalars found) (Some (found, after))) (scalars, rest) b.goes in
    let many = many_sound scalar_read b.first b.behind o.0.0 o.0.1 o.1 in
    let both = kept (are_scalars o.0.0) (Some (o.0.0, o.0.1)) (scalars, rest) o.2 in
    let same = same_read o.0.0 scalars o.0.1 rest both.1 in
    subst (λ found. AreScalars found × (bytes ≡ counted_scalars found ++ rest)) same.0 (
      (both.0, many.good),
      b.prefix ∙ ap (λ (n : ℕ). to_be_bytes w16 n ++ b.behind) (sym many.counted) ∙ ap (λ more. to_be_bytes w16 (length o.0.0) ++ more) (many.prefix ∙ ap (λ after. flat_map scalar_bytes o.0.0 ++ after) same.1)
          ∙ sym (append_assoc (to_be_bytes w16 (length o.0.0)) (flat_map scalar_bytes o.0.0) rest),
    )

pub scalars_read : Reads counted_scalars AreScalars read_scalars
scalars_read = record { again = scalars_again; sound = scalars_sound }

-- ---- values

value_again : (v : Val) (rest : List ℕ) → IsValue v → read_value (byte_form v ++ rest) ≡ Some (v, rest)
unfolding read_value
value_again value.Nothing rest good = refl
value_again (value.Truth false) rest good = refl
value_again (value.Truth true) rest good = refl
value_again (value.Int number) rest good = ap (λ o. chain o (λ s after. Some (value_of s, after))) (scalar_again (scalar.Int number) rest good)
value_again (value.Text text) rest good = ap (λ o. chain o (λ s after. Some (value_of s, after))) (scalar_again (scalar.Text text) rest good)
value_again (value.List scalars) rest good = went_on scalars_read (λ xs after. Some (value.List xs, after)) scalars rest good

abbrev IsValueAt : List ℕ → Val → List ℕ → Type 0
IsValueAt bytes v rest = IsValue v × (bytes ≡ byte_form v ++ rest)

of_scalar : (s : Scalar) (bytes rest : List ℕ) → IsElement s → bytes ≡ scalar_bytes s ++ rest → IsValueAt bytes (value_of s) rest
of_scalar scalar.Nothing bytes rest good prefix = (good, prefix)
of_scalar (scalar.Truth truth) bytes rest good prefix = (good, prefix)
of_scalar (scalar.Int number) bytes rest good prefix = (good, prefix)
of_scalar (scalar.Text text) bytes rest good prefix = (good, prefix)

value_of_sound : (tag : ℕ) (bytes : List ℕ) (v : Val) (rest : List ℕ) → read_value_of tag bytes ≡ Some (v, rest) → IsValueAt (tag ∷ bytes) v rest
value_of_sound tag bytes v rest is =
    on_tag (IsValueAt (tag ∷ bytes) v rest) tag 5 _ _ (v, rest) is (λ at found. with_part scalars_read byte_form IsValue value.List 5 (λ xs good. good) (λ xs. refl) tag bytes v rest at found)
    (λ found.
    let o = opened (read_scalar_of tag bytes) (λ s after. Some (value_of s, after)) (v, rest) found in
    let read = scalar_of_sound tag bytes o.0.0 o.0.1 o.1 in
    let same = same_read (value_of o.0.0) v o.0.1 rest o.2 in
    subst (λ u. IsValueAt (tag ∷ bytes) u rest) same.0 (subst (λ after. IsValueAt (tag ∷ bytes) (value_of o.0.0) after) same.1 (of_scalar o.0.0 (tag ∷ bytes) o.0.1 read.0 read.1)))

value_sound : (bytes : List ℕ) (v : Val) (rest : List ℕ) → read_value bytes ≡ Some (v, rest) → IsValueAt bytes v rest
unfolding read_value
value_sound [] v rest is = absurd (cc)
value_sound (tag ∷ bytes) v rest is = value_of_sound tag bytes v rest is

pub value_read : Reads byte_form IsValue read_value
value_read = record { again = value_again; sound = value_sound }

-- ---- the front of a slice

pub value_begins : (bytes : List ℕ) (v : Val) (len : ℕ) → BeginsWith bytes v len → read_value bytes ≡ Some (v, drop len bytes)
value_begins bytes v len is =
    ap read_value (sym (take-append-drop len bytes) ∙ ap (λ prefix. prefix ++ drop len bytes) is.form) ∙ value_again v (drop len bytes) is.value

begun : (bytes : List ℕ) (o : Option (Val × List ℕ)) → read_value bytes ≡ o → ((v : Val) (len : ℕ) → ¬ (BeginsWith bytes v len)) → o ≡ None
begun bytes None is none = refl
begun bytes (Some p) is none =
    let found = value_sound bytes p.0 p.1 is in
    absurd (none p.0 (length (byte_form p.0)) (record { value = found.0; len_is = refl; form = ap (take (length (byte_form p.0))) found.1 ∙ take_at (byte_form p.0) p.1 (length (byte_form p.0)) refl }))

pub no_value_begins : (bytes : List ℕ) → ((v : Val) (len : ℕ) → ¬ (BeginsWith bytes v len)) → read_value bytes ≡ None
no_value_begins bytes none = begun bytes (read_value bytes) refl none

pub refused_value : (bytes : List ℕ) (e : MakeFault) → (IsErrOf {T = Val × ℕ} (Err e) fault.No → (v : Val) (len : ℕ) → ¬ (BeginsWith bytes v len)) → RefusesForm (read_value bytes) e
refused_value bytes fault.No refused = no_value_begins bytes (refused refl)
refused_value bytes fault.Memory refused = tt
