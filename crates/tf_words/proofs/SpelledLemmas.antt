-- How the bytes of a list are read one by one.
use Rattle.std.proofs.Common.{◌≡◌, ℕ, suc, ◌+◌, ◌-◌, ◌<◌, ◌≤◌, List, [], ◌∷◌, ◌++◌, length, get_or, take, drop, slice_range, Option, Some, None, Bool, true, false, ◌&&◌, ◌==◌, is_some, option_map, refl, sym, ap, subst, ◌∙◌, arith, drop-cons, length-drop}
use Rattle.std.proofs.lemmas.List.{take_more, get_or-drop}
use Rattle.std.proofs.lemmas.Bool.Decides.{nat_tests}
use Rattle.tf_values.specs.declared.elements.Scalar.{Scalar}
use Rattle.tf_values.specs.Value.{value_of}
use Rattle.tf_words.specs.declared.spelled.Mark.{Mark}
use Rattle.tf_words.specs.declared.spelled.Mark.TheVariants as mark
use Rattle.tf_words.specs.declared.spelled.Quoting.{Quoting}
use Rattle.tf_words.specs.declared.spelled.Quoting.TheVariants as quoting
use Rattle.tf_words.specs.Verbs.{scalar_spelled, quoting_after, mark_of, in_front, at_end, scalars_from, spelled}

pub is_some-map : {X Y : Type 0} (f : X → Y) (o : Option X) → is_some (option_map f o) ≡ is_some o
is_some-map f None = refl
is_some-map f (Some x) = refl

is_some-in_front : (o : Option Scalar) (others : Option (List Scalar)) → is_some (in_front o others) ≡ is_some o && is_some others
is_some-in_front None None = refl
is_some-in_front None (Some others) = refl
is_some-in_front (Some first) None = refl
is_some-in_front (Some first) (Some others) = refl

-- what the bytes of a list are by what the next is
abbrev pub by_mark : Mark → List ℕ → Quoting → ℕ → List ℕ → Option (List Scalar)
by_mark kind part place byte bytes = elim kind [
  | mark.Comma ↦ in_front (scalar_spelled part) (scalars_from [] quoting.Outside bytes)
  | mark.Bracket ↦ in_front (scalar_spelled part) (at_end bytes)
  | mark.Own ↦ scalars_from (part ++ byte ∷ []) (quoting_after place byte) bytes
]

pub marked : (kind : Mark) (part : List ℕ) (place : Quoting) (byte : ℕ) (bytes : List ℕ) → mark_of place byte ≡ kind → scalars_from part place (byte ∷ bytes) ≡ by_mark kind part place byte bytes
marked kind part place byte bytes is = ap (λ (m : Mark). by_mark m part place byte bytes) is

next_byte : (kind : Mark) (part bytes : List ℕ) (place : Quoting) (i : ℕ) → i < length bytes → mark_of place (get_or bytes i 0) ≡ kind → scalars_from part place (drop i bytes) ≡ by_mark kind part place (get_or bytes i 0) (drop (suc i) bytes)
next_byte kind part bytes place i within is = ap (scalars_from part place) (drop-cons bytes i 0 within) ∙ marked kind part place (get_or bytes i 0) (drop (suc i) bytes) is

part_more : (bytes : List ℕ) (begin i : ℕ) → begin ≤ i → i < length bytes → slice_range bytes begin (suc i) ≡ slice_range bytes begin i ++ get_or bytes i 0 ∷ []
part_more bytes begin i from within =
    let span : suc i - begin ≡ (i - begin) + 1 = omega arith in
    let inside : i - begin < length (drop begin bytes) = omega (arith, length-drop begin bytes) in
    let place : begin + (i - begin) ≡ i = omega arith in
    rw span (take_more (drop begin bytes) (i - begin) 0 inside ∙ ap (λ (b : ℕ). take (i - begin) (drop begin bytes) ++ b ∷ []) (get_or-drop begin bytes (i - begin) 0 ∙ ap (λ (n : ℕ). get_or bytes n 0) place))

-- the whole list is spelled exactly where what is left is
abbrev pub IsLeft : List ℕ → ℕ → Quoting → ℕ → Type 0
IsLeft bytes begin place i = is_some (scalars_from [] quoting.Outside bytes) ≡ is_some (scalars_from (slice_range bytes begin i) place (drop i bytes))

pub own_byte : (bytes : List ℕ) (begin i : ℕ) (place : Quoting) → begin ≤ i → i < length bytes → mark_of place (get_or bytes i 0) ≡ mark.Own → IsLeft bytes begin place i → IsLeft bytes begin (quoting_after place (get_or bytes i 0)) (i + 1)
own_byte bytes begin i place from within is left =
    let next : i + 1 ≡ suc i = omega arith in
    rw (next, part_more bytes begin i from within) (left ∙ ap is_some (next_byte mark.Own (slice_range bytes begin i) bytes place i within is))

outside : (place : Quoting) (byte : ℕ) → mark_of place byte ≡ mark.Comma → place ≡ quoting.Outside
outside quoting.Outside byte is = refl
outside quoting.Inside byte is = absurd (cc)
outside quoting.Escaped byte is = absurd (cc)

none_yet : (bytes : List ℕ) (i : ℕ) → slice_range bytes i i ≡ []
none_yet bytes i = let none : i - i ≡ 0 = omega arith in rw none refl

pub comma_byte : (bytes : List ℕ) (begin i : ℕ) (place : Quoting) → i < length bytes → mark_of place (get_or bytes i 0) ≡ mark.Comma → is_some (scalar_spelled (slice_range bytes begin i)) ≡ true → IsLeft bytes begin place i → IsLeft bytes (i + 1) place (i + 1)
comma_byte bytes begin i place within is fits left =
    let next : i + 1 ≡ suc i = omega arith in
    rw (next, none_yet bytes (suc i), outside place (get_or bytes i 0) is)
    (left ∙ ap is_some (next_byte mark.Comma (slice_range bytes begin i) bytes place i within is)
    ∙ is_some-in_front (scalar_spelled (slice_range bytes begin i)) (scalars_from [] quoting.Outside (drop (suc i) bytes))
    ∙ ap (λ (b : Bool). b && is_some (scalars_from [] quoting.Outside (drop (suc i) bytes))) fits)

pub comma_unfit : (bytes : List ℕ) (begin i : ℕ) (place : Quoting) → i < length bytes → mark_of place (get_or bytes i 0) ≡ mark.Comma → is_some (scalar_spelled (slice_range bytes begin i)) ≡ false → IsLeft bytes begin place i → false ≡ is_some (scalars_from [] quoting.Outside bytes)
comma_unfit bytes begin i place within is unfit left =
    sym (left ∙ ap is_some (next_byte mark.Comma (slice_range bytes begin i) bytes place i within is)
    ∙ is_some-in_front (scalar_spelled (slice_range bytes begin i)) (scalars_from [] quoting.Outside (drop (suc i) bytes))
    ∙ ap (λ (b : Bool). b && is_some (scalars_from [] quoting.Outside (drop (suc i) bytes))) unfit)

pub bracket_unfit : (bytes : List ℕ) (begin i : ℕ) (place : Quoting) → i < length bytes → mark_of place (get_or bytes i 0) ≡ mark.Bracket → is_some (scalar_spelled (slice_range bytes begin i)) ≡ false → IsLeft bytes begin place i → false ≡ is_some (scalars_from [] quoting.Outside bytes)
bracket_unfit bytes begin i place within is unfit left =
    sym (left ∙ ap is_some (next_byte mark.Bracket (slice_range bytes begin i) bytes place i within is)
    ∙ is_some-in_front (scalar_spelled (slice_range bytes begin i)) (at_end (drop (suc i) bytes))
    ∙ ap (λ (b : Bool). b && is_some (at_end (drop (suc i) bytes))) unfit)

ended : (bytes : List ℕ) → is_some (at_end bytes) ≡ (length bytes == 0)
ended [] = refl
ended (byte ∷ bytes) = let some : (length (byte ∷ bytes) == 0) ≡ false = grind (arith, nat_tests) in sym some

pub bracket_byte : (bytes : List ℕ) (begin i : ℕ) (place : Quoting) → i < length bytes → mark_of place (get_or bytes i 0) ≡ mark.Bracket → is_some (scalar_spelled (slice_range bytes begin i)) ≡ true → IsLeft bytes begin place i → (i + 1 == length bytes) ≡ is_some (scalars_from [] quoting.Outside bytes)
bracket_byte bytes begin i place within is fits left =
    let last : (length (drop (suc i) bytes) == 0) ≡ (i + 1 == length bytes) = grind (arith, nat_tests, length-drop (suc i) bytes) in
    sym (left ∙ ap is_some (next_byte mark.Bracket (slice_range bytes begin i) bytes place i within is)
    ∙ is_some-in_front (scalar_spelled (slice_range bytes begin i)) (at_end (drop (suc i) bytes))
    ∙ ap (λ (b : Bool). b && is_some (at_end (drop (suc i) bytes))) fits
    ∙ ended (drop (suc i) bytes) ∙ last)

bare_by : (first : ℕ) (others : List ℕ) → (first == 91) ≡ false → spelled (first ∷ others) ≡ option_map value_of (scalar_spelled (first ∷ others))
bare_by first others is = rw (is, spelled) refl

-- bytes that begin with no bracket spell a value where they spell a scalar
pub spelled_bare : (bytes others : List ℕ) (first : ℕ) → bytes ≡ first ∷ others → (first == 91) ≡ false → spelled bytes ≡ option_map value_of (scalar_spelled bytes)
spelled_bare bytes others first begins other = subst (λ (xs : List ℕ). spelled xs ≡ option_map value_of (scalar_spelled xs)) (sym begins) (bare_by first others other)
