-- A number that is read from the first bytes has these bytes as its form.
use Rattle.std.proofs.Common.{◌≡◌, ℕ, ℤ, ◌+◌, ◌<◌, ◌^◌, List, ◌++◌, length, take, drop, get_or, sym, ap, subst, ◌∙◌, arith, inl, inr, w16, w32, w64}
use Rattle.std.specs.Int.{to_be_bytes, from_be_bytes, cast_signed, cast_unsigned}
use Rattle.std.specs.Prelude.{FitsSigned}
use Rattle.std.proofs.lemmas.Bool.{cases_lt}
use Rattle.std.proofs.lemmas.Int.{to_z-of_z, of_z-to_z}
use Rattle.std.proofs.lemmas.List.{take-append-drop, length-take, get_or-take, get_or_past}
use Rattle.std.proofs.lemmas.Nat.{be_bytes_2, be_bytes_4, be_bytes_8}

abbrev pub IsBytes : List ℕ → Type 0
IsBytes bytes = (i : ℕ) → get_or bytes i 0 < 256

bytes-take : (n : ℕ) (bytes : List ℕ) → IsBytes bytes → IsBytes (take n bytes)
bytes-take n bytes fits i =
    elim (cases_lt i n) [
      | inl lt ↦ rw (get_or-take n bytes i 0 lt) (fits i)
      | inr le ↦ rw (get_or_past (take n bytes) i 0 (omega (arith, length-take n bytes))) (omega arith)
    ]

-- the front of the bytes, so many of them, and the rest
pub record IsCut (size : ℕ) (bytes prefix rest : List ℕ) : Type 0 where
  pub whole : prefix ++ rest ≡ bytes
  pub sized : length prefix ≡ size
  pub fits : IsBytes prefix

pub cut : (size : ℕ) (bytes prefix rest : List ℕ) → IsBytes bytes → prefix ≡ take size bytes → rest ≡ drop size bytes → length rest + size ≡ length bytes → IsCut size bytes prefix rest
cut size bytes prefix rest fits front_is rest_is lens = record {
  whole = rw (front_is, rest_is) (take-append-drop size bytes);
  sized = rw front_is (omega (arith, length-take size bytes));
  fits = rw front_is (bytes-take size bytes fits);
}

pub front_2 : (bytes prefix rest : List ℕ) (n : ℕ) → IsCut 2 bytes prefix rest → n ≡ from_be_bytes w16 prefix → (n < 2 ^ 16) × (bytes ≡ to_be_bytes w16 n ++ rest)
front_2 bytes prefix rest n is n_is =
    let fits = is.fits in
    let below : n < 2 ^ 16 = omega (arith, n_is, fits 0, fits 1) in
    (below, sym is.whole ∙ ap (λ (form : List ℕ). form ++ rest) (sym (be_bytes_2 prefix n is.sized fits n_is)))

pub front_4 : (bytes prefix rest : List ℕ) (n : ℕ) → IsCut 4 bytes prefix rest → n ≡ from_be_bytes w32 prefix → (n < 2 ^ 32) × (bytes ≡ to_be_bytes w32 n ++ rest)
front_4 bytes prefix rest n is n_is =
    let fits = is.fits in
    let below : n < 2 ^ 32 = omega (arith, n_is, fits 0, fits 1, fits 2, fits 3) in
    (below, sym is.whole ∙ ap (λ (form : List ℕ). form ++ rest) (sym (be_bytes_4 prefix n is.sized fits n_is)))

abbrev SignedFront : List ℕ → List ℕ → ℤ → Type 0
SignedFront bytes rest z = FitsSigned w64 z × (bytes ≡ to_be_bytes w64 (cast_unsigned w64 z) ++ rest)

pub front_8 : (bytes prefix rest : List ℕ) (z : ℤ) → IsCut 8 bytes prefix rest → FitsSigned w64 z → z ≡ cast_signed w64 (from_be_bytes w64 prefix) → SignedFront bytes rest (cast_signed w64 (cast_unsigned w64 z))
front_8 bytes prefix rest z is signed z_is =
    let fits = is.fits in
    let below : from_be_bytes w64 prefix < 2 ^ 64 = omega (arith, fits 0, fits 1, fits 2, fits 3, fits 4, fits 5, fits 6, fits 7) in
    let unsigned : cast_unsigned w64 z ≡ from_be_bytes w64 prefix = ap (cast_unsigned w64) z_is ∙ of_z-to_z w64 (from_be_bytes w64 prefix) below in
    let found : SignedFront bytes rest z = (signed, sym is.whole ∙ ap (λ (form : List ℕ). form ++ rest) (sym (be_bytes_8 prefix (cast_unsigned w64 z) is.sized fits unsigned))) in
    subst (SignedFront bytes rest) (sym (to_z-of_z w64 z signed)) found
