-- Numbers, names and texts are read where they stand, and only where they stand.
use Rattle.std.proofs.Common.{◌≡◌, ℕ, ℤ, zero, suc, ◌<◌, ◌^◌, ◌&&◌, List, [], ◌∷◌, ◌++◌, length, take, drop, Bool, true, Some, refl, sym, ap, subst, ◌∙◌, append_assoc, arith, w16, w32, w64}
use Rattle.std.specs.Prelude.{FitsSigned, nat_le}
use Rattle.std.specs.Int.{Width, byte_len, to_be_bytes, from_be_bytes, cast_signed, cast_unsigned}
use Rattle.std.specs.List.{list_all}
use Rattle.std.proofs.lemmas.Bool.{le-leb, leb-true}
use Rattle.std.proofs.lemmas.Bool.Decides.{nat_tests}
use Rattle.std.proofs.lemmas.Int.{ints, to_z-of_z, of_z-to_z}
use Rattle.std.proofs.lemmas.List.{take_at, drop_at, take-append-drop, length-take}
use Rattle.std.proofs.lemmas.Nat.{be_bytes_2, be_bytes_4, be_bytes_8, from_be_bytes-to_be_bytes_2, from_be_bytes-to_be_bytes_4, from_be_bytes-to_be_bytes_8}
use Rattle.std.proofs.lemmas.Grind.{common_steps}
use borrow.Author.Gap.{read_sfits}
use Rattle.tf_numbers.proofs.ListLemmas.{length_both}
use Rattle.tf_numbers.proofs.TruthLemmas.{and_first, and_second, true_both}
use Rattle.tf_values.proofs.NumberLemmas.{IsBytes, IsCut, front_2, front_4}
use Rattle.tf_values.specs.Scalars.{text_bytes}
use Rattle.tf_values.specs.Text.{is_name, is_text}
use Rattle.tf_entries.specs.Plans.{name_bytes}
use Rattle.tf_entries.specs.Reading.{chain, is_byte, has_number, read_number, read_signed, read_bytes, read_name, read_text}
use Rattle.tf_entries.proofs.ReadingLemmas.{Reads, same_read, began, went_past, made_of, kept, keeps}

-- ---- numbers

are_bytes : (bytes : List ℕ) → list_all is_byte bytes ≡ true → IsBytes bytes
are_bytes [] is i = omega arith
are_bytes (b ∷ bytes) is zero = grind (arith, nat_tests, and_first (is_byte b) (list_all is_byte bytes) is)
are_bytes (b ∷ bytes) is (suc i) = are_bytes bytes (and_second (is_byte b) (list_all is_byte bytes) is) i

-- the bytes of numbers of a width are those of numbers below a limit
record IsWidth (w : Width) (limit : ℕ) : Type 0 where
  sized : (n : ℕ) → length (to_be_bytes w n) ≡ byte_len w
  bytes : (n : ℕ) → list_all is_byte (to_be_bytes w n) ≡ true
  forth : (n : ℕ) → n < limit → from_be_bytes w (to_be_bytes w n) ≡ n
  back : (bytes : List ℕ) → length bytes ≡ byte_len w → IsBytes bytes → to_be_bytes w (from_be_bytes w bytes) ≡ bytes
  below : (bytes : List ℕ) → length bytes ≡ byte_len w → IsBytes bytes → from_be_bytes w bytes < limit

stands : (w : Width) (limit : ℕ) → IsWidth w limit → (n : ℕ) (rest : List ℕ) → has_number w (to_be_bytes w n ++ rest) ≡ true
stands w limit is n rest =
    let sized = is.sized n in
    let both = length_both (to_be_bytes w n) rest in
    true_both (nat_le (byte_len w) (length (to_be_bytes w n ++ rest))) (list_all is_byte (take (byte_len w) (to_be_bytes w n ++ rest)))
    (le-leb (byte_len w) (length (to_be_bytes w n ++ rest)) (omega arith))
    (rw (take_at (to_be_bytes w n) rest (byte_len w) sized) (is.bytes n))

number_of : (w : Width) (limit : ℕ) → IsWidth w limit → Reads (to_be_bytes w) (λ n. n < limit) (read_number w)
number_of w limit is = record {
  again = λ n rest below.
      keeps (has_number w (to_be_bytes w n ++ rest)) _ (stands w limit is n rest)
      ∙ ap (λ prefix. Some (from_be_bytes w prefix, drop (byte_len w) (to_be_bytes w n ++ rest))) (take_at (to_be_bytes w n) rest (byte_len w) (is.sized n))
      ∙ ap (λ after. Some (from_be_bytes w (to_be_bytes w n), after)) (drop_at (to_be_bytes w n) rest (byte_len w) (is.sized n))
      ∙ ap (λ (m : ℕ). Some (m, rest)) (is.forth n below);
  sound = λ bytes n rest found.
      let both = kept (has_number w bytes) (Some (from_be_bytes w (take (byte_len w) bytes), drop (byte_len w) bytes)) (n, rest) found in
      let long = leb-true (byte_len w) (length bytes) (and_first (nat_le (byte_len w) (length bytes)) (list_all is_byte (take (byte_len w) bytes)) both.0) in
      let sized : length (take (byte_len w) bytes) ≡ byte_len w = omega (arith, length-take (byte_len w) bytes) in
      let fit = are_bytes (take (byte_len w) bytes) (and_second (nat_le (byte_len w) (length bytes)) (list_all is_byte (take (byte_len w) bytes)) both.0) in
      let same = same_read (from_be_bytes w (take (byte_len w) bytes)) n (drop (byte_len w) bytes) rest both.1 in (
        subst (λ m. m < limit) same.0 (is.below (take (byte_len w) bytes) sized fit),
        sym (take-append-drop (byte_len w) bytes) ∙ ap (λ prefix. prefix ++ drop (byte_len w) bytes) (sym (is.back (take (byte_len w) bytes) sized fit) ∙ ap (to_be_bytes w) same.0) ∙ ap (λ after. to_be_bytes w n ++ after) same.1,
      );
}

pub number_16 : Reads (to_be_bytes w16) (λ n. n < 2 ^ 16) (read_number w16)
number_16 = number_of w16 (2 ^ 16) (record {
  sized = λ n. refl;
  bytes = λ n. grind (arith, nat_tests);
  forth = from_be_bytes-to_be_bytes_2;
  back = λ bs sized fit. be_bytes_2 bs (from_be_bytes w16 bs) sized fit refl;
  below = λ bs sized fit. omega (arith, fit 0, fit 1);
})

pub number_32 : Reads (to_be_bytes w32) (λ n. n < 2 ^ 32) (read_number w32)
number_32 = number_of w32 (2 ^ 32) (record {
  sized = λ n. refl;
  bytes = λ n. grind (arith, nat_tests);
  forth = from_be_bytes-to_be_bytes_4;
  back = λ bs sized fit. be_bytes_4 bs (from_be_bytes w32 bs) sized fit refl;
  below = λ bs sized fit. omega (arith, fit 0, fit 1, fit 2, fit 3);
})

pub number_64 : Reads (to_be_bytes w64) (λ n. n < 2 ^ 64) (read_number w64)
number_64 = number_of w64 (2 ^ 64) (record {
  sized = λ n. refl;
  bytes = λ n. grind (arith, nat_tests);
  forth = from_be_bytes-to_be_bytes_8;
  back = λ bs sized fit. be_bytes_8 bs (from_be_bytes w64 bs) sized fit refl;
  below = λ bs sized fit. omega (arith, fit 0, fit 1, fit 2, fit 3, fit 4, fit 5, fit 6, fit 7);
})

-- ---- the front of a slice

pub cut_2 : (bytes prefix rest : List ℕ) (n : ℕ) → IsCut 2 bytes prefix rest → n ≡ from_be_bytes w16 prefix → read_number w16 bytes ≡ Some (n, rest)
cut_2 bytes prefix rest n is n_is = let found = front_2 bytes prefix rest n is n_is in ap (read_number w16) found.1 ∙ number_16.again n rest found.0

pub cut_4 : (bytes prefix rest : List ℕ) (n : ℕ) → IsCut 4 bytes prefix rest → n ≡ from_be_bytes w32 prefix → read_number w32 bytes ≡ Some (n, rest)
cut_4 bytes prefix rest n is n_is = let found = front_4 bytes prefix rest n is n_is in ap (read_number w32) found.1 ∙ number_32.again n rest found.0

pub signed_cut_4 : (bytes prefix rest : List ℕ) (z : ℤ) → IsCut 4 bytes prefix rest → z ≡ cast_signed w32 (from_be_bytes w32 prefix) → read_signed w32 bytes ≡ Some (cast_signed w32 (cast_unsigned w32 z), rest)
signed_cut_4 bytes prefix rest z is z_is =
    ap (λ o. chain o (λ n after. Some (cast_signed w32 n, after))) (cut_4 bytes prefix rest (from_be_bytes w32 prefix) is refl)
    ∙ ap (λ (y : ℤ). Some (y, rest)) (sym z_is ∙ sym (to_z-of_z w32 z (subst (FitsSigned w32) (sym z_is) (read_sfits w32 (from_be_bytes w32 prefix)))))

pub signed_cut_8 : (bytes prefix rest : List ℕ) (z : ℤ) → IsCut 8 bytes prefix rest → z ≡ cast_signed w64 (from_be_bytes w64 prefix) → read_signed w64 bytes ≡ Some (cast_signed w64 (cast_unsigned w64 z), rest)
signed_cut_8 bytes prefix rest z is z_is =
    let fits = is.fits in
    let below : from_be_bytes w64 prefix < 2 ^ 64 = omega (arith, fits 0, fits 1, fits 2, fits 3, fits 4, fits 5, fits 6, fits 7) in
    let found : bytes ≡ to_be_bytes w64 (from_be_bytes w64 prefix) ++ rest = sym is.whole ∙ ap (λ form. form ++ rest) (sym (be_bytes_8 prefix (from_be_bytes w64 prefix) is.sized fits refl)) in
    ap (read_signed w64) found
    ∙ ap (λ o. chain o (λ n after. Some (cast_signed w64 n, after))) (number_64.again (from_be_bytes w64 prefix) rest below)
    ∙ ap (λ (y : ℤ). Some (y, rest)) (sym z_is ∙ sym (to_z-of_z w64 z (subst (FitsSigned w64) (sym z_is) (read_sfits w64 (from_be_bytes w64 prefix)))))

-- ---- numbers with a sign

signed_of : (w : Width) (limit : ℕ) → Reads (to_be_bytes w) (λ n. n < limit) (read_number w) → ((n : ℕ) → n < limit → cast_unsigned w (cast_signed w n) ≡ n) → ((z : ℤ) → FitsSigned w z → cast_unsigned w z < limit)
    → Reads (λ z. to_be_bytes w (cast_unsigned w z)) (FitsSigned w) (read_signed w)
signed_of w limit code back below =
    made_of code (cast_signed w) (cast_unsigned w) (FitsSigned w) (λ n small. (read_sfits w n, back n small)) (λ z fits. (below z fits, to_z-of_z w z fits))

pub signed_32 : Reads (λ z. to_be_bytes w32 (cast_unsigned w32 z)) (FitsSigned w32) (read_signed w32)
signed_32 = signed_of w32 (2 ^ 32) number_32 (of_z-to_z w32) (λ z fits. omega (arith, ints))

pub signed_64 : Reads (λ z. to_be_bytes w64 (cast_unsigned w64 z)) (FitsSigned w64) (read_signed w64)
signed_64 = signed_of w64 (2 ^ 64) number_64 (of_z-to_z w64) (λ z fits. omega (arith, ints))

-- ---- names and texts

bytes_again : (test : List ℕ → Bool) (xs rest : List ℕ) → test xs ≡ true → read_bytes test (length xs) (xs ++ rest) ≡ Some (xs, rest)
bytes_again test xs rest is =
    let both = length_both xs rest in
    keeps (nat_le (length xs) (length (xs ++ rest)) && test (take (length xs) (xs ++ rest))) _
    (true_both (nat_le (length xs) (length (xs ++ rest))) (test (take (length xs) (xs ++ rest))) (le-leb (length xs) (length (xs ++ rest)) (omega arith)) (ap test (take_at xs rest (length xs) refl) ∙ is))
    ∙ ap (λ prefix. Some (prefix, drop (length xs) (xs ++ rest))) (take_at xs rest (length xs) refl)
    ∙ ap (λ after. Some (xs, after)) (drop_at xs rest (length xs) refl)

-- so many bytes that pass a test
record Passes (test : List ℕ → Bool) (len : ℕ) (bytes xs rest : List ℕ) : Type 0 where
  passes : test xs ≡ true
  sized : length xs ≡ len
  prefix : bytes ≡ xs ++ rest

bytes_sound : (test : List ℕ → Bool) (len : ℕ) (bytes xs rest : List ℕ) → read_bytes test len bytes ≡ Some (xs, rest) → Passes test len bytes xs rest
bytes_sound test len bytes xs rest is =
    let both = kept (nat_le len (length bytes) && test (take len bytes)) (Some (take len bytes, drop len bytes)) (xs, rest) is in
    let long = leb-true len (length bytes) (and_first (nat_le len (length bytes)) (test (take len bytes)) both.0) in
    let cut : length (take len bytes) ≡ len = omega (arith, length-take len bytes) in
    let same = same_read (take len bytes) xs (drop len bytes) rest both.1 in
    record {
      passes = ap test (sym same.0) ∙ and_second (nat_le len (length bytes)) (test (take len bytes)) both.0;
      sized = ap length (sym same.0) ∙ cut;
      prefix = sym (take-append-drop len bytes) ∙ ap (λ prefix. prefix ++ drop len bytes) same.0 ∙ ap (λ after. xs ++ after) same.1;
    }

name_sound : (bytes name rest : List ℕ) → read_name bytes ≡ Some (name, rest) → (is_name name ≡ true) × (bytes ≡ name_bytes name ++ rest)
name_sound [] name rest is = absurd (cc)
name_sound (len ∷ bytes) name rest is =
    let p = bytes_sound is_name len bytes name rest is in
    (p.passes, ap (λ (n : ℕ). n ∷ bytes) (sym p.sized) ∙ ap (λ more. length name ∷ more) p.prefix)

pub name_read : Reads name_bytes (λ name. is_name name ≡ true) read_name
name_read = record { again = bytes_again is_name; sound = name_sound }

text_short : (text : List ℕ) → is_text text ≡ true → length text < 2 ^ 32
text_short text is = grind (arith, common_steps)

pub text_read : Reads text_bytes (λ text. is_text text ≡ true) read_text
text_read = record {
  again = λ text rest is. went_past number_32 (λ len more. read_bytes is_text len more) (length text) text rest (text_short text is) ∙ bytes_again is_text text rest is;
  sound = λ bytes text rest is.
      let b = began number_32 (λ len more. read_bytes is_text len more) bytes text rest is in
      let p = bytes_sound is_text b.first b.behind text rest b.goes in
      (p.passes, b.prefix ∙ ap (λ (n : ℕ). to_be_bytes w32 n ++ b.behind) (sym p.sized) ∙ ap (λ more. to_be_bytes w32 (length text) ++ more) p.prefix ∙ sym (append_assoc (to_be_bytes w32 (length text)) text rest));
}
