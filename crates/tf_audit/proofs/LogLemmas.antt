-- The lines of a log, one after another.
use Rattle.std.proofs.Common.{◌≡◌, ℕ, ◌+◌, ◌<◌, List, [], ◌∷◌, ◌++◌, length, take, drop, get_or, Bool, true, false, cond, ◌==◌, Some, slice_get, refl, sym, ap, ◌∙◌, arith, append_assoc}
use Rattle.std.proofs.lemmas.List.{take_more, take-append-drop}
use Rattle.std.proofs.lemmas.Option.{slice_get_within, get_or_from_slice_get}
use Rattle.std.proofs.lemmas.Bool.Decides.{nat_tests}
use Rattle.tf_audit.specs.Verdicts.{begun_with, log_lines, is_unfed}

unfed_first : (byte : ℕ) (bytes : List ℕ) → is_unfed (byte ∷ bytes) ≡ true → (byte == 10) ≡ false
unfed_first byte bytes is = grind (arith, nat_tests)

unfed_others : (byte : ℕ) (bytes : List ℕ) → is_unfed (byte ∷ bytes) ≡ true → is_unfed bytes ≡ true
unfed_others byte bytes is = grind (arith, nat_tests)

-- the first line ends at the first line feed
pub line_first : (prefix rest : List ℕ) → is_unfed prefix ≡ true → log_lines (prefix ++ 10 ∷ rest) ≡ (prefix ++ 10 ∷ []) ∷ log_lines rest
line_first [] rest is = refl
line_first (byte ∷ prefix) rest is =
    ap (λ (t : Bool). cond t ((byte ∷ []) ∷ log_lines (prefix ++ 10 ∷ rest)) (begun_with byte (log_lines (prefix ++ 10 ∷ rest)))) (unfed_first byte prefix is)
    ∙ ap (begun_with byte) (line_first prefix rest (unfed_others byte prefix is))

-- without a line feed there is no line
pub no_line : (bytes : List ℕ) → is_unfed bytes ≡ true → log_lines bytes ≡ []
no_line [] is = refl
no_line (byte ∷ bytes) is =
    ap (λ (t : Bool). cond t ((byte ∷ []) ∷ log_lines bytes) (begun_with byte (log_lines bytes))) (unfed_first byte bytes is)
    ∙ ap (begun_with byte) (no_line bytes (unfed_others byte bytes is))

-- the same where the line feed stands at this place
pub line_at : (bytes : List ℕ) (at : ℕ) → slice_get bytes at ≡ Some 10 → is_unfed (take at bytes) ≡ true → log_lines bytes ≡ take (at + 1) bytes ∷ log_lines (drop (at + 1) bytes)
line_at bytes at feed unfed =
    let within : at < length bytes = slice_get_within bytes at 10 feed in
    let ten : get_or bytes at 10 ≡ 10 = get_or_from_slice_get bytes at 10 10 feed in
    let prefix : take (at + 1) bytes ≡ take at bytes ++ 10 ∷ [] = take_more bytes at 10 within ∙ ap (λ (b : ℕ). take at bytes ++ b ∷ []) ten in
    let whole : bytes ≡ take at bytes ++ 10 ∷ drop (at + 1) bytes =
    sym (take-append-drop (at + 1) bytes) ∙ (ap (λ (f : List ℕ). f ++ drop (at + 1) bytes) prefix ∙ append_assoc (take at bytes) (10 ∷ []) (drop (at + 1) bytes)) in
    ap log_lines whole ∙ (line_first (take at bytes) (drop (at + 1) bytes) unfed ∙ ap (λ (f : List ℕ). f ∷ log_lines (drop (at + 1) bytes)) (sym prefix))

pub line_split : (bytes prefix back : List ℕ) (at : ℕ) → slice_get bytes at ≡ Some 10 → is_unfed (take at bytes) ≡ true → prefix ≡ take (at + 1) bytes → back ≡ drop (at + 1) bytes → log_lines bytes ≡ prefix ∷ log_lines back
line_split bytes prefix back at feed unfed is left =
    line_at bytes at feed unfed ∙ (ap (λ (f : List ℕ). f ∷ log_lines (drop (at + 1) bytes)) (sym is) ∙ ap (λ (b : List ℕ). prefix ∷ log_lines b) (sym left))
