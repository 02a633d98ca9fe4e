-- When bytes are a text.
use Rattle.std.proofs.Common.{◌≡◌, ℕ, ◌<◌, ◌≤◌, List, length, true, false, arith}
use Rattle.std.proofs.lemmas.Grind.{common_steps}
use Rattle.std.proofs.lemmas.Str.{IsUtf8-from_is_utf8, is_utf8-from_IsUtf8}
use Rattle.std.specs.Str.{IsUtf8, is_utf8}
use Rattle.tf_numbers.proofs.TruthLemmas.{never_true}
use Rattle.tf_values.specs.Text.{is_text}

pub short_utf8 : (bytes : List ℕ) → length bytes ≤ 65536 → IsUtf8 bytes → is_text bytes ≡ true
short_utf8 bytes short utf8 = let spelled : is_utf8 bytes ≡ true = is_utf8-from_IsUtf8 bytes utf8 in grind (arith, common_steps)

pub long_is_no_text : (bytes : List ℕ) → 65536 < length bytes → is_text bytes ≡ false
long_is_no_text bytes long = grind (arith, common_steps)

pub other_is_no_text : (bytes : List ℕ) → ¬ (IsUtf8 bytes) → is_text bytes ≡ false
other_is_no_text bytes refuted = let other : is_utf8 bytes ≡ false = never_true (is_utf8 bytes) (λ is. refuted (IsUtf8-from_is_utf8 bytes is)) in grind (arith, common_steps)
