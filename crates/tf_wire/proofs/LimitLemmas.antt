-- Texts and names are UTF-8.
use Rattle.std.proofs.Common.{◌≡◌, ℕ, ◌<◌, zero, suc, List, [], ◌∷◌, true, ◌&&◌, nat_le, nat_lt, length, arith}
use Rattle.std.specs.List.{list_all}
use Rattle.std.specs.Str.{IsUtf8, IsAscii, is_utf8}
use Rattle.std.proofs.lemmas.Grind.{common_steps}
use Rattle.std.proofs.lemmas.Str.{IsUtf8-from_ascii, IsUtf8-from_is_utf8}
use Rattle.tf_numbers.proofs.TruthLemmas.{and_first, and_second}
use Rattle.tf_values.specs.Text.{is_name, begins_name, stands_in_name, is_text}

pub text_utf8 : (text : List ℕ) → is_text text ≡ true → IsUtf8 text
text_utf8 text is = IsUtf8-from_is_utf8 text (and_second (nat_le (length text) 65536) (is_utf8 text) is)

small_start : (byte : ℕ) → begins_name byte ≡ true → byte < 128
small_start byte is = grind (arith, common_steps)

small : (byte : ℕ) → stands_in_name byte ≡ true → byte < 128
small byte is = grind (arith, common_steps)

others_ascii : (others : List ℕ) → list_all stands_in_name others ≡ true → IsAscii others
others_ascii [] is i = omega arith
others_ascii (x ∷ others) is zero = small x (and_first (stands_in_name x) (list_all stands_in_name others) is)
others_ascii (x ∷ others) is (suc i) = others_ascii others (and_second (stands_in_name x) (list_all stands_in_name others) is) i

name_ascii : (name : List ℕ) → is_name name ≡ true → IsAscii name
name_ascii [] is i = cc
name_ascii (first ∷ others) is zero =
    small_start first (and_first (begins_name first) (nat_lt (length others) 64) (and_first (begins_name first && nat_lt (length others) 64) (list_all stands_in_name others) is))
name_ascii (first ∷ others) is (suc i) = others_ascii others (and_second (begins_name first && nat_lt (length others) 64) (list_all stands_in_name others) is) i

pub name_utf8 : (name : List ℕ) → is_name name ≡ true → IsUtf8 name
name_utf8 name is = IsUtf8-from_ascii name (name_ascii name is)
