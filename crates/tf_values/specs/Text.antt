-- What names and texts are.
use Rattle.std.specs.Prelude.{◌≡◌, ℕ, ◌-◌, ◌≤◌, List, [], ◌∷◌, ◌++◌, take, drop, replicate, Bool, true, false, ◌&&◌, ◌||◌, ◌==◌, nat_le, nat_lt, length}
use Rattle.std.specs.List.{list_all}
use Rattle.std.proofs.Common.{arith}
use Rattle.std.proofs.lemmas.Grind.{common_steps}
use Rattle.std.proofs.lemmas.List.{take-append-drop}
use Rattle.std.specs.Str.{is_utf8}

-- ---- what a name is

-- a byte from low to high
abbrev pub is_between : ℕ → ℕ → ℕ → Bool
is_between low high byte = nat_le low byte && nat_le byte high

-- a letter of ASCII, A to Z or a to z, or an underscore
abbrev pub begins_name : ℕ → Bool
begins_name byte = (is_between 65 90 byte || is_between 97 122 byte) || (byte == 95)

-- such a byte, a digit, a hyphen or a dot
abbrev pub stands_in_name : ℕ → Bool
stands_in_name byte = ((begins_name byte || is_between 48 57 byte) || (byte == 45)) || (byte == 46)

-- 1 to 64 bytes that may stand in a name, of which the first may begin one
abbrev pub is_name : List ℕ → Bool
is_name [] = false
is_name (first ∷ others) = (begins_name first && nat_lt (length others) 64) && list_all stands_in_name others

-- a name in a field of 64 bytes: its bytes first, and zeros after them
pub record IsPadded (field : List ℕ) (len : ℕ) : Type 0 where
  pub whole : length field ≡ 64
  pub short : len ≤ 64
  pub named : is_name (take len field) ≡ true
  pub zeros : drop len field ≡ replicate (64 - len) 0

-- the field that holds a name
abbrev pub padded : List ℕ → List ℕ
padded name = name ++ replicate (64 - length name) 0

pub length-named : (field : List ℕ) (len : ℕ) → IsPadded field len → length (take len field) ≡ len
length-named field len is = grind (arith, common_steps)

pub padded-take : (field : List ℕ) (len : ℕ) → IsPadded field len → padded (take len field) ≡ field
padded-take field len is = rw (length-named field len is, ← is.zeros) (take-append-drop len field)

-- ---- what a text is

-- UTF-8 of at most 65,536 bytes
abbrev pub is_text : List ℕ → Bool
is_text bytes = nat_le (length bytes) 65536 && is_utf8 bytes
