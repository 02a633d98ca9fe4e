-- Which bytes have no other form within quotes than two hexadecimal digits.
use Rattle.std.specs.Prelude.{ℕ, Bool, ◌&&◌, ◌||◌, ◌==◌, nat_lt, not}

-- a byte below 32 or 127, but for a line feed and a tab
abbrev pub is_control : ℕ → Bool
is_control byte = (nat_lt byte 32 || (byte == 127)) && (not (byte == 10) && not (byte == 9))
