-- What reads over a stream do to the bytes that it is known to have.
use Rattle.std.specs.Prelude.{ℕ, ◌<◌, List, length, take, Option}
use Rattle.std.specs.Io.KnownBytes.{Consumes, IsAtEnd}

-- n bytes were taken from what was left and stand first in the buffer; fewer than it holds only where nothing is left
pub record ReadsOn (before after : Option (List ℕ)) (buffer : List ℕ) (n : ℕ) : Type 0 where
  pub taken : Consumes before after (take n buffer)
  pub short : n < length buffer → IsAtEnd after
