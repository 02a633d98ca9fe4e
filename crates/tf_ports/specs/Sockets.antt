-- What comes over a stream whose bytes are known, and what is sent over it.
use Rattle.std.specs.Prelude.{◌≡◌, ℕ, ◌<◌, ◌≤◌, List, length, take, Option, Result, OnOk, ⊤}
use Rattle.std.specs.Io.KnownBytes.{Appends, Consumes, IsAtEnd, Keeps}
use Rattle.tf_ports.specs.Transcript.{Passed, sent_with}
use Rattle.tf_ports.specs.declared.links.Came.{Came}
use Rattle.tf_ports.specs.declared.links.Came.TheVariants as came

-- some bytes from the front of those that the stream had left, which stand first in the buffer; or its end; or
-- nothing
abbrev pub ReadsSome : Option (List ℕ) → Option (List ℕ) → List ℕ → Came → Type 0
ReadsSome before after buffer (came.Bytes count) =
    (0 < count) × (count ≤ length buffer) × Consumes before after (take count buffer)
ReadsSome before after buffer came.End = IsAtEnd before × Keeps before after
ReadsSome before after buffer came.Failed = Keeps before after

-- of the bytes some were sent, all of them where the call answered Ok: the stream took just these, where what it holds is
-- known, and they passed
pub record SendsSome {E : Type 0} (bytes : List ℕ) (result : Result (⊤) E) (held holds : Option (List ℕ))
    (before after : List Passed) : Type 0 where
  pub done : ℕ
  pub taken : Appends held holds (take done bytes)
  pub passed : after ≡ sent_with before (take done bytes)
  pub whole : OnOk result (done ≡ length bytes)
