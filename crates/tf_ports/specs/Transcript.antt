-- What passed over a link, both ways, the oldest first.
use Rattle.std.specs.Prelude.{◌≡◌, ℕ, List, [], ◌∷◌, ◌++◌, take, map}
use Rattle.tf_ports.specs.declared.links.Came.{Came}
use Rattle.tf_ports.specs.declared.links.Came.TheVariants as came

pub data Passed : Type 0 where
  -- these bytes came at once
  received : List ℕ → Passed
  -- this byte was sent
  sent_byte : ℕ → Passed

-- with some bytes more that were sent
abbrev pub sent_with : List Passed → List ℕ → List Passed
sent_with before bytes = before ++ map sent_byte bytes

-- with some bytes more that came at once
abbrev pub received_with : List Passed → List ℕ → List Passed
received_with before bytes = before ++ received bytes ∷ []

-- with what came into a buffer; where it didn't, nothing more passed
abbrev pub came_with : List Passed → List ℕ → Came → List Passed
came_with before buffer (came.Bytes count) = received_with before (take count buffer)
came_with before buffer came.End = before
came_with before buffer came.Failed = before

-- some prefix of the bytes was sent: none of them, a part, or all
pub record SendsPrefix (before : List Passed) (bytes : List ℕ) (after : List Passed) : Type 0 where
  pub count : ℕ
  pub prefix : after ≡ sent_with before (take count bytes)

-- the bytes that came
abbrev pub received_in : List Passed → List ℕ
received_in [] = []
received_in (received bytes ∷ later) = bytes ++ received_in later
received_in (sent_byte byte ∷ later) = received_in later

-- the bytes that were sent
abbrev pub sent_in : List Passed → List ℕ
sent_in [] = []
sent_in (received bytes ∷ later) = sent_in later
sent_in (sent_byte byte ∷ later) = byte ∷ sent_in later

-- each time something came, this was so of what had passed before; this passed first, and then that
abbrev pub HeldBefore : (List Passed → Type 0) → List Passed → List Passed → Type 0
HeldBefore P first [] = Unit {0}
HeldBefore P first (received bytes ∷ later) = P first × HeldBefore P (first ++ received bytes ∷ []) later
HeldBefore P first (sent_byte byte ∷ later) = HeldBefore P (first ++ sent_byte byte ∷ []) later
