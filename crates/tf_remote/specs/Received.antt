-- What a link gave.
use Rattle.std.specs.Prelude.{◌≡◌, ℕ, ◌<◌, ◌≤◌, ◌^◌, List, [], ◌++◌, length, false, ◌⊎◌}
use Rattle.std.specs.Int.{to_be_bytes, w32}
use Rattle.tf_numbers.specs.Numbers.{Rises}
use Rattle.tf_ports.specs.Ports.{SeenLink, left_before, IsNothingLeft}
use Rattle.tf_ports.specs.Transcript.{Passed, received_in, sent_in}
use Rattle.tf_wire.specs.Stream.{is_length, IsFrame, framed, BeginsWithFrame, BeginsWithBadLength}
use Rattle.tf_remote.specs.declared.receiving.Stop.{Stop}
use Rattle.tf_remote.specs.declared.receiving.Stop.TheVariants as stop

-- The link gave exactly these bytes, and no count fell. Only these passed meanwhile: in pieces that came, and nothing
-- was sent.
pub record Brings (bytes : List ℕ) (before now : SeenLink) : Type 0 where
  pub came : before.left ≡ left_before bytes now.left
  pub passed : List Passed
  pub went : now.transcript ≡ before.transcript ++ passed
  pub none_sent : sent_in passed ≡ []
  pub given : received_in passed ≡ bytes
  pub faults : before.faults ≤ now.faults
  pub ends : before.ends ≤ now.ends

-- the link gave some bytes, of which this holds
pub record BringsSome (what : List ℕ → Type 0) (before now : SeenLink) : Type 0 where
  pub bytes : List ℕ
  pub brings : Brings bytes before now
  pub is : what bytes

-- some bytes came
abbrev pub BringsAny : SeenLink → SeenLink → Type 0
BringsAny before now = BringsSome (λ bytes. Unit {0}) before now

-- the link failed, or it ended and had nothing left
abbrev pub IsGone : SeenLink → SeenLink → Type 0
IsGone before now = Rises before.faults now.faults ⊎ (Rises before.ends now.ends × IsNothingLeft now.left)

-- the four bytes of a length that no frame has
pub record IsBadLength (bytes : List ℕ) : Type 0 where
  pub stated : ℕ
  pub fits : stated < 2 ^ 32
  pub is_bad : is_length stated ≡ false
  pub is : bytes ≡ to_be_bytes w32 stated

-- less than a frame, which might become one
pub record IsPart (bytes : List ℕ) : Type 0 where
  pub no_frame : ¬ (BeginsWithFrame bytes)
  pub not_bad : ¬ (BeginsWithBadLength bytes)

-- why nothing was received: what came is refused; the link was gone after a part; or memory ran out
abbrev pub StopsFrame : (List ℕ → Type 0) → (List ℕ → Type 0) → SeenLink → SeenLink → Stop → Type 0
StopsFrame part refused before now stop.Refused = BringsSome refused before now
StopsFrame part refused before now stop.Lost = BringsSome part before now × IsGone before now
StopsFrame part refused before now stop.Memory = BringsAny before now

-- fewer bytes than these
abbrev pub IsShorter : ℕ → List ℕ → Type 0
IsShorter count bytes = length bytes < count

-- no bytes are so
abbrev pub IsNever : List ℕ → Type 0
IsNever bytes = ⊥

-- so many bytes came
pub record BringsCount (count : ℕ) (bytes : List ℕ) (before now : SeenLink) : Type 0 where
  pub brings : Brings bytes before now
  pub is_count : length bytes ≡ count

-- a frame came
pub record BringsFrame (frame : List ℕ) (before now : SeenLink) : Type 0 where
  pub brings : Brings (framed frame) before now
  pub is_frame : IsFrame frame
