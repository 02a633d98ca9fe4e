-- What comes over a link.
use Rattle.std.specs.Prelude.{◌≡◌, ◌≢◌, ◌⊎◌, ℕ, ◌≤◌, List, [], ◌++◌, Option, Some, None}
use Rattle.tf_numbers.specs.Numbers.{Rises}
use Rattle.tf_ports.specs.Ports.{SeenLink, left_before, IsNothingLeft}
use Rattle.tf_ports.specs.Transcript.{received_with}
use Rattle.tf_wire.specs.Stream.{KeptFrames, KeepsStream, BeginsWithFrame, BeginsWithBadLength}
use Rattle.tf_sessions.specs.declared.incoming.Incoming.{Incoming}
use Rattle.tf_sessions.specs.declared.incoming.ServeEnd.{ServeEnd}
use Rattle.tf_sessions.specs.declared.incoming.ServeEnd.TheVariants as end

-- what stands behind the frames is refused at this place, or isn't refused so far
abbrev pub IsKnown : KeptFrames → Option ℕ → Type 0
IsKnown kept None = (¬ (BeginsWithFrame kept.rest)) × (¬ (BeginsWithBadLength kept.rest))
IsKnown kept (Some at) = BeginsWithBadLength kept.rest × (at ≡ kept.place)

-- a piece of the stream was fed
abbrev pub Feeds : KeptFrames → KeptFrames → List ℕ → Option ℕ → Type 0
Feeds old new piece refused =
    (stream : List ℕ) (taken : List (List ℕ)) → KeepsStream old stream taken → KeepsStream new (stream ++ piece) taken
    × IsKnown new refused

-- a piece came over the link, and no count fell
pub record BringsPiece (piece : List ℕ) (before now : SeenLink) : Type 0 where
  pub left : before.left ≡ left_before piece now.left
  pub passed : now.transcript ≡ received_with before.transcript piece
  pub faults : before.faults ≤ now.faults
  pub ends : before.ends ≤ now.ends

-- nothing passed over the link, and no count fell
pub record IsStill (before now : SeenLink) : Type 0 where
  pub left : now.left ≡ before.left
  pub passed : now.transcript ≡ before.transcript
  pub faults : before.faults ≤ now.faults
  pub ends : before.ends ≤ now.ends

-- the link is at its end
pub record IsAtEnd (before now : SeenLink) : Type 0 where
  pub still : IsStill before now
  pub rose : Rises before.ends now.ends
  pub nothing_left : IsNothingLeft now.left

-- a piece of a stream that wasn't refused came, and was fed
pub record TakesIn (old new : Incoming) (before now : SeenLink) : Type 0 where
  pub piece : List ℕ
  pub brings : BringsPiece piece before now
  pub unrefused : old.refused ≡ None
  pub feeds : Feeds old.frames new.frames piece new.refused
  pub place : new.place ≡ old.place

-- a piece of a stream that wasn't refused came, and memory ran out
pub record RunsOut (incoming : Incoming) (before now : SeenLink) : Type 0 where
  pub piece : List ℕ
  pub brings : BringsPiece piece before now
  pub unrefused : incoming.refused ≡ None

-- why nothing was taken in: the link is at its end, between two frames or inside one; the link failed; the stream is
-- refused; or memory ran out
abbrev pub HasNothingMore : Incoming → SeenLink → SeenLink → ServeEnd → Type 0
HasNothingMore incoming before now end.Ended =
    IsAtEnd before now × (incoming.refused ≡ None) × (incoming.frames.rest ≡ [])
HasNothingMore incoming before now end.Lost =
    (IsStill before now × Rises before.faults now.faults)
    ⊎ (IsAtEnd before now × (incoming.refused ≡ None) × (incoming.frames.rest ≢ []))
HasNothingMore incoming before now (end.Bad at) = IsStill before now × (incoming.refused ≡ Some at)
HasNothingMore incoming before now end.Memory = RunsOut incoming before now
