-- A stream of frames. A frame stands in it behind its length, in four bytes. What is kept of a stream that comes piece
-- by piece.
use Rattle.std.specs.Prelude.{◌≡◌, ℕ, ◌<◌, ◌^◌, List, ◌++◌, Bool, true, false, ◌&&◌, nat_lt, nat_le, length, ◌+◌, ◌-◌, [], min, drop, ◌⊎◌}
use Rattle.std.specs.List.{flat_map, AllByRecursion}
use Rattle.std.specs.Int.{to_be_bytes, w32}
use Rattle.tf_wire.specs.declared.faults.WireFault.{WireFault}
use Rattle.tf_wire.specs.declared.faults.WireFault.TheVariants as fault

-- the most bytes of a frame
abbrev pub FRAME_LIMIT : ℕ
FRAME_LIMIT = 67108864

-- a length that a frame may have
abbrev pub is_length : ℕ → Bool
is_length n = nat_lt 0 n && nat_le n FRAME_LIMIT

-- bytes that may be a frame
abbrev pub IsFrame : List ℕ → Type 0
IsFrame frame = is_length (length frame) ≡ true

-- a frame as it stands in a stream
abbrev pub framed : List ℕ → List ℕ
framed frame = to_be_bytes w32 (length frame) ++ frame

-- frames one after another
abbrev pub joined : List (List ℕ) → List ℕ
joined frames = flat_map framed frames

-- a whole frame stands at the front
pub record BeginsWithFrame (bytes : List ℕ) : Type 0 where
  pub frame : List ℕ
  pub behind : List ℕ
  pub is_frame : IsFrame frame
  pub front : bytes ≡ framed frame ++ behind

-- the four bytes of a length that no frame has stand at the front
pub record BeginsWithBadLength (bytes : List ℕ) : Type 0 where
  pub stated : ℕ
  pub behind : List ℕ
  pub fits : stated < 2 ^ 32
  pub is_bad : is_length stated ≡ false
  pub front : bytes ≡ to_be_bytes w32 stated ++ behind

-- these frames stand at the front of the stream, and this behind them
pub record SplitsInto (stream : List ℕ) (frames : List (List ℕ)) (behind : List ℕ) : Type 0 where
  pub is : stream ≡ joined frames ++ behind
  pub are_frames : AllByRecursion IsFrame frames

-- these are the whole frames at the front of the stream
pub record AreFramesOf (stream : List ℕ) (frames : List (List ℕ)) : Type 0 where
  pub behind : List ℕ
  pub cut : SplitsInto stream frames behind
  pub no_more : ¬ (BeginsWithFrame behind)

-- after whole frames of the stream a length that no frame has stands at this place
pub record IsBadLengthAt (stream : List ℕ) (place : ℕ) : Type 0 where
  pub frames : List (List ℕ)
  pub behind : List ℕ
  pub cut : SplitsInto stream frames behind
  pub bad : BeginsWithBadLength behind
  pub is_place : place ≡ length (joined frames)

-- the frames that weren't taken yet, the bytes behind them, and the place in the stream where those bytes begin
pub record KeptFrames : Type 0 where
  pub waiting : List (List ℕ)
  pub rest : List ℕ
  pub place : ℕ

-- a place in the stream is counted up to the greatest number of 64 bits
abbrev pub counted : ℕ → ℕ
counted place = min place (2 ^ 64 - 1)

-- this is kept of the stream, where these frames of it were taken; what came behind a length that no frame
-- has was dropped
pub record KeepsStream (kept : KeptFrames) (stream : List ℕ) (taken : List (List ℕ)) : Type 0 where
  pub dropped : List ℕ
  pub cut : SplitsInto stream (taken ++ kept.waiting) (kept.rest ++ dropped)
  pub is_dropped : (dropped ≡ []) ⊎ BeginsWithBadLength kept.rest
  pub is_place : kept.place ≡ counted (length (joined (taken ++ kept.waiting)))

-- whole frames at the front of the rest were cut off
pub record IsCutOff (old new : KeptFrames) : Type 0 where
  pub frames : List (List ℕ)
  pub is_waiting : new.waiting ≡ old.waiting ++ frames
  pub cut : SplitsInto old.rest frames new.rest
  pub is_place : new.place ≡ counted (old.place + length (joined frames))

-- the fault is that a length that no frame has stands at the front of the rest, or want of memory
abbrev pub IsHere : KeptFrames → WireFault → Type 0
IsHere kept (fault.Bad place) = BeginsWithBadLength kept.rest × (place ≡ kept.place)
IsHere kept fault.Memory = Unit {0}

-- all whole frames of the stream wait or were taken, and it isn't refused so far
pub record IsUnrefused (kept : KeptFrames) (stream : List ℕ) (taken : List (List ℕ)) : Type 0 where
  pub stands : KeepsStream kept stream taken
  pub frames : AreFramesOf stream (taken ++ kept.waiting)
  pub not_refused : (place : ℕ) → ¬ (IsBadLengthAt stream place)

-- all whole frames of the stream wait or were taken, and it is refused at this place
pub record StopsAt (kept : KeptFrames) (stream : List ℕ) (taken : List (List ℕ)) (at : ℕ) : Type 0 where
  pub stands : KeepsStream kept stream taken
  pub frames : AreFramesOf stream (taken ++ kept.waiting)
  pub refused : (place : ℕ) × IsBadLengthAt stream place × (at ≡ counted place)

-- a piece of the stream is answered so: the stream is refused with it, or memory ran out before or behind it
abbrev pub IsPieceAnswer : KeptFrames → List ℕ → List ℕ → List (List ℕ) → WireFault → Type 0
IsPieceAnswer kept stream piece taken (fault.Bad at) = StopsAt kept (stream ++ piece) taken at
IsPieceAnswer kept stream piece taken fault.Memory =
    KeepsStream kept stream taken ⊎ KeepsStream kept (stream ++ piece) taken

-- the frames in so many bytes at the front were kept behind those before
pub record KeepsFrames (bytes : List ℕ) (before after : List (List ℕ)) (len : ℕ) : Type 0 where
  pub frames : List (List ℕ)
  pub is_after : after ≡ before ++ frames
  pub cut : SplitsInto bytes frames (drop len bytes)
  pub is_len : len ≡ length (joined frames)
