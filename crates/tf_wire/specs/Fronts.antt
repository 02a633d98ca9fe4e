-- What stands at the front of bytes.
use Rattle.std.specs.Prelude.{◌≡◌, ℕ, List, ◌++◌}
use Rattle.tf_wire.specs.Stream.{IsFrame, framed, BeginsWithFrame, BeginsWithBadLength}
use Rattle.tf_wire.specs.declared.fronts.Front.{Front}
use Rattle.tf_wire.specs.declared.fronts.Front.TheVariants as front

-- a whole frame, a length that no frame has, or neither
abbrev pub IsFront : List ℕ → Front → Type 0
IsFront bytes (front.Frame frame) = IsFrame frame.now × ((behind : List ℕ) × (bytes ≡ framed frame.now ++ behind))
IsFront bytes front.BadLength = BeginsWithBadLength bytes
IsFront bytes front.Part = (¬ (BeginsWithFrame bytes)) × (¬ (BeginsWithBadLength bytes))
