-- Frames that come over a link, in two parts: their length, and what it counts.
use Rattle.std.proofs.Common.{◌≡◌, ℕ, ◌<◌, ◌^◌, List, ◌++◌, length, true, false, Result, Ok, Err, sym, ap, ◌∙◌, subst}
use Rattle.std.specs.Int.{to_be_bytes, w32}
use Rattle.std.specs.Prelude.{MatchResult}
use Rattle.tf_wire.specs.Stream.{is_length, framed}
use Rattle.tf_wire.proofs.StreamLemmas.{short_is_no_frame, short_is_no_bad_length, part_is_no_frame, good_is_no_bad_length}
use Rattle.tf_ports.specs.Ports.{SeenLink}
use Rattle.tf_remote.specs.Received.{Brings, BringsCount, BringsFrame, IsPart, IsBadLength, IsShorter, IsNever, StopsFrame}
use Rattle.tf_remote.specs.declared.receiving.Stop.{Stop}
use Rattle.tf_remote.specs.declared.receiving.Stop.TheVariants as stop
use Rattle.tf_remote.proofs.ByteLemmas.{brings_more, brings_any, gone_later}

-- less than a length
pub short_part : (bytes : List ℕ) → length bytes < 4 → IsPart bytes
short_part bytes short = record { no_frame = short_is_no_frame bytes short; not_bad = short_is_no_bad_length bytes short }

-- a length, and less than it counts
pub long_part : (prefix behind : List ℕ) (len : ℕ) → len < 2 ^ 32 → prefix ≡ to_be_bytes w32 len → is_length len ≡ true → length behind < len → IsPart (prefix ++ behind)
long_part prefix behind len small is good less =
    let whole : prefix ++ behind ≡ to_be_bytes w32 len ++ behind = ap (λ (bytes : List ℕ). bytes ++ behind) is in
    record { no_frame = part_is_no_frame len behind (prefix ++ behind) small whole less; not_bad = good_is_no_bad_length len behind (prefix ++ behind) small whole good }

-- nothing came behind less than a length
pub prefix_stops : (before now : SeenLink) (why : Stop) → StopsFrame (IsShorter 4) IsNever before now why → StopsFrame IsPart IsBadLength before now why
prefix_stops before now stop.Refused stops = absurd stops.is
prefix_stops before now stop.Lost stops = (record { bytes = stops.0.bytes; brings = stops.0.brings; is = short_part stops.0.bytes stops.0.is }, stops.1)
prefix_stops before now stop.Memory stops = stops

-- a length came, and then less than it counts
pub behind_stops : (prefix : List ℕ) (len : ℕ) (before now after : SeenLink) (why : Stop) → len < 2 ^ 32 → prefix ≡ to_be_bytes w32 len → is_length len ≡ true
    → Brings prefix before now → StopsFrame (IsShorter len) IsNever now after why → StopsFrame IsPart IsBadLength before after why
behind_stops prefix len before now after stop.Refused small is good came stops = absurd stops.is
behind_stops prefix len before now after stop.Lost small is good came stops = (
  record {
    bytes = prefix ++ stops.0.bytes;
    brings = brings_more prefix stops.0.bytes before now after came stops.0.brings;
    is = long_part prefix stops.0.bytes len small is good stops.0.is;
  },
  gone_later before now after came.faults came.ends stops.1,
)
behind_stops prefix len before now after stop.Memory small is good came stops =
    brings_any (prefix ++ stops.bytes) before after (brings_more prefix stops.bytes before now after came stops.brings)

-- a length came that no frame has
pub bad_stops : (prefix : List ℕ) (len : ℕ) (before now : SeenLink) → len < 2 ^ 32 → prefix ≡ to_be_bytes w32 len → is_length len ≡ false → Brings prefix before now → StopsFrame IsPart IsBadLength before now stop.Refused
bad_stops prefix len before now small is bad came = record {
  bytes = prefix;
  brings = came;
  is = record { stated = len; fits = small; is_bad = bad; is = is };
}

-- a length came, and then all that it counts
pub frame_comes : (prefix frame : List ℕ) (len : ℕ) (before now after : SeenLink) → prefix ≡ to_be_bytes w32 len → is_length len ≡ true → Brings prefix before now → BringsCount len frame now after → BringsFrame frame before after
frame_comes prefix frame len before now after is good came rest =
    let framing : prefix ++ frame ≡ framed frame =
    ap (λ (bytes : List ℕ). bytes ++ frame) is ∙ ap (λ (n : ℕ). to_be_bytes w32 n ++ frame) (sym rest.is_count) in record {
      brings = subst (λ (bytes : List ℕ). Brings bytes before after) framing (brings_more prefix frame before now after came rest.brings);
      is_frame = ap is_length rest.is_count ∙ good;
    }

-- what came behind a length, whole or not
pub frame_result : {A : Type 0} (result : Result A Stop) (items : A → List ℕ) (prefix : List ℕ) (len : ℕ) (before now after : SeenLink) → len < 2 ^ 32 → prefix ≡ to_be_bytes w32 len → is_length len ≡ true → Brings prefix before now
    → MatchResult result (λ bytes. BringsCount len (items bytes) now after) (StopsFrame (IsShorter len) IsNever now after) → MatchResult result (λ frame. BringsFrame (items frame) before after) (StopsFrame IsPart IsBadLength before after)
frame_result {A} (Ok bytes) items prefix len before now after small is good came rest = frame_comes prefix (items bytes) len before now after is good came rest
frame_result {A} (Err why) items prefix len before now after small is good came stops = behind_stops prefix len before now after why small is good came stops
