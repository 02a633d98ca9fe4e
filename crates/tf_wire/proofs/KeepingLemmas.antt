-- What is kept goes on standing for the stream.
use Rattle.std.proofs.Common.{◌≡◌, ℕ, ◌+◌, ◌-◌, List, [], ◌∷◌, ◌++◌, ◌≤◌, length, drop, inl, inr, Result, Ok, Err, refl, sym, ap, subst, ◌∙◌, arith, append_assoc, append-nil, length-append}
use Rattle.std.specs.Prelude.{OnOk, IfErr}
use Rattle.std.proofs.lemmas.Grind.{flat_map-append}
use Rattle.std.proofs.lemmas.List.{drop_at, length-drop, drop-drop}
use Rattle.tf_wire.specs.Stream.{IsFrame, framed, joined, BeginsWithFrame, BeginsWithBadLength, SplitsInto, KeptFrames, counted, KeepsStream, IsCutOff, IsHere, IsUnrefused, StopsAt, IsPieceAnswer, KeepsFrames}
use Rattle.tf_wire.proofs.StreamLemmas.{cut_more, cut_on, bad_stays, bad_is_no_frame, not_refused}
use Rattle.tf_wire.specs.declared.faults.WireFault.{WireFault}
use Rattle.tf_wire.specs.declared.faults.WireFault.TheVariants as fault

counted_more : (a b : ℕ) → counted (counted a + b) ≡ counted (a + b)
counted_more a b = omega arith

joined_length : (xs ys : List (List ℕ)) → length (joined (xs ++ ys)) ≡ length (joined xs) + length (joined ys)
joined_length xs ys = ap length (flat_map-append framed xs ys) ∙ length-append (joined xs) (joined ys)

-- the same with a piece behind the rest
abbrev pub with_piece : KeptFrames → List ℕ → KeptFrames
with_piece kept piece = record { waiting = kept.waiting; rest = kept.rest ++ piece; place = kept.place }

-- nothing was dropped where no bad length stands
none_dropped : (kept : KeptFrames) (stream : List ℕ) (taken : List (List ℕ)) → ¬ (BeginsWithBadLength kept.rest) → KeepsStream kept stream taken → SplitsInto stream (taken ++ kept.waiting) kept.rest
none_dropped kept stream taken whole stands =
    let none : stands.dropped ≡ [] = elim stands.is_dropped [ inl is ↦ is | inr bad ↦ absurd (whole bad) ] in
    subst (λ (behind : List ℕ). SplitsInto stream (taken ++ kept.waiting) behind) (ap (λ (more : List ℕ). kept.rest ++ more) none ∙ append-nil kept.rest) stands.cut

-- a piece more
pub stands_on : (kept : KeptFrames) (piece stream : List ℕ) (taken : List (List ℕ)) → ¬ (BeginsWithBadLength kept.rest) → KeepsStream kept stream taken → KeepsStream (with_piece kept piece) (stream ++ piece) taken
stands_on kept piece stream taken whole stands = record {
  dropped = [];
  cut = subst (λ (behind : List ℕ). SplitsInto (stream ++ piece) (taken ++ kept.waiting) behind) (sym (append-nil (kept.rest ++ piece))) (cut_on stream piece (taken ++ kept.waiting) kept.rest (none_dropped kept stream taken whole stands));
  is_dropped = inl refl;
  is_place = stands.is_place;
}

all_waiting : (old new : KeptFrames) (taken : List (List ℕ)) (off : IsCutOff old new) → (taken ++ old.waiting) ++ off.frames ≡ taken ++ new.waiting
all_waiting old new taken off = append_assoc taken old.waiting off.frames ∙ ap (λ (waiting : List (List ℕ)). taken ++ waiting) (sym off.is_waiting)

-- the frames that are whole are cut off, where nothing was dropped
cut_off : (old new : KeptFrames) (stream : List ℕ) (taken : List (List ℕ)) (off : IsCutOff old new) → SplitsInto stream (taken ++ old.waiting) old.rest → SplitsInto stream (taken ++ new.waiting) new.rest
cut_off old new stream taken off before =
    subst (λ (frames : List (List ℕ)). SplitsInto stream frames new.rest) (all_waiting old new taken off) (cut_more stream (taken ++ old.waiting) off.frames old.rest new.rest before off.cut)

place_off : (old new : KeptFrames) (taken : List (List ℕ)) (off : IsCutOff old new) → old.place ≡ counted (length (joined (taken ++ old.waiting))) → new.place ≡ counted (length (joined (taken ++ new.waiting)))
place_off old new taken off place =
    off.is_place ∙ ap (λ (at : ℕ). counted (at + length (joined off.frames))) place ∙ counted_more (length (joined (taken ++ old.waiting))) (length (joined off.frames))
    ∙ ap counted (sym (joined_length (taken ++ old.waiting) off.frames)) ∙ ap (λ (frames : List (List ℕ)). counted (length (joined frames))) (all_waiting old new taken off)

-- what is kept of a stream after a piece of it
pub record Cuts (kept : KeptFrames) (stream : List ℕ) (taken : List (List ℕ)) : Type 0 where
  pub stands : KeepsStream kept stream taken
  pub cut : SplitsInto stream (taken ++ kept.waiting) kept.rest

pub cuts : (old new : KeptFrames) (piece stream : List ℕ) (taken : List (List ℕ)) → ¬ (BeginsWithBadLength old.rest) → IsCutOff (with_piece old piece) new → KeepsStream old stream taken → Cuts new (stream ++ piece) taken
cuts old new piece stream taken whole off stands =
    let before = cut_on stream piece (taken ++ old.waiting) old.rest (none_dropped old stream taken whole stands) in
    let after : SplitsInto (stream ++ piece) (taken ++ new.waiting) new.rest = cut_off (with_piece old piece) new (stream ++ piece) taken off before in
    record {
      stands = record {
        dropped = [];
        cut = subst (λ (behind : List ℕ). SplitsInto (stream ++ piece) (taken ++ new.waiting) behind) (sym (append-nil new.rest)) after;
        is_dropped = inl refl;
        is_place = place_off (with_piece old piece) new taken off stands.is_place;
      };
      cut = after;
    }

pub goes_on : (old new : KeptFrames) (piece stream : List ℕ) (taken : List (List ℕ)) → ¬ (BeginsWithBadLength old.rest) → IsCutOff (with_piece old piece) new
    → ¬ (BeginsWithFrame new.rest) → ¬ (BeginsWithBadLength new.rest) → KeepsStream old stream taken → IsUnrefused new (stream ++ piece) taken
goes_on old new piece stream taken whole off no_frame no_bad stands =
    let now = cuts old new piece stream taken whole off stands in
    record {
      stands = now.stands;
      frames = record { behind = new.rest; cut = now.cut; no_more = no_frame };
      not_refused = not_refused (stream ++ piece) (taken ++ new.waiting) new.rest now.cut no_frame no_bad;
    }

stops : (kept : KeptFrames) (stream : List ℕ) (taken : List (List ℕ)) (behind : List ℕ) → KeepsStream kept stream taken → SplitsInto stream (taken ++ kept.waiting) behind → BeginsWithBadLength behind → StopsAt kept stream taken kept.place
stops kept stream taken behind stands cut bad = record {
  stands = stands;
  frames = record { behind = behind; cut = cut; no_more = bad_is_no_frame behind bad };
  refused = (length (joined (taken ++ kept.waiting)), record { frames = taken ++ kept.waiting; behind = behind; cut = cut; bad = bad; is_place = refl }, stands.is_place);
}

-- a fault after frames were cut off
pub answers : (old new : KeptFrames) (piece stream : List ℕ) (taken : List (List ℕ)) (e : WireFault) → ¬ (BeginsWithBadLength old.rest) → IsCutOff (with_piece old piece) new
    → IsHere new e → KeepsStream old stream taken → IsPieceAnswer new stream piece taken e
answers old new piece stream taken (fault.Bad place) whole off here stands =
    let now = cuts old new piece stream taken whole off stands in
    subst (λ (at : ℕ). StopsAt new (stream ++ piece) taken at) (sym here.1) (stops new (stream ++ piece) taken new.rest now.stands now.cut here.0)
answers old new piece stream taken fault.Memory whole off here stands = inr (cuts old new piece stream taken whole off stands).stands

-- a piece behind a bad length is dropped
pub stops_again : (kept : KeptFrames) (piece stream : List ℕ) (taken : List (List ℕ)) → BeginsWithBadLength kept.rest → KeepsStream kept stream taken → StopsAt kept (stream ++ piece) taken kept.place
stops_again kept piece stream taken bad stands =
    let cut : SplitsInto (stream ++ piece) (taken ++ kept.waiting) (kept.rest ++ (stands.dropped ++ piece)) =
    subst (λ (behind : List ℕ). SplitsInto (stream ++ piece) (taken ++ kept.waiting) behind) (append_assoc kept.rest stands.dropped piece) (cut_on stream piece (taken ++ kept.waiting) (kept.rest ++ stands.dropped) stands.cut) in
    let now : KeepsStream kept (stream ++ piece) taken = record { dropped = stands.dropped ++ piece; cut = cut; is_dropped = inr bad; is_place = stands.is_place } in
    stops kept (stream ++ piece) taken (kept.rest ++ (stands.dropped ++ piece)) now cut (bad_stays kept.rest (stands.dropped ++ piece) bad)

-- what a feed promises, whatever it answers
pub fed_ok : {A : Type 0} (r : Result A WireFault) (old mid new : KeptFrames) (piece : List ℕ) → ¬ (BeginsWithBadLength old.rest) → mid ≡ with_piece old piece → IsCutOff mid new
    → OnOk r ((¬ (BeginsWithFrame new.rest)) × (¬ (BeginsWithBadLength new.rest))) → OnOk r ((stream : List ℕ) (taken : List (List ℕ)) → KeepsStream old stream taken → IsUnrefused new (stream ++ piece) taken)
fed_ok (Ok u) old mid new piece whole is off neither = λ stream taken stands. goes_on old new piece stream taken whole (subst (λ (kept : KeptFrames). IsCutOff kept new) is off) neither.0 neither.1 stands
fed_ok (Err e) old mid new piece whole is off neither = tt

pub fed_refused : {A : Type 0} (r : Result A WireFault) (old mid new : KeptFrames) (piece : List ℕ) → ¬ (BeginsWithBadLength old.rest) → mid ≡ with_piece old piece → IsCutOff mid new
    → IfErr r (IsHere new) → IfErr r (λ e. (stream : List ℕ) (taken : List (List ℕ)) → KeepsStream old stream taken → IsPieceAnswer new stream piece taken e)
fed_refused (Ok u) old mid new piece whole is off here = tt
fed_refused (Err e) old mid new piece whole is off here = λ stream taken stands. answers old new piece stream taken e whole (subst (λ (kept : KeptFrames). IsCutOff kept new) is off) here stands

-- ---- taking

-- one frame more is taken
pub stands_taken : (old new : KeptFrames) (frame : List ℕ) (stream : List ℕ) (taken : List (List ℕ)) → old ≡ record { waiting = frame ∷ new.waiting; rest = new.rest; place = new.place } → KeepsStream old stream taken → KeepsStream new stream (taken ++ frame ∷ [])
stands_taken old new frame stream taken is stands =
    let before : KeepsStream (record { waiting = frame ∷ new.waiting; rest = new.rest; place = new.place }) stream taken = subst (λ (kept : KeptFrames). KeepsStream kept stream taken) is stands in
    let same : taken ++ frame ∷ new.waiting ≡ (taken ++ frame ∷ []) ++ new.waiting = sym (append_assoc taken (frame ∷ []) new.waiting) in
    record {
      dropped = before.dropped;
      cut = subst (λ (frames : List (List ℕ)). SplitsInto stream frames (new.rest ++ before.dropped)) same before.cut;
      is_dropped = before.is_dropped;
      is_place = before.is_place ∙ ap (λ (frames : List (List ℕ)). counted (length (joined frames))) same;
    }

-- ---- frames at the front of bytes

pub framed_length : (frame : List ℕ) → length (framed frame) ≡ 4 + length frame
framed_length frame = omega arith

-- one frame more is kept
pub keeps_more : (bytes frame behind : List ℕ) (before between after : List (List ℕ)) (len : ℕ) → len ≤ length bytes → KeepsFrames bytes before between len → IsFrame frame → drop len bytes ≡ framed frame ++ behind
    → after ≡ between ++ frame ∷ [] → KeepsFrames bytes before after (len + (4 + length frame)) × (len + (4 + length frame) ≤ length bytes)
keeps_more bytes frame behind before between after len within keeps good front is =
    let long : length (drop len bytes) ≡ 4 + length frame + length behind = ap length front ∙ length-append (framed frame) behind ∙ ap (λ (n : ℕ). n + length behind) (framed_length frame) in
    let left : length (drop len bytes) ≡ length bytes - len = length-drop len bytes in
    let rest : drop (len + (4 + length frame)) bytes ≡ behind =
    sym (drop-drop (4 + length frame) len bytes) ∙ ap (λ (more : List ℕ). drop (4 + length frame) more) front ∙ drop_at (framed frame) behind (4 + length frame) (framed_length frame) in
    let one : SplitsInto (drop len bytes) (frame ∷ []) (drop (len + (4 + length frame)) bytes) = record {
      is = front ∙ ap (λ (more : List ℕ). framed frame ++ more) (sym rest) ∙ ap (λ (more : List ℕ). more ++ drop (len + (4 + length frame)) bytes) (sym (append-nil (framed frame)));
      are_frames = (good, tt);
    } in (
      record {
        frames = keeps.frames ++ frame ∷ [];
        is_after = is ∙ ap (λ (more : List (List ℕ)). more ++ frame ∷ []) keeps.is_after ∙ append_assoc before keeps.frames (frame ∷ []);
        cut = cut_more bytes keeps.frames (frame ∷ []) (drop len bytes) (drop (len + (4 + length frame)) bytes) keeps.cut one;
        is_len = ap (λ (n : ℕ). n + (4 + length frame)) keeps.is_len ∙ ap (λ (n : ℕ). length (joined keeps.frames) + n) (sym (framed_length frame) ∙ ap length (sym (append-nil (framed frame)))) ∙ sym (joined_length keeps.frames (frame ∷ []));
      },
      omega arith,
    )
