-- Frames that were taken of a stream, and what stands behind them.
use Rattle.std.proofs.Common.{◌≡◌, ℕ, ◌+◌, List, [], ◌∷◌, ◌++◌, length, Option, Some, None, inl, inr, refl, sym, ap, ◌∙◌, subst, arith, append_assoc, append-nil, length-append}
use Rattle.std.specs.List.{AllByRecursion}
use Rattle.std.proofs.lemmas.Grind.{flat_map-append}
use Rattle.std.proofs.lemmas.List.{append_cancel_left}
use Rattle.tf_wire.specs.Stream.{KeptFrames, counted, KeepsStream, IsUnrefused as FeedsOn, IsFrame, framed, joined, SplitsInto, BeginsWithFrame, BeginsWithBadLength}
use Rattle.tf_wire.proofs.KeepingLemmas.{framed_length}
use Rattle.tf_wire.proofs.StreamLemmas.{bad_stays}
use Rattle.tf_sessions.specs.Receiving.{Feeds, IsKnown}

-- ---- lists

pub all_prefix : {A : Type 0} (P : A → Type 0) (xs ys : List A) → AllByRecursion P (xs ++ ys) → AllByRecursion P xs
all_prefix P [] ys all = tt
all_prefix P (x ∷ xs) ys all = (all.0, all_prefix P xs ys all.1)

pub all_behind : {A : Type 0} (P : A → Type 0) (xs ys : List A) → AllByRecursion P (xs ++ ys) → AllByRecursion P ys
all_behind P [] ys all = all
all_behind P (x ∷ xs) ys all = all_behind P xs ys all.1

pub all_more : {A : Type 0} (P : A → Type 0) (xs : List A) (x : A) → AllByRecursion P xs → P x → AllByRecursion P (xs ++ x ∷ [])
all_more P [] x all one = (one, tt)
all_more P (y ∷ xs) x all one = (all.0, all_more P xs x all.1 one)

pub joined_more : (frames : List (List ℕ)) (frame : List ℕ) → joined (frames ++ frame ∷ []) ≡ joined frames ++ framed frame
joined_more frames frame = flat_map-append framed frames (frame ∷ []) ∙ ap (λ (last : List ℕ). joined frames ++ last) (append-nil (framed frame))

-- ---- what stands behind the frames that were taken

-- the frames that wait, and what is kept behind them
abbrev pub behind_of : (kept : KeptFrames) (given : List ℕ) (taken : List (List ℕ)) → KeepsStream kept given taken → List ℕ
behind_of kept given taken keeps = joined kept.waiting ++ (kept.rest ++ keeps.dropped)

pub cut_of : (kept : KeptFrames) (given : List ℕ) (taken : List (List ℕ)) (keeps : KeepsStream kept given taken) → SplitsInto given taken (behind_of kept given taken keeps)
cut_of kept given taken keeps = record {
  is = keeps.cut.is ∙ ap (λ (prefix : List ℕ). prefix ++ (kept.rest ++ keeps.dropped)) (flat_map-append framed taken kept.waiting) ∙ append_assoc (joined taken) (joined kept.waiting) (kept.rest ++ keeps.dropped);
  are_frames = all_prefix IsFrame taken kept.waiting keeps.cut.are_frames;
}

-- where no frame waits, and nothing was dropped
pub cut_rest : (kept : KeptFrames) (given : List ℕ) (taken : List (List ℕ)) → kept.waiting ≡ [] → ¬ (BeginsWithBadLength kept.rest) → KeepsStream kept given taken → SplitsInto given taken kept.rest
cut_rest kept given taken none not_bad keeps =
    let dropped : keeps.dropped ≡ [] = elim keeps.is_dropped [ inl is ↦ is | inr bad ↦ absurd (not_bad bad) ] in
    subst (SplitsInto given taken) (
    ap (λ (waiting : List (List ℕ)). joined waiting ++ (kept.rest ++ keeps.dropped)) none ∙ ap (λ (more : List ℕ). kept.rest ++ more) dropped ∙ append-nil kept.rest
    ) (cut_of kept given taken keeps)

-- where the stream is refused behind the frames that were taken
pub cut_bad : (kept : KeptFrames) (given : List ℕ) (taken : List (List ℕ)) → kept.waiting ≡ [] → (keeps : KeepsStream kept given taken) → SplitsInto given taken (kept.rest ++ keeps.dropped)
cut_bad kept given taken none keeps = subst (SplitsInto given taken) (ap (λ (waiting : List (List ℕ)). joined waiting ++ (kept.rest ++ keeps.dropped)) none) (cut_of kept given taken keeps)

-- ---- a frame is taken

-- the same with this frame before those that wait
abbrev pub with_frame : KeptFrames → List ℕ → KeptFrames
with_frame kept frame = record { waiting = frame ∷ kept.waiting; rest = kept.rest; place = kept.place }

pub known_taken : (kept : KeptFrames) (frame : List ℕ) (refused : Option ℕ) → IsKnown (with_frame kept frame) refused → IsKnown kept refused
known_taken kept frame None known = known
known_taken kept frame (Some at) known = known

pub place_more : (taken : List (List ℕ)) (frame : List ℕ) (place : ℕ) → place ≡ counted (length (joined taken)) → counted (counted (place + 4) + length frame) ≡ counted (length (joined (taken ++ frame ∷ [])))
place_more taken frame place is =
    let long : length (joined (taken ++ frame ∷ [])) ≡ length (joined taken) + (4 + length frame) = ap length (joined_more taken frame) ∙ length-append (joined taken) (framed frame) ∙ ap (λ (n : ℕ). length (joined taken) + n) (framed_length frame) in
    omega (arith, long, is)

-- what is known where a frame was taken of what was kept
pub record Taking (old new : KeptFrames) (frame : List ℕ) : Type 0 where
  pub is : old ≡ with_frame new frame
  pub keeps : (stream : List ℕ) (taken : List (List ℕ)) → KeepsStream old stream taken → KeepsStream new stream (taken ++ frame ∷ [])

pub taking_of : (old new : KeptFrames) (items frame : List ℕ) → frame ≡ items → old ≡ with_frame new items → ((stream : List ℕ) (taken : List (List ℕ)) → KeepsStream old stream taken → KeepsStream new stream (taken ++ items ∷ [])) → Taking old new frame
taking_of old new items frame same is keeps = record {
  is = is ∙ ap (with_frame new) (sym same);
  keeps = λ stream taken stands. subst (λ (bytes : List ℕ). KeepsStream new stream (taken ++ bytes ∷ [])) (sym same) (keeps stream taken stands);
}

-- the frame that was taken stands behind those before it
pub record Next (given : List ℕ) (taken : List (List ℕ)) (frame : List ℕ) : Type 0 where
  pub behind : List ℕ
  pub is_frame : IsFrame frame
  pub cut : SplitsInto given taken (framed frame ++ behind)

pub next_of : (old new : KeptFrames) (frame given : List ℕ) (taken : List (List ℕ)) → old ≡ with_frame new frame → KeepsStream old given taken → Next given taken frame
next_of old new frame given taken is keeps =
    let had : KeepsStream (with_frame new frame) given taken = subst (λ (kept : KeptFrames). KeepsStream kept given taken) is keeps in
    let waits : AllByRecursion IsFrame (frame ∷ new.waiting) = all_behind IsFrame taken (frame ∷ new.waiting) had.cut.are_frames in record {
      behind = joined new.waiting ++ (new.rest ++ had.dropped);
      is_frame = waits.0;
      cut = subst (SplitsInto given taken) (append_assoc (framed frame) (joined new.waiting) (new.rest ++ had.dropped)) (cut_of (with_frame new frame) given taken had);
    }

-- ---- a piece is fed

-- a stream that goes on isn't refused behind its whole frames
known_free : (kept : KeptFrames) (stream : List ℕ) (taken : List (List ℕ)) → FeedsOn kept stream taken → IsKnown kept None
known_free kept stream taken on =
    let not_bad : ¬ (BeginsWithBadLength kept.rest) = λ bad. on.not_refused (length (joined (taken ++ kept.waiting))) record {
      frames = taken ++ kept.waiting;
      behind = kept.rest ++ on.stands.dropped;
      cut = on.stands.cut;
      bad = bad_stays kept.rest on.stands.dropped bad;
      is_place = refl;
    } in
    let dropped : on.stands.dropped ≡ [] = elim on.stands.is_dropped [ inl is ↦ is | inr bad ↦ absurd (not_bad bad) ] in
    let same : kept.rest ≡ on.frames.behind =
    sym (append-nil kept.rest) ∙ ap (λ (more : List ℕ). kept.rest ++ more) (sym dropped)
    ∙ append_cancel_left (joined (taken ++ kept.waiting)) (kept.rest ++ on.stands.dropped) on.frames.behind (sym on.stands.cut.is ∙ on.frames.cut.is) in
    (subst (λ (behind : List ℕ). ¬ (BeginsWithFrame behind)) (sym same) on.frames.no_more, not_bad)

pub feeds_on : (old new : KeptFrames) (piece : List ℕ) (refused : Option ℕ) → refused ≡ None → ((stream : List ℕ) (taken : List (List ℕ)) → KeepsStream old stream taken → FeedsOn new (stream ++ piece) taken) → Feeds old new piece refused
feeds_on old new piece refused is on stream taken stands =
    let fed = on stream taken stands in (fed.stands, subst (IsKnown new) (sym is) (known_free new (stream ++ piece) taken fed))
