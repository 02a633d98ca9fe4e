-- A stream is cut into frames in one way.
use Rattle.std.proofs.Common.{◌≡◌, ◌≢◌, ℕ, ◌<◌, ◌≤◌, ◌^◌, List, [], ◌∷◌, ◌++◌, length, take, drop, true, false, refl, sym, ap, ◌∙◌, arith, append_assoc, length-append, subst}
use Rattle.std.specs.List.{AllByRecursion}
use Rattle.std.specs.Int.{to_be_bytes, from_be_bytes, w32}
use Rattle.std.proofs.lemmas.Grind.{common_steps, flat_map-append}
use Rattle.std.proofs.lemmas.List.{take_at, drop_at, take-append-drop, length-take}
use Rattle.std.proofs.lemmas.Nat.{from_be_bytes-to_be_bytes_4}
use Rattle.tf_values.proofs.Codes.{IsCode, one_reading}
use Rattle.tf_wire.specs.Stream.{is_length, IsFrame, framed, joined, BeginsWithFrame, BeginsWithBadLength, SplitsInto, AreFramesOf, IsBadLengthAt}
use Rattle.tf_wire.specs.Fronts.{IsFront}
use Rattle.tf_wire.specs.declared.fronts.Front.{Front}
use Rattle.tf_wire.specs.declared.fronts.Front.TheVariants as front

-- ---- lengths

pub good_length : (n : ℕ) → is_length n ≡ true → (0 < n) × (n ≤ 67108864)
good_length n good = (grind (arith, common_steps), grind (arith, common_steps))

-- four bytes at the front have one reading
pub one_length : (m n : ℕ) (a b : List ℕ) → m < 2 ^ 32 → n < 2 ^ 32 → to_be_bytes w32 m ++ a ≡ to_be_bytes w32 n ++ b → (m ≡ n) × (a ≡ b)
one_length m n a b lm ln e = (
  sym (from_be_bytes-to_be_bytes_4 m lm) ∙ ap (λ (bytes : List ℕ). from_be_bytes w32 (take 4 bytes)) e ∙ from_be_bytes-to_be_bytes_4 n ln,
  ap (λ (bytes : List ℕ). drop 4 bytes) e,
)

is_and_not : (n : ℕ) → is_length n ≡ true → is_length n ≡ false → ⊥
is_and_not n good bad = cc

-- ---- frames

fits : (frame : List ℕ) → IsFrame frame → length frame < 2 ^ 32
fits frame good = let long = (good_length (length frame) good).1 in omega arith

-- a frame at the front, as its length and what follows
spread : (frame behind : List ℕ) → framed frame ++ behind ≡ to_be_bytes w32 (length frame) ++ (frame ++ behind)
spread frame behind = append_assoc (to_be_bytes w32 (length frame)) frame behind

pub frame_one : (f g a b : List ℕ) → IsFrame f → IsFrame g → framed f ++ a ≡ framed g ++ b → (f ≡ g) × (a ≡ b)
frame_one f g a b gf gg e =
    let same = one_length (length f) (length g) (f ++ a) (g ++ b) (fits f gf) (fits g gg) (sym (spread f a) ∙ e ∙ spread g b) in
    let first : f ≡ g = sym (take_at f a (length f) refl) ∙ ap (λ (bytes : List ℕ). take (length f) bytes) same.1 ∙ ap (λ (n : ℕ). take n (g ++ b)) same.0 ∙ take_at g b (length g) refl in
    let rest : a ≡ b = sym (drop_at f a (length f) refl) ∙ ap (λ (bytes : List ℕ). drop (length f) bytes) same.1 ∙ ap (λ (n : ℕ). drop n (g ++ b)) same.0 ∙ drop_at g b (length g) refl in
    (first, rest)

-- whatever follows, no frame begins another
pub frame_code : IsCode framed IsFrame (λ _. Unit {0})
frame_code = record { one = λ x y a b gx gy fa fb e. frame_one x y a b gx gy e; forms_follow = λ x a gx. tt }

-- ---- fronts

-- fewer than four bytes are neither
pub short_is_no_frame : (bytes : List ℕ) → length bytes < 4 → ¬ (BeginsWithFrame bytes)
short_is_no_frame bytes short begins = absurd (omega (arith, ap length (begins.front ∙ spread begins.frame begins.behind), short))

pub short_is_no_bad_length : (bytes : List ℕ) → length bytes < 4 → ¬ (BeginsWithBadLength bytes)
short_is_no_bad_length bytes short begins = absurd (omega (arith, ap length begins.front, short))

-- behind a length that no frame has stands no frame
pub bad_is_no_frame : (bytes : List ℕ) → BeginsWithBadLength bytes → ¬ (BeginsWithFrame bytes)
bad_is_no_frame bytes bad begins =
    let same = one_length bad.stated (length begins.frame) bad.behind (begins.frame ++ begins.behind) bad.fits (fits begins.frame begins.is_frame)
    (sym bad.front ∙ begins.front ∙ spread begins.frame begins.behind) in
    is_and_not (length begins.frame) begins.is_frame (sym (ap is_length same.0) ∙ bad.is_bad)

-- behind a length that a frame has, and that is greater than what follows, stands no frame
pub part_is_no_frame : (n : ℕ) (behind bytes : List ℕ) → n < 2 ^ 32 → bytes ≡ to_be_bytes w32 n ++ behind → length behind < n → ¬ (BeginsWithFrame bytes)
part_is_no_frame n behind bytes small is less begins =
    let same = one_length n (length begins.frame) behind (begins.frame ++ begins.behind) small (fits begins.frame begins.is_frame)
    (sym is ∙ begins.front ∙ spread begins.frame begins.behind) in
    absurd (omega (arith, same.0, simp length-append at (ap length same.1), less))

pub good_is_no_bad_length : (n : ℕ) (behind bytes : List ℕ) → n < 2 ^ 32 → bytes ≡ to_be_bytes w32 n ++ behind → is_length n ≡ true → ¬ (BeginsWithBadLength bytes)
good_is_no_bad_length n behind bytes small is good bad =
    let same = one_length n bad.stated behind bad.behind small bad.fits (sym is ∙ bad.front) in
    is_and_not n good (ap is_length same.0 ∙ bad.is_bad)

-- what follows doesn't mend a length that no frame has
pub bad_stays : (bytes more : List ℕ) → BeginsWithBadLength bytes → BeginsWithBadLength (bytes ++ more)
bad_stays bytes more bad = record {
  stated = bad.stated;
  behind = bad.behind ++ more;
  fits = bad.fits;
  is_bad = bad.is_bad;
  front = ap (λ (front : List ℕ). front ++ more) bad.front ∙ append_assoc (to_be_bytes w32 bad.stated) bad.behind more;
}

-- a whole frame stands behind a length that a frame has, where enough follows
pub whole_frame : (n : ℕ) (behind bytes : List ℕ) → bytes ≡ to_be_bytes w32 n ++ behind → is_length n ≡ true → n ≤ length behind → IsFrame (take n behind) × ((after : List ℕ) × (bytes ≡ framed (take n behind) ++ after))
whole_frame n behind bytes is good enough =
    let len : length (take n behind) ≡ n = omega (arith, length-take n behind) in (
      ap is_length len ∙ good,
      (
        drop n behind,
        is ∙ ap (λ (rest : List ℕ). to_be_bytes w32 n ++ rest) (sym (take-append-drop n behind)) ∙ ap (λ (m : ℕ). to_be_bytes w32 m ++ (take n behind ++ drop n behind)) (sym len)
            ∙ sym (spread (take n behind) (drop n behind)),
      ),
    )

-- ---- cuts

all_append : (xs ys : List (List ℕ)) → AllByRecursion IsFrame xs → AllByRecursion IsFrame ys → AllByRecursion IsFrame (xs ++ ys)
all_append [] ys gx gy = gy
all_append (x ∷ xs) ys gx gy = (gx.0, all_append xs ys gx.1 gy)

none_begins : (bytes : List ℕ) → ¬ (BeginsWithFrame bytes) → (frame behind : List ℕ) → IsFrame frame → Unit {0} → bytes ≡ framed frame ++ behind → ⊥
none_begins bytes none frame behind good follows front = none record { frame = frame; behind = behind; is_frame = good; front = front }

-- two cuts that both go as far as they can are one
pub one_cut : (stream : List ℕ) (xs ys : List (List ℕ)) (a b : List ℕ) → SplitsInto stream xs a → SplitsInto stream ys b → ¬ (BeginsWithFrame a) → ¬ (BeginsWithFrame b) → (xs ≡ ys) × (a ≡ b)
one_cut stream xs ys a b cx cy na nb =
    one_reading framed IsFrame (λ _. Unit {0}) frame_code xs ys a b cx.are_frames cy.are_frames tt tt (none_begins a na) (none_begins b nb) (sym cx.is ∙ cy.is)

-- a stream has one list of frames
pub one_frames : (stream : List ℕ) (xs ys : List (List ℕ)) → AreFramesOf stream xs → AreFramesOf stream ys → xs ≡ ys
one_frames stream xs ys ax ay = (one_cut stream xs ys ax.behind ay.behind ax.cut ay.cut ax.no_more ay.no_more).0

-- a stream is refused at one place
pub one_place : (stream : List ℕ) (m n : ℕ) → IsBadLengthAt stream m → IsBadLengthAt stream n → m ≡ n
one_place stream m n rm rn =
    let same = one_cut stream rm.frames rn.frames rm.behind rn.behind rm.cut rn.cut (bad_is_no_frame rm.behind rm.bad) (bad_is_no_frame rn.behind rn.bad) in
    rm.is_place ∙ ap (λ (frames : List (List ℕ)). length (joined frames)) same.0 ∙ sym rn.is_place

-- a stream behind whose frames no bad length stands isn't refused
pub not_refused : (stream : List ℕ) (frames : List (List ℕ)) (behind : List ℕ) → SplitsInto stream frames behind → ¬ (BeginsWithFrame behind) → ¬ (BeginsWithBadLength behind) → (place : ℕ) → ¬ (IsBadLengthAt stream place)
not_refused stream frames behind cut no_frame no_bad place refused =
    let same = one_cut stream frames refused.frames behind refused.behind cut refused.cut no_frame (bad_is_no_frame refused.behind refused.bad) in
    no_bad (subst BeginsWithBadLength (sym same.1) refused.bad)

-- frames behind frames
pub cut_more : (stream : List ℕ) (xs ys : List (List ℕ)) (a b : List ℕ) → SplitsInto stream xs a → SplitsInto a ys b → SplitsInto stream (xs ++ ys) b
cut_more stream xs ys a b cx cy = record {
  is = cx.is ∙ ap (λ (rest : List ℕ). joined xs ++ rest) cy.is ∙ sym (append_assoc (joined xs) (joined ys) b) ∙ ap (λ (front : List ℕ). front ++ b) (sym (flat_map-append framed xs ys));
  are_frames = all_append xs ys cx.are_frames cy.are_frames;
}

-- what comes later stands behind the frames
pub cut_on : (stream more : List ℕ) (frames : List (List ℕ)) (behind : List ℕ) → SplitsInto stream frames behind → SplitsInto (stream ++ more) frames (behind ++ more)
cut_on stream more frames behind cut = record {
  is = ap (λ (front : List ℕ). front ++ more) cut.is ∙ append_assoc (joined frames) behind more;
  are_frames = cut.are_frames;
}

-- ---- what stands at the front

-- a whole frame is no bad length
pub frame_is_not_bad : (frame behind bytes : List ℕ) → IsFrame frame → bytes ≡ framed frame ++ behind → ¬ (BeginsWithBadLength bytes)
frame_is_not_bad frame behind bytes good front = good_is_no_bad_length (length frame) (frame ++ behind) bytes (fits frame good) (front ∙ spread frame behind) good

pub front_not_bad : (bytes : List ℕ) (found : Front) → IsFront bytes found → found ≢ front.BadLength → ¬ (BeginsWithBadLength bytes)
front_not_bad bytes (front.Frame frame) is other = frame_is_not_bad frame.now is.1.0 bytes is.0 is.1.1
front_not_bad bytes front.BadLength is other = absurd (other refl)
front_not_bad bytes front.Part is other = is.1
