-- The laws of a desk over files, of each list of calls.
use Rattle.std.specs.Prelude.{◌≡◌, ◌≢◌, ◌⊎◌, ℕ, suc, ◌≤◌, IsTrue, true, List, [], ◌∷◌, length, take, Option, Some, None, unwrap_or, is_some, ◌==◌}
use Rattle.std.proofs.Common.{inl, inr, refl, sym, ◌∙◌, ap, arith, length-take}
use Rattle.std.specs.Cmp.Lexicographic.{pointwise, bytes_decides}
use Rattle.tf_trace.specs.Calls.{Call, opened, made, sized, gave, wrote, tore, synced, said}
use Rattle.tf_desk.specs.Crash.{Pairs, IsLeftNow, written, Torn, shown_with}
use Rattle.tf_desk.specs.State.{DeskState, LeftNow, SaysPrefix, nothing_left, bytes_now}
use Rattle.tf_desk.specs.Acts.{names}
use Rattle.tf_desk.specs.ActLaws.{some_if, some_where, some_is, bytes_of-picked, names_picked, torn-written, read_torn, read_synced, read_made, none_torn, none_synced, none_if}
use Rattle.tf_desk.specs.TornLaws.{torn_wider}
use Rattle.tf_desk.specs.Replay.{First, files_opened, left_opened, files_written, left_torn, ticked, replay}
use Rattle.tf_desk.specs.FileDesk.{said_in}

-- ---- the text shown

-- what is shown is what was written to standard output, whether the answers agree or not
pub shown_is : (first : First) (calls : List Call) → (replay first calls).shown ≡ Some (said_in calls)
shown_is first [] = refl
shown_is first (opened none name ∷ past) = shown_is first past
shown_is first (made name ∷ past) = shown_is first past
shown_is first (sized n ∷ past) = shown_is first past
shown_is first (gave at bytes ∷ past) = shown_is first past
shown_is first (wrote at bytes ∷ past) = shown_is first past
shown_is first (tore at bytes ∷ past) = shown_is first past
shown_is first (synced ∷ past) = shown_is first past
shown_is first (said bytes ∷ past) = ap (λ (s : Option (List ℕ)). shown_with s bytes) (shown_is first past)

pub is_shown : (first : First) (calls : List Call) → IsTrue (is_some (replay first calls).shown)
is_shown first calls = ap (λ (s : Option (List ℕ)). is_some s) (shown_is first calls)

-- ---- a crash since a moment

-- nothing is left of a moment that is still to come, an earlier start allows more, and what a crash now may leave is
-- what a crash since now may leave
pub record IsNow (s : DeskState) : Type 0 where
  pub timely : (start : ℕ) (image text : List ℕ) → s.crashes start image text → start ≤ s.content.clock
  pub earlier : (early late : ℕ) (image text : List ℕ) → early ≤ late → s.crashes late image text
      → s.crashes early image text
  pub now : (start : ℕ) (image text : List ℕ) → start ≤ s.content.clock → LeftNow s image text
      → s.crashes start image text
  pub only : (image text : List ℕ) → s.crashes s.content.clock image text → LeftNow s image text

is_ticked : (s : DeskState) (inside : Pairs) (new : DeskState) → new.content.clock ≡ suc s.content.clock → IsNow s
    → IsNow (ticked s inside new)
is_ticked s inside new clock was = record {
  timely = λ start image text left. late start image text left;
  earlier = λ early late image text le left. before early late image text le left;
  now = λ start image text le left. inr (omega (arith, le, clock), left);
  only = only;
}
  where
    late : (start : ℕ) (image text : List ℕ) → (ticked s inside new).crashes start image text
        → start ≤ new.content.clock
    late start image text (inl then_) = omega (arith, then_.0, clock)
    late start image text (inr here) = omega (arith, here.0, clock)

    before : (early late : ℕ) (image text : List ℕ) → early ≤ late
        → (ticked s inside new).crashes late image text → (ticked s inside new).crashes early image text
    before early late image text le (inl (at, inl crashed)) =
        inl (omega (arith, le, at), inl (was.earlier early late image text le crashed))
    before early late image text le (inl (at, inr within)) = inl (omega (arith, le, at), inr within)
    before early late image text le (inr here) = inr (omega (arith, le, here.0), here.1)

    only : (image text : List ℕ) → (ticked s inside new).crashes new.content.clock image text
        → LeftNow (ticked s inside new) image text
    only image text (inl then_) = absurd (omega (arith, then_.0, clock))
    only image text (inr here) = here.1

pub is_now : (first : First) (past : List Call) → IsNow (replay first past)
is_now first [] = record {
  timely = λ start image text left. left.0;
  earlier =
      λ early late image text le left. (omega (arith, le, left.0), left.1);
  now =
      λ start image text le left. (le, left);
  only =
      λ image text left. left.1;
}
is_now first (opened none name ∷ past) =
    is_ticked (replay first past) nothing_left (replay first (opened none name ∷ past)) refl (is_now first past)
is_now first (made name ∷ past) =
    is_ticked (replay first past) nothing_left (replay first (made name ∷ past)) refl (is_now first past)
is_now first (sized n ∷ past) =
    let s = is_now first past in record { timely = s.timely; earlier = s.earlier; now = s.now; only = s.only }
is_now first (gave at bytes ∷ past) =
    let s = is_now first past in record { timely = s.timely; earlier = s.earlier; now = s.now; only = s.only }
is_now first (wrote at bytes ∷ past) =
    let s = replay first past in
    is_ticked s (IsLeftNow s.content (left_torn at (length bytes) s) s.shown) (replay first (wrote at bytes ∷ past))
    refl (is_now first past)
is_now first (tore at bytes ∷ past) =
    let s = replay first past in
    is_ticked s (IsLeftNow s.content (left_torn at (length bytes) s) s.shown) (replay first (tore at bytes ∷ past))
    refl (is_now first past)
is_now first (synced ∷ past) =
    is_ticked (replay first past) nothing_left (replay first (synced ∷ past)) refl (is_now first past)
is_now first (said bytes ∷ past) =
    is_ticked (replay first past) (SaysPrefix (replay first past) bytes) (replay first (said bytes ∷ past)) refl
    (is_now first past)

-- ---- the files

-- the picked name has a file
abbrev pub HasPickedFile : DeskState → Type 0
HasPickedFile s = (name : List ℕ) → s.content.picked ≡ Some name → is_some (s.content.files name) ≡ true

-- so it has where a file was made
pub has_with : (s : DeskState) (new : List ℕ) → HasPickedFile s → (name : List ℕ) → s.content.picked ≡ Some name
    → is_some (files_opened new s name) ≡ true
has_with s new has name is =
    some_if (pointwise ◌==◌ new name) (unwrap_or (s.content.files name) []) (s.content.files name) (has name is)

pub has_written : (s : DeskState) (at : ℕ) (kept : List ℕ) → HasPickedFile s → (name : List ℕ)
    → s.content.picked ≡ Some name → is_some (files_written at kept s name) ≡ true
has_written s at kept has name is =
    some_if (names s.content.picked name) (written (unwrap_or (s.content.files name) []) at kept)
    (s.content.files name) (has name is)

pub has_file : (first : First) (past : List Call) → HasPickedFile (replay first past)
has_file first [] name is = cc
has_file first (opened none new ∷ past) name is =
    let same : new ≡ name = cc in
    let s = replay first past in
    some_where (pointwise ◌==◌ new name) (unwrap_or (s.content.files name) []) (s.content.files name)
    ((bytes_decides new name).1 same)
has_file first (made new ∷ past) name is = has_with (replay first past) new (has_file first past) name is
has_file first (sized n ∷ past) name is = has_file first past name is
has_file first (gave at bytes ∷ past) name is = has_file first past name is
has_file first (wrote at bytes ∷ past) name is =
    has_written (replay first past) at bytes (has_file first past) name is
has_file first (tore at bytes ∷ past) name is =
    has_written (replay first past) at (take (first.put (length past)) bytes) (has_file first past) name is
has_file first (synced ∷ past) name is = has_file first past name is
has_file first (said bytes ∷ past) name is = has_file first past name is

pub picked_there : (first : First) (past : List Call) (name : List ℕ)
    → (replay first past).content.picked ≡ Some name
    → (replay first past).content.files name ≡ Some (bytes_now (replay first past))
picked_there first past name is =
    let s = replay first past in
    some_is (s.content.files name) (has_file first past name is)
    ∙ ap (λ (bytes : List ℕ). Some bytes) (sym (bytes_of-picked s.content name is))

-- ---- what a crash may leave of a file

-- what a file reads as is left of it
abbrev pub ReadsLeft : DeskState → Type 0
ReadsLeft s = (name bytes : List ℕ) → s.content.files name ≡ Some bytes → s.left name bytes

reads_with : (s : DeskState) (new : List ℕ) → ReadsLeft s → (name bytes : List ℕ)
    → files_opened new s name ≡ Some bytes → left_opened new s name bytes
reads_with s new reads name bytes is =
    read_made (pointwise ◌==◌ new name) (s.content.files name) new name bytes (s.left name)
    (bytes_decides new name).0 (λ was there. reads name was there) is

reads_written : (s : DeskState) (at n : ℕ) (kept : List ℕ) → length kept ≤ n → HasPickedFile s → ReadsLeft s
    → (name bytes : List ℕ) → files_written at kept s name ≡ Some bytes → left_torn at n s name bytes
reads_written s at n kept short has reads name bytes is =
    read_torn (names s.content.picked name) (s.content.files name) (s.left name) at n kept bytes
    (λ same. has name (names_picked s.content.picked name same)) (λ was there. reads name was there)
    (λ was. torn_wider at (length kept) n was (written was at kept) short (torn-written was at kept)) is

pub left_reads : (first : First) (past : List Call) → ReadsLeft (replay first past)
left_reads first [] name bytes is = inl is
left_reads first (opened none new ∷ past) name bytes is =
    reads_with (replay first past) new (left_reads first past) name bytes is
left_reads first (made new ∷ past) name bytes is =
    reads_with (replay first past) new (left_reads first past) name bytes is
left_reads first (sized n ∷ past) name bytes is = left_reads first past name bytes is
left_reads first (gave at part ∷ past) name bytes is = left_reads first past name bytes is
left_reads first (wrote at part ∷ past) name bytes is =
    reads_written (replay first past) at (length part) part (omega arith) (has_file first past)
    (left_reads first past) name bytes is
left_reads first (tore at part ∷ past) name bytes is =
    reads_written (replay first past) at (length part) (take (first.put (length past)) part)
    (omega (arith, length-take (first.put (length past)) part)) (has_file first past) (left_reads first past) name bytes
    is
left_reads first (synced ∷ past) name bytes is =
    let s = replay first past in
    read_synced (names s.content.picked name) (s.content.files name) (s.left name) bytes
    (λ was there. left_reads first past name was there) is
left_reads first (said part ∷ past) name bytes is = left_reads first past name bytes is

-- of a name without a file nothing is left
abbrev pub LeavesNone : DeskState → Type 0
LeavesNone s = (name image : List ℕ) → s.content.files name ≡ None → s.left name image → ⊥

none_with : (s : DeskState) (new : List ℕ) → LeavesNone s → (name image : List ℕ) → files_opened new s name ≡ None
    → left_opened new s name image → ⊥
none_with s new none name image is (inl left) =
    none name image
    (none_if (pointwise ◌==◌ new name) (s.content.files name) (unwrap_or (s.content.files name) []) is).1 left
none_with s new none name image is (inr empty) =
    let told = (bytes_decides new name).1 (sym empty.0) in
    let other =
    (none_if (pointwise ◌==◌ new name) (s.content.files name) (unwrap_or (s.content.files name) []) is).0 in
    cc

none_written : (s : DeskState) (at n : ℕ) (kept : List ℕ) → LeavesNone s → (name image : List ℕ)
    → files_written at kept s name ≡ None → left_torn at n s name image → ⊥
none_written s at n kept none name image is left =
    none_torn (names s.content.picked name) (s.content.files name)
    (written (unwrap_or (s.content.files name) []) at kept)
    ((was : List ℕ) × s.left name was × Torn at n was image) (s.left name image) is
    (λ missing. none name image missing) left

none_first : (first : First) (name image : List ℕ) → first.files name ≡ None
    → ((first.files name ≡ Some image) ⊎ ((first.files name ≢ None) × IsTrue (first.left name image))) → ⊥
none_first first name image is (inl reads) = cc
none_first first name image is (inr left) = left.0 is

pub left_none : (first : First) (past : List Call) → LeavesNone (replay first past)
left_none first [] name image is left = none_first first name image is left
left_none first (opened none new ∷ past) name image is left =
    none_with (replay first past) new (left_none first past) name image is left
left_none first (made new ∷ past) name image is left =
    none_with (replay first past) new (left_none first past) name image is left
left_none first (sized n ∷ past) name image is left = left_none first past name image is left
left_none first (gave at bytes ∷ past) name image is left = left_none first past name image is left
left_none first (wrote at bytes ∷ past) name image is left =
    none_written (replay first past) at (length bytes) bytes (left_none first past) name image is left
left_none first (tore at bytes ∷ past) name image is left =
    none_written (replay first past) at (length bytes) (take (first.put (length past)) bytes) (left_none first past)
    name image is left
left_none first (synced ∷ past) name image is left =
    let s = replay first past in
    none_synced (names s.content.picked name) (s.content.files name) image (s.left name image) is
    (left_none first past name image is) left
left_none first (said bytes ∷ past) name image is left = left_none first past name image is left
