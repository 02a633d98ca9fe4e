-- The laws of a desk, of each list of acts.
use Rattle.std.specs.Prelude.{◌≡◌, ◌⊎◌, ℕ, ◌+◌, ◌≤◌, Bool, true, false, if◌then◌else◌, MatchBool, List, [], ◌∷◌, ◌++◌, length, take, drop, Option, Some, None, unwrap_or, is_some, ◌==◌}
use Rattle.std.proofs.Common.{inl, inr, refl, sym, ◌∙◌, ap, subst, arith, length-append, length-take, length-drop}
use Rattle.std.proofs.lemmas.List.{take_all, drop_all, take_at, drop_at, append_assoc, length-take-le, take-take}
use Rattle.std.proofs.lemmas.Bool.{cases_lt}
use Rattle.std.specs.Option.{option_and_then}
use Rattle.std.specs.Cmp.Lexicographic.{pointwise, bytes_decides}
use Rattle.tf_desk.specs.Crash.{Content, written, Torn, bytes_of}
use Rattle.tf_desk.specs.Acts.{Act, picked, wrote, synced, said, names, picked_after, files_after, content_after, left_after, leaves_now, crashes_after}

-- ---- a crash at a moment since another

-- nothing is left of a moment that is still to come
pub crashes_before : (past : List Act) (start : ℕ) (image text : List ℕ) → crashes_after past start image text
    → start ≤ length past
crashes_before [] start image text left = left.0
crashes_before (act ∷ past) start image text (inl now) = omega (arith, now.0)
crashes_before (act ∷ past) start image text (inr (inl inside)) = omega (arith, inside.0)
crashes_before (act ∷ past) start image text (inr (inr before)) =
    omega (arith, crashes_before past start image text before)

pub crashes_earlier : (past : List Act) (early late : ℕ) (image text : List ℕ) → early ≤ late
    → crashes_after past late image text → crashes_after past early image text
crashes_earlier [] early late image text le left = (omega (arith, left.0), left.1)
crashes_earlier (act ∷ past) early late image text le (inl now) = inl (omega (arith, now.0), now.1)
crashes_earlier (act ∷ past) early late image text le (inr (inl inside)) = inr (inl (omega (arith, inside.0), inside.1))
crashes_earlier (act ∷ past) early late image text le (inr (inr before)) =
    inr (inr (crashes_earlier past early late image text le before))

pub crashes_now : (past : List Act) (start : ℕ) (image text : List ℕ) → start ≤ length past → leaves_now past image text
    → crashes_after past start image text
crashes_now [] start image text le now = (le, now)
crashes_now (act ∷ past) start image text le now = inl (omega arith, now)

pub crashes_only : (past : List Act) (image text : List ℕ) → crashes_after past (length past) image text
    → leaves_now past image text
crashes_only [] image text left = left.1
crashes_only (act ∷ past) image text (inl now) = now.1
crashes_only (act ∷ past) image text (inr (inl inside)) = absurd (omega (arith, inside.0))
crashes_only (act ∷ past) image text (inr (inr before)) =
    absurd (omega (arith, crashes_before past (length (act ∷ past)) image text before))

-- ---- the files

pub some_if : (b : Bool) (new : List ℕ) (file : Option (List ℕ)) → is_some file ≡ true
    → is_some (if b then Some new else file) ≡ true
some_if true new file is = refl
some_if false new file is = is

pub some_where : (b : Bool) (new : List ℕ) (file : Option (List ℕ)) → b ≡ true
    → is_some (if b then Some new else file) ≡ true
some_where true new file is = refl
some_where false new file is = cc

-- the picked name has a file
pub has_file : (past : List Act) (name : List ℕ) → picked_after past ≡ Some name
    → is_some (files_after past name) ≡ true
has_file [] name is = cc
has_file (picked new ∷ past) name is =
    let same : new ≡ name = cc in
    some_where (pointwise ◌==◌ new name) (unwrap_or (files_after past name) []) (files_after past name)
    ((bytes_decides new name).1 same)
has_file (wrote at bytes ∷ past) name is =
    some_if (names (picked_after past) name) (written (unwrap_or (files_after past name) []) at bytes)
    (files_after past name) (has_file past name is)
has_file (synced ∷ past) name is = has_file past name is
has_file (said bytes ∷ past) name is = has_file past name is

pub some_is : (file : Option (List ℕ)) → is_some file ≡ true → file ≡ Some (unwrap_or file [])
some_is None is = cc
some_is (Some bytes) is = refl

-- the bytes as read are those under the picked name
pub bytes_of-picked : (content : Content) (name : List ℕ) → content.picked ≡ Some name
    → bytes_of content ≡ unwrap_or (content.files name) []
bytes_of-picked content name is = ap (λ (p : Option (List ℕ)). unwrap_or (option_and_then content.files p) []) is

pub picked_there : (past : List Act) (name : List ℕ) → picked_after past ≡ Some name
    → files_after past name ≡ Some (bytes_of (content_after past))
picked_there past name is =
    some_is (files_after past name) (has_file past name is)
    ∙ ap (λ (bytes : List ℕ). Some bytes) (sym (bytes_of-picked (content_after past) name is))

pub names_picked : (picked_name : Option (List ℕ)) (name : List ℕ) → names picked_name name ≡ true
    → picked_name ≡ Some name
names_picked None name is = cc
names_picked (Some other) name is = ap (λ (n : List ℕ). Some n) ((bytes_decides other name).0 is)

pub picked_names : (picked_name : Option (List ℕ)) (name : List ℕ) → picked_name ≡ Some name
    → names picked_name name ≡ true
picked_names None name is = cc
picked_names (Some other) name is = let same : other ≡ name = cc in (bytes_decides other name).1 same

-- ---- what is written

-- bytes that are written whole are among what a write that is cut short leaves
pub torn-written : (old : List ℕ) (at : ℕ) (bytes : List ℕ) → Torn at (length bytes) old (written old at bytes)
torn-written old at bytes = record {
  no_shorter = omega (arith, size, length-take at old, length-drop (at + length bytes) old);
  no_longer = omega (arith, size, length-take at old, length-drop (at + length bytes) old);
  before = elim (cases_le at (length old)) [
    | inl inside ↦ take-take at (length old) (written old at bytes) inside
        ∙ take_at (take at old) (bytes ++ drop (at + length bytes) old) at (length-take-le at old inside)
    | inr past ↦ ap (take at)
        (ap (take (length old))
        (ap (λ (l : List ℕ). l ++ (bytes ++ drop (at + length bytes) old)) (take_all at old past))
        ∙ take_at old (bytes ++ drop (at + length bytes) old) (length old) refl)
  ];
  after = elim (cases_le (at + length bytes) (length old)) [
    | inl inside ↦ ap (drop (at + length bytes))
        (take_all (length old) (written old at bytes)
        (omega (arith, size, length-take at old, length-drop (at + length bytes) old)))
        ∙ ap (drop (at + length bytes)) (sym (append_assoc (take at old) bytes (drop (at + length bytes) old)))
        ∙ drop_at (take at old ++ bytes) (drop (at + length bytes) old) (at + length bytes)
        (omega (arith, length-append (take at old) bytes, length-take at old))
    | inr past ↦ drop_all (at + length bytes) (take (length old) (written old at bytes))
        (omega (arith, length-take (length old) (written old at bytes))) ∙ sym (drop_all (at + length bytes) old past)
  ];
}
  where
    cases_le : (m n : ℕ) → (m ≤ n) ⊎ (n ≤ m)
    cases_le m n = elim (cases_lt n m) [ inl lt ↦ inr (omega arith) | inr le ↦ inl le ]

    size : length (written old at bytes) ≡ length (take at old) + (length bytes + length (drop (at + length bytes) old))
    size =
        length-append (take at old) (bytes ++ drop (at + length bytes) old)
        ∙ ap (λ (n : ℕ). length (take at old) + n) (length-append bytes (drop (at + length bytes) old))

-- ---- what a crash may leave of a file

-- the same where a name is the picked one or isn't
pub read_torn : (b : Bool) (file : Option (List ℕ)) (left : List ℕ → Type 0) (at n : ℕ) (kept now : List ℕ)
    → (b ≡ true → is_some file ≡ true) → ((was : List ℕ) → file ≡ Some was → left was)
    → ((was : List ℕ) → Torn at n was (written was at kept))
    → (if b then Some (written (unwrap_or file []) at kept) else file) ≡ Some now
    → MatchBool b ((was : List ℕ) × left was × Torn at n was now) (left now)
read_torn true file left at n kept now there was_left torn is =
    let whole = some_is file (there refl) in
    let same : written (unwrap_or file []) at kept ≡ now = cc in (
      unwrap_or file [],
      was_left (unwrap_or file []) whole,
      subst
          (λ (new : List ℕ). Torn at n (unwrap_or file []) new) same (torn (unwrap_or file [])),
    )
read_torn false file left at n kept now there was_left torn is = was_left now is

pub read_synced : (b : Bool) (file : Option (List ℕ)) (left : List ℕ → Type 0) (now : List ℕ)
    → ((was : List ℕ) → file ≡ Some was → left was) → file ≡ Some now → MatchBool b (file ≡ Some now) (left now)
read_synced true file left now was_left is = is
read_synced false file left now was_left is = was_left now is

pub read_made : (b : Bool) (file : Option (List ℕ)) (new name now : List ℕ) (left : List ℕ → Type 0)
    → (b ≡ true → new ≡ name) → ((was : List ℕ) → file ≡ Some was → left was)
    → (if b then Some (unwrap_or file []) else file) ≡ Some now → left now ⊎ ((name ≡ new) × (file ≡ None) × (now ≡ []))
read_made true None new name now left same was_left is = let empty : now ≡ [] = cc in inr (sym (same refl), refl, empty)
read_made true (Some bytes) new name now left same was_left is = inl (was_left now is)
read_made false file new name now left same was_left is = inl (was_left now is)

pub left_reads : (past : List Act) (name bytes : List ℕ) → files_after past name ≡ Some bytes
    → left_after past name bytes
left_reads [] name bytes is = cc
left_reads (picked new ∷ past) name bytes is =
    read_made (pointwise ◌==◌ new name) (files_after past name) new name bytes (left_after past name)
    (bytes_decides new name).0 (λ was there. left_reads past name was there) is
left_reads (wrote at new ∷ past) name bytes is =
    read_torn (names (picked_after past) name) (files_after past name) (left_after past name) at (length new) new bytes
    (λ same. has_file past name (names_picked (picked_after past) name same))
    (λ was there. left_reads past name was there) (λ was. torn-written was at new) is
left_reads (synced ∷ past) name bytes is =
    read_synced (names (picked_after past) name) (files_after past name) (left_after past name) bytes
    (λ was there. left_reads past name was there) is
left_reads (said new ∷ past) name bytes is = left_reads past name bytes is

pub none_torn : (b : Bool) (file : Option (List ℕ)) (new : List ℕ) (P Q : Type 0)
    → (if b then Some new else file) ≡ None → (file ≡ None → Q → ⊥) → MatchBool b P Q → ⊥
none_torn true file new P Q is none left = cc
none_torn false file new P Q is none left = none is left

pub none_synced : (b : Bool) (file : Option (List ℕ)) (now : List ℕ) (Q : Type 0) → file ≡ None → (Q → ⊥)
    → MatchBool b (file ≡ Some now) Q → ⊥
none_synced true file now Q is none left = cc
none_synced false file now Q is none left = none left

pub none_if : (b : Bool) (file : Option (List ℕ)) (new : List ℕ) → (if b then Some new else file) ≡ None → (b ≡ false)
    × (file ≡ None)
none_if true file new is = cc
none_if false file new is = (refl, is)

pub left_none : (past : List Act) (name image : List ℕ) → files_after past name ≡ None → left_after past name image → ⊥
left_none [] name image is left = left
left_none (picked new ∷ past) name image is (inl left) =
    left_none past name image
    (none_if (pointwise ◌==◌ new name) (files_after past name) (unwrap_or (files_after past name) []) is).1 left
left_none (picked new ∷ past) name image is (inr made) =
    let told = (bytes_decides new name).1 (sym made.0) in
    let other = (none_if (pointwise ◌==◌ new name) (files_after past name)
    (unwrap_or (files_after past name) []) is).0 in
    cc
left_none (wrote at bytes ∷ past) name image is left =
    none_torn (names (picked_after past) name) (files_after past name)
    (written (unwrap_or (files_after past name) []) at bytes)
    ((was : List ℕ) × left_after past name was × Torn at (length bytes) was image) (left_after past name image) is
    (λ none. left_none past name image none) left
left_none (synced ∷ past) name image is left =
    none_synced (names (picked_after past) name) (files_after past name) image (left_after past name image) is
    (left_none past name image is) left
left_none (said bytes ∷ past) name image is left = left_none past name image is left
