-- What an act does, beyond what it says at once.
use Rattle.std.proofs.Common.{◌≡◌, ◌≢◌, ◌⊎◌, ℕ, ◌+◌, ◌≤◌, Bool, true, false, MatchBool, IsSome, List, [], ◌∷◌, length, Option, Some, None, unwrap_or, inl, inr, refl, sym, ◌∙◌, ap, subst, arith}
use Rattle.tf_desk.specs.Crash.{at_pick, at_sync, bytes_of, written, Torn, LeavesNoMore}
use Rattle.tf_desk.specs.MemoryDesk.{Held, state_of}
use Rattle.tf_desk.specs.State.{LeftNow, Tears, Rests, OnDisk, nothing_left}
use Rattle.tf_desk.specs.Acts.{Act, wrote, synced, picked, names, picked_after, files_after, content_after, left_after, leaves_now, crashes_after}
use Rattle.tf_desk.specs.ActLaws.{torn-written, bytes_of-picked, picked_names, names_picked, left_reads, crashes_now}
use Rattle.tf_desk.specs.TornLaws.{torn_none, torn_wider}
use Rattle.tf_desk.proofs.FileLemmas.{chosen, passed}
use Rattle.tf_desk.proofs.StateLemmas.{left_alike, on_disk_none}

-- what reads after a write into the picked file
wrote_reads : (past : List Act) (name : List ℕ) (at : ℕ) (bytes : List ℕ) → picked_after past ≡ Some name
    → bytes_of (content_after (wrote at bytes ∷ past)) ≡ written (bytes_of (content_after past)) at bytes
wrote_reads past name at bytes is =
    bytes_of-picked (content_after (wrote at bytes ∷ past)) name is
    ∙ ap (λ (f : Option (List ℕ)). unwrap_or f []) (chosen (names (picked_after past) name) (Some (written (unwrap_or (files_after past name) []) at bytes)) (files_after past name) (picked_names (picked_after past) name is))
    ∙ ap (λ (l : List ℕ). written l at bytes) (sym (bytes_of-picked (content_after past) name is))

wrote_others : (past : List Act) (at : ℕ) (bytes other : List ℕ) → picked_after past ≢ Some other → files_after (wrote at bytes ∷ past) other ≡ files_after past other
wrote_others past at bytes other not_it = either (names (picked_after past) other) refl
  where
    either : (b : Bool) → names (picked_after past) other ≡ b → files_after (wrote at bytes ∷ past) other ≡ files_after past other
    either true is = absurd (not_it (names_picked (picked_after past) other is))
    either false is = passed (names (picked_after past) other) (Some (written (unwrap_or (files_after past other) []) at bytes)) (files_after past other) is

some_named : (p : Option (List ℕ)) → IsSome p → (name : List ℕ) × (p ≡ Some name)
some_named None some = cc
some_named (Some name) some = (name, refl)

at_true : (b : Bool) (P Q : Type 0) → b ≡ true → MatchBool b P Q → P
at_true true P Q is m = m
at_true false P Q is m = cc

at_not : (b : Bool) (P Q : Type 0) → (b ≡ true → ⊥) → MatchBool b P Q → Q
at_not true P Q is m = absurd (is refl)
at_not false P Q is m = m

-- what a write does that was noted
wrote_once : (old new : Held) (at m : ℕ) (bytes : List ℕ) → length bytes ≤ m → (name : List ℕ) → picked_after old.past ≡ Some name
    → Tears at m (state_of old) (state_of (record new { past = wrote at bytes ∷ old.past }))
wrote_once old new at m bytes le picked_name is = record {
  marks = refl;
  bytes = subst (Torn at m (bytes_of (content_after old.past))) (sym (wrote_reads old.past picked_name at bytes is))
      (torn_wider at (length bytes) m (bytes_of (content_after old.past)) (written (bytes_of (content_after old.past)) at bytes) le (torn-written (bytes_of (content_after old.past)) at bytes));
  left = λ name image its left.
      let torn = at_true (names (picked_after old.past) name) ((was : List ℕ) × left_after old.past name was × Torn at (length bytes) was image) (left_after old.past name image) (picked_names (picked_after old.past) name its) left in
      (torn.0, torn.1, torn_wider at (length bytes) m torn.0 image le torn.2);
  left_others = λ name image not_it left.
      at_not (names (picked_after old.past) name) ((was : List ℕ) × left_after old.past name was × Torn at (length bytes) was image) (left_after old.past name image) (λ its. not_it (names_picked (picked_after old.past) name its)) left;
}

-- what a call does that wrote nothing
wrote_none : (old new : Held) (at m : ℕ) → Tears at m (state_of old) (state_of (record new { past = old.past }))
wrote_none old new at m = record {
  marks = refl;
  bytes = torn_none at m (bytes_of (content_after old.past));
  left = λ name image its left. (image, left, torn_none at m image);
  left_others = λ name image not_it left. left;
}

-- a write, whole or cut short: it was noted with these bytes, or not at all
pub wrote_tears : (old new : Held) (at m : ℕ) (bytes : List ℕ) (noted : Bool) → length bytes ≤ m
    → (noted ≡ true → new.past ≡ wrote at bytes ∷ old.past) → (noted ≡ true → IsSome (picked_after old.past)) → (noted ≡ false → new.past ≡ old.past)
    → Tears at m (state_of old) (state_of new)
wrote_tears old new at m bytes true le is some same =
    let name = some_named (picked_after old.past) (some refl) in
    subst (λ (past : List Act). Tears at m (state_of old) (state_of (record new { past = past }))) (sym (is refl)) (wrote_once old new at m bytes le name.0 name.1)
wrote_tears old new at m bytes false le is some same =
    subst (λ (past : List Act). Tears at m (state_of old) (state_of (record new { past = past }))) (sym (same refl)) (wrote_none old new at m)

either_left : (b : Bool) (file : Option (List ℕ)) (image : List ℕ) (Q : Type 0) → (file ≡ Some image → Q) → MatchBool b (file ≡ Some image) Q → Q
either_left true file image Q reads m = reads m
either_left false file image Q reads m = m

-- a sync leaves no more
synced_leaves : (past : List Act) → LeavesNoMore (left_after past) (left_after (synced ∷ past))
synced_leaves past name image left = either_left (names (picked_after past) name) (files_after past name) image (left_after past name image) (λ reads. left_reads past name image reads) left

-- since a moment before a sync a crash leaves what it might leave then
synced_since : (past : List Act) (start : ℕ) (image text : List ℕ) → start ≤ length past
    → crashes_after (synced ∷ past) start image text → crashes_after past start image text ⊎ nothing_left image text
synced_since past start image text le (inl now) =
    inl (crashes_now past start image text le (left_alike (picked_after past) (left_after past) (left_after (synced ∷ past)) image (synced_leaves past) now.1.0, now.1.1))
synced_since past start image text le (inr (inl inside)) = absurd inside.1
synced_since past start image text le (inr (inr before)) = inl before

synced_once : (old : Held) → Rests (state_of old) (state_of (record old { past = synced ∷ old.past }))
synced_once old = record {
  on_disk = record {
    tells = refl;
    shown = refl;
    disk_faults = omega arith;
    out_faults = refl;
    asks = refl;
    turns = refl;
    marks = λ told. (at_sync (length old.past + 1) ∷ [], refl);
    crash = λ told. record {
      later = omega arith;
      since = synced_since old.past;
      keeps = λ start image text le left. inr (inr left);
    };
  };
  files = λ told. record { files = refl; picked = refl; leaves = synced_leaves old.past };
}

-- a sync that was noted
pub synced_rests : (old mid : Held) (past : List Act) (began : List ℕ) → mid ≡ record old { began = began } → past ≡ synced ∷ mid.past → Rests (state_of old) (state_of (record mid { past = past }))
synced_rests old mid past began same is =
    subst (λ (p : List Act). Rests (state_of old) (state_of (record mid { past = p }))) (sym is)
    (subst (λ (m : Held). Rests (state_of old) (state_of (record m { past = synced ∷ m.past }))) (sym same) (synced_once old))

-- since a moment before a pick a crash leaves what it might leave then, or what it leaves now
picked_since : (past : List Act) (name : List ℕ) (start : ℕ) (image text : List ℕ) → start ≤ length past
    → crashes_after (picked name ∷ past) start image text → crashes_after past start image text ⊎ leaves_now (picked name ∷ past) image text
picked_since past name start image text le (inl now) = inr now.1
picked_since past name start image text le (inr (inl inside)) = absurd inside.1
picked_since past name start image text le (inr (inr before)) = inl before

picked_once : (old : Held) (name : List ℕ)
    → OnDisk (LeftNow (state_of (record old { past = picked name ∷ old.past }))) (state_of old) (state_of (record old { past = picked name ∷ old.past }))
picked_once old name = record {
  tells = refl;
  shown = refl;
  disk_faults = omega arith;
  out_faults = refl;
  asks = refl;
  turns = refl;
  marks = λ told. (at_pick name (length old.past + 1) ∷ [], refl);
  crash = λ told. record {
    later = omega arith;
    since = picked_since old.past name;
    keeps = λ start image text le left. inr (inr left);
  };
}

-- a pick that was noted
pub picked_on_disk : (old mid : Held) (past : List Act) (began name : List ℕ) → mid ≡ record old { began = began } → past ≡ picked name ∷ mid.past
    → OnDisk (LeftNow (state_of (record mid { past = past }))) (state_of old) (state_of (record mid { past = past }))
picked_on_disk old mid past began name same is =
    subst (λ (p : List Act). OnDisk (LeftNow (state_of (record mid { past = p }))) (state_of old) (state_of (record mid { past = p }))) (sym is)
    (subst (λ (m : Held). OnDisk (LeftNow (state_of (record m { past = picked name ∷ m.past }))) (state_of old) (state_of (record m { past = picked name ∷ m.past }))) (sym same) (picked_once old name))

-- a pick that wasn't
pub unpicked_on_disk : (old mid : Held) (past : List Act) (began : List ℕ) → mid ≡ record old { began = began } → past ≡ mid.past
    → OnDisk (LeftNow (state_of (record mid { past = past }))) (state_of old) (state_of (record mid { past = past }))
unpicked_on_disk old mid past began same is =
    subst (λ (p : List Act). OnDisk (LeftNow (state_of (record mid { past = p }))) (state_of old) (state_of (record mid { past = p }))) (sym is)
    (subst (λ (m : Held). OnDisk (LeftNow (state_of m)) (state_of old) (state_of m)) (sym same) on_disk_none)
