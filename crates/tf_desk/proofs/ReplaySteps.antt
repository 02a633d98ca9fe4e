-- What a sync does to what is replayed.
use Rattle.std.proofs.Common.{◌≡◌, ◌⊎◌, ℕ, ◌≤◌, Bool, true, false, MatchBool, List, ◌∷◌, Option, Some, inl, inr, refl, arith}
use Rattle.tf_trace.specs.Calls.{Call, synced}
use Rattle.tf_desk.specs.State.{DeskState, nothing_left, Rests}
use Rattle.tf_desk.specs.Acts.{names}
use Rattle.tf_desk.specs.Replay.{First, replay, left_synced, after_synced, WithCounts}
use Rattle.tf_desk.specs.ReplayLaws.{IsNow, is_now, ReadsLeft, left_reads}
use Rattle.tf_desk.proofs.PutsLemmas.{left_more}

either_left : (b : Bool) (file : Option (List ℕ)) (image : List ℕ) (Q : Type 0) → (file ≡ Some image → Q) → MatchBool b (file ≡ Some image) Q → Q
either_left true file image Q reads m = reads m
either_left false file image Q reads m = m

module _ (s : DeskState) (is : IsNow s) (reads : ReadsLeft s) where
  -- a crash leaves less of the picked file
  synced_less : (name image : List ℕ) → left_synced s name image → s.left name image
  synced_less name image left = either_left (names s.content.picked name) (s.content.files name) image (s.left name image) (λ there. reads name image there) left

  since_synced : (start : ℕ) (image text : List ℕ) → start ≤ s.content.clock → (after_synced s).crashes start image text → s.crashes start image text ⊎ nothing_left image text
  since_synced start image text le (inl (at, inl crashed)) = inl crashed
  since_synced start image text le (inl (at, inr none)) = absurd none
  since_synced start image text le (inr here) =
      inl (is.now start image text le (left_more s.content.picked (left_synced s) s.left image synced_less here.1.0, here.1.1))

  sync_rests : WithCounts Rests s (after_synced s)
  sync_rests before now out_faults asks turns le = record {
    on_disk = record {
      tells = refl;
      shown = refl;
      disk_faults = le;
      out_faults = refl;
      asks = refl;
      turns = refl;
      marks = λ told. (_, refl);
      crash = λ told. record { later = omega arith; since = since_synced; keeps = λ start image text le left. inl (le, inl left) };
    };
    files = λ told. record { files = refl; picked = refl; leaves = synced_less };
  }

pub synced_rests : (first : First) (past : List Call) → WithCounts Rests (replay first past) (replay first (synced ∷ past))
synced_rests first past = sync_rests (replay first past) (is_now first past) (left_reads first past)
