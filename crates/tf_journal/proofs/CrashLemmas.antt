-- How what a crash may leave goes on through the calls of a desk.
use Rattle.std.proofs.Common.{◌≡◌, ⊎_elim, ℕ, ◌+◌, List, [], ◌∷◌, ◌++◌, take, drop, Option, Some, None, refl, sym, ◌∙◌, ap, subst, arith}
use Rattle.std.proofs.lemmas.List.{take_all, append_assoc}
use Rattle.std.specs.Prelude.{IsTrue}
use Rattle.tf_desk.specs.Crash.{Mark, at_sync, Torn, IsLeft}
use Rattle.tf_desk.specs.State.{DeskState, LeftNow, IsDurable, bytes_now, FilesStay, Trusts, Rests, Tears, Syncs}
use Rattle.tf_desk.proofs.StateLemmas.{bytes_stay, durable_on}
use Rattle.tf_journal.specs.Format.{LiesAs, IsAtRest, HasSynced, Held}
use Rattle.tf_journal.specs.Gates.{LeavesTornAt}

torn_empty : (at n : ℕ) → Torn at n [] []
torn_empty at n = record { no_shorter = omega arith; no_longer = omega arith; before = ap (take at) (take_all 0 [] (omega arith)); after = ap (drop (at + n)) (take_all 0 [] (omega arith)) }

-- after a write to a file that was all on the disk, a crash now leaves its bytes torn in the range
pub now_torn : {at n : ℕ} {old new : DeskState} → new.content.picked ≡ old.content.picked → new.shown ≡ old.shown → IsDurable old → Tears at n old new
    → (image text : List ℕ) → LeftNow new image text → LeavesTornAt (bytes_now old) at n old.shown image text
now_torn {at} {n} {old} {new} picked shown durable torn image text now =
    (tears old.content.picked refl (subst (λ (p : Option (List ℕ)). IsLeft p new.left image) picked now.0), sym shown ∙ now.1)
  where
    tears : (p : Option (List ℕ)) → old.content.picked ≡ p → IsLeft p new.left image → Torn at n (bytes_now old) image
    tears None is left =
        let durable_empty : [] ≡ bytes_now old = durable [] (subst (λ (p : Option (List ℕ)). IsLeft p old.left []) (sym is) refl) in
        subst (λ (i : List ℕ). Torn at n (bytes_now old) i) (sym left) (subst (λ (b : List ℕ). Torn at n b []) durable_empty (torn_empty at n))
    tears (Some name) is left =
        let from = torn.left name image is left in
        let was : from.0 ≡ bytes_now old = durable from.0 (subst (λ (p : Option (List ℕ)). IsLeft p old.left from.0) (sym is) from.1) in
        subst (λ (b : List ℕ). Torn at n b image) was from.2

-- a journal at rest stays so while its desk changes no file
pub at_rest_on : {K : Type 0} (state : K → DeskState) (journal : Held K) (desk : K) (held : List (List ℕ)) → IsAtRest state journal held
    → FilesStay (state journal.desk) (state desk) → IsAtRest state (record journal { desk = desk }) held
at_rest_on state journal desk held rest stay = record {
  lies = subst (LiesAs journal.title held journal.size) (sym (bytes_stay stay)) rest.lies;
  durable = durable_on stay rest.durable;
}

-- a sync that answers Ok
pub synced_here : {old new : DeskState} → IsTrue old.tells → Syncs old new → Rests old new
    → ((image text : List ℕ) → new.crashes new.content.clock image text → LeftNow new image text) → HasSynced old new
synced_here {old} {new} told syncs rests only = record {
  moment = new.content.clock;
  others = [];
  marks = syncs.marks;
  not_before = (rests.on_disk.crash told).later;
  within = omega arith;
  since = λ image text left_now. (let now = only image text left_now in (syncs.durable image now.0 ∙ bytes_stay (rests.files told), sym rests.on_disk.shown ∙ now.1));
}

-- what a sync left stays so while nothing changes
pub synced_on : {old mid new : DeskState} → HasSynced old mid → IsTrue new.tells → Trusts Rests mid new → HasSynced old new
synced_on {old} {mid} {new} synced told rests =
    let more = rests.does.on_disk.marks told in
    let passes = rests.does.on_disk.crash told in
    record {
      moment = synced.moment;
      others = synced.others ++ more.0;
      marks = more.1 ∙ ap (λ (m : List Mark). m ++ more.0) synced.marks ∙ append_assoc old.content.marks (at_sync synced.moment ∷ synced.others) more.0;
      not_before = synced.not_before;
      within = omega (arith, synced.within, passes.later);
      since = λ image text left_now. ⊎_elim (λ earlier. synced.since image text earlier) (λ none. absurd none) (passes.since synced.moment image text synced.within left_now);
    }

-- a sync that answers Ok, and a read or more behind it
pub synced_before : {old mid new : DeskState} → (IsTrue old.tells → Syncs old mid) → Rests old mid
    → (IsTrue mid.tells → (image text : List ℕ) → mid.crashes mid.content.clock image text → LeftNow mid image text)
    → Trusts Rests mid new → IsTrue new.tells → HasSynced old new
synced_before syncs rests only reads told =
    let still = reads.falls told in
    let before = subst IsTrue rests.on_disk.tells still in
    synced_on (synced_here before (syncs before) rests (only still)) told reads
