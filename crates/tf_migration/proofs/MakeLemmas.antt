-- What is known of the file of a name that was picked, where a book was to be made in it.
use Rattle.std.proofs.Common.{◌≡◌, ◌≢◌, ◌⊎◌, ℕ, List, [], ◌∷◌, ◌++◌, append_assoc, Option, Some, None, Result, Ok, Err, true, refl, sym, ap, ◌∙◌, subst, inl, inr, ⊎_elim}
use Rattle.std.specs.Prelude.{IsTrue, IfErr, is_some}
use Rattle.tf_numbers.specs.Numbers.{Rises}
use Rattle.tf_desk.specs.Crash.{Mark, at_pick, at_sync, Pairs, Images, IsLeft}
use Rattle.tf_desk.specs.State.{DeskState, told_as, Trusts, anything, bytes_now, MayLeave, LeftNow, OnDisk, Passes, Rests, GoesOn, PicksNone, LeavesMade, passes_on, passes_within}
use Rattle.tf_desk.proofs.CountLemmas.{rises_later}
use Rattle.tf_desk.proofs.StateLemmas.{on_disk_told, on_disk_on, on_disk_within, on_disk_lowered, left_stays, passes_then}
use Rattle.tf_journal.specs.Answers.{RefusesFile}
use Rattle.tf_journal.specs.Format.{Recovered, unborn, old_format, not_a_book, HasSynced, IsSynced, StaysUnborn}
use Rattle.tf_journal.specs.Start.{file_of, IsSet, Open}
use Rattle.tf_journal.specs.declared.faults.JournalFault.{JournalFault}
use Rattle.tf_journal.specs.declared.faults.JournalFault.TheVariants as journal
use Rattle.tf_journal.specs.declared.title.Title.TheVariants.{Book2 as new_title}
use Rattle.tf_journal.proofs.OpenLemmas.{picked_bytes, picks_lowered, unpicked, opened_told, set_told}
use Rattle.tf_journal.proofs.PathLemmas.{set_on, path_on, as_read}
use Rattle.tf_migration.specs.Migrates.{new_in, new_at, Left, whole, not_yet, either, IsFirstSync}
use Rattle.tf_migration.specs.Writing.{LeavesOnce, IsLeftByPick, LeavesByPick, IsLeftSo, desk_written, left_by, left_written, FailsToWrite, IsMade, IsKept, FailsToMake, Makes, IsPicked}
use Rattle.tf_migration.specs.declared.writing.NewFault.{NewFault}
use Rattle.tf_migration.specs.declared.writing.NewFault.TheVariants as fault
use Rattle.tf_migration.proofs.DeskLaws.{KeepsLaws, LawsOf, laws_of}

-- what is left once a file was to be picked, by what was left before
left_by_pick : (name : List ℕ) (before : Option (List ℕ)) (old new : Images) (missing : List ℕ → Type 0) (image : List ℕ)
    → ((other : List ℕ) → new other image → old other image ⊎ ((other ≡ name) × missing other × (image ≡ []))) → IsLeft before new image
    → IsLeft before old image ⊎ (old name image ⊎ (image ≡ []))
left_by_pick name None old new missing image leaves left = inl left
left_by_pick name (Some other) old new missing image leaves left = ⊎_elim (λ was. inl was) (λ none. inr (inr none.2)) (leaves other left)

-- nothing was picked
pub unpicked_kept : {name : List ℕ} {entry now : DeskState} → Trusts (OnDisk (LeftNow now)) entry now → (IsTrue now.tells → PicksNone name entry now)
    → (IsTrue now.tells → LeavesMade name entry now) → IsKept name (told_as now entry) now
unpicked_kept {name} {entry} {now} call none leaves = record {
  on_disk = on_disk_within call.does (λ told image text left. tt);
  untouched = (unpicked call none).does;
  passes = λ told. passes_within (call.does.crash told) (λ image text left. (left_now told image left.0, sym call.does.shown ∙ left.1));
  left = left_now;
}
  where
    left_now : IsTrue now.tells → (image : List ℕ) → MayLeave now image → IsLeftByPick name entry image
    left_now told image left =
        left_by_pick name entry.content.picked entry.left now.left (λ other. entry.content.files other ≡ None) image (λ other was. leaves told other image was)
        (subst (λ (p : Option (List ℕ)). IsLeft p now.left image) (none told).picked left)

-- what a read gave is all that a crash leaves now
pub synced_unborn : {K : Type 0} (state : K → DeskState) (desk now : K) → KeepsLaws state → HasSynced (state desk) (state now) → IsTrue (state now).tells
    → new_in (bytes_now (state desk)) ≡ unborn → StaysUnborn new_title (state now)
synced_unborn state desk now laws synced told is image left = by (state now).shown refl (laws.tells_shown now told)
  where
    by : (shown : Option (List ℕ)) → (state now).shown ≡ shown → is_some shown ≡ true → new_in image ≡ unborn
    by None same shows = absurd (cc)
    by (Some text) same shows = ap new_in (synced.since image text (laws.counts_now now synced.moment image text told synced.within (left, same))).0 ∙ is

-- a file that was refused for what it is isn't unborn
pub refused_born : (why : JournalFault) (found : Recovered) → ((offset : ℕ) × (byte : Option ℕ) × (why ≡ journal.NotABook offset byte)) ⊎ (why ≡ journal.Old) → RefusesFile why found
    → found ≢ unborn
refused_born why found (inl bad) refuses = λ is.
    let there : found ≡ not_a_book bad.0 bad.1 = subst (λ (f : JournalFault). RefusesFile f found) bad.2 refuses in
    let no = sym there ∙ is in cc
refused_born why found (inr old) refuses = λ is.
    let there : found ≡ old_format = subst (λ (f : JournalFault). RefusesFile f found) old refuses in
    let no = sym there ∙ is in cc

-- ---- a file that was picked

module _ (name : List ℕ) (entry desk : DeskState) (laws : LawsOf desk) (picked : IsPicked name entry desk) where
  told_then : IsTrue entry.tells → IsTrue desk.tells
  told_then told = on_disk_told picked.on_disk told

  since_entry : {during : Pairs} (now : DeskState) → OnDisk during desk now → OnDisk anything entry now
  since_entry now on_disk = on_disk_on picked.on_disk on_disk (λ told image text left. tt) (λ told image text left. tt)

  was_in : IsTrue entry.tells → new_in (bytes_now desk) ≡ new_at entry name
  was_in told = ap new_in (picked_bytes (picked.picks told))

  left_desk : IsTrue entry.tells → (image : List ℕ) → MayLeave desk image → IsLeftByPick name entry image
  left_desk told image left =
      ⊎_elim (λ was. inr (inl was)) (λ none. inr (inr none.2))
      (picked.made told name image (subst (λ (p : Option (List ℕ)). IsLeft p desk.left image) (picked.picks told).picked left))

  passes_desk : IsTrue entry.tells → Passes (LeavesByPick name entry) entry desk
  passes_desk told = passes_within (picked.on_disk.crash told) (λ image text left. (left_desk told image left.0, sym picked.on_disk.shown ∙ left.1))

  rose_since : (now : DeskState) → Rises desk.disk_faults now.disk_faults → Rises entry.disk_faults now.disk_faults
  rose_since now rose = rises_later entry.disk_faults desk.disk_faults now.disk_faults picked.on_disk.disk_faults rose

  -- it was only read
  pub read_kept : (now : DeskState) → LawsOf now → Rests desk now → (IsTrue desk.tells → IsSynced desk now) → IsKept name entry now
  read_kept now laws_now rests synced = record {
    on_disk = since_entry now rests.on_disk;
    untouched = opened_told picked.on_disk picked.picks picked.made rests synced (λ told image text was. laws.only image text told was) laws_now.shows
        (λ told start image text le left. laws_now.reaches start image text told le left);
    passes = λ told. passes_then (passes_desk told) (rests.on_disk.crash (told_then told));
    left = λ told image left. left_desk told image (left_stays (rests.files (told_then told)) image left);
  }

  -- and isn't unborn
  pub read_exists : (held : List (List ℕ)) (now : DeskState) → LawsOf now → Rests desk now → (IsTrue desk.tells → IsSynced desk now)
      → (IsTrue desk.tells → new_in (bytes_now desk) ≢ unborn) → FailsToMake name held fault.Exists entry now
  read_exists held now laws_now rests synced born = (read_kept now laws_now rests synced, λ told is. born (told_then told) (was_in told ∙ is))

  -- or the disk failed
  pub read_failed : (held : List (List ℕ)) (now : DeskState) → LawsOf now → Rests desk now → (IsTrue desk.tells → IsSynced desk now)
      → Rises desk.disk_faults now.disk_faults → FailsToMake name held fault.Disk entry now
  read_failed held now laws_now rests synced rose = (rose_since now rose, inl (read_kept now laws_now rests synced))

  -- ---- it is unborn

  module _ (mid : DeskState) (laws_mid : LawsOf mid) (rests : Rests desk mid) (synced : IsTrue desk.tells → HasSynced desk mid)
      (unborn_desk : IsTrue desk.tells → new_in (bytes_now desk) ≡ unborn) (held : List (List ℕ)) where
    pub kept_mid : IsKept name entry mid
    kept_mid = read_kept mid laws_mid rests (λ told. inr (synced told))

    open_mid : Open name entry mid
    open_mid = set_told picked.on_disk picked.picks rests synced kept_mid.untouched

    told_mid : IsTrue entry.tells → IsTrue mid.tells
    told_mid told = on_disk_told rests.on_disk (told_then told)

    unborn_then : IsTrue entry.tells → new_at entry name ≡ unborn
    unborn_then told = sym (was_in told) ∙ unborn_desk (told_then told)

    -- the sync that read it is the first behind the pick
    first_synced : IsTrue entry.tells → (now : DeskState) → (more : List Mark) × (now.content.marks ≡ mid.content.marks ++ more) → (moment : ℕ) × IsFirstSync name [] entry now moment
    first_synced told now marks =
        let h = synced (told_then told) in
        let began : List Mark = entry.content.marks in
        let pick : Mark = at_pick name desk.content.clock in (
          h.moment,
          record {
            picked = desk.content.clock;
            more = at_sync h.moment ∷ (h.others ++ marks.0);
            added = marks.1
                ∙ ap (λ (m : List Mark). m ++ marks.0) (h.marks ∙ ap (λ (m : List Mark). m ++ at_sync h.moment ∷ h.others) (picked.picks told).marks ∙ append_assoc began (pick ∷ []) (at_sync h.moment ∷ h.others))
                ∙ append_assoc began (pick ∷ at_sync h.moment ∷ h.others) marks.0;
            first = refl;
          },
        )

    -- a book was written, or a part of it
    made_so : (left : Left) (now : DeskState) → LawsOf now → GoesOn (LeavesOnce left held mid.shown) mid now → (IsTrue mid.tells → IsLeftSo left held now)
        → IsMade name held left entry now
    made_so left now laws_now goes leaves =
        let set_now : IsTrue entry.tells → IsSet name entry now =
        λ told. set_on (open_mid.set told) (goes.files (told_mid told)).picked (goes.on_disk.marks (told_mid told)) in
        let told_now : IsTrue entry.tells → IsTrue now.tells = λ told. on_disk_told goes.on_disk (told_mid told) in
        record {
          on_disk = on_disk_on kept_mid.on_disk goes.on_disk (λ told image text went. tt) (λ told image text went. tt);
          was_unborn = unborn_then;
          set = set_now;
          synced = λ told. first_synced told now (goes.on_disk.marks (told_mid told));
          path = λ told. path_on (open_mid.untouched.path told) (open_mid.set told) (goes.files (told_mid told)) (goes.on_disk.marks (told_mid told)) (goes.on_disk.crash (told_mid told))
              (λ image text same. (inl (ap new_in same.0 ∙ unborn_then told), same.1))
              (λ image text went. (went.0, sym open_mid.untouched.quiet ∙ went.1))
              (leaves (told_mid told));
          file = λ told. leaves (told_mid told) (file_of now name)
              (as_read now (set_now told).picked (λ there. laws_now.there name (told_now told) there) (λ bytes has. laws_now.reads name bytes (told_now told) has)).0;
          passes = λ told. passes_on (kept_mid.passes told) (goes.on_disk.crash (told_mid told)) (λ image text went. (inl went.0, went.1))
              (λ image text went. (inr went.0, sym kept_mid.untouched.quiet ∙ went.1));
        }

    rose_mid : (now : DeskState) → Rises mid.disk_faults now.disk_faults → Rises entry.disk_faults now.disk_faults
    rose_mid now rose = rises_later entry.disk_faults mid.disk_faults now.disk_faults kept_mid.on_disk.disk_faults rose

    made_by : (why : NewFault) (now : DeskState) → LawsOf now → GoesOn (LeavesOnce (left_by why) held mid.shown) mid now
        → (IsTrue mid.tells → IsLeftSo (left_by why) held now) → FailsToWrite held why mid now
        → (why ≡ fault.Memory → IsKept name entry now) → FailsToMake name held why entry now
    made_by fault.Disk now laws_now goes leaves fails same = (rose_mid now fails, inr (made_so either now laws_now goes leaves))
    made_by (fault.Full size need) now laws_now goes leaves fails same = (made_so not_yet now laws_now goes leaves, fails)
    made_by fault.Memory now laws_now goes leaves fails same = same refl
    made_by fault.Exists now laws_now goes leaves fails same = absurd fails

    pub written_makes : {K : Type 0} (state : K → DeskState) → KeepsLaws state → (r : Result K (K × NewFault)) → GoesOn (LeavesOnce (left_written r) held mid.shown) mid (state (desk_written r))
        → (IsTrue mid.tells → IsLeftSo (left_written r) held (state (desk_written r))) → IfErr r (λ back. FailsToWrite held back.1 mid (state back.0))
        → IfErr r (λ back. back.1 ≡ fault.Memory → IsKept name entry (state back.0)) → Makes state name held entry r
    written_makes state keeps (Ok now) goes leaves fails same = made_so whole (state now) (laws_of keeps now) goes leaves
    written_makes state keeps (Err back) goes leaves fails same = made_by back.1 (state back.0) (laws_of keeps back.0) goes leaves fails same

-- ---- what was done before the desk told less

pub picked_lowered : {name : List ℕ} {entry desk : DeskState} (end : DeskState) → (IsTrue end.tells → IsTrue desk.tells) → IsPicked name entry desk → IsPicked name (told_as end entry) (told_as end desk)
picked_lowered {name} {entry} {desk} end falls p = record {
  on_disk = on_disk_lowered end before p.on_disk;
  picks = λ told. picks_lowered end (p.picks (before told));
  made = λ told. p.made (before told);
}
  where
    before : IsTrue end.tells → IsTrue entry.tells
    before told = subst IsTrue p.on_disk.tells (falls told)

-- memory ran out before anything was written
pub still_kept : {K : Type 0} (state : K → DeskState) (mid : K) (name : List ℕ) (entry : DeskState) (r : Result K (K × NewFault))
    → IsKept name (told_as (state (desk_written r)) entry) (told_as (state (desk_written r)) (state mid)) → IfErr r (λ back. back.1 ≡ fault.Memory → back.0 ≡ mid)
    → IfErr r (λ back. back.1 ≡ fault.Memory → IsKept name (told_as (state (desk_written r)) entry) (state back.0))
still_kept state mid name entry (Ok now) kept same = tt
still_kept {K} state mid name entry (Err back) kept same = λ is.
    subst (λ (k : K). IsKept name (told_as (state back.0) entry) (told_as (state back.0) (state k))) (sym (same is)) kept

-- why it wasn't written, of a desk that tells less in the end
fails_lowered : (held : List (List ℕ)) (why : NewFault) (mid now end : DeskState) → FailsToWrite held why mid now → FailsToWrite held why (told_as end mid) now
fails_lowered held fault.Disk mid now end fails = fails
fails_lowered held (fault.Full size need) mid now end fails = fails
fails_lowered held fault.Memory mid now end fails = fails
fails_lowered held fault.Exists mid now end fails = fails

pub unwritten_lowered : {K : Type 0} (state : K → DeskState) (mid end : DeskState) (held : List (List ℕ)) (r : Result K (K × NewFault)) → IfErr r (λ back. FailsToWrite held back.1 mid (state back.0))
    → IfErr r (λ back. FailsToWrite held back.1 (told_as end mid) (state back.0))
unwritten_lowered state mid end held (Ok now) fails = tt
unwritten_lowered state mid end held (Err back) fails = fails_lowered held back.1 mid (state back.0) end fails
