-- What is known of the desk where a file was picked and read.
use Rattle.std.proofs.Common.{◌≡◌, ◌≢◌, ◌⊎◌, ℕ, ◌≤◌, List, [], ◌∷◌, ◌++◌, true, Option, Some, None, refl, sym, ap, ◌∙◌, subst, inl, inr, ⊎_elim, append_assoc, append-nil, arith}
use Rattle.std.proofs.lemmas.List.{append_cancel_left}
use Rattle.std.specs.Prelude.{IsTrue, is_some, unwrap_or}
use Rattle.std.specs.Option.{option_and_then}
use Rattle.tf_desk.specs.Crash.{Mark, at_pick, at_sync, Pairs, IsLeft}
use Rattle.tf_desk.specs.State.{DeskState, bytes_now, MayLeave, LeftNow, FilesStay, Passes, nothing_left, OnDisk, told_as, Trusts, Rests, Picks, PicksNone, LeavesMade}
use Rattle.tf_desk.proofs.StateLemmas.{left_stays, on_disk_told, on_disk_lowered}
use Rattle.tf_journal.specs.Format.{HasSynced, IsSynced}
use Rattle.tf_journal.specs.Start.{file_of, first_pick, first_sync, IsFirm, IsStart, IsSet, Path, IsAsBefore, IsSame, Untouched, Open}

-- ---- nothing was picked

unpicked_file : (old new : Option (List ℕ)) → ((bytes : List ℕ) → new ≡ Some bytes → unwrap_or old [] ≡ bytes) → ((bytes : List ℕ) → old ≡ Some bytes → new ≡ Some bytes) → unwrap_or new [] ≡ unwrap_or old []
unpicked_file old (Some bytes) file kept = sym (file bytes refl)
unpicked_file None None file kept = refl
unpicked_file (Some bytes) None file kept = let no : None ≡ Some bytes = kept bytes refl in absurd (cc)

no_start : {name : List ℕ} {entry now : DeskState} {moment : ℕ} → now.content.marks ≡ entry.content.marks → IsStart name entry now moment → ⊥
no_start {name} {entry} {now} {moment} same start = by start.more none start.first
  where
    none : start.more ≡ []
    none = append_cancel_left entry.content.marks start.more [] (sym start.added ∙ same ∙ sym (append-nil entry.content.marks))

    by : (more : List Mark) → more ≡ [] → ((first_pick more ≡ Some moment) × IsFirm name entry) ⊎ (first_sync more ≡ Some moment) → ⊥
    by [] is (inl picked) = let no = picked.0 in cc
    by [] is (inr synced) = cc
    by (mark ∷ more) is first = cc

-- ---- a file was picked

-- the file as it was at entry
picked_file : {name : List ℕ} {entry mid : DeskState} → Picks name entry mid → file_of mid name ≡ file_of entry name
picked_file picks = ap (λ (o : Option (List ℕ)). unwrap_or o []) picks.file

pub picked_bytes : {name : List ℕ} {entry mid : DeskState} → Picks name entry mid → bytes_now mid ≡ file_of entry name
picked_bytes {name} {entry} {mid} picks = by mid.content.picked picks.picked ∙ picked_file picks
  where
    by : (o : Option (List ℕ)) → o ≡ Some name → unwrap_or (option_and_then mid.content.files o) [] ≡ file_of mid name
    by None is = absurd (cc)
    by (Some other) is = let same : other ≡ name = cc in ap (λ (n : List ℕ). unwrap_or (mid.content.files n) []) same

-- the images that a pick may leave are the file's as it was
firm_left : {name : List ℕ} {entry mid : DeskState} → Picks name entry mid → LeavesMade name entry mid → IsFirm name entry → (image : List ℕ) → MayLeave mid image → image ≡ file_of entry name
firm_left {name} {entry} {mid} picks made firm image leaves =
    ⊎_elim (λ before. firm image before) (λ empty. empty.2 ∙ sym (ap (λ (o : Option (List ℕ)). unwrap_or o []) empty.1))
    (made name image (subst (λ (o : Option (List ℕ)). IsLeft o mid.left image) picks.picked leaves))

-- the start is the moment of the pick of a firm file, or of the first sync behind it
starts_of : {name : List ℕ} {entry now : DeskState} (mid : DeskState) (rest : List Mark) (moment : ℕ) → now.content.marks ≡ entry.content.marks ++ at_pick name mid.content.clock ∷ rest
    → IsStart name entry now moment → ((mid.content.clock ≡ moment) × IsFirm name entry) ⊎ (first_sync rest ≡ Some moment)
starts_of {name} {entry} {now} mid rest moment marks start = by start.more more_is start.first
  where
    clock : ℕ
    clock = mid.content.clock

    more_is : start.more ≡ at_pick name clock ∷ rest
    more_is = append_cancel_left entry.content.marks start.more (at_pick name clock ∷ rest) (sym start.added ∙ marks)

    by : (more : List Mark) → more ≡ at_pick name clock ∷ rest → ((first_pick more ≡ Some moment) × IsFirm name entry) ⊎ (first_sync more ≡ Some moment)
        → ((clock ≡ moment) × IsFirm name entry) ⊎ (first_sync rest ≡ Some moment)
    by more is (inl picked) = let at : Some clock ≡ Some moment = sym (ap first_pick is) ∙ picked.0 in inl (let same : clock ≡ moment = cc in same, picked.1)
    by more is (inr synced) = inr (sym (ap first_sync is) ∙ synced)

-- the path through a pick and a load that read the file
module _ {name : List ℕ} {entry mid now : DeskState} (picks : Picks name entry mid) (made : LeavesMade name entry mid) (shown_same : mid.shown ≡ entry.shown)
    (only : (image text : List ℕ) → mid.crashes mid.content.clock image text → LeftNow mid image text) (stay : FilesStay mid now) (passes : Passes nothing_left mid now)
    (told : is_some now.shown ≡ true)
    (reaches : (start : ℕ) (image text : List ℕ) → start ≤ now.content.clock → LeftNow now image text → now.crashes start image text) where
  others_stay : (other : List ℕ) → other ≢ name → now.content.files other ≡ entry.content.files other
  others_stay other apart = ap (λ (f : List ℕ → Option (List ℕ)). f other) stay.files ∙ picks.others other apart

  -- at the pick of a firm file
  firm_crash : IsFirm name entry → (image text : List ℕ) → now.crashes mid.content.clock image text → IsAsBefore name entry image text
  firm_crash firm image text leaves =
      ⊎_elim
      (λ earlier. let now_then = only image text earlier in (firm_left picks made firm image now_then.0, sym shown_same ∙ now_then.1))
      (λ none. absurd none)
      (passes.since mid.content.clock image text (omega arith) leaves)

  firm_still : IsFirm name entry → (image : List ℕ) → MayLeave now image → image ≡ file_of entry name
  firm_still firm image leaves = firm_left picks made firm image (left_stays stay image leaves)

  pub opened_path : IsSynced mid now → Path name entry now (IsAsBefore name entry) (IsSame name entry)
  opened_path (inl same) = record {
    others = others_stay;
    within = λ moment start. elim (which moment start) [ inl at ↦ omega (arith, at.0, passes.later) | inr never ↦ absurd (cc) ];
    crash = λ moment start image text leaves. elim (which moment start) [
      | inl at ↦ firm_crash at.1 image text (subst (λ (m : ℕ). now.crashes m image text) (sym at.0) leaves)
      | inr never ↦ absurd (cc)
    ];
    still = λ moment start image leaves. elim (which moment start) [ inl at ↦ firm_still at.1 image leaves | inr never ↦ absurd (cc) ];
  }
    where
      which : (moment : ℕ) → IsStart name entry now moment → ((mid.content.clock ≡ moment) × IsFirm name entry) ⊎ (first_sync [] ≡ Some moment)
      which moment start = starts_of mid [] moment (same ∙ picks.marks) start
  opened_path (inr h) = record {
    others = others_stay;
    within = λ moment start. elim (which moment start) [ inl at ↦ omega (arith, at.0, passes.later) | inr at ↦ omega (arith, synced_at moment at, h.within) ];
    crash = λ moment start image text leaves. elim (which moment start) [
      | inl at ↦ firm_crash at.1 image text (subst (λ (m : ℕ). now.crashes m image text) (sym at.0) leaves)
      | inr at ↦ synced_crash moment at image text leaves
    ];
    still = λ moment start image leaves. elim (which moment start) [
      | inl at ↦ firm_still at.1 image leaves
      | inr at ↦ synced_still image leaves now.shown refl told
    ];
  }
    where
      which : (moment : ℕ) → IsStart name entry now moment → ((mid.content.clock ≡ moment) × IsFirm name entry) ⊎ (first_sync (at_sync h.moment ∷ h.others) ≡ Some moment)
      which moment start =
          starts_of mid (at_sync h.moment ∷ h.others) moment
          (h.marks ∙ ap (λ (m : List Mark). m ++ at_sync h.moment ∷ h.others) picks.marks ∙ append_assoc entry.content.marks (at_pick name mid.content.clock ∷ []) (at_sync h.moment ∷ h.others)) start

      synced_at : (moment : ℕ) → first_sync (at_sync h.moment ∷ h.others) ≡ Some moment → h.moment ≡ moment
      synced_at moment at = let same : Some h.moment ≡ Some moment = at in cc

      synced_crash : (moment : ℕ) → first_sync (at_sync h.moment ∷ h.others) ≡ Some moment → (image text : List ℕ) → now.crashes moment image text → IsAsBefore name entry image text
      synced_crash moment at image text leaves =
          let then_is = h.since image text (subst (λ (m : ℕ). now.crashes m image text) (sym (synced_at moment at)) leaves) in
          (then_is.0 ∙ picked_bytes picks, sym shown_same ∙ then_is.1)

      synced_still : (image : List ℕ) → MayLeave now image → (o : Option (List ℕ)) → now.shown ≡ o → is_some o ≡ true → image ≡ file_of entry name
      synced_still image leaves None same never = absurd (cc)
      synced_still image leaves (Some text) same is_there = (h.since image text (reaches h.moment image text h.within (leaves, same))).0 ∙ picked_bytes picks

-- a pick that failed
pub unpicked : {name : List ℕ} {entry now : DeskState} {during : Pairs} → Trusts (OnDisk during) entry now
    → (IsTrue now.tells → PicksNone name entry now) → Trusts (Untouched name) entry now
unpicked {name} {entry} {now} call picks = record {
  falls = call.falls;
  does = record {
    told = refl;
    quiet = call.does.shown;
    file = λ telling. unpicked_file (entry.content.files name) (now.content.files name) (picks telling).file (picks telling).kept;
    path = λ telling. record {
      others = (picks telling).others;
      within = λ moment start. absurd (no_start (picks telling).marks start);
      crash = λ moment start image text leaves. absurd (no_start (picks telling).marks start);
      still = λ moment start image leaves. absurd (no_start (picks telling).marks start);
    };
    disk = call.does.disk_faults;
    out = call.does.out_faults;
  };
}

-- a pick and a load, of a desk that tells as much in the end
pub opened_told : {name : List ℕ} {entry mid now : DeskState} {during : Pairs} → OnDisk during entry mid
    → (IsTrue entry.tells → Picks name entry mid) → (IsTrue entry.tells → LeavesMade name entry mid)
    → Rests mid now → (IsTrue mid.tells → IsSynced mid now)
    → (IsTrue mid.tells → (image text : List ℕ) → mid.crashes mid.content.clock image text → LeftNow mid image text)
    → (IsTrue now.tells → IsTrue (is_some now.shown))
    → (IsTrue now.tells → (start : ℕ) (image text : List ℕ) → start ≤ now.content.clock → LeftNow now image text → now.crashes start image text)
    → Untouched name entry now
opened_told {name} {entry} {mid} {now} call picks made rests synced only shows reaches = record {
  told = rests.on_disk.tells ∙ call.tells;
  quiet = rests.on_disk.shown ∙ call.shown;
  file = λ telling. ap (λ (f : List ℕ → Option (List ℕ)). unwrap_or (f name) []) (rests.files (mid_tells telling)).files ∙ picked_file (picks telling);
  path = λ telling. opened_path (picks telling) (made telling) call.shown (only (mid_tells telling)) (rests.files (mid_tells telling)) (rests.on_disk.crash (mid_tells telling))
      (shows (now_tells telling)) (reaches (now_tells telling)) (synced (mid_tells telling));
  disk = omega (arith, call.disk_faults, rests.on_disk.disk_faults);
  out = rests.on_disk.out_faults ∙ call.out_faults;
}
  where
    mid_tells : IsTrue entry.tells → IsTrue mid.tells
    mid_tells telling = on_disk_told call telling

    now_tells : IsTrue entry.tells → IsTrue now.tells
    now_tells telling = on_disk_told rests.on_disk (mid_tells telling)

-- and a load that met no fault of the disk
pub set_told : {name : List ℕ} {entry mid now : DeskState} {during : Pairs} → OnDisk during entry mid → (IsTrue entry.tells → Picks name entry mid)
    → Rests mid now → (IsTrue mid.tells → HasSynced mid now) → Untouched name entry now → Open name entry now
set_told {name} {entry} {mid} {now} call picks rests synced untouched = record {
  untouched = untouched;
  set = λ telling. let telling_mid : IsTrue mid.tells = on_disk_told call telling in
      let h = synced telling_mid in record {
        picked = (rests.files telling_mid).picked ∙ (picks telling).picked;
        more = at_pick name mid.content.clock ∷ at_sync h.moment ∷ h.others;
        added = h.marks ∙ ap (λ (m : List Mark). m ++ at_sync h.moment ∷ h.others) (picks telling).marks
            ∙ append_assoc entry.content.marks (at_pick name mid.content.clock ∷ []) (at_sync h.moment ∷ h.others);
        has_pick = refl;
        has_sync = refl;
      };
}

-- what was done before the desk told less
pub picks_lowered : {name : List ℕ} {old new : DeskState} (end : DeskState) → Picks name old new → Picks name (told_as end old) (told_as end new)
picks_lowered end a = record { picked = a.picked; file = a.file; others = a.others; marks = a.marks }

has_synced_told : {old new : DeskState} → HasSynced old new → HasSynced (told_as new old) new
has_synced_told a = record { moment = a.moment; others = a.others; marks = a.marks; not_before = a.not_before; within = a.within; since = a.since }

pub synced_told : {old new : DeskState} → IsSynced old new → IsSynced (told_as new old) new
synced_told (inl same) = inl same
synced_told (inr synced) = inr (has_synced_told synced)

-- a pick and a load
pub opened : {name : List ℕ} {entry mid now : DeskState} {during : Pairs} → Trusts (OnDisk during) entry mid
    → (IsTrue mid.tells → Picks name entry mid) → (IsTrue mid.tells → LeavesMade name entry mid)
    → Trusts Rests mid now → (IsTrue now.tells → IsSynced mid now)
    → (IsTrue mid.tells → (image text : List ℕ) → mid.crashes mid.content.clock image text → LeftNow mid image text)
    → (IsTrue now.tells → IsTrue (is_some now.shown))
    → (IsTrue now.tells → (start : ℕ) (image text : List ℕ) → start ≤ now.content.clock → LeftNow now image text → now.crashes start image text)
    → Trusts (Untouched name) entry now
opened {name} {entry} {mid} {now} call picks made rests synced only shows reaches = record {
  falls = λ told. call.falls (rests.falls told);
  does = opened_told {entry = told_as now entry} {mid = told_as now mid} (on_disk_lowered now rests.falls call.does)
      (λ told. picks_lowered now (picks (rests.falls told))) (λ told. made (rests.falls told)) rests.does
      (λ told. synced_told (synced told)) (λ told. only (rests.falls told)) shows reaches;
}

-- and a load that met no fault of the disk
pub open_set : {name : List ℕ} {entry mid now : DeskState} {during : Pairs} → Trusts (OnDisk during) entry mid
    → (IsTrue mid.tells → Picks name entry mid)
    → Trusts Rests mid now → (IsTrue now.tells → HasSynced mid now) → Trusts (Untouched name) entry now → Trusts (Open name) entry now
open_set {name} {entry} {mid} {now} call picks rests synced untouched = record {
  falls = untouched.falls;
  does = set_told {entry = told_as now entry} {mid = told_as now mid} (on_disk_lowered now rests.falls call.does)
      (λ told. picks_lowered now (picks (rests.falls told))) rests.does (λ told. has_synced_told (synced told)) untouched.does;
}

-- nothing was called since
pub untouched_now : {name : List ℕ} {now : DeskState} → Untouched name now now
untouched_now {name} {now} = record {
  told = refl;
  quiet = refl;
  file = λ telling. refl;
  path = λ telling. record {
    others = λ other apart. refl;
    within = λ moment start. absurd (no_start refl start);
    crash = λ moment start image text leaves. absurd (no_start refl start);
    still = λ moment start image leaves. absurd (no_start refl start);
  };
  disk = omega arith;
  out = refl;
}

-- ---- what was done before the desk told less

start_raised : {name : List ℕ} {entry now : DeskState} {moment : ℕ} (end : DeskState) → IsStart name (told_as end entry) (told_as end now) moment → IsStart name entry now moment
start_raised end start = record { more = start.more; added = start.added; first = start.first }

path_lowered : {name : List ℕ} {entry now : DeskState} {may : Pairs} {held : List ℕ → Type 0} (end : DeskState) → Path name entry now may held → Path name (told_as end entry) (told_as end now) may held
path_lowered end path = record {
  others = path.others;
  within = λ moment start. path.within moment (start_raised end start);
  crash = λ moment start. path.crash moment (start_raised end start);
  still = λ moment start. path.still moment (start_raised end start);
}

pub set_lowered : {name : List ℕ} {entry now : DeskState} (end : DeskState) → IsSet name entry now → IsSet name (told_as end entry) (told_as end now)
set_lowered end set = record { picked = set.picked; more = set.more; added = set.added; has_pick = set.has_pick; has_sync = set.has_sync }

pub untouched_lowered : {name : List ℕ} {entry mid : DeskState} (end : DeskState) → (IsTrue end.tells → IsTrue mid.tells) → Untouched name entry mid
    → Untouched name (told_as end entry) (told_as end mid)
untouched_lowered {name} {entry} {mid} end falls u = record {
  told = refl;
  quiet = u.quiet;
  file = λ told. u.file (before told);
  path = λ told. path_lowered end (u.path (before told));
  disk = u.disk;
  out = u.out;
}
  where
    before : IsTrue end.tells → IsTrue entry.tells
    before told = subst IsTrue u.told (falls told)

pub open_lowered : {name : List ℕ} {entry mid : DeskState} (end : DeskState) → (IsTrue end.tells → IsTrue mid.tells) → Open name entry mid → Open name (told_as end entry) (told_as end mid)
open_lowered end falls opened = record {
  untouched = untouched_lowered end falls opened.untouched;
  set = λ told. set_lowered end (opened.set (subst IsTrue opened.untouched.told (falls told)));
}

pub synced_lowered : {old new : DeskState} (end : DeskState) → HasSynced old new → HasSynced (told_as end old) (told_as end new)
synced_lowered end a = record { moment = a.moment; others = a.others; marks = a.marks; not_before = a.not_before; within = a.within; since = a.since }
