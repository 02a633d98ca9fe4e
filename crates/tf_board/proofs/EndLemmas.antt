-- How a command on a board ends: from what was reached, and from a board that couldn't be opened.
use Rattle.std.proofs.Common.{◌≡◌, ◌≢◌, ◌⊎◌, ℕ, List, [], Option, Some, None, refl, sym, ap, ◌∙◌, subst, inl, inr, ⊎_elim, append-nil}
use Rattle.std.specs.Prelude.{IsTrue, unwrap_or}
use Rattle.tf_numbers.specs.Numbers.{Rises}
use Rattle.tf_desk.specs.Crash.{ShowsPrefix}
use Rattle.tf_desk.specs.State.{DeskState, anything, OnDisk, Says}
use Rattle.tf_desk.proofs.StateLemmas.{on_disk_told, on_disk_extends, says_extends, extends_none, extends_on, extends_within}
use Rattle.tf_journal.specs.Start.{Path, file_of}
use Rattle.tf_journal.specs.declared.faults.LoadFault.{LoadFault}
use Rattle.tf_journal.specs.declared.faults.LoadFault.TheVariants as load_fault
use Rattle.tf_journal.proofs.PathLemmas.{path_said, path_widens}
use Rattle.tf_records.specs.Refusing.{no_journal, bad_body}
use Rattle.tf_board.specs.Board.{BoardValue, board_in, IsNoBoard, IsAsBeforeOrMade, IsOpened, IsUnopened}
use Rattle.tf_board.specs.Does.{HoldsEither, LeavesCommand, Reached, Ends, EndsUnmade, Concludes, HasCauses}
use Rattle.tf_report.specs.Closing.{ClosesWith}
use Rattle.tf_report.proofs.ClosingLemmas.{closes_from}
use Rattle.tf_report.specs.declared.statuses.TheConstants.{DISK_FAILED, UNSAID, OUT_OF_MEMORY}
use Rattle.tf_board.specs.declared.commands.Command.{Command}

-- nothing that is said is a prefix of any text
nothing_prefix : (shown : Option (List ℕ)) (message text : List ℕ) → shown ≡ Some text → ShowsPrefix shown message (Some text)
nothing_prefix None message text same = absurd (cc)
nothing_prefix (Some t) message text same = record { count = 0; prefix = sym same ∙ ap Some (sym (append-nil t)) }

-- a file that is no board isn't unborn, and so it is as it was
pub no_board_stays : (before now : List ℕ) (offset : ℕ) (byte : Option ℕ) → IsNoBoard (board_in before) offset byte → IsAsBeforeOrMade before now → now ≡ before
no_board_stays before now offset byte is (inl same) = same
no_board_stays before now offset byte (no_journal found) (inr made) = let no = sym found ∙ made.0 in absurd (cc)
no_board_stays before now offset byte (bad_body held found refused) (inr made) = let no = sym found ∙ made.0 in absurd (cc)

-- the file of a name reads as before, where no file changed
file_stays : (name : List ℕ) (old new : DeskState) → new.content.files ≡ old.content.files → file_of new name ≡ file_of old name
file_stays name old new same = ap (λ (files : List ℕ → Option (List ℕ)). unwrap_or (files name) []) same

-- ---- a board that was opened

-- nothing is to be recorded
pub opened_reached : {K : Type 0} (state : K → DeskState) (name : List ℕ) (entry : DeskState) (board : BoardValue K) → IsOpened state name entry board
    → Reached name board.past [] board.past entry (state board.journal.desk)
opened_reached state name entry board o = record {
  on_disk = o.on_disk;
  file = λ told. inl (o.holds told);
  path = λ told. path_widens (o.path told) (λ image text leaves. inl leaves) (λ image holds. inl holds);
}

-- what was reached is said
pub reached_ends : {name : List ℕ} {past pending after : List Command} {entry mid now : DeskState} {message : List ℕ} {wanted status : ℕ}
    → Reached name past pending after entry mid → ClosesWith mid.shown message wanted now.shown status → Says message mid now
    → Ends name past pending after entry now message wanted status
reached_ends {name} {past} {pending} {after} {entry} {mid} {now} {message} r closes says = record {
  closes = inr (closes_from r.on_disk.shown closes);
  lasts = λ told.
      let told_mid : IsTrue mid.tells = on_disk_told r.on_disk told in
      let path : Path name entry now (LeavesCommand past pending after entry message) (λ image. HoldsEither pending after (board_in image)) =
      path_said (r.path told) told_mid says
      (λ image text may. ⊎_elim (λ before. inl before) (λ since. inr (since.0, nothing_prefix entry.shown message text since.1)) may)
      (λ image text held prefix. inr (held, subst (λ (s : Option (List ℕ)). ShowsPrefix s message (Some text)) r.on_disk.shown prefix)) in
      record {
        file = subst (λ (f : List ℕ). HoldsEither pending after (board_in f)) (sym (file_stays name mid now (says.files told_mid).files)) (r.file told);
        others = path.others;
        crash = path.crash;
      };
}

-- memory ran out for what was to be said
pub reached_stops : {name : List ℕ} {past pending after : List Command} {entry mid : DeskState} {message : List ℕ} {wanted status : ℕ}
    → Reached name past pending after entry mid → status ≡ OUT_OF_MEMORY → Ends name past pending after entry mid message wanted status
reached_stops {entry = entry} {message = message} r is = record {
  closes = inl (is, r.on_disk.shown);
  lasts = λ told. record {
    file = r.file told;
    others = (r.path told).others;
    crash = λ moment start image text leaves.
        ⊎_elim (λ before. inl before) (λ since. inr (since.0, nothing_prefix entry.shown message text since.1)) ((r.path told).crash moment start image text leaves);
  };
}

-- ---- a board that couldn't be opened

-- why is said
pub unopened_ends : {name : List ℕ} {fault : LoadFault} {entry mid now : DeskState} {message : List ℕ} {wanted status : ℕ}
    → IsUnopened name fault entry mid → ClosesWith mid.shown message wanted now.shown status → Says message mid now
    → EndsUnmade name entry now message wanted status
unopened_ends {name} {fault} {entry} {mid} {now} {message} u closes says = record {
  closes = inr (closes_from u.on_disk.shown closes);
  stays = λ told.
      let told_mid : IsTrue mid.tells = on_disk_told u.on_disk told in
      let path : Path name entry now (λ image text. IsAsBeforeOrMade (file_of entry name) image × ShowsPrefix entry.shown message (Some text)) (λ image. IsAsBeforeOrMade (file_of entry name) image) =
      path_said (u.path told) told_mid says
      (λ image text was. (was.0, nothing_prefix entry.shown message text was.1))
      (λ image text held prefix. (held, subst (λ (s : Option (List ℕ)). ShowsPrefix s message (Some text)) u.on_disk.shown prefix)) in
      record {
        file = subst (λ (f : List ℕ). IsAsBeforeOrMade (file_of entry name) f) (sym (file_stays name mid now (says.files told_mid).files)) (u.file told);
        others = path.others;
        crash = path.crash;
      };
}

-- memory ran out
pub unopened_stops : {name : List ℕ} {fault : LoadFault} {entry mid : DeskState} {message : List ℕ} {wanted status : ℕ}
    → IsUnopened name fault entry mid → status ≡ OUT_OF_MEMORY → EndsUnmade name entry mid message wanted status
unopened_stops {entry = entry} {message = message} u is = record {
  closes = inl (is, u.on_disk.shown);
  stays = λ told. record {
    file = u.file told;
    others = (u.path told).others;
    crash = λ moment start image text leaves.
        let was = (u.path told).crash moment start image text leaves in (was.0, nothing_prefix entry.shown message text was.1);
  };
}

-- ---- when a status comes

-- nothing was said
pub concludes_none : {old : DeskState} (status : ℕ) → status ≢ UNSAID → Concludes old old status
concludes_none status is_not = record { extends = extends_none; unasked = record { asks = refl; turns = refl }; disk_faults = refl; unsaid = λ is. absurd (is_not is) }

-- a text was said
pub concludes_said : {message : List ℕ} {old new : DeskState} (status : ℕ) → Says message old new → (status ≡ UNSAID → Rises old.out_faults new.out_faults) → Concludes old new status
concludes_said status says unsaid = record {
  extends = extends_within (says_extends says) (λ told image text left. tt);
  unasked = record { asks = says.asks; turns = says.turns };
  disk_faults = says.disk_faults;
  unsaid = unsaid;
}

-- a text whose status is no fault of the disk doesn't end with one
pub never_failed : {status wanted : ℕ} → (status ≢ UNSAID → (status ≡ wanted) ⊎ (status ≡ OUT_OF_MEMORY)) → wanted ≢ DISK_FAILED → status ≢ DISK_FAILED
never_failed by apart = λ is. ⊎_elim (λ same. apart (sym same ∙ is)) (λ out. let no = sym out ∙ is in cc) (by (λ unsaid. let no = sym is ∙ unsaid in cc))

-- a status that isn't answered
pub never_said : (n : ℕ) {status wanted : ℕ} → (status ≢ UNSAID → status ≡ wanted) → wanted ≢ n → UNSAID ≢ n → status ≢ n
never_said n by apart no_unsaid = λ is. apart (sym (by (λ unsaid. no_unsaid (sym unsaid ∙ is))) ∙ is)

pub never_told : (n : ℕ) {status wanted : ℕ} → (status ≢ UNSAID → (status ≡ wanted) ⊎ (status ≡ OUT_OF_MEMORY)) → wanted ≢ n → OUT_OF_MEMORY ≢ n → UNSAID ≢ n → status ≢ n
never_told n by apart no_memory no_unsaid = λ is. ⊎_elim (λ same. apart (sym same ∙ is)) (λ out. no_memory (sym out ∙ is)) (by (λ unsaid. no_unsaid (sym unsaid ∙ is)))

-- what came before it was on the disk alone
pub causes_so : {entry mid now : DeskState} {status : ℕ} → OnDisk anything entry mid → Concludes mid now status → (status ≡ DISK_FAILED → Rises entry.disk_faults mid.disk_faults)
    → HasCauses entry now status
causes_so {entry} {mid} {now} a c failed = record {
  extends = extends_on (on_disk_extends a) c.extends (λ told image text left. tt) (λ told image text left. tt);
  unasked = record { asks = c.unasked.asks ∙ a.asks; turns = c.unasked.turns ∙ a.turns };
  failed = λ is. subst (λ (n : ℕ). Rises entry.disk_faults n) (sym c.disk_faults) (failed is);
  unsaid = λ is. subst (λ (n : ℕ). Rises n now.out_faults) a.out_faults (c.unsaid is);
}

-- a board that couldn't be opened
pub unopened_causes : {name : List ℕ} {fault : LoadFault} {entry mid now : DeskState} {status : ℕ} → IsUnopened name fault entry mid → Concludes mid now status
    → (status ≡ DISK_FAILED → fault ≡ load_fault.Disk) → HasCauses entry now status
unopened_causes u c failed = causes_so u.on_disk c (λ is. u.cause (failed is))
