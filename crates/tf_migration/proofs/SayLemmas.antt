-- How a migration says what it says last, and when its status comes.
use Rattle.std.proofs.Common.{◌≡◌, ℕ, List, [], Option, Some, None, refl, sym, ap, ◌∙◌, subst, inl, inr, ⊎_elim, append-nil, arith}
use Rattle.std.specs.Prelude.{unwrap_or}
use Rattle.tf_numbers.specs.Numbers.{Rises}
use Rattle.tf_desk.specs.Crash.{shown_with, ShowsPrefix}
use Rattle.tf_desk.specs.State.{DeskState, anything, OnDisk, Extends, Says, passes_none}
use Rattle.tf_desk.proofs.StateLemmas.{files_none, extends_on, extends_within, on_disk_extends, says_extends}
use Rattle.tf_journal.specs.Start.{file_of}
use Rattle.tf_report.specs.Closing.{ClosesWith, ClosesWithOrStops}
use Rattle.tf_report.specs.declared.statuses.TheConstants.{DISK_FAILED, UNSAID, OUT_OF_MEMORY}
use Rattle.tf_report.proofs.ClosingLemmas.{closes_from, ends_status}
use Rattle.tf_migration.specs.Migrates.{HasCauses, Concludes}

-- ---- what is said last

-- nothing more is a prefix of any text
pub nothing_prefix : (shown : Option (List ℕ)) (message text : List ℕ) → shown ≡ Some text → ShowsPrefix shown message (Some text)
nothing_prefix None message text same = absurd (cc)
nothing_prefix (Some t) message text same = record { count = 0; prefix = sym same ∙ ap Some (sym (append-nil t)) }

shown_still : (shown : Option (List ℕ)) → shown ≡ shown_with shown []
shown_still None = refl
shown_still (Some text) = ap Some (sym (append-nil text))

-- nothing was said
says_nothing : (message : List ℕ) (now : DeskState) → Says message now now
says_nothing message now = record {
  tells = refl;
  prefix = record { count = 0; prefix = shown_still now.shown };
  disk_faults = refl;
  out_faults = omega arith;
  asks = refl;
  turns = refl;
  marks = λ told. refl;
  files = λ told. files_none;
  crash = λ told. passes_none;
}

-- memory ran out for the message
pub concludes_none : (message : List ℕ) (wanted : ℕ) (now : DeskState) → Concludes message wanted now now OUT_OF_MEMORY
concludes_none message wanted now = record { closes = inl (refl, refl); says = says_nothing message now; unsaid = λ is. cc }

-- a message was said
pub concludes_said : {message : List ℕ} {wanted status : ℕ} {old new : DeskState} → ClosesWith old.shown message wanted new.shown status → Says message old new
    → (status ≡ UNSAID → Rises old.out_faults new.out_faults) → Concludes message wanted old new status
concludes_said closes says unsaid = record { closes = inr closes; says = says; unsaid = unsaid }

-- what closes after calls that show nothing closes after them all
pub closes_since : {before mid after : Option (List ℕ)} {message : List ℕ} {wanted status : ℕ} → mid ≡ before → ClosesWithOrStops mid message wanted after status
    → ClosesWithOrStops before message wanted after status
closes_since quiet (inl stopped) = inl (stopped.0, stopped.1 ∙ quiet)
closes_since quiet (inr closes) = inr (closes_from quiet closes)

-- the file of a name reads as before, where no file changed
pub file_stays : (name : List ℕ) (old new : DeskState) → new.content.files ≡ old.content.files → file_of new name ≡ file_of old name
file_stays name old new same = ap (λ (files : List ℕ → Option (List ℕ)). unwrap_or (files name) []) same

-- ---- when a status comes

-- what came before the message was on the disk alone, and the message tells of a failed disk only where it failed
pub causes_so : {entry late now : DeskState} {message : List ℕ} {wanted status : ℕ} → OnDisk anything entry late → Concludes message wanted late now status
    → (wanted ≡ DISK_FAILED → Rises entry.disk_faults late.disk_faults) → HasCauses entry now status
causes_so {entry} {late} {now} {message} {wanted} {status} a c failed = record {
  extends =
      (let said : Extends anything late now = extends_within (says_extends c.says) (λ told image text left. tt) in
      extends_on (on_disk_extends a) said (λ told image text left. tt) (λ told image text left. tt));
  unasked = record { asks = c.says.asks ∙ a.asks; turns = c.says.turns ∙ a.turns };
  failed = λ is. subst (λ (n : ℕ). Rises entry.disk_faults n) (sym c.says.disk_faults)
      (⊎_elim (λ out. let no = sym out ∙ is in absurd (cc))
      (λ said. ⊎_elim (λ same. failed (sym same ∙ is)) (λ unsaid. let no = sym unsaid ∙ is in absurd (cc)) said)
      (ends_status late.shown now.shown message wanted status c.closes));
  unsaid = λ is. subst (λ (n : ℕ). Rises n now.out_faults) a.out_faults (c.unsaid is);
}
