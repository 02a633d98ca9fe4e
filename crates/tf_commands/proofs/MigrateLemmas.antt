-- How a migration ends.
use Rattle.std.proofs.Common.{◌≡◌, ◌⊎◌, ℕ, List, Option, inl, inr, refl, subst, sym, ⊎_elim, arith}
use Rattle.std.specs.Prelude.{IsTrue}
use Rattle.tf_desk.specs.State.{DeskState}
use Rattle.tf_flow.specs.Plan.{PlanValue}
use Rattle.tf_states.specs.declared.record.Entry.{Entry}
use Rattle.tf_journal.specs.Format.{Recovered, unborn}
use Rattle.tf_migration.specs.Migrates as migration
use Rattle.tf_migration.specs.Migrates.{Migrates, IsUnreadFor, IsUnbegunFor, IsBegunFor, IsBookOfFlow, HasCauses, old_at, new_at, Left}
use Rattle.tf_report.specs.Closing.{ClosesWithOrStops}
use Rattle.tf_report.proofs.ClosingLemmas.{ends_status}
use Rattle.tf_commands.specs.Asking.{HasEachCause, counts_of}
use Rattle.tf_commands.proofs.EndLemmas.{Ended, is_complete, is_failed, is_no_book, is_unsaid, is_forbidden, out_ends, ended_apart}

closes_ended : (before after : Option (List ℕ)) (message : List ℕ) (wanted status : ℕ) → Ended ⊥ wanted → ClosesWithOrStops before message wanted after status → Ended ⊥ status
closes_ended before after message wanted status ended closes =
    ⊎_elim (λ out. out_ends status out) (λ others. ⊎_elim (λ same. subst (Ended ⊥) (sym same) ended) (λ unsaid. is_unsaid unsaid) others) (ends_status before after message wanted status closes)

unread_ended : {told : Type 0} {found : Recovered} (message : List ℕ) (wanted : ℕ) → IsUnreadFor told found message wanted → Ended ⊥ wanted
unread_ended message wanted migration.unread_no_memory = out_ends 9 refl
unread_ended message wanted migration.unread_failed = is_failed refl
unread_ended message wanted (migration.no_book offset byte isnt) = is_no_book refl
unread_ended message wanted (migration.no_flow none) = is_forbidden refl

unbegun_ended : {told : Type 0} {found : Recovered} (message : List ℕ) (wanted : ℕ) → IsUnbegunFor told found message wanted → Ended ⊥ wanted
unbegun_ended message wanted migration.unbegun_no_memory = out_ends 9 refl
unbegun_ended message wanted migration.unbegun_failed = is_failed refl
unbegun_ended message wanted (migration.exists there) = is_forbidden refl

begun_ended : {plan : PlanValue} {past : List Entry} (left : Left) (message : List ℕ) (wanted : ℕ) → IsBegunFor plan past left message wanted → Ended ⊥ wanted
begun_ended left message wanted migration.migrated = is_complete (inl refl)
begun_ended left message wanted (migration.filled size need full) = is_complete (inr (inr (inr (inr refl))))
begun_ended left message wanted migration.write_failed = is_failed refl

pub migrates_ended : (old new : List ℕ) (entry now : DeskState) (status : ℕ) → Migrates old new entry now status → Ended ⊥ status
migrates_ended old new entry now status (migration.unread message wanted why closes stays) =
    closes_ended entry.shown now.shown message wanted status (unread_ended message wanted why) closes
migrates_ended old new entry now status (migration.unbegun plan past message wanted held why closes stays) =
    closes_ended entry.shown now.shown message wanted status (unbegun_ended message wanted why) closes
migrates_ended old new entry now status (migration.begun plan past left message wanted held fresh why spared closes lasts) =
    closes_ended entry.shown now.shown message wanted status (begun_ended left message wanted why) closes

-- ---- what met no fault is carried over

unread_well : {told : Type 0} {found : Recovered} (message : List ℕ) (wanted : ℕ) → told → IsBookOfFlow found → IsUnreadFor told found message wanted → (wanted ≡ 9) ⊎ (wanted ≡ 5)
unread_well message wanted telling is migration.unread_no_memory = inl refl
unread_well message wanted telling is migration.unread_failed = inr refl
unread_well message wanted telling is (migration.no_book offset byte isnt) = absurd (is.book offset byte (isnt telling))
unread_well message wanted telling is (migration.no_flow none) = absurd (is.flow (none telling))

unbegun_well : {told : Type 0} {found : Recovered} (message : List ℕ) (wanted : ℕ) → told → found ≡ unborn → IsUnbegunFor told found message wanted → (wanted ≡ 9) ⊎ (wanted ≡ 5)
unbegun_well message wanted telling is migration.unbegun_no_memory = inl refl
unbegun_well message wanted telling is migration.unbegun_failed = inr refl
unbegun_well message wanted telling is (migration.exists there) = absurd (there telling is)

begun_well : {plan : PlanValue} {past : List Entry} (left : Left) (message : List ℕ) (wanted : ℕ) → IsBegunFor plan past left message wanted → migration.IsComplete wanted ⊎ (wanted ≡ 5)
begun_well left message wanted migration.migrated = inl (inl refl)
begun_well left message wanted (migration.filled size need full) = inl (inr (inr refl))
begun_well left message wanted migration.write_failed = inr refl

closes_well : (before after : Option (List ℕ)) (message : List ℕ) (wanted status : ℕ) → ¬ (status ≡ 5) → ¬ (status ≡ 7) → migration.IsComplete wanted ⊎ (wanted ≡ 5) → ClosesWithOrStops before message wanted after status
    → migration.IsComplete status
closes_well before after message wanted status sound sayable one closes =
    ⊎_elim (λ out. inr (inl out))
    (λ others. ⊎_elim
    (λ same. ⊎_elim (λ complete. subst migration.IsComplete (sym same) complete) (λ failed. absurd (sound (subst (λ (n : ℕ). n ≡ 5) (sym same) failed))) one)
    (λ unsaid. absurd (sayable unsaid)) others)
    (ends_status before after message wanted status closes)

memory_or : (wanted : ℕ) → (wanted ≡ 9) ⊎ (wanted ≡ 5) → migration.IsComplete wanted ⊎ (wanted ≡ 5)
memory_or wanted (inl out) = inl (inr (inl out))
memory_or wanted (inr failed) = inr failed

pub migrates_well : (old new : List ℕ) (entry now : DeskState) (status : ℕ) → ¬ (status ≡ 5) → ¬ (status ≡ 7) → IsTrue entry.tells → IsBookOfFlow (old_at entry old) → new_at entry new ≡ unborn
    → Migrates old new entry now status → migration.IsComplete status
migrates_well old new entry now status sound sayable told is fresh (migration.unread message wanted why closes stays) =
    closes_well entry.shown now.shown message wanted status sound sayable (memory_or wanted (unread_well message wanted told is why)) closes
migrates_well old new entry now status sound sayable told is fresh (migration.unbegun plan past message wanted held why closes stays) =
    closes_well entry.shown now.shown message wanted status sound sayable (memory_or wanted (unbegun_well message wanted told fresh why)) closes
migrates_well old new entry now status sound sayable told is fresh (migration.begun plan past left message wanted held unwritten why spared closes lasts) =
    closes_well entry.shown now.shown message wanted status sound sayable (begun_well left message wanted why) closes

-- ---- its causes

-- it hires nobody
closes_hired : (before after : Option (List ℕ)) (message : List ℕ) (wanted status : ℕ) → ¬ (wanted ≡ 8) → ClosesWithOrStops before message wanted after status → ¬ (status ≡ 8)
closes_hired before after message wanted status apart closes is =
    ⊎_elim (λ out. omega (arith, out, is)) (λ others. ⊎_elim (λ same. apart (subst (λ (n : ℕ). n ≡ 8) same is)) (λ unsaid. omega (arith, unsaid, is)) others)
    (ends_status before after message wanted status closes)

unread_hired : {told : Type 0} {found : Recovered} (message : List ℕ) (wanted : ℕ) → IsUnreadFor told found message wanted → ¬ (wanted ≡ 8)
unread_hired message wanted migration.unread_no_memory is = omega (arith, is)
unread_hired message wanted migration.unread_failed is = omega (arith, is)
unread_hired message wanted (migration.no_book offset byte isnt) is = omega (arith, is)
unread_hired message wanted (migration.no_flow none) is = omega (arith, is)

unbegun_hired : {told : Type 0} {found : Recovered} (message : List ℕ) (wanted : ℕ) → IsUnbegunFor told found message wanted → ¬ (wanted ≡ 8)
unbegun_hired message wanted migration.unbegun_no_memory is = omega (arith, is)
unbegun_hired message wanted migration.unbegun_failed is = omega (arith, is)
unbegun_hired message wanted (migration.exists there) is = omega (arith, is)

begun_hired : {plan : PlanValue} {past : List Entry} (left : Left) (message : List ℕ) (wanted : ℕ) → IsBegunFor plan past left message wanted → ¬ (wanted ≡ 8)
begun_hired left message wanted migration.migrated is = omega (arith, is)
begun_hired left message wanted (migration.filled size need full) is = omega (arith, is)
begun_hired left message wanted migration.write_failed is = omega (arith, is)

migrates_hired : (old new : List ℕ) (entry now : DeskState) (status : ℕ) → Migrates old new entry now status → ¬ (status ≡ 8)
migrates_hired old new entry now status (migration.unread message wanted why closes stays) =
    closes_hired entry.shown now.shown message wanted status (unread_hired message wanted why) closes
migrates_hired old new entry now status (migration.unbegun plan past message wanted held why closes stays) =
    closes_hired entry.shown now.shown message wanted status (unbegun_hired message wanted why) closes
migrates_hired old new entry now status (migration.begun plan past left message wanted held fresh why spared closes lasts) =
    closes_hired entry.shown now.shown message wanted status (begun_hired left message wanted why) closes

pub migrated_causes : {old new : List ℕ} {entry now : DeskState} (status sources crew : ℕ) → Migrates old new entry now status → HasCauses entry now status
    → HasEachCause status (counts_of entry sources crew) (counts_of now sources crew)
migrated_causes {old} {new} {entry} {now} status sources crew migrates causes =
    let ended = migrates_ended old new entry now status migrates in
    record {
      none_falls = record { disk = causes.extends.disk_faults; out = causes.extends.out_faults; sources = omega arith; crew = omega arith; asks = causes.extends.asks };
      unread = λ is. absurd (ended_apart status 3 ended is (inr (inl refl)));
      failed = causes.failed;
      unsaid = causes.unsaid;
      unhired = λ is. absurd (migrates_hired old new entry now status migrates is);
    }
