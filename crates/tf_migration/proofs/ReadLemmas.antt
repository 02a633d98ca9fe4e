-- What is known of the file of a name that was picked and read to be carried over.
use Rattle.std.proofs.Common.{◌≡◌, ℕ, List, Result, Ok, Err, inl, inr, ⊎_elim, sym, ap, ◌∙◌, subst}
use Rattle.std.specs.Prelude.{IsTrue, IfOk, IfErr}
use Rattle.tf_numbers.specs.Numbers.{Rises}
use Rattle.tf_desk.specs.Crash.{Pairs}
use Rattle.tf_desk.specs.State.{DeskState, anything, bytes_now, told_as, Trusts, OnDisk, Rests, Picks, PicksNone, LeavesMade}
use Rattle.tf_desk.proofs.CountLemmas.{rises_later}
use Rattle.tf_desk.proofs.StateLemmas.{on_disk_on, on_disk_within, on_disk_lowered}
use Rattle.tf_journal.specs.Format.{Recovered, bodies, Held, IsAtRest, HasSynced, IsSynced}
use Rattle.tf_journal.specs.Reading.{HasBodies}
use Rattle.tf_journal.specs.Start.{Untouched}
use Rattle.tf_journal.proofs.CrashLemmas.{synced_on}
use Rattle.tf_journal.proofs.OpenLemmas.{picked_bytes, unpicked, opened, open_set, untouched_lowered, set_lowered}
use Rattle.tf_records.specs.Replaying.{HasReadAll}
use Rattle.tf_migration.specs.Migrates.{old_in, old_at, HoldsFlow}
use Rattle.tf_migration.specs.Reading.{HasReadBook, desk_read, HasReadAllOf, HasFlow, RefusesOld, IsUnread, IsRead}
use Rattle.tf_migration.specs.declared.flows.Flow.{Flow}
use Rattle.tf_migration.specs.declared.flows.OldBook.{OldBook}
use Rattle.tf_migration.specs.declared.flows.OldBook.TheVariants as old
use Rattle.tf_migration.specs.declared.reading.OldFault.{OldFault}
use Rattle.tf_migration.specs.declared.reading.OldFault.TheVariants as fault
use Rattle.tf_migration.proofs.DeskLaws.{KeepsLaws}
use Rattle.tf_migration.proofs.FlowLemmas.{legal_history}

-- all bodies were read
pub read_all : {K : Type 0} (state : K → DeskState) (journal : Held K) (desk : K) (book : OldBook) (flow : Flow) → book ≡ old.Of flow → HasReadAll state HasReadBook journal desk book
    → HasReadAllOf state journal desk flow.bodies.items
read_all state journal desk book flow is read =
    let r = subst (λ (b : OldBook). HasReadAll state HasReadBook journal desk b) is read in
    let f = r.is_replayed in
    record { plan = f.plan; past = f.past; kept_are = f.kept; legal = f.legal; whole = λ told held lies. r.whole told held lies ∙ f.bodies_are }

-- of a journal that was loaded
pub flow_loaded : {K A F : Type 0} (state : K → DeskState) (kept_of : A → List (List ℕ)) (journal : Held K) (bytes : List ℕ) (r : Result (K × A) (K × F))
    → (IsTrue (state (desk_read r)).tells → IsTrue (state journal.desk).tells)
    → (IsTrue (state journal.desk).tells → (held : List (List ℕ)) × (old_in bytes ≡ bodies held) × IsAtRest state journal held)
    → IfOk r (λ found. HasReadAllOf state journal found.0 (kept_of found.1)) → IfOk r (λ found. HasFlow (IsTrue (state found.0).tells) (old_in bytes) (kept_of found.1))
flow_loaded state kept_of journal bytes (Err back) falls recovers read = tt
flow_loaded state kept_of journal bytes (Ok found) falls recovers read = record {
  plan = read.plan;
  past = read.past;
  kept_are = read.kept_are;
  holds = λ told. let was = recovers (falls told) in record {
    is = was.1 ∙ ap bodies (read.whole told was.0 was.2.lies);
    history = legal_history read.plan read.past read.legal;
  };
  legal = read.legal;
}

-- what was refused of it
pub flow_refused : {K A : Type 0} (state : K → DeskState) (journal : Held K) (bytes : List ℕ) (r : Result (K × A) (K × OldFault))
    → (IsTrue (state (desk_read r)).tells → IsTrue (state journal.desk).tells)
    → (IsTrue (state journal.desk).tells → (held : List (List ℕ)) × (old_in bytes ≡ bodies held) × IsAtRest state journal held)
    → IfErr r (λ back. IsTrue (state back.0).tells → (held : List (List ℕ)) → HasBodies state journal held → RefusesOld back.1 (bodies held))
    → IfErr r (λ back. IsTrue (state back.0).tells → RefusesOld back.1 (old_in bytes))
flow_refused state journal bytes (Ok found) falls recovers refused = tt
flow_refused state journal bytes (Err back) falls recovers refused = λ told.
    let was = recovers (falls told) in
    subst (RefusesOld back.1) (sym was.1) (refused told was.0 was.2.lies)

-- and synced when it was loaded
pub synced_read : {K A F : Type 0} (state : K → DeskState) (desk mid : K) (r : Result (K × A) (K × F))
    → (IsTrue (state mid).tells → HasSynced (state desk) (state mid)) → Trusts Rests (state mid) (state (desk_read r))
    → IfOk r (λ found. IsTrue (state found.0).tells → HasSynced (state desk) (state found.0))
synced_read state desk mid (Err back) synced rests = tt
synced_read state desk mid (Ok found) synced rests = λ told. synced_on (synced (rests.falls told)) told rests

-- ---- the file of a name

module _ {K : Type 0} (state : K → DeskState) (laws : KeepsLaws state) (name : List ℕ) (entry mid : K) {during : Pairs} (call : Trusts (OnDisk during) (state entry) (state mid))
    (picks : IsTrue (state mid).tells → Picks name (state entry) (state mid)) (made : IsTrue (state mid).tells → LeavesMade name (state entry) (state mid)) where
  read_on_disk : (now : K) → Trusts Rests (state mid) (state now) → OnDisk anything (told_as (state now) (state entry)) (state now)
  read_on_disk now rests = on_disk_on (on_disk_lowered (state now) rests.falls call.does) rests.does.on_disk (λ told image text left. tt) (λ told image text left. tt)

  read_untouched : (now : K) → Trusts Rests (state mid) (state now) → (IsTrue (state now).tells → IsSynced (state mid) (state now)) → Trusts (Untouched name) (state entry) (state now)
  read_untouched now rests synced =
      opened call picks made rests synced (λ told image text was. laws.only_now mid image text told was) (laws.tells_shown now)
      (λ told start image text le left. laws.counts_now now start image text told le left)

  -- a flow was read of it
  pub flow_read : {A F : Type 0} (kept_of : A → List (List ℕ)) (r : Result (K × A) (K × F)) → Trusts Rests (state mid) (state (desk_read r))
      → (IsTrue (state (desk_read r)).tells → IsSynced (state mid) (state (desk_read r)))
      → IfOk r (λ found. IsTrue (state found.0).tells → HasSynced (state mid) (state found.0))
      → IfOk r (λ found. HasFlow (IsTrue (state found.0).tells) (old_in (bytes_now (state mid))) (kept_of found.1))
      → IfOk r (λ found. Trusts (IsRead name (kept_of found.1)) (state entry) (state found.0))
  flow_read kept_of (Err back) rests synced at_sync flow = tt
  flow_read kept_of (Ok found) rests synced at_sync flow = record {
    falls = λ told. call.falls (rests.falls told);
    does = record {
      on_disk = read_on_disk found.0 rests;
      untouched = (read_untouched found.0 rests synced).does;
      set = (open_set call picks rests at_sync (read_untouched found.0 rests synced)).does.set;
      left = λ told other image leaves.
          ⊎_elim (λ was. inl was) (λ missing. inr missing.2) (made (rests.falls told) other image ((rests.does.files told).leaves other image leaves));
      flow = record {
        plan = flow.plan;
        past = flow.past;
        kept_are = flow.kept_are;
        holds = λ told. subst (λ (b : List ℕ). HoldsFlow flow.plan flow.past (old_in b)) (picked_bytes (picks (rests.falls told))) (flow.holds told);
        legal = flow.legal;
      };
    };
  }

  -- or none was
  pub none_read : {A : Type 0} (r : Result (K × A) (K × OldFault)) → Trusts Rests (state mid) (state (desk_read r))
      → (IsTrue (state (desk_read r)).tells → IsSynced (state mid) (state (desk_read r)))
      → IfErr r (λ back. IsTrue (state back.0).tells → RefusesOld back.1 (old_in (bytes_now (state mid))))
      → IfErr r (λ back. back.1 ≡ fault.Disk → Rises (state mid).disk_faults (state back.0).disk_faults)
      → IfErr r (λ back. Trusts (IsUnread name back.1) (state entry) (state back.0))
  none_read (Ok found) rests synced refused cause = tt
  none_read (Err back) rests synced refused cause = record {
    falls = λ told. call.falls (rests.falls told);
    does = record {
      on_disk = read_on_disk back.0 rests;
      untouched = (read_untouched back.0 rests synced).does;
      refused = λ told. subst (λ (b : List ℕ). RefusesOld back.1 (old_in b)) (picked_bytes (picks (rests.falls told))) (refused told);
      cause = λ is. rises_later (state entry).disk_faults (state mid).disk_faults (state back.0).disk_faults call.does.disk_faults (cause is);
    };
  }

-- it wasn't picked, since the disk failed or memory ran out
pub not_picked : {name : List ℕ} {entry now : DeskState} {during : Pairs} (why : OldFault) → ((found : Recovered) → RefusesOld why found) → Trusts (OnDisk during) entry now
    → (IsTrue now.tells → PicksNone name entry now) → (why ≡ fault.Disk → Rises entry.disk_faults now.disk_faults) → Trusts (IsUnread name why) entry now
not_picked {name} {entry} why says_nothing call none cause = record {
  falls = call.falls;
  does = record {
    on_disk = on_disk_within call.does (λ told image text left. tt);
    untouched = (unpicked call none).does;
    refused = λ told. says_nothing (old_at entry name);
    cause = cause;
  };
}

-- what was read before the desk told less
pub read_lowered : {name : List ℕ} {kept : List (List ℕ)} {entry mid : DeskState} (end : DeskState) → (IsTrue end.tells → IsTrue mid.tells) → IsRead name kept entry mid
    → IsRead name kept (told_as end entry) (told_as end mid)
read_lowered {name} {kept} {entry} {mid} end falls r = record {
  on_disk = on_disk_lowered end before r.on_disk;
  untouched = untouched_lowered end falls r.untouched;
  set = λ told. set_lowered end (r.set (before told));
  left = λ told. r.left (before told);
  flow = record { plan = r.flow.plan; past = r.flow.past; kept_are = r.flow.kept_are; holds = λ told. r.flow.holds (before told); legal = r.flow.legal };
}
  where
    before : IsTrue end.tells → IsTrue entry.tells
    before told = subst IsTrue r.on_disk.tells (falls told)
