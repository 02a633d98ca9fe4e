-- The counts of faults on the way through a command on a book.
use Rattle.std.proofs.Common.{◌≡◌, ◌≢◌, ◌⊎◌, ℕ, ◌≤◌, List, Option, sym, ◌∙◌, inl, inr, ⊎_elim, refl, arith}
use Rattle.tf_numbers.specs.Numbers.{Rises}
use Rattle.tf_desk.specs.Crash.{Pairs}
use Rattle.tf_desk.specs.State.{DeskState, Trusts, Rests, GoesOn, Continues}
use Rattle.tf_journal.specs.Start.{Untouched, Open}
use Rattle.tf_flow.specs.Plan.{PlanValue}
use Rattle.tf_details.specs.Elements.{Element}
use Rattle.tf_book.specs.declared.faults.BookFault.{BookFault}
use Rattle.tf_book.specs.declared.faults.BookFault.TheVariants as fault
use Rattle.tf_book.specs.declared.faults.Halt.TheVariants as halt
use Rattle.tf_commands.specs.Begun.{cause_in, FailsToBegin}
use Rattle.tf_commands.specs.Books.{Unopened, exhausted, disk_failed_opening, old_book, no_book, Unfound, unopened_book, empty, not_there, HasSaid}
use Rattle.tf_commands.specs.Asking.{HasEachCause, counts_of}
use Rattle.tf_commands.specs.Runs.{HasEnded, HasSaidHalt}
use Rattle.tf_report.specs.Closing.{ClosesWith}
use Rattle.tf_report.proofs.ClosingLemmas.{closes_status}
use Rattle.tf_report.specs.declared.statuses.TheConstants.{UNREAD, DISK_FAILED, NO_BOOK, OLD_BOOK, UNSAID, UNHIRED, OUT_OF_MEMORY, FORBIDDEN}
use Rattle.tf_desk.proofs.CountLemmas.{rises_later}

-- a count that rose and didn't fall since
pub rises_until : (a b c : ℕ) → Rises a b → b ≤ c → Rises a c
rises_until a b c rose le = omega (arith, le, rose)

-- what was reached without a word: no count fell, and the output had no fault
pub record Reaches (old mid : DeskState) : Type 0 where
  pub disk : old.disk_faults ≤ mid.disk_faults
  pub out : mid.out_faults ≡ old.out_faults
  pub asks : old.asks ≤ mid.asks

pub reaches_itself : {old : DeskState} → Reaches old old
reaches_itself = record { disk = omega arith; out = refl; asks = omega arith }

pub untouched_reaches : {name : List ℕ} {old mid : DeskState} → Trusts (Untouched name) old mid → old.asks ≤ mid.asks → Reaches old mid
untouched_reaches call asks = record { disk = call.does.disk; out = call.does.out; asks = asks }

pub open_reaches : {name : List ℕ} {old mid : DeskState} → Trusts (Open name) old mid → old.asks ≤ mid.asks → Reaches old mid
open_reaches call asks = record { disk = call.does.untouched.disk; out = call.does.untouched.out; asks = asks }

pub goes_reaches : {during : Pairs} {old mid : DeskState} → Trusts (GoesOn during) old mid → Reaches old mid
goes_reaches call = record { disk = call.does.on_disk.disk_faults; out = call.does.on_disk.out_faults; asks = omega (arith, call.does.on_disk.asks) }

pub rests_reaches : {old mid : DeskState} → Trusts Rests old mid → Reaches old mid
rests_reaches call = record { disk = call.does.on_disk.disk_faults; out = call.does.on_disk.out_faults; asks = omega (arith, call.does.on_disk.asks) }

-- a run went on from the desk that was reached
pub ran_causes : {status : ℕ} {old mid now : DeskState} {crew crew_now : ℕ} → Reaches old mid → Continues mid now → HasEnded mid now status → crew ≤ crew_now
    → (status ≢ UNREAD) × (status ≢ UNHIRED) → HasEachCause status (counts_of old 0 crew) (counts_of now 0 crew_now)
ran_causes {status} {old} {mid} {now} r c ended le apart = record {
  none_falls = record { disk = omega (arith, r.disk, c.extends.disk_faults); out = omega (arith, r.out, c.extends.out_faults); sources = omega arith; crew = le; asks = omega (arith, r.asks, c.extends.asks) };
  unread = λ is. absurd (apart.0 is);
  failed = λ is. rises_later old.disk_faults mid.disk_faults now.disk_faults r.disk (ended.failed is);
  unsaid = λ is. rises_later old.out_faults mid.out_faults now.out_faults (omega (arith, r.out)) (ended.unsaid is);
  unhired = λ is. absurd (apart.1 is);
}

-- a message closed the command on the desk that was reached
pub said_causes : {status : ℕ} {old mid now : DeskState} {crew crew_now : ℕ} → Reaches old mid → HasSaid mid now status → crew ≤ crew_now
    → (status ≡ DISK_FAILED → Rises old.disk_faults mid.disk_faults) → (status ≡ UNHIRED → Rises crew crew_now)
    → HasEachCause status (counts_of old 0 crew) (counts_of now 0 crew_now)
said_causes {status} {old} {mid} {now} r s le failed hired = record {
  none_falls = record { disk = omega (arith, r.disk, s.says.disk); out = omega (arith, r.out, s.says.out); sources = omega arith; crew = le; asks = omega (arith, r.asks, s.says.asks) };
  unread = λ is. absurd (s.read is);
  failed = λ is. rises_until old.disk_faults mid.disk_faults now.disk_faults (failed is) (omega (arith, s.says.disk));
  unsaid = λ is. rises_later old.out_faults mid.out_faults now.out_faults (omega (arith, r.out)) (s.unsaid is);
  unhired = hired;
}

-- ---- which statuses a command on a book can't have

-- a command that was closed with another status isn't one that hired nobody
closes_hired : (before after : Option (List ℕ)) (message : List ℕ) (wanted status : ℕ) → wanted ≢ UNHIRED → ClosesWith before message wanted after status → status ≢ UNHIRED
closes_hired before after message wanted status apart closes is =
    ⊎_elim (λ same. apart (sym same ∙ is)) (λ unsaid. omega (arith, is, unsaid)) (closes_status before after message wanted status closes)

-- what was said with this status, or not said
pub forbids_hired : (status : ℕ) → (status ≡ FORBIDDEN) ⊎ (status ≡ UNSAID) ⊎ (status ≡ OUT_OF_MEMORY) → (status ≢ UNHIRED) × (status ≢ DISK_FAILED)
forbids_hired status (inl is) = (λ other. omega (arith, is, other), λ other. omega (arith, is, other))
forbids_hired status (inr (inl is)) = (λ other. omega (arith, is, other), λ other. omega (arith, is, other))
forbids_hired status (inr (inr is)) = (λ other. omega (arith, is, other), λ other. omega (arith, is, other))

-- nor is one that couldn't open its book
pub unopened_hired : (name : List ℕ) (entry now : DeskState) (status : ℕ) → Unopened name entry now status → status ≢ UNHIRED
unopened_hired name entry now status (exhausted stops) is = let memory : status ≡ OUT_OF_MEMORY = stops.status_is in omega (arith, is, memory)
unopened_hired name entry now status (disk_failed_opening r) is = closes_hired entry.shown now.shown _ DISK_FAILED status (λ same. omega (arith, same)) r.closes is
unopened_hired name entry now status (old_book found r) is = closes_hired entry.shown now.shown _ OLD_BOOK status (λ same. omega (arith, same)) r.closes is
unopened_hired name entry now status (no_book offset byte found r) is = closes_hired entry.shown now.shown _ NO_BOOK status (λ same. omega (arith, same)) r.closes is

-- a book that couldn't be opened
pub refused_causes : {name : List ℕ} {entry other mid now : DeskState} {status : ℕ} → Reaches entry mid → HasSaid mid now status → (status ≡ DISK_FAILED → Rises entry.disk_faults mid.disk_faults)
    → Unopened name other now status → HasEachCause status (counts_of entry 0 0) (counts_of now 0 0)
refused_causes {name} {entry} {other} {mid} {now} {status} r s failed u = said_causes r s (omega arith) failed (λ is. absurd (unopened_hired name other now status u is))

-- the same causes, where the crew wasn't used
pub causes_beside : {status : ℕ} (entry now : DeskState) (crew : ℕ) → HasEachCause status (counts_of entry 0 0) (counts_of now 0 0) → status ≢ UNHIRED → HasEachCause status (counts_of entry 0 crew) (counts_of now 0 crew)
causes_beside entry now crew c hired = record {
  none_falls = record { disk = c.none_falls.disk; out = c.none_falls.out; sources = c.none_falls.sources; crew = omega arith; asks = c.none_falls.asks };
  unread = c.unread;
  failed = c.failed;
  unsaid = c.unsaid;
  unhired = λ is. absurd (hired is);
}

-- a new detail couldn't begin, and that was said
pub unbegun_causes : {K : Type 0} (state : K → DeskState) (elements : List Element) (plan : PlanValue) (why : BookFault) (old mid now : K) (status : ℕ) {during : Pairs} → Trusts (GoesOn during) (state old) (state mid)
    → FailsToBegin state elements plan why old mid → HasSaidHalt (cause_in why) (state mid) (state now) status → HasEachCause status (counts_of (state old) 0 0) (counts_of (state now) 0 0)
unbegun_causes state elements plan why old mid now status call fails s = record {
  none_falls = record { disk = omega (arith, call.does.on_disk.disk_faults, s.says.disk_faults); out = omega (arith, call.does.on_disk.out_faults, s.says.out_faults); sources = omega arith; crew = omega arith; asks = omega (arith, call.does.on_disk.asks, s.says.asks) };
  unread = λ is. absurd (s.apart.0 is);
  failed = λ is. (let rose : Rises (state old).disk_faults (state mid).disk_faults = disk_rose why fails (s.failed is) in omega (arith, rose, s.says.disk_faults));
  unsaid = λ is. (let rose : Rises (state mid).out_faults (state now).out_faults = ⊎_elim (λ out. absurd (never_out why fails out)) (λ rose. rose) (s.unsaid is) in omega (arith, rose, call.does.on_disk.out_faults));
  unhired = λ is. absurd (s.apart.1 is);
}
  where
    disk_rose : (f : BookFault) → FailsToBegin state elements plan f old mid → cause_in f ≡ halt.Disk → Rises (state old).disk_faults (state mid).disk_faults
    disk_rose fault.Disk failed is = failed
    disk_rose fault.Memory failed is = absurd (cc)
    disk_rose (fault.Full size need) failed is = absurd (cc)
    disk_rose fault.Out failed is = absurd failed
    disk_rose (fault.Halted cause) failed is = absurd failed

    never_out : (f : BookFault) → FailsToBegin state elements plan f old mid → cause_in f ≡ halt.Out → ⊥
    never_out fault.Disk failed is = cc
    never_out fault.Memory failed is = cc
    never_out (fault.Full size need) failed is = cc
    never_out fault.Out failed is = failed
    never_out (fault.Halted cause) failed is = failed

-- the causes of what came after the desk that was reached
pub causes_from : {status : ℕ} {old mid : DeskState} (now : DeskState) {crew crew_now : ℕ} → Reaches old mid → HasEachCause status (counts_of mid 0 crew) (counts_of now 0 crew_now) → HasEachCause status (counts_of old 0 crew) (counts_of now 0 crew_now)
causes_from {status} {old} {mid} now r c = record {
  none_falls = record { disk = omega (arith, r.disk, c.none_falls.disk); out = omega (arith, r.out, c.none_falls.out); sources = c.none_falls.sources; crew = c.none_falls.crew; asks = omega (arith, r.asks, c.none_falls.asks) };
  unread = c.unread;
  failed = λ is. rises_later old.disk_faults mid.disk_faults now.disk_faults r.disk (c.failed is);
  unsaid = λ is. rises_later old.out_faults mid.out_faults now.out_faults (omega (arith, r.out)) (c.unsaid is);
  unhired = c.unhired;
}

-- a flow that can't be had isn't one that hired nobody
pub unfound_hired : (name : List ℕ) (wanted : Option (List ℕ)) (entry now : DeskState) (status : ℕ) → Unfound name wanted entry now status → status ≢ UNHIRED
unfound_hired name wanted entry now status (unopened_book u) is = unopened_hired name entry now status u is
unfound_hired name wanted entry now status (empty found r) is = closes_hired entry.shown now.shown _ FORBIDDEN status (λ same. omega (arith, same)) r.closes is
unfound_hired name wanted entry now status (not_there elements sought asked found some none r) is = closes_hired entry.shown now.shown _ FORBIDDEN status (λ same. omega (arith, same)) r.closes is
