-- How the command that serves a board ends.
use Rattle.std.proofs.Common.{◌≡◌, ◌≢◌, ◌⊎◌, ◌<◌, ◌≤◌, ℕ, zero, suc, List, [], ◌∷◌, length, map, drop, slice_get, slice_index_or, Option, Some, None, Result, refl, sym, ap, subst, ◌∙◌, inl, inr, ⊎_elim, arith}
use Rattle.std.proofs.lemmas.Option.{slice_get_within}
use Rattle.std.proofs.lemmas.List.{length-map}
use Rattle.std.specs.Prelude.{IfSome, IsTrue, unwrap_or}
use Rattle.std.specs.List.{All}
use Rattle.tf_numbers.specs.Numbers.{Rises}
use Rattle.tf_desk.specs.Crash.{ShowsPrefix}
use Rattle.tf_desk.specs.State.{DeskState, anything, MayLeave, told_as, OnDisk, Says}
use Rattle.tf_desk.proofs.CountLemmas.{rises_later}
use Rattle.tf_desk.proofs.StateLemmas.{on_disk_on, on_disk_told}
use Rattle.tf_journal.specs.Start.{IsSet, Path, file_of}
use Rattle.tf_journal.proofs.PathLemmas.{as_read, path_on, path_said, set_on, set_start}
use Rattle.tf_journal.specs.declared.faults.LoadFault.{LoadFault}
use Rattle.tf_report.specs.Closing.{ClosesWith, ClosesWithOrStops}
use Rattle.tf_report.specs.declared.statuses.TheConstants.{DISK_FAILED, NO_BOOK, UNHIRED, UNSAID, OUT_OF_MEMORY}
use Rattle.tf_report.proofs.ClosingLemmas.{closes_from, ends_status}
use Rattle.tf_board.specs.Board.{AreOfBoard, BoardValue, IsOpened, IsUnopened, LeavesBoard, board_in, size_of}
use Rattle.tf_board.specs.Does.{Concludes, Ends, EndsUnmade, HasCauses, HoldsEither, IsBoard, IsBoardComplete, Reached, without_memory, without_disk, no_board}
use Rattle.tf_board.specs.declared.commands.Command.{Command}
use Rattle.tf_board.proofs.ActLemmas.{reached_back}
use Rattle.tf_board.proofs.DeskLaws.{KeepsLaws}
use Rattle.tf_board.proofs.EndLemmas.{causes_so, concludes_none, concludes_said, opened_reached, reached_ends, reached_stops, unopened_ends, unopened_stops}
use Rattle.tf_board.proofs.ToldLemmas.{told_to_end}
use Rattle.tf_ports.specs.Ports.{DoorTold, SeenLink, opened_at}
use Rattle.tf_ports.specs.declared.crews.Address.{Address}
use Rattle.tf_shared_board.specs.Shared.{followed_by, HasCause, IsShared, IsUnrecorded, LeavesSome, SharedValue, HaltsFor, halt_status}
use Rattle.tf_shared_board.specs.declared.calls.BoardHalt.{BoardHalt}
use Rattle.tf_shared_board.specs.declared.calls.BoardHalt.TheVariants as halt
use Rattle.tf_shared_board.specs.declared.calls.Made.{Made}
use Rattle.tf_shared_board.proofs.HaltLemmas.{cause_told}
use Rattle.tf_board_service.specs.Sessions.{AreServedOver, GivesBack, HaltsWith, gave_links, took_links, service_text, HasServiceCauses, IsServiceStatus, is_served, is_failed, is_no_board, is_unsaid, is_unlistened, is_out, is_full, KeepsCalls, LeavesCalls, SaysOrStops, ServesBoard, unopened, exhausted, opened_in_vain, unlistened, served, was_said, was_stopped, IsServed}
use Rattle.tf_values.specs.declared.faults.Memory.{Memory}
use Rattle.tf_board_service.specs.Serving.{IsServing, made_since}
use Rattle.tf_board_service.specs.declared.sessions.Session.{Session}
use Rattle.tf_board_service.proofs.DoorLemmas.{vain_back}

-- ---- what is said

module _ {K : Type 0} (state : K → DeskState) where
  -- where a board couldn't be opened
  pub unmade_so : (name : List ℕ) (fault : LoadFault) (entry : DeskState) (mid now : K) (message : List ℕ) (wanted status : ℕ) → IsUnopened name fault entry (state mid)
      → SaysOrStops state message wanted mid now status → EndsUnmade name entry (state now) message wanted status
  unmade_so name fault entry mid now message wanted status u (was_stopped is same) =
      subst (λ (k : K). EndsUnmade name entry (state k) message wanted status) (sym same) (unopened_stops u is)
  unmade_so name fault entry mid now message wanted status u (was_said text closes) = unopened_ends u closes text

  -- what is known of the desk after it
  pub concludes_so : (mid now : K) (message : List ℕ) (wanted status : ℕ) → wanted ≢ UNSAID → (status ≡ UNSAID → wanted ≢ UNSAID → Rises (state mid).out_faults (state now).out_faults)
      → SaysOrStops state message wanted mid now status → Concludes (state mid) (state now) status
  concludes_so mid now message wanted status apart rose (was_stopped is same) =
      subst (λ (k : K). Concludes (state mid) (state k) status) (sym same) (concludes_none status (λ unsaid. let no = sym is ∙ unsaid in cc))
  concludes_so mid now message wanted status apart rose (was_said text closes) = concludes_said status text (λ is. rose is apart)

  -- which shown text is left
  pub closes_so : (mid now : K) (before : Option (List ℕ)) (message : List ℕ) (wanted status : ℕ) → (state mid).shown ≡ before → SaysOrStops state message wanted mid now status
      → ClosesWithOrStops before message wanted (state now).shown status
  closes_so mid now before message wanted status quiet (was_stopped is same) = inl (is, ap (λ (k : K). (state k).shown) same ∙ quiet)
  closes_so mid now before message wanted status quiet (was_said text closes) = inr (closes_from quiet closes)

  -- ---- nothing was served

  module _ (name : List ℕ) (entry : DeskState) (board : BoardValue K) (o : IsOpened state name entry board) (desk : K) (back : desk ≡ board.journal.desk) where
    back_reached : Reached name board.past [] board.past entry (state desk)
    back_reached = reached_back state name entry back (opened_reached state name entry board o)

    pub vain_ends : (now : DeskState) (message : List ℕ) (wanted status : ℕ) → ClosesWith (state desk).shown message wanted now.shown status → Says message (state desk) now
        → Ends name board.past [] board.past entry now message wanted status
    vain_ends now message wanted status closes text = reached_ends back_reached closes text

    pub vain_stops : (message : List ℕ) (wanted status : ℕ) → status ≡ OUT_OF_MEMORY → Ends name board.past [] board.past entry (state desk) message wanted status
    vain_stops message wanted status is = reached_stops back_reached is

    -- memory ran out before any session began, and the links were given back
    pub vain_over : (address : Address) (count : ℕ) (first mid last : DoorTold) (links : List SeenLink) (result : Result (Unit {0}) Memory) → length links ≡ count
        → mid ≡ gave_links (opened_at first address) links → GivesBack links mid last result → ServesBoard name address count first last entry (state desk) OUT_OF_MEMORY
    vain_over address count first mid last links result many gave g =
        exhausted board.past o.fresh.legal o.found refl
        (opened_in_vain (vain_back count links (opened_at first address) mid last result ⊥ (omega (arith, many)) gave g (λ none given all. absurd none)))
        (vain_stops [] OUT_OF_MEMORY OUT_OF_MEMORY refl)

    -- nothing but a text of such a status
    pub vain_causes : (now : DeskState) (status : ℕ) → Concludes (state desk) now status → status ≢ DISK_FAILED → HasCauses entry now status
    vain_causes now status c never = causes_so (subst (λ (k : K). OnDisk anything entry (state k)) (sym back) o.on_disk) c (λ is. absurd (never is))

-- what was said ends with its status, and so not with this one
pub said_apart : (status wanted other : ℕ) → (status ≢ UNSAID → status ≡ wanted) → other ≢ UNSAID → wanted ≢ other → status ≢ other
said_apart status wanted other by seven apart = λ is. apart (sym (by (λ unsaid. seven (sym is ∙ unsaid))) ∙ is)

-- a status that isn't that of a text which couldn't be said, and not that of want of memory, is the one that was asked for
pub asked_status : (status wanted other : ℕ) → (status ≢ UNSAID → (status ≡ wanted) ⊎ (status ≡ OUT_OF_MEMORY)) → other ≢ UNSAID → other ≢ OUT_OF_MEMORY → status ≡ other → wanted ≡ other
asked_status status wanted other by apart out is =
    ⊎_elim (λ same. sym same ∙ is) (λ stopped. absurd (out (sym is ∙ stopped))) (by (λ unsaid. apart (sym is ∙ unsaid)))

-- ---- what the file has

-- the file of a name reads as before, where no file changed
file_stays : (name : List ℕ) (old new : DeskState) → new.content.files ≡ old.content.files → file_of new name ≡ file_of old name
file_stays name old new same = ap (λ (files : List ℕ → Option (List ℕ)). unwrap_or (files name) []) same

module _ {K : Type 0} (state : K → DeskState) (name : List ℕ) (entry : DeskState) (board : BoardValue K) (o : IsOpened state name entry board) (laws : KeepsLaws state)
    (new : BoardValue K) (made : List Made) (halted : Option BoardHalt) (shared : IsShared state record { start = board; board = new; made = made; halt = halted }) where
  abbrev HasCalls : List ℕ → Type 0
  HasCalls image = HoldsEither shared.file.pending (followed_by board.past made) (board_in image)

  told_then : IsTrue entry.tells → IsTrue (state board.journal.desk).tells
  told_then told = on_disk_told o.on_disk told

  set_now : IsTrue entry.tells → IsSet name entry (state new.journal.desk)
  set_now told = set_on (o.set told) (shared.goes.files (told_then told)).picked (shared.goes.on_disk.marks (told_then told))

  has_calls : IsTrue entry.tells → (image : List ℕ) → MayLeave (state new.journal.desk) image → HasCalls image
  has_calls told image left =
      let start = set_start (o.set told) in
      subst (λ (l : List Command). HoldsEither shared.file.pending l (board_in image)) shared.begins
      (shared.file.leaves (told_then told) (λ then_image then_left. (o.path told).still start.0 start.1 then_image then_left) image left)

  path_now : IsTrue entry.tells
      → Path name entry (state new.journal.desk) (λ image text. LeavesBoard board.past entry image text ⊎ LeavesSome board.past made shared.file.pending entry image text) HasCalls
  path_now told =
      path_on (o.path told) (o.set told) (shared.file.crash.files (told_then told)) (shared.file.crash.on_disk.marks (told_then told)) (shared.file.crash.on_disk.crash (told_then told))
      (λ image text before. inl before) (λ image text left. inr (left.0, sym o.on_disk.shown ∙ left.1)) (has_calls told)

  file_now : IsTrue entry.tells → HasCalls (file_of (state new.journal.desk) name)
  file_now told =
      let told_now : IsTrue (state new.journal.desk).tells = on_disk_told shared.goes.on_disk (told_then told) in
      has_calls told (file_of (state new.journal.desk) name)
      (as_read (state new.journal.desk) (set_now told).picked (λ picked. laws.picked_is_there new.journal.desk name told_now picked) (λ bytes has. laws.reads_left new.journal.desk name bytes told_now has)).0

  is_pending : IsUnrecorded halted (followed_by board.past made) shared.file.pending
  is_pending = subst (λ (l : List Command). IsUnrecorded halted l shared.file.pending) shared.begins shared.file.is_pending

  keeps_by : (desk now : K) (message : List ℕ) (wanted status : ℕ) → desk ≡ new.journal.desk → SaysOrStops state message wanted new.journal.desk now status → IsTrue entry.tells
      → KeepsCalls name board.past made halted entry (state now) message
  keeps_by desk now message wanted status back (was_stopped is same) told =
      subst (λ (k : K). KeepsCalls name board.past made halted entry (state k) message) (sym same)
      (record {
        pending = shared.file.pending;
        is_pending = is_pending;
        file = file_now told;
        others = (path_now told).others;
        crash = λ moment start image text leaves. inl ((path_now told).crash moment start image text leaves);
      })
  keeps_by desk now message wanted status back (was_said text closes) told =
      let told_now : IsTrue (state new.journal.desk).tells = on_disk_told shared.goes.on_disk (told_then told) in
      let quiet : (state new.journal.desk).shown ≡ entry.shown = shared.goes.on_disk.shown ∙ o.on_disk.shown in
      let path : Path name entry (state now) (LeavesCalls board.past made shared.file.pending entry message) HasCalls =
      path_said (path_now told) told_now text (λ image shown may. inl may)
      (λ image shown held prefix. inr (held, subst (λ (s : Option (List ℕ)). ShowsPrefix s message (Some shown)) quiet prefix)) in
      record {
        pending = shared.file.pending;
        is_pending = is_pending;
        file = subst HasCalls (sym (file_stays name (state new.journal.desk) (state now) (text.files told_now).files)) (file_now told);
        others = path.others;
        crash = path.crash;
      }

  -- what the file has where sessions were over and this was said
  pub keeps_so : (desk now : K) (message : List ℕ) (wanted status : ℕ) → desk ≡ new.journal.desk → SaysOrStops state message wanted desk now status → IsTrue entry.tells
      → KeepsCalls name board.past made halted entry (state now) message
  keeps_so desk now message wanted status back said told =
      keeps_by desk now message wanted status back (subst (λ (k : K). SaysOrStops state message wanted k now status) back said) told

  -- why it was halted
  pub halts_for : (desk now : K) (message : List ℕ) (wanted status : ℕ) → desk ≡ new.journal.desk → SaysOrStops state message wanted desk now status
      → IfSome halted (HaltsFor (followed_by board.past made) entry (state now))
  halts_for desk now message wanted status back said =
      cause_told state board new (followed_by board.past made) entry (state now) (shared.sized o.fresh.sized ∙ ap size_of shared.begins) (rose said) halted shared.cause
    where
      rose : SaysOrStops state message wanted desk now status → Rises (state board.journal.desk).disk_faults (state new.journal.desk).disk_faults → Rises entry.disk_faults (state now).disk_faults
      rose (was_stopped is same) rises =
          subst (λ (k : K). Rises entry.disk_faults (state k).disk_faults) (sym (same ∙ back)) (rises_later entry.disk_faults (state board.journal.desk).disk_faults (state new.journal.desk).disk_faults o.on_disk.disk_faults rises)
      rose (was_said text closes) rises =
          subst (λ (n : ℕ). Rises entry.disk_faults n) (sym (text.disk_faults ∙ ap (λ (k : K). (state k).disk_faults) back))
          (rises_later entry.disk_faults (state board.journal.desk).disk_faults (state new.journal.desk).disk_faults o.on_disk.disk_faults rises)

  -- which faults its status tells
  pub served_causes : (desk now : K) (status : ℕ) → desk ≡ new.journal.desk → Concludes (state desk) (state now) status → (status ≡ DISK_FAILED → halted ≡ Some halt.Disk) → HasCauses entry (state now) status
  served_causes desk now status back c failed =
      causes_so (subst (λ (k : K). OnDisk anything entry (state k)) (sym back) (on_disk_on o.on_disk shared.goes.on_disk (λ told image text left. tt) (λ told image text left. tt))) c
      (λ is. subst (λ (k : K). Rises entry.disk_faults (state k).disk_faults) (sym back)
      (rises_later entry.disk_faults (state board.journal.desk).disk_faults (state new.journal.desk).disk_faults o.on_disk.disk_faults
      (subst (λ (h : Option BoardHalt). IfSome h (HasCause state board new)) (failed is) shared.cause)))

-- a board that is halted so has this status
pub failed_halt : (halted : Option BoardHalt) → halt_status halted ≡ DISK_FAILED → halted ≡ Some halt.Disk
failed_halt None is = absurd (cc)
failed_halt (Some halt.Disk) is = refl
failed_halt (Some (halt.Full size need)) is = absurd (cc)
failed_halt (Some halt.Memory) is = absurd (cc)

pub halt_apart : (halted : Option BoardHalt) → halt_status halted ≢ UNSAID
halt_apart None = λ is. cc
halt_apart (Some halt.Disk) = λ is. cc
halt_apart (Some (halt.Full size need)) = λ is. cc
halt_apart (Some halt.Memory) = λ is. cc

pub halt_listened : (halted : Option BoardHalt) → halt_status halted ≢ UNHIRED
halt_listened None = λ is. cc
halt_listened (Some halt.Disk) = λ is. cc
halt_listened (Some (halt.Full size need)) = λ is. cc
halt_listened (Some halt.Memory) = λ is. cc

-- ---- what is told to the end

pub serves_to_end : {name : List ℕ} {address : Address} {count : ℕ} {old new : DoorTold} (entry mid : DeskState) {now : DeskState} {status : ℕ} → now.tells ≡ mid.tells
    → ServesBoard name address count old new (told_as mid entry) now status → ServesBoard name address count old new (told_as now entry) now status
serves_to_end {name} {address} {count} {old} {new} entry mid {now} {status} same serves =
    subst (λ (s : DeskState). ServesBoard name address count old new s now status) (told_to_end entry mid now same) serves

-- ---- statuses

-- what closed with one of the statuses ends with one
closes_status : {before after : Option (List ℕ)} {message : List ℕ} {wanted status : ℕ} → ClosesWithOrStops before message wanted after status → IsServiceStatus wanted → IsServiceStatus status
closes_status {before} {after} {message} {wanted} {status} closes one =
    ⊎_elim (λ out. is_out out) (λ others. ⊎_elim (λ same. subst IsServiceStatus (sym same) one) (λ unsaid. is_unsaid unsaid) others) (ends_status before after message wanted status closes)

-- the status of a halt is one
halt_one : (halted : Option BoardHalt) → IsServiceStatus (halt_status halted)
halt_one None = is_served refl
halt_one (Some halt.Disk) = is_failed refl
halt_one (Some (halt.Full size need)) = is_full refl
halt_one (Some halt.Memory) = is_out refl

-- it ends with one of its statuses
pub service_status : {name : List ℕ} {address : Address} {count : ℕ} {old new : DoorTold} {entry now : DeskState} {status : ℕ} → ServesBoard name address count old new entry now status → IsServiceStatus status
service_status (unopened same (without_memory is e)) = is_out is
service_status (unopened same (without_disk e)) = closes_status e.closes (is_failed refl)
service_status (unopened same (no_board offset byte none still e)) = closes_status e.closes (is_no_board refl)
service_status (exhausted past legal has is vain e) = is_out is
service_status (unlistened past legal has vain e) = closes_status e.closes (is_unlistened refl)
service_status (served past legal has s) = closes_status s.closes (halt_one s.halted)

complete_one : (status : ℕ) → IsServiceStatus status → ¬ (status ≡ DISK_FAILED) → ¬ (status ≡ NO_BOOK) → ¬ (status ≡ UNSAID) → ¬ (status ≡ UNHIRED) → IsBoardComplete status
complete_one status (is_served is) sound board sayable linked = inl is
complete_one status (is_failed is) sound board sayable linked = absurd (sound is)
complete_one status (is_no_board is) sound board sayable linked = absurd (board is)
complete_one status (is_unsaid is) sound board sayable linked = absurd (sayable is)
complete_one status (is_unlistened is) sound board sayable linked = absurd (linked is)
complete_one status (is_out is) sound board sayable linked = inr (inl is)
complete_one status (is_full is) sound board sayable linked = inr (inr is)

-- where the file is a board, the status isn't that of none
apart_no_board : {before after : Option (List ℕ)} {message : List ℕ} {wanted status : ℕ} → ClosesWithOrStops before message wanted after status → wanted ≢ NO_BOOK → ¬ (status ≡ NO_BOOK)
apart_no_board {before} {after} {message} {wanted} {status} closes apart =
    λ is. ⊎_elim (λ out. let no = sym out ∙ is in cc) (λ others. ⊎_elim (λ same. apart (sym same ∙ is)) (λ unsaid. let no = sym unsaid ∙ is in cc) others) (ends_status before after message wanted status closes)

halt_no_board : (halted : Option BoardHalt) → halt_status halted ≢ NO_BOOK
halt_no_board None = λ is. cc
halt_no_board (Some halt.Disk) = λ is. cc
halt_no_board (Some (halt.Full size need)) = λ is. cc
halt_no_board (Some halt.Memory) = λ is. cc

-- what met no fault was served, or memory ran out, or the board is full
pub serves_complete : {name : List ℕ} {address : Address} {count : ℕ} {old new : DoorTold} {entry now : DeskState} {status : ℕ} → ServesBoard name address count old new entry now status → IsTrue entry.tells
    → IsBoard (board_in (file_of entry name)) → ¬ (status ≡ DISK_FAILED) → ¬ (status ≡ UNSAID) → ¬ (status ≡ UNHIRED) → IsBoardComplete status
serves_complete (unopened same (without_memory is e)) told board sound sayable linked = inr (inl is)
serves_complete {status = status} (unopened same (without_disk e)) told board sound sayable linked =
    complete_one status (closes_status e.closes (is_failed refl)) sound (apart_no_board e.closes (λ is. cc)) sayable linked
serves_complete (unopened same (no_board offset byte none still e)) told board sound sayable linked = absurd (board offset byte (none told))
serves_complete (exhausted past legal has is vain e) told board sound sayable linked = inr (inl is)
serves_complete {status = status} (unlistened past legal has vain e) told board sound sayable linked =
    complete_one status (closes_status e.closes (is_unlistened refl)) sound (apart_no_board e.closes (λ is. cc)) sayable linked
serves_complete {status = status} (served past legal has s) told board sound sayable linked =
    complete_one status (closes_status s.closes (halt_one s.halted)) sound (apart_no_board s.closes (halt_no_board s.halted)) sayable linked

-- ---- sessions

-- what stands at a place of a list stands there whatever stands for one past its end
at_place : {X : Type 0} (xs : List X) (i : ℕ) (x d : X) → slice_get xs i ≡ Some x → slice_index_or xs i d ≡ x
at_place [] i x d is = absurd (cc)
at_place (y ∷ xs) zero x d is = cc
at_place (y ∷ xs) (suc i) x d is = at_place xs i x d is

-- what stands at a place of a mapped list
mapped_from : {X Y : Type 0} (f : X → Y) (xs : List X) (i : ℕ) (y : Y) → slice_get (map f xs) i ≡ Some y → (x : X) × (slice_get xs i ≡ Some x) × (f x ≡ y)
mapped_from f [] i y is = absurd (cc)
mapped_from f (x ∷ xs) zero y is = (x, refl, cc)
mapped_from f (x ∷ xs) (suc i) y is = mapped_from f xs i y is

module _ {L : Type 0} (see : L → SeenLink) (first : ℕ) (past : List Command) (made : List Made) (old new : List L) (sessions : List Session)
    (all : (i : ℕ) (d : L) (s : Session) → i < length old → IsServed i first past made (see (slice_index_or old i d)) (see (slice_index_or new i d)) (slice_index_or sessions i s)) where
  -- each session, by what is seen of its link
  pub each_served : (i : ℕ) (g r : SeenLink) (s : Session) → slice_get (map see old) i ≡ Some g → slice_get (map see new) i ≡ Some r → slice_get sessions i ≡ Some s → IsServed i first past made g r s
  each_served i g r s gave back over =
      let a = mapped_from see old i g gave in
      let b = mapped_from see new i r back in
      let had = all i a.0 s (slice_get_within old i a.0 a.1) in
      subst (λ (l : SeenLink). IsServed i first past made l r s) (ap see (at_place old i a.0 a.0 a.1) ∙ a.2)
      (subst (λ (l : SeenLink). IsServed i first past made (see (slice_index_or old i a.0)) l s) (ap see (at_place new i b.0 a.0 b.1) ∙ b.2)
      (subst (λ (o : Session). IsServed i first past made (see (slice_index_or old i a.0)) (see (slice_index_or new i a.0)) o) (at_place sessions i s s over) had))

-- ---- sessions that were served from a board

module _ {K L : Type 0} (state : K → DeskState) (see : L → SeenLink) (board : BoardValue K) (begun shared : SharedValue K) (is_begun : begun ≡ record { start = board; board = board; made = []; halt = None })
    (serving : IsServing state record { begun = begun; now = shared }) (is_shared : IsShared state shared) where
  calls_are : made_since begun shared ≡ shared.made
  calls_are = ap (λ (b : SharedValue K). drop (length b.made) shared.made) is_begun

  shared_since : IsShared state record { start = board; board = shared.board; made = shared.made; halt = shared.halt }
  shared_since =
      subst (λ (b : BoardValue K). IsShared state record { start = b; board = shared.board; made = shared.made; halt = shared.halt })
      (serving.start ∙ ap (λ (b : SharedValue K). b.start) is_begun) is_shared

  module _ (old new : List L) (sessions : List Session) (legal : AreOfBoard shared.board.past) (numbers : All (λ m. m.number < length old) (made_since begun shared)) (links : length new ≡ length old)
      (as_many : length sessions ≡ length old) (each : (i : ℕ) (d : L) (s : Session) → i < length old
      → IsServed i (length begun.board.past) shared.board.past (made_since begun shared) (see (slice_index_or old i d)) (see (slice_index_or new i d)) (slice_index_or sessions i s)) where
    each_since : (i : ℕ) (d : L) (s : Session) → i < length old
        → IsServed i (length board.past) (followed_by board.past shared.made) shared.made (see (slice_index_or old i d)) (see (slice_index_or new i d)) (slice_index_or sessions i s)
    each_since i d s below =
        subst (λ (b : SharedValue K). IsServed i (length b.board.past) (followed_by board.past shared.made) shared.made (see (slice_index_or old i d)) (see (slice_index_or new i d)) (slice_index_or sessions i s)) is_begun
        (subst (λ (past : List Command). IsServed i (length begun.board.past) past shared.made (see (slice_index_or old i d)) (see (slice_index_or new i d)) (slice_index_or sessions i s)) shared_since.begins
        (subst (λ (calls : List Made). IsServed i (length begun.board.past) shared.board.past calls (see (slice_index_or old i d)) (see (slice_index_or new i d)) (slice_index_or sessions i s)) calls_are (each i d s below)))

    numbers_since : All (λ m. m.number < length (map see old)) shared.made
    numbers_since =
        let had : All (λ m. m.number < length old) shared.made = subst (λ (calls : List Made). All (λ m. m.number < length old) calls) calls_are numbers in
        λ k d below. omega (arith, had k d below, length-map old see)

    over_links : AreServedOver board.past shared.made (map see old) (map see new) sessions
    over_links = record {
      legal = subst AreOfBoard shared_since.begins legal;
      about = shared_since.about;
      numbers = numbers_since;
      links = omega (arith, links, length-map old see, length-map new see);
      as_many = omega (arith, as_many, length-map old see);
      each = each_served see (length board.past) (followed_by board.past shared.made) shared.made old new sessions each_since;
    }

    -- the command served its sessions
    pub serves_over : (name : List ℕ) (address : Address) (count : ℕ) (entry : DeskState) (o : IsOpened state name entry board) (laws : KeepsLaws state) (first mid last : DoorTold) (result : Result (Unit {0}) Memory)
        (desk now : K) (status : ℕ) → length old ≡ count → mid ≡ gave_links (opened_at first address) (map see old) → (g : GivesBack (map see new) mid last result)
        → (g.back ≡ map see new) ⊎ (status ≡ OUT_OF_MEMORY) → HaltsWith shared.halt sessions → desk ≡ shared.board.journal.desk
        → SaysOrStops state (service_text sessions shared.halt) (halt_status shared.halt) desk now status → ServesBoard name address count first last entry (state now) status
    serves_over name address count entry o laws first mid last result desk now status many gave g gave_back halts back said =
        served board.past o.fresh.legal o.found (record {
          made = shared.made;
          given = map see old;
          returned = map see new;
          back = g.back;
          sessions = sessions;
          halted = shared.halt;
          many = omega (arith, many, length-map old see);
          door = g.now ∙ ap (λ (d : DoorTold). took_links d g.back) gave;
          gave_back = ⊎_elim (λ all. inl all) (λ out. inr (out, omega (arith, g.few, links, length-map old see, length-map new see))) gave_back;
          served_over = over_links;
          halts = halts;
          cause = halts_for state name entry board o laws shared.board shared.made shared.halt shared_since desk now (service_text sessions shared.halt) (halt_status shared.halt) status back said;
          closes = closes_so state desk now entry.shown (service_text sessions shared.halt) (halt_status shared.halt) status (quiet back) said;
          keeps = keeps_so state name entry board o laws shared.board shared.made shared.halt shared_since desk now (service_text sessions shared.halt) (halt_status shared.halt) status back said;
        })
      where
        quiet : desk ≡ shared.board.journal.desk → (state desk).shown ≡ entry.shown
        quiet same = ap (λ (k : K). (state k).shown) same ∙ shared_since.goes.on_disk.shown ∙ o.on_disk.shown

  -- which faults its status tells
  pub serves_causes : (name : List ℕ) (entry : DeskState) (o : IsOpened state name entry board) (laws : KeepsLaws state) (desk now : K) (status : ℕ) → desk ≡ shared.board.journal.desk → Concludes (state desk) (state now) status
      → (status ≡ DISK_FAILED → shared.halt ≡ Some halt.Disk) → HasCauses entry (state now) status
  serves_causes name entry o laws desk now status back c failed = served_causes state name entry board o laws shared.board shared.made shared.halt shared_since desk now status back c failed

  -- what the status tells of the desk and of the door, where this was said
  pub causes_over : (name : List ℕ) (entry : DeskState) (o : IsOpened state name entry board) (laws : KeepsLaws state) (desk now : K) (message : List ℕ) (status door_then door_now : ℕ) → desk ≡ shared.board.journal.desk
      → SaysOrStops state message (halt_status shared.halt) desk now status
      → (status ≡ UNSAID → halt_status shared.halt ≢ UNSAID → Rises (state desk).out_faults (state now).out_faults)
      → (status ≢ UNSAID → (status ≡ halt_status shared.halt) ⊎ (status ≡ OUT_OF_MEMORY)) → door_then ≤ door_now → HasServiceCauses entry (state now) door_then door_now status
  causes_over name entry o laws desk now message status door_then door_now back said rose by door = record {
    desk = serves_causes name entry o laws desk now status back (concludes_so state desk now message (halt_status shared.halt) status (halt_apart shared.halt) rose said)
        (λ is. failed_halt shared.halt (asked_status status (halt_status shared.halt) DISK_FAILED by (λ no. cc) (λ no. cc) is));
    door = door;
    unlistened = λ is. absurd (halt_listened shared.halt (asked_status status (halt_status shared.halt) UNHIRED by (λ no. cc) (λ no. cc) is));
  }
