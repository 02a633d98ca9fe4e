-- What a status tells of the way that a command went.
use Rattle.std.proofs.Common.{◌≡◌, ◌⊎◌, ℕ, ◌≤◌, List, Some, None, false, inl, inr, refl, subst, arith, ⊎_elim}
use Rattle.tf_numbers.specs.Numbers.{Rises}
use Rattle.tf_desk.specs.State.{DeskState, told_as}
use Rattle.tf_ports.specs.Ports.{Contents}
use Rattle.tf_ports.specs.declared.crews.Want.{Want}
use Rattle.tf_ports.specs.declared.crews.Want.TheVariants as want
use Rattle.tf_actions.specs.declared.orders.Order.{Order}
use Rattle.tf_actions.specs.declared.outcomes.Outcome.{Outcome}
use Rattle.tf_words.specs.declared.asked.Asked.{Asked}
use Rattle.tf_words.specs.declared.asked.Asked.TheVariants as asked
use Rattle.tf_board.specs.Does.{IsBoardStatus}
use Rattle.tf_board.proofs.DoesLemmas.{does_status}
use Rattle.tf_board_service.specs.Sessions.{HasServiceCauses, IsServiceStatus}
use Rattle.tf_board_service.proofs.CommandLemmas.{service_status}
use Rattle.tf_commands.specs.Asking.{file_asked_for, book_asked_for, IsWork, Counts, HasEachCause, HasCausesOr, counts_of}
use Rattle.tf_words.specs.Words.{command_of}
use Rattle.tf_commands.specs.Behaviour as behaviour
use Rattle.tf_commands.specs.Behaviour.{PortsTold, Behaviour, Obeys, source_so, IsRefused, IsBoardRefused, IsOldBook}
use Rattle.tf_commands.specs.Books.{OnlySays}
use Rattle.tf_commands.specs.declared.reading.Source.{Source}
use Rattle.tf_commands.specs.Messages.{IsLogRefused, log_asked_for}
use Rattle.tf_commands.proofs.AuditLemmas.{audit_new, AuditStatus, audit_status, audit_usage, audit_refused, audit_unrefused, audit_log_refused}
use Rattle.tf_commands.proofs.ConductLemmas.{IsConductStatus, conduct_status, conduct_apart}
use Rattle.tf_commands.proofs.BoardLemmas.{board_apart, board_new, board_no_log, board_refuses}
use Rattle.tf_commands.proofs.EndLemmas.{Ended, is_complete, is_failed, is_no_book, is_unsaid, is_unhired, is_forbidden, is_suspended, is_old, IsOldFile, service_ended, works_ended, ended_apart, tries_ended, checks_ended, runs_ended, demonstrates_ended, resumes_ended, shows_ended, lists_ended, resets_ended, ended_unrefused, ended_no_log, ended_old}
use Rattle.tf_commands.proofs.MigrateLemmas.{migrates_ended}
use Rattle.tf_report.proofs.ClosingLemmas.{closes_status}
use Rattle.tf_commands.proofs.FileLemmas.{FileStatus, file_status, file_old, file_unrefused, file_usage, file_refused, file_no_log}
use Rattle.tf_commands.proofs.WorkLemmas.{works_one}

-- ---- what the words ask for

-- it is asked of a board
abbrev IsOfBoard : Asked → Type 0
IsOfBoard (asked.Board board request) = Unit {0}
IsOfBoard command = ⊥

-- old tells where status 16 comes from
data AskedStatus (old : Type 0) (command : Asked) (files : Contents) (status : ℕ) : Type 0 where
  by_file : (source : Source) → file_asked_for command ≡ Some source → FileStatus old files source status → AskedStatus old command files status
  by_log : (source : Source) (log : List ℕ) → file_asked_for command ≡ Some source → log_asked_for command ≡ Some log → AuditStatus files source log status → AskedStatus old command files status
  by_book : Ended old status → AskedStatus old command files status
  by_board : IsOfBoard command → IsBoardStatus status → AskedStatus old command files status
  by_jobs : IsConductStatus status → AskedStatus old command files status

status_usage : {old : Type 0} (command : Asked) (files : Contents) (status : ℕ) → AskedStatus old command files status → status ≡ 2 → ⊥
status_usage command files status (by_file source about is) two = file_usage files source status is two
status_usage command files status (by_log source log file about is) two = audit_usage files source log status is two
status_usage command files status (by_book ended) two = ended_apart status 2 ended two (inl refl)
status_usage command files status (by_board about ended) two = (board_apart status ended).0 two
status_usage command files status (by_jobs ended) two = conduct_apart status 2 ended two refl

status_refused : {old : Type 0} (words : List (List ℕ)) (files : Contents) (command : Asked) (status : ℕ) → command_of words ≡ Some command → AskedStatus old command files status → status ≡ 4 → IsRefused words files
status_refused words files command status asks (by_file source about is) four = file_refused words files command source status asks about is four
status_refused words files command status asks (by_log source log file about is) four = audit_refused words files command source log status asks file is four
status_refused words files command status asks (by_book ended) four = absurd (ended_apart status 4 ended four (inr (inr refl)))
status_refused words files command status asks (by_board about ended) four = absurd ((board_apart status ended).2 four)
status_refused words files command status asks (by_jobs ended) four = absurd (conduct_apart status 4 ended four refl)

status_of_board : {old : Type 0} (command : Asked) (files : Contents) (status : ℕ) → AskedStatus old command files status → status ≡ 15 → IsOfBoard command
status_of_board command files status (by_file source about is) fifteen = absurd (file_unrefused files source status is fifteen)
status_of_board command files status (by_log source log file about is) fifteen = absurd (audit_unrefused files source log status is fifteen)
status_of_board command files status (by_book ended) fifteen = absurd (ended_unrefused status ended fifteen)
status_of_board command files status (by_board about ended) fifteen = about
status_of_board command files status (by_jobs ended) fifteen = absurd (conduct_apart status 15 ended fifteen refl)

status_log_refused : {old : Type 0} (words : List (List ℕ)) (files : Contents) (command : Asked) (status : ℕ) → command_of words ≡ Some command → AskedStatus old command files status → status ≡ 17 → IsLogRefused words files
status_log_refused words files command status asks (by_file source about is) last = absurd (file_no_log files source status is last)
status_log_refused words files command status asks (by_log source log file about is) last = audit_log_refused words files command source log status asks file about is last
status_log_refused words files command status asks (by_book ended) last = absurd (ended_no_log status ended last)
status_log_refused words files command status asks (by_board about ended) last = absurd (board_no_log status ended last)
status_log_refused words files command status asks (by_jobs ended) last = absurd (conduct_apart status 17 ended last refl)

status_old : {old : Type 0} (command : Asked) (files : Contents) (status : ℕ) → AskedStatus old command files status → status ≡ 16 → old
status_old command files status (by_file source about is) sixteen = file_old files source status is sixteen
status_old command files status (by_log source log file about is) sixteen = absurd (audit_new files source log status is sixteen)
status_old command files status (by_book ended) sixteen = ended_old status ended sixteen
status_old command files status (by_board about ended) sixteen = absurd (board_new status ended sixteen)
status_old command files status (by_jobs ended) sixteen = absurd (conduct_apart status 16 ended sixteen refl)

-- status 16 comes from a wider cause too
ended_wider : {few more : Type 0} {status : ℕ} → (few → more) → Ended few status → Ended more status
ended_wider widens (is_complete is) = is_complete is
ended_wider widens (is_failed is) = is_failed is
ended_wider widens (is_no_book is) = is_no_book is
ended_wider widens (is_unsaid is) = is_unsaid is
ended_wider widens (is_unhired is) = is_unhired is
ended_wider widens (is_forbidden is) = is_forbidden is
ended_wider widens (is_suspended is) = is_suspended is
ended_wider widens (is_old is old) = is_old is (widens old)

-- the command is about a book, whose file is one of the older format
abbrev pub IsOldOf : Asked → DeskState → Type 0
IsOldOf command entry = (name : List ℕ) × (book_asked_for command ≡ Some name) × IsOldFile name entry

-- the book of a command
older : (command : Asked) (entry : DeskState) {status : ℕ} (name : List ℕ) → book_asked_for command ≡ Some name → Ended (IsOldFile name entry) status → Ended (IsOldOf command entry) status
older command entry name about ended = ended_wider (λ old. (name, about, old)) ended

module _ {K : Type 0} (state : K → DeskState) where
  asked_status : (gives : Want → Order → Outcome → Type 0) (asked_so : Type 0) (command : Asked) (files : Contents) (ports later : PortsTold) (entry now : K) (status : ℕ)
      → Obeys state gives asked_so command files ports later entry now status → AskedStatus (IsOldOf command (told_as (state now) (state entry))) command files status
  asked_status gives asked_so (asked.Try file sets defer hands target) files ports later entry now status obeys =
      by_file (source_so file sets defer target) refl (file_status files (source_so file sets defer target) _ _ (state entry).shown (state now).shown status
      (λ plan did. tries_ended ports.crew later.crew (state entry).shown (state now).shown plan status did) obeys.0)
  asked_status gives asked_so (asked.Check file sets target) files ports later entry now status obeys =
      by_file (source_so file sets false target) refl (file_status files (source_so file sets false target) _ _ (state entry).shown (state now).shown status
      (λ plan did. checks_ended (state entry).shown (state now).shown _ status did) obeys.0)
  asked_status gives asked_so (asked.Audit file log sets defer) files ports later entry now status obeys =
      by_log (source_so file sets defer None) log refl refl (audit_status files (source_so file sets defer None) log (state entry).shown (state now).shown status _ obeys.0)
  asked_status gives asked_so (asked.Run file book sets defer hands stop target) files ports later entry now status obeys =
      by_file (source_so file sets defer target) refl (file_status files (source_so file sets defer target) _ _ (state entry).shown (state now).shown status
      (λ plan did. older (asked.Run file book sets defer hands stop target) (told_as (state now) (state entry)) book refl (runs_ended book ports.crew later.crew (told_as (state now) (state entry)) (state now) plan status did)) obeys)
  asked_status gives asked_so (asked.Resume book name hands stop) files ports later entry now status obeys =
      by_book (older (asked.Resume book name hands stop) (told_as (state now) (state entry)) book refl (resumes_ended book name ports.crew later.crew (told_as (state now) (state entry)) (state now) status obeys))
  asked_status gives asked_so (asked.Show book name) files ports later entry now status obeys =
      by_book (older (asked.Show book name) (told_as (state now) (state entry)) book refl (shows_ended book name (told_as (state now) (state entry)) (state now) status obeys.0))
  asked_status gives asked_so (asked.Reset book name) files ports later entry now status obeys =
      by_book (older (asked.Reset book name) (told_as (state now) (state entry)) book refl (resets_ended book name (told_as (state now) (state entry)) (state now) status obeys.0))
  asked_status gives asked_so (asked.Details book) files ports later entry now status obeys =
      by_book (older (asked.Details book) (told_as (state now) (state entry)) book refl (lists_ended book (told_as (state now) (state entry)) (state now) status obeys.0))
  asked_status gives asked_so (asked.Migrate old new) files ports later entry now status obeys =
      by_book (ended_wider (λ never. absurd never) (migrates_ended old new (told_as (state now) (state entry)) (state now) status obeys.0))
  asked_status gives asked_so (asked.Demo seed size book hands) files ports later entry now status obeys =
      by_book (older (asked.Demo seed size book hands) (told_as (state now) (state entry)) book refl (demonstrates_ended book ports.crew later.crew entry now seed size status obeys))
  asked_status gives asked_so (asked.Worker address sessions) files ports later entry now status obeys =
      by_book (works_ended status (works_one (gives (want.Local 1)) ports.crew later.crew ports.door later.door (state entry).shown (state now).shown address sessions status obeys.0))
  asked_status gives asked_so (asked.Conduct board owner hands) files ports later entry now status obeys =
      by_jobs (conduct_status obeys.0)
  asked_status gives asked_so (asked.Serve board address sessions) files ports later entry now status obeys =
      by_book (service_ended status (service_status obeys.0))
  asked_status gives asked_so (asked.Board board request) files ports later entry now status obeys =
      by_board tt (does_status request board (told_as (state now) (state entry)) (state now) status obeys.0)

  -- status 2 comes only where the words are no command
  pub usage_tells : {gives : Want → Order → Outcome → Type 0} {asked_so : Type 0} (words : List (List ℕ)) (files : Contents) (ports later : PortsTold) (entry now : K) (status : ℕ)
      → Behaviour state gives asked_so words files ports later entry now status → status ≡ 2 → command_of words ≡ None
  usage_tells words files ports later entry now status (behaviour.unheard is same still) two = absurd (omega arith)
  usage_tells words files ports later entry now status (behaviour.no_command none closes still) two = none
  usage_tells {gives} {asked_so} words files ports later entry now status (behaviour.obeyed command asks obeys) two =
      absurd (status_usage command files status (asked_status gives asked_so command files ports later entry now status obeys) two)

  -- status 4 comes only where the file is refused
  pub refused_tells : {gives : Want → Order → Outcome → Type 0} {asked_so : Type 0} (words : List (List ℕ)) (files : Contents) (ports later : PortsTold) (entry now : K) (status : ℕ)
      → Behaviour state gives asked_so words files ports later entry now status → status ≡ 4 → IsRefused words files
  refused_tells words files ports later entry now status (behaviour.unheard is same still) four = absurd (omega arith)
  refused_tells words files ports later entry now status (behaviour.no_command none closes still) four =
      absurd (⊎_elim (λ is. omega arith) (λ is. omega arith) (closes_status (state entry).shown (state now).shown _ 2 status closes))
  refused_tells {gives} {asked_so} words files ports later entry now status (behaviour.obeyed command asks obeys) four =
      status_refused words files command status asks (asked_status gives asked_so command files ports later entry now status obeys) four

  on_board : (gives : Want → Order → Outcome → Type 0) (asked_so : Type 0) (words : List (List ℕ)) (command : Asked) (files : Contents) (ports later : PortsTold) (entry now : K) (status : ℕ)
      → command_of words ≡ Some command → IsOfBoard command → Obeys state gives asked_so command files ports later entry now status → status ≡ 15
      → IsBoardRefused words (told_as (state now) (state entry))
  on_board gives asked_so words (asked.Board board request) files ports later entry now status asks about obeys is =
      board_refuses words board request (told_as (state now) (state entry)) (state now) status asks obeys.0 is
  on_board gives asked_so words (asked.Try file sets defer hands target) files ports later entry now status asks about obeys is = absurd about
  on_board gives asked_so words (asked.Run file book sets defer hands stop target) files ports later entry now status asks about obeys is = absurd about
  on_board gives asked_so words (asked.Resume book name hands stop) files ports later entry now status asks about obeys is = absurd about
  on_board gives asked_so words (asked.Show book name) files ports later entry now status asks about obeys is = absurd about
  on_board gives asked_so words (asked.Reset book name) files ports later entry now status asks about obeys is = absurd about
  on_board gives asked_so words (asked.Details book) files ports later entry now status asks about obeys is = absurd about
  on_board gives asked_so words (asked.Migrate old new) files ports later entry now status asks about obeys is = absurd about
  on_board gives asked_so words (asked.Check file sets target) files ports later entry now status asks about obeys is = absurd about
  on_board gives asked_so words (asked.Audit file log sets defer) files ports later entry now status asks about obeys is = absurd about
  on_board gives asked_so words (asked.Demo seed size book hands) files ports later entry now status asks about obeys is = absurd about
  on_board gives asked_so words (asked.Worker address sessions) files ports later entry now status asks about obeys is = absurd about
  on_board gives asked_so words (asked.Conduct board owner hands) files ports later entry now status asks about obeys is = absurd about
  on_board gives asked_so words (asked.Serve board address sessions) files ports later entry now status asks about obeys is = absurd about

  -- status 15 comes only where a board refuses
  pub board_tells : {gives : Want → Order → Outcome → Type 0} {asked_so : Type 0} (words : List (List ℕ)) (files : Contents) (ports later : PortsTold) (entry now : K) (status : ℕ)
      → Behaviour state gives asked_so words files ports later entry now status → status ≡ 15 → IsBoardRefused words (told_as (state now) (state entry))
  board_tells words files ports later entry now status (behaviour.unheard is same still) fifteen = absurd (omega (arith, is, fifteen))
  board_tells words files ports later entry now status (behaviour.no_command none closes still) fifteen =
      absurd (⊎_elim (λ is. omega (arith, is, fifteen)) (λ is. omega (arith, is, fifteen)) (closes_status (state entry).shown (state now).shown _ 2 status closes))
  board_tells {gives} {asked_so} words files ports later entry now status (behaviour.obeyed command asks obeys) fifteen =
      on_board gives asked_so words command files ports later entry now status asks (status_of_board command files status (asked_status gives asked_so command files ports later entry now status obeys) fifteen) obeys fifteen

-- ---- status 16

module _ {K : Type 0} (state : K → DeskState) where
  -- status 16 comes only where a book is one of the older format
  pub old_tells : {gives : Want → Order → Outcome → Type 0} {asked_so : Type 0} (words : List (List ℕ)) (files : Contents) (ports later : PortsTold) (entry now : K) (status : ℕ)
      → Behaviour state gives asked_so words files ports later entry now status → status ≡ 16 → IsOldBook words (told_as (state now) (state entry))
  old_tells words files ports later entry now status (behaviour.unheard is same still) sixteen = absurd (omega (arith, is, sixteen))
  old_tells words files ports later entry now status (behaviour.no_command none closes still) sixteen =
      absurd (⊎_elim (λ is. omega (arith, is, sixteen)) (λ is. omega (arith, is, sixteen)) (closes_status (state entry).shown (state now).shown _ 2 status closes))
  old_tells {gives} {asked_so} words files ports later entry now status (behaviour.obeyed command asks obeys) sixteen =
      let old = status_old command files status (asked_status state gives asked_so command files ports later entry now status obeys) sixteen in
      record { command = command; name = old.0; asks = asks; about = old.1; old = old.2 }

-- ---- status 17

module _ {K : Type 0} (state : K → DeskState) where
  -- status 17 comes only where a log is refused
  pub log_tells : {gives : Want → Order → Outcome → Type 0} {asked_so : Type 0} (words : List (List ℕ)) (files : Contents) (ports later : PortsTold) (entry now : K) (status : ℕ)
      → Behaviour state gives asked_so words files ports later entry now status → status ≡ 17 → IsLogRefused words files
  log_tells words files ports later entry now status (behaviour.unheard is same still) last = absurd (omega (arith, is, last))
  log_tells words files ports later entry now status (behaviour.no_command none closes still) last =
      absurd (⊎_elim (λ is. omega (arith, is, last)) (λ is. omega (arith, is, last)) (closes_status (state entry).shown (state now).shown _ 2 status closes))
  log_tells {gives} {asked_so} words files ports later entry now status (behaviour.obeyed command asks obeys) last =
      status_log_refused words files command status asks (asked_status state gives asked_so command files ports later entry now status obeys) last

-- ---- causes

-- the command that the words are asks for a worker
pub works_so : (words : List (List ℕ)) (other command : Asked) → command_of words ≡ Some other → IsWork other → command_of words ≡ Some command → IsWork command
works_so words other command is works asks = let same : other ≡ command = cc in subst IsWork same works

-- a cause that may be the door's is another's where the door had no fault
pub alone : (unlistened : Type 0) (status : ℕ) (before after : Counts) → ¬ unlistened → HasCausesOr unlistened status before after → HasEachCause status before after
alone unlistened status before after none causes = record {
  none_falls = causes.none_falls;
  unread = causes.unread;
  failed = causes.failed;
  unsaid = causes.unsaid;
  unhired = λ is. ⊎_elim (λ rose. rose) (λ door. absurd (none door)) (causes.unhired is);
}

pub widened : (unlistened : Type 0) (status : ℕ) (before after : Counts) → HasEachCause status before after → HasCausesOr unlistened status before after
widened unlistened status before after causes = record {
  none_falls = causes.none_falls;
  unread = causes.unread;
  failed = causes.failed;
  unsaid = causes.unsaid;
  unhired = λ is. inl (causes.unhired is);
}

-- a worker's causes
pub worked_causes : (status : ℕ) {old now : DeskState} (sources sources_now crew crew_now door door_now : ℕ) → OnlySays old now → sources_now ≡ sources → crew ≤ crew_now
    → (status ≡ 8 → Rises crew crew_now ⊎ Rises door door_now) → (status ≡ 7 → Rises old.out_faults now.out_faults) → (status ≡ 0) ⊎ (status ≡ 9) ⊎ (status ≡ 8) ⊎ (status ≡ 7)
    → HasCausesOr (Unit {0} × Rises door door_now) status (counts_of old sources crew) (counts_of now sources_now crew_now)
worked_causes status sources sources_now crew crew_now door door_now says sources_is crew_le no_link no_text one = record {
  none_falls = record { disk = omega (arith, says.disk); out = says.out; sources = omega (arith, sources_is); crew = crew_le; asks = says.asks };
  unread = λ is. absurd (⊎_elim (λ a. omega arith) (⊎_elim (λ a. omega arith) (⊎_elim (λ a. omega arith) (λ a. omega arith))) one);
  failed = λ is. absurd (⊎_elim (λ a. omega arith) (⊎_elim (λ a. omega arith) (⊎_elim (λ a. omega arith) (λ a. omega arith))) one);
  unsaid = no_text;
  unhired = λ is. ⊎_elim (λ rose. inl rose) (λ rose. inr (tt, rose)) (no_link is);
}

-- the causes of a board's service
pub served_causes : (status : ℕ) {old now : DeskState} (sources crew door door_now : ℕ) → HasServiceCauses old now door door_now status → IsServiceStatus status
    → HasCausesOr (Unit {0} × Rises door door_now) status (counts_of old sources crew) (counts_of now sources crew)
served_causes status sources crew door door_now causes one = record {
  none_falls = record { disk = causes.desk.extends.disk_faults; out = causes.desk.extends.out_faults; sources = omega arith; crew = omega arith; asks = causes.desk.extends.asks };
  unread = λ is. absurd (ended_apart {old = ⊥} status 3 (service_ended status one) is (inr (inl refl)));
  failed = causes.desk.failed;
  unsaid = causes.desk.unsaid;
  unhired = λ is. inr (tt, causes.unlistened is);
}

-- the same for a wider cause
pub listened_so : (few more : Type 0) (status : ℕ) (before after : Counts) → (few → more) → HasCausesOr few status before after → HasCausesOr more status before after
listened_so few more status before after widens causes = record {
  none_falls = causes.none_falls;
  unread = causes.unread;
  failed = causes.failed;
  unsaid = causes.unsaid;
  unhired = λ is. ⊎_elim (λ rose. inl rose) (λ door. inr (widens door)) (causes.unhired is);
}
