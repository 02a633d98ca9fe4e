-- How the command that lets conductors work on a board ends, whom it hires, and why a status tells a fault.
use Rattle.std.proofs.Common.{◌≡◌, ◌≢◌, ◌≤◌, ℕ, List, [], ◌∷◌, Option, Some, None, Bool, true, false, nat_eq, refl, sym, ap, ◌∙◌, subst, inl, inr, ⊎_elim}
use Rattle.std.specs.Prelude.{IsTrue}
use Rattle.std.specs.List.{list_any}
use Rattle.tf_numbers.specs.Numbers.{Rises}
use Rattle.tf_desk.specs.State.{DeskState}
use Rattle.tf_journal.specs.Start.{file_of}
use Rattle.tf_actions.specs.declared.orders.Order.{Order}
use Rattle.tf_actions.specs.declared.outcomes.Outcome.{Outcome}
use Rattle.tf_ports.specs.Ports.{Contents, CrewTold, GivenBack}
use Rattle.tf_ports.specs.declared.crews.Want.TheVariants as want
use Rattle.tf_report.specs.Closing.{ClosesWithOrStops}
use Rattle.tf_report.specs.declared.statuses.TheConstants.{SUCCEEDED, UNREAD, DISK_FAILED, NO_BOOK, UNSAID, UNHIRED, OUT_OF_MEMORY, FULL}
use Rattle.tf_report.proofs.ClosingLemmas.{ends_status}
use Rattle.tf_board.specs.Board.{board_in}
use Rattle.tf_board.specs.Does as board
use Rattle.tf_board.specs.Does.{HasCauses, IsBoard, IsBoardComplete, EndsUnopened}
use Rattle.tf_shared_board.specs.declared.calls.BoardHalt.{BoardHalt}
use Rattle.tf_shared_board.specs.declared.calls.BoardHalt.TheVariants as halt
use Rattle.tf_runner.specs.Conducts as conduct
use Rattle.tf_runner.specs.Conducts.{Conducts, WorksOff, AreManyBack}
use Rattle.tf_shared_board.specs.Shared.{halt_status}
use Rattle.tf_commands.specs.Asking.{HasCausesOr, counts_of}
use Rattle.tf_commands.specs.Books.{AreAllBack}
use Rattle.tf_commands.specs.Behaviour.{HiresAtMost}

-- ---- statuses

-- its statuses
pub data IsConductStatus (status : ℕ) : Type 0 where
  is_conducted : status ≡ SUCCEEDED → IsConductStatus status
  is_unread : status ≡ UNREAD → IsConductStatus status
  is_failed : status ≡ DISK_FAILED → IsConductStatus status
  is_no_board : status ≡ NO_BOOK → IsConductStatus status
  is_unsaid : status ≡ UNSAID → IsConductStatus status
  is_unhired : status ≡ UNHIRED → IsConductStatus status
  is_out : status ≡ OUT_OF_MEMORY → IsConductStatus status
  is_full : status ≡ FULL → IsConductStatus status

-- one of their numbers
abbrev pub is_among : ℕ → Bool
is_among n = list_any (nat_eq n) (SUCCEEDED ∷ UNREAD ∷ DISK_FAILED ∷ NO_BOOK ∷ UNSAID ∷ UNHIRED ∷ OUT_OF_MEMORY ∷ FULL ∷ [])

among : (status : ℕ) → IsConductStatus status → is_among status ≡ true
among status (is_conducted is) = ap is_among is
among status (is_unread is) = ap is_among is
among status (is_failed is) = ap is_among is
among status (is_no_board is) = ap is_among is
among status (is_unsaid is) = ap is_among is
among status (is_unhired is) = ap is_among is
among status (is_out is) = ap is_among is
among status (is_full is) = ap is_among is

-- no other number is its status
pub conduct_apart : (status other : ℕ) → IsConductStatus status → status ≡ other → is_among other ≡ false → ⊥
conduct_apart status other one is apart = let no : true ≡ false = sym (among status one) ∙ ap is_among is ∙ apart in cc

-- what closed with one of the statuses ends with one
closes_so : {before after : Option (List ℕ)} {message : List ℕ} {wanted status : ℕ} → ClosesWithOrStops before message wanted after status → IsConductStatus wanted → IsConductStatus status
closes_so {before} {after} {message} {wanted} {status} closes one =
    ⊎_elim (λ out. is_out out) (λ others. ⊎_elim (λ same. subst IsConductStatus (sym same) one) (λ unsaid. is_unsaid unsaid) others) (ends_status before after message wanted status closes)

-- the status of a halt is one
halt_one : (halted : Option BoardHalt) → IsConductStatus (halt_status halted)
halt_one None = is_conducted refl
halt_one (Some halt.Disk) = is_failed refl
halt_one (Some (halt.Full size need)) = is_full refl
halt_one (Some halt.Memory) = is_out refl

unopened_status : {name : List ℕ} {entry now : DeskState} {status : ℕ} → EndsUnopened name entry now status → IsConductStatus status
unopened_status (board.without_memory is e) = is_out is
unopened_status (board.without_disk e) = closes_so e.closes (is_failed refl)
unopened_status (board.no_board offset byte none still e) = closes_so e.closes (is_no_board refl)

works_status : {gives : Order → Outcome → Type 0} {files : Contents} {name word : List ℕ} {count : ℕ} {entry now : DeskState} {status : ℕ} → WorksOff gives files name word count entry now status
    → IsConductStatus status
works_status w = closes_so w.ends.closes (halt_one w.halted)

-- it ends with one of its statuses
pub conduct_status : {gives : Order → Outcome → Type 0} {files : Contents} {crew crew_after : CrewTold} {name word : List ℕ} {count : ℕ} {entry now : DeskState} {status : ℕ}
    → Conducts gives files crew crew_after name word count entry now status → IsConductStatus status
conduct_status (conduct.unopened same u) = unopened_status u
conduct_status (conduct.unready same past legal has is e) = is_out is
conduct_status (conduct.unread same past legal has e) = closes_so e.closes (is_unread refl)
conduct_status (conduct.unhired same past legal has e) = closes_so e.closes (is_unhired refl)
conduct_status (conduct.conducted hired w) = works_status w

-- ---- completeness

-- a status that isn't that of a file which is no board
closes_apart : {before after : Option (List ℕ)} {message : List ℕ} {wanted status : ℕ} → ClosesWithOrStops before message wanted after status → wanted ≢ NO_BOOK → ¬ (status ≡ NO_BOOK)
closes_apart {before} {after} {message} {wanted} {status} closes apart =
    λ is. ⊎_elim (λ out. let no = sym out ∙ is in cc) (λ others. ⊎_elim (λ same. apart (sym same ∙ is)) (λ unsaid. let no = sym unsaid ∙ is in cc) others) (ends_status before after message wanted status closes)

halt_apart : (halted : Option BoardHalt) → halt_status halted ≢ NO_BOOK
halt_apart None = λ is. cc
halt_apart (Some halt.Disk) = λ is. cc
halt_apart (Some (halt.Full size need)) = λ is. cc
halt_apart (Some halt.Memory) = λ is. cc

unopened_apart : {name : List ℕ} {entry now : DeskState} {status : ℕ} → EndsUnopened name entry now status → IsTrue entry.tells → IsBoard (board_in (file_of entry name)) → ¬ (status ≡ NO_BOOK)
unopened_apart (board.without_memory is e) told board = λ no. let same = sym is ∙ no in cc
unopened_apart (board.without_disk e) told board = closes_apart e.closes (λ is. cc)
unopened_apart (board.no_board offset byte none still e) told board = absurd (board offset byte (none told))

works_apart : {gives : Order → Outcome → Type 0} {files : Contents} {name word : List ℕ} {count : ℕ} {entry now : DeskState} {status : ℕ} → WorksOff gives files name word count entry now status
    → ¬ (status ≡ NO_BOOK)
works_apart w = closes_apart w.ends.closes (halt_apart w.halted)

-- where the file is a board, the status isn't that of none
conduct_no_board : {gives : Order → Outcome → Type 0} {files : Contents} {crew crew_after : CrewTold} {name word : List ℕ} {count : ℕ} {entry now : DeskState} {status : ℕ}
    → Conducts gives files crew crew_after name word count entry now status → IsTrue entry.tells → IsBoard (board_in (file_of entry name)) → ¬ (status ≡ NO_BOOK)
conduct_no_board (conduct.unopened same u) told board = unopened_apart u told board
conduct_no_board (conduct.unready same past legal has is e) told board = λ no. let same = sym is ∙ no in cc
conduct_no_board (conduct.unread same past legal has e) told board = closes_apart e.closes (λ is. cc)
conduct_no_board (conduct.unhired same past legal has e) told board = closes_apart e.closes (λ is. cc)
conduct_no_board (conduct.conducted hired w) told board = works_apart w

complete_one : (status : ℕ) → IsConductStatus status → ¬ (status ≡ NO_BOOK) → ¬ (status ≡ UNREAD) → ¬ (status ≡ DISK_FAILED) → ¬ (status ≡ UNSAID) → ¬ (status ≡ UNHIRED) → IsBoardComplete status
complete_one status (is_conducted is) board readable sound sayable hirable = inl is
complete_one status (is_unread is) board readable sound sayable hirable = absurd (readable is)
complete_one status (is_failed is) board readable sound sayable hirable = absurd (sound is)
complete_one status (is_no_board is) board readable sound sayable hirable = absurd (board is)
complete_one status (is_unsaid is) board readable sound sayable hirable = absurd (sayable is)
complete_one status (is_unhired is) board readable sound sayable hirable = absurd (hirable is)
complete_one status (is_out is) board readable sound sayable hirable = inr (inl is)
complete_one status (is_full is) board readable sound sayable hirable = inr (inr is)

-- conductors that met no fault worked off the board, or memory ran out, or the board is full
pub conducts_complete : {gives : Order → Outcome → Type 0} {files : Contents} {crew crew_after : CrewTold} {name word : List ℕ} {count : ℕ} {entry now : DeskState} {status : ℕ}
    → Conducts gives files crew crew_after name word count entry now status → IsTrue entry.tells → IsBoard (board_in (file_of entry name))
    → ¬ (status ≡ UNREAD) → ¬ (status ≡ DISK_FAILED) → ¬ (status ≡ UNSAID) → ¬ (status ≡ UNHIRED) → IsBoardComplete status
conducts_complete {status = status} c told board readable sound sayable hirable = complete_one status (conduct_status c) (conduct_no_board c told board) readable sound sayable hirable

-- ---- whom it hires

many_back : (count : ℕ) (told : GivenBack) → AreManyBack count told → AreAllBack (want.Local count) told
many_back count None many = tt
many_back count (Some back) many = many

-- nobody, or as many hands as conductors, which were given back
pub conducts_hires : {gives : Order → Outcome → Type 0} {files : Contents} {crew crew_after : CrewTold} {name word : List ℕ} {count : ℕ} {entry now : DeskState} {status : ℕ}
    → Conducts gives files crew crew_after name word count entry now status → HiresAtMost (want.Local count) crew crew_after
conducts_hires (conduct.unopened same u) = inl same
conducts_hires (conduct.unready same past legal has is e) = inl same
conducts_hires (conduct.unread same past legal has e) = inl same
conducts_hires (conduct.unhired same past legal has e) = inl same
conducts_hires {crew_after = crew_after} {count = count} (conduct.conducted hires w) = inr (record { hired = hires.hired; back = many_back count crew_after.back hires.back })

-- ---- causes

-- the causes of its statuses
pub conducted_causes : (unlistened : Type 0) (status : ℕ) {old now : DeskState} (sources sources_now crew crew_now : ℕ) → HasCauses old now status → (status ≡ UNREAD → Rises sources sources_now)
    → (status ≡ UNHIRED → Rises crew crew_now) → (sources ≤ sources_now) × (crew ≤ crew_now) → HasCausesOr unlistened status (counts_of old sources crew) (counts_of now sources_now crew_now)
conducted_causes unlistened status sources sources_now crew crew_now causes unread unhired no_fall = record {
  none_falls = record { disk = causes.extends.disk_faults; out = causes.extends.out_faults; sources = no_fall.0; crew = no_fall.1; asks = causes.extends.asks };
  unread = unread;
  failed = causes.failed;
  unsaid = causes.unsaid;
  unhired = λ is. inl (unhired is);
}
