-- The ways that a command on a board goes: their statuses, and that each is done that isn't refused where nothing fails.
use Rattle.std.proofs.Common.{◌≡◌, ◌≢◌, ℕ, List, Option, Some, None, refl, sym, ◌∙◌, subst, inl, inr, ⊎_elim}
use Rattle.std.specs.Prelude.{IsTrue}
use Rattle.tf_desk.specs.State.{DeskState}
use Rattle.tf_journal.specs.Start.{file_of}
use Rattle.tf_board.specs.declared.calls.BoardRequest.{BoardRequest}
use Rattle.tf_board.specs.declared.calls.BoardRequest.TheVariants as request
use Rattle.tf_board.specs.declared.calls.JobCall.TheVariants as call
use Rattle.tf_board.specs.Does.{answer_of, acts, tells_owner, Does, IsAllowed, IsBoardComplete, IsBoardStatus, is_done, is_failed, is_no_board, is_unsaid, is_out, is_full, is_refused, unopened, without_memory, without_disk, no_board, answered, unrecorded, disk_failed, filled}
use Rattle.tf_report.specs.Closing.{disk_fault_text, book_full, ClosesWithOrStops}
use Rattle.tf_report.proofs.ClosingLemmas.{ends_status}
use Rattle.tf_report.specs.declared.statuses.TheConstants.{DISK_FAILED, NO_BOOK, UNSAID, FULL}
use Rattle.tf_board.specs.Board.{board_in, refuses_id, owner_of}
use Rattle.tf_board.specs.declared.commands.Command.{Command}
use Rattle.tf_board.specs.declared.board.Owner.{Owner}
use Rattle.tf_board.specs.declared.board.Owner.TheVariants as owned
use Rattle.tf_board.specs.declared.commands.JobAction.{JobAction}
use Rattle.tf_board.specs.declared.rules.Refusal.{Refusal}

-- the status of an answer
acts_status : (refused : Option Refusal) (past : List Command) (action : JobAction) (id owner : List ℕ) → IsBoardStatus (acts refused past action id owner).status
acts_status None past action id owner = is_done refl
acts_status (Some why) past action id owner = is_refused refl

owner_status : (owner : Owner) (id : List ℕ) → IsBoardStatus (tells_owner owner id).status
owner_status owned.NoJob id = is_refused refl
owner_status owned.Gone id = is_refused refl
owner_status owned.Free id = is_done refl
owner_status (owned.Of name) id = is_done refl

answer_status : (asked : BoardRequest) (past : List Command) → IsBoardStatus (answer_of asked past).status
answer_status (request.Call (call.Post name priority details)) past = is_done refl
answer_status (request.Call (call.Apply action id owner)) past = acts_status (refuses_id past action id owner) past action id owner
answer_status (request.Owner id) past = owner_status (owner_of past id) id
answer_status request.List past = is_done refl

-- where neither the disk nor the output failed, a command that isn't refused is done, or memory runs out, or the board is full
pub complete_so : (asked : BoardRequest) (name : List ℕ) (entry now : DeskState) (status : ℕ) → Does asked name entry now status
    → IsTrue entry.tells → IsAllowed asked (board_in (file_of entry name)) → status ≢ DISK_FAILED → status ≢ UNSAID → IsBoardComplete status
complete_so asked name entry now status does told allowed no_disk no_out = by does
  where
    ends : (message : List ℕ) (wanted : ℕ) → ClosesWithOrStops entry.shown message wanted now.shown status → (status ≡ wanted → IsBoardComplete status) → IsBoardComplete status
    ends message wanted closes right =
        ⊎_elim (λ stopped. inr (inl stopped)) (λ others. ⊎_elim (λ same. right same) (λ unsaid. absurd (no_out unsaid)) others)
        (ends_status entry.shown now.shown message wanted status closes)

    by : Does asked name entry now status → IsBoardComplete status
    by (unopened (without_memory is e)) = inr (inl is)
    by (unopened (without_disk e)) = ends disk_fault_text DISK_FAILED e.closes (λ is. absurd (no_disk is))
    by (unopened (no_board offset byte is same e)) = absurd (allowed.0 offset byte (is told))
    by (answered past legal may has e) = ends (answer_of asked past).text (answer_of asked past).status e.closes (λ is. inl (is ∙ allowed.1 past legal (has told)))
    by (unrecorded past legal has is e) = inr (inl is)
    by (disk_failed past legal may has e) = ends disk_fault_text DISK_FAILED e.closes (λ is. absurd (no_disk is))
    by (filled past size need legal has full e) = ends (book_full size need) FULL e.closes (λ is. inr (inr is))

-- the statuses of a command on a board
pub does_status : (asked : BoardRequest) (name : List ℕ) (entry now : DeskState) (status : ℕ) → Does asked name entry now status → IsBoardStatus status
does_status asked name entry now status does = by does
  where
    ends : (message : List ℕ) (wanted : ℕ) → ClosesWithOrStops entry.shown message wanted now.shown status → IsBoardStatus wanted → IsBoardStatus status
    ends message wanted closes right =
        ⊎_elim (λ stopped. is_out stopped) (λ others. ⊎_elim (λ same. subst IsBoardStatus (sym same) right) (λ unsaid. is_unsaid unsaid) others)
        (ends_status entry.shown now.shown message wanted status closes)

    by : Does asked name entry now status → IsBoardStatus status
    by (unopened (without_memory is e)) = is_out is
    by (unopened (without_disk e)) = ends disk_fault_text DISK_FAILED e.closes (is_failed refl)
    by (unopened (no_board offset byte is same e)) = ends _ NO_BOOK e.closes (is_no_board refl)
    by (answered past legal may has e) = ends (answer_of asked past).text (answer_of asked past).status e.closes (answer_status asked past)
    by (unrecorded past legal has is e) = is_out is
    by (disk_failed past legal may has e) = ends disk_fault_text DISK_FAILED e.closes (is_failed refl)
    by (filled past size need legal has full e) = ends (book_full size need) FULL e.closes (is_full refl)
