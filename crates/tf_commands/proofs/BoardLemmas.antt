-- What the status of a command on a board tells.
use Rattle.std.proofs.Common.{◌≡◌, ◌≢◌, ℕ, List, ⊎_elim, Some, sym, ◌∙◌, arith}
use Rattle.tf_desk.specs.State.{DeskState}
use Rattle.tf_board.specs.declared.calls.BoardRequest.{BoardRequest}
use Rattle.tf_words.specs.declared.asked.Asked.TheVariants as asked
use Rattle.tf_report.specs.Closing.{ClosesWithOrStops}
use Rattle.tf_report.proofs.ClosingLemmas.{ends_status}
use Rattle.tf_board.specs.Does.{answer_of, Does, IsBoardStatus, is_done, is_failed, is_no_board, is_unsaid, is_out, is_full, is_refused}
use Rattle.tf_board.specs.Does as board
use Rattle.tf_commands.specs.Asking.{HasEachCause, HasCausesOr, counts_of}
use Rattle.tf_words.specs.Words.{command_of}
use Rattle.tf_commands.specs.Behaviour.{IsBoardRefused}

-- no words, no file and no hand are why a command on a board fails
pub board_apart : (status : ℕ) → IsBoardStatus status → (status ≢ 2) × (status ≢ 3) × (status ≢ 4) × (status ≢ 8)
board_apart status (is_done a) = (λ is. omega (arith, a, is), λ is. omega (arith, a, is), λ is. omega (arith, a, is), λ is. omega (arith, a, is))
board_apart status (is_failed a) = (λ is. omega (arith, a, is), λ is. omega (arith, a, is), λ is. omega (arith, a, is), λ is. omega (arith, a, is))
board_apart status (is_no_board a) = (λ is. omega (arith, a, is), λ is. omega (arith, a, is), λ is. omega (arith, a, is), λ is. omega (arith, a, is))
board_apart status (is_unsaid a) = (λ is. omega (arith, a, is), λ is. omega (arith, a, is), λ is. omega (arith, a, is), λ is. omega (arith, a, is))
board_apart status (is_out a) = (λ is. omega (arith, a, is), λ is. omega (arith, a, is), λ is. omega (arith, a, is), λ is. omega (arith, a, is))
board_apart status (is_full a) = (λ is. omega (arith, a, is), λ is. omega (arith, a, is), λ is. omega (arith, a, is), λ is. omega (arith, a, is))
board_apart status (is_refused a) = (λ is. omega (arith, a, is), λ is. omega (arith, a, is), λ is. omega (arith, a, is), λ is. omega (arith, a, is))

-- nor a log
pub board_no_log : (status : ℕ) → IsBoardStatus status → status ≢ 17
board_no_log status (is_done a) = λ is. omega (arith, a, is)
board_no_log status (is_failed a) = λ is. omega (arith, a, is)
board_no_log status (is_no_board a) = λ is. omega (arith, a, is)
board_no_log status (is_unsaid a) = λ is. omega (arith, a, is)
board_no_log status (is_out a) = λ is. omega (arith, a, is)
board_no_log status (is_full a) = λ is. omega (arith, a, is)
board_no_log status (is_refused a) = λ is. omega (arith, a, is)

-- nor a book of the older format
pub board_new : (status : ℕ) → IsBoardStatus status → status ≢ 16
board_new status (is_done a) = λ is. omega (arith, a, is)
board_new status (is_failed a) = λ is. omega (arith, a, is)
board_new status (is_no_board a) = λ is. omega (arith, a, is)
board_new status (is_unsaid a) = λ is. omega (arith, a, is)
board_new status (is_out a) = λ is. omega (arith, a, is)
board_new status (is_full a) = λ is. omega (arith, a, is)
board_new status (is_refused a) = λ is. omega (arith, a, is)

-- the causes of a command on a board
pub board_causes : {old now : DeskState} {status : ℕ} → board.HasCauses old now status → IsBoardStatus status → HasEachCause status (counts_of old 0 0) (counts_of now 0 0)
board_causes {old} {now} {status} causes ended =
    let apart = board_apart status ended in
    record {
      none_falls = record { disk = causes.extends.disk_faults; out = causes.extends.out_faults; sources = omega arith; crew = omega arith; asks = causes.extends.asks };
      unread = λ is. absurd (apart.1 is);
      failed = causes.failed;
      unsaid = causes.unsaid;
      unhired = λ is. absurd (apart.3 is);
    }

-- the same among the causes of all commands, where neither the sources nor the crew were used
pub board_among : (unlistened : Type 0) (old now : DeskState) (sources crew status : ℕ) → HasEachCause status (counts_of old 0 0) (counts_of now 0 0)
    → HasCausesOr unlistened status (counts_of old sources crew) (counts_of now sources crew)
board_among unlistened old now sources crew status causes = record {
  none_falls = record { disk = causes.none_falls.disk; out = causes.none_falls.out; sources = omega arith; crew = omega arith; asks = causes.none_falls.asks };
  unread = λ is. absurd (omega (arith, causes.unread is));
  failed = causes.failed;
  unsaid = causes.unsaid;
  unhired = λ is. absurd (omega (arith, causes.unhired is));
}

-- what closes with 15 was to close with it
board_closes : (old now : DeskState) (message : List ℕ) (wanted status : ℕ) → ClosesWithOrStops old.shown message wanted now.shown status → status ≡ 15 → wanted ≡ 15
board_closes old now message wanted status closes is =
    ⊎_elim (λ stopped. absurd (omega (arith, stopped, is)))
    (λ others. ⊎_elim (λ same. sym same ∙ is) (λ unsaid. absurd (omega (arith, unsaid, is))) others)
    (ends_status old.shown now.shown message wanted status closes)

-- status 15 is a refusal
pub board_refuses : (words : List (List ℕ)) (name : List ℕ) (request : BoardRequest) (entry now : DeskState) (status : ℕ)
    → command_of words ≡ Some (asked.Board name request) → Does request name entry now status → status ≡ 15 → IsBoardRefused words entry
board_refuses words name request entry now status asks does is = by does
  where
    by : Does request name entry now status → IsBoardRefused words entry
    by (board.unopened (board.without_memory nine e)) = absurd (omega (arith, nine, is))
    by (board.unopened (board.without_disk e)) = absurd (omega (arith, board_closes entry now _ 5 status e.closes is))
    by (board.unopened (board.no_board offset byte isnt same e)) = absurd (omega (arith, board_closes entry now _ 6 status e.closes is))
    by (board.answered past legal may has e) = record {
      name = name;
      request = request;
      past = past;
      asks = asks;
      legal = legal;
      found = has;
      refuses = board_closes entry now (answer_of request past).text (answer_of request past).status status e.closes is;
    }
    by (board.unrecorded past legal has nine e) = absurd (omega (arith, nine, is))
    by (board.disk_failed past legal may has e) = absurd (omega (arith, board_closes entry now _ 5 status e.closes is))
    by (board.filled past size need legal has full e) = absurd (omega (arith, board_closes entry now _ 13 status e.closes is))
