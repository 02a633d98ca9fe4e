-- How an append and a line that is said after it go together.
use Rattle.std.proofs.Common.{◌≡◌, inl, inr, ⊎_elim, ℕ, ◌+◌, ◌≤◌, Bool, List, [], ◌∷◌, length, Option, Some, None, refl, sym, ◌∙◌, ap, subst, append-nil, length-append, arith}
use Rattle.std.specs.Prelude.{IsTrue, true, Result, Ok, Err, IfErr}
use Rattle.tf_numbers.specs.Numbers.{Rises}
use Rattle.tf_desk.specs.Crash.{shown_with, ShowsPrefix}
use Rattle.tf_desk.specs.State.{DeskState, anything, FilesStay, GoesOn, Says, Asks, passes_none, passes_on, passes_within}
use Rattle.tf_desk.proofs.StateLemmas.{files_none, bytes_stay, left_stays, on_disk_told, continues_on, goes_continues, says_continues}
use Rattle.tf_journal.specs.Adding.{Adds, AddsAtMost, Grows, Halts}
use Rattle.tf_journal.specs.declared.title.Title.{Title}
use Rattle.tf_journal.specs.Format.{SIZE_LIMIT, prefix_of, recovered, Held, IsAtRest, AtRest, LeavesBeforeOrAfter}
use Rattle.tf_journal.proofs.CrashLemmas.{at_rest_on}
use Rattle.tf_book.specs.SessionInvariant.{said_of, journal_after, IsSaid, IsCaused, FailsToSay, LeavesLogged, StaysOffDisk, Logged}
use Rattle.tf_book.specs.declared.faults.Halt.{Halt}
use Rattle.tf_book.specs.declared.faults.Halt.TheVariants as halt

-- where nothing is said, nothing more is shown
pub quiet_says : (shown : Option (List ℕ)) → shown ≡ shown_with shown []
quiet_says None = refl
quiet_says (Some text) = ap Some (sym (append-nil text))

-- and nothing else is done
pub says_none : {old : DeskState} → Says [] old old
says_none {old} = record {
  tells = refl;
  prefix = record { count = 0; prefix = quiet_says old.shown };
  disk_faults = refl;
  out_faults = omega arith;
  asks = refl;
  turns = refl;
  marks = λ told. refl;
  files = λ told. files_none;
  crash = λ told. passes_none;
}

-- nothing more is a prefix of any bytes
shows_none : (shown : Option (List ℕ)) (bytes text : List ℕ) → shown ≡ Some text → ShowsPrefix shown bytes (Some text)
shows_none shown bytes text is = record { count = 0; prefix = sym is ∙ quiet_says shown }

-- ---- off the disk

pub off_none : {now : DeskState} → StaysOffDisk now now
off_none = record { files = λ told. (refl, refl); disk_faults = refl }

-- an equal desk
pub off_same : {K : Type 0} (state : K → DeskState) (old new : K) → new ≡ old → StaysOffDisk (state old) (state new)
off_same {K} state old new same = subst (λ (d : K). StaysOffDisk (state old) (state d)) (sym same) off_none

-- one call after another
pub off_on : {old mid new : DeskState} → StaysOffDisk old mid → (IsTrue old.tells → IsTrue mid.tells) → StaysOffDisk mid new → StaysOffDisk old new
off_on a told b = record { files = λ is. (let later = b.files (told is) in let before = a.files is in (later.0 ∙ before.0, later.1 ∙ before.1)); disk_faults = b.disk_faults ∙ a.disk_faults }

-- to say is off the disk, and so is to ask
pub off_says : {bytes : List ℕ} {old new : DeskState} → Says bytes old new → StaysOffDisk old new
off_says says = record { files = λ told. ((says.files told).files, says.marks told); disk_faults = says.disk_faults }

pub off_asks : {old new : DeskState} → Asks old new → StaysOffDisk old new
off_asks asks = record { files = λ told. ((asks.files told).files, asks.marks told); disk_faults = asks.disk_faults }

-- what an append may leave is what an append and its line may leave
appended_logged : (title : Title) (held : List (List ℕ)) (new line : List ℕ) (shown : Option (List ℕ)) (image text : List ℕ)
    → LeavesBeforeOrAfter title held new shown image text → LeavesLogged title held new line shown image text
appended_logged title held new line shown image text left =
    ⊎_elim (λ old. inl (old, left.1)) (λ both. inr (both, shows_none shown line text left.1)) left.0

-- ---- what the answer tells

-- only the output failed after the append
abbrev pub OutAlone : Result (Unit {0}) Halt → DeskState → DeskState → Type 0
OutAlone r old new = IfErr r (λ why. FailsToSay why old new)

said_after : {K : Type 0} (old : Held K) (desk : K) (n : ℕ) (a b : DeskState) (r : Result (Unit {0}) Halt) → OutAlone r a b
    → journal_after old desk n r ≡ record old { desk = desk; size = old.size + 5 + n }
said_after old desk n a b (Ok u) fails = refl
said_after old desk n a b (Err halt.Out) fails = refl
said_after old desk n a b (Err halt.Disk) fails = absurd (cc)
said_after old desk n a b (Err halt.Memory) fails = absurd (cc)
said_after old desk n a b (Err (halt.Full size need)) fails = absurd (cc)

said_caused : (old mid new : DeskState) (size n : ℕ) (r : Result (Unit {0}) Halt) → mid.out_faults ≡ old.out_faults → OutAlone r mid new → IsCaused old new size n r
said_caused old mid new size n (Ok u) same fails = tt
said_caused old mid new size n (Err halt.Out) same fails = subst (λ (k : ℕ). Rises k new.out_faults) same fails.1
said_caused old mid new size n (Err halt.Disk) same fails = absurd (cc)
said_caused old mid new size n (Err halt.Memory) same fails = absurd (cc)
said_caused old mid new size n (Err (halt.Full at need)) same fails = absurd (cc)

module _ {K : Type 0} (state : K → DeskState) where
  -- a journal at rest stays so while a line is said
  pub said_at_rest : {mid new : Held K} {held : List (List ℕ)} → new ≡ record mid { desk = new.desk } → FilesStay (state mid.desk) (state new.desk)
      → IsAtRest state mid held → IsAtRest state new held
  said_at_rest {mid} {new} {held} same stay rest = subst (λ (j : Held K). IsAtRest state j held) (sym same) (at_rest_on state mid new.desk held rest stay)

  -- the body was added, and its line said after it, or cut
  pub said_logged : {body line : List ℕ} {old mid new : Held K} (r : Result (Unit {0}) Halt) → Grows body old mid → AtRest state old (Adds state body old mid)
      → AtRest state old (AddsAtMost state body old mid) → GoesOn anything (state old.desk) (state mid.desk)
      → (old.volatile ≡ true → mid.desk ≡ old.desk)
      → new ≡ record mid { desk = new.desk } → IsSaid (state mid.desk).shown line (state new.desk).shown r → Says line (state mid.desk) (state new.desk)
      → OutAlone r (state mid.desk) (state new.desk) → Logged state body line old new r
  said_logged {body} {line} {old} {mid} {new} r grows adds at_most goes still same text says fails = record {
    journal = grown ∙ sym (said_after old new.desk (length body) (state mid.desk) (state new.desk) r fails);
    text = subst (λ (s : Option (List ℕ)). IsSaid s line (state new.desk).shown r) goes.on_disk.shown text;
    cause = said_caused (state old.desk) (state mid.desk) (state new.desk) old.size (length body) r goes.on_disk.out_faults fails;
    limit = λ on. subst (λ (n : ℕ). n ≤ SIZE_LIMIT) (sym (ap (λ (h : Held K). h.size) grown)) grows.fits;
    continues = continues_on (goes_continues goes) (says_continues says);
    unasked = record { asks = says.asks ∙ goes.on_disk.asks; turns = says.turns ∙ goes.on_disk.turns };
    off_disk = λ volatile. off_on (off_same state old.desk mid.desk (still volatile)) (λ told. on_disk_told goes.on_disk told) (off_says says);
    records = λ on opened held rest. (let added = adds opened held rest in let stay = says.files (on_disk_told goes.on_disk opened.told) in record {
      rest = said_at_rest same stay added.rest;
      exact = λ just. bytes_stay stay
          ∙ added.exact (ap length just ∙ length-append (prefix_of old.title held) (0 ∷ []) ∙ sym rest.lies.place);
    });
    at_most = λ opened held rest. (let added = adds opened held rest in let told = on_disk_told goes.on_disk opened.told in record {
      crash = passes_on (at_most opened held rest).crash (says.crash told) (appended_logged old.title held body line (state old.desk).shown)
          (λ image text left. inr (
            ap (recovered old.title) (added.rest.durable image left.0) ∙ added.recovers,
            subst (λ (s : Option (List ℕ)). ShowsPrefix s line (Some text)) goes.on_disk.shown left.1,
          ));
      leaves = λ image left. inr (ap (recovered old.title) (added.rest.durable image (left_stays (says.files told) image left)) ∙ added.recovers);
    });
  }
    where
      grown : new ≡ record old { desk = new.desk; size = old.size + 5 + length body }
      grown = same ∙ ap (λ (h : Held K). record h { desk = new.desk }) grows.same

  -- the append found a disk fault, and nothing was said
  pub failed_logged : {body line : List ℕ} {old new : Held K} → Halts state body old new → AtRest state old (AddsAtMost state body old new)
      → GoesOn anything (state old.desk) (state new.desk) → (old.volatile ≡ true → new.desk ≡ old.desk) → Logged state body line old new (Err halt.Disk)
  failed_logged {body} {line} {old} {new} halts at_most goes still = record {
    journal = halts.same;
    text = goes.on_disk.shown;
    cause = halts.rose;
    limit = λ on. absurd (cc);
    continues = goes_continues goes;
    unasked = record { asks = goes.on_disk.asks; turns = goes.on_disk.turns };
    off_disk = λ volatile. off_same state old.desk new.desk (still volatile);
    records = λ on. absurd (cc);
    at_most = λ opened held rest. (let most = at_most opened held rest in record {
      crash = passes_within most.crash (appended_logged old.title held body line (state old.desk).shown);
      leaves = most.leaves;
    });
  }

  -- the same body and line under other names, and the same answer
  pub logged_same : (quiet : Bool) {body line new_body new_line : List ℕ} {old new : Held K} {r s : Result (Unit {0}) Halt} → body ≡ new_body → line ≡ new_line → r ≡ s
      → Logged state body (said_of quiet line) old new r → Logged state new_body (said_of quiet new_line) old new s
  logged_same quiet {body} {line} {new_body} {new_line} {old} {new} {r} {s} same_body same_line same logged =
      subst (λ (x : Result (Unit {0}) Halt). Logged state new_body (said_of quiet new_line) old new x) same
      (subst (λ (b : List ℕ). Logged state b (said_of quiet new_line) old new r) same_body
      (subst (λ (l : List ℕ). Logged state body (said_of quiet l) old new r) same_line logged))
