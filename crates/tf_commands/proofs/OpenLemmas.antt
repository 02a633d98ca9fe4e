-- What is known of the desk where a book's file was picked and read.
use Rattle.std.proofs.Common.{◌≡◌, ◌≢◌, ◌⊎◌, ℕ, List, Option, inl, inr, ⊎_elim, arith}
use Rattle.std.specs.Prelude.{IsTrue, Result, Ok, Err, IfOk, IfErr}
use Rattle.tf_desk.specs.Crash.{Pairs}
use Rattle.tf_desk.specs.State.{DeskState, told_as, OnDisk, Trusts, Picks, Rests}
use Rattle.tf_journal.proofs.OpenLemmas.{open_set}
use Rattle.tf_journal.specs.Start.{Untouched, Open}
use Rattle.tf_journal.specs.Format.{HasSynced}
use Rattle.tf_journal.specs.declared.faults.LoadFault.{LoadFault}
use Rattle.tf_journal.specs.declared.faults.LoadFault.TheVariants as load_fault
use Rattle.tf_book.specs.Book.{BookValue, outline}
use Rattle.tf_book.specs.Shelf.{ShelfValue, desk_of, desk_after_load}
use Rattle.tf_book.specs.SessionInvariant.{history_text}
use Rattle.tf_commands.specs.Books.{RefusesOrStops, exhausted, unopened_book, ShowsBook, unfound_show, shown_whole}
use Rattle.tf_commands.specs.Runs.{book_desk, HoldsBook}
use Rattle.tf_report.specs.declared.statuses.TheConstants.{SUCCEEDED, DISK_FAILED, UNSAID, UNHIRED, OUT_OF_MEMORY}

-- the whole of a book was said, or a part, or nothing for want of memory
pub whole_apart : (status : ℕ) → (status ≡ SUCCEEDED) ⊎ (status ≡ UNSAID) ⊎ (status ≡ OUT_OF_MEMORY) → (status ≢ DISK_FAILED) × (status ≢ UNHIRED)
whole_apart status (inl a) = (λ is. omega (arith, a, is), λ is. omega (arith, a, is))
whole_apart status (inr (inl a)) = (λ is. omega (arith, a, is), λ is. omega (arith, a, is))
whole_apart status (inr (inr a)) = (λ is. omega (arith, a, is), λ is. omega (arith, a, is))

module _ {K : Type 0} (state : K → DeskState) where
  -- ---- what a load answered

  pub unopened_so : (name : List ℕ) (entry : DeskState) (found : Result (ShelfValue K) (K × LoadFault)) → Trusts (Untouched name) entry (state (desk_after_load found))
      → IfErr found (λ back. Trusts (Untouched name) entry (state back.0))
  unopened_so name entry (Ok shelf) untouched = tt
  unopened_so name entry (Err back) untouched = untouched

  -- without a fault of the disk the file is open
  pub opened_so : (name : List ℕ) (entry mid : DeskState) {during : Pairs} (found : Result (ShelfValue K) (K × LoadFault)) → Trusts (OnDisk during) entry mid → (IsTrue mid.tells → Picks name entry mid)
      → Trusts Rests mid (state (desk_after_load found))
      → (IsTrue (state (desk_after_load found)).tells → IfErr found (λ back. back.1 ≢ load_fault.Disk) → HasSynced mid (state (desk_after_load found)))
      → Trusts (Untouched name) entry (state (desk_after_load found))
      → IfOk found (λ shelf. Trusts (Open name) entry (state (desk_of shelf)))
  opened_so name entry mid (Ok shelf) call picks rests synced untouched = open_set call picks rests (λ telling. synced telling tt) untouched
  opened_so name entry mid (Err back) call picks rests synced untouched = tt

  -- ---- a book that was opened is shown

  pub shows_whole : (name : List ℕ) (wanted : Option (List ℕ)) (entry seen now : K) (status : ℕ) (book : BookValue K)
      → ((n : List ℕ) (e s : K) → Untouched n (told_as (state s) (state e)) (book_desk state book)
      → RefusesOrStops n (told_as (state s) (state e)) (state now) (history_text (outline book) book.past) SUCCEEDED status)
      → Untouched name (told_as (state seen) (state entry)) (book_desk state book) → HoldsBook name wanted (told_as (state seen) (state entry)) book
      → ShowsBook name wanted (told_as (state seen) (state entry)) (state now) status
  shows_whole name wanted entry seen now status book shows untouched holds =
      ⊎_elim (λ stops. unfound_show (unopened_book (exhausted stops)))
      (λ refuses. shown_whole book.contents book.plan book.past holds refuses)
      (shows name entry seen untouched)
