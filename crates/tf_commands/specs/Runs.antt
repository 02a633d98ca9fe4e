-- What a run of a book keeps, from the book on which it began to the desk that it left; no clause of the top call cites
-- it.
use Rattle.std.specs.Prelude.{◌≡◌, ◌≢◌, ◌⊎◌, ℕ, true, false, IsTrue, List, [], ◌++◌, Option, None}
use Rattle.tf_numbers.specs.Numbers.{Rises}
use Rattle.tf_desk.specs.State.{DeskState, Continues, Passes, Says, nothing_left}
use Rattle.tf_actions.specs.declared.orders.Order.{Order}
use Rattle.tf_actions.specs.declared.outcomes.Outcome.{Outcome}
use Rattle.tf_states.specs.declared.record.Entry.{Entry}
use Rattle.tf_states.specs.declared.state.FlowState.{FlowState}
use Rattle.tf_journal.specs.Format.{Recovered, LeavesBodies, LeavesEither}
use Rattle.tf_journal.specs.declared.title.Title.TheVariants.{Book2 as book_title}
use Rattle.tf_flow.specs.Plan.{PlanValue}
use Rattle.tf_details.specs.Elements.{IsHistoryOf, IsLegalBook, IsContents, with_entries, past_of}
use Rattle.tf_book.specs.Book.{BookValue, outline, bodies_with, flow_state}
use Rattle.tf_book.specs.SessionInvariant.{SessionInvariant, IsExact, StaysOffDisk}
use Rattle.tf_book.specs.Turns.{IsPutBackOn, IsTried, IsNextReset}
use Rattle.tf_bound.specs.Short.{AreShort, IsWithinLimits}
use Rattle.tf_book.specs.declared.faults.Halt.{Halt}
use Rattle.tf_book.specs.declared.faults.Halt.TheVariants as halt
use Rattle.tf_engines.specs.Runs.{IsSession}
use Rattle.tf_model.specs.Steps.{has_ended}
use Rattle.tf_ports.specs.Ports.{GivenBack, wanted as number_of, CrewTold}
use Rattle.tf_commands.specs.Books.{GoesOnBy, WereGiven, HasStopped, Unhired, Promised, IsFile, HoldsAsked, IsPendingSo, MayLeave, PutBack, MayRun, Ran}
use Rattle.tf_report.specs.Closing.{disk_fault_text, book_full, ClosesWith}
use Rattle.tf_report.specs.declared.statuses.TheConstants.{UNREAD, DISK_FAILED, UNSAID, UNHIRED, OUT_OF_MEMORY, FULL}
use Rattle.tf_commands.specs.declared.running.Request.{Request}

-- what was said of a halt, by why the book was halted, and how the command ends: a message, or nothing where the output
-- failed or memory ran out
abbrev pub SaysHalt : Option (List ℕ) → Option (List ℕ) → Halt → List ℕ → ℕ → Type 0
SaysHalt before now halt.Disk closing status =
    (closing ≡ disk_fault_text) × ClosesWith before disk_fault_text DISK_FAILED now status
SaysHalt before now halt.Out closing status = (closing ≡ []) × (status ≡ UNSAID) × (now ≡ before)
SaysHalt before now (halt.Full size need) closing status =
    ((closing ≡ []) × (status ≡ OUT_OF_MEMORY) × (now ≡ before))
    ⊎ ((closing ≡ book_full size need) × ClosesWith before (book_full size need) FULL now status)
SaysHalt before now halt.Memory closing status = (closing ≡ []) × (status ≡ OUT_OF_MEMORY) × (now ≡ before)

-- there is a message for it
abbrev pub HasMessage : Halt → Type 0
HasMessage halt.Disk = Unit {0}
HasMessage halt.Out = ⊥
HasMessage (halt.Full size need) = Unit {0}
HasMessage halt.Memory = ⊥

-- what was said of a halt on a desk: a message for it, or nothing
pub record HasSaidHalt (why : Halt) (old new : DeskState) (status : ℕ) : Type 0 where
  pub closing : List ℕ
  pub ends : SaysHalt old.shown new.shown why closing status
  pub says : Says closing old new
  pub how : HasMessage why ⊎ (IsTrue old.tells → Passes nothing_left old new)
  pub unsaid : status ≡ UNSAID → (why ≡ halt.Out) ⊎ Rises old.out_faults new.out_faults
  pub failed : status ≡ DISK_FAILED → why ≡ halt.Disk
  pub apart : (status ≢ UNREAD) × (status ≢ UNHIRED)

-- the file held the contents, the plan and the history of the book at entry, of the detail that is asked for
abbrev pub HoldsBook : {K : Type 0} → List ℕ → Option (List ℕ) → DeskState → BookValue K → Type 0
HoldsBook name wanted entry book = IsFile name entry (HoldsAsked wanted book.contents book.plan book.past)

-- the contents of a book are a legal book, in which its detail has the plan and the history
pub record IsHeld {K : Type 0} (plan : PlanValue) (book : BookValue K) : Type 0 where
  pub held : IsContents plan book.contents
  pub told : past_of book.contents ≡ book.past

-- what a status tells of a run or a reset: the output or the disk failed only where its count rose
pub record HasEnded (old new : DeskState) (status : ℕ) : Type 0 where
  pub unsaid : status ≡ UNSAID → Rises old.out_faults new.out_faults
  pub failed : status ≡ DISK_FAILED → Rises old.disk_faults new.disk_faults

module _ {K : Type 0} (state : K → DeskState) where
  -- the desk of a book
  abbrev pub book_desk : BookValue K → DeskState
  book_desk book = state book.journal.desk

  -- a run went from one book to another that stopped so, by hands that were given these orders
  pub record IsRunTo (gives : Order → Outcome → Type 0) (request : Request) (asked : Type 0)
      (did : List (Option (List Order))) (start now : BookValue K) (stop : Option FlowState) : Type 0 where
    pub kept : SessionInvariant state start now
    pub session : IsSession gives asked (number_of request.want) request.limit (outline start) start.past now.past stop
    pub history : IsHistoryOf start.plan now.past
    pub held : IsHeld start.plan now
    pub limits : IsWithinLimits (outline start)
    pub short_before : AreShort start.past
    pub short : AreShort now.past
    pub speaks : start.quiet ≡ request.quiet
    pub failed : IsTried (MayRun gives request start.plan now.past) now.halt now.failed
    pub orders_given : WereGiven (now.halt ≡ None) (outline start) start.past now.past did

  -- what a crash since the start may leave and now leaves, of a file that was found so at first, and each byte of a
  -- file that was known
  pub record RunLasts (may : List Entry → Entry → Type 0) (first : Recovered) (start : BookValue K) (now : DeskState)
      (entries : List Entry) (closing : List ℕ) : Type 0 where
    pub pending : List Entry
    pub few : IsPendingSo may start.plan (entries ++ start.past) pending (book_desk start) now
    pub legal : IsLegalBook (with_entries start.contents (pending ++ entries)).elements
    pub passes : Passes
        (MayLeave first start.contents start.plan start.quiet start.past entries pending
        (book_desk start).shown closing) (book_desk start) now
    pub leaves : LeavesEither book_title now (bodies_with start.contents entries)
        (bodies_with start.contents (pending ++ entries))
    pub exact : ¬ (Rises (book_desk start).disk_faults now.disk_faults) → IsExact (book_desk start) start.contents
        → IsExact now (with_entries start.contents entries)

  -- so it is where the desk tells, the book is kept in a file, and a crash at the start left just its bodies
  abbrev pub LastsFrom : (List Entry → Entry → Type 0) → BookValue K → DeskState → List Entry → List ℕ → Type 0
  LastsFrom may start now entries closing =
      IsTrue (book_desk start).tells → start.journal.volatile ≡ false
      → LeavesBodies book_title (book_desk start) (bodies_with start.contents [])
      → (first : Recovered) → RunLasts may first start now entries closing

  -- from the book on which a run began to the desk that it left, by hands that were given these orders
  pub record RunsOn (gives : Order → Outcome → Type 0) (request : Request) (asked : Type 0)
      (did : List (Option (List Order))) (start : BookValue K) (now : DeskState) (status : ℕ) : Type 0 where
    pub entries : List Entry
    pub stop : Option FlowState
    pub closing : List ℕ
    pub lasts : LastsFrom (MayRun gives request start.plan) start now entries closing
    pub ran : Ran gives request asked start.contents start.plan start.past entries stop
        (book_desk start).shown now.shown closing status
    pub orders_given : WereGiven (HasStopped status) (outline start) start.past (entries ++ start.past) did
    pub continues : Continues (book_desk start) now
    pub off_disk : start.journal.volatile ≡ true → StaysOffDisk (book_desk start) now
    pub ended : HasEnded (book_desk start) now status

  -- the flow of a book is put back: some of what that records was recorded
  pub record IsPutBackTo (start now : BookValue K) : Type 0 where
    pub kept : SessionInvariant state start now
    pub put : IsPutBackOn (outline start) start.past now.past
    pub speaks : start.quiet ≡ false
    pub failed : IsTried (IsNextReset (outline start) now.past) now.halt now.failed

  -- from the book whose flow is put back to the desk that it left
  pub record GoesBack (start : BookValue K) (now : DeskState) (status : ℕ) : Type 0 where
    pub entries : List Entry
    pub closing : List ℕ
    pub lasts : LastsFrom (IsNextReset (outline start)) start now entries closing
    pub put_back : PutBack start.contents start.plan start.past entries (book_desk start).shown now.shown closing status
    pub continues : Continues (book_desk start) now
    pub ended : HasEnded (book_desk start) now status

-- a book that was opened goes on: with hands, or without any where its flow had ended; or they couldn't be hired
pub data GoesFurther {K : Type 0} (gives : Order → Outcome → Type 0) (request : Request) (asked : Type 0)
    (name : List ℕ) (entry : DeskState) (book : BookValue K)
    (crew crew_after : CrewTold) (now : DeskState) (status : ℕ) : Type 0 where
  nobody : has_ended (flow_state book) ≡ false → Unhired name entry now crew crew_after status
      → GoesFurther gives request asked name entry book crew crew_after now status
  went_on : (back : GivenBack) → GoesOnBy (flow_state book) request.want crew crew_after back
      → Promised gives request asked back name book.contents book.plan book.past entry now status
      → GoesFurther gives request asked name entry book crew crew_after now status
