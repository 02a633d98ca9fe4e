-- What stays true of a book from the start of a session on, and how an entry is logged.
use Rattle.std.specs.Prelude.{IsTrue, ◌≡◌, ◌⊎◌, ◌<◌, ◌≤◌, ℕ, ◌+◌, Bool, true, false, List, [], ◌∷◌, ◌++◌, Option, Some, Result, Ok, Err, if◌then◌else◌, length, ◌≢◌, None, vec_capacity}
use Rattle.tf_numbers.specs.Numbers.{Rises}
use Rattle.tf_desk.specs.Crash.{Pairs, shown_with, ShowsPrefix}
use Rattle.tf_desk.specs.State.{DeskState, bytes_now, Passes, Continues, IsUnasked}
use Rattle.tf_journal.specs.Format.{SIZE_LIMIT, bodies, journal_bytes, recovered, Held, IsAtRest, AtRest, LeavesEither, LeavesBodies, length_bytes, IsBody}
use Rattle.tf_book.specs.declared.faults.Halt.{Halt}
use Rattle.tf_book.specs.declared.faults.Halt.TheVariants as halt
use Rattle.tf_flow.specs.Plan.{PlanValue}
use Rattle.tf_states.specs.declared.record.Entry.{Entry}
use Rattle.tf_states.specs.declared.state.FlowState.TheVariants as flow
use Rattle.tf_journal.specs.declared.title.Title.{Title}
use Rattle.tf_journal.specs.declared.title.Title.TheVariants.{Book2 as book_title}
use Rattle.tf_model.specs.History.{snapshot}
use Rattle.tf_model.specs.Plan.{Outline, outline_of}
use Rattle.tf_model.specs.Steps.{Step}
use Rattle.tf_report.specs.Lines.{line, table}
use Rattle.tf_details.specs.Elements.{IsForm, Contents, with_entries}
use Rattle.tf_book.specs.Book.{BookValue, flow_state, entry_body, bodies_with, size_of}

-- ---- how one body is appended, and its line is said once no crash can take the body away

-- what is said of a line: nothing where the book is quiet
abbrev pub said_of : Bool → List ℕ → List ℕ
said_of quiet line = if quiet then [] else line

-- the body was appended, whether its line was said or was cut
abbrev pub is_logged : Result (Unit {0}) Halt → Bool
is_logged (Ok u) = true
is_logged (Err halt.Out) = true
is_logged (Err other) = false

-- the journal after a body of that length was to be appended, with the desk as it is then
abbrev pub journal_after : {K : Type 0} → Held K → K → ℕ → Result (Unit {0}) Halt → Held K
journal_after old desk n (Ok u) = record old { desk = desk; size = old.size + 5 + n }
journal_after old desk n (Err halt.Out) = record old { desk = desk; size = old.size + 5 + n }
journal_after old desk n (Err halt.Disk) = record old { desk = desk; halted = true }
journal_after old desk n (Err (halt.Full size need)) = old
journal_after old desk n (Err halt.Memory) = old

-- the line was said; or a prefix of it, where the output failed; or nothing, where the body wasn't appended
abbrev pub IsSaid : Option (List ℕ) → List ℕ → Option (List ℕ) → Result (Unit {0}) Halt → Type 0
IsSaid before line after (Ok u) = after ≡ shown_with before line
IsSaid before line after (Err halt.Out) = ShowsPrefix before line after
IsSaid before line after (Err other) = after ≡ before

-- a fault of the disk or of the output comes only where its count rose, and Full only where the size and what is needed
-- pass the limit; want of memory never comes
abbrev pub IsCaused : DeskState → DeskState → (size n : ℕ) → Result (Unit {0}) Halt → Type 0
IsCaused old new size n (Ok u) = Unit {0}
IsCaused old new size n (Err halt.Disk) = Rises old.disk_faults new.disk_faults
IsCaused old new size n (Err halt.Out) = Rises old.out_faults new.out_faults
IsCaused old new size n (Err (halt.Full now need)) = (now ≡ size) × (need ≡ 5 + n) × (SIZE_LIMIT < now + need)
IsCaused old new size n (Err halt.Memory) = ⊥

-- why a line wasn't said to its end: the output failed, so that its count rose
abbrev pub FailsToSay : Halt → DeskState → DeskState → Type 0
FailsToSay why old new = (why ≡ halt.Out) × Rises old.out_faults new.out_faults

-- a crash inside leaves the bodies from before and nothing more shown, or the new one too and a prefix of its line
-- shown
abbrev pub LeavesLogged : Title → List (List ℕ) → List ℕ → List ℕ → Option (List ℕ) → Pairs
LeavesLogged title held new line shown image text =
    ((recovered title image ≡ bodies held) × (shown ≡ Some text))
    ⊎ ((recovered title image ≡ bodies (held ++ new ∷ [])) × ShowsPrefix shown line (Some text))

-- the file has the body, and is at rest; a file of just the bodies before has just it more
pub record Logs {K : Type 0} (state : K → DeskState) (body : List ℕ) (old new : Held K)
    (held : List (List ℕ)) : Type 0 where
  pub rest : IsAtRest state new (held ++ body ∷ [])
  pub exact : bytes_now (state old.desk) ≡ journal_bytes old.title held
      → bytes_now (state new.desk) ≡ journal_bytes old.title (held ++ body ∷ [])

-- a crash inside or after it leaves the bodies from before, with the new one or without, and shows the line only with
-- the new one
pub record LogsAtMost {K : Type 0} (state : K → DeskState) (body line : List ℕ) (old new : Held K)
    (held : List (List ℕ)) : Type 0 where
  pub crash : Passes (LeavesLogged old.title held body line (state old.desk).shown) (state old.desk) (state new.desk)
  pub leaves : LeavesEither old.title (state new.desk) held (held ++ body ∷ [])

-- no file changed, none was picked or synced, and the disk had no fault
pub record StaysOffDisk (old new : DeskState) : Type 0 where
  pub files : IsTrue old.tells → (new.content.files ≡ old.content.files) × (new.content.marks ≡ old.content.marks)
  pub disk_faults : new.disk_faults ≡ old.disk_faults

-- a body was to be appended, and its line said after it; nothing else was done
pub record Logged {K : Type 0} (state : K → DeskState) (body line : List ℕ) (old new : Held K)
    (result : Result (Unit {0}) Halt) : Type 0 where
  pub journal : new ≡ journal_after old new.desk (length body) result
  pub text : IsSaid (state old.desk).shown line (state new.desk).shown result
  pub cause : IsCaused (state old.desk) (state new.desk) old.size (length body) result
  pub limit : is_logged result ≡ true → new.size ≤ SIZE_LIMIT
  pub continues : Continues (state old.desk) (state new.desk)
  pub unasked : IsUnasked (state old.desk) (state new.desk)
  pub off_disk : old.volatile ≡ true → StaysOffDisk (state old.desk) (state new.desk)
  pub records : is_logged result ≡ true → AtRest state old (Logs state body old new)
  pub at_most : AtRest state old (LogsAtMost state body line old new)

-- ---- what stays true of a book from the start of a session on: what is recorded since, what is shown, what a crash may leave, and why the book was halted

-- what is said of the entries recorded after a history, the oldest first; entries are numbered from 1
abbrev pub said : Bool → Outline → List Entry → List Entry → List ℕ
said quiet plan before [] = []
said quiet plan before (e ∷ entries) =
    said quiet plan before entries ++ said_of quiet (line plan (length (entries ++ before) + 1) e)

-- the line of the newest entry couldn't be said to its end
abbrev pub IsCut : Bool → Outline → List Entry → Option (List ℕ) → List Entry → Option (List ℕ) → Type 0
IsCut quiet plan before shown [] now = ⊥
IsCut quiet plan before shown (e ∷ entries) now =
    ShowsPrefix (shown_with shown (said quiet plan before entries))
    (said_of quiet (line plan (length (entries ++ before) + 1) e)) now

-- the shown text: what was shown at the start and what is said of the entries; cut in the newest line where the output
-- failed
abbrev pub IsSpoken : Bool → Outline → List Entry → Option (List ℕ) → List Entry → Option Halt → Option (List ℕ)
    → Type 0
IsSpoken quiet plan before shown entries (Some halt.Out) now = IsCut quiet plan before shown entries now
IsSpoken quiet plan before shown entries other now = now ≡ shown_with shown (said quiet plan before entries)

-- a crash left this image and this text: recovery gives what the file held at the start with some of the entries after
-- it, the oldest, the pending one the last; and what is shown is the text at the start and a prefix of what is said of
-- these
pub record LeavesEntries (contents : Contents) (plan : PlanValue) (quiet : Bool) (before entries : List Entry)
    (shown : Option (List ℕ)) (image text : List ℕ) : Type 0 where
  pub lost : List Entry
  pub kept : List Entry
  pub splits : entries ≡ lost ++ kept
  pub recovers : recovered book_title image ≡ bodies (bodies_with contents kept)
  pub spoken : ShowsPrefix shown (said quiet (outline_of plan) before kept) (Some text)

-- nothing, or one entry of this kind that may follow the history and has a form that a book can read again
pub data MayFollow (is_so : Entry → Type 0) (plan : PlanValue) (past : List Entry) : List Entry → Type 0 where
  nothing_more : MayFollow is_so plan past []
  one_more : (e : Entry) → Step (outline_of plan) (snapshot (outline_of plan) past) e → IsForm e → is_so e
      → MayFollow is_so plan past (e ∷ [])

-- it is the entry that couldn't be recorded
abbrev pub HasFailed : Option Entry → Entry → Type 0
HasFailed failed e = failed ≡ Some e

-- at most one entry is pending behind the history, the one that couldn't be recorded, and only after a fault of the
-- disk in its append
abbrev pub IsPending : PlanValue → List Entry → Option Halt → Option Entry → List Entry → Type 0
IsPending plan past (Some halt.Disk) failed pending = MayFollow (HasFailed failed) plan past pending
IsPending plan past other failed pending = pending ≡ []

-- since the start a crash left no more than that; and where one at the start left just the bodies that the file held
-- then, one now leaves those with all entries behind them, or the pending one too
pub record OutlastsCrash (contents : Contents) (plan : PlanValue) (quiet : Bool) (before entries : List Entry)
    (halted : Option Halt) (failed : Option Entry) (old now : DeskState) : Type 0 where
  pub pending : List Entry
  pub few : IsPending plan (entries ++ before) halted failed pending
  pub passes : Passes (LeavesEntries contents plan quiet before (pending ++ entries) old.shown) old now
  pub left : LeavesBodies book_title old (bodies_with contents [])
      → LeavesEither book_title now (bodies_with contents entries) (bodies_with contents (pending ++ entries))

-- the picked file has just the journal of these contents
abbrev pub IsExact : DeskState → Contents → Type 0
IsExact now contents = bytes_now now ≡ journal_bytes book_title (bodies_with contents [])

-- the record of an entry of this kind that may follow, with a form that a book can read again, would have made the
-- journal longer than its limit
pub record IsFullFor (is_so : Entry → Type 0) (contents : Contents) (plan : PlanValue) (past : List Entry)
    (size need : ℕ) : Type 0 where
  pub entry : Entry
  pub so : is_so entry
  pub step : Step (outline_of plan) (snapshot (outline_of plan) past) entry
  pub form : IsForm entry
  pub size_is : size ≡ size_of contents
  pub need_is : need ≡ 5 + length (entry_body contents.number entry)
  pub over : SIZE_LIMIT < size + need

-- why it was halted: the disk or the output failed, so that its count rose, or the journal is full for the entry that
-- couldn't be recorded; want of memory has no cause that is told
abbrev pub HasCause : Contents → PlanValue → List Entry → DeskState → DeskState → Option Entry → Option Halt → Type 0
HasCause contents plan past old now failed None = Unit {0}
HasCause contents plan past old now failed (Some halt.Disk) = Rises old.disk_faults now.disk_faults
HasCause contents plan past old now failed (Some halt.Out) = Rises old.out_faults now.out_faults
HasCause contents plan past old now failed (Some (halt.Full size need)) =
    IsFullFor (HasFailed failed) contents plan past size need
HasCause contents plan past old now failed (Some halt.Memory) = Unit {0}

module _ {K : Type 0} (state : K → DeskState) where
  -- from the start until now: the entries recorded since, which the file holds behind what it held; the plan and the
  -- kind of book stay; and the facts
  pub record SessionInvariant (start now : BookValue K) : Type 0 where
    pub entries : List Entry
    pub recorded : now.past ≡ entries ++ start.past
    pub held : now.contents ≡ with_entries start.contents entries
    pub plan : now.plan ≡ start.plan
    pub quiet : now.quiet ≡ start.quiet
    pub volatile : now.journal.volatile ≡ start.journal.volatile
    pub continues : Continues (state start.journal.desk) (state now.journal.desk)
    pub off_disk : start.journal.volatile ≡ true → StaysOffDisk (state start.journal.desk) (state now.journal.desk)
    pub text : IsSpoken start.quiet (outline_of start.plan) start.past (state start.journal.desk).shown entries now.halt
        (state now.journal.desk).shown
    pub crash : IsTrue (state start.journal.desk).tells → start.journal.volatile ≡ false
        → OutlastsCrash start.contents start.plan start.quiet start.past entries now.halt now.failed
        (state start.journal.desk) (state now.journal.desk)
    pub exact : IsTrue (state start.journal.desk).tells → start.journal.volatile ≡ false → now.journal.halted ≡ false
        → IsExact (state start.journal.desk) start.contents → IsExact (state now.journal.desk) now.contents
    pub cause : HasCause now.contents start.plan now.past (state start.journal.desk)
        (state now.journal.desk) now.failed now.halt

  -- a call that records: the plan and the limit stay, nobody was asked, and for every start what was kept stays kept
  pub record Proceeds (old new : BookValue K) : Type 0 where
    pub plan : new.plan ≡ old.plan
    pub limit : new.limit ≡ old.limit
    pub unasked : IsUnasked (state old.journal.desk) (state new.journal.desk)
    pub keeps : (start : BookValue K) → SessionInvariant start old → SessionInvariant start new

  -- a hand's turn: the same, but that in RUNNING the desk is asked, unless the book is halted
  pub record TakesTurn (old new : BookValue K) : Type 0 where
    pub plan : new.plan ≡ old.plan
    pub limit : new.limit ≡ old.limit
    pub asks : (state old.journal.desk).asks ≤ (state new.journal.desk).asks
    pub turns : (state old.journal.desk).turns ≤ (state new.journal.desk).turns
    pub turned : old.halt ≡ None → flow_state old ≡ flow.Running
        → Rises (state old.journal.desk).turns (state new.journal.desk).turns
    pub unasked : flow_state old ≢ flow.Running → IsUnasked (state old.journal.desk) (state new.journal.desk)
    pub keeps : (start : BookValue K) → SessionInvariant start old → SessionInvariant start new

-- ---- what is said of a whole history

-- the lines of a whole history, numbered from 1, and the table of this moment
abbrev pub history_text : Outline → List Entry → List ℕ
history_text plan past = said false plan [] past ++ table plan (snapshot plan past)
