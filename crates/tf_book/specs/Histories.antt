-- How a book keeps its history in memory.
use Rattle.std.specs.Prelude.{◌≡◌, ◌<◌, ◌≤◌, ℕ, ◌+◌, List, [], ◌∷◌, ◌++◌, length, reverse, map, vec_len, vec_capacity, false}
use Rattle.std.specs.declared.snapshot.Snapshot.{Snapshot}
use Rattle.tf_states.specs.declared.record.Entry.{Entry}
use Rattle.tf_entries.specs.Entries.{entry_bytes}
use Rattle.tf_journal.specs.Format.{length_bytes, IsBody}
use Rattle.tf_book.specs.declared.history.History.{History}
use Rattle.tf_book.specs.declared.holding.Holding.{Holding}
use Rattle.tf_book.specs.declared.writing.Draft.{Draft}
use Rattle.tf_book.specs.Holding.{HasHoldingRoom}
use Rattle.tf_book.specs.SessionInvariant.{said}
use Rattle.tf_journal.specs.declared.title.Title.TheVariants.{Book2 as book_title}
use Rattle.tf_flow.specs.Plan.{PlanValue}
use Rattle.tf_model.specs.Plan.{outline_of}

-- the entry that a snapshot shows
abbrev pub entry_shown : Snapshot Entry → Entry
entry_shown s = s.value

-- the history that snapshots show, the newest entry first
abbrev pub past_shown : List (Snapshot Entry) → List Entry
past_shown snapshots = reverse (map entry_shown snapshots)

-- the bodies of a history, each behind its length
abbrev pub framed_bodies : List Entry → List ℕ
framed_bodies [] = []
framed_bodies (e ∷ past) = framed_bodies past ++ (length_bytes (length (entry_bytes e)) ++ entry_bytes e)

-- there is room for an entry with a body of that length
pub record HasEntryRoom (history : History) (len : ℕ) : Type 0 where
  pub entry : vec_len history.entries < vec_capacity history.entries
  pub body : vec_len history.bodies + 4 + len ≤ vec_capacity history.bodies

-- there is room for every history that a journal can hold
pub record HasAllRoom (history : History) : Type 0 where
  pub entries : 67108864 ≤ vec_capacity history.entries
  pub bodies : 67108864 ≤ vec_capacity history.bodies

-- just these entries are kept, the newest first, and there is room for every history that a journal can hold
pub record KeepsHistory (history : History) (past : List Entry) : Type 0 where
  pub entries : past_shown history.entries.items ≡ past
  pub bodies : history.bodies.items ≡ framed_bodies past
  pub room : HasAllRoom history

-- ---- what a book has room for

-- there is room for the body and the line of every entry
pub record HasDraftRoom (draft : Draft) : Type 0 where
  pub body : 131203 ≤ vec_capacity draft.body
  pub line : 1048576 ≤ vec_capacity draft.line

-- there is room for one more entry of a journal of that size, whatever it is: in the history, and for its body and its
-- line
pub record HasWriteRoom (size : ℕ) (history : History) (holding : Holding) (draft : Draft) : Type 0 where
  pub few : length history.entries.items ≤ 67108864
  pub fewer : length history.entries.items ≤ size
  pub fits : length history.bodies.items ≤ size
  pub marks : length holding.marks.items ≤ size
  pub all_room : HasAllRoom history
  pub holding_room : HasHoldingRoom holding
  pub draft_room : HasDraftRoom draft

-- ---- how the lines of a history are made from its bodies in memory

-- these bytes begin with a body behind its length
pub record BeginsWithBody (bytes body : List ℕ) : Type 0 where
  pub rest : List ℕ
  pub is : bytes ≡ length_bytes (length body) ++ (body ++ rest)
  pub is_body : IsBody book_title body

-- the lines of the oldest entries were made, and the bodies of the others are still to come
pub record HasLines (plan : PlanValue) (past : List Entry) (before made : List ℕ) (at number : ℕ) : Type 0 where
  pub newer : List Entry
  pub older : List Entry
  pub splits : past ≡ newer ++ older
  pub place : at ≡ length (framed_bodies older)
  pub counted : number ≡ length older
  pub lines : made ≡ before ++ said false (outline_of plan) [] older
