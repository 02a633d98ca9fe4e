-- How many entries a history has, the history after an entry, and the room for one more.
use Rattle.std.proofs.Common.{◌≡◌, ◌≤◌, ◌<◌, ℕ, ◌+◌, List, [], ◌∷◌, ◌++◌, length, Bool, true, false, refl, ap, ◌∙◌, arith, length-append}
use Rattle.std.specs.Prelude.{map, nat_eq, vec_len, vec_capacity, Result, if◌then◌else◌}
use Rattle.std.specs.declared.snapshot.Snapshot.{Snapshot}
use Rattle.tf_states.specs.declared.record.Entry.{Entry}
use Rattle.std.proofs.lemmas.List.{length-map, length-reverse}
use Rattle.tf_entries.specs.Entries.{entry_bytes}
use Rattle.tf_entries.specs.Heads.{head_bytes}
use Rattle.tf_entries.specs.declared.heads.Head.TheVariants as head
use Rattle.tf_journal.specs.Format.{length_bytes}
use Rattle.tf_details.specs.Elements.{Element, detail, entry, history, book_size}
use Rattle.tf_book.specs.Histories.{entry_shown, past_shown, framed_bodies, HasEntryRoom, HasAllRoom}
use Rattle.tf_book.specs.Holding.{HasHoldingRoom}
use Rattle.tf_book.specs.SessionInvariant.{is_logged}
use Rattle.tf_book.specs.declared.holding.Holding.{Holding}
use Rattle.tf_book.specs.declared.history.History.{History}
use Rattle.tf_book.specs.Recording.{past_after}
use Rattle.tf_book.specs.declared.faults.Halt.{Halt}

-- as many entries as snapshots
pub past_long : (snapshots : List (Snapshot Entry)) → length (past_shown snapshots) ≡ length snapshots
past_long snapshots = length-reverse (map entry_shown snapshots) ∙ length-map snapshots entry_shown

-- an entry more takes its length and its bytes, if it is one of the detail
framed_more : (b : Bool) (e : Entry) (past : List Entry) → length (framed_bodies (if b then e ∷ past else past)) ≤ length (framed_bodies past) + 4 + length (entry_bytes e)
framed_more true e past =
    omega (arith, length-append (framed_bodies past) (length_bytes (length (entry_bytes e)) ++ entry_bytes e), length-append (length_bytes (length (entry_bytes e))) (entry_bytes e))
framed_more false e past = omega arith

-- the bodies in memory of the history of a detail have fewer bytes than the journal
pub framed_short : (number : ℕ) (elements : List Element) → length (framed_bodies (history number elements)) ≤ book_size elements
framed_short number [] = omega arith
framed_short number (detail plan ∷ before) = omega (arith, framed_short number before)
framed_short number (entry its e ∷ before) =
    omega (arith, framed_short number before, framed_more (nat_eq its number) e (history number before), length-append (head_bytes (head.Entry its)) (entry_bytes e))

-- the history after an entry that was to be recorded
pub past_turned : (r : Result (Unit {0}) Halt) (e : Entry) (old new : List (Snapshot Entry)) → (is_logged r ≡ true → past_shown new ≡ e ∷ past_shown old) → (is_logged r ≡ false → new ≡ old)
    → past_shown new ≡ past_after e (past_shown old) r
past_turned r e old new on off = by (is_logged r) refl
  where
    by : (b : Bool) → is_logged r ≡ b → past_shown new ≡ (if b then e ∷ past_shown old else past_shown old)
    by true is = on is
    by false is = ap past_shown (off is)

-- where the journal has room for one more body, so has the history
pub room_for : (history : History) (size len : ℕ) → HasAllRoom history → length history.entries.items ≤ size → length history.bodies.items ≤ size → size + 5 + len ≤ 67108864 → HasEntryRoom history len
room_for history size len all few fits within = record { entry = omega (arith, all.entries); body = omega (arith, all.bodies) }

-- and so has what the file holds
pub room_held : (holding : Holding) (size len : ℕ) → HasHoldingRoom holding → length holding.marks.items ≤ size → size + 5 + len ≤ 67108864 → vec_len holding.marks < vec_capacity holding.marks
room_held holding size len all fits within = omega (arith, all.marks)
