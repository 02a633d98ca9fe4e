-- A book that several hands share, and what its type keeps since the session's start. Histories have the newest entry
-- first.
use Rattle.std.specs.Prelude.{◌≡◌, ℕ, ◌≤◌, Bool, true, false, List, [], ◌∷◌, ◌++◌, not, reverse, Option}
use Rattle.std.specs.List.{list_all}
use Rattle.tf_desk.specs.State.{DeskState}
use Rattle.tf_numbers.specs.Numbers.{Rises}
use Rattle.tf_actions.specs.declared.orders.Order.{Order}
use Rattle.tf_actions.specs.declared.outcomes.Outcome.{Outcome}
use Rattle.tf_states.specs.declared.record.Entry.{Entry}
use Rattle.tf_hands.specs.Hands.{is_resuming}
use Rattle.tf_model.specs.History.{flow_of, snapshot}
use Rattle.tf_model.specs.Steps.{entering, has_ended, is_still}
use Rattle.tf_book.specs.Book.{BookValue, outline}
use Rattle.tf_book.specs.SessionInvariant.{SessionInvariant}
use Rattle.tf_turnstile.specs.Passes.{TurnstileValue, PassValue}
use Rattle.tf_engines.specs.Runs.{MightRecord, StandsBetween}

-- the book before it was entered, and the book now; the session's limit of entries, if it has one; and how many hands
-- there are
pub record SharedValue (K : Type 0) : Type 0 where
  pub start : BookValue K
  pub now : BookValue K
  pub limit : Option ℕ
  pub number : ℕ

-- ---- entries with their hands

-- the entries of a history, each with the hand that recorded it, the oldest first
abbrev pub numbered : List Entry → List (ℕ × Entry)
numbered [] = []
numbered (e ∷ past) = numbered past ++ (e.hand, e) ∷ []

-- and back
abbrev pub unnumbered : List (ℕ × Entry) → List Entry
unnumbered [] = []
unnumbered (p ∷ entries) = unnumbered entries ++ p.1 ∷ []

-- what a shared book may never change
abbrev pub origin_of : {K : Type 0} → SharedValue K → BookValue K × Option ℕ × ℕ
origin_of s = (s.start, s.limit, s.number)

-- its entries, each with the hand that recorded it
abbrev pub entries_of : {K : Type 0} → SharedValue K → List (ℕ × Entry)
entries_of s = numbered s.now.past

-- the history that a pass has seen
abbrev pub seen_past : {K : Type 0} → TurnstileValue (SharedValue K) → PassValue (SharedValue K) Entry → List Entry
seen_past turnstile pass = unnumbered pass.seen ++ turnstile.start.now.past

-- ---- the session

-- the history with which a session is entered from another one
abbrev pub entered_past : List Entry → List Entry
entered_past before = reverse (entering (flow_of before)) ++ before

-- the entry isn't RESUMING
abbrev pub is_unresumed : Entry → Bool
is_unresumed e = not (is_resuming e.what)

-- what came after the session was entered, in which nobody resumes
pub record IsInside (before past : List Entry) : Type 0 where
  pub later : List Entry
  pub recorded : past ≡ later ++ entered_past before
  pub unresumed : list_all is_unresumed later ≡ true

-- the shared book as its session was entered: nothing is in flight
pub record IsJustEntered {K : Type 0} (s : SharedValue K) : Type 0 where
  pub begun : has_ended (flow_of s.start.past) ≡ false
  pub fresh : s.now.past ≡ entered_past s.start.past
  pub still : is_still (outline s.start) (snapshot (outline s.start) s.now.past) ≡ true

module _ {K : Type 0} (state : K → DeskState) (gives : Order → Outcome → Type 0) where
  -- since the session's start: to every earlier start to which the book had kept it still keeps; the plan stays; where
  -- the disk or a full journal halted it, the entry that couldn't be recorded was one that may be; the count of stops
  -- didn't fall; the session stands as one of its hands with outcomes that they may give; and nobody resumes in it
  pub record IsShared (s : SharedValue K) : Type 0 where
    pub keeps : (earlier : BookValue K) → SessionInvariant state earlier s.start → SessionInvariant state earlier s.now
    pub plan : s.now.plan ≡ s.start.plan
    pub failed : MightRecord gives s.number s.now
    pub asks : (state s.start.journal.desk).asks ≤ (state s.now.journal.desk).asks
    pub stands : StandsBetween gives
        (Rises (state s.start.journal.desk).asks (state s.now.journal.desk).asks) s.number s.limit
        (outline s.start) s.start.past s.now.past s.now.limit
    pub inside : IsInside s.start.past s.now.past
    pub number : s.number ≤ 64
