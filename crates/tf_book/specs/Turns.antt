-- What the calls of a book record, and what they answer. Histories have the newest entry first.
use Rattle.std.specs.Prelude.{◌≡◌, ℕ, ◌+◌, Bool, true, false, ◌||◌, nat_le, Option, Some, None, ◌⊎◌, ◌<◌, ◌-◌, List, [], ◌∷◌, ◌++◌, length, map, reverse, is_some, if◌then◌else◌, ◌&&◌}
use Rattle.tf_numbers.specs.Numbers.{Rises, all_below}
use Rattle.tf_actions.specs.Gives.{IsWhole}
use Rattle.tf_actions.specs.declared.orders.Order.{Order}
use Rattle.tf_actions.specs.declared.outcomes.Outcome.{Outcome}
use Rattle.tf_states.specs.declared.record.Entry.{Entry}
use Rattle.tf_states.specs.declared.record.What.{What}
use Rattle.tf_states.specs.declared.record.What.TheVariants as what
use Rattle.tf_states.specs.declared.state.FlowState.{FlowState}
use Rattle.tf_states.specs.declared.state.FlowState.TheVariants as flow
use Rattle.tf_hands.specs.Hands.{start_entry, action_in, task_of, end_by, by_hand, is_no_end}
use Rattle.tf_hands.specs.declared.starts.Start.{Start}
use Rattle.tf_model.specs.Forced.{choice, end_of, forced}
use Rattle.tf_model.specs.History.{flow_of, snapshot, Snapshot, flow_is_reverted}
use Rattle.tf_model.specs.Scope.{order_of}
use Rattle.tf_model.specs.Plan.{Outline, count}
use Rattle.tf_model.specs.Steps.{entering, has_ended, is_last, is_still, reset, is_settled_at}
use Rattle.tf_book.specs.declared.turn.Entered.{Entered}
use Rattle.tf_book.specs.declared.turn.Entered.TheVariants as entered
use Rattle.tf_book.specs.declared.turn.Turn.{Turn}
use Rattle.tf_book.specs.declared.turn.Turn.TheVariants as turn
use Rattle.tf_book.specs.Book.{BookValue, outline}
use Rattle.tf_book.specs.declared.faults.Halt.{Halt}
use Rattle.tf_book.specs.declared.faults.Halt.TheVariants as halt

-- ---- when a session is to stop: a stop was asked for, or its limit of entries is reached

-- the length of the history at which a session is to stop that began at that length, and has this limit of entries
abbrev pub limit_from : Option ℕ → ℕ → Option ℕ
limit_from None begun = None
limit_from (Some limit) begun = Some (begun + limit)

-- so many entries reach the limit
abbrev pub is_reached : Option ℕ → ℕ → Bool
is_reached None count = false
is_reached (Some limit) count = nat_le limit count

-- a session is to stop, at a history of that length: a stop was asked for, or its limit is reached
abbrev pub is_to_stop : Bool → Option ℕ → ℕ → Bool
is_to_stop asked limit count = asked || is_reached limit count

-- the count of stops tells whether one was asked for: it rose, or it stayed
abbrev pub IsAnswered : Bool → ℕ → ℕ → Type 0
IsAnswered true before after = Rises before after
IsAnswered false before after = after ≡ before

-- ---- what the calls of a book record, and what they answer
-- Histories have the newest entry first.

-- ---- entering

-- an entry by that hand
abbrev pub with_hand : ℕ → Entry → Entry
with_hand hand e = record e { hand = hand }

-- what a session enters with, the first entry first, by that hand
abbrev pub entering_by : ℕ → FlowState → List Entry
entering_by hand state = map (with_hand hand) (entering state)

-- some of what it enters with was recorded, the first entries
pub record IsEntering (hand : ℕ) (past after : List Entry) : Type 0 where
  pub some : List Entry
  pub others : List Entry
  pub prefix : entering_by hand (flow_of past) ≡ some ++ others
  pub is : after ≡ reverse some ++ past

-- a session was entered: the flow hadn't ended, and all of it was recorded; or the flow had ended, and nothing was
abbrev pub IsEntered : ℕ → List Entry → List Entry → Entered → Type 0
IsEntered hand past after entered.Running =
    (has_ended (flow_of past) ≡ false) × (after ≡ reverse (entering_by hand (flow_of past)) ++ past)
IsEntered hand past after (entered.Ended state) = (flow_of past ≡ state) × (has_ended state ≡ true) × (after ≡ past)

-- ---- turns

-- each of these entries after a history is the forced one at its place, by that hand, where the session wasn't to stop
abbrev pub AreForced : Outline → ℕ → Bool → Option ℕ → List Entry → List Entry → Type 0
AreForced plan hand asked limit [] past = Unit {0}
AreForced plan hand asked limit (e ∷ entries) past =
    (e.hand ≡ hand) × (forced plan (snapshot plan (entries ++ past)) ≡ Some e.what)
    × (is_to_stop asked limit (length (entries ++ past)) ≡ false)
    × AreForced plan hand asked limit entries past

-- entries were recorded that were forced, one after another, while the session wasn't to stop
pub record IsForcedOn (plan : Outline) (hand : ℕ) (asked : Bool) (limit : Option ℕ)
    (past after : List Entry) : Type 0 where
  pub entries : List Entry
  pub are : AreForced plan hand asked limit entries past
  pub is : after ≡ entries ++ past

-- they were recorded until no more was forced; the flow is RUNNING, and the session isn't to stop
pub record RanOn (plan : Outline) (hand : ℕ) (asked : Bool) (limit : Option ℕ)
    (past between : List Entry) : Type 0 where
  pub on : IsForcedOn plan hand asked limit past between
  pub running : flow_of between ≡ flow.Running
  pub unforced : forced plan (snapshot plan between) ≡ None
  pub unstopped : is_to_stop asked limit (length between) ≡ false

-- they were recorded until the session was to stop; the flow is RUNNING
pub record RanUntilStop (plan : Outline) (hand : ℕ) (asked : Bool) (limit : Option ℕ)
    (past between : List Entry) : Type 0 where
  pub on : IsForcedOn plan hand asked limit past between
  pub running : flow_of between ≡ flow.Running
  pub stops : is_to_stop asked limit (length between) ≡ true

-- the first candidate was taken up, with this order
pub record TakesUp (plan : Outline) (hand : ℕ) (past after : List Entry) (start : Start) (order : Order) : Type 0 where
  pub chosen : choice plan (snapshot plan past) ≡ Some (start_entry start)
  pub action : start.action ≡ action_in ((snapshot plan past).state start.atom)
  pub asked : order_of plan (snapshot plan past) start.atom start.action ≡ Some order
  pub is : after ≡ by_hand hand (start_entry start) ∷ past

-- the same with some order
pub record IsStartedSo (plan : Outline) (hand : ℕ) (past after : List Entry) (start : Start) : Type 0 where
  pub order : Order
  pub takes : TakesUp plan hand past after start order

-- the answer is that order, and a performer may be asked for it
abbrev pub IsStartOf : Outline → ℕ → List Entry → List Entry → Start → Turn → Type 0
IsStartOf plan hand past after start (turn.Start order) = TakesUp plan hand past after start order × IsWhole order
IsStartOf plan hand past after start other = ⊥

-- forced entries were recorded until no more was forced, and then the first candidate was taken up, with this order
pub record IsStarted (plan : Outline) (hand : ℕ) (asked : Bool) (limit : Option ℕ) (past after : List Entry)
    (order : Order) : Type 0 where
  pub between : List Entry
  pub ran : RanOn plan hand asked limit past between
  pub start : Start
  pub takes : TakesUp plan hand between after start order

-- the end was recorded, where nothing is in flight
pub record IsEndOf (plan : Outline) (hand : ℕ) (past after : List Entry) (state : FlowState) : Type 0 where
  pub still : is_still plan (snapshot plan past) ≡ true
  pub ends : end_of plan (snapshot plan past) ≡ Some state
  pub is : after ≡ by_hand hand (what.Flow state) ∷ past

-- in SUSPENDING the suspension was recorded, where nothing is in flight and there is no end
pub record IsSuspensionOf (plan : Outline) (hand : ℕ) (past after : List Entry) : Type 0 where
  pub suspending : flow_of past ≡ flow.Suspending
  pub still : is_still plan (snapshot plan past) ≡ true
  pub endless : end_of plan (snapshot plan past) ≡ None
  pub is : after ≡ by_hand hand (what.Flow flow.Suspended) ∷ past

-- what a hand answers that finds nothing to take up: it waits while a task is in flight; else the run ends or is
-- suspended
abbrev pub HasRested : Outline → ℕ → List Entry → List Entry → Turn → Type 0
HasRested plan hand past after (turn.Start order) = ⊥
HasRested plan hand past after turn.Idle = (is_still plan (snapshot plan past) ≡ false) × (after ≡ past)
HasRested plan hand past after (turn.Ended state) = IsEndOf plan hand past after state
HasRested plan hand past after turn.Suspended = IsSuspensionOf plan hand past after

-- one of these two was recorded, or nothing
pub data IsClosedOr (plan : Outline) (hand : ℕ) (past after : List Entry) : Type 0 where
  stays : after ≡ past → IsClosedOr plan hand past after
  ended : (state : FlowState) → IsEndOf plan hand past after state → IsClosedOr plan hand past after
  suspended : IsSuspensionOf plan hand past after → IsClosedOr plan hand past after

-- the end that may be recorded: there is none while a task is in flight
abbrev pub end_now : Outline → Snapshot → Option FlowState
end_now plan s = if is_still plan s then end_of plan s else None

-- SUSPENDING by that hand, after a history
abbrev pub suspending_after : ℕ → List Entry → List Entry
suspending_after hand past = by_hand hand (what.Flow flow.Suspending) ∷ past

-- what comes in RUNNING where the session is to stop: at an end that may be recorded, the end; else SUSPENDING, and
-- what comes in it
abbrev pub HasStopped : Outline → ℕ → List Entry → List Entry → Turn → Type 0
HasStopped plan hand past after answer =
    ((is_some (end_now plan (snapshot plan past)) ≡ true) × HasRested plan hand past after answer)
    ⊎ ((end_now plan (snapshot plan past) ≡ None) × HasRested plan hand (suspending_after hand past) after answer)

-- the same where it was halted: perhaps nothing was recorded
abbrev pub IsStoppedOr : Outline → ℕ → List Entry → List Entry → Type 0
IsStoppedOr plan hand past after =
    ((is_some (end_now plan (snapshot plan past)) ≡ true) × IsClosedOr plan hand past after)
    ⊎ ((end_now plan (snapshot plan past) ≡ None)
    × (IsClosedOr plan hand (suspending_after hand past) after ⊎ (after ≡ past)))

-- a session that was to stop where no end may be recorded: SUSPENDING was recorded
pub record IsToSuspend (plan : Outline) (hand : ℕ) (asked : Bool) (limit : Option ℕ)
    (past between : List Entry) : Type 0 where
  pub before : List Entry
  pub ran : RanUntilStop plan hand asked limit past before
  pub endless : end_now plan (snapshot plan before) ≡ None
  pub is : between ≡ suspending_after hand before

-- in RUNNING nothing is left to take up
pub record HasNothing (plan : Outline) (hand : ℕ) (asked : Bool) (limit : Option ℕ)
    (past between : List Entry) : Type 0 where
  pub ran : RanOn plan hand asked limit past between
  pub unchosen : choice plan (snapshot plan between) ≡ None

-- so it rests: in RUNNING after that; or where the session is to stop, at an end that may be recorded, or else after
-- SUSPENDING; in SUSPENDING at once
pub data HandRests (plan : Outline) (hand : ℕ) (asked : Bool) (limit : Option ℕ)
    (past between : List Entry) : Type 0 where
  nothing_to_take : HasNothing plan hand asked limit past between → HandRests plan hand asked limit past between
  at_end : RanUntilStop plan hand asked limit past between → is_some (end_now plan (snapshot plan between)) ≡ true
      → HandRests plan hand asked limit past between
  to_suspend : IsToSuspend plan hand asked limit past between → HandRests plan hand asked limit past between
  suspending : flow_of past ≡ flow.Suspending → between ≡ past → HandRests plan hand asked limit past between

-- what it answers then
pub record HandRestsAs (plan : Outline) (hand : ℕ) (asked : Bool) (limit : Option ℕ) (past after : List Entry)
    (answer : Turn) : Type 0 where
  pub between : List Entry
  pub rests : HandRests plan hand asked limit past between
  pub rested : HasRested plan hand between after answer

-- the flow was in that last state already, and nothing was recorded
abbrev pub WasOver : List Entry → List Entry → FlowState → Type 0
WasOver past after state = (flow_of past ≡ state) × (is_last state ≡ true) × (after ≡ past)

-- what the next turn of a hand recorded and answered, where a stop was asked for or wasn't
abbrev pub IsTurn : Outline → ℕ → Bool → Option ℕ → List Entry → List Entry → Turn → Type 0
IsTurn plan hand asked limit past after (turn.Start order) =
    IsStarted plan hand asked limit past after order × IsWhole order
IsTurn plan hand asked limit past after turn.Idle = HandRestsAs plan hand asked limit past after turn.Idle
IsTurn plan hand asked limit past after (turn.Ended state) =
    HandRestsAs plan hand asked limit past after (turn.Ended state) ⊎ WasOver past after state
IsTurn plan hand asked limit past after turn.Suspended =
    HandRestsAs plan hand asked limit past after turn.Suspended ⊎ WasOver past after flow.Suspended

-- what a turn recorded that was halted: forced entries; and then perhaps a start, whose order nobody gets, SUSPENDING,
-- or a last entry of the flow
pub data IsHaltedTurn (plan : Outline) (hand : ℕ) (asked : Bool) (limit : Option ℕ)
    (past after : List Entry) : Type 0 where
  forcing : IsForcedOn plan hand asked limit past after → IsHaltedTurn plan hand asked limit past after
  starting : (between : List Entry) (start : Start) → RanOn plan hand asked limit past between
      → IsStartedSo plan hand between after start
      → IsHaltedTurn plan hand asked limit past after
  resting : (between : List Entry) → HandRests plan hand asked limit past between → IsClosedOr plan hand between after
      → IsHaltedTurn plan hand asked limit past after

-- a turn, where the count of stops tells whether one was asked for in it
pub record IsTurnAsked (plan : Outline) (hand : ℕ) (limit : Option ℕ) (asks_then asks_now : ℕ) (past after : List Entry)
    (answer : Turn) : Type 0 where
  pub stop : Bool
  pub answered : IsAnswered stop asks_then asks_now
  pub is : IsTurn plan hand stop limit past after answer

-- the same of a turn that was halted
pub record IsHaltedTurnAsked (plan : Outline) (hand : ℕ) (limit : Option ℕ) (asks_then asks_now : ℕ)
    (past after : List Entry) : Type 0 where
  pub stop : Bool
  pub answered : IsAnswered stop asks_then asks_now
  pub is : IsHaltedTurn plan hand stop limit past after

-- a session was entered, and goes on or has stopped
abbrev pub is_entered : FlowState → Bool
is_entered flow.Pending = false
is_entered flow.Resuming = false
is_entered state = true

-- one forced entry was recorded
pub record IsForcedBy (plan : Outline) (hand : ℕ) (past after : List Entry) : Type 0 where
  pub event : What
  pub is_forced : forced plan (snapshot plan past) ≡ Some event
  pub is : after ≡ by_hand hand event ∷ past

-- the hand's task was ended with this outcome
pub record IsFinished (plan : Outline) (hand : ℕ) (came : Outcome) (past after : List Entry) : Type 0 where
  pub task : ℕ
  pub held : task_of plan (snapshot plan past) hand ≡ Some task
  pub is : after ≡ end_by (snapshot plan past) hand came task ∷ past

-- a turn that gives an order leaves less room in the journal than there was
abbrev pub IsLessAfterStart : ℕ → ℕ → Turn → Type 0
IsLessAfterStart old new (turn.Start order) = 67108864 - new < 67108864 - old
IsLessAfterStart old new other = Unit {0}

-- ---- which entry was tried where the disk or a full journal halted a book

-- there is an entry, and it is so
abbrev pub HasOne : (Entry → Type 0) → Option Entry → Type 0
HasOne is_so None = ⊥
HasOne is_so (Some e) = is_so e

-- where the disk or a full journal halted the book, there is an entry that couldn't be recorded, and it is so
abbrev pub IsTried : (Entry → Type 0) → Option Halt → Option Entry → Type 0
IsTried is_so (Some halt.Disk) failed = HasOne is_so failed
IsTried is_so (Some (halt.Full size need)) failed = HasOne is_so failed
IsTried is_so other failed = Unit {0}

-- it is the hand's, it ends no task, and the flow hadn't ended
pub record IsNoEndBy (hand : ℕ) (plan : Outline) (past : List Entry) (e : Entry) : Type 0 where
  pub by : e.hand ≡ hand
  pub no_end : is_no_end plan e.what ≡ true
  pub unended : has_ended (flow_of past) ≡ false

-- it is the next entry that puts the flow back, by hand 0
pub record IsNextReset (plan : Outline) (past : List Entry) (e : Entry) : Type 0 where
  pub by : e.hand ≡ 0
  pub is : reset plan (snapshot plan past) ≡ Some e.what

module _ {K : Type 0} where
  -- the entry that halted the book was the hand's, and no end of a task
  abbrev pub HasTried : ℕ → BookValue K → Type 0
  HasTried hand b = IsTried (IsNoEndBy hand (outline b) b.past) b.halt b.failed

  -- it was the end of the hand's task, with this outcome, after the history before the call
  abbrev pub HasTriedToEnd : ℕ → Outcome → BookValue K → BookValue K → Type 0
  HasTriedToEnd hand came old new =
      IsTried (λ e. IsFinished (outline old) hand came old.past (e ∷ new.past)) new.halt new.failed

  -- it was to put the flow back
  abbrev pub HasTriedToReset : BookValue K → Type 0
  HasTriedToReset b = IsTried (IsNextReset (outline b) b.past) b.halt b.failed

-- ---- how a reverted flow is put back

-- a flow may be put back: it is REVERTED, and every atom is settled
abbrev pub may_reset : Outline → Snapshot → Bool
may_reset plan s = flow_is_reverted s.flow && all_below (count plan) (is_settled_at s)

-- each of these entries after a history is what a reset records at its place, by hand 0
abbrev pub AreReset : Outline → List Entry → List Entry → Type 0
AreReset plan [] past = Unit {0}
AreReset plan (e ∷ entries) past =
    (e.hand ≡ 0) × (reset plan (snapshot plan (entries ++ past)) ≡ Some e.what) × AreReset plan entries past

-- such entries were recorded, one after another
pub record IsPutBackOn (plan : Outline) (past after : List Entry) : Type 0 where
  pub entries : List Entry
  pub are : AreReset plan entries past
  pub is : after ≡ entries ++ past

-- they were recorded until the flow was PENDING
pub record IsPutBack (plan : Outline) (past after : List Entry) : Type 0 where
  pub on : IsPutBackOn plan past after
  pub pending : flow_of after ≡ flow.Pending

-- one such entry was recorded
pub record IsPutBackBy (plan : Outline) (past after : List Entry) : Type 0 where
  pub event : What
  pub is_reset : reset plan (snapshot plan past) ≡ Some event
  pub is : after ≡ by_hand 0 event ∷ past
