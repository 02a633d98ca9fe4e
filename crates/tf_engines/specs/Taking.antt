-- What hands do that take turns on one thread, in an order that is given. Histories have the newest entry first.
use Rattle.std.specs.Prelude.{◌≡◌, ℕ, ◌<◌, ◌≤◌, ◌-◌, ◌%◌, Bool, true, if◌then◌else◌, List, length, slice_index_or, Option, Some, None, nat_lt, zero, suc}
use Rattle.tf_actions.specs.Gives.{IsWhole}
use Rattle.tf_actions.specs.declared.orders.Order.{Order}
use Rattle.tf_states.specs.declared.record.Entry.{Entry}
use Rattle.tf_hands.specs.Hands.{HasOrder, orders}
use Rattle.tf_model.specs.History.{flow_of, snapshot}
use Rattle.tf_model.specs.Plan.{Outline}
use Rattle.tf_model.specs.Steps.{is_last, is_free}
use Rattle.tf_book.specs.Turns.{IsEntering}
use Rattle.tf_engines.specs.declared.turns.Next.{Next}
use Rattle.tf_engines.specs.declared.turns.Next.TheVariants as next
use Rattle.tf_engines.specs.declared.taking_turns.Step.{Step}
use Rattle.tf_engines.specs.declared.taking_turns.Step.TheVariants as step
use Rattle.tf_engines.specs.Asked.{HasDone, HasDoneAllButOne, HasToDo}
use Rattle.tf_engines.specs.Shared.{entered_past}
use Rattle.tf_engines.specs.Working.{IsAdded, IsHeldByOther, HasDoneSo}

-- ---- whose turn it is

-- of so many hands, from turn 0 on: the pick modulo their number, and after the picks one after another from hand 0
abbrev pub hand_at : List ℕ → ℕ → ℕ → ℕ
hand_at picks count turn =
    if nat_lt turn (length picks) then slice_index_or picks turn 0 % count else (turn - length picks) % count

-- ---- turns

-- between two turns a hand has the order that it performs in its next one, or nothing in flight
abbrev pub HasSeat : Outline → List Entry → ℕ → Option Order → Type 0
HasSeat plan past hand None = is_free plan (snapshot plan past) hand ≡ true
HasSeat plan past hand (Some order) = HasOrder plan past hand order × IsWhole order

-- what a turn makes of it: the hand takes an order up, or ends the task of the one that it had; it has none before and
-- after it only while a task is in flight with another hand
abbrev pub HasMovedOn : Outline → List Entry → ℕ → Option Order → Option Order → Type 0
HasMovedOn plan after hand None (Some next) = Unit {0}
HasMovedOn plan after hand (Some order) None = Unit {0}
HasMovedOn plan after hand None None = IsHeldByOther plan after hand
HasMovedOn plan after hand (Some order) (Some next) = ⊥

-- a turn of the hand after which the run goes on: what was recorded is by the hand, which had and has these orders
pub record IsTurnBy (plan : Outline) (hand : ℕ) (past after : List Entry) : Type 0 where
  pub added : IsAdded hand past after
  pub had : Option Order
  pub before : HasSeat plan past hand had
  pub next : Option Order
  pub now : HasSeat plan after hand next
  pub moved : HasMovedOn plan after hand had next

-- so many turns, each by the hand whose turn it is
abbrev pub AreTurns : Outline → List ℕ → ℕ → ℕ → List Entry → List Entry → Type 0
AreTurns plan picks count zero past after = after ≡ past
AreTurns plan picks count (suc turns) past after =
    (between : List Entry) × AreTurns plan picks count turns past between
    × IsTurnBy plan (hand_at picks count turns) between after

-- turns were taken until the run stopped; in the last one, too, what was recorded is by the hand whose turn it is
pub record TakesTurns (plan : Outline) (picks : List ℕ) (count : ℕ) (past after : List Entry) : Type 0 where
  pub turns : ℕ
  pub between : List Entry
  pub are : AreTurns plan picks count turns past between
  pub last : IsAdded (hand_at picks count turns) between after

-- what a run recorded by turns: hand 0 entered the session, or stopped while it did; and then turns were taken
pub data RanByTurns (plan : Outline) (picks : List ℕ) (count : ℕ) (before after : List Entry) : Type 0 where
  only_entered : IsEntering 0 before after → RanByTurns plan picks count before after
  took_turns : TakesTurns plan picks count (entered_past before) after → RanByTurns plan picks count before after

-- after the picks, where it is the turn of hand 0 again
pub record IsRoundAt (plan : Outline) (picks : List ℕ) (count : ℕ) (past after : List Entry) : Type 0 where
  pub turns : ℕ
  pub behind : length picks ≤ turns
  pub even : (turns - length picks) % count ≡ 0
  pub are : AreTurns plan picks count turns past after

-- ---- what each hand has between two turns

-- what the hand does after a turn of the book
abbrev pub step_by : Next → Step
step_by (next.Perform order) = step.Goes (Some order)
step_by next.Wait = step.Goes None
step_by next.Stop = step.Stop
step_by next.Fail = step.Fail

-- the hand was given the orders of its starts, but for the one that it is to perform
abbrev pub HasGiven : Option (List Order) → List Order → Option (List Order) → List Order → Option Order → Type 0
HasGiven told base did asked None = HasDone told base did asked
HasGiven told base did asked (Some order) = HasToDo told base did asked order

-- the same after its turn; it stops where the flow has a last state
abbrev pub HasStep : Outline → List Entry → ℕ → Step → Type 0
HasStep plan past hand (step.Goes held) = HasSeat plan past hand held
HasStep plan past hand step.Stop = is_last (flow_of past) ≡ true
HasStep plan past hand step.Fail = Unit {0}

abbrev pub HasDoneStep : Option (List Order) → List Order → Option (List Order) → List Order → Step → Type 0
HasDoneStep told base did asked (step.Goes held) = HasGiven told base did asked held
HasDoneStep told base did asked step.Stop = HasDone told base did asked
HasDoneStep told base did asked step.Fail = HasDoneAllButOne told base did asked

-- where it goes on, the order that it has then goes with the one that it had
abbrev pub HasMovedTo : Outline → List Entry → ℕ → Option Order → Step → Type 0
HasMovedTo plan after hand had (step.Goes held) = HasMovedOn plan after hand had held
HasMovedTo plan after hand had step.Stop = Unit {0}
HasMovedTo plan after hand had step.Fail = Unit {0}

-- ---- all hands

-- no hand has an order
abbrev pub AreEmpty : List (Option Order) → Type 0
AreEmpty seats = (i : ℕ) → slice_index_or seats i None ≡ None

-- each hand has the order that is kept for it, and every other number nothing in flight
abbrev pub AreSeated : Outline → List Entry → List (Option Order) → Type 0
AreSeated plan past seats = (i : ℕ) → HasSeat plan past i (slice_index_or seats i None)

-- each was given the orders of its starts, but for the one that is kept for it
abbrev pub AllGiven : {H : Type 0} → (H → Option (List Order)) → Outline → List Entry → (ℕ → Option (List Order))
    → (ℕ → List Order) → List H → List (Option Order) → Type 0
AllGiven {H} did plan past told base hands seats =
    (i : ℕ) (d : H) → i < length hands → HasGiven (told i) (base i) (did (slice_index_or hands i d))
    (orders plan i past) (slice_index_or seats i None)

-- in the end: where a hand failed, the last order of each may be missing
abbrev pub AllDone : {H : Type 0} → (H → Option (List Order)) → Outline → List Entry → Bool → (ℕ → Option (List Order))
    → (ℕ → List Order) → List H → Type 0
AllDone {H} did plan past failed told base hands =
    (i : ℕ) (d : H) → i < length hands → HasDoneSo failed (told i) (base i) (did (slice_index_or hands i d))
    (orders plan i past)
