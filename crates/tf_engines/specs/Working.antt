-- What a hand does in a session of several hands, and what it knows. Histories have the newest entry first.
use Rattle.std.specs.Prelude.{◌≡◌, ◌≢◌, ℕ, ◌<◌, ◌≤◌, ◌++◌, ◌&&◌, Bool, true, false, List, Option, Some, None, not, nat_eq}
use Rattle.std.specs.List.{list_all}
use Rattle.tf_desk.specs.State.{DeskState}
use Rattle.tf_numbers.specs.Numbers.{Rises}
use Rattle.tf_actions.specs.Gives.{IsWhole}
use Rattle.tf_actions.specs.declared.orders.Order.{Order}
use Rattle.tf_actions.specs.declared.outcomes.Outcome.{Outcome}
use Rattle.tf_states.specs.declared.record.Entry.{Entry}
use Rattle.tf_hands.specs.Hands.{HasOrder, is_resuming, orders}
use Rattle.tf_model.specs.History.{flow_of, snapshot, hand_of}
use Rattle.tf_model.specs.Plan.{Outline, count}
use Rattle.tf_model.specs.Steps.{is_last, is_free}
use Rattle.tf_book.specs.Book.{BookValue, outline}
use Rattle.tf_book.specs.SessionInvariant.{SessionInvariant}
use Rattle.tf_book.specs.declared.turn.Turn.{Turn}
use Rattle.tf_book.specs.declared.turn.Turn.TheVariants as turn
use Rattle.tf_turnstile.specs.Passes.{TurnstileValue, PassValue, IsIdle}
use Rattle.tf_engines.specs.declared.engine.How.{How}
use Rattle.tf_engines.specs.declared.turns.Next.{Next}
use Rattle.tf_engines.specs.declared.turns.Next.TheVariants as next
use Rattle.tf_engines.specs.Asked.{HasDone, HasDoneAllButOne, HasToDo}
use Rattle.tf_engines.specs.Runs.{MightRecord, HasRun, StandsAs}
use Rattle.tf_engines.specs.Shared.{SharedValue, IsJustEntered, seen_past}

-- ---- one turn

-- the hand recorded it, and it isn't RESUMING
abbrev pub is_by : ℕ → Entry → Bool
is_by hand e = nat_eq e.hand hand && not (is_resuming e.what)

-- entries by that hand were recorded, none of them RESUMING
pub record IsAdded (hand : ℕ) (past after : List Entry) : Type 0 where
  pub more : List Entry
  pub is : after ≡ more ++ past
  pub by : list_all (is_by hand) more ≡ true

-- what the hand does after a turn of the book
abbrev pub next_by : Turn → Next
next_by (turn.Start order) = next.Perform order
next_by turn.Idle = next.Wait
next_by (turn.Ended state) = next.Stop
next_by turn.Suspended = next.Stop

-- a task is in flight with another hand
pub record IsHeldByOther (plan : Outline) (past : List Entry) (hand : ℕ) : Type 0 where
  pub task : ℕ
  pub other : ℕ
  pub below : task < count plan
  pub held : hand_of plan past task ≡ Some other
  pub apart : other ≢ hand

-- what it knows then: it has the order that it performs; it waits with nothing in flight, while a task is in flight
-- with another hand; or it stops where the flow has a last state
abbrev pub HasNext : Outline → List Entry → ℕ → Next → Type 0
HasNext plan past hand (next.Perform order) = HasOrder plan past hand order × IsWhole order
HasNext plan past hand next.Wait = (is_free plan (snapshot plan past) hand ≡ true) × IsHeldByOther plan past hand
HasNext plan past hand next.Stop = is_last (flow_of past) ≡ true
HasNext plan past hand next.Fail = Unit {0}

-- and which orders it was given, beside those that the history asks for
abbrev pub HasDoneNext : Option (List Order) → List Order → Option (List Order) → List Order → Next → Type 0
HasDoneNext told base did asked (next.Perform order) = HasToDo told base did asked order
HasDoneNext told base did asked next.Wait = HasDone told base did asked
HasDoneNext told base did asked next.Stop = HasDone told base did asked
HasDoneNext told base did asked next.Fail = HasDoneAllButOne told base did asked

-- the outcome is one that may be given for the order that the hand has
pub record HasOutcome (gives : Order → Outcome → Type 0) (plan : Outline) (past : List Entry) (hand : ℕ)
    (came : Outcome) : Type 0 where
  pub order : Order
  pub has : HasOrder plan past hand order
  pub gave : gives order came

-- ---- all turns

-- where the hand failed, the last order may be missing
abbrev pub HasDoneSo : Bool → Option (List Order) → List Order → Option (List Order) → List Order → Type 0
HasDoneSo true told base did asked = HasDoneAllButOne told base did asked
HasDoneSo false told base did asked = HasDone told base did asked

module _ {K : Type 0} where
  -- the turnstile was made with the shared book as its session was entered, and has a pass of that number
  pub record IsOpenedFor (turnstile : TurnstileValue (SharedValue K)) (hand : ℕ) : Type 0 where
    pub fresh : IsJustEntered turnstile.start
    pub below : hand < turnstile.start.number
    pub few : turnstile.start.number ≤ 64

  -- the hand has its pass, and nothing in flight in the history that this has seen
  pub record IsReadyToTurn (turnstile : TurnstileValue (SharedValue K)) (hand : ℕ)
      (pass : PassValue (SharedValue K) Entry) : Type 0 where
    pub idle : IsIdle turnstile hand pass
    pub free : is_free (outline turnstile.start.start)
        (snapshot (outline turnstile.start.start) (seen_past turnstile pass)) hand ≡ true

  -- the hand has stopped: it was given the orders of its starts, where it failed perhaps but the last; and where it
  -- didn't fail, the flow had a last state
  pub record HasWorked (turnstile : TurnstileValue (SharedValue K)) (hand : ℕ)
      (old new : PassValue (SharedValue K) Entry) (did_old did_new : Option (List Order)) (failed : Bool) : Type 0 where
    pub idle : IsIdle turnstile hand new
    pub asked : (told : Option (List Order)) (base : List Order)
        → HasDone told base did_old (orders (outline turnstile.start.start) hand (seen_past turnstile old))
        → HasDoneSo failed told base did_new (orders (outline turnstile.start.start) hand (seen_past turnstile new))
    pub last : failed ≡ false → is_last (flow_of (seen_past turnstile new)) ≡ true

-- ---- a whole run

module _ {K : Type 0} (state : K → DeskState) (gives : Order → Outcome → Type 0) where
  -- what is promised of a run's book, beside the orders
  pub record IsRun (number : ℕ) (limit : Option ℕ) (start now : BookValue K) (how : How) : Type 0 where
    pub keeps : (earlier : BookValue K) → SessionInvariant state earlier start → SessionInvariant state earlier now
    pub stops : StandsAs now.halt (flow_of now.past) how
    pub plan : now.plan ≡ start.plan
    pub failed : start.halt ≡ None → MightRecord gives number now
    pub ran : HasRun gives (Rises (state start.journal.desk).asks (state now.journal.desk).asks) number limit
        (outline start) start.past now.past how
    pub asks : (state start.journal.desk).asks ≤ (state now.journal.desk).asks
