-- What a run by a number of hands records, and which entry it could not record. Histories have the newest entry first.
use Rattle.std.specs.Prelude.{◌≡◌, ◌⊎◌, ℕ, ◌≤◌, Bool, true, false, ◌&&◌, ◌||◌, List, [], ◌∷◌, ◌++◌, length, nat_lt, not, Option, Some, None, reverse}
use Rattle.std.specs.List.{list_all}
use Rattle.tf_actions.specs.declared.orders.Order.{Order}
use Rattle.tf_actions.specs.declared.outcomes.Outcome.{Outcome}
use Rattle.tf_actions.specs.Gives.{IsWhole}
use Rattle.tf_states.specs.declared.record.Entry.{Entry}
use Rattle.tf_states.specs.declared.record.What.{What}
use Rattle.tf_states.specs.declared.record.What.TheVariants as what
use Rattle.tf_states.specs.declared.state.FlowState.{FlowState}
use Rattle.tf_states.specs.declared.state.FlowState.TheVariants as flow
use Rattle.tf_model.specs.History.{flow_of, snapshot, flow_suspends}
use Rattle.tf_model.specs.Steps.{is_still, Session, entering, has_ended, is_inner_entry, is_last}
use Rattle.tf_model.specs.Scope.{IsGiven}
use Rattle.tf_hands.specs.Hands.{by_hand, is_over, HasOrder, IsAlone}
use Rattle.tf_model.specs.Plan.{Outline, is_task}
use Rattle.tf_book.specs.Turns.{limit_from, is_reached, IsTried}
use Rattle.tf_book.specs.declared.faults.Halt.{Halt}
use Rattle.tf_engines.specs.declared.engine.How.{How}
use Rattle.tf_engines.specs.declared.engine.How.TheVariants as how
use Rattle.tf_book.specs.Book.{BookValue, outline}

-- ---- what a run by a number of hands records, from the history that it began with to the one that it leaves
-- Histories have the newest entry first.

-- each end among the entries recorded after a history carries an outcome that the order of its start may have
abbrev pub AreGiven : (Order → Outcome → Type 0) → Outline → List Entry → List Entry → Type 0
AreGiven gives plan before [] = Unit {0}
AreGiven gives plan before (e ∷ entries) =
    IsGiven gives plan (entries ++ before) e.what × AreGiven gives plan before entries

-- one of so many hands recorded it: hands are numbered from 0
abbrev pub is_of : ℕ → Entry → Bool
is_of number e = nat_lt e.hand number

-- what is recorded begins to suspend the flow
abbrev pub suspends : What → Bool
suspends (what.Flow state) = flow_suspends state
suspends (what.Atom a state held) = false
suspends (what.Resolve named resolved) = false
suspends (what.Restart again) = false

-- the entry doesn't begin to suspend the flow
abbrev pub is_unsuspended : Entry → Bool
is_unsuspended e = not (suspends e.what)

-- what is recorded ends a task, begins to suspend the flow, or is the flow's last state
abbrev pub winds_up : Outline → What → Bool
winds_up plan (what.Flow state) = flow_suspends state || is_last state
winds_up plan (what.Atom a state held) = is_over state && is_task plan a
winds_up plan (what.Resolve named resolved) = false
winds_up plan (what.Restart again) = false

-- each entry of a session that begins to suspend the flow stands where a stop was asked for, or where the limit of
-- entries is reached
abbrev pub AreDue : Type 0 → Option ℕ → List Entry → Type 0
AreDue asked limit [] = Unit {0}
AreDue asked limit (e ∷ entries) =
    (suspends e.what ≡ true → asked ⊎ (is_reached limit (length entries) ≡ true)) × AreDue asked limit entries

-- each entry of a session that stands where the limit is reached winds it up, but for so many with which it was entered
abbrev pub AreWithin : Outline → Option ℕ → ℕ → List Entry → Type 0
AreWithin plan limit entered [] = Unit {0}
AreWithin plan limit entered (e ∷ entries) =
    (entered ≤ length entries → is_reached limit (length entries) ≡ true → winds_up plan e.what ≡ true)
    × AreWithin plan limit entered entries

-- the session ends with the flow's suspension, which some hand recorded, since a stop was asked for or the limit is
-- reached
pub record IsSuspended (asked : Type 0) (limit : Option ℕ) (entries : List Entry) : Type 0 where
  pub cause : asked ⊎ (is_reached limit (length entries) ≡ true)
  pub hand : ℕ
  pub before : List Entry
  pub last : entries ≡ by_hand hand (what.Flow flow.Suspended) ∷ before

-- a session was recorded by so many hands, with outcomes that they gave, and was suspended only where a stop was asked
-- for or its limit is reached; it stopped in this state, or was halted before
pub record IsSession (gives : Order → Outcome → Type 0) (asked : Type 0) (number : ℕ) (limit : Option ℕ)
    (plan : Outline) (before after : List Entry) (stop : Option FlowState) : Type 0 where
  pub entries : List Entry
  pub recorded : after ≡ entries ++ before
  pub session : Session plan before entries stop
  pub given : AreGiven gives plan before entries
  pub hands : list_all (is_of number) entries ≡ true
  pub due : AreDue asked limit entries
  pub within : AreWithin plan limit (length (entering (flow_of before))) entries
  pub suspended : stop ≡ Some flow.Suspended → IsSuspended asked limit entries

-- the same where the state in which it stopped is told by the answer; one that was halted may have stopped too, in its
-- last line
abbrev pub HasRun : (Order → Outcome → Type 0) → Type 0 → ℕ → Option ℕ → Outline → List Entry → List Entry → How
    → Type 0
HasRun gives asked number limit plan before after (how.Ended state) =
    IsSession gives asked number limit plan before after (Some state)
HasRun gives asked number limit plan before after how.Suspended =
    IsSession gives asked number limit plan before after (Some flow.Suspended)
HasRun gives asked number limit plan before after (how.Halted cause) =
    (stop : Option FlowState) × IsSession gives asked number limit plan before after stop

-- the answer is how the book stands: halted for that cause; or not halted, with the flow in that last state
abbrev pub StandsAs : Option Halt → FlowState → How → Type 0
StandsAs halted state (how.Ended last) = (halted ≡ None) × (state ≡ last) × (has_ended last ≡ true)
StandsAs halted state how.Suspended = (halted ≡ None) × (state ≡ flow.Suspended)
StandsAs halted state (how.Halted cause) = halted ≡ Some cause

-- the book was halted, and the answer tells the cause
pub record HaltsAs (halted : Option Halt) (answer : How) : Type 0 where
  pub cause : Halt
  pub is : halted ≡ Some cause
  pub told : answer ≡ how.Halted cause

-- a run goes on after it was entered: all that it recorded since is within the session, and nobody suspended it; the
-- book has the session's limit
pub record IsUnderWay (gives : Order → Outcome → Type 0) (number : ℕ) (limit : Option ℕ) (plan : Outline)
    (before past : List Entry) (kept : Option ℕ) : Type 0 where
  pub inner : List Entry
  pub recorded : past ≡ inner ++ (reverse (entering (flow_of before)) ++ before)
  pub inside : list_all is_inner_entry inner ≡ true
  pub begun : has_ended (flow_of before) ≡ false
  pub given : AreGiven gives plan before (inner ++ reverse (entering (flow_of before)))
  pub hands : list_all (is_of number) (inner ++ reverse (entering (flow_of before))) ≡ true
  pub unsuspended : list_all is_unsuspended (inner ++ reverse (entering (flow_of before))) ≡ true
  pub within : AreWithin plan limit (length (entering (flow_of before))) (inner ++ reverse (entering (flow_of before)))
  pub limited : kept ≡ limit_from limit (length before)

-- the same of all that a session recorded before its last entry, in which it may have begun to be suspended
pub record Winds (gives : Order → Outcome → Type 0) (asked : Type 0) (number : ℕ) (limit : Option ℕ) (plan : Outline)
    (before past : List Entry) : Type 0 where
  pub inner : List Entry
  pub recorded : past ≡ inner ++ (reverse (entering (flow_of before)) ++ before)
  pub inside : list_all is_inner_entry inner ≡ true
  pub begun : has_ended (flow_of before) ≡ false
  pub given : AreGiven gives plan before (inner ++ reverse (entering (flow_of before)))
  pub hands : list_all (is_of number) (inner ++ reverse (entering (flow_of before))) ≡ true
  pub due : AreDue asked limit (inner ++ reverse (entering (flow_of before)))
  pub within : AreWithin plan limit (length (entering (flow_of before))) (inner ++ reverse (entering (flow_of before)))
  pub cause : flow_of past ≡ flow.Suspending → asked
      ⊎ (is_reached limit (length (inner ++ reverse (entering (flow_of before)))) ≡ true)

-- how a session stands between two turns: it goes on in RUNNING, it is wound up in SUSPENDING, or it has stopped in a
-- last state
pub data StandsBetween (gives : Order → Outcome → Type 0) (asked : Type 0) (number : ℕ) (limit : Option ℕ)
    (plan : Outline) (before past : List Entry) (kept : Option ℕ) : Type 0 where
  going_on : flow_of past ≡ flow.Running → IsUnderWay gives number limit plan before past kept
      → StandsBetween gives asked number limit plan before past kept
  winding : flow_of past ≡ flow.Suspending → Winds gives asked number limit plan before past
      → StandsBetween gives asked number limit plan before past kept
  stopped : is_last (flow_of past) ≡ true → IsSession gives asked number limit plan before past (Some (flow_of past))
      → StandsBetween gives asked number limit plan before past kept

-- between two turns of the one hand: the book isn't halted, the flow is RUNNING, and nothing is in flight
pub record IsBetweenTurns (plan : Outline) (past : List Entry) (halted : Option Halt) : Type 0 where
  pub sound : halted ≡ None
  pub running : flow_of past ≡ flow.Running
  pub still : is_still plan (snapshot plan past) ≡ true

-- while the one hand performs its order: the book isn't halted, the flow is RUNNING, and this order alone is in flight,
-- whole
pub record IsPerforming (plan : Outline) (past : List Entry) (halted : Option Halt) (order : Order) : Type 0 where
  pub sound : halted ≡ None
  pub running : flow_of past ≡ flow.Running
  pub has : HasOrder plan past 0 order
  pub alone : IsAlone plan past 0
  pub whole : IsWhole order

-- ---- which entry a session couldn't record

-- a session of so many hands may record the entry after the history: one of them does, with an outcome that its order
-- may have, and the flow hasn't ended
pub record MayRecord (gives : Order → Outcome → Type 0) (number : ℕ) (plan : Outline) (past : List Entry)
    (e : Entry) : Type 0 where
  pub given : IsGiven gives plan past e.what
  pub hand : is_of number e ≡ true
  pub unended : has_ended (flow_of past) ≡ false

-- where the disk or a full journal halted the book, the entry that couldn't be recorded was such a one
abbrev pub MightRecord : {K : Type 0} → (Order → Outcome → Type 0) → ℕ → BookValue K → Type 0
MightRecord gives number b = IsTried (MayRecord gives number (outline b) b.past) b.halt b.failed
