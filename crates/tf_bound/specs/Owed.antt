-- How many entries a run may still record at most, by what the rules read of its history.
use Rattle.std.specs.Prelude.{ℕ, ◌+◌, ◌-◌, ◌*◌, Bool, ◌&&◌, if◌then◌else◌}
use Rattle.tf_states.specs.declared.record.What.{What}
use Rattle.tf_states.specs.declared.state.AtomState.{AtomState}
use Rattle.tf_states.specs.declared.state.AtomState.TheVariants as atom
use Rattle.tf_states.specs.declared.state.FlowState.{FlowState}
use Rattle.tf_states.specs.declared.state.FlowState.TheVariants as flow
use Rattle.tf_flow.specs.Plan.{PlanValue}
use Rattle.tf_numbers.specs.Numbers.{any_below}
use Rattle.tf_model.specs.Plan.{Outline, outline_of, count}
use Rattle.tf_model.specs.History.{Snapshot, later}
use Rattle.tf_model.specs.Readiness.{is_unmarked}
use Rattle.tf_model.specs.Forced.{is_beginning_again, is_of_its_flow, is_interrupted}
use Rattle.tf_bound.specs.Costs.{tries_at, each, sum_below}

-- r is a retry controller in RETRYING, and a another atom of its flow
abbrev pub holds_back : Outline → Snapshot → ℕ → ℕ → Bool
holds_back plan s a r = is_beginning_again plan s r && is_of_its_flow plan r a

-- a is held: a retry controller other than a, whose flow holds a, is RETRYING, so that a is being put back
unfoldable pub held : Outline → Snapshot → ℕ → Bool
held plan s a = any_below (count plan) (holds_back plan s a)

-- the attempts that may still begin before the atom is PENDING again, of so many tries, after so many attempts
abbrev pub further_in : AtomState → ℕ → ℕ → ℕ
further_in atom.Pending tries made = tries - 1
further_in atom.Running tries made = tries - 1 - made
further_in atom.Success tries made = tries - made
further_in atom.Retrying tries made = tries - made
further_in state tries made = 0

-- the attempts that retry controller r may still begin before it is PENDING again
abbrev pub further : Outline → Snapshot → ℕ → ℕ
further plan s r = further_in (s.state r) (tries_at plan r) (s.attempts r)

-- the longest rest of an atom's life in this state, the resolve of its failure included, until it is PENDING again;
-- a marked failure isn't resolved anew
abbrev pub rest_of_life : AtomState → Bool → ℕ
rest_of_life atom.Pending unmarked = 6
rest_of_life atom.Running unmarked = 5
rest_of_life atom.Failure unmarked = if unmarked then 4 else 3
rest_of_life atom.Success unmarked = 3
rest_of_life atom.Reverting unmarked = 2
rest_of_life atom.Retrying unmarked = 2
rest_of_life atom.Reverted unmarked = 1
rest_of_life atom.Ignore unmarked = 1
rest_of_life atom.RevertFailure unmarked = 0

-- an interrupted task is restarted once
abbrev pub restart_of : Bool → ℕ
restart_of interrupted = if interrupted then 1 else 0

-- the atom's own entries, where it isn't held
abbrev pub own : Outline → Snapshot → ℕ → ℕ
own plan s a = rest_of_life (s.state a) (is_unmarked s a) + restart_of (is_interrupted plan s a)

-- where it is held: the PENDING of a reset
abbrev pub owed_held : AtomState → ℕ
owed_held atom.Reverted = 1
owed_held atom.Ignore = 1
owed_held state = 0

-- the entries that atom a owes, where an attempt of a retry controller's flow costs so much
unfoldable pub owed_with : Outline → (ℕ → ℕ) → Snapshot → ℕ → ℕ
owed_with plan attempt s a =
    if held plan s a then owed_held (s.state a) else own plan s a + further plan s a * attempt a

-- the entries that atom a owes
abbrev pub owed : PlanValue → Snapshot → ℕ → ℕ
owed plan s a = owed_with (outline_of plan) (each plan) s a

-- the entries that the flow's own state owes
abbrev pub turn : FlowState → ℕ
turn flow.Running = 2
turn flow.Suspending = 1
turn state = 0

-- the most entries that may still be recorded before the run stops, where an attempt costs so much
abbrev pub left_with : Outline → (ℕ → ℕ) → Snapshot → ℕ
left_with plan attempt s = sum_below (count plan) (owed_with plan attempt s) + turn s.flow

-- the most entries that may still be recorded before the run stops
abbrev pub left : PlanValue → Snapshot → ℕ
left plan s = left_with (outline_of plan) (each plan) s

-- the same after a hand recorded an event
abbrev pub left_later : PlanValue → ℕ → What → Snapshot → ℕ
left_later plan hand w s = left plan (later (outline_of plan) (record { hand = hand; what = w }) s)
