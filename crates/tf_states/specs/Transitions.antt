-- From which state an atom, a flow or a job may go to which.
use Rattle.std.specs.Prelude.{ℕ, List, [], ◌∷◌, ◌++◌, Bool, ◌&&◌, ◌==◌}
use Rattle.std.specs.List.{list_any}
use Rattle.tf_states.specs.declared.state.AtomState.{AtomState}
use Rattle.tf_states.specs.declared.state.AtomState.TheVariants as Is
use Rattle.tf_states.specs.declared.state.FlowState.{FlowState}
use Rattle.tf_states.specs.declared.state.FlowState.TheVariants as FlowIs
use Rattle.tf_states.specs.declared.state.JobState.{JobState}
use Rattle.tf_states.specs.declared.state.JobState.TheVariants as JobIs

-- a task goes from the first state of a pair to the second
abbrev pub task_pairs : List (AtomState × AtomState)
task_pairs =
    (Is.Pending, Is.Running) ∷ (Is.Pending, Is.Ignore)
    ∷ (Is.Running, Is.Success) ∷ (Is.Running, Is.Failure)
    ∷ (Is.Failure, Is.Reverting) ∷ (Is.Success, Is.Reverting)
    ∷ (Is.Reverting, Is.Reverted) ∷ (Is.Reverting, Is.RevertFailure)
    ∷ (Is.Reverted, Is.Pending) ∷ (Is.Ignore, Is.Pending)
    ∷ []

-- a retry controller has the pairs of a task, and two more
abbrev pub retry_pairs : List (AtomState × AtomState)
retry_pairs = task_pairs ++ (Is.Success, Is.Retrying) ∷ (Is.Retrying, Is.Running) ∷ []

abbrev pub flow_pairs : List (FlowState × FlowState)
flow_pairs =
    (FlowIs.Pending, FlowIs.Running) ∷ (FlowIs.Suspended, FlowIs.Running)
    ∷ (FlowIs.Running, FlowIs.Success) ∷ (FlowIs.Running, FlowIs.Failure)
    ∷ (FlowIs.Running, FlowIs.Reverted) ∷ (FlowIs.Running, FlowIs.Suspending)
    ∷ (FlowIs.Running, FlowIs.Resuming)
    ∷ (FlowIs.Suspending, FlowIs.Suspended) ∷ (FlowIs.Suspending, FlowIs.Success)
    ∷ (FlowIs.Suspending, FlowIs.Failure) ∷ (FlowIs.Suspending, FlowIs.Reverted)
    ∷ (FlowIs.Suspending, FlowIs.Resuming)
    ∷ (FlowIs.Resuming, FlowIs.Suspended)
    ∷ (FlowIs.Reverted, FlowIs.Pending)
    ∷ []

abbrev pub job_pairs : List (JobState × JobState)
job_pairs =
    (JobIs.Unclaimed, JobIs.Claimed) ∷ (JobIs.Claimed, JobIs.Unclaimed)
    ∷ (JobIs.Claimed, JobIs.Complete)
    ∷ []

-- the place of a state among the states, by which two are told apart
abbrev pub atom_place : AtomState → ℕ
atom_place Is.Pending = 0
atom_place Is.Running = 1
atom_place Is.Success = 2
atom_place Is.Failure = 3
atom_place Is.Reverting = 4
atom_place Is.Reverted = 5
atom_place Is.RevertFailure = 6
atom_place Is.Ignore = 7
atom_place Is.Retrying = 8

abbrev pub flow_place : FlowState → ℕ
flow_place FlowIs.Pending = 0
flow_place FlowIs.Running = 1
flow_place FlowIs.Success = 2
flow_place FlowIs.Failure = 3
flow_place FlowIs.Reverted = 4
flow_place FlowIs.Suspending = 5
flow_place FlowIs.Suspended = 6
flow_place FlowIs.Resuming = 7

abbrev pub job_place : JobState → ℕ
job_place JobIs.Unclaimed = 0
job_place JobIs.Claimed = 1
job_place JobIs.Complete = 2

-- whether a list of pairs has this one
abbrev pub has_pair : {State : Type 0} → (State → ℕ) → List (State × State) → State → State → Bool
has_pair place pairs from to = list_any (λ pair. place pair.0 == place from && place pair.1 == place to) pairs

-- the allowed transitions: a pair of states is allowed where its list has it
abbrev pub task_may : AtomState → AtomState → Bool
task_may from to = has_pair atom_place task_pairs from to

abbrev pub retry_may : AtomState → AtomState → Bool
retry_may from to = has_pair atom_place retry_pairs from to

abbrev pub flow_may : FlowState → FlowState → Bool
flow_may from to = has_pair flow_place flow_pairs from to

abbrev pub job_may : JobState → JobState → Bool
job_may from to = has_pair job_place job_pairs from to
