-- The generated flow read by numbers: which task and which group stands where, and which draw made it.
use Rattle.std.specs.Prelude.{ℕ, ◌+◌, ◌*◌, ◌/◌, ◌%◌, List, [], ◌∷◌}
use Rattle.tf_flow.specs.declared.atoms.Task.{Task}
use Rattle.tf_flow.specs.declared.nested.FlowKind.{FlowKind}
use Rattle.tf_flow.specs.Tree.{Place, at_flow, at_retry, at_task}
use Rattle.tf_demo.specs.Demo.{after, task_drawn, pattern_drawn}

-- the tasks among what stands in a flow, in order
abbrev pub tasks_in : List Place → List Task
tasks_in [] = []
tasks_in (at_flow level ∷ order) = tasks_in order
tasks_in (at_retry r ∷ order) = tasks_in order
tasks_in (at_task t ∷ order) = t ∷ tasks_in order

-- the kinds of the flows among it, in order
abbrev pub kinds_in : List Place → List FlowKind
kinds_in [] = []
kinds_in (at_flow level ∷ order) = level.kind ∷ kinds_in order
kinds_in (at_retry r ∷ order) = kinds_in order
kinds_in (at_task t ∷ order) = kinds_in order

-- the task of a number: it stands in the group of its tens, and one draw was made before it for each task and each
-- group up to its own
abbrev pub task_of_number : ℕ → ℕ → Task
task_of_number seed number = task_drawn (number / 10) number (after (number + number / 10 + 2) seed % 4)

-- the kind of the group of a number: eleven draws were made for each group before it
abbrev pub kind_of_number : ℕ → ℕ → FlowKind
kind_of_number seed group = pattern_drawn (after (11 * group + 1) seed % 3)
