-- What is printed: the lines of a history, the report of a run, the table of its atoms, the lines of jobs, and the
-- lines of a book's flows.
use Rattle.std.specs.Prelude.{ℕ, ◌+◌, List, [], ◌∷◌, ◌++◌, codes, length, slice_get, Bool, true, false, Option, Some, None, if◌then◌else◌}
use Rattle.std.specs.Fmt.{decimal, signed_decimal}
use Rattle.tf_values.specs.Value.{text_form, quoted}
use Rattle.tf_states.specs.declared.record.Entry.{Entry}
use Rattle.tf_states.specs.declared.record.Failure.{Failure}
use Rattle.tf_states.specs.declared.record.Failure.TheVariants as failure
use Rattle.tf_states.specs.declared.record.Kind.{Kind}
use Rattle.tf_states.specs.declared.record.Kind.TheVariants as kind
use Rattle.tf_states.specs.declared.record.What.{What}
use Rattle.tf_states.specs.declared.record.What.TheVariants as what
use Rattle.tf_states.specs.declared.record.Payload.{Payload}
use Rattle.tf_states.specs.declared.record.Payload.TheVariants as payload
use Rattle.tf_states.specs.declared.state.AtomState.{AtomState}
use Rattle.tf_states.specs.declared.state.AtomState.TheVariants as atom
use Rattle.tf_states.specs.declared.state.FlowState.{FlowState}
use Rattle.tf_states.specs.declared.state.FlowState.TheVariants as flow
use Rattle.tf_model.specs.Before.{Flow}
use Rattle.tf_model.specs.Plan.{Outline, is_task, atom_name, count}
use Rattle.std.specs.List.{flat_map}
use Rattle.tf_numbers.specs.Numbers.{numbers_below}
use Rattle.tf_states.specs.declared.record.AtomView.{AtomView}
use Rattle.tf_model.specs.History.{Snapshot, is_revert_failure, state_in, payload_in}
use Rattle.tf_states.specs.declared.state.JobState.{JobState}
use Rattle.tf_states.specs.declared.state.JobState.TheVariants as job
use Rattle.tf_states.specs.declared.priorities.Priority.{Priority}
use Rattle.tf_states.specs.declared.priorities.Priority.TheVariants as priority
use Rattle.tf_report.specs.declared.job_lines.JobLine.{JobLine}

-- ---- the lines of a history

-- the word for the state of an atom
abbrev pub atom_word : AtomState → List ℕ
atom_word atom.Pending = codes "PENDING"
atom_word atom.Running = codes "RUNNING"
atom_word atom.Success = codes "SUCCESS"
atom_word atom.Failure = codes "FAILURE"
atom_word atom.Reverting = codes "REVERTING"
atom_word atom.Reverted = codes "REVERTED"
atom_word atom.RevertFailure = codes "REVERT_FAILURE"
atom_word atom.Ignore = codes "IGNORE"
atom_word atom.Retrying = codes "RETRYING"

-- the word for the state of the flow
abbrev pub flow_word : FlowState → List ℕ
flow_word flow.Pending = codes "PENDING"
flow_word flow.Running = codes "RUNNING"
flow_word flow.Success = codes "SUCCESS"
flow_word flow.Failure = codes "FAILURE"
flow_word flow.Reverted = codes "REVERTED"
flow_word flow.Suspending = codes "SUSPENDING"
flow_word flow.Suspended = codes "SUSPENDED"
flow_word flow.Resuming = codes "RESUMING"

-- the word for what a failure is resolved to
abbrev pub kind_word : Kind → List ℕ
kind_word kind.Retry = codes "RETRY"
kind_word kind.Revert = codes "REVERT"
kind_word kind.RevertAll = codes "REVERT_ALL"

-- the text of a failure: a word, and what it names
abbrev pub failure_text : Failure → List ℕ
failure_text (failure.Raised text) = codes "raised " ++ quoted text
failure_text (failure.WrongKind name) = codes "type " ++ name
failure_text failure.Overflow = codes "overflow"
failure_text failure.Range = codes "range"
failure_text failure.TooLong = codes "too-long"
failure_text (failure.Lookup name) = codes "lookup " ++ name
failure_text (failure.Exit status) = codes "exit " ++ signed_decimal status
failure_text failure.Spawn = codes "spawn"
failure_text failure.NotText = codes "not-text"
failure_text failure.Lost = codes "lost"
failure_text (failure.BadReply at) = codes "bad-reply " ++ decimal at
failure_text failure.Exhausted = codes "exhausted"

-- what follows a state: a value, a failure or nothing
abbrev pub payload_text : Payload → List ℕ
payload_text payload.Empty = []
payload_text (payload.Value value) = 32 ∷ text_form value
payload_text (payload.Fault fault) = 32 ∷ failure_text fault

-- the name of a flow, and nothing where there is none
abbrev pub name_of_flow : Option Flow → List ℕ
name_of_flow None = []
name_of_flow (Some f) = f.place.name

-- the name of the flow of that number
unfoldable pub flow_name : Outline → ℕ → List ℕ
flow_name plan g = name_of_flow (slice_get plan.flows g)

-- an atom is a task or a retry controller
abbrev pub part_word : Bool → List ℕ
part_word true = codes "task "
part_word false = codes "retry "

-- what an entry says
abbrev pub what_text : Outline → What → List ℕ
what_text plan (what.Atom a state held) =
    part_word (is_task plan a) ++ atom_name plan a ++ 32 ∷ atom_word state ++ payload_text held
what_text plan (what.Flow state) = codes "flow " ++ flow_name plan 0 ++ 32 ∷ flow_word state
what_text plan (what.Resolve named kind) = codes "resolve " ++ flow_name plan named ++ 32 ∷ kind_word kind
what_text plan (what.Restart a) = codes "restart " ++ atom_name plan a

-- the line of the entry of that number: the number, the hand and what the entry says
unfoldable pub line : Outline → ℕ → Entry → List ℕ
line plan number e = decimal number ++ 32 ∷ decimal e.hand ++ 32 ∷ what_text plan e.what ++ 10 ∷ []

-- the lines of a history, the oldest entry's first; entries are numbered from 1
abbrev pub lines : Outline → List Entry → List ℕ
lines plan [] = []
lines plan (e ∷ past) = lines plan past ++ line plan (length past + 1) e

-- ---- what a run says last

-- the line of an atom whose reversion failed: its name and the failure
abbrev pub failed : Outline → ℕ → Payload → List ℕ
failed plan a held = codes "unreverted " ++ atom_name plan a ++ payload_text held ++ 10 ∷ []

-- this line in REVERT_FAILURE, and nothing in every other state
abbrev pub unreverted : Outline → ℕ → AtomState → Payload → List ℕ
unreverted plan a state held = if is_revert_failure state then failed plan a held else []

-- these lines of the atoms below n, in tree order
abbrev pub unreverted_below : Outline → (ℕ → AtomState) → (ℕ → Payload) → ℕ → List ℕ
unreverted_below plan state held n = flat_map (λ a. unreverted plan a (state a) (held a)) (numbers_below n)

-- how the flow stands
abbrev pub ending : Outline → FlowState → List ℕ
ending plan state = codes "end " ++ flow_name plan 0 ++ 32 ∷ flow_word state ++ 10 ∷ []

-- what follows it: in FAILURE the reversions that failed
abbrev pub failed_reversions : Outline → FlowState → (ℕ → AtomState) → (ℕ → Payload) → List ℕ
failed_reversions plan flow.Failure state held = unreverted_below plan state held (count plan)
failed_reversions plan other state held = []

-- the report on a flow in that state whose atoms have these states and payloads
abbrev pub report_shown : Outline → FlowState → (ℕ → AtomState) → (ℕ → Payload) → List ℕ
report_shown plan flow state held = ending plan flow ++ failed_reversions plan flow state held

-- the report at a moment of a run
unfoldable pub report : Outline → Snapshot → List ℕ
report plan s = report_shown plan s.flow s.state s.payload

-- the states that views show
abbrev pub state_shown : List AtomView → ℕ → AtomState
state_shown views a = state_in (slice_get views a)

-- the payloads that views show
abbrev pub payload_shown : List AtomView → ℕ → Payload
payload_shown views a = payload_in (slice_get views a)

-- ---- where each atom stands

-- the line of the flow: the root's name and its state
abbrev pub flow_line : Outline → FlowState → List ℕ
flow_line plan state = codes "state " ++ flow_name plan 0 ++ 32 ∷ flow_word state ++ 10 ∷ []

-- the line of an atom: its name, its state, and the value or the failure that it has
abbrev pub atom_line : Outline → ℕ → AtomState → Payload → List ℕ
atom_line plan a state held = codes "atom " ++ atom_name plan a ++ 32 ∷ atom_word state ++ payload_text held ++ 10 ∷ []

-- the lines of the atoms below n, in tree order
abbrev pub atom_lines_below : Outline → (ℕ → AtomState) → (ℕ → Payload) → ℕ → List ℕ
atom_lines_below plan state held n = flat_map (λ a. atom_line plan a (state a) (held a)) (numbers_below n)

-- the table of a flow in that state whose atoms have these states and payloads
abbrev pub table_shown : Outline → FlowState → (ℕ → AtomState) → (ℕ → Payload) → List ℕ
table_shown plan flow state held = flow_line plan flow ++ atom_lines_below plan state held (count plan)

-- the table at a moment of a run: a line for the flow, and one for each atom in tree order
unfoldable pub table : Outline → Snapshot → List ℕ
table plan s = table_shown plan s.flow s.state s.payload

-- ---- the lines of a board's jobs

-- the word for how urgent a job is
abbrev pub priority_word : Priority → List ℕ
priority_word priority.VeryHigh = codes "VERY_HIGH"
priority_word priority.High = codes "HIGH"
priority_word priority.Normal = codes "NORMAL"
priority_word priority.Low = codes "LOW"
priority_word priority.VeryLow = codes "VERY_LOW"

-- the word for where a job stands
abbrev pub job_word : JobState → List ℕ
job_word job.Unclaimed = codes "UNCLAIMED"
job_word job.Claimed = codes "CLAIMED"
job_word job.Complete = codes "COMPLETE"

-- who has a job: the owner's name, or a hyphen where nobody has it
abbrev pub owner_text : Option (List ℕ) → List ℕ
owner_text None = codes "-"
owner_text (Some name) = name

-- the line of a job: how urgent it is, its number, its id, its name, where it stands, and who has it
abbrev pub job_line : JobLine → List ℕ
job_line line =
    priority_word line.priority ++ 32 ∷ decimal line.number ++ 32 ∷ line.id ++ 32 ∷ line.name ++ 32
    ∷ job_word line.state ++ 32 ∷ owner_text line.owner ++ 10 ∷ []

-- ---- the flows of a book

-- the line of a flow of a book: its number, counted from 0, the name of its root, and how it stands
unfoldable pub detail_line : ℕ → List ℕ → FlowState → List ℕ
detail_line number name state = decimal number ++ 32 ∷ name ++ 32 ∷ flow_word state ++ 10 ∷ []
