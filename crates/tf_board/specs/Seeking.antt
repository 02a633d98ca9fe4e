-- What a board tells those who look for a job. Lists of commands have the newest first.
use Rattle.std.specs.Prelude.{◌≢◌, ℕ, suc, List, Bool, false, ◌&&◌, ◌==◌, not, if◌then◌else◌, Option, Some, None, map, option_map}
use Rattle.std.specs.List.{find, filter, flat_map, list_any, position, position_or_len, before_first}
use Rattle.tf_values.specs.declared.value.Val.{Val}
use Rattle.tf_states.specs.declared.priorities.Priority.{Priority}
use Rattle.tf_states.specs.declared.priorities.Priority.TheVariants as priority
use Rattle.tf_board.specs.Board.{details_in, id_in, same_priority, jobs_of, numbered, names_itself, place_of, is_free, is_there, is_listed, priorities}
use Rattle.tf_board.specs.declared.commands.Command.{Command}
use Rattle.tf_board.specs.declared.commands.Command.TheVariants as command
use Rattle.tf_board.specs.declared.jobs.Job.{Job}
use Rattle.tf_board.specs.declared.starts.Starts.{Starts}

-- the number of a job
abbrev pub number_in : Job → ℕ
number_in job = job.number

-- a job is free under this priority
abbrev pub is_free_under : Priority → Option Priority → Bool
is_free_under priority None = false
is_free_under priority (Some other) = same_priority other priority

-- the first place that is free under each priority
abbrev pub firsts : List (Option Priority) → List (Option ℕ)
firsts free = map (λ p. position (is_free_under p) free) priorities

-- the places before the first that is free under the most urgent priority
abbrev pub before_urgent : List (Option Priority) → List (Option Priority)
before_urgent free = before_first (is_free_under priority.VeryHigh) free

-- the first of these that is free under each priority, and where they end
abbrev pub starts_in : List (Option Priority) → Starts
starts_in free =
    record { found = firsts (before_urgent free); end = position_or_len (is_free_under priority.VeryHigh) free }

-- where the search under a priority begins: at the first of these that is free under it, else where they end
abbrev pub start_under : List (Option Priority) → Priority → ℕ
start_under free priority = position_or_len (is_free_under priority) (before_urgent free)

-- nobody has the job, its id names it, and its number isn't among those to skip
abbrev pub is_takable : List Job → List ℕ → Job → Bool
is_takable jobs skip job = is_free job.standing && not (list_any (λ n. n == job.number) skip) && names_itself jobs job

-- the jobs that are there, in the order of the list: by priority from the most urgent down, then by number
abbrev pub jobs_listed : List Job → List Job
jobs_listed jobs = flat_map (λ p. filter (is_listed p) jobs) priorities

-- the number of the first of the listed jobs that may be taken
abbrev pub number_among : List Job → List ℕ → Option ℕ
number_among jobs skip = option_map number_in (find (is_takable jobs skip) (jobs_listed jobs))

-- the number of the first job of a board's list that may be taken
abbrev pub free_job : List Command → List ℕ → Option ℕ
free_job past skip = number_among (jobs_of past) skip

-- the number of the job that an id names, if there is one
abbrev pub number_named : List Command → List ℕ → Option ℕ
number_named past id = option_map (λ place. suc place) (place_of (jobs_of past) id)

-- the id of the job of a number, if there is one
abbrev pub id_at : List Command → ℕ → Option (List ℕ)
id_at past number = option_map id_in (numbered (jobs_of past) number)

-- details, where there is this job and it isn't gone
abbrev pub details_for : Option Job → Option Val → Option Val
details_for None details = None
details_for (Some job) details = if is_there job.standing then details else None

-- the details of the job of a number, unless there is none or it is gone
abbrev pub details_at : List Command → ℕ → Option Val
details_at past number = details_for (numbered (jobs_of past) number) (numbered (details_in past) number)

-- what a command says isn't what this owner did
abbrev pub by_other : List ℕ → Command → Type 0
by_other owner (command.Post name priority details) = Unit {0}
by_other owner (command.Apply action job who) = who ≢ owner
