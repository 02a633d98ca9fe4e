-- Which flow files were read for the jobs of a board, and how a job's run may end by them. Lists of commands have the
-- newest first.
use Rattle.std.specs.Prelude.{◌≡◌, ◌≤◌, ◌==◌, ℕ, Bool, true, List, Option, Some, None, is_some, length}
use Rattle.std.specs.Cmp.Lexicographic.{pointwise}
use Rattle.std.specs.List.{find, AllByRecursion}
use Rattle.tf_actions.specs.declared.orders.Order.{Order}
use Rattle.tf_actions.specs.declared.outcomes.Outcome.{Outcome}
use Rattle.tf_board.specs.Board.{details_in, is_free, jobs_of, numbered}
use Rattle.tf_board.specs.Seeking.{details_at}
use Rattle.tf_board.specs.declared.commands.Command.{Command}
use Rattle.tf_board.specs.declared.jobs.Job.{Job}
use Rattle.tf_conductor.specs.declared.runners.Ran.{Ran}
use Rattle.tf_conductor.specs.declared.runners.Ran.TheVariants as ran
use Rattle.tf_ports.specs.Ports.{Contents, GivesBytes, PassesLimit}
use Rattle.tf_ports.specs.declared.reading.TheConstants.{SOURCE_LIMIT}
use Rattle.tf_report.specs.declared.job_lines.JobLine.{JobLine}
use Rattle.tf_states.specs.declared.state.JobState.TheVariants as state
use Rattle.tf_values.specs.declared.value.Val.{Val}
use Rattle.tf_values.specs.declared.value.Val.TheVariants as value
use Rattle.tf_runner.specs.Conducts.{BytesRunTo}
use Rattle.tf_runner.specs.declared.files.Content.{Content}
use Rattle.tf_runner.specs.declared.files.Content.TheVariants as content
use Rattle.tf_runner.specs.declared.files.JobFile.{JobFile}

-- ---- the files

-- a file has that name
abbrev pub has_file_name : List ℕ → JobFile → Bool
has_file_name name file = pointwise ◌==◌ file.name name

-- the first of the files that has it
abbrev pub found_in : List JobFile → List ℕ → Option JobFile
found_in files name = find (has_file_name name) files

-- under the name the sources have these bytes, which aren't too many; or more than a flow file may have
abbrev pub IsContent : Contents → List ℕ → Content → Type 0
IsContent contents name (content.Bytes bytes) =
    GivesBytes contents name bytes.items × (length bytes.items ≤ SOURCE_LIMIT)
IsContent contents name content.TooLong = PassesLimit contents name

-- what was read of a file is what the sources tell
abbrev pub IsRead : Contents → JobFile → Type 0
IsRead contents file = IsContent contents file.name file.content

-- of each of the files
abbrev pub AreReadFrom : Contents → List JobFile → Type 0
AreReadFrom contents files = AllByRecursion (IsRead contents) files

-- the job of a number is one that nobody has, and its details are the name of a file
pub record Names (past : List Command) (number : ℕ) (name : List ℕ) : Type 0 where
  pub job : Job
  pub there : numbered (jobs_of past) number ≡ Some job
  pub free : is_free job.standing ≡ true
  pub details : numbered (details_in past) number ≡ Some (value.Text name)

-- each such file is among those that were read
abbrev pub HaveFiles : List Command → List JobFile → Type 0
HaveFiles past files = (number : ℕ) (name : List ℕ) → Names past number name → is_some (found_in files name) ≡ true

-- the file of these details is among those that were read, if they are its name
abbrev pub HasFileOf : List JobFile → Option Val → Type 0
HasFileOf files (Some (value.Text name)) = is_some (found_in files name) ≡ true
HasFileOf files details = Unit {0}

-- the file that the job of a line names is among those that were read, if nobody has the job
abbrev pub HasLineFile : List Command → List JobFile → JobLine → Type 0
HasLineFile past files line = line.state ≡ state.Unclaimed → HasFileOf files (details_at past line.number)

-- files that were there are there
abbrev pub AreKept : List JobFile → List JobFile → Type 0
AreKept old new = (name : List ℕ) → is_some (found_in old name) ≡ true → is_some (found_in new name) ≡ true

-- ---- runs

module _ (gives : Order → Outcome → Type 0) where
  -- how the run may end by what was read of the file: one that is too long is left
  abbrev pub ContentRunsTo : Content → Ran → Type 0
  ContentRunsTo (content.Bytes bytes) r = BytesRunTo gives bytes.items r
  ContentRunsTo content.TooLong r = r ≡ ran.Left

  -- by the file of a name: where none was read, it is left
  abbrev pub FileRunsTo : Option JobFile → Ran → Type 0
  FileRunsTo None r = r ≡ ran.Left
  FileRunsTo (Some file) r = ContentRunsTo file.content r

  -- by the details of a job: a text names a file, and other details are left
  abbrev pub MeansRunTo : List JobFile → Val → Ran → Type 0
  MeansRunTo files (value.Text name) r = FileRunsTo (found_in files name) r
  MeansRunTo files details r = r ≡ ran.Left
