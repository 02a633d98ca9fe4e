-- What the commands of a board mean, and their byte form. Lists of commands have the newest first. What a board is,
-- what its file holds, and how it is opened. Lists of commands have the newest first.
use Rattle.std.specs.Prelude.{◌≡◌, ℕ, codes, zero, suc, ◌+◌, List, [], ◌∷◌, ◌++◌, Bool, true, false, ◌&&◌, nat_eq, ◌==◌, if◌then◌else◌, Option, Some, None, map, take, slice_get, ◌<◌, ◌^◌, length, reverse, vec_len, vec_capacity, ◌≢◌, ◌⊎◌, ◌≤◌, IsTrue, Result, Ok, Err}
use Rattle.std.specs.Cmp.Lexicographic.{pointwise}
use Rattle.std.specs.Fmt.{decimal}
use Rattle.std.specs.List.{find, filter, flat_map, position, AllByRecursion}
use Rattle.sha1.specs.Sha1.{sha1}
use Rattle.uuid.specs.Parts.{with_version, with_variant}
use Rattle.uuid.specs.Text.{hyphenated_text, lower, parsed}
use Rattle.uuid.specs.Uuid.{namespace_dns}
use Rattle.uuid.specs.declared.Variant.TheVariants.{RFC4122}
use Rattle.uuid.specs.declared.Version.TheVariants.{Sha1}
use Rattle.tf_report.specs.declared.job_lines.JobLine.{JobLine}
use Rattle.tf_states.specs.declared.priorities.Priority.{Priority}
use Rattle.tf_states.specs.declared.state.JobState.{JobState}
use Rattle.tf_values.specs.declared.value.Val.{Val}
use Rattle.tf_board.specs.declared.board.Owner.{Owner}
use Rattle.tf_board.specs.declared.commands.Command.{Command}
use Rattle.tf_board.specs.declared.commands.JobAction.{JobAction}
use Rattle.tf_board.specs.declared.jobs.Job.{Job}
use Rattle.tf_board.specs.declared.jobs.Standing.{Standing}
use Rattle.tf_board.specs.declared.rules.Refusal.{Refusal}
use Rattle.std.specs.Int.{to_be_bytes, w64}
use Rattle.tf_values.specs.Text.{is_name}
use Rattle.tf_values.specs.Value.{IsValue, byte_form}
use Rattle.std.specs.declared.snapshot.Snapshot.{Snapshot}
use Rattle.tf_board.specs.declared.kept.Change.{Change}
use Rattle.tf_board.specs.declared.kept.Kept.{Kept}
use Rattle.tf_desk.specs.State.{DeskState, MayLeave, bytes_now, anything, OnDisk, Picks, LeavesMade}
use Rattle.tf_journal.specs.Format.{SIZE_LIMIT, Recovered, bodies, unborn, recovered, Held, IsAtRest, IsOpen, LeavesBirth}
use Rattle.tf_journal.specs.declared.faults.LoadFault.{LoadFault}
use Rattle.tf_journal.specs.declared.title.Title.TheVariants.{Jobs as jobs_title}
use Rattle.tf_records.specs.Refusing.{IsMalformed, RefusesMalformed}
use Rattle.tf_numbers.specs.Numbers.{Rises}
use Rattle.tf_desk.specs.Crash.{Pairs}
use Rattle.tf_journal.specs.Start.{Path, IsSet, file_of}
use Rattle.tf_states.specs.declared.priorities.Priority.TheVariants as priority
use Rattle.tf_states.specs.declared.state.JobState.TheVariants as state
use Rattle.tf_board.specs.declared.board.Owner.TheVariants as owned
use Rattle.tf_board.specs.declared.commands.Command.TheVariants as command
use Rattle.tf_board.specs.declared.commands.JobAction.TheVariants as action
use Rattle.tf_board.specs.declared.jobs.Standing.TheVariants as standing
use Rattle.tf_board.specs.declared.rules.Refusal.TheVariants as refusal
use Rattle.tf_board.specs.declared.kept.Change.TheVariants as change
use Rattle.tf_journal.specs.declared.faults.LoadFault.TheVariants as load_fault

-- ---- what the commands of a board mean: its jobs, who has them, and which commands are refused
-- Lists of commands have the newest first.

-- ---- ids

-- the id of a job: version 5 of the DNS name space and the text of its number, a slash and its name
unfoldable pub id_of : ℕ → List ℕ → List ℕ
id_of n name = with_version (with_variant (take 16 (sha1 (namespace_dns ++ (decimal n ++ 47 ∷ name)))) RFC4122) Sha1

-- its text: hyphenated, in lower case
unfoldable pub id_text : List ℕ → List ℕ
id_text id = hyphenated_text lower id

-- the id that a word spells, in one of its text forms
unfoldable pub parsed_id : List ℕ → Option (List ℕ)
parsed_id word = parsed word

-- two ids, or two names, are the same
abbrev pub same : List ℕ → List ℕ → Bool
same a b = pointwise ◌==◌ a b

-- the priority of this name
abbrev pub priority_named : List ℕ → Option Priority
priority_named word =
    if same word (codes "VERY_HIGH") then Some priority.VeryHigh
    else if same word (codes "HIGH") then Some priority.High
    else if same word (codes "NORMAL") then Some priority.Normal
    else if same word (codes "LOW") then Some priority.Low
    else if same word (codes "VERY_LOW") then Some priority.VeryLow
    else None

-- ---- jobs

-- how many jobs were posted; their numbers count from 1
abbrev pub posted : List Command → ℕ
posted [] = 0
posted (command.Post name priority details ∷ past) = posted past + 1
posted (command.Apply action job owner ∷ past) = posted past

-- the details that a command posts a job with, if it posts one
abbrev pub posted_with : Command → List Val
posted_with (command.Post name priority details) = details ∷ []
posted_with (command.Apply action job owner) = []

-- the details that the jobs were posted with, in the order of their numbers
abbrev pub details_in : List Command → List Val
details_in [] = []
details_in (last ∷ past) = details_in past ++ posted_with last

-- where a job stands after what an owner did with it
abbrev pub standing_after : JobAction → List ℕ → Standing
standing_after action.Claim owner = standing.Held owner
standing_after action.Abandon owner = standing.Free
standing_after action.Consume owner = standing.Consumed
standing_after action.Trash owner = standing.Trashed

-- where the job of a number stands: as what was last done with it left it, and free before anything was
abbrev pub standing_of : List Command → ℕ → Standing
standing_of [] n = standing.Free
standing_of (command.Post name priority details ∷ past) n = standing_of past n
standing_of (command.Apply action job owner ∷ past) n =
    if nat_eq job n then standing_after action owner else standing_of past n

-- the job of a number that was posted with this name and this priority
abbrev pub job_at : List Command → ℕ → List ℕ → Priority → Job
job_at past n name priority =
    record { number = n; id = id_of n name; name = name; priority = priority; standing = standing_of past n }

-- the jobs that some of the commands posted, the oldest, in the order of their numbers, as they stand after all
-- commands
abbrev pub jobs_in : List Command → List Command → List Job
jobs_in all [] = []
jobs_in all (command.Post name priority details ∷ past) =
    jobs_in all past ++ job_at all (posted past + 1) name priority ∷ []
jobs_in all (command.Apply action job owner ∷ past) = jobs_in all past

-- the jobs of a board, in the order of their numbers
abbrev pub jobs_of : List Command → List Job
jobs_of past = jobs_in past past

-- the item of a number, of which the first is 1
abbrev pub numbered : {A : Type 0} → List A → ℕ → Option A
numbered items zero = None
numbered items (suc place) = slice_get items place

-- a job has this id
abbrev pub has_id : List ℕ → Job → Bool
has_id id job = same job.id id

-- the place of the first job that has an id
abbrev pub place_of : List Job → List ℕ → Option ℕ
place_of jobs id = position (has_id id) jobs

-- the job that an id names: the one of least number that has it
abbrev pub named : List Job → List ℕ → Option Job
named jobs id = find (has_id id) jobs

-- this is the job of that number, if there is one
abbrev pub is_numbered : Option Job → ℕ → Bool
is_numbered None number = false
is_numbered (Some job) number = job.number == number

-- the id of a job names it, and none of less number
abbrev pub names_itself : List Job → Job → Bool
names_itself jobs job = is_numbered (named jobs job.id) job.number

-- ---- what is refused

-- what an owner may not do with a job that stands so
abbrev pub refused_at : Standing → JobAction → List ℕ → Option Refusal
refused_at standing.Consumed action owner = Some refusal.Gone
refused_at standing.Trashed action owner = Some refusal.Gone
refused_at (standing.Held kept) action.Claim owner = Some (refusal.Claimed kept)
refused_at (standing.Held kept) action owner = if same kept owner then None else Some (refusal.NotOwner (Some kept))
refused_at standing.Free action.Claim owner = None
refused_at standing.Free action owner = Some (refusal.NotOwner None)

-- what an owner may not do with a job, if there is one
abbrev pub refused_of : Option Job → JobAction → List ℕ → Option Refusal
refused_of None action owner = Some refusal.NoJob
refused_of (Some job) action owner = refused_at job.standing action owner

-- why an owner may not do that with the job that an id names
abbrev pub refuses_id : List Command → JobAction → List ℕ → List ℕ → Option Refusal
refuses_id past action id owner = refused_of (named (jobs_of past) id) action owner

-- why a command is refused; a job may always be posted
abbrev pub refuses : List Command → Command → Option Refusal
refuses past (command.Post name priority details) = None
refuses past (command.Apply action job owner) = refused_of (numbered (jobs_of past) job) action owner

-- no command is refused after those before it
abbrev pub LegalJobs : List Command → Type 0
LegalJobs [] = Unit {0}
LegalJobs (last ∷ past) = (refuses past last ≡ None) × LegalJobs past

-- ---- what a board tells

-- who has a job, if there is one
abbrev pub owner_in : Option Job → Owner
owner_in None = owned.NoJob
owner_in (Some job) = owner_at job.standing
  where
    owner_at : Standing → Owner
    owner_at standing.Free = owned.Free
    owner_at (standing.Held kept) = owned.Of kept
    owner_at standing.Consumed = owned.Gone
    owner_at standing.Trashed = owned.Gone

-- who has the job that an id names
abbrev pub owner_of : List Command → List ℕ → Owner
owner_of past id = owner_in (named (jobs_of past) id)

-- nobody has a job, and it isn't gone
abbrev pub is_free : Standing → Bool
is_free standing.Free = true
is_free (standing.Held kept) = false
is_free standing.Consumed = false
is_free standing.Trashed = false

-- a job is listed unless it is gone
abbrev pub is_there : Standing → Bool
is_there standing.Free = true
is_there (standing.Held kept) = true
is_there standing.Consumed = false
is_there standing.Trashed = false

-- the state of a job
abbrev pub state_of : Standing → JobState
state_of standing.Free = state.Unclaimed
state_of (standing.Held kept) = state.Claimed
state_of standing.Consumed = state.Complete
state_of standing.Trashed = state.Complete

-- who has a job that stands so, if somebody does
abbrev pub holder_of : Standing → Option (List ℕ)
holder_of standing.Free = None
holder_of (standing.Held kept) = Some kept
holder_of standing.Consumed = None
holder_of standing.Trashed = None

-- what the list says of a job
abbrev pub line_of : Job → JobLine
line_of job =
    record {
      number = job.number;
      id = id_text job.id;
      name = job.name;
      priority = job.priority;
      state = state_of
          job.standing;
      owner = holder_of job.standing;
    }

-- two priorities are the same
abbrev pub same_priority : Priority → Priority → Bool
same_priority priority.VeryHigh priority.VeryHigh = true
same_priority priority.High priority.High = true
same_priority priority.Normal priority.Normal = true
same_priority priority.Low priority.Low = true
same_priority priority.VeryLow priority.VeryLow = true
same_priority a b = false

-- the jobs of a priority that are there
abbrev pub is_listed : Priority → Job → Bool
is_listed priority job = same_priority job.priority priority && is_there job.standing

-- what the list says of the jobs of a priority, in the order of their numbers
abbrev pub listed_at : List Job → Priority → List JobLine
listed_at jobs priority = map line_of (filter (is_listed priority) jobs)

-- the priorities from the most urgent on
abbrev pub priorities : List Priority
priorities = priority.VeryHigh ∷ priority.High ∷ priority.Normal ∷ priority.Low ∷ priority.VeryLow ∷ []

-- the list of a board: the jobs that are there, by priority from the most urgent down, then by number
abbrev pub listed : List Command → List JobLine
listed past = flat_map (listed_at (jobs_of past)) priorities

-- ---- the byte form of what a board records
-- Numbers are big-endian.

-- a name behind its length
abbrev pub name_bytes : List ℕ → List ℕ
name_bytes name = length name ∷ name

-- the byte of a priority
abbrev pub priority_byte : Priority → ℕ
priority_byte priority.VeryHigh = 0
priority_byte priority.High = 1
priority_byte priority.Normal = 2
priority_byte priority.Low = 3
priority_byte priority.VeryLow = 4

-- the byte of what an owner does with a job
abbrev pub action_byte : JobAction → ℕ
action_byte action.Claim = 2
action_byte action.Abandon = 3
action_byte action.Consume = 4
action_byte action.Trash = 5

-- a posted job has its name, its priority and its details behind a tag, and what an owner did the job's number and the
-- owner's name
abbrev pub command_bytes : Command → List ℕ
command_bytes (command.Post name priority details) = 1 ∷ name_bytes name ++ (priority_byte priority ∷ byte_form details)
command_bytes (command.Apply action job owner) = action_byte action ∷ to_be_bytes w64 job ++ name_bytes owner

-- a command within the limits: its names are names, its number has 64 bits and its details are a value
abbrev pub IsCommand : Command → Type 0
IsCommand (command.Post name priority details) = (is_name name ≡ true) × IsValue details
IsCommand (command.Apply action job owner) = (job < 2 ^ 64) × (is_name owner ≡ true)

-- the same of all commands
abbrev pub AreCommands : List Command → Type 0
AreCommands commands = AllByRecursion IsCommand commands

-- ---- how a board keeps its commands and its jobs in memory

-- the command that a snapshot shows
abbrev pub command_in : Snapshot Command → Command
command_in s = s.value

-- the commands that snapshots show, the newest first
abbrev pub past_of : List (Snapshot Command) → List Command
past_of snapshots = reverse (map command_in snapshots)

-- the commands that are kept, the newest first
abbrev pub past_in : Kept → List Command
past_in kept = past_of kept.commands.items

-- the id of a job
abbrev pub id_in : Job → List ℕ
id_in job = job.id

-- the priority under which a job is free, unless somebody has it or it is gone
abbrev pub free_as : Job → Option Priority
free_as job = if is_free job.standing then Some job.priority else None

-- what stands side by side is what the jobs have: their ids, and under which priority each is free
pub record AreSideBySide (kept : Kept) : Type 0 where
  pub ids : kept.ids.items ≡ map id_in kept.jobs.items
  pub free : kept.free.items ≡ map free_as kept.jobs.items

-- the commands are legal and have forms, and the jobs with their details are theirs
pub record IsTrueTo (kept : Kept) (past : List Command) : Type 0 where
  pub commands : past_in kept ≡ past
  pub jobs : kept.jobs.items ≡ jobs_of past
  pub details : kept.details.items ≡ details_in past
  pub side_by_side : AreSideBySide kept
  pub legal : LegalJobs past
  pub forms : AreCommands past

-- there is room for one command and one job more with its details
pub record HasRoom (kept : Kept) : Type 0 where
  pub command : vec_len kept.commands < vec_capacity kept.commands
  pub job : vec_len kept.jobs < vec_capacity kept.jobs
  pub details : vec_len kept.details < vec_capacity kept.details
  pub id : vec_len kept.ids < vec_capacity kept.ids
  pub free : vec_len kept.free < vec_capacity kept.free

-- what a command changes of the jobs after these commands: a job is added, or the job at a place stands anew
abbrev pub IsChange : List Command → Command → Change → Type 0
IsChange past (command.Post name priority details) (change.Posted job) =
    job ≡ job_at past (posted past + 1) name priority
IsChange past (command.Apply action number owner) (change.Stands place standing) =
    (number ≡ suc place) × (place < length (jobs_of past)) × (standing ≡ standing_after action owner)
IsChange past command change = ⊥

-- ---- what a board is, and what its file holds
-- Lists of commands have the newest first.

-- a board: its accepted commands and its journal with its desk
pub record BoardValue (K : Type 0) : Type 0 where
  pub past : List Command
  pub journal : Held K

-- the commands that a board may hold: each is within its limits, and none was refused after those before it
pub record AreOfBoard (past : List Command) : Type 0 where
  pub legal : LegalJobs past
  pub forms : AreCommands past

-- the bodies of a board's records: one for each command
abbrev pub bodies_of : List Command → List (List ℕ)
bodies_of [] = []
bodies_of (last ∷ past) = bodies_of past ++ command_bytes last ∷ []

-- the size of a journal of them: a gate and a length before each body, and the title and two gates besides
abbrev pub size_of : List Command → ℕ
size_of [] = 18
size_of (last ∷ past) = size_of past + 5 + length (command_bytes last)

-- what recovery makes of the bytes of a board's file
abbrev pub board_in : List ℕ → Recovered
board_in bytes = recovered jobs_title bytes

-- it holds these commands
abbrev pub Holds : List Command → Recovered → Type 0
Holds past found = found ≡ bodies (bodies_of past)

-- it holds these commands, or no command and is still unborn
abbrev pub Finds : List Command → Recovered → Type 0
Finds past found = Holds past found ⊎ ((past ≡ []) × (found ≡ unborn))

-- in each image of its file that a crash now may leave are these commands
abbrev pub LeavesHeld : List Command → DeskState → Type 0
LeavesHeld past state = (image : List ℕ) → MayLeave state image → Holds past (board_in image)

-- what a board keeps of its parts: the jobs are those of its legal commands, its journal is kept in a file and has just
-- these commands, and unless an append found a disk fault the file is as the last call left it, where the desk tells
-- its content
pub record IsSound {K : Type 0} (state : K → DeskState) (kept : Kept) (b : BoardValue K) : Type 0 where
  pub true_to : IsTrueTo kept b.past
  pub title : b.journal.title ≡ jobs_title
  pub in_file : b.journal.volatile ≡ false
  pub ready : IsOpen state b.journal → IsAtRest state b.journal (bodies_of b.past)
  pub size : b.journal.size ≡ size_of b.past
  pub limit : b.journal.size ≤ SIZE_LIMIT

-- no command that isn't refused after these has this form
abbrev pub IsNoCommand : List Command → List ℕ → Type 0
IsNoCommand past body = (c : Command) → IsCommand c → refuses past c ≡ None → command_bytes c ≢ body

-- the bodies before are the forms of legal commands, after which no command that isn't refused has this form
pub record IsRefusedCommand (before : List (List ℕ)) (body : List ℕ) : Type 0 where
  pub past : List Command
  pub legal : LegalJobs past
  pub before_is : before ≡ bodies_of past
  pub cannot : IsNoCommand past body

-- the file is no board: it is no journal of that title, or one of its bodies can't come
abbrev pub IsNoBoard : Recovered → ℕ → Option ℕ → Type 0
IsNoBoard file offset byte = IsMalformed jobs_title IsRefusedCommand file offset byte

-- a file was refused for what it is; a fault of the disk and want of memory say nothing of it
abbrev pub RefusesBoard : LoadFault → Recovered → Type 0
RefusesBoard fault file = RefusesMalformed jobs_title IsRefusedCommand fault file

-- ---- what reading a board's file, or making one, leaves
-- Lists of commands have the newest first.

-- the desk that a load leaves
abbrev pub desk_loaded : {K F : Type 0} → Result (BoardValue K) (K × F) → K
desk_loaded (Ok board) = board.journal.desk
desk_loaded (Err back) = back.0

-- a crash inside a load: where the file is unborn, one in which a journal is made may leave it so or a board without a
-- command; the shown text stays
abbrev pub LeavesLoad : DeskState → Pairs
LeavesLoad old image text = (board_in (bytes_now old) ≡ unborn) × LeavesBirth jobs_title old.shown image text

-- a board that nothing stands against: no append found a disk fault, it is kept in a file with its title, its commands
-- are those that a board may hold, and its size is theirs
pub record IsReadyBoard {K : Type 0} (board : BoardValue K) : Type 0 where
  pub sound : board.journal.halted ≡ false
  pub in_file : board.journal.volatile ≡ false
  pub titled : board.journal.title ≡ jobs_title
  pub legal : AreOfBoard board.past
  pub sized : board.journal.size ≡ size_of board.past

-- the picked file is a board of these commands now, and a crash leaves them; it had them before, or it was unborn and
-- there are none
pub record IsLoadedBoard {K : Type 0} (state : K → DeskState) (old : DeskState) (board : BoardValue K) : Type 0 where
  pub fresh : IsReadyBoard board
  pub found : IsTrue old.tells → Finds board.past (board_in (bytes_now old))
  pub holds : IsTrue old.tells → Holds board.past (board_in (bytes_now (state board.journal.desk)))
  pub leaves : IsTrue old.tells → LeavesHeld board.past (state board.journal.desk)

-- why no board was made: a fault of the disk, where the count of them rose, or want of memory
abbrev pub FailsToMake : LoadFault → DeskState → DeskState → Type 0
FailsToMake load_fault.Disk old new = Rises old.disk_faults new.disk_faults
FailsToMake load_fault.Memory old new = Unit {0}
FailsToMake (load_fault.NotABook offset byte) old new = ⊥
FailsToMake load_fault.Old old new = ⊥

-- why a board wasn't loaded: what the fault says of the file is so, the disk's comes only where the count of them rose,
-- and none is of the format
pub record FailsToLoad (fault : LoadFault) (old new : DeskState) : Type 0 where
  pub refused : IsTrue old.tells → RefusesBoard fault (board_in (bytes_now old))
  pub cause : fault ≡ load_fault.Disk → Rises old.disk_faults new.disk_faults
  pub new_format : fault ≢ load_fault.Old

-- ---- what is known of a board's desk on the way through a command
-- Lists of commands have the newest first.

-- a crash leaves these commands, or a file that is still unborn where there are none; nothing more was shown since that
-- state
abbrev pub LeavesBoard : List Command → DeskState → Pairs
LeavesBoard past entry image text = Finds past (board_in image) × (entry.shown ≡ Some text)

-- the file is as it was; or it was unborn, and is so still or a board without a command
abbrev pub IsAsBeforeOrMade : List ℕ → List ℕ → Type 0
IsAsBeforeOrMade before now = (now ≡ before) ⊎ ((board_in before ≡ unborn) × Finds [] (board_in now))

-- a crash leaves the file of that name so; nothing more was shown since that state
abbrev pub LeavesUnmade : List ℕ → DeskState → Pairs
LeavesUnmade name entry image text = IsAsBeforeOrMade (file_of entry name) image × (entry.shown ≡ Some text)

-- the file of that name was picked
pub record IsPicked (name : List ℕ) (entry now : DeskState) : Type 0 where
  pub on_disk : OnDisk anything entry now
  pub picks : IsTrue entry.tells → Picks name entry now
  pub made : IsTrue entry.tells → LeavesMade name entry now

-- it is a board: the commands that it had are those that it has now, or it was unborn and has none
pub record IsOpened {K : Type 0} (state : K → DeskState) (name : List ℕ) (entry : DeskState) (board : BoardValue K)
    : Type 0 where
  pub on_disk : OnDisk anything entry (state board.journal.desk)
  pub fresh : IsReadyBoard board
  pub found : IsTrue entry.tells → Finds board.past (board_in (file_of entry name))
  pub holds : IsTrue entry.tells → Holds board.past (board_in (file_of (state board.journal.desk) name))
  pub set : IsTrue entry.tells → IsSet name entry (state board.journal.desk)
  pub path : IsTrue entry.tells
      → Path name entry (state board.journal.desk) (LeavesBoard board.past entry)
      (λ image. Holds board.past (board_in image))

-- it couldn't be opened for this fault: it is as it was, or it was unborn and no command is in it; what the fault says
-- of the file is so, and the disk's comes only where the count of them rose, and none is of the format
pub record IsUnopened (name : List ℕ) (fault : LoadFault) (entry now : DeskState) : Type 0 where
  pub on_disk : OnDisk anything entry now
  pub file : IsTrue entry.tells → IsAsBeforeOrMade (file_of entry name) (file_of now name)
  pub path : IsTrue entry.tells
      → Path name entry now (LeavesUnmade name entry) (λ image. IsAsBeforeOrMade (file_of entry name) image)
  pub refused : IsTrue entry.tells → RefusesBoard fault (board_in (file_of entry name))
  pub cause : fault ≡ load_fault.Disk → Rises entry.disk_faults now.disk_faults
  pub new_format : fault ≢ load_fault.Old

-- the one or the other, as the answer says
abbrev pub Opens : {K : Type 0} → (K → DeskState) → List ℕ → DeskState → Result (BoardValue K) (K × LoadFault) → Type 0
Opens state name entry (Ok board) = IsOpened state name entry board
Opens state name entry (Err back) = IsUnopened name back.1 entry (state back.0)
