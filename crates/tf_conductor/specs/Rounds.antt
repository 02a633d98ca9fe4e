-- What conductors promise of their calls and runs. Lists of commands have the newest first, lists of calls the oldest.
use Rattle.std.specs.Prelude.{◌≡◌, ◌⊎◌, ℕ, Bool, true, false, ◌&&◌, nat_eq, List, [], ◌∷◌, ◌++◌, map, slice_get, Option, Some, None}
use Rattle.std.specs.Fmt.{decimal}
use Rattle.std.specs.List.{filter, list_any, AllByRecursion}
use Rattle.tf_desk.specs.Crash.{Pairs}
use Rattle.tf_desk.specs.State.{DeskState}
use Rattle.tf_journal.specs.Format.{Recovered}
use Rattle.tf_values.specs.declared.value.Val.{Val}
use Rattle.tf_board.specs.Board.{AreOfBoard, Holds, board_in, details_in, jobs_of, numbered, is_free, names_itself}
use Rattle.tf_board.specs.declared.commands.Command.{Command}
use Rattle.tf_board.specs.declared.jobs.Job.{Job}
use Rattle.tf_shared_board.specs.Shared.{followed_by, made_command}
use Rattle.tf_shared_board.specs.declared.calls.BoardHalt.{BoardHalt}
use Rattle.tf_shared_board.specs.declared.calls.BoardHalt.TheVariants as halt
use Rattle.tf_board.specs.declared.calls.JobCall.{JobCall}
use Rattle.tf_board.specs.declared.calls.JobCall.TheVariants as call
use Rattle.tf_board.specs.declared.commands.JobAction.TheVariants as action
use Rattle.tf_shared_board.specs.declared.calls.Made.{Made}
use Rattle.tf_conductor.specs.declared.runners.Ran.{Ran}
use Rattle.tf_conductor.specs.declared.runners.Ran.TheVariants as ran

-- ---- calls

-- those of one conductor, in their order
abbrev pub calls_by : ℕ → List Made → List Made
calls_by number calls = filter (λ m. nat_eq m.number number) calls

-- a claim, a consume or an abandon by this owner
abbrev pub IsCallBy : List ℕ → JobCall → Type 0
IsCallBy owner (call.Post name priority details) = ⊥
IsCallBy owner (call.Apply action.Claim id who) = who ≡ owner
IsCallBy owner (call.Apply action.Abandon id who) = who ≡ owner
IsCallBy owner (call.Apply action.Consume id who) = who ≡ owner
IsCallBy owner (call.Apply action.Trash id who) = ⊥

-- a call with the number of a conductor, by its owner
abbrev pub IsConductors : List (List ℕ) → Made → Type 0
IsConductors owners m = (owner : List ℕ) × (slice_get owners m.number ≡ Some owner) × IsCallBy owner m.call

-- no two owners are the same
abbrev pub AreDifferent : List (List ℕ) → Type 0
AreDifferent owners =
    (i j : ℕ) (owner : List ℕ) → slice_get owners i ≡ Some owner → slice_get owners j ≡ Some owner → i ≡ j

-- how a conductor ends a job for its owner: it is consumed where its run is done, and else abandoned
abbrev pub end_call : Ran → List ℕ → List ℕ → JobCall
end_call ran.Done id owner = call.Apply action.Consume id owner
end_call ran.Left id owner = call.Apply action.Abandon id owner

-- ---- what a runner tells of its runs

-- the runs with these more, where they are told
abbrev pub told_runs : Option (List (Val × Ran)) → List (Val × Ran) → Option (List (Val × Ran))
told_runs None more = None
told_runs (Some runs) more = Some (runs ++ more)

-- the runs with one more, where they are told
abbrev pub told_run : Option (List (Val × Ran)) → Val × Ran → Option (List (Val × Ran))
told_run told run = told_runs told (run ∷ [])

-- how runs may end is the same of both
abbrev pub GiveSame : (Val → Ran → Type 0) → (Val → Ran → Type 0) → Type 0
GiveSame old new =
    (details : Val) (ran : Ran) → (old details ran → new details ran) × (new details ran → old details ran)

-- ---- rounds

-- a job that a conductor claimed and ran: its number, the id by which it was claimed, its details, and how its run
-- ended
pub record Round : Type 0 where
  pub job : ℕ
  pub id : List ℕ
  pub details : Val
  pub ran : Ran

-- what a conductor has begun and not ended: nothing; a job that it claimed; or one that it ran besides
pub data Begun : Type 0 where
  nothing : Begun
  claimed : (job : ℕ) (id : List ℕ) (details : Val) → Begun
  run : Round → Begun

-- the claim of a job
abbrev pub claim_by : ℕ → List ℕ → ℕ → List ℕ → Made
claim_by number owner job id = record { number = number; job = job; call = call.Apply action.Claim id owner }

-- the end of the same job
abbrev pub end_of_round : ℕ → List ℕ → Round → Made
end_of_round number owner r = record { number = number; job = r.job; call = end_call r.ran r.id owner }

-- the calls of rounds: of each the claim, and then the end of that job
abbrev pub calls_of : ℕ → List ℕ → List Round → List Made
calls_of number owner [] = []
calls_of number owner (r ∷ rounds) =
    claim_by number owner r.job r.id ∷ (end_of_round number owner r ∷ calls_of number owner rounds)

-- the call of what is begun: the claim alone
abbrev pub begun_calls : ℕ → List ℕ → Begun → List Made
begun_calls number owner nothing = []
begun_calls number owner (claimed job id details) = claim_by number owner job id ∷ []
begun_calls number owner (run r) = claim_by number owner r.job r.id ∷ []

-- what is asked of a runner in a round, with its answer
abbrev pub round_run : Round → Val × Ran
round_run r = (r.details, r.ran)

-- in all of them, in their order
abbrev pub runs_of : List Round → List (Val × Ran)
runs_of rounds = map round_run rounds

-- in what is begun
abbrev pub begun_runs : Begun → List (Val × Ran)
begun_runs nothing = []
begun_runs (claimed job id details) = []
begun_runs (run r) = round_run r ∷ []

-- the details that the job of a number was posted with
abbrev pub details_of : List Command → ℕ → Option Val
details_of past job = numbered (details_in past) job

-- the details are those of the job, and the runner may end their run so
pub record IsRound (gives : Val → Ran → Type 0) (past : List Command) (r : Round) : Type 0 where
  pub details_is : details_of past r.job ≡ Some r.details
  pub given : gives r.details r.ran

-- the same of what is begun
abbrev pub IsBegunRound : (Val → Ran → Type 0) → List Command → Begun → Type 0
IsBegunRound gives past nothing = Unit {0}
IsBegunRound gives past (claimed job id details) = details_of past job ≡ Some details
IsBegunRound gives past (run r) = IsRound gives past r

-- a conductor made just the calls of these rounds and of what it has begun, and its runner was asked for just these
-- runs; when the runner had told so, and the commands were these
pub record HasConducted (gives : Val → Ran → Type 0) (told : Option (List (Val × Ran))) (past : List Command)
    (number : ℕ) (owner : List ℕ)
    (did : Option (List (Val × Ran))) (calls : List Made) (begun : Begun) : Type 0 where
  pub rounds : List Round
  pub calls_are : calls_by number calls ≡ calls_of number owner rounds ++ begun_calls number owner begun
  pub did_is : did ≡ told_runs told (runs_of rounds ++ begun_runs begun)
  pub are_rounds : AllByRecursion (IsRound gives past) rounds
  pub is_begun : IsBegunRound gives past begun

-- the same in the end: something begun is left only where the board is halted
pub record EndsConducting (gives : Val → Ran → Type 0) (told : Option (List (Val × Ran))) (past : List Command)
    (number : ℕ) (owner : List ℕ)
    (did : Option (List (Val × Ran))) (calls : List Made) (halt : Option BoardHalt) : Type 0 where
  pub begun : Begun
  pub conducted : HasConducted gives told past number owner did calls begun
  pub whole : halt ≡ None → begun ≡ nothing

-- ---- all jobs

-- nobody has the job of this number, and its own id names it
pub record IsUnclaimed (past : List Command) (number : ℕ) : Type 0 where
  pub job : Job
  pub there : numbered (jobs_of past) number ≡ Some job
  pub free : is_free job.standing ≡ true
  pub itself : names_itself (jobs_of past) job ≡ true

-- a call claims something
abbrev pub is_claim : JobCall → Bool
is_claim (call.Post name priority details) = false
is_claim (call.Apply action.Claim id owner) = true
is_claim (call.Apply action.Abandon id owner) = false
is_claim (call.Apply action.Consume id owner) = false
is_claim (call.Apply action.Trash id owner) = false

-- it is a claim of the job of this number
abbrev pub claims : ℕ → Made → Bool
claims job m = is_claim m.call && nat_eq m.job job

-- one of the calls claims the job of this number
abbrev pub is_claimed : List Made → ℕ → Bool
is_claimed calls job = list_any (claims job) calls

-- each job that was open has a claim among the calls
abbrev pub AllClaimed : List Command → List Made → Type 0
AllClaimed past calls = (job : ℕ) → IsUnclaimed past job → is_claimed calls job ≡ true

-- ---- how owners are named by a word

-- the owner of a conductor: the word, a hyphen and the conductor's number
unfoldable pub owner_name : List ℕ → ℕ → List ℕ
owner_name word number = word ++ 45 ∷ decimal number

-- each owner is named so, by its place
abbrev pub AreNamedBy : List ℕ → List (List ℕ) → Type 0
AreNamedBy word owners = (i : ℕ) (owner : List ℕ) → slice_get owners i ≡ Some owner → owner ≡ owner_name word i

-- ---- what the board's file has

-- these commands, or with them that of one call more of this kind, which a board may hold there
pub data HoldsTried (kind : Made → Type 0) (past : List Command) (found : Recovered) : Type 0 where
  all_held : Holds past found → HoldsTried kind past found
  one_more : (m : Made) → kind m → AreOfBoard (made_command m ∷ past) → Holds (made_command m ∷ past) found
      → HoldsTried kind past found

-- the commands from before followed by those of the first calls, or by one call more
pub record HoldsSome (kind : Made → Type 0) (past : List Command) (made : List Made) (found : Recovered) : Type 0 where
  pub first : List Made
  pub others : List Made
  pub splits : made ≡ first ++ others
  pub holds : HoldsTried kind (followed_by past first) found

-- these commands; or, where the board was halted since the disk failed, one call more
abbrev pub HoldsKept : (Made → Type 0) → List Command → Option BoardHalt → Recovered → Type 0
HoldsKept kind past halted found = Holds past found ⊎ ((halted ≡ Some halt.Disk) × HoldsTried kind past found)

-- a crash inside leaves these commands, or those of one call more; the shown text stays
abbrev pub LeavesTried : (Made → Type 0) → List Command → DeskState → Pairs
LeavesTried kind past old image text = HoldsTried kind past (board_in image) × (old.shown ≡ Some text)

-- a crash inside leaves the commands of the first calls, or of one call more; the shown text stays
abbrev pub LeavesSome : (Made → Type 0) → List Command → List Made → DeskState → Pairs
LeavesSome kind past made old image text = HoldsSome kind past made (board_in image) × (old.shown ≡ Some text)

-- a call of the conductor of this number, by its owner
abbrev pub IsBy : ℕ → List ℕ → Made → Type 0
IsBy number owner m = (m.number ≡ number) × IsCallBy owner m.call

-- no call
abbrev pub IsNobodys : Made → Type 0
IsNobodys m = ⊥
