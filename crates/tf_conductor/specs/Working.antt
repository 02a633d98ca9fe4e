-- What one conductor does, turn by turn, and what it knows. Lists of commands have the newest first, lists of calls the
-- oldest.
use Rattle.std.specs.Prelude.{◌≡◌, ◌≢◌, ◌⊎◌, ◌==◌, ◌<◌, ℕ, Bool, true, false, List, [], ◌∷◌, ◌++◌, length, map, slice_get, Option, Some, None}
use Rattle.std.specs.List.{list_any, AllByRecursion}
use Rattle.tf_values.specs.declared.value.Val.{Val}
use Rattle.tf_board.specs.Board.{LegalJobs}
use Rattle.tf_board.specs.Does.{number_of}
use Rattle.tf_board.specs.Seeking.{free_job}
use Rattle.tf_board.specs.declared.commands.Command.{Command}
use Rattle.tf_shared_board.specs.Shared.{followed_by}
use Rattle.tf_shared_board.specs.declared.calls.Made.{Made}
use Rattle.tf_turnstile.specs.Passes.{TurnstileValue, PassValue, IsIdle, new_pass}
use Rattle.tf_conductor.specs.Conducting.{ConductingValue}
use Rattle.tf_conductor.specs.Rounds.{Begun, Round, HasConducted, IsConductors, AreDifferent, AllClaimed, claim_by, details_of, end_of_round, is_claimed, nothing, GiveSame, told_run}
use Rattle.tf_conductor.specs.declared.runners.Ran.{Ran}
use Rattle.tf_conductor.specs.declared.turns.Claim.{Claim}
use Rattle.tf_conductor.specs.declared.turns.Next.{Next}
use Rattle.tf_conductor.specs.declared.turns.Next.TheVariants as next

-- ---- what a pass has seen

module _ {K : Type 0} where
  -- the calls that were made since the start, as far as a pass has seen them
  abbrev pub seen_calls : PassValue (ConductingValue K) Made → List Made
  seen_calls pass = map (λ e. e.1) pass.seen

  -- the commands at the start
  abbrev pub start_past : TurnstileValue (ConductingValue K) → List Command
  start_past turnstile = turnstile.start.begun.board.past

  -- the turnstile was made as the call began, for distinct owners, of whom this one has this number
  pub record IsConductorOf (turnstile : TurnstileValue (ConductingValue K)) (number : ℕ) (owner : List ℕ) : Type 0 where
    pub fresh : turnstile.start.now ≡ turnstile.start.begun
    pub has : slice_get turnstile.start.owners number ≡ Some owner
    pub apart : AreDifferent turnstile.start.owners

-- ---- one turn

-- calls of others were made, and then these
pub record HasTurned (number : ℕ) (old new mine : List Made) : Type 0 where
  pub others : List Made
  pub is : new ≡ old ++ (others ++ mine)
  pub apart : AllByRecursion (λ m. m.number ≢ number) others

-- the last call is the claim of this job, which its id named then
pub record HasClaim (past : List Command) (number : ℕ) (owner : List ℕ) (calls : List Made) (job : ℕ)
    (id : List ℕ) : Type 0 where
  pub before : List Made
  pub is : calls ≡ before ++ claim_by number owner job id ∷ []
  pub about : job ≡ number_of (followed_by past before) id

-- no job may be claimed but those to skip; and what is known of the calls
pub record LeavesNoJob (past : List Command) (owners : List (List ℕ)) (skip : List ℕ) (calls : List Made) : Type 0 where
  pub legal : LegalJobs (followed_by past calls)
  pub by : AllByRecursion (IsConductors owners) calls
  pub none : free_job (followed_by past calls) skip ≡ None

-- after a turn to claim a job: it was claimed, and its details are these; there was none; or the board is halted
abbrev pub KnowsNext : List Command → List (List ℕ) → ℕ → List ℕ → List ℕ → List Made → List Made → Next → Type 0
KnowsNext past owners number owner skip old new next.Stop =
    HasTurned number old new [] × LeavesNoJob past owners skip new
KnowsNext past owners number owner skip old new next.Halt = HasTurned number old new []
KnowsNext past owners number owner skip old new (next.Run claim) =
    HasTurned number old new (claim_by number owner claim.job claim.id ∷ [])
    × HasClaim past number owner new claim.job claim.id
    × (details_of past claim.job ≡ Some claim.details)

-- the round of a job that was claimed and whose run ended so
abbrev pub round_so : Claim → Ran → Round
round_so claim r = record { job = claim.job; id = claim.id; details = claim.details; ran = r }

-- after a turn to end a job whose run ended so and to claim the next one: it was ended, and then that is known which is
-- known after a turn to claim; or no call was made
abbrev pub KnowsAfter : List Command → List (List ℕ) → ℕ → List ℕ → Claim → Ran → List ℕ → List Made → List Made
    → Option Next → Type 0
KnowsAfter past owners number owner claim r skip old new None = HasTurned number old new []
KnowsAfter past owners number owner claim r skip old new (Some result) =
    (mid : List Made) × HasTurned number old mid (end_of_round number owner (round_so claim r) ∷ [])
    × KnowsNext past owners number owner skip mid new result

-- the runner was asked for the run of the claimed job, which ended so
pub record HasRunJob (gives : Val → Ran → Type 0) (claim : Claim) (before after : Option (List (Val × Ran)))
    (r : Ran) : Type 0 where
  pub given : gives claim.details r
  pub told : after ≡ told_run before (claim.details, r)

-- the claimed job was run and ended
abbrev pub EndsClaimed : (Val → Ran → Type 0) → ℕ → List ℕ → Claim → Option (List (Val × Ran))
    → Option (List (Val × Ran)) → List Made → List Made → Ran → Type 0
EndsClaimed gives number owner claim before after old new r =
    HasTurned number old new (end_of_round number owner (round_so claim r) ∷ []) × HasRunJob gives claim before after r

-- no call was made, and the claimed job was perhaps run
abbrev pub StopsClaimed : (Val → Ran → Type 0) → ℕ → Claim → Option (List (Val × Ran)) → Option (List (Val × Ran))
    → List Made → List Made → Type 0
StopsClaimed gives number claim before after old new =
    HasTurned number old new [] × ((after ≡ before) ⊎ ((r : Ran) × HasRunJob gives claim before after r))

-- ---- all turns

-- each job that the conductor left has a claim among the calls
abbrev pub AreLeft : List ℕ → List Made → Type 0
AreLeft left calls = (job : ℕ) → list_any (λ n. n == job) left ≡ true → is_claimed calls job ≡ true

-- calls were added, of the conductor whole rounds and what it has begun
pub record HasMoved (gives : Val → Ran → Type 0) (past : List Command) (number : ℕ) (owner : List ℕ)
    (before after : Option (List (Val × Ran))) (old new : List Made) (begun : Begun) : Type 0 where
  pub more : List Made
  pub is : new ≡ old ++ more
  pub conducted : HasConducted gives before past number owner after more begun

-- the jobs to skip, and perhaps this one
abbrev pub IsSkipping : ℕ → List ℕ → List ℕ → Type 0
IsSkipping job old new = (new ≡ old) ⊎ (new ≡ old ++ job ∷ [])

-- the claimed job was run and ended, and then that is known which is known after a turn to claim; the job may be
-- skipped from then on
pub record GoesOnFrom (gives : Val → Ran → Type 0) (past : List Command) (owners : List (List ℕ)) (number : ℕ)
    (owner : List ℕ) (claim : Claim)
    (before after : Option (List (Val × Ran))) (left_old left_new : List ℕ) (old new : List Made)
    (result : Next) : Type 0 where
  pub mid : List Made
  pub r : Ran
  pub ends : EndsClaimed gives number owner claim before after old mid r
  pub skips : IsSkipping claim.job left_old left_new
  pub knows : KnowsNext past owners number owner left_new mid new result

-- after the run of a claimed job: it goes on, or it stops at a halt
abbrev pub StepsFrom : (Val → Ran → Type 0) → List Command → List (List ℕ) → ℕ → List ℕ → Claim
    → Option (List (Val × Ran)) → Option (List (Val × Ran))
    → List ℕ → List ℕ → List Made → List Made → Next → Type 0
StepsFrom gives past owners number owner claim before after left_old left_new old new result =
    GoesOnFrom gives past owners number owner claim before after left_old left_new old new result
    ⊎ ((result ≡ next.Halt) × StopsClaimed gives number claim before after old new)

-- what is known of a conductor at the end of a turn: it has ended all that it claimed before, and in this turn it found
-- no job, so that each that was open has a claim; or it stops at a halt; or it has claimed a job
abbrev pub StandsWith : (Val → Ran → Type 0) → Option (List (Val × Ran)) → List Command → List (List ℕ) → ℕ → List ℕ
    → Option (List (Val × Ran))
    → List ℕ → List Made → Next → Type 0
StandsWith gives told past owners number owner did left calls next.Stop =
    HasConducted gives told past number owner did calls nothing × AllClaimed past calls
StandsWith gives told past owners number owner did left calls next.Halt =
    (begun : Begun) × HasConducted gives told past number owner did calls begun
StandsWith gives told past owners number owner did left calls (next.Run claim) =
    (old : List Made) × HasConducted gives told past number owner did old nothing × AreLeft left old
    × HasTurned number old calls (claim_by number owner claim.job claim.id ∷ [])
    × HasClaim past number owner calls claim.job claim.id
    × (details_of past claim.job ≡ Some claim.details)

-- after all jobs
pub record HasWorkedOn {K : Type 0} (turnstile : TurnstileValue (ConductingValue K)) (number : ℕ) (owner : List ℕ)
    (gives : Val → Ran → Type 0)
    (before after : Option (List (Val × Ran))) (pass : PassValue (ConductingValue K) Made)
    (halted : Bool) : Type 0 where
  pub idle : IsIdle turnstile number pass
  pub begun : Begun
  pub conducted : HasConducted gives before (start_past turnstile) number owner after (seen_calls pass) begun
  pub whole : halted ≡ false → begun ≡ nothing
  pub all : halted ≡ false → AllClaimed (start_past turnstile) (seen_calls pass)

-- ---- all conductors

module _ {K : Type 0} where
  -- the turnstile was made as the call began, for these distinct owners, of whom one has this number; and the pass is
  -- as it was made
  pub record IsAppointed (turnstile : TurnstileValue (ConductingValue K)) (owners : List (List ℕ)) (number : ℕ)
      (pass : PassValue (ConductingValue K) Made) : Type 0 where
    pub fresh : turnstile.start.now ≡ turnstile.start.begun
    pub apart : AreDifferent turnstile.start.owners
    pub owners_are : owners ≡ turnstile.start.owners
    pub below : number < length owners
    pub few : number < 64
    pub made : pass ≡ new_pass turnstile number

  -- after all jobs of the conductor of a number
  pub record HasWorkedAs (turnstile : TurnstileValue (ConductingValue K)) (number : ℕ)
      (old_gives new_gives : Val → Ran → Type 0)
      (before after : Option (List (Val × Ran))) (pass : PassValue (ConductingValue K) Made)
      (halted : Bool) : Type 0 where
    pub same : GiveSame old_gives new_gives
    pub worked : (owner : List ℕ) → slice_get turnstile.start.owners number ≡ Some owner
        → HasWorkedOn turnstile number owner old_gives before after pass halted
