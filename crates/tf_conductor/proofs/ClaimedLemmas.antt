-- Each job that was unclaimed has a claim, once none may be claimed but those that have one.
use Rattle.std.proofs.Common.{◌≡◌, ◌≢◌, ℕ, zero, suc, ◌+◌, Bool, true, false, List, [], ◌∷◌, ◌++◌, cond, map, Option, Some, None, refl, sym, ap, ◌∙◌, arith}
use Rattle.std.specs.Prelude.{◌&&◌, ◌||◌, ◌==◌, not, nat_eq, if◌then◌else◌, option_map, slice_get}
use Rattle.std.specs.Option.{option_or}
use Rattle.std.specs.List.{find, filter, flat_map, list_any, AllByRecursion}
use Rattle.std.proofs.lemmas.Bool.{eqb-true}
use Rattle.std.proofs.lemmas.List.{map-append}
use Rattle.std.proofs.lemmas.List.Folds.{find-append}
use Rattle.std.proofs.lemmas.Option.{slice_get-map}
use Rattle.tf_board.specs.Board.{LegalJobs, has_id, is_free, is_listed, is_there, job_at, jobs_in, jobs_of, named, posted, priorities, refused_at, refuses, same_priority, standing_after, standing_of, is_numbered, names_itself}
use Rattle.tf_board.specs.Seeking.{free_job, is_takable, jobs_listed, number_in}
use Rattle.tf_board.specs.declared.commands.Command.{Command}
use Rattle.tf_board.specs.declared.commands.Command.TheVariants as command
use Rattle.tf_board.specs.declared.commands.JobAction.{JobAction}
use Rattle.tf_board.specs.declared.commands.JobAction.TheVariants as action
use Rattle.tf_board.specs.declared.jobs.Job.{Job}
use Rattle.tf_board.specs.declared.jobs.Standing.{Standing}
use Rattle.tf_board.specs.declared.jobs.Standing.TheVariants as standing
use Rattle.tf_board.proofs.JobLemmas.{job_told}
use Rattle.tf_board.proofs.OwnerLemmas.{act_allowed}
use Rattle.tf_states.specs.declared.priorities.Priority.{Priority}
use Rattle.tf_states.specs.declared.priorities.Priority.TheVariants as priority
use Rattle.tf_shared_board.specs.Shared.{followed_by, made_command}
use Rattle.tf_board.specs.declared.calls.JobCall.{JobCall}
use Rattle.tf_board.specs.declared.calls.JobCall.TheVariants as call
use Rattle.tf_shared_board.specs.declared.calls.Made.{Made}
use Rattle.tf_conductor.specs.Rounds.{AllClaimed, IsCallBy, IsConductors, IsUnclaimed, claims, is_claimed}
use Rattle.tf_conductor.specs.Working.{AreLeft, LeavesNoJob}

-- ---- lists

or_none : (a b : Bool) → (a || b) ≡ false → (a ≡ false) × (b ≡ false)
or_none true b is = absurd (cc)
or_none false b is = (refl, is)

neither : {A : Type 0} (a b : Option A) → option_or a b ≡ None → (a ≡ None) × (b ≡ None)
neither None b is = (refl, is)
neither (Some x) b is = absurd (cc)

-- where none is found among the items that meet a test, none of them meets the other
none_among : {A : Type 0} (p q : A → Bool) (xs : List A) (i : ℕ) (x : A) → find p (filter q xs) ≡ None → slice_get xs i ≡ Some x → q x ≡ true → p x ≡ false
none_among p q [] i x none at meets = absurd (cc)
none_among {A} p q (y ∷ xs) zero x none at meets =
    let same : y ≡ x = cc in
    let here : q y ≡ true = ap q same ∙ meets in
    let first : find p (y ∷ filter q xs) ≡ None = sym (ap (λ (b : Bool). find p (cond b (y ∷ filter q xs) (filter q xs))) here) ∙ none in
    sym (ap p same) ∙ by (p y) refl first
  where
    by : (b : Bool) → p y ≡ b → cond (p y) (Some y) (find p (filter q xs)) ≡ None → p y ≡ false
    by false is found = is
    by true is found = (let clash : Some y ≡ None = sym (ap (λ (b : Bool). cond b (Some y) (find p (filter q xs))) is) ∙ found in absurd (cc))
none_among {A} p q (y ∷ xs) (suc i) x none at meets = none_among p q xs i x (by (q y) none) at meets
  where
    by : (b : Bool) → find p (cond b (y ∷ filter q xs) (filter q xs)) ≡ None → find p (filter q xs) ≡ None
    by false found = found
    by true found = more (p y) found
      where
        more : (b : Bool) → cond b (Some y) (find p (filter q xs)) ≡ None → find p (filter q xs) ≡ None
        more false later = later
        more true clash = absurd (cc)

-- in lists one after another none is found in any
none_in : {A B : Type 0} (p : B → Bool) (f : A → List B) (xs : List A) (i : ℕ) (a : A) → find p (flat_map f xs) ≡ None → slice_get xs i ≡ Some a → find p (f a) ≡ None
none_in p f [] i a none at = absurd (cc)
none_in p f (y ∷ xs) zero a none at =
    let same : y ≡ a = cc in
    sym (ap (λ z. find p (f z)) same) ∙ (neither (find p (f y)) (find p (flat_map f xs)) (sym (find-append p (f y) (flat_map f xs)) ∙ none)).0
none_in p f (y ∷ xs) (suc i) a none at = none_in p f xs i a (neither (find p (f y)) (find p (flat_map f xs)) (sym (find-append p (f y) (flat_map f xs)) ∙ none)).1 at

-- ---- jobs as they stand later

-- the same job as it stands after all these commands
abbrev restood : List Command → Job → Job
restood all job = record job { standing = standing_of all job.number }

-- how the jobs stand is all that depends on later commands
jobs_restood : (all other rest : List Command) → jobs_in all rest ≡ map (restood all) (jobs_in other rest)
jobs_restood all other [] = refl
jobs_restood all other (command.Apply action job owner ∷ past) = jobs_restood all other past
jobs_restood all other (command.Post name p details ∷ past) =
    ap (λ (l : List Job). l ++ job_at all (posted past + 1) name p ∷ []) (jobs_restood all other past)
    ∙ sym (map-append (restood all) (jobs_in other past) (job_at other (posted past + 1) name p ∷ []))

-- nothing was posted since
pub jobs_since : (owners : List (List ℕ)) (all past : List Command) (calls : List Made) → AllByRecursion (IsConductors owners) calls → jobs_in all (followed_by past calls) ≡ jobs_in all past
jobs_since owners all past [] by = refl
jobs_since owners all past (m ∷ calls) by = jobs_since owners all (made_command m ∷ past) calls by.1 ∙ posts_none m.call by.0.2
  where
    posts_none : (x : JobCall) → IsCallBy by.0.0 x → jobs_in all (made_command (record { number = m.number; job = m.job; call = x }) ∷ past) ≡ jobs_in all past
    posts_none (call.Post name priority details) is = absurd is
    posts_none (call.Apply action.Claim id owner) is = refl
    posts_none (call.Apply action.Abandon id owner) is = refl
    posts_none (call.Apply action.Consume id owner) is = refl
    posts_none (call.Apply action.Trash id owner) is = absurd is

-- an id names the same job
named_restood : (all : List Command) (jobs : List Job) (id : List ℕ) → named (map (restood all) jobs) id ≡ option_map (restood all) (named jobs id)
named_restood all [] id = refl
named_restood all (job ∷ jobs) id = by (has_id id job) (named_restood all jobs id)
  where
    by : (b : Bool) → named (map (restood all) jobs) id ≡ option_map (restood all) (named jobs id)
        → cond b (Some (restood all job)) (named (map (restood all) jobs) id) ≡ option_map (restood all) (cond b (Some job) (named jobs id))
    by true rest = refl
    by false rest = rest

itself_restood : (all : List Command) (jobs : List Job) (job : Job) → names_itself jobs job ≡ true → names_itself (map (restood all) jobs) (restood all job) ≡ true
itself_restood all jobs job is = ap (λ (o : Option Job). is_numbered o job.number) (named_restood all jobs job.id) ∙ by (named jobs job.id) is
  where
    by : (o : Option Job) → is_numbered o job.number ≡ true → is_numbered (option_map (restood all) o) job.number ≡ true
    by None none = none
    by (Some other) same = same

-- ---- a job that nobody claimed stays free

pub legal_before : (past : List Command) (calls : List Made) → LegalJobs (followed_by past calls) → LegalJobs past
legal_before past [] legal = legal
legal_before past (m ∷ calls) legal = (legal_before (made_command m ∷ past) calls legal).1

-- one call that doesn't claim it
free_called : (past : List Command) (m : Made) (job : ℕ) (owner : List ℕ) → refuses past (made_command m) ≡ None → IsCallBy owner m.call → claims job m ≡ false → standing_of past job ≡ standing.Free
    → standing_of (made_command m ∷ past) job ≡ standing.Free
free_called past m job owner may mine unclaimed free = by m.call may mine unclaimed
  where
    acted : (act : JobAction) (who : List ℕ) → refused_at standing.Free act who ≢ None → refuses past (command.Apply act m.job who) ≡ None
        → standing_of (command.Apply act m.job who ∷ past) job ≡ standing.Free
    acted act who never allowed = at (nat_eq m.job job) refl
      where
        at : (b : Bool) → nat_eq m.job job ≡ b → (if b then standing_after act who else standing_of past job) ≡ standing.Free
        at false is = free
        at true is =
            let one : m.job ≡ job = eqb-true m.job job is in
            absurd (never (sym (ap (λ (s : Standing). refused_at s act who) (ap (standing_of past) one ∙ free)) ∙ act_allowed past m.job act who allowed))

    by : (x : JobCall) → refuses past (made_command (record { number = m.number; job = m.job; call = x })) ≡ None → IsCallBy owner x → claims job (record { number = m.number; job = m.job; call = x }) ≡ false
        → standing_of (made_command (record { number = m.number; job = m.job; call = x }) ∷ past) job ≡ standing.Free
    by (call.Post name priority details) allowed is none = absurd is
    by (call.Apply action.Claim id who) allowed is none = ap (λ (b : Bool). if b then standing.Held who else standing_of past job) none ∙ free
    by (call.Apply action.Abandon id who) allowed is none = acted action.Abandon who (λ same. cc) allowed
    by (call.Apply action.Consume id who) allowed is none = acted action.Consume who (λ same. cc) allowed
    by (call.Apply action.Trash id who) allowed is none = absurd is

free_still : (owners : List (List ℕ)) (past : List Command) (calls : List Made) (job : ℕ) → LegalJobs (followed_by past calls) → AllByRecursion (IsConductors owners) calls → is_claimed calls job ≡ false
    → standing_of past job ≡ standing.Free → standing_of (followed_by past calls) job ≡ standing.Free
free_still owners past [] job legal by none free = free
free_still owners past (m ∷ calls) job legal by none free =
    let both = or_none (claims job m) (is_claimed calls job) none in
    free_still owners (made_command m ∷ past) calls job legal by.1 both.1 (free_called past m job by.0.0 (legal_before (made_command m ∷ past) calls legal).0 by.0.2 both.0 free)

-- ---- all jobs

pub free_of : (s : Standing) → is_free s ≡ true → s ≡ standing.Free
free_of standing.Free is = refl
free_of (standing.Held kept) is = absurd (cc)
free_of standing.Consumed is = absurd (cc)
free_of standing.Trashed is = absurd (cc)

-- each priority has its place
pub place_in : (p : Priority) → (i : ℕ) × (slice_get priorities i ≡ Some p) × (same_priority p p ≡ true)
place_in priority.VeryHigh = (0, refl, refl)
place_in priority.High = (1, refl, refl)
place_in priority.Normal = (2, refl, refl)
place_in priority.Low = (3, refl, refl)
place_in priority.VeryLow = (4, refl, refl)

-- where no job may be taken, each that nobody has and that its id names is to be skipped
skipped : (past : List Command) (skip : List ℕ) (place : ℕ) (job : Job) → free_job past skip ≡ None → slice_get (jobs_of past) place ≡ Some job → job.standing ≡ standing.Free → names_itself (jobs_of past) job ≡ true
    → list_any (λ n. n == job.number) skip ≡ true
skipped past skip place job none at free itself = by (list_any (λ n. n == job.number) skip) refl
  where
    found_none : (o : Option Job) → option_map number_in o ≡ None → o ≡ None
    found_none None is = refl
    found_none (Some other) is = absurd (cc)

    nothing_found : find (is_takable (jobs_of past) skip) (jobs_listed (jobs_of past)) ≡ None
    nothing_found = found_none (find (is_takable (jobs_of past) skip) (jobs_listed (jobs_of past))) none

    by : (b : Bool) → list_any (λ n. n == job.number) skip ≡ b → list_any (λ n. n == job.number) skip ≡ true
    by true is = is
    by false is =
        let p = place_in job.priority in
        let listed : is_listed job.priority job ≡ true = ap (λ (b : Bool). b && is_there job.standing) p.2 ∙ ap is_there free in
        let among : find (is_takable (jobs_of past) skip) (filter (is_listed job.priority) (jobs_of past)) ≡ None
        = none_in (is_takable (jobs_of past) skip) (λ q. filter (is_listed q) (jobs_of past)) priorities p.0 job.priority nothing_found p.1 in
        let no : is_takable (jobs_of past) skip job ≡ false = none_among (is_takable (jobs_of past) skip) (is_listed job.priority) (jobs_of past) place job among at listed in
        let yes : is_takable (jobs_of past) skip job ≡ true =
        ap (λ (b : Bool). is_free job.standing && not b && names_itself (jobs_of past) job) is ∙ ap (λ (s : Standing). is_free s && true && names_itself (jobs_of past) job) free ∙ itself in
        absurd (let clash : true ≡ false = sym yes ∙ no in cc)

-- each job that was unclaimed has a claim
pub all_claimed : (past : List Command) (owners : List (List ℕ)) (left : List ℕ) (calls : List Made) → LeavesNoJob past owners left calls → AreLeft left calls → AllClaimed past calls
all_claimed past owners left calls over are job unclaimed = by job unclaimed (is_claimed calls job) refl
  where
    all : List Command
    all = followed_by past calls

    jobs : jobs_of all ≡ map (restood all) (jobs_of past)
    jobs = jobs_since owners all past calls over.by ∙ jobs_restood all past past

    by : (n : ℕ) → IsUnclaimed past n → (b : Bool) → is_claimed calls n ≡ b → is_claimed calls n ≡ true
    by n unclaimed true is = is
    by zero unclaimed false is = (let none = unclaimed.there in absurd (cc))
    by (suc place) unclaimed false is =
        let told = job_told past past place unclaimed.job unclaimed.there in
        let number : unclaimed.job.number ≡ suc place = omega (arith, told.0) in
        let free : standing_of past unclaimed.job.number ≡ standing.Free = ap (standing_of past) (number ∙ omega arith) ∙ sym told.1 ∙ free_of unclaimed.job.standing unclaimed.free in
        let still : standing_of all unclaimed.job.number ≡ standing.Free = free_still owners past calls unclaimed.job.number over.legal over.by (ap (is_claimed calls) number ∙ is) free in
        let at : slice_get (jobs_of all) place ≡ Some (restood all unclaimed.job) = ap (λ (l : List Job). slice_get l place) jobs ∙ slice_get-map (restood all) (jobs_of past) place ∙ ap (λ (o : Option Job). option_map (restood all) o) unclaimed.there in
        let itself : names_itself (jobs_of all) (restood all unclaimed.job) ≡ true
        = ap (λ (l : List Job). names_itself l (restood all unclaimed.job)) jobs ∙ itself_restood all (jobs_of past) unclaimed.job unclaimed.itself in
        ap (is_claimed calls) (sym number) ∙ are unclaimed.job.number (skipped all left place (restood all unclaimed.job) over.none at still itself)
