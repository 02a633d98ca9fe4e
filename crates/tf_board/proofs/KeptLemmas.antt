-- What a board keeps in memory.
use Rattle.std.proofs.Common.{◌≡◌, ◌<◌, ℕ, ◌+◌, Bool, List, [], ◌∷◌, length, get_or, set, map, cond, Option, Some, None, refl, sym, ap, ◌∙◌}
use Rattle.std.specs.Prelude.{not, nat_lt, slice_get}
use Rattle.std.specs.List.{position, position_or_len}
use Rattle.std.proofs.lemmas.List.{length-map}
use Rattle.std.proofs.lemmas.Option.{slice_get-get_or}
use Rattle.tf_board.specs.Board.{jobs_of, place_of, has_id, same, id_in, is_numbered, names_itself, IsChange}
use Rattle.tf_board.specs.declared.commands.Command.{Command}
use Rattle.tf_board.specs.declared.jobs.Job.{Job}
use Rattle.tf_board.specs.declared.jobs.Standing.{Standing}
use Rattle.tf_board.specs.declared.kept.Change.{Change}
use Rattle.tf_board.specs.declared.kept.Change.TheVariants as change
use Rattle.tf_board.proofs.JobLemmas.{jobs_stand, change_within, named_by}

-- the job at a place stands anew, where it is read and written there
pub jobs_written : (past : List Command) (c : Command) (ch : Change) (place : ℕ) (s : Standing) (items : List Job) (job : Job) → ch ≡ change.Stands place s → IsChange past c ch → items ≡ jobs_of past
    → job ≡ get_or items place job → set items place (record job { standing = s }) ≡ jobs_of (c ∷ past)
jobs_written past c ch place s items job is changes same_jobs read =
    let within : place < length items = change_within past c ch place s items is changes same_jobs in
    jobs_stand past c ch place s items job is changes same_jobs (slice_get-get_or items place job within ∙ ap Some (sym read))

-- ---- what stands side by side

-- an id is one of these
abbrev is_same : List ℕ → List ℕ → Bool
is_same id other = same other id

ids_before : (jobs : List Job) (id : List ℕ) → position_or_len (is_same id) (map id_in jobs) ≡ position_or_len (has_id id) jobs
ids_before [] id = refl
ids_before (job ∷ jobs) id = ap (λ (n : ℕ). cond (not (same job.id id)) (1 + n) 0) (ids_before jobs id)

-- the first place at which a count of items passes
abbrev told : ℕ → ℕ → Option ℕ
told at count = cond (nat_lt at count) (Some at) None

-- an id stands where the first job has it
pub id_placed : (jobs : List Job) (ids : List (List ℕ)) (id : List ℕ) → ids ≡ map id_in jobs → position (is_same id) ids ≡ place_of jobs id
id_placed jobs ids id are =
    ap (position (is_same id)) are
    ∙ ap (λ (n : ℕ). told n (length (map id_in jobs))) (ids_before jobs id)
    ∙ ap (told (position_or_len (has_id id) jobs)) (length-map jobs id_in)

-- the id of a job names it, where the first job of that id has its number
pub itself_there : (jobs : List Job) (job other : Job) (place : ℕ) → Some place ≡ place_of jobs job.id → slice_get jobs place ≡ Some other → is_numbered (Some other) job.number ≡ names_itself jobs job
itself_there jobs job other place there at = sym (ap (λ (o : Option Job). is_numbered o job.number) (named_by jobs job.id (Some place) (sym there) ∙ at))

pub itself_nowhere : (jobs : List Job) (job : Job) → None ≡ place_of jobs job.id → Bool.false ≡ names_itself jobs job
itself_nowhere jobs job none = sym (ap (λ (o : Option Job). is_numbered o job.number) (named_by jobs job.id None (sym none)))
