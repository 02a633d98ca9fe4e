-- The jobs of a board, and how a command changes them.
use Rattle.std.proofs.Common.{◌≡◌, ◌≢◌, ℕ, zero, suc, ◌+◌, ◌<◌, Bool, true, false, List, [], ◌∷◌, ◌++◌, length, Option, Some, None, refl, sym, ap, subst, ◌∙◌, inl, inr, arith, length-append, set, cond, eq-eqb}
use Rattle.std.specs.Prelude.{slice_get, nat_eq, if◌then◌else◌}
use Rattle.std.specs.List.{position_or_len}
use Rattle.std.specs.Cmp.Lexicographic.{bytes_decides}
use Rattle.std.proofs.Math.Seq.{set-append_seam}
use Rattle.std.proofs.lemmas.Bool.{cases_lt, lt-ltb, le-ltb, eqb-true}
use Rattle.std.proofs.lemmas.List.Quantifiers.{position-Some}
use Rattle.std.proofs.lemmas.List.{set-append_left}
use Rattle.std.proofs.lemmas.List.Folds.{find_at}
use Rattle.std.proofs.lemmas.Option.{slice_get_past, slice_get_within, get_or_from_slice_get}
use Rattle.tf_states.specs.declared.priorities.Priority.{Priority}
use Rattle.tf_values.specs.declared.value.Val.{Val}
use Rattle.tf_board.specs.Board.{id_of, posted, standing_after, standing_of, job_at, jobs_in, jobs_of, numbered, refused_at, refused_of, LegalJobs, same, place_of, has_id, named, IsChange}
use Rattle.tf_board.specs.declared.commands.Command.{Command}
use Rattle.tf_board.specs.declared.commands.Command.TheVariants as command
use Rattle.tf_board.specs.declared.commands.JobAction.{JobAction}
use Rattle.tf_board.specs.declared.commands.JobAction.TheVariants as action
use Rattle.tf_board.specs.declared.jobs.Job.{Job}
use Rattle.tf_board.specs.declared.jobs.Standing.{Standing}
use Rattle.tf_board.specs.declared.jobs.Standing.TheVariants as standing
use Rattle.tf_board.specs.declared.kept.Change.{Change}
use Rattle.tf_board.specs.declared.kept.Change.TheVariants as change
use Rattle.tf_board.specs.declared.rules.Refusal.TheVariants as refusal

-- ---- numbers

eq_same : (n : ℕ) → nat_eq n n ≡ true
eq_same n = eq-eqb n n refl

eq_apart : (m n : ℕ) → m ≢ n → nat_eq m n ≡ false
eq_apart m n apart = by (nat_eq m n) refl
  where
    by : (b : Bool) → nat_eq m n ≡ b → nat_eq m n ≡ false
    by false is = is
    by true is = absurd (apart (eqb-true m n is))

eq_is : (m n : ℕ) → nat_eq m n ≡ true → m ≡ n
eq_is m n is = eqb-true m n is

-- ---- lists

get_left : (xs ys : List Job) (k : ℕ) → k < length xs → slice_get (xs ++ ys) k ≡ slice_get xs k
get_left [] ys k short = absurd (omega (arith, short))
get_left (x ∷ xs) ys zero short = refl
get_left (x ∷ xs) ys (suc k) short = get_left xs ys k (omega (arith, short))

get_last : (xs : List Job) (x : Job) (k : ℕ) → k ≡ length xs → slice_get (xs ++ x ∷ []) k ≡ Some x
get_last [] x k at = ap (slice_get (x ∷ [])) at
get_last (y ∷ xs) x zero at = absurd (omega (arith, at))
get_last (y ∷ xs) x (suc k) at = get_last xs x k (omega (arith, at))

-- ---- how many

pub jobs_long : (all rest : List Command) → length (jobs_in all rest) ≡ posted rest
jobs_long all [] = refl
jobs_long all (command.Post name p details ∷ past) = length-append (jobs_in all past) (job_at all (posted past + 1) name p ∷ []) ∙ ap (λ (n : ℕ). n + 1) (jobs_long all past)
jobs_long all (command.Apply action job owner ∷ past) = jobs_long all past

-- ---- a job more

-- a post leaves the other jobs as they stand
pub jobs_posted : (all rest : List Command) (name : List ℕ) (p : Priority) (details : Val) → jobs_in (command.Post name p details ∷ all) rest ≡ jobs_in all rest
jobs_posted all [] name p details = refl
jobs_posted all (command.Post other q value ∷ past) name p details = ap (λ (l : List Job). l ++ job_at all (posted past + 1) other q ∷ []) (jobs_posted all past name p details)
jobs_posted all (command.Apply action job owner ∷ past) name p details = jobs_posted all past name p details

-- a job that wasn't posted stands free
pub standing_free : (past : List Command) (n : ℕ) → LegalJobs past → posted past < n → standing_of past n ≡ standing.Free
standing_free [] n legal above = refl
standing_free (command.Post name p details ∷ past) n legal above = standing_free past n legal.1 (omega (arith, above))
standing_free (command.Apply action job owner ∷ past) n legal above = by (nat_eq job n) refl (standing_free past n legal.1 above)
  where
    none : (m : ℕ) → m ≡ n → numbered (jobs_of past) m ≡ None
    none zero is = refl
    none (suc k) is = slice_get_past (jobs_of past) k (omega (arith, is, above, jobs_long past past))

    by : (b : Bool) → nat_eq job n ≡ b → standing_of past n ≡ standing.Free → (if b then standing_after action owner else standing_of past n) ≡ standing.Free
    by false is before = before
    by true is before = (let no : Some refusal.NoJob ≡ None = sym (ap (λ (o : Option Job). refused_of o action owner) (none job (eq_is job n is))) ∙ legal.0 in absurd (cc))

-- ---- a job that stands anew

-- what is done with a job leaves those before it
jobs_apart : (all rest : List Command) (action : JobAction) (n : ℕ) (owner : List ℕ) → posted rest < n → jobs_in (command.Apply action n owner ∷ all) rest ≡ jobs_in all rest
jobs_apart all [] action n owner above = refl
jobs_apart all (command.Post name p details ∷ past) action n owner above =
    let other : nat_eq n (posted past + 1) ≡ false = eq_apart n (posted past + 1) (λ is. omega (arith, is, above)) in
    ap (λ (l : List Job). l ++ job_at (command.Apply action n owner ∷ all) (posted past + 1) name p ∷ []) (jobs_apart all past action n owner (omega (arith, above)))
    ∙ ap (λ (b : Bool). jobs_in all past ++ record (job_at all (posted past + 1) name p) { standing = if b then standing_after action owner else standing_of all (posted past + 1) } ∷ []) other
jobs_apart all (command.Apply other job who ∷ past) action n owner above = jobs_apart all past action n owner above

-- what is done with the job at a place changes where it stands alone
pub jobs_applied : (all rest : List Command) (action : JobAction) (n : ℕ) (owner : List ℕ) (place : ℕ) (job : Job) → n ≡ suc place → slice_get (jobs_in all rest) place ≡ Some job
    → set (jobs_in all rest) place (record job { standing = standing_after action owner }) ≡ jobs_in (command.Apply action n owner ∷ all) rest
jobs_applied all [] action n owner place job is at = absurd (cc)
jobs_applied all (command.Apply other number who ∷ past) action n owner place job is at = jobs_applied all past action n owner place job is at
jobs_applied all (command.Post name p details ∷ past) action n owner place job is at =
    elim (cases_lt place (length (jobs_in all past))) [
      | inl short ↦
          let here : slice_get (jobs_in all past) place ≡ Some job = sym (get_left (jobs_in all past) (last ∷ []) place short) ∙ at in
          let other : nat_eq n (posted past + 1) ≡ false = eq_apart n (posted past + 1) (λ same. omega (arith, same, is, short, jobs_long all past)) in
          set-append_left (jobs_in all past) (last ∷ []) place anew short
          ∙ ap (λ (l : List Job). l ++ last ∷ []) (jobs_applied all past action n owner place job is here)
          ∙ ap (λ (b : Bool). jobs_in (command.Apply action n owner ∷ all) past ++ record last { standing = if b then standing_after action owner else standing_of all (posted past + 1) } ∷ []) (sym other)
      | inr past_them ↦
          let within : place < length (jobs_in all past ++ last ∷ []) = slice_get_within (jobs_in all past ++ last ∷ []) place job at in
          let end : place ≡ length (jobs_in all past) = omega (arith, past_them, within, length-append (jobs_in all past) (last ∷ [])) in
          let same_job : Some job ≡ Some last = sym at ∙ get_last (jobs_in all past) last place end in
          let job_is : job ≡ last = cc in
          let its : nat_eq n (posted past + 1) ≡ true = ap (λ (m : ℕ). nat_eq m (posted past + 1)) (let m : n ≡ posted past + 1 = omega (arith, is, end, jobs_long all past) in m) ∙ eq_same (posted past + 1) in
          ap (λ (k : ℕ). set (jobs_in all past ++ last ∷ []) k anew) end
          ∙ set-append_seam (jobs_in all past) last [] anew
          ∙ ap (λ (j : Job). jobs_in all past ++ record j { standing = standing_after action owner } ∷ []) job_is
          ∙ ap (λ (l : List Job). l ++ record last { standing = standing_after action owner } ∷ []) (sym (jobs_apart all past action n owner (omega (arith, is, end, jobs_long all past))))
          ∙ ap (λ (b : Bool). jobs_in (command.Apply action n owner ∷ all) past ++ record last { standing = if b then standing_after action owner else standing_of all (posted past + 1) } ∷ []) (sym its)
    ]
  where
    last : Job
    last = job_at all (posted past + 1) name p

    anew : Job
    anew = record job { standing = standing_after action owner }

-- a job has the number behind its place, and stands as that number does
pub job_told : (all rest : List Command) (place : ℕ) (job : Job) → slice_get (jobs_in all rest) place ≡ Some job → (job.number ≡ place + 1) × (job.standing ≡ standing_of all (place + 1))
job_told all [] place job at = absurd (cc)
job_told all (command.Apply other number who ∷ past) place job at = job_told all past place job at
job_told all (command.Post name p details ∷ past) place job at =
    elim (cases_lt place (length (jobs_in all past))) [
      | inl short ↦ job_told all past place job (sym (get_left (jobs_in all past) (last ∷ []) place short) ∙ at)
      | inr past_them ↦
          let within : place < length (jobs_in all past ++ last ∷ []) = slice_get_within (jobs_in all past ++ last ∷ []) place job at in
          let end : place ≡ length (jobs_in all past) = omega (arith, past_them, within, length-append (jobs_in all past) (last ∷ [])) in
          let same_job : Some job ≡ Some last = sym at ∙ get_last (jobs_in all past) last place end in
          let job_is : job ≡ last = cc in
          let number : posted past + 1 ≡ place + 1 = omega (arith, end, jobs_long all past) in
          (ap (λ (j : Job). j.number) job_is ∙ number, ap (λ (j : Job). j.standing) job_is ∙ ap (standing_of all) number)
    ]
  where
    last : Job
    last = job_at all (posted past + 1) name p

-- ---- ids

-- the job at a place, if there is one
abbrev pub placed : List Job → Option ℕ → Option Job
placed jobs None = None
placed jobs (Some place) = slice_get jobs place

here_at : (jobs : List Job) (id : List ℕ) → position_or_len (has_id id) jobs < length jobs → place_of jobs id ≡ Some (position_or_len (has_id id) jobs)
here_at jobs id lt = ap (λ (b : Bool). cond b (Some (position_or_len (has_id id) jobs)) None) (lt-ltb (position_or_len (has_id id) jobs) (length jobs) lt)

-- the job that an id names is the one at the first place
pub named_by : (jobs : List Job) (id : List ℕ) (found : Option ℕ) → place_of jobs id ≡ found → named jobs id ≡ placed jobs found
named_by jobs id found is =
    let m = position_or_len (has_id id) jobs in
    elim (cases_lt m (length jobs)) [
      | inl lt ↦ find_at (has_id id) jobs ∙ ap (placed jobs) (sym (here_at jobs id lt) ∙ is)
      | inr le ↦
          find_at (has_id id) jobs ∙ slice_get_past jobs m le
          ∙ ap (placed jobs) (sym (ap (λ (b : Bool). cond b (Some m) None) (le-ltb m (length jobs) le)) ∙ is)
    ]

-- it has the id, and the jobs before it have others
pub named_first : (jobs : List Job) (id : List ℕ) (job : Job) → named jobs id ≡ Some job
    → (place : ℕ) × (slice_get jobs place ≡ Some job) × (job.id ≡ id) × ((k : ℕ) (other : Job) → k < place → slice_get jobs k ≡ Some other → other.id ≢ id)
named_first jobs id job is =
    let m = position_or_len (has_id id) jobs in
    let at : slice_get jobs m ≡ Some job = sym (find_at (has_id id) jobs) ∙ is in
    let told = position-Some (has_id id) jobs m job (here_at jobs id (slice_get_within jobs m job at)) in
    let its : same job.id id ≡ true = sym (ap (has_id id) (get_or_from_slice_get jobs m job job at)) ∙ told.1 in (
      m,
      at,
      (bytes_decides job.id id).0 its,
      λ k other before there equal.
          let no : same other.id id ≡ false = sym (ap (has_id id) (get_or_from_slice_get jobs k other job there)) ∙ told.2 k before in
          let yes : same other.id id ≡ true = (bytes_decides other.id id).1 equal in
          cc,
    )

pub first_named : (past : List Command) (id : List ℕ) (job : Job) → named (jobs_of past) id ≡ Some job
    → (job.id ≡ id) × ((other : Job) (place : ℕ) → slice_get (jobs_of past) place ≡ Some other → other.number < job.number → other.id ≢ id)
first_named past id job is =
    let first = named_first (jobs_of past) id job is in
    let told = job_told past past first.0 job first.1 in
    (first.2, λ other place there less. first.3 place other (omega (arith, less, told.0, (job_told past past place other there).0)) there)

-- ---- claims

-- where a claim isn't refused the job stands free
claimed_free : (s : Standing) (owner : List ℕ) → refused_at s action.Claim owner ≡ None → s ≡ standing.Free
claimed_free standing.Free owner is = refl
claimed_free (standing.Held kept) owner is = absurd (cc)
claimed_free standing.Consumed owner is = absurd (cc)
claimed_free standing.Trashed owner is = absurd (cc)

pub claim_free : (past : List Command) (number : ℕ) (owner : List ℕ) → refused_of (numbered (jobs_of past) number) action.Claim owner ≡ None → standing_of past number ≡ standing.Free
claim_free past zero owner is = absurd (cc)
claim_free past (suc place) owner is = by (slice_get (jobs_of past) place) refl
  where
    by : (o : Option Job) → slice_get (jobs_of past) place ≡ o → standing_of past (suc place) ≡ standing.Free
    by None at = (let no : Some refusal.NoJob ≡ None = sym (ap (λ (o : Option Job). refused_of o action.Claim owner) at) ∙ is in absurd (cc))
    by (Some job) at =
        let n : suc place ≡ place + 1 = omega arith in
        ap (standing_of past) n ∙ sym (job_told past past place job at).1 ∙ claimed_free job.standing owner (sym (ap (λ (o : Option Job). refused_of o action.Claim owner) at) ∙ is)

-- ---- one command more

-- the job that is posted next
pub job_next : (past : List Command) (n : ℕ) (id name : List ℕ) (p : Priority) → LegalJobs past → n ≡ posted past → id ≡ id_of (n + 1) name
    → ◌≡◌ {A = Job} (record { number = n + 1; id = id; name = name; priority = p; standing = standing.Free }) (job_at past (posted past + 1) name p)
job_next past n id name p legal number is =
    let next : n + 1 ≡ posted past + 1 = ap (λ (k : ℕ). k + 1) number in
    ap (λ (i : List ℕ). record { number = n + 1; id = i; name = name; priority = p; standing = standing.Free }) is
    ∙ ap (λ (k : ℕ). record { number = k; id = id_of k name; name = name; priority = p; standing = standing.Free }) next
    ∙ ap (λ (s : Standing). record { number = posted past + 1; id = id_of (posted past + 1) name; name = name; priority = p; standing = s })
    (sym (standing_free past (posted past + 1) legal (omega arith)))

-- the job at a place stands anew
pub jobs_stand : (past : List Command) (c : Command) (ch : Change) (place : ℕ) (s : Standing) (items : List Job) (job : Job) → ch ≡ change.Stands place s → IsChange past c ch → items ≡ jobs_of past
    → slice_get items place ≡ Some job → set items place (record job { standing = s }) ≡ jobs_of (c ∷ past)
jobs_stand past (command.Post name p details) ch place s items job is changes same_jobs at = absurd (subst (λ (x : Change). IsChange past (command.Post name p details) x) is changes)
jobs_stand past (command.Apply action n owner) ch place s items job is changes same_jobs at =
    let told = subst (λ (x : Change). IsChange past (command.Apply action n owner) x) is changes in
    ap (λ (l : List Job). set l place (record job { standing = s })) same_jobs
    ∙ ap (λ (t : Standing). set (jobs_of past) place (record job { standing = t })) told.2
    ∙ jobs_applied past past action n owner place job told.0 (sym (ap (λ (l : List Job). slice_get l place) same_jobs) ∙ at)

-- its place is within the jobs
pub change_within : (past : List Command) (c : Command) (ch : Change) (place : ℕ) (s : Standing) (items : List Job) → ch ≡ change.Stands place s → IsChange past c ch → items ≡ jobs_of past → place < length items
change_within past (command.Post name p details) ch place s items is changes same_jobs = absurd (subst (λ (x : Change). IsChange past (command.Post name p details) x) is changes)
change_within past (command.Apply action n owner) ch place s items is changes same_jobs =
    let told = subst (λ (x : Change). IsChange past (command.Apply action n owner) x) is changes in
    omega (arith, told.1, ap length same_jobs)
