-- Who finds a job may claim it, and has it until it ends what it claimed.
use Rattle.std.proofs.Common.{◌≡◌, ◌≢◌, ◌≤◌, ◌<◌, inl, inr, ℕ, zero, suc, ◌+◌, Bool, true, false, List, [], ◌∷◌, ◌++◌, length, Option, Some, None, refl, sym, ap, ◌∙◌, arith, cond, eq-eqb}
use Rattle.std.specs.Prelude.{◌&&◌, ◌==◌, not, nat_eq, if◌then◌else◌, slice_get, option_map}
use Rattle.std.specs.Option.{option_or}
use Rattle.std.specs.Cmp.Lexicographic.{bytes_decides}
use Rattle.std.specs.List.{find, filter, flat_map, list_any, AllByRecursion}
use Rattle.std.proofs.lemmas.Bool.{eqb-true}
use Rattle.std.proofs.lemmas.List.Folds.{find-append}
use Rattle.std.proofs.lemmas.Option.{slice_get_cases, slice_get_within}
use Rattle.tf_values.specs.declared.value.Val.{Val}
use Rattle.tf_board.specs.Board.{id_in, posted, details_in, standing_after, standing_of, jobs_of, numbered, place_of, named, refused_at, refused_of, refuses_id, LegalJobs, same, is_free, is_there, is_listed, priorities, is_numbered}
use Rattle.tf_board.specs.Does.{number_at, number_of, applied}
use Rattle.tf_board.specs.Seeking.{number_in, is_takable, jobs_listed, free_job, id_at, details_for, details_at, by_other}
use Rattle.tf_board.specs.declared.commands.Command.{Command}
use Rattle.tf_board.specs.declared.commands.Command.TheVariants as command
use Rattle.tf_board.specs.declared.commands.JobAction.{JobAction}
use Rattle.tf_board.specs.declared.commands.JobAction.TheVariants as action
use Rattle.tf_board.specs.declared.jobs.Job.{Job}
use Rattle.tf_board.specs.declared.jobs.Standing.{Standing}
use Rattle.tf_board.specs.declared.jobs.Standing.TheVariants as standing
use Rattle.tf_board.specs.declared.rules.Refusal.TheVariants as refusal
use Rattle.tf_board.proofs.JobLemmas.{jobs_long, job_told, named_by, named_first}
use Rattle.tf_board.proofs.OwnerLemmas.{act_allowed, owner_is}
use Rattle.tf_board.proofs.SeekingLemmas.{details_long, past_there}
use Rattle.tf_board.proofs.StayLemmas.{named_on}

-- ---- what is found

-- among the items that meet a test, it is one of all, and meets the other
found_among : {A : Type 0} (p q : A → Bool) (xs : List A) (x : A) → find p (filter q xs) ≡ Some x → (k : ℕ) × (slice_get xs k ≡ Some x) × (p x ≡ true)
found_among p q [] x is = absurd (cc)
found_among {A} p q (y ∷ xs) x is = by (λ rest. found_among p q xs x rest) (q y) is
  where
    by : (find p (filter q xs) ≡ Some x → (k : ℕ) × (slice_get xs k ≡ Some x) × (p x ≡ true)) → (b : Bool) → find p (cond b (y ∷ filter q xs) (filter q xs)) ≡ Some x
        → (k : ℕ) × (slice_get (y ∷ xs) k ≡ Some x) × (p x ≡ true)
    by later false found = (let r = later found in (suc r.0, r.1, r.2))
    by later true found = here (p y) refl found
      where
        here : (c : Bool) → p y ≡ c → cond c (Some y) (find p (filter q xs)) ≡ Some x → (k : ℕ) × (slice_get (y ∷ xs) k ≡ Some x) × (p x ≡ true)
        here true met_it met = (zero, met, (let one : y ≡ x = cc in sym (ap p one) ∙ met_it))
        here false un met = (let r = later met in (suc r.0, r.1, r.2))

-- in lists one after another, it is found in one of them
found_in : {A B : Type 0} (p : B → Bool) (f : A → List B) (xs : List A) (x : B) → find p (flat_map f xs) ≡ Some x → (a : A) × (find p (f a) ≡ Some x)
found_in p f [] x is = absurd (cc)
found_in {A} {B} p f (a ∷ xs) x is = by (λ rest. found_in p f xs x rest) (find p (f a)) refl (sym (find-append p (f a) (flat_map f xs)) ∙ is)
  where
    by : (find p (flat_map f xs) ≡ Some x → (b : A) × (find p (f b) ≡ Some x)) → (o : Option B) → find p (f a) ≡ o → option_or o (find p (flat_map f xs)) ≡ Some x → (b : A) × (find p (f b) ≡ Some x)
    by later None at rest = later rest
    by later (Some y) at rest = (a, at ∙ rest)

both_true : (a b : Bool) → (a && b) ≡ true → (a ≡ true) × (b ≡ true)
both_true true b is = (refl, is)
both_true false b is = absurd (cc)

not_true : (a : Bool) → not a ≡ true → a ≡ false
not_true true is = absurd (cc)
not_true false is = refl

free_is : (s : Standing) → is_free s ≡ true → s ≡ standing.Free
free_is standing.Free is = refl
free_is (standing.Held kept) is = absurd (cc)
free_is standing.Consumed is = absurd (cc)
free_is standing.Trashed is = absurd (cc)

-- ---- the job that is found

-- a job at its place that nobody has, that its id names, and that isn't to be skipped
pub record IsFound (past : List Command) (skip : List ℕ) (number : ℕ) : Type 0 where
  pub place : ℕ
  pub job : Job
  pub at : slice_get (jobs_of past) place ≡ Some job
  pub number_is : number ≡ suc place
  pub free : job.standing ≡ standing.Free
  pub itself : is_numbered (named (jobs_of past) job.id) job.number ≡ true
  pub unskipped : list_any (λ n. n == number) skip ≡ false

pub is_found : (past : List Command) (skip : List ℕ) (number : ℕ) → free_job past skip ≡ Some number → IsFound past skip number
is_found past skip number is = by (find (is_takable (jobs_of past) skip) (jobs_listed (jobs_of past))) refl is
  where
    by : (o : Option Job) → find (is_takable (jobs_of past) skip) (jobs_listed (jobs_of past)) ≡ o → option_map number_in o ≡ Some number → IsFound past skip number
    by None at none = absurd (cc)
    by (Some job) at it =
        let listed = found_in (is_takable (jobs_of past) skip) (λ p. filter (is_listed p) (jobs_of past)) priorities job at in
        let found = found_among (is_takable (jobs_of past) skip) (is_listed listed.0) (jobs_of past) job listed.1 in
        let told = job_told past past found.0 job found.1 in
        let tests = both_true (is_free job.standing && not (list_any (λ n. n == job.number) skip)) _ found.2 in
        let first = both_true (is_free job.standing) _ tests.0 in
        let same : job.number ≡ number = cc in
        record {
          place = found.0;
          job = job;
          at = found.1;
          number_is = omega (arith, same, told.0);
          free = free_is job.standing first.0;
          itself = tests.1;
          unskipped = ap (λ (k : ℕ). list_any (λ n. n == k) skip) (sym same) ∙ not_true _ first.1;
        }

-- its id names it
pub found_named : (past : List Command) (skip : List ℕ) (number : ℕ) (f : IsFound past skip number) → named (jobs_of past) f.job.id ≡ Some f.job
found_named past skip number f = by (named (jobs_of past) f.job.id) refl f.itself
  where
    by : (o : Option Job) → named (jobs_of past) f.job.id ≡ o → is_numbered o f.job.number ≡ true → named (jobs_of past) f.job.id ≡ Some f.job
    by None at none = absurd (cc)
    by (Some other) at one =
        let first = named_first (jobs_of past) f.job.id other at in
        let same : other.number ≡ f.job.number = eqb-true other.number f.job.number one in
        let place : first.0 ≡ f.place = omega (arith, same, (job_told past past first.0 other first.1).0, (job_told past past f.place f.job f.at).0) in
        at ∙ sym first.1 ∙ ap (slice_get (jobs_of past)) place ∙ f.at

-- it has that number
pub found_number : (past : List Command) (skip : List ℕ) (number : ℕ) (f : IsFound past skip number) → number_of past f.job.id ≡ number
found_number past skip number f = by (place_of (jobs_of past) f.job.id) refl
  where
    by : (o : Option ℕ) → place_of (jobs_of past) f.job.id ≡ o → number_at (place_of (jobs_of past) f.job.id) ≡ number
    by None at = (let no = sym (found_named past skip number f) ∙ named_by (jobs_of past) f.job.id None at in absurd (cc))
    by (Some place) at =
        let there : slice_get (jobs_of past) place ≡ Some f.job = sym (named_by (jobs_of past) f.job.id (Some place) at) ∙ found_named past skip number f in
        let same : suc place ≡ number = omega (arith, f.number_is, (job_told past past place f.job there).0, (job_told past past f.place f.job f.at).0) in
        ap number_at at ∙ same

-- it has an id, by which it may be claimed
pub found_claim : (past : List Command) (skip : List ℕ) (number : ℕ) → free_job past skip ≡ Some number
    → (id : List ℕ) × (id_at past number ≡ Some id) × (number_of past id ≡ number) × ((owner : List ℕ) → refuses_id past action.Claim id owner ≡ None)
found_claim past skip number is =
    let f = is_found past skip number is in (
      f.job.id,
      ap (λ (n : ℕ). option_map id_in (numbered (jobs_of past) n)) f.number_is ∙ ap (λ (o : Option Job). option_map id_in o) f.at,
      found_number past skip number f,
      λ owner. ap (λ (o : Option Job). refused_of o action.Claim owner) (found_named past skip number f) ∙ ap (λ (s : Standing). refused_at s action.Claim owner) f.free,
    )

-- and details
pub found_details : (past : List Command) (skip : List ℕ) (number : ℕ) → free_job past skip ≡ Some number → (details : Val) × (details_at past number ≡ Some details)
found_details past skip number is =
    let f = is_found past skip number is in
    let within : f.place < length (details_in past) = omega (arith, slice_get_within (jobs_of past) f.place f.job f.at, jobs_long past past, details_long past) in
    let there : details_at past number ≡ slice_get (details_in past) f.place =
    ap (details_at past) f.number_is ∙ ap (λ (o : Option Job). details_for o (slice_get (details_in past) f.place)) f.at
    ∙ ap (λ (s : Standing). if is_there s then slice_get (details_in past) f.place else None) f.free in
    elim (slice_get_cases (details_in past) f.place).1 [
      | inl here ↦ (here.0, there ∙ here.2)
      | inr out ↦ absurd (omega (arith, out.0, within))
    ]

-- ---- the job that is claimed

-- it stands with its claimant, where only others did something since
pub held_still : (owner : List ℕ) (job : ℕ) (past newer : List Command) → LegalJobs (newer ++ (command.Apply action.Claim job owner ∷ past)) → AllByRecursion (by_other owner) newer
    → standing_of (newer ++ (command.Apply action.Claim job owner ∷ past)) job ≡ standing.Held owner
held_still owner job past [] legal others = ap (λ (b : Bool). if b then standing.Held owner else standing_of past job) (eq-eqb job job refl)
held_still owner job past (command.Post name p details ∷ newer) legal others = held_still owner job past newer legal.1 others.1
held_still owner job past (command.Apply act number who ∷ newer) legal others = still (held_still owner job past newer legal.1 others.1) (nat_eq number job) refl
  where
    before : List Command
    before = newer ++ (command.Apply action.Claim job owner ∷ past)

    never : (a : JobAction) → refused_at (standing.Held owner) a who ≡ None → ⊥
    never action.Claim may = cc
    never action.Abandon may = others.0 (sym (owner_is owner who None (same owner who) refl may))
    never action.Consume may = others.0 (sym (owner_is owner who None (same owner who) refl may))
    never action.Trash may = others.0 (sym (owner_is owner who None (same owner who) refl may))

    still : standing_of before job ≡ standing.Held owner → (b : Bool) → nat_eq number job ≡ b → (if b then standing_after act who else standing_of before job) ≡ standing.Held owner
    still held false apart = held
    still held true is =
        let one : number ≡ job = eqb-true number job is in
        let allowed : refused_at (standing_of before number) act who ≡ None = act_allowed before number act who legal.0 in
        absurd (never act (sym (ap (λ (s : Standing). refused_at s act who) (ap (standing_of before) one ∙ held)) ∙ allowed))

-- jobs stay posted
posted_more : (newer past : List Command) → posted past ≤ posted (newer ++ past)
posted_more [] past = omega arith
posted_more (command.Post name p details ∷ newer) past = omega (arith, posted_more newer past)
posted_more (command.Apply act job who ∷ newer) past = posted_more newer past

-- the claim was of the job at a place
claimed_place : (past : List Command) (id owner : List ℕ) → refused_of (numbered (jobs_of past) (number_of past id)) action.Claim owner ≡ None
    → (place : ℕ) × (place_of (jobs_of past) id ≡ Some place) × (place < posted past)
claimed_place past id owner may = by (place_of (jobs_of past) id) refl may
  where
    by : (o : Option ℕ) → place_of (jobs_of past) id ≡ o → refused_of (numbered (jobs_of past) (number_at o)) action.Claim owner ≡ None → (place : ℕ) × (place_of (jobs_of past) id ≡ Some place) × (place < posted past)
    by None at none = absurd (cc)
    by (Some place) at ok =
        elim (slice_get_cases (jobs_of past) place).1 [
          | inl here ↦ (place, at, omega (arith, here.1, jobs_long past past))
          | inr out ↦ (let no : Some refusal.NoJob ≡ None = sym (ap (λ (o : Option Job). refused_of o action.Claim owner) out.1) ∙ ok in absurd (cc))
        ]

-- what else than to claim it its owner isn't refused
held_may : (owner : List ℕ) (act : JobAction) → act ≢ action.Claim → refused_at (standing.Held owner) act owner ≡ None
held_may owner action.Claim other = absurd (other refl)
held_may owner action.Abandon other = ap (λ (b : Bool). if b then None else Some (refusal.NotOwner (Some owner))) ((bytes_decides owner owner).1 refl)
held_may owner action.Consume other = ap (λ (b : Bool). if b then None else Some (refusal.NotOwner (Some owner))) ((bytes_decides owner owner).1 refl)
held_may owner action.Trash other = ap (λ (b : Bool). if b then None else Some (refusal.NotOwner (Some owner))) ((bytes_decides owner owner).1 refl)

-- its claimant may give it back, finish it or throw it away by its id, which goes on naming it
pub claimant_may : (newer past : List Command) (id owner : List ℕ) (act : JobAction) → act ≢ action.Claim → LegalJobs (newer ++ (applied past action.Claim id owner ∷ past)) → AllByRecursion (by_other owner) newer
    → (refuses_id (newer ++ (applied past action.Claim id owner ∷ past)) act id owner ≡ None) × (number_of (newer ++ (applied past action.Claim id owner ∷ past)) id ≡ number_of past id)
claimant_may newer past id owner act other legal others = by (slice_get (jobs_of all) place.0) refl
  where
    claim : Command
    claim = applied past action.Claim id owner

    all : List Command
    all = newer ++ (claim ∷ past)

    older : (xs ys : List Command) → LegalJobs (xs ++ ys) → LegalJobs ys
    older [] ys good = good
    older (x ∷ xs) ys good = older xs ys good.1

    place : (place : ℕ) × (place_of (jobs_of past) id ≡ Some place) × (place < posted past)
    place = claimed_place past id owner (older newer (claim ∷ past) legal).0

    stays : place_of (jobs_of all) id ≡ Some place.0
    stays = named_on newer (claim ∷ past) id place.0 (named_on (claim ∷ []) past id place.0 place.1)

    number : number_of past id ≡ suc place.0
    number = ap number_at place.1

    by : (o : Option Job) → slice_get (jobs_of all) place.0 ≡ o → (refuses_id all act id owner ≡ None) × (number_of all id ≡ number_of past id)
    by None out = absurd (omega (arith, past_there (jobs_of all) place.0 out, place.2, jobs_long all all, posted_more newer (claim ∷ past)))
    by (Some job) here =
        let next : place.0 + 1 ≡ number_of past id = omega (arith, number) in
        let stands : job.standing ≡ standing.Held owner = (job_told all all place.0 job here).1 ∙ ap (standing_of all) next ∙ held_still owner (number_of past id) past newer legal others in (
          ap (λ (o : Option Job). refused_of o act owner) (named_by (jobs_of all) id (Some place.0) stays ∙ here) ∙ ap (λ (s : Standing). refused_at s act owner) stands ∙ held_may owner act other,
          ap number_at stays ∙ sym number,
        )
