-- Who has a job, between two claims of it.
use Rattle.std.proofs.Common.{◌≡◌, ◌⊎◌, inl, inr, ℕ, zero, suc, ◌+◌, Bool, true, false, List, [], ◌∷◌, ◌++◌, Option, Some, None, refl, sym, ap, subst, ◌∙◌, arith, eq-eqb}
use Rattle.std.proofs.lemmas.Bool.{eqb-true}
use Rattle.std.specs.Cmp.Lexicographic.{bytes_decides}
use Rattle.std.specs.Prelude.{slice_get, nat_eq, if◌then◌else◌}
use Rattle.tf_board.specs.Board.{standing_after, standing_of, jobs_of, numbered, refused_at, refused_of, LegalJobs, same}
use Rattle.tf_board.specs.declared.commands.Command.{Command}
use Rattle.tf_board.specs.declared.commands.Command.TheVariants as command
use Rattle.tf_board.specs.declared.commands.JobAction.{JobAction}
use Rattle.tf_board.specs.declared.commands.JobAction.TheVariants as action
use Rattle.tf_board.specs.declared.jobs.Job.{Job}
use Rattle.tf_board.specs.declared.jobs.Standing.{Standing}
use Rattle.tf_board.specs.declared.jobs.Standing.TheVariants as standing
use Rattle.tf_board.specs.declared.rules.Refusal.{Refusal}
use Rattle.tf_board.specs.declared.rules.Refusal.TheVariants as refusal
use Rattle.tf_board.proofs.JobLemmas.{job_told, claim_free}

-- an owner may do with a job what isn't refused where it stands so
pub act_allowed : (past : List Command) (number : ℕ) (act : JobAction) (owner : List ℕ) → refused_of (numbered (jobs_of past) number) act owner ≡ None
    → refused_at (standing_of past number) act owner ≡ None
act_allowed past zero act owner is = absurd (cc)
act_allowed past (suc place) act owner is = by (slice_get (jobs_of past) place) refl
  where
    by : (o : Option Job) → slice_get (jobs_of past) place ≡ o → refused_at (standing_of past (suc place)) act owner ≡ None
    by None at = (let clash : Some refusal.NoJob ≡ None = sym (ap (λ (o : Option Job). refused_of o act owner) at) ∙ is in absurd (cc))
    by (Some job) at =
        let n : suc place ≡ place + 1 = omega arith in
        let stands : job.standing ≡ standing_of past (suc place) = (job_told past past place job at).1 ∙ sym (ap (standing_of past) n) in
        subst (λ (s : Standing). refused_at s act owner ≡ None) stands (sym (ap (λ (o : Option Job). refused_of o act owner) at) ∙ is)

-- how a job stands after these commands which the owner had claimed before them: the owner has it still, it is gone, or the owner gave it up among them
data Since (owner : List ℕ) (job : ℕ) (newer : List Command) (s : Standing) : Type 0 where
  held : s ≡ standing.Held owner → Since owner job newer s
  gone : (s ≡ standing.Consumed) ⊎ (s ≡ standing.Trashed) → Since owner job newer s
  given_up : (later older : List Command) → newer ≡ later ++ (command.Apply action.Abandon job owner ∷ older) → Since owner job newer s

-- one command more that leaves it standing so
more : {owner : List ℕ} {job : ℕ} {newer : List Command} {s : Standing} (c : Command) → Since owner job newer s → Since owner job (c ∷ newer) s
more c (held is) = held is
more c (gone is) = gone is
more c (given_up later older is) = given_up (c ∷ later) older (ap (λ (l : List Command). c ∷ l) is)

-- one who isn't refused what an owner alone may do is the owner
pub owner_is : (owner who : List ℕ) (why : Option Refusal) (b : Bool) → same owner who ≡ b → (if b then None else Some (refusal.NotOwner (Some owner))) ≡ None → owner ≡ who
owner_is owner who why true is none = (bytes_decides owner who).0 is
owner_is owner who why false is none = absurd (cc)

-- what is done with the job by one who may
acted : (owner who : List ℕ) (job : ℕ) (act : JobAction) (newer : List Command) (s : Standing) → Since owner job newer s → refused_at s act who ≡ None
    → Since owner job (command.Apply act job who ∷ newer) (standing_after act who)
acted owner who job act newer s (given_up later older is) allowed = given_up (command.Apply act job who ∷ later) older (ap (λ (l : List Command). command.Apply act job who ∷ l) is)
acted owner who job act newer s (gone (inl is)) allowed = (let clash : Some refusal.Gone ≡ None = sym (ap (λ (x : Standing). refused_at x act who) is) ∙ allowed in absurd (cc))
acted owner who job act newer s (gone (inr is)) allowed = (let clash : Some refusal.Gone ≡ None = sym (ap (λ (x : Standing). refused_at x act who) is) ∙ allowed in absurd (cc))
acted owner who job act newer s (held is) allowed = by act (sym (ap (λ (x : Standing). refused_at x act who) is) ∙ allowed)
  where
    by : (a : JobAction) → refused_at (standing.Held owner) a who ≡ None → Since owner job (command.Apply a job who ∷ newer) (standing_after a who)
    by action.Claim never = absurd (cc)
    by action.Abandon may = given_up [] newer (ap (λ (x : List ℕ). command.Apply action.Abandon job x ∷ newer) (sym (owner_is owner who None (same owner who) refl may)))
    by action.Consume may = gone (inl refl)
    by action.Trash may = gone (inr refl)

-- what is done with a job, this one or another
done_more : (owner : List ℕ) (job : ℕ) (before newer : List Command) (act : JobAction) (number : ℕ) (who : List ℕ) → refused_of (numbered (jobs_of before) number) act who ≡ None
    → Since owner job newer (standing_of before job) → (b : Bool) → nat_eq number job ≡ b
    → Since owner job (command.Apply act number who ∷ newer) (if b then standing_after act who else standing_of before job)
done_more owner job before newer act number who allowed rest false apart = more (command.Apply act number who) rest
done_more owner job before newer act number who allowed rest true is =
    let one : number ≡ job = eqb-true number job is in
    subst (λ (n : ℕ). Since owner job (command.Apply act n who ∷ newer) (standing_after act who)) (sym one)
    (acted owner who job act newer (standing_of before job) rest
    (subst (λ (n : ℕ). refused_at (standing_of before n) act who ≡ None) one (act_allowed before number act who allowed)))

since : (owner : List ℕ) (job : ℕ) (past newer : List Command) → LegalJobs (newer ++ (command.Apply action.Claim job owner ∷ past))
    → Since owner job newer (standing_of (newer ++ (command.Apply action.Claim job owner ∷ past)) job)
since owner job past [] legal =
    held (ap (λ (b : Bool). if b then standing.Held owner else standing_of past job) (eq-eqb job job refl))
since owner job past (command.Post name priority details ∷ newer) legal = more (command.Post name priority details) (since owner job past newer legal.1)
since owner job past (command.Apply act number who ∷ newer) legal =
    done_more owner job (newer ++ (command.Apply action.Claim job owner ∷ past)) newer act number who legal.0 (since owner job past newer legal.1) (nat_eq number job) refl

-- between two claims of a job its first claimant gave it up
pub given_up_between : (newer past : List Command) (job : ℕ) (first second : List ℕ) → LegalJobs (command.Apply action.Claim job second ∷ (newer ++ (command.Apply action.Claim job first ∷ past)))
    → (later : List Command) × (older : List Command) × (newer ≡ later ++ (command.Apply action.Abandon job first ∷ older))
given_up_between newer past job first second legal = by (since first job past newer legal.1)
  where
    all : List Command
    all = newer ++ (command.Apply action.Claim job first ∷ past)

    free : standing_of all job ≡ standing.Free
    free = claim_free all job second legal.0

    by : Since first job newer (standing_of all job) → (later : List Command) × (older : List Command) × (newer ≡ later ++ (command.Apply action.Abandon job first ∷ older))
    by (held is) = (let clash : standing.Free ≡ standing.Held first = sym free ∙ is in absurd (cc))
    by (gone (inl is)) = (let clash : standing.Free ≡ standing.Consumed = sym free ∙ is in absurd (cc))
    by (gone (inr is)) = (let clash : standing.Free ≡ standing.Trashed = sym free ∙ is in absurd (cc))
    by (given_up later older is) = (later, older, is)
