-- A job stands where the last command about it left it, and each goes as a job may.
use Rattle.std.proofs.Common.{◌≡◌, ◌+◌, ℕ, zero, suc, Bool, true, false, List, ◌∷◌, Option, Some, None, refl, sym, ap, ◌∙◌, subst, inl, inr, arith, eqb-true}
use Rattle.std.specs.Prelude.{nat_eq, if◌then◌else◌}
use Rattle.tf_board.specs.Board.{AreOfBoard, jobs_of, numbered, refused_at, refused_of, standing_after, standing_of, state_of}
use Rattle.tf_board.specs.declared.commands.Command.{Command}
use Rattle.tf_board.specs.declared.commands.Command.TheVariants as command
use Rattle.tf_board.specs.declared.commands.JobAction.{JobAction}
use Rattle.tf_board.specs.declared.commands.JobAction.TheVariants as action
use Rattle.tf_board.specs.declared.jobs.Job.{Job}
use Rattle.tf_board.specs.declared.jobs.Standing.{Standing}
use Rattle.tf_board.specs.declared.jobs.Standing.TheVariants as standing
use Rattle.tf_board.proofs.JobLemmas.{job_told}
use Rattle.tf_states.specs.Transitions.{job_may}
use Rattle.tf_lifetime.specs.Life.{GoesAsItMay}

standing_told : (past : List Command) (number : ℕ) (job : Job) → numbered (jobs_of past) number ≡ Some job → job.standing ≡ standing_of past number
standing_told past zero job is = absurd (cc)
standing_told past (suc place) job is = let next : place + 1 ≡ suc place = omega arith in (job_told past past place job is).1 ∙ ap (standing_of past) next

-- what an owner may do takes the job from one state to another
acted : (s : Standing) (what : JobAction) (owner : List ℕ) → refused_at s what owner ≡ None → job_may (state_of s) (state_of (standing_after what owner)) ≡ true
acted standing.Consumed what owner none = absurd (cc)
acted standing.Trashed what owner none = absurd (cc)
acted (standing.Held kept) action.Claim owner none = absurd (cc)
acted (standing.Held kept) action.Abandon owner none = refl
acted (standing.Held kept) action.Consume owner none = refl
acted (standing.Held kept) action.Trash owner none = refl
acted standing.Free action.Claim owner none = refl
acted standing.Free action.Abandon owner none = absurd (cc)
acted standing.Free action.Consume owner none = absurd (cc)
acted standing.Free action.Trash owner none = absurd (cc)

still : (before after : Standing) → after ≡ before → GoesAsItMay before after
still before after same = inl (ap state_of same)

pub goes_on : (past : List Command) (last : Command) (number : ℕ) (before after : Job) → AreOfBoard (last ∷ past)
    → numbered (jobs_of past) number ≡ Some before → numbered (jobs_of (last ∷ past)) number ≡ Some after → GoesAsItMay before.standing after.standing
goes_on past (command.Post name priority details) number before after legal had has =
    still before.standing after.standing (standing_told (command.Post name priority details ∷ past) number after has ∙ sym (standing_told past number before had))
goes_on past (command.Apply what job owner) number before after legal had has = by (nat_eq job number) refl
  where
    now : after.standing ≡ standing_of (command.Apply what job owner ∷ past) number
    now = standing_told (command.Apply what job owner ∷ past) number after has

    then_was : before.standing ≡ standing_of past number
    then_was = standing_told past number before had

    may : job ≡ number → job_may (state_of before.standing) (state_of (standing_after what owner)) ≡ true
    may same =
        let unrefused : refused_of (numbered (jobs_of past) job) what owner ≡ None = legal.legal.0 in
        let here : refused_of (numbered (jobs_of past) number) what owner ≡ None = subst (λ (n : ℕ). refused_of (numbered (jobs_of past) n) what owner ≡ None) same unrefused in
        acted before.standing what owner (subst (λ (o : Option Job). refused_of o what owner ≡ None) had here)

    by : (b : Bool) → nat_eq job number ≡ b → GoesAsItMay before.standing after.standing
    by true is =
        let stands : after.standing ≡ standing_after what owner = now ∙ ap (λ (b : Bool). if b then standing_after what owner else standing_of past number) is in
        inr (subst (λ (s : Standing). job_may (state_of before.standing) (state_of s) ≡ true) (sym stands) (may (eqb-true job number is)))
    by false is = still before.standing after.standing (now ∙ ap (λ (b : Bool). if b then standing_after what owner else standing_of past number) is ∙ sym then_was)
