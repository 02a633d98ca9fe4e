-- A conductor keeps the job that it has claimed.
use Rattle.std.proofs.Common.{◌≡◌, ◌≢◌, ℕ, List, [], ◌∷◌, ◌++◌, Some, refl, sym, ap, subst, ◌∙◌, append_assoc}
use Rattle.std.specs.Prelude.{slice_get}
use Rattle.std.specs.List.{AllByRecursion}
use Rattle.tf_board.specs.Board.{LegalJobs}
use Rattle.tf_board.specs.Does.{applied, number_of, command_of}
use Rattle.tf_board.specs.Seeking.{by_other}
use Rattle.tf_board.specs.declared.commands.Command.{Command}
use Rattle.tf_board.specs.declared.commands.Command.TheVariants as command
use Rattle.tf_board.specs.declared.commands.JobAction.TheVariants as action
use Rattle.tf_board.proofs.ClaimLemmas.{claimant_may}
use Rattle.tf_shared_board.specs.Shared.{followed_by, made_command}
use Rattle.tf_board.specs.declared.calls.JobCall.{JobCall}
use Rattle.tf_board.specs.declared.calls.JobCall.TheVariants as call
use Rattle.tf_shared_board.specs.declared.calls.Made.{Made}
use Rattle.tf_conductor.specs.Rounds.{AreDifferent, IsCallBy, IsConductors, claim_by}
use Rattle.tf_conductor.specs.Working.{HasClaim}

-- ---- lists

last_all : {A : Type 0} (P : A → Type 0) (xs : List A) (x : A) → AllByRecursion P xs → P x → AllByRecursion P (xs ++ x ∷ [])
last_all P [] x all here = (here, tt)
last_all P (y ∷ xs) x all here = (all.0, last_all P xs x all.1 here)

-- the later ones of all
pub second_all : {A : Type 0} (P : A → Type 0) (xs ys : List A) → AllByRecursion P (xs ++ ys) → AllByRecursion P ys
second_all P [] ys all = all
second_all P (x ∷ xs) ys all = second_all P xs ys all.1

pub followed_on : (past : List Command) (first second : List Made) → followed_by past (first ++ second) ≡ followed_by (followed_by past first) second
followed_on past [] second = refl
followed_on past (m ∷ first) second = followed_on (made_command m ∷ past) first second

-- ---- others

-- a call of another owner isn't what this owner did
other_call : (owner other : List ℕ) (x : JobCall) (job : ℕ) → IsCallBy other x → other ≢ owner → by_other owner (command_of x job)
other_call owner other (call.Post name priority details) job is apart = absurd is
other_call owner other (call.Apply action.Claim id who) job is apart = λ same. apart (sym is ∙ same)
other_call owner other (call.Apply action.Abandon id who) job is apart = λ same. apart (sym is ∙ same)
other_call owner other (call.Apply action.Consume id who) job is apart = λ same. apart (sym is ∙ same)
other_call owner other (call.Apply action.Trash id who) job is apart = absurd is

module _ (owners : List (List ℕ)) (number : ℕ) (owner : List ℕ) (has : slice_get owners number ≡ Some owner) (different : AreDifferent owners) where
  -- what others called since, as commands
  others_since : (past : List Command) (rest : List Made) → AllByRecursion (IsConductors owners) rest → AllByRecursion (λ m. m.number ≢ number) rest
      → (newer : List Command) × (followed_by past rest ≡ newer ++ past) × AllByRecursion (by_other owner) newer
  others_since past [] all apart = ([], refl, tt)
  others_since past (m ∷ rest) all apart =
      let mine : IsConductors owners m = all.0 in
      let r = others_since (made_command m ∷ past) rest all.1 apart.1 in
      let other : mine.0 ≢ owner = λ same. apart.0 (different m.number number owner (mine.1 ∙ ap Some same) has) in (
        r.0 ++ made_command m ∷ [],
        r.1 ∙ sym (append_assoc r.0 (made_command m ∷ []) past),
        last_all (by_other owner) r.0 (made_command m) r.2 (other_call owner mine.0 m.call m.job mine.2 other),
      )

  -- the id of the job that it has claimed goes on naming it
  pub claim_names : (past all : List Command) (calls rest : List Made) (job : ℕ) (id : List ℕ) → HasClaim past number owner calls job id → all ≡ followed_by past (calls ++ rest) → LegalJobs all
      → AllByRecursion (IsConductors owners) (calls ++ rest) → AllByRecursion (λ m. m.number ≢ number) rest → number_of all id ≡ job
  claim_names past all calls rest job id held is legal by apart =
      let base : List Command = followed_by past held.before in
      let claim : Command = applied base action.Claim id owner in
      let first : followed_by past calls ≡ claim ∷ base =
      ap (λ (l : List Made). followed_by past l) held.is ∙ followed_on past held.before (claim_by number owner job id ∷ [])
      ∙ ap (λ (n : ℕ). command.Apply action.Claim n owner ∷ base) held.about in
      let o = others_since (claim ∷ base) rest (second_all (IsConductors owners) calls rest by) apart in
      let whole : all ≡ o.0 ++ (claim ∷ base) = is ∙ followed_on past calls rest ∙ ap (λ (l : List Command). followed_by l rest) first ∙ o.1 in
      let may = claimant_may o.0 base id owner action.Abandon abandons (subst LegalJobs whole legal) o.2 in
      ap (λ (l : List Command). number_of l id) whole ∙ may.1 ∙ sym held.about
    where
      abandons : action.Abandon ≢ action.Claim
      abandons same = cc
