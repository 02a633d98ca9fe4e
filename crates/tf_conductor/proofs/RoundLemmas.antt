-- The calls and runs of a conductor, as more are added.
use Rattle.std.proofs.Common.{◌≡◌, ◌≢◌, ◌⊎◌, inl, inr, ℕ, Bool, true, false, List, [], ◌∷◌, ◌++◌, cond, Option, Some, None, refl, sym, ap, ◌∙◌, append-nil, append_assoc, eq-eqb}
use Rattle.std.specs.Prelude.{nat_eq}
use Rattle.std.specs.List.{AllByRecursion}
use Rattle.std.proofs.lemmas.Bool.{eqb-true}
use Rattle.std.proofs.lemmas.List.{map-append}
use Rattle.std.proofs.lemmas.List.Elements.{filter-append}
use Rattle.tf_values.specs.declared.value.Val.{Val}
use Rattle.tf_board.specs.declared.commands.Command.{Command}
use Rattle.tf_shared_board.specs.declared.calls.Made.{Made}
use Rattle.tf_conductor.specs.Rounds.{Begun, Round, HasConducted, IsBegunRound, IsRound, begun_calls, begun_runs, calls_by, calls_of, claim_by, claimed, details_of, end_of_round, nothing, round_run, run, runs_of, GiveSame, told_runs}
use Rattle.tf_conductor.specs.Working.{HasMoved, HasRunJob, HasTurned, round_so}
use Rattle.tf_conductor.specs.declared.runners.Ran.{Ran}
use Rattle.tf_conductor.specs.declared.turns.Claim.{Claim}

-- ---- runs that are told

pub told_none : (told : Option (List (Val × Ran))) → told ≡ told_runs told []
told_none None = refl
told_none (Some runs) = ap Some (sym (append-nil runs))

pub told_on : (told : Option (List (Val × Ran))) (first second : List (Val × Ran)) → told_runs (told_runs told first) second ≡ told_runs told (first ++ second)
told_on None first second = refl
told_on (Some runs) first second = ap Some (append_assoc runs first second)

-- ---- calls of one conductor

-- those of others aren't its own
pub others_none : (number : ℕ) (others : List Made) → AllByRecursion (λ m. m.number ≢ number) others → calls_by number others ≡ []
others_none number [] apart = refl
others_none number (m ∷ others) apart = by (others_none number others apart.1) (nat_eq m.number number) refl
  where
    by : calls_by number others ≡ [] → (b : Bool) → nat_eq m.number number ≡ b → cond (nat_eq m.number number) (m ∷ calls_by number others) (calls_by number others) ≡ []
    by rest false is = ap (λ (b : Bool). cond b (m ∷ calls_by number others) (calls_by number others)) is ∙ rest
    by rest true is = absurd (apart.0 (eqb-true m.number number is))

-- its own is
pub mine_all : (number : ℕ) (m : Made) → m.number ≡ number → calls_by number (m ∷ []) ≡ m ∷ []
mine_all number m is = ap (λ (b : Bool). cond b (m ∷ []) []) (eq-eqb m.number number is)

pub calls_by-append : (number : ℕ) (first second : List Made) → calls_by number (first ++ second) ≡ calls_by number first ++ calls_by number second
calls_by-append number first second = filter-append (λ (m : Made). nat_eq m.number number) first second

-- calls of others and then these
pub turned_calls : (number : ℕ) (others mine : List Made) → AllByRecursion (λ m. m.number ≢ number) others → calls_by number (others ++ mine) ≡ calls_by number mine
turned_calls number others mine apart = calls_by-append number others mine ∙ ap (λ (l : List Made). l ++ calls_by number mine) (others_none number others apart)

-- ---- rounds

pub calls_of-append : (number : ℕ) (owner : List ℕ) (first second : List Round) → calls_of number owner (first ++ second) ≡ calls_of number owner first ++ calls_of number owner second
calls_of-append number owner [] second = refl
calls_of-append number owner (r ∷ first) second = ap (λ (l : List Made). claim_by number owner r.job r.id ∷ (end_of_round number owner r ∷ l)) (calls_of-append number owner first second)

all_both : {A : Type 0} (P : A → Type 0) (xs ys : List A) → AllByRecursion P xs → AllByRecursion P ys → AllByRecursion P (xs ++ ys)
all_both P [] ys first second = second
all_both P (x ∷ xs) ys first second = (first.0, all_both P xs ys first.1 second)

-- where a runner gave so later it gave so before
round_before : (old new : Val → Ran → Type 0) (past : List Command) (rounds : List Round) → GiveSame old new → AllByRecursion (IsRound new past) rounds → AllByRecursion (IsRound old past) rounds
round_before old new past [] same all = tt
round_before old new past (r ∷ rounds) same all = (record { details_is = all.0.details_is; given = (same r.details r.ran).1 all.0.given }, round_before old new past rounds same all.1)

begun_before : (old new : Val → Ran → Type 0) (past : List Command) (b : Begun) → GiveSame old new → IsBegunRound new past b → IsBegunRound old past b
begun_before old new past nothing same is = tt
begun_before old new past (claimed job id details) same is = is
begun_before old new past (run r) same is = record { details_is = is.details_is; given = (same r.details r.ran).1 is.given }

-- ---- what a conductor has done, and more

-- nothing yet
pub conducted_none : (gives : Val → Ran → Type 0) (told : Option (List (Val × Ran))) (past : List Command) (number : ℕ) (owner : List ℕ) (calls : List Made) → calls_by number calls ≡ []
    → HasConducted gives told past number owner told calls nothing
conducted_none gives told past number owner calls none = record { rounds = []; calls_are = none; did_is = told_none told; are_rounds = tt; is_begun = tt }

-- whole rounds, and then more
pub conducted_on : (old new : Val → Ran → Type 0) (told : Option (List (Val × Ran))) (past : List Command) (number : ℕ) (owner : List ℕ) (before after : Option (List (Val × Ran))) (first second : List Made) (b : Begun)
    → GiveSame old new → HasConducted old told past number owner before first nothing → HasConducted new before past number owner after second b → HasConducted old told past number owner after (first ++ second) b
conducted_on old new told past number owner before after first second b same one two = record {
  rounds = one.rounds ++ two.rounds;
  calls_are = calls_by-append number first second
      ∙ ap (λ (l : List Made). l ++ calls_by number second) (one.calls_are ∙ append-nil (calls_of number owner one.rounds))
      ∙ ap (λ (l : List Made). calls_of number owner one.rounds ++ l) two.calls_are
      ∙ sym (append_assoc (calls_of number owner one.rounds) (calls_of number owner two.rounds) (begun_calls number owner b))
      ∙ ap (λ (l : List Made). l ++ begun_calls number owner b) (sym (calls_of-append number owner one.rounds two.rounds));
  did_is = two.did_is
      ∙ ap (λ (t : Option (List (Val × Ran))). told_runs t (runs_of two.rounds ++ begun_runs b)) (one.did_is ∙ ap (λ (l : List (Val × Ran)). told_runs told l) (append-nil (runs_of one.rounds)))
      ∙ told_on told (runs_of one.rounds) (runs_of two.rounds ++ begun_runs b)
      ∙ ap (λ (l : List (Val × Ran)). told_runs told l)
      (sym (append_assoc (runs_of one.rounds) (runs_of two.rounds) (begun_runs b)) ∙ ap (λ (l : List (Val × Ran)). l ++ begun_runs b) (sym (map-append round_run one.rounds two.rounds)));
  are_rounds = all_both (IsRound old past) one.rounds two.rounds one.are_rounds (round_before old new past two.rounds same two.are_rounds);
  is_begun = begun_before old new past b same two.is_begun;
}

-- the same, and then calls of others
pub conducted_turned : (gives : Val → Ran → Type 0) (told : Option (List (Val × Ran))) (past : List Command) (number : ℕ) (owner : List ℕ) (did : Option (List (Val × Ran))) (old new : List Made) (b : Begun)
    → HasConducted gives told past number owner did old b → HasTurned number old new [] → HasConducted gives told past number owner did new b
conducted_turned gives told past number owner did old new b one turned = record {
  rounds = one.rounds;
  calls_are = ap (calls_by number) turned.is ∙ calls_by-append number old (turned.others ++ [])
      ∙ ap (λ (l : List Made). calls_by number old ++ l) (turned_calls number turned.others [] turned.apart) ∙ append-nil (calls_by number old) ∙ one.calls_are;
  did_is = one.did_is;
  are_rounds = one.are_rounds;
  is_begun = one.is_begun;
}

-- ---- one job

module _ (gives : Val → Ran → Type 0) (past : List Command) (number : ℕ) (owner : List ℕ) (before after : Option (List (Val × Ran))) (old mid new : List Made) where
  module _ (claim : Claim) (details_is : details_of past claim.job ≡ Some claim.details) (turned : HasTurned number old mid (claim_by number owner claim.job claim.id ∷ [])) where
    abbrev mine : List Made
    mine = claim_by number owner claim.job claim.id ∷ []

    -- the claim is all that the conductor called among those so far
    claim_calls : calls_by number (turned.others ++ mine) ≡ mine
    claim_calls = turned_calls number turned.others mine turned.apart ∙ mine_all number (claim_by number owner claim.job claim.id) refl

    -- a claim that was not ended
    unended : (b : Begun) → begun_calls number owner b ≡ mine → after ≡ told_runs before (begun_runs b) → IsBegunRound gives past b → HasTurned number mid new [] → HasMoved gives past number owner before after old new b
    unended b is did begun next = record {
      more = (turned.others ++ mine) ++ (next.others ++ []);
      is = next.is ∙ ap (λ (l : List Made). l ++ (next.others ++ [])) turned.is ∙ append_assoc old (turned.others ++ mine) (next.others ++ []);
      conducted = record {
        rounds = [];
        calls_are = calls_by-append number (turned.others ++ mine) (next.others ++ []) ∙ ap (λ (l : List Made). l ++ calls_by number (next.others ++ [])) claim_calls
            ∙ ap (λ (l : List Made). mine ++ l) (turned_calls number next.others [] next.apart) ∙ append-nil mine ∙ sym is;
        did_is = did;
        are_rounds = tt;
        is_begun = begun;
      };
    }

    -- a claim that was not ended, with its run or without
    pub moved_begun : HasTurned number mid new [] × ((after ≡ before) ⊎ ((r : Ran) × HasRunJob gives claim before after r)) → (b : Begun) × HasMoved gives past number owner before after old new b
    moved_begun all = elim all.1 [
      | inl same ↦ (claimed claim.job claim.id claim.details, unended (claimed claim.job claim.id claim.details) refl (same ∙ told_none before) details_is all.0)
      | inr ran ↦ (run (round_so claim ran.0), unended (run (round_so claim ran.0)) refl ran.1.told (record { details_is = details_is; given = ran.1.given }) all.0)
    ]

    -- a whole round
    pub moved_round : (r : Ran) → HasTurned number mid new (end_of_round number owner (round_so claim r) ∷ []) × HasRunJob gives claim before after r → HasMoved gives past number owner before after old new nothing
    moved_round r all =
        let end : List Made = end_of_round number owner (round_so claim r) ∷ [] in
        let next : HasTurned number mid new end = all.0 in
        record {
          more = (turned.others ++ mine) ++ (next.others ++ end);
          is = next.is ∙ ap (λ (l : List Made). l ++ (next.others ++ end)) turned.is ∙ append_assoc old (turned.others ++ mine) (next.others ++ end);
          conducted = record {
            rounds = round_so claim r ∷ [];
            calls_are = calls_by-append number (turned.others ++ mine) (next.others ++ end) ∙ ap (λ (l : List Made). l ++ calls_by number (next.others ++ end)) claim_calls
                ∙ ap (λ (l : List Made). mine ++ l) (turned_calls number next.others end next.apart ∙ mine_all number (end_of_round number owner (round_so claim r)) refl);
            did_is = all.1.told;
            are_rounds = (record { details_is = details_is; given = all.1.given }, tt);
            is_begun = tt;
          };
        }
