-- What one job adds to what a conductor has done, and what all do.
use Rattle.std.proofs.Common.{◌≡◌, ℕ, Bool, true, false, List, [], ◌∷◌, ◌++◌, Option, Some, None, refl, sym, ap, subst, ◌∙◌, inl, inr, eq-eqb}
use Rattle.std.specs.Prelude.{◌⊎◌, ◌||◌, ◌==◌, nat_eq}
use Rattle.std.specs.List.{list_any}
use Rattle.std.proofs.lemmas.Bool.{eqb-true}
use Rattle.std.proofs.lemmas.List.Folds.{list_any-append}
use Rattle.tf_values.specs.declared.value.Val.{Val}
use Rattle.tf_board.specs.declared.commands.Command.{Command}
use Rattle.tf_shared_board.specs.declared.calls.Made.{Made}
use Rattle.tf_conductor.specs.Rounds.{Begun, HasConducted, claim_by, claims, details_of, is_claimed, nothing, GiveSame}
use Rattle.tf_conductor.specs.Working.{AreLeft, EndsClaimed, HasMoved, HasTurned, IsSkipping, KnowsNext, StandsWith, StepsFrom}
use Rattle.tf_conductor.specs.declared.runners.Ran.{Ran}
use Rattle.tf_conductor.specs.declared.turns.Claim.{Claim}
use Rattle.tf_conductor.specs.declared.turns.Next.{Next}
use Rattle.tf_conductor.specs.declared.turns.Next.TheVariants as next
use Rattle.tf_conductor.proofs.ClaimedLemmas.{all_claimed}
use Rattle.tf_conductor.proofs.RoundLemmas.{conducted_on, conducted_turned, moved_begun, moved_round}

-- ---- truth

true_or : (a b : Bool) → a ≡ true → (a || b) ≡ true
true_or a b is = ap (λ (x : Bool). x || b) is

or_true : (a b : Bool) → b ≡ true → (a || b) ≡ true
or_true true b is = refl
or_true false b is = is

or_either : (a b : Bool) → (a || b) ≡ true → (a ≡ true) ⊎ (b ≡ true)
or_either true b is = inl refl
or_either false b is = inr is

-- ---- the jobs that were left

pub claimed_on : (calls more : List Made) (job : ℕ) → is_claimed calls job ≡ true → is_claimed (calls ++ more) job ≡ true
claimed_on calls more job is = list_any-append (claims job) calls more ∙ true_or (is_claimed calls job) (is_claimed more job) is

claimed_after : (calls more : List Made) (job : ℕ) → is_claimed more job ≡ true → is_claimed (calls ++ more) job ≡ true
claimed_after calls more job is = list_any-append (claims job) calls more ∙ or_true (is_claimed calls job) (is_claimed more job) is

left_on : (left : List ℕ) (old new more : List Made) → new ≡ old ++ more → AreLeft left old → AreLeft left new
left_on left old new more is are job there = ap (λ (l : List Made). is_claimed l job) is ∙ claimed_on old more job (are job there)

left_more : (left : List ℕ) (calls : List Made) (one : ℕ) → is_claimed calls one ≡ true → AreLeft left calls → AreLeft (left ++ one ∷ []) calls
left_more left calls one claimed are job there = by (or_either (list_any (λ n. n == job) left) (list_any (λ n. n == job) (one ∷ [])) (sym (list_any-append (λ (n : ℕ). n == job) left (one ∷ [])) ∙ there))
  where
    here : (b : Bool) → (one == job) ≡ b → (b || false) ≡ true → is_claimed calls job ≡ true
    here true is found = ap (is_claimed calls) (sym (eqb-true one job is)) ∙ claimed
    here false is found = absurd (cc)

    by : (list_any (λ n. n == job) left ≡ true) ⊎ (list_any (λ n. n == job) (one ∷ []) ≡ true) → is_claimed calls job ≡ true
    by (inl before) = are job before
    by (inr last) = here (one == job) refl last

-- the claim is among the calls
claim_there : (number : ℕ) (owner : List ℕ) (old mid : List Made) (claim : Claim) → HasTurned number old mid (claim_by number owner claim.job claim.id ∷ []) → is_claimed mid claim.job ≡ true
claim_there number owner old mid claim turned =
    let mine : List Made = claim_by number owner claim.job claim.id ∷ [] in
    let itself : is_claimed mine claim.job ≡ true = true_or (nat_eq claim.job claim.job) false (eq-eqb claim.job claim.job refl) in
    ap (λ (l : List Made). is_claimed l claim.job) turned.is ∙ claimed_after old (turned.others ++ mine) claim.job (claimed_after turned.others mine claim.job itself)

-- ---- one job

module _ (gives : Val → Ran → Type 0) (past : List Command) (number : ℕ) (owner : List ℕ) (before after : Option (List (Val × Ran))) (left : List ℕ) (old mid new : List Made)
    (claim : Claim) (details_is : details_of past claim.job ≡ Some claim.details) (turned : HasTurned number old mid (claim_by number owner claim.job claim.id ∷ [])) where
  -- the job was ended: the conductor has moved by a whole round, and each job to skip has a claim
  pub round_on : (r : Ran) (left_now : List ℕ) → EndsClaimed gives number owner claim before after mid new r → IsSkipping claim.job left left_now
      → HasMoved gives past number owner before after old new nothing × (AreLeft left old → AreLeft left_now new)
  round_on r left_now runs pushed =
      let m = moved_round gives past number owner before after old mid new claim details_is turned r runs in (
        m,
        λ are. (let on : AreLeft left new = left_on left old new m.more m.is are in
            let there : is_claimed new claim.job ≡ true = ap (λ (l : List Made). is_claimed l claim.job) runs.0.is ∙ claimed_on mid (runs.0.others ++ _) claim.job (claim_there number owner old mid claim turned) in
            elim pushed [
              | inl same ↦ subst (λ (l : List ℕ). AreLeft l new) (sym same) on
              | inr one ↦ subst (λ (l : List ℕ). AreLeft l new) (sym one) (left_more left new claim.job there on)
            ]),
      )

-- ---- all jobs

pub same_on : (a b c : Val → Ran → Type 0) → GiveSame a b → GiveSame b c → GiveSame a c
same_on a b c one two = λ details r. (λ has. (two details r).0 ((one details r).0 has), λ has. (one details r).1 ((two details r).1 has))

pub same_none : (a : Val → Ran → Type 0) → GiveSame a a
same_none a = λ details r. (λ has. has, λ has. has)

pub moved_on : (old_gives new_gives : Val → Ran → Type 0) (told : Option (List (Val × Ran))) (past : List Command) (number : ℕ) (owner : List ℕ) (before after : Option (List (Val × Ran))) (old new : List Made) (b : Begun)
    → GiveSame old_gives new_gives → HasConducted old_gives told past number owner before old nothing → HasMoved new_gives past number owner before after old new b → HasConducted old_gives told past number owner after new b
moved_on old_gives new_gives told past number owner before after old new b same had m =
    subst (λ (l : List Made). HasConducted old_gives told past number owner after l b) (sym m.is) (conducted_on old_gives new_gives told past number owner before after old m.more b same had m.conducted)

-- ---- what is known at the end of a turn

module _ (gives : Val → Ran → Type 0) (told : Option (List (Val × Ran))) (past : List Command) (owners : List (List ℕ)) (number : ℕ) (owner : List ℕ) where
  -- after a turn to claim, before which all was ended
  pub stands_next : (did : Option (List (Val × Ran))) (left : List ℕ) (old new : List Made) (n : Next) → HasConducted gives told past number owner did old nothing → AreLeft left old
      → KnowsNext past owners number owner left old new n → StandsWith gives told past owners number owner did left new n
  stands_next did left old new next.Stop had are knows =
      let turned : HasTurned number old new [] = knows.0 in
      (conducted_turned gives told past number owner did old new nothing had turned, all_claimed past owners left new knows.1 (left_on left old new (turned.others ++ []) turned.is are))
  stands_next did left old new next.Halt had are knows = (nothing, conducted_turned gives told past number owner did old new nothing had knows)
  stands_next did left old new (next.Run claim) had are knows = (old, had, are, knows.0, knows.1, knows.2)

  -- after the run of a claimed job
  pub stands_on : (now : Val → Ran → Type 0) (before after : Option (List (Val × Ran))) (left left_now : List ℕ) (old new : List Made) (claim : Claim) (n : Next) → GiveSame gives now
      → StandsWith gives told past owners number owner before left old (next.Run claim) → StepsFrom now past owners number owner claim before after left left_now old new n
      → StandsWith gives told past owners number owner after left_now new n
  stands_on now before after left left_now old new claim n same had (inl on) =
      let m = round_on now past number owner before after left had.0 old on.mid claim had.5 had.3 on.r left_now on.ends on.skips in
      stands_next after left_now on.mid new n (moved_on gives now told past number owner before after had.0 on.mid nothing same had.1 m.0) (m.1 had.2) on.knows
  stands_on now before after left left_now old new claim n same had (inr stop) =
      let m = moved_begun now past number owner before after had.0 old new claim had.5 had.3 stop.1 in
      let halts : StandsWith gives told past owners number owner after left_now new next.Halt = (m.0, moved_on gives now told past number owner before after had.0 new m.0 same had.1 m.1) in
      subst (λ (r : Next). StandsWith gives told past owners number owner after left_now new r) (sym stop.0) halts
