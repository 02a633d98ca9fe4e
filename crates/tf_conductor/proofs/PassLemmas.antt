-- What a conductor gives back to the turnstile.
use Rattle.std.proofs.Common.{◌≡◌, ◌<◌, ℕ, zero, suc, Bool, true, false, List, [], ◌∷◌, ◌++◌, Option, Some, None, refl, sym, ap, subst, ◌∙◌, append_assoc, arith, slice_index_or}
use Rattle.std.proofs.lemmas.List.{map-append}
use Rattle.std.proofs.lemmas.List.Elements.{All-append}
use Rattle.std.specs.List.{All}
use Rattle.tf_desk.specs.State.{DeskState}
use Rattle.tf_turnstile.specs.Numbered.{IsLonger}
use Rattle.tf_turnstile.specs.Passes.{PassValue, MayGive}
use Rattle.tf_turnstile.proofs.NumberedLemmas.{longer_same}
use Rattle.tf_shared_board.specs.Shared.{carried, numbered, SharedValue, IsMade}
use Rattle.tf_conductor.specs.Rounds.{claim_by}
use Rattle.tf_shared_board.specs.declared.calls.Made.{Made}
use Rattle.tf_conductor.specs.declared.runners.Ran.{Ran}
use Rattle.tf_conductor.specs.declared.turns.Next.{Next}
use Rattle.tf_conductor.specs.declared.turns.Next.TheVariants as next
use Rattle.tf_conductor.specs.Conducting.{ConductingValue, conducting_origin, Claims, EndsAndClaims, EndsJob}

-- entries of this number more, and then more
longer_on : {E : Type 0} (n : ℕ) (a b c : List (ℕ × E)) → IsLonger n a b → IsLonger n b c → IsLonger n a c
longer_on n a b c one two = record {
  mine = one.mine ++ two.mine;
  begins = two.begins ∙ ap (λ l. l ++ two.mine) one.begins ∙ append_assoc a one.mine two.mine;
  own = All-append (λ e. e.0 ≡ n) one.mine two.mine one.own two.own;
}

module _ {K : Type 0} where
  -- no call was added
  pub longer_none : (n : ℕ) (old new : SharedValue K) → new.made ≡ old.made → IsLonger n (numbered old.made) (numbered new.made)
  longer_none n old new same = subst (λ (l : List Made). IsLonger n (numbered old.made) (numbered l)) (sym same) (longer_same n (numbered old.made))

  -- the value may be given that has what may never change, and calls of this number more
  pub gives_turn : (old pass : PassValue (ConductingValue K) Made) (number : ℕ) (s kept : ConductingValue K) → old.number ≡ number → pass ≡ record old { seen = pass.seen; taken = Some s } → conducting_origin kept ≡ conducting_origin s
      → IsLonger number (numbered s.now.made) (numbered kept.now.made) → MayGive conducting_origin (λ (c : ConductingValue K). numbered c.now.made) pass kept
  gives_turn old pass number s kept is taken same longer = record {
    taken = s;
    has = ap (λ (p : PassValue (ConductingValue K) Made). p.taken) taken;
    same = same;
    longer = subst (λ (n : ℕ). IsLonger n (numbered s.now.made) (numbered kept.now.made)) (sym (ap (λ (p : PassValue (ConductingValue K) Made). p.number) taken ∙ is)) longer;
  }

module _ {K : Type 0} (state : K → DeskState) where
  -- a call was added
  pub longer_one : (m : Made) (old new : SharedValue K) → IsMade state m old new → IsLonger m.number (numbered old.made) (numbered new.made)
  longer_one m old new made =
      let only : All (λ (e : ℕ × Made). e.0 ≡ m.number) (carried m ∷ []) = λ k d h. elim k as (λ n. n < 1 → (slice_index_or (carried m ∷ []) n d).0 ≡ m.number) [ zero ↦ λ _. refl | suc n ↦ λ lt. absurd (omega (arith, lt)) ] h in
      record { mine = carried m ∷ []; begins = ap (λ (s : SharedValue K). numbered s.made) made.now ∙ map-append carried old.made (m ∷ []); own = only }

  -- a turn to claim
  pub longer_claims : (number : ℕ) (owner skip : List ℕ) (old new : SharedValue K) (n : Next) → Claims state number owner skip old new n → IsLonger number (numbered old.made) (numbered new.made)
  longer_claims number owner skip old new next.Stop claims = longer_none number old new (ap (λ (s : SharedValue K). s.made) claims.0)
  longer_claims number owner skip old new next.Halt claims = longer_none number old new claims.0.made
  longer_claims number owner skip old new (next.Run claim) claims = longer_one (claim_by number owner claim.job claim.id) old new claims.0

  -- a turn to end
  pub longer_ended : (number : ℕ) (owner id : List ℕ) (r : Ran) (old new : ConductingValue K) (made : Bool) → EndsJob state number owner id r old new made → IsLonger number (numbered old.now.made) (numbered new.now.made)
  longer_ended number owner id r old new true ended = (let e = ended.ended refl in longer_one _ old.now new.now e.1)
  longer_ended number owner id r old new false ended = longer_none number old.now new.now (ended.none refl).made

  -- a turn to end a job and to claim the next one
  pub longer_after : (number : ℕ) (owner id : List ℕ) (r : Ran) (skip : List ℕ) (old new : ConductingValue K) (n : Option Next) → EndsAndClaims state number owner id r skip old new n
      → IsLonger number (numbered old.now.made) (numbered new.now.made)
  longer_after number owner id r skip old new None ends = longer_ended number owner id r old new false ends
  longer_after number owner id r skip old new (Some n) ends =
      longer_on number (numbered old.now.made) (numbered ends.0.now.made) (numbered new.now.made)
      (longer_ended number owner id r old ends.0 true ends.2) (longer_claims number owner skip ends.0.now new.now n ends.3.claims)

  -- what may never change stays
  pub same_after : (number : ℕ) (owner id : List ℕ) (r : Ran) (skip : List ℕ) (old new : ConductingValue K) (n : Option Next) → EndsAndClaims state number owner id r skip old new n
      → conducting_origin new ≡ conducting_origin old
  same_after number owner id r skip old new None ends = ends.same
  same_after number owner id r skip old new (Some n) ends = ends.3.same ∙ ends.2.same
