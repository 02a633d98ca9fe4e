-- What leads to an item that is kept is kept, and a symbol that isn't ambiguous has one giver or none.
use Rattle.std.proofs.Common.{◌≡◌, ◌∙◌, ℕ, zero, suc, ◌+◌, ◌-◌, ◌<◌, List, [], ◌∷◌, ◌++◌, map, Bool, true, false, ◌||◌, Option, Some, None, filter, refl, sym, ap, subst, inl, inr, arith, eqb-true, eq-eqb}
use Rattle.std.specs.Prelude.{nat_eq, if◌then◌else◌}
use Rattle.std.specs.Option.{option_or}
use Rattle.std.specs.List.{list_any}
use Rattle.std.proofs.lemmas.Bool.{cases_lt}
use Rattle.tf_flow.specs.Tree.{first_some}
use Rattle.tf_flow.specs.Outline.{Atom, FlowPlace}
use Rattle.tf_links.specs.Graphs.{AreBelow, Chain, leads_through, reached}
use Rattle.tf_links.proofs.ReachLawLemmas.{chain_of, chain_reaches}
use Rattle.tf_model.specs.Plan.{is_ambiguous, are_several, refuse_symbol, refuse_givers, least, lesser, name_less}
use Rattle.tf_model.specs.Before.{is_only, givers}
use Rattle.tf_numbers.specs.Numbers.{numbers_below, Pair, has_pair, pairs_below}
use Rattle.tf_numbers.proofs.OptionLemmas.{neither_there}
use Rattle.tf_numbers.proofs.PairLemmas.{pair_passes, passes_pair}
use Rattle.tf_numbers.proofs.TruthLemmas.{same_truth, and_first, and_second, true_both}
use Rattle.tf_target.proofs.ImageLemmas.{Image}

-- ---- what leads to an item that is kept is kept

-- a number that leads to one of the part in several steps, with the steps in the part
record BackChain (it : ℕ → ℕ) (few : ℕ) (pairs : List Pair) (u v : ℕ) : Type 0 where
  number : ℕ
  below : number < few
  is : it number ≡ u
  chain : Chain pairs number v

module _ (it : ℕ → ℕ) (few many : ℕ) (pairs' pairs : List Pair) (below' : AreBelow few pairs') (below : AreBelow many pairs)
    (same : (u v : ℕ) → u < few → v < few → has_pair pairs (it u) (it v) ≡ has_pair pairs' u v)
    (back : (u v : ℕ) → v < few → has_pair pairs u (it v) ≡ true → Image it few u) where
  goes_forward : (u : ℕ) (path : List ℕ) (v : ℕ) → leads_through pairs' u path v ≡ true → leads_through pairs (it u) (map it path) (it v) ≡ true
  goes_forward u [] v is = same u v (below'.first u v is) (below'.second u v is) ∙ is
  goes_forward u (w ∷ path) v is =
      let step : has_pair pairs' u w ≡ true = and_first (has_pair pairs' u w) (leads_through pairs' w path v) is in
      true_both (has_pair pairs (it u) (it w)) (leads_through pairs (it w) (map it path) (it v)) (same u w (below'.first u w step) (below'.second u w step) ∙ step)
      (goes_forward w path v (and_second (has_pair pairs' u w) (leads_through pairs' w path v) is))

  goes_back : (u : ℕ) (path : List ℕ) (v : ℕ) → v < few → leads_through pairs u path (it v) ≡ true → BackChain it few pairs' u v
  goes_back u [] v less is =
      let image = back u v less is in
      record { number = image.number; below = image.below; is = image.is; chain = record { path = []; leads = sym (same image.number v image.below less) ∙ (ap (λ (n : ℕ). has_pair pairs n (it v)) image.is ∙ is) } }
  goes_back u (w ∷ path) v less is =
      let step : has_pair pairs u w ≡ true = and_first (has_pair pairs u w) (leads_through pairs w path (it v)) is in
      let rest = goes_back w path v less (and_second (has_pair pairs u w) (leads_through pairs w path (it v)) is) in
      let step_to : has_pair pairs u (it rest.number) ≡ true = ap (has_pair pairs u) rest.is ∙ step in
      let image = back u rest.number rest.below step_to in
      let first : has_pair pairs' image.number rest.number ≡ true = sym (same image.number rest.number image.below rest.below) ∙ (ap (λ (n : ℕ). has_pair pairs n (it rest.number)) image.is ∙ step_to) in
      record { number = image.number; below = image.below; is = image.is; chain = record { path = rest.number ∷ rest.chain.path; leads = true_both (has_pair pairs' image.number rest.number) (leads_through pairs' rest.number rest.chain.path v) first rest.chain.leads } }

  -- what reaches an item of the part is one of the part
  pub reached_back : (u v : ℕ) → v < few → has_pair (reached many pairs) u (it v) ≡ true → Image it few u
  reached_back u v less is =
      let chain = chain_of many pairs u (it v) is in
      let found = goes_back u chain.path v less chain.leads in
      record { number = found.number; below = found.below; is = found.is }

  pub reached_same : ((u v : ℕ) → it u ≡ it v → u ≡ v) → (u v : ℕ) → v < few → has_pair (reached many pairs) (it u) (it v) ≡ has_pair (reached few pairs') u v
  reached_same once u v less = same_truth (has_pair (reached many pairs) (it u) (it v)) (has_pair (reached few pairs') u v)
      (λ is.
      let chain = chain_of many pairs (it u) (it v) is in
      let found = goes_back (it u) chain.path v less chain.leads in
      let e : found.number ≡ u = once found.number u found.is in
      chain_reaches few pairs' below' u v (subst (λ (n : ℕ). Chain pairs' n v) e found.chain))
      (λ is.
      let chain = chain_of few pairs' u v is in
      chain_reaches many pairs below (it u) (it v) record { path = map it chain.path; leads = goes_forward u chain.path v chain.leads })

-- pairs of numbers below a count
pub pairs_are_below : (n : ℕ) (test : ℕ → ℕ → Bool) → AreBelow n (pairs_below n test)
pairs_are_below n test = record { first = λ u v is. (pair_passes n test u v is).first; second = λ u v is. (pair_passes n test u v is).second }

pub pair_is : (n : ℕ) (test : ℕ → ℕ → Bool) (u v : ℕ) → u < n → v < n → has_pair (pairs_below n test) u v ≡ test u v
pair_is n test u v first second = same_truth (has_pair (pairs_below n test) u v) (test u v) (λ is. (pair_passes n test u v is).tested) (λ is. passes_pair n test u v first second is)

-- ---- a symbol that isn't ambiguous has one giver or none

pub only_one : (xs : List ℕ) (a : ℕ) → are_several xs ≡ false → list_any (nat_eq a) xs ≡ true → is_only a xs ≡ true
only_one [] a few is = absurd (cc)
only_one (x ∷ []) a few is = first (nat_eq a x) is
  where
    first : (b : Bool) → b || false ≡ true → b ≡ true
    first true is = refl
    first false is = absurd (cc)
only_one (x ∷ y ∷ xs) a few is = absurd (cc)

pub several_moved : (it : ℕ → ℕ) (xs : List ℕ) → are_several (map it xs) ≡ are_several xs
several_moved it [] = refl
several_moved it (x ∷ []) = refl
several_moved it (x ∷ y ∷ xs) = refl

pub only_moved : (it : ℕ → ℕ) → ((u v : ℕ) → it u ≡ it v → u ≡ v) → (u : ℕ) (xs : List ℕ) → is_only (it u) (map it xs) ≡ is_only u xs
only_moved it once u [] = refl
only_moved it once u (x ∷ []) = same_truth (nat_eq (it u) (it x)) (nat_eq u x) (λ is. eq-eqb u x (once u x (eqb-true (it u) (it x) is))) (λ is. eq-eqb (it u) (it x) (ap it (eqb-true u x is)))
only_moved it once u (x ∷ y ∷ xs) = refl

-- the least of names that pass a test passes it
least_passes : (p : List ℕ → Bool) (names : List (List ℕ)) (name : List ℕ) → least (filter p names) ≡ Some name → p name ≡ true
least_passes p [] name is = absurd (cc)
least_passes p (x ∷ xs) name is = either p x (filter p xs) name (p x) refl (least_passes p xs) is
  where
    lesser_passes : (p : List ℕ → Bool) (x : List ℕ) (o : Option (List ℕ)) → p x ≡ true → ((n : List ℕ) → o ≡ Some n → p n ≡ true) → p (lesser x o) ≡ true
    lesser_passes p x None here there = here
    lesser_passes p x (Some n) here there = by_order (name_less n x)
      where
        by_order : (b : Bool) → p (if b then n else x) ≡ true
        by_order true = there n refl
        by_order false = here

    either : (p : List ℕ → Bool) (x : List ℕ) (ys : List (List ℕ)) (name : List ℕ) (b : Bool) → p x ≡ b → ((n : List ℕ) → least ys ≡ Some n → p n ≡ true) → least (if b then x ∷ ys else ys) ≡ Some name → p name ≡ true
    either p x ys name true here rest is = let same : lesser x (least ys) ≡ name = cc in ap p (sym same) ∙ lesser_passes p x (least ys) here rest
    either p x ys name false here rest is = rest name is

least_there : (names : List (List ℕ)) (name : List ℕ) (others : List (List ℕ)) → names ≡ name ∷ others → least names ≡ None → ⊥
least_there names name others is none = let same : least names ≡ Some (lesser name (least others)) = ap least is in absurd (cc)

-- where nothing is refused for an item, no symbol that it needs is ambiguous
pub none_ambiguous : (atoms : List Atom) (place : FlowPlace) (v : ℕ) (symbols : List (List ℕ)) → refuse_symbol atoms place v (least (filter (is_ambiguous atoms place v) symbols)) ≡ None → list_any (is_ambiguous atoms place v) symbols ≡ false
none_ambiguous atoms place v symbols none = by_filter (filter (is_ambiguous atoms place v) symbols) refl
  where
    several_refused : (symbol : List ℕ) (xs : List ℕ) → are_several xs ≡ true → refuse_givers place symbol xs ≡ None → ⊥
    several_refused symbol [] is none = absurd (cc)
    several_refused symbol (x ∷ []) is none = absurd (cc)
    several_refused symbol (x ∷ y ∷ xs) is none = absurd (cc)

    not_any : (test : List ℕ → Bool) (xs : List (List ℕ)) → filter test xs ≡ [] → list_any test xs ≡ false
    not_any test [] is = refl
    not_any test (x ∷ xs) is = first test x xs (test x) refl is (not_any test xs)
      where
        first : (test : List ℕ → Bool) (x : List ℕ) (xs : List (List ℕ)) (b : Bool) → test x ≡ b → (if b then x ∷ filter test xs else filter test xs) ≡ [] → (filter test xs ≡ [] → list_any test xs ≡ false) → test x || list_any test xs ≡ false
        first test x xs true here is rest = absurd (cc)
        first test x xs false here is rest = ap (λ b. b || list_any test xs) here ∙ rest is

    by_least : (o : Option (List ℕ)) → least (filter (is_ambiguous atoms place v) symbols) ≡ o → refuse_symbol atoms place v o ≡ None → o ≡ None
    by_least None is unrefused = refl
    by_least (Some symbol) is unrefused = absurd (several_refused symbol (givers atoms place v symbol) (least_passes (is_ambiguous atoms place v) symbols symbol is) unrefused)

    by_filter : (found : List (List ℕ)) → filter (is_ambiguous atoms place v) symbols ≡ found → list_any (is_ambiguous atoms place v) symbols ≡ false
    by_filter [] is = not_any (is_ambiguous atoms place v) symbols is
    by_filter (x ∷ xs) is = absurd (least_there (filter (is_ambiguous atoms place v) symbols) x xs is (by_least (least (filter (is_ambiguous atoms place v) symbols)) refl none))

pub each_none : {Y : Type 0} (give : ℕ → Option Y) (n : ℕ) → first_some give (numbers_below n) ≡ None → (v : ℕ) → v < n → give v ≡ None
each_none give zero none v below = absurd (omega (arith, below))
each_none give (suc n) none v below = let parts = split give (numbers_below n) n none in elim (cases_lt v n) [
  | inl less ↦ each_none give n parts.0 v less
  | inr from ↦ let same : v ≡ n = omega (arith, from, below) in ap give same ∙ parts.1
]
  where
    split : {Y : Type 0} (give : ℕ → Option Y) (xs : List ℕ) (x : ℕ) → first_some give (xs ++ x ∷ []) ≡ None → (first_some give xs ≡ None) × (give x ≡ None)
    split give [] x none = (refl, (neither_there (give x) None none).0)
    split give (y ∷ xs) x none =
        let both = neither_there (give y) (first_some give (xs ++ x ∷ [])) none in
        let rest = split give xs x both.1 in
        (ap (λ o. option_or o (first_some give xs)) both.0 ∙ rest.0, rest.1)
