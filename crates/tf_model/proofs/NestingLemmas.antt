-- Flows that share an atom are nested in one another.
use Rattle.std.proofs.Common.{◌≡◌, ◌≢◌, ℕ, suc, ◌+◌, ◌<◌, List, [], ◌∷◌, Bool, true, false, not, ◌&&◌, ◌||◌, Some, None, refl, sym, ap, ◌∙◌, ◌⊎◌, inl, inr, eqb-true, eq-eqb, arith}
use Rattle.std.specs.Prelude.{nat_eq}
use Rattle.tf_flow.specs.Plan.{PlanValue}
use Rattle.tf_flow.specs.Tree.{Tree, Trees, task, flow, no_trees, tree, tree_of}
use Rattle.tf_flow.specs.Outline.{atoms_of, flow_count}
use Rattle.tf_flow.specs.declared.paths.Turn.{Turn}
use Rattle.tf_model.specs.Before.{passes_flow}
use Rattle.tf_model.specs.Plan.{outline_of, holds, path, own_flow, last_flow}
use Rattle.tf_numbers.proofs.TruthLemmas.{and_first, and_second, or_either, true_first, true_second, true_both}
use Rattle.tf_model.proofs.PathLemmas.{AreTogether, IsPath, IsPathAmong, turn_to, together, path_of_each, paths_of, passes_head}
use Rattle.tf_model.proofs.RetryLemmas.{passes_last, ends_below}
use Rattle.std.proofs.lemmas.Bool.{ne_eqb}

-- a path leads into F, and not into G before
comes_first : ℕ → ℕ → List Turn → Bool
comes_first F G [] = false
comes_first F G (x ∷ xs) = nat_eq x.flow F || (not (nat_eq x.flow G) && comes_first F G xs)

first_of_both : (F G : ℕ) (w : List Turn) → passes_flow F w ≡ true → passes_flow G w ≡ true → (comes_first F G w ≡ true) ⊎ (comes_first G F w ≡ true)
unfolding comes_first
first_of_both F G [] on too = absurd (cc)
first_of_both F G (x ∷ xs) on too = by (nat_eq x.flow F) (nat_eq x.flow G) (passes_flow F xs) (passes_flow G xs) (comes_first F G xs) (comes_first G F xs) on too (first_of_both F G xs)
  where
    by : (f g on_f on_g one other : Bool) → f || on_f ≡ true → g || on_g ≡ true → (on_f ≡ true → on_g ≡ true → (one ≡ true) ⊎ (other ≡ true))
        → (f || (not g && one) ≡ true) ⊎ (g || (not f && other) ≡ true)
    by true g on_f on_g one other a b rest = inl refl
    by false true on_f on_g one other a b rest = inr refl
    by false false on_f on_g one other a b rest = rest a b

within_first : (F G : ℕ) (c b : List Turn) → comes_first F G c ≡ true → AreTogether G c b → passes_flow F b ≡ true
unfolding comes_first
within_first F G [] b first same = absurd same
within_first F G (x ∷ xs) [] first same = absurd same
within_first F G (x ∷ xs) (y ∷ ys) first same = elim same [
  | inl both ↦ elim (or_either (nat_eq x.flow F) _ first) [
    | inl here ↦ true_first (nat_eq y.flow F) _ (eq-eqb y.flow F (both.1 ∙ (sym both.0 ∙ eqb-true x.flow F here)))
    | inr later ↦ let off : not (nat_eq x.flow G) ≡ true = and_first (not (nat_eq x.flow G)) _ later in
        let no : false ≡ true = ap not (sym (eq-eqb x.flow G both.0)) ∙ off in absurd (cc)
  ]
  | inr turn ↦ elim (or_either (nat_eq x.flow F) _ first) [
    | inl here ↦ true_first (nat_eq y.flow F) _ (ap (λ (t : Turn). nat_eq t.flow F) (sym turn.0) ∙ here)
    | inr later ↦ true_second (nat_eq y.flow F) _ (within_first F G xs ys (and_second (not (nat_eq x.flow G)) _ later) turn.1)
  ]
]

-- of two flows that hold one atom, the one holds all that the other holds
pub nested_in : (plan : PlanValue) (F G c : ℕ) → holds (outline_of plan) F c ≡ true → holds (outline_of plan) G c ≡ true
    → ((b : ℕ) → holds (outline_of plan) G b ≡ true → holds (outline_of plan) F b ≡ true) ⊎ ((b : ℕ) → holds (outline_of plan) F b ≡ true → holds (outline_of plan) G b ≡ true)
unfolding holds
nested_in plan F G c on too = elim (first_of_both F G (path (outline_of plan) c) on too) [
  | inl first ↦ inl (λ b in_g. within_first F G (path (outline_of plan) c) (path (outline_of plan) b) first (in_one plan G c b too in_g))
  | inr first ↦ inr (λ b in_f. within_first G F (path (outline_of plan) c) (path (outline_of plan) b) first (in_one plan F c b on in_f))
]
  where
    in_one : (plan : PlanValue) (F a b : ℕ) → passes_flow F (path (outline_of plan) a) ≡ true → passes_flow F (path (outline_of plan) b) ≡ true → AreTogether F (path (outline_of plan) a) (path (outline_of plan) b)
    in_one plan F a b on too =
        together (tree_of plan.root) 0 F (path (outline_of plan) a) (path (outline_of plan) b)
        (path_of_each (IsPath 0 (tree_of plan.root)) (atoms_of 0 (tree_of plan.root)) a F (paths_of (tree_of plan.root) 0) on)
        (path_of_each (IsPath 0 (tree_of plan.root)) (atoms_of 0 (tree_of plan.root)) b F (paths_of (tree_of plan.root) 0) too) on too

-- ---- what holds an atom holds all of its own flow

-- where a path ends in F and leads into G, G is F or comes first
at_head : (F G : ℕ) (x : Turn) (w rest : List Turn) → w ≡ x ∷ rest → x.flow ≡ G → comes_first G F w ≡ true
unfolding comes_first
at_head F G x w rest is same = ap (comes_first G F) is ∙ true_first (nat_eq x.flow G) _ (eq-eqb x.flow G same)

behind_head : (F G : ℕ) (x : Turn) (w rest : List Turn) → w ≡ x ∷ rest → (x.flow ≢ F) → comes_first G F rest ≡ true → comes_first G F w ≡ true
unfolding comes_first
behind_head F G x w rest is other first =
    ap (comes_first G F) is ∙ true_second (nat_eq x.flow G) _ (true_both (not (nat_eq x.flow F)) _ (ap not (ne_eqb x.flow F other)) first)

last_behind : (F G : ℕ) (x : Turn) (w rest : List Turn) → w ≡ x ∷ rest → passes_flow G rest ≡ true → last_flow w ≡ Some F → last_flow rest ≡ Some F
last_behind F G x w [] is on last = absurd (cc)
last_behind F G x w (y ∷ ys) is on last = sym (ap last_flow is) ∙ last

mutual
  first_or_last : (t : Tree) (g F G : ℕ) (c : List Turn) → IsPath g t c → last_flow c ≡ Some F → passes_flow G c ≡ true → (G ≡ F) ⊎ (comes_first G F c ≡ true)
  first_or_last (task t) g F G c is last on = let no : false ≡ true = ap (passes_flow G) (sym is) ∙ on in absurd (cc)
  first_or_last (flow head items) g F G c is last on = elim is [
    | inl own ↦ elim (passes_head G (turn_to g None) c [] own on) [ inl same ↦ inr (at_head F G (turn_to g None) c [] own same) | inr there ↦ absurd (cc) ]
    | inr among ↦ first_or_last_among items g 0 (suc g) F G c (omega arith) among last on
  ]

  first_or_last_among : (ts : Trees) (g i n F G : ℕ) (c : List Turn) → g < n → IsPathAmong g i n ts c → last_flow c ≡ Some F → passes_flow G c ≡ true → (G ≡ F) ⊎ (comes_first G F c ≡ true)
  first_or_last_among no_trees g i n F G c below is last on = absurd is
  first_or_last_among (tree first others) g i n F G c below is last on = elim is [
    | inl here ↦ elim (passes_head G (turn_to g (Some i)) c here.rest here.is on) [
      | inl same ↦ inr (at_head F G (turn_to g (Some i)) c here.rest here.is same)
      | inr there ↦
          let rest_last : last_flow here.rest ≡ Some F = last_behind F G (turn_to g (Some i)) c here.rest here.is there last in
          elim (first_or_last first n F G here.rest here.on rest_last there) [
            | inl same ↦ inl same
            | inr sooner ↦ inr (behind_head F G (turn_to g (Some i)) c here.rest here.is (ends_below first g n F here.rest below here.on rest_last) sooner)
          ]
    ]
    | inr later ↦ first_or_last_among others g (suc i) (n + flow_count first) F G c (omega (arith, below)) later last on
  ]

-- a flow that holds an atom holds all that the atom's own flow holds
pub own_flow_in : (plan : PlanValue) (a F G b : ℕ) → own_flow (outline_of plan) a ≡ Some F → holds (outline_of plan) G a ≡ true → holds (outline_of plan) F b ≡ true → holds (outline_of plan) G b ≡ true
unfolding holds
own_flow_in plan a F G b own on too =
    elim (first_or_last (tree_of plan.root) 0 F G (path (outline_of plan) a) (path_of_each (IsPath 0 (tree_of plan.root)) (atoms_of 0 (tree_of plan.root)) a G (paths_of (tree_of plan.root) 0) on) own on) [
      | inl same ↦ ap (λ (g : ℕ). passes_flow g (path (outline_of plan) b)) same ∙ too
      | inr first ↦ within_first G F (path (outline_of plan) a) (path (outline_of plan) b) first
          (together (tree_of plan.root) 0 F (path (outline_of plan) a) (path (outline_of plan) b)
          (path_of_each (IsPath 0 (tree_of plan.root)) (atoms_of 0 (tree_of plan.root)) a G (paths_of (tree_of plan.root) 0) on)
          (path_of_each (IsPath 0 (tree_of plan.root)) (atoms_of 0 (tree_of plan.root)) b F (paths_of (tree_of plan.root) 0) too)
          (passes_last F (path (outline_of plan) a) own) too)
    ]
