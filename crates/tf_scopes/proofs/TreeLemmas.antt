-- How the atoms of a tree stand, and what is in front of each.
use Rattle.std.proofs.Common.{◌≡◌, ℕ, zero, suc, ◌+◌, ◌<◌, ◌≤◌, List, [], ◌∷◌, ◌++◌, length, map, Bool, true, false, not, ◌&&◌, Option, Some, None, refl, sym, ap, ◌∙◌, inl, inr, arith, eqb-true, eq-eqb, subst, slice_get}
use Rattle.std.specs.Option.{option_to_list}
use Rattle.std.specs.Prelude.{cond, nat_eq, flat_map, take_while}
use Rattle.std.specs.List.{list_any}
use Rattle.std.proofs.lemmas.List.Sums.{take_while-cons}
use Rattle.tf_flow.specs.declared.atoms.Retry.{Retry}
use Rattle.tf_flow.specs.declared.paths.Turn.{Turn}
use Rattle.tf_flow.specs.Tree.{Tree, Trees, task, flow, no_trees, tree, Head}
use Rattle.tf_flow.specs.Outline.{Atom, FlowPlace, Item, atoms_of, atoms_among, retry_atoms, enter, flows_of, flows_among, flow_count, atom_count, retry_count, retry_number, item_of, items_of}
use Rattle.tf_model.specs.Before.{find_flow, passes_flow, passes_item, standing_at}
use Rattle.tf_model.specs.Plan.{Outline, path}
use Rattle.tf_model.proofs.Told.{standing_in, standing_of}
use Rattle.tf_model.specs.Scope.{is_elsewhere}
use Rattle.tf_model.proofs.PathLemmas.{turn_to}
use Rattle.tf_numbers.specs.Numbers.{has_number}
use Rattle.tf_numbers.proofs.EquationLemmas.{ap2}
use Rattle.tf_numbers.proofs.ListLemmas.{append_chain, nothing_after}
use Rattle.tf_numbers.proofs.PairLemmas.{any_in_both, any_flat}
use Rattle.tf_numbers.proofs.TruthLemmas.{or_either, never_true, only_first, true_first, true_second, true_both, second_false}
use Rattle.tf_flow.proofs.ListingLemmas.{length_atoms, length_retry}
use Rattle.tf_scopes.specs.Standing.{is_other}
use Rattle.tf_scopes.proofs.FrontLemmas.{front, flow_front, flow_has, at_item}

-- what stands in an item, in standing order
abbrev pub stands : Outline → List Item → ℕ → List ℕ
stands plan items u = standing_of plan.flows (slice_get items u)

-- what stands in a tree whose atoms and flows are numbered from a and g on
abbrev pub stands_in_tree : Outline → ℕ → ℕ → Tree → List ℕ
stands_in_tree plan g a t = standing_at plan.flows (item_of g a t).standing

-- a flow of the plan stands as its items do, in an order that has each of them
pub record Stands (plan : Outline) (place : FlowPlace) : Type 0 where
  pub order : List ℕ
  pub standing : standing_in (find_flow plan.flows place.number) ≡ option_to_list place.retry ++ flat_map (stands plan place.items) order
  pub all : (u : ℕ) → u < length place.items → has_number order u ≡ true

abbrev pub AllStand : Outline → List FlowPlace → Type 0
AllStand plan [] = Unit {0}
AllStand plan (place ∷ places) = Stands plan place × AllStand plan places

all_first : (plan : Outline) (xs ys : List FlowPlace) → AllStand plan (xs ++ ys) → AllStand plan xs
all_first plan [] ys all = tt
all_first plan (x ∷ xs) ys all = (all.0, all_first plan xs ys all.1)

all_second : (plan : Outline) (xs ys : List FlowPlace) → AllStand plan (xs ++ ys) → AllStand plan ys
all_second plan [] ys all = all
all_second plan (x ∷ xs) ys all = all_second plan xs ys all.1

-- a fact of each atom of a list, numbered from a on
abbrev pub Each : (ℕ → Atom → Type 0) → ℕ → List Atom → Type 0
Each Q a [] = Unit {0}
Each Q a (x ∷ xs) = Q a x × Each Q (suc a) xs

moved : (Q : ℕ → Atom → Type 0) (a b : ℕ) (xs : List Atom) → a ≡ b → Each Q a xs → Each Q b xs
moved Q a b xs same each = subst (λ (n : ℕ). Each Q n xs) same each

each_first : (Q : ℕ → Atom → Type 0) (a : ℕ) (xs ys : List Atom) → Each Q a (xs ++ ys) → Each Q a xs
each_first Q a [] ys each = tt
each_first Q a (x ∷ xs) ys each = (each.0, each_first Q (suc a) xs ys each.1)

each_second : (Q : ℕ → Atom → Type 0) (a : ℕ) (xs ys : List Atom) → Each Q a (xs ++ ys) → Each Q (a + length xs) ys
each_second Q a [] ys each = moved Q a (a + 0) ys (omega arith) each
each_second Q a (x ∷ xs) ys each = moved Q (suc a + length xs) (a + suc (length xs)) ys (omega arith) (each_second Q (suc a) xs ys each.1)

each_both : (Q : ℕ → Atom → Type 0) (a : ℕ) (xs ys : List Atom) → Each Q a xs → Each Q (a + length xs) ys → Each Q a (xs ++ ys)
each_both Q a [] ys one two = moved Q (a + 0) a ys (omega arith) two
each_both Q a (x ∷ xs) ys one two = (one.0, each_both Q (suc a) xs ys one.1 (moved Q (a + suc (length xs)) (suc a + length xs) ys (omega arith) two))

each_weaker : (P Q : ℕ → Atom → Type 0) (a : ℕ) (xs : List Atom) → ((y : ℕ) (x : Atom) → P y x → Q y x) → Each P a xs → Each Q a xs
each_weaker P Q a [] weaker each = tt
each_weaker P Q a (x ∷ xs) weaker each = (weaker a x each.0, each_weaker P Q (suc a) xs weaker each.1)

each_entered : (P Q : ℕ → Atom → Type 0) (g i a : ℕ) (xs : List Atom) → ((y : ℕ) (x : Atom) → P y x → Q y (enter g i x)) → Each P a xs → Each Q a (map (enter g i) xs)
each_entered P Q g i a [] weaker each = tt
each_entered P Q g i a (x ∷ xs) weaker each = (weaker a x each.0, each_entered P Q g i (suc a) xs weaker each.1)

each_left : (P Q : ℕ → Atom → Type 0) (g i a : ℕ) (xs : List Atom) → ((y : ℕ) (x : Atom) → Q y (enter g i x) → P y x) → Each Q a (map (enter g i) xs) → Each P a xs
each_left P Q g i a [] weaker each = tt
each_left P Q g i a (x ∷ xs) weaker each = (weaker a x each.0, each_left P Q g i (suc a) xs weaker each.1)

-- the plan's path to the atom is this path, and then the atom's own
abbrev pub Reached : Outline → List Turn → ℕ → Atom → Type 0
Reached plan w y x = path plan y ≡ w ++ x.path

-- the path to the atoms of item i of flow g
abbrev below : List Turn → ℕ → ℕ → List Turn
below w g i = w ++ turn_to g (Some i) ∷ []

reached_below : (plan : Outline) (w : List Turn) (g i y : ℕ) (x : Atom) → Reached plan w y (enter g i x) → Reached plan (below w g i) y x
reached_below plan w g i y x is = is ∙ sym (append_chain w (turn_to g (Some i) ∷ []) x.path)

into_item : (plan : Outline) (w : List Turn) (g i a : ℕ) (xs rest : List Atom) → Each (Reached plan w) a (map (enter g i) xs ++ rest) → Each (Reached plan (below w g i)) a xs
into_item plan w g i a xs rest each =
    each_left (Reached plan (below w g i)) (Reached plan w) g i a xs (reached_below plan w g i) (each_first (Reached plan w) a (map (enter g i) xs) rest each)

length_entered : (g i n : ℕ) (first : Tree) → length (map (enter g i) (atoms_of n first)) ≡ atom_count first
length_entered g i n first = length_map (enter g i) (atoms_of n first) ∙ length_atoms n first
  where
    length_map : (f : Atom → Atom) (xs : List Atom) → length (map f xs) ≡ length xs
    length_map f [] = refl
    length_map f (x ∷ xs) = ap suc (length_map f xs)

past_item : (plan : Outline) (w : List Turn) (g i n a : ℕ) (first : Tree) (rest : List Atom) → Each (Reached plan w) a (map (enter g i) (atoms_of n first) ++ rest) → Each (Reached plan w) (a + atom_count first) rest
past_item plan w g i n a first rest each =
    moved (Reached plan w) (a + length (map (enter g i) (atoms_of n first))) (a + atom_count first) rest (ap (λ (k : ℕ). a + k) (length_entered g i n first))
    (each_second (Reached plan w) a (map (enter g i) (atoms_of n first)) rest each)

past_retry : (plan : Outline) (w : List Turn) (g a : ℕ) (control : Option Retry) (rest : List Atom) → Each (Reached plan w) a (retry_atoms g control ++ rest) → Each (Reached plan w) (a + retry_count control) rest
past_retry plan w g a control rest each =
    moved (Reached plan w) (a + length (retry_atoms g control)) (a + retry_count control) rest (ap (λ (k : ℕ). a + k) (length_retry g control))
    (each_second (Reached plan w) a (retry_atoms g control) rest each)

-- ---- the paths of what stands in a tree

-- the plan's path to b is this path, and then leads into flows from g on alone
pub record Within (plan : Outline) (w : List Turn) (g b : ℕ) : Type 0 where
  pub rest : List Turn
  pub is : path plan b ≡ w ++ rest
  pub from : (F : ℕ) → passes_flow F rest ≡ true → g ≤ F

-- the same through an item of flow g
pub record Through (plan : Outline) (w : List Turn) (g i n b : ℕ) : Type 0 where
  pub rest : List Turn
  pub is : path plan b ≡ w ++ turn_to g (Some i) ∷ rest
  pub from : (F : ℕ) → passes_flow F rest ≡ true → n ≤ F

through_first : (plan : Outline) (w : List Turn) (g i n b : ℕ) → Within plan (below w g i) n b → Through plan w g i n b
through_first plan w g i n b inside = record { rest = inside.rest; is = inside.is ∙ append_chain w (turn_to g (Some i) ∷ []) inside.rest; from = inside.from }

within_retry : (plan : Outline) (w : List Turn) (g a b : ℕ) (control : Option Retry) (rest : List Atom) → Each (Reached plan w) a (retry_atoms g control ++ rest) → has_number (option_to_list (retry_number a control)) b ≡ true → (path plan b ≡ w ++ turn_to g None ∷ [])
within_retry plan w g a b None rest each on = absurd (cc)
within_retry plan w g a b (Some r) rest each on = ap (path plan) (eqb-true b a (only_first (nat_eq b a) on)) ∙ each.0

from_turn : (g F : ℕ) (item : Option ℕ) (rest : List Turn) → ((G : ℕ) → passes_flow G rest ≡ true → g ≤ G) → passes_flow F (turn_to g item ∷ rest) ≡ true → g ≤ F
from_turn g F item rest from on = elim (or_either (nat_eq g F) (passes_flow F rest) on) [
  | inl here ↦ let same : g ≡ F = eqb-true g F here in omega (arith, same)
  | inr there ↦ from F there
]

-- some number of the list has b in what it gives
pub record Among (f : ℕ → List ℕ) (b : ℕ) : Type 0 where
  pub number : ℕ
  pub has : has_number (f number) b ≡ true

among : (f : ℕ → List ℕ) (order : List ℕ) (b : ℕ) → list_any (λ u. has_number (f u) b) order ≡ true → Among f b
among f [] b on = absurd (cc)
among f (u ∷ us) b on = elim (or_either (has_number (f u) b) _ on) [ inl here ↦ record { number = u; has = here } | inr there ↦ among f us b there ]

mutual
  pub tree_within : (t : Tree) (plan : Outline) (w : List Turn) (g a : ℕ) → Each (Reached plan w) a (atoms_of g t) → AllStand plan (flows_of g a t) → (b : ℕ) → has_number (stands_in_tree plan g a t) b ≡ true → Within plan w g b
  tree_within (task t) plan w g a each all b on = record { rest = []; is = ap (path plan) (eqb-true b a (only_first (nat_eq b a) on)) ∙ each.0; from = λ F no. absurd (cc) }
  tree_within (flow head items) plan w g a each all b on =
      elim (any_in_both (nat_eq b) (option_to_list (retry_number a head.retry)) (flat_map (stands plan (items_of (suc g) (a + retry_count head.retry) items)) all.0.order) (ap (λ (xs : List ℕ). has_number xs b) (sym all.0.standing) ∙ on)) [
        | inl retry ↦ record { rest = turn_to g None ∷ []; is = within_retry plan w g a b head.retry (atoms_among g 0 (suc g) items) each retry; from = λ F passes. from_turn g F None [] (λ G no. absurd (cc)) passes }
        | inr item ↦
            let one = among (stands plan (items_of (suc g) (a + retry_count head.retry) items)) all.0.order b (sym (any_flat (nat_eq b) (stands plan (items_of (suc g) (a + retry_count head.retry) items)) all.0.order) ∙ item) in
            let through = trees_within items plan w g 0 (suc g) (a + retry_count head.retry) (past_retry plan w g a head.retry (atoms_among g 0 (suc g) items) each) all.1 one.number b one.has in
            record { rest = turn_to g (Some (0 + one.number)) ∷ through.rest; is = through.is; from = λ F passes. from_turn g F (Some (0 + one.number)) through.rest (λ G there. let far = through.from G there in omega (arith, far)) passes }
      ]

  pub trees_within : (ts : Trees) (plan : Outline) (w : List Turn) (g i n a : ℕ) → Each (Reached plan w) a (atoms_among g i n ts) → AllStand plan (flows_among n a ts) → (u b : ℕ) → has_number (stands plan (items_of n a ts) u) b ≡ true → Through plan w g (i + u) n b
  trees_within no_trees plan w g i n a each all u b on = absurd (cc)
  trees_within (tree first others) plan w g i n a each all zero b on =
      let e : i ≡ i + 0 = omega arith in
      subst (λ (k : ℕ). Through plan w g k n b) e
      (through_first plan w g i n b (tree_within first plan (below w g i) n a (into_item plan w g i a (atoms_of n first) (atoms_among g (suc i) (n + flow_count first) others) each)
      (all_first plan (flows_of n a first) (flows_among (n + flow_count first) (a + atom_count first) others) all) b on))
  trees_within (tree first others) plan w g i n a each all (suc u) b on =
      let through = trees_within others plan w g (suc i) (n + flow_count first) (a + atom_count first) (past_item plan w g i n a first (atoms_among g (suc i) (n + flow_count first) others) each)
      (all_second plan (flows_of n a first) (flows_among (n + flow_count first) (a + atom_count first) others) all) u b on in
      let e : suc i + u ≡ i + suc u = omega arith in
      record { rest = through.rest; is = through.is ∙ ap (λ (k : ℕ). w ++ turn_to g (Some k) ∷ through.rest) e; from = λ F passes. let far = through.from F passes in omega (arith, far) }

-- ---- the front of each atom of a tree

-- the atom stands there, and the fronts of the flows on its way are all that stands before it
pub record Fronted (plan : Outline) (standing : List ℕ) (y : ℕ) (x : Atom) : Type 0 where
  pub here : has_number standing y ≡ true
  pub is : front plan x.path ≡ take_while (is_other y) standing

-- the same of the item of flow g through which the atom's path goes
pub record FrontedIn (plan : Outline) (g i : ℕ) (items : List Item) (y : ℕ) (x : Atom) : Type 0 where
  pub number : ℕ
  pub below : number < length items
  pub rest : List Turn
  pub path : x.path ≡ turn_to g (Some (i + number)) ∷ rest
  pub here : has_number (stands plan items number) y ≡ true
  pub is : front plan rest ≡ take_while (is_other y) (stands plan items number)

-- no flow on the path has this number or a later one
abbrev pub EndsBefore : ℕ → List Turn → Type 0
EndsBefore g w = (F : ℕ) → passes_flow F w ≡ true → F < g

not_yet : (g : ℕ) (w : List Turn) → EndsBefore g w → passes_flow g w ≡ false
not_yet g w ends = never_true (passes_flow g w) (λ on. let less = ends g on in omega (arith, less))

not_again : (g n : ℕ) (w : List Turn) → g < n → ((F : ℕ) → passes_flow F w ≡ true → n ≤ F) → passes_flow g w ≡ false
not_again g n w less from = never_true (passes_flow g w) (λ on. let far = from g on in omega (arith, less, far))

ends_below : (g i n F : ℕ) (w : List Turn) → EndsBefore g w → g < n → passes_flow F (below w g i) ≡ true → F < n
ends_below g i n F [] ends less on = let same : g ≡ F = eqb-true g F (only_first (nat_eq g F) on) in omega (arith, same, less)
ends_below g i n F (x ∷ xs) ends less on = elim (or_either (nat_eq x.flow F) (passes_flow F (below xs g i)) on) [
  | inl here ↦ let early = ends F (true_first (nat_eq x.flow F) (passes_flow F xs) here) in omega (arith, early, less)
  | inr there ↦ ends_below g i n F xs (λ G passes. ends G (true_second (nat_eq x.flow G) (passes_flow G xs) passes)) less there
]

one_front : (plan : Outline) (y : ℕ) → front plan [] ≡ take_while (is_other y) (y ∷ [])
one_front plan y = sym (take_while-cons (is_other y) y [] ∙ ap (λ (b : Bool). cond (not b) (y ∷ take_while (is_other y) []) []) (eq-eqb y y refl))

one_there : (y : ℕ) → has_number (y ∷ []) y ≡ true
one_there y = true_first (nat_eq y y) false (eq-eqb y y refl)

-- a retry controller stands first in its flow
retry_front : (plan : Outline) (w : List Turn) (g a : ℕ) (rest : List ℕ) → EndsBefore g w → path plan a ≡ w ++ turn_to g None ∷ [] → standing_in (find_flow plan.flows g) ≡ a ∷ rest
    → front plan (turn_to g None ∷ []) ≡ take_while (is_other a) (a ∷ rest)
retry_front plan w g a rest ends is standing =
    let inside : passes_item g None (path plan a) ≡ true = ap (passes_item g None) is ∙ (at_item g None None w [] (not_yet g w ends) refl ∙ true_both (nat_eq g g) true (eq-eqb g g refl) refl) in
    nothing_after (take_while (is_elsewhere plan (turn_to g None)) (standing_in (find_flow plan.flows g)))
    ∙ (ap (take_while (is_elsewhere plan (turn_to g None))) standing
    ∙ (take_while-cons (is_elsewhere plan (turn_to g None)) a rest
    ∙ (ap (λ (b : Bool). cond (not b) (a ∷ take_while (is_elsewhere plan (turn_to g None)) rest) []) inside
    ∙ sym (take_while-cons (is_other a) a rest ∙ ap (λ (b : Bool). cond (not b) (a ∷ take_while (is_other a) rest) []) (eq-eqb a a refl)))))

retry_each : (plan : Outline) (w : List Turn) (g a : ℕ) (control : Option Retry) (more : List Atom) (rest : List ℕ) → EndsBefore g w → Each (Reached plan w) a (retry_atoms g control ++ more)
    → standing_in (find_flow plan.flows g) ≡ option_to_list (retry_number a control) ++ rest → Each (Fronted plan (standing_in (find_flow plan.flows g))) a (retry_atoms g control)
retry_each plan w g a None more rest ends each standing = tt
retry_each plan w g a (Some r) more rest ends each standing = (
  record {
    here = ap (λ (xs : List ℕ). has_number xs a) standing ∙ true_first (nat_eq a a) (has_number rest a) (eq-eqb a a refl);
    is = retry_front plan w g a rest ends each.0 standing ∙ ap (take_while (is_other a)) (sym standing);
  },
  tt,
)

-- what an item's place says of the atoms that stand in it
passes_own : (plan : Outline) (w : List Turn) (g u v n b : ℕ) → EndsBefore g w → g < n → Through plan w g u n b → is_elsewhere plan (turn_to g (Some v)) b ≡ not (nat_eq u v)
passes_own plan w g u v n b ends less through =
    ap not (ap (passes_item g (Some v)) through.is
    ∙ (at_item g (Some u) (Some v) w through.rest (not_yet g w ends) (not_again g n through.rest less through.from)
    ∙ ap (λ (c : Bool). c && nat_eq u v) (eq-eqb g g refl)))

retry_outside : (plan : Outline) (w : List Turn) (g a v b : ℕ) (control : Option Retry) (more : List Atom) → EndsBefore g w → Each (Reached plan w) a (retry_atoms g control ++ more) → has_number (option_to_list (retry_number a control)) b ≡ true
    → is_elsewhere plan (turn_to g (Some v)) b ≡ true
retry_outside plan w g a v b control more ends each on =
    ap not (ap (passes_item g (Some v)) (within_retry plan w g a b control more each on)
    ∙ (at_item g None (Some v) w [] (not_yet g w ends) refl ∙ second_false (nat_eq g g) false refl))

flow_each : (plan : Outline) (w : List Turn) (g a : ℕ) (head : Head) (items : Trees) → EndsBefore g w → Each (Reached plan w) a (atoms_of g (flow head items)) → AllStand plan (flows_of g a (flow head items))
    → (y : ℕ) (x : Atom) → FrontedIn plan g 0 (items_of (suc g) (a + retry_count head.retry) items) y x → Fronted plan (standing_in (find_flow plan.flows g)) y x
flow_each plan w g a head items ends each all y x is =
    let placed = items_of (suc g) (a + retry_count head.retry) items in
    let order = all.0.order in
    let listed = all.0.all is.number is.below in
    let zero_on : 0 + is.number ≡ is.number = omega arith in
    record {
      here = ap (λ (xs : List ℕ). has_number xs y) all.0.standing ∙ flow_has y is.number (stands plan placed) order (option_to_list (retry_number a head.retry)) listed is.here;
      is = ap (front plan) is.path
          ∙ (ap (λ (k : ℕ). front plan (turn_to g (Some k) ∷ is.rest)) zero_on
          ∙ (ap2 (λ (xs ys : List ℕ). take_while (is_elsewhere plan (turn_to g (Some is.number))) xs ++ ys) all.0.standing is.is
          ∙ (flow_front y is.number (is_elsewhere plan (turn_to g (Some is.number))) (stands plan placed) order (option_to_list (retry_number a head.retry)) listed is.here
          (λ u b on.
          let through = trees_within items plan w g 0 (suc g) (a + retry_count head.retry) (past_retry plan w g a head.retry (atoms_among g 0 (suc g) items) each) all.1 u b on in
          let first : 0 + u ≡ u = omega arith in
          passes_own plan w g (0 + u) is.number (suc g) b ends (omega arith) through ∙ ap (λ (k : ℕ). not (nat_eq k is.number)) first)
          (λ b on. retry_outside plan w g a is.number b head.retry (atoms_among g 0 (suc g) items) ends each on)
          ∙ ap (take_while (is_other y)) (sym all.0.standing))));
    }

later_item : (plan : Outline) (g i : ℕ) (first : Item) (items : List Item) (y : ℕ) (x : Atom) → FrontedIn plan g (suc i) items y x → FrontedIn plan g i (first ∷ items) y x
later_item plan g i first items y x is =
    let e : suc i + is.number ≡ i + suc is.number = omega arith in
    record { number = suc is.number; below = let less = is.below in omega (arith, less); rest = is.rest; path = is.path ∙ ap (λ (k : ℕ). turn_to g (Some k) ∷ is.rest) e; here = is.here; is = is.is }

first_item : (plan : Outline) (g i n a : ℕ) (first : Tree) (items : List Item) (y : ℕ) (x : Atom) → Fronted plan (stands_in_tree plan n a first) y x → FrontedIn plan g i (item_of n a first ∷ items) y (enter g i x)
first_item plan g i n a first items y x is =
    let e : i ≡ i + 0 = omega arith in
    record { number = 0; below = omega arith; rest = x.path; path = ap (λ (k : ℕ). turn_to g (Some k) ∷ x.path) e; here = is.here; is = is.is }

mutual
  pub tree_fronted : (t : Tree) (plan : Outline) (w : List Turn) (g a : ℕ) → EndsBefore g w → Each (Reached plan w) a (atoms_of g t) → AllStand plan (flows_of g a t) → Each (Fronted plan (stands_in_tree plan g a t)) a (atoms_of g t)
  tree_fronted (task t) plan w g a ends each all = (record { here = one_there a; is = one_front plan a }, tt)
  tree_fronted (flow head items) plan w g a ends each all =
      each_both (Fronted plan (standing_in (find_flow plan.flows g))) a (retry_atoms g head.retry) (atoms_among g 0 (suc g) items)
      (retry_each plan w g a head.retry (atoms_among g 0 (suc g) items) (flat_map (stands plan (items_of (suc g) (a + retry_count head.retry) items)) all.0.order) ends each all.0.standing)
      (moved (Fronted plan (standing_in (find_flow plan.flows g))) (a + retry_count head.retry) (a + length (retry_atoms g head.retry)) (atoms_among g 0 (suc g) items) (ap (λ (k : ℕ). a + k) (sym (length_retry g head.retry)))
      (each_weaker (FrontedIn plan g 0 (items_of (suc g) (a + retry_count head.retry) items)) (Fronted plan (standing_in (find_flow plan.flows g))) (a + retry_count head.retry) (atoms_among g 0 (suc g) items)
      (flow_each plan w g a head items ends each all)
      (trees_fronted items plan w g 0 (suc g) (a + retry_count head.retry) ends (omega arith) (past_retry plan w g a head.retry (atoms_among g 0 (suc g) items) each) all.1)))

  pub trees_fronted : (ts : Trees) (plan : Outline) (w : List Turn) (g i n a : ℕ) → EndsBefore g w → g < n → Each (Reached plan w) a (atoms_among g i n ts) → AllStand plan (flows_among n a ts) → Each (FrontedIn plan g i (items_of n a ts)) a (atoms_among g i n ts)
  trees_fronted no_trees plan w g i n a ends less each all = tt
  trees_fronted (tree first others) plan w g i n a ends less each all =
      let placed = items_of (n + flow_count first) (a + atom_count first) others in
      each_both (FrontedIn plan g i (item_of n a first ∷ placed)) a (map (enter g i) (atoms_of n first)) (atoms_among g (suc i) (n + flow_count first) others)
      (each_entered (Fronted plan (stands_in_tree plan n a first)) (FrontedIn plan g i (item_of n a first ∷ placed)) g i a (atoms_of n first) (first_item plan g i n a first placed)
      (tree_fronted first plan (below w g i) n a (λ F on. ends_below g i n F w ends less on) (into_item plan w g i a (atoms_of n first) (atoms_among g (suc i) (n + flow_count first) others) each)
      (all_first plan (flows_of n a first) (flows_among (n + flow_count first) (a + atom_count first) others) all)))
      (moved (FrontedIn plan g i (item_of n a first ∷ placed)) (a + atom_count first) (a + length (map (enter g i) (atoms_of n first))) (atoms_among g (suc i) (n + flow_count first) others) (ap (λ (k : ℕ). a + k) (sym (length_entered g i n first)))
      (each_weaker (FrontedIn plan g (suc i) placed) (FrontedIn plan g i (item_of n a first ∷ placed)) (a + atom_count first) (atoms_among g (suc i) (n + flow_count first) others) (later_item plan g i (item_of n a first) placed)
      (trees_fronted others plan w g (suc i) (n + flow_count first) (a + atom_count first) ends (omega (arith, less)) (past_item plan w g i n a first (atoms_among g (suc i) (n + flow_count first) others) each)
      (all_second plan (flows_of n a first) (flows_among (n + flow_count first) (a + atom_count first) others) all))))
