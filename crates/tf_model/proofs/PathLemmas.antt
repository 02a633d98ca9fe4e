-- The paths of a plan's atoms: two that lead into one flow are the same up to it.
use Rattle.std.proofs.Common.{◌≡◌, ◌≢◌, ℕ, zero, suc, ◌+◌, ◌<◌, ◌≤◌, List, [], ◌∷◌, ◌++◌, map, Bool, true, false, ◌&&◌, Option, Some, None, refl, sym, ap, ◌∙◌, ◌⊎◌, inl, inr, eqb-true, eq-eqb, arith, slice_get}
use Rattle.std.specs.Prelude.{nat_eq}
use Rattle.std.specs.List.{AllByRecursion}
use Rattle.std.proofs.lemmas.Bool.{ne_eqb}
use Rattle.tf_flow.specs.declared.atoms.Bind.{Bind}
use Rattle.tf_flow.specs.declared.atoms.Retry.{Retry}
use Rattle.tf_flow.specs.Tree.{Tree, Trees, task, flow, no_trees, tree, Head, tree_of}
use Rattle.tf_flow.specs.Plan.{PlanValue}
use Rattle.tf_flow.specs.Outline.{Atom, atoms_of, atoms_among, enter, retry_atoms, flow_count, flows_among_count}
use Rattle.tf_flow.specs.declared.paths.Turn.{Turn}
use Rattle.tf_model.specs.Before.{Flow, path_before, turn_before, passes_flow}
use Rattle.tf_model.specs.Plan.{outline_of, outline_of_tree, holds, is_before, path}
use Rattle.tf_model.proofs.Told.{path_in}
use Rattle.tf_numbers.proofs.TruthLemmas.{or_either, true_first, neither_second}
use Rattle.tf_numbers.proofs.NumberLemmas.{same_or_other}

abbrev pub turn_to : ℕ → Option ℕ → Turn
turn_to g item = record { flow = g; item = item }

-- the path goes on by this turn, and then as the others say
pub record GoesBy (turn : Turn) (On : List Turn → Type 0) (w : List Turn) : Type 0 where
  pub rest : List Turn
  pub is : w ≡ turn ∷ rest
  pub on : On rest

-- the paths of the atoms of a tree in which flows are numbered from g on
abbrev mutual
  pub IsPath : ℕ → Tree → List Turn → Type 0
  IsPath g (task t) w = w ≡ []
  IsPath g (flow head items) w = (w ≡ turn_to g None ∷ []) ⊎ IsPathAmong g 0 (suc g) items w

  pub IsPathAmong : ℕ → ℕ → ℕ → Trees → List Turn → Type 0
  IsPathAmong g i n no_trees w = ⊥
  IsPathAmong g i n (tree first others) w = GoesBy (turn_to g (Some i)) (IsPath n first) w ⊎ IsPathAmong g (suc i) (n + flow_count first) others w

-- ---- each atom's path is one of them

pub all_both : (P : Atom → Type 0) (xs ys : List Atom) → AllByRecursion P xs → AllByRecursion P ys → AllByRecursion P (xs ++ ys)
all_both P [] ys first second = second
all_both P (x ∷ xs) ys first second = (first.0, all_both P xs ys first.1 second)

all_entered : (P Q : Atom → Type 0) (g i : ℕ) (xs : List Atom) → ((x : Atom) → P x → Q (enter g i x)) → AllByRecursion P xs → AllByRecursion Q (map (enter g i) xs)
all_entered P Q g i [] each all = tt
all_entered P Q g i (x ∷ xs) each all = (each x all.0, all_entered P Q g i xs each all.1)

all_weaker : (P Q : Atom → Type 0) (xs : List Atom) → ((x : Atom) → P x → Q x) → AllByRecursion P xs → AllByRecursion Q xs
all_weaker P Q [] each all = tt
all_weaker P Q (x ∷ xs) each all = (each x all.0, all_weaker P Q xs each all.1)

retry_paths : (g : ℕ) (control : Option Retry) (Q : List Turn → Type 0) → AllByRecursion (λ atom. (atom.path ≡ turn_to g None ∷ []) ⊎ Q atom.path) (retry_atoms g control)
retry_paths g None Q = tt
retry_paths g (Some r) Q = (inl refl, tt)

mutual
  pub paths_of : (t : Tree) (g : ℕ) → AllByRecursion (λ atom. IsPath g t atom.path) (atoms_of g t)
  paths_of (task t) g = (refl, tt)
  paths_of (flow head items) g =
      all_both (λ atom. (atom.path ≡ turn_to g None ∷ []) ⊎ IsPathAmong g 0 (suc g) items atom.path) (retry_atoms g head.retry) (atoms_among g 0 (suc g) items)
      (retry_paths g head.retry (IsPathAmong g 0 (suc g) items))
      (all_weaker (λ atom. IsPathAmong g 0 (suc g) items atom.path) (λ atom. (atom.path ≡ turn_to g None ∷ []) ⊎ IsPathAmong g 0 (suc g) items atom.path) (atoms_among g 0 (suc g) items) (λ x is. inr is) (paths_among items g 0 (suc g)))

  pub paths_among : (ts : Trees) (g i n : ℕ) → AllByRecursion (λ atom. IsPathAmong g i n ts atom.path) (atoms_among g i n ts)
  paths_among no_trees g i n = tt
  paths_among (tree first others) g i n =
      all_both (λ atom. IsPathAmong g i n (tree first others) atom.path) (map (enter g i) (atoms_of n first)) (atoms_among g (suc i) (n + flow_count first) others)
      (all_entered (λ atom. IsPath n first atom.path) (λ atom. IsPathAmong g i n (tree first others) atom.path) g i (atoms_of n first) (λ x is. inl (record { rest = x.path; is = refl; on = is })) (paths_of first n))
      (all_weaker (λ atom. IsPathAmong g (suc i) (n + flow_count first) others atom.path) (λ atom. IsPathAmong g i n (tree first others) atom.path) (atoms_among g (suc i) (n + flow_count first) others) (λ x is. inr is) (paths_among others g (suc i) (n + flow_count first)))

-- ---- the flows on a path have the numbers of its tree

pub passes_head : (F : ℕ) (turn : Turn) (w : List Turn) (rest : List Turn) → w ≡ turn ∷ rest → passes_flow F w ≡ true → (turn.flow ≡ F) ⊎ (passes_flow F rest ≡ true)
passes_head F turn w rest is on =
    elim (or_either (nat_eq turn.flow F) (passes_flow F rest) (ap (passes_flow F) (sym is) ∙ on)) [ inl here ↦ inl (eqb-true turn.flow F here) | inr there ↦ inr there ]

-- a number from n on and below n + count
abbrev IsFrom : ℕ → ℕ → ℕ → Type 0
IsFrom n count F = (n ≤ F) × (F < n + count)

mutual
  pub numbers_of : (t : Tree) (g F : ℕ) (w : List Turn) → IsPath g t w → passes_flow F w ≡ true → IsFrom g (flow_count t) F
  numbers_of (task t) g F w is on = let no : false ≡ true = ap (passes_flow F) (sym is) ∙ on in absurd (cc)
  numbers_of (flow head items) g F w is on = elim is [
    | inl retry ↦ elim (passes_head F (turn_to g None) w [] retry on) [ inl same ↦ (omega (arith, same), omega (arith, same)) | inr there ↦ absurd (cc) ]
    | inr among ↦ elim (numbers_among items g 0 (suc g) F w among on) [
      | inl same ↦ (omega (arith, same), omega (arith, same))
      | inr from ↦ (omega (arith, from.0), omega (arith, from.1))
    ]
  ]

  numbers_among : (ts : Trees) (g i n F : ℕ) (w : List Turn) → IsPathAmong g i n ts w → passes_flow F w ≡ true → (g ≡ F) ⊎ IsFrom n (flows_among_count ts) F
  numbers_among no_trees g i n F w is on = absurd is
  numbers_among (tree first others) g i n F w is on = elim is [
    | inl here ↦ elim (passes_head F (turn_to g (Some i)) w here.rest here.is on) [
      | inl same ↦ inl same
      | inr there ↦ let from = numbers_of first n F here.rest here.on there in inr (from.0, omega (arith, from.1))
    ]
    | inr later ↦ elim (numbers_among others g (suc i) (n + flow_count first) F w later on) [
      | inl same ↦ inl same
      | inr from ↦ inr (omega (arith, from.0), omega (arith, from.1))
    ]
  ]

-- ---- two paths into one flow are the same up to it

abbrev pub AreTogether : ℕ → List Turn → List Turn → Type 0
AreTogether F [] other = ⊥
AreTogether F (x ∷ xs) [] = ⊥
AreTogether F (x ∷ xs) (y ∷ ys) = ((x.flow ≡ F) × (y.flow ≡ F)) ⊎ ((x ≡ y) × AreTogether F xs ys)

by_one_turn : (F : ℕ) (turn : Turn) (a b xs ys : List Turn) → a ≡ turn ∷ xs → b ≡ turn ∷ ys → AreTogether F xs ys → AreTogether F a b
by_one_turn F turn a b xs ys a_is b_is on = rw (a_is, b_is) (inr (refl, on))

into_flow : (F : ℕ) (x y : Turn) (a b xs ys : List Turn) → a ≡ x ∷ xs → b ≡ y ∷ ys → x.flow ≡ F → y.flow ≡ F → AreTogether F a b
into_flow F x y a b xs ys a_is b_is first second = rw (a_is, b_is) (inl (first, second))

-- the first turn of a path among the items of flow g leads into g
pub record BeginsIn (g : ℕ) (w : List Turn) : Type 0 where
  pub turn : Turn
  pub rest : List Turn
  pub is : w ≡ turn ∷ rest
  pub flow : turn.flow ≡ g

pub begins_among : (ts : Trees) (g i n : ℕ) (w : List Turn) → IsPathAmong g i n ts w → BeginsIn g w
begins_among no_trees g i n w is = absurd is
begins_among (tree first others) g i n w is = elim is [
  | inl here ↦ record { turn = turn_to g (Some i); rest = here.rest; is = here.is; flow = refl }
  | inr later ↦ begins_among others g (suc i) (n + flow_count first) w later
]

pub begins : (head : Head) (items : Trees) (g : ℕ) (w : List Turn) → IsPath g (flow head items) w → BeginsIn g w
begins head items g w is = elim is [
  | inl retry ↦ record { turn = turn_to g None; rest = []; is = retry; flow = refl }
  | inr among ↦ begins_among items g 0 (suc g) w among
]

-- past its first turn, into another flow than F
pub goes_past : (F : ℕ) (turn : Turn) (w rest : List Turn) → w ≡ turn ∷ rest → (turn.flow ≢ F) → passes_flow F w ≡ true → passes_flow F rest ≡ true
goes_past F turn w rest is other on = elim (passes_head F turn w rest is on) [ inl same ↦ absurd (other same) | inr there ↦ there ]

-- a path in the first item and one in a later item lead into no flow both
pub apart : (first : Tree) (others : Trees) (g i n F : ℕ) (a b : List Turn) → IsPath n first a → IsPathAmong g (suc i) (n + flow_count first) others b → (g ≢ F) → passes_flow F a ≡ true → passes_flow F b ≡ true → ⊥
apart first others g i n F a b a_is b_is other on too =
    let one = numbers_of first n F a a_is on in
    elim (numbers_among others g (suc i) (n + flow_count first) F b b_is too) [ inl same ↦ other same | inr from ↦ omega (arith, one.1, from.0) ]

mutual
  pub together : (t : Tree) (g F : ℕ) (a b : List Turn) → IsPath g t a → IsPath g t b → passes_flow F a ≡ true → passes_flow F b ≡ true → AreTogether F a b
  together (task t) g F a b a_is b_is on too = let no : false ≡ true = ap (passes_flow F) (sym a_is) ∙ on in absurd (cc)
  together (flow head items) g F a b a_is b_is on too = elim (same_or_other g F) [
    | inl same ↦ let first = begins head items g a a_is in let second = begins head items g b b_is in
        into_flow F first.turn second.turn a b first.rest second.rest first.is second.is (first.flow ∙ same) (second.flow ∙ same)
    | inr other ↦ elim a_is [
      | inl retry ↦ let there : passes_flow F [] ≡ true = goes_past F (turn_to g None) a [] retry other on in absurd (cc)
      | inr a_among ↦ elim b_is [
        | inl retry ↦ let there : passes_flow F [] ≡ true = goes_past F (turn_to g None) b [] retry other too in absurd (cc)
        | inr b_among ↦ together_among items g 0 (suc g) F a b other a_among b_among on too
      ]
    ]
  ]

  together_among : (ts : Trees) (g i n F : ℕ) (a b : List Turn) → (g ≢ F) → IsPathAmong g i n ts a → IsPathAmong g i n ts b → passes_flow F a ≡ true → passes_flow F b ≡ true → AreTogether F a b
  together_among no_trees g i n F a b other a_is b_is on too = absurd a_is
  together_among (tree first others) g i n F a b other a_is b_is on too = elim a_is [
    | inl a_here ↦ elim b_is [
      | inl b_here ↦ by_one_turn F (turn_to g (Some i)) a b a_here.rest b_here.rest a_here.is b_here.is
          (together first n F a_here.rest b_here.rest a_here.on b_here.on (goes_past F (turn_to g (Some i)) a a_here.rest a_here.is other on) (goes_past F (turn_to g (Some i)) b b_here.rest b_here.is other too))
      | inr b_later ↦ absurd (apart first others g i n F a_here.rest b a_here.on b_later other (goes_past F (turn_to g (Some i)) a a_here.rest a_here.is other on) too)
    ]
    | inr a_later ↦ elim b_is [
      | inl b_here ↦ absurd (apart first others g i n F b_here.rest a b_here.on a_later other (goes_past F (turn_to g (Some i)) b b_here.rest b_here.is other too) on)
      | inr b_later ↦ together_among others g (suc i) (n + flow_count first) F a b other a_later b_later on too
    ]
  ]

-- ---- to an atom outside a flow all atoms of the flow are alike

alike_turn : (flows : List Flow) (x z : Turn) (one other : Bool) → one ≡ other → (nat_eq z.flow x.flow && turn_before flows z.flow z.item x.item one) ≡ (nat_eq z.flow x.flow && turn_before flows z.flow z.item x.item other)
alike_turn flows x z one other is = ap (λ (b : Bool). nat_eq z.flow x.flow && turn_before flows z.flow z.item x.item b) is

alike_turn_from : (flows : List Flow) (x z : Turn) (one other : Bool) → one ≡ other → (nat_eq x.flow z.flow && turn_before flows x.flow x.item z.item one) ≡ (nat_eq x.flow z.flow && turn_before flows x.flow x.item z.item other)
alike_turn_from flows x z one other is = ap (λ (b : Bool). nat_eq x.flow z.flow && turn_before flows x.flow x.item z.item b) is

-- the paths lead into flows of other numbers
differ_first : (x z : ℕ) (b : Bool) → nat_eq z x ≡ false → nat_eq z x && b ≡ false
differ_first x z b is = ap (λ (c : Bool). c && b) is

-- a turn that isn't into F leads elsewhere than one that is
elsewhere : (F : ℕ) (z : Turn) (zs : List Turn) (g : ℕ) → g ≡ F → passes_flow F (z ∷ zs) ≡ false → (nat_eq z.flow g ≡ false) × (nat_eq g z.flow ≡ false)
elsewhere F z zs g is off =
    let differs : z.flow ≢ g = λ same. let on : nat_eq z.flow F ≡ true = eq-eqb z.flow F (same ∙ is) in let no : true ≡ false = sym (true_first (nat_eq z.flow F) (passes_flow F zs) on) ∙ off in absurd (cc) in
    (ne_eqb z.flow g differs, ne_eqb g z.flow (λ same. differs (sym same)))

off_rest : (F : ℕ) (z : Turn) (zs : List Turn) → passes_flow F (z ∷ zs) ≡ false → passes_flow F zs ≡ false
off_rest F z zs off = neither_second (nat_eq z.flow F) (passes_flow F zs) off

pub alike_paths : (flows : List Flow) (F : ℕ) (a b x : List Turn) → AreTogether F a b → passes_flow F x ≡ false
    → (path_before flows x a ≡ path_before flows x b) × (path_before flows a x ≡ path_before flows b x)
alike_paths flows F [] b x same off = absurd same
alike_paths flows F (p ∷ ps) [] x same off = absurd same
alike_paths flows F (p ∷ ps) (q ∷ qs) [] same off = (refl, refl)
alike_paths flows F (p ∷ ps) (q ∷ qs) (z ∷ zs) same off = elim same [
  | inl both ↦ let one = elsewhere F z zs p.flow both.0 off in let two = elsewhere F z zs q.flow both.1 off in
      (differ_first p.flow z.flow _ one.0 ∙ sym (differ_first q.flow z.flow _ two.0), differ_first z.flow p.flow _ one.1 ∙ sym (differ_first z.flow q.flow _ two.1))
  | inr turn ↦ let below = alike_paths flows F ps qs zs turn.1 (off_rest F z zs off) in (
    alike_turn flows p z (path_before flows zs ps) (path_before flows zs qs) below.0 ∙ ap (λ (t : Turn). nat_eq z.flow t.flow && turn_before flows z.flow z.item t.item (path_before flows zs qs)) turn.0,
    alike_turn_from flows p z (path_before flows ps zs) (path_before flows qs zs) below.1 ∙ ap (λ (t : Turn). nat_eq t.flow z.flow && turn_before flows t.flow t.item z.item (path_before flows qs zs)) turn.0,
  )
]

pub path_of_each : (P : List Turn → Type 0) (xs : List Atom) (k : ℕ) (F : ℕ) → AllByRecursion (λ atom. P atom.path) xs → passes_flow F (path_in (slice_get xs k)) ≡ true → P (path_in (slice_get xs k))
path_of_each P [] k F all on = absurd (cc)
path_of_each P (x ∷ xs) zero F all on = all.0
path_of_each P (x ∷ xs) (suc k) F all on = path_of_each P xs k F all.1 on

-- to an atom outside a flow all atoms that the flow holds are alike
pub alike_outside : (root : Tree) (store : List Bind) (defer : Bool) (F a b x : ℕ) → holds (outline_of_tree root store defer) F a ≡ true → holds (outline_of_tree root store defer) F b ≡ true
    → holds (outline_of_tree root store defer) F x ≡ false
    → (is_before (outline_of_tree root store defer) x a ≡ is_before (outline_of_tree root store defer) x b)
    × (is_before (outline_of_tree root store defer) a x ≡ is_before (outline_of_tree root store defer) b x)
unfolding holds is_before
alike_outside root store defer F a b x on too off =
    alike_paths (outline_of_tree root store defer).flows F (path (outline_of_tree root store defer) a) (path (outline_of_tree root store defer) b) (path (outline_of_tree root store defer) x)
    (together root 0 F (path (outline_of_tree root store defer) a) (path (outline_of_tree root store defer) b)
    (path_of_each (IsPath 0 root) (atoms_of 0 root) a F (paths_of root 0) on) (path_of_each (IsPath 0 root) (atoms_of 0 root) b F (paths_of root 0) too) on too) off

pub alike_in : (plan : PlanValue) (F a b x : ℕ) → holds (outline_of plan) F a ≡ true → holds (outline_of plan) F b ≡ true → holds (outline_of plan) F x ≡ false
    → (is_before (outline_of plan) x a ≡ is_before (outline_of plan) x b) × (is_before (outline_of plan) a x ≡ is_before (outline_of plan) b x)
alike_in plan F a b x = alike_outside (tree_of plan.root) plan.store plan.defer F a b x
