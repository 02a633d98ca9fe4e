-- What a tree costs is at least what its atoms cost together.
use Rattle.std.proofs.Common.{◌≡◌, ℕ, zero, suc, ◌+◌, ◌-◌, ◌*◌, ◌≤◌, List, [], ◌∷◌, ◌++◌, map, Bool, true, false, Option, Some, None, refl, ap, arith, slice_get}
use Rattle.std.specs.List.{AllByRecursion}
use Rattle.tf_flow.specs.declared.atoms.Retry.{Retry}
use Rattle.tf_flow.specs.Tree.{Tree, Trees, task, flow, no_trees, tree}
use Rattle.tf_flow.specs.declared.paths.Turn.{Turn}
use Rattle.tf_flow.specs.Outline.{Part, Atom, atoms_of, atoms_among, enter, retry_atoms, flow_count}
use Rattle.tf_model.specs.Retries.{kind_of_part}
use Rattle.tf_model.proofs.Told.{kind_in}
use Rattle.tf_model.specs.Plan.{tries, tries_by, cost, costs}
use Rattle.tf_model.proofs.PathLemmas.{turn_to}
use Rattle.tf_bound.specs.Costs.{tries_of, retry_costs, attempt_costs, attempt_costs_among, where_passes}

-- ---- atoms with what an attempt of theirs costs

-- the most entries of the life of an atom of this kind, where an attempt costs so much
abbrev pub life : Part → ℕ → ℕ
life part attempt = (tries_of (kind_of_part part) - 1) * attempt + 6

-- as many costs as atoms
abbrev pub Match : List Atom → List ℕ → Type 0
Match [] [] = Unit {0}
Match [] (c ∷ cs) = ⊥
Match (x ∷ xs) [] = ⊥
Match (x ∷ xs) (c ∷ cs) = Match xs cs

-- the sum of the lives of the atoms whose paths pass the test
abbrev pub sum_of : (List Turn → Bool) → List Atom → List ℕ → ℕ
sum_of test [] costs = 0
sum_of test (x ∷ xs) [] = 0
sum_of test (x ∷ xs) (c ∷ cs) = where_passes (test x.path) (life x.part c) + sum_of test xs cs

-- a property of each atom with its cost
abbrev pub AllPairs : (Atom → ℕ → Type 0) → List Atom → List ℕ → Type 0
AllPairs P [] costs = Unit {0}
AllPairs P (x ∷ xs) [] = ⊥
AllPairs P (x ∷ xs) (c ∷ cs) = P x c × AllPairs P xs cs

match_both : (xs ys : List Atom) (cs ds : List ℕ) → Match xs cs → Match ys ds → Match (xs ++ ys) (cs ++ ds)
match_both [] ys [] ds first second = second
match_both [] ys (c ∷ cs) ds first second = absurd first
match_both (x ∷ xs) ys [] ds first second = absurd first
match_both (x ∷ xs) ys (c ∷ cs) ds first second = match_both xs ys cs ds first second

pub match_entered : (g i : ℕ) (xs : List Atom) (cs : List ℕ) → Match xs cs → Match (map (enter g i) xs) cs
match_entered g i [] cs is = is
match_entered g i (x ∷ xs) [] is = is
match_entered g i (x ∷ xs) (c ∷ cs) is = match_entered g i xs cs is

pub match_retry : (g : ℕ) (control : Option Retry) (attempt : ℕ) → Match (retry_atoms g control) (retry_costs control attempt)
match_retry g None attempt = tt
match_retry g (Some r) attempt = tt

mutual
  pub match_of : (t : Tree) (g : ℕ) → Match (atoms_of g t) (attempt_costs t)
  match_of (task t) g = tt
  match_of (flow head items) g =
      match_both (retry_atoms g head.retry) (atoms_among g 0 (suc g) items) (retry_costs head.retry (6 + costs items)) (attempt_costs_among items)
      (match_retry g head.retry (6 + costs items)) (match_among items g 0 (suc g))

  pub match_among : (ts : Trees) (g i n : ℕ) → Match (atoms_among g i n ts) (attempt_costs_among ts)
  match_among no_trees g i n = tt
  match_among (tree first others) g i n =
      match_both (map (enter g i) (atoms_of n first)) (atoms_among g (suc i) (n + flow_count first) others) (attempt_costs first) (attempt_costs_among others)
      (match_entered g i (atoms_of n first) (attempt_costs first) (match_of first n)) (match_among others g (suc i) (n + flow_count first))

-- ---- sums over parts of a tree

pub sum_both : (test : List Turn → Bool) (xs ys : List Atom) (cs ds : List ℕ) → Match xs cs → sum_of test (xs ++ ys) (cs ++ ds) ≡ sum_of test xs cs + sum_of test ys ds
sum_both test [] ys [] ds is = omega arith
sum_both test [] ys (c ∷ cs) ds is = absurd is
sum_both test (x ∷ xs) ys [] ds is = absurd is
sum_both test (x ∷ xs) ys (c ∷ cs) ds is =
    let rest : sum_of test (xs ++ ys) (cs ++ ds) ≡ sum_of test xs cs + sum_of test ys ds = sum_both test xs ys cs ds is in omega (arith, rest)

pub sum_entered : (test : List Turn → Bool) (g i : ℕ) (xs : List Atom) (cs : List ℕ) → sum_of test (map (enter g i) xs) cs ≡ sum_of (λ w. test (turn_to g (Some i) ∷ w)) xs cs
sum_entered test g i [] cs = refl
sum_entered test g i (x ∷ xs) [] = refl
sum_entered test g i (x ∷ xs) (c ∷ cs) = ap (λ (rest : ℕ). where_passes (test (turn_to g (Some i) ∷ x.path)) (life x.part c) + rest) (sum_entered test g i xs cs)

where_none : (b : Bool) (x : ℕ) → b ≡ false → where_passes b x ≡ 0
where_none true x is = absurd (cc)
where_none false x is = refl

pub sum_none : (test : List Turn → Bool) (xs : List Atom) (cs : List ℕ) → AllByRecursion (λ x. test x.path ≡ false) xs → sum_of test xs cs ≡ 0
sum_none test [] cs none = refl
sum_none test (x ∷ xs) [] none = refl
sum_none test (x ∷ xs) (c ∷ cs) none =
    let here : where_passes (test x.path) (life x.part c) ≡ 0 = where_none (test x.path) (life x.part c) none.0 in
    let rest : sum_of test xs cs ≡ 0 = sum_none test xs cs none.1 in omega (arith, here, rest)

-- ---- each atom has an attempt

-- the atom may try its flow at least once
abbrev pub IsTried : Atom → Type 0
IsTried x = 1 ≤ tries_of (kind_of_part x.part)

pub all_first : (P : Atom → Type 0) (xs ys : List Atom) → AllByRecursion P (xs ++ ys) → AllByRecursion P xs
all_first P [] ys all = tt
all_first P (x ∷ xs) ys all = (all.0, all_first P xs ys all.1)

pub all_second : (P : Atom → Type 0) (xs ys : List Atom) → AllByRecursion P (xs ++ ys) → AllByRecursion P ys
all_second P [] ys all = all
all_second P (x ∷ xs) ys all = all_second P xs ys all.1

pub tried_entered : (g i : ℕ) (xs : List Atom) → AllByRecursion IsTried (map (enter g i) xs) → AllByRecursion IsTried xs
tried_entered g i [] all = tt
tried_entered g i (x ∷ xs) all = (all.0, tried_entered g i xs all.1)

pub all_tried : (xs : List Atom) → ((k : ℕ) → 1 ≤ tries_of (kind_in (slice_get xs k))) → AllByRecursion IsTried xs
all_tried [] each = tt
all_tried (x ∷ xs) each = (each 0, all_tried xs (λ k. each (suc k)))

-- ---- the atoms of a tree cost no more than the tree

where_at_most : (b : Bool) (x y : ℕ) → x ≤ y → where_passes b x ≤ y
where_at_most true x y is = is
where_at_most false x y is = omega arith

-- all attempts are those but the first, and the first
pub all_attempts : (tries attempt : ℕ) → 1 ≤ tries → tries * attempt ≡ (tries - 1) * attempt + attempt
all_attempts zero attempt some = absurd (omega (arith, some))
all_attempts (suc k) attempt some = let less : suc k - 1 ≡ k = omega arith in rw less (omega arith)

-- a flow's retry controller and its items
flow_at_most : (g : ℕ) (control : Option Retry) (test : List Turn → Bool) (among below : ℕ) → AllByRecursion IsTried (retry_atoms g control) → among ≤ below
    → sum_of test (retry_atoms g control) (retry_costs control (6 + below)) + among ≤ tries control * (6 + below)
flow_at_most g None test among below tried is = omega (arith, is)
flow_at_most g (Some r) test among below tried is =
    let all : tries_by r.kind * (6 + below) ≡ (tries_by r.kind - 1) * (6 + below) + (6 + below) = all_attempts (tries_by r.kind) (6 + below) tried.0 in
    let here : where_passes (test (turn_to g None ∷ [])) ((tries_by r.kind - 1) * (6 + below) + 6) ≤ (tries_by r.kind - 1) * (6 + below) + 6
    = where_at_most (test (turn_to g None ∷ [])) ((tries_by r.kind - 1) * (6 + below) + 6) ((tries_by r.kind - 1) * (6 + below) + 6) (omega arith) in
    omega (arith, all, here, is)

mutual
  pub sum_of_tree : (t : Tree) (g : ℕ) (test : List Turn → Bool) → AllByRecursion IsTried (atoms_of g t) → sum_of test (atoms_of g t) (attempt_costs t) ≤ cost t
  sum_of_tree (task t) g test tried = let here : where_passes (test []) 6 ≤ 6 = where_at_most (test []) 6 6 (omega arith) in omega (arith, here)
  sum_of_tree (flow head items) g test tried =
      let parts : sum_of test (retry_atoms g head.retry ++ atoms_among g 0 (suc g) items) (retry_costs head.retry (6 + costs items) ++ attempt_costs_among items)
      ≡ sum_of test (retry_atoms g head.retry) (retry_costs head.retry (6 + costs items)) + sum_of test (atoms_among g 0 (suc g) items) (attempt_costs_among items)
      = sum_both test (retry_atoms g head.retry) (atoms_among g 0 (suc g) items) (retry_costs head.retry (6 + costs items)) (attempt_costs_among items) (match_retry g head.retry (6 + costs items)) in
      let among : sum_of test (atoms_among g 0 (suc g) items) (attempt_costs_among items) ≤ costs items
      = sum_of_trees items g 0 (suc g) test (all_second IsTried (retry_atoms g head.retry) (atoms_among g 0 (suc g) items) tried) in
      let whole = flow_at_most g head.retry test (sum_of test (atoms_among g 0 (suc g) items) (attempt_costs_among items)) (costs items) (all_first IsTried (retry_atoms g head.retry) (atoms_among g 0 (suc g) items) tried) among in
      omega (arith, parts, whole)

  pub sum_of_trees : (ts : Trees) (g i n : ℕ) (test : List Turn → Bool) → AllByRecursion IsTried (atoms_among g i n ts) → sum_of test (atoms_among g i n ts) (attempt_costs_among ts) ≤ costs ts
  sum_of_trees no_trees g i n test tried = omega arith
  sum_of_trees (tree first others) g i n test tried =
      let here_all = all_first IsTried (map (enter g i) (atoms_of n first)) (atoms_among g (suc i) (n + flow_count first) others) tried in
      let there_all = all_second IsTried (map (enter g i) (atoms_of n first)) (atoms_among g (suc i) (n + flow_count first) others) tried in
      let parts : sum_of test (map (enter g i) (atoms_of n first) ++ atoms_among g (suc i) (n + flow_count first) others) (attempt_costs first ++ attempt_costs_among others)
      ≡ sum_of test (map (enter g i) (atoms_of n first)) (attempt_costs first) + sum_of test (atoms_among g (suc i) (n + flow_count first) others) (attempt_costs_among others)
      = sum_both test (map (enter g i) (atoms_of n first)) (atoms_among g (suc i) (n + flow_count first) others) (attempt_costs first) (attempt_costs_among others)
      (match_entered g i (atoms_of n first) (attempt_costs first) (match_of first n)) in
      let same : sum_of test (map (enter g i) (atoms_of n first)) (attempt_costs first) ≡ sum_of (λ w. test (turn_to g (Some i) ∷ w)) (atoms_of n first) (attempt_costs first)
      = sum_entered test g i (atoms_of n first) (attempt_costs first) in
      let here : sum_of (λ w. test (turn_to g (Some i) ∷ w)) (atoms_of n first) (attempt_costs first) ≤ cost first
      = sum_of_tree first n (λ w. test (turn_to g (Some i) ∷ w)) (tried_entered g i (atoms_of n first) here_all) in
      let there : sum_of test (atoms_among g (suc i) (n + flow_count first) others) (attempt_costs_among others) ≤ costs others
      = sum_of_trees others g (suc i) (n + flow_count first) test there_all in
      omega (arith, parts, same, here, there)
