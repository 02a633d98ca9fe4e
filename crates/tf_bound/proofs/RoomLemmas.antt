-- In an attempt of a flow there is room for the lives of all atoms but its retry controller.
use Rattle.std.proofs.Common.{◌≡◌, ◌≢◌, ℕ, zero, suc, ◌+◌, ◌-◌, ◌*◌, ◌<◌, ◌≤◌, List, [], ◌∷◌, ◌++◌, length, map, Bool, true, false, not, ◌&&◌, ◌||◌, Option, Some, None, refl, sym, ap, ◌∙◌, subst, eq-eqb, arith, slice_get}
use Rattle.std.specs.Prelude.{nat_eq, slice_index}
use Rattle.std.specs.List.{AllByRecursion}
use Rattle.std.proofs.lemmas.Bool.{ne_eqb}
use Rattle.tf_flow.specs.declared.atoms.Retry.{Retry}
use Rattle.tf_flow.specs.Plan.{PlanValue}
use Rattle.tf_flow.specs.Tree.{Tree, Trees, task, flow, no_trees, tree, tree_of}
use Rattle.tf_flow.specs.declared.paths.Turn.{Turn}
use Rattle.tf_flow.specs.Outline.{Atom, atoms_of, atoms_among, enter, retry_atoms, flow_count, is_retry_part}
use Rattle.tf_model.specs.Before.{passes_flow}
use Rattle.tf_model.specs.Plan.{Outline, outline_of, count, holds, is_retry, last_flow, own_flow, tries, tries_by, cost, costs}
use Rattle.tf_model.proofs.Told.{path_in, is_retry_in, kind_in}
use Rattle.tf_model.specs.Forced.{holds_with, is_of_its_flow}
use Rattle.tf_model.proofs.PathLemmas.{turn_to, IsPath, IsPathAmong, paths_of, paths_among, all_both, apart}
use Rattle.tf_model.proofs.RetryLemmas.{passes_last, ends_below}
use Rattle.tf_facts.proofs.LayoutLemmas.{own_holds}
use Rattle.tf_bound.specs.Costs.{tries_of, tries_at, retry_costs, attempt_costs, attempt_costs_among, each, most_with, most, sum_below, where_passes, lives_beside, HasAttempts}
use Rattle.tf_bound.proofs.SumLemmas.{sum_from_first, sum_falls}
use Rattle.tf_bound.proofs.CostLemmas.{life, Match, sum_of, AllPairs, IsTried, sum_both, sum_entered, sum_none, match_of, match_entered, match_retry, all_first, all_second, tried_entered, all_tried, all_attempts, sum_of_tree}

-- ---- the path of a retry controller isn't bare

abbrev is_bare : List Turn → Bool
is_bare [] = true
is_bare (turn ∷ turns) = false

abbrev NotBare : Atom → Type 0
NotBare x = is_retry_part x.part ≡ true → is_bare x.path ≡ false

entered_not_bare : (g i : ℕ) (xs : List Atom) → AllByRecursion NotBare (map (enter g i) xs)
entered_not_bare g i [] = tt
entered_not_bare g i (x ∷ xs) = ((λ is. refl), entered_not_bare g i xs)

retry_not_bare : (g : ℕ) (control : Option Retry) → AllByRecursion NotBare (retry_atoms g control)
retry_not_bare g None = tt
retry_not_bare g (Some r) = ((λ is. refl), tt)

not_bare_among : (ts : Trees) (g i n : ℕ) → AllByRecursion NotBare (atoms_among g i n ts)
not_bare_among no_trees g i n = tt
not_bare_among (tree first others) g i n =
    all_both NotBare (map (enter g i) (atoms_of n first)) (atoms_among g (suc i) (n + flow_count first) others) (entered_not_bare g i (atoms_of n first)) (not_bare_among others g (suc i) (n + flow_count first))

not_bare_of : (t : Tree) (g : ℕ) → AllByRecursion NotBare (atoms_of g t)
not_bare_of (task t) g = ((λ is. absurd (cc)), tt)
not_bare_of (flow head items) g =
    all_both NotBare (retry_atoms g head.retry) (atoms_among g 0 (suc g) items) (retry_not_bare g head.retry) (not_bare_among items g 0 (suc g))

last_behind : (turn : Turn) (w : List Turn) → is_bare w ≡ false → last_flow (turn ∷ w) ≡ last_flow w
last_behind turn [] is = absurd (cc)
last_behind turn (x ∷ xs) is = refl

-- ---- properties of atoms with their costs

pairs_both : (P : Atom → ℕ → Type 0) (xs ys : List Atom) (cs ds : List ℕ) → Match xs cs → AllPairs P xs cs → AllPairs P ys ds → AllPairs P (xs ++ ys) (cs ++ ds)
pairs_both P [] ys [] ds is first second = second
pairs_both P [] ys (c ∷ cs) ds is first second = absurd is
pairs_both P (x ∷ xs) ys [] ds is first second = absurd is
pairs_both P (x ∷ xs) ys (c ∷ cs) ds is first second = (first.0, pairs_both P xs ys cs ds is first.1 second)

-- each atom also has a property of its own
pairs_with : (Q : Atom → Type 0) (P R : Atom → ℕ → Type 0) (xs : List Atom) (cs : List ℕ) → AllByRecursion Q xs → AllPairs P xs cs → ((x : Atom) (c : ℕ) → Q x → P x c → R x c) → AllPairs R xs cs
pairs_with Q P R [] cs own all gives = tt
pairs_with Q P R (x ∷ xs) [] own all gives = all
pairs_with Q P R (x ∷ xs) (c ∷ cs) own all gives = (gives x c own.0 all.0, pairs_with Q P R xs cs own.1 all.1 gives)

pairs_entered : (P R : Atom → ℕ → Type 0) (g i : ℕ) (xs : List Atom) (cs : List ℕ) → AllPairs P xs cs → ((x : Atom) (c : ℕ) → P x c → R (enter g i x) c) → AllPairs R (map (enter g i) xs) cs
pairs_entered P R g i [] cs all gives = tt
pairs_entered P R g i (x ∷ xs) [] all gives = all
pairs_entered P R g i (x ∷ xs) (c ∷ cs) all gives = (gives x c all.0, pairs_entered P R g i xs cs all.1 gives)

all_mapped : (P Q : Atom → Type 0) (xs : List Atom) → AllByRecursion P xs → ((x : Atom) → P x → Q x) → AllByRecursion Q xs
all_mapped P Q [] all gives = tt
all_mapped P Q (x ∷ xs) all gives = (gives x all.0, all_mapped P Q xs all.1 gives)

all_entered : (P Q : Atom → Type 0) (g i : ℕ) (xs : List Atom) → AllByRecursion P xs → ((x : Atom) → P x → Q (enter g i x)) → AllByRecursion Q (map (enter g i) xs)
all_entered P Q g i [] all gives = tt
all_entered P Q g i (x ∷ xs) all gives = (gives x all.0, all_entered P Q g i xs all.1 gives)

sum_same : (p q : List Turn → Bool) (xs : List Atom) (cs : List ℕ) → ((w : List Turn) → p w ≡ q w) → sum_of p xs cs ≡ sum_of q xs cs
sum_same p q [] cs same = refl
sum_same p q (x ∷ xs) [] same = refl
sum_same p q (x ∷ xs) (c ∷ cs) same =
    let here : where_passes (p x.path) (life x.part c) ≡ where_passes (q x.path) (life x.part c) = ap (λ (b : Bool). where_passes b (life x.part c)) (same x.path) in
    let rest : sum_of p xs cs ≡ sum_of q xs cs = sum_same p q xs cs same in
    omega (arith, here, rest)

-- ---- room in an attempt

-- where the atom is the retry controller of flow F, a sum leaves room beside 6 in its life and one attempt
abbrev Room : ℕ → ℕ → Atom → ℕ → Type 0
Room F total x c = is_retry_part x.part ≡ true → last_flow x.path ≡ Some F → total + 6 ≤ life x.part c + c

-- the same, and F isn't flow g
abbrev RoomBelow : ℕ → ℕ → ℕ → Atom → ℕ → Type 0
RoomBelow g F total x c = is_retry_part x.part ≡ true → last_flow x.path ≡ Some F → (g ≢ F) × (total + 6 ≤ life x.part c + c)

-- the sum of the lives of the atoms among items that F holds
abbrev through_among : ℕ → ℕ → ℕ → ℕ → Trees → ℕ
through_among F g i n ts = sum_of (passes_flow F) (atoms_among g i n ts) (attempt_costs_among ts)

not_through : (b : Bool) → (b ≡ true → ⊥) → b ≡ false
not_through true never = absurd (never refl)
not_through false never = refl

other_turn : (g F : ℕ) (item : Option ℕ) (w : List Turn) → g ≢ F → passes_flow F (turn_to g item ∷ w) ≡ passes_flow F w
other_turn g F item w other = ap (λ (b : Bool). b || passes_flow F w) (ne_eqb g F other)

-- what is known of an atom of an item
record Known (F total : ℕ) (t : Tree) (n : ℕ) (x : Atom) (c : ℕ) : Type 0 where
  room : Room F total x c
  path : IsPath n t x.path
  bare : NotBare x

known_of : (t : Tree) (n F total : ℕ) → AllPairs (Room F total) (atoms_of n t) (attempt_costs t) → AllPairs (Known F total t n) (atoms_of n t) (attempt_costs t)
known_of t n F total all =
    pairs_with (λ x. IsPath n t x.path) (λ x c. NotBare x × Room F total x c) (Known F total t n) (atoms_of n t) (attempt_costs t) (paths_of t n)
    (pairs_with NotBare (Room F total) (λ x c. NotBare x × Room F total x c) (atoms_of n t) (attempt_costs t) (not_bare_of t n) all (λ x c bare room. (bare, room)))
    (λ x c path both. record { room = both.1; path = path; bare = both.0 })

-- in the first item: the later ones aren't in its flows
first_room : (first : Tree) (others : Trees) (g i n F : ℕ) (x : Atom) (c : ℕ) → g < n → Known F (sum_of (passes_flow F) (atoms_of n first) (attempt_costs first)) first n x c
    → RoomBelow g F (through_among F g i n (tree first others)) (enter g i x) c
first_room first others g i n F x c below known is last =
    let own : last_flow x.path ≡ Some F = sym (last_behind (turn_to g (Some i)) x.path (known.bare is)) ∙ last in
    let other : g ≢ F = ends_below first g n F x.path below known.path own in
    let none : sum_of (passes_flow F) (atoms_among g (suc i) (n + flow_count first) others) (attempt_costs_among others) ≡ 0
    = sum_none (passes_flow F) (atoms_among g (suc i) (n + flow_count first) others) (attempt_costs_among others)
    (all_mapped (λ y. IsPathAmong g (suc i) (n + flow_count first) others y.path) (λ y. passes_flow F y.path ≡ false) (atoms_among g (suc i) (n + flow_count first) others) (paths_among others g (suc i) (n + flow_count first))
    (λ y path. not_through (passes_flow F y.path) (λ on. apart first others g i n F x.path y.path known.path path other (passes_last F x.path own) on))) in
    let parts : through_among F g i n (tree first others) ≡ sum_of (passes_flow F) (map (enter g i) (atoms_of n first)) (attempt_costs first) + sum_of (passes_flow F) (atoms_among g (suc i) (n + flow_count first) others) (attempt_costs_among others)
    = sum_both (passes_flow F) (map (enter g i) (atoms_of n first)) (atoms_among g (suc i) (n + flow_count first) others) (attempt_costs first) (attempt_costs_among others)
    (match_entered g i (atoms_of n first) (attempt_costs first) (match_of first n)) in
    let entered : sum_of (passes_flow F) (map (enter g i) (atoms_of n first)) (attempt_costs first) ≡ sum_of (λ w. passes_flow F (turn_to g (Some i) ∷ w)) (atoms_of n first) (attempt_costs first)
    = sum_entered (passes_flow F) g i (atoms_of n first) (attempt_costs first) in
    let same : sum_of (λ w. passes_flow F (turn_to g (Some i) ∷ w)) (atoms_of n first) (attempt_costs first) ≡ sum_of (passes_flow F) (atoms_of n first) (attempt_costs first)
    = sum_same (λ w. passes_flow F (turn_to g (Some i) ∷ w)) (passes_flow F) (atoms_of n first) (attempt_costs first) (λ w. other_turn g F (Some i) w other) in
    let room : sum_of (passes_flow F) (atoms_of n first) (attempt_costs first) + 6 ≤ life x.part c + c = known.room is own in
    (other, omega (arith, none, parts, entered, same, room))

-- in a later item: the first isn't in its flows
later_room : (first : Tree) (others : Trees) (g i n F : ℕ) (x : Atom) (c : ℕ) → IsPathAmong g (suc i) (n + flow_count first) others x.path → RoomBelow g F (through_among F g (suc i) (n + flow_count first) others) x c
    → RoomBelow g F (through_among F g i n (tree first others)) x c
later_room first others g i n F x c path known is last =
    let found = known is last in
    let none : sum_of (passes_flow F) (map (enter g i) (atoms_of n first)) (attempt_costs first) ≡ 0
    = sum_none (passes_flow F) (map (enter g i) (atoms_of n first)) (attempt_costs first)
    (all_entered (λ y. IsPath n first y.path) (λ y. passes_flow F y.path ≡ false) g i (atoms_of n first) (paths_of first n)
    (λ y first_path. other_turn g F (Some i) y.path found.0
    ∙ not_through (passes_flow F y.path) (λ on. apart first others g i n F y.path x.path first_path path found.0 on (passes_last F x.path last)))) in
    let parts : through_among F g i n (tree first others) ≡ sum_of (passes_flow F) (map (enter g i) (atoms_of n first)) (attempt_costs first) + through_among F g (suc i) (n + flow_count first) others
    = sum_both (passes_flow F) (map (enter g i) (atoms_of n first)) (atoms_among g (suc i) (n + flow_count first) others) (attempt_costs first) (attempt_costs_among others)
    (match_entered g i (atoms_of n first) (attempt_costs first) (match_of first n)) in
    (found.0, omega (arith, none, parts, found.1))

-- in an item: the flow's retry controller isn't in its flows
item_room : (g F : ℕ) (control : Option Retry) (items : Trees) (x : Atom) (c : ℕ) → RoomBelow g F (through_among F g 0 (suc g) items) x c
    → Room F (sum_of (passes_flow F) (retry_atoms g control ++ atoms_among g 0 (suc g) items) (retry_costs control (6 + costs items) ++ attempt_costs_among items)) x c
item_room g F control items x c known is last =
    let found = known is last in
    let parts : sum_of (passes_flow F) (retry_atoms g control ++ atoms_among g 0 (suc g) items) (retry_costs control (6 + costs items) ++ attempt_costs_among items)
    ≡ sum_of (passes_flow F) (retry_atoms g control) (retry_costs control (6 + costs items)) + through_among F g 0 (suc g) items
    = sum_both (passes_flow F) (retry_atoms g control) (atoms_among g 0 (suc g) items) (retry_costs control (6 + costs items)) (attempt_costs_among items) (match_retry g control (6 + costs items)) in
    let none : sum_of (passes_flow F) (retry_atoms g control) (retry_costs control (6 + costs items)) ≡ 0
    = sum_none (passes_flow F) (retry_atoms g control) (retry_costs control (6 + costs items)) (none_through control found.0) in
    omega (arith, none, parts, found.1)
  where
    none_through : (control : Option Retry) → g ≢ F → AllByRecursion (λ y. passes_flow F y.path ≡ false) (retry_atoms g control)
    none_through None other = tt
    none_through (Some r) other = (other_turn g F None [] other, tt)

-- of the flow's own retry controller: all that it holds costs no more than its flow
own_room : (g F : ℕ) (control : Option Retry) (below total : ℕ) → AllByRecursion IsTried (retry_atoms g control) → ((r : Retry) → control ≡ Some r → total ≤ tries_by r.kind * (6 + below))
    → AllPairs (Room F total) (retry_atoms g control) (retry_costs control (6 + below))
own_room g F None below total tried whole = tt
own_room g F (Some r) below total tried whole = (
  λ is last.
      let all : tries_by r.kind * (6 + below) ≡ (tries_by r.kind - 1) * (6 + below) + (6 + below) = all_attempts (tries_by r.kind) (6 + below) tried.0 in
      let most : total ≤ tries_by r.kind * (6 + below) = whole r refl in
      omega (arith, all, most),
  tt,
)

mutual
  room_of : (t : Tree) (g F : ℕ) → AllByRecursion IsTried (atoms_of g t) → AllPairs (Room F (sum_of (passes_flow F) (atoms_of g t) (attempt_costs t))) (atoms_of g t) (attempt_costs t)
  room_of (task t) g F tried = ((λ is last. absurd (cc)), tt)
  room_of (flow head items) g F tried =
      let total = sum_of (passes_flow F) (atoms_of g (flow head items)) (attempt_costs (flow head items)) in
      let whole : total ≤ cost (flow head items) = sum_of_tree (flow head items) g (passes_flow F) tried in
      pairs_both (Room F total) (retry_atoms g head.retry) (atoms_among g 0 (suc g) items) (retry_costs head.retry (6 + costs items)) (attempt_costs_among items) (match_retry g head.retry (6 + costs items))
      (own_room g F head.retry (costs items) total (all_first IsTried (retry_atoms g head.retry) (atoms_among g 0 (suc g) items) tried)
      (λ r is. subst (λ (o : Option Retry). total ≤ tries o * (6 + costs items)) is whole))
      (pairs_with (λ x. IsPathAmong g 0 (suc g) items x.path) (RoomBelow g F (through_among F g 0 (suc g) items)) (Room F total) (atoms_among g 0 (suc g) items) (attempt_costs_among items) (paths_among items g 0 (suc g))
      (room_among items g 0 (suc g) F (omega arith) (all_second IsTried (retry_atoms g head.retry) (atoms_among g 0 (suc g) items) tried))
      (λ x c path known. item_room g F head.retry items x c known))

  room_among : (ts : Trees) (g i n F : ℕ) → g < n → AllByRecursion IsTried (atoms_among g i n ts) → AllPairs (RoomBelow g F (through_among F g i n ts)) (atoms_among g i n ts) (attempt_costs_among ts)
  room_among no_trees g i n F below tried = tt
  room_among (tree first others) g i n F below tried =
      let here_all = all_first IsTried (map (enter g i) (atoms_of n first)) (atoms_among g (suc i) (n + flow_count first) others) tried in
      let there_all = all_second IsTried (map (enter g i) (atoms_of n first)) (atoms_among g (suc i) (n + flow_count first) others) tried in
      pairs_both (RoomBelow g F (through_among F g i n (tree first others))) (map (enter g i) (atoms_of n first)) (atoms_among g (suc i) (n + flow_count first) others) (attempt_costs first) (attempt_costs_among others)
      (match_entered g i (atoms_of n first) (attempt_costs first) (match_of first n))
      (pairs_entered (Known F (sum_of (passes_flow F) (atoms_of n first) (attempt_costs first)) first n) (RoomBelow g F (through_among F g i n (tree first others))) g i (atoms_of n first) (attempt_costs first)
      (known_of first n F (sum_of (passes_flow F) (atoms_of n first) (attempt_costs first)) (room_of first n F (tried_entered g i (atoms_of n first) here_all)))
      (λ x c known. first_room first others g i n F x c below known))
      (pairs_with (λ x. IsPathAmong g (suc i) (n + flow_count first) others x.path) (RoomBelow g F (through_among F g (suc i) (n + flow_count first) others)) (RoomBelow g F (through_among F g i n (tree first others)))
      (atoms_among g (suc i) (n + flow_count first) others) (attempt_costs_among others) (paths_among others g (suc i) (n + flow_count first))
      (room_among others g (suc i) (n + flow_count first) F (omega (arith, below)) there_all)
      (λ x c path known. later_room first others g i n F x c path known))

-- ---- by the numbers of the atoms

-- the life of the atom of a number
abbrev life_at : List Atom → List ℕ → ℕ → ℕ
life_at xs cs k = (tries_of (kind_in (slice_get xs k)) - 1) * slice_index cs k + 6

sum_by_number : (test : List Turn → Bool) (xs : List Atom) (cs : List ℕ) → Match xs cs → sum_below (length xs) (λ k. where_passes (test (path_in (slice_get xs k))) (life_at xs cs k)) ≡ sum_of test xs cs
sum_by_number test [] cs is = refl
sum_by_number test (x ∷ xs) [] is = absurd is
sum_by_number test (x ∷ xs) (c ∷ cs) is =
    sum_from_first (length xs) (λ k. where_passes (test (path_in (slice_get (x ∷ xs) k))) (life_at (x ∷ xs) (c ∷ cs) k))
    ∙ ap (λ (rest : ℕ). where_passes (test x.path) (life x.part c) + rest) (sum_by_number test xs cs is)

room_by_number : (F total : ℕ) (xs : List Atom) (cs : List ℕ) (k : ℕ) → AllPairs (Room F total) xs cs → is_retry_in (slice_get xs k) ≡ true → last_flow (path_in (slice_get xs k)) ≡ Some F
    → total + 6 ≤ life_at xs cs k + slice_index cs k
room_by_number F total [] cs k all is last = absurd (cc)
room_by_number F total (x ∷ xs) [] k all is last = absurd all
room_by_number F total (x ∷ xs) (c ∷ cs) zero all is last = all.0 is last
room_by_number F total (x ∷ xs) (c ∷ cs) (suc k) all is last = room_by_number F total xs cs k all.1 is last

bare_by_number : (xs : List Atom) (k : ℕ) → AllByRecursion NotBare xs → is_retry_in (slice_get xs k) ≡ true → is_bare (path_in (slice_get xs k)) ≡ false
bare_by_number [] k all is = absurd (cc)
bare_by_number (x ∷ xs) zero all is = all.0 is
bare_by_number (x ∷ xs) (suc k) all is = bare_by_number xs k all.1 is

not_bare_last : (w : List Turn) → is_bare w ≡ false → last_flow w ≡ None → ⊥
not_bare_last [] is none = absurd (cc)
not_bare_last (x ∷ []) is none = cc
not_bare_last (x ∷ y ∷ ys) is none = not_bare_last (y ∷ ys) refl none

-- what a plan's costs give: each retry controller has an attempt, and in one of its flow there is room for the lives of
-- all other atoms
pub record IsWeighed (plan : Outline) (attempt : ℕ → ℕ) : Type 0 where
  pub tried : (r : ℕ) → 1 ≤ tries_at plan r
  pub room : (r : ℕ) → is_retry plan r ≡ true → r < count plan
      → sum_below (count plan) (λ a. where_passes (is_of_its_flow plan r a) (most_with plan attempt a)) + 6 ≤ attempt r

-- the other atoms of a flow, where all that it holds leave room
others_room : (plan : Outline) (attempt : ℕ → ℕ) (r F : ℕ) → r < count plan → own_flow plan r ≡ Some F
    → sum_below (count plan) (λ a. where_passes (holds plan F a) (most_with plan attempt a)) + 6 ≤ most_with plan attempt r + attempt r
    → sum_below (count plan) (λ a. where_passes (is_of_its_flow plan r a) (most_with plan attempt a)) + 6 ≤ attempt r
others_room plan attempt r F below own all =
    let falls : sum_below (count plan) (λ a. where_passes (is_of_its_flow plan r a) (most_with plan attempt a)) + most_with plan attempt r ≤ sum_below (count plan) (λ a. where_passes (holds plan F a) (most_with plan attempt a))
    = sum_falls (count plan) (λ a. where_passes (is_of_its_flow plan r a) (most_with plan attempt a)) (λ a. where_passes (holds plan F a) (most_with plan attempt a)) r (most_with plan attempt r) below
    (λ a low other. beside (holds_with plan (own_flow plan r) a) (holds plan F a) (nat_eq a r) (most_with plan attempt a) (ap (λ (o : Option ℕ). holds_with plan o a) own))
    (here (holds_with plan (own_flow plan r) r) (holds plan F r) (nat_eq r r) (most_with plan attempt r) (eq-eqb r r refl) (own_holds plan r F own)) in
    omega (arith, falls, all)
  where
    beside : (inside held same : Bool) (x : ℕ) → inside ≡ held → where_passes (inside && not same) x ≤ where_passes held x
    beside true true true x is = omega arith
    beside true true false x is = omega arith
    beside true false same x is = absurd (cc)
    beside false held same x is = omega arith

    here : (inside held same : Bool) (x : ℕ) → same ≡ true → held ≡ true → where_passes (inside && not same) x + x ≤ where_passes held x
    here true true true x is held = omega arith
    here false true true x is held = omega arith
    here inside false same x is held = absurd (cc)
    here inside true false x is held = absurd (cc)

tried_of : (plan : PlanValue) → HasAttempts (outline_of plan) → AllByRecursion IsTried (atoms_of 0 (tree_of plan.root))
tried_of plan tried = all_tried (atoms_of 0 (tree_of plan.root)) tried

pub weighed : (plan : PlanValue) → HasAttempts (outline_of plan) → IsWeighed (outline_of plan) (each plan)
unfolding holds
weighed plan tried = record {
  tried = tried;
  room = λ r is below. by r is below (own_flow (outline_of plan) r) refl;
}
  where
    by : (r : ℕ) → is_retry (outline_of plan) r ≡ true → r < count (outline_of plan) → (o : Option ℕ) → own_flow (outline_of plan) r ≡ o
        → sum_below (count (outline_of plan)) (λ a. where_passes (is_of_its_flow (outline_of plan) r a) (most plan a)) + 6 ≤ each plan r
    by r is below None own = absurd (not_bare_last (path_in (slice_get (atoms_of 0 (tree_of plan.root)) r)) (bare_by_number (atoms_of 0 (tree_of plan.root)) r (not_bare_of (tree_of plan.root) 0) is) own)
    by r is below (Some F) own =
        let total : sum_below (count (outline_of plan)) (λ a. where_passes (holds (outline_of plan) F a) (most plan a)) ≡ sum_of (passes_flow F) (atoms_of 0 (tree_of plan.root)) (attempt_costs (tree_of plan.root))
        = sum_by_number (passes_flow F) (atoms_of 0 (tree_of plan.root)) (attempt_costs (tree_of plan.root)) (match_of (tree_of plan.root) 0) in
        let room : sum_of (passes_flow F) (atoms_of 0 (tree_of plan.root)) (attempt_costs (tree_of plan.root)) + 6 ≤ most plan r + each plan r
        = room_by_number F (sum_of (passes_flow F) (atoms_of 0 (tree_of plan.root)) (attempt_costs (tree_of plan.root))) (atoms_of 0 (tree_of plan.root)) (attempt_costs (tree_of plan.root)) r
        (room_of (tree_of plan.root) 0 F (tried_of plan tried)) is own in
        others_room (outline_of plan) (each plan) r F below own (omega (arith, total, room))

-- together the lives of all atoms cost no more than the root
pub lives_at_most : (plan : PlanValue) → HasAttempts (outline_of plan) → sum_below (count (outline_of plan)) (most plan) ≤ cost (tree_of plan.root)
lives_at_most plan tried =
    let total : sum_below (count (outline_of plan)) (most plan) ≡ sum_of (λ w. true) (atoms_of 0 (tree_of plan.root)) (attempt_costs (tree_of plan.root))
    = sum_by_number (λ w. true) (atoms_of 0 (tree_of plan.root)) (attempt_costs (tree_of plan.root)) (match_of (tree_of plan.root) 0) in
    let whole : sum_of (λ w. true) (atoms_of 0 (tree_of plan.root)) (attempt_costs (tree_of plan.root)) ≤ cost (tree_of plan.root) = sum_of_tree (tree_of plan.root) 0 (λ w. true) (tried_of plan tried) in
    omega (arith, total, whole)

-- and those of the other atoms of a flow leave room in an attempt of it
pub lives_leave_room : (plan : PlanValue) → HasAttempts (outline_of plan) → (r : ℕ) → is_retry (outline_of plan) r ≡ true → r < count (outline_of plan) → lives_beside plan r + 6 ≤ each plan r
lives_leave_room plan tried r is below = (weighed plan tried).room r is below
