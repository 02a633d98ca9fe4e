-- The retry controller of a flow is before every other atom of the flow.
use Rattle.std.proofs.Common.{◌≡◌, ◌≢◌, ℕ, zero, suc, ◌+◌, ◌<◌, ◌≤◌, List, [], ◌∷◌, ◌++◌, length, map, Bool, true, false, Option, Some, None, refl, sym, ap, ◌∙◌, ◌⊎◌, inl, inr, eq-eqb, arith, slice_get, subst}
use Rattle.std.specs.Prelude.{nat_eq, if◌then◌else◌}
use Rattle.std.specs.List.{AllByRecursion}
use Rattle.tf_flow.specs.declared.atoms.Retry.{Retry}
use Rattle.tf_flow.specs.declared.atoms.Task.{Task}
use Rattle.tf_flow.specs.Plan.{PlanValue}
use Rattle.tf_flow.specs.Tree.{Tree, Trees, task, flow, no_trees, tree, tree_of}
use Rattle.tf_flow.specs.Outline.{a_task, Atom, atoms_of, atoms_among, enter, retry_atoms, flow_count, is_retry_part}
use Rattle.tf_flow.specs.declared.paths.Turn.{Turn}
use Rattle.tf_model.specs.Before.{Flow, path_before, item_before, passes_flow}
use Rattle.tf_model.specs.Plan.{outline_of, is_before, holds, path, is_retry, own_flow, last_flow}
use Rattle.tf_model.proofs.Told.{path_in, is_retry_in}
use Rattle.tf_numbers.proofs.TruthLemmas.{true_first, true_second, true_both}
use Rattle.tf_model.proofs.PathLemmas.{turn_to, IsPath, IsPathAmong, numbers_of, apart, goes_past, all_both, paths_of, paths_among, path_of_each}

-- the last turn of the path is to a retry controller
abbrev EndsAtRetry : List Turn → Type 0
EndsAtRetry [] = ⊥
EndsAtRetry (x ∷ []) = x.item ≡ None
EndsAtRetry (x ∷ y ∷ ys) = EndsAtRetry (y ∷ ys)

abbrev IsFine : Atom → Type 0
IsFine atom = is_retry_part atom.part ≡ true → EndsAtRetry atom.path

enter_ends : (turn : Turn) (w : List Turn) → EndsAtRetry w → EndsAtRetry (turn ∷ w)
enter_ends turn [] is = absurd is
enter_ends turn (x ∷ xs) is = is

fine_entered : (g i : ℕ) (xs : List Atom) → AllByRecursion IsFine xs → AllByRecursion IsFine (map (enter g i) xs)
fine_entered g i [] all = tt
fine_entered g i (x ∷ xs) all = ((λ is. enter_ends (turn_to g (Some i)) x.path (all.0 is)), fine_entered g i xs all.1)

fine_retry : (g : ℕ) (control : Option Retry) → AllByRecursion IsFine (retry_atoms g control)
fine_retry g None = tt
fine_retry g (Some r) = ((λ is. refl), tt)

no_retry : (t : Task) → is_retry_part (a_task t) ≡ true → ⊥
no_retry t is = cc

mutual
  fine_of : (t : Tree) (g : ℕ) → AllByRecursion IsFine (atoms_of g t)
  fine_of (task t) g = ((λ is. no_retry t is), tt)
  fine_of (flow head items) g = all_both IsFine (retry_atoms g head.retry) (atoms_among g 0 (suc g) items) (fine_retry g head.retry) (fine_among items g 0 (suc g))

  fine_among : (ts : Trees) (g i n : ℕ) → AllByRecursion IsFine (atoms_among g i n ts)
  fine_among no_trees g i n = tt
  fine_among (tree first others) g i n =
      all_both IsFine (map (enter g i) (atoms_of n first)) (atoms_among g (suc i) (n + flow_count first) others) (fine_entered g i (atoms_of n first) (fine_of first n)) (fine_among others g (suc i) (n + flow_count first))

fine_at : (xs : List Atom) (k : ℕ) → AllByRecursion IsFine xs → is_retry_in (slice_get xs k) ≡ true → EndsAtRetry (path_in (slice_get xs k))
fine_at [] k all is = absurd (cc)
fine_at (x ∷ xs) zero all is = all.0 is
fine_at (x ∷ xs) (suc k) all is = fine_at xs k all.1 is

-- ---- a path that ends in F leads into F

pub passes_last : (F : ℕ) (w : List Turn) → last_flow w ≡ Some F → passes_flow F w ≡ true
passes_last F [] is = absurd (cc)
passes_last F (x ∷ []) is = let same : x.flow ≡ F = cc in true_first (nat_eq x.flow F) _ (eq-eqb x.flow F same)
passes_last F (x ∷ y ∷ ys) is = true_second (nat_eq x.flow F) _ (passes_last F (y ∷ ys) is)

-- the rest of a path that ends at a retry controller, behind a turn to an item
ends_rest : (g i : ℕ) (w rest : List Turn) → w ≡ turn_to g (Some i) ∷ rest → EndsAtRetry w → EndsAtRetry rest
ends_rest g i w rest is ends = behind rest (subst EndsAtRetry is ends)
  where
    behind : (rest : List Turn) → EndsAtRetry (turn_to g (Some i) ∷ rest) → EndsAtRetry rest
    behind [] ends = absurd (cc)
    behind (y ∷ ys) ends = ends

last_rest : (turn : Turn) (w rest : List Turn) → w ≡ turn ∷ rest → EndsAtRetry rest → last_flow w ≡ last_flow rest
last_rest turn w rest is ends = ap last_flow is ∙ behind rest ends
  where
    behind : (rest : List Turn) → EndsAtRetry rest → last_flow (turn ∷ rest) ≡ last_flow rest
    behind [] ends = absurd ends
    behind (y ∷ ys) ends = refl

-- ---- the controller's path is before each other path into its flow

abbrev FirstOrSame : List Flow → List Turn → List Turn → Type 0
FirstOrSame flows c b = (c ≡ b) ⊎ (path_before flows c b ≡ true)

go_on_both : (flows : List Flow) (g i : ℕ) (c b xs ys : List Turn) → c ≡ turn_to g (Some i) ∷ xs → b ≡ turn_to g (Some i) ∷ ys → FirstOrSame flows xs ys → FirstOrSame flows c b
go_on_both flows g i c b xs ys c_is b_is is = elim is [
  | inl same ↦ inl (c_is ∙ (ap (λ (zs : List Turn). turn_to g (Some i) ∷ zs) same ∙ sym b_is))
  | inr before ↦ inr (ap (λ (w : List Turn). path_before flows w b) c_is ∙ (ap (λ (w : List Turn). path_before flows (turn_to g (Some i) ∷ xs) w) b_is
      ∙ true_both (nat_eq g g) _ (eq-eqb g g refl) (one_item (nat_eq i i) (path_before flows xs ys) (item_before flows g i i) (eq-eqb i i refl) before)))
]
  where
    one_item : (b below other : Bool) → b ≡ true → below ≡ true → (if b then below else other) ≡ true
    one_item true below other is more = more
    one_item false below other is more = absurd (cc)

before_items : (flows : List Flow) (ts : Trees) (g i n : ℕ) (c b : List Turn) → c ≡ turn_to g None ∷ [] → IsPathAmong g i n ts b → path_before flows c b ≡ true
before_items flows no_trees g i n c b c_is among = absurd among
before_items flows (tree first others) g i n c b c_is among = elim among [
  | inl here ↦ ap (λ (w : List Turn). path_before flows w b) c_is ∙ (ap (λ (w : List Turn). path_before flows (turn_to g None ∷ []) w) here.is ∙ true_both (nat_eq g g) true (eq-eqb g g refl) refl)
  | inr later ↦ before_items flows others g (suc i) (n + flow_count first) c b c_is later
]

-- the flow in which a path that goes on to an item ends isn't the one that it begins in
pub ends_below : (first : Tree) (g n F : ℕ) (rest : List Turn) → g < n → IsPath n first rest → last_flow rest ≡ Some F → g ≢ F
ends_below first g n F rest below is last same = let from = numbers_of first n F rest is (passes_last F rest last) in omega (arith, from.0, same, below)

ends_among : (ts : Trees) (g i n F : ℕ) (c : List Turn) → g < n → IsPathAmong g i n ts c → EndsAtRetry c → last_flow c ≡ Some F → g ≢ F
ends_among no_trees g i n F c below is ends last = absurd is
ends_among (tree first others) g i n F c below is ends last = elim is [
  | inl here ↦ let rest_ends = ends_rest g i c here.rest here.is ends in
      ends_below first g n F here.rest below here.on (sym (last_rest (turn_to g (Some i)) c here.rest here.is rest_ends) ∙ last)
  | inr later ↦ ends_among others g (suc i) (n + flow_count first) F c (omega (arith, below)) later ends last
]

mutual
  first_in : (flows : List Flow) (t : Tree) (g F : ℕ) (c b : List Turn) → IsPath g t c → EndsAtRetry c → last_flow c ≡ Some F → IsPath g t b → passes_flow F b ≡ true → FirstOrSame flows c b
  first_in flows (task t) g F c b c_is ends last b_is on = let no : false ≡ true = ap (passes_flow F) (sym b_is) ∙ on in absurd (cc)
  first_in flows (flow head items) g F c b c_is ends last b_is on = elim c_is [
    | inl own ↦ elim b_is [
      | inl same ↦ inl (own ∙ sym same)
      | inr among ↦ inr (before_items flows items g 0 (suc g) c b own among)
    ]
    | inr c_among ↦ first_under flows items g 0 (suc g) F c b (omega arith) c_among ends last b_is on
  ]

  -- the same where c goes on to one of these items, and b is any path of the flow that leads into F
  first_under : (flows : List Flow) (ts : Trees) (g i n F : ℕ) (c b : List Turn) → g < n → IsPathAmong g i n ts c → EndsAtRetry c → last_flow c ≡ Some F
      → (b ≡ turn_to g None ∷ []) ⊎ IsPathAmong g i n ts b → passes_flow F b ≡ true → FirstOrSame flows c b
  first_under flows no_trees g i n F c b below c_is ends last b_is on = absurd c_is
  first_under flows (tree first others) g i n F c b below c_is ends last b_is on = elim c_is [
    | inl c_here ↦
        let rest_ends = ends_rest g i c c_here.rest c_here.is ends in
        let rest_last : last_flow c_here.rest ≡ Some F = sym (last_rest (turn_to g (Some i)) c c_here.rest c_here.is rest_ends) ∙ last in
        let other : g ≢ F = ends_below first g n F c_here.rest below c_here.on rest_last in
        elim b_is [
          | inl own ↦ let there : passes_flow F [] ≡ true = goes_past F (turn_to g None) b [] own other on in absurd (cc)
          | inr among ↦ elim among [
            | inl b_here ↦ go_on_both flows g i c b c_here.rest b_here.rest c_here.is b_here.is
                (first_in flows first n F c_here.rest b_here.rest c_here.on rest_ends rest_last b_here.on (goes_past F (turn_to g (Some i)) b b_here.rest b_here.is other on))
            | inr b_later ↦ absurd (apart first others g i n F c_here.rest b c_here.on b_later other (passes_last F c_here.rest rest_last) on)
          ]
        ]
    | inr c_later ↦ elim b_is [
      | inl own ↦ first_under flows others g (suc i) (n + flow_count first) F c b (omega (arith, below)) c_later ends last (inl own) on
      | inr among ↦ elim among [
        | inl b_here ↦ let other : g ≢ F = ends_among others g (suc i) (n + flow_count first) F c (omega (arith, below)) c_later ends last in
            absurd (apart first others g i n F b_here.rest c b_here.on c_later other (goes_past F (turn_to g (Some i)) b b_here.rest b_here.is other on) (passes_last F c last))
        | inr b_later ↦ first_under flows others g (suc i) (n + flow_count first) F c b (omega (arith, below)) c_later ends last (inr b_later) on
      ]
    ]
  ]

-- ---- no two atoms have one path

abbrev pub AreDistinct : List Atom → Type 0
AreDistinct [] = Unit {0}
AreDistinct (x ∷ xs) = AllByRecursion (λ y. x.path ≢ y.path) xs × AreDistinct xs

each_apart : (P : Atom → Type 0) (x : Atom) (ys : List Atom) → AllByRecursion P ys → ((y : Atom) → P y → x.path ≢ y.path) → AllByRecursion (λ y. x.path ≢ y.path) ys
each_apart P x [] all differ = tt
each_apart P x (y ∷ ys) all differ = (differ y all.0, each_apart P x ys all.1 differ)

distinct_both : (P Q : Atom → Type 0) (xs ys : List Atom) → AllByRecursion P xs → AllByRecursion Q ys → ((x y : Atom) → P x → Q y → x.path ≢ y.path) → AreDistinct xs → AreDistinct ys → AreDistinct (xs ++ ys)
distinct_both P Q [] ys first second differ one other = other
distinct_both P Q (x ∷ xs) ys first second differ one other =
    (all_both (λ y. x.path ≢ y.path) xs ys one.0 (each_apart Q x ys second (λ y is. differ x y first.0 is)), distinct_both P Q xs ys first.1 second differ one.1 other)

rest_of : List Turn → List Turn
rest_of [] = []
rest_of (x ∷ xs) = xs

apart_entered : (g i : ℕ) (x : Atom) (ys : List Atom) → AllByRecursion (λ y. x.path ≢ y.path) ys → AllByRecursion (λ y. (enter g i x).path ≢ y.path) (map (enter g i) ys)
unfolding rest_of
apart_entered g i x [] all = tt
apart_entered g i x (y ∷ ys) all = ((λ same. all.0 (ap rest_of same)), apart_entered g i x ys all.1)

distinct_entered : (g i : ℕ) (xs : List Atom) → AreDistinct xs → AreDistinct (map (enter g i) xs)
distinct_entered g i [] is = tt
distinct_entered g i (x ∷ xs) is = (apart_entered g i x xs is.0, distinct_entered g i xs is.1)

-- the place to which the first turn of a path leads
first_item : List Turn → Option ℕ
first_item [] = None
first_item (x ∷ xs) = x.item

-- a path among items from i on leads to one of them first
record LeadsFrom (i : ℕ) (w : List Turn) : Type 0 where
  place : ℕ
  from : i ≤ place
  is : first_item w ≡ Some place

leads_from : (ts : Trees) (g i n : ℕ) (w : List Turn) → IsPathAmong g i n ts w → LeadsFrom i w
unfolding first_item
leads_from no_trees g i n w is = absurd is
leads_from (tree first others) g i n w is = elim is [
  | inl here ↦ record { place = i; from = omega arith; is = ap first_item here.is }
  | inr later ↦ let found = leads_from others g (suc i) (n + flow_count first) w later in record { place = found.place; from = omega (arith, found.from); is = found.is }
]

entered_items : (g i : ℕ) (xs : List Atom) → AllByRecursion (λ x. first_item x.path ≡ Some i) (map (enter g i) xs)
unfolding first_item
entered_items g i [] = tt
entered_items g i (x ∷ xs) = (refl, entered_items g i xs)

retry_items : (g : ℕ) (control : Option Retry) → AllByRecursion (λ x. first_item x.path ≡ None) (retry_atoms g control) × AreDistinct (retry_atoms g control)
unfolding first_item
retry_items g None = (tt, tt)
retry_items g (Some r) = ((refl, tt), (tt, tt))

differ_items : (i j : ℕ) (x y : Atom) → first_item x.path ≡ Some i → first_item y.path ≡ Some j → i < j → x.path ≢ y.path
differ_items i j x y one other less same = let equal : Some i ≡ Some j = sym one ∙ (ap first_item same ∙ other) in let no : i ≡ j = cc in omega (arith, no, less)

mutual
  pub distinct_of : (t : Tree) (g : ℕ) → AreDistinct (atoms_of g t)
  distinct_of (task t) g = (tt, tt)
  distinct_of (flow head items) g =
      distinct_both (λ x. first_item x.path ≡ None) (λ y. IsPathAmong g 0 (suc g) items y.path) (retry_atoms g head.retry) (atoms_among g 0 (suc g) items)
      (retry_items g head.retry).0 (paths_among items g 0 (suc g))
      (λ x y none among same. let found = leads_from items g 0 (suc g) y.path among in let no : None ≡ Some found.place = sym none ∙ (ap first_item same ∙ found.is) in cc)
      (retry_items g head.retry).1 (distinct_among items g 0 (suc g))

  distinct_among : (ts : Trees) (g i n : ℕ) → AreDistinct (atoms_among g i n ts)
  distinct_among no_trees g i n = tt
  distinct_among (tree first others) g i n =
      distinct_both (λ x. first_item x.path ≡ Some i) (λ y. IsPathAmong g (suc i) (n + flow_count first) others y.path) (map (enter g i) (atoms_of n first)) (atoms_among g (suc i) (n + flow_count first) others)
      (entered_items g i (atoms_of n first)) (paths_among others g (suc i) (n + flow_count first))
      (λ x y here among. let found = leads_from others g (suc i) (n + flow_count first) y.path among in differ_items i found.place x y here found.is (omega (arith, found.from)))
      (distinct_entered g i (atoms_of n first) (distinct_of first n)) (distinct_among others g (suc i) (n + flow_count first))

-- the atom of a number has another path than those of a list, where each of the list has
apart_at : (x : Atom) (ys : List Atom) (k : ℕ) → AllByRecursion (λ y. x.path ≢ y.path) ys → k < length ys → x.path ≢ path_in (slice_get ys k)
apart_at x [] k all below = absurd (omega arith)
apart_at x (y ∷ ys) zero all below = all.0
apart_at x (y ∷ ys) (suc k) all below = apart_at x ys k all.1 (omega arith)

pub one_number : (xs : List Atom) (i j : ℕ) → AreDistinct xs → i < length xs → j < length xs → path_in (slice_get xs i) ≡ path_in (slice_get xs j) → i ≡ j
one_number [] i j is one other same = absurd (omega arith)
one_number (x ∷ xs) zero zero is one other same = refl
one_number (x ∷ xs) zero (suc j) is one other same = absurd (apart_at x xs j is.0 (omega arith) same)
one_number (x ∷ xs) (suc i) zero is one other same = absurd (apart_at x xs i is.0 (omega arith) (sym same))
one_number (x ∷ xs) (suc i) (suc j) is one other same = ap suc (one_number xs i j is.1 (omega arith) (omega arith) same)

-- a number whose atom has a path is below the count
numbered : (xs : List Atom) (k F : ℕ) → passes_flow F (path_in (slice_get xs k)) ≡ true → k < length xs
numbered [] k F on = absurd (cc)
numbered (x ∷ xs) zero F on = omega arith
numbered (x ∷ xs) (suc k) F on = let below : k < length xs = numbered xs k F on in omega (arith, below)

-- the retry controller of a flow is before every other atom that the flow holds
pub retry_first : (plan : PlanValue) (r F b : ℕ) → is_retry (outline_of plan) r ≡ true → own_flow (outline_of plan) r ≡ Some F → holds (outline_of plan) F b ≡ true → r ≢ b
    → is_before (outline_of plan) r b ≡ true
unfolding holds is_before
retry_first plan r F b is own on other =
    let passes : passes_flow F (path_in (slice_get (atoms_of 0 (tree_of plan.root)) r)) ≡ true = passes_last F (path_in (slice_get (atoms_of 0 (tree_of plan.root)) r)) own in
    elim (first_in (outline_of plan).flows (tree_of plan.root) 0 F (path (outline_of plan) r) (path (outline_of plan) b)
    (path_of_each (IsPath 0 (tree_of plan.root)) (atoms_of 0 (tree_of plan.root)) r F (paths_of (tree_of plan.root) 0) passes)
    (fine_at (atoms_of 0 (tree_of plan.root)) r (fine_of (tree_of plan.root) 0) is) own
    (path_of_each (IsPath 0 (tree_of plan.root)) (atoms_of 0 (tree_of plan.root)) b F (paths_of (tree_of plan.root) 0) on) on) [
      | inl same ↦ absurd (other (one_number (atoms_of 0 (tree_of plan.root)) r b (distinct_of (tree_of plan.root) 0) (numbered (atoms_of 0 (tree_of plan.root)) r F passes) (numbered (atoms_of 0 (tree_of plan.root)) b F on) same))
      | inr before ↦ before
    ]
