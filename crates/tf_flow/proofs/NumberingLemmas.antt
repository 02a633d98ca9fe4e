-- A walk over a whole plan, and the numbers of its atoms and flows.
use Rattle.std.proofs.Common.{◌≡◌, ℕ, zero, suc, ◌+◌, ◌<◌, ◌≤◌, List, [], ◌∷◌, ◌++◌, map, length, Some, refl, sym, ap, ◌∙◌, arith, get_or, slice_get, slice_index_or}
use Rattle.std.proofs.lemmas.List.{length-map}
use Rattle.tf_flow.specs.declared.nested.Flow.{Flow as FlowValue}
use Rattle.tf_flow.specs.Tree.{Tree, Trees, task, flow, no_trees, tree, tree_of}
use Rattle.tf_flow.specs.Outline.{Atom, FlowPlace, atoms_of, flows_of, flows_among, flow_count, flows_among_count, atom_count, retry_count, name_of_atom}
use Rattle.tf_flow.specs.Plan.{PlanValue, atoms, flows}
use Rattle.tf_numbers.specs.Numbers.{numbers_below}
use Rattle.tf_flow.proofs.OutlineLemmas.{same_atoms, place_name, flows_told}
use Rattle.tf_flow.specs.declared.listing.AtomPlace.{AtomPlace}
use Rattle.tf_flow.specs.declared.listing.Level.{Level}
use Rattle.tf_numbers.proofs.EquationLemmas.{ap2}
use Rattle.tf_flow.specs.Listing.{shown_atom, shown_atoms, shown_level, shown_levels, level_number, under}
use Rattle.tf_numbers.proofs.ListLemmas.{map_append}
use Rattle.tf_flow.proofs.ListingLemmas.{length_flows}

-- ---- the whole plan

under_none : (xs : List Atom) → map (under []) xs ≡ xs
under_none [] = refl
under_none (x ∷ xs) = ap (λ (ys : List Atom). x ∷ ys) (under_none xs)

pub whole_atoms : (read root : FlowValue) (old new : List AtomPlace) (levels : List Level) → read ≡ root → old ≡ [] → levels ≡ []
    → shown_atoms new ≡ shown_atoms old ++ map (under []) (atoms_of (length levels) (tree_of read)) → shown_atoms new ≡ atoms_of 0 (tree_of root)
whole_atoms read root old new levels same none no_levels is =
    is
    ∙ (ap2 (λ (xs : List AtomPlace) (ls : List Level). shown_atoms xs ++ map (under []) (atoms_of (length ls) (tree_of read))) none no_levels
    ∙ (under_none (atoms_of 0 (tree_of read))
    ∙ ap (λ (f : FlowValue). atoms_of 0 (tree_of f)) same))

pub whole_levels : (read root : FlowValue) (atoms : List AtomPlace) (old new : List Level) → read ≡ root → atoms ≡ [] → old ≡ []
    → shown_levels new ≡ shown_levels old ++ flows_of (length old) (length atoms) (tree_of read) → shown_levels new ≡ flows_of 0 0 (tree_of root)
whole_levels read root atoms old new same no_atoms none is =
    is
    ∙ (ap2 (λ (xs : List AtomPlace) (ls : List Level). shown_levels ls ++ flows_of (length ls) (length xs) (tree_of read)) no_atoms none
    ∙ ap (λ (f : FlowValue). flows_of 0 0 (tree_of f)) same)

-- the outline has the plan's atoms and flows
pub as_many_atoms : (plan : PlanValue) (found : List AtomPlace) → shown_atoms found ≡ atoms_of 0 (tree_of plan.root) → length found ≡ length (atoms plan)
as_many_atoms plan found is =
    sym (length-map found shown_atom) ∙ (ap length is ∙ (sym (length-map (atoms_of 0 (tree_of plan.root)) name_of_atom) ∙ ap length (same_atoms plan)))

pub as_many_flows : (plan : PlanValue) (found : List Level) → shown_levels found ≡ flows_of 0 0 (tree_of plan.root) → length found ≡ length (flows plan)
as_many_flows plan found is =
    sym (length-map found shown_level) ∙ (ap length is ∙ (sym (length-map (flows_of 0 0 (tree_of plan.root)) place_name) ∙ ap length (flows_told (tree_of plan.root) 0 0)))

pub few : (xs ys most : ℕ) (count : ℕ) → xs ≡ ys → count ≡ ys → count ≤ most → xs ≤ most
few xs ys most count same counted below = omega (arith, same, counted, below)

-- ---- the numbers of the flows

abbrev pub place_number : FlowPlace → ℕ
place_number place = place.number

-- so many numbers from n on
abbrev pub numbers_from : ℕ → ℕ → List ℕ
numbers_from n zero = []
numbers_from n (suc k) = n ∷ numbers_from (suc n) k

numbers_both : (n j k : ℕ) → numbers_from n (j + k) ≡ numbers_from n j ++ numbers_from (n + j) k
numbers_both n zero k = let e : zero + k ≡ k = omega arith in let f : n + zero ≡ n = omega arith in ap2 (λ (x y : ℕ). numbers_from n x) e e ∙ ap (λ (m : ℕ). numbers_from m k) (sym f)
numbers_both n (suc j) k =
    let e : suc j + k ≡ suc (j + k) = omega arith in
    let f : suc n + j ≡ n + suc j = omega arith in
    ap (numbers_from n) e ∙ ap (λ (xs : List ℕ). n ∷ xs) (numbers_both (suc n) j k ∙ ap (λ (m : ℕ). numbers_from (suc n) j ++ numbers_from m k) f)

mutual
  numbered : (t : Tree) (g a : ℕ) → map place_number (flows_of g a t) ≡ numbers_from g (flow_count t)
  numbered (task t) g a = refl
  numbered (flow head items) g a =
      let e : 1 + flows_among_count items ≡ suc (flows_among_count items) = omega arith in
      ap (λ (xs : List ℕ). g ∷ xs) (numbered_among items (suc g) (a + retry_count head.retry)) ∙ ap (numbers_from g) (sym e)

  numbered_among : (ts : Trees) (n a : ℕ) → map place_number (flows_among n a ts) ≡ numbers_from n (flows_among_count ts)
  numbered_among no_trees n a = refl
  numbered_among (tree first others) n a =
      map_append place_number (flows_of n a first) (flows_among (n + flow_count first) (a + atom_count first) others)
      ∙ (ap2 ◌++◌ (numbered first n a) (numbered_among others (n + flow_count first) (a + atom_count first))
      ∙ sym (numbers_both n (flow_count first) (flows_among_count others)))

numbers_same : (n : ℕ) → numbers_from 0 n ≡ numbers_below n
numbers_same zero = refl
numbers_same (suc n) =
    let e : n + 1 ≡ suc n = omega arith in
    let f : 0 + n ≡ n = omega arith in
    ap (numbers_from 0) (sym e) ∙ (numbers_both 0 n 1 ∙ ap2 (λ (xs : List ℕ) (m : ℕ). xs ++ m ∷ []) (numbers_same n) f)

-- the flows of a tree are numbered by their places
pub places_counted : (t : Tree) → map place_number (flows_of 0 0 t) ≡ numbers_below (length (flows_of 0 0 t))
places_counted t = numbered t 0 0 ∙ (numbers_same (flow_count t) ∙ ap numbers_below (sym (length_flows 0 0 t)))

told_number : (levels : List Level) → map level_number levels ≡ map place_number (shown_levels levels)
told_number [] = refl
told_number (x ∷ levels) = ap (λ (xs : List ℕ). level_number x ∷ xs) (told_number levels)

pub levels_numbered : (t : Tree) (levels : List Level) → shown_levels levels ≡ flows_of 0 0 t → map level_number levels ≡ numbers_below (length levels)
levels_numbered t levels is =
    told_number levels ∙ (ap (map place_number) is ∙ (places_counted t ∙ ap numbers_below (ap length (sym is) ∙ length-map levels shown_level)))

number_from_at : (count n k d : ℕ) → k < count → get_or (numbers_from n count) k d ≡ n + k
number_from_at zero n k d below = absurd (omega arith)
number_from_at (suc count) n zero d below = omega arith
number_from_at (suc count) n (suc k) d below = number_from_at count (suc n) k d (omega arith) ∙ omega arith

number_at : (count k d : ℕ) → k < count → get_or (numbers_below count) k d ≡ k
number_at count k d below = ap (λ (xs : List ℕ). get_or xs k d) (sym (numbers_same count)) ∙ (number_from_at count 0 k d below ∙ omega arith)

pub level_number_at : (levels : List Level) (k : ℕ) (other : Level) → map level_number levels ≡ numbers_below (length levels) → k < length levels → (slice_index_or levels k other).number ≡ k
level_number_at levels k other numbers below =
    read levels k below ∙ (ap (λ (xs : List ℕ). get_or xs k 0) numbers ∙ number_at (length levels) k 0 below)
  where
    read : (xs : List Level) (j : ℕ) → j < length xs → (slice_index_or xs j other).number ≡ get_or (map level_number xs) j 0
    read [] j inside = absurd (omega arith)
    read (x ∷ xs) zero inside = refl
    read (x ∷ xs) (suc j) inside = read xs j (omega arith)

-- ---- what the model reads at a number

told_there : {X Y : Type 0} (tell : X → Y) (xs : List X) (k : ℕ) (x : X) → k < length xs → x ≡ get_or xs k x → slice_get (map tell xs) k ≡ Some (tell x)
told_there tell [] k x below is = absurd (omega arith)
told_there tell (y ∷ xs) zero x below is = ap (λ z. Some (tell z)) (sym is)
told_there tell (y ∷ xs) (suc k) x below is = told_there tell xs k x (omega arith) is

-- the atom and the flow of a number
pub atom_there : (found : List AtomPlace) (k : ℕ) (atom : AtomPlace) → k < length found → atom ≡ get_or found k atom → slice_get (shown_atoms found) k ≡ Some (shown_atom atom)
atom_there found k atom below is = told_there shown_atom found k atom below is

pub level_there : (levels : List Level) (k : ℕ) (level : Level) → k < length levels → level ≡ get_or levels k level → slice_get (shown_levels levels) k ≡ Some (shown_level level)
level_there levels k level below is = told_there shown_level levels k level below is
