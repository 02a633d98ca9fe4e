-- The outline of a flow has its atoms and flows, by their numbers.
use Rattle.std.proofs.Common.{◌≡◌, ℕ, suc, ◌+◌, List, [], ◌∷◌, ◌++◌, map, filter, length, Bool, Option, Some, None, refl, sym, ap, ◌∙◌}
use Rattle.tf_flow.specs.declared.atoms.Task.{Task}
use Rattle.tf_flow.specs.declared.atoms.Retry.{Retry}
use Rattle.tf_flow.specs.Tree.{Place, at_retry, at_task, places, places_among, retry_places, is_atom, is_flow, is_retry_place, name_at, Tree, Trees, task, flow, no_trees, tree, tree_of}
use Rattle.tf_flow.specs.Plan.{PlanValue, atoms, retries, flows, paths, paths_to_flows}
use Rattle.tf_flow.specs.Outline.{Part, a_task, a_retry, Atom, FlowPlace, atoms_of, atoms_among, retry_atoms, enter, flows_of, flows_among, flow_count, atom_count, retry_count, name_of, is_retry_part, name_of_atom, is_retry_atom, atom_path, enter_path, flow_paths, flow_paths_among}
use Rattle.std.proofs.lemmas.List.{length-map}
use Rattle.tf_numbers.proofs.EquationLemmas.{ap2}
use Rattle.tf_numbers.proofs.ListLemmas.{map_append, filter_append, length_both}

-- what is told of the places that pass a test
abbrev told : {X : Type 0} → (Place → Bool) → (Place → X) → List Place → List X
told test say order = map say (filter test order)

told_both : {X : Type 0} (test : Place → Bool) (say : Place → X) (xs ys : List Place) → told test say (xs ++ ys) ≡ told test say xs ++ told test say ys
told_both test say xs ys = ap (map say) (filter_append test xs ys) ∙ map_append say (filter test xs) (filter test ys)

-- ---- atoms

module _ {X : Type 0} (of : Part → X) (say : Place → X) (task_same : (t : Task) → of (a_task t) ≡ say (at_task t)) (retry_same : (r : Retry) → of (a_retry r) ≡ say (at_retry r)) where
  abbrev tell : Atom → X
  tell atom = of atom.part

  map_entered : (g i : ℕ) (xs : List Atom) → map tell (map (enter g i) xs) ≡ map tell xs
  map_entered g i [] = refl
  map_entered g i (x ∷ xs) = ap (λ (zs : List X). of x.part ∷ zs) (map_entered g i xs)

  retry_told : (g : ℕ) (control : Option Retry) → map tell (retry_atoms g control) ≡ told is_atom say (retry_places control)
  retry_told g None = refl
  retry_told g (Some r) = ap (λ (x : X). x ∷ []) (retry_same r)

  mutual
    atoms_told : (t : Tree) (g : ℕ) → map tell (atoms_of g t) ≡ told is_atom say (places t)
    atoms_told (task t) g = ap (λ (x : X). x ∷ []) (task_same t)
    atoms_told (flow head items) g =
        map_append tell (retry_atoms g head.retry) (atoms_among g 0 (suc g) items)
        ∙ (ap (λ (zs : List X). zs ++ map tell (atoms_among g 0 (suc g) items)) (retry_told g head.retry)
        ∙ (ap (λ (zs : List X). told is_atom say (retry_places head.retry) ++ zs) (among_told items g 0 (suc g))
        ∙ sym (told_both is_atom say (retry_places head.retry) (places_among items))))

    among_told : (ts : Trees) (g i n : ℕ) → map tell (atoms_among g i n ts) ≡ told is_atom say (places_among ts)
    among_told no_trees g i n = refl
    among_told (tree first others) g i n =
        map_append tell (map (enter g i) (atoms_of n first)) (atoms_among g (suc i) (n + flow_count first) others)
        ∙ (ap (λ (zs : List X). zs ++ map tell (atoms_among g (suc i) (n + flow_count first) others)) (map_entered g i (atoms_of n first) ∙ atoms_told first n)
        ∙ (ap (λ (zs : List X). told is_atom say (places first) ++ zs) (among_told others g (suc i) (n + flow_count first))
        ∙ sym (told_both is_atom say (places first) (places_among others))))

-- ---- flows

abbrev pub place_name : FlowPlace → List ℕ
place_name place = place.name

no_flows : (control : Option Retry) (order : List Place) → told is_flow name_at (retry_places control ++ order) ≡ told is_flow name_at order
no_flows None order = refl
no_flows (Some r) order = refl

mutual
  pub flows_told : (t : Tree) (g a : ℕ) → map place_name (flows_of g a t) ≡ told is_flow name_at (places t)
  flows_told (task t) g a = refl
  flows_told (flow head items) g a = ap (λ (zs : List (List ℕ)). head.name ∷ zs) (flows_among_told items (suc g) (a + retry_count head.retry) ∙ sym (no_flows head.retry (places_among items)))

  flows_among_told : (ts : Trees) (n a : ℕ) → map place_name (flows_among n a ts) ≡ told is_flow name_at (places_among ts)
  flows_among_told no_trees n a = refl
  flows_among_told (tree first others) n a =
      map_append place_name (flows_of n a first) (flows_among (n + flow_count first) (a + atom_count first) others)
      ∙ (ap (λ (zs : List (List ℕ)). zs ++ map place_name (flows_among (n + flow_count first) (a + atom_count first) others)) (flows_told first n a)
      ∙ (ap (λ (zs : List (List ℕ)). told is_flow name_at (places first) ++ zs) (flows_among_told others (n + flow_count first) (a + atom_count first))
      ∙ sym (told_both is_flow name_at (places first) (places_among others))))

-- ---- the numbers of a plan

pub same_atoms : (plan : PlanValue) → map name_of_atom (atoms_of 0 (tree_of plan.root)) ≡ atoms plan
same_atoms plan = atoms_told name_of name_at (λ t. refl) (λ r. refl) (tree_of plan.root) 0

pub same_retries : (plan : PlanValue) → map is_retry_atom (atoms_of 0 (tree_of plan.root)) ≡ retries plan
same_retries plan = atoms_told is_retry_part is_retry_place (λ t. refl) (λ r. refl) (tree_of plan.root) 0

-- there are as many paths as atoms
pub as_many_paths : (plan : PlanValue) → length (paths plan) ≡ length (atoms plan)
as_many_paths plan =
    length-map (atoms_of 0 (tree_of plan.root)) atom_path
    ∙ (sym (length-map (atoms_of 0 (tree_of plan.root)) name_of_atom) ∙ ap length (same_atoms plan))

-- and as many as flows
mutual
  paths_counted : (t : Tree) (g a : ℕ) → length (flow_paths g t) ≡ length (flows_of g a t)
  paths_counted (task t) g a = refl
  paths_counted (flow head items) g a = ap suc (paths_among_counted items g 0 (suc g) (a + retry_count head.retry))

  paths_among_counted : (ts : Trees) (g i n a : ℕ) → length (flow_paths_among g i n ts) ≡ length (flows_among n a ts)
  paths_among_counted no_trees g i n a = refl
  paths_among_counted (tree first others) g i n a =
      length_both (map (enter_path g i) (flow_paths n first)) (flow_paths_among g (suc i) (n + flow_count first) others)
      ∙ (ap2 ◌+◌ (length-map (flow_paths n first) (enter_path g i) ∙ paths_counted first n a) (paths_among_counted others g (suc i) (n + flow_count first) (a + atom_count first))
      ∙ sym (length_both (flows_of n a first) (flows_among (n + flow_count first) (a + atom_count first) others)))

pub as_many_paths_to_flows : (plan : PlanValue) → length (paths_to_flows plan) ≡ length (flows plan)
as_many_paths_to_flows plan =
    paths_counted (tree_of plan.root) 0 0
    ∙ (sym (length-map (flows_of 0 0 (tree_of plan.root)) place_name) ∙ ap length (flows_told (tree_of plan.root) 0 0))
