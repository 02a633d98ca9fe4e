-- The paths to what stands in a flow, one item at a time.
use Rattle.std.proofs.Common.{◌≡◌, ℕ, zero, suc, ◌+◌, ◌<◌, ◌≤◌, List, [], ◌∷◌, ◌++◌, map, length, drop, Option, Some, None, refl, sym, ap, ◌∙◌, add-one, subst, arith, get_or, slice_get}
use Rattle.std.specs.Prelude.{option_map}
use Rattle.std.proofs.lemmas.List.{length-map}
use Rattle.tf_numbers.proofs.EquationLemmas.{ap2}
use Rattle.tf_numbers.proofs.ListLemmas.{nothing_after, append_chain, map_append, length_both, drop_first, drop_whole}
use Rattle.tf_flow.specs.declared.atoms.Retry.{Retry}
use Rattle.tf_flow.specs.declared.nested.Flow.{Flow as FlowValue}
use Rattle.tf_flow.specs.declared.nested.Item.{Item}
use Rattle.tf_flow.specs.Tree.{Tree, Trees, task, flow, no_trees, tree, tree_of, item_tree, trees_of, Head}
use Rattle.tf_flow.specs.Outline.{Part, a_retry, Atom, atoms_of, atoms_among, retry_atoms, enter, atom_path, part_of, enter_path, flow_paths, flow_paths_among, flow_trees, flow_trees_among, flow_count, flows_among_count}
use Rattle.tf_flow.specs.declared.paths.Turn.{Turn}
use Rattle.tf_flow.specs.Paths.{tree_in, part_at, part_on, part_by, flow_at_end, flow_on, flow_by}
use Rattle.tf_flow.proofs.TreeLemmas.{tree_of-flow}

-- ---- as many as are counted

mutual
  length_paths_at : (t : Tree) (g : ℕ) → length (flow_paths g t) ≡ flow_count t
  length_paths_at (task t) g = refl
  length_paths_at (flow head items) g = omega (arith, length_paths_among items g 0 (suc g))

  length_paths_among : (ts : Trees) (g i n : ℕ) → length (flow_paths_among g i n ts) ≡ flows_among_count ts
  length_paths_among no_trees g i n = refl
  length_paths_among (tree first others) g i n =
      length_both (map (enter_path g i) (flow_paths n first)) (flow_paths_among g (suc i) (n + flow_count first) others)
      ∙ ap2 ◌+◌ (length-map (flow_paths n first) (enter_path g i) ∙ length_paths_at first n) (length_paths_among others g (suc i) (n + flow_count first))

-- ---- the walk

-- a path before others
abbrev pub under : List Turn → List Turn → List Turn
under path rest = path ++ rest

-- the trees of items
abbrev pub trees : List Item → Trees
trees items = trees_of (map item_tree items)

-- the paths to the atoms of a tree
abbrev pub paths_of : List Atom → List (List Turn)
paths_of atoms = map atom_path atoms

under_longer : (path : List Turn) (g i : ℕ) (xs : List (List Turn)) → map (under path) (map (enter_path g i) xs) ≡ map (under (path ++ record { flow = g; item = Some i } ∷ [])) xs
under_longer path g i [] = refl
under_longer path g i (x ∷ xs) = ap2 (λ (y : List Turn) (ys : List (List Turn)). y ∷ ys) (sym (append_chain path (record { flow = g; item = Some i } ∷ []) x)) (under_longer path g i xs)

entered_paths : (g i : ℕ) (xs : List Atom) → paths_of (map (enter g i) xs) ≡ map (enter_path g i) (paths_of xs)
entered_paths g i [] = refl
entered_paths g i (x ∷ xs) = ap (λ (ys : List (List Turn)). enter_path g i x.path ∷ ys) (entered_paths g i xs)

atoms_split : (path : List Turn) (g i n : ℕ) (t : Tree) (ts : Trees)
    → map (under path) (paths_of (atoms_among g i n (tree t ts)))
    ≡ map (under (path ++ record { flow = g; item = Some i } ∷ [])) (paths_of (atoms_of n t)) ++ map (under path) (paths_of (atoms_among g (suc i) (n + flow_count t) ts))
atoms_split path g i n t ts =
    ap (map (under path)) (map_append atom_path (map (enter g i) (atoms_of n t)) (atoms_among g (suc i) (n + flow_count t) ts) ∙ ap (λ (ys : List (List Turn)). ys ++ paths_of (atoms_among g (suc i) (n + flow_count t) ts)) (entered_paths g i (atoms_of n t)))
    ∙ (map_append (under path) (map (enter_path g i) (paths_of (atoms_of n t))) (paths_of (atoms_among g (suc i) (n + flow_count t) ts))
    ∙ ap (λ (ys : List (List Turn)). ys ++ map (under path) (paths_of (atoms_among g (suc i) (n + flow_count t) ts))) (under_longer path g i (paths_of (atoms_of n t))))

flows_split : (path : List Turn) (g i n : ℕ) (t : Tree) (ts : Trees)
    → map (under path) (flow_paths_among g i n (tree t ts))
    ≡ map (under (path ++ record { flow = g; item = Some i } ∷ [])) (flow_paths n t) ++ map (under path) (flow_paths_among g (suc i) (n + flow_count t) ts)
flows_split path g i n t ts =
    map_append (under path) (map (enter_path g i) (flow_paths n t)) (flow_paths_among g (suc i) (n + flow_count t) ts)
    ∙ ap (λ (ys : List (List Turn)). ys ++ map (under path) (flow_paths_among g (suc i) (n + flow_count t) ts)) (under_longer path g i (flow_paths n t))

-- where the walk over the items of flow g stands: what is there, followed by what the other items add, is
-- the whole
pub record Walked (path : List Turn) (g i : ℕ) (rest : List Item) (atoms flows all_atoms all_flows : List (List Turn)) : Type 0 where
  pub atoms_so : atoms ++ map (under path) (paths_of (atoms_among g i (length flows) (trees rest))) ≡ all_atoms
  pub flows_so : flows ++ map (under path) (flow_paths_among g i (length flows) (trees rest)) ≡ all_flows

next_walked : (path : List Turn) (g i : ℕ) (first : Item) (rest : List Item) (atoms new_atoms flows new_flows all_atoms all_flows : List (List Turn))
    → Walked path g i (first ∷ rest) atoms flows all_atoms all_flows
    → new_atoms ≡ atoms ++ map (under (path ++ record { flow = g; item = Some i } ∷ [])) (paths_of (atoms_of (length flows) (item_tree first)))
    → new_flows ≡ flows ++ map (under (path ++ record { flow = g; item = Some i } ∷ [])) (flow_paths (length flows) (item_tree first))
    → Walked path g (suc i) rest new_atoms new_flows all_atoms all_flows
next_walked path g i first rest atoms new_atoms flows new_flows all_atoms all_flows is atoms_are flows_are =
    let n = length flows in
    let t = item_tree first in
    let below = path ++ record { flow = g; item = Some i } ∷ [] in
    let more : length new_flows ≡ n + flow_count t =
    ap length flows_are ∙ (length_both flows (map (under below) (flow_paths n t)) ∙ ap (λ (k : ℕ). n + k) (length-map (flow_paths n t) (under below) ∙ length_paths_at t n)) in
    record {
      atoms_so =
          ap2 (λ (xs : List (List Turn)) (m : ℕ). xs ++ map (under path) (paths_of (atoms_among g (suc i) m (trees rest)))) atoms_are more
          ∙ (append_chain atoms (map (under below) (paths_of (atoms_of n t))) (map (under path) (paths_of (atoms_among g (suc i) (n + flow_count t) (trees rest))))
          ∙ (ap (λ (ys : List (List Turn)). atoms ++ ys) (sym (atoms_split path g i n t (trees rest)))
          ∙ is.atoms_so));
      flows_so =
          ap2 (λ (xs : List (List Turn)) (m : ℕ). xs ++ map (under path) (flow_paths_among g (suc i) m (trees rest))) flows_are more
          ∙ (append_chain flows (map (under below) (flow_paths n t)) (map (under path) (flow_paths_among g (suc i) (n + flow_count t) (trees rest)))
          ∙ (ap (λ (ys : List (List Turn)). flows ++ ys) (sym (flows_split path g i n t (trees rest)))
          ∙ is.flows_so));
    }

-- where the walk over a flow stands, after so many of its items
abbrev pub WalkedFlow : List Turn → FlowValue → ℕ → List (List Turn) → List (List Turn) → ℕ → List (List Turn) → List (List Turn) → Type 0
WalkedFlow path f g old_atoms old_flows i atoms flows =
    Walked path g i (drop i f.items.items.items) atoms flows
    (old_atoms ++ map (under path) (paths_of (atoms_of g (tree_of f))))
    (old_flows ++ map (under path) (flow_paths g (tree_of f)))

pub walk_next : (path : List Turn) (f : FlowValue) (g i : ℕ) (first : Item) (read : List Item) (old_atoms atoms new_atoms old_flows flows new_flows : List (List Turn))
    → WalkedFlow path f g old_atoms old_flows i atoms flows
    → read ≡ f.items.items.items → i < length read → first ≡ get_or read i first
    → new_atoms ≡ atoms ++ map (under (path ++ record { flow = g; item = Some i } ∷ [])) (paths_of (atoms_of (length flows) (item_tree first)))
    → new_flows ≡ flows ++ map (under (path ++ record { flow = g; item = Some i } ∷ [])) (flow_paths (length flows) (item_tree first))
    → WalkedFlow path f g old_atoms old_flows (i + 1) new_atoms new_flows
walk_next path f g i first read old_atoms atoms new_atoms old_flows flows new_flows is whole below read_is atoms_are flows_are =
    let items = f.items.items.items in
    let all_atoms = old_atoms ++ map (under path) (paths_of (atoms_of g (tree_of f))) in
    let all_flows = old_flows ++ map (under path) (flow_paths g (tree_of f)) in
    let below_items : i < length items = rw (sym whole) below in
    let next : drop i items ≡ first ∷ drop (suc i) items = drop_first items i first below_items ∙ ap (λ (x : Item). x ∷ drop (suc i) items) (ap (λ (xs : List Item). get_or xs i first) (sym whole) ∙ sym read_is) in
    rw (add-one i)
    (next_walked path g i first (drop (suc i) items) atoms new_atoms flows new_flows all_atoms all_flows
    (subst (λ (rest : List Item). Walked path g i rest atoms flows all_atoms all_flows) next is)
    atoms_are flows_are)

-- the walk over a flow begins after the flow itself and its retry controller
pub walk_start : (path : List Turn) (f : FlowValue) (g : ℕ) (old_atoms atoms old_flows flows : List (List Turn)) → g ≡ length old_flows → flows ≡ old_flows ++ path ∷ []
    → atoms ≡ old_atoms ++ map (under path) (paths_of (retry_atoms g f.retry)) → WalkedFlow path f g old_atoms old_flows 0 atoms flows
walk_start path f g old_atoms atoms old_flows flows g_is flows_are atoms_are =
    let ts = trees f.items.items.items in
    let more : length flows ≡ suc g = ap length flows_are ∙ (length_both old_flows (path ∷ []) ∙ omega (arith, g_is)) in
    record {
      atoms_so =
          ap2 (λ (xs : List (List Turn)) (m : ℕ). xs ++ map (under path) (paths_of (atoms_among g 0 m ts))) atoms_are more
          ∙ (append_chain old_atoms (map (under path) (paths_of (retry_atoms g f.retry))) (map (under path) (paths_of (atoms_among g 0 (suc g) ts)))
          ∙ (ap (λ (ys : List (List Turn)). old_atoms ++ ys) (sym (map_append (under path) (paths_of (retry_atoms g f.retry)) (paths_of (atoms_among g 0 (suc g) ts))))
          ∙ (ap (λ (ys : List (List Turn)). old_atoms ++ map (under path) ys) (sym (map_append atom_path (retry_atoms g f.retry) (atoms_among g 0 (suc g) ts)))
          ∙ ap (λ (t : Tree). old_atoms ++ map (under path) (paths_of (atoms_of g t))) (sym (tree_of-flow f)))));
      flows_so =
          ap2 (λ (xs : List (List Turn)) (m : ℕ). xs ++ map (under path) (flow_paths_among g 0 m ts)) flows_are more
          ∙ (append_chain old_flows (path ∷ []) (map (under path) (flow_paths_among g 0 (suc g) ts))
          ∙ (ap (λ (w : List Turn). old_flows ++ w ∷ map (under path) (flow_paths_among g 0 (suc g) ts)) (sym (nothing_after path))
          ∙ ap (λ (t : Tree). old_flows ++ map (under path) (flow_paths g t)) (sym (tree_of-flow f))));
    }

-- and ends with the whole
module _ (path : List Turn) (f : FlowValue) (g i : ℕ) (old_atoms atoms old_flows flows : List (List Turn)) (read : List Item)
    (is : WalkedFlow path f g old_atoms old_flows i atoms flows) (same : read ≡ f.items.items.items) (whole : length read ≤ i) where
  rest_none : drop i f.items.items.items ≡ []
  rest_none = drop_whole f.items.items.items i (subst (λ (xs : List Item). length xs ≤ i) same whole)

  pub walk_atoms : atoms ≡ old_atoms ++ map (under path) (paths_of (atoms_of g (tree_of f)))
  walk_atoms =
      sym (nothing_after atoms)
      ∙ (ap (λ (xs : List Item). atoms ++ map (under path) (paths_of (atoms_among g i (length flows) (trees xs)))) (sym rest_none)
      ∙ is.atoms_so)

  pub walk_flows : flows ≡ old_flows ++ map (under path) (flow_paths g (tree_of f))
  walk_flows =
      sym (nothing_after flows)
      ∙ (ap (λ (xs : List Item). flows ++ map (under path) (flow_paths_among g i (length flows) (trees xs))) (sym rest_none)
      ∙ is.flows_so)

-- ---- what a path leads to

-- the tree of an item at a place
pub tree_there : (items : List Item) (i : ℕ) → tree_in (trees items) i ≡ option_map item_tree (slice_get items i)
tree_there [] i = refl
tree_there (item ∷ items) zero = refl
tree_there (item ∷ items) (suc i) = tree_there items i

-- a turn and the rest of a path from a flow
part_turn : (f : FlowValue) (turn : Turn) (rest : List Turn) → part_at (tree_of f) (turn ∷ rest) ≡ part_by f.retry turn.item (λ k. part_on (option_map item_tree (slice_get f.items.items.items k)) rest)
part_turn f turn rest = ap (λ (t : Tree). part_at t (turn ∷ rest)) (tree_of-flow f) ∙ by_place turn.item
  where
    by_place : (p : Option ℕ) → part_by f.retry p (λ k. part_on (tree_in (trees f.items.items.items) k) rest) ≡ part_by f.retry p (λ k. part_on (option_map item_tree (slice_get f.items.items.items k)) rest)
    by_place None = refl
    by_place (Some k) = ap (λ (o : Option Tree). part_on o rest) (tree_there f.items.items.items k)

flow_turn : (f : FlowValue) (turn : Turn) (rest : List Turn) → flow_at_end (tree_of f) (turn ∷ rest) ≡ flow_by turn.item (λ k. flow_on (option_map item_tree (slice_get f.items.items.items k)) rest)
flow_turn f turn rest = ap (λ (t : Tree). flow_at_end t (turn ∷ rest)) (tree_of-flow f) ∙ by_place turn.item
  where
    by_place : (p : Option ℕ) → flow_by p (λ k. flow_on (tree_in (trees f.items.items.items) k) rest) ≡ flow_by p (λ k. flow_on (option_map item_tree (slice_get f.items.items.items k)) rest)
    by_place None = refl
    by_place (Some k) = ap (λ (o : Option Tree). flow_on o rest) (tree_there f.items.items.items k)

pub part_retry : (f : FlowValue) (turn : Turn) (path rest : List Turn) → path ≡ turn ∷ rest → turn.item ≡ None → part_at (tree_of f) path ≡ option_map a_retry f.retry
part_retry f turn path rest is takes = ap (part_at (tree_of f)) is ∙ (part_turn f turn rest ∙ ap (λ (p : Option ℕ). part_by f.retry p (λ k. part_on (option_map item_tree (slice_get f.items.items.items k)) rest)) takes)

pub part_item : (f : FlowValue) (turn : Turn) (path rest : List Turn) (place : ℕ) (item : Item) → path ≡ turn ∷ rest → turn.item ≡ Some place → slice_get f.items.items.items place ≡ Some item → part_at (tree_of f) path ≡ part_at (item_tree item) rest
part_item f turn path rest place item is takes there =
    ap (part_at (tree_of f)) is ∙ (part_turn f turn rest ∙ (ap (λ (p : Option ℕ). part_by f.retry p (λ k. part_on (option_map item_tree (slice_get f.items.items.items k)) rest)) takes
    ∙ ap (λ (o : Option Item). part_on (option_map item_tree o) rest) there))

pub part_nowhere : (f : FlowValue) (path : List Turn) → path ≡ [] → part_at (tree_of f) path ≡ None
part_nowhere f path is = ap (part_at (tree_of f)) is ∙ ap (λ (t : Tree). part_at t []) (tree_of-flow f)

pub part_no_item : (f : FlowValue) (turn : Turn) (path rest : List Turn) (place : ℕ) → path ≡ turn ∷ rest → turn.item ≡ Some place → slice_get f.items.items.items place ≡ None → part_at (tree_of f) path ≡ None
part_no_item f turn path rest place is takes there =
    ap (part_at (tree_of f)) is ∙ (part_turn f turn rest ∙ (ap (λ (p : Option ℕ). part_by f.retry p (λ k. part_on (option_map item_tree (slice_get f.items.items.items k)) rest)) takes
    ∙ ap (λ (o : Option Item). part_on (option_map item_tree o) rest) there))

pub flow_here : (f : FlowValue) (path : List Turn) → path ≡ [] → flow_at_end (tree_of f) path ≡ Some (tree_of f)
flow_here f path is = ap (flow_at_end (tree_of f)) is ∙ (ap (λ (t : Tree). flow_at_end t []) (tree_of-flow f) ∙ ap Some (sym (tree_of-flow f)))

pub flow_nowhere : (f : FlowValue) (turn : Turn) (path rest : List Turn) → path ≡ turn ∷ rest → turn.item ≡ None → flow_at_end (tree_of f) path ≡ None
flow_nowhere f turn path rest is takes = ap (flow_at_end (tree_of f)) is ∙ (flow_turn f turn rest ∙ ap (λ (p : Option ℕ). flow_by p (λ k. flow_on (option_map item_tree (slice_get f.items.items.items k)) rest)) takes)

pub flow_item : (f : FlowValue) (turn : Turn) (path rest : List Turn) (place : ℕ) (item : Item) → path ≡ turn ∷ rest → turn.item ≡ Some place → slice_get f.items.items.items place ≡ Some item → flow_at_end (tree_of f) path ≡ flow_at_end (item_tree item) rest
flow_item f turn path rest place item is takes there =
    ap (flow_at_end (tree_of f)) is ∙ (flow_turn f turn rest ∙ (ap (λ (p : Option ℕ). flow_by p (λ k. flow_on (option_map item_tree (slice_get f.items.items.items k)) rest)) takes
    ∙ ap (λ (o : Option Item). flow_on (option_map item_tree o) rest) there))

pub flow_no_item : (f : FlowValue) (turn : Turn) (path rest : List Turn) (place : ℕ) → path ≡ turn ∷ rest → turn.item ≡ Some place → slice_get f.items.items.items place ≡ None → flow_at_end (tree_of f) path ≡ None
flow_no_item f turn path rest place is takes there =
    ap (flow_at_end (tree_of f)) is ∙ (flow_turn f turn rest ∙ (ap (λ (p : Option ℕ). flow_by p (λ k. flow_on (option_map item_tree (slice_get f.items.items.items k)) rest)) takes
    ∙ ap (λ (o : Option Item). flow_on (option_map item_tree o) rest) there))

-- ---- the whole flow

under_none : (xs : List (List Turn)) → map (under []) xs ≡ xs
under_none [] = refl
under_none (x ∷ xs) = ap (λ (ys : List (List Turn)). x ∷ ys) (under_none xs)

pub all_under : (f : FlowValue) (old new old_flows : List (List Turn)) → old ≡ [] → old_flows ≡ [] → new ≡ old ++ map (under []) (paths_of (atoms_of (length old_flows) (tree_of f))) → new ≡ paths_of (atoms_of 0 (tree_of f))
all_under f old new old_flows none no_flows is =
    is ∙ (ap2 (λ (xs ys : List (List Turn)). xs ++ map (under []) (paths_of (atoms_of (length ys) (tree_of f)))) none no_flows ∙ under_none (paths_of (atoms_of 0 (tree_of f))))

pub all_under_flows : (f : FlowValue) (old new : List (List Turn)) → old ≡ [] → new ≡ old ++ map (under []) (flow_paths (length old) (tree_of f)) → new ≡ flow_paths 0 (tree_of f)
all_under_flows f old new none is =
    is ∙ (ap (λ (xs : List (List Turn)). xs ++ map (under []) (flow_paths (length xs) (tree_of f))) none ∙ under_none (flow_paths 0 (tree_of f)))

-- ---- each path leads to its atom

-- of each of the atoms its path leads to what it is
abbrev EachLeads : Tree → List Atom → Type 0
EachLeads t [] = Unit {0}
EachLeads t (x ∷ xs) = (part_at t x.path ≡ Some x.part) × EachLeads t xs

leads_both : (t : Tree) (xs ys : List Atom) → EachLeads t xs → EachLeads t ys → EachLeads t (xs ++ ys)
leads_both t [] ys first second = second
leads_both t (x ∷ xs) ys first second = (first.0, leads_both t xs ys first.1 second)

leads_entered : (head : Head) (whole : Trees) (g i : ℕ) (t : Tree) (xs : List Atom) → tree_in whole i ≡ Some t → EachLeads t xs → EachLeads (flow head whole) (map (enter g i) xs)
leads_entered head whole g i t [] there each = tt
leads_entered head whole g i t (x ∷ xs) there each = (ap (λ (o : Option Tree). part_on o x.path) there ∙ each.0, leads_entered head whole g i t xs there each.1)

leads_retry : (head : Head) (whole : Trees) (g : ℕ) → EachLeads (flow head whole) (retry_atoms g head.retry)
leads_retry head whole g = by head.retry refl
  where
    by : (o : Option Retry) → head.retry ≡ o → EachLeads (flow head whole) (retry_atoms g o)
    by None is = tt
    by (Some r) is = (ap (option_map a_retry) is, tt)

mutual
  each_leads : (t : Tree) (g : ℕ) → EachLeads t (atoms_of g t)
  each_leads (task t) g = (refl, tt)
  each_leads (flow head items) g = leads_both (flow head items) (retry_atoms g head.retry) (atoms_among g 0 (suc g) items) (leads_retry head items g) (each_among head items items g 0 (suc g) (λ k. ap (tree_in items) (omega arith)))

  each_among : (head : Head) (whole ts : Trees) (g i n : ℕ) → ((k : ℕ) → tree_in whole (i + k) ≡ tree_in ts k) → EachLeads (flow head whole) (atoms_among g i n ts)
  each_among head whole no_trees g i n there = tt
  each_among head whole (tree first others) g i n there =
      let zero_more : i + 0 ≡ i = omega arith in
      leads_both (flow head whole) (map (enter g i) (atoms_of n first)) (atoms_among g (suc i) (n + flow_count first) others)
      (leads_entered head whole g i first (atoms_of n first) (ap (tree_in whole) (sym zero_more) ∙ there 0) (each_leads first n))
      (each_among head whole others g (suc i) (n + flow_count first) (λ k. let e : suc i + k ≡ i + suc k = omega arith in ap (tree_in whole) e ∙ there (suc k)))

leads_at : (t : Tree) (xs : List Atom) (k : ℕ) (path : List Turn) → EachLeads t xs → slice_get (paths_of xs) k ≡ Some path → option_map part_of (slice_get xs k) ≡ part_at t path
leads_at t [] k path each is = absurd (cc)
leads_at t (x ∷ xs) zero path each is = let same : x.path ≡ path = cc in sym (ap (part_at t) (sym same) ∙ each.0)
leads_at t (x ∷ xs) (suc k) path each is = leads_at t xs k path each.1 is

pub part_there : (f : FlowValue) (k : ℕ) (path : List Turn) → slice_get (paths_of (atoms_of 0 (tree_of f))) k ≡ Some path → option_map part_of (slice_get (atoms_of 0 (tree_of f)) k) ≡ part_at (tree_of f) path
part_there f k path is = leads_at (tree_of f) (atoms_of 0 (tree_of f)) k path (each_leads (tree_of f) 0) is

-- ---- and to its flow

abbrev EachFlow : Tree → List (List Turn) → List Tree → Type 0
EachFlow t [] [] = Unit {0}
EachFlow t [] (x ∷ xs) = ⊥
EachFlow t (w ∷ ws) [] = ⊥
EachFlow t (w ∷ ws) (x ∷ xs) = (flow_at_end t w ≡ Some x) × EachFlow t ws xs

flow_both : (t : Tree) (vs ws : List (List Turn)) (xs ys : List Tree) → EachFlow t vs xs → EachFlow t ws ys → EachFlow t (vs ++ ws) (xs ++ ys)
flow_both t [] ws [] ys first second = second
flow_both t [] ws (x ∷ xs) ys first second = absurd first
flow_both t (v ∷ vs) ws [] ys first second = absurd first
flow_both t (v ∷ vs) ws (x ∷ xs) ys first second = (first.0, flow_both t vs ws xs ys first.1 second)

flow_entered : (head : Head) (whole : Trees) (g i : ℕ) (t : Tree) (ws : List (List Turn)) (xs : List Tree) → tree_in whole i ≡ Some t → EachFlow t ws xs → EachFlow (flow head whole) (map (enter_path g i) ws) xs
flow_entered head whole g i t [] [] there each = tt
flow_entered head whole g i t [] (x ∷ xs) there each = absurd each
flow_entered head whole g i t (w ∷ ws) [] there each = absurd each
flow_entered head whole g i t (w ∷ ws) (x ∷ xs) there each = (ap (λ (o : Option Tree). flow_on o w) there ∙ each.0, flow_entered head whole g i t ws xs there each.1)

mutual
  each_flow : (t : Tree) (g : ℕ) → EachFlow t (flow_paths g t) (flow_trees t)
  each_flow (task t) g = tt
  each_flow (flow head items) g = (refl, each_flow_among head items items g 0 (suc g) (λ k. ap (tree_in items) (omega arith)))

  each_flow_among : (head : Head) (whole ts : Trees) (g i n : ℕ) → ((k : ℕ) → tree_in whole (i + k) ≡ tree_in ts k) → EachFlow (flow head whole) (flow_paths_among g i n ts) (flow_trees_among ts)
  each_flow_among head whole no_trees g i n there = tt
  each_flow_among head whole (tree first others) g i n there =
      let zero_more : i + 0 ≡ i = omega arith in
      flow_both (flow head whole) (map (enter_path g i) (flow_paths n first)) (flow_paths_among g (suc i) (n + flow_count first) others) (flow_trees first) (flow_trees_among others)
      (flow_entered head whole g i first (flow_paths n first) (flow_trees first) (ap (tree_in whole) (sym zero_more) ∙ there 0) (each_flow first n))
      (each_flow_among head whole others g (suc i) (n + flow_count first) (λ k. let e : suc i + k ≡ i + suc k = omega arith in ap (tree_in whole) e ∙ there (suc k)))

flow_leads_at : (t : Tree) (ws : List (List Turn)) (xs : List Tree) (k : ℕ) (path : List Turn) → EachFlow t ws xs → slice_get ws k ≡ Some path → slice_get xs k ≡ flow_at_end t path
flow_leads_at t [] xs k path each is = absurd (cc)
flow_leads_at t (w ∷ ws) [] k path each is = absurd each
flow_leads_at t (w ∷ ws) (x ∷ xs) zero path each is = let same : w ≡ path = cc in sym (ap (flow_at_end t) (sym same) ∙ each.0)
flow_leads_at t (w ∷ ws) (x ∷ xs) (suc k) path each is = flow_leads_at t ws xs k path each.1 is

pub flow_there : (f : FlowValue) (k : ℕ) (path : List Turn) → slice_get (flow_paths 0 (tree_of f)) k ≡ Some path → slice_get (flow_trees (tree_of f)) k ≡ flow_at_end (tree_of f) path
flow_there f k path is = flow_leads_at (tree_of f) (flow_paths 0 (tree_of f)) (flow_trees (tree_of f)) k path (each_flow (tree_of f) 0) is

-- ---- what is read at a number

pub path_read : (paths : List (List Turn)) (k : ℕ) (path : List Turn) → k < length paths → path ≡ get_or paths k path → slice_get paths k ≡ Some path
path_read [] k path below is = absurd (omega arith)
path_read (w ∷ ws) zero path below is = ap Some (sym is)
path_read (w ∷ ws) (suc k) path below is = path_read ws k path (omega arith) is

some_part : (t : Tree) (xs : List Atom) (k : ℕ) (path : List Turn) → EachLeads t xs → slice_get (paths_of xs) k ≡ Some path → (p : Part) × (part_at t path ≡ Some p)
some_part t [] k path each is = absurd (cc)
some_part t (x ∷ xs) zero path each is = let same : x.path ≡ path = cc in (x.part, ap (part_at t) (sym same) ∙ each.0)
some_part t (x ∷ xs) (suc k) path each is = some_part t xs k path each.1 is

pub paths_there : (f : FlowValue) (k : ℕ) (path : List Turn) → slice_get (paths_of (atoms_of 0 (tree_of f))) k ≡ Some path → (p : Part) × (part_at (tree_of f) path ≡ Some p)
paths_there f k path is = some_part (tree_of f) (atoms_of 0 (tree_of f)) k path (each_leads (tree_of f) 0) is

some_flow : (t : Tree) (ws : List (List Turn)) (xs : List Tree) (k : ℕ) (path : List Turn) → EachFlow t ws xs → slice_get ws k ≡ Some path → (found : Tree) × (flow_at_end t path ≡ Some found)
some_flow t [] xs k path each is = absurd (cc)
some_flow t (w ∷ ws) [] k path each is = absurd each
some_flow t (w ∷ ws) (x ∷ xs) zero path each is = let same : w ≡ path = cc in (x, ap (flow_at_end t) (sym same) ∙ each.0)
some_flow t (w ∷ ws) (x ∷ xs) (suc k) path each is = some_flow t ws xs k path each.1 is

pub flows_there : (f : FlowValue) (k : ℕ) (path : List Turn) → slice_get (flow_paths 0 (tree_of f)) k ≡ Some path → (found : Tree) × (flow_at_end (tree_of f) path ≡ Some found)
flows_there f k path is = some_flow (tree_of f) (flow_paths 0 (tree_of f)) (flow_trees (tree_of f)) k path (each_flow (tree_of f) 0) is
