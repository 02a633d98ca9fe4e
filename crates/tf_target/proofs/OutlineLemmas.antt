-- What a run reads of a flow, by what is written of it.
use Rattle.std.proofs.Common.{◌≡◌, ◌∙◌, ℕ, suc, ◌+◌, List, [], ◌∷◌, ◌++◌, map, refl, ap, sym}
use Rattle.tf_flow.specs.Outline.{Atom, a_task, stands_task, stands_flow, Item, FlowPlace, flow_count, flows_among_count, retry_count, atom_count, atoms_among_count, enter, retry_atoms, atoms_of, atoms_among, retry_number, item_of, items_of, flows_of, flows_among, innermost_first, innermost_among}
use Rattle.tf_flow.specs.Tree.{Tree, task, flow, Trees, no_trees, tree}
use Rattle.tf_flow.specs.Plan.{WrittenHead, WrittenTree, written_task, written_flow, WrittenTrees, nothing_written, written, as_written, all_as_written, head_as_written}

-- ---- by what is written

abbrev mutual
  written_flow_count : WrittenTree → ℕ
  written_flow_count (written_task t) = 0
  written_flow_count (written_flow head items) = 1 + all_flow_count items

  all_flow_count : WrittenTrees → ℕ
  all_flow_count nothing_written = 0
  all_flow_count (written first others) = written_flow_count first + all_flow_count others

abbrev mutual
  pub written_atom_count : WrittenTree → ℕ
  written_atom_count (written_task t) = 1
  written_atom_count (written_flow head items) = retry_count head.retry + all_atom_count items

  all_atom_count : WrittenTrees → ℕ
  all_atom_count nothing_written = 0
  all_atom_count (written first others) = written_atom_count first + all_atom_count others

abbrev mutual
  written_atoms : ℕ → WrittenTree → List Atom
  written_atoms g (written_task t) = record { path = []; part = a_task t } ∷ []
  written_atoms g (written_flow head items) = retry_atoms g head.retry ++ all_atoms g 0 (suc g) items

  all_atoms : ℕ → ℕ → ℕ → WrittenTrees → List Atom
  all_atoms g i n nothing_written = []
  all_atoms g i n (written first others) = map (enter g i) (written_atoms n first) ++ all_atoms g (suc i) (n + written_flow_count first) others

abbrev written_item : ℕ → ℕ → WrittenTree → Item
written_item n a (written_task t) = record { name = t.name; standing = stands_task a }
written_item n a (written_flow head items) = record { name = head.name; standing = stands_flow n }

abbrev written_items : ℕ → ℕ → WrittenTrees → List Item
written_items n a nothing_written = []
written_items n a (written first others) = written_item n a first ∷ written_items (n + written_flow_count first) (a + written_atom_count first) others

abbrev written_place : ℕ → ℕ → WrittenHead → WrittenTrees → FlowPlace
written_place g a head items = record {
  number = g;
  name = head.name;
  kind = head.kind;
  retry = retry_number a head.retry;
  control = head.retry;
  items = written_items (suc g) (a + retry_count head.retry) items;
  links = head.links;
}

abbrev mutual
  written_flows : ℕ → ℕ → WrittenTree → List FlowPlace
  written_flows g a (written_task t) = []
  written_flows g a (written_flow head items) = written_place g a head items ∷ all_flows (suc g) (a + retry_count head.retry) items

  all_flows : ℕ → ℕ → WrittenTrees → List FlowPlace
  all_flows n a nothing_written = []
  all_flows n a (written first others) = written_flows n a first ++ all_flows (n + written_flow_count first) (a + written_atom_count first) others

abbrev mutual
  written_innermost : ℕ → WrittenTree → List ℕ
  written_innermost g (written_task t) = []
  written_innermost g (written_flow head items) = all_innermost (suc g) items ++ g ∷ []

  all_innermost : ℕ → WrittenTrees → List ℕ
  all_innermost n nothing_written = []
  all_innermost n (written first others) = written_innermost n first ++ all_innermost (n + written_flow_count first) others

-- ---- of trees

mutual
  flows_counted : (t : Tree) → flow_count t ≡ written_flow_count (as_written t)
  flows_counted (task t) = refl
  flows_counted (flow head items) = ap (λ n. 1 + n) (all_flows_counted items)

  all_flows_counted : (ts : Trees) → flows_among_count ts ≡ all_flow_count (all_as_written ts)
  all_flows_counted no_trees = refl
  all_flows_counted (tree first others) = ap (λ n. n + flows_among_count others) (flows_counted first) ∙ ap (λ n. written_flow_count (as_written first) + n) (all_flows_counted others)

mutual
  pub atoms_counted : (t : Tree) → atom_count t ≡ written_atom_count (as_written t)
  atoms_counted (task t) = refl
  atoms_counted (flow head items) = ap (λ n. retry_count head.retry + n) (all_atoms_counted items)

  all_atoms_counted : (ts : Trees) → atoms_among_count ts ≡ all_atom_count (all_as_written ts)
  all_atoms_counted no_trees = refl
  all_atoms_counted (tree first others) = ap (λ n. n + atoms_among_count others) (atoms_counted first) ∙ ap (λ n. written_atom_count (as_written first) + n) (all_atoms_counted others)

mutual
  atoms_told : (g : ℕ) (t : Tree) → atoms_of g t ≡ written_atoms g (as_written t)
  atoms_told g (task t) = refl
  atoms_told g (flow head items) = ap (λ rest. retry_atoms g head.retry ++ rest) (all_atoms_told g 0 (suc g) items)

  all_atoms_told : (g i n : ℕ) (ts : Trees) → atoms_among g i n ts ≡ all_atoms g i n (all_as_written ts)
  all_atoms_told g i n no_trees = refl
  all_atoms_told g i n (tree first others) =
      ap (λ prefix. map (enter g i) prefix ++ atoms_among g (suc i) (n + flow_count first) others) (atoms_told n first)
      ∙ ap (λ count. map (enter g i) (written_atoms n (as_written first)) ++ atoms_among g (suc i) (n + count) others) (flows_counted first)
      ∙ ap (λ rest. map (enter g i) (written_atoms n (as_written first)) ++ rest) (all_atoms_told g (suc i) (n + written_flow_count (as_written first)) others)

item_told : (n a : ℕ) (t : Tree) → item_of n a t ≡ written_item n a (as_written t)
item_told n a (task t) = refl
item_told n a (flow head items) = refl

items_told : (n a : ℕ) (ts : Trees) → items_of n a ts ≡ written_items n a (all_as_written ts)
items_told n a no_trees = refl
items_told n a (tree first others) =
    ap (λ item. item ∷ items_of (n + flow_count first) (a + atom_count first) others) (item_told n a first)
    ∙ ap (λ count. written_item n a (as_written first) ∷ items_of (n + count) (a + atom_count first) others) (flows_counted first)
    ∙ ap (λ count. written_item n a (as_written first) ∷ items_of (n + written_flow_count (as_written first)) (a + count) others) (atoms_counted first)
    ∙ ap (λ rest. written_item n a (as_written first) ∷ rest) (items_told (n + written_flow_count (as_written first)) (a + written_atom_count (as_written first)) others)

mutual
  flows_told : (g a : ℕ) (t : Tree) → flows_of g a t ≡ written_flows g a (as_written t)
  flows_told g a (task t) = refl
  flows_told g a (flow head items) =
      ap (λ members. with_items members ∷ flows_among (suc g) (a + retry_count head.retry) items) (items_told (suc g) (a + retry_count head.retry) items)
      ∙ ap (λ rest. written_place g a (head_as_written head) (all_as_written items) ∷ rest) (all_flows_told (suc g) (a + retry_count head.retry) items)
    where
      with_items : List Item → FlowPlace
      with_items members = record { number = g; name = head.name; kind = head.kind; retry = retry_number a head.retry; control = head.retry; items = members; links = (head_as_written head).links }

  all_flows_told : (n a : ℕ) (ts : Trees) → flows_among n a ts ≡ all_flows n a (all_as_written ts)
  all_flows_told n a no_trees = refl
  all_flows_told n a (tree first others) =
      ap (λ prefix. prefix ++ flows_among (n + flow_count first) (a + atom_count first) others) (flows_told n a first)
      ∙ ap (λ count. written_flows n a (as_written first) ++ flows_among (n + count) (a + atom_count first) others) (flows_counted first)
      ∙ ap (λ count. written_flows n a (as_written first) ++ flows_among (n + written_flow_count (as_written first)) (a + count) others) (atoms_counted first)
      ∙ ap (λ rest. written_flows n a (as_written first) ++ rest) (all_flows_told (n + written_flow_count (as_written first)) (a + written_atom_count (as_written first)) others)

mutual
  innermost_told : (g : ℕ) (t : Tree) → innermost_first g t ≡ written_innermost g (as_written t)
  innermost_told g (task t) = refl
  innermost_told g (flow head items) = ap (λ prefix. prefix ++ g ∷ []) (all_innermost_told (suc g) items)

  all_innermost_told : (n : ℕ) (ts : Trees) → innermost_among n ts ≡ all_innermost n (all_as_written ts)
  all_innermost_told n no_trees = refl
  all_innermost_told n (tree first others) =
      ap (λ prefix. prefix ++ innermost_among (n + flow_count first) others) (innermost_told n first)
      ∙ ap (λ count. written_innermost n (as_written first) ++ innermost_among (n + count) others) (flows_counted first)
      ∙ ap (λ rest. written_innermost n (as_written first) ++ rest) (all_innermost_told (n + written_flow_count (as_written first)) others)

-- ---- of flows that are written alike

pub atoms_alike : (g : ℕ) (a b : Tree) → as_written a ≡ as_written b → atoms_of g a ≡ atoms_of g b
atoms_alike g a b same = atoms_told g a ∙ ap (written_atoms g) same ∙ sym (atoms_told g b)

pub flows_alike : (g n : ℕ) (a b : Tree) → as_written a ≡ as_written b → flows_of g n a ≡ flows_of g n b
flows_alike g n a b same = flows_told g n a ∙ ap (written_flows g n) same ∙ sym (flows_told g n b)

pub innermost_alike : (g : ℕ) (a b : Tree) → as_written a ≡ as_written b → innermost_first g a ≡ innermost_first g b
innermost_alike g a b same = innermost_told g a ∙ ap (written_innermost g) same ∙ sym (innermost_told g b)
