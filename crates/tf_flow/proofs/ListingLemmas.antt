-- A walk over the nested flows of a plan, one item at a time.
use Rattle.std.proofs.Common.{◌≡◌, ℕ, zero, suc, ◌+◌, ◌<◌, ◌≤◌, List, [], ◌∷◌, ◌++◌, map, length, drop, Option, Some, None, refl, sym, ap, ◌∙◌, add-one, subst, arith, get_or, slice_set}
use Rattle.std.proofs.lemmas.List.{length-map}
use Rattle.tf_flow.specs.declared.atoms.Retry.{Retry}
use Rattle.tf_flow.specs.declared.nested.Flow.{Flow as FlowValue}
use Rattle.tf_flow.specs.declared.nested.Item.{Item}
use Rattle.tf_flow.proofs.TreeLemmas.{tree_of-flow}
use Rattle.tf_flow.specs.Tree.{Tree, Trees, task, flow, no_trees, tree, tree_of, item_tree, trees_of, Head}
use Rattle.tf_flow.specs.Outline.{Atom, Item as PlacedItem, FlowPlace, atoms_of, atoms_among, retry_atoms, enter, flows_of, flows_among, flow_place, flow_count, flows_among_count, atom_count, atoms_among_count, retry_count, retry_number, item_of, items_of, innermost_first, innermost_among}
use Rattle.tf_flow.specs.declared.paths.Turn.{Turn}
use Rattle.tf_flow.specs.Plan.{atoms}
use Rattle.tf_flow.specs.declared.listing.AtomPlace.{AtomPlace}
use Rattle.tf_flow.specs.declared.listing.ItemPlace.{ItemPlace}
use Rattle.tf_flow.specs.declared.listing.Level.{Level}
use Rattle.tf_numbers.proofs.EquationLemmas.{ap2}
use Rattle.tf_flow.specs.Listing.{shown_atom, shown_atoms, shown_level, shown_levels, shown_item, under, with_items, with_items_at}
use Rattle.tf_numbers.proofs.ListLemmas.{nothing_after, map_append, length_both, append_chain, drop_first, drop_whole}

-- ---- as many as are counted

pub length_retry : (g : ℕ) (control : Option Retry) → length (retry_atoms g control) ≡ retry_count control
length_retry g None = refl
length_retry g (Some r) = refl

mutual
  length_atoms_at : (t : Tree) (g : ℕ) → length (atoms_of g t) ≡ atom_count t
  length_atoms_at (task t) g = refl
  length_atoms_at (flow head items) g = length_both (retry_atoms g head.retry) (atoms_among g 0 (suc g) items) ∙ ap2 ◌+◌ (length_retry g head.retry) (length_atoms_among items g 0 (suc g))

  length_atoms_among : (ts : Trees) (g i n : ℕ) → length (atoms_among g i n ts) ≡ atoms_among_count ts
  length_atoms_among no_trees g i n = refl
  length_atoms_among (tree first others) g i n =
      length_both (map (enter g i) (atoms_of n first)) (atoms_among g (suc i) (n + flow_count first) others)
      ∙ ap2 ◌+◌ (length-map (atoms_of n first) (enter g i) ∙ length_atoms_at first n) (length_atoms_among others g (suc i) (n + flow_count first))

pub length_atoms : (g : ℕ) (t : Tree) → length (atoms_of g t) ≡ atom_count t
length_atoms g t = length_atoms_at t g

mutual
  length_flows_at : (t : Tree) (g a : ℕ) → length (flows_of g a t) ≡ flow_count t
  length_flows_at (task t) g a = refl
  length_flows_at (flow head items) g a = omega (arith, length_flows_among items (suc g) (a + retry_count head.retry))

  length_flows_among : (ts : Trees) (n a : ℕ) → length (flows_among n a ts) ≡ flows_among_count ts
  length_flows_among no_trees n a = refl
  length_flows_among (tree first others) n a =
      length_both (flows_of n a first) (flows_among (n + flow_count first) (a + atom_count first) others)
      ∙ ap2 ◌+◌ (length_flows_at first n a) (length_flows_among others (n + flow_count first) (a + atom_count first))

pub length_flows : (g a : ℕ) (t : Tree) → length (flows_of g a t) ≡ flow_count t
length_flows g a t = length_flows_at t g a

-- ---- what one item adds

-- so many atoms more
more_atoms : (path : List Turn) (n : ℕ) (t : Tree) (old new : List AtomPlace) → shown_atoms new ≡ shown_atoms old ++ map (under path) (atoms_of n t) → length new ≡ length old + atom_count t
more_atoms path n t old new is =
    sym (length-map new shown_atom)
    ∙ (ap length is
    ∙ (length_both (shown_atoms old) (map (under path) (atoms_of n t))
    ∙ ap2 ◌+◌ (length-map old shown_atom) (length-map (atoms_of n t) (under path) ∙ length_atoms n t)))

more_flows : (n a : ℕ) (t : Tree) (old new : List Level) → shown_levels new ≡ shown_levels old ++ flows_of n a t → length new ≡ length old + flow_count t
more_flows n a t old new is =
    sym (length-map new shown_level)
    ∙ (ap length is
    ∙ (length_both (shown_levels old) (flows_of n a t)
    ∙ ap2 ◌+◌ (length-map old shown_level) (length_flows n a t)))

longer_path : (path : List Turn) (g i : ℕ) (xs : List Atom) → map (under path) (map (enter g i) xs) ≡ map (under (path ++ record { flow = g; item = Some i } ∷ [])) xs
longer_path path g i [] = refl
longer_path path g i (x ∷ xs) = ap2 (λ (w : List Turn) (ys : List Atom). record { path = w; part = x.part } ∷ ys)
    (sym (append_chain path (record { flow = g; item = Some i } ∷ []) x.path)) (longer_path path g i xs)

among_under : (path : List Turn) (g i n : ℕ) (t : Tree) (ts : Trees)
    → map (under path) (atoms_among g i n (tree t ts)) ≡ map (under (path ++ record { flow = g; item = Some i } ∷ [])) (atoms_of n t) ++ map (under path) (atoms_among g (suc i) (n + flow_count t) ts)
among_under path g i n t ts =
    map_append (under path) (map (enter g i) (atoms_of n t)) (atoms_among g (suc i) (n + flow_count t) ts)
    ∙ ap (λ (ys : List Atom). ys ++ map (under path) (atoms_among g (suc i) (n + flow_count t) ts)) (longer_path path g i (atoms_of n t))

-- ---- the items of a flow, one after another

-- the trees of items
abbrev pub trees : List Item → Trees
trees items = trees_of (map item_tree items)

-- where the walk over the items of flow g stands: what is there, followed by what the other items add,
-- is the whole
pub record Walked (path : List Turn) (g i : ℕ) (rest : List Item) (atoms : List AtomPlace) (levels : List Level) (inner : List ℕ) (items : List ItemPlace)
    (all_atoms : List Atom) (all_levels : List FlowPlace) (all_inner : List ℕ) (all_items : List PlacedItem) : Type 0 where
  pub atoms_so : shown_atoms atoms ++ map (under path) (atoms_among g i (length levels) (trees rest)) ≡ all_atoms
  pub levels_so : shown_levels levels ++ flows_among (length levels) (length atoms) (trees rest) ≡ all_levels
  pub inner_so : inner ++ innermost_among (length levels) (trees rest) ≡ all_inner
  pub items_so : map shown_item items ++ items_of (length levels) (length atoms) (trees rest) ≡ all_items
  pub room : g < length levels

next_walked : (path : List Turn) (g i : ℕ) (first : Item) (rest : List Item) (atoms new_atoms : List AtomPlace) (levels new_levels : List Level) (inner new_inner : List ℕ) (items : List ItemPlace) (item : ItemPlace)
    (all_atoms : List Atom) (all_levels : List FlowPlace) (all_inner : List ℕ) (all_items : List PlacedItem)
    → Walked path g i (first ∷ rest) atoms levels inner items all_atoms all_levels all_inner all_items
    → shown_item item ≡ item_of (length levels) (length atoms) (item_tree first)
    → shown_atoms new_atoms ≡ shown_atoms atoms ++ map (under (path ++ record { flow = g; item = Some i } ∷ [])) (atoms_of (length levels) (item_tree first))
    → shown_levels new_levels ≡ shown_levels levels ++ flows_of (length levels) (length atoms) (item_tree first)
    → new_inner ≡ inner ++ innermost_first (length levels) (item_tree first)
    → Walked path g (suc i) rest new_atoms new_levels new_inner (items ++ item ∷ []) all_atoms all_levels all_inner all_items
next_walked path g i first rest atoms new_atoms levels new_levels inner new_inner items item all_atoms all_levels all_inner all_items is item_is atoms_are levels_are inner_is =
    let n = length levels in
    let a = length atoms in
    let t = item_tree first in
    let flows_more : length new_levels ≡ n + flow_count t = more_flows n a t levels new_levels levels_are in
    let atoms_more : length new_atoms ≡ a + atom_count t = more_atoms (path ++ record { flow = g; item = Some i } ∷ []) n t atoms new_atoms atoms_are in
    record {
      atoms_so =
          ap2 (λ (xs : List Atom) (m : ℕ). xs ++ map (under path) (atoms_among g (suc i) m (trees rest))) atoms_are flows_more
          ∙ (append_chain (shown_atoms atoms) (map (under (path ++ record { flow = g; item = Some i } ∷ [])) (atoms_of n t)) (map (under path) (atoms_among g (suc i) (n + flow_count t) (trees rest)))
          ∙ (ap (λ (ys : List Atom). shown_atoms atoms ++ ys) (sym (among_under path g i n t (trees rest)))
          ∙ is.atoms_so));
      levels_so =
          ap2 (λ (xs : List FlowPlace) (m : ℕ). xs ++ flows_among m (length new_atoms) (trees rest)) levels_are flows_more
          ∙ (ap (λ (b : ℕ). (shown_levels levels ++ flows_of n a t) ++ flows_among (n + flow_count t) b (trees rest)) atoms_more
          ∙ (append_chain (shown_levels levels) (flows_of n a t) (flows_among (n + flow_count t) (a + atom_count t) (trees rest))
          ∙ is.levels_so));
      inner_so =
          ap2 (λ (xs : List ℕ) (m : ℕ). xs ++ innermost_among m (trees rest)) inner_is flows_more
          ∙ (append_chain inner (innermost_first n t) (innermost_among (n + flow_count t) (trees rest))
          ∙ is.inner_so);
      items_so =
          ap2 (λ (m b : ℕ). map shown_item (items ++ item ∷ []) ++ items_of m b (trees rest)) flows_more atoms_more
          ∙ (ap (λ (xs : List PlacedItem). xs ++ items_of (n + flow_count t) (a + atom_count t) (trees rest)) (map_append shown_item items (item ∷ []) ∙ ap (λ (x : PlacedItem). map shown_item items ++ x ∷ []) item_is)
          ∙ (append_chain (map shown_item items) (item_of n a t ∷ []) (items_of (n + flow_count t) (a + atom_count t) (trees rest))
          ∙ is.items_so));
      room = omega (arith, is.room, flows_more);
    }

walk_more : (path : List Turn) (g i : ℕ) (whole : List Item) (first : Item) (atoms new_atoms : List AtomPlace) (levels new_levels : List Level) (inner new_inner : List ℕ) (items : List ItemPlace) (item : ItemPlace)
    (all_atoms : List Atom) (all_levels : List FlowPlace) (all_inner : List ℕ) (all_items : List PlacedItem)
    → Walked path g i (drop i whole) atoms levels inner items all_atoms all_levels all_inner all_items
    → i < length whole → first ≡ get_or whole i first
    → shown_item item ≡ item_of (length levels) (length atoms) (item_tree first)
    → shown_atoms new_atoms ≡ shown_atoms atoms ++ map (under (path ++ record { flow = g; item = Some i } ∷ [])) (atoms_of (length levels) (item_tree first))
    → shown_levels new_levels ≡ shown_levels levels ++ flows_of (length levels) (length atoms) (item_tree first)
    → new_inner ≡ inner ++ innermost_first (length levels) (item_tree first)
    → Walked path g (i + 1) (drop (i + 1) whole) new_atoms new_levels new_inner (items ++ item ∷ []) all_atoms all_levels all_inner all_items
walk_more path g i whole first atoms new_atoms levels new_levels inner new_inner items item all_atoms all_levels all_inner all_items is below read item_is atoms_are levels_are inner_is =
    let next : drop i whole ≡ first ∷ drop (suc i) whole = drop_first whole i first below ∙ ap (λ (x : Item). x ∷ drop (suc i) whole) (sym read) in
    rw (add-one i)
    (next_walked path g i first (drop (suc i) whole) atoms new_atoms levels new_levels inner new_inner items item all_atoms all_levels all_inner all_items
    (subst (λ (rest : List Item). Walked path g i rest atoms levels inner items all_atoms all_levels all_inner all_items) next is)
    item_is atoms_are levels_are inner_is)

-- ---- the beginning and the end of a flow

-- a flow whose items are not told yet
abbrev pub bare_place : ℕ → ℕ → Head → FlowPlace
bare_place g a head = record { number = g; name = head.name; kind = head.kind; retry = retry_number a head.retry; control = head.retry; items = []; links = (flow_place g a head no_trees).links }

put_there : (before after : List FlowPlace) (place : FlowPlace) (items : List PlacedItem) → with_items_at items (length before) (before ++ place ∷ after) ≡ before ++ with_items items place ∷ after
put_there [] after place items = refl
put_there (x ∷ before) after place items = ap (λ (ys : List FlowPlace). x ∷ ys) (put_there before after place items)

pub put_level : (levels : List Level) (number : ℕ) (read new other : Level) (items : List PlacedItem) → number < length levels → read ≡ get_or levels number other
    → shown_level new ≡ with_items items (shown_level read) → shown_levels (slice_set levels number new) ≡ with_items_at items number (shown_levels levels)
put_level [] number read new other items below is same = absurd (omega arith)
put_level (x ∷ levels) zero read new other items below is same = ap (λ (p : FlowPlace). p ∷ shown_levels levels) (same ∙ ap (λ (l : Level). with_items items (shown_level l)) is)
put_level (x ∷ levels) (suc number) read new other items below is same = ap (λ (ps : List FlowPlace). shown_level x ∷ ps) (put_level levels number read new other items (omega arith) is same)

-- ---- a whole flow

abbrev pub head_of : FlowValue → Head
head_of f = record { name = f.name; kind = f.kind; retry = f.retry; links = f.links }

-- where the walk over a flow stands, after so many of its items
abbrev pub WalkedFlow : List Turn → FlowValue → ℕ → List AtomPlace → List Level → List ℕ → ℕ → List AtomPlace → List Level → List ℕ → List ItemPlace → Type 0
WalkedFlow path f g old_atoms old_levels old_inner i atoms levels inner items =
    Walked path g i (drop i f.items.items.items) atoms levels inner items
    (shown_atoms old_atoms ++ map (under path) (atoms_of g (tree_of f)))
    (shown_levels old_levels ++ bare_place g (length old_atoms) (head_of f) ∷ flows_among (suc g) (length old_atoms + retry_count f.retry) (trees f.items.items.items))
    (old_inner ++ innermost_among (suc g) (trees f.items.items.items))
    (items_of (suc g) (length old_atoms + retry_count f.retry) (trees f.items.items.items))

pub all_read : (read items : List Item) (i : ℕ) → read ≡ items → length read ≤ i → length items ≤ i
all_read read items i same whole = subst (λ (xs : List Item). length xs ≤ i) same whole

module _ (path : List Turn) (f : FlowValue) (g : ℕ) (old_atoms atoms : List AtomPlace) (old_levels levels : List Level) (old_inner inner : List ℕ) (items : List ItemPlace) (i : ℕ)
    (is : WalkedFlow path f g old_atoms old_levels old_inner i atoms levels inner items) (whole : length f.items.items.items ≤ i) (g_is : g ≡ length old_levels) where
  rest_none : drop i f.items.items.items ≡ []
  rest_none = drop_whole f.items.items.items i whole

  told_levels : shown_levels levels ≡ shown_levels old_levels ++ bare_place g (length old_atoms) (head_of f) ∷ flows_among (suc g) (length old_atoms + retry_count f.retry) (trees f.items.items.items)
  told_levels =
      sym (nothing_after (shown_levels levels))
      ∙ (ap (λ (xs : List Item). shown_levels levels ++ flows_among (length levels) (length atoms) (trees xs)) (sym rest_none)
      ∙ is.levels_so)

  told_items : map shown_item items ≡ items_of (suc g) (length old_atoms + retry_count f.retry) (trees f.items.items.items)
  told_items =
      sym (nothing_after (map shown_item items))
      ∙ (ap (λ (xs : List Item). map shown_item items ++ items_of (length levels) (length atoms) (trees xs)) (sym rest_none)
      ∙ is.items_so)

  pub walk_levels : (new : List Level) → shown_levels new ≡ with_items_at (map shown_item items) g (shown_levels levels)
      → shown_levels new ≡ shown_levels old_levels ++ flows_of (length old_levels) (length old_atoms) (tree_of f)
  walk_levels new put =
      let ts = trees f.items.items.items in
      let others = flows_among (suc g) (length old_atoms + retry_count f.retry) ts in
      let bare = bare_place g (length old_atoms) (head_of f) in
      put
      ∙ (ap2 (λ (xs : List PlacedItem) (ps : List FlowPlace). with_items_at xs g ps) told_items told_levels
      ∙ (ap (λ (n : ℕ). with_items_at (items_of (suc g) (length old_atoms + retry_count f.retry) ts) n (shown_levels old_levels ++ bare ∷ others)) (g_is ∙ sym (length-map old_levels shown_level))
      ∙ (put_there (shown_levels old_levels) others bare (items_of (suc g) (length old_atoms + retry_count f.retry) ts)
      ∙ (ap (λ (t : Tree). shown_levels old_levels ++ flows_of g (length old_atoms) t) (sym (tree_of-flow f))
      ∙ ap (λ (n : ℕ). shown_levels old_levels ++ flows_of n (length old_atoms) (tree_of f)) g_is))))

  pub walk_inner : (new : List ℕ) → new ≡ inner ++ g ∷ [] → new ≡ old_inner ++ innermost_first (length old_levels) (tree_of f)
  walk_inner new pushed =
      let ts = trees f.items.items.items in
      pushed
      ∙ (ap (λ (xs : List ℕ). xs ++ g ∷ [])
      (sym (nothing_after inner)
      ∙ (ap (λ (xs : List Item). inner ++ innermost_among (length levels) (trees xs)) (sym rest_none)
      ∙ is.inner_so))
      ∙ (append_chain old_inner (innermost_among (suc g) ts) (g ∷ [])
      ∙ (ap (λ (t : Tree). old_inner ++ innermost_first g t) (sym (tree_of-flow f))
      ∙ ap (λ (n : ℕ). old_inner ++ innermost_first n (tree_of f)) g_is)))

-- the step with what the code has: a longer path, and the items as they are read
pub walk_next : (turns more : List Turn) (f : FlowValue) (g i : ℕ) (first : Item) (read : List Item) (old_atoms atoms new_atoms : List AtomPlace) (old_levels levels new_levels : List Level) (old_inner inner new_inner : List ℕ) (items new_items : List ItemPlace) (item : ItemPlace)
    → WalkedFlow turns f g old_atoms old_levels old_inner i atoms levels inner items
    → read ≡ f.items.items.items → i < length read → first ≡ get_or read i first
    → more ≡ turns ++ record { flow = g; item = Some i } ∷ []
    → shown_item item ≡ item_of (length levels) (length atoms) (item_tree first)
    → shown_atoms new_atoms ≡ shown_atoms atoms ++ map (under more) (atoms_of (length levels) (item_tree first))
    → shown_levels new_levels ≡ shown_levels levels ++ flows_of (length levels) (length atoms) (item_tree first)
    → new_inner ≡ inner ++ innermost_first (length levels) (item_tree first)
    → new_items ≡ items ++ item ∷ []
    → WalkedFlow turns f g old_atoms old_levels old_inner (i + 1) new_atoms new_levels new_inner new_items
walk_next turns more f g i first read old_atoms atoms new_atoms old_levels levels new_levels old_inner inner new_inner items new_items item is whole below read_is longer item_is atoms_are levels_are inner_is items_are =
    subst (λ (its : List ItemPlace). WalkedFlow turns f g old_atoms old_levels old_inner (i + 1) new_atoms new_levels new_inner its) (sym items_are)
    (walk_more turns g i f.items.items.items first atoms new_atoms levels new_levels inner new_inner items item
    (shown_atoms old_atoms ++ map (under turns) (atoms_of g (tree_of f)))
    (shown_levels old_levels ++ bare_place g (length old_atoms) (head_of f) ∷ flows_among (suc g) (length old_atoms + retry_count f.retry) (trees f.items.items.items))
    (old_inner ++ innermost_among (suc g) (trees f.items.items.items))
    (items_of (suc g) (length old_atoms + retry_count f.retry) (trees f.items.items.items))
    is (rw (sym whole) below) (read_is ∙ ap (λ (xs : List Item). get_or xs i first) whole) item_is
    (atoms_are ∙ ap (λ (w : List Turn). shown_atoms atoms ++ map (under w) (atoms_of (length levels) (item_tree first))) longer)
    levels_are inner_is)
