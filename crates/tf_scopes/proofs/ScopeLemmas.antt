-- The members of each atom's scope, read off the standing order of all atoms.
use Rattle.std.proofs.Common.{◌≡◌, ◌≢◌, ℕ, zero, suc, ◌+◌, ◌<◌, ◌≤◌, List, [], ◌∷◌, ◌++◌, length, map, Bool, true, false, Option, Some, None, refl, sym, ap, ◌∙◌, arith, eq-eqb, subst, slice_get}
use Rattle.std.specs.Option.{option_to_list}
use Rattle.std.specs.Prelude.{cond, filter, reverse, flat_map, take_while, if◌then◌else◌}
use Rattle.std.proofs.lemmas.Bool.{ne_eqb}
use Rattle.tf_flow.specs.Plan.{PlanValue}
use Rattle.tf_flow.specs.declared.atoms.Bind.{Bind}
use Rattle.tf_flow.specs.Rules.{is_graph}
use Rattle.tf_flow.specs.Tree.{Tree, Trees, task, flow, no_trees, tree, trees_of, item_tree, Head}
use Rattle.tf_flow.specs.Outline.{Atom, FlowPlace, Item, Standing, stands_task, stands_flow, atoms_of, flows_of, flows_among, flow_count, flows_among_count, atom_count, retry_count, item_of, items_of}
use Rattle.tf_flow.proofs.TreeLemmas.{tree_of-flow}
use Rattle.tf_model.specs.Before.{Flow, find_flow, item_before, standing_at, standing_of_item, linked_pairs, is_linked, arrange, arranged}
use Rattle.tf_model.specs.Plan.{compile_refusal, Outline, outline_of, outline_of_tree, count, path}
use Rattle.tf_model.specs.Laws.{AreOrdered}
use Rattle.tf_model.proofs.Told.{order_in, path_in, standing_in, standing_of}
use Rattle.tf_model.specs.Scope.{members, is_earlier}
use Rattle.tf_model.proofs.OrderLemmas.{IsArranged, each_arranged, plan_ordered}
use Rattle.tf_links.specs.Graphs.{standing_items}
use Rattle.tf_numbers.specs.Numbers.{has_pair, pairs_below}
use Rattle.tf_numbers.proofs.EquationLemmas.{ap2}
use Rattle.tf_numbers.proofs.PairLemmas.{pair_passes}
use Rattle.tf_scopes.specs.Standing.{is_other, standing_scope}
use Rattle.tf_scopes.proofs.StandingLemmas.{LeadsOn, each_stands}
use Rattle.tf_scopes.proofs.FrontLemmas.{front, members_front}
use Rattle.tf_scopes.proofs.TreeLemmas.{stands, Stands, AllStand, Each, Reached, Fronted, tree_fronted}

-- ---- the numbers of the flows

-- the item is a task or a flow from this number on
abbrev FromNumber : ℕ → Standing → Type 0
FromNumber n (stands_task a) = Unit {0}
FromNumber n (stands_flow g) = n ≤ g

abbrev ItemsFrom : ℕ → List Item → Type 0
ItemsFrom n [] = Unit {0}
ItemsFrom n (item ∷ items) = FromNumber n item.standing × ItemsFrom n items

-- the flows have the numbers from n on, and nested ones have later numbers
abbrev Numbered : ℕ → List FlowPlace → Type 0
Numbered n [] = Unit {0}
Numbered n (place ∷ places) = (place.number ≡ n) × ItemsFrom (suc n) place.items × Numbered (suc n) places

numbered_both : (n : ℕ) (xs ys : List FlowPlace) → Numbered n xs → Numbered (n + length xs) ys → Numbered n (xs ++ ys)
numbered_both n [] ys one two = let e : n + 0 ≡ n = omega arith in subst (λ (k : ℕ). Numbered k ys) e two
numbered_both n (x ∷ xs) ys one two =
    let e : n + suc (length xs) ≡ suc n + length xs = omega arith in
    (one.0, one.1, numbered_both (suc n) xs ys one.2 (subst (λ (k : ℕ). Numbered k ys) e two))

items_later : (ts : Trees) (m n a : ℕ) → m ≤ n → ItemsFrom m (items_of n a ts)
items_later no_trees m n a less = tt
items_later (tree first others) m n a less = (one first m n a less, items_later others m (n + flow_count first) (a + atom_count first) (omega (arith, less)))
  where
    one : (t : Tree) (m n a : ℕ) → m ≤ n → FromNumber m (item_of n a t).standing
    one (task t) m n a less = tt
    one (flow head items) m n a less = less

length_pairs : (xs ys : List FlowPlace) → length (xs ++ ys) ≡ length xs + length ys
length_pairs [] ys = omega arith
length_pairs (x ∷ xs) ys = let rest = length_pairs xs ys in omega (arith, rest)

mutual
  length_places : (t : Tree) (g a : ℕ) → length (flows_of g a t) ≡ flow_count t
  length_places (task t) g a = refl
  length_places (flow head items) g a = let rest = length_places_among items (suc g) (a + retry_count head.retry) in omega (arith, rest)

  length_places_among : (ts : Trees) (n a : ℕ) → length (flows_among n a ts) ≡ flows_among_count ts
  length_places_among no_trees n a = refl
  length_places_among (tree first others) n a =
      let one = length_places first n a in
      let two = length_places_among others (n + flow_count first) (a + atom_count first) in
      let both = length_pairs (flows_of n a first) (flows_among (n + flow_count first) (a + atom_count first) others) in
      omega (arith, one, two, both)

mutual
  tree_numbered : (t : Tree) (g a : ℕ) → Numbered g (flows_of g a t)
  tree_numbered (task t) g a = tt
  tree_numbered (flow head items) g a = (refl, items_later items (suc g) (suc g) (a + retry_count head.retry) (omega arith), trees_numbered items (suc g) (a + retry_count head.retry))

  trees_numbered : (ts : Trees) (n a : ℕ) → Numbered n (flows_among n a ts)
  trees_numbered no_trees n a = tt
  trees_numbered (tree first others) n a =
      let e : n + flow_count first ≡ n + length (flows_of n a first) = let one = length_places first n a in omega (arith, one) in
      numbered_both n (flows_of n a first) (flows_among (n + flow_count first) (a + atom_count first) others) (tree_numbered first n a)
      (subst (λ (k : ℕ). Numbered k (flows_among (n + flow_count first) (a + atom_count first) others)) e (trees_numbered others (n + flow_count first) (a + atom_count first)))

-- ---- each flow stands as its items do

-- of the flows from a number on, the whole list tells what this one tells
abbrev Agrees : List Flow → List Flow → ℕ → Type 0
Agrees whole part n = (g : ℕ) → n ≤ g → find_flow whole g ≡ find_flow part g

agrees_next : (whole part : List Flow) (f : Flow) (n : ℕ) → f.place.number ≡ n → Agrees whole (f ∷ part) n → Agrees whole part (suc n)
agrees_next whole part f n is same g from =
    let e : f.place.number ≢ g = λ here. let one : n ≡ g = sym is ∙ here in omega (arith, one, from) in
    same g (omega (arith, from)) ∙ ap (λ (b : Bool). cond b (Some f) (find_flow part g)) (ne_eqb f.place.number g e)

item_same : (whole part : List Flow) (n : ℕ) (items : List Item) (u : ℕ) → Agrees whole part n → ItemsFrom n items → standing_of part (slice_get items u) ≡ standing_of whole (slice_get items u)
item_same whole part n [] u same from = refl
item_same whole part n (item ∷ items) zero same from = by item.standing from.0
  where
    by : (standing : Standing) → FromNumber n standing → standing_at part standing ≡ standing_at whole standing
    by (stands_task a) later = refl
    by (stands_flow g) later = ap standing_in (sym (same g later))
item_same whole part n (item ∷ items) (suc u) same from = item_same whole part n items u same from.1

flat_same : (f h : ℕ → List ℕ) (xs : List ℕ) → ((u : ℕ) → f u ≡ h u) → flat_map f xs ≡ flat_map h xs
flat_same f h [] same = refl
flat_same f h (x ∷ xs) same = ap2 (λ (a b : List ℕ). a ++ b) (same x) (flat_same f h xs same)

first_within : (n : ℕ) (test : ℕ → ℕ → Bool) (b : Bool) (u v : ℕ) → has_pair (if b then pairs_below n test else []) u v ≡ true → u < n
first_within n test true u v on = (pair_passes n test u v on).first
first_within n test false u v on = absurd (cc)

leads_on : (atoms : List Atom) (whole : List Flow) (f : Flow) (g : ℕ) → AreOrdered whole → find_flow whole g ≡ Some f → IsArranged f → ((u v : ℕ) → has_pair f.linked u v ≡ true → u < length f.place.items) → LeadsOn (length f.place.items) f.linked (item_before whole g)
leads_on atoms whole f g ordered found is first = record {
  within = first;
  along = λ u v on. ap (λ (o : Option Flow). has_pair (order_in o) u v) found ∙ is.links u v on;
  chain = ordered.transitive g;
  strict = ordered.irreflexive g;
}

flow_stands : (atoms : List Atom) (plan : Outline) (place : FlowPlace) (places : List FlowPlace) (n : ℕ) → AreOrdered plan.flows → place.number ≡ n → ItemsFrom (suc n) place.items
    → Agrees plan.flows (arranged atoms (place ∷ places)) n → Stands plan place
flow_stands atoms plan place places n ordered is items same =
    let inner = arranged atoms places in
    let f = arrange atoms inner place in
    let linked = linked_pairs atoms inner place in
    let found : find_flow plan.flows n ≡ Some f = same n (omega arith) ∙ ap (λ (b : Bool). cond b (Some f) (find_flow inner n)) (eq-eqb place.number n is) in
    let here : find_flow plan.flows place.number ≡ Some f = ap (find_flow plan.flows) is ∙ found in
    let arranged_here : IsArranged f = each_arranged atoms (place ∷ places) n f (ap (λ (b : Bool). cond b (Some f) (find_flow inner n)) (eq-eqb place.number n is)) in
    record {
      order = standing_items (length place.items) linked;
      standing = ap standing_in here ∙ ap (λ (xs : List ℕ). option_to_list place.retry ++ xs)
          (flat_same (standing_of_item inner place) (stands plan place.items) (standing_items (length place.items) linked)
          (λ u. item_same plan.flows inner (suc n) place.items u (agrees_next plan.flows inner f n is same) items));
      all = λ u below. each_stands (length place.items) linked (item_before plan.flows n) u
          (leads_on atoms plan.flows f n ordered found arranged_here (first_within (length place.items) (is_linked atoms inner place) (is_graph place.kind))) below;
    }

all_stand : (atoms : List Atom) (plan : Outline) (places : List FlowPlace) (n : ℕ) → AreOrdered plan.flows → Numbered n places → Agrees plan.flows (arranged atoms places) n → AllStand plan places
all_stand atoms plan [] n ordered numbered same = tt
all_stand atoms plan (place ∷ places) n ordered numbered same = (
  flow_stands atoms plan place places n ordered numbered.0 numbered.1 same,
  all_stand atoms plan places (suc n) ordered numbered.2 (agrees_next plan.flows (arranged atoms places) (arrange atoms (arranged atoms places) place) n numbered.0 same),
)

-- ---- the atoms of a plan

reached_each : (plan : Outline) (xs : List Atom) (a : ℕ) → ((k : ℕ) (x : Atom) → slice_get xs k ≡ Some x → path plan (a + k) ≡ x.path) → Each (Reached plan []) a xs
reached_each plan [] a told = tt
reached_each plan (x ∷ xs) a told = (
  (let e : a + 0 ≡ a = omega arith in ap (path plan) (sym e) ∙ told 0 x refl),
  reached_each plan xs (suc a) (λ k y is. (let e : suc a + k ≡ a + suc k = omega arith in ap (path plan) e ∙ told (suc k) y is)),
)

reached_all : (plan : Outline) → Each (Reached plan []) 0 plan.atoms
reached_all plan = reached_each plan plan.atoms 0 (λ k x is. let e : 0 + k ≡ k = omega arith in ap (path plan) e ∙ ap path_in is)

each_at : (plan : Outline) (standing : List ℕ) (xs : List Atom) (a k : ℕ) → Each (Fronted plan standing) a xs → k < length xs → front plan (path_in (slice_get xs k)) ≡ take_while (is_other (a + k)) standing
each_at plan standing [] a k each below = absurd (omega arith)
each_at plan standing (x ∷ xs) a zero each below = each.0.is ∙ (let e : a ≡ a + 0 = omega arith in ap (λ (y : ℕ). take_while (is_other y) standing) e)
each_at plan standing (x ∷ xs) a (suc k) each below = each_at plan standing xs (suc a) k each.1 (omega arith) ∙ (let e : suc a + k ≡ a + suc k = omega arith in ap (λ (y : ℕ). take_while (is_other y) standing) e)

members_by : (head : Head) (items : Trees) (store : List Bind) (defer : Bool) (y : ℕ) → AreOrdered (outline_of_tree (flow head items) store defer).flows → y < count (outline_of_tree (flow head items) store defer)
    → members (outline_of_tree (flow head items) store defer) y ≡ standing_scope (outline_of_tree (flow head items) store defer) y
unfolding members standing_scope
members_by head items store defer y ordered below =
    let root = flow head items in
    let plan = outline_of_tree root store defer in
    let all = all_stand (atoms_of 0 root) plan (flows_of 0 0 root) 0 ordered (tree_numbered root 0 0) (λ g from. refl) in
    let fronted = tree_fronted root plan [] 0 0 (λ F no. absurd (cc)) (reached_all plan) all in
    let zero_on : 0 + y ≡ y = omega arith in
    members_front plan y (path plan y)
    ∙ ap (λ (xs : List ℕ). filter (is_earlier plan y) (reverse xs))
    (each_at plan (standing_in (find_flow plan.flows 0)) (atoms_of 0 root) 0 y fronted below ∙ ap (λ (z : ℕ). take_while (is_other z) (standing_in (find_flow plan.flows 0))) zero_on)

-- of a plan that compiles
pub members_stand : (plan : PlanValue) (y : ℕ) → compile_refusal plan ≡ None → y < count (outline_of plan) → members (outline_of plan) y ≡ standing_scope (outline_of plan) y
members_stand plan y compiles below =
    let Holds : Tree → Type 0 = λ t. AreOrdered (outline_of_tree t plan.store plan.defer).flows → y < count (outline_of_tree t plan.store plan.defer)
    → members (outline_of_tree t plan.store plan.defer) y ≡ standing_scope (outline_of_tree t plan.store plan.defer) y in
    (subst Holds (sym (tree_of-flow plan.root)) (λ ordered within. members_by _ (trees_of (map item_tree plan.root.items.items.items)) plan.store plan.defer y ordered within)) (plan_ordered plan compiles) below
