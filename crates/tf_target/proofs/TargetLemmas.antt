-- What the parts of a target give together.
use Rattle.std.proofs.Common.{◌≡◌, ◌∙◌, ℕ, zero, suc, ◌+◌, ◌<◌, List, [], ◌∷◌, length, get_or, map, Bool, true, false, ◌||◌, Option, Some, None, refl, sym, ap, subst, inl, inr, ◌⊎◌, arith, eqb-true, eq-eqb, add-one, slice_get, slice_set, slice_index_or}
use Rattle.std.specs.Prelude.{nat_eq, if◌then◌else◌}
use Rattle.tf_flow.proofs.TreeLemmas.{tree_of-flow}
use Rattle.tf_flow.specs.Outline.{atom_count}
use Rattle.tf_flow.specs.Tree.{same_name, member_of, members_of, Tree, Trees, no_trees, tree, flow, tree_of, item_tree, trees_of}
use Rattle.tf_flow.specs.Plan.{PlanValue, plan_tree, as_written}
use Rattle.tf_flow.specs.Rules.{first_refusal, IsAnswer, is_graph, member_names}
use Rattle.tf_flow.specs.Shown.{members}
use Rattle.tf_flow.specs.declared.atoms.Bind.{Bind}
use Rattle.tf_flow.specs.declared.faults.PlanFault.{PlanFault}
use Rattle.tf_flow.specs.declared.faults.PlanFault.TheVariants as plan_refusal
use Rattle.tf_flow.specs.declared.nested.Flow.{Flow}
use Rattle.tf_flow.specs.declared.nested.Item.{Item}
use Rattle.tf_model.specs.Plan.{compile_refusal, outline_of, root_item_before}
use Rattle.tf_model.proofs.OrderLemmas.{plan_ordered}
use Rattle.tf_numbers.proofs.BelowLemmas.{found_below, first_found, still_none}
use Rattle.tf_numbers.proofs.EquationLemmas.{ap2}
use Rattle.tf_numbers.proofs.TruthLemmas.{or_either, true_second, never_true, clash}
use Rattle.tf_numbers.specs.Numbers.{first_below, numbers_below}
use Rattle.tf_order.proofs.GraphLemmas.{rows_length, row_told}
use Rattle.tf_order.proofs.SpreadLemmas.{get_set_same, get_set_other}
use Rattle.tf_target.specs.Target.{items_in, names_among, is_name_at, place_of_name, kept_among, keep_first, kept_head, kept_tree, mark_or_none, is_marked, is_graph_flow, item_named, is_kept, target_tree, refuse_none, refuse_item, target_refusal, IsTargetAnswer, IsTargetOf, LeavesNoneBefore, plan_fault}
use Rattle.tf_target.specs.declared.faults.TargetFault.{TargetFault}
use Rattle.tf_target.specs.declared.faults.TargetFault.TheVariants as fault
use Rattle.tf_target.proofs.KeptLimitLemmas.{kept_refused, empty_if}

-- ---- the place of a name

names_length : (items : List Item) → length (member_names (members items)) ≡ length items
names_length [] = refl
names_length (item ∷ items) = ap suc (names_length items)

name_there : (items : List Item) (u : ℕ) (item : Item) → u < length items → item ≡ get_or items u item → slice_index_or (member_names (members items)) u [] ≡ (member_of (item_tree item)).name
name_there [] u item within is = absurd (omega (arith, within))
name_there (first ∷ items) zero item within is = ap (λ (i : Item). (member_of (item_tree i)).name) (sym is)
name_there (first ∷ items) (suc u) item within is = name_there items u item (omega (arith, within)) is

pub place_not : (items : List Item) (name found : List ℕ) (u : ℕ) (item : Item) (on : Bool) → first_below u (is_name_at (member_names (members items)) name) ≡ None
    → u < length items → item ≡ get_or items u item → found ≡ (member_of (item_tree item)).name → on ≡ same_name name found → on ≡ false
    → first_below (u + 1) (is_name_at (member_names (members items)) name) ≡ None
place_not items name found u item on none within is named told off =
    ap (λ (n : ℕ). first_below n (is_name_at (member_names (members items)) name)) (add-one u)
    ∙ still_none (is_name_at (member_names (members items)) name) u none (ap (same_name name) (name_there items u item within is ∙ sym named) ∙ (sym told ∙ off))

pub place_found : (items : List Item) (name found : List ℕ) (u : ℕ) (item : Item) (on : Bool) → first_below u (is_name_at (member_names (members items)) name) ≡ None
    → u < length items → item ≡ get_or items u item → found ≡ (member_of (item_tree item)).name → on ≡ same_name name found → on ≡ true
    → Some u ≡ place_of_name (member_names (members items)) name
place_found items name found u item on none within is named told same =
    sym (first_found (length (member_names (members items))) (is_name_at (member_names (members items)) name) u none (ap (same_name name) (name_there items u item within is ∙ sym named) ∙ (sym told ∙ same))
    (omega (arith, within, names_length items)))

pub place_nowhere : (items : List Item) (name : List ℕ) (u : ℕ) → first_below u (is_name_at (member_names (members items)) name) ≡ None → u ≡ length items → None ≡ place_of_name (member_names (members items)) name
place_nowhere items name u none whole = sym (ap (λ (n : ℕ). first_below n (is_name_at (member_names (members items)) name)) (names_length items ∙ sym whole) ∙ none)

-- the root's items by their names
pub items_named : (f : Flow) → names_among (items_in (tree_of f)) ≡ member_names (members f.items.items.items)
items_named f = ap (λ (t : Tree). names_among (items_in t)) (tree_of-flow f)

pub place_within : (items : List Item) (name : List ℕ) (u : ℕ) → place_of_name (member_names (members items)) name ≡ Some u → u < length items
place_within items name u is = let below : u < length (member_names (members items)) = found_below (length (member_names (members items))) (is_name_at (member_names (members items)) name) u is in omega (arith, below, names_length items)

-- ---- the marks

pub marks_kept : (plan : PlanValue) (item count : ℕ) (before marks : List Bool) → before ≡ map (root_item_before (outline_of plan) item) (numbers_below count) → item < count
    → marks ≡ slice_set before item true → (u : ℕ) → u < count → is_marked marks u ≡ is_kept (plan_tree plan) item u
marks_kept plan item count before marks is within set u below =
    let long : length before ≡ count = ap length is ∙ rows_length (root_item_before (outline_of plan) item) count in
    either long (nat_eq u item) refl
  where
    either : length before ≡ count → (b : Bool) → nat_eq u item ≡ b → is_marked marks u ≡ (b || root_item_before (outline_of plan) item u)
    either long true same =
        let e : item ≡ u = sym (eqb-true u item same) in
        ap (λ (ms : List Bool). is_marked ms u) set ∙ ap mark_or_none (ap (slice_get (slice_set before item true)) (sym e) ∙ get_set_same before item true (omega (arith, within, long)))
    either long false other =
        ap (λ (ms : List Bool). is_marked ms u) set
        ∙ ap mark_or_none (get_set_other before item u true (λ (e : u ≡ item). clash (nat_eq u item) (eq-eqb u item e) other)
        ∙ (ap (λ (ms : List Bool). slice_get ms u) is ∙ row_told (root_item_before (outline_of plan) item) count u below))

-- ---- what is kept depends on the test at the items alone

kept_same : (p q : ℕ → Bool) (ts : Trees) → ((u : ℕ) → u < length (members_of ts) → p u ≡ q u) → kept_among p ts ≡ kept_among q ts
kept_same p q no_trees same = refl
kept_same p q (tree first others) same =
    ap (λ b. keep_first b first (kept_among (λ u. p (suc u)) others)) (same 0 (omega arith))
    ∙ ap (keep_first (q 0) first) (kept_same (λ u. p (suc u)) (λ u. q (suc u)) others (λ u below. same (suc u) (omega (arith, below))))

members_length : (items : List Item) → length (members_of (trees_of (map item_tree items))) ≡ length items
members_length [] = refl
members_length (item ∷ items) = ap suc (members_length items)

pub kept_alike : (f : Flow) (p q : ℕ → Bool) → ((u : ℕ) → u < length f.items.items.items → p u ≡ q u) → kept_tree p (tree_of f) ≡ kept_tree q (tree_of f)
kept_alike f p q same =
    let items : List Item = f.items.items.items in
    ap (kept_tree p) (tree_of-flow f)
    ∙ (ap (λ (ts : Trees). flow (kept_head (names_among ts) record { name = f.name; kind = f.kind; retry = f.retry; links = f.links }) ts)
    (kept_same p q (trees_of (map item_tree items)) (λ u below. same u (omega (arith, below, members_length items))))
    ∙ ap (kept_tree q) (sym (tree_of-flow f)))

-- ---- the answer

-- the refusal of what is kept
pub refusal_kept : (plan : PlanValue) (made : Flow) (store : List Bind) (item : ℕ) → is_graph plan.root.kind ≡ true → first_refusal plan.root plan.store ≡ None → store ≡ plan.store
    → as_written (tree_of made) ≡ as_written (target_tree (plan_tree plan) item) → first_refusal made store ≡ empty_if (atom_count (target_tree (plan_tree plan) item))
refusal_kept plan made store item graph none stored same =
    ap (first_refusal made) stored ∙ kept_refused plan.root made (is_kept (plan_tree plan) item) plan.store graph none same

-- the kind of the root
graph_told : (f : Flow) (b : Bool) → is_graph f.kind ≡ b → is_graph_flow (tree_of f) ≡ b
graph_told f b is = ap is_graph_flow (tree_of-flow f) ∙ is

refuses : (plan : PlanValue) (name : List ℕ) (item : ℕ) → is_graph plan.root.kind ≡ true → item_named (plan_tree plan) name ≡ Some item → target_refusal (plan_tree plan) name ≡ refuse_none (atom_count (target_tree (plan_tree plan) item))
refuses plan name item graph named = ap (λ b. if b then refuse_item (plan_tree plan) name (item_named (plan_tree plan) name) else Some fault.NotAGraph) (graph_told plan.root true graph) ∙ ap (refuse_item (plan_tree plan) name) named

pub not_refused : (plan : PlanValue) (name : List ℕ) (item : ℕ) (refusal : Option PlanFault) → is_graph plan.root.kind ≡ true → item_named (plan_tree plan) name ≡ Some item → refusal ≡ empty_if (atom_count (target_tree (plan_tree plan) item)) → refusal ≡ None
    → target_refusal (plan_tree plan) name ≡ None
not_refused plan name item refusal graph named is none = refuses plan name item graph named ∙ by_count (atom_count (target_tree (plan_tree plan) item)) (sym is ∙ none)
  where
    by_count : (n : ℕ) → empty_if n ≡ None → refuse_none n ≡ None
    by_count zero none = absurd (cc)
    by_count (suc n) none = refl

pub refused_so : (plan : PlanValue) (name : List ℕ) (item : ℕ) (refusal : Option PlanFault) (why : PlanFault) → is_graph plan.root.kind ≡ true → item_named (plan_tree plan) name ≡ Some item → refusal ≡ empty_if (atom_count (target_tree (plan_tree plan) item)) → IsAnswer refusal why
    → IsTargetAnswer (target_refusal (plan_tree plan) name) (plan_fault why)
refused_so plan name item refusal why graph named is answer = subst (λ (o : Option TargetFault). IsTargetAnswer o (plan_fault why)) (sym (refuses plan name item graph named)) (by_fault why (atom_count (target_tree (plan_tree plan) item)) (subst (λ (o : Option PlanFault). IsAnswer o why) is answer))
  where
    by_count : (n : ℕ) (other : PlanFault) → empty_if n ≡ Some other → refuse_none n ≡ Some fault.Empty
    by_count zero other is = refl
    by_count (suc n) other is = absurd (cc)

    by_fault : (why : PlanFault) (n : ℕ) → IsAnswer (empty_if n) why → IsTargetAnswer (refuse_none n) (plan_fault why)
    by_fault plan_refusal.Memory n answer = tt
    by_fault (plan_refusal.TooLarge which k) n answer = by_count n (plan_refusal.TooLarge which k) answer
    by_fault plan_refusal.Empty n answer = by_count n plan_refusal.Empty answer
    by_fault (plan_refusal.Duplicate other) n answer = by_count n (plan_refusal.Duplicate other) answer
    by_fault (plan_refusal.Unknown other) n answer = by_count n (plan_refusal.Unknown other) answer
    by_fault (plan_refusal.BadLink other) n answer = by_count n (plan_refusal.BadLink other) answer
    by_fault (plan_refusal.BadAtom other) n answer = by_count n (plan_refusal.BadAtom other) answer

pub no_graph : (plan : PlanValue) (name : List ℕ) → is_graph plan.root.kind ≡ false → target_refusal (plan_tree plan) name ≡ Some fault.NotAGraph
no_graph plan name is = ap (λ b. if b then refuse_item (plan_tree plan) name (item_named (plan_tree plan) name) else Some fault.NotAGraph) (graph_told plan.root false is)

pub no_item : (plan : PlanValue) (name : List ℕ) → is_graph plan.root.kind ≡ true → item_named (plan_tree plan) name ≡ None → target_refusal (plan_tree plan) name ≡ Some (fault.UnknownTarget name)
no_item plan name graph none = ap (λ b. if b then refuse_item (plan_tree plan) name (item_named (plan_tree plan) name) else Some fault.NotAGraph) (graph_told plan.root true graph) ∙ ap (refuse_item (plan_tree plan) name) none

-- ---- nothing that is left out comes before what is kept

pub none_before : (plan : PlanValue) (name : List ℕ) → compile_refusal plan ≡ None → LeavesNoneBefore (plan_tree plan) name
none_before plan name compiles item u v named out kept =
    never_true (root_item_before (outline_of plan) v u) (λ before. clash (is_kept (plan_tree plan) item u) (true_second (nat_eq u item) (root_item_before (outline_of plan) item u) (leads before (or_either (nat_eq v item) (root_item_before (outline_of plan) item v) kept))) out)
  where
    leads : root_item_before (outline_of plan) v u ≡ true → (nat_eq v item ≡ true) ⊎ (root_item_before (outline_of plan) item v ≡ true) → root_item_before (outline_of plan) item u ≡ true
    leads before (inl same) = ap (λ (w : ℕ). root_item_before (outline_of plan) w u) (sym (eqb-true v item same)) ∙ before
    leads before (inr later) = (plan_ordered plan compiles).transitive 0 u v item before later

-- ---- the parts of the answer

-- the item of the name, as the place of a name among the items that were looked at
pub named_by : (plan : PlanValue) (root : Flow) (items : List Item) (name : List ℕ) (place : Option ℕ) (item : ℕ) → root ≡ plan.root → items ≡ root.items.items.items → place ≡ place_of_name (member_names (members items)) name → place ≡ Some item
    → place_of_name (member_names (members plan.root.items.items.items)) name ≡ Some item
named_by plan root items name place item root_is items_are told is =
    ap (λ (xs : List Item). place_of_name (member_names (members xs)) name) (sym (items_are ∙ ap (λ (f : Flow). f.items.items.items) root_is)) ∙ (sym told ∙ is)

-- it is the item of the name
pub is_item_named : (plan : PlanValue) (name : List ℕ) (item : ℕ) → place_of_name (member_names (members plan.root.items.items.items)) name ≡ Some item → item_named (plan_tree plan) name ≡ Some item
is_item_named plan name item is = ap (λ (names : List (List ℕ)). place_of_name names name) (items_named plan.root) ∙ is

-- the root that was made is what is kept
pub root_kept : (plan : PlanValue) (root made : Flow) (marks seen : List Bool) (item : ℕ) → root ≡ plan.root → seen ≡ marks → ((u : ℕ) → u < length plan.root.items.items.items → is_marked marks u ≡ is_kept (plan_tree plan) item u)
    → as_written (tree_of made) ≡ as_written (kept_tree (is_marked seen) (tree_of root)) → as_written (tree_of made) ≡ as_written (target_tree (plan_tree plan) item)
root_kept plan root made marks seen item root_is seen_is marked is =
    is
    ∙ (ap2 (λ (ms : List Bool) (f : Flow). as_written (kept_tree (is_marked ms) (tree_of f))) seen_is root_is
    ∙ ap as_written (kept_alike plan.root (is_marked marks) (is_kept (plan_tree plan) item) marked))

pub target_is : (plan kept : PlanValue) (name : List ℕ) (item : ℕ) (made : Flow) (store : List Bind) (defer : Bool) → item_named (plan_tree plan) name ≡ Some item → kept ≡ record { root = made; store = store; defer = defer }
    → as_written (tree_of made) ≡ as_written (target_tree (plan_tree plan) item) → store ≡ plan.store → defer ≡ plan.defer → IsTargetOf (plan_tree plan) name (plan_tree kept)
target_is plan kept name item made store defer named is root stored deferred = record {
  item = item;
  named = named;
  root = ap (λ (p : PlanValue). as_written (tree_of p.root)) is ∙ root;
  store = ap (λ (p : PlanValue). p.store) is ∙ stored;
  defer = ap (λ (p : PlanValue). p.defer) is ∙ deferred;
}
