-- A generated flow compiles: no link is written, and in a group only the retry controller provides anything.
use Rattle.std.proofs.Common.{◌≡◌, ℕ, zero, suc, ◌+◌, ◌<◌, List, [], ◌∷◌, length, map, Bool, true, false, not, ◌&&◌, Option, Some, None, refl, sym, ap, subst, arith, slice_get}
use Rattle.std.specs.Prelude.{nat_eq, ◌*◌, ◌%◌, if◌then◌else◌}
use Rattle.std.specs.List.{list_any, AllByRecursion}
use Rattle.std.specs.Option.{option_or}
use Rattle.std.proofs.lemmas.Bool.{ne_eqb}
use Rattle.tf_flow.specs.Outline.{Atom, FlowPlace, a_task, a_retry, atoms_of, atoms_among, enter, flows_of, flows_among, flow_count, atom_count, innermost_first}
use Rattle.tf_flow.specs.Plan.{PlanValue}
use Rattle.tf_flow.specs.Rules.{is_graph}
use Rattle.tf_flow.specs.Tree.{Tree, trees_of, tree_of}
use Rattle.tf_links.specs.Graphs.{reached_by, leads_by}
use Rattle.tf_model.specs.Before.{Flow, has_flow_number, passes_item, arrange, arranged, linked_pairs, is_linked, is_explicit, is_inferred, is_inferred_by, givers, other_provides, item_provides, gives_inside, is_served, needs, joins, item_name}
use Rattle.tf_model.specs.Plan.{CompileRefusal, compile_refusal, tree_refusal, refusal_at, refusal_among, refusal_of, ambiguity, ambiguity_at, is_ambiguous, cycle_of, is_back, first_cycle, least, refuse_symbol, outline_of_tree}
use Rattle.tf_model.proofs.Told.{path_in, part_lists, listed_by}
use Rattle.tf_numbers.specs.Numbers.{numbers_below, which_below, Pair, pairs_below}
use Rattle.tf_numbers.proofs.BelowLemmas.{never_any, never_first}
use Rattle.tf_numbers.proofs.TruthLemmas.{first_false, second_false, neither}
use Rattle.tf_demo.specs.Demo.{drawn, after, task_drawn, tasks_from, retry_of, group_size, group_flow, groups_from, group_count, demo_flow}
use Rattle.tf_demo.proofs.ListLemmas.{none_of_two, none_given, never_passes, nothing_kept, no_number, no_pair, all_of_both}
use Rattle.tf_demo.proofs.PlaceLemmas.{by_draw}

-- ---- what provides nothing

-- an atom provides no symbol where it stands in an item of another flow than the root
abbrev pub IsQuiet : Atom → Type 0
IsQuiet atom = (g u : ℕ) (symbol : List ℕ) → 0 < g → passes_item g (Some u) atom.path && part_lists atom.part symbol ≡ false

quiet_at : (atoms : List Atom) (a g u : ℕ) (symbol : List ℕ) → AllByRecursion IsQuiet atoms → 0 < g → passes_item g (Some u) (path_in (slice_get atoms a)) && listed_by (slice_get atoms a) symbol ≡ false
quiet_at [] a g u symbol quiet below_root = refl
quiet_at (atom ∷ atoms) zero g u symbol quiet below_root = quiet.0 g u symbol below_root
quiet_at (atom ∷ atoms) (suc a) g u symbol quiet below_root = quiet_at atoms a g u symbol quiet.1 below_root

item_gives_none : (atoms : List Atom) (g : ℕ) (symbol : List ℕ) (u : ℕ) → AllByRecursion IsQuiet atoms → 0 < g → item_provides atoms g symbol u ≡ false
item_gives_none atoms g symbol u quiet below_root = never_any (length atoms) (gives_inside atoms g u symbol) (λ a within. quiet_at atoms a g u symbol quiet below_root)

no_givers : (atoms : List Atom) (place : FlowPlace) (v : ℕ) (symbol : List ℕ) → AllByRecursion IsQuiet atoms → 0 < place.number → givers atoms place v symbol ≡ []
no_givers atoms place v symbol quiet below_root =
    either_empty (is_served atoms place v symbol) (which_below (length place.items) (other_provides atoms place v symbol))
    (no_number (length place.items) (other_provides atoms place v symbol) (λ u. second_false (not (nat_eq u v)) (item_provides atoms place.number symbol u) (item_gives_none atoms place.number symbol u quiet below_root)))
  where
    either_empty : (served : Bool) (xs : List ℕ) → xs ≡ [] → (if served then [] else xs) ≡ []
    either_empty true xs is = refl
    either_empty false xs is = is

-- ---- no links

-- no link is written in the flow, and it is the root only where it is no graph
abbrev pub IsPlain : FlowPlace → Type 0
IsPlain place = (place.links ≡ []) × (is_graph place.kind ≡ true → 0 < place.number)

none_linked : (atoms : List Atom) (inner : List Flow) (place : FlowPlace) → AllByRecursion IsQuiet atoms → place.links ≡ [] → 0 < place.number → linked_pairs atoms inner place ≡ []
none_linked atoms inner place quiet unlinked below_root = by (is_graph place.kind)
  where
    each : (u v : ℕ) → is_linked atoms inner place u v ≡ false
    each u v = neither (is_explicit place u v) (is_inferred atoms inner place u v)
        (ap (list_any (joins (item_name place u) (item_name place v))) unlinked)
        (never_passes (is_inferred_by atoms place u v) (needs atoms inner place.number v) (λ symbol. rw (no_givers atoms place v symbol quiet below_root) refl))

    by : (graph : Bool) → (if graph then pairs_below (length place.items) (is_linked atoms inner place) else []) ≡ []
    by true = no_pair (length place.items) (is_linked atoms inner place) each
    by false = refl

none_reached : (n k : ℕ) → reached_by n [] k ≡ []
none_reached n zero = refl
none_reached n (suc k) = rw (none_reached n k) (no_pair n (leads_by [] k) (λ u v. refl))

-- ---- no refusal

no_ambiguity : (atoms : List Atom) (inner : List Flow) (place : FlowPlace) → AllByRecursion IsQuiet atoms → 0 < place.number → ambiguity atoms inner place ≡ None
no_ambiguity atoms inner place quiet below_root = none_given (ambiguity_at atoms inner place) (numbers_below (length place.items)) each
  where
    each : (v : ℕ) → ambiguity_at atoms inner place v ≡ None
    each v = ap (λ (symbols : List (List ℕ)). refuse_symbol atoms place v (least symbols))
        (nothing_kept (is_ambiguous atoms place v) (needs atoms inner place.number v) (λ symbol. rw (no_givers atoms place v symbol quiet below_root) refl))

no_cycle : (place : FlowPlace) (n : ℕ) (pairs : List Pair) → pairs ≡ [] → first_cycle place n pairs ≡ None
no_cycle place n pairs unlinked = rw (never_first n (is_back n pairs) (λ v. rw (unlinked, none_reached n n) refl)) refl

-- either of two is none, where both are, or where the first is looked at only in a graph
either_none : (here : Bool) (x y : Option CompileRefusal) → x ≡ None → y ≡ None → (if here then x else y) ≡ None
either_none true x y first second = first
either_none false x y first second = second

only_graph : (graph : Bool) (x : Option CompileRefusal) → (graph ≡ true → x ≡ None) → (if graph then x else None) ≡ None
only_graph true x none = none refl
only_graph false x none = refl

place_unrefused : (atoms : List Atom) (inner : List Flow) (place : FlowPlace) → AllByRecursion IsQuiet atoms → IsPlain place → refusal_of atoms inner (arrange atoms inner place) ≡ None
place_unrefused atoms inner place quiet plain =
    only_graph (is_graph place.kind) (option_or (ambiguity atoms inner place) (cycle_of (arrange atoms inner place))) (λ graph.
    none_of_two (ambiguity atoms inner place) (cycle_of (arrange atoms inner place)) (no_ambiguity atoms inner place quiet (plain.1 graph))
    (no_cycle place (length place.items) (linked_pairs atoms inner place) (none_linked atoms inner place quiet plain.0 (plain.1 graph))))

flows_unrefused : (atoms : List Atom) (places : List FlowPlace) (g : ℕ) → AllByRecursion IsQuiet atoms → AllByRecursion IsPlain places → refusal_among atoms g (arranged atoms places) ≡ None
flows_unrefused atoms [] g quiet plain = refl
flows_unrefused atoms (place ∷ places) g quiet plain =
    either_none (has_flow_number g (arrange atoms (arranged atoms places) place))
    (refusal_of atoms (arranged atoms places) (arrange atoms (arranged atoms places) place)) (refusal_among atoms g (arranged atoms places))
    (place_unrefused atoms (arranged atoms places) place quiet plain.0) (flows_unrefused atoms places g quiet plain.1)

-- ---- the generated flow

-- no number above 0 is 0
pub above_zero : (g : ℕ) → 0 < g → nat_eq 0 g ≡ false
above_zero g below = ne_eqb 0 g (λ same. absurd (omega (arith, same, below)))

task_lists_none : (group number draw : ℕ) (symbol : List ℕ) → part_lists (a_task (task_drawn group number draw)) symbol ≡ false
task_lists_none group number draw symbol = by_draw (λ t. part_lists (a_task t) symbol ≡ false) group number draw refl refl refl refl

tasks_quiet : (item n place m group left number state : ℕ) → AllByRecursion IsQuiet (map (enter 0 item) (atoms_among n place m (trees_of (tasks_from group left number state))))
tasks_quiet item n place m group zero number state = tt
tasks_quiet item n place m group (suc left) number state = (
  (λ g u symbol below_root. second_false (passes_item g (Some u) (record { flow = 0; item = Some item } ∷ record { flow = n; item = Some place } ∷ [])) (part_lists (a_task (task_drawn group number (drawn state % 4))) symbol) (task_lists_none group number (drawn state % 4) symbol)),
  tasks_quiet item n (suc place) (m + 0) group left (suc number) (drawn state),
)

-- a retry controller stands in no item of its own flow
retry_apart : (item n g u : ℕ) → 0 < g → passes_item g (Some u) (record { flow = 0; item = Some item } ∷ record { flow = n; item = None } ∷ []) ≡ false
retry_apart item n g u below_root = rw (above_zero g below_root) (neither (nat_eq n g && false) false (second_false (nat_eq n g) false refl) refl)

groups_quiet : (size left group state item n : ℕ) → AllByRecursion IsQuiet (atoms_among 0 item n (trees_of (groups_from size left group state)))
groups_quiet size zero group state item n = tt
groups_quiet size (suc left) group state item n =
    all_of_both IsQuiet (map (enter 0 item) (atoms_of n (group_flow size group state)))
    (atoms_among 0 (suc item) (n + flow_count (group_flow size group state)) (trees_of (groups_from size left (suc group) (after (1 + group_size size group) state)))) (
      (λ g u symbol below_root. first_false (passes_item g (Some u) (record { flow = 0; item = Some item } ∷ record { flow = n; item = None } ∷ [])) (part_lists (a_retry (retry_of group)) symbol) (retry_apart item n g u below_root)),
      tasks_quiet item n 0 (suc n) group (group_size size group) (10 * group) (drawn state),
    )
    (groups_quiet size left (suc group) (after (1 + group_size size group) state) (suc item) (n + flow_count (group_flow size group state)))

tasks_plain : (n a group left number state : ℕ) → AllByRecursion IsPlain (flows_among n a (trees_of (tasks_from group left number state)))
tasks_plain n a group zero number state = tt
tasks_plain n a group (suc left) number state = tasks_plain (n + 0) (a + 1) group left (suc number) (drawn state)

groups_plain : (size left group state n a : ℕ) → 0 < n → AllByRecursion IsPlain (flows_among n a (trees_of (groups_from size left group state)))
groups_plain size zero group state n a below_root = tt
groups_plain size (suc left) group state n a below_root =
    all_of_both IsPlain (flows_of n a (group_flow size group state))
    (flows_among (n + flow_count (group_flow size group state)) (a + atom_count (group_flow size group state)) (trees_of (groups_from size left (suc group) (after (1 + group_size size group) state))))
    ((refl, λ graph. below_root), tasks_plain (suc n) (a + 1) group (group_size size group) (10 * group) (drawn state))
    (groups_plain size left (suc group) (after (1 + group_size size group) state) (n + flow_count (group_flow size group state)) (a + atom_count (group_flow size group state)) (omega (arith, below_root)))

pub compiles : (seed size : ℕ) (plan : PlanValue) → tree_of plan.root ≡ demo_flow seed size → compile_refusal plan ≡ None
unfolding demo_flow
compiles seed size plan is =
    subst (λ (root : Tree). tree_refusal root (outline_of_tree root plan.store plan.defer) ≡ None) (sym is)
    (none_given (refusal_at (outline_of_tree (demo_flow seed size) plan.store plan.defer)) (innermost_first 0 (demo_flow seed size)) each)
  where
    each : (g : ℕ) → refusal_at (outline_of_tree (demo_flow seed size) plan.store plan.defer) g ≡ None
    each g = flows_unrefused (atoms_of 0 (demo_flow seed size)) (flows_of 0 0 (demo_flow seed size)) g
        (groups_quiet size (group_count size) 0 seed 0 1)
        ((refl, λ graph. absurd (cc)), groups_plain size (group_count size) 0 seed 1 0 (omega arith))
