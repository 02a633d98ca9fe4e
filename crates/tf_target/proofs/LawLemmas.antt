-- What is kept of a plan that compiles compiles, and keeps links and order.
use Rattle.std.proofs.Common.{◌≡◌, ◌∙◌, ℕ, suc, ◌+◌, List, [], ◌∷◌, Bool, true, false, ◌||◌, Option, None, refl, sym, ap, subst, inl, inr, ◌⊎◌, eqb-true, eq-eqb, map, flat_map, not, ◌≤◌, ◌++◌, Some, arith, zero, filter, slice_get, ◌<◌}
use Rattle.std.specs.Prelude.{nat_eq, if◌then◌else◌, reverse, option_map}
use Rattle.std.specs.Option.{option_or, option_map_or, unwrap_or, option_and_then}
use Rattle.std.specs.List.{list_any}
use Rattle.tf_flow.specs.Tree.{first_some, is_among, Tree, task, flow, Trees, no_trees, tree, Head, tree_of}
use Rattle.tf_flow.specs.Outline.{Atom, FlowPlace, flow_count, atom_count, retry_count, flows_of, flows_among, innermost_first, innermost_among, atoms_of, Part, name_of, arguments_of, injected_in, Connection, is_task_part, part_of, atom_path}
use Rattle.tf_flow.specs.Rules.{is_graph, bind_symbols, first_refusal, stray_end}
use Rattle.tf_flow.specs.Plan.{PlanValue, plan_tree, as_written}
use Rattle.tf_flow.specs.declared.atoms.Bind.{Bind}
use Rattle.tf_flow.specs.declared.nested.Flow.{Flow as FlowValue}
use Rattle.tf_flow.proofs.TreeLemmas.{tree_of-flow}
use Rattle.tf_model.specs.Before.{item_before, path_before, path_at, part_at, passes_item, flow_at, arrange, arranged, listed, Flow, find_flow, no_flow}
use Rattle.tf_model.specs.Plan.{ambiguity, cycle_of, refusal_of, refusal_among, refusal_at, tree_refusal, compile_refusal, Outline, outline_with, outline_of_tree, outline_of, is_before, count, is_task, atom_name, last_flow}
use Rattle.tf_model.specs.Laws.{AreOrdered}
use Rattle.tf_model.specs.Scope.{members, members_in, is_earlier, is_elsewhere, lists_symbol, has_source, Missing, missing_of, missing_symbol}
use Rattle.tf_flow.specs.declared.atoms.Arg.{Arg}
use Rattle.tf_flow.specs.declared.paths.Turn.{Turn}
use Rattle.std.proofs.Math.Path.{fun_ext}
use Rattle.tf_model.proofs.OrderLemmas.{compiled_ordered, each_arranged}
use Rattle.tf_numbers.specs.Numbers.{has_number, numbers_below}
use Rattle.tf_numbers.proofs.EquationLemmas.{ap2}
use Rattle.tf_numbers.proofs.ListLemmas.{map_append}
use Rattle.tf_numbers.proofs.OptionLemmas.{neither_there}
use Rattle.tf_numbers.proofs.PairLemmas.{any_left, any_right, any_in_both}
use Rattle.tf_numbers.proofs.TruthLemmas.{or_either, true_first, true_second, neither_first, neither_second, either_way, clash, never_true}
use Rattle.tf_target.specs.Target.{kept_tree, names_among, KeepsOrder, target_tree, IsTargetOf}
use Rattle.tf_model.specs.Readiness.{decides_on, decider_links}
use Rattle.tf_model.proofs.Told.{connections_in}
use Rattle.tf_target.proofs.DeciderLemmas.{IsRootTaskIn, name_in_part, last_moved}
use Rattle.tf_target.proofs.JoinLemmas.{nested, root_deciders, root_task}
use Rattle.tf_target.proofs.KeptLimitLemmas.{root_known}
use Rattle.tf_target.proofs.NestedLemmas.{BothCarried}
use Rattle.tf_target.proofs.OutlineLemmas.{atoms_alike, flows_alike, innermost_alike}
use Rattle.tf_target.proofs.CarriedLemmas.{part_carried, path_carried, before_carried, passes_alike, within_whole}
use Rattle.tf_target.proofs.MemberLemmas.{is_image, image_yes, before_none, visits_kept, map_reverse}
use Rattle.tf_target.proofs.PartLemmas.{item_in, whole_turn, Avoids}
use Rattle.tf_target.proofs.GiverLemmas.{each_none}
use Rattle.tf_target.proofs.JoinLemmas.{fl, at, it, whole, part, carried, root, root_part, all, inner, IsClosed, item_named_so, links_beside, orders_beside, refused_beside, flow_stands, item_back}

-- ---- where nothing is refused, no flow is

abbrev is_place_of : ℕ → FlowPlace → Bool
is_place_of g place = nat_eq place.number g

mutual
  in_tree : (t : Tree) (n a g : ℕ) → list_any (is_place_of g) (flows_of n a t) ≡ true → has_number (innermost_first n t) g ≡ true
  in_tree (task t) n a g is = absurd (cc)
  in_tree (flow head items) n a g is = elim (or_either (nat_eq n g) _ is) [
    | inl here ↦ any_right (nat_eq g) (innermost_among (suc n) items) (n ∷ []) (true_first (nat_eq g n) false (eq-eqb g n (sym (eqb-true n g here))))
    | inr there ↦ any_left (nat_eq g) (innermost_among (suc n) items) (n ∷ []) (in_trees items (suc n) (a + retry_count head.retry) g there)
  ]

  in_trees : (ts : Trees) (n a g : ℕ) → list_any (is_place_of g) (flows_among n a ts) ≡ true → has_number (innermost_among n ts) g ≡ true
  in_trees no_trees n a g is = absurd (cc)
  in_trees (tree first others) n a g is = elim (any_in_both (is_place_of g) (flows_of n a first) _ is) [
    | inl here ↦ any_left (nat_eq g) (innermost_first n first) _ (in_tree first n a g here)
    | inr there ↦ any_right (nat_eq g) (innermost_first n first) _ (in_trees others (n + flow_count first) (a + atom_count first) g there)
  ]

looked_at : {Y : Type 0} (give : ℕ → Option Y) (numbers : List ℕ) (g : ℕ) → first_some give numbers ≡ None → has_number numbers g ≡ true → give g ≡ None
looked_at give [] g is among = absurd (cc)
looked_at give (x ∷ xs) g is among = elim (or_either (nat_eq g x) _ among) [
  | inl here ↦ let same : g ≡ x = eqb-true g x here in ap give same ∙ (neither_there (give x) (first_some give xs) is).0
  | inr there ↦ looked_at give xs g (neither_there (give x) (first_some give xs) is).1 there
]

none_placed : (atoms : List Atom) (places : List FlowPlace) (g : ℕ) → list_any (is_place_of g) places ≡ false → refusal_among atoms g (arranged atoms places) ≡ None
none_placed atoms [] g off = refl
none_placed atoms (place ∷ places) g off =
    ap (λ b. if b then refusal_of atoms (arranged atoms places) (arrange atoms (arranged atoms places) place) else refusal_among atoms g (arranged atoms places)) (neither_first (nat_eq place.number g) (list_any (is_place_of g) places) off)
    ∙ none_placed atoms places g (neither_second (nat_eq place.number g) (list_any (is_place_of g) places) off)

clear_flows : (t : Tree) (store : List Bind) (defer : Bool) → tree_refusal t (outline_of_tree t store defer) ≡ None → (g : ℕ) → refusal_at (outline_of_tree t store defer) g ≡ None
clear_flows t store defer none g = elim (either_way (list_any (is_place_of g) (flows_of 0 0 t))) [
  | inl on ↦ looked_at (refusal_at (outline_of_tree t store defer)) (innermost_first 0 t) g none (in_tree t 0 0 g on)
  | inr off ↦ none_placed (atoms_of 0 t) (flows_of 0 0 t) g off
]

none_first : {Y : Type 0} (give : ℕ → Option Y) (numbers : List ℕ) → ((g : ℕ) → give g ≡ None) → first_some give numbers ≡ None
none_first give [] each = refl
none_first give (x ∷ xs) each = ap (λ o. option_or o (first_some give xs)) (each x) ∙ none_first give xs each

-- ---- what is kept for an item

-- item u is kept for item t of the root of a tree
abbrev pub keeps_item : Tree → List Bind → Bool → ℕ → ℕ → Bool
keeps_item t store defer item u = nat_eq u item || item_before (outline_of_tree t store defer).flows 0 u item

module _ (head : Head) (items : Trees) (store : List Bind) (defer : Bool) (item : ℕ) (graph : is_graph head.kind ≡ true) (compiles : tree_refusal (flow head items) (outline_of_tree (flow head items) store defer) ≡ None) where
  abbrev test : ℕ → Bool
  test u = keeps_item (flow head items) store defer item u

  abbrev plan : Outline
  plan = outline_of_tree (flow head items) store defer

  abbrev left : Outline
  left = outline_of_tree (kept_tree test (flow head items)) store defer

  ordered : AreOrdered plan.flows
  ordered = compiled_ordered (flow head items) store defer compiles

  clear_all : (g : ℕ) → refusal_at plan g ≡ None
  clear_all = clear_flows (flow head items) store defer compiles

  clear_root : ambiguity (whole test head items) (all test head items) (root test head items) ≡ None
  clear_root =
      (neither_there (ambiguity (whole test head items) (all test head items) (root test head items)) (cycle_of (arrange (whole test head items) (all test head items) (root test head items)))
      (ap (λ b. if b then option_or (ambiguity (whole test head items) (all test head items) (root test head items)) (cycle_of (arrange (whole test head items) (all test head items) (root test head items))) else None) (sym graph) ∙ clear_all 0)).0

  closed_root : IsClosed test head items
  closed_root u v linked kept =
      let first : item_before plan.flows 0 u v ≡ true = (each_arranged (atoms_of 0 (flow head items)) (flows_of 0 0 (flow head items)) 0 (arrange (whole test head items) (all test head items) (root test head items)) refl).links u v linked in
      true_second (nat_eq u item) (item_before plan.flows 0 u item) (leads first (or_either (nat_eq v item) (item_before plan.flows 0 v item) kept))
    where
      leads : item_before plan.flows 0 u v ≡ true → (nat_eq v item ≡ true) ⊎ (item_before plan.flows 0 v item ≡ true) → item_before plan.flows 0 u item ≡ true
      leads first (inl same) = ap (λ (w : ℕ). item_before plan.flows 0 u w) (sym (eqb-true v item same)) ∙ first
      leads first (inr later) = ordered.transitive 0 u v item first later

  pub kept_compiles : tree_refusal (kept_tree test (flow head items)) left ≡ None
  kept_compiles = none_first (refusal_at left) (innermost_first 0 (kept_tree test (flow head items))) (refused_beside test head items graph closed_root clear_root clear_all (ordered.irreflexive 0))

  before_kept : (a b : ℕ) → is_before left a b ≡ is_before plan (at test head items a) (at test head items b)
  unfolding is_before
  before_kept a b =
      sym (ap2 (λ v w. path_before plan.flows v w) (path_carried (fl test head items) (at test head items) (it test head items) (part test head items) (whole test head items) (carried test head items) a)
      (path_carried (fl test head items) (at test head items) (it test head items) (part test head items) (whole test head items) (carried test head items) b)
      ∙ before_carried (fl test head items) (at test head items) (it test head items) (part test head items) (whole test head items) (carried test head items)
      (arrange (part test head items) (inner test head items) (root_part test head items) ∷ inner test head items) (arrange (whole test head items) (all test head items) (root test head items) ∷ all test head items)
      (orders_beside test head items graph closed_root clear_root) (path_at (part test head items) a) (path_at (part test head items) b))

  -- ---- scopes

  left_avoids : (b : ℕ) → is_image (at test head items) b ≡ false → Avoids (fl test head items) (it test head items) (path_at (whole test head items) b)
  left_avoids b off = elim ((carried test head items).kept b) [
    | inl image ↦ absurd (clash (is_image (at test head items) b) (ap (is_image (at test head items)) (sym image.is) ∙ image_yes (at test head items) (carried test head items).rises image.number) off)
    | inr avoids ↦ avoids
  ]

  left_not_before : (a b : ℕ) → is_image (at test head items) b ≡ false → is_before plan b (at test head items a) ≡ false
  unfolding is_before
  left_not_before a b off =
      ap (path_before plan.flows (path_at (whole test head items) b)) (path_carried (fl test head items) (at test head items) (it test head items) (part test head items) (whole test head items) (carried test head items) a)
      ∙ before_none (fl test head items) (it test head items) plan.flows (item_back test head items graph closed_root clear_root) (path_at (whole test head items) b) (path_at (part test head items) a) (left_avoids b off)

  visits : (a : ℕ) (x : Turn) → members_in plan (at test head items a) (whole_turn (fl test head items) (it test head items) x) ≡ map (at test head items) (members_in left a x)
  visits a x =
      visits_kept (at test head items) (is_earlier plan (at test head items a)) (is_elsewhere plan (whole_turn (fl test head items) (it test head items) x)) (is_earlier left a) (is_elsewhere left x)
      (flow_at plan.flows (fl test head items x.flow)).standing (flow_at left.flows x.flow).standing
      (flow_stands test head items graph closed_root clear_root (ordered.irreflexive 0) x.flow)
      (left_not_before a)
      (λ b off. ap not (left_avoids b off x.flow x.item))
      (λ b. sym (before_kept b a))
      (λ b. ap not (ap (passes_item (fl test head items x.flow) (item_in (it test head items) x.flow x.item)) (path_carried (fl test head items) (at test head items) (it test head items) (part test head items) (whole test head items) (carried test head items) b)
      ∙ passes_alike (fl test head items) (at test head items) (it test head items) (part test head items) (whole test head items) (carried test head items) x.flow x.item (path_at (part test head items) b)))

  all_visits : (a : ℕ) (xs : List Turn) → flat_map (members_in plan (at test head items a)) (map (whole_turn (fl test head items) (it test head items)) xs) ≡ map (at test head items) (flat_map (members_in left a) xs)
  all_visits a [] = refl
  all_visits a (x ∷ xs) = ap2 (λ ys zs. ys ++ zs) (visits a x) (all_visits a xs) ∙ sym (map_append (at test head items) (members_in left a x) (flat_map (members_in left a) xs))

  pub members_kept : (a : ℕ) → map (at test head items) (members left a) ≡ members plan (at test head items a)
  unfolding members
  members_kept a =
      sym (ap (λ (w : List Turn). flat_map (members_in plan (at test head items a)) (reverse w)) (path_carried (fl test head items) (at test head items) (it test head items) (part test head items) (whole test head items) (carried test head items) a)
      ∙ (ap (flat_map (members_in plan (at test head items a))) (sym (map_reverse (whole_turn (fl test head items) (it test head items)) (path_at (part test head items) a)))
      ∙ all_visits a (reverse (path_at (part test head items) a))))

  -- ---- symbols

  part_same : (a : ℕ) → part_at (whole test head items) (at test head items a) ≡ part_at (part test head items) a
  part_same a = part_carried (fl test head items) (at test head items) (it test head items) (part test head items) (whole test head items) (carried test head items) a

  lists_moved : (symbol : List ℕ) (xs : List ℕ) → list_any (lists_symbol plan symbol) (map (at test head items) xs) ≡ list_any (lists_symbol left symbol) xs
  lists_moved symbol [] = refl
  lists_moved symbol (x ∷ xs) = ap2 (λ p q. p || q) (ap (λ (o : Option Part). is_among (option_map_or listed o []) symbol) (part_same x)) (lists_moved symbol xs)

  source_same : (a : ℕ) (symbol : List ℕ) → has_source left a symbol ≡ has_source plan (at test head items a) symbol
  source_same a symbol =
      ap2 (λ p q. p || (is_among (bind_symbols store) symbol || q))
      (ap (λ (o : Option Part). is_among (bind_symbols (option_map_or injected_in o [])) symbol) (sym (part_same a)))
      (sym (lists_moved symbol (members left a)) ∙ ap (list_any (lists_symbol plan symbol)) (members_kept a))

  missing_same : (a : ℕ) → missing_of left a ≡ missing_of plan (at test head items a)
  missing_same a =
      ap2 (λ (give : Arg → Option Missing) (args : List Arg). first_some give args)
      (fun_ext (λ arg. ap2 (λ (on : Bool) (name : List ℕ). if on then None else Some (record { atom = name; symbol = arg.symbol })) (source_same a arg.symbol) (ap (λ (o : Option Part). option_map_or name_of o []) (sym (part_same a)))))
      (ap (λ (o : Option Part). option_map_or arguments_of o []) (sym (part_same a)))

  pub kept_complete : missing_symbol plan ≡ None → missing_symbol left ≡ None
  kept_complete none = all_none (count left) (omega arith)
    where
      all_none : (n : ℕ) → n ≤ count left → first_some (missing_of left) (numbers_below n) ≡ None
      all_none zero le = refl
      all_none (suc n) le = joined (numbers_below n) (all_none n (omega (arith, le)))
        where
          here : missing_of left n ≡ None
          here = missing_same n ∙ each_none (missing_of plan) (count plan) none (at test head items n) (within_whole (fl test head items) (at test head items) (it test head items) (part test head items) (whole test head items) (carried test head items) n (omega (arith, le)))

          joined : (xs : List ℕ) → first_some (missing_of left) xs ≡ None → first_some (missing_of left) (xs ++ n ∷ []) ≡ None
          joined [] before = ap (λ o. option_or o None) here
          joined (x ∷ xs) before =
              let both = neither_there (missing_of left x) (first_some (missing_of left) xs) before in
              ap (λ o. option_or o (first_some (missing_of left) (xs ++ n ∷ []))) both.0 ∙ joined xs both.1

  -- ---- deciders

  abbrev home_links : List Flow → Option ℕ → List Connection
  home_links flows o = (unwrap_or (option_and_then (find_flow flows) o) no_flow).place.links

  links_told : (o p : Option Flow) → BothCarried (fl test head items) (at test head items) o p → connections_in p ≡ connections_in o
  links_told None None both = refl
  links_told None (Some f) both = absurd both
  links_told (Some f) None both = absurd both
  links_told (Some f) (Some f') both = ap (λ (p : FlowPlace). p.links) both.place

  root_atom : (a : ℕ) → last_flow (path_at (part test head items) a) ≡ Some 0 → is_task left a ≡ true → IsRootTaskIn (slice_get (part test head items) a)
  root_atom a ends tasked = by_atom (slice_get (part test head items) a) ends tasked
    where
      by_atom : (o : Option Atom) → last_flow (option_map_or atom_path o []) ≡ Some 0 → option_map_or is_task_part (option_map part_of o) false ≡ true → IsRootTaskIn o
      by_atom None ends tasked = absurd (cc)
      by_atom (Some x) ends tasked = record { ends = ends; tasked = tasked }

  atom_named : (a : ℕ) → atom_name left a ≡ name_in_part (slice_get (part test head items) a)
  atom_named a = by_atom (slice_get (part test head items) a)
    where
      by_atom : (o : Option Atom) → option_map_or name_of (option_map part_of o) [] ≡ name_in_part o
      by_atom None = refl
      by_atom (Some x) = refl

  name_same : (a : ℕ) → atom_name plan (at test head items a) ≡ atom_name left a
  name_same a = ap (λ (o : Option Part). option_map_or name_of o []) (part_same a)

  links_at : first_some (stray_end (names_among items)) head.links ≡ None → (a : ℕ) → is_task left a ≡ true → (o : Option ℕ) → last_flow (path_at (part test head items) a) ≡ o
      → filter (decides_on (atom_name left a)) (home_links left.flows o) ≡ filter (decides_on (atom_name left a)) (home_links plan.flows (option_map (fl test head items) o))
  links_at known a tasked None is = refl
  links_at known a tasked (Some zero) is =
      let found = root_task test head items graph closed_root clear_root a (root_atom a is tasked) in
      root_deciders test head items graph closed_root clear_root known found.0 (atom_name left a) found.1 (atom_named a ∙ found.2)
      ∙ sym (ap (λ (g : ℕ). filter (decides_on (atom_name left a)) (home_links plan.flows (Some g))) ((carried test head items).root))
  links_at known a tasked (Some (suc g)) is =
      ap (filter (decides_on (atom_name left a)))
      (ap (λ b. connections_in (if b then Some (arrange (part test head items) (inner test head items) (root_part test head items)) else find_flow (inner test head items) (suc g))) (apart_root (suc g) (omega arith))
      ∙ (sym (links_told (find_flow (inner test head items) (suc g)) (find_flow (all test head items) (fl test head items (suc g))) ((nested test head items).each (suc g)))
      ∙ sym (ap (λ b. connections_in (if b then Some (arrange (whole test head items) (all test head items) (root test head items)) else find_flow (all test head items) (fl test head items (suc g)))) (apart_root (fl test head items (suc g)) ((carried test head items).nested (suc g) (omega arith))))))
    where
      apart_root : (h : ℕ) → 0 < h → nat_eq 0 h ≡ false
      apart_root h some = never_true (nat_eq 0 h) (λ is. absurd (omega (arith, some, eqb-true 0 h is)))

  deciders_same : first_some (stray_end (names_among items)) head.links ≡ None → (a : ℕ) → is_task left a ≡ true → decider_links left a ≡ decider_links plan (at test head items a)
  deciders_same known a tasked =
      links_at known a tasked (last_flow (path_at (part test head items) a)) refl
      ∙ sym (ap2 (λ (name : List ℕ) (o : Option ℕ). filter (decides_on name) (home_links plan.flows o)) (name_same a)
      (ap last_flow (path_carried (fl test head items) (at test head items) (it test head items) (part test head items) (whole test head items) (carried test head items) a) ∙ last_moved (fl test head items) (it test head items) (path_at (part test head items) a)))

  pub kept_order : first_some (stray_end (names_among items)) head.links ≡ None → KeepsOrder plan left
  kept_order known = record {
    item = it test head items;
    atom = at test head items;
    names = λ u below. item_named_so test head items u below;
    linked = λ u v first second. sym (links_beside test head items graph closed_root clear_root u v first second);
    parts = λ a. sym (part_carried (fl test head items) (at test head items) (it test head items) (part test head items) (whole test head items) (carried test head items) a);
    before = before_kept;
    scopes = members_kept;
    deciders = deciders_same known;
  }

-- ---- of a tree, and of a plan

abbrev IsGraphTree : Tree → Type 0
IsGraphTree (task t) = ⊥
IsGraphTree (flow head items) = (is_graph head.kind ≡ true) × (first_some (stray_end (names_among items)) head.links ≡ None)

tree_laws : (t : Tree) (store : List Bind) (defer : Bool) (item : ℕ) → IsGraphTree t → tree_refusal t (outline_of_tree t store defer) ≡ None
    → (tree_refusal (kept_tree (keeps_item t store defer item) t) (outline_of_tree (kept_tree (keeps_item t store defer item) t) store defer) ≡ None)
    × KeepsOrder (outline_of_tree t store defer) (outline_of_tree (kept_tree (keeps_item t store defer item) t) store defer)
    × (missing_symbol (outline_of_tree t store defer) ≡ None → missing_symbol (outline_of_tree (kept_tree (keeps_item t store defer item) t) store defer) ≡ None)
tree_laws (task t) store defer item graph none = absurd graph
tree_laws (flow head items) store defer item graph none = (kept_compiles head items store defer item graph.0 none, kept_order head items store defer item graph.0 none graph.1, kept_complete head items store defer item graph.0 none)

-- plans whose roots are written alike have one outline
outline_alike : (a b : Tree) (store store' : List Bind) (defer defer' : Bool) → as_written a ≡ as_written b → store ≡ store' → defer ≡ defer' → outline_of_tree a store defer ≡ outline_of_tree b store' defer'
outline_alike a b store store' defer defer' same stored deferred =
    ap (λ (atoms : List Atom). outline_with atoms (flows_of 0 0 a) store defer) (atoms_alike 0 a b same)
    ∙ (ap (λ (places : List FlowPlace). outline_with (atoms_of 0 b) places store defer) (flows_alike 0 0 a b same)
    ∙ (ap (λ (values : List Bind). outline_with (atoms_of 0 b) (flows_of 0 0 b) values defer) stored
    ∙ ap (λ (x : Bool). outline_with (atoms_of 0 b) (flows_of 0 0 b) store' x) deferred))

graph_tree : (f : FlowValue) (store : List Bind) → is_graph f.kind ≡ true → first_refusal f store ≡ None → IsGraphTree (tree_of f)
graph_tree f store graph accepted = subst IsGraphTree (sym (tree_of-flow f)) (graph, root_known f store accepted)

module _ (plan kept : PlanValue) (name : List ℕ) (graph : is_graph plan.root.kind ≡ true) (accepted : first_refusal plan.root plan.store ≡ None) (compiles : compile_refusal plan ≡ None) (is : IsTargetOf (plan_tree plan) name (plan_tree kept)) where
  laws : (tree_refusal (target_tree (plan_tree plan) is.item) (outline_of_tree (target_tree (plan_tree plan) is.item) plan.store plan.defer) ≡ None) × KeepsOrder (outline_of plan) (outline_of_tree (target_tree (plan_tree plan) is.item) plan.store plan.defer)
      × (missing_symbol (outline_of plan) ≡ None → missing_symbol (outline_of_tree (target_tree (plan_tree plan) is.item) plan.store plan.defer) ≡ None)
  laws = tree_laws (tree_of plan.root) plan.store plan.defer is.item (graph_tree plan.root plan.store graph accepted) compiles

  same_outline : outline_of kept ≡ outline_of_tree (target_tree (plan_tree plan) is.item) plan.store plan.defer
  same_outline = outline_alike (tree_of kept.root) (target_tree (plan_tree plan) is.item) kept.store plan.store kept.defer plan.defer is.root is.store is.defer

  pub target_compiles : compile_refusal kept ≡ None
  target_compiles =
      ap (λ (order : List ℕ). first_some (refusal_at (outline_of kept)) order) (innermost_alike 0 (tree_of kept.root) (target_tree (plan_tree plan) is.item) is.root)
      ∙ (ap (λ (o : Outline). tree_refusal (target_tree (plan_tree plan) is.item) o) same_outline ∙ laws.0)

  pub target_order : KeepsOrder (outline_of plan) (outline_of kept)
  target_order = subst (KeepsOrder (outline_of plan)) (sym same_outline) laws.1

  pub target_complete : missing_symbol (outline_of plan) ≡ None → missing_symbol (outline_of kept) ≡ None
  target_complete none = ap missing_symbol same_outline ∙ laws.2 none
