-- What a refused task ignores is after it.
use Rattle.std.proofs.Common.{◌≡◌, ◌≢◌, ℕ, suc, ◌+◌, ◌<◌, List, [], ◌∷◌, Bool, true, false, Option, Some, None, refl, sym, ap, ◌∙◌, ◌⊎◌, inl, inr, eqb-true, eq-eqb, arith, subst}
use Rattle.std.specs.Prelude.{nat_eq, ◌||◌, if◌then◌else◌}
use Rattle.std.proofs.lemmas.Bool.{ne_eqb}
use Rattle.tf_flow.specs.declared.deciders.Depth.{Depth}
use Rattle.tf_flow.specs.declared.deciders.Depth.TheVariants as depth
use Rattle.tf_flow.specs.Plan.{PlanValue}
use Rattle.tf_flow.specs.Tree.{Tree, Trees, task, flow, no_trees, tree, tree_of}
use Rattle.tf_numbers.specs.Numbers.{Pair, has_pair}
use Rattle.tf_flow.specs.Outline.{atoms_of, flows_of, flow_count}
use Rattle.tf_flow.specs.declared.paths.Turn.{Turn}
use Rattle.std.specs.Option.{unwrap_or}
use Rattle.tf_model.specs.Before.{Flow, find_flow, no_flow, item_before, turn_before, path_before}
use Rattle.tf_model.specs.Plan.{outline_of, is_before, is_task, path, own_flow, last_flow, compile_refusal, Outline}
use Rattle.tf_model.specs.Readiness.{home, last_item, same_flow, is_sibling, linked_places, is_neighbor, ignores_other, ignores}
use Rattle.tf_flow.specs.Rules.{is_graph}
use Rattle.tf_model.specs.Laws.{IsLinkedTask}
use Rattle.tf_model.proofs.Told.{order_in, linked_in, found_home, flow_in}
use Rattle.tf_numbers.proofs.TruthLemmas.{and_first, and_second, or_either, true_both, second_false}
use Rattle.tf_model.proofs.OrderLemmas.{IsArranged, each_arranged, plan_ordered}
use Rattle.tf_model.proofs.PathLemmas.{turn_to, IsPath, IsPathAmong, AreTogether, together, path_of_each, paths_of}
use Rattle.tf_model.proofs.RetryLemmas.{passes_last, ends_below}

abbrev IsItem : Option ℕ → Type 0
IsItem None = ⊥
IsItem (Some i) = Unit {0}

-- the path leads into F by its last turn alone, and by the others to items
abbrev EndsOnce : ℕ → List Turn → Type 0
EndsOnce F [] = ⊥
EndsOnce F (x ∷ []) = x.flow ≡ F
EndsOnce F (x ∷ y ∷ ys) = (x.flow ≢ F) × IsItem x.item × EndsOnce F (y ∷ ys)

once_behind : (F g i : ℕ) (rest : List Turn) → last_flow (turn_to g (Some i) ∷ rest) ≡ Some F → (last_flow rest ≡ Some F → (g ≢ F) × EndsOnce F rest) → EndsOnce F (turn_to g (Some i) ∷ rest)
once_behind F g i [] last each = let same : g ≡ F = cc in same
once_behind F g i (y ∷ ys) last each = ((each last).0, tt, (each last).1)

mutual
  ends_once : (t : Tree) (g F : ℕ) (c : List Turn) → IsPath g t c → last_flow c ≡ Some F → EndsOnce F c
  ends_once (task t) g F c is last = let no : None ≡ Some F = ap last_flow (sym is) ∙ last in absurd (cc)
  ends_once (flow head items) g F c is last = elim is [
    | inl own ↦ let whole : Some g ≡ Some F = ap last_flow (sym own) ∙ last in let same : g ≡ F = cc in subst (EndsOnce F) (sym own) same
    | inr among ↦ ends_once_among items g 0 (suc g) F c (omega arith) among last
  ]

  ends_once_among : (ts : Trees) (g i n F : ℕ) (c : List Turn) → g < n → IsPathAmong g i n ts c → last_flow c ≡ Some F → EndsOnce F c
  ends_once_among no_trees g i n F c below is last = absurd is
  ends_once_among (tree first others) g i n F c below is last = elim is [
    | inl here ↦ subst (EndsOnce F) (sym here.is) (once_behind F g i here.rest (ap last_flow (sym here.is) ∙ last)
        (λ rest_last. (ends_below first g n F here.rest below here.on rest_last, ends_once first n F here.rest here.on rest_last)))
    | inr later ↦ ends_once_among others g (suc i) (n + flow_count first) F c (omega (arith, below)) later last
  ]

-- ---- of two atoms of one flow the order of their items decides

other_item : (b below other : Bool) → b ≡ false → other ≡ true → (if b then below else other) ≡ true
other_item true below other is more = absurd (cc)
other_item false below other is more = more

one_item : (b below other : Bool) → b ≡ true → below ≡ true → (if b then below else other) ≡ true
one_item true below other is more = more
one_item false below other is more = absurd (cc)

turn_decides : (flows : List Flow) (F u w : ℕ) (x y : Turn) (below : Bool) → x.flow ≡ F → x.item ≡ Some u → y.item ≡ Some w → item_before flows F u w ≡ true → u ≢ w → turn_before flows x.flow x.item y.item below ≡ true
turn_decides flows F u w x y below into first second is differ =
    ap (λ (g : ℕ). turn_before flows g x.item y.item below) into
    ∙ (ap (λ (o : Option ℕ). turn_before flows F o y.item below) first
    ∙ (ap (λ (o : Option ℕ). turn_before flows F (Some u) o below) second ∙ other_item (nat_eq u w) below (item_before flows F u w) (ne_eqb u w differ) is))

same_turn : (flows : List Flow) (g : ℕ) (item : Option ℕ) (below : Bool) → IsItem item → below ≡ true → turn_before flows g item item below ≡ true
same_turn flows g None below is more = absurd is
same_turn flows g (Some i) below is more = one_item (nat_eq i i) below (item_before flows g i i) (eq-eqb i i refl) more

siblings : (flows : List Flow) (F u w : ℕ) (c b : List Turn) → EndsOnce F c → EndsOnce F b → AreTogether F c b → last_item c ≡ Some u → last_item b ≡ Some w → item_before flows F u w ≡ true → u ≢ w → path_before flows c b ≡ true
siblings flows F u w [] b one other same first second is differ = absurd one
siblings flows F u w (x ∷ xs) [] one other same first second is differ = absurd other
siblings flows F u w (x ∷ []) (y ∷ []) one other same first second is differ =
    true_both (nat_eq x.flow y.flow) _ (eq-eqb x.flow y.flow (one ∙ sym other)) (turn_decides flows F u w x y (path_before flows [] []) one first second is differ)
siblings flows F u w (x ∷ []) (y ∷ z ∷ zs) one other same first second is differ = elim same [ inl both ↦ absurd (other.0 both.1) | inr turn ↦ absurd (other.0 (ap (λ (t : Turn). t.flow) (sym turn.0) ∙ one)) ]
siblings flows F u w (x ∷ z ∷ zs) (y ∷ []) one other same first second is differ = elim same [ inl both ↦ absurd (one.0 both.0) | inr turn ↦ absurd (one.0 (ap (λ (t : Turn). t.flow) turn.0 ∙ other)) ]
siblings flows F u w (x ∷ p ∷ ps) (y ∷ q ∷ qs) one other same first second is differ = elim same [
  | inl both ↦ absurd (one.0 both.0)
  | inr turn ↦
      ap (λ (t : Turn). path_before flows (x ∷ p ∷ ps) (t ∷ q ∷ qs)) (sym turn.0)
      ∙ true_both (nat_eq x.flow x.flow) _ (eq-eqb x.flow x.flow refl)
      (same_turn flows x.flow x.item (path_before flows (p ∷ ps) (q ∷ qs)) one.1 (siblings flows F u w (p ∷ ps) (q ∷ qs) one.2 other.2 turn.1 first second is differ))
]

-- ---- what is ignored

-- a link of a flow that is found is part of its order
link_before : (o : Option Flow) → ((f : Flow) → o ≡ Some f → IsArranged f) → (u w : ℕ) → has_pair (linked_in o) u w ≡ true → has_pair (order_in o) u w ≡ true
link_before None each u w is = absurd (cc)
link_before (Some f) each u w is = (each f refl).links u w is

-- two atoms stand in one flow
record InOne (a b : Option ℕ) : Type 0 where
  flow : ℕ
  first : a ≡ Some flow
  second : b ≡ Some flow

in_one : (a b : Option ℕ) → same_flow a b ≡ true → InOne a b
in_one None b is = absurd (cc)
in_one (Some g) None is = absurd (cc)
in_one (Some g) (Some h) is = record { flow = g; first = refl; second = ap (λ (k : ℕ). Some k) (eqb-true h g is) }

-- two places that are linked
record Joined (linked : List Pair) (from to : Option ℕ) : Type 0 where
  source : ℕ
  target : ℕ
  from_is : from ≡ Some source
  to_is : to ≡ Some target
  on : has_pair linked source target ≡ true

joined : (linked : List Pair) (from to : Option ℕ) → linked_places linked from to ≡ true → Joined linked from to
joined linked None to is = absurd (cc)
joined linked (Some u) None is = absurd (cc)
joined linked (Some u) (Some w) is = record { source = u; target = w; from_is = refl; to_is = refl; on = is }

neighbor_after : (plan : PlanValue) (v a : ℕ) → compile_refusal plan ≡ None → is_neighbor (outline_of plan) v a ≡ true → is_before (outline_of plan) v a ≡ true
unfolding is_before
neighbor_after plan v a compiles is =
    let one = in_one (own_flow (outline_of plan) a) (own_flow (outline_of plan) v) (and_second (is_task (outline_of plan) a) _ (and_first (is_sibling (outline_of plan) v a) _ is)) in
    let link = joined (linked_in (found_home (outline_of plan) v)) (last_item (path (outline_of plan) v)) (last_item (path (outline_of plan) a)) (and_second (is_sibling (outline_of plan) v a) _ is) in
    let found : has_pair (linked_in (find_flow (outline_of plan).flows one.flow)) link.source link.target ≡ true = ap (λ (o : Option ℕ). has_pair (linked_in (flow_in (outline_of plan) o)) link.source link.target) (sym one.second) ∙ link.on in
    let before : item_before (outline_of plan).flows one.flow link.source link.target ≡ true =
    link_before (find_flow (outline_of plan).flows one.flow) (each_arranged (atoms_of 0 (tree_of plan.root)) (flows_of 0 0 (tree_of plan.root)) one.flow) link.source link.target found in
    let ordered = plan_ordered plan compiles in
    let differ : link.source ≢ link.target = λ same. let again : item_before (outline_of plan).flows one.flow link.source link.source ≡ true = ap (λ (k : ℕ). item_before (outline_of plan).flows one.flow link.source k) same ∙ before in
    let no : true ≡ false = sym again ∙ ordered.irreflexive one.flow link.source in cc in
    let v_is = path_of_each (IsPath 0 (tree_of plan.root)) (atoms_of 0 (tree_of plan.root)) v one.flow (paths_of (tree_of plan.root) 0) (passes_last one.flow (path (outline_of plan) v) one.second) in
    let a_is = path_of_each (IsPath 0 (tree_of plan.root)) (atoms_of 0 (tree_of plan.root)) a one.flow (paths_of (tree_of plan.root) 0) (passes_last one.flow (path (outline_of plan) a) one.first) in
    siblings (outline_of plan).flows one.flow link.source link.target (path (outline_of plan) v) (path (outline_of plan) a)
    (ends_once (tree_of plan.root) 0 one.flow (path (outline_of plan) v) v_is one.second) (ends_once (tree_of plan.root) 0 one.flow (path (outline_of plan) a) a_is one.first)
    (together (tree_of plan.root) 0 one.flow (path (outline_of plan) v) (path (outline_of plan) a) v_is a_is (passes_last one.flow (path (outline_of plan) v) one.second) (passes_last one.flow (path (outline_of plan) a) one.first))
    link.from_is link.to_is before differ

ignored_by : (plan : PlanValue) (v : ℕ) (how : Depth) (a : ℕ) → compile_refusal plan ≡ None → ignores_other (outline_of plan) v how a ≡ true → is_before (outline_of plan) v a ≡ true
ignored_by plan v depth.All a compiles is = is
ignored_by plan v depth.Flow a compiles is = and_second (is_sibling (outline_of plan) v a) _ is
ignored_by plan v depth.Neighbors a compiles is = neighbor_after plan v a compiles is
ignored_by plan v depth.Atom a compiles is = absurd (cc)

-- what a refused task ignores is the task itself, or after it
pub ignored_after : (plan : PlanValue) (v : ℕ) (how : Depth) (a : ℕ) → compile_refusal plan ≡ None → ignores (outline_of plan) v how a ≡ true → (v ≡ a) ⊎ (is_before (outline_of plan) v a ≡ true)
unfolding ignores
ignored_after plan v how a compiles is = elim (or_either (nat_eq v a) _ is) [ inl same ↦ inl (eqb-true v a same) | inr other ↦ inr (ignored_by plan v how a compiles other) ]

-- ---- what depth NEIGHBORS ignores

pub neighbor_linked : (plan : Outline) (v a : ℕ) → ignores plan v depth.Neighbors a ≡ true → (v ≡ a) ⊎ IsLinkedTask plan v a
unfolding ignores
neighbor_linked plan v a is = elim (or_either (nat_eq v a) _ is) [
  | inl same ↦ inl (eqb-true v a same)
  | inr other ↦
      let sibling = and_first (is_sibling plan v a) _ other in
      let one = in_one (own_flow plan a) (own_flow plan v) (and_second (is_task plan a) _ sibling) in
      let link = joined (linked_in (found_home plan v)) (last_item (path plan v)) (last_item (path plan a)) (and_second (is_sibling plan v a) _ other) in
      inr (record {
        from = link.source;
        to = link.target;
        task = and_first (is_task plan a) _ sibling;
        same_flow = one.first ∙ sym one.second;
        stands = link.from_is;
        led_to = link.to_is;
        linked = link.on;
      })
]

pub unlinked_by : (pairs : List Pair) (from to : Option ℕ) → pairs ≡ [] → linked_places pairs from to ≡ false
unlinked_by pairs None to none = refl
unlinked_by pairs (Some u) None none = refl
unlinked_by pairs (Some u) (Some w) none = ap (λ (ps : List Pair). has_pair ps u w) none

home_unlinked : (plan : PlanValue) (o : Option ℕ) → is_graph (unwrap_or (flow_in (outline_of plan) o) no_flow).place.kind ≡ false → linked_in (flow_in (outline_of plan) o) ≡ []
home_unlinked plan None other = refl
home_unlinked plan (Some g) other = by (find_flow (outline_of plan).flows g) refl other
  where
    by : (p : Option Flow) → find_flow (outline_of plan).flows g ≡ p → is_graph (unwrap_or p no_flow).place.kind ≡ false → linked_in p ≡ []
    by None is other = refl
    by (Some f) is other = (each_arranged (atoms_of 0 (tree_of plan.root)) (flows_of 0 0 (tree_of plan.root)) g f is).unlinked other

only_self : (b c : Bool) → c ≡ false → b || c ≡ b
only_self true c is = refl
only_self false c is = is

pub neighbors_in_graphs : (plan : PlanValue) (v a : ℕ) → is_graph (home (outline_of plan) v).place.kind ≡ false → ignores (outline_of plan) v depth.Neighbors a ≡ nat_eq v a
unfolding ignores
neighbors_in_graphs plan v a other =
    only_self (nat_eq v a) _ (second_false (is_sibling (outline_of plan) v a) _
    (unlinked_by (linked_in (found_home (outline_of plan) v)) (last_item (path (outline_of plan) v)) (last_item (path (outline_of plan) a))
    (home_unlinked plan (own_flow (outline_of plan) v) other)))
