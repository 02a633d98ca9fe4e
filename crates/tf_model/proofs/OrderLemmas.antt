-- Where a plan compiles, the items of each of its flows are in an order.
use Rattle.std.proofs.Common.{◌≡◌, ℕ, suc, ◌+◌, ◌<◌, List, [], ◌∷◌, length, Bool, true, false, ◌||◌, Option, Some, None, refl, sym, ap, ◌∙◌, inl, inr, eqb-true, eq-eqb, arith, cond, subst}
use Rattle.std.specs.Prelude.{if◌then◌else◌, nat_eq, nat_lt}
use Rattle.std.specs.List.{list_any}
use Rattle.std.specs.Option.{option_or}
use Rattle.std.proofs.lemmas.Bool.{ltb-true, lt-ltb}
use Rattle.tf_flow.specs.declared.nested.FlowKind.{FlowKind}
use Rattle.tf_flow.specs.declared.nested.FlowKind.TheVariants as kind
use Rattle.tf_flow.specs.Tree.{first_some, Tree, Trees, task, flow, no_trees, tree, tree_of}
use Rattle.tf_flow.specs.Plan.{PlanValue}
use Rattle.tf_flow.specs.Rules.{is_graph}
use Rattle.tf_flow.specs.declared.atoms.Bind.{Bind}
use Rattle.tf_numbers.specs.Numbers.{first_below, has_number, Pair, has_pair, pairs_below}
use Rattle.tf_flow.specs.Outline.{Atom, FlowPlace, flows_of, flows_among, innermost_first, innermost_among, atoms_of, flow_count, atom_count, retry_count}
use Rattle.tf_model.specs.Before.{Flow, has_flow_number, find_flow, item_before, is_linked, item_order, arrange, arranged}
use Rattle.tf_model.specs.Plan.{Outline, outline_of_tree, outline_of, ambiguity, cycle_of, cycle_through, is_back, refusal_of, refusal_among, refusal_at, tree_refusal, compile_refusal}
use Rattle.tf_model.proofs.Told.{order_in}
use Rattle.tf_model.specs.Laws.{AreOrdered}
use Rattle.tf_numbers.proofs.TruthLemmas.{or_either, true_first, never_true}
use Rattle.tf_numbers.proofs.PairLemmas.{passes_pair, any_left, any_right, any_in_both, pair_passes}
use Rattle.tf_links.specs.Graphs.{reached}
use Rattle.tf_links.proofs.ReachedLemmas.{reached_chain, reached_within, reached_keeps}
use Rattle.tf_numbers.proofs.BelowLemmas.{none_at}
use Rattle.tf_numbers.proofs.OptionLemmas.{none_mapped}

-- ---- each flow of a plan has the order of its kind

pub record IsArranged (f : Flow) : Type 0 where
  pub order : f.order ≡ item_order f.place.kind (length f.place.items) f.linked
  pub from : (u v : ℕ) → has_pair f.linked u v ≡ true → u < length f.place.items
  pub within : (u v : ℕ) → has_pair f.linked u v ≡ true → v < length f.place.items
  pub links : (u v : ℕ) → has_pair f.linked u v ≡ true → has_pair f.order u v ≡ true
  pub unlinked : is_graph f.place.kind ≡ false → f.linked ≡ []

linked_from : (n : ℕ) (test : ℕ → ℕ → Bool) (b : Bool) (u v : ℕ) → has_pair (if b then pairs_below n test else []) u v ≡ true → u < n
linked_from n test true u v is = (pair_passes n test u v is).first
linked_from n test false u v is = absurd (cc)

linked_within : (n : ℕ) (test : ℕ → ℕ → Bool) (b : Bool) (u v : ℕ) → has_pair (if b then pairs_below n test else []) u v ≡ true → v < n
linked_within n test true u v is = (pair_passes n test u v is).second
linked_within n test false u v is = absurd (cc)

-- a link is part of the order
linked_ordered : (how : FlowKind) (n : ℕ) (test : ℕ → ℕ → Bool) (u v : ℕ) → has_pair (if is_graph how then pairs_below n test else []) u v ≡ true
    → has_pair (item_order how n (if is_graph how then pairs_below n test else [])) u v ≡ true
linked_ordered kind.Linear n test u v is = absurd (cc)
linked_ordered kind.Unordered n test u v is = absurd (cc)
linked_ordered kind.Graph n test u v is = let passes = pair_passes n test u v is in reached_keeps n (pairs_below n test) n u v passes.first passes.second is

unlinked_unless : (pairs : List Pair) (b : Bool) → b ≡ false → (if b then pairs else []) ≡ []
unlinked_unless pairs true is = absurd (cc)
unlinked_unless pairs false is = refl

is_arranged : (atoms : List Atom) (inner : List Flow) (place : FlowPlace) → IsArranged (arrange atoms inner place)
is_arranged atoms inner place = record { order = refl; from = linked_from (length place.items) (is_linked atoms inner place) (is_graph place.kind); within = linked_within (length place.items) (is_linked atoms inner place) (is_graph place.kind); links = linked_ordered place.kind (length place.items) (is_linked atoms inner place); unlinked = unlinked_unless (pairs_below (length place.items) (is_linked atoms inner place)) (is_graph place.kind) }

found_arranged : (g : ℕ) (first : Flow) (others : List Flow) (b : Bool) → IsArranged first → ((f : Flow) → find_flow others g ≡ Some f → IsArranged f)
    → (f : Flow) → cond b (Some first) (find_flow others g) ≡ Some f → IsArranged f
found_arranged g first others true here there f is = let same : first ≡ f = cc in subst IsArranged same here
found_arranged g first others false here there f is = there f is

pub each_arranged : (atoms : List Atom) (places : List FlowPlace) (g : ℕ) (f : Flow) → find_flow (arranged atoms places) g ≡ Some f → IsArranged f
each_arranged atoms [] g f is = absurd (cc)
each_arranged atoms (place ∷ places) g f is =
    found_arranged g (arrange atoms (arranged atoms places) place) (arranged atoms places) (has_flow_number g (arrange atoms (arranged atoms places) place))
    (is_arranged atoms (arranged atoms places) place) (each_arranged atoms places g) f is

chain_by : (how : FlowKind) (n : ℕ) (linked : List Pair) → ((u v : ℕ) → has_pair linked u v ≡ true → v < n) → (u v w : ℕ)
    → has_pair (item_order how n linked) u v ≡ true → has_pair (item_order how n linked) v w ≡ true → has_pair (item_order how n linked) u w ≡ true
chain_by kind.Linear n linked within u v w first second =
    let uv = pair_passes n nat_lt u v first in
    let vw = pair_passes n nat_lt v w second in
    let one : u < v = ltb-true u v uv.tested in
    let two : v < w = ltb-true v w vw.tested in
    passes_pair n nat_lt u w uv.first vw.second (lt-ltb u w (omega (arith, one, two)))
chain_by kind.Unordered n linked within u v w first second = absurd (cc)
chain_by kind.Graph n linked within u v w first second = reached_chain n linked within u v w first second

-- ---- no item comes before itself

none_second : {X : Type 0} (o p : Option X) → option_or o p ≡ None → p ≡ None
none_second None p is = is
none_second (Some x) p is = absurd (cc)

-- a flow without a cycle
itself_by : (how : FlowKind) (n : ℕ) (linked order : List Pair) (u : ℕ) → order ≡ item_order how n linked → ((v w : ℕ) → has_pair linked v w ≡ true → w < n)
    → (is_graph how ≡ true → first_below n (is_back n linked) ≡ None) → has_pair order u u ≡ true → ⊥
itself_by kind.Linear n linked order u is within looked on =
    let passes = pair_passes n nat_lt u u (ap (λ (o : List Pair). has_pair o u u) (sym is) ∙ on) in
    let less : u < u = ltb-true u u passes.tested in omega (arith, less)
itself_by kind.Unordered n linked order u is within looked on = let no : false ≡ true = ap (λ (o : List Pair). has_pair o u u) (sym is) ∙ on in cc
itself_by kind.Graph n linked order u is within looked on =
    let back : has_pair (reached n linked) u u ≡ true = ap (λ (o : List Pair). has_pair o u u) (sym is) ∙ on in
    let off : has_pair (reached n linked) u u ≡ false = none_at n (is_back n linked) u (looked refl) (reached_within n linked n within u u back) in
    let no : true ≡ false = sym back ∙ off in cc

-- ---- every flow is looked at

abbrev is_place_of : ℕ → FlowPlace → Bool
is_place_of g place = nat_eq place.number g

mutual
  in_tree : (t : Tree) (n a g : ℕ) → list_any (is_place_of g) (flows_of n a t) ≡ true → has_number (innermost_first n t) g ≡ true
  in_tree (task t) n a g is = absurd (cc)
  in_tree (flow head items) n a g is = elim (or_either (nat_eq n g) _ is) [
    | inl here ↦ any_right (nat_eq g) (innermost_among (suc n) items) (n ∷ []) (true_first (nat_eq g n) false (eq-eqb g n (sym (eqb-true n g here))))
    | inr there ↦ any_left (nat_eq g) (innermost_among (suc n) items) (n ∷ []) (in_trees items (suc n) (a + retry_count head.retry) g there)
  ]

  in_trees : (ts : Trees) (n a g : ℕ) → list_any (is_place_of g) (flows_among n a ts) ≡ true → has_number (innermost_among n ts) g ≡ true
  in_trees no_trees n a g is = absurd (cc)
  in_trees (tree first others) n a g is = elim (any_in_both (is_place_of g) (flows_of n a first) _ is) [
    | inl here ↦ any_left (nat_eq g) (innermost_first n first) _ (in_tree first n a g here)
    | inr there ↦ any_right (nat_eq g) (innermost_first n first) _ (in_trees others (n + flow_count first) (a + atom_count first) g there)
  ]

-- ---- a plan that compiles

no_refusal : (atoms : List Atom) (flows : List Flow) (f : Flow) (b : Bool) → is_graph f.place.kind ≡ b → (if b then option_or (ambiguity atoms flows f.place) (cycle_of f) else None) ≡ None
    → b ≡ true → cycle_of f ≡ None
no_refusal atoms flows f true was is graph = none_second (ambiguity atoms flows f.place) (cycle_of f) is
no_refusal atoms flows f false was is graph = absurd (cc)

looked_at : {Y : Type 0} (give : ℕ → Option Y) (numbers : List ℕ) (g : ℕ) → first_some give numbers ≡ None → has_number numbers g ≡ true → give g ≡ None
looked_at give [] g is among = absurd (cc)
looked_at give (x ∷ xs) g is among = elim (or_either (nat_eq g x) _ among) [
  | inl here ↦ let same : g ≡ x = eqb-true g x here in ap give same ∙ none_here (give x) _ is
  | inr there ↦ looked_at give xs g (none_second (give x) (first_some give xs) is) there
]
  where
    none_here : {Y : Type 0} (o p : Option Y) → option_or o p ≡ None → o ≡ None
    none_here None p is = refl
    none_here (Some y) p is = absurd (cc)

-- the flow that is found is one of the places
found_place : (g : ℕ) (f first : Flow) (others : Option Flow) (b rest : Bool) → (others ≡ Some f → rest ≡ true) → cond b (Some first) others ≡ Some f → b || rest ≡ true
found_place g f first others true rest there is = refl
found_place g f first others false rest there is = there is

place_among : (atoms : List Atom) (places : List FlowPlace) (g : ℕ) (f : Flow) → find_flow (arranged atoms places) g ≡ Some f → list_any (is_place_of g) places ≡ true
place_among atoms [] g f is = absurd (cc)
place_among atoms (place ∷ places) g f is =
    found_place g f (arrange atoms (arranged atoms places) place) (find_flow (arranged atoms places) g) (nat_eq place.number g) (list_any (is_place_of g) places) (place_among atoms places g f) is

found_refused : (atoms : List Atom) (g : ℕ) (x f : Flow) (inner : List Flow) (b : Bool) → cond b (Some x) (find_flow inner g) ≡ Some f
    → (if b then refusal_of atoms inner x else refusal_among atoms g inner) ≡ None
    → (find_flow inner g ≡ Some f → refusal_among atoms g inner ≡ None → is_graph f.place.kind ≡ true → cycle_of f ≡ None) → is_graph f.place.kind ≡ true → cycle_of f ≡ None
found_refused atoms g x f inner true found is later graph =
    let same : x ≡ f = cc in
    no_refusal atoms inner f (is_graph f.place.kind) refl (ap (refusal_of atoms inner) (sym same) ∙ is) graph
found_refused atoms g x f inner false found is later graph = later found is graph

refused_among : (atoms : List Atom) (g : ℕ) (flows : List Flow) (f : Flow) → find_flow flows g ≡ Some f → refusal_among atoms g flows ≡ None → is_graph f.place.kind ≡ true → cycle_of f ≡ None
refused_among atoms g [] f found is graph = absurd (cc)
refused_among atoms g (x ∷ inner) f found is graph = found_refused atoms g x f inner (has_flow_number g x) found is (refused_among atoms g inner f) graph

refused_not : (plan : Outline) (g : ℕ) (f : Flow) → find_flow plan.flows g ≡ Some f → refusal_at plan g ≡ None → is_graph f.place.kind ≡ true → cycle_of f ≡ None
refused_not plan g f found is = refused_among plan.atoms g plan.flows f found is

-- of the flow that is found, the order goes on and leads to no item itself
chain_found : (o : Option Flow) → ((f : Flow) → o ≡ Some f → IsArranged f) → (u v w : ℕ) → has_pair (order_in o) u v ≡ true → has_pair (order_in o) v w ≡ true → has_pair (order_in o) u w ≡ true
chain_found None each u v w first second = absurd (cc)
chain_found (Some f) each u v w first second =
    let is = each f refl in
    ap (λ (o : List Pair). has_pair o u w) is.order
    ∙ chain_by f.place.kind (length f.place.items) f.linked is.within u v w (ap (λ (o : List Pair). has_pair o u v) (sym is.order) ∙ first) (ap (λ (o : List Pair). has_pair o v w) (sym is.order) ∙ second)

itself_found : (o : Option Flow) → ((f : Flow) → o ≡ Some f → IsArranged f) → ((f : Flow) → o ≡ Some f → is_graph f.place.kind ≡ true → cycle_of f ≡ None) → (u : ℕ) → has_pair (order_in o) u u ≡ true → ⊥
itself_found None each looked u on = absurd (cc)
itself_found (Some f) each looked u on =
    let is = each f refl in
    itself_by f.place.kind (length f.place.items) f.linked f.order u is.order is.within
    (λ graph. none_mapped (cycle_through f.place (length f.place.items) f.linked) (first_below (length f.place.items) (is_back (length f.place.items) f.linked)) (looked f refl graph)) on

-- where nothing is refused, the items of each flow are in an order
pub compiled_ordered : (root : Tree) (store : List Bind) (defer : Bool) → tree_refusal root (outline_of_tree root store defer) ≡ None → AreOrdered (outline_of_tree root store defer).flows
compiled_ordered root store defer is = record {
  transitive = λ g. chain_found (find_flow (outline_of_tree root store defer).flows g) (each_arranged (atoms_of 0 root) (flows_of 0 0 root) g);
  irreflexive = λ g u. never_true (item_before (outline_of_tree root store defer).flows g u u)
      (itself_found (find_flow (outline_of_tree root store defer).flows g) (each_arranged (atoms_of 0 root) (flows_of 0 0 root) g)
      (λ f found. refused_not (outline_of_tree root store defer) g f found
      (looked_at (refusal_at (outline_of_tree root store defer)) (innermost_first 0 root) g is (in_tree root 0 0 g (place_among (atoms_of 0 root) (flows_of 0 0 root) g f found)))) u);
}

pub plan_ordered : (plan : PlanValue) → compile_refusal plan ≡ None → AreOrdered (outline_of plan).flows
plan_ordered plan is = compiled_ordered (tree_of plan.root) plan.store plan.defer is
