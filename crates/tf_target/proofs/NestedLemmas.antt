-- The nested flows of a part have the links, the order and the refusals that they have in the whole.
use Rattle.std.proofs.Common.{◌≡◌, ◌≢◌, ◌∙◌, ℕ, zero, suc, ◌+◌, ◌-◌, ◌<◌, List, [], ◌∷◌, ◌++◌, map, length, Bool, true, false, not, ◌&&◌, ◌||◌, Option, Some, None, filter, flat_map, refl, sym, ap, subst, arith, eqb-true, slice_get}
use Rattle.std.specs.Prelude.{nat_eq, option_map, if◌then◌else◌}
use Rattle.std.specs.Option.{option_map_or, option_or, option_to_list}
use Rattle.std.specs.List.{list_any}
use Rattle.std.proofs.Math.Path.{fun_ext}
use Rattle.std.proofs.lemmas.List.{map-append, length-map}
use Rattle.tf_flow.specs.Tree.{first_some}
use Rattle.tf_flow.specs.Outline.{Atom, Item, Standing, stands_task, stands_flow, FlowPlace}
use Rattle.tf_flow.specs.Rules.{is_graph}
use Rattle.tf_links.specs.Graphs.{shortest_cycle, reached, standing_items}
use Rattle.tf_model.specs.Before.{Flow, find_flow, item_before, joins, is_only, name_of_item, item_name, is_explicit, explicit, reaches_with, is_served, givers, is_inferred, linked_pairs, item_order, standing_at, item_standing, standing_of_item, arrange, arranged, needs, item_provides, retry_provides}
use Rattle.tf_model.specs.Plan.{CompileRefusal, ambiguous, cycle, are_several, is_ambiguous, refuse_symbol, refuse_givers, ambiguity_at, least, is_back, first_cycle, refusal_of, refusal_among}
use Rattle.tf_model.proofs.Told.{order_in, standing_in}
use Rattle.tf_numbers.specs.Numbers.{any_below, which_below, first_below, numbers_below, Pair, has_pair, pairs_below}
use Rattle.tf_numbers.proofs.EquationLemmas.{ap2}
use Rattle.tf_numbers.proofs.TruthLemmas.{never_true}
use Rattle.tf_target.proofs.PartLemmas.{item_at, whole_standing, whole_item, whole_place, Absent, StandsAbsent, ItemsAbsent, ControlAbsent, LeftPlace, PlacesMoved, all_placed, place_kept, place_left}
use Rattle.tf_target.proofs.CarriedLemmas.{Carried, OrdersCarried, provided_carried, needs_carried, flows_same}

-- a flow of the part beside the same flow of the whole
pub record FlowCarried (fl at : ℕ → ℕ) (f whole : Flow) : Type 0 where
  pub place : whole.place ≡ whole_place fl at f.place
  pub linked : whole.linked ≡ f.linked
  pub order : whole.order ≡ f.order
  pub standing : whole.standing ≡ map at f.standing

-- both are there, or none
abbrev pub BothCarried : (fl at : ℕ → ℕ) → Option Flow → Option Flow → Type 0
BothCarried fl at None None = Unit {0}
BothCarried fl at None (Some whole) = ⊥
BothCarried fl at (Some f) None = ⊥
BothCarried fl at (Some f) (Some whole) = FlowCarried fl at f whole

abbrev pub AllCarried : (fl at : ℕ → ℕ) → List Flow → List Flow → Type 0
AllCarried fl at inner all = (g : ℕ) → BothCarried fl at (find_flow inner g) (find_flow all (fl g))

-- no flow of these is the root
abbrev pub HasNoRoot : List Flow → Type 0
HasNoRoot flows = find_flow flows 0 ≡ None

order_told : (fl at : ℕ → ℕ) (o p : Option Flow) → BothCarried fl at o p → order_in p ≡ order_in o
order_told fl at None None both = refl
order_told fl at None (Some whole) both = absurd both
order_told fl at (Some f) None both = absurd both
order_told fl at (Some f) (Some whole) both = both.order

pub standing_told : (fl at : ℕ → ℕ) (o p : Option Flow) → BothCarried fl at o p → standing_in p ≡ map at (standing_in o)
standing_told fl at None None both = refl
standing_told fl at None (Some whole) both = absurd both
standing_told fl at (Some f) None both = absurd both
standing_told fl at (Some f) (Some whole) both = both.standing

-- of nested flows the items keep their numbers, so the order among them is the same
pub orders_nested : (fl at it : ℕ → ℕ) (inner all : List Flow) → fl 0 ≡ 0 → AllCarried fl at inner all → HasNoRoot inner → HasNoRoot all
    → (g u v : ℕ) → item_before all (fl g) (item_at it g u) (item_at it g v) ≡ item_before inner g u v
orders_nested fl at it inner all root each none none_all zero u v =
    ap (λ (o : Option Flow). has_pair (order_in o) (it u) (it v)) (ap (find_flow all) root ∙ none_all) ∙ sym (ap (λ (o : Option Flow). has_pair (order_in o) u v) none)
orders_nested fl at it inner all root each none none_all (suc g) u v = ap (λ (pairs : List Pair). has_pair pairs u v) (order_told fl at (find_flow inner (suc g)) (find_flow all (fl (suc g))) (each (suc g)))

-- ---- a nested flow

module _ (fl at it : ℕ → ℕ) (part whole : List Atom) (c : Carried fl at it part whole) (inner all : List Flow) (orders : OrdersCarried fl at it part whole c inner all) where
  names_carried : (items : List Item) (u : ℕ) → option_map_or name_of_item (slice_get (map (whole_item fl at) items) u) [] ≡ option_map_or name_of_item (slice_get items u) []
  names_carried [] u = refl
  names_carried (x ∷ xs) zero = refl
  names_carried (x ∷ xs) (suc u) = names_carried xs u

  name_carried : (p : FlowPlace) (u : ℕ) → item_name (whole_place fl at p) u ≡ item_name p u
  name_carried p u = names_carried p.items u

  count_carried : (p : FlowPlace) → length (map (whole_item fl at) p.items) ≡ length p.items
  count_carried p = length-map p.items (whole_item fl at)

  explicit_told : (p : FlowPlace) → is_explicit (whole_place fl at p) ≡ is_explicit p
  explicit_told p = fun_ext (λ u. fun_ext (λ v. ap2 (λ (from to : List ℕ). list_any (joins from to) p.links) (name_carried p u) (name_carried p v)))

  explicit_carried : (p : FlowPlace) → explicit (whole_place fl at p) ≡ explicit p
  explicit_carried p = ap2 pairs_below (count_carried p) (explicit_told p)

  provides_here : (p : FlowPlace) (g : ℕ) → p.number ≡ suc g → (symbol : List ℕ) (w : ℕ) → item_provides whole (fl p.number) symbol w ≡ item_provides part p.number symbol w
  provides_here p g is symbol w =
      ap (λ (h : ℕ). item_provides whole (fl h) symbol w) is ∙ (provided_carried fl at it part whole c (suc g) symbol w ∙ ap (λ (h : ℕ). item_provides part h symbol w) (sym is))

  reaches_carried : (p : FlowPlace) (g : ℕ) → p.number ≡ suc g → (symbol : List ℕ) (v w : ℕ) → reaches_with whole (whole_place fl at p) symbol v w ≡ reaches_with part p symbol v w
  reaches_carried p g is symbol v w =
      ap2 (λ x y. x && y)
      (ap2 (λ (n : ℕ) (pairs : List Pair). has_pair (reached n pairs) w v) (count_carried p) (explicit_carried p))
      (provides_here p g is symbol w)

  served_carried : (p : FlowPlace) (g : ℕ) → p.number ≡ suc g → (v : ℕ) (symbol : List ℕ) → is_served whole (whole_place fl at p) v symbol ≡ is_served part p v symbol
  served_carried p g is v symbol =
      ap (λ b. retry_provides p.control symbol || b) (ap2 any_below (count_carried p) (fun_ext (λ w. reaches_carried p g is symbol v w)))

  givers_carried : (p : FlowPlace) (g : ℕ) → p.number ≡ suc g → (v : ℕ) (symbol : List ℕ) → givers whole (whole_place fl at p) v symbol ≡ givers part p v symbol
  givers_carried p g is v symbol =
      ap2 (λ (b : Bool) (xs : List ℕ). if b then [] else xs) (served_carried p g is v symbol)
      (ap2 which_below (count_carried p) (fun_ext (λ u. ap (λ b. not (nat_eq u v) && b) (provides_here p g is symbol u))))

  needs_here : (p : FlowPlace) (g : ℕ) → p.number ≡ suc g → (v : ℕ) → needs whole all (fl p.number) v ≡ needs part inner p.number v
  needs_here p g is v =
      ap (λ (h : ℕ). needs whole all (fl h) v) is ∙ (needs_carried fl at it part whole c inner all orders (suc g) v ∙ ap (λ (h : ℕ). needs part inner h v) (sym is))

  inferred_carried : (p : FlowPlace) (g : ℕ) → p.number ≡ suc g → (u v : ℕ) → is_inferred whole all (whole_place fl at p) u v ≡ is_inferred part inner p u v
  inferred_carried p g is u v =
      ap2 (λ (test : List ℕ → Bool) (symbols : List (List ℕ)). list_any test symbols)
      (fun_ext (λ symbol. ap (is_only u) (givers_carried p g is v symbol))) (needs_here p g is v)

  linked_carried : (p : FlowPlace) (g : ℕ) → p.number ≡ suc g → linked_pairs whole all (whole_place fl at p) ≡ linked_pairs part inner p
  linked_carried p g is =
      ap (λ (pairs : List Pair). if is_graph p.kind then pairs else [])
      (ap2 pairs_below (count_carried p) (fun_ext (λ u. fun_ext (λ v. ap2 (λ x y. x || y) (ap (λ (test : ℕ → ℕ → Bool). test u v) (explicit_told p)) (inferred_carried p g is u v)))))

  pub item_standing_carried : AllCarried fl at inner all → (s : Standing) → standing_at all (whole_standing fl at s) ≡ map at (standing_at inner s)
  item_standing_carried each (stands_task a) = refl
  item_standing_carried each (stands_flow g) = standing_told fl at (find_flow inner g) (find_flow all (fl g)) (each g)

  standing_items_carried : AllCarried fl at inner all → (items : List Item) (u : ℕ) → option_map_or (item_standing all) (slice_get (map (whole_item fl at) items) u) [] ≡ map at (option_map_or (item_standing inner) (slice_get items u) [])
  standing_items_carried each [] u = refl
  standing_items_carried each (x ∷ xs) zero = item_standing_carried each x.standing
  standing_items_carried each (x ∷ xs) (suc u) = standing_items_carried each xs u

  flat_carried : (f h : ℕ → List ℕ) → ((u : ℕ) → f u ≡ map at (h u)) → (xs : List ℕ) → flat_map f xs ≡ map at (flat_map h xs)
  flat_carried f h same [] = refl
  flat_carried f h same (x ∷ xs) = ap2 (λ ys zs. ys ++ zs) (same x) (flat_carried f h same xs) ∙ sym (map-append at (h x) (flat_map h xs))

  control_listed : (o : Option ℕ) → option_to_list (option_map at o) ≡ map at (option_to_list o)
  control_listed None = refl
  control_listed (Some a) = refl

  pub flow_carried : AllCarried fl at inner all → (p : FlowPlace) (g : ℕ) → p.number ≡ suc g → FlowCarried fl at (arrange part inner p) (arrange whole all (whole_place fl at p))
  flow_carried each p g is = record {
    place = refl;
    linked = linked_carried p g is;
    order = ap2 (item_order p.kind) (count_carried p) (linked_carried p g is);
    standing =
        ap2 (λ (xs ys : List ℕ). xs ++ ys) (control_listed p.retry)
        (flat_carried (standing_of_item all (whole_place fl at p)) (standing_of_item inner p) (standing_items_carried each p.items) (standing_items (length (map (whole_item fl at) p.items)) (linked_pairs whole all (whole_place fl at p)))
        ∙ ap (λ (us : List ℕ). map at (flat_map (standing_of_item inner p) us)) (ap2 standing_items (count_carried p) (linked_carried p g is)))
        ∙ sym (map-append at (option_to_list p.retry) (flat_map (standing_of_item inner p) (standing_items (length p.items) (linked_pairs part inner p))));
  }

  -- ---- its refusal

  symbol_carried : (p : FlowPlace) (symbol : List ℕ) (xs : List ℕ) → refuse_givers (whole_place fl at p) symbol xs ≡ refuse_givers p symbol xs
  symbol_carried p symbol [] = refl
  symbol_carried p symbol (x ∷ []) = refl
  symbol_carried p symbol (x ∷ y ∷ others) = ap2 (λ (n m : List ℕ). Some (ambiguous symbol n m)) (name_carried p x) (name_carried p y)

  refuse_carried : (p : FlowPlace) (g : ℕ) → p.number ≡ suc g → (v : ℕ) (o : Option (List ℕ)) → refuse_symbol whole (whole_place fl at p) v o ≡ refuse_symbol part p v o
  refuse_carried p g is v None = refl
  refuse_carried p g is v (Some symbol) = symbol_carried p symbol (givers whole (whole_place fl at p) v symbol) ∙ ap (refuse_givers p symbol) (givers_carried p g is v symbol)

  ambiguity_carried : (p : FlowPlace) (g : ℕ) → p.number ≡ suc g → (v : ℕ) → ambiguity_at whole all (whole_place fl at p) v ≡ ambiguity_at part inner p v
  ambiguity_carried p g is v =
      refuse_carried p g is v (least (filter (is_ambiguous whole (whole_place fl at p) v) (needs whole all (fl p.number) v)))
      ∙ ap2 (λ (test : List ℕ → Bool) (symbols : List (List ℕ)). refuse_symbol part p v (least (filter test symbols)))
      (fun_ext (λ symbol. ap are_several (givers_carried p g is v symbol))) (needs_here p g is v)

  cycle_carried : (p : FlowPlace) (n : ℕ) (pairs : List Pair) → first_cycle (whole_place fl at p) n pairs ≡ first_cycle p n pairs
  cycle_carried p n pairs = ap (λ (name : ℕ → List ℕ). option_map (λ v. cycle (map name (shortest_cycle n pairs v))) (first_below n (is_back n pairs))) (fun_ext (name_carried p))

  pub refusal_carried : (p : FlowPlace) (g : ℕ) → p.number ≡ suc g → refusal_of whole all (arrange whole all (whole_place fl at p)) ≡ refusal_of part inner (arrange part inner p)
  refusal_carried p g is =
      ap2 (λ x y. if is_graph p.kind then option_or x y else None)
      (ap2 (λ (give : ℕ → Option CompileRefusal) (n : ℕ). first_some give (numbers_below n)) (fun_ext (ambiguity_carried p g is)) (count_carried p))
      (cycle_carried p (length (map (whole_item fl at) p.items)) (linked_pairs whole all (whole_place fl at p)) ∙ ap2 (first_cycle p) (count_carried p) (linked_carried p g is))

-- ---- what is left out

-- none of these atoms is one of what is kept
abbrev pub NoneKept : (ℕ → ℕ) → List ℕ → Type 0
NoneKept at [] = Unit {0}
NoneKept at (x ∷ xs) = Absent at x × NoneKept at xs

pub none_both : (at : ℕ → ℕ) (xs ys : List ℕ) → NoneKept at xs → NoneKept at ys → NoneKept at (xs ++ ys)
none_both at [] ys first second = second
none_both at (x ∷ xs) ys first second = (first.0, none_both at xs ys first.1 second)

none_flat : (at : ℕ → ℕ) (f : ℕ → List ℕ) (xs : List ℕ) → ((u : ℕ) → NoneKept at (f u)) → NoneKept at (flat_map f xs)
none_flat at f [] each = tt
none_flat at f (x ∷ xs) each = none_both at (f x) (flat_map f xs) (each x) (none_flat at f xs each)

pub none_standing : (fl at : ℕ → ℕ) (all : List Flow) → ((h : ℕ) → Absent fl h → NoneKept at (standing_in (find_flow all h))) → (s : Standing) → StandsAbsent fl at s → NoneKept at (standing_at all s)
none_standing fl at all left (stands_task a) absent = (absent, tt)
none_standing fl at all left (stands_flow g) absent = left g absent

none_items : (fl at : ℕ → ℕ) (all : List Flow) → ((h : ℕ) → Absent fl h → NoneKept at (standing_in (find_flow all h))) → (items : List Item) → ItemsAbsent fl at items → (u : ℕ) → NoneKept at (option_map_or (item_standing all) (slice_get items u) [])
none_items fl at all left [] absent u = tt
none_items fl at all left (x ∷ xs) absent zero = none_standing fl at all left x.standing absent.0
none_items fl at all left (x ∷ xs) absent (suc u) = none_items fl at all left xs absent.1 u

none_control : (at : ℕ → ℕ) (o : Option ℕ) → ControlAbsent at o → NoneKept at (option_to_list o)
none_control at None absent = tt
none_control at (Some a) absent = (absent, tt)

none_in_place : (fl at : ℕ → ℕ) (whole : List Atom) (all : List Flow) (q : FlowPlace) → ((h : ℕ) → Absent fl h → NoneKept at (standing_in (find_flow all h))) → LeftPlace fl at q → NoneKept at (arrange whole all q).standing
none_in_place fl at whole all q left gone =
    none_both at (option_to_list q.retry) (flat_map (standing_of_item all q) (standing_items (length q.items) (linked_pairs whole all q))) (none_control at q.retry gone.control)
    (none_flat at (standing_of_item all q) (standing_items (length q.items) (linked_pairs whole all q)) (none_items fl at all left q.items gone.items))

none_if : (at : ℕ → ℕ) (b : Bool) (f : Flow) (o : Option Flow) → NoneKept at f.standing → NoneKept at (standing_in o) → NoneKept at (standing_in (if b then Some f else o))
none_if at true f o here there = here
none_if at false f o here there = there

-- ---- all nested flows

pub record NestedCarried (fl at : ℕ → ℕ) (part whole : List Atom) (inner all : List Flow) : Type 0 where
  pub each : AllCarried fl at inner all
  pub no_root : HasNoRoot inner
  pub no_root_all : HasNoRoot all
  pub refusals : (g : ℕ) → 0 < g → refusal_among whole (fl g) all ≡ refusal_among part g inner
  pub left : (h : ℕ) → Absent fl h → NoneKept at (standing_in (find_flow all h))

not_root : (n : ℕ) → 0 < n → nat_eq n 0 ≡ false
not_root n some = never_true (nat_eq n 0) (λ is. absurd (omega (arith, some, eqb-true n 0 is)))

both_if : (fl at : ℕ → ℕ) (b b' : Bool) (f whole : Flow) (o p : Option Flow) → b' ≡ b → FlowCarried fl at f whole → BothCarried fl at o p → BothCarried fl at (if b then Some f else o) (if b' then Some whole else p)
both_if fl at true b' f whole o p same here there = subst (λ x. BothCarried fl at (Some f) (if x then Some whole else p)) (sym same) here
both_if fl at false b' f whole o p same here there = subst (λ x. BothCarried fl at o (if x then Some whole else p)) (sym same) there

if_same : {X : Type 0} (b b' : Bool) (x x' y y' : X) → b' ≡ b → x' ≡ x → y' ≡ y → (if b' then x' else y') ≡ (if b then x else y)
if_same b b' x x' y y' same first second = ap (λ c. if c then x' else y') same ∙ ap2 (λ v w. if b then v else w) first second

if_false : {X : Type 0} (b : Bool) (x y : X) → b ≡ false → (if b then x else y) ≡ y
if_false b x y is = ap (λ c. if c then x else y) is

kept_step : (fl at it : ℕ → ℕ) (part whole : List Atom) (c : Carried fl at it part whole) (inner all : List Flow) → NestedCarried fl at part whole inner all → (p : FlowPlace) (n : ℕ) → p.number ≡ suc n
    → NestedCarried fl at part whole (arrange part inner p ∷ inner) (arrange whole all (whole_place fl at p) ∷ all)
kept_step fl at it part whole c inner all below p n is =
    let orders : OrdersCarried fl at it part whole c inner all = orders_nested fl at it inner all c.root below.each below.no_root below.no_root_all in
    let here : FlowCarried fl at (arrange part inner p) (arrange whole all (whole_place fl at p)) = flow_carried fl at it part whole c inner all orders below.each p n is in
    let some : 0 < p.number = omega (arith, is) in
    record {
      each = λ g. both_if fl at (nat_eq p.number g) (nat_eq (fl p.number) (fl g)) (arrange part inner p) (arrange whole all (whole_place fl at p)) (find_flow inner g) (find_flow all (fl g)) (flows_same fl at it part whole c p.number g) here (below.each g);
      no_root = if_false (nat_eq p.number 0) (Some (arrange part inner p)) (find_flow inner 0) (not_root p.number some) ∙ below.no_root;
      no_root_all = if_false (nat_eq (fl p.number) 0) (Some (arrange whole all (whole_place fl at p))) (find_flow all 0) (not_root (fl p.number) (c.nested p.number some)) ∙ below.no_root_all;
      refusals = λ g more. if_same (nat_eq p.number g) (nat_eq (fl p.number) (fl g)) (refusal_of part inner (arrange part inner p)) (refusal_of whole all (arrange whole all (whole_place fl at p))) (refusal_among part g inner) (refusal_among whole (fl g) all)
          (flows_same fl at it part whole c p.number g) (refusal_carried fl at it part whole c inner all orders p n is) (below.refusals g more);
      left = λ h absent. subst (λ (o : Option Flow). NoneKept at (standing_in o)) (sym (if_false (nat_eq (fl p.number) h) (Some (arrange whole all (whole_place fl at p))) (find_flow all h) (never_true (nat_eq (fl p.number) h) (λ same. absent p.number (eqb-true (fl p.number) h same))))) (below.left h absent);
    }

left_step : (fl at it : ℕ → ℕ) (part whole : List Atom) (inner all : List Flow) → NestedCarried fl at part whole inner all → (q : FlowPlace) → ((g : ℕ) → fl g ≢ q.number) → 0 < q.number → LeftPlace fl at q
    → NestedCarried fl at part whole inner (arrange whole all q ∷ all)
left_step fl at it part whole inner all below q other some gone =
    let no : (g : ℕ) → nat_eq q.number (fl g) ≡ false = λ g. never_true (nat_eq q.number (fl g)) (λ is. other g (sym (eqb-true q.number (fl g) is))) in
    record {
      each = λ g. subst (BothCarried fl at (find_flow inner g)) (sym (if_false (nat_eq q.number (fl g)) (Some (arrange whole all q)) (find_flow all (fl g)) (no g))) (below.each g);
      no_root = below.no_root;
      no_root_all = if_false (nat_eq q.number 0) (Some (arrange whole all q)) (find_flow all 0) (not_root q.number some) ∙ below.no_root_all;
      refusals = λ g more. if_false (nat_eq q.number (fl g)) (refusal_of whole all (arrange whole all q)) (refusal_among whole (fl g) all) (no g) ∙ below.refusals g more;
      left = λ h absent. none_if at (nat_eq q.number h) (arrange whole all q) (find_flow all h) (none_in_place fl at whole all q below.left gone) (below.left h absent);
    }

with_number : (p : FlowPlace) → 0 < p.number → (n : ℕ) × (p.number ≡ suc n)
with_number p some = (p.number - 1, omega (arith, some))

pub nested_carried : (fl at it : ℕ → ℕ) (part whole : List Atom) (c : Carried fl at it part whole) (ps qs : List FlowPlace) → PlacesMoved fl at ps qs → NestedCarried fl at part whole (arranged part ps) (arranged whole qs)
nested_carried fl at it part whole c _ _ all_placed = record { each = λ g. tt; no_root = refl; no_root_all = refl; refusals = λ g some. refl; left = λ h absent. tt }
nested_carried fl at it part whole c _ _ (place_kept p q ps qs is some rest) =
    let n = with_number p some in
    subst (λ (r : FlowPlace). NestedCarried fl at part whole (arranged part (p ∷ ps)) (arranged whole (r ∷ qs))) (sym is)
    (kept_step fl at it part whole c (arranged part ps) (arranged whole qs) (nested_carried fl at it part whole c ps qs rest) p n.0 n.1)
nested_carried fl at it part whole c _ _ (place_left q ps qs other some gone rest) =
    left_step fl at it part whole (arranged part ps) (arranged whole qs) (nested_carried fl at it part whole c ps qs rest) q other some gone
