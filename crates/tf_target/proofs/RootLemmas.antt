-- The root of a part has the links and the order that its items have in the whole.
use Rattle.std.proofs.Common.{◌≡◌, ◌∙◌, ℕ, zero, suc, ◌+◌, ◌-◌, ◌<◌, ◌≤◌, List, [], ◌∷◌, ◌++◌, map, length, Bool, true, false, not, ◌&&◌, ◌||◌, None, filter, refl, sym, ap, subst, inl, inr, arith, eqb-true, eq-eqb}
use Rattle.std.specs.Prelude.{nat_eq, option_map, if◌then◌else◌}
use Rattle.std.specs.Option.{option_or}
use Rattle.std.specs.List.{list_any}
use Rattle.std.proofs.lemmas.Bool.{cases_lt}
use Rattle.tf_flow.specs.Tree.{first_some}
use Rattle.tf_flow.specs.Outline.{Atom, FlowPlace}
use Rattle.tf_flow.specs.Rules.{is_graph}
use Rattle.tf_links.specs.Graphs.{AreBelow, reached, standing_items}
use Rattle.tf_links.proofs.ReachLawLemmas.{chain_reaches}
use Rattle.tf_model.specs.Before.{Flow, is_only, item_name, is_explicit, explicit, reaches_with, is_served, other_provides, givers, is_inferred_by, is_inferred, is_linked, linked_pairs, needs, item_provides, retry_provides}
use Rattle.tf_model.specs.Plan.{is_ambiguous, are_several, refuse_symbol, ambiguity_at, ambiguity, least, is_back, cycle_through, first_cycle}
use Rattle.tf_numbers.specs.Numbers.{which_below, numbers_below, Pair, has_pair, pairs_below}
use Rattle.tf_numbers.proofs.BelowLemmas.{first_none}
use Rattle.tf_numbers.proofs.EquationLemmas.{ap2}
use Rattle.tf_numbers.proofs.OptionLemmas.{neither_there}
use Rattle.tf_links.proofs.ReachedLemmas.{reached_within}
use Rattle.tf_numbers.proofs.NumberLemmas.{same_or_other}
use Rattle.tf_numbers.proofs.PairLemmas.{pair_passes, passes_pair, passes_which}
use Rattle.tf_numbers.proofs.TruthLemmas.{same_truth, never_true, clash, and_first, true_first, true_second, neither_first, neither_second}
use Rattle.tf_target.proofs.StandingPartLemmas.{standing_kept}
use Rattle.tf_target.proofs.ImageLemmas.{Image, any_image, which_image}
use Rattle.tf_target.proofs.CarriedLemmas.{Carried, OrdersCarried, provided_carried, needs_carried}
use Rattle.tf_target.proofs.GiverLemmas.{pairs_are_below, pair_is, only_one, several_moved, only_moved, none_ambiguous, each_none, reached_back, reached_same}

-- ---- the root

-- the root of the part beside that of the whole
pub record RootBeside (it : ℕ → ℕ) (keep : ℕ → Bool) (r' r : FlowPlace) (linked : List Pair) : Type 0 where
  pub number' : r'.number ≡ 0
  pub number : r.number ≡ 0
  pub graph' : is_graph r'.kind ≡ true
  pub graph : is_graph r.kind ≡ true
  pub control : r'.control ≡ r.control
  pub rises : (u v : ℕ) → u < v → it u < it v
  pub within : (u : ℕ) → u < length r'.items → it u < length r.items
  pub past : length r.items ≤ it (length r'.items)
  pub keeps : (u : ℕ) → u < length r'.items → keep (it u) ≡ true
  pub found : (v : ℕ) → v < length r.items → keep v ≡ true → Image it (length r'.items) v
  pub names : (u : ℕ) → u < length r'.items → item_name r' u ≡ item_name r (it u)
  pub written : (u v : ℕ) → u < length r'.items → v < length r'.items → is_explicit r (it u) (it v) ≡ is_explicit r' u v
  pub closed : (u v : ℕ) → has_pair linked u v ≡ true → keep v ≡ true → keep u ≡ true

module _ (fl at it : ℕ → ℕ) (part whole : List Atom) (c : Carried fl at it part whole) (inner all : List Flow) (orders : OrdersCarried fl at it part whole c inner all)
    (keep : ℕ → Bool) (r' r : FlowPlace) (b : RootBeside it keep r' r (linked_pairs whole all r)) (clear : ambiguity whole all r ≡ None) where
  abbrev few : ℕ
  few = length r'.items

  abbrev many : ℕ
  many = length r.items

  linked_root : linked_pairs whole all r ≡ pairs_below many (is_linked whole all r)
  linked_root = ap (λ x. if x then pairs_below many (is_linked whole all r) else []) b.graph

  linked_part : linked_pairs part inner r' ≡ pairs_below few (is_linked part inner r')
  linked_part = ap (λ x. if x then pairs_below few (is_linked part inner r') else []) b.graph'

  -- what is linked to an item that is kept is kept
  pub linked_kept : (u v : ℕ) → u < many → v < few → is_linked whole all r u (it v) ≡ true → Image it few u
  linked_kept u v below less is =
      b.found u below (b.closed u (it v) (ap (λ (pairs : List Pair). has_pair pairs u (it v)) linked_root ∙ passes_pair many (is_linked whole all r) u (it v) below (b.within v less) is) (b.keeps v less))

  explicit_kept : (u v : ℕ) → v < few → has_pair (explicit r) u (it v) ≡ true → Image it few u
  explicit_kept u v less is =
      let passes = pair_passes many (is_explicit r) u (it v) is in
      linked_kept u v passes.first less (true_first (is_explicit r u (it v)) (is_inferred whole all r u (it v)) passes.tested)

  explicit_beside : (u v : ℕ) → u < few → v < few → has_pair (explicit r) (it u) (it v) ≡ has_pair (explicit r') u v
  explicit_beside u v first second = pair_is many (is_explicit r) (it u) (it v) (b.within u first) (b.within v second) ∙ (b.written u v first second ∙ sym (pair_is few (is_explicit r') u v first second))

  explicit_reached : (u v : ℕ) → v < few → has_pair (reached many (explicit r)) (it u) (it v) ≡ has_pair (reached few (explicit r')) u v
  explicit_reached = reached_same it few many (explicit r') (explicit r) (pairs_are_below few (is_explicit r')) (pairs_are_below many (is_explicit r)) explicit_beside explicit_kept c.item_once

  provided_beside : (symbol : List ℕ) (u : ℕ) → item_provides whole r.number symbol (it u) ≡ item_provides part r'.number symbol u
  provided_beside symbol u =
      ap (λ (g : ℕ). item_provides whole g symbol (it u)) (b.number ∙ sym c.root) ∙ (provided_carried fl at it part whole c 0 symbol u ∙ ap (λ (g : ℕ). item_provides part g symbol u) (sym b.number'))

  reaches_beside : (symbol : List ℕ) (v : ℕ) → v < few → (w : ℕ) → reaches_with whole r symbol (it v) (it w) ≡ reaches_with part r' symbol v w
  reaches_beside symbol v less w = ap2 (λ x y. x && y) (explicit_reached w v less) (provided_beside symbol w)

  served_beside : (v : ℕ) (symbol : List ℕ) → v < few → is_served whole r (it v) symbol ≡ is_served part r' v symbol
  served_beside v symbol less =
      ap2 (λ x y. x || y) (ap (λ o. retry_provides o symbol) (sym b.control))
      (any_image it few many b.rises b.within b.past (reaches_with part r' symbol v) (reaches_with whole r symbol (it v)) (λ w below. reaches_beside symbol v less w)
      (λ w below is. reached_back it few many (explicit r') (explicit r) (pairs_are_below few (is_explicit r')) (pairs_are_below many (is_explicit r)) explicit_beside explicit_kept w v less (and_first (has_pair (reached many (explicit r)) w (it v)) (item_provides whole r.number symbol w) is)))

  others_beside : (v : ℕ) (symbol : List ℕ) (u : ℕ) → other_provides whole r (it v) symbol (it u) ≡ other_provides part r' v symbol u
  others_beside v symbol u =
      ap2 (λ x y. not x && y) (same_truth (nat_eq (it u) (it v)) (nat_eq u v) (λ is. eq-eqb u v (c.item_once u v (eqb-true (it u) (it v) is))) (λ is. eq-eqb (it u) (it v) (ap it (eqb-true u v is)))) (provided_beside symbol u)

  -- a symbol that isn't ambiguous, and whose giver is kept where there is one
  givers_beside : (v : ℕ) (symbol : List ℕ) → v < few → is_ambiguous whole r (it v) symbol ≡ false → ((a : ℕ) → a < many → is_inferred_by whole r a (it v) symbol ≡ true → Image it few a)
      → givers whole r (it v) symbol ≡ map it (givers part r' v symbol)
  givers_beside v symbol less single kept = by_served (is_served whole r (it v) symbol) refl
    where
      in_which : (a : ℕ) → a < many → other_provides whole r (it v) symbol a ≡ true → list_any (nat_eq a) (which_below many (other_provides whole r (it v) symbol)) ≡ true
      in_which a below is = passes_which many (other_provides whole r (it v) symbol) (nat_eq a) a below is (eq-eqb a a refl)

      by_served : (served : Bool) → is_served whole r (it v) symbol ≡ served → givers whole r (it v) symbol ≡ map it (givers part r' v symbol)
      by_served true is =
          ap (λ x. if x then [] else which_below many (other_provides whole r (it v) symbol)) is
          ∙ sym (ap (λ x. map it (if x then [] else which_below few (other_provides part r' v symbol))) (sym (served_beside v symbol less) ∙ is))
      by_served false is =
          let given : givers whole r (it v) symbol ≡ which_below many (other_provides whole r (it v) symbol) = ap (λ x. if x then [] else which_below many (other_provides whole r (it v) symbol)) is in
          given
          ∙ (which_image it few many b.rises b.within b.past (other_provides part r' v symbol) (other_provides whole r (it v) symbol) (λ u below. others_beside v symbol u)
          (λ a below on. kept a below (ap (is_only a) given ∙ only_one (which_below many (other_provides whole r (it v) symbol)) a (ap are_several (sym given) ∙ single) (in_which a below on)))
          ∙ sym (ap (λ x. map it (if x then [] else which_below few (other_provides part r' v symbol))) (sym (served_beside v symbol less) ∙ is)))

  needs_beside : (v : ℕ) → needs whole all r.number (it v) ≡ needs part inner r'.number v
  needs_beside v =
      ap (λ (g : ℕ). needs whole all g (it v)) (b.number ∙ sym c.root) ∙ (needs_carried fl at it part whole c inner all orders 0 v ∙ ap (λ (g : ℕ). needs part inner g v) (sym b.number'))

  unambiguous_at : (v : ℕ) → v < few → list_any (is_ambiguous whole r (it v)) (needs whole all r.number (it v)) ≡ false
  unambiguous_at v less = none_ambiguous whole r (it v) (needs whole all r.number (it v)) (each_none (ambiguity_at whole all r) many clear (it v) (b.within v less))

  inferred_kept : (v : ℕ) → v < few → (a : ℕ) → a < many → list_any (is_inferred_by whole r a (it v)) (needs whole all r.number (it v)) ≡ true → Image it few a
  inferred_kept v less a below is = linked_kept a v below less (true_second (is_explicit r a (it v)) (is_inferred whole all r a (it v)) is)

  -- a test of the givers of each symbol
  by_givers : (v : ℕ) → v < few → (symbols : List (List ℕ)) → list_any (is_ambiguous whole r (it v)) symbols ≡ false → ((a : ℕ) → a < many → list_any (is_inferred_by whole r a (it v)) symbols ≡ true → Image it few a)
      → (p q : List ℕ → Bool) → ((symbol : List ℕ) → givers whole r (it v) symbol ≡ map it (givers part r' v symbol) → p symbol ≡ q symbol) → list_any p symbols ≡ list_any q symbols
  by_givers v less [] single kept p q same = refl
  by_givers v less (symbol ∷ symbols) single kept p q same =
      ap2 (λ x y. x || y)
      (same symbol (givers_beside v symbol less (neither_first (is_ambiguous whole r (it v) symbol) (list_any (is_ambiguous whole r (it v)) symbols) single)
      (λ a below is. kept a below (true_first (is_inferred_by whole r a (it v) symbol) (list_any (is_inferred_by whole r a (it v)) symbols) is))))
      (by_givers v less symbols (neither_second (is_ambiguous whole r (it v) symbol) (list_any (is_ambiguous whole r (it v)) symbols) single)
      (λ a below is. kept a below (true_second (is_inferred_by whole r a (it v) symbol) (list_any (is_inferred_by whole r a (it v)) symbols) is)) p q same)

  inferred_beside : (u v : ℕ) → v < few → is_inferred whole all r (it u) (it v) ≡ is_inferred part inner r' u v
  inferred_beside u v less =
      by_givers v less (needs whole all r.number (it v)) (unambiguous_at v less) (inferred_kept v less) (is_inferred_by whole r (it u) (it v)) (is_inferred_by part r' u v)
      (λ symbol is. ap (is_only (it u)) is ∙ only_moved it c.item_once u (givers part r' v symbol))
      ∙ ap (list_any (is_inferred_by part r' u v)) (needs_beside v)

  pub linked_beside : (u v : ℕ) → u < few → v < few → has_pair (linked_pairs whole all r) (it u) (it v) ≡ has_pair (linked_pairs part inner r') u v
  linked_beside u v first second =
      ap (λ (pairs : List Pair). has_pair pairs (it u) (it v)) linked_root
      ∙ (pair_is many (is_linked whole all r) (it u) (it v) (b.within u first) (b.within v second)
      ∙ (ap2 (λ x y. x || y) (b.written u v first second) (inferred_beside u v second)
      ∙ (sym (pair_is few (is_linked part inner r') u v first second) ∙ ap (λ (pairs : List Pair). has_pair pairs u v) (sym linked_part))))

  linked_back : (u v : ℕ) → v < few → has_pair (linked_pairs whole all r) u (it v) ≡ true → Image it few u
  linked_back u v less is =
      let passes = pair_passes many (is_linked whole all r) u (it v) (ap (λ (pairs : List Pair). has_pair pairs u (it v)) (sym linked_root) ∙ is) in
      linked_kept u v passes.first less passes.tested

  below_part : AreBelow few (linked_pairs part inner r')
  below_part = subst (AreBelow few) (sym linked_part) (pairs_are_below few (is_linked part inner r'))

  below_whole : AreBelow many (linked_pairs whole all r)
  below_whole = subst (AreBelow many) (sym linked_root) (pairs_are_below many (is_linked whole all r))

  -- which item of the root reaches which
  pub order_beside : (u v : ℕ) → has_pair (reached many (linked_pairs whole all r)) (it u) (it v) ≡ has_pair (reached few (linked_pairs part inner r')) u v
  order_beside u v = elim (cases_lt v few) [
    | inl less ↦ reached_same it few many (linked_pairs part inner r') (linked_pairs whole all r) below_part below_whole linked_beside linked_back c.item_once u v less
    | inr from ↦
        never_true (has_pair (reached many (linked_pairs whole all r)) (it u) (it v)) (λ is. let under : it v < many = reached_within many (linked_pairs whole all r) many below_whole.second (it u) (it v) is in high v from under)
        ∙ sym (never_true (has_pair (reached few (linked_pairs part inner r')) u v) (λ is. let under : v < few = reached_within few (linked_pairs part inner r') few below_part.second u v is in absurd (omega (arith, under, from))))
  ]
    where
      high : (v : ℕ) → few ≤ v → it v < many → ⊥
      high v from under = elim (same_or_other few v) [
        | inl same ↦ absurd (omega (arith, under, b.past, ap it same))
        | inr other ↦ let less : few < v = omega (arith, from, other) in absurd (omega (arith, under, b.past, b.rises few v less))
      ]

  -- ---- its refusal

  filter_nothing : (test : List ℕ → Bool) (xs : List (List ℕ)) → list_any test xs ≡ false → filter test xs ≡ []
  filter_nothing test [] none = refl
  filter_nothing test (x ∷ xs) none = ap (λ y. if y then x ∷ filter test xs else filter test xs) (neither_first (test x) (list_any test xs) none) ∙ filter_nothing test xs (neither_second (test x) (list_any test xs) none)

  clear_at : (v : ℕ) → v < few → ambiguity_at part inner r' v ≡ None
  clear_at v less =
      ap (λ (symbols : List (List ℕ)). refuse_symbol part r' v (least symbols))
      (filter_nothing (is_ambiguous part r' v) (needs part inner r'.number v)
      (sym (by_givers v less (needs whole all r.number (it v)) (unambiguous_at v less) (inferred_kept v less) (is_ambiguous whole r (it v)) (is_ambiguous part r' v)
      (λ symbol is. ap are_several is ∙ several_moved it (givers part r' v symbol))
      ∙ ap (list_any (is_ambiguous part r' v)) (needs_beside v)) ∙ unambiguous_at v less))

  all_clear : (n : ℕ) → n ≤ few → first_some (ambiguity_at part inner r') (numbers_below n) ≡ None
  all_clear zero le = refl
  all_clear (suc n) le = joined (numbers_below n) (all_clear n (omega (arith, le)))
    where
      joined : (xs : List ℕ) → first_some (ambiguity_at part inner r') xs ≡ None → first_some (ambiguity_at part inner r') (xs ++ n ∷ []) ≡ None
      joined [] none = ap (λ o. option_or o None) (clear_at n (omega (arith, le)))
      joined (x ∷ xs) none =
          let both = neither_there (ambiguity_at part inner r' x) (first_some (ambiguity_at part inner r') xs) none in
          ap (λ o. option_or o (first_some (ambiguity_at part inner r') (xs ++ n ∷ []))) both.0 ∙ joined xs both.1

  pub clear_beside : ambiguity part inner r' ≡ None
  clear_beside = all_clear few (omega arith)

  -- where no item of the whole leads back to itself, none of the part does
  pub cycle_beside : ((v : ℕ) → has_pair (reached many (linked_pairs whole all r)) v v ≡ false) → first_cycle r' few (linked_pairs part inner r') ≡ None
  cycle_beside none = ap (option_map (cycle_through r' few (linked_pairs part inner r'))) (first_none few (is_back few (linked_pairs part inner r')) (λ v below. sym (order_beside v v) ∙ none (it v)))

  -- what reaches an item of the part is one of the part
  pub order_back : (v u : ℕ) → has_pair (reached many (linked_pairs whole all r)) v (it u) ≡ true → Image it few v
  order_back v u is = elim (cases_lt u few) [
    | inl less ↦ reached_back it few many (linked_pairs part inner r') (linked_pairs whole all r) below_part below_whole linked_beside linked_back v u less is
    | inr from ↦
        let under : it u < many = reached_within many (linked_pairs whole all r) many below_whole.second v (it u) is in
        absurd (elim (same_or_other few u) [
          | inl same ↦ omega (arith, under, b.past, ap it same)
          | inr other ↦ let less : few < u = omega (arith, from, other) in omega (arith, under, b.past, b.rises few u less)
        ])
  ]

  -- the items of the part stand in their order in the whole
  pub standing_beside : ((v : ℕ) → has_pair (reached many (linked_pairs whole all r)) v v ≡ false) → filter keep (standing_items many (linked_pairs whole all r)) ≡ map it (standing_items few (linked_pairs part inner r'))
  standing_beside none =
      standing_kept it few many (linked_pairs part inner r') (linked_pairs whole all r) keep b.rises c.item_once b.within b.keeps b.found linked_beside linked_back below_part below_whole
      (λ v less chain. clash (has_pair (reached few (linked_pairs part inner r')) v v) (chain_reaches few (linked_pairs part inner r') below_part v v chain) (sym (order_beside v v) ∙ none (it v)))
      (λ v less chain. clash (has_pair (reached many (linked_pairs whole all r)) v v) (chain_reaches many (linked_pairs whole all r) below_whole v v chain) (none v))
