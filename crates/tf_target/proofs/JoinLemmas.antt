-- A tree and what is kept of it: their atoms, their flows and their roots side by side.
use Rattle.std.proofs.Common.{◌≡◌, ◌∙◌, ℕ, zero, suc, ◌+◌, ◌-◌, ◌<◌, ◌≤◌, List, [], ◌∷◌, ◌++◌, map, flat_map, length, Bool, true, false, Option, Some, None, filter, refl, sym, ap, subst, inl, inr, ◌⊎◌, arith, eqb-true, slice_get}
use Rattle.std.specs.Prelude.{nat_eq, option_map, if◌then◌else◌}
use Rattle.std.specs.Option.{option_map_or, option_or, option_to_list}
use Rattle.std.specs.List.{list_any}
use Rattle.std.proofs.lemmas.Bool.{cases_lt}
use Rattle.std.proofs.lemmas.Option.{slice_get_past}
use Rattle.tf_flow.proofs.ListingLemmas.{length_atoms}
use Rattle.tf_flow.specs.Outline.{connection_of, Atom, Item, FlowPlace, flow_count, retry_count, retry_number, atom_count, retry_atoms, atoms_of, atoms_among, flow_place, flows_among}
use Rattle.tf_flow.specs.Tree.{same_name, is_among, first_some, flow, Trees, Head}
use Rattle.tf_flow.specs.Rules.{is_graph, stray_end}
use Rattle.tf_flow.specs.declared.atoms.Retry.{Retry}
use Rattle.tf_flow.specs.declared.deciders.Link.{Link}
use Rattle.tf_flow.specs.declared.nested.FlowKind.TheVariants as kind
use Rattle.tf_links.specs.Graphs.{reached, standing_items}
use Rattle.tf_model.specs.Before.{Flow, find_flow, item_before, flow_at, joins, name_of_item, item_name, is_explicit, linked_pairs, arrange, arranged, item_standing, standing_of_item, is_inferred}
use Rattle.tf_model.specs.Plan.{ambiguity, cycle_of, refusal_of, refusal_among}
use Rattle.tf_model.proofs.Told.{order_in, path_in}
use Rattle.tf_numbers.specs.Numbers.{Pair, has_pair}
use Rattle.tf_numbers.proofs.EquationLemmas.{ap2}
use Rattle.tf_numbers.proofs.TruthLemmas.{never_true, and_first, and_second, true_both, true_first}
use Rattle.tf_target.specs.Target.{kept_among, joins_kept, kept_head, kept_tree, names_among}
use Rattle.tf_target.proofs.ImageLemmas.{Image}
use Rattle.tf_target.proofs.MoveLemmas.{size_of, across, across_below, across_past, across_rises, across_once, moved_end}
use Rattle.tf_target.proofs.PartLemmas.{item_at, whole_atom, whole_item, Avoids, AtomsMoved, PlacesMoved}
use Rattle.tf_target.proofs.TailLemmas.{one, Tail, tail_atoms, tail_places, items_sized, tail_item, tail_found, tail_absent, IsAbsentAt}
use Rattle.tf_target.proofs.CarriedLemmas.{Carried, OrdersCarried, moved_at, moved_or_left}
use Rattle.tf_target.proofs.NestedLemmas.{NestedCarried, nested_carried, orders_nested, NoneKept, none_standing, standing_told, item_standing_carried}
use Rattle.tf_model.proofs.Told.{standing_in}
use Rattle.tf_numbers.proofs.ListLemmas.{filter_append, map_append}
use Rattle.tf_numbers.proofs.NumberLemmas.{same_or_other}
use Rattle.tf_target.proofs.RootLemmas.{RootBeside, linked_beside, order_beside, clear_beside, cycle_beside, order_back, standing_beside, linked_kept}
use Rattle.std.specs.Cmp.Lexicographic.{same_text}
use Rattle.tf_model.specs.Readiness.{decides_on}
use Rattle.tf_target.proofs.DeciderLemmas.{among_index, deciders_kept, IsRootTaskIn, name_in_part, in_both, task_named, name_itself}
use Rattle.tf_target.proofs.MemberLemmas.{is_image, filter_images, filter_left, filter_flat}
use Rattle.tf_target.proofs.ItemLemmas.{control_moved, atoms_sized, item_listed, links_kept, not_first, order_of_graph}

module _ (test : ℕ → Bool) (head : Head) (items : Trees) where
  abbrev kept : Trees
  kept = kept_among test items

  abbrev base : ℕ
  base = 0 + retry_count head.retry

  abbrev pub fl : ℕ → ℕ
  fl x = across flow_count test items 1 x

  abbrev pub at : ℕ → ℕ
  at x = across atom_count test items base x

  abbrev pub it : ℕ → ℕ
  it x = across one test items 0 x

  abbrev pub whole : List Atom
  whole = atoms_of 0 (flow head items)

  abbrev pub part : List Atom
  part = atoms_of 0 (kept_tree test (flow head items))

  tail : Tail fl at it test items 0 0 1 1 base base
  tail = record {
    items = λ x from. across_past one test items 0 x from;
    items_low = λ x below. absurd (omega (arith, below));
    flows = λ x from. across_past flow_count test items 1 x from;
    flows_low = λ x below. omega (arith, below, across_below flow_count test items 1 x below);
    atoms = λ x from. across_past atom_count test items base x from;
    atoms_low = λ x below. omega (arith, below, across_below atom_count test items base x below);
  }

  root_first : fl 0 ≡ 0
  root_first = across_below flow_count test items 1 0 (omega arith)

  nested_later : (g : ℕ) → 0 < g → 0 < fl g
  nested_later g some = omega (arith, across_rises flow_count test items 1 0 g some)

  moved_whole : AtomsMoved fl at it 0 0 part whole
  moved_whole = control_moved fl at it head.retry (atoms_among 0 0 1 kept) (atoms_among 0 0 1 items) root_first (λ x below. across_below atom_count test items base x below)
      (tail_atoms fl at it test items 0 0 0 1 base base root_first nested_later tail)

  placed_whole : PlacesMoved fl at (flows_among 1 base kept) (flows_among 1 base items)
  placed_whole = tail_places fl at it test items 0 0 1 1 base base (omega arith) (omega arith) tail

  part_length : length part ≡ base + size_of atom_count kept
  part_length = length_atoms 0 (kept_tree test (flow head items)) ∙ omega (arith, atoms_sized kept)

  whole_length : length whole ≡ base + size_of atom_count items
  whole_length = length_atoms 0 (flow head items) ∙ omega (arith, atoms_sized items)

  atom_moved : (a : ℕ) → slice_get whole (at a) ≡ option_map (whole_atom fl it) (slice_get part a)
  atom_moved a = elim (cases_lt a (length part)) [
    | inl below ↦ let found = moved_at fl at it 0 0 part whole moved_whole a below in ap (slice_get whole) (omega (arith, ap at (zero_plus a))) ∙ found.1
    | inr from ↦
        let past : base + size_of atom_count items ≤ at a =
        omega (arith, across_past atom_count test items base a (omega (arith, from, part_length)), moved_end atom_count test items base base a (omega (arith, from, part_length))) in
        slice_get_past whole (at a) (omega (arith, past, whole_length)) ∙ ap (option_map (whole_atom fl it)) (sym (slice_get_past part a from))
  ]
    where
      zero_plus : (a : ℕ) → 0 + a ≡ a
      zero_plus a = omega arith

  atom_found : (a : ℕ) → Image at (length part) a ⊎ Avoids fl it (path_in (slice_get whole a))
  atom_found a = elim (cases_lt a (length whole)) [
    | inl below ↦ elim (moved_or_left fl at it 0 0 part whole moved_whole a below) [
      | inl found ↦ inl record { number = found.0; below = found.1; is = ap at (zero_plus found.0) ∙ (found.2 ∙ omega arith) }
      | inr avoids ↦ inr avoids
    ]
    | inr from ↦ inr (subst (λ (o : Option Atom). Avoids fl it (path_in o)) (sym (slice_get_past whole a from)) (λ g v. refl))
  ]
    where
      zero_plus : (a : ℕ) → a ≡ 0 + a
      zero_plus a = omega arith

  pub carried : Carried fl at it part whole
  carried = record {
    root = root_first;
    nested = nested_later;
    flow_once = across_once flow_count test items 1;
    item_once = across_once one test items 0;
    rises = across_rises atom_count test items base;
    atoms = atom_moved;
    kept = atom_found;
  }

  -- ---- flows

  abbrev pub root : FlowPlace
  root = flow_place 0 0 head items

  abbrev pub root_part : FlowPlace
  root_part = flow_place 0 0 (kept_head (names_among kept) head) kept

  abbrev pub all : List Flow
  all = arranged whole (flows_among 1 base items)

  abbrev pub inner : List Flow
  inner = arranged part (flows_among 1 base kept)

  pub nested : NestedCarried fl at part whole inner all
  nested = nested_carried fl at it part whole carried (flows_among 1 base kept) (flows_among 1 base items) placed_whole

  pub orders : OrdersCarried fl at it part whole carried inner all
  orders = orders_nested fl at it inner all root_first nested.each nested.no_root nested.no_root_all

  item_is : (u : ℕ) → u < length root_part.items → slice_get root.items (it u) ≡ option_map (whole_item fl at) (slice_get root_part.items u)
  item_is u below =
      let found = tail_item fl at it test items 0 0 1 1 base base u tail (omega (arith, below, items_sized 1 base kept)) in
      ap (slice_get root.items) (omega (arith, ap it (zero_plus u))) ∙ found.is
    where
      zero_plus : (a : ℕ) → 0 + a ≡ a
      zero_plus a = omega arith

  pub item_named_so : (u : ℕ) → u < length root_part.items → item_name root_part u ≡ item_name root (it u)
  item_named_so u below = sym (ap (λ (o : Option Item). option_map_or name_of_item o []) (item_is u below) ∙ told (slice_get root_part.items u))
    where
      told : (o : Option Item) → option_map_or name_of_item (option_map (whole_item fl at) o) [] ≡ option_map_or name_of_item o []
      told None = refl
      told (Some x) = refl

  written_so : (u v : ℕ) → u < length root_part.items → v < length root_part.items → is_explicit root (it u) (it v) ≡ is_explicit root_part u v
  written_so u v first second =
      ap2 (λ (from to : List ℕ). list_any (joins from to) root.links) (sym (item_named_so u first)) (sym (item_named_so v second))
      ∙ links_kept (λ n. true) (λ n. same_name n (item_name root_part u)) (λ n. same_name n (item_name root_part v)) head.links (joins_kept (names_among kept))
      (λ link is. true_both (is_among (names_among kept) link.from) (is_among (names_among kept) link.to)
      (item_listed kept 1 base u (same_name link.from) first (and_first (same_name link.from (item_name root_part u)) (same_name link.to (item_name root_part v)) is))
      (item_listed kept 1 base v (same_name link.to) second (and_second (same_name link.from (item_name root_part u)) (same_name link.to (item_name root_part v)) is)))

  -- what is linked to an item that is kept is kept
  abbrev pub IsClosed : Type 0
  IsClosed = (u v : ℕ) → has_pair (linked_pairs whole all root) u v ≡ true → test v ≡ true → test u ≡ true

  beside : is_graph head.kind ≡ true → IsClosed → RootBeside it test root_part root (linked_pairs whole all root)
  beside graph closed = record {
    number' = refl;
    number = refl;
    graph' = graph;
    graph = graph;
    control = refl;
    rises = across_rises one test items 0;
    within = λ u below. let found = tail_item fl at it test items 0 0 1 1 base base u tail (omega (arith, below, items_sized 1 base kept)) in omega (arith, found.below, items_sized 1 base items, ap it (zero_plus u));
    past = omega (arith, across_past one test items 0 (length root_part.items) (omega arith), moved_end one test items 0 0 (length root_part.items) (omega (arith, items_sized 1 base kept)), items_sized 1 base items);
    keeps = λ u below. let found = tail_item fl at it test items 0 0 1 1 base base u tail (omega (arith, below, items_sized 1 base kept)) in ap test (omega (arith, ap it (zero_plus u))) ∙ found.tested;
    found = λ v below on. let found = tail_found fl at it test items 0 0 1 1 base base v tail (omega (arith, below, items_sized 1 base items)) on in
        record { number = found.0; below = omega (arith, found.1, items_sized 1 base kept); is = sym (ap it (zero_plus found.0)) ∙ (found.2 ∙ omega arith) };
    names = item_named_so;
    written = written_so;
    closed = closed;
  }
    where
      zero_plus : (a : ℕ) → 0 + a ≡ a
      zero_plus a = omega arith

  module _ (graph : is_graph head.kind ≡ true) (closed : IsClosed) (clear : ambiguity whole all root ≡ None) where
    pub links_beside : (u v : ℕ) → u < length root_part.items → v < length root_part.items → has_pair (linked_pairs whole all root) (it u) (it v) ≡ has_pair (linked_pairs part inner root_part) u v
    links_beside = linked_beside fl at it part whole carried inner all orders test root_part root (beside graph closed) clear

    pub orders_beside : OrdersCarried fl at it part whole carried (arrange part inner root_part ∷ inner) (arrange whole all root ∷ all)
    orders_beside zero u v =
        ap (λ (g : ℕ). item_before (arrange whole all root ∷ all) g (it u) (it v)) root_first
        ∙ (ap (λ (pairs : List Pair). has_pair pairs (it u) (it v)) (order_of_graph head.kind (length root.items) (linked_pairs whole all root) graph)
        ∙ (order_beside fl at it part whole carried inner all orders test root_part root (beside graph closed) clear u v
        ∙ ap (λ (pairs : List Pair). has_pair pairs u v) (sym (order_of_graph head.kind (length root_part.items) (linked_pairs part inner root_part) graph))))
    orders_beside (suc g) u v =
        ap (λ (b : Bool). has_pair (order_in (if b then Some (arrange whole all root) else find_flow all (fl (suc g)))) u v)
        (never_true (nat_eq 0 (fl (suc g))) (λ is. absurd (omega (arith, eqb-true 0 (fl (suc g)) is, nested_later (suc g) (omega arith)))))
        ∙ (orders (suc g) u v ∙ sym (ap (λ (b : Bool). has_pair (order_in (if b then Some (arrange part inner root_part) else find_flow inner (suc g))) u v) (not_first g)))

    pub refused_beside : ((h : ℕ) → refusal_among whole h (arrange whole all root ∷ all) ≡ None) → ((v : ℕ) → item_before (arrange whole all root ∷ all) 0 v v ≡ false)
        → (g : ℕ) → refusal_among part g (arrange part inner root_part ∷ inner) ≡ None
    refused_beside none apart zero =
        ap (λ b. if b then option_or (ambiguity part inner root_part) (cycle_of (arrange part inner root_part)) else None) graph
        ∙ (ap (λ o. option_or o (cycle_of (arrange part inner root_part))) (clear_beside fl at it part whole carried inner all orders test root_part root (beside graph closed) clear)
        ∙ cycle_beside fl at it part whole carried inner all orders test root_part root (beside graph closed) clear
        (λ v. sym (ap (λ (pairs : List Pair). has_pair pairs v v) (order_of_graph head.kind (length root.items) (linked_pairs whole all root) graph)) ∙ apart v))
    refused_beside none apart (suc g) =
        ap (λ (b : Bool). if b then refusal_of part inner (arrange part inner root_part) else refusal_among part (suc g) inner) (not_first g)
        ∙ sym (nested.refusals (suc g) (omega arith))
        ∙ (sym (ap (λ (b : Bool). if b then refusal_of whole all (arrange whole all root) else refusal_among whole (fl (suc g)) all)
        (never_true (nat_eq 0 (fl (suc g))) (λ is. absurd (omega (arith, eqb-true 0 (fl (suc g)) is, nested_later (suc g) (omega arith))))))
        ∙ none (fl (suc g)))

    -- ---- standing order

    order_none : ((v : ℕ) → item_before (arrange whole all root ∷ all) 0 v v ≡ false) → (v : ℕ) → has_pair (reached (length root.items) (linked_pairs whole all root)) v v ≡ false
    order_none apart v = sym (ap (λ (pairs : List Pair). has_pair pairs v v) (order_of_graph head.kind (length root.items) (linked_pairs whole all root) graph)) ∙ apart v

    item_stands : (u : ℕ) → standing_of_item all root (it u) ≡ map at (standing_of_item inner root_part u)
    item_stands u = elim (cases_lt u (length root_part.items)) [
      | inl below ↦ ap (λ (o : Option Item). option_map_or (item_standing all) o []) (item_is u below) ∙ told (slice_get root_part.items u)
      | inr from ↦
          let b = beside graph closed in
          let past : length root.items ≤ it u = elim (same_or_other (length root_part.items) u) [
            | inl same ↦ omega (arith, b.past, ap it same)
            | inr other ↦ let less : length root_part.items < u = omega (arith, from, other) in omega (arith, b.past, b.rises (length root_part.items) u less)
          ] in
          ap (λ (o : Option Item). option_map_or (item_standing all) o []) (slice_get_past root.items (it u) past) ∙ sym (ap (λ (o : Option Item). map at (option_map_or (item_standing inner) o [])) (slice_get_past root_part.items u from))
    ]
      where
        told : (o : Option Item) → option_map_or (item_standing all) (option_map (whole_item fl at) o) [] ≡ map at (option_map_or (item_standing inner) o [])
        told None = refl
        told (Some x) = item_standing_carried fl at it part whole carried inner all orders nested.each x.standing

    item_left : (v : ℕ) → test v ≡ false → NoneKept at (standing_of_item all root v)
    item_left v off = told (slice_get root.items v) (tail_absent fl at it test items 0 0 1 1 base base v tail off)
      where
        told : (o : Option Item) → IsAbsentAt fl at o → NoneKept at (option_map_or (item_standing all) o [])
        told None absent = tt
        told (Some x) absent = none_standing fl at all nested.left x.standing absent

    item_kept : (v : ℕ) → test v ≡ true → filter (is_image at) (standing_of_item all root v) ≡ standing_of_item all root v
    item_kept v on = elim (cases_lt v (length root.items)) [
      | inl below ↦
          let image = (beside graph closed).found v below on in
          let moved_so : standing_of_item all root v ≡ map at (standing_of_item inner root_part image.number) = ap (standing_of_item all root) (sym image.is) ∙ item_stands image.number in
          ap (filter (is_image at)) moved_so ∙ (filter_images at carried.rises (standing_of_item inner root_part image.number) ∙ sym moved_so)
      | inr from ↦
          let nothing : standing_of_item all root v ≡ [] = ap (λ (o : Option Item). option_map_or (item_standing all) o []) (slice_get_past root.items v from) in
          ap (filter (is_image at)) nothing ∙ sym nothing
    ]

    flat_stands : (xs : List ℕ) → flat_map (standing_of_item all root) (map it xs) ≡ map at (flat_map (standing_of_item inner root_part) xs)
    flat_stands [] = refl
    flat_stands (x ∷ xs) = ap2 (λ ys zs. ys ++ zs) (item_stands x) (flat_stands xs) ∙ sym (map_append at (standing_of_item inner root_part x) (flat_map (standing_of_item inner root_part) xs))

    control_stands : (r : Option Retry) → ((x : ℕ) → x < 0 + retry_count r → at x ≡ x) → filter (is_image at) (option_to_list (retry_number 0 r)) ≡ map at (option_to_list (retry_number 0 r))
    control_stands None own = refl
    control_stands (Some r) own = ap (λ (n : ℕ). filter (is_image at) (n ∷ [])) (sym (own 0 (omega arith))) ∙ filter_images at carried.rises (0 ∷ [])

    root_stands : ((v : ℕ) → item_before (arrange whole all root ∷ all) 0 v v ≡ false) → filter (is_image at) (arrange whole all root).standing ≡ map at (arrange part inner root_part).standing
    root_stands apart =
        filter_append (is_image at) (option_to_list root.retry) (flat_map (standing_of_item all root) (standing_items (length root.items) (linked_pairs whole all root)))
        ∙ (ap2 (λ (ys zs : List ℕ). ys ++ zs) (control_stands head.retry (λ x below. across_below atom_count test items base x below))
        (filter_flat (is_image at) test (standing_of_item all root) item_kept (λ v off. filter_left at (standing_of_item all root v) (item_left v off)) (standing_items (length root.items) (linked_pairs whole all root))
        ∙ (ap (flat_map (standing_of_item all root)) (standing_beside fl at it part whole carried inner all orders test root_part root (beside graph closed) clear (order_none apart))
        ∙ flat_stands (standing_items (length root_part.items) (linked_pairs part inner root_part))))
        ∙ sym (map_append at (option_to_list root_part.retry) (flat_map (standing_of_item inner root_part) (standing_items (length root_part.items) (linked_pairs part inner root_part)))))

    -- the atoms of a flow that are kept, in standing order
    pub flow_stands : ((v : ℕ) → item_before (arrange whole all root ∷ all) 0 v v ≡ false) → (g : ℕ) → filter (is_image at) (flow_at (arrange whole all root ∷ all) (fl g)).standing ≡ map at (flow_at (arrange part inner root_part ∷ inner) g).standing
    flow_stands apart zero = ap (λ (h : ℕ). filter (is_image at) (flow_at (arrange whole all root ∷ all) h).standing) root_first ∙ root_stands apart
    flow_stands apart (suc g) =
        ap (λ (b : Bool). filter (is_image at) (standing_in (if b then Some (arrange whole all root) else find_flow all (fl (suc g)))))
        (never_true (nat_eq 0 (fl (suc g))) (λ is. absurd (omega (arith, eqb-true 0 (fl (suc g)) is, nested_later (suc g) (omega arith)))))
        ∙ (ap (filter (is_image at)) (standing_told fl at (find_flow inner (suc g)) (find_flow all (fl (suc g))) (nested.each (suc g)))
        ∙ (filter_images at carried.rises (standing_in (find_flow inner (suc g)))
        ∙ sym (ap (λ (b : Bool). map at (standing_in (if b then Some (arrange part inner root_part) else find_flow inner (suc g)))) (not_first g))))

    -- an item that comes before one that is kept is kept
    pub item_back : (g v u : ℕ) → item_before (arrange whole all root ∷ all) (fl g) v (item_at it g u) ≡ true → (j : ℕ) × (item_at it g j ≡ v)
    item_back zero v u is =
        let image = order_back fl at it part whole carried inner all orders test root_part root (beside graph closed) clear v u
        (sym (ap (λ (pairs : List Pair). has_pair pairs v (it u)) (order_of_graph head.kind (length root.items) (linked_pairs whole all root) graph)) ∙ (sym (ap (λ (g : ℕ). item_before (arrange whole all root ∷ all) g v (it u)) root_first) ∙ is)) in
        (image.number, image.is)
    item_back (suc g) v u is = (v, refl)

    -- ---- deciders

    pub root_deciders : first_some (stray_end (names_among items)) head.links ≡ None → (v : ℕ) (name : List ℕ) → v < length root_part.items → name ≡ item_name root_part v → filter (decides_on name) root_part.links ≡ filter (decides_on name) root.links
    root_deciders known v name less named =
        deciders_kept (names_among items) name (joins_kept (names_among kept)) head.links each
        (λ link from to a b. true_both (same_name link.from from) (same_name link.to to) (ap (same_name link.from) a ∙ name_itself link.from) (ap (same_name link.to) b ∙ name_itself link.to))
        head.links known (λ from to is. is)
      where
        each : (link : Link) → is_among (names_among items) link.from ≡ true → list_any (joins link.from link.to) (map connection_of head.links) ≡ true → same_name link.to name ≡ true → joins_kept (names_among kept) link ≡ true
        each link among written to_name =
            let found = among_index items 1 base (same_name link.from) among in
            let from_is : link.from ≡ item_name root found.0 = same_text link.from (item_name root found.0) (sym found.2) in
            let to_is : link.to ≡ item_name root (it v) = same_text link.to name (sym to_name) ∙ (named ∙ item_named_so v less) in
            let explicit_is : is_explicit root found.0 (it v) ≡ true = sym (ap2 (λ (f t : List ℕ). list_any (joins f t) root.links) from_is to_is) ∙ written in
            let image = linked_kept fl at it part whole carried inner all orders test root_part root (beside graph closed) clear found.0 v found.1 less (true_first (is_explicit root found.0 (it v)) (is_inferred whole all root found.0 (it v)) explicit_is) in
            true_both (is_among (names_among kept) link.from) (is_among (names_among kept) link.to)
            (item_listed kept 1 base image.number (same_name link.from) image.below (ap (same_name link.from) (item_named_so image.number image.below ∙ ap (item_name root) image.is) ∙ found.2))
            (item_listed kept 1 base v (same_name link.to) less (ap (same_name link.to) (sym named) ∙ to_name))

    -- the item of a task of the root
    pub root_task : (a : ℕ) → IsRootTaskIn (slice_get part a) → (v : ℕ) × (v < length root_part.items) × (name_in_part (slice_get part a) ≡ item_name root_part v)
    root_task a is =
        in_both (λ o. IsRootTaskIn o → (v : ℕ) × (v < length root_part.items) × (name_in_part o ≡ item_name root_part v)) (retry_atoms 0 head.retry) (atoms_among 0 0 1 kept)
        (λ absent. absurd absent) (control head.retry) (λ k there. task_named kept 0 0 base k there) a is
      where
        control : (r : Option Retry) (k : ℕ) → IsRootTaskIn (slice_get (retry_atoms 0 r) k) → (v : ℕ) × (v < length root_part.items) × (name_in_part (slice_get (retry_atoms 0 r) k) ≡ item_name root_part v)
        control None k there = absurd there
        control (Some r) zero there = let off : false ≡ true = there.tasked in absurd (cc)
        control (Some r) (suc k) there = absurd there
