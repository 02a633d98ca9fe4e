-- Rows that grow by intervals of numbers, and what tables tell of a plan.
use Rattle.tf_flow.specs.Paths.{shown_part}
use Rattle.std.proofs.Common.{◌≡◌, ◌≢◌, ℕ, zero, suc, ◌+◌, ◌<◌, ◌≤◌, ◌-◌, ◌⊎◌, List, [], ◌∷◌, ◌++◌, length, take, drop, map, Bool, true, false, ◌&&◌, not, Option, Some, None, refl, sym, ap, subst, ◌∙◌, add-one, inl, inr, arith, eqb-true, eq-eqb, slice_set, slice_get, slice_index_or}
use Rattle.std.specs.Prelude.{nat_eq, slice_range, if◌then◌else◌}
use Rattle.std.proofs.lemmas.Bool.{cases_lt}
use Rattle.std.proofs.lemmas.List.{length-set, length-map, get_or-set_same, get_or-set_other}
use Rattle.std.specs.Option.{unwrap_or}
use Rattle.tf_model.specs.Before.{Flow, find_flow, no_flow, path_at}
use Rattle.tf_numbers.specs.Numbers.{numbers_below, which_below}
use Rattle.tf_flow.specs.Outline.{Atom, is_task_part}
use Rattle.tf_flow.specs.declared.paths.Turn.{Turn}
use Rattle.tf_model.specs.Plan.{Outline as PlanOutline, is_before, last_flow, count}
use Rattle.tf_model.specs.Readiness.{last_item, same_flow}
use Rattle.tf_model.proofs.Told.{standing_in, is_task_in, flow_in}
use Rattle.tf_order.specs.declared.arranged.Arranged.{Arranged}
use Rattle.tf_flow.specs.declared.listing.AtomPlace.{AtomPlace}
use Rattle.tf_flow.specs.declared.listing.Outline.{Outline}
use Rattle.tf_order.specs.Arranged.{IsShownAt, ShowsFlows}
use Rattle.tf_links.specs.Bits.{room}
use Rattle.tf_order.specs.Graph.{GraphValue, leads_to, leads_in, standing_of_plan}
use Rattle.tf_flow.specs.Listing.{shown_atom, shown_atoms}
use Rattle.tf_order.specs.Rows.{row_in, row_at}
use Rattle.tf_order.specs.Intervals.{TellsTheSame}
use Rattle.tf_order.specs.Tables.{plan_seen, atoms_found, number_if, RowAdded, IsRowUpTo, AreRowsUpTo, is_after_last, AreRowsAt, AreSet, AreClosed, AreRows, AreTables, AllBelow, leads_from, flow_in_flows}
use Rattle.tf_order.proofs.IntervalLemmas.{past_is_before_none}
use Rattle.tf_order.specs.Paths.{flow_of_turn, item_of_turn}
use Rattle.tf_numbers.proofs.BelowLemmas.{which_more}
use Rattle.tf_numbers.proofs.EquationLemmas.{ap2}
use Rattle.tf_order.proofs.GraphLemmas.{row_told, rows_length}
use Rattle.tf_flow.proofs.NumberingLemmas.{atom_there}
use Rattle.tf_order.proofs.PathLemmas.{path_there}
use Rattle.tf_numbers.proofs.TruthLemmas.{clash}
use Rattle.tf_links.proofs.StandingLemmas.{listed_within, taking_none, taking_next}
use Rattle.tf_numbers.proofs.ListLemmas.{nothing_after}
use Rattle.tf_order.proofs.TableLemmas.{row_read_at, chain, so_many, number_there, read_dropped, left_over}

-- where all numbers of an interval pass, they follow those before it
interval_passes : (test : ℕ → Bool) (n b m : ℕ) → b + m ≤ n → ((k : ℕ) → b ≤ k → k < b + m → test k ≡ true) → which_below b test ++ take m (drop b (numbers_below n)) ≡ which_below (b + m) test
interval_passes test n b zero room each =
    let same : b ≡ b + zero = omega arith in
    ap (λ (xs : List ℕ). which_below b test ++ xs) (taking_none (drop b (numbers_below n))) ∙ (nothing_after (which_below b test) ∙ ap (λ (k : ℕ). which_below k test) same)
interval_passes test n b (suc m) room each =
    let within : m < length (drop b (numbers_below n)) = omega (arith, left_over (numbers_below n) b, so_many n, room) in
    let last : slice_index_or (drop b (numbers_below n)) m 0 ≡ b + m = read_dropped (numbers_below n) b m ∙ number_there n (b + m) (omega (arith, room)) in
    let next : suc (b + m) ≡ b + suc m = omega arith in
    ap (λ (xs : List ℕ). which_below b test ++ xs) (taking_next (drop b (numbers_below n)) m within ∙ ap (λ (k : ℕ). take m (drop b (numbers_below n)) ++ k ∷ []) last)
    ∙ (sym (chain (which_below b test) (take m (drop b (numbers_below n))) ((b + m) ∷ []))
    ∙ (ap (λ (xs : List ℕ). xs ++ (b + m) ∷ []) (interval_passes test n b m (omega (arith, room)) (λ k from to. each k from (omega (arith, to))))
    ∙ (ap (λ (c : Bool). which_below (b + m) test ++ (if c then (b + m) ∷ [] else [])) (sym (each (b + m) (omega arith) (omega arith)))
    ∙ ap (λ (k : ℕ). which_below k test) next)))

-- an interval of numbers that all pass
pub passing_interval : (test : ℕ → Bool) (on : Bool) (n b end : ℕ) (numbers row new : List ℕ) → row ≡ which_below b test → TellsTheSame test on b end → on ≡ true → b ≤ end → end ≤ n → numbers ≡ numbers_below n
    → new ≡ row ++ slice_range numbers b end → new ≡ which_below end test
passing_interval test on n b end numbers row new is same passed order room numbers_are more =
    let whole : b + (end - b) ≡ end = omega (arith, order) in
    more
    ∙ (ap2 (λ (xs ys : List ℕ). xs ++ slice_range ys b end) is numbers_are
    ∙ (interval_passes test n b (end - b) (omega (arith, whole, room)) (λ k from to. same k from (omega (arith, to, whole)) ∙ passed)
    ∙ ap (λ (k : ℕ). which_below k test) whole))

-- an interval of numbers of which none passes
pub failing_interval : (test : ℕ → Bool) (on : Bool) (b end : ℕ) (row : List ℕ) → row ≡ which_below b test → TellsTheSame test on b end → on ≡ false → b ≤ end → row ≡ which_below end test
failing_interval test on b end row is same failed order = is ∙ sym (which_more b end test order (λ k from to. same k from to ∙ failed))

pub get_set_same : {X : Type 0} (xs : List X) (i : ℕ) (x : X) → i < length xs → slice_get (slice_set xs i x) i ≡ Some x
get_set_same [] i x below = absurd (omega arith)
get_set_same (y ∷ xs) zero x below = refl
get_set_same (y ∷ xs) (suc i) x below = get_set_same xs i x (omega arith)

pub get_set_other : {X : Type 0} (xs : List X) (i j : ℕ) (x : X) → j ≢ i → slice_get (slice_set xs i x) j ≡ slice_get xs j
get_set_other [] i j x differ = refl
get_set_other (y ∷ xs) zero zero x differ = absurd (differ refl)
get_set_other (y ∷ xs) zero (suc j) x differ = refl
get_set_other (y ∷ xs) (suc i) zero x differ = refl
get_set_other (y ∷ xs) (suc i) (suc j) x differ = get_set_other xs i j x (λ same. differ (ap suc same))

pub row_added : (at : ℕ) (on : Bool) (number : ℕ) (rows : List (List ℕ)) (row new : List ℕ) → on ≡ true → at < length rows → row ≡ slice_index_or rows at row → new ≡ row ++ number ∷ [] → RowAdded at (number_if on number) rows (slice_set rows at new)
row_added at on number rows row new is below read pushed = record {
  height = length-set rows at new;
  told = λ k. by_row k (nat_eq at k) refl;
}
  where
    by_row : (k : ℕ) (b : Bool) → nat_eq at k ≡ b → row_at (slice_set rows at new) k ≡ (if b then row_at rows k ++ number_if on number else row_at rows k)
    by_row k true same = let e : at ≡ k = eqb-true at k same in
        ap (row_at (slice_set rows at new)) (sym e)
        ∙ (ap row_in (get_set_same rows at new below)
        ∙ (pushed
        ∙ ap2 (λ (r : List ℕ) (b : Bool). r ++ number_if b number) (sym (row_read_at rows at row below read) ∙ ap (row_at rows) e) (sym is)))
    by_row k false other = ap row_in (get_set_other rows at k new (λ same. clash (nat_eq at k) (eq-eqb at k (sym same)) other))

-- ---- rows that are open and closed

pub setting_start : (number from : ℕ) (old : List ℕ) → AreSet number from from old old
setting_start number from old = record { height = refl; inside = λ k above below. absurd (omega (arith, above, below)); outside = λ k out. refl }

pub setting_next : (number from i : ℕ) (old new : List ℕ) → AreSet number from i old new → from ≤ i → i < length new → AreSet number from (i + 1) old (slice_set new i number)
setting_next number from i old new before above room = record {
  height = length-set new i number ∙ before.height;
  inside = λ k from_k below. elim (cases_lt k i) [
    | inl earlier ↦ index_set_other new i k number (λ same. omega (arith, earlier, same)) ∙ before.inside k from_k earlier
    | inr late ↦ let here : k ≡ i = omega (arith, late, below) in ap (λ (n : ℕ). slice_index_or (slice_set new i number) n 0) here ∙ index_set_same new i number room
  ];
  outside = λ k out. elim out [
    | inl low ↦ index_set_other new i k number (λ same. omega (arith, low, same, above)) ∙ before.outside k (inl low)
    | inr high ↦ index_set_other new i k number (λ same. omega (arith, high, same)) ∙ before.outside k (inr (omega (arith, high)))
  ];
}
  where
    index_set_same : (xs : List ℕ) (i x : ℕ) → i < length xs → slice_index_or (slice_set xs i x) i 0 ≡ x
    index_set_same xs i x below = get_or-set_same xs i x 0 below

    index_set_other : (xs : List ℕ) (i j x : ℕ) → j ≢ i → slice_index_or (slice_set xs i x) j 0 ≡ slice_index_or xs j 0
    index_set_other xs i j x differ = get_or-set_other xs i j x 0 differ

pub closing_start : (numbers : List ℕ) (number from : ℕ) (opened : List ℕ) (old : List (List ℕ)) → AreClosed numbers number from from opened old old
closing_start numbers number from opened old = record { height = refl; inside = λ k above below. absurd (omega (arith, above, below)); outside = λ k out. refl }

pub closing_next : (numbers : List ℕ) (number from i begun : ℕ) (opened : List ℕ) (old rows : List (List ℕ)) (row new : List ℕ) → AreClosed numbers number from i opened old rows → from ≤ i → i < length rows
    → row ≡ slice_index_or rows i row → begun ≡ slice_index_or opened i 0 → new ≡ row ++ slice_range numbers begun number → AreClosed numbers number from (i + 1) opened old (slice_set rows i new)
closing_next numbers number from i begun opened old rows row new before above room read read_opened more = record {
  height = length-set rows i new ∙ before.height;
  inside = λ k from_k below. elim (cases_lt k i) [
    | inl earlier ↦ ap row_in (get_set_other rows i k new (λ same. omega (arith, earlier, same))) ∙ before.inside k from_k earlier
    | inr late ↦ let here : k ≡ i = omega (arith, late, below) in subst (λ (n : ℕ). row_at (slice_set rows i new) n ≡ row_at old n ++ slice_range numbers (slice_index_or opened n 0) number) (sym here)
        (ap row_in (get_set_same rows i new room)
        ∙ (more
        ∙ ap2 (λ (r : List ℕ) (n : ℕ). r ++ slice_range numbers n number) (sym (row_read_at rows i row room read) ∙ before.outside i (inr (omega arith))) read_opened))
  ];
  outside = λ k out. elim out [
    | inl low ↦ ap row_in (get_set_other rows i k new (λ same. omega (arith, low, same, above))) ∙ before.outside k (inl low)
    | inr high ↦ ap row_in (get_set_other rows i k new (λ same. omega (arith, high, same))) ∙ before.outside k (inr (omega (arith, high)))
  ];
}

pub not_false : (b : Bool) → not b ≡ false → b ≡ true
not_false true is = refl
not_false false is = absurd (cc)

-- a row goes on as it is, where this number passes as the last one did
row_kept : (test : ℕ → Bool) (a from : ℕ) (last this : Bool) (row : List ℕ) → IsRowUpTo test a last row from → test a ≡ this → last ≡ this → IsRowUpTo test (suc a) this row from
row_kept test a from last this row is here same = record {
  whole = λ off. is.whole (same ∙ off) ∙ sym (which_more a (suc a) test (omega arith) (λ k above below. let at : k ≡ a = omega (arith, above, below) in ap test at ∙ (here ∙ off)));
  begun = λ on. is.begun (same ∙ on);
  earlier = λ on. let as_was = is.earlier (same ∙ on) in omega (arith, as_was);
  all = λ on k above below. elim (cases_lt k a) [
    | inl earlier ↦ is.all (same ∙ on) k above earlier
    | inr late ↦ let at : k ≡ a = omega (arith, late, below) in ap test at ∙ (here ∙ on)
  ];
}

-- a row is opened, where this number passes and the last one didn't
row_opened : (test : ℕ → Bool) (a from : ℕ) (last this : Bool) (row : List ℕ) (opened : ℕ) → IsRowUpTo test a last row from → test a ≡ this → last ≡ false → this ≡ true → opened ≡ a → IsRowUpTo test (suc a) this row opened
row_opened test a from last this row opened is here off on at = record {
  whole = λ no. absurd (clash this on no);
  begun = λ yes. is.whole off ∙ ap (λ (n : ℕ). which_below n test) (sym at);
  earlier = λ yes. omega (arith, at);
  all = λ yes k above below. let same : k ≡ a = omega (arith, above, below, at) in ap test same ∙ (here ∙ on);
}

-- a row is closed, where this number doesn't pass and the last one did
row_closed : (test : ℕ → Bool) (a from n : ℕ) (last this : Bool) (numbers row new : List ℕ) → IsRowUpTo test a last row from → test a ≡ this → last ≡ true → this ≡ false → a ≤ n → numbers ≡ numbers_below n → new ≡ row ++ slice_range numbers from a
    → IsRowUpTo test (suc a) this new from
row_closed test a from n last this numbers row new is here on off room numbers_are more = record {
  whole = λ no. passing_interval test true n from a numbers row new (is.begun on) (is.all on) refl (is.earlier on) room numbers_are more
      ∙ sym (which_more a (suc a) test (omega arith) (λ k above below. let at : k ≡ a = omega (arith, above, below) in ap test at ∙ (here ∙ off)));
  begun = λ yes. absurd (clash this yes off);
  earlier = λ yes. absurd (clash this yes off);
  all = λ yes. absurd (clash this yes off);
}

row_as_was : (test : ℕ → Bool) (a from other : ℕ) (on : Bool) (row new : List ℕ) → IsRowUpTo test a on row from → new ≡ row → other ≡ from → IsRowUpTo test a on new other
row_as_was test a from other on row new is same_row same_from = subst (λ (r : List ℕ). IsRowUpTo test a on r other) (sym same_row) (subst (IsRowUpTo test a on row) (sym same_from) is)

-- the rows up to the end of an interval
rows_next : (plan : PlanOutline) (count a b end : ℕ) (rows new : List (List ℕ)) (opened others : List ℕ) → AreRowsAt plan count a b rows opened → b ≤ end → length new ≡ length rows → length others ≡ length opened
    → ((k : ℕ) → (k < b) ⊎ (end ≤ k) → row_at new k ≡ row_at rows k) → ((k : ℕ) → (k < b) ⊎ (end ≤ k) → slice_index_or others k 0 ≡ slice_index_or opened k 0)
    → AreRowsUpTo plan (suc a) (is_before plan a) b end new others → AreRowsAt plan count a end new others
rows_next plan count a b end rows new opened others before order height width same_rows same_opened inside = record {
  height = height ∙ before.height;
  width = width ∙ before.width;
  done = λ k from below. elim (cases_lt k b) [
    | inl earlier ↦ row_as_was (λ x. is_before plan x k) (suc a) (slice_index_or opened k 0) (slice_index_or others k 0) (is_before plan a k) (row_at rows k) (row_at new k) (before.done k from earlier) (same_rows k (inl earlier)) (same_opened k (inl earlier))
    | inr late ↦ inside k late below
  ];
  left = λ k from below. row_as_was (λ x. is_before plan x k) a (slice_index_or opened k 0) (slice_index_or others k 0) (is_after_last plan a k) (row_at rows k) (row_at new k)
      (before.left k (omega (arith, order, from)) below) (same_rows k (inr from)) (same_opened k (inr from));
}

pub rows_kept : (plan : PlanOutline) (count a b end : ℕ) (last this : Bool) (rows : List (List ℕ)) (opened : List ℕ) → AreRowsAt plan count a b rows opened → b ≤ end → end ≤ count
    → TellsTheSame (is_after_last plan a) last b end → TellsTheSame (is_before plan a) this b end → last ≡ this → AreRowsAt plan count a end rows opened
rows_kept plan count a b end last this rows opened before order room last_is this_is same =
    rows_next plan count a b end rows rows opened opened before order refl refl (λ k out. refl) (λ k out. refl)
    (λ k from below. row_kept (λ x. is_before plan x k) a (slice_index_or opened k 0) (is_after_last plan a k) (is_before plan a k) (row_at rows k)
    (before.left k from (omega (arith, below, room))) refl (last_is k from below ∙ (same ∙ sym (this_is k from below))))

pub rows_opened : (plan : PlanOutline) (count a b end : ℕ) (last this : Bool) (rows : List (List ℕ)) (opened others : List ℕ) → AreRowsAt plan count a b rows opened → b ≤ end → end ≤ count
    → TellsTheSame (is_after_last plan a) last b end → TellsTheSame (is_before plan a) this b end → last ≡ false → this ≡ true → AreSet a b end opened others → AreRowsAt plan count a end rows others
rows_opened plan count a b end last this rows opened others before order room last_is this_is off on set =
    rows_next plan count a b end rows rows opened others before order refl set.height (λ k out. refl) set.outside
    (λ k from below. row_opened (λ x. is_before plan x k) a (slice_index_or opened k 0) (is_after_last plan a k) (is_before plan a k) (row_at rows k) (slice_index_or others k 0)
    (before.left k from (omega (arith, below, room))) refl (last_is k from below ∙ off) (this_is k from below ∙ on) (set.inside k from below))

pub rows_closed : (plan : PlanOutline) (count a b end : ℕ) (last this : Bool) (numbers : List ℕ) (rows new : List (List ℕ)) (opened : List ℕ) → AreRowsAt plan count a b rows opened → b ≤ end → end ≤ count
    → TellsTheSame (is_after_last plan a) last b end → TellsTheSame (is_before plan a) this b end → last ≡ true → this ≡ false → a ≤ count → numbers ≡ numbers_below count → AreClosed numbers a b end opened rows new → AreRowsAt plan count a end new opened
rows_closed plan count a b end last this numbers rows new opened before order room last_is this_is on off within numbers_are closed =
    rows_next plan count a b end rows new opened opened before order closed.height refl closed.outside (λ k out. refl)
    (λ k from below. row_closed (λ x. is_before plan x k) a (slice_index_or opened k 0) count (is_after_last plan a k) (is_before plan a k) numbers (row_at rows k) (row_at new k)
    (before.left k from (omega (arith, below, room))) refl (last_is k from below ∙ on) (this_is k from below ∙ off) within numbers_are (closed.inside k from below))

-- where rows are open that are to be closed, they were opened earlier
pub opened_earlier : (plan : PlanOutline) (count a b end : ℕ) (last : Bool) (rows : List (List ℕ)) (opened : List ℕ) → AreRowsAt plan count a b rows opened → end ≤ count → TellsTheSame (is_after_last plan a) last b end → last ≡ true
    → (k : ℕ) → b ≤ k → k < end → slice_index_or opened k 0 ≤ a
opened_earlier plan count a b end last rows opened before room last_is on k from below = (before.left k from (omega (arith, below, room))).earlier (last_is k from below ∙ on)

-- all rows at one number are those at the start of the next one
pub rows_over : (plan : PlanOutline) (count a b : ℕ) (rows : List (List ℕ)) (opened : List ℕ) → AreRowsAt plan count a b rows opened → count ≤ b → AreRowsAt plan count (a + 1) 0 rows opened
rows_over plan count a b rows opened before whole = subst (λ (n : ℕ). AreRowsAt plan count n 0 rows opened) (sym (add-one a)) (record {
  height = before.height;
  width = before.width;
  done = λ k from below. absurd (omega (arith, below));
  left = λ k from below. before.done k from (omega (arith, below, whole));
})

pub rows_start : (outline : Outline) (rows : List (List ℕ)) (opened : List ℕ) (count : ℕ) → count ≡ atoms_found outline → length rows ≡ count → ((k : ℕ) → row_at rows k ≡ []) → opened ≡ numbers_below count
    → AreRowsAt (plan_seen outline) (atoms_found outline) 0 0 rows opened
rows_start outline rows opened count many height none are = record {
  height = height ∙ many;
  width = ap length are ∙ (so_many count ∙ many);
  done = λ k from below. absurd (omega (arith, below));
  left = λ k from below. record {
    whole = λ off. none k;
    begun = λ on. absurd (cc);
    earlier = λ on. absurd (cc);
    all = λ on. absurd (cc);
  };
}

pub rows_end : (outline : Outline) (a : ℕ) (rows : List (List ℕ)) (opened : List ℕ) → AreRowsAt (plan_seen outline) (atoms_found outline) (a + 1) 0 rows opened → a ≡ atoms_found outline
    → AreRows (atoms_found outline) (λ b. which_below (atoms_found outline) (λ a. is_before (plan_seen outline) a b)) rows
rows_end outline a rows opened is last = record {
  height = is.height;
  told = λ k below.
      let rows_are = subst (λ (n : ℕ). AreRowsAt (plan_seen outline) (atoms_found outline) n 0 rows opened) (add-one a) is in
      let row_is = rows_are.left k (omega arith) below in
      row_is.whole (before_none k)
      ∙ (which_more a (suc a) (λ x. is_before (plan_seen outline) x k) (omega arith) (λ x above under. let at : x ≡ a = omega (arith, above, under) in ap (λ (n : ℕ). is_before (plan_seen outline) n k) at ∙ before_none k)
      ∙ ap (λ (n : ℕ). which_below n (λ x. is_before (plan_seen outline) x k)) last);
}
  where
    before_none : (k : ℕ) → is_before (plan_seen outline) a k ≡ false
    before_none k = past_is_before_none outline a 0 (suc k) (omega (arith, last)) k (omega arith) (omega arith)

same_rows : (xs ys : List (List ℕ)) → length xs ≡ length ys → ((k : ℕ) → k < length xs → row_at xs k ≡ row_at ys k) → xs ≡ ys
same_rows [] [] same each = refl
same_rows [] (y ∷ ys) same each = absurd (omega arith)
same_rows (x ∷ xs) [] same each = absurd (omega arith)
same_rows (x ∷ xs) (y ∷ ys) same each = ap2 (λ (r : List ℕ) (rs : List (List ℕ)). r ∷ rs) (each zero (omega arith)) (same_rows xs ys (omega arith) (λ k below. each (suc k) (omega arith)))

rows_are : (count : ℕ) (f : ℕ → List ℕ) (rows : List (List ℕ)) → AreRows count f rows → rows ≡ map f (numbers_below count)
rows_are count f rows is = same_rows rows (map f (numbers_below count)) (is.height ∙ sym (rows_length f count))
    (λ k below. let within : k < count = omega (arith, below, is.height) in is.told k within ∙ sym (ap row_in (row_told f count k within)))

-- ---- what was found of a plan

pub count_seen : (outline : Outline) → count (plan_seen outline) ≡ atoms_found outline
unfolding plan_seen
count_seen outline = length-map outline.atoms.items shown_atom

-- numbers that are below others
pub listed_below : (most : ℕ) (numbers : List ℕ) (i number : ℕ) → AllBelow most numbers → i < length numbers → number ≡ slice_index_or numbers i 0 → number < most
listed_below most numbers i number each below is = let within : slice_index_or numbers i 0 < most = each (slice_index_or numbers i 0) (listed_within numbers i below) in omega (arith, within, is)

-- ---- the tasks that an atom leads to

pub leads_seen : (outline : Outline) (a b : ℕ) (from : Option Turn) (atom from_atom : AtomPlace) (on : Bool) → a < atoms_found outline → b < atoms_found outline → from_atom ≡ slice_index_or outline.atoms.items a from_atom → atom ≡ slice_index_or outline.atoms.items b atom
    → last_flow from_atom.path ≡ flow_of_turn from → last_item from_atom.path ≡ item_of_turn from → on ≡ leads_from (plan_seen outline).flows from atom → on ≡ leads_to (plan_seen outline) a b
unfolding plan_seen
leads_seen outline a b from atom from_atom on a_below b_below from_read read flow_is item_is is =
    is
    ∙ (ap2 (λ (g : Option ℕ) (i : Option ℕ). (is_task_part (shown_part atom.part) && same_flow (last_flow atom.path) g) && leads_in (flow_in_flows (plan_seen outline).flows g) i (last_item atom.path)) (sym flow_is) (sym item_is)
    ∙ (ap (λ (w : List Turn). (is_task_part (shown_part atom.part) && same_flow (last_flow atom.path) (last_flow w)) && leads_in (flow_in_flows (plan_seen outline).flows (last_flow w)) (last_item w) (last_item atom.path)) (path_there outline.atoms.items a from_atom a_below from_read)
    ∙ (ap (λ (w : List Turn). (is_task_part (shown_part atom.part) && same_flow (last_flow w) (last_flow (path_at (shown_atoms outline.atoms.items) a))) && leads_in (flow_in_flows (plan_seen outline).flows (last_flow (path_at (shown_atoms outline.atoms.items) a))) (last_item (path_at (shown_atoms outline.atoms.items) a)) (last_item w)) (path_there outline.atoms.items b atom b_below read)
    ∙ (ap (λ (o : Option Atom). (is_task_in o && same_flow (last_flow (path_at (shown_atoms outline.atoms.items) b)) (last_flow (path_at (shown_atoms outline.atoms.items) a))) && leads_in (flow_in_flows (plan_seen outline).flows (last_flow (path_at (shown_atoms outline.atoms.items) a))) (last_item (path_at (shown_atoms outline.atoms.items) a)) (last_item (path_at (shown_atoms outline.atoms.items) b))) (sym (atom_there outline.atoms.items b atom b_below read))
    ∙ same_home (plan_seen outline) (last_flow (path_at (shown_atoms outline.atoms.items) a)) (is_task_in (slice_get (shown_atoms outline.atoms.items) b) && same_flow (last_flow (path_at (shown_atoms outline.atoms.items) b)) (last_flow (path_at (shown_atoms outline.atoms.items) a))) (last_item (path_at (shown_atoms outline.atoms.items) a)) (last_item (path_at (shown_atoms outline.atoms.items) b))))))
  where
    same_home : (plan : PlanOutline) (g : Option ℕ) (first : Bool) (i j : Option ℕ) → (first && leads_in (flow_in_flows plan.flows g) i j) ≡ (first && leads_in (unwrap_or (flow_in plan g) no_flow) i j)
    same_home plan None first i j = refl
    same_home plan (Some g) first i j = refl

standing_shown : (shown : Option (Option Arranged)) (o : Option Flow) (flow : Arranged) → IsShownAt shown o → shown ≡ Some (Some flow) → flow.standing.items ≡ standing_in o
standing_shown None o flow is some = absurd (cc)
standing_shown (Some None) o flow is some = absurd (cc)
standing_shown (Some (Some other)) None flow is some = absurd is
standing_shown (Some (Some other)) (Some f) flow is some = let same : other ≡ flow = cc in ap (λ (d : Arranged). d.standing.items) (sym same) ∙ is.standing

pub standing_below : (table : List (Option Arranged)) (flows : List Flow) (flow : Arranged) (numbers : List ℕ) → ShowsFlows table flows → slice_get table 0 ≡ Some (Some flow) → numbers ≡ flow.standing.items → AllBelow 1000 (standing_in (find_flow flows 0)) → AllBelow 1000 numbers
standing_below table flows flow numbers shows read is each =
    subst (AllBelow 1000) (sym (is ∙ standing_shown (slice_get table 0) (find_flow flows 0) flow (shows 0) read)) each

-- ---- the graph

pub tables_are : (outline : Outline) (graph : GraphValue) (earlier later direct : List (List ℕ)) (standing : List ℕ) → AreRows (atoms_found outline) (λ b. which_below (atoms_found outline) (λ a. is_before (plan_seen outline) a b)) earlier
    → later ≡ map (λ a. which_below (atoms_found outline) (is_before (plan_seen outline) a)) (numbers_below (atoms_found outline))
    → direct ≡ map (λ a. which_below (atoms_found outline) (leads_to (plan_seen outline) a)) (numbers_below (atoms_found outline))
    → standing ≡ standing_of_plan (plan_seen outline) → graph ≡ record { predecessors = earlier; successors = later; direct_tasks = direct; standing = standing } → AreTables graph (plan_seen outline)
tables_are outline graph earlier later direct standing earlier_are later_are direct_are standing_is is = record {
  predecessors = ap (λ (g : GraphValue). g.predecessors) is ∙ (rows_are (atoms_found outline) (λ b. which_below (atoms_found outline) (λ a. is_before (plan_seen outline) a b)) earlier earlier_are
      ∙ ap (λ (n : ℕ). map (λ (b : ℕ). which_below n (λ (a : ℕ). is_before (plan_seen outline) a b)) (numbers_below n)) (sym (count_seen outline)));
  successors = ap (λ (g : GraphValue). g.successors) is ∙ (later_are
      ∙ ap (λ (n : ℕ). map (λ (a : ℕ). which_below n (is_before (plan_seen outline) a)) (numbers_below n)) (sym (count_seen outline)));
  direct_tasks = ap (λ (g : GraphValue). g.direct_tasks) is ∙ (direct_are
      ∙ ap (λ (n : ℕ). map (λ (a : ℕ). which_below n (leads_to (plan_seen outline) a)) (numbers_below n)) (sym (count_seen outline)));
  standing = ap (λ (g : GraphValue). g.standing) is ∙ standing_is;
}
