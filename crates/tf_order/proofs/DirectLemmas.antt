-- The tasks that an atom leads to, by the items at which tasks stand.
use Rattle.std.proofs.Common.{◌≡◌, ℕ, zero, suc, ◌+◌, ◌<◌, ◌≤◌, List, [], ◌∷◌, ◌++◌, length, take, Bool, true, false, ◌&&◌, ◌||◌, Option, Some, None, refl, sym, ap, subst, ◌∙◌, add-one, inl, inr, arith, eqb-true, eq-eqb, slice_set, slice_get, slice_index_or}
use Rattle.std.specs.Prelude.{nat_eq, if◌then◌else◌}
use Rattle.std.specs.List.{list_any}
use Rattle.std.proofs.lemmas.Bool.{cases_lt}
use Rattle.std.proofs.lemmas.Option.{slice_get_past}
use Rattle.tf_flow.specs.declared.nested.FlowKind.{FlowKind}
use Rattle.tf_flow.specs.declared.nested.FlowKind.TheVariants as kind
use Rattle.tf_flow.specs.declared.paths.Turn.{Turn}
use Rattle.tf_flow.specs.Outline.{is_task_part}
use Rattle.tf_flow.specs.Paths.{shown_part}
use Rattle.tf_links.specs.Bits.{has, room}
use Rattle.tf_links.specs.Links.{leads}
use Rattle.tf_links.proofs.BitLemmas.{past_none}
use Rattle.tf_links.proofs.LinkLemmas.{past_row, row_zero}
use Rattle.tf_links.proofs.StandingLemmas.{number_more, listed_within, taking_none, taking_next, taking_all}
use Rattle.tf_model.specs.Before.{Flow, flow_at}
use Rattle.tf_model.specs.Readiness.{last_item, same_flow}
use Rattle.tf_model.specs.Plan.{last_flow}
use Rattle.tf_numbers.specs.Numbers.{which_below, has_number, is_number}
use Rattle.tf_numbers.proofs.BelowLemmas.{which_same}
use Rattle.tf_numbers.proofs.EquationLemmas.{ap2}
use Rattle.tf_numbers.proofs.ListLemmas.{nothing_after}
use Rattle.tf_numbers.proofs.NumberLemmas.{turn_eq}
use Rattle.tf_numbers.proofs.PairLemmas.{which_passes}
use Rattle.tf_numbers.proofs.TruthLemmas.{never_true, clash, and_true, and_false, and_first, or_either, or_false, or_true, or_chain}
use Rattle.tf_flow.specs.declared.listing.AtomPlace.{AtomPlace}
use Rattle.tf_flow.specs.declared.listing.Outline.{Outline}
use Rattle.tf_order.specs.Direct.{task_item, is_at_item, stands_at, AreTasksByItem, is_in_own, is_own, is_at_one}
use Rattle.tf_order.specs.Graph.{leads_to, leads_in, leads_by_kind}
use Rattle.tf_order.specs.Rows.{row_in, row_at}
use Rattle.tf_order.specs.Tables.{plan_seen, atoms_found, number_if, leads_from}
use Rattle.tf_order.proofs.GraphLemmas.{listed_number}
use Rattle.tf_order.proofs.SpreadLemmas.{row_added, leads_seen}

-- ---- the rows of tasks

pub tasks_start : (outline : Outline) (rows : List (List ℕ)) → rows ≡ [] → AreTasksByItem outline 0 rows
tasks_start outline rows is item = ap (λ (xs : List (List ℕ)). row_at xs item) is

pub tasks_more : (outline : Outline) (i : ℕ) (old new : List (List ℕ)) → AreTasksByItem outline i old → ((item : ℕ) → row_at new item ≡ row_at old item ++ number_if (stands_at outline item i) i) → AreTasksByItem outline (i + 1) new
tasks_more outline i old new before more item =
    more item ∙ (ap (λ (xs : List ℕ). xs ++ number_if (stands_at outline item i) i) (before item) ∙ ap (λ (n : ℕ). which_below n (stands_at outline item)) (sym (add-one i)))

pub tasks_whole : (outline : Outline) (n m : ℕ) (rows : List (List ℕ)) → AreTasksByItem outline n rows → n ≡ m → AreTasksByItem outline m rows
tasks_whole outline n m rows is same = subst (λ (k : ℕ). AreTasksByItem outline k rows) same is

atom_read : (atoms : List AtomPlace) (k : ℕ) (atom : AtomPlace) → k < length atoms → atom ≡ slice_index_or atoms k atom → slice_get atoms k ≡ Some atom
atom_read [] k atom below is = absurd (omega arith)
atom_read (x ∷ atoms) zero atom below is = ap Some (sym is)
atom_read (x ∷ atoms) (suc k) atom below is = atom_read atoms k atom (omega arith) is

pub no_task : (outline : Outline) (k : ℕ) (atom : AtomPlace) (rows : List (List ℕ)) → k < atoms_found outline → atom ≡ slice_index_or outline.atoms.items k atom → task_item atom ≡ None → (item : ℕ) → row_at rows item ≡ row_at rows item ++ number_if (stands_at outline item k) k
no_task outline k atom rows below read none item =
    sym (ap (λ (o : Option AtomPlace). row_at rows item ++ number_if (is_at_item item o) k) (atom_read outline.atoms.items k atom below read)
    ∙ (ap (λ (o : Option ℕ). row_at rows item ++ number_if (is_number o item) k) none
    ∙ nothing_after (row_at rows item)))

pub one_task : (outline : Outline) (k place : ℕ) (atom : AtomPlace) (old rows : List (List ℕ)) (row new : List ℕ) → k < atoms_found outline → atom ≡ slice_index_or outline.atoms.items k atom → task_item atom ≡ Some place
    → place < length rows → ((item : ℕ) → row_at rows item ≡ row_at old item) → row ≡ slice_index_or rows place row → new ≡ row ++ k ∷ []
    → (item : ℕ) → row_at (slice_set rows place new) item ≡ row_at old item ++ number_if (stands_at outline item k) k
one_task outline k place atom old rows row new below read some within kept row_read pushed item =
    (row_added place true k rows row new refl within row_read pushed).told item
    ∙ (by_item (nat_eq place item)
    ∙ (ap (λ (xs : List ℕ). xs ++ number_if (nat_eq place item) k) (kept item)
    ∙ (ap (λ (o : Option ℕ). row_at old item ++ number_if (is_number o item) k) (sym some)
    ∙ ap (λ (o : Option AtomPlace). row_at old item ++ number_if (is_at_item item o) k) (sym (atom_read outline.atoms.items k atom below read)))))
  where
    by_item : (b : Bool) → (if b then row_at rows item ++ k ∷ [] else row_at rows item) ≡ row_at rows item ++ number_if b k
    by_item true = refl
    by_item false = sym (nothing_after (row_at rows item))

pub row_without : (old rows new : List (List ℕ)) (row : List ℕ) → ((k : ℕ) → row_at rows k ≡ row_at old k) → row ≡ [] → new ≡ rows ++ row ∷ [] → (k : ℕ) → row_at new k ≡ row_at old k
row_without old rows new row before none is k = ap (λ (xs : List (List ℕ)). row_at xs k) (is ∙ ap (λ (r : List ℕ). rows ++ r ∷ []) none) ∙ (same rows k ∙ before k)
  where
    same : (xs : List (List ℕ)) (k : ℕ) → row_at (xs ++ [] ∷ []) k ≡ row_at xs k
    same [] zero = refl
    same [] (suc k) = refl
    same (x ∷ xs) zero = refl
    same (x ∷ xs) (suc k) = same xs k

-- ---- the items that an item leads to

pub next_told : (u v : ℕ) (items : List ℕ) → items ≡ (u + 1) ∷ [] → has_number items v ≡ nat_eq (u + 1) v
next_told u v items is = ap (λ (xs : List ℕ). has_number xs v) is ∙ (or_false (nat_eq v (u + 1)) ∙ turn_eq v (u + 1))

pub next_past : (u v bound : ℕ) (items : List ℕ) → items ≡ [] → bound ≤ u → v < bound → has_number items v ≡ nat_eq (u + 1) v
next_past u v bound items is past below =
    ap (λ (xs : List ℕ). has_number xs v) is ∙ sym (never_true (nat_eq (u + 1) v) (λ same. let here : u + 1 ≡ v = eqb-true (u + 1) v same in absurd (omega (arith, here, past, below))))

pub linked_told : (rows : List (List ℕ)) (u : ℕ) (row items : List ℕ) → u < length rows → row ≡ slice_index_or rows u row → items ≡ which_below (room row) (has row) → (v : ℕ) → has_number items v ≡ leads rows u v
linked_told rows u row items below read is v =
    ap (λ (xs : List ℕ). has_number xs v) is
    ∙ (listed_number (room row) (has row) v (λ past. past_none row v (omega (arith, past)))
    ∙ ap (λ (r : List ℕ). has r v) (row_zero rows u row below read))

pub linked_none : (rows : List (List ℕ)) (u : ℕ) (items : List ℕ) → items ≡ [] → length rows ≤ u → (v : ℕ) → has_number items v ≡ leads rows u v
linked_none rows u items is past v = ap (λ (xs : List ℕ). has_number xs v) is ∙ past_row rows u v past

leads_to_none : (f : Flow) (p : Option ℕ) → leads_in f p None ≡ false
leads_to_none f p = by f.place.kind p
  where
    by : (k : FlowKind) (p : Option ℕ) → leads_by_kind k f.linked p None ≡ false
    by kind.Linear None = refl
    by kind.Linear (Some u) = refl
    by kind.Unordered p = refl
    by kind.Graph None = refl
    by kind.Graph (Some u) = refl

-- ---- the tasks of a flow as a set

pub is_there : (test : ℕ → Bool) (on : Bool) (atom : ℕ) (old new : List ℕ) → on ≡ test atom → on ≡ true → ((k : ℕ) → has new k ≡ (nat_eq atom k || has old k)) → (k : ℕ) → has new k ≡ (has old k || (nat_eq k atom && test k))
is_there test on atom old new is passed set k = set k ∙ by (nat_eq atom k) refl
  where
    by : (b : Bool) → nat_eq atom k ≡ b → (b || has old k) ≡ (has old k || (nat_eq k atom && test k))
    by true same = let e : atom ≡ k = eqb-true atom k same in
        sym (ap2 (λ (x y : Bool). has old k || (x && y)) (eq-eqb k atom (sym e)) (ap test (sym e) ∙ (sym is ∙ passed)) ∙ or_true (has old k))
    by false other = sym (ap (λ (b : Bool). has old k || (b && test k)) (turn_eq k atom ∙ other) ∙ or_false (has old k))

pub isnt_there : (test : ℕ → Bool) (on : Bool) (atom : ℕ) (old : List ℕ) → on ≡ test atom → on ≡ false → (k : ℕ) → has old k ≡ (has old k || (nat_eq k atom && test k))
isnt_there test on atom old is failed k = by (nat_eq k atom) refl
  where
    by : (b : Bool) → nat_eq k atom ≡ b → has old k ≡ (has old k || (b && test k))
    by true same = let e : k ≡ atom = eqb-true k atom same in sym (ap (λ (c : Bool). has old k || c) (ap test e ∙ (sym is ∙ failed)) ∙ or_false (has old k))
    by false other = sym (or_false (has old k))

-- the tasks before an index were added, where they stand in the flow itself
pub record OwnBefore (test : ℕ → Bool) (width : ℕ) (tasks : List ℕ) (i : ℕ) (old set : List ℕ) : Type 0 where
  pub width_kept : length set ≡ width
  pub told : (k : ℕ) → has set k ≡ (has old k || (has_number (take i tasks) k && test k))

pub own_start : (test : ℕ → Bool) (width : ℕ) (tasks set : List ℕ) → length set ≡ width → OwnBefore test width tasks 0 set set
own_start test width tasks set wide = record {
  width_kept = wide;
  told = λ k. sym (ap (λ (xs : List ℕ). has set k || (has_number xs k && test k)) (taking_none tasks) ∙ or_false (has set k));
}

pub own_more : (test : ℕ → Bool) (width : ℕ) (tasks old set new : List ℕ) (i task : ℕ) → OwnBefore test width tasks i old set → i < length tasks → task ≡ slice_index_or tasks i 0 → length new ≡ width
    → ((k : ℕ) → has new k ≡ (has set k || (nat_eq k task && test k))) → OwnBefore test width tasks (i + 1) old new
own_more test width tasks old set new i task before below is wide more = record {
  width_kept = wide;
  told = λ k. more k
      ∙ (ap (λ (b : Bool). b || (nat_eq k task && test k)) (before.told k)
      ∙ (sym (or_chain (has old k) (has_number (take i tasks) k && test k) (nat_eq k task && test k))
      ∙ ap (λ (b : Bool). has old k || b) (spread (has_number (take i tasks) k) (nat_eq k task) (test k)
      ∙ ap (λ (b : Bool). b && test k) (sym (
      ap (λ (xs : List ℕ). has_number xs k) (ap (λ (n : ℕ). take n tasks) (add-one i) ∙ taking_next tasks i below)
      ∙ (number_more (take i tasks) (slice_index_or tasks i 0) k ∙ ap (λ (n : ℕ). has_number (take i tasks) k || nat_eq k n) (sym is)))))));
}
  where
    spread : (a b c : Bool) → (a && c) || (b && c) ≡ (a || b) && c
    spread true true true = refl
    spread true true false = refl
    spread true false true = refl
    spread true false false = refl
    spread false b c = refl

pub own_all : (test : ℕ → Bool) (width : ℕ) (tasks old set : List ℕ) (i : ℕ) → OwnBefore test width tasks i old set → length tasks ≤ i → (k : ℕ) → has set k ≡ (has old k || (has_number tasks k && test k))
own_all test width tasks old set i is whole k = is.told k ∙ ap (λ (xs : List ℕ). has old k || (has_number xs k && test k)) (taking_all tasks i whole)

pub own_within : (tasks : List ℕ) (count i task : ℕ) → ((k : ℕ) → has_number tasks k ≡ true → k < count) → i < length tasks → task ≡ slice_index_or tasks i 0 → task < count
own_within tasks count i task each below is = let there : slice_index_or tasks i 0 < count = each (slice_index_or tasks i 0) (listed_within tasks i below) in omega (arith, there, is)

-- the tasks in a row are atoms
pub row_within : (outline : Outline) (rows : List (List ℕ)) (item : ℕ) (tasks : List ℕ) → AreTasksByItem outline (atoms_found outline) rows → tasks ≡ row_at rows item → (k : ℕ) → has_number tasks k ≡ true → k < atoms_found outline
row_within outline rows item tasks are is k on =
    let found = which_passes (atoms_found outline) (stands_at outline item) (nat_eq k) (ap (λ (xs : List ℕ). has_number xs k) (sym (is ∙ are item)) ∙ on) in
    let same : k ≡ found.number = eqb-true k found.number found.passes in
    let under : found.number < atoms_found outline = found.below in
    omega (arith, same, under)

-- those at the items before an index
pub record FoundBefore (outline : Outline) (g : ℕ) (rows : List (List ℕ)) (items : List ℕ) (width i : ℕ) (set : List ℕ) : Type 0 where
  pub wide : length set ≡ width
  pub told : (k : ℕ) → has set k ≡ is_at_one outline g rows (take i items) k

pub found_start : (outline : Outline) (g : ℕ) (rows : List (List ℕ)) (items : List ℕ) (width : ℕ) (set : List ℕ) → length set ≡ width → ((k : ℕ) → has set k ≡ false) → FoundBefore outline g rows items width 0 set
found_start outline g rows items width set wide none = record { wide = wide; told = λ k. none k ∙ sym (ap (λ (xs : List ℕ). is_at_one outline g rows xs k) (taking_none items)) }

any_last : (p : ℕ → Bool) (xs : List ℕ) (x : ℕ) → list_any p (xs ++ x ∷ []) ≡ (list_any p xs || p x)
any_last p [] x = or_false (p x)
any_last p (y ∷ ys) x = ap (λ (b : Bool). p y || b) (any_last p ys x) ∙ or_chain (p y) (list_any p ys) (p x)

pub found_more : (outline : Outline) (g : ℕ) (rows : List (List ℕ)) (items : List ℕ) (width i item : ℕ) (tasks set new : List ℕ) → FoundBefore outline g rows items width i set → i < length items → item ≡ slice_index_or items i 0 → tasks ≡ row_at rows item
    → length new ≡ width → ((k : ℕ) → has new k ≡ (has set k || (has_number tasks k && is_own outline g k))) → FoundBefore outline g rows items width (i + 1) new
found_more outline g rows items width i item tasks set new before below is tasks_are wide more = record {
  wide = wide;
  told = λ k. more k
      ∙ (ap2 (λ (b : Bool) (xs : List ℕ). b || (has_number xs k && is_own outline g k)) (before.told k) (tasks_are ∙ ap (row_at rows) is)
      ∙ sym (ap (λ (n : ℕ). is_at_one outline g rows (take n items) k) (add-one i)
      ∙ (ap (λ (xs : List ℕ). is_at_one outline g rows xs k) (taking_next items i below)
      ∙ any_last (λ (v : ℕ). has_number (row_at rows v) k && is_own outline g k) (take i items) (slice_index_or items i 0))));
}

pub found_whole : (outline : Outline) (g : ℕ) (rows : List (List ℕ)) (items : List ℕ) (width i : ℕ) (set : List ℕ) → FoundBefore outline g rows items width i set → length items ≤ i → (k : ℕ) → has set k ≡ is_at_one outline g rows items k
found_whole outline g rows items width i set is whole k = is.told k ∙ ap (λ (xs : List ℕ). is_at_one outline g rows xs k) (taking_all items i whole)

-- ---- what was found

any_and : (p : ℕ → Bool) (c : Bool) (xs : List ℕ) → list_any (λ (x : ℕ). p x && c) xs ≡ list_any p xs && c
any_and p c [] = refl
any_and p c (x ∷ xs) = ap (λ (b : Bool). (p x && c) || b) (any_and p c xs) ∙ spread (p x) (list_any p xs) c
  where
    spread : (a b c : Bool) → (a && c) || (b && c) ≡ (a || b) && c
    spread true true true = refl
    spread true true false = refl
    spread true false true = refl
    spread true false false = refl
    spread false b c = refl

any_same : (p q : ℕ → Bool) (xs : List ℕ) → ((x : ℕ) → p x ≡ q x) → list_any p xs ≡ list_any q xs
any_same p q [] each = refl
any_same p q (x ∷ xs) each = ap2 ◌||◌ (each x) (any_same p q xs each)

any_never : (xs : List ℕ) → list_any (λ (x : ℕ). false) xs ≡ false
any_never [] = refl
any_never (x ∷ xs) = any_never xs

turned : (h : Option ℕ) (g : ℕ) (a : Bool) → a && is_number h g ≡ (true && same_flow h (Some g)) && a
turned None g a = and_false a
turned (Some h) g true = turn_eq h g ∙ sym (and_true (nat_eq g h))
turned (Some h) g false = sym (and_false (nat_eq g h))

-- by the place of the atom
led_by : (is_task : Bool) (place h : Option ℕ) (g : ℕ) (f : Flow) (from : Option ℕ) (items : List ℕ) → ((v : ℕ) → (if is_task then place else None) ≡ Some v → has_number items v ≡ leads_in f from (Some v))
    → list_any (λ (v : ℕ). is_number (if is_task then place else None) v && is_number h g) items ≡ (is_task && same_flow h (Some g)) && leads_in f from place
led_by false place h g f from items led = any_never items
led_by true None h g f from items led = any_never items ∙ sym (ap (λ (b : Bool). same_flow h (Some g) && b) (leads_to_none f from) ∙ and_false (same_flow h (Some g)))
led_by true (Some v) h g f from items led =
    any_and (nat_eq v) (is_number h g) items
    ∙ (ap (λ (b : Bool). b && is_number h g) (led v refl)
    ∙ turned h g (leads_in f from (Some v)))

there_is : (atoms : List AtomPlace) (k : ℕ) → k < length atoms → (atom : AtomPlace) × (slice_get atoms k ≡ Some atom) × (atom ≡ slice_index_or atoms k atom)
there_is [] k below = absurd (omega arith)
there_is (x ∷ atoms) zero below = (x, refl, refl)
there_is (x ∷ atoms) (suc k) below = there_is atoms k (omega arith)

row_past : (rows : List (List ℕ)) (v k : ℕ) → has_number (row_at rows v) k ≡ true → v < length rows
row_past rows v k on = elim (cases_lt v (length rows)) [
  | inl below ↦ below
  | inr past ↦ let none : has_number (row_at rows v) k ≡ false = ap (λ (o : Option (List ℕ)). has_number (row_in o) k) (slice_get_past rows v past) in absurd (clash (has_number (row_at rows v) k) on none)
]

-- the set has the tasks that the atom leads to
pub found_all : (outline : Outline) (a : ℕ) (from : Turn) (from_atom : AtomPlace) (rows : List (List ℕ)) (items set row : List ℕ) → a < atoms_found outline → from_atom ≡ slice_index_or outline.atoms.items a from_atom
    → last_flow from_atom.path ≡ Some from.flow → last_item from_atom.path ≡ from.item → AreTasksByItem outline (atoms_found outline) rows
    → ((v : ℕ) → v < length rows → has_number items v ≡ leads_in (flow_at (plan_seen outline).flows from.flow) from.item (Some v)) → ((k : ℕ) → has set k ≡ is_at_one outline from.flow rows items k)
    → row ≡ which_below (atoms_found outline) (has set) → row ≡ which_below (atoms_found outline) (leads_to (plan_seen outline) a)
found_all outline a from from_atom rows items set row a_below from_read flow_is item_is are led found is =
    is ∙ which_same (atoms_found outline) (has set) (leads_to (plan_seen outline) a) (λ k below. each k below (there_is outline.atoms.items k below))
  where
    each : (k : ℕ) → k < atoms_found outline → (atom : AtomPlace) × (slice_get outline.atoms.items k ≡ Some atom) × (atom ≡ slice_index_or outline.atoms.items k atom) → has set k ≡ leads_to (plan_seen outline) a k
    each k below (atom, got, read) =
        found k
        ∙ (any_same (λ (v : ℕ). has_number (row_at rows v) k && is_own outline from.flow k) (λ (v : ℕ). is_number (task_item atom) v && is_number (last_flow atom.path) from.flow) items (λ v.
        ap2 ◌&&◌ (in_row v) (ap (λ (o : Option AtomPlace). is_in_own from.flow o) got))
        ∙ (led_by (is_task_part (shown_part atom.part)) (last_item atom.path) (last_flow atom.path) from.flow (flow_at (plan_seen outline).flows from.flow) from.item items (λ v some. led v (row_past rows v k (in_row v ∙ (ap (λ (o : Option ℕ). is_number o v) some ∙ eq-eqb v v refl))))
        ∙ leads_seen outline a k (Some from) atom from_atom (leads_from (plan_seen outline).flows (Some from) atom) a_below below from_read read flow_is item_is refl))
      where
        in_row : (v : ℕ) → has_number (row_at rows v) k ≡ is_number (task_item atom) v
        in_row v =
            ap (λ (xs : List ℕ). has_number xs k) (are v)
            ∙ (listed_number (atoms_found outline) (stands_at outline v) k (λ past. absurd (omega (arith, past, below)))
            ∙ ap (λ (o : Option AtomPlace). is_at_item v o) got)

-- where the atom has no place, it leads to none
pub nothing_found : (outline : Outline) (a : ℕ) (from_atom : AtomPlace) (row : List ℕ) → a < atoms_found outline → from_atom ≡ slice_index_or outline.atoms.items a from_atom → last_flow from_atom.path ≡ None → last_item from_atom.path ≡ None → row ≡ []
    → row ≡ which_below (atoms_found outline) (leads_to (plan_seen outline) a)
nothing_found outline a from_atom row a_below from_read flow_is item_is is =
    is ∙ sym (none_of (atoms_found outline) (leads_to (plan_seen outline) a) (λ k below. none k below (there_is outline.atoms.items k below)))
  where
    none_of : (n : ℕ) (test : ℕ → Bool) → ((k : ℕ) → k < n → test k ≡ false) → which_below n test ≡ []
    none_of zero test each = refl
    none_of (suc n) test each = ap2 (λ (xs : List ℕ) (b : Bool). xs ++ (if b then n ∷ [] else [])) (none_of n test (λ k below. each k (omega (arith, below)))) (each n (omega arith))

    no_flow : (h : Option ℕ) (b : Bool) → (b && same_flow h None) && false ≡ false
    no_flow h b = and_false (b && same_flow h None)

    none : (k : ℕ) → k < atoms_found outline → (atom : AtomPlace) × (slice_get outline.atoms.items k ≡ Some atom) × (atom ≡ slice_index_or outline.atoms.items k atom) → leads_to (plan_seen outline) a k ≡ false
    none k below (atom, got, read) =
        sym (leads_seen outline a k None atom from_atom (leads_from (plan_seen outline).flows None atom) a_below below from_read read flow_is item_is refl)
        ∙ no_flow (last_flow atom.path) (is_task_part (shown_part atom.part))

-- those that stand at one of the items are atoms
pub found_within : (outline : Outline) (g : ℕ) (rows : List (List ℕ)) (items set : List ℕ) → AreTasksByItem outline (atoms_found outline) rows → ((k : ℕ) → has set k ≡ is_at_one outline g rows items k) → (k : ℕ) → has set k ≡ true → k < atoms_found outline
found_within outline g rows items set are found k on = each items (sym (found k) ∙ on)
  where
    each : (xs : List ℕ) → is_at_one outline g rows xs k ≡ true → k < atoms_found outline
    each [] is = absurd (cc)
    each (x ∷ xs) is = elim (or_either (has_number (row_at rows x) k && is_own outline g k) (is_at_one outline g rows xs k) is) [
      | inl here ↦ row_within outline rows x (row_at rows x) are refl k (and_first (has_number (row_at rows x) k) (is_own outline g k) here)
      | inr there ↦ each xs there
    ]
