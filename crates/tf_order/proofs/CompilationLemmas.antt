-- Looking at the flows of a plan from the last one on, the first refusal, and the graph of a plan.
use Rattle.std.proofs.Common.{◌≡◌, ◌≢◌, ℕ, zero, suc, ◌+◌, ◌<◌, ◌≤◌, List, [], ◌∷◌, ◌++◌, length, map, flat_map, take, drop, Bool, true, false, Option, Some, None, refl, sym, ap, subst, ◌∙◌, add-one, inl, inr, arith, eqb-true, eq-eqb, slice_set, slice_get, slice_index_or}
use Rattle.std.specs.Option.{option_to_list, option_or}
use Rattle.std.specs.Prelude.{nat_eq, if◌then◌else◌}
use Rattle.std.proofs.lemmas.Bool.{cases_lt}
use Rattle.std.proofs.lemmas.List.{length-set, length-map}
use Rattle.std.proofs.lemmas.Option.{slice_get_past}
use Rattle.tf_flow.specs.Tree.{first_some, Tree, Trees, task, flow, no_trees, tree, tree_of}
use Rattle.tf_flow.specs.Plan.{PlanValue}
use Rattle.tf_flow.specs.declared.atoms.Retry.{Retry}
use Rattle.tf_model.specs.Before.{Flow, find_flow, has_flow_number, arrange, arranged, standing_at, standing_of_item, linked_pairs}
use Rattle.tf_model.specs.Plan.{CompileRefusal, ambiguous, cycle, refusal_of, refusal_among, refusal_at, compile_refusal, outline_with, outline_of, is_before, count}
use Rattle.tf_links.specs.Graphs.{standing_items}
use Rattle.tf_numbers.specs.Numbers.{numbers_below}
use Rattle.tf_flow.specs.Outline.{Atom, Item, Standing, stands_task, stands_flow, FlowPlace, atoms_of, flows_of, flows_among, flow_count, atom_count, atoms_among_count, retry_count, retry_number, item_of, items_of, innermost_first}
use Rattle.tf_model.proofs.Told.{standing_in, standing_of}
use Rattle.tf_numbers.proofs.PairLemmas.{any_in_both}
use Rattle.tf_order.specs.declared.arranged.Arranged.{Arranged}
use Rattle.tf_order.specs.declared.faults.CompileFault.{CompileFault}
use Rattle.tf_order.specs.declared.faults.CompileFault.TheVariants as fault
use Rattle.tf_flow.specs.declared.listing.AtomPlace.{AtomPlace}
use Rattle.tf_flow.specs.declared.listing.Level.{Level}
use Rattle.tf_flow.specs.declared.listing.Outline.{Outline}
use Rattle.tf_order.specs.Arranged.{IsArranged, IsShownAt, ShowsFlows}
use Rattle.tf_order.specs.Graph.{GraphValue, IsGraphOf, standing_of_plan}
use Rattle.tf_order.specs.Looked.{told_by, told_in}
use Rattle.tf_flow.specs.Listing.{shown_atom, shown_atoms, shown_level, shown_levels, level_number}
use Rattle.tf_order.specs.Refusals.{IsRefusedBy}
use Rattle.tf_order.specs.Tables.{plan_seen, atoms_found, AreTables, AreLooked, AreNone, AllBelow, fault_in, told_at}
use Rattle.tf_numbers.proofs.EquationLemmas.{ap2}
use Rattle.tf_order.proofs.GraphLemmas.{get_first, get_last}
use Rattle.tf_numbers.proofs.TruthLemmas.{clash, only_first}
use Rattle.tf_flow.proofs.ListingLemmas.{length_atoms}
use Rattle.tf_flow.proofs.NumberingLemmas.{level_there, level_number_at}
use Rattle.tf_links.proofs.StandingLemmas.{taking_all}
use Rattle.tf_order.proofs.SpreadLemmas.{get_set_same, get_set_other}
use Rattle.tf_numbers.proofs.ListLemmas.{length_more}

-- ---- no flow was looked at

pub none_start : {X : Type 0} (places : List (Option X)) → places ≡ [] → AreNone 0 places
none_start places is = record { height = ap length is; none = λ k below. absurd (omega (arith, below)) }

pub none_more : {X : Type 0} (places new : List (Option X)) (i : ℕ) → AreNone i places → new ≡ places ++ None ∷ [] → AreNone (i + 1) new
none_more {X} places new i before pushed = record {
  height = ap length pushed ∙ (length_more places None ∙ ap (λ (n : ℕ). n + 1) before.height);
  none = λ k below. ap (λ (xs : List (Option X)). slice_get xs k) pushed ∙ elim (cases_lt k i) [
    | inl earlier ↦ get_first places None k (omega (arith, earlier, before.height)) ∙ before.none k earlier
    | inr from ↦ let same : k ≡ length places = omega (arith, from, below, before.height) in ap (slice_get (places ++ None ∷ [])) same ∙ get_last places None
  ];
}

pub none_whole : {X : Type 0} (places : List (Option X)) (i count : ℕ) → AreNone i places → i ≡ count → AreNone count places
none_whole places i count is same = subst (λ (n : ℕ). AreNone n places) same is

drop_whole : {X : Type 0} (xs : List X) → drop (length xs) xs ≡ []
drop_whole [] = refl
drop_whole (x ∷ xs) = drop_whole xs

drop_none : {X : Type 0} (xs : List X) → drop 0 xs ≡ xs
drop_none [] = refl
drop_none (x ∷ xs) = refl

none_there : {X : Type 0} (count : ℕ) (places : List (Option X)) (k : ℕ) → AreNone count places → (P : Option (Option X) → Type 0) → P None → P (Some None) → P (slice_get places k)
none_there count places k is P at_none at_some = elim (cases_lt k count) [
  | inl below ↦ subst P (sym (is.none k below)) at_some
  | inr from ↦ subst P (sym (slice_get_past places k (omega (arith, from, is.height)))) at_none
]

looked_start : (atoms : List Atom) (places : List FlowPlace) (count : ℕ) (table : List (Option Arranged)) (faults : List (Option CompileFault)) → count ≡ length places → AreNone count table → AreNone count faults → AreLooked atoms places count table faults
looked_start atoms places count table faults whole table_none faults_none = record {
  height = table_none.height ∙ whole;
  fault_height = faults_none.height ∙ whole;
  shows = λ g. subst (λ (ps : List FlowPlace). IsShownAt (slice_get table g) (find_flow (arranged atoms ps) g)) (sym nothing)
      (none_there count table g table_none (λ shown. IsShownAt shown None) tt tt);
  told = λ g. none_there count faults g faults_none (λ found. told_in (fault_in found) ≡ None) refl refl
      ∙ ap (λ (ps : List FlowPlace). refusal_among atoms g (arranged atoms ps)) (sym nothing);
}
  where
    nothing : drop count places ≡ []
    nothing = ap (λ (n : ℕ). drop n places) whole ∙ drop_whole places

-- ---- one flow more

drop_there : {X : Type 0} (xs : List X) (k : ℕ) (x : X) → slice_get xs k ≡ Some x → drop k xs ≡ x ∷ drop (suc k) xs
drop_there [] k x is = absurd (cc)
drop_there (y ∷ xs) zero x is = let same : y ≡ x = cc in ap2 (λ (z : _) (zs : List _). z ∷ zs) same (sym (drop_none xs))
drop_there (y ∷ xs) (suc k) x is = drop_there xs k x is

looked_next : (atoms : List Atom) (places : List FlowPlace) (g : ℕ) (place : FlowPlace) (done : Arranged) (refusal : Option CompileFault) (table : List (Option Arranged)) (faults : List (Option CompileFault))
    → AreLooked atoms places (suc g) table faults → slice_get places g ≡ Some place → place.number ≡ g → g < length places
    → IsArranged done (arrange atoms (arranged atoms (drop (suc g) places)) place)
    → told_in refusal ≡ refusal_of atoms (arranged atoms (drop (suc g) places)) (arrange atoms (arranged atoms (drop (suc g) places)) place)
    → AreLooked atoms places g (slice_set table g (Some done)) (slice_set faults g refusal)
looked_next atoms places g place done refusal table faults before there number within arranged_is told_is = record {
  height = length-set table g (Some done) ∙ before.height;
  fault_height = length-set faults g refusal ∙ before.fault_height;
  shows = λ h. subst (λ (ps : List FlowPlace). IsShownAt (slice_get (slice_set table g (Some done)) h) (find_flow (arranged atoms ps) h)) (sym more) (shown h (nat_eq place.number h) refl);
  told = λ h. tells h (nat_eq place.number h) refl ∙ ap (λ (ps : List FlowPlace). refusal_among atoms h (arranged atoms ps)) (sym more);
}
  where
    inner : List Flow
    inner = arranged atoms (drop (suc g) places)

    more : drop g places ≡ place ∷ drop (suc g) places
    more = drop_there places g place there

    others : (h : ℕ) → nat_eq place.number h ≡ false → h ≢ g
    others h other = λ same. clash (nat_eq place.number h) (eq-eqb place.number h (number ∙ sym same)) other

    here : {X : Type 0} (xs : List X) (x : X) (h : ℕ) → nat_eq place.number h ≡ true → g < length xs → slice_get (slice_set xs g x) h ≡ Some x
    here xs x h same room = ap (slice_get (slice_set xs g x)) (sym (eqb-true place.number h same) ∙ number) ∙ get_set_same xs g x room

    shown : (h : ℕ) (b : Bool) → nat_eq place.number h ≡ b → IsShownAt (slice_get (slice_set table g (Some done)) h) (find_flow (arranged atoms (place ∷ drop (suc g) places)) h)
    shown h true same =
        subst (λ (c : Bool). IsShownAt (slice_get (slice_set table g (Some done)) h) (if c then Some (arrange atoms inner place) else find_flow inner h)) (sym same)
        (subst (λ (o : Option (Option Arranged)). IsShownAt o (Some (arrange atoms inner place))) (sym (here table (Some done) h same (omega (arith, within, before.height)))) arranged_is)
    shown h false other =
        subst (λ (c : Bool). IsShownAt (slice_get (slice_set table g (Some done)) h) (if c then Some (arrange atoms inner place) else find_flow inner h)) (sym other)
        (subst (λ (o : Option (Option Arranged)). IsShownAt o (find_flow inner h)) (sym (get_set_other table g h (Some done) (others h other))) (before.shows h))

    tells : (h : ℕ) (b : Bool) → nat_eq place.number h ≡ b → told_at (slice_set faults g refusal) h ≡ refusal_among atoms h (arranged atoms (place ∷ drop (suc g) places))
    tells h true same =
        ap (λ (o : Option (Option CompileFault)). told_in (fault_in o)) (here faults refusal h same (omega (arith, within, before.fault_height)))
        ∙ (told_is ∙ sym (ap (λ (c : Bool). if c then refusal_of atoms inner (arrange atoms inner place) else refusal_among atoms h inner) same))
    tells h false other =
        ap (λ (o : Option (Option CompileFault)). told_in (fault_in o)) (get_set_other faults g h refusal (others h other))
        ∙ (before.told h ∙ sym (ap (λ (c : Bool). if c then refusal_of atoms inner (arrange atoms inner place) else refusal_among atoms h inner) other))

pub looked_from : (atoms : List Atom) (places : List FlowPlace) (n m : ℕ) (table : List (Option Arranged)) (faults : List (Option CompileFault)) → n ≡ m → AreLooked atoms places n table faults → AreLooked atoms places m table faults
looked_from atoms places n m table faults same is = subst (λ (k : ℕ). AreLooked atoms places k table faults) same is

-- the start and the step with what the code has
pub looked_begin : (outline : Outline) (n count : ℕ) (table : List (Option Arranged)) (faults : List (Option CompileFault)) → n ≡ length outline.levels.items → count ≡ length outline.levels.items → AreNone n table → AreNone n faults
    → AreLooked (shown_atoms outline.atoms.items) (shown_levels outline.levels.items) count table faults
looked_begin outline n count table faults n_is count_is table_none faults_none =
    looked_start (shown_atoms outline.atoms.items) (shown_levels outline.levels.items) count table faults (count_is ∙ sym (length-map outline.levels.items shown_level))
    (none_whole table n count table_none (n_is ∙ sym count_is)) (none_whole faults n count faults_none (n_is ∙ sym count_is))

pub looked_step : (outline : Outline) (atoms : List AtomPlace) (seen table : List (Option Arranged)) (faults : List (Option CompileFault)) (g : ℕ) (level : Level) (done : Arranged) (refusal : Option CompileFault)
    → atoms ≡ outline.atoms.items → seen ≡ table → AreLooked (shown_atoms outline.atoms.items) (shown_levels outline.levels.items) (g + 1) table faults → map level_number outline.levels.items ≡ numbers_below (length outline.levels.items)
    → g < length outline.levels.items → level ≡ slice_index_or outline.levels.items g level
    → ((inner : List Flow) → ShowsFlows seen inner → IsArranged done (arrange (shown_atoms atoms) inner (shown_level level)))
    → ((inner : List Flow) → ShowsFlows seen inner → told_in refusal ≡ refusal_of (shown_atoms atoms) inner (arrange (shown_atoms atoms) inner (shown_level level)))
    → AreLooked (shown_atoms outline.atoms.items) (shown_levels outline.levels.items) g (slice_set table g (Some done)) (slice_set faults g refusal)
looked_step outline atoms seen table faults g level done refusal atoms_is seen_is looked numbers within read arranged_is told_is =
    let before = looked_from (shown_atoms outline.atoms.items) (shown_levels outline.levels.items) (g + 1) (suc g) table faults (add-one g) looked in
    let inner = arranged (shown_atoms outline.atoms.items) (drop (suc g) (shown_levels outline.levels.items)) in
    let shows : ShowsFlows seen inner = subst (λ (t : List (Option Arranged)). ShowsFlows t inner) (sym seen_is) before.shows in
    looked_next (shown_atoms outline.atoms.items) (shown_levels outline.levels.items) g (shown_level level) done refusal table faults before
    (level_there outline.levels.items g level within read)
    (ap level_number read ∙ level_number_at outline.levels.items g level numbers within)
    (subst (λ (n : ℕ). g < n) (sym (length-map outline.levels.items shown_level)) within)
    (subst (λ (xs : List AtomPlace). IsArranged done (arrange (shown_atoms xs) inner (shown_level level))) atoms_is (arranged_is inner shows))
    (told_is inner shows ∙ ap (λ (xs : List AtomPlace). refusal_of (shown_atoms xs) inner (arrange (shown_atoms xs) inner (shown_level level))) atoms_is)

-- ---- the first refusal

refused_same : (f g : ℕ → Option CompileRefusal) (numbers : List ℕ) → ((k : ℕ) → f k ≡ g k) → first_some f numbers ≡ first_some g numbers
refused_same f g [] each = refl
refused_same f g (n ∷ numbers) each = ap2 option_or (each n) (refused_same f g numbers each)

pub refused_start : (f : ℕ → Option CompileRefusal) (numbers : List ℕ) → first_some f (take 0 numbers) ≡ None
refused_start f [] = refl
refused_start f (n ∷ numbers) = refl

none_of : (a b : Option CompileRefusal) → option_or a b ≡ None → (a ≡ None) × (b ≡ None)
none_of None b is = (refl, is)
none_of (Some x) b is = absurd (cc)

-- the next one isn't refused either
pub refused_more : (f : ℕ → Option CompileRefusal) (numbers : List ℕ) (i n : ℕ) → first_some f (take i numbers) ≡ None → i < length numbers → n ≡ slice_index_or numbers i 0 → f n ≡ None → first_some f (take (i + 1) numbers) ≡ None
refused_more f numbers i n none below is here = ap (λ (k : ℕ). first_some f (take k numbers)) (add-one i) ∙ next numbers i none below (ap f (sym is) ∙ here)
  where
    next : (xs : List ℕ) (i : ℕ) → first_some f (take i xs) ≡ None → i < length xs → f (slice_index_or xs i 0) ≡ None → first_some f (take (suc i) xs) ≡ None
    next [] i none below here = absurd (omega arith)
    next (x ∷ xs) zero none below here = ap2 option_or here (refused_start f xs)
    next (x ∷ xs) (suc i) none below here = let both = none_of (f x) (first_some f (take i xs)) none in ap2 option_or both.0 (next xs i both.1 (omega arith) here)

pub refused_all : (f : ℕ → Option CompileRefusal) (numbers : List ℕ) (i : ℕ) → first_some f (take i numbers) ≡ None → length numbers ≤ i → first_some f numbers ≡ None
refused_all f numbers i none whole = ap (first_some f) (sym (taking_all numbers i whole)) ∙ none

-- the first refusal is here
first_here : (f : ℕ → Option CompileRefusal) (xs : List ℕ) (i : ℕ) (refusal : CompileRefusal) → first_some f (take i xs) ≡ None → i < length xs → f (slice_index_or xs i 0) ≡ Some refusal → first_some f xs ≡ Some refusal
first_here f [] i refusal none below is = absurd (omega arith)
first_here f (x ∷ xs) zero refusal none below is = ap (λ (o : Option CompileRefusal). option_or o (first_some f xs)) is
first_here f (x ∷ xs) (suc i) refusal none below is = let both = none_of (f x) (first_some f (take i xs)) none in ap2 option_or both.0 (first_here f xs i refusal both.1 (omega arith) is)

pub refused_here : (f : ℕ → Option CompileRefusal) (numbers : List ℕ) (i n : ℕ) (found : CompileFault) → first_some f (take i numbers) ≡ None → i < length numbers → n ≡ slice_index_or numbers i 0 → IsRefusedBy (f n) found → IsRefusedBy (first_some f numbers) found
refused_here f numbers i n (fault.Ambiguous symbol first second) none below is refused = first_here f numbers i (ambiguous symbol first second) none below (ap f (sym is) ∙ refused)
refused_here f numbers i n (fault.Cycle names) none below is refused = first_here f numbers i (cycle names) none below (ap f (sym is) ∙ refused)
refused_here f numbers i n fault.Memory none below is refused = tt

-- what a fault tells, it refuses by
pub refused_told : (found : CompileFault) → IsRefusedBy (told_by found) found
refused_told (fault.Ambiguous symbol first second) = refl
refused_told (fault.Cycle names) = refl
refused_told fault.Memory = tt

-- ---- the plan

all_looked : (atoms : List Atom) (places : List FlowPlace) (table : List (Option Arranged)) (faults : List (Option CompileFault)) → AreLooked atoms places 0 table faults → ShowsFlows table (arranged atoms places)
all_looked atoms places table faults is = subst (λ (ps : List FlowPlace). ShowsFlows table (arranged atoms ps)) (drop_none places) is.shows

pub shows_plan : (outline : Outline) (table : List (Option Arranged)) (faults : List (Option CompileFault)) → AreLooked (shown_atoms outline.atoms.items) (shown_levels outline.levels.items) 0 table faults → ShowsFlows table (plan_seen outline).flows
unfolding plan_seen
shows_plan outline table faults is = all_looked (shown_atoms outline.atoms.items) (shown_levels outline.levels.items) table faults is

-- the first fault tells the refusal of the plan
pub refusal_told : (plan : PlanValue) (outline : Outline) (table : List (Option Arranged)) (faults : List (Option CompileFault)) → shown_atoms outline.atoms.items ≡ atoms_of 0 (tree_of plan.root) → shown_levels outline.levels.items ≡ flows_of 0 0 (tree_of plan.root)
    → outline.inner_first.items ≡ innermost_first 0 (tree_of plan.root) → AreLooked (shown_atoms outline.atoms.items) (shown_levels outline.levels.items) 0 table faults → first_some (told_at faults) outline.inner_first.items ≡ compile_refusal plan
refusal_told plan outline table faults atoms_are levels_are inner_is is =
    ap (first_some (told_at faults)) inner_is
    ∙ refused_same (told_at faults) (refusal_at (outline_of plan)) (innermost_first 0 (tree_of plan.root)) (λ k.
    is.told k
    ∙ (ap (λ (ps : List FlowPlace). refusal_among (shown_atoms outline.atoms.items) k (arranged (shown_atoms outline.atoms.items) ps)) (drop_none (shown_levels outline.levels.items))
    ∙ ap2 (λ (xs : List Atom) (ps : List FlowPlace). refusal_among xs k (arranged xs ps)) atoms_are levels_are))

other_store : (graph : GraphValue) (plan : PlanValue) → AreTables graph (outline_with (atoms_of 0 (tree_of plan.root)) (flows_of 0 0 (tree_of plan.root)) [] false) → compile_refusal plan ≡ None → IsGraphOf graph plan
unfolding is_before
other_store graph plan are none = record { predecessors = are.predecessors; successors = are.successors; direct_tasks = are.direct_tasks; standing = are.standing; compiles = none }

pub graph_is : (plan : PlanValue) (outline : Outline) (graph : GraphValue) → shown_atoms outline.atoms.items ≡ atoms_of 0 (tree_of plan.root) → shown_levels outline.levels.items ≡ flows_of 0 0 (tree_of plan.root)
    → AreTables graph (plan_seen outline) → compile_refusal plan ≡ None → IsGraphOf graph plan
unfolding plan_seen
graph_is plan outline graph atoms_are levels_are are none = other_store graph plan (subst (AreTables graph) (ap2 (λ (xs : List Atom) (ps : List FlowPlace). outline_with xs ps [] false) atoms_are levels_are) are) none

-- ---- numbers of atoms

below_both : (most : ℕ) (xs ys : List ℕ) → AllBelow most xs → AllBelow most ys → AllBelow most (xs ++ ys)
below_both most xs ys first second k is = elim (any_in_both (nat_eq k) xs ys is) [ inl here ↦ first k here | inr there ↦ second k there ]

below_one : (most n : ℕ) → n < most → AllBelow most (n ∷ [])
below_one most n below k is = let same : k ≡ n = eqb-true k n (only_first (nat_eq k n) is) in omega (arith, same, below)

below_none : (most : ℕ) → AllBelow most []
below_none most k is = absurd (cc)

below_flat : (most : ℕ) (f : ℕ → List ℕ) (xs : List ℕ) → ((k : ℕ) → AllBelow most (f k)) → AllBelow most (flat_map f xs)
below_flat most f [] each = below_none most
below_flat most f (x ∷ xs) each = below_both most (f x) (flat_map f xs) (each x) (below_flat most f xs each)

-- a task's number is below another
abbrev StandsBelow : ℕ → Standing → Type 0
StandsBelow most (stands_task a) = a < most
StandsBelow most (stands_flow g) = Unit {0}

abbrev ItemsBelow : ℕ → List Item → Type 0
ItemsBelow most [] = Unit {0}
ItemsBelow most (item ∷ items) = StandsBelow most item.standing × ItemsBelow most items

-- the numbers of a flow's own atoms are below another
record PlaceBelow (most : ℕ) (place : FlowPlace) : Type 0 where
  control : AllBelow most (option_to_list place.retry)
  items : ItemsBelow most place.items

abbrev PlacesBelow : ℕ → List FlowPlace → Type 0
PlacesBelow most [] = Unit {0}
PlacesBelow most (place ∷ places) = PlaceBelow most place × PlacesBelow most places

places_both : (most : ℕ) (xs ys : List FlowPlace) → PlacesBelow most xs → PlacesBelow most ys → PlacesBelow most (xs ++ ys)
places_both most [] ys first second = second
places_both most (x ∷ xs) ys first second = (first.0, places_both most xs ys first.1 second)

item_below : (most n a : ℕ) (t : Tree) → a + atom_count t ≤ most → StandsBelow most (item_of n a t).standing
item_below most n a (task t) room = omega (arith, room)
item_below most n a (flow head items) room = tt

items_below : (most n a : ℕ) (ts : Trees) → a + atoms_among_count ts ≤ most → ItemsBelow most (items_of n a ts)
items_below most n a no_trees room = tt
items_below most n a (tree first others) room = (item_below most n a first (omega (arith, room)), items_below most (n + flow_count first) (a + atom_count first) others (omega (arith, room)))

retry_below : (most a : ℕ) (control : Option Retry) → a + retry_count control ≤ most → AllBelow most (option_to_list (retry_number a control))
retry_below most a None room = below_none most
retry_below most a (Some r) room = below_one most a (omega (arith, room))

mutual
  places_below : (t : Tree) (most g a : ℕ) → a + atom_count t ≤ most → PlacesBelow most (flows_of g a t)
  places_below (task t) most g a room = tt
  places_below (flow head items) most g a room = (
    record { control = retry_below most a head.retry (omega (arith, room)); items = items_below most (suc g) (a + retry_count head.retry) items (omega (arith, room)) },
    places_below_among items most (suc g) (a + retry_count head.retry) (omega (arith, room)),
  )

  places_below_among : (ts : Trees) (most n a : ℕ) → a + atoms_among_count ts ≤ most → PlacesBelow most (flows_among n a ts)
  places_below_among no_trees most n a room = tt
  places_below_among (tree first others) most n a room =
      places_both most (flows_of n a first) (flows_among (n + flow_count first) (a + atom_count first) others)
      (places_below first most n a (omega (arith, room)))
      (places_below_among others most (n + flow_count first) (a + atom_count first) (omega (arith, room)))

abbrev FlowsBelow : ℕ → List Flow → Type 0
FlowsBelow most [] = Unit {0}
FlowsBelow most (f ∷ flows) = AllBelow most f.standing × FlowsBelow most flows

standing_found : (most : ℕ) (flows : List Flow) (g : ℕ) → FlowsBelow most flows → AllBelow most (standing_in (find_flow flows g))
standing_found most [] g each = below_none most
standing_found most (f ∷ flows) g each = either most f (find_flow flows g) each.0 (standing_found most flows g each.1) (has_flow_number g f)
  where
    either : (most : ℕ) (f : Flow) (o : Option Flow) → AllBelow most f.standing → AllBelow most (standing_in o) → (b : Bool) → AllBelow most (standing_in (if b then Some f else o))
    either most f o here there true = here
    either most f o here there false = there

item_standing : (most : ℕ) (inner : List Flow) (items : List Item) (u : ℕ) → FlowsBelow most inner → ItemsBelow most items → AllBelow most (standing_of inner (slice_get items u))
item_standing most inner [] u each below = below_none most
item_standing most inner (item ∷ items) zero each below = by_standing item.standing below.0
  where
    by_standing : (stands : Standing) → StandsBelow most stands → AllBelow most (standing_at inner stands)
    by_standing (stands_task a) within = below_one most a within
    by_standing (stands_flow g) within = standing_found most inner g each
item_standing most inner (item ∷ items) (suc u) each below = item_standing most inner items u each below.1

flows_below : (most : ℕ) (atoms : List Atom) (places : List FlowPlace) → PlacesBelow most places → FlowsBelow most (arranged atoms places)
flows_below most atoms [] each = tt
flows_below most atoms (place ∷ places) each =
    let inner = arranged atoms places in
    let rest = flows_below most atoms places each.1 in (
      below_both most (option_to_list place.retry) (flat_map (standing_of_item inner place) (standing_items (length place.items) (linked_pairs atoms inner place)))
          each.0.control
          (below_flat most (standing_of_item inner place) (standing_items (length place.items) (linked_pairs atoms inner place)) (λ u. item_standing most inner place.items u rest each.0.items)),
      rest,
    )

-- the atoms in standing order are atoms
pub standing_fits : (t : Tree) (outline : Outline) → shown_atoms outline.atoms.items ≡ atoms_of 0 t → shown_levels outline.levels.items ≡ flows_of 0 0 t → atoms_found outline ≤ 1000 → AllBelow 1000 (standing_of_plan (plan_seen outline))
unfolding plan_seen
standing_fits t outline atoms_are levels_are few =
    let counted : atom_count t ≡ atoms_found outline = sym (length_atoms 0 t) ∙ (ap length (sym atoms_are) ∙ length-map outline.atoms.items shown_atom) in
    standing_found 1000 (arranged (shown_atoms outline.atoms.items) (shown_levels outline.levels.items)) 0
    (flows_below 1000 (shown_atoms outline.atoms.items) (shown_levels outline.levels.items)
    (subst (PlacesBelow 1000) (sym levels_are) (places_below t 1000 0 0 (omega (arith, counted, few)))))
