-- The symbols that make an item ambiguous, and the cycle of a flow.
use Rattle.tf_flow.specs.Paths.{shown_part}
use Rattle.std.proofs.Common.{◌≡◌, ◌≢◌, ℕ, zero, suc, ◌+◌, ◌<◌, ◌≤◌, min, List, [], ◌∷◌, ◌++◌, length, take, drop, map, filter, flat_map, Bool, true, false, not, Some, None, refl, sym, ap, ◌∙◌, add-one, append_assoc, inl, inr, arith, eqb-true, eq-eqb, slice_index_or, slice_get, cond}
use Rattle.std.specs.Prelude.{nat_eq, nat_lt, if◌then◌else◌}
use Rattle.std.specs.Option.{option_map}
use Rattle.std.proofs.lemmas.Bool.{cases_lt, ltb-true, lt-ltb}
use Rattle.std.proofs.lemmas.List.{map-append}
use Rattle.std.proofs.lemmas.Option.{slice_get-map}
use Rattle.tf_flow.specs.declared.atoms.Arg.{Arg}
use Rattle.tf_flow.specs.Tree.{is_among}
use Rattle.tf_flow.specs.Rules.{bind_symbols}
use Rattle.tf_numbers.specs.Numbers.{which_below, has_number, Pair}
use Rattle.tf_links.specs.Graphs.{reached, shortest_cycle}
use Rattle.tf_flow.specs.Outline.{Part, injected_in, arguments_of}
use Rattle.tf_flow.specs.declared.paths.Turn.{Turn}
use Rattle.tf_model.specs.Before.{Flow, path_at, passes_item, arg_symbol, is_unserved, is_inside, needs_of_atom, needs, givers, item_name}
use Rattle.tf_model.proofs.Told.{item_name_in}
use Rattle.tf_model.specs.Plan.{ambiguous, cycle, name_less, least, are_several, is_ambiguous, refuse_givers, refuse_symbol, ambiguity_at, is_back, cycle_through, first_cycle}
use Rattle.tf_flow.specs.declared.listing.AtomPlace.{AtomPlace}
use Rattle.tf_flow.specs.declared.listing.ItemPlace.{ItemPlace}
use Rattle.tf_order.specs.declared.context.Context.{Context}
use Rattle.tf_order.specs.Arranged.{ShowsFlows}
use Rattle.tf_order.specs.Ambiguities.{ambiguous_of, ambiguities_by, ambiguities_inside, ambiguities_below}
use Rattle.tf_flow.specs.Listing.{shown_item}
use Rattle.tf_order.specs.Context.{atoms_seen, place_seen, count_seen, needed_by, needed_at, needed_below}
use Rattle.tf_links.specs.Links.{leads, LinksValue, AreLinks, AreReached}
use Rattle.tf_numbers.proofs.TruthLemmas.{never_true}
use Rattle.tf_numbers.proofs.BelowLemmas.{first_is, first_none}
use Rattle.tf_links.proofs.BitLemmas.{index_zero}
use Rattle.tf_numbers.proofs.EquationLemmas.{ap2}
use Rattle.tf_links.proofs.StandingLemmas.{listed_within, taking_next}
use Rattle.tf_order.proofs.ContextLemmas.{length_seen}
use Rattle.tf_order.proofs.LinkingLemmas.{needed_append, take_next, take_none, part_seen, one_needed}
use Rattle.tf_order.proofs.TurnLemmas.{flat_append}
use Rattle.tf_numbers.proofs.ListLemmas.{take_whole, filter_append, nothing_after}

-- ---- one argument

nothing_more : (symbols more : List (List ℕ)) → more ≡ [] → symbols ≡ symbols ++ more
nothing_more symbols more none = sym (nothing_after symbols) ∙ ap (λ (xs : List (List ℕ)). symbols ++ xs) (sym none)

pub argument_bound : (context : Context) (inner : List Flow) (item atom : ℕ) (part : Part) (arg : Arg) (symbols : List (List ℕ)) → is_among (bind_symbols (injected_in part)) arg.symbol ≡ true → symbols ≡ symbols ++ ambiguities_by context inner item atom part (arg ∷ [])
argument_bound context inner item atom part arg symbols bound = nothing_more symbols (ambiguities_by context inner item atom part (arg ∷ []))
    (ap (λ (b : Bool). ambiguous_of context item (filter (is_unserved (atoms_seen context) inner (place_seen context).number item atom) (map arg_symbol (cond (not b) (arg ∷ []) [])))) bound)

pub argument_served : (context : Context) (inner : List Flow) (item atom : ℕ) (part : Part) (arg : Arg) (symbols : List (List ℕ)) → is_among (bind_symbols (injected_in part)) arg.symbol ≡ false
    → false ≡ is_unserved (atoms_seen context) inner (place_seen context).number item atom arg.symbol → symbols ≡ symbols ++ ambiguities_by context inner item atom part (arg ∷ [])
argument_served context inner item atom part arg symbols free served = nothing_more symbols (ambiguities_by context inner item atom part (arg ∷ []))
    (ap (ambiguous_of context item) (one_needed context inner item atom part arg free) ∙ ap (λ (b : Bool). ambiguous_of context item (cond b (arg.symbol ∷ []) [])) (sym served))

one_ambiguity : (context : Context) (inner : List Flow) (item atom : ℕ) (part : Part) (arg : Arg) → is_among (bind_symbols (injected_in part)) arg.symbol ≡ false
    → true ≡ is_unserved (atoms_seen context) inner (place_seen context).number item atom arg.symbol → ambiguities_by context inner item atom part (arg ∷ []) ≡ ambiguous_of context item (arg.symbol ∷ [])
one_ambiguity context inner item atom part arg free needed = ap (ambiguous_of context item) (one_needed context inner item atom part arg free ∙ ap (λ (b : Bool). cond b (arg.symbol ∷ []) []) (sym needed))

few : (xs : List ℕ) → length xs < 2 → are_several xs ≡ false
few [] less = refl
few (x ∷ []) less = refl
few (x ∷ y ∷ ys) less = absurd (omega arith)

many : (xs : List ℕ) → 2 ≤ length xs → are_several xs ≡ true
many [] more = absurd (omega arith)
many (x ∷ []) more = absurd (omega arith)
many (x ∷ y ∷ ys) more = refl

pub argument_clear : (context : Context) (inner : List Flow) (item atom : ℕ) (part : Part) (arg : Arg) (symbols : List (List ℕ)) (found : List ℕ) → is_among (bind_symbols (injected_in part)) arg.symbol ≡ false
    → true ≡ is_unserved (atoms_seen context) inner (place_seen context).number item atom arg.symbol → found ≡ givers (atoms_seen context) (place_seen context) item arg.symbol → length found < 2 → symbols ≡ symbols ++ ambiguities_by context inner item atom part (arg ∷ [])
argument_clear context inner item atom part arg symbols found free needed is less = nothing_more symbols (ambiguities_by context inner item atom part (arg ∷ []))
    (one_ambiguity context inner item atom part arg free needed ∙ ap (λ (b : Bool). cond b (arg.symbol ∷ []) []) (ap are_several (sym is) ∙ few found less))

pub argument_ambiguous : (context : Context) (inner : List Flow) (item atom : ℕ) (part : Part) (arg : Arg) (symbols : List (List ℕ)) (found : List ℕ) → is_among (bind_symbols (injected_in part)) arg.symbol ≡ false
    → true ≡ is_unserved (atoms_seen context) inner (place_seen context).number item atom arg.symbol → found ≡ givers (atoms_seen context) (place_seen context) item arg.symbol → 2 ≤ length found → symbols ++ arg.symbol ∷ [] ≡ symbols ++ ambiguities_by context inner item atom part (arg ∷ [])
argument_ambiguous context inner item atom part arg symbols found free needed is more = ap (λ (xs : List (List ℕ)). symbols ++ xs)
    (sym (one_ambiguity context inner item atom part arg free needed ∙ ap (λ (b : Bool). cond b (arg.symbol ∷ []) []) (ap are_several (sym is) ∙ many found more)))

-- ---- the arguments of an atom

abbrev pub AmbiguitiesSeen : Context → ℕ → ℕ → Part → List (List ℕ) → List (List ℕ) → List Arg → Type 0
AmbiguitiesSeen context item atom part old symbols args = (inner : List Flow) → ShowsFlows context.table.now inner → symbols ≡ old ++ ambiguities_by context inner item atom part args

pub part_start : (context : Context) (item atom : ℕ) (part : Part) (symbols : List (List ℕ)) (args : List Arg) → AmbiguitiesSeen context item atom part symbols symbols (take 0 args)
part_start context item atom part symbols args inner shows = nothing_more symbols (ambiguities_by context inner item atom part (take 0 args)) (ap (ambiguities_by context inner item atom part) (take_none args))

pub part_more : (context : Context) (item atom : ℕ) (part : Part) (old symbols new : List (List ℕ)) (args : List Arg) (i : ℕ) (arg : Arg) → AmbiguitiesSeen context item atom part old symbols (take i args) → i < length args → arg ≡ slice_index_or args i arg
    → AmbiguitiesSeen context item atom part symbols new (arg ∷ []) → AmbiguitiesSeen context item atom part old new (take (i + 1) args)
part_more context item atom part old symbols new args i arg before within is one inner shows = one inner shows
    ∙ (ap (λ (xs : List (List ℕ)). xs ++ ambiguities_by context inner item atom part (arg ∷ [])) (before inner shows)
    ∙ (append_assoc old (ambiguities_by context inner item atom part (take i args)) (ambiguities_by context inner item atom part (arg ∷ []))
    ∙ ap (λ (xs : List (List ℕ)). old ++ xs)
    (sym (ap (ambiguities_by context inner item atom part) (ap (λ (n : ℕ). take n args) (add-one i) ∙ take_next args i arg within is)
    ∙ (ap (ambiguous_of context item) (needed_append context inner item atom part (take i args) (arg ∷ []))
    ∙ filter_append (is_ambiguous (atoms_seen context) (place_seen context) item) (needed_by context inner item atom part (take i args)) (needed_by context inner item atom part (arg ∷ [])))))))

pub part_all : (context : Context) (item atom : ℕ) (part : Part) (old symbols : List (List ℕ)) (args : List Arg) (i : ℕ) → AmbiguitiesSeen context item atom part old symbols (take i args) → length args ≤ i → args ≡ arguments_of part → AmbiguitiesSeen context item atom part old symbols (arguments_of part)
part_all context item atom part old symbols args i is whole are inner shows = is inner shows ∙ ap (λ (xs : List Arg). old ++ ambiguities_by context inner item atom part xs) (take_whole args i whole ∙ are)

-- ---- one atom

pub atom_outside : (context : Context) (inner : List Flow) (item atom : ℕ) (place : AtomPlace) (symbols : List (List ℕ)) (path : List Turn) → path ≡ path_at (atoms_seen context) atom → passes_item (place_seen context).number (Some item) path ≡ false → symbols ≡ symbols ++ ambiguities_inside context inner item atom
atom_outside context inner item atom place symbols path is off = nothing_more symbols (ambiguities_inside context inner item atom)
    (ap (λ (b : Bool). if b then ambiguous_of context item (needed_at context inner atom item) else []) (ap (passes_item (place_seen context).number (Some item)) (sym is) ∙ off))

pub atom_inside : (context : Context) (item atom : ℕ) (place : AtomPlace) (old symbols : List (List ℕ)) (path : List Turn) → path ≡ path_at (atoms_seen context) atom → passes_item (place_seen context).number (Some item) path ≡ true → atom < length context.atoms.now → place ≡ slice_index_or context.atoms.now atom place
    → AmbiguitiesSeen context item atom (shown_part place.part) old symbols (arguments_of (shown_part place.part)) → (inner : List Flow) → ShowsFlows context.table.now inner → symbols ≡ old ++ ambiguities_inside context inner item atom
atom_inside context item atom place old symbols path is on within read seen inner shows = seen inner shows
    ∙ ap (λ (xs : List (List ℕ)). old ++ xs)
    (ap (λ (xs : List (List ℕ)). ambiguous_of context item (filter (is_unserved (atoms_seen context) inner (place_seen context).number item atom) xs)) (sym (part_seen context.atoms.now atom place within read))
    ∙ sym (ap (λ (b : Bool). if b then ambiguous_of context item (needed_at context inner atom item) else []) (ap (passes_item (place_seen context).number (Some item)) (sym is) ∙ on)))

-- ---- all atoms

abbrev pub AmbiguitiesBelow : Context → ℕ → List (List ℕ) → ℕ → Type 0
AmbiguitiesBelow context item symbols n = (inner : List Flow) → ShowsFlows context.table.now inner → symbols ≡ ambiguities_below context inner item n

pub all_start : (context : Context) (item : ℕ) (symbols : List (List ℕ)) → symbols ≡ [] → AmbiguitiesBelow context item symbols 0
all_start context item symbols none inner shows = none

pub all_more : (context : Context) (item : ℕ) (symbols new : List (List ℕ)) (atom : ℕ) → AmbiguitiesBelow context item symbols atom → ((inner : List Flow) → ShowsFlows context.table.now inner → new ≡ symbols ++ ambiguities_inside context inner item atom) → AmbiguitiesBelow context item new (atom + 1)
all_more context item symbols new atom before more inner shows = more inner shows
    ∙ (ap (λ (xs : List (List ℕ)). xs ++ ambiguities_inside context inner item atom) (before inner shows)
    ∙ sym (ap (λ (n : ℕ). ambiguities_below context inner item n) (add-one atom)
    ∙ (ap (ambiguous_of context item) (flat_append (needs_of_atom (atoms_seen context) inner (place_seen context).number item) (which_below atom (is_inside (atoms_seen context) (place_seen context).number item)) (if is_inside (atoms_seen context) (place_seen context).number item atom then atom ∷ [] else []))
    ∙ (filter_append (is_ambiguous (atoms_seen context) (place_seen context) item) (needed_below context inner atom item) (flat_map (needs_of_atom (atoms_seen context) inner (place_seen context).number item) (if is_inside (atoms_seen context) (place_seen context).number item atom then atom ∷ [] else []))
    ∙ ap (λ (xs : List (List ℕ)). ambiguities_below context inner item atom ++ xs) (last (is_inside (atoms_seen context) (place_seen context).number item atom))))))
  where
    last : (b : Bool) → ambiguous_of context item (flat_map (needs_of_atom (atoms_seen context) inner (place_seen context).number item) (if b then atom ∷ [] else [])) ≡ (if b then ambiguous_of context item (needed_at context inner atom item) else [])
    last true = ap (ambiguous_of context item) (nothing_after (needs_of_atom (atoms_seen context) inner (place_seen context).number item atom))
    last false = refl

pub all_done : (context : Context) (item : ℕ) (symbols : List (List ℕ)) (n : ℕ) → AmbiguitiesBelow context item symbols n → n ≡ length context.atoms.now → (inner : List Flow) → ShowsFlows context.table.now inner
    → symbols ≡ filter (is_ambiguous (atoms_seen context) (place_seen context) item) (needs (atoms_seen context) inner (place_seen context).number item)
all_done context item symbols n is whole inner shows = is inner shows ∙ ap (λ (k : ℕ). ambiguities_below context inner item k) (whole ∙ sym (length_seen context.atoms.now))

-- ---- the refusal

pub no_symbol : (context : Context) (inner : List Flow) (item : ℕ) (symbols : List (List ℕ)) → symbols ≡ filter (is_ambiguous (atoms_seen context) (place_seen context) item) (needs (atoms_seen context) inner (place_seen context).number item) → least symbols ≡ None
    → None ≡ ambiguity_at (atoms_seen context) inner (place_seen context) item
no_symbol context inner item symbols is none = sym (ap (refuse_symbol (atoms_seen context) (place_seen context) item) (ap least (sym is) ∙ none))

pub too_few : (context : Context) (inner : List Flow) (item : ℕ) (symbols : List (List ℕ)) (symbol : List ℕ) (found : List ℕ) → symbols ≡ filter (is_ambiguous (atoms_seen context) (place_seen context) item) (needs (atoms_seen context) inner (place_seen context).number item) → least symbols ≡ Some symbol
    → found ≡ givers (atoms_seen context) (place_seen context) item symbol → length found < 2 → None ≡ ambiguity_at (atoms_seen context) inner (place_seen context) item
too_few context inner item symbols symbol found is some are less = sym (ap (refuse_symbol (atoms_seen context) (place_seen context) item) (ap least (sym is) ∙ some) ∙ (ap (refuse_givers (place_seen context) symbol) (sym are) ∙ none found less))
  where
    none : (xs : List ℕ) → length xs < 2 → refuse_givers (place_seen context) symbol xs ≡ None
    none [] less = refl
    none (x ∷ []) less = refl
    none (x ∷ y ∷ ys) less = absurd (omega arith)

-- the name of an item by its number
pub name_seen : (context : Context) (u : ℕ) (item : ItemPlace) → u < count_seen context → item ≡ slice_index_or context.level.now.items.items u item → item.name ≡ item_name (place_seen context) u
name_seen context u item within read = sym (ap item_name_in (slice_get-map shown_item context.level.now.items.items u ∙ ap (option_map shown_item) (there context.level.now.items.items u item within read)))
  where
    there : (xs : List ItemPlace) (k : ℕ) (x : ItemPlace) → k < length xs → x ≡ slice_index_or xs k x → slice_get xs k ≡ Some x
    there [] k x within is = absurd (omega arith)
    there (y ∷ ys) zero x within is = ap Some (sym is)
    there (y ∷ ys) (suc k) x within is = there ys k x (omega arith) is

pub two_givers : (context : Context) (inner : List Flow) (item : ℕ) (symbols : List (List ℕ)) (symbol first second : List ℕ) (found : List ℕ) → symbols ≡ filter (is_ambiguous (atoms_seen context) (place_seen context) item) (needs (atoms_seen context) inner (place_seen context).number item) → least symbols ≡ Some symbol
    → found ≡ givers (atoms_seen context) (place_seen context) item symbol → 2 ≤ length found → first ≡ item_name (place_seen context) (slice_index_or found 0 0) → second ≡ item_name (place_seen context) (slice_index_or found 1 0)
    → Some (ambiguous symbol first second) ≡ ambiguity_at (atoms_seen context) inner (place_seen context) item
two_givers context inner item symbols symbol first second found is some are more one other =
    sym (ap (refuse_symbol (atoms_seen context) (place_seen context) item) (ap least (sym is) ∙ some) ∙ (ap (refuse_givers (place_seen context) symbol) (sym are) ∙ two found more one other))
  where
    two : (xs : List ℕ) → 2 ≤ length xs → first ≡ item_name (place_seen context) (slice_index_or xs 0 0) → second ≡ item_name (place_seen context) (slice_index_or xs 1 0) → refuse_givers (place_seen context) symbol xs ≡ Some (ambiguous symbol first second)
    two [] more one other = absurd (omega arith)
    two (x ∷ []) more one other = absurd (omega arith)
    two (x ∷ y ∷ ys) more one other = ap2 (λ (a b : List ℕ). Some (ambiguous symbol a b)) (sym one) (sym other)

pub two_named : (context : Context) (inner : List Flow) (item : ℕ) (symbols : List (List ℕ)) (symbol first second : List ℕ) (found : List ℕ) (x y : ℕ) → symbols ≡ filter (is_ambiguous (atoms_seen context) (place_seen context) item) (needs (atoms_seen context) inner (place_seen context).number item) → least symbols ≡ Some symbol
    → found ≡ givers (atoms_seen context) (place_seen context) item symbol → 2 ≤ length found → x ≡ slice_index_or found 0 x → y ≡ slice_index_or found 1 y → first ≡ item_name (place_seen context) x → second ≡ item_name (place_seen context) y
    → Some (ambiguous symbol first second) ≡ ambiguity_at (atoms_seen context) inner (place_seen context) item
two_named context inner item symbols symbol first second found x y is some are more x_is y_is one other = two_givers context inner item symbols symbol first second found is some are more
    (one ∙ ap (item_name (place_seen context)) (index_zero found 0 x (omega (arith, more)) x_is)) (other ∙ ap (item_name (place_seen context)) (index_zero found 1 y (omega (arith, more)) y_is))

pub number_read : (count : ℕ) (xs : List ℕ) (i x : ℕ) → ((k : ℕ) → has_number xs k ≡ true → k < count) → i < length xs → x ≡ slice_index_or xs i x → x < count
number_read count xs i x within below is =
    let zero : x ≡ slice_index_or xs i 0 = index_zero xs i x below is in
    let less : slice_index_or xs i 0 < count = within (slice_index_or xs i 0) (listed_within xs i below) in omega (arith, zero, less)

-- ---- byte order

pub less_apart : (a b : List ℕ) (i x y : ℕ) → i < length a → i < length b → x ≡ slice_index_or a i x → y ≡ slice_index_or b i y → x ≢ y → name_less (drop i a) (drop i b) ≡ nat_lt x y
less_apart [] b i x y a_in b_in x_is y_is differ = absurd (omega arith)
less_apart (p ∷ ps) [] i x y a_in b_in x_is y_is differ = absurd (omega arith)
less_apart (p ∷ ps) (q ∷ qs) zero x y a_in b_in x_is y_is differ =
    ap (λ (c : Bool). if c then name_less ps qs else nat_lt p q) (never_true (nat_eq p q) (λ same. differ (x_is ∙ (eqb-true p q same ∙ sym y_is)))) ∙ ap2 nat_lt (sym x_is) (sym y_is)
less_apart (p ∷ ps) (q ∷ qs) (suc i) x y a_in b_in x_is y_is differ = less_apart ps qs i x y (omega arith) (omega arith) x_is y_is differ

less_next : (a b : List ℕ) (i x y : ℕ) → i < length a → i < length b → x ≡ slice_index_or a i x → y ≡ slice_index_or b i y → x ≡ y → name_less (drop (suc i) a) (drop (suc i) b) ≡ name_less (drop i a) (drop i b)
less_next [] b i x y a_in b_in x_is y_is same = absurd (omega arith)
less_next (p ∷ ps) [] i x y a_in b_in x_is y_is same = absurd (omega arith)
less_next (p ∷ ps) (q ∷ qs) zero x y a_in b_in x_is y_is same = ap2 name_less (drop_none ps) (drop_none qs) ∙ sym (ap (λ (c : Bool). if c then name_less ps qs else nat_lt p q) (eq-eqb p q (sym x_is ∙ (same ∙ y_is))))
  where
    drop_none : (xs : List ℕ) → drop 0 xs ≡ xs
    drop_none [] = refl
    drop_none (z ∷ zs) = refl
less_next (p ∷ ps) (q ∷ qs) (suc i) x y a_in b_in x_is y_is same = less_next ps qs i x y (omega arith) (omega arith) x_is y_is same

pub less_same : (a b : List ℕ) (i x y : ℕ) → i < length a → i < length b → x ≡ slice_index_or a i x → y ≡ slice_index_or b i y → x ≡ y → name_less (drop (i + 1) a) (drop (i + 1) b) ≡ name_less (drop i a) (drop i b)
less_same a b i x y a_in b_in x_is y_is same = ap2 name_less (ap (λ (n : ℕ). drop n a) (add-one i)) (ap (λ (n : ℕ). drop n b) (add-one i)) ∙ less_next a b i x y a_in b_in x_is y_is same

drop_all : (xs : List ℕ) (i : ℕ) → length xs ≤ i → drop i xs ≡ []
drop_all [] zero past = refl
drop_all [] (suc i) past = refl
drop_all (x ∷ xs) zero past = absurd (omega arith)
drop_all (x ∷ xs) (suc i) past = drop_all xs i (omega arith)

drop_some : (xs : List ℕ) (i : ℕ) → i < length xs → (y : ℕ) × (ys : List ℕ) × (drop i xs ≡ y ∷ ys)
drop_some [] i below = absurd (omega arith)
drop_some (x ∷ xs) zero below = (x, xs, refl)
drop_some (x ∷ xs) (suc i) below = drop_some xs i (omega arith)

less_none : (xs : List ℕ) → name_less xs [] ≡ false
less_none [] = refl
less_none (x ∷ xs) = refl

pub less_over : (a b : List ℕ) (i : ℕ) → min (length a) (length b) ≤ i → i ≤ length a → i ≤ length b → nat_lt (length a) (length b) ≡ name_less (drop i a) (drop i b)
less_over a b i whole a_in b_in = elim (cases_lt (length a) (length b)) [
  | inl shorter ↦ let rest = drop_some b i (omega (arith, whole, a_in, shorter)) in
      lt-ltb (length a) (length b) shorter ∙ sym (ap2 name_less (drop_all a i (omega (arith, whole, shorter))) rest.2)
  | inr longer ↦ never_true (nat_lt (length a) (length b)) (λ less. let below : length a < length b = ltb-true (length a) (length b) less in omega (arith, below, longer))
      ∙ sym (ap (name_less (drop i a)) (drop_all b i (omega (arith, whole, longer))) ∙ less_none (drop i a))
]

-- ---- the cycle of a flow

pub names_more : (f : ℕ → List ℕ) (items : List ℕ) (names : List (List ℕ)) (i : ℕ) (name : List ℕ) → names ≡ map f (take i items) → i < length items → name ≡ f (slice_index_or items i 0) → names ++ name ∷ [] ≡ map f (take (i + 1) items)
names_more f items names i name before within is =
    ap2 (λ (xs : List (List ℕ)) (x : List ℕ). xs ++ x ∷ []) before is
    ∙ sym (ap (map f) (ap (λ (n : ℕ). take n items) (add-one i) ∙ taking_next items i within) ∙ map-append f (take i items) (slice_index_or items i 0 ∷ []))

pub cycle_found : (context : Context) (links : LinksValue) (reach : List (List ℕ)) (item : ℕ) (items : List ℕ) (names : List (List ℕ)) → links.count ≡ count_seen context → item < links.count → leads reach item item ≡ true → ((k : ℕ) → k < item → leads reach k k ≡ false)
    → ((pairs : List Pair) → AreLinks links pairs → items ≡ shortest_cycle links.count pairs item) → names ≡ map (item_name (place_seen context)) items
    → (pairs : List Pair) → AreLinks links pairs → AreReached (count_seen context) (reached (count_seen context) pairs) reach → Some (cycle names) ≡ first_cycle (place_seen context) (count_seen context) pairs
cycle_found context links reach item items names count below on before shortest named pairs are reached_is =
    ap (λ (ns : List (List ℕ)). Some (cycle ns)) (named ∙ ap (map (item_name (place_seen context))) (shortest pairs are ∙ ap (λ (n : ℕ). shortest_cycle n pairs item) count))
    ∙ sym (ap (option_map (cycle_through (place_seen context) (count_seen context) pairs)) (first_is (count_seen context) (is_back (count_seen context) pairs) item (omega (arith, below, count)) (sym (reached_is.same item item) ∙ on) (λ j less. sym (reached_is.same j j) ∙ before j less)))

pub no_cycle : (context : Context) (links : LinksValue) (reach : List (List ℕ)) (item : ℕ) → links.count ≡ count_seen context → links.count ≤ item → ((k : ℕ) → k < item → leads reach k k ≡ false)
    → (pairs : List Pair) → AreLinks links pairs → AreReached (count_seen context) (reached (count_seen context) pairs) reach → None ≡ first_cycle (place_seen context) (count_seen context) pairs
no_cycle context links reach item count whole before pairs are reached_is =
    sym (ap (option_map (cycle_through (place_seen context) (count_seen context) pairs)) (first_none (count_seen context) (is_back (count_seen context) pairs) (λ j less. sym (reached_is.same j j) ∙ before j (omega (arith, less, count, whole)))))

pub none_back_more : (reach : List (List ℕ)) (item : ℕ) → ((k : ℕ) → k < item → leads reach k k ≡ false) → leads reach item item ≡ false → (k : ℕ) → k < item + 1 → leads reach k k ≡ false
none_back_more reach item before off k less = elim (cases_lt k item) [
  | inl earlier ↦ before k earlier
  | inr from ↦ let same : k ≡ item = omega (arith, from, less) in ap (λ (n : ℕ). leads reach n n) same ∙ off
]
