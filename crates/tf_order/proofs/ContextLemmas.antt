-- What is looked at of a flow, against the definitions.
use Rattle.std.proofs.Common.{◌≡◌, ◌≢◌, ℕ, zero, suc, ◌+◌, ◌<◌, ◌≤◌, List, [], ◌∷◌, ◌++◌, length, take, filter, Bool, true, false, ◌&&◌, ◌||◌, not, Option, Some, None, refl, sym, ap, ◌∙◌, add-one, inl, inr, arith, eqb-true, eq-eqb, slice_index_or, cond}
use Rattle.std.specs.Prelude.{nat_eq, nat_lt, if◌then◌else◌}
use Rattle.std.specs.List.{list_any}
use Rattle.std.proofs.lemmas.Bool.{ltb-true, lt-ltb}
use Rattle.std.proofs.lemmas.List.{length-map}
use Rattle.tf_flow.specs.declared.atoms.Bind.{Bind}
use Rattle.tf_flow.specs.Tree.{same_name, is_among}
use Rattle.tf_flow.specs.Rules.{bind_symbols}
use Rattle.tf_numbers.specs.Numbers.{any_below, which_below, has_number, has_pair}
use Rattle.tf_links.specs.Graphs.{reached}
use Rattle.tf_flow.specs.declared.paths.Turn.{Turn}
use Rattle.tf_model.specs.Before.{Flow, takes_item, same_place, passes_item, path_before, path_at, provides_at, is_inside, serves_inside, is_unserved, gives_inside, item_provides, retry_provides, explicit, reaches_with, is_served, other_provides, givers}
use Rattle.tf_numbers.proofs.TruthLemmas.{and_first, and_second, or_either, true_first, true_second, true_both, same_truth, never_true, or_chain, or_false, and_true, and_false, second_false, or_nothing, neither, neither_second, neither_first, or_spread, and_spread}
use Rattle.tf_numbers.proofs.PairLemmas.{which_passes, passes_which}
use Rattle.tf_flow.specs.declared.listing.AtomPlace.{AtomPlace}
use Rattle.tf_order.specs.declared.context.Context.{Context}
use Rattle.tf_order.specs.Arranged.{ShowsFlows}
use Rattle.tf_links.specs.Bits.{has, room, words_for}
use Rattle.tf_order.specs.Index.{told}
use Rattle.tf_order.specs.Marks.{marks_turn, marks, serves_in, leads_to_item, is_other}
use Rattle.tf_flow.specs.Listing.{shown_atoms, shown_item}
use Rattle.tf_order.specs.Context.{atoms_seen, place_seen, count_seen, HasProviders, HasReach}
use Rattle.tf_numbers.proofs.BelowLemmas.{any_at, any_of, which_same, which_more}
use Rattle.tf_numbers.proofs.EquationLemmas.{ap2}
use Rattle.tf_links.proofs.StandingLemmas.{listed_within, taking_next, taking_none, taking_all}

-- ---- an atom by its number

pub path_seen : (atoms : List AtomPlace) (k : ℕ) (atom : AtomPlace) → k < length atoms → atom ≡ slice_index_or atoms k atom → path_at (shown_atoms atoms) k ≡ atom.path
path_seen [] k atom within is = absurd (omega arith)
path_seen (x ∷ xs) zero atom within is = ap (λ (a : AtomPlace). a.path) (sym is)
path_seen (x ∷ xs) (suc k) atom within is = path_seen xs k atom (omega arith) is

pub provider_within : (context : Context) (symbol : List ℕ) (xs : List ℕ) (i : ℕ) → HasProviders context → xs ≡ told context.providers.now symbol → i < length xs → slice_index_or xs i 0 < length context.atoms.now
provider_within context symbol xs i providers is within =
    let found = which_passes (length context.atoms.now) (provides_at (atoms_seen context) symbol) (nat_eq (slice_index_or xs i 0))
    (ap (λ (ys : List ℕ). has_number ys (slice_index_or xs i 0)) (sym (is ∙ providers symbol)) ∙ listed_within xs i within) in
    let same : slice_index_or xs i 0 ≡ found.number = eqb-true (slice_index_or xs i 0) found.number found.passes in
    omega (arith, same, found.below)

-- ---- tests of those that pass

-- one passes that does another test too
pub any_which : (n : ℕ) (p q r : ℕ → Bool) → ((b : ℕ) → r b ≡ (p b && q b)) → any_below n r ≡ list_any p (which_below n q)
any_which n p q r each = same_truth (any_below n r) (list_any p (which_below n q))
    (λ is. let found = any_at n r is in let both = sym (each found.number) ∙ found.passes in passes_which n q p found.number found.below (and_second (p found.number) (q found.number) both) (and_first (p found.number) (q found.number) both))
    (λ is. let found = which_passes n q p is in any_of n r found.number found.below (each found.number ∙ true_both (p found.number) (q found.number) found.passes found.tested))

filter_one : (p : ℕ → Bool) (n : ℕ) (q : Bool) → filter p (if q then n ∷ [] else []) ≡ (if p n && q then n ∷ [] else [])
filter_one p n false = by_test (p n)
  where
    by_test : (b : Bool) → [] ≡ (if b && false then n ∷ [] else [])
    by_test true = refl
    by_test false = refl
filter_one p n true = by_test (p n)
  where
    by_test : (b : Bool) → cond b (n ∷ []) [] ≡ (if b && true then n ∷ [] else [])
    by_test true = refl
    by_test false = refl

filter_both : (p : ℕ → Bool) (xs ys : List ℕ) → filter p (xs ++ ys) ≡ filter p xs ++ filter p ys
filter_both p [] ys = refl
filter_both p (x ∷ xs) ys = by_test (p x) (filter_both p xs ys)
  where
    by_test : (b : Bool) → filter p (xs ++ ys) ≡ filter p xs ++ filter p ys → cond b (x ∷ filter p (xs ++ ys)) (filter p (xs ++ ys)) ≡ cond b (x ∷ filter p xs) (filter p xs) ++ filter p ys
    by_test true rest = ap (λ (zs : List ℕ). x ∷ zs) rest
    by_test false rest = rest

-- those that pass both
pub filter_which : (n : ℕ) (p q r : ℕ → Bool) → ((b : ℕ) → r b ≡ (p b && q b)) → filter p (which_below n q) ≡ which_below n r
filter_which zero p q r each = refl
filter_which (suc n) p q r each = filter_both p (which_below n q) (if q n then n ∷ [] else [])
    ∙ ap2 (λ (xs ys : List ℕ). xs ++ ys) (filter_which n p q r each) (filter_one p n (q n) ∙ ap (λ (b : Bool). if b then n ∷ [] else []) (sym (each n)))

any_more : (p : ℕ → Bool) (xs : List ℕ) (x : ℕ) → list_any p (xs ++ x ∷ []) ≡ (list_any p xs || p x)
any_more p [] x = or_false (p x)
any_more p (y ∷ ys) x = ap (λ (b : Bool). p y || b) (any_more p ys x) ∙ or_chain (p y) (list_any p ys) (p x)

any_next : (p : ℕ → Bool) (xs : List ℕ) (i : ℕ) → i < length xs → list_any p (take (i + 1) xs) ≡ (list_any p (take i xs) || p (slice_index_or xs i 0))
any_next p xs i within = ap (list_any p) (ap (λ (n : ℕ). take n xs) (add-one i) ∙ taking_next xs i within) ∙ any_more p (take i xs) (slice_index_or xs i 0)

any_there : (p : ℕ → Bool) (xs : List ℕ) (i : ℕ) → i < length xs → p (slice_index_or xs i 0) ≡ true → list_any p xs ≡ true
any_there p [] i within is = absurd (omega arith)
any_there p (x ∷ xs) zero within is = true_first (p x) (list_any p xs) is
any_there p (x ∷ xs) (suc i) within is = true_second (p x) (list_any p xs) (any_there p xs i (omega arith) is)

-- ---- an atom that is served

-- of the first i none serves
abbrev pub NoneServes : Context → ℕ → ℕ → List ℕ → Type 0
NoneServes context item atom seen = (inner : List Flow) → ShowsFlows context.table.now inner → list_any (serves_in (atoms_seen context) inner (place_seen context).number item atom) seen ≡ false

pub unserved_start : (context : Context) (item atom : ℕ) (xs : List ℕ) → NoneServes context item atom (take 0 xs)
unserved_start context item atom xs inner shows = ap (list_any (serves_in (atoms_seen context) inner (place_seen context).number item atom)) (taking_none xs)

pub unserved_more : (context : Context) (item atom : ℕ) (xs : List ℕ) (i : ℕ) → NoneServes context item atom (take i xs) → i < length xs
    → ((inner : List Flow) → ShowsFlows context.table.now inner → false ≡ serves_in (atoms_seen context) inner (place_seen context).number item atom (slice_index_or xs i 0)) → NoneServes context item atom (take (i + 1) xs)
unserved_more context item atom xs i before within off inner shows =
    any_next (serves_in (atoms_seen context) inner (place_seen context).number item atom) xs i within ∙ ap2 (λ (a b : Bool). a || b) (before inner shows) (sym (off inner shows))

served_by : (context : Context) (inner : List Flow) (item atom : ℕ) (symbol : List ℕ) (xs : List ℕ) → HasProviders context → xs ≡ told context.providers.now symbol
    → is_unserved (atoms_seen context) inner (place_seen context).number item atom symbol ≡ not (list_any (serves_in (atoms_seen context) inner (place_seen context).number item atom) xs)
served_by context inner item atom symbol xs providers is =
    ap not (ap (λ (n : ℕ). any_below n (serves_inside (atoms_seen context) inner (place_seen context).number item symbol atom)) (length_shown context.atoms.now)
    ∙ (any_which (length context.atoms.now) (serves_in (atoms_seen context) inner (place_seen context).number item atom) (provides_at (atoms_seen context) symbol) (serves_inside (atoms_seen context) inner (place_seen context).number item symbol atom)
    (λ b. swap (is_inside (atoms_seen context) (place_seen context).number item b) (provides_at (atoms_seen context) symbol b) (path_before inner (path_at (atoms_seen context) b) (path_at (atoms_seen context) atom)))
    ∙ ap (list_any (serves_in (atoms_seen context) inner (place_seen context).number item atom)) (sym (is ∙ providers symbol))))
  where
    swap : (a b c : Bool) → a && (b && c) ≡ (a && c) && b
    swap true true c = sym (and_true c)
    swap true false c = sym (and_false c)
    swap false b c = refl

    length_shown : (atoms : List AtomPlace) → length (shown_atoms atoms) ≡ length atoms
    length_shown [] = refl
    length_shown (x ∷ xs) = ap suc (length_shown xs)

pub unserved_not : (context : Context) (item atom : ℕ) (symbol : List ℕ) (xs : List ℕ) (i : ℕ) → HasProviders context → xs ≡ told context.providers.now symbol → i < length xs
    → ((inner : List Flow) → ShowsFlows context.table.now inner → true ≡ serves_in (atoms_seen context) inner (place_seen context).number item atom (slice_index_or xs i 0)) → (inner : List Flow) → ShowsFlows context.table.now inner
    → false ≡ is_unserved (atoms_seen context) inner (place_seen context).number item atom symbol
unserved_not context item atom symbol xs i providers is within on inner shows =
    sym (served_by context inner item atom symbol xs providers is ∙ ap not (any_there (serves_in (atoms_seen context) inner (place_seen context).number item atom) xs i within (sym (on inner shows))))

pub unserved_all : (context : Context) (item atom : ℕ) (symbol : List ℕ) (xs : List ℕ) (i : ℕ) → HasProviders context → xs ≡ told context.providers.now symbol → NoneServes context item atom (take i xs) → length xs ≤ i
    → (inner : List Flow) → ShowsFlows context.table.now inner → true ≡ is_unserved (atoms_seen context) inner (place_seen context).number item atom symbol
unserved_all context item atom symbol xs i providers is none whole inner shows =
    sym (served_by context inner item atom symbol xs providers is
    ∙ ap not (ap (list_any (serves_in (atoms_seen context) inner (place_seen context).number item atom)) (sym (taking_all xs i whole)) ∙ none inner shows))

-- ---- the items that ways lead through

pub mark_other : (set : List ℕ) (turn : Turn) (flow count : ℕ) → turn.flow ≢ flow → (u : ℕ) → has set u ≡ (has set u || marks_turn flow count turn u)
mark_other set turn flow count differ u = or_nothing (has set u) _ (second_false (nat_lt u count) _ (ap (λ (b : Bool). b && same_place turn.item (Some u)) (never_true (nat_eq turn.flow flow) (λ same. differ (eqb-true turn.flow flow same)))))

pub mark_retry : (set : List ℕ) (turn : Turn) (flow count : ℕ) → turn.item ≡ None → (u : ℕ) → has set u ≡ (has set u || marks_turn flow count turn u)
mark_retry set turn flow count none u = or_nothing (has set u) _ (second_false (nat_lt u count) _ (second_false (nat_eq turn.flow flow) _ (ap (λ (o : Option ℕ). same_place o (Some u)) none)))

pub mark_past : (set : List ℕ) (turn : Turn) (flow count item : ℕ) → turn.item ≡ Some item → count ≤ item → (u : ℕ) → has set u ≡ (has set u || marks_turn flow count turn u)
mark_past set turn flow count item is past u = or_nothing (has set u) _ (by_item (nat_eq item u) refl)
  where
    by_item : (b : Bool) → nat_eq item u ≡ b → marks_turn flow count turn u ≡ false
    by_item true same = ap (λ (b : Bool). b && (nat_eq turn.flow flow && same_place turn.item (Some u))) (never_true (nat_lt u count) (λ less. let below : u < count = ltb-true u count less in let e : item ≡ u = eqb-true item u same in omega (arith, below, e, past)))
    by_item false other = second_false (nat_lt u count) _ (second_false (nat_eq turn.flow flow) _ (ap (λ (o : Option ℕ). same_place o (Some u)) is ∙ other))

pub mark_here : (set new : List ℕ) (turn : Turn) (flow count item : ℕ) → turn.flow ≡ flow → turn.item ≡ Some item → item < count → ((k : ℕ) → has new k ≡ (nat_eq item k || has set k)) → (u : ℕ) → has new u ≡ (has set u || marks_turn flow count turn u)
mark_here set new turn flow count item same is below put u = put u ∙ by_item (nat_eq item u) refl
  where
    or_true : (a : Bool) → true ≡ a || true
    or_true true = refl
    or_true false = refl

    by_item : (b : Bool) → nat_eq item u ≡ b → (b || has set u) ≡ (has set u || marks_turn flow count turn u)
    by_item true e = let equal : item ≡ u = eqb-true item u e in or_true (has set u) ∙ ap (λ (b : Bool). has set u || b)
        (sym (true_both (nat_lt u count) _ (lt-ltb u count (omega (arith, equal, below)))
        (true_both (nat_eq turn.flow flow) (same_place turn.item (Some u)) (eq-eqb turn.flow flow same) (ap (λ (o : Option ℕ). same_place o (Some u)) is ∙ e))))
    by_item false other = or_nothing (has set u) _ (second_false (nat_lt u count) _ (second_false (nat_eq turn.flow flow) _ (ap (λ (o : Option ℕ). same_place o (Some u)) is ∙ other)))

-- the items of the turns so far
pub record MarkedBy (old set : List ℕ) (flow count : ℕ) (turns : List Turn) : Type 0 where
  pub width : length set ≡ words_for count
  pub told : (u : ℕ) → has set u ≡ (has old u || marks flow count turns u)

pub marks_start : (old : List ℕ) (flow count : ℕ) (path : List Turn) → length old ≡ words_for count → MarkedBy old old flow count (take 0 path)
marks_start old flow count path wide = record { width = wide; told = λ u. or_nothing (has old u) _ (second_false (nat_lt u count) _ (none path u)) }
  where
    none : (path : List Turn) (u : ℕ) → passes_item flow (Some u) (take 0 path) ≡ false
    none [] u = refl
    none (x ∷ xs) u = refl

passes_next : (flow u : ℕ) (path : List Turn) (i : ℕ) (turn : Turn) → i < length path → turn ≡ slice_index_or path i turn
    → passes_item flow (Some u) (take (suc i) path) ≡ (passes_item flow (Some u) (take i path) || takes_item flow (Some u) turn)
passes_next flow u [] i turn within is = absurd (omega arith)
passes_next flow u (x ∷ xs) zero turn within is = ap (λ (t : Turn). takes_item flow (Some u) t || passes_item flow (Some u) (take 0 xs)) (sym is) ∙ last (takes_item flow (Some u) turn) xs
  where
    last : (b : Bool) (ys : List Turn) → b || passes_item flow (Some u) (take 0 ys) ≡ b
    last true ys = refl
    last false [] = refl
    last false (y ∷ ys) = refl
passes_next flow u (x ∷ xs) (suc i) turn within is = ap (λ (b : Bool). takes_item flow (Some u) x || b) (passes_next flow u xs i turn (omega arith) is)
    ∙ or_chain (takes_item flow (Some u) x) (passes_item flow (Some u) (take i xs)) (takes_item flow (Some u) turn)

pub marks_more : (old set new : List ℕ) (flow count : ℕ) (path : List Turn) (i : ℕ) (turn : Turn) → MarkedBy old set flow count (take i path) → i < length path → turn ≡ slice_index_or path i turn → length new ≡ words_for count
    → ((u : ℕ) → has new u ≡ (has set u || marks_turn flow count turn u)) → MarkedBy old new flow count (take (i + 1) path)
marks_more old set new flow count path i turn before within is wide put = record {
  width = wide;
  told = λ u. put u ∙ (ap (λ (b : Bool). b || marks_turn flow count turn u) (before.told u)
      ∙ (or_spread (has old u) (nat_lt u count) (passes_item flow (Some u) (take i path)) (takes_item flow (Some u) turn)
      ∙ ap (λ (b : Bool). has old u || (nat_lt u count && b)) (sym (ap (λ (n : ℕ). passes_item flow (Some u) (take n path)) (add-one i) ∙ passes_next flow u path i turn within is))));
}

pub marks_all : (old set : List ℕ) (flow count : ℕ) (path : List Turn) (i : ℕ) → MarkedBy old set flow count (take i path) → length path ≤ i → (u : ℕ) → has set u ≡ (has old u || marks flow count path u)
marks_all old set flow count path i is whole u = is.told u ∙ ap (λ (ts : List Turn). has old u || marks flow count ts u) (whole_taken path i whole)
  where
    whole_taken : (ts : List Turn) (i : ℕ) → length ts ≤ i → take i ts ≡ ts
    whole_taken [] zero past = refl
    whole_taken [] (suc i) past = refl
    whole_taken (t ∷ ts) zero past = absurd (omega arith)
    whole_taken (t ∷ ts) (suc i) past = ap (λ (us : List Turn). t ∷ us) (whole_taken ts i (omega arith))

-- ---- the items that provide

-- a number's atom stands in item u
stands_in : Context → ℕ → ℕ → Bool
stands_in context u b = is_inside (atoms_seen context) (place_seen context).number u b

-- the items of the atoms so far
pub record ItemsOf (context : Context) (set atoms : List ℕ) : Type 0 where
  pub width : length set ≡ words_for (count_seen context)
  pub told : (u : ℕ) → has set u ≡ (nat_lt u (count_seen context) && list_any (is_inside (atoms_seen context) (place_seen context).number u) atoms)

pub marked_start : (context : Context) (set xs : List ℕ) → length set ≡ words_for (count_seen context) → ((u : ℕ) → has set u ≡ false) → ItemsOf context set (take 0 xs)
marked_start context set xs wide none = record { width = wide; told = λ u. none u ∙ sym (second_false (nat_lt u (count_seen context)) _ (ap (list_any (is_inside (atoms_seen context) (place_seen context).number u)) (taking_none xs))) }

pub marked_more : (context : Context) (set new xs : List ℕ) (i : ℕ) (path : List Turn) → ItemsOf context set (take i xs) → i < length xs → path ≡ path_at (atoms_seen context) (slice_index_or xs i 0) → length new ≡ words_for (count_seen context)
    → ((u : ℕ) → has new u ≡ (has set u || marks (place_seen context).number (count_seen context) path u)) → ItemsOf context new (take (i + 1) xs)
marked_more context set new xs i path before within is wide put = record {
  width = wide;
  told = λ u. put u ∙ (ap2 (λ (a b : Bool). a || b) (before.told u) (ap (λ (w : List Turn). marks (place_seen context).number (count_seen context) w u) is)
      ∙ (and_spread (nat_lt u (count_seen context)) (list_any (is_inside (atoms_seen context) (place_seen context).number u) (take i xs)) (is_inside (atoms_seen context) (place_seen context).number u (slice_index_or xs i 0))
      ∙ ap (λ (b : Bool). nat_lt u (count_seen context) && b) (sym (any_next (is_inside (atoms_seen context) (place_seen context).number u) xs i within))));
}

pub length_seen : (atoms : List AtomPlace) → length (shown_atoms atoms) ≡ length atoms
length_seen [] = refl
length_seen (x ∷ xs) = ap suc (length_seen xs)

pub provided_told : (context : Context) (symbol : List ℕ) (xs : List ℕ) (u : ℕ) → HasProviders context → xs ≡ told context.providers.now symbol
    → item_provides (atoms_seen context) (place_seen context).number symbol u ≡ list_any (is_inside (atoms_seen context) (place_seen context).number u) xs
provided_told context symbol xs u providers is =
    ap (λ (n : ℕ). any_below n (gives_inside (atoms_seen context) (place_seen context).number u symbol)) (length_seen context.atoms.now)
    ∙ (any_which (length context.atoms.now) (is_inside (atoms_seen context) (place_seen context).number u) (provides_at (atoms_seen context) symbol) (gives_inside (atoms_seen context) (place_seen context).number u symbol) (λ b. refl)
    ∙ ap (list_any (is_inside (atoms_seen context) (place_seen context).number u)) (sym (is ∙ providers symbol)))

pub marked_all : (context : Context) (symbol : List ℕ) (set xs items : List ℕ) (i : ℕ) → HasProviders context → xs ≡ told context.providers.now symbol → ItemsOf context set (take i xs) → length xs ≤ i → items ≡ which_below (room set) (has set)
    → items ≡ which_below (count_seen context) (item_provides (atoms_seen context) (place_seen context).number symbol)
marked_all context symbol set xs items i providers is marked whole found =
    found ∙ (which_more (count_seen context) (room set) (has set) (omega (arith, marked.width)) (λ k above below. marked.told k ∙ ap (λ (b : Bool). b && list_any (is_inside (atoms_seen context) (place_seen context).number k) (take i xs))
    (never_true (nat_lt k (count_seen context)) (λ less. let inside : k < count_seen context = ltb-true k (count_seen context) less in omega (arith, inside, above))))
    ∙ which_same (count_seen context) (has set) (item_provides (atoms_seen context) (place_seen context).number symbol) (λ k below.
    marked.told k ∙ (ap (λ (b : Bool). b && list_any (is_inside (atoms_seen context) (place_seen context).number k) (take i xs)) (lt-ltb k (count_seen context) below)
    ∙ (ap (list_any (is_inside (atoms_seen context) (place_seen context).number k)) (taking_all xs i whole) ∙ sym (provided_told context symbol xs k providers is)))))

-- ---- the items that give a symbol

pub length_items : (context : Context) → length (place_seen context).items ≡ count_seen context
length_items context = length-map context.level.now.items.items shown_item

pub served_told : (context : Context) (reach : List (List ℕ)) (item : ℕ) (symbol items : List ℕ) → HasReach context reach → items ≡ which_below (count_seen context) (item_provides (atoms_seen context) (place_seen context).number symbol)
    → is_served (atoms_seen context) (place_seen context) item symbol ≡ (retry_provides (place_seen context).control symbol || list_any (leads_to_item reach item) items)
served_told context reach item symbol items reached_is is = ap (λ (b : Bool). retry_provides (place_seen context).control symbol || b)
    (ap (λ (n : ℕ). any_below n (reaches_with (atoms_seen context) (place_seen context) symbol item)) (length_items context)
    ∙ (any_which (count_seen context) (leads_to_item reach item) (item_provides (atoms_seen context) (place_seen context).number symbol) (reaches_with (atoms_seen context) (place_seen context) symbol item)
    (λ w. ap (λ (b : Bool). b && item_provides (atoms_seen context) (place_seen context).number symbol w)
    (ap (λ (n : ℕ). has_pair (reached n (explicit (place_seen context))) w item) (length_items context) ∙ sym (reached_is.same w item)))
    ∙ ap (list_any (leads_to_item reach item)) (sym is)))

by_served : (context : Context) (item : ℕ) (symbol : List ℕ) (found : List ℕ) → found ≡ [] → is_served (atoms_seen context) (place_seen context) item symbol ≡ true → found ≡ givers (atoms_seen context) (place_seen context) item symbol
by_served context item symbol found none served = none ∙ sym (ap (λ (b : Bool). if b then [] else which_below (length (place_seen context).items) (other_provides (atoms_seen context) (place_seen context) item symbol)) served)

pub givers_by_retry : (context : Context) (item : ℕ) (symbol found : List ℕ) → retry_provides context.level.now.flow.now.retry symbol ≡ true → found ≡ [] → found ≡ givers (atoms_seen context) (place_seen context) item symbol
givers_by_retry context item symbol found provides none = by_served context item symbol found none (true_first (retry_provides (place_seen context).control symbol) _ provides)

pub givers_by_reach : (context : Context) (reach : List (List ℕ)) (item : ℕ) (symbol items found : List ℕ) → HasReach context reach → items ≡ which_below (count_seen context) (item_provides (atoms_seen context) (place_seen context).number symbol)
    → list_any (leads_to_item reach item) items ≡ true → found ≡ [] → found ≡ givers (atoms_seen context) (place_seen context) item symbol
givers_by_reach context reach item symbol items found reached_is is on none =
    by_served context item symbol found none (served_told context reach item symbol items reached_is is ∙ true_second (retry_provides (place_seen context).control symbol) _ on)

pub givers_other : (context : Context) (reach : List (List ℕ)) (item : ℕ) (symbol items found : List ℕ) → HasReach context reach → items ≡ which_below (count_seen context) (item_provides (atoms_seen context) (place_seen context).number symbol)
    → retry_provides context.level.now.flow.now.retry symbol ≡ false → list_any (leads_to_item reach item) items ≡ false → found ≡ filter (is_other item) items → found ≡ givers (atoms_seen context) (place_seen context) item symbol
givers_other context reach item symbol items found reached_is is retry off rest =
    rest ∙ (ap (filter (is_other item)) is
    ∙ (filter_which (count_seen context) (is_other item) (item_provides (atoms_seen context) (place_seen context).number symbol) (other_provides (atoms_seen context) (place_seen context) item symbol) (λ b. refl)
    ∙ (ap (λ (n : ℕ). which_below n (other_provides (atoms_seen context) (place_seen context) item symbol)) (sym (length_items context))
    ∙ sym (ap (λ (b : Bool). if b then [] else which_below (length (place_seen context).items) (other_provides (atoms_seen context) (place_seen context) item symbol))
    (served_told context reach item symbol items reached_is is ∙ ap2 (λ (a b : Bool). a || b) retry off)))))

-- ---- symbols that are bound

pub bound_start : (binds : List Bind) (symbol : List ℕ) → is_among (bind_symbols (take 0 binds)) symbol ≡ false
bound_start [] symbol = refl
bound_start (x ∷ xs) symbol = refl

bound_next : (binds : List Bind) (i : ℕ) (bind : Bind) (symbol : List ℕ) → is_among (bind_symbols (take i binds)) symbol ≡ false → i < length binds → bind ≡ slice_index_or binds i bind → same_name symbol bind.symbol ≡ false
    → is_among (bind_symbols (take (suc i) binds)) symbol ≡ false
bound_next [] i bind symbol before within is off = absurd (omega arith)
bound_next (x ∷ xs) zero bind symbol before within is off = neither (same_name symbol x.symbol) _ (ap (λ (b : Bind). same_name symbol b.symbol) (sym is) ∙ off) (bound_start xs symbol)
bound_next (x ∷ xs) (suc i) bind symbol before within is off = neither (same_name symbol x.symbol) _ (neither_first (same_name symbol x.symbol) _ before) (bound_next xs i bind symbol (neither_second (same_name symbol x.symbol) _ before) (omega arith) is off)

pub bound_more : (binds : List Bind) (i : ℕ) (bind : Bind) (symbol : List ℕ) → is_among (bind_symbols (take i binds)) symbol ≡ false → i < length binds → bind ≡ slice_index_or binds i bind → same_name symbol bind.symbol ≡ false
    → is_among (bind_symbols (take (i + 1) binds)) symbol ≡ false
bound_more binds i bind symbol before within is off = ap (λ (n : ℕ). is_among (bind_symbols (take n binds)) symbol) (add-one i) ∙ bound_next binds i bind symbol before within is off

pub bound_here : (binds : List Bind) (i : ℕ) (bind : Bind) (symbol : List ℕ) → i < length binds → bind ≡ slice_index_or binds i bind → same_name symbol bind.symbol ≡ true → true ≡ is_among (bind_symbols binds) symbol
bound_here [] i bind symbol within is on = absurd (omega arith)
bound_here (x ∷ xs) zero bind symbol within is on = sym (true_first (same_name symbol x.symbol) (is_among (bind_symbols xs) symbol) (ap (λ (b : Bind). same_name symbol b.symbol) (sym is) ∙ on))
bound_here (x ∷ xs) (suc i) bind symbol within is on = sym (true_second (same_name symbol x.symbol) (is_among (bind_symbols xs) symbol) (sym (bound_here xs i bind symbol (omega arith) is on)))

pub marked_next : (context : Context) (set new xs : List ℕ) (i : ℕ) (path : List Turn) (count : ℕ) → count ≡ count_seen context → ItemsOf context set (take i xs) → i < length xs → path ≡ path_at (atoms_seen context) (slice_index_or xs i 0) → length new ≡ words_for count
    → ((u : ℕ) → has new u ≡ (has set u || marks (place_seen context).number count path u)) → ItemsOf context new (take (i + 1) xs)
marked_next context set new xs i path count same before within is wide put = marked_more context set new xs i path before within is (wide ∙ ap words_for same)
    (λ u. put u ∙ ap (λ (n : ℕ). has set u || marks (place_seen context).number n path u) same)

-- ---- the items that give a symbol are items of the flow

filtered_there : (p : ℕ → Bool) (xs : List ℕ) (k : ℕ) → has_number (filter p xs) k ≡ true → has_number xs k ≡ true
filtered_there p [] k on = on
filtered_there p (x ∷ xs) k on = by_test (p x) on (filtered_there p xs k)
  where
    by_test : (b : Bool) → has_number (cond b (x ∷ filter p xs) (filter p xs)) k ≡ true → (has_number (filter p xs) k ≡ true → has_number xs k ≡ true) → nat_eq k x || has_number xs k ≡ true
    by_test true on rest = elim (or_either (nat_eq k x) (has_number (filter p xs) k) on) [
      | inl here ↦ true_first (nat_eq k x) (has_number xs k) here
      | inr there ↦ true_second (nat_eq k x) (has_number xs k) (rest there)
    ]
    by_test false on rest = true_second (nat_eq k x) (has_number xs k) (rest on)

pub others_within : (items found : List ℕ) (count item : ℕ) (test : ℕ → Bool) → items ≡ which_below count test → found ≡ filter (is_other item) items → (k : ℕ) → has_number found k ≡ true → k < count
others_within items found count item test is rest k on =
    let there = which_passes count test (nat_eq k) (ap (λ (xs : List ℕ). has_number xs k) (sym is) ∙ filtered_there (is_other item) items k (ap (λ (xs : List ℕ). has_number xs k) (sym rest) ∙ on)) in
    let same : k ≡ there.number = eqb-true k there.number there.passes in omega (arith, same, there.below)
