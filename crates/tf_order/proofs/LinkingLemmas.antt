-- How links and ambiguities grow with the symbols that were looked at.
use Rattle.tf_flow.specs.Paths.{shown_part}
use Rattle.std.proofs.Common.{◌≡◌, ℕ, zero, suc, ◌+◌, ◌<◌, ◌≤◌, List, [], ◌∷◌, ◌++◌, length, take, map, filter, Bool, true, false, ◌&&◌, ◌||◌, not, refl, sym, ap, ◌∙◌, add-one, arith, eqb-true, eq-eqb, slice_index_or, slice_get, cond}
use Rattle.std.specs.Prelude.{nat_eq, nat_lt, if◌then◌else◌}
use Rattle.std.specs.List.{list_any}
use Rattle.std.proofs.lemmas.Bool.{lt-ltb}
use Rattle.tf_flow.specs.declared.atoms.Arg.{Arg}
use Rattle.tf_flow.specs.Tree.{is_among}
use Rattle.tf_flow.specs.Rules.{bind_symbols}
use Rattle.tf_numbers.specs.Numbers.{which_below}
use Rattle.tf_flow.specs.Outline.{Part, injected_in, arguments_of}
use Rattle.tf_model.specs.Before.{Flow, arg_symbol, is_taken, taken_symbols, is_unserved, givers, is_served, other_provides, is_only, is_inferred_by}
use Rattle.tf_model.proofs.Told.{taken_by}
use Rattle.tf_model.specs.Plan.{are_several, is_ambiguous}
use Rattle.tf_numbers.proofs.TruthLemmas.{true_first, true_both, or_chain, second_false, or_nothing, or_spread}
use Rattle.tf_numbers.proofs.PairLemmas.{which_passes}
use Rattle.tf_flow.specs.declared.listing.AtomPlace.{AtomPlace}
use Rattle.tf_order.specs.declared.context.Context.{Context}
use Rattle.tf_order.specs.Arranged.{ShowsFlows}
use Rattle.tf_links.specs.Bits.{has}
use Rattle.tf_links.specs.Links.{leads, LinksValue}
use Rattle.tf_flow.specs.Listing.{shown_atoms}
use Rattle.tf_order.specs.Context.{atoms_seen, place_seen, count_seen, LinksBy, for_item, needed_by, needed_at}
use Rattle.tf_numbers.proofs.EquationLemmas.{ap2}
use Rattle.tf_order.proofs.ContextLemmas.{length_items}
use Rattle.tf_numbers.proofs.NumberLemmas.{turn_eq}
use Rattle.tf_numbers.proofs.ListLemmas.{map_append, filter_append, take_whole}

-- ---- more symbols

-- the same symbols for each item, by any test of them
abbrev pub AreBoth : (first second seen : ℕ → List (List ℕ)) → Type 0
AreBoth first second seen = (v : ℕ) (p : List ℕ → Bool) → list_any p (seen v) ≡ (list_any p (first v) || list_any p (second v))

pub links_then : (context : Context) (first second seen : ℕ → List (List ℕ)) (s0 s1 s2 : LinksValue) (d0 d1 d2 : List ℕ) → LinksBy context first s0 d0 s1 d1 → LinksBy context second s1 d1 s2 d2 → AreBoth first second seen → LinksBy context seen s0 d0 s2 d2
links_then context first second seen s0 s1 s2 d0 d1 d2 one other both = record {
  links = λ u v. other.links u v ∙ (ap (λ (b : Bool). b || (nat_lt v (count_seen context) && list_any (is_inferred_by (atoms_seen context) (place_seen context) u v) (second v))) (one.links u v)
      ∙ (or_spread (leads s0.rows u v) (nat_lt v (count_seen context)) (list_any (is_inferred_by (atoms_seen context) (place_seen context) u v) (first v)) (list_any (is_inferred_by (atoms_seen context) (place_seen context) u v) (second v))
      ∙ ap (λ (b : Bool). leads s0.rows u v || (nat_lt v (count_seen context) && b)) (sym (both v (is_inferred_by (atoms_seen context) (place_seen context) u v)))));
  ambiguities = λ v. other.ambiguities v ∙ (ap (λ (b : Bool). b || (nat_lt v (count_seen context) && list_any (is_ambiguous (atoms_seen context) (place_seen context) v) (second v))) (one.ambiguities v)
      ∙ (or_spread (has d0 v) (nat_lt v (count_seen context)) (list_any (is_ambiguous (atoms_seen context) (place_seen context) v) (first v)) (list_any (is_ambiguous (atoms_seen context) (place_seen context) v) (second v))
      ∙ ap (λ (b : Bool). has d0 v || (nat_lt v (count_seen context) && b)) (sym (both v (is_ambiguous (atoms_seen context) (place_seen context) v)))));
}

pub links_none : (context : Context) (seen : ℕ → List (List ℕ)) (s : LinksValue) (d : List ℕ) → ((v : ℕ) (p : List ℕ → Bool) → list_any p (seen v) ≡ false) → LinksBy context seen s d s d
links_none context seen s d none = record {
  links = λ u v. or_nothing (leads s.rows u v) _ (second_false (nat_lt v (count_seen context)) _ (none v (is_inferred_by (atoms_seen context) (place_seen context) u v)));
  ambiguities = λ v. or_nothing (has d v) _ (second_false (nat_lt v (count_seen context)) _ (none v (is_ambiguous (atoms_seen context) (place_seen context) v)));
}

-- the same symbols, told otherwise
pub links_as : (context : Context) (seen other : ℕ → List (List ℕ)) (s0 s1 : LinksValue) (d0 d1 : List ℕ) → LinksBy context seen s0 d0 s1 d1 → ((v : ℕ) → seen v ≡ other v) → LinksBy context other s0 d0 s1 d1
links_as context seen other s0 s1 d0 d1 is same = record {
  links = λ u v. is.links u v ∙ ap (λ (xs : List (List ℕ)). leads s0.rows u v || (nat_lt v (count_seen context) && list_any (is_inferred_by (atoms_seen context) (place_seen context) u v) xs)) (same v);
  ambiguities = λ v. is.ambiguities v ∙ ap (λ (xs : List (List ℕ)). has d0 v || (nat_lt v (count_seen context) && list_any (is_ambiguous (atoms_seen context) (place_seen context) v) xs)) (same v);
}

-- ---- one symbol of one item

for_one : (v w : ℕ) (symbols : List (List ℕ)) (p : List ℕ → Bool) → list_any p symbols ≡ false → list_any p (for_item v symbols w) ≡ false
for_one v w symbols p off = by_item (nat_eq v w)
  where
    by_item : (b : Bool) → list_any p (if b then symbols else []) ≡ false
    by_item true = off
    by_item false = refl

pub giver_below : (context : Context) (item : ℕ) (symbol found : List ℕ) (u : ℕ) → found ≡ givers (atoms_seen context) (place_seen context) item symbol → list_any (nat_eq u) found ≡ true → u < count_seen context
giver_below context item symbol found u is on = below (is_served (atoms_seen context) (place_seen context) item symbol) (ap (list_any (nat_eq u)) (sym is) ∙ on)
  where
    below : (b : Bool) → list_any (nat_eq u) (if b then [] else which_below (length (place_seen context).items) (other_provides (atoms_seen context) (place_seen context) item symbol)) ≡ true → u < count_seen context
    below true none = absurd (cc)
    below false some = let one = which_passes (length (place_seen context).items) (other_provides (atoms_seen context) (place_seen context) item symbol) (nat_eq u) some in
        let same : u ≡ one.number = eqb-true u one.number one.passes in let same_length : length (place_seen context).items ≡ count_seen context = length_items context in omega (arith, same, same_length, one.below)

pub symbol_none : (context : Context) (item : ℕ) (symbol found : List ℕ) (s : LinksValue) (d : List ℕ) → found ≡ givers (atoms_seen context) (place_seen context) item symbol → length found ≡ 0 → LinksBy context (for_item item (symbol ∷ [])) s d s d
symbol_none context item symbol found s d is none = record {
  links = λ u v. or_nothing (leads s.rows u v) _ (second_false (nat_lt v (count_seen context)) _ (by_item v (nat_eq item v) refl (is_inferred_by (atoms_seen context) (place_seen context) u v) (λ same. ap (λ (k : ℕ). is_only u (givers (atoms_seen context) (place_seen context) k symbol)) (sym same) ∙ (ap (is_only u) (sym is) ∙ only_none u found none))));
  ambiguities = λ v. or_nothing (has d v) _ (second_false (nat_lt v (count_seen context)) _ (by_item v (nat_eq item v) refl (is_ambiguous (atoms_seen context) (place_seen context) v) (λ same. ap (λ (k : ℕ). are_several (givers (atoms_seen context) (place_seen context) k symbol)) (sym same) ∙ (ap are_several (sym is) ∙ several_none found none))));
}
  where
    only_none : (u : ℕ) (xs : List ℕ) → length xs ≡ 0 → is_only u xs ≡ false
    only_none u [] none = refl
    only_none u (x ∷ xs) none = absurd (omega arith)

    several_none : (xs : List ℕ) → length xs ≡ 0 → are_several xs ≡ false
    several_none [] none = refl
    several_none (x ∷ xs) none = absurd (omega arith)

    by_item : (v : ℕ) (b : Bool) → nat_eq item v ≡ b → (p : List ℕ → Bool) → (item ≡ v → p symbol ≡ false) → list_any p (if b then symbol ∷ [] else []) ≡ false
    by_item v true same p off = ap (λ (b : Bool). b || false) (off (eqb-true item v same))
    by_item v false other p off = refl

pub symbol_one : (context : Context) (item : ℕ) (symbol found : List ℕ) (s new : LinksValue) (d : List ℕ) → found ≡ givers (atoms_seen context) (place_seen context) item symbol → length found ≡ 1 → item < count_seen context
    → ((a b : ℕ) → leads new.rows a b ≡ ((nat_eq (slice_index_or found 0 0) a && nat_eq item b) || leads s.rows a b)) → LinksBy context (for_item item (symbol ∷ [])) s d new d
symbol_one context item symbol found s new d is one below put = record {
  links = λ u v. put u v ∙ by_item u v (nat_eq item v) refl;
  ambiguities = λ v. or_nothing (has d v) _ (second_false (nat_lt v (count_seen context)) _ (no_ambiguity v (nat_eq item v) refl));
}
  where
    only_one : (u : ℕ) (xs : List ℕ) → length xs ≡ 1 → is_only u xs ≡ nat_eq u (slice_index_or xs 0 0)
    only_one u [] one = absurd (omega arith)
    only_one u (x ∷ []) one = refl
    only_one u (x ∷ y ∷ ys) one = absurd (omega arith)

    several_one : (xs : List ℕ) → length xs ≡ 1 → are_several xs ≡ false
    several_one [] one = refl
    several_one (x ∷ []) one = refl
    several_one (x ∷ y ∷ ys) one = absurd (omega arith)

    no_ambiguity : (v : ℕ) (b : Bool) → nat_eq item v ≡ b → list_any (is_ambiguous (atoms_seen context) (place_seen context) v) (if b then symbol ∷ [] else []) ≡ false
    no_ambiguity v true same = ap (λ (b : Bool). b || false) (ap (λ (k : ℕ). are_several (givers (atoms_seen context) (place_seen context) k symbol)) (sym (eqb-true item v same)) ∙ (ap are_several (sym is) ∙ several_one found one))
    no_ambiguity v false other = refl

    turned : (a b : Bool) → (a && true) || b ≡ b || (true && (a || false))
    turned true true = refl
    turned true false = refl
    turned false true = refl
    turned false false = refl

    off : (a b : Bool) (c : Bool) → (a && false) || b ≡ b || (c && false)
    off true true c = refl
    off true false true = refl
    off true false false = refl
    off false true c = refl
    off false false true = refl
    off false false false = refl

    by_item : (u v : ℕ) (b : Bool) → nat_eq item v ≡ b → ((nat_eq (slice_index_or found 0 0) u && b) || leads s.rows u v) ≡ (leads s.rows u v || (nat_lt v (count_seen context) && list_any (is_inferred_by (atoms_seen context) (place_seen context) u v) (if b then symbol ∷ [] else [])))
    by_item u v true same = let e : item ≡ v = eqb-true item v same in
        turned (nat_eq (slice_index_or found 0 0) u) (leads s.rows u v)
        ∙ ap2 (λ (a b : Bool). leads s.rows u v || (a && (b || false))) (sym (lt-ltb v (count_seen context) (omega (arith, e, below))))
        (turn_eq (slice_index_or found 0 0) u ∙ (sym (only_one u found one) ∙ (ap (is_only u) is ∙ ap (λ (k : ℕ). is_only u (givers (atoms_seen context) (place_seen context) k symbol)) e)))
    by_item u v false other = off (nat_eq (slice_index_or found 0 0) u) (leads s.rows u v) (nat_lt v (count_seen context))

pub symbol_several : (context : Context) (item : ℕ) (symbol found : List ℕ) (s : LinksValue) (d new : List ℕ) → found ≡ givers (atoms_seen context) (place_seen context) item symbol → 1 < length found → item < count_seen context
    → ((k : ℕ) → has new k ≡ (nat_eq item k || has d k)) → LinksBy context (for_item item (symbol ∷ [])) s d s new
symbol_several context item symbol found s d new is many below put = record {
  links = λ u v. or_nothing (leads s.rows u v) _ (second_false (nat_lt v (count_seen context)) _ (no_link u v (nat_eq item v) refl));
  ambiguities = λ v. put v ∙ by_item v (nat_eq item v) refl;
}
  where
    only_several : (u : ℕ) (xs : List ℕ) → 1 < length xs → is_only u xs ≡ false
    only_several u [] many = refl
    only_several u (x ∷ []) many = absurd (omega arith)
    only_several u (x ∷ y ∷ ys) many = refl

    several : (xs : List ℕ) → 1 < length xs → are_several xs ≡ true
    several [] many = absurd (omega arith)
    several (x ∷ []) many = absurd (omega arith)
    several (x ∷ y ∷ ys) many = refl

    no_link : (u v : ℕ) (b : Bool) → nat_eq item v ≡ b → list_any (is_inferred_by (atoms_seen context) (place_seen context) u v) (if b then symbol ∷ [] else []) ≡ false
    no_link u v true same = ap (λ (b : Bool). b || false) (ap (λ (k : ℕ). is_only u (givers (atoms_seen context) (place_seen context) k symbol)) (sym (eqb-true item v same)) ∙ (ap (is_only u) (sym is) ∙ only_several u found many))
    no_link u v false other = refl

    or_true : (a : Bool) → true ≡ a || true
    or_true true = refl
    or_true false = refl

    by_item : (v : ℕ) (b : Bool) → nat_eq item v ≡ b → (b || has d v) ≡ (has d v || (nat_lt v (count_seen context) && list_any (is_ambiguous (atoms_seen context) (place_seen context) v) (if b then symbol ∷ [] else [])))
    by_item v true same = let e : item ≡ v = eqb-true item v same in
        or_true (has d v) ∙ ap (λ (b : Bool). has d v || b) (sym (true_both (nat_lt v (count_seen context)) _ (lt-ltb v (count_seen context) (omega (arith, e, below)))
        (true_first (is_ambiguous (atoms_seen context) (place_seen context) v symbol) false (ap (λ (k : ℕ). are_several (givers (atoms_seen context) (place_seen context) k symbol)) (sym e) ∙ (ap are_several (sym is) ∙ several found many)))))
    by_item v false other = or_nothing (has d v) _ (second_false (nat_lt v (count_seen context)) _ refl)

pub giver_within : (context : Context) (item : ℕ) (symbol found : List ℕ) → found ≡ givers (atoms_seen context) (place_seen context) item symbol → 0 < length found → slice_index_or found 0 0 < count_seen context
giver_within context item symbol found is some = giver_below context item symbol found (slice_index_or found 0 0) is (first_there found some)
  where
    first_there : (xs : List ℕ) → 0 < length xs → list_any (nat_eq (slice_index_or xs 0 0)) xs ≡ true
    first_there [] some = absurd (omega arith)
    first_there (x ∷ xs) some = true_first (nat_eq x x) _ (eq-eqb x x refl)

-- ---- the arguments of an atom

pub any_append : (p : List ℕ → Bool) (xs ys : List (List ℕ)) → list_any p (xs ++ ys) ≡ (list_any p xs || list_any p ys)
any_append p [] ys = refl
any_append p (x ∷ xs) ys = ap (λ (b : Bool). p x || b) (any_append p xs ys) ∙ or_chain (p x) (list_any p xs) (list_any p ys)

pub needed_append : (context : Context) (inner : List Flow) (v a : ℕ) (part : Part) (xs ys : List Arg) → needed_by context inner v a part (xs ++ ys) ≡ needed_by context inner v a part xs ++ needed_by context inner v a part ys
needed_append context inner v a part xs ys =
    ap (λ (args : List Arg). filter (is_unserved (atoms_seen context) inner (place_seen context).number v a) (map arg_symbol args)) (filter_append (is_taken part) xs ys)
    ∙ (ap (filter (is_unserved (atoms_seen context) inner (place_seen context).number v a)) (map_append arg_symbol (filter (is_taken part) xs) (filter (is_taken part) ys))
    ∙ filter_append (is_unserved (atoms_seen context) inner (place_seen context).number v a) (map arg_symbol (filter (is_taken part) xs)) (map arg_symbol (filter (is_taken part) ys)))

pub take_next : {X : Type 0} (xs : List X) (i : ℕ) (x : X) → i < length xs → x ≡ slice_index_or xs i x → take (suc i) xs ≡ take i xs ++ x ∷ []
take_next [] i x below is = absurd (omega arith)
take_next {X = X} (y ∷ ys) zero x below is = ap (λ (z : X). z ∷ take 0 ys) (sym is) ∙ ap (λ (zs : List X). x ∷ zs) (none ys)
  where
    none : (zs : List X) → take 0 zs ≡ []
    none [] = refl
    none (z ∷ zs) = refl
take_next {X = X} (y ∷ ys) (suc i) x below is = ap (λ (zs : List X). y ∷ zs) (take_next ys i x (omega arith) is)

pub take_none : {X : Type 0} (xs : List X) → take 0 xs ≡ []
take_none [] = refl
take_none (x ∷ xs) = refl

for_both : (v w : ℕ) (xs ys zs : List (List ℕ)) (p : List ℕ → Bool) → zs ≡ xs ++ ys → list_any p (for_item v zs w) ≡ (list_any p (for_item v xs w) || list_any p (for_item v ys w))
for_both v w xs ys zs p is = by_item (nat_eq v w)
  where
    by_item : (b : Bool) → list_any p (if b then zs else []) ≡ (list_any p (if b then xs else []) || list_any p (if b then ys else []))
    by_item true = ap (list_any p) is ∙ any_append p xs ys
    by_item false = refl

-- what the arguments so far gave
abbrev pub ArgumentsSeen : Context → ℕ → ℕ → Part → LinksValue → List ℕ → LinksValue → List ℕ → List Arg → Type 0
ArgumentsSeen context item atom part s0 d0 s d args = (inner : List Flow) → ShowsFlows context.table.now inner → LinksBy context (for_item item (needed_by context inner item atom part args)) s0 d0 s d

pub args_start : (context : Context) (item atom : ℕ) (part : Part) (s : LinksValue) (d : List ℕ) (args : List Arg) → ArgumentsSeen context item atom part s d s d (take 0 args)
args_start context item atom part s d args inner shows = links_none context (for_item item (needed_by context inner item atom part (take 0 args))) s d
    (λ v p. for_one item v (needed_by context inner item atom part (take 0 args)) p (ap (λ (xs : List Arg). list_any p (needed_by context inner item atom part xs)) (take_none args)))

pub args_more : (context : Context) (item atom : ℕ) (part : Part) (s0 s1 s2 : LinksValue) (d0 d1 d2 : List ℕ) (args : List Arg) (i : ℕ) (arg : Arg) → ArgumentsSeen context item atom part s0 d0 s1 d1 (take i args) → i < length args → arg ≡ slice_index_or args i arg
    → ArgumentsSeen context item atom part s1 d1 s2 d2 (arg ∷ []) → ArgumentsSeen context item atom part s0 d0 s2 d2 (take (i + 1) args)
args_more context item atom part s0 s1 s2 d0 d1 d2 args i arg before within is one inner shows =
    links_then context (for_item item (needed_by context inner item atom part (take i args))) (for_item item (needed_by context inner item atom part (arg ∷ []))) (for_item item (needed_by context inner item atom part (take (i + 1) args))) s0 s1 s2 d0 d1 d2 (before inner shows) (one inner shows)
    (λ v p. for_both item v (needed_by context inner item atom part (take i args)) (needed_by context inner item atom part (arg ∷ [])) (needed_by context inner item atom part (take (i + 1) args)) p
    (ap (needed_by context inner item atom part) (ap (λ (n : ℕ). take n args) (add-one i) ∙ take_next args i arg within is) ∙ needed_append context inner item atom part (take i args) (arg ∷ [])))

pub part_seen : (atoms : List AtomPlace) (k : ℕ) (atom : AtomPlace) → k < length atoms → atom ≡ slice_index_or atoms k atom → taken_by (slice_get (shown_atoms atoms) k) ≡ taken_symbols (shown_part atom.part)
part_seen [] k atom within is = absurd (omega arith)
part_seen (x ∷ xs) zero atom within is = ap (λ (a : AtomPlace). taken_symbols (shown_part a.part)) (sym is)
part_seen (x ∷ xs) (suc k) atom within is = part_seen xs k atom (omega arith) is

pub args_all : (context : Context) (item atom : ℕ) (place : AtomPlace) (s0 s : LinksValue) (d0 d : List ℕ) (args : List Arg) (i : ℕ) → ArgumentsSeen context item atom (shown_part place.part) s0 d0 s d (take i args) → length args ≤ i → args ≡ arguments_of (shown_part place.part)
    → atom < length context.atoms.now → place ≡ slice_index_or context.atoms.now atom place → (inner : List Flow) → ShowsFlows context.table.now inner → LinksBy context (for_item item (needed_at context inner atom item)) s0 d0 s d
args_all context item atom place s0 s d0 d args i seen whole are within read inner shows =
    links_as context (for_item item (needed_by context inner item atom (shown_part place.part) (take i args))) (for_item item (needed_at context inner atom item)) s0 s d0 d (seen inner shows)
    (λ v. ap (λ (xs : List (List ℕ)). for_item item xs v)
    (ap (needed_by context inner item atom (shown_part place.part)) (take_whole args i whole ∙ are)
    ∙ ap (filter (is_unserved (atoms_seen context) inner (place_seen context).number item atom)) (sym (part_seen context.atoms.now atom place within read))))

-- ---- one argument

pub argument_bound : (context : Context) (item atom : ℕ) (part : Part) (s : LinksValue) (d : List ℕ) (arg : Arg) → is_among (bind_symbols (injected_in part)) arg.symbol ≡ true → ArgumentsSeen context item atom part s d s d (arg ∷ [])
argument_bound context item atom part s d arg bound inner shows = links_none context (for_item item (needed_by context inner item atom part (arg ∷ []))) s d
    (λ v p. for_one item v (needed_by context inner item atom part (arg ∷ [])) p (ap (λ (b : Bool). list_any p (filter (is_unserved (atoms_seen context) inner (place_seen context).number item atom) (map arg_symbol (cond (not b) (arg ∷ []) [])))) bound))

pub one_needed : (context : Context) (inner : List Flow) (item atom : ℕ) (part : Part) (arg : Arg) → is_among (bind_symbols (injected_in part)) arg.symbol ≡ false
    → needed_by context inner item atom part (arg ∷ []) ≡ cond (is_unserved (atoms_seen context) inner (place_seen context).number item atom arg.symbol) (arg.symbol ∷ []) []
one_needed context inner item atom part arg free = ap (λ (b : Bool). filter (is_unserved (atoms_seen context) inner (place_seen context).number item atom) (map arg_symbol (cond (not b) (arg ∷ []) []))) free

pub argument_served : (context : Context) (item atom : ℕ) (part : Part) (s : LinksValue) (d : List ℕ) (arg : Arg) → is_among (bind_symbols (injected_in part)) arg.symbol ≡ false
    → ((inner : List Flow) → ShowsFlows context.table.now inner → false ≡ is_unserved (atoms_seen context) inner (place_seen context).number item atom arg.symbol) → ArgumentsSeen context item atom part s d s d (arg ∷ [])
argument_served context item atom part s d arg free served inner shows = links_none context (for_item item (needed_by context inner item atom part (arg ∷ []))) s d
    (λ v p. for_one item v (needed_by context inner item atom part (arg ∷ [])) p
    (ap (list_any p) (one_needed context inner item atom part arg free) ∙ ap (λ (b : Bool). list_any p (cond b (arg.symbol ∷ []) [])) (sym (served inner shows))))

pub argument_needed : (context : Context) (item atom : ℕ) (part : Part) (s0 s : LinksValue) (d0 d : List ℕ) (arg : Arg) → is_among (bind_symbols (injected_in part)) arg.symbol ≡ false
    → ((inner : List Flow) → ShowsFlows context.table.now inner → true ≡ is_unserved (atoms_seen context) inner (place_seen context).number item atom arg.symbol) → LinksBy context (for_item item (arg.symbol ∷ [])) s0 d0 s d → ArgumentsSeen context item atom part s0 d0 s d (arg ∷ [])
argument_needed context item atom part s0 s d0 d arg free unserved is inner shows = links_as context (for_item item (arg.symbol ∷ [])) (for_item item (needed_by context inner item atom part (arg ∷ []))) s0 s d0 d is
    (λ v. ap (λ (xs : List (List ℕ)). for_item item xs v) (sym (one_needed context inner item atom part arg free ∙ ap (λ (b : Bool). cond b (arg.symbol ∷ []) []) (sym (unserved inner shows)))))
