-- A flow that was looked at, against the definitions.
use Rattle.std.proofs.Common.{◌≡◌, ℕ, zero, suc, ◌<◌, List, [], ◌∷◌, ◌++◌, length, filter, Bool, true, false, ◌&&◌, ◌||◌, Option, Some, None, refl, sym, ap, subst, ◌∙◌, inl, inr, arith, cond}
use Rattle.std.specs.Prelude.{nat_eq, nat_lt, is_some, if◌then◌else◌}
use Rattle.std.specs.List.{list_any, list_all}
use Rattle.std.specs.Option.{option_or}
use Rattle.std.proofs.lemmas.Bool.{cases_lt, ltb-true, lt-ltb}
use Rattle.tf_flow.specs.declared.nested.FlowKind.{FlowKind}
use Rattle.tf_flow.specs.declared.nested.FlowKind.TheVariants as kind
use Rattle.tf_flow.specs.Tree.{first_some}
use Rattle.tf_flow.specs.Rules.{is_graph}
use Rattle.tf_numbers.specs.Numbers.{first_below, numbers_below, Pair, has_pair, pairs_below}
use Rattle.tf_links.specs.Graphs.{reached}
use Rattle.tf_flow.specs.Outline.{FlowPlace}
use Rattle.tf_model.specs.Before.{Flow, needs, givers, is_only, is_inferred_by, is_inferred, is_explicit, explicit, is_linked, linked_pairs, item_order, standing_atoms}
use Rattle.tf_model.specs.Plan.{CompileRefusal, lesser, least, name_less, are_several, is_ambiguous, refuse_givers, refuse_symbol, ambiguity_at, ambiguity, cycle_of, first_cycle}
use Rattle.tf_numbers.proofs.TruthLemmas.{and_first, and_second, or_either, true_first, true_second, true_both, same_truth, neither_second, neither_first}
use Rattle.tf_numbers.proofs.PairLemmas.{pair_passes, passes_pair}
use Rattle.tf_order.specs.declared.arranged.Arranged.{Arranged}
use Rattle.tf_order.specs.declared.context.Context.{Context}
use Rattle.tf_order.specs.Arranged.{comes_by, IsArranged, ShowsFlows}
use Rattle.tf_links.specs.Bits.{has, room, words_for}
use Rattle.tf_links.specs.Links.{leads, LinksValue, AreLinks, AreReached}
use Rattle.tf_order.specs.Looked.{arranged_seen, refusal_seen}
use Rattle.tf_order.specs.Context.{atoms_seen, place_seen, count_seen, LinksBy}
use Rattle.tf_numbers.proofs.BelowLemmas.{none_at, found_passes, first_before}
use Rattle.tf_order.proofs.LinkingLemmas.{giver_below}
use Rattle.tf_order.proofs.ContextLemmas.{length_items}
use Rattle.tf_numbers.proofs.OptionLemmas.{or_none}

-- ---- a flow without links

pub no_pairs : (context : Context) (inner : List Flow) → is_graph (place_seen context).kind ≡ false → linked_pairs (atoms_seen context) inner (place_seen context) ≡ []
no_pairs context inner plain = ap (λ (b : Bool). if b then pairs_below (length (place_seen context).items) (is_linked (atoms_seen context) inner (place_seen context)) else []) plain

pub none_linked : (links : LinksValue) → ((u v : ℕ) → leads links.rows u v ≡ false) → AreLinks links []
none_linked links none = record { same = none; first = λ u v on. absurd (cc); second = λ u v on. absurd (cc) }

plain_order : (how : FlowKind) (count n : ℕ) (links : LinksValue) (reach : List (List ℕ)) (linked : List Pair) (u v : ℕ) → is_graph how ≡ false → count ≡ n → comes_by how count reach u v ≡ has_pair (item_order how n linked) u v
plain_order kind.Graph count n links reach linked u v plain same = absurd (cc)
plain_order kind.Unordered count n links reach linked u v plain same = refl
plain_order kind.Linear count n links reach linked u v plain same = same_truth (nat_lt u v && nat_lt v count) (has_pair (pairs_below n nat_lt) u v)
    (λ on. let earlier : u < v = ltb-true u v (and_first (nat_lt u v) (nat_lt v count) on) in let below : v < count = ltb-true v count (and_second (nat_lt u v) (nat_lt v count) on) in
    passes_pair n nat_lt u v (omega (arith, earlier, below, same)) (omega (arith, below, same)) (and_first (nat_lt u v) (nat_lt v count) on))
    (λ on. let passes = pair_passes n nat_lt u v on in true_both (nat_lt u v) (nat_lt v count) passes.tested (lt-ltb v count (omega (arith, passes.second, same))))

pub plain_arranged : (context : Context) (flow : Arranged) → is_graph (place_seen context).kind ≡ false → flow.kind ≡ (place_seen context).kind → flow.links.count ≡ count_seen context → ((u v : ℕ) → leads flow.links.rows u v ≡ false)
    → ((inner : List Flow) (pairs : List Pair) → ShowsFlows context.table.now inner → AreLinks flow.links pairs → flow.standing.items ≡ standing_atoms inner (place_seen context) pairs)
    → (inner : List Flow) → ShowsFlows context.table.now inner → IsArranged flow (arranged_seen context inner)
plain_arranged context flow plain same count none standing inner shows = record {
  kind = same;
  order = λ u v. ap (λ (k : FlowKind). comes_by k flow.links.count flow.reach.items u v) same
      ∙ plain_order (place_seen context).kind flow.links.count (length (place_seen context).items) flow.links flow.reach.items (linked_pairs (atoms_seen context) inner (place_seen context)) u v plain (count ∙ sym (length_items context));
  linked = λ u v. none u v ∙ sym (ap (λ (ps : List Pair). has_pair ps u v) (no_pairs context inner plain));
  standing = standing inner [] shows (none_linked flow.links none) ∙ ap (standing_atoms inner (place_seen context)) (sym (no_pairs context inner plain));
}

pub plain_refusal : (context : Context) (inner : List Flow) → is_graph (place_seen context).kind ≡ false → None ≡ refusal_seen context inner
plain_refusal context inner plain = sym (ap (λ (b : Bool). if b then option_or (ambiguity (atoms_seen context) inner (place_seen context)) (cycle_of (arranged_seen context inner)) else None) plain)

-- ---- the links of a graph flow

only_within : (u : ℕ) (xs : List ℕ) → is_only u xs ≡ true → list_any (nat_eq u) xs ≡ true
only_within u [] is = absurd (cc)
only_within u (x ∷ []) is = true_first (nat_eq u x) false is
only_within u (x ∷ y ∷ ys) is = absurd (cc)

some_inferred : (context : Context) (u v : ℕ) (symbols : List (List ℕ)) → list_any (is_inferred_by (atoms_seen context) (place_seen context) u v) symbols ≡ true → u < count_seen context
some_inferred context u v [] on = absurd (cc)
some_inferred context u v (x ∷ xs) on = elim (or_either (is_inferred_by (atoms_seen context) (place_seen context) u v x) _ on) [
  | inl here ↦ giver_below context v x (givers (atoms_seen context) (place_seen context) v x) u refl (only_within u (givers (atoms_seen context) (place_seen context) v x) here)
  | inr there ↦ some_inferred context u v xs there
]

pub graph_links : (context : Context) (inner : List Flow) (old new : LinksValue) (ambiguities_old ambiguities : List ℕ) → is_graph (place_seen context).kind ≡ true → old.count ≡ count_seen context → new.count ≡ count_seen context → AreLinks old (explicit (place_seen context))
    → LinksBy context (needs (atoms_seen context) inner (place_seen context).number) old ambiguities_old new ambiguities → AreLinks new (linked_pairs (atoms_seen context) inner (place_seen context))
graph_links context inner old new ambiguities_old ambiguities graph old_count new_count are is = subst (AreLinks new) (sym (ap (λ (b : Bool). if b then pairs_below (length (place_seen context).items) (is_linked (atoms_seen context) inner (place_seen context)) else []) graph)) (record {
  same = λ u v. is.links u v ∙ (ap (λ (b : Bool). b || (nat_lt v (count_seen context) && is_inferred (atoms_seen context) inner (place_seen context) u v)) (are.same u v) ∙ told u v);
  first = λ u v on. let passes = pair_passes (length (place_seen context).items) (is_linked (atoms_seen context) inner (place_seen context)) u v on in omega (arith, passes.first, new_count, length_items context);
  second = λ u v on. let passes = pair_passes (length (place_seen context).items) (is_linked (atoms_seen context) inner (place_seen context)) u v on in omega (arith, passes.second, new_count, length_items context);
})
  where
    told : (u v : ℕ) → (has_pair (explicit (place_seen context)) u v || (nat_lt v (count_seen context) && is_inferred (atoms_seen context) inner (place_seen context) u v)) ≡ has_pair (pairs_below (length (place_seen context).items) (is_linked (atoms_seen context) inner (place_seen context))) u v
    told u v = same_truth (has_pair (explicit (place_seen context)) u v || (nat_lt v (count_seen context) && is_inferred (atoms_seen context) inner (place_seen context) u v)) (has_pair (pairs_below (length (place_seen context).items) (is_linked (atoms_seen context) inner (place_seen context))) u v)
        (λ on. elim (or_either (has_pair (explicit (place_seen context)) u v) (nat_lt v (count_seen context) && is_inferred (atoms_seen context) inner (place_seen context) u v) on) [
          | inl written ↦ let passes = pair_passes (length (place_seen context).items) (is_explicit (place_seen context)) u v written in
              passes_pair (length (place_seen context).items) (is_linked (atoms_seen context) inner (place_seen context)) u v passes.first passes.second (true_first (is_explicit (place_seen context) u v) (is_inferred (atoms_seen context) inner (place_seen context) u v) passes.tested)
          | inr found ↦
              let inferred : is_inferred (atoms_seen context) inner (place_seen context) u v ≡ true = and_second (nat_lt v (count_seen context)) _ found in
              let first : u < count_seen context = some_inferred context u v (needs (atoms_seen context) inner (place_seen context).number v) inferred in
              let second : v < count_seen context = ltb-true v (count_seen context) (and_first (nat_lt v (count_seen context)) _ found) in
              passes_pair (length (place_seen context).items) (is_linked (atoms_seen context) inner (place_seen context)) u v (omega (arith, first, length_items context)) (omega (arith, second, length_items context)) (true_second (is_explicit (place_seen context) u v) (is_inferred (atoms_seen context) inner (place_seen context) u v) inferred)
        ])
        (λ on. let passes = pair_passes (length (place_seen context).items) (is_linked (atoms_seen context) inner (place_seen context)) u v on in
        elim (or_either (is_explicit (place_seen context) u v) (is_inferred (atoms_seen context) inner (place_seen context) u v) passes.tested) [
          | inl written ↦ true_first (has_pair (explicit (place_seen context)) u v) _ (passes_pair (length (place_seen context).items) (is_explicit (place_seen context)) u v passes.first passes.second written)
          | inr inferred ↦ true_second (has_pair (explicit (place_seen context)) u v) _ (true_both (nat_lt v (count_seen context)) _ (lt-ltb v (count_seen context) (omega (arith, passes.second, length_items context))) inferred)
        ])

pub graph_arranged : (context : Context) (flow : Arranged) → (place_seen context).kind ≡ kind.Graph → flow.kind ≡ kind.Graph → flow.links.count ≡ count_seen context
    → ((inner : List Flow) → ShowsFlows context.table.now inner → AreLinks flow.links (linked_pairs (atoms_seen context) inner (place_seen context)))
    → ((pairs : List Pair) → AreLinks flow.links pairs → AreReached flow.links.count (reached flow.links.count pairs) flow.reach.items)
    → ((inner : List Flow) (pairs : List Pair) → ShowsFlows context.table.now inner → AreLinks flow.links pairs → flow.standing.items ≡ standing_atoms inner (place_seen context) pairs)
    → (inner : List Flow) → ShowsFlows context.table.now inner → IsArranged flow (arranged_seen context inner)
graph_arranged context flow graph same count links reach standing inner shows = record {
  kind = same ∙ sym graph;
  order = λ u v. ap (λ (k : FlowKind). comes_by k flow.links.count flow.reach.items u v) same
      ∙ ((reach (linked_pairs (atoms_seen context) inner (place_seen context)) (links inner shows)).same u v
      ∙ (ap (λ (n : ℕ). has_pair (reached n (linked_pairs (atoms_seen context) inner (place_seen context))) u v) (count ∙ sym (length_items context))
      ∙ ap (λ (k : FlowKind). has_pair (item_order k (length (place_seen context).items) (linked_pairs (atoms_seen context) inner (place_seen context))) u v) (sym graph)));
  linked = (links inner shows).same;
  standing = standing inner (linked_pairs (atoms_seen context) inner (place_seen context)) shows (links inner shows);
}

-- what the written links reach is known of the same links
pub reach_kept : (links : LinksValue) (written : List (List ℕ)) (reach rows : List (List ℕ)) → ((pairs : List Pair) → AreLinks (record { count = links.count; rows = written }) pairs → AreReached links.count (reached links.count pairs) reach)
    → ((u v : ℕ) → leads written u v ≡ leads links.rows u v) → rows ≡ reach → (pairs : List Pair) → AreLinks links pairs → AreReached links.count (reached links.count pairs) rows
reach_kept links written reach rows known same is pairs are =
    subst (AreReached links.count (reached links.count pairs)) (sym is)
    (known pairs (record { same = λ u v. same u v ∙ are.same u v; first = are.first; second = are.second }))

-- ---- the refusal of a graph flow

none_kept : (p : List ℕ → Bool) (xs : List (List ℕ)) → list_any p xs ≡ false → filter p xs ≡ []
none_kept p [] off = refl
none_kept p (x ∷ xs) off = ap (λ (b : Bool). cond b (x ∷ filter p xs) (filter p xs)) (neither_first (p x) (list_any p xs) off) ∙ none_kept p xs (neither_second (p x) (list_any p xs) off)

clear_item : (context : Context) (inner : List Flow) (v : ℕ) → list_any (is_ambiguous (atoms_seen context) (place_seen context) v) (needs (atoms_seen context) inner (place_seen context).number v) ≡ false → ambiguity_at (atoms_seen context) inner (place_seen context) v ≡ None
clear_item context inner v off = ap (λ (xs : List (List ℕ)). refuse_symbol (atoms_seen context) (place_seen context) v (least xs)) (none_kept (is_ambiguous (atoms_seen context) (place_seen context) v) (needs (atoms_seen context) inner (place_seen context).number v) off)

all_kept : (p : List ℕ → Bool) (xs : List (List ℕ)) → list_all p (filter p xs) ≡ true
all_kept p [] = refl
all_kept p (x ∷ xs) = by_test (p x) refl (all_kept p xs)
  where
    by_test : (b : Bool) → p x ≡ b → list_all p (filter p xs) ≡ true → list_all p (cond b (x ∷ filter p xs) (filter p xs)) ≡ true
    by_test true is rest = true_both (p x) (list_all p (filter p xs)) is rest
    by_test false is rest = rest

record LeastOf (p : List ℕ → Bool) (o : Option (List ℕ)) : Type 0 where
  symbol : List ℕ
  is : o ≡ Some symbol
  passes : p symbol ≡ true

least_passes : (p : List ℕ → Bool) (x : List ℕ) (xs : List (List ℕ)) → list_all p (x ∷ xs) ≡ true → LeastOf p (least (x ∷ xs))
least_passes p x [] all = record { symbol = x; is = refl; passes = and_first (p x) true all }
least_passes p x (y ∷ ys) all =
    let rest = least_passes p y ys (and_second (p x) (list_all p (y ∷ ys)) all) in
    record { symbol = lesser x (Some rest.symbol); is = ap (λ (o : Option (List ℕ)). Some (lesser x o)) rest.is; passes = either (name_less rest.symbol x) (and_first (p x) (list_all p (y ∷ ys)) all) rest.passes }
  where
    either : {s : List ℕ} (b : Bool) → p x ≡ true → p s ≡ true → p (if b then s else x) ≡ true
    either true one other = other
    either false one other = one

record Kept (p : List ℕ → Bool) (xs : List (List ℕ)) : Type 0 where
  first : List ℕ
  others : List (List ℕ)
  is : filter p xs ≡ first ∷ others

kept_some : (p : List ℕ → Bool) (xs : List (List ℕ)) → list_any p xs ≡ true → Kept p xs
kept_some p [] on = absurd (cc)
kept_some p (x ∷ xs) on = by_test (p x) refl on (kept_some p xs)
  where
    by_test : (b : Bool) → p x ≡ b → b || list_any p xs ≡ true → (list_any p xs ≡ true → Kept p xs) → Kept p (x ∷ xs)
    by_test true is any rest = record { first = x; others = filter p xs; is = ap (λ (b : Bool). cond b (x ∷ filter p xs) (filter p xs)) is }
    by_test false is any rest = let found = rest any in record { first = found.first; others = found.others; is = ap (λ (b : Bool). cond b (x ∷ filter p xs) (filter p xs)) is ∙ found.is }

some_kept : (p : List ℕ → Bool) (xs : List (List ℕ)) → list_any p xs ≡ true → LeastOf p (least (filter p xs))
some_kept p xs on = let found = kept_some p xs on in subst (λ (ys : List (List ℕ)). LeastOf p (least ys)) (sym found.is) (least_passes p found.first found.others (ap (list_all p) (sym found.is) ∙ all_kept p xs))

several_refused : (place : FlowPlace) (symbol : List ℕ) (xs : List ℕ) → are_several xs ≡ true → is_some (refuse_givers place symbol xs) ≡ true
several_refused place symbol [] is = absurd (cc)
several_refused place symbol (x ∷ []) is = absurd (cc)
several_refused place symbol (x ∷ y ∷ ys) is = refl

ambiguous_item : (context : Context) (inner : List Flow) (v : ℕ) → list_any (is_ambiguous (atoms_seen context) (place_seen context) v) (needs (atoms_seen context) inner (place_seen context).number v) ≡ true → is_some (ambiguity_at (atoms_seen context) inner (place_seen context) v) ≡ true
ambiguous_item context inner v on =
    let found = some_kept (is_ambiguous (atoms_seen context) (place_seen context) v) (needs (atoms_seen context) inner (place_seen context).number v) on in
    ap (λ (o : Option (List ℕ)). is_some (refuse_symbol (atoms_seen context) (place_seen context) v o)) found.is
    ∙ several_refused (place_seen context) found.symbol (givers (atoms_seen context) (place_seen context) v found.symbol) found.passes

or_chain : {X : Type 0} (a b c : Option X) → option_or a (option_or b c) ≡ option_or (option_or a b) c
or_chain None b c = refl
or_chain (Some x) b c = refl

some_append : {Y : Type 0} (give : ℕ → Option Y) (xs ys : List ℕ) → first_some give (xs ++ ys) ≡ option_or (first_some give xs) (first_some give ys)
some_append give [] ys = refl
some_append {Y = Y} give (x ∷ xs) ys = ap (λ (o : Option Y). option_or (give x) o) (some_append give xs ys) ∙ or_chain (give x) (first_some give xs) (first_some give ys)

none_given : {Y : Type 0} (give : ℕ → Option Y) (n : ℕ) → ((k : ℕ) → k < n → give k ≡ None) → first_some give (numbers_below n) ≡ None
none_given give zero each = refl
none_given {Y = Y} give (suc n) each = some_append give (numbers_below n) (n ∷ []) ∙ (ap (λ (o : Option Y). option_or o (option_or (give n) None)) (none_given give n (λ k below. each k (omega arith))) ∙ (or_none (give n) ∙ each n (omega arith)))

kept_first : {Y : Type 0} (a b : Option Y) → is_some a ≡ true → option_or a b ≡ a
kept_first (Some x) b is = refl
kept_first None b is = absurd (cc)

first_given : {Y : Type 0} (give : ℕ → Option Y) (n k : ℕ) → k < n → is_some (give k) ≡ true → ((j : ℕ) → j < k → give j ≡ None) → first_some give (numbers_below n) ≡ give k
first_given give zero k below is before = absurd (omega arith)
first_given {Y = Y} give (suc n) k below is before = some_append give (numbers_below n) (n ∷ []) ∙ elim (cases_lt k n) [
  | inl earlier ↦ let rest = first_given give n k earlier is before in
      kept_first (first_some give (numbers_below n)) (option_or (give n) None) (ap is_some rest ∙ is) ∙ rest
  | inr from ↦ let same : k ≡ n = omega (arith, from, below) in
      ap (λ (o : Option Y). option_or o (option_or (give n) None)) (none_given give n (λ j less. before j (omega (arith, less, same)))) ∙ (or_none (give n) ∙ ap give (sym same))
]

-- the ambiguities that were found are the items with an ambiguous symbol
ambiguity_told : (context : Context) (inner : List Flow) (old new : LinksValue) (ambiguities_old ambiguities : List ℕ) (v : ℕ) → ((k : ℕ) → has ambiguities_old k ≡ false) → LinksBy context (needs (atoms_seen context) inner (place_seen context).number) old ambiguities_old new ambiguities
    → has ambiguities v ≡ (nat_lt v (count_seen context) && list_any (is_ambiguous (atoms_seen context) (place_seen context) v) (needs (atoms_seen context) inner (place_seen context).number v))
ambiguity_told context inner old new ambiguities_old ambiguities v none is = is.ambiguities v ∙ ap (λ (b : Bool). b || (nat_lt v (count_seen context) && list_any (is_ambiguous (atoms_seen context) (place_seen context) v) (needs (atoms_seen context) inner (place_seen context).number v))) (none v)

graph_refused : (context : Context) (inner : List Flow) → is_graph (place_seen context).kind ≡ true → refusal_seen context inner ≡ option_or (ambiguity (atoms_seen context) inner (place_seen context)) (cycle_of (arranged_seen context inner))
graph_refused context inner graph = ap (λ (b : Bool). if b then option_or (ambiguity (atoms_seen context) inner (place_seen context)) (cycle_of (arranged_seen context inner)) else None) graph

-- an item below the first ambiguous one is clear
below_clear : (context : Context) (inner : List Flow) (old new : LinksValue) (ambiguities_old ambiguities : List ℕ) (v : ℕ) → ((k : ℕ) → has ambiguities_old k ≡ false) → LinksBy context (needs (atoms_seen context) inner (place_seen context).number) old ambiguities_old new ambiguities → has ambiguities v ≡ false → v < count_seen context
    → ambiguity_at (atoms_seen context) inner (place_seen context) v ≡ None
below_clear context inner old new ambiguities_old ambiguities v none is off below = clear_item context inner v
    (sym (ap (λ (b : Bool). b && list_any (is_ambiguous (atoms_seen context) (place_seen context) v) (needs (atoms_seen context) inner (place_seen context).number v)) (lt-ltb v (count_seen context) below)) ∙ (sym (ambiguity_told context inner old new ambiguities_old ambiguities v none is) ∙ off))

pub ambiguity_refused : (context : Context) (inner : List Flow) (old new : LinksValue) (ambiguities_old ambiguities : List ℕ) (item : ℕ) (told : Option CompileRefusal) → is_graph (place_seen context).kind ≡ true → ((k : ℕ) → has ambiguities_old k ≡ false)
    → LinksBy context (needs (atoms_seen context) inner (place_seen context).number) old ambiguities_old new ambiguities → first_below (room ambiguities) (has ambiguities) ≡ Some item → told ≡ ambiguity_at (atoms_seen context) inner (place_seen context) item → told ≡ refusal_seen context inner
ambiguity_refused context inner old new ambiguities_old ambiguities item told graph none is first told_is =
    let on : nat_lt item (count_seen context) && list_any (is_ambiguous (atoms_seen context) (place_seen context) item) (needs (atoms_seen context) inner (place_seen context).number item) ≡ true =
    sym (ambiguity_told context inner old new ambiguities_old ambiguities item none is) ∙ found_passes (room ambiguities) (has ambiguities) item first in
    let below : item < count_seen context = ltb-true item (count_seen context) (and_first (nat_lt item (count_seen context)) _ on) in
    let some : is_some (ambiguity_at (atoms_seen context) inner (place_seen context) item) ≡ true = ambiguous_item context inner item (and_second (nat_lt item (count_seen context)) _ on) in
    let whole : ambiguity (atoms_seen context) inner (place_seen context) ≡ ambiguity_at (atoms_seen context) inner (place_seen context) item =
    first_given (ambiguity_at (atoms_seen context) inner (place_seen context)) (length (place_seen context).items) item (omega (arith, below, length_items context)) some
    (λ j less. below_clear context inner old new ambiguities_old ambiguities j none is (first_before (room ambiguities) (has ambiguities) item j first less) (omega (arith, below, less))) in
    told_is ∙ sym (graph_refused context inner graph ∙ (ap (λ (o : Option CompileRefusal). option_or o (cycle_of (arranged_seen context inner))) whole ∙ kept_first (ambiguity_at (atoms_seen context) inner (place_seen context) item) (cycle_of (arranged_seen context inner)) some))

pub cycle_refused : (context : Context) (inner : List Flow) (old new : LinksValue) (ambiguities_old ambiguities : List ℕ) (told : Option CompileRefusal) → (place_seen context).kind ≡ kind.Graph → ((k : ℕ) → has ambiguities_old k ≡ false) → length ambiguities ≡ words_for (count_seen context)
    → LinksBy context (needs (atoms_seen context) inner (place_seen context).number) old ambiguities_old new ambiguities → first_below (room ambiguities) (has ambiguities) ≡ None
    → told ≡ first_cycle (place_seen context) (count_seen context) (linked_pairs (atoms_seen context) inner (place_seen context)) → told ≡ refusal_seen context inner
cycle_refused context inner old new ambiguities_old ambiguities told graph none wide is nobody told_is =
    let clear : ambiguity (atoms_seen context) inner (place_seen context) ≡ None =
    none_given (ambiguity_at (atoms_seen context) inner (place_seen context)) (length (place_seen context).items)
    (λ k below. below_clear context inner old new ambiguities_old ambiguities k none is (none_at (room ambiguities) (has ambiguities) k nobody (omega (arith, below, length_items context, wide))) (omega (arith, below, length_items context))) in
    told_is ∙ (ap (λ (n : ℕ). first_cycle (place_seen context) n (linked_pairs (atoms_seen context) inner (place_seen context))) (sym (length_items context))
    ∙ sym (graph_refused context inner (ap is_graph graph) ∙ ap (λ (o : Option CompileRefusal). option_or o (cycle_of (arranged_seen context inner))) clear))

pub graph_refusal : (context : Context) (inner : List Flow) (old new : LinksValue) (ambiguities_old ambiguities : List ℕ) (told : Option CompileRefusal) (o : Option ℕ) → first_below (room ambiguities) (has ambiguities) ≡ o → (place_seen context).kind ≡ kind.Graph → ((k : ℕ) → has ambiguities_old k ≡ false) → length ambiguities ≡ words_for (count_seen context)
    → LinksBy context (needs (atoms_seen context) inner (place_seen context).number) old ambiguities_old new ambiguities
    → ((item : ℕ) → first_below (room ambiguities) (has ambiguities) ≡ Some item → told ≡ ambiguity_at (atoms_seen context) inner (place_seen context) item)
    → (first_below (room ambiguities) (has ambiguities) ≡ None → told ≡ first_cycle (place_seen context) (count_seen context) (linked_pairs (atoms_seen context) inner (place_seen context))) → told ≡ refusal_seen context inner
graph_refusal context inner old new ambiguities_old ambiguities told (Some item) first graph none wide is ambiguity cycle_is = ambiguity_refused context inner old new ambiguities_old ambiguities item told (ap is_graph graph) none is first (ambiguity item first)
graph_refusal context inner old new ambiguities_old ambiguities told None first graph none wide is ambiguity cycle_is = cycle_refused context inner old new ambiguities_old ambiguities told graph none wide is first (cycle_is first)

pub reach_as : (count other : ℕ) (pairs : List Pair) (rows same : List (List ℕ)) → AreReached count (reached count pairs) rows → count ≡ other → same ≡ rows → AreReached other (reached other pairs) same
reach_as count other pairs rows same is counted shown = subst (λ (n : ℕ). AreReached n (reached n pairs) same) counted (subst (AreReached count (reached count pairs)) (sym shown) is)
