-- The shortest cycle through an item, by the layers of what leads to it.
use Rattle.std.proofs.Common.{◌≡◌, ◌≢◌, ℕ, zero, suc, ◌+◌, ◌<◌, ◌≤◌, List, [], ◌∷◌, ◌++◌, length, Bool, true, false, ◌&&◌, ◌||◌, Option, Some, None, refl, sym, ap, subst, ◌∙◌, add-one, append_assoc, inl, inr, arith, eqb-true, eq-eqb, slice_index_or}
use Rattle.std.specs.Prelude.{nat_eq, is_some, if◌then◌else◌}
use Rattle.std.specs.List.{list_any}
use Rattle.std.proofs.lemmas.Bool.{cases_lt}
use Rattle.tf_numbers.specs.Numbers.{has_number, first_below, Pair, has_pair}
use Rattle.tf_links.specs.Graphs.{leads_to_one, reaching, goes_on_by, go_on, walk_to, comes_back, walk_back, shortest_cycle}
use Rattle.tf_numbers.proofs.TruthLemmas.{and_first, and_second, or_either, true_first, true_second, true_both, same_truth, clash}
use Rattle.tf_numbers.proofs.PairLemmas.{which_passes, passes_which}
use Rattle.tf_links.specs.Bits.{has, words_for}
use Rattle.tf_links.specs.Links.{leads, LinksValue, AreLinks}
use Rattle.tf_links.specs.Layers.{goes_into, first_into, leads_to_passing, first_passing, in_layer, walk_by, AreLayers}
use Rattle.tf_numbers.proofs.BelowLemmas.{first_same, first_is, first_none, found_passes, found_below, first_there}
use Rattle.tf_numbers.proofs.EquationLemmas.{ap2}
use Rattle.tf_links.proofs.StandingLemmas.{number_more}
use Rattle.tf_links.proofs.LinkLemmas.{row_zero}
use Rattle.tf_numbers.proofs.ListLemmas.{read_more, read_last, length_more}

-- ---- what leads into a set

-- the items below i were looked at
pub record IntoBelow (links : LinksValue) (set found : List ℕ) (i : ℕ) : Type 0 where
  pub width : length found ≡ words_for links.count
  pub told : (u : ℕ) → u < i → has found u ≡ is_some (first_into links set u)

pub into_start : (links : LinksValue) (set found : List ℕ) → length found ≡ words_for links.count → IntoBelow links set found 0
into_start links set found wide = record { width = wide; told = λ u below. absurd (omega arith) }

pub into_next : (links : LinksValue) (set found new : List ℕ) (i : ℕ) (on : Bool) → IntoBelow links set found i → length new ≡ length found → on ≡ is_some (first_into links set i)
    → ((u : ℕ) → has new u ≡ (if nat_eq i u then on else has found u)) → IntoBelow links set new (i + 1)
into_next links set found new i on before wide is put = record { width = wide ∙ before.width; told = λ u below. put u ∙ by_item u below (nat_eq i u) refl }
  where
    by_item : (u : ℕ) → u < i + 1 → (b : Bool) → nat_eq i u ≡ b → (if b then on else has found u) ≡ is_some (first_into links set u)
    by_item u below true same = is ∙ ap (λ (k : ℕ). is_some (first_into links set k)) (eqb-true i u same)
    by_item u below false other = before.told u (let differ : i ≢ u = λ same. clash (nat_eq i u) (eq-eqb i u same) other in omega (arith, below, differ))

pub into_all : (links : LinksValue) (set found : List ℕ) (i : ℕ) → IntoBelow links set found i → links.count ≤ i → (u : ℕ) → u < links.count → has found u ≡ is_some (first_into links set u)
into_all links set found i is whole u below = is.told u (omega (arith, below, whole))

-- ---- layers

pub into_layer : (links : LinksValue) (item : ℕ) (set : List ℕ) (k u : ℕ) → ((w : ℕ) → w < links.count → has set w ≡ in_layer links item k w) → first_into links set u ≡ first_passing links (in_layer links item k) u
unfolding first_into
into_layer links item set k u is = first_same links.count (goes_into links set u) (leads_to_passing links (in_layer links item k) u) (λ w below. ap (λ (b : Bool). leads links.rows u w && b) (is w below))

pub layers_start : (links : LinksValue) (item : ℕ) (layers : List (List ℕ)) (set : List ℕ) → layers ≡ set ∷ [] → length set ≡ words_for links.count → ((u : ℕ) → has set u ≡ nat_eq item u) → AreLayers links item layers 1
layers_start links item layers set is wide only = subst (λ (ls : List (List ℕ)). AreLayers links item ls 1) (sym is) (record {
  height = refl;
  width = λ k below. let none : k ≡ 0 = omega (arith, below) in ap (λ (j : ℕ). length (slice_index_or (set ∷ []) j [])) none ∙ wide;
  told = λ k below u inside. let none : k ≡ 0 = omega (arith, below) in ap (λ (j : ℕ). has (slice_index_or (set ∷ []) j []) u) none ∙ (only u ∙ ap (λ (j : ℕ). in_layer links item j u) (sym none));
})

pub layers_more : (links : LinksValue) (item : ℕ) (layers : List (List ℕ)) (k : ℕ) (last layer : List ℕ) → AreLayers links item layers (k + 1) → last ≡ slice_index_or layers k last → length layer ≡ words_for links.count
    → ((u : ℕ) → u < links.count → has layer u ≡ is_some (first_into links last u)) → AreLayers links item (layers ++ layer ∷ []) (k + 1 + 1)
layers_more links item layers k last layer is read wide into = record {
  height = length_more layers layer ∙ ap (λ (n : ℕ). n + 1) is.height;
  width = λ j below. elim (cases_lt j (length layers)) [
    | inl before ↦ ap length (read_more layers layer j before) ∙ is.width j (omega (arith, before, is.height))
    | inr from ↦ let same : j ≡ length layers = omega (arith, from, below, is.height) in ap length (ap (λ (n : ℕ). slice_index_or (layers ++ layer ∷ []) n []) same ∙ read_last layers layer) ∙ wide
  ];
  told = λ j below u inside. elim (cases_lt j (length layers)) [
    | inl before ↦ ap (λ (row : List ℕ). has row u) (read_more layers layer j before) ∙ is.told j (omega (arith, before, is.height)) u inside
    | inr from ↦ let same : j ≡ length layers = omega (arith, from, below, is.height) in
        ap (λ (row : List ℕ). has row u) (ap (λ (n : ℕ). slice_index_or (layers ++ layer ∷ []) n []) same ∙ read_last layers layer)
        ∙ (into u inside ∙ (ap is_some (into_layer links item last k u (λ w within. ap (λ (row : List ℕ). has row w) (row_zero layers k last (omega (arith, is.height)) read) ∙ is.told k (omega arith) w within))
        ∙ ap (λ (n : ℕ). in_layer links item n u) (let next : suc k ≡ j = omega (arith, same, is.height) in next)))
  ];
}

-- what a layer has is what the definition reaches
any_number : (p : ℕ → Bool) (xs : List ℕ) (w : ℕ) → has_number xs w ≡ true → p w ≡ true → list_any p xs ≡ true
any_number p [] w on is = absurd (cc)
any_number p (x ∷ xs) w on is = elim (or_either (nat_eq w x) (has_number xs w) on) [
  | inl here ↦ true_first (p x) (list_any p xs) (ap p (sym (eqb-true w x here)) ∙ is)
  | inr there ↦ true_second (p x) (list_any p xs) (any_number p xs w there is)
]

record OneOf (p : ℕ → Bool) (xs : List ℕ) : Type 0 where
  number : ℕ
  among : has_number xs number ≡ true
  passes : p number ≡ true

one_of : (p : ℕ → Bool) (xs : List ℕ) → list_any p xs ≡ true → OneOf p xs
one_of p [] is = absurd (cc)
one_of p (x ∷ xs) is = elim (or_either (p x) (list_any p xs) is) [
  | inl here ↦ record { number = x; among = true_first (nat_eq x x) (has_number xs x) (eq-eqb x x refl); passes = here }
  | inr there ↦ let found = one_of p xs there in record { number = found.number; among = true_second (nat_eq found.number x) (has_number xs found.number) found.among; passes = found.passes }
]

record Found (o : Option ℕ) : Type 0 where
  number : ℕ
  is : o ≡ Some number

there_is : (o : Option ℕ) → is_some o ≡ true → Found o
there_is (Some x) is = record { number = x; is = refl }
there_is None is = absurd (cc)

layer_told : (links : LinksValue) (pairs : List Pair) (item : ℕ) → AreLinks links pairs → (k u : ℕ) → u < links.count → in_layer links item k u ≡ has_number (reaching links.count pairs item k) u
layer_told links pairs item are zero u below = turned (nat_eq item u) (nat_eq u item) (same_truth (nat_eq item u) (nat_eq u item) (λ is. eq-eqb u item (sym (eqb-true item u is))) (λ is. eq-eqb item u (sym (eqb-true u item is))))
  where
    turned : (a b : Bool) → a ≡ b → a ≡ b || false
    turned a true is = is
    turned a false is = is
layer_told links pairs item are (suc k) u below = same_truth (is_some (first_passing links (in_layer links item k) u)) (has_number (reaching links.count pairs item (suc k)) u)
    (λ is. let found = there_is (first_passing links (in_layer links item k) u) is in
    let passes : leads links.rows u found.number && in_layer links item k found.number ≡ true = found_passes links.count (leads_to_passing links (in_layer links item k) u) found.number found.is in
    let within : found.number < links.count = found_below links.count (leads_to_passing links (in_layer links item k) u) found.number found.is in
    passes_which links.count (leads_to_one pairs (reaching links.count pairs item k)) (nat_eq u) u below
    (any_number (has_pair pairs u) (reaching links.count pairs item k) found.number
    (sym (layer_told links pairs item are k found.number within) ∙ and_second (leads links.rows u found.number) (in_layer links item k found.number) passes)
    (sym (are.same u found.number) ∙ and_first (leads links.rows u found.number) (in_layer links item k found.number) passes))
    (eq-eqb u u refl))
    (λ is. let found = which_passes links.count (leads_to_one pairs (reaching links.count pairs item k)) (nat_eq u) is in
    let same : u ≡ found.number = eqb-true u found.number found.passes in
    let one = one_of (has_pair pairs u) (reaching links.count pairs item k) (ap (λ (n : ℕ). leads_to_one pairs (reaching links.count pairs item k) n) same ∙ found.tested) in
    let within : one.number < links.count = are.second u one.number one.passes in
    first_there links.count (leads_to_passing links (in_layer links item k) u) one.number within
    (true_both (leads links.rows u one.number) (in_layer links item k one.number) (are.same u one.number ∙ one.passes) (layer_told links pairs item are k one.number within ∙ one.among)))

-- ---- walks

go_same : (n : ℕ) (o : Option ℕ) (f g : ℕ → List ℕ) → ((w : ℕ) → o ≡ Some w → f w ≡ g w) → go_on o f ≡ go_on o g
go_same n None f g each = refl
go_same n (Some w) f g each = each w refl

walk_told : (links : LinksValue) (pairs : List Pair) (item : ℕ) → AreLinks links pairs → (k u : ℕ) → walk_by links item k u ≡ walk_to links.count pairs item k u
walk_told links pairs item are zero u = refl
walk_told links pairs item are (suc k) u = ap (λ (xs : List ℕ). u ∷ xs)
    (ap (λ (o : Option ℕ). go_on o (walk_by links item k)) (first_same links.count (leads_to_passing links (in_layer links item (suc k)) u) (goes_on_by links.count pairs item (suc k) u)
    (λ w below. ap2 (λ (a b : Bool). a && b) (are.same u w) (layer_told links pairs item are (suc k) w below)))
    ∙ go_same links.count (first_below links.count (goes_on_by links.count pairs item (suc k) u)) (walk_by links item k) (walk_to links.count pairs item k) (λ w is. walk_told links pairs item are k w))

pub came_back : (links : LinksValue) (item k : ℕ) (layer last : List ℕ) (layers : List (List ℕ)) → AreLayers links item layers (k + 1) → last ≡ slice_index_or layers k last
    → ((u : ℕ) → u < links.count → has layer u ≡ is_some (first_into links last u)) → item < links.count → k < links.count → has layer item ≡ true → ((j : ℕ) → j < k → in_layer links item (suc j) item ≡ false)
    → (pairs : List Pair) → AreLinks links pairs → walk_by links item k item ≡ shortest_cycle links.count pairs item
came_back links item k layer last layers is read into below inside on never pairs are =
    walk_told links pairs item are k item
    ∙ sym (ap (walk_back links.count pairs item) (first_is links.count (comes_back links.count pairs item) k inside
    (sym (layer_told links pairs item are (suc k) item below)
    ∙ (ap is_some (sym (into_layer links item last k item (λ w within. ap (λ (row : List ℕ). has row w) (row_zero layers k last (omega (arith, is.height)) read) ∙ is.told k (omega arith) w within))) ∙ (sym (into item below) ∙ on)))
    (λ j less. sym (layer_told links pairs item are (suc j) item below) ∙ never j less)))

pub not_yet_back : (links : LinksValue) (item k : ℕ) (layer last : List ℕ) (layers : List (List ℕ)) → AreLayers links item layers (k + 1) → last ≡ slice_index_or layers k last
    → ((u : ℕ) → u < links.count → has layer u ≡ is_some (first_into links last u)) → item < links.count → has layer item ≡ false → ((j : ℕ) → j < k → in_layer links item (suc j) item ≡ false)
    → (j : ℕ) → j < k + 1 → in_layer links item (suc j) item ≡ false
not_yet_back links item k layer last layers is read into below off never j less = elim (cases_lt j k) [
  | inl before ↦ never j before
  | inr from ↦ let same : j ≡ k = omega (arith, from, less) in
      ap (λ (n : ℕ). in_layer links item (suc n) item) same
      ∙ (ap is_some (sym (into_layer links item last k item (λ w within. ap (λ (row : List ℕ). has row w) (row_zero layers k last (omega (arith, is.height)) read) ∙ is.told k (omega arith) w within))) ∙ (sym (into item below) ∙ off))
]

pub never_back : (links : LinksValue) (item k : ℕ) (items : List ℕ) → items ≡ [] → item < links.count → links.count ≤ k → ((j : ℕ) → j < k → in_layer links item (suc j) item ≡ false)
    → (pairs : List Pair) → AreLinks links pairs → items ≡ shortest_cycle links.count pairs item
never_back links item k items none below whole never pairs are =
    none ∙ sym (ap (walk_back links.count pairs item) (first_none links.count (comes_back links.count pairs item) (λ j inside. sym (layer_told links pairs item are (suc j) item below) ∙ never j (omega (arith, inside, whole)))))

-- ---- one walk, turn by turn

-- what was walked, with the rest of the walk from here
pub record Walking (links : LinksValue) (item whole : ℕ) (items : List ℕ) (at rest : ℕ) : Type 0 where
  pub below : at < links.count
  pub within : (k : ℕ) → has_number items k ≡ true → k < links.count
  pub walked : items ++ walk_by links item rest at ≡ walk_by links item whole item

pub more_within : (count : ℕ) (items : List ℕ) (at : ℕ) → at < count → ((k : ℕ) → has_number items k ≡ true → k < count) → (k : ℕ) → has_number (items ++ at ∷ []) k ≡ true → k < count
more_within count items at below within k on = elim (or_either (has_number items k) (nat_eq k at) (sym (number_more items at k) ∙ on)) [
  | inl before ↦ within k before
  | inr last ↦ let same : k ≡ at = eqb-true k at last in omega (arith, same, below)
]

pub walk_start : (links : LinksValue) (item whole : ℕ) (items : List ℕ) → item < links.count → items ≡ [] → Walking links item whole items item whole
walk_start links item whole items below none = record { below = below; within = λ k on. absurd (clash (has_number items k) on (ap (λ (xs : List ℕ). has_number xs k) none)); walked = ap (λ (xs : List ℕ). xs ++ walk_by links item whole item) none }

pub walk_on : (links : LinksValue) (item whole : ℕ) (items : List ℕ) (at rest k next : ℕ) (layers : List (List ℕ)) (layer : List ℕ) → Walking links item whole items at rest → rest ≡ k + 1 → AreLayers links item layers (whole + 1) → k < whole
    → layer ≡ slice_index_or layers (k + 1) layer → Some next ≡ first_into links layer at → Walking links item whole (items ++ at ∷ []) next k
walk_on links item whole items at rest k next layers layer is same are less read first =
    let found : first_passing links (in_layer links item (suc k)) at ≡ Some next =
    sym (first ∙ into_layer links item layer (suc k) at (λ w within. ap (λ (row : List ℕ). has row w) (row_zero layers (k + 1) layer (omega (arith, are.height, less)) read) ∙ (are.told (k + 1) (omega (arith, less)) w within ∙ ap (λ (n : ℕ). in_layer links item n w) (add-one k)))) in
    record {
      below = found_below links.count (leads_to_passing links (in_layer links item (suc k)) at) next found;
      within = more_within links.count items at is.below is.within;
      walked = append_assoc items (at ∷ []) (walk_by links item k next)
          ∙ (ap (λ (o : Option ℕ). items ++ at ∷ go_on o (walk_by links item k)) (sym found)
          ∙ (ap (λ (n : ℕ). items ++ walk_by links item n at) (sym (same ∙ add-one k)) ∙ is.walked));
    }

pub walk_off : (links : LinksValue) (item whole : ℕ) (items : List ℕ) (at rest k : ℕ) (layers : List (List ℕ)) (layer : List ℕ) → Walking links item whole items at rest → rest ≡ k + 1 → AreLayers links item layers (whole + 1) → k < whole
    → layer ≡ slice_index_or layers (k + 1) layer → first_into links layer at ≡ None → items ++ at ∷ [] ≡ walk_by links item whole item
walk_off links item whole items at rest k layers layer is same are less read none =
    let found : first_passing links (in_layer links item (suc k)) at ≡ None =
    sym (into_layer links item layer (suc k) at (λ w within. ap (λ (row : List ℕ). has row w) (row_zero layers (k + 1) layer (omega (arith, are.height, less)) read) ∙ (are.told (k + 1) (omega (arith, less)) w within ∙ ap (λ (n : ℕ). in_layer links item n w) (add-one k)))) ∙ none in
    ap (λ (o : Option ℕ). items ++ at ∷ go_on o (walk_by links item k)) (sym found)
    ∙ (ap (λ (n : ℕ). items ++ walk_by links item n at) (sym (same ∙ add-one k)) ∙ is.walked)

pub walk_end : (links : LinksValue) (item whole : ℕ) (items : List ℕ) (at rest : ℕ) → Walking links item whole items at rest → rest ≡ 0 → items ++ at ∷ [] ≡ walk_by links item whole item
walk_end links item whole items at rest is none = ap (λ (n : ℕ). items ++ walk_by links item n at) (sym none) ∙ is.walked
