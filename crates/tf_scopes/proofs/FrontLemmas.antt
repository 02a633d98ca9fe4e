-- The scope of an atom, read off the standing order of all atoms.
use Rattle.std.proofs.Common.{◌≡◌, ℕ, List, [], ◌∷◌, ◌++◌, Bool, true, false, not, ◌&&◌, ◌||◌, Option, refl, sym, ap, ◌∙◌, inl, inr, eqb-true, eq-eqb}
use Rattle.std.specs.Prelude.{cond, nat_eq, filter, reverse, flat_map, take_while}
use Rattle.std.specs.List.{list_any}
use Rattle.std.proofs.lemmas.Bool.{ne_eqb}
use Rattle.std.proofs.lemmas.List.{reverse-append}
use Rattle.std.proofs.lemmas.List.Sums.{take_while-cons}
use Rattle.tf_flow.specs.declared.paths.Turn.{Turn}
use Rattle.tf_model.specs.Before.{find_flow, passes_flow, passes_item, takes_item, same_place}
use Rattle.tf_model.specs.Plan.{Outline}
use Rattle.tf_model.proofs.Told.{standing_in}
use Rattle.tf_model.specs.Scope.{is_elsewhere, is_earlier, members_in}
use Rattle.tf_model.proofs.PathLemmas.{turn_to}
use Rattle.tf_numbers.specs.Numbers.{has_number}
use Rattle.tf_numbers.proofs.EquationLemmas.{ap2}
use Rattle.tf_numbers.proofs.ListLemmas.{nothing_after, append_chain, filter_append}
use Rattle.tf_numbers.proofs.NumberLemmas.{same_or_other}
use Rattle.tf_numbers.proofs.PairLemmas.{any_right, any_flat}
use Rattle.tf_numbers.proofs.TruthLemmas.{or_either, true_first, true_second, clash, or_false, neither_first, neither_second}
use Rattle.tf_scopes.specs.Standing.{is_other}

-- ---- the fronts of the flows on a path

-- what stands in front of the items that a path takes, from the root on
abbrev pub front : Outline → List Turn → List ℕ
front plan [] = []
front plan (turn ∷ turns) = take_while (is_elsewhere plan turn) (standing_in (find_flow plan.flows turn.flow)) ++ front plan turns

flat_both : {X : Type 0} (f : X → List ℕ) (xs : List X) (x : X) → flat_map f (xs ++ x ∷ []) ≡ flat_map f xs ++ f x
flat_both f [] x = nothing_after (f x)
flat_both f (y ∷ ys) x = ap (λ (zs : List ℕ). f y ++ zs) (flat_both f ys x) ∙ sym (append_chain (f y) (flat_map f ys) (f x))

-- the members are those of the fronts that are before the atom, backwards
pub members_front : (plan : Outline) (y : ℕ) (turns : List Turn) → flat_map (members_in plan y) (reverse turns) ≡ filter (is_earlier plan y) (reverse (front plan turns))
members_front plan y [] = refl
members_front plan y (turn ∷ turns) =
    let here = take_while (is_elsewhere plan turn) (standing_in (find_flow plan.flows turn.flow)) in
    ap (flat_map (members_in plan y)) (reverse-append (turn ∷ []) turns)
    ∙ (flat_both (members_in plan y) (reverse turns) turn
    ∙ (ap (λ (xs : List ℕ). xs ++ members_in plan y turn) (members_front plan y turns)
    ∙ (sym (filter_append (is_earlier plan y) (reverse (front plan turns)) (reverse here))
    ∙ ap (filter (is_earlier plan y)) (sym (reverse-append here (front plan turns))))))

-- ---- lists up to a number

stops : (y : ℕ) (xs rest : List ℕ) → has_number xs y ≡ true → take_while (is_other y) (xs ++ rest) ≡ take_while (is_other y) xs
stops y [] rest on = absurd (cc)
stops y (x ∷ xs) rest on =
    take_while-cons (is_other y) x (xs ++ rest)
    ∙ (by (nat_eq x y) refl (stops y xs rest)
    ∙ sym (take_while-cons (is_other y) x xs))
  where
    by : (b : Bool) → nat_eq x y ≡ b → (has_number xs y ≡ true → take_while (is_other y) (xs ++ rest) ≡ take_while (is_other y) xs) → cond (not b) (x ∷ take_while (is_other y) (xs ++ rest)) [] ≡ cond (not b) (x ∷ take_while (is_other y) xs) []
    by true is later = refl
    by false is later = elim (or_either (nat_eq y x) (has_number xs y) on) [
      | inl here ↦ absurd (clash (nat_eq x y) (eq-eqb x y (sym (eqb-true y x here))) is)
      | inr there ↦ ap (λ (zs : List ℕ). x ∷ zs) (later there)
    ]

has_first : (x : ℕ) (xs : List ℕ) → has_number (x ∷ xs) x ≡ true
has_first x xs = true_first (nat_eq x x) (has_number xs x) (eq-eqb x x refl)

begins_inside : (test : ℕ → Bool) (y : ℕ) (xs rest : List ℕ) → has_number xs y ≡ true → ((b : ℕ) → has_number xs b ≡ true → test b ≡ false) → take_while test (xs ++ rest) ≡ []
begins_inside test y [] rest on each = absurd (cc)
begins_inside test y (x ∷ xs) rest on each = take_while-cons test x (xs ++ rest) ∙ ap (λ (b : Bool). cond b (x ∷ take_while test (xs ++ rest)) []) (each x (has_first x xs))

goes_over : (test : ℕ → Bool) (xs rest : List ℕ) → ((b : ℕ) → has_number xs b ≡ true → test b ≡ true) → take_while test (xs ++ rest) ≡ xs ++ take_while test rest
goes_over test [] rest each = refl
goes_over test (x ∷ xs) rest each =
    take_while-cons test x (xs ++ rest)
    ∙ (ap (λ (b : Bool). cond b (x ∷ take_while test (xs ++ rest)) []) (each x (has_first x xs))
    ∙ ap (λ (zs : List ℕ). x ∷ zs) (goes_over test xs rest (λ b on. each b (true_second (nat_eq b x) (has_number xs b) on))))

other_than : (test : ℕ → Bool) (y b : ℕ) → test y ≡ false → test b ≡ true → is_other y b ≡ true
other_than test y b off on = ap not (ne_eqb b y (λ same. clash (test b) on (ap test same ∙ off)))

-- the front of the items of a flow, and then what stands before the number in its item
items_front : (y v : ℕ) (outside : ℕ → Bool) (f : ℕ → List ℕ) (order : List ℕ) → has_number order v ≡ true → has_number (f v) y ≡ true → ((u b : ℕ) → has_number (f u) b ≡ true → outside b ≡ not (nat_eq u v))
    → take_while outside (flat_map f order) ++ take_while (is_other y) (f v) ≡ take_while (is_other y) (flat_map f order)
items_front y v outside f [] listed here each = absurd (cc)
items_front y v outside f (u ∷ us) listed here each =
    let inside : outside y ≡ false = each v y here ∙ ap not (eq-eqb v v refl) in
    elim (same_or_other u v) [
      | inl same ↦
          let there : has_number (f u) y ≡ true = ap (λ (w : ℕ). has_number (f w) y) same ∙ here in
          ap2 (λ (xs ys : List ℕ). xs ++ ys) (begins_inside outside y (f u) (flat_map f us) there (λ b on. each u b on ∙ ap not (eq-eqb u v same))) (ap (λ (w : ℕ). take_while (is_other y) (f w)) (sym same))
          ∙ sym (stops y (f u) (flat_map f us) there)
      | inr other ↦
          let out : (b : ℕ) → has_number (f u) b ≡ true → outside b ≡ true = λ b on. each u b on ∙ ap not (ne_eqb u v other) in
          let later : has_number us v ≡ true = elim (or_either (nat_eq v u) (has_number us v) listed) [ inl now ↦ absurd (other (sym (eqb-true v u now))) | inr after ↦ after ] in
          ap (λ (xs : List ℕ). xs ++ take_while (is_other y) (f v)) (goes_over outside (f u) (flat_map f us) out)
          ∙ (append_chain (f u) (take_while outside (flat_map f us)) (take_while (is_other y) (f v))
          ∙ (ap (λ (xs : List ℕ). f u ++ xs) (items_front y v outside f us later here each)
          ∙ sym (goes_over (is_other y) (f u) (flat_map f us) (λ b on. other_than outside y b inside (out b on)))))
    ]

-- the same with what stands before all items
pub flow_front : (y v : ℕ) (outside : ℕ → Bool) (f : ℕ → List ℕ) (order first : List ℕ) → has_number order v ≡ true → has_number (f v) y ≡ true → ((u b : ℕ) → has_number (f u) b ≡ true → outside b ≡ not (nat_eq u v))
    → ((b : ℕ) → has_number first b ≡ true → outside b ≡ true) → take_while outside (first ++ flat_map f order) ++ take_while (is_other y) (f v) ≡ take_while (is_other y) (first ++ flat_map f order)
flow_front y v outside f order first listed here each before =
    let inside : outside y ≡ false = each v y here ∙ ap not (eq-eqb v v refl) in
    ap (λ (xs : List ℕ). xs ++ take_while (is_other y) (f v)) (goes_over outside first (flat_map f order) before)
    ∙ (append_chain first (take_while outside (flat_map f order)) (take_while (is_other y) (f v))
    ∙ (ap (λ (xs : List ℕ). first ++ xs) (items_front y v outside f order listed here each)
    ∙ sym (goes_over (is_other y) first (flat_map f order) (λ b on. other_than outside y b inside (before b on)))))

any_of : (p : ℕ → Bool) (xs : List ℕ) (v : ℕ) → has_number xs v ≡ true → p v ≡ true → list_any p xs ≡ true
any_of p [] v listed on = absurd (cc)
any_of p (x ∷ xs) v listed on = elim (or_either (nat_eq v x) (has_number xs v) listed) [
  | inl here ↦ true_first (p x) (list_any p xs) (ap p (sym (eqb-true v x here)) ∙ on)
  | inr there ↦ true_second (p x) (list_any p xs) (any_of p xs v there on)
]

pub flow_has : (y v : ℕ) (f : ℕ → List ℕ) (order first : List ℕ) → has_number order v ≡ true → has_number (f v) y ≡ true → has_number (first ++ flat_map f order) y ≡ true
flow_has y v f order first listed here = any_right (nat_eq y) first (flat_map f order) (any_flat (nat_eq y) f order ∙ any_of (λ u. has_number (f u) y) order v listed here)

-- ---- paths through an item

off_item : (g : ℕ) (item : Option ℕ) (w : List Turn) → passes_flow g w ≡ false → passes_item g item w ≡ false
off_item g item [] off = refl
off_item g item (x ∷ xs) off =
    ap2 (λ (a b : Bool). a || b) (ap (λ (b : Bool). b && same_place x.item item) (neither_first (nat_eq x.flow g) (passes_flow g xs) off)) (off_item g item xs (neither_second (nat_eq x.flow g) (passes_flow g xs) off))

pub at_item : (g : ℕ) (taken : Option ℕ) (item : Option ℕ) (w rest : List Turn) → passes_flow g w ≡ false → passes_flow g rest ≡ false → passes_item g item (w ++ turn_to g taken ∷ rest) ≡ takes_item g item (turn_to g taken)
at_item g taken item [] rest off after = ap (λ (b : Bool). takes_item g item (turn_to g taken) || b) (off_item g item rest after) ∙ or_false (takes_item g item (turn_to g taken))
at_item g taken item (x ∷ xs) rest off after =
    ap2 (λ (a b : Bool). a || b) (ap (λ (b : Bool). b && same_place x.item item) (neither_first (nat_eq x.flow g) (passes_flow g xs) off)) (at_item g taken item xs rest (neither_second (nat_eq x.flow g) (passes_flow g xs) off) after)
