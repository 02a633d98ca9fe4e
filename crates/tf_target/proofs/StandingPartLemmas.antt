-- What is kept of a root stands in the order in which it stands in the whole.
use Rattle.std.proofs.Common.{◌≡◌, ◌∙◌, ℕ, zero, suc, ◌+◌, ◌<◌, ◌≤◌, List, [], ◌∷◌, ◌++◌, map, filter, Bool, true, false, not, ◌&&◌, ◌||◌, Option, Some, None, refl, sym, ap, inl, inr, arith, eqb-true, eq-eqb}
use Rattle.std.specs.Prelude.{nat_eq, if◌then◌else◌}
use Rattle.std.specs.List.{list_all}
use Rattle.std.proofs.lemmas.Bool.{cases_lt}
use Rattle.std.proofs.lemmas.List.{map-append}
use Rattle.tf_links.specs.Graphs.{AreBelow, Chain, is_behind, is_next, take_one, take_items, standing_items}
use Rattle.tf_links.proofs.StandingLawLemmas.{all_stand}
use Rattle.tf_numbers.specs.Numbers.{has_number, first_below, Pair, is_pair, has_pair}
use Rattle.tf_numbers.proofs.BelowLemmas.{found_passes, found_below, first_before, first_is, first_none}
use Rattle.tf_numbers.proofs.EquationLemmas.{ap2}
use Rattle.tf_numbers.proofs.ListLemmas.{filter_append, nothing_after}
use Rattle.tf_numbers.proofs.TruthLemmas.{same_truth, never_true, clash, and_first, and_second, true_both, true_first, true_second, or_either, not_true, or_of_not}
use Rattle.tf_target.proofs.ImageLemmas.{Image}

-- where all pairs are behind v, all that lead to v were taken
all_behind : (taken : List ℕ) (v : ℕ) (linked : List Pair) → list_all (is_behind taken v) linked ≡ true → (u : ℕ) → has_pair linked u v ≡ true → has_number taken u ≡ true
all_behind taken v [] each u is = absurd (cc)
all_behind taken v (p ∷ linked) each u is = elim (or_either (is_pair u v p) (has_pair linked u v) is) [
  | inl here ↦
      let from : p.first ≡ u = eqb-true p.first u (and_first (nat_eq p.first u) (nat_eq p.second v) here) in
      let to : nat_eq p.second v ≡ true = and_second (nat_eq p.first u) (nat_eq p.second v) here in
      elim (or_either (not (nat_eq p.second v)) (has_number taken p.first) (and_first (is_behind taken v p) (list_all (is_behind taken v) linked) each)) [
        | inl other ↦ absurd (clash (nat_eq p.second v) to (not_true (nat_eq p.second v) other))
        | inr on ↦ ap (has_number taken) (sym from) ∙ on
      ]
  | inr there ↦ all_behind taken v linked (and_second (is_behind taken v p) (list_all (is_behind taken v) linked) each) u there
]

-- and the other way round
are_behind : (taken : List ℕ) (v : ℕ) (linked : List Pair) → ((u : ℕ) → has_pair linked u v ≡ true → has_number taken u ≡ true) → list_all (is_behind taken v) linked ≡ true
are_behind taken v [] each = refl
are_behind taken v (p ∷ linked) each = true_both (is_behind taken v p) (list_all (is_behind taken v) linked)
    (or_of_not (nat_eq p.second v) (has_number taken p.first) (λ to. each p.first (true_first (is_pair p.first v p) (has_pair linked p.first v)
    (true_both (nat_eq p.first p.first) (nat_eq p.second v) (eq-eqb p.first p.first refl) to))))
    (are_behind taken v linked (λ u is. each u (true_second (is_pair u v p) (has_pair linked u v) is)))

filter_has : (test : ℕ → Bool) (xs : List ℕ) (x : ℕ) → test x ≡ true → has_number (filter test xs) x ≡ has_number xs x
filter_has test [] x on = refl
filter_has test (y ∷ ys) x on = either (test y) refl (filter_has test ys x on)
  where
    either : (b : Bool) → test y ≡ b → has_number (filter test ys) x ≡ has_number ys x → has_number (if b then y ∷ filter test ys else filter test ys) x ≡ (nat_eq x y || has_number ys x)
    either true is rest = ap (λ b. nat_eq x y || b) rest
    either false is rest = rest ∙ sym (ap (λ b. b || has_number ys x) (never_true (nat_eq x y) (λ same. clash (test y) (ap test (sym (eqb-true x y same)) ∙ on) is)))

-- once all items were taken, no round takes another
stays : (n : ℕ) (linked : List Pair) (k m : ℕ) → ((w : ℕ) → w < n → has_number (take_items n k linked) w ≡ true) → k ≤ m → take_items n m linked ≡ take_items n k linked
stays n linked k zero each le = let e : 0 ≡ k = omega (arith, le) in ap (λ (j : ℕ). take_items n j linked) e
stays n linked k (suc m) each le = elim (cases_lt m k) [
  | inl less ↦ let e : suc m ≡ k = omega (arith, le, less) in ap (λ (j : ℕ). take_items n j linked) e
  | inr from ↦
      let before : take_items n m linked ≡ take_items n k linked = stays n linked k m each from in
      ap2 (λ (o : Option ℕ) (xs : List ℕ). take_one o xs)
      (ap (λ (xs : List ℕ). first_below n (is_next linked xs)) before
      ∙ first_none n (is_next linked (take_items n k linked)) (λ w below. ap (λ b. not b && list_all (is_behind (take_items n k linked) w) linked) (each w below)))
      before
]

module _ (it : ℕ → ℕ) (few many : ℕ) (linked' linked : List Pair) (test : ℕ → Bool) (rises : (u v : ℕ) → u < v → it u < it v) (once : (u v : ℕ) → it u ≡ it v → u ≡ v)
    (within : (u : ℕ) → u < few → it u < many) (keeps : (u : ℕ) → u < few → test (it u) ≡ true) (found : (v : ℕ) → v < many → test v ≡ true → Image it few v)
    (same : (u v : ℕ) → u < few → v < few → has_pair linked (it u) (it v) ≡ has_pair linked' u v) (back : (u v : ℕ) → v < few → has_pair linked u (it v) ≡ true → Image it few u)
    (below' : AreBelow few linked') (below : AreBelow many linked) (never' : (v : ℕ) → v < few → Chain linked' v v → ⊥) (never : (v : ℕ) → v < many → Chain linked v v → ⊥) where
  moved_has : (xs : List ℕ) (w : ℕ) → has_number (map it xs) (it w) ≡ has_number xs w
  moved_has [] w = refl
  moved_has (x ∷ xs) w =
      ap2 (λ a b. a || b) (same_truth (nat_eq (it w) (it x)) (nat_eq w x) (λ is. eq-eqb w x (once w x (eqb-true (it w) (it x) is))) (λ is. eq-eqb (it w) (it x) (ap it (eqb-true w x is)))) (moved_has xs w)

  module _ (taken taken' : List ℕ) (beside : filter test taken ≡ map it taken') where
    taken_same : (w : ℕ) → w < few → has_number taken (it w) ≡ has_number taken' w
    taken_same w less = sym (filter_has test taken (it w) (keeps w less)) ∙ (ap (λ (xs : List ℕ). has_number xs (it w)) beside ∙ moved_has taken' w)

    behind_same : (w : ℕ) → w < few → list_all (is_behind taken (it w)) linked ≡ list_all (is_behind taken' w) linked'
    behind_same w less = same_truth (list_all (is_behind taken (it w)) linked) (list_all (is_behind taken' w) linked')
        (λ is. are_behind taken' w linked' (λ u leads. let low : u < few = below'.first u w leads in
        sym (taken_same u low) ∙ all_behind taken (it w) linked is (it u) (same u w low less ∙ leads)))
        (λ is. are_behind taken (it w) linked (λ u leads.
        let image = back u w less leads in
        let step : has_pair linked' image.number w ≡ true = sym (same image.number w image.below less) ∙ (ap (λ (n : ℕ). has_pair linked n (it w)) image.is ∙ leads) in
        ap (has_number taken) (sym image.is) ∙ (taken_same image.number image.below ∙ all_behind taken' w linked' is image.number step)))

    next_same : (w : ℕ) → w < few → is_next linked taken (it w) ≡ is_next linked' taken' w
    next_same w less = ap2 (λ a b. not a && b) (taken_same w less) (behind_same w less)

    next_part : (x : ℕ) → first_below many (is_next linked taken) ≡ Some x → (image : Image it few x) → first_below few (is_next linked' taken') ≡ Some image.number
    next_part x is image =
        first_is few (is_next linked' taken') image.number image.below
        (sym (next_same image.number image.below) ∙ (ap (is_next linked taken) image.is ∙ found_passes many (is_next linked taken) x is))
        (λ j less. sym (next_same j (omega (arith, less, image.below))) ∙ first_before many (is_next linked taken) x (it j) is (omega (arith, rises j image.number less, image.is)))

  record Round (k : ℕ) : Type 0 where
    rounds : ℕ
    is : filter test (take_items many k linked) ≡ map it (take_items few rounds linked')

  round_more : (k : ℕ) → Round k → Round (suc k)
  round_more k r = by_next (first_below many (is_next linked (take_items many k linked))) refl
    where
      by_test : (x : ℕ) → first_below many (is_next linked (take_items many k linked)) ≡ Some x → (b : Bool) → test x ≡ b → (m : ℕ) × (filter test (take_items many k linked ++ x ∷ []) ≡ map it (take_items few m linked'))
      by_test x is false off = (
        r.rounds,
        filter_append test (take_items many k linked) (x ∷ []) ∙ (ap (λ b. filter test (take_items many k linked) ++ (if b then x ∷ [] else [])) off ∙ (nothing_after (filter test (take_items many k linked)) ∙ r.is)),
      )
      by_test x is true on =
          let image = found x (found_below many (is_next linked (take_items many k linked)) x is) on in
          let next : first_below few (is_next linked' (take_items few r.rounds linked')) ≡ Some image.number = next_part (take_items many k linked) (take_items few r.rounds linked') r.is x is image in (
            suc r.rounds,
            filter_append test (take_items many k linked) (x ∷ [])
                ∙ (ap2 (λ (xs ys : List ℕ). xs ++ ys) r.is (ap (λ b. if b then x ∷ [] else []) on ∙ ap (λ (n : ℕ). n ∷ []) (sym image.is))
                ∙ (sym (map-append it (take_items few r.rounds linked') (image.number ∷ []))
                ∙ sym (ap (λ (o : Option ℕ). map it (take_one o (take_items few r.rounds linked'))) next))),
          )

      by_next : (o : Option ℕ) → first_below many (is_next linked (take_items many k linked)) ≡ o → Round (suc k)
      by_next None is = record { rounds = r.rounds; is = ap (λ (o : Option ℕ). filter test (take_one o (take_items many k linked))) is ∙ r.is }
      by_next (Some x) is =
          let more = by_test x is (test x) refl in
          record { rounds = more.0; is = ap (λ (o : Option ℕ). filter test (take_one o (take_items many k linked))) is ∙ more.1 }

  all_rounds : (k : ℕ) → Round k
  all_rounds zero = record { rounds = 0; is = refl }
  all_rounds (suc k) = round_more k (all_rounds k)

  pub standing_kept : filter test (standing_items many linked) ≡ map it (standing_items few linked')
  standing_kept =
      let last = all_rounds many in
      let each : (w : ℕ) → w < few → has_number (take_items few last.rounds linked') w ≡ true = λ w less.
      sym (taken_same (standing_items many linked) (take_items few last.rounds linked') last.is w less) ∙ all_stand many linked below never (it w) (within w less) in
      last.is ∙ ap (map it) (elim (cases_lt few last.rounds) [
        | inl more ↦ stays few linked' few last.rounds (λ w less. all_stand few linked' below' never' w less) (omega (arith, more))
        | inr from ↦ sym (stays few linked' last.rounds few each from)
      ])
