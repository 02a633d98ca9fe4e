-- In standing order each item stands once, after all that lead to it, and is the least that could stand there.
use Rattle.std.proofs.Common.{◌≡◌, ℕ, zero, suc, ◌+◌, ◌<◌, ◌≤◌, List, [], ◌∷◌, ◌++◌, Bool, true, false, not, ◌&&◌, Option, Some, None, refl, sym, ap, ◌∙◌, ◌⊎◌, inl, inr, arith, eqb-true, eq-eqb}
use Rattle.std.specs.Prelude.{nat_eq, is_some}
use Rattle.std.specs.List.{list_all}
use Rattle.tf_numbers.specs.Numbers.{has_number, first_below, Pair, is_pair, has_pair}
use Rattle.tf_links.specs.Graphs.{is_behind, is_next, take_one, take_items, standing_items, reached, AreBelow, Chain, Waits, IsNextOf}
use Rattle.tf_numbers.proofs.TruthLemmas.{and_first, and_second, or_either, true_first, true_second, true_both, clash, either_way, never_true, not_true, neither_first, neither_second, or_of_not}
use Rattle.tf_numbers.proofs.BelowLemmas.{found_passes, found_below, first_there, first_before, none_or_last}
use Rattle.tf_links.proofs.ReachedLemmas.{reached_chain, reached_keeps, reached_within}
use Rattle.tf_links.proofs.ReachLawLemmas.{chain_of}
use Rattle.tf_links.proofs.StandingLemmas.{number_more}
use Rattle.tf_links.proofs.CountLawLemmas.{count_below, count_at_most, count_less, count_none, count_some}

-- ---- what is behind an item

-- where all pairs are behind v, all that lead to v were taken
all_behind : (taken : List ℕ) (v : ℕ) (linked : List Pair) → list_all (is_behind taken v) linked ≡ true → (u : ℕ) → has_pair linked u v ≡ true → has_number taken u ≡ true
all_behind taken v [] all u is = absurd (cc)
all_behind taken v (p ∷ linked) all u is = elim (or_either (is_pair u v p) (has_pair linked u v) is) [
  | inl here ↦
      let from : p.first ≡ u = eqb-true p.first u (and_first (nat_eq p.first u) (nat_eq p.second v) here) in
      let to : nat_eq p.second v ≡ true = and_second (nat_eq p.first u) (nat_eq p.second v) here in
      elim (or_either (not (nat_eq p.second v)) (has_number taken p.first) (and_first (is_behind taken v p) (list_all (is_behind taken v) linked) all)) [
        | inl other ↦ absurd (clash (nat_eq p.second v) to (not_true (nat_eq p.second v) other))
        | inr on ↦ ap (has_number taken) (sym from) ∙ on
      ]
  | inr there ↦ all_behind taken v linked (and_second (is_behind taken v p) (list_all (is_behind taken v) linked) all) u there
]

-- and the other way round
are_behind : (taken : List ℕ) (v : ℕ) (linked : List Pair) → ((u : ℕ) → has_pair linked u v ≡ true → has_number taken u ≡ true) → list_all (is_behind taken v) linked ≡ true
are_behind taken v [] each = refl
are_behind taken v (p ∷ linked) each = true_both (is_behind taken v p) (list_all (is_behind taken v) linked)
    (or_of_not (nat_eq p.second v) (has_number taken p.first) (λ to. each p.first (true_first (is_pair p.first v p) (has_pair linked p.first v)
    (true_both (nat_eq p.first p.first) (nat_eq p.second v) (eq-eqb p.first p.first refl) to))))
    (are_behind taken v linked (λ u is. each u (true_second (is_pair u v p) (has_pair linked u v) is)))

-- where not all are, v waits
waits_more : (taken : List ℕ) (v : ℕ) (p : Pair) (linked : List Pair) → Waits linked taken v → Waits (p ∷ linked) taken v
waits_more taken v p linked waits = record { number = waits.number; leads = true_second (is_pair waits.number v p) (has_pair linked waits.number v) waits.leads; is_missing = waits.is_missing }

to_true : (b : Bool) → not b ≡ false → b ≡ true
to_true true is = refl
to_true false is = absurd (cc)

waits_for : (taken : List ℕ) (v : ℕ) (linked : List Pair) → list_all (is_behind taken v) linked ≡ false → Waits linked taken v
waits_for taken v [] isnt = absurd (cc)
waits_for taken v (p ∷ linked) isnt = elim (either_way (is_behind taken v p)) [
  | inl behind ↦ waits_more taken v p linked (waits_for taken v linked (elim (either_way (list_all (is_behind taken v) linked)) [
    | inr not_all ↦ not_all
    | inl all ↦ absurd (clash (is_behind taken v p && list_all (is_behind taken v) linked) (true_both (is_behind taken v p) (list_all (is_behind taken v) linked) behind all) isnt)
  ]))
  | inr before ↦ record {
    number = p.first;
    leads = true_first (is_pair p.first v p) (has_pair linked p.first v) (true_both (nat_eq p.first p.first) (nat_eq p.second v) (eq-eqb p.first p.first refl)
        (to_true (nat_eq p.second v) (neither_first (not (nat_eq p.second v)) (has_number taken p.first) before)));
    is_missing = neither_second (not (nat_eq p.second v)) (has_number taken p.first) before;
  }
]

-- what is found is rightly next
found_next : (n : ℕ) (linked : List Pair) (taken : List ℕ) (v : ℕ) → first_below n (is_next linked taken) ≡ Some v → IsNextOf n linked taken v
found_next n linked taken v is =
    let passes : not (has_number taken v) && list_all (is_behind taken v) linked ≡ true = found_passes n (is_next linked taken) v is in
    record {
      below = found_below n (is_next linked taken) v is;
      once = not_true (has_number taken v) (and_first (not (has_number taken v)) (list_all (is_behind taken v) linked) passes);
      behind = all_behind taken v linked (and_second (not (has_number taken v)) (list_all (is_behind taken v) linked) passes);
      least = λ w less missing. waits_for taken w linked (never_true (list_all (is_behind taken w) linked) (λ all.
          clash (is_next linked taken w) (true_both (not (has_number taken w)) (list_all (is_behind taken w) linked) (ap not missing) all) (first_before n (is_next linked taken) v w is less)));
    }

-- ---- a place in the order

-- a place in a list with one more at the end: it was there, or it is the last
record Earlier (xs before : List ℕ) (v : ℕ) : Type 0 where
  after : List ℕ
  is : xs ≡ before ++ v ∷ after

not_more : (before : List ℕ) (v : ℕ) (after : List ℕ) → [] ≡ before ++ v ∷ after → ⊥
not_more [] v after is = cc
not_more (x ∷ before) v after is = cc

place : (xs : List ℕ) (x : ℕ) (before : List ℕ) (v : ℕ) (after : List ℕ) → xs ++ x ∷ [] ≡ before ++ v ∷ after → Earlier xs before v ⊎ ((before ≡ xs) × (v ≡ x))
place [] x [] v after is = inr (refl, cc)
place [] x (b ∷ before) v after is = let rest : [] ≡ before ++ v ∷ after = cc in absurd (not_more before v after rest)
place (y ∷ ys) x [] v after is = let same : y ≡ v = cc in inl (record { after = ys; is = ap (λ (k : ℕ). k ∷ ys) same })
place (y ∷ ys) x (b ∷ before) v after is =
    let same : y ≡ b = cc in
    let rest : ys ++ x ∷ [] ≡ before ++ v ∷ after = cc in
    elim (place ys x before v after rest) [
      | inl earlier ↦ inl (record { after = earlier.after; is = cc (earlier.is, same) })
      | inr last ↦ let prefix : before ≡ ys = last.0 in inr (cc (prefix, same), last.1)
    ]

next_more : (n : ℕ) (linked : List Pair) (taken : List ℕ) (o : Option ℕ) → first_below n (is_next linked taken) ≡ o
    → ((before : List ℕ) (v : ℕ) (after : List ℕ) → taken ≡ before ++ v ∷ after → IsNextOf n linked before v)
    → (before : List ℕ) (v : ℕ) (after : List ℕ) → take_one o taken ≡ before ++ v ∷ after → IsNextOf n linked before v
next_more n linked taken None found so_far before v after is = so_far before v after is
next_more n linked taken (Some x) found so_far before v after is = elim (place taken x before v after is) [
  | inl earlier ↦ so_far before v earlier.after earlier.is
  | inr last ↦
      let prefix : before ≡ taken = last.0 in
      let same : v ≡ x = last.1 in
      found_next n linked before v (ap (λ (xs : List ℕ). first_below n (is_next linked xs)) prefix ∙ (found ∙ ap (λ (k : ℕ). Some k) (sym same)))
]

next_after : (n : ℕ) (linked : List Pair) (k : ℕ) (before : List ℕ) (v : ℕ) (after : List ℕ) → take_items n k linked ≡ before ++ v ∷ after → IsNextOf n linked before v
next_after n linked zero before v after is = absurd (not_more before v after is)
next_after n linked (suc k) before v after is =
    next_more n linked (take_items n k linked) (first_below n (is_next linked (take_items n k linked))) refl (next_after n linked k) before v after is

pub stands_next : (n : ℕ) (pairs : List Pair) (before : List ℕ) (v : ℕ) (after : List ℕ) → standing_items n pairs ≡ before ++ v ∷ after → IsNextOf n pairs before v
stands_next n pairs before v after is = next_after n pairs n before v after is

-- ---- all of them stand

-- where some are left, one is next
one_next : (n : ℕ) (pairs : List Pair) → AreBelow n pairs → ((v : ℕ) → v < n → Chain pairs v v → ⊥) → (taken : List ℕ) (w : ℕ) → w < n → has_number taken w ≡ false → is_some (first_below n (is_next pairs taken)) ≡ true
one_next n pairs below never taken w less left =
    elim (none_or_last n (λ a b. has_pair (reached n pairs) b a) (λ k. not (has_number taken k))
    (λ a b c ab bc. reached_chain n pairs below.second c b a bc ab)
    (λ a. never_true (has_pair (reached n pairs) a a) (λ round. never a (reached_within n pairs n below.second a a round) (chain_of n pairs a a round)))) [
      | inl none ↦ absurd (clash (not (has_number taken w)) (ap not left) (none w less))
      | inr first ↦ first_there n (is_next pairs taken) first.number first.below
          (true_both (not (has_number taken first.number)) (list_all (is_behind taken first.number) pairs) first.passes
          (are_behind taken first.number pairs (λ u leads. elim (either_way (has_number taken u)) [
            | inl on ↦ on
            | inr off ↦ absurd (clash (has_pair (reached n pairs) u first.number)
                (reached_keeps n pairs n u first.number (below.first u first.number leads) (below.second u first.number leads) leads)
                (first.last u (below.first u first.number leads) (ap not off)))
          ])))
    ]

-- one is taken, so fewer are left
fewer_left : (n : ℕ) (pairs : List Pair) (taken : List ℕ) (o : Option ℕ) → first_below n (is_next pairs taken) ≡ o → is_some o ≡ true
    → count_below n (λ k. not (has_number (take_one o taken) k)) < count_below n (λ k. not (has_number taken k))
fewer_left n pairs taken None found some_is = absurd (cc)
fewer_left n pairs taken (Some x) found some_is =
    let is = found_next n pairs taken x found in
    count_less n (λ k. not (has_number (taken ++ x ∷ []) k)) (λ k. not (has_number taken k)) x
    (λ k less left. ap not (neither_first (has_number taken k) (nat_eq k x) (sym (number_more taken x k) ∙ not_true (has_number (taken ++ x ∷ []) k) left)))
    is.below
    (ap not (number_more taken x x ∙ true_second (has_number taken x) (nat_eq x x) (eq-eqb x x refl)))
    (ap not is.once)

-- what was taken stays taken
stays_taken : (taken : List ℕ) (o : Option ℕ) (k : ℕ) → has_number taken k ≡ true → has_number (take_one o taken) k ≡ true
stays_taken taken None k on = on
stays_taken taken (Some x) k on = number_more taken x k ∙ true_first (has_number taken k) (nat_eq k x) on

-- after so many rounds no more are left than rounds are to come
left_after : (n : ℕ) (pairs : List Pair) → AreBelow n pairs → ((v : ℕ) → v < n → Chain pairs v v → ⊥) → (k rounds : ℕ) → n ≤ k + rounds → count_below n (λ w. not (has_number (take_items n k pairs) w)) ≤ rounds
left_after n pairs below never zero rounds enough =
    let most : count_below n (λ w. not (has_number [] w)) ≤ n = count_at_most n (λ w. not (has_number [] w)) in
    omega (arith, most, enough)
left_after n pairs below never (suc k) rounds enough =
    let before : count_below n (λ w. not (has_number (take_items n k pairs) w)) ≤ suc rounds = left_after n pairs below never k (suc rounds) (omega (arith, enough)) in
    elim (either_way (is_some (first_below n (is_next pairs (take_items n k pairs))))) [
      | inl there ↦
          let fewer : count_below n (λ w. not (has_number (take_items n (suc k) pairs) w)) < count_below n (λ w. not (has_number (take_items n k pairs) w)) =
          fewer_left n pairs (take_items n k pairs) (first_below n (is_next pairs (take_items n k pairs))) refl there in
          omega (arith, before, fewer)
      | inr none ↦
          let nothing : count_below n (λ w. not (has_number (take_items n (suc k) pairs) w)) ≡ 0 =
          count_none n (λ w. not (has_number (take_items n (suc k) pairs) w)) (λ w less. ap not
          (stays_taken (take_items n k pairs) (first_below n (is_next pairs (take_items n k pairs))) w (elim (either_way (has_number (take_items n k pairs) w)) [
            | inl on ↦ on
            | inr off ↦ absurd (clash (is_some (first_below n (is_next pairs (take_items n k pairs)))) (one_next n pairs below never (take_items n k pairs) w less off) none)
          ]))) in
          omega (arith, nothing)
    ]

-- where no chain leads round, each number stands
pub all_stand : (n : ℕ) (pairs : List Pair) → AreBelow n pairs → ((v : ℕ) → v < n → Chain pairs v v → ⊥) → (v : ℕ) → v < n → has_number (standing_items n pairs) v ≡ true
all_stand n pairs below never v less = elim (either_way (has_number (standing_items n pairs) v)) [
  | inl on ↦ on
  | inr off ↦
      let none : count_below n (λ w. not (has_number (take_items n n pairs) w)) ≤ 0 = left_after n pairs below never n 0 (omega arith) in
      let more : 0 < count_below n (λ w. not (has_number (take_items n n pairs) w)) = count_some n (λ w. not (has_number (take_items n n pairs) w)) v less (ap not off) in
      absurd (omega (arith, none, more))
]
