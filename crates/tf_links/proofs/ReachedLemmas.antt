-- Which number leads to which, in one step or in several.
use Rattle.std.proofs.Common.{◌≡◌, ℕ, zero, suc, ◌<◌, List, true, ◌&&◌, sym, ap, ◌∙◌, inl, inr, arith}
use Rattle.std.proofs.lemmas.Bool.{cases_lt}
use Rattle.tf_numbers.specs.Numbers.{Pair, has_pair}
use Rattle.tf_links.specs.Graphs.{leads_by, reached_by, reached}
use Rattle.tf_numbers.proofs.TruthLemmas.{and_first, and_second, or_either, true_first, true_second, true_both}
use Rattle.tf_numbers.proofs.PairLemmas.{pair_passes, passes_pair}

-- what leads on by way of k leads to k, and k leads on
to_middle : (pairs : List Pair) (k u : ℕ) → leads_by pairs k u k ≡ true → has_pair pairs u k ≡ true
to_middle pairs k u is = elim (or_either (has_pair pairs u k) _ is) [ inl at_once ↦ at_once | inr by ↦ and_first (has_pair pairs u k) _ by ]

from_middle : (pairs : List Pair) (k v : ℕ) → leads_by pairs k k v ≡ true → has_pair pairs k v ≡ true
from_middle pairs k v is = elim (or_either (has_pair pairs k v) _ is) [ inl at_once ↦ at_once | inr by ↦ and_second (has_pair pairs k k) _ by ]

-- where pairs are closed under the numbers below k, those that lead by way of k are closed under w, below k or k itself
leads_on : (pairs : List Pair) (k u w v : ℕ) → ((a b : ℕ) → has_pair pairs a w ≡ true → has_pair pairs w b ≡ true → has_pair pairs a b ≡ true)
    → leads_by pairs k u w ≡ true → leads_by pairs k w v ≡ true → leads_by pairs k u v ≡ true
leads_on pairs k u w v closed first second =
    elim (or_either (has_pair pairs u w) (has_pair pairs u k && has_pair pairs k w) first) [
      | inl uw ↦ elim (or_either (has_pair pairs w v) (has_pair pairs w k && has_pair pairs k v) second) [
        | inl wv ↦ true_first (has_pair pairs u v) _ (closed u v uw wv)
        | inr wkv ↦ true_second (has_pair pairs u v) _ (true_both (has_pair pairs u k) (has_pair pairs k v) (closed u k uw (and_first (has_pair pairs w k) _ wkv)) (and_second (has_pair pairs w k) _ wkv))
      ]
      | inr ukw ↦ elim (or_either (has_pair pairs w v) (has_pair pairs w k && has_pair pairs k v) second) [
        | inl wv ↦ true_second (has_pair pairs u v) _ (true_both (has_pair pairs u k) (has_pair pairs k v) (and_first (has_pair pairs u k) _ ukw) (closed k v (and_second (has_pair pairs u k) _ ukw) wv))
        | inr wkv ↦ true_second (has_pair pairs u v) _ (true_both (has_pair pairs u k) (has_pair pairs k v) (and_first (has_pair pairs u k) _ ukw) (and_second (has_pair pairs w k) _ wkv))
      ]
    ]

pub reached_closed : (n : ℕ) (pairs : List Pair) (k : ℕ) (w : ℕ) → w < k → (u v : ℕ) → has_pair (reached_by n pairs k) u w ≡ true → has_pair (reached_by n pairs k) w v ≡ true → has_pair (reached_by n pairs k) u v ≡ true
reached_closed n pairs zero w below u v first second = absurd (omega arith)
reached_closed n pairs (suc k) w below u v first second =
    let before = reached_by n pairs k in
    let uw = pair_passes n (leads_by before k) u w first in
    let wv = pair_passes n (leads_by before k) w v second in
    passes_pair n (leads_by before k) u v uw.first wv.second (elim (cases_lt w k) [
      | inl earlier ↦ leads_on before k u w v (λ a b. reached_closed n pairs k w earlier a b) uw.tested wv.tested
      | inr from ↦ let same : w ≡ k = omega arith in
          true_second (has_pair before u v) _ (true_both (has_pair before u k) (has_pair before k v)
          (to_middle before k u (ap (λ (m : ℕ). leads_by before k u m) (sym same) ∙ uw.tested))
          (from_middle before k v (ap (λ (m : ℕ). leads_by before k m v) (sym same) ∙ wv.tested)))
    ])

-- what is reached is one of the n numbers, where the pairs are of such numbers
pub reached_within : (n : ℕ) (pairs : List Pair) (k : ℕ) → ((u v : ℕ) → has_pair pairs u v ≡ true → v < n) → (u v : ℕ) → has_pair (reached_by n pairs k) u v ≡ true → v < n
reached_within n pairs zero within u v is = within u v is
reached_within n pairs (suc k) within u v is = (pair_passes n (leads_by (reached_by n pairs k) k) u v is).second

-- what leads to a number that leads to another leads to that
pub reached_chain : (n : ℕ) (pairs : List Pair) → ((u v : ℕ) → has_pair pairs u v ≡ true → v < n) → (u v w : ℕ) → has_pair (reached n pairs) u v ≡ true → has_pair (reached n pairs) v w ≡ true → has_pair (reached n pairs) u w ≡ true
reached_chain n pairs within u v w first second = reached_closed n pairs n v (reached_within n pairs n within u v first) u w first second

-- what leads at once is reached
pub reached_keeps : (n : ℕ) (pairs : List Pair) (k u v : ℕ) → u < n → v < n → has_pair pairs u v ≡ true → has_pair (reached_by n pairs k) u v ≡ true
reached_keeps n pairs zero u v first second is = is
reached_keeps n pairs (suc k) u v first second is =
    passes_pair n (leads_by (reached_by n pairs k) k) u v first second (true_first (has_pair (reached_by n pairs k) u v) _ (reached_keeps n pairs k u v first second is))
