-- A number reaches another exactly where a chain of pairs leads from the one to the other.
use Rattle.std.proofs.Common.{◌≡◌, ℕ, zero, suc, List, [], ◌∷◌, ◌++◌, true, ◌&&◌, inl, inr}
use Rattle.tf_numbers.specs.Numbers.{Pair, has_pair}
use Rattle.tf_links.specs.Graphs.{leads_by, reached_by, reached, AreBelow, leads_through, Chain}
use Rattle.tf_numbers.proofs.TruthLemmas.{and_first, and_second, or_either, true_both}
use Rattle.tf_numbers.proofs.PairLemmas.{pair_passes}
use Rattle.tf_links.proofs.ReachedLemmas.{reached_chain, reached_keeps}

-- two paths, one after the other
through_both : (pairs : List Pair) (u w v : ℕ) (first second : List ℕ) → leads_through pairs u first w ≡ true → leads_through pairs w second v ≡ true → leads_through pairs u (first ++ w ∷ second) v ≡ true
through_both pairs u w v [] second to from = true_both (has_pair pairs u w) (leads_through pairs w second v) to from
through_both pairs u w v (x ∷ first) second to from =
    true_both (has_pair pairs u x) (leads_through pairs x (first ++ w ∷ second) v) (and_first (has_pair pairs u x) (leads_through pairs x first w) to)
    (through_both pairs x w v first second (and_second (has_pair pairs u x) (leads_through pairs x first w) to) from)

chain_by : (n : ℕ) (pairs : List Pair) (k u v : ℕ) → has_pair (reached_by n pairs k) u v ≡ true → Chain pairs u v
chain_by n pairs zero u v is = record { path = []; leads = is }
chain_by n pairs (suc k) u v is =
    let before = reached_by n pairs k in
    elim (or_either (has_pair before u v) (has_pair before u k && has_pair before k v) (pair_passes n (leads_by before k) u v is).tested) [
      | inl at_once ↦ chain_by n pairs k u v at_once
      | inr by ↦
          let to = chain_by n pairs k u k (and_first (has_pair before u k) (has_pair before k v) by) in
          let from = chain_by n pairs k k v (and_second (has_pair before u k) (has_pair before k v) by) in
          record { path = to.path ++ k ∷ from.path; leads = through_both pairs u k v to.path from.path to.leads from.leads }
    ]

pub chain_of : (n : ℕ) (pairs : List Pair) (u v : ℕ) → has_pair (reached n pairs) u v ≡ true → Chain pairs u v
chain_of n pairs u v is = chain_by n pairs n u v is

path_reaches : (n : ℕ) (pairs : List Pair) → AreBelow n pairs → (path : List ℕ) (u v : ℕ) → leads_through pairs u path v ≡ true → has_pair (reached n pairs) u v ≡ true
path_reaches n pairs below [] u v is = reached_keeps n pairs n u v (below.first u v is) (below.second u v is) is
path_reaches n pairs below (w ∷ path) u v is =
    let here : has_pair pairs u w ≡ true = and_first (has_pair pairs u w) (leads_through pairs w path v) is in
    reached_chain n pairs below.second u w v (reached_keeps n pairs n u w (below.first u w here) (below.second u w here) here)
    (path_reaches n pairs below path w v (and_second (has_pair pairs u w) (leads_through pairs w path v) is))

pub chain_reaches : (n : ℕ) (pairs : List Pair) → AreBelow n pairs → (u v : ℕ) → Chain pairs u v → has_pair (reached n pairs) u v ≡ true
chain_reaches n pairs below u v chain = path_reaches n pairs below chain.path u v chain.leads
