-- Graphs of numbered items: which leads to which, the order in which they stand, and cycles.
use Rattle.std.specs.Prelude.{ℕ, zero, suc, List, Bool, ◌&&◌, ◌||◌, [], ◌∷◌, ◌++◌, not, Option, Some, None, nat_eq, ◌≡◌, ◌<◌, true, false, nat_lt}
use Rattle.tf_numbers.specs.Numbers.{Pair, has_pair, pairs_below, first_below, has_number, which_below}
use Rattle.std.specs.List.{list_all, list_any}

-- ---- which number leads to which, in one step or in several

-- u leads to v at once or by way of k
abbrev pub leads_by : List Pair → ℕ → ℕ → ℕ → Bool
leads_by pairs k u v = has_pair pairs u v || (has_pair pairs u k && has_pair pairs k v)

-- which of n numbers leads to which by way of numbers below k
abbrev pub reached_by : ℕ → List Pair → ℕ → List Pair
reached_by n pairs zero = pairs
reached_by n pairs (suc k) = pairs_below n (leads_by (reached_by n pairs k) k)

-- which of n numbers leads to which, in one step or in several
abbrev pub reached : ℕ → List Pair → List Pair
reached n pairs = reached_by n pairs n

-- ---- the order in which numbered items stand, by the links among them

-- each item that is linked to v was taken
abbrev pub is_behind : List ℕ → ℕ → Pair → Bool
is_behind taken v p = not (nat_eq p.second v) || has_number taken p.first

-- v wasn't taken, and all that are linked to it were
abbrev pub is_next : List Pair → List ℕ → ℕ → Bool
is_next linked taken v = not (has_number taken v) && list_all (is_behind taken v) linked

-- what was taken with one more, where there is one
abbrev pub take_one : Option ℕ → List ℕ → List ℕ
take_one None taken = taken
take_one (Some v) taken = taken ++ v ∷ []

-- items in standing order: again and again the first item whose linked predecessors were all taken
abbrev pub take_items : ℕ → ℕ → List Pair → List ℕ
take_items n zero linked = []
take_items n (suc k) linked = take_one (first_below n (is_next linked (take_items n k linked))) (take_items n k linked)

-- all items in standing order
abbrev pub standing_items : ℕ → List Pair → List ℕ
standing_items n linked = take_items n n linked

-- ---- the shortest path by links from an item back to itself

-- u is linked to one of the items
abbrev pub leads_to_one : List Pair → List ℕ → ℕ → Bool
leads_to_one linked targets u = list_any (has_pair linked u) targets

-- the items that reach v in exactly so many links
abbrev pub reaching : ℕ → List Pair → ℕ → ℕ → List ℕ
reaching n linked v zero = v ∷ []
reaching n linked v (suc k) = which_below n (leads_to_one linked (reaching n linked v k))

-- u is linked to w, which reaches v in exactly so many links
abbrev pub goes_on_by : ℕ → List Pair → ℕ → ℕ → ℕ → ℕ → Bool
goes_on_by n linked v k u w = has_pair linked u w && has_number (reaching n linked v k) w

-- the rest of a walk from the item that was found
abbrev pub go_on : Option ℕ → (ℕ → List ℕ) → List ℕ
go_on None walk = []
go_on (Some w) walk = walk w

-- the items on the path from u to v in exactly so many links and one, the first in item order at each turn;
-- v isn't told again
abbrev pub walk_to : ℕ → List Pair → ℕ → ℕ → ℕ → List ℕ
walk_to n linked v zero u = u ∷ []
walk_to n linked v (suc k) u = u ∷ go_on (first_below n (goes_on_by n linked v (suc k) u)) (walk_to n linked v k)

-- v comes back to itself in one link more than k
abbrev pub comes_back : ℕ → List Pair → ℕ → ℕ → Bool
comes_back n linked v k = has_number (reaching n linked v (suc k)) v

-- the walk from v back to it in that many links
abbrev pub walk_back : ℕ → List Pair → ℕ → Option ℕ → List ℕ
walk_back n linked v None = []
walk_back n linked v (Some k) = walk_to n linked v k v

-- the shortest path from v back to itself, the first in item order among several
abbrev pub shortest_cycle : ℕ → List Pair → ℕ → List ℕ
shortest_cycle n linked v = walk_back n linked v (first_below n (comes_back n linked v))

-- ---- what the laws of links speak of

-- both numbers of each pair are below n
pub record AreBelow (n : ℕ) (pairs : List Pair) : Type 0 where
  pub first : (u v : ℕ) → has_pair pairs u v ≡ true → u < n
  pub second : (u v : ℕ) → has_pair pairs u v ≡ true → v < n

-- u is linked to the first number on the path, each of these to the next, and the last to v; at once where none is on
-- the path
abbrev pub leads_through : List Pair → ℕ → List ℕ → ℕ → Bool
leads_through pairs u [] v = has_pair pairs u v
leads_through pairs u (w ∷ path) v = has_pair pairs u w && leads_through pairs w path v

-- a chain of pairs leads from u to v
pub record Chain (pairs : List Pair) (u v : ℕ) : Type 0 where
  pub path : List ℕ
  pub leads : leads_through pairs u path v ≡ true

-- w waits: a number leads to it that doesn't stand before
pub record Waits (pairs : List Pair) (before : List ℕ) (w : ℕ) : Type 0 where
  pub number : ℕ
  pub leads : has_pair pairs number w ≡ true
  pub is_missing : has_number before number ≡ false

-- v is rightly next: a number below n that doesn't stand before, all that lead to it do, and each smaller one does or
-- waits
pub record IsNextOf (n : ℕ) (pairs : List Pair) (before : List ℕ) (v : ℕ) : Type 0 where
  pub below : v < n
  pub once : has_number before v ≡ false
  pub behind : (u : ℕ) → has_pair pairs u v ≡ true → has_number before u ≡ true
  pub least : (w : ℕ) → w < v → has_number before w ≡ false → Waits pairs before w

-- the items are a cycle through v: they begin with v, each is linked to the next, and the last to v
pub record IsCycle (pairs : List Pair) (v : ℕ) (items : List ℕ) : Type 0 where
  pub rest : List ℕ
  pub begins : items ≡ v ∷ rest
  pub leads : leads_through pairs v rest v ≡ true

-- the first list comes before the second: at the first place where they differ it has the smaller number, or ends
abbrev pub comes_before : List ℕ → List ℕ → Bool
comes_before [] [] = false
comes_before [] (y ∷ ys) = true
comes_before (x ∷ xs) [] = false
comes_before (x ∷ xs) (y ∷ ys) = nat_lt x y || (nat_eq x y && comes_before xs ys)
