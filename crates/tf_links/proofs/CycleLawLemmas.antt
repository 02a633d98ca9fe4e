-- The shortest cycle is a cycle, and none is shorter or comes before it.
use Rattle.std.proofs.Common.{◌≡◌, ℕ, zero, suc, ◌<◌, ◌≤◌, List, [], ◌∷◌, length, Bool, true, false, not, ◌&&◌, Option, Some, None, refl, sym, ap, ◌∙◌, inl, inr, arith, eqb-true, eq-eqb}
use Rattle.std.specs.Prelude.{nat_eq, nat_lt, is_some}
use Rattle.std.specs.List.{list_any}
use Rattle.std.proofs.lemmas.Bool.{cases_lt, ltb-true}
use Rattle.tf_numbers.specs.Numbers.{has_number, first_below, Pair, has_pair}
use Rattle.tf_links.specs.Graphs.{leads_to_one, reaching, goes_on_by, go_on, walk_to, comes_back, walk_back, shortest_cycle, AreBelow, leads_through, Chain, IsCycle, comes_before}
use Rattle.tf_numbers.proofs.TruthLemmas.{and_first, and_second, or_either, true_first, true_second, true_both, clash, either_way, never_true, neither, only_first, first_false}
use Rattle.tf_numbers.proofs.PairLemmas.{which_passes, passes_which}
use Rattle.tf_numbers.proofs.BelowLemmas.{found_passes, first_there, first_none, first_before}
use Rattle.tf_links.proofs.CountLawLemmas.{apart, length_apart}

-- ---- what reaches an item in so many links

any_number : (p : ℕ → Bool) (xs : List ℕ) (w : ℕ) → has_number xs w ≡ true → p w ≡ true → list_any p xs ≡ true
any_number p [] w on is = absurd (cc)
any_number p (x ∷ xs) w on is = elim (or_either (nat_eq w x) (has_number xs w) on) [
  | inl here ↦ true_first (p x) (list_any p xs) (ap p (sym (eqb-true w x here)) ∙ is)
  | inr there ↦ true_second (p x) (list_any p xs) (any_number p xs w there is)
]

record OneOf (p : ℕ → Bool) (xs : List ℕ) : Type 0 where
  number : ℕ
  among : has_number xs number ≡ true
  passes : p number ≡ true

one_of : (p : ℕ → Bool) (xs : List ℕ) → list_any p xs ≡ true → OneOf p xs
one_of p [] is = absurd (cc)
one_of p (x ∷ xs) is = elim (or_either (p x) (list_any p xs) is) [
  | inl here ↦ record { number = x; among = true_first (nat_eq x x) (has_number xs x) (eq-eqb x x refl); passes = here }
  | inr there ↦ let found = one_of p xs there in record { number = found.number; among = true_second (nat_eq found.number x) (has_number xs found.number) found.among; passes = found.passes }
]

-- one link more: u is linked to one that reaches v
record Link (n : ℕ) (pairs : List Pair) (v k u : ℕ) : Type 0 where
  next : ℕ
  leads : has_pair pairs u next ≡ true
  on : has_number (reaching n pairs v k) next ≡ true

link_from : (n : ℕ) (pairs : List Pair) (v k u : ℕ) → has_number (reaching n pairs v (suc k)) u ≡ true → Link n pairs v k u
link_from n pairs v k u is =
    let found = which_passes n (leads_to_one pairs (reaching n pairs v k)) (nat_eq u) is in
    let same : u ≡ found.number = eqb-true u found.number found.passes in
    let one = one_of (has_pair pairs u) (reaching n pairs v k) (ap (λ (m : ℕ). leads_to_one pairs (reaching n pairs v k) m) same ∙ found.tested) in
    record { next = one.number; leads = one.passes; on = one.among }

link_to : (n : ℕ) (pairs : List Pair) → AreBelow n pairs → (v k u w : ℕ) → has_pair pairs u w ≡ true → has_number (reaching n pairs v k) w ≡ true → has_number (reaching n pairs v (suc k)) u ≡ true
link_to n pairs below v k u w leads on =
    passes_which n (leads_to_one pairs (reaching n pairs v k)) (nat_eq u) u (below.first u w leads)
    (any_number (has_pair pairs u) (reaching n pairs v k) w on leads) (eq-eqb u u refl)

-- what is there at no link is the item
here_only : (n : ℕ) (pairs : List Pair) (v w : ℕ) → has_number (reaching n pairs v 0) w ≡ true → w ≡ v
here_only n pairs v w is = eqb-true w v (only_first (nat_eq w v) is)

at_last : (n : ℕ) (pairs : List Pair) (v u : ℕ) → has_number (reaching n pairs v 1) u ≡ true → has_pair pairs u v ≡ true
at_last n pairs v u is =
    let link = link_from n pairs v 0 u is in
    ap (λ (w : ℕ). has_pair pairs u w) (sym (here_only n pairs v link.next link.on)) ∙ link.leads

from_last : (n : ℕ) (pairs : List Pair) → AreBelow n pairs → (v u : ℕ) → has_pair pairs u v ≡ true → has_number (reaching n pairs v 1) u ≡ true
from_last n pairs below v u is = link_to n pairs below v 0 u v is (true_first (nat_eq v v) false (eq-eqb v v refl))

path_is_reaching : (n : ℕ) (pairs : List Pair) → AreBelow n pairs → (v : ℕ) (path : List ℕ) (u : ℕ) → leads_through pairs u path v ≡ true → has_number (reaching n pairs v (suc (length path))) u ≡ true
path_is_reaching n pairs below v [] u is = from_last n pairs below v u is
path_is_reaching n pairs below v (w ∷ path) u is =
    link_to n pairs below v (suc (length path)) u w (and_first (has_pair pairs u w) (leads_through pairs w path v) is)
    (path_is_reaching n pairs below v path w (and_second (has_pair pairs u w) (leads_through pairs w path v) is))

-- ---- the walk

-- a walk from u to v in so many links and one
record IsWalk (pairs : List Pair) (v k u : ℕ) (items : List ℕ) : Type 0 where
  rest : List ℕ
  begins : items ≡ u ∷ rest
  long : length rest ≡ k
  leads : leads_through pairs u rest v ≡ true

-- the first that leads on
record First (n : ℕ) (pairs : List Pair) (v k u : ℕ) : Type 0 where
  next : ℕ
  is : first_below n (goes_on_by n pairs v k u) ≡ Some next
  leads : has_pair pairs u next ≡ true
  on : has_number (reaching n pairs v k) next ≡ true

first_from : (n : ℕ) (pairs : List Pair) (v k u : ℕ) (o : Option ℕ) → first_below n (goes_on_by n pairs v k u) ≡ o → is_some o ≡ true → First n pairs v k u
first_from n pairs v k u None is some_is = absurd (cc)
first_from n pairs v k u (Some w) is some_is =
    let passes : has_pair pairs u w && has_number (reaching n pairs v k) w ≡ true = found_passes n (goes_on_by n pairs v k u) w is in
    record { next = w; is = is; leads = and_first (has_pair pairs u w) (has_number (reaching n pairs v k) w) passes; on = and_second (has_pair pairs u w) (has_number (reaching n pairs v k) w) passes }

first_of : (n : ℕ) (pairs : List Pair) → AreBelow n pairs → (v k u w : ℕ) → has_pair pairs u w ≡ true → has_number (reaching n pairs v k) w ≡ true → First n pairs v k u
first_of n pairs below v k u w leads on = first_from n pairs v k u (first_below n (goes_on_by n pairs v k u)) refl
    (first_there n (goes_on_by n pairs v k u) w (below.second u w leads) (true_both (has_pair pairs u w) (has_number (reaching n pairs v k) w) leads on))

walk_more : (pairs : List Pair) (v k u w : ℕ) (o : Option ℕ) (walk : ℕ → List ℕ) → o ≡ Some w → has_pair pairs u w ≡ true → IsWalk pairs v k w (walk w) → IsWalk pairs v (suc k) u (u ∷ go_on o walk)
walk_more pairs v k u w o walk found leads is = record {
  rest = w ∷ is.rest;
  begins = ap (λ (xs : List ℕ). u ∷ xs) (ap (λ (p : Option ℕ). go_on p walk) found ∙ is.begins);
  long = omega (arith, is.long);
  leads = true_both (has_pair pairs u w) (leads_through pairs w is.rest v) leads is.leads;
}

walk_is : (n : ℕ) (pairs : List Pair) → AreBelow n pairs → (v k u : ℕ) → has_number (reaching n pairs v (suc k)) u ≡ true → IsWalk pairs v k u (walk_to n pairs v k u)
walk_is n pairs below v zero u on = record { rest = []; begins = refl; long = refl; leads = at_last n pairs v u on }
walk_is n pairs below v (suc k) u on =
    let link = link_from n pairs v (suc k) u on in
    let first = first_of n pairs below v (suc k) u link.next link.leads link.on in
    walk_more pairs v k u first.next (first_below n (goes_on_by n pairs v (suc k) u)) (walk_to n pairs v k) first.is first.leads (walk_is n pairs below v k first.next first.on)

-- ---- a path without a number twice

-- a path from u to v, and u and the numbers on the path are each there once
record Apart (pairs : List Pair) (u v : ℕ) : Type 0 where
  path : List ℕ
  leads : leads_through pairs u path v ≡ true
  once : apart (u ∷ path) ≡ true

-- from a number on the path on
cut_at : (pairs : List Pair) (u v w : ℕ) (path : List ℕ) → leads_through pairs w path v ≡ true → apart (w ∷ path) ≡ true → has_number (w ∷ path) u ≡ true → Apart pairs u v
cut_at pairs u v w [] leads once on =
    let same : u ≡ w = eqb-true u w (only_first (nat_eq u w) on) in
    record { path = []; leads = ap (λ (k : ℕ). has_pair pairs k v) same ∙ leads; once = refl }
cut_at pairs u v w (x ∷ path) leads once on = elim (or_either (nat_eq u w) (has_number (x ∷ path) u) on) [
  | inl here ↦ let same : u ≡ w = eqb-true u w here in
      record { path = x ∷ path; leads = ap (λ (k : ℕ). leads_through pairs k (x ∷ path) v) same ∙ leads; once = ap (λ (k : ℕ). apart (k ∷ x ∷ path)) same ∙ once }
  | inr there ↦ cut_at pairs u v x path (and_second (has_pair pairs w x) (leads_through pairs x path v) leads) (and_second (not (has_number (x ∷ path) w)) (apart (x ∷ path)) once) there
]

put_before : (pairs : List Pair) (u v w : ℕ) (path : List ℕ) → has_pair pairs u w ≡ true → leads_through pairs w path v ≡ true → apart (w ∷ path) ≡ true → has_number (w ∷ path) u ≡ false → Apart pairs u v
put_before pairs u v w path first leads once off = record {
  path = w ∷ path;
  leads = true_both (has_pair pairs u w) (leads_through pairs w path v) first leads;
  once = true_both (not (has_number (w ∷ path) u)) (apart (w ∷ path)) (ap not off) once;
}

path_apart : (pairs : List Pair) (v : ℕ) (path : List ℕ) (u : ℕ) → leads_through pairs u path v ≡ true → Apart pairs u v
path_apart pairs v [] u leads = record { path = []; leads = leads; once = refl }
path_apart pairs v (w ∷ path) u leads =
    let after = path_apart pairs v path w (and_second (has_pair pairs u w) (leads_through pairs w path v) leads) in
    elim (either_way (has_number (w ∷ after.path) u)) [
      | inl on ↦ cut_at pairs u v w after.path after.leads after.once on
      | inr off ↦ put_before pairs u v w after.path (and_first (has_pair pairs u w) (leads_through pairs w path v) leads) after.leads after.once off
    ]

-- all numbers from which a path leads on are below n
path_below : (n : ℕ) (pairs : List Pair) → AreBelow n pairs → (v : ℕ) (path : List ℕ) (u : ℕ) → leads_through pairs u path v ≡ true → (k : ℕ) → has_number (u ∷ path) k ≡ true → k < n
path_below n pairs below v [] u leads k on = let same : k ≡ u = eqb-true k u (only_first (nat_eq k u) on) in let less : u < n = below.first u v leads in omega (arith, same, less)
path_below n pairs below v (w ∷ path) u leads k on = elim (or_either (nat_eq k u) (has_number (w ∷ path) k) on) [
  | inl here ↦ let same : k ≡ u = eqb-true k u here in let less : u < n = below.first u w (and_first (has_pair pairs u w) (leads_through pairs w path v) leads) in omega (arith, same, less)
  | inr there ↦ path_below n pairs below v path w (and_second (has_pair pairs u w) (leads_through pairs w path v) leads) k there
]

-- ---- where the item comes back to itself

record Back (n : ℕ) (pairs : List Pair) (v : ℕ) : Type 0 where
  links : ℕ
  is : first_below n (comes_back n pairs v) ≡ Some links
  on : has_number (reaching n pairs v (suc links)) v ≡ true

back_from : (n : ℕ) (pairs : List Pair) (v : ℕ) (o : Option ℕ) → first_below n (comes_back n pairs v) ≡ o → is_some o ≡ true → Back n pairs v
back_from n pairs v None is some_is = absurd (cc)
back_from n pairs v (Some k) is some_is = record { links = k; is = is; on = found_passes n (comes_back n pairs v) k is }

comes_back_by : (n : ℕ) (pairs : List Pair) → AreBelow n pairs → (v : ℕ) (path : List ℕ) → leads_through pairs v path v ≡ true → Back n pairs v
comes_back_by n pairs below v path leads =
    let short = path_apart pairs v path v leads in
    let few : suc (length short.path) ≤ n = length_apart n (v ∷ short.path) short.once (path_below n pairs below v short.path v short.leads) in
    back_from n pairs v (first_below n (comes_back n pairs v)) refl
    (first_there n (comes_back n pairs v) (length short.path) (omega (arith, few)) (path_is_reaching n pairs below v short.path v short.leads))

walk_of : (n : ℕ) (pairs : List Pair) (v k : ℕ) → first_below n (comes_back n pairs v) ≡ Some k → shortest_cycle n pairs v ≡ walk_to n pairs v k v
walk_of n pairs v k is = ap (walk_back n pairs v) is

-- where a chain leads from the item back to it, a cycle is told
pub cycle_told : (n : ℕ) (pairs : List Pair) → AreBelow n pairs → (v : ℕ) → Chain pairs v v → IsCycle pairs v (shortest_cycle n pairs v)
cycle_told n pairs below v chain =
    let back = comes_back_by n pairs below v chain.path chain.leads in
    let walk = walk_is n pairs below v back.links v back.on in
    record { rest = walk.rest; begins = walk_of n pairs v back.links back.is ∙ walk.begins; leads = walk.leads }

-- where none does, nothing is told
pub nothing_told : (n : ℕ) (pairs : List Pair) → AreBelow n pairs → (v : ℕ) → (Chain pairs v v → ⊥) → shortest_cycle n pairs v ≡ []
nothing_told n pairs below v never = ap (walk_back n pairs v) (first_none n (comes_back n pairs v) (λ k inside.
    never_true (comes_back n pairs v k) (λ on. let walk = walk_is n pairs below v k v on in never (record { path = walk.rest; leads = walk.leads }))))

-- the least number of links is at most that of any path
least_links : (n : ℕ) (pairs : List Pair) → AreBelow n pairs → (v : ℕ) (path : List ℕ) → leads_through pairs v path v ≡ true → (k : ℕ) → first_below n (comes_back n pairs v) ≡ Some k → k ≤ length path
least_links n pairs below v path leads k is = elim (cases_lt (length path) k) [
  | inl less ↦ absurd (clash (comes_back n pairs v (length path)) (path_is_reaching n pairs below v path v leads) (first_before n (comes_back n pairs v) k (length path) is less))
  | inr enough ↦ enough
]

-- no cycle through the item is shorter than what is told
pub none_shorter : (n : ℕ) (pairs : List Pair) → AreBelow n pairs → (v : ℕ) (other : List ℕ) → IsCycle pairs v other → length (shortest_cycle n pairs v) ≤ length other
none_shorter n pairs below v other cycle =
    let back = comes_back_by n pairs below v cycle.rest cycle.leads in
    let walk = walk_is n pairs below v back.links v back.on in
    let mine : length (shortest_cycle n pairs v) ≡ length (v ∷ walk.rest) = ap length (walk_of n pairs v back.links back.is ∙ walk.begins) in
    let theirs : length other ≡ length (v ∷ cycle.rest) = ap length cycle.begins in
    let less : back.links ≤ length cycle.rest = least_links n pairs below v cycle.rest cycle.leads back.links back.is in
    let long : length walk.rest ≡ back.links = walk.long in
    omega (arith, mine, theirs, less, long)

-- ---- item by item

lt_self : (x : ℕ) → nat_lt x x ≡ false
lt_self x = never_true (nat_lt x x) (λ is. let less : x < x = ltb-true x x is in omega (arith, less))

-- a list that begins with a greater number doesn't come before
greater_first : (x y : ℕ) (xs ys : List ℕ) → y < x → comes_before (x ∷ xs) (y ∷ ys) ≡ false
greater_first x y xs ys more = neither (nat_lt x y) (nat_eq x y && comes_before xs ys)
    (never_true (nat_lt x y) (λ is. let less : x < y = ltb-true x y is in omega (arith, less, more)))
    (first_false (nat_eq x y) (comes_before xs ys) (never_true (nat_eq x y) (λ is. let same : x ≡ y = eqb-true x y is in omega (arith, same, more))))

-- after the same number the rest decides
same_first : (x : ℕ) (xs ys : List ℕ) → comes_before xs ys ≡ false → comes_before (x ∷ xs) (x ∷ ys) ≡ false
same_first x xs ys isnt = neither (nat_lt x x) (nat_eq x x && comes_before xs ys) (lt_self x) (second (nat_eq x x) (comes_before xs ys) isnt)
  where
    second : (a b : Bool) → b ≡ false → a && b ≡ false
    second true b is = is
    second false b is = refl

walk_first : (n : ℕ) (pairs : List Pair) → AreBelow n pairs → (v k : ℕ) (path : List ℕ) (u : ℕ) → leads_through pairs u path v ≡ true → length path ≡ k → comes_before (u ∷ path) (walk_to n pairs v k u) ≡ false
walk_first n pairs below v zero [] u leads long = same_first u [] [] refl
walk_first n pairs below v zero (w ∷ path) u leads long = absurd (omega arith)
walk_first n pairs below v (suc k) [] u leads long = absurd (omega arith)
walk_first n pairs below v (suc k) (w ∷ path) u leads long =
    let linked : has_pair pairs u w ≡ true = and_first (has_pair pairs u w) (leads_through pairs w path v) leads in
    let goes : leads_through pairs w path v ≡ true = and_second (has_pair pairs u w) (leads_through pairs w path v) leads in
    let same_length : length path ≡ k = omega (arith, long) in
    let on : has_number (reaching n pairs v (suc k)) w ≡ true = ap (λ (j : ℕ). has_number (reaching n pairs v (suc j)) w) (sym same_length) ∙ path_is_reaching n pairs below v path w goes in
    let first = first_of n pairs below v (suc k) u w linked on in
    same_first u (w ∷ path) (go_on (first_below n (goes_on_by n pairs v (suc k) u)) (walk_to n pairs v k))
    (ap (λ (o : Option ℕ). comes_before (w ∷ path) (go_on o (walk_to n pairs v k))) first.is
    ∙ by_order first.next (walk_is n pairs below v k first.next first.on) linked on (walk_first n pairs below v k path w goes same_length) first.is)
  where
    by_order : (next : ℕ) → IsWalk pairs v k next (walk_to n pairs v k next) → has_pair pairs u w ≡ true → has_number (reaching n pairs v (suc k)) w ≡ true → comes_before (w ∷ path) (walk_to n pairs v k w) ≡ false
        → first_below n (goes_on_by n pairs v (suc k) u) ≡ Some next → comes_before (w ∷ path) (walk_to n pairs v k next) ≡ false
    by_order next walk linked on same_start is = elim (cases_lt w next) [
      | inl less ↦ absurd (clash (goes_on_by n pairs v (suc k) u w) (true_both (has_pair pairs u w) (has_number (reaching n pairs v (suc k)) w) linked on) (first_before n (goes_on_by n pairs v (suc k) u) next w is less))
      | inr enough ↦ elim (cases_lt next w) [
        | inl more ↦ ap (λ (xs : List ℕ). comes_before (w ∷ path) xs) walk.begins ∙ greater_first w next path walk.rest more
        | inr from ↦ let same : next ≡ w = omega (arith, enough, from) in ap (λ (j : ℕ). comes_before (w ∷ path) (walk_to n pairs v k j)) same ∙ same_start
      ]
    ]

-- no cycle through the item of that length comes before what is told
pub none_before : (n : ℕ) (pairs : List Pair) → AreBelow n pairs → (v : ℕ) (other : List ℕ) → IsCycle pairs v other → length other ≡ length (shortest_cycle n pairs v) → comes_before other (shortest_cycle n pairs v) ≡ false
none_before n pairs below v other cycle same_length =
    let back = comes_back_by n pairs below v cycle.rest cycle.leads in
    let walk = walk_is n pairs below v back.links v back.on in
    let mine : length (shortest_cycle n pairs v) ≡ length (v ∷ walk.rest) = ap length (walk_of n pairs v back.links back.is ∙ walk.begins) in
    let theirs : length other ≡ length (v ∷ cycle.rest) = ap length cycle.begins in
    let long : length walk.rest ≡ back.links = walk.long in
    ap (λ (xs : List ℕ). comes_before xs (shortest_cycle n pairs v)) cycle.begins
    ∙ (ap (λ (xs : List ℕ). comes_before (v ∷ cycle.rest) xs) (walk_of n pairs v back.links back.is)
    ∙ walk_first n pairs below v back.links cycle.rest v cycle.leads (omega (arith, mine, theirs, long, same_length)))
