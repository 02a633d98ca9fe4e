-- Numbers of a plan's atoms, flows and items, as what is kept of it has them.
use Rattle.std.proofs.Common.{◌≡◌, ℕ, suc, ◌+◌, ◌-◌, ◌<◌, ◌≤◌, Bool, true, false, ap, inl, inr, ◌⊎◌, arith, ltb-true}
use Rattle.std.specs.Prelude.{nat_lt, if◌then◌else◌}
use Rattle.std.proofs.lemmas.Bool.{cases_lt, lt-ltb}
use Rattle.tf_flow.specs.Tree.{Tree, Trees, no_trees, tree}
use Rattle.tf_numbers.proofs.TruthLemmas.{never_true}
use Rattle.tf_target.specs.Target.{keep_first, kept_among}

-- the number that so many have in the whole from one number on, where they have it from another on in what is
-- kept; or else one that is found behind these
abbrev pub moved_by : Bool → ℕ → ℕ → ℕ → ℕ → ℕ → ℕ → ℕ
moved_by true count old new x behind past = if nat_lt x (new + count) then old + (x - new) else behind
moved_by false count old new x behind past = past

-- the number in the whole of what has number x in what is kept, where the items that are left have so many
-- each, from one number on in the whole and from another on in what is kept
abbrev pub moved : (Tree → ℕ) → (ℕ → Bool) → Trees → ℕ → ℕ → ℕ → ℕ
moved size test no_trees old new x = old + (x - new)
moved size test (tree first others) old new x =
    moved_by (test 0) (size first) old new x (moved size (λ u. test (suc u)) others (old + size first) (new + size first) x)
    (moved size (λ u. test (suc u)) others (old + size first) new x)

-- how many the items have
abbrev pub size_of : (Tree → ℕ) → Trees → ℕ
size_of size no_trees = 0
size_of size (tree first others) = size first + size_of size others

pub here_or_behind : (count old new x behind past : ℕ) → x < new + count → moved_by true count old new x behind past ≡ old + (x - new)
here_or_behind count old new x behind past below = ap (λ b. if b then old + (x - new) else behind) (lt-ltb x (new + count) below)

pub behind_here : (count old new x behind past : ℕ) → new + count ≤ x → moved_by true count old new x behind past ≡ behind
behind_here count old new x behind past from = ap (λ b. if b then old + (x - new) else behind) (never_true (nat_lt x (new + count)) (λ is. absurd (omega (arith, from, ltb-true x (new + count) is))))

pub moved_from : (size : Tree → ℕ) (test : ℕ → Bool) (ts : Trees) (old new x : ℕ) → new ≤ x → old ≤ moved size test ts old new x
moved_from size test no_trees old new x le = omega arith
moved_from size test (tree first others) old new x le = either (test 0) (cases_lt x (new + size first))
    (moved_from size (λ u. test (suc u)) others (old + size first) (new + size first) x) (moved_from size (λ u. test (suc u)) others (old + size first) new x le)
  where
    either : (b : Bool) → (x < new + size first) ⊎ (new + size first ≤ x)
        → (new + size first ≤ x → old + size first ≤ moved size (λ u. test (suc u)) others (old + size first) (new + size first) x)
        → old + size first ≤ moved size (λ u. test (suc u)) others (old + size first) new x
        → old ≤ moved_by b (size first) old new x (moved size (λ u. test (suc u)) others (old + size first) (new + size first) x) (moved size (λ u. test (suc u)) others (old + size first) new x)
    either true (inl below) kept left = omega (arith, here_or_behind (size first) old new x (moved size (λ u. test (suc u)) others (old + size first) (new + size first) x) (moved size (λ u. test (suc u)) others (old + size first) new x) below)
    either true (inr from) kept left = omega (arith, kept from, behind_here (size first) old new x (moved size (λ u. test (suc u)) others (old + size first) (new + size first) x) (moved size (λ u. test (suc u)) others (old + size first) new x) from)
    either false cases kept left = omega (arith, left)

pub moved_rises : (size : Tree → ℕ) (test : ℕ → Bool) (ts : Trees) (old new x y : ℕ) → new ≤ x → x < y → moved size test ts old new x < moved size test ts old new y
moved_rises size test no_trees old new x y le less = omega (arith, le, less)
moved_rises size test (tree first others) old new x y le less = either (test 0) (cases_lt x (new + size first)) (cases_lt y (new + size first))
    (λ from. moved_rises size (λ u. test (suc u)) others (old + size first) (new + size first) x y from less)
    (moved_rises size (λ u. test (suc u)) others (old + size first) new x y le less)
    (moved_from size (λ u. test (suc u)) others (old + size first) (new + size first) y)
  where
    either : (b : Bool) → (x < new + size first) ⊎ (new + size first ≤ x) → (y < new + size first) ⊎ (new + size first ≤ y)
        → (new + size first ≤ x → moved size (λ u. test (suc u)) others (old + size first) (new + size first) x < moved size (λ u. test (suc u)) others (old + size first) (new + size first) y)
        → moved size (λ u. test (suc u)) others (old + size first) new x < moved size (λ u. test (suc u)) others (old + size first) new y
        → (new + size first ≤ y → old + size first ≤ moved size (λ u. test (suc u)) others (old + size first) (new + size first) y)
        → moved_by b (size first) old new x (moved size (λ u. test (suc u)) others (old + size first) (new + size first) x) (moved size (λ u. test (suc u)) others (old + size first) new x)
        < moved_by b (size first) old new y (moved size (λ u. test (suc u)) others (old + size first) (new + size first) y) (moved size (λ u. test (suc u)) others (old + size first) new y)
    either true (inl a) (inl b) kept left high =
        omega (
          arith,
          le,
          less,
          here_or_behind (size first) old new x (moved size (λ u. test (suc u)) others (old + size first) (new + size first) x) (moved size (λ u. test (suc u)) others (old + size first) new x) a,
          here_or_behind (size first) old new y (moved size (λ u. test (suc u)) others (old + size first) (new + size first) y) (moved size (λ u. test (suc u)) others (old + size first) new y) b,
        )
    either true (inl a) (inr b) kept left high =
        omega (
          arith,
          le,
          a,
          high b,
          here_or_behind (size first) old new x (moved size (λ u. test (suc u)) others (old + size first) (new + size first) x) (moved size (λ u. test (suc u)) others (old + size first) new x) a,
          behind_here (size first) old new y (moved size (λ u. test (suc u)) others (old + size first) (new + size first) y) (moved size (λ u. test (suc u)) others (old + size first) new y) b,
        )
    either true (inr a) (inl b) kept left high = absurd (omega (arith, a, b, less))
    either true (inr a) (inr b) kept left high =
        omega (
          arith,
          kept a,
          behind_here (size first) old new x (moved size (λ u. test (suc u)) others (old + size first) (new + size first) x) (moved size (λ u. test (suc u)) others (old + size first) new x) a,
          behind_here (size first) old new y (moved size (λ u. test (suc u)) others (old + size first) (new + size first) y) (moved size (λ u. test (suc u)) others (old + size first) new y) b,
        )
    either false a b kept left high = left

-- what has no number in what is kept comes behind all that the whole has
pub moved_end : (size : Tree → ℕ) (test : ℕ → Bool) (ts : Trees) (old new x : ℕ) → new + size_of size (kept_among test ts) ≤ x → old + size_of size ts ≤ moved size test ts old new x
moved_end size test no_trees old new x past = omega (arith, past)
moved_end size test (tree first others) old new x past = either (test 0) past
    (moved_end size (λ u. test (suc u)) others (old + size first) (new + size first) x) (moved_end size (λ u. test (suc u)) others (old + size first) new x)
  where
    either : (b : Bool) → new + size_of size (keep_first b first (kept_among (λ u. test (suc u)) others)) ≤ x
        → (new + size first + size_of size (kept_among (λ u. test (suc u)) others) ≤ x → old + size first + size_of size others ≤ moved size (λ u. test (suc u)) others (old + size first) (new + size first) x)
        → (new + size_of size (kept_among (λ u. test (suc u)) others) ≤ x → old + size first + size_of size others ≤ moved size (λ u. test (suc u)) others (old + size first) new x)
        → old + (size first + size_of size others) ≤ moved_by b (size first) old new x (moved size (λ u. test (suc u)) others (old + size first) (new + size first) x) (moved size (λ u. test (suc u)) others (old + size first) new x)
    either true above kept left =
        let rest : old + size first + size_of size others ≤ moved size (λ u. test (suc u)) others (old + size first) (new + size first) x = kept (omega (arith, above)) in
        omega (arith, rest, behind_here (size first) old new x (moved size (λ u. test (suc u)) others (old + size first) (new + size first) x) (moved size (λ u. test (suc u)) others (old + size first) new x) (omega (arith, above)))
    either false above kept left = omega (arith, left above)

-- ---- from the start: so many come before the items in both

abbrev pub across : (Tree → ℕ) → (ℕ → Bool) → Trees → ℕ → ℕ → ℕ
across size test ts base x = if nat_lt x base then x else moved size test ts base base x

pub across_below : (size : Tree → ℕ) (test : ℕ → Bool) (ts : Trees) (base x : ℕ) → x < base → across size test ts base x ≡ x
across_below size test ts base x below = ap (λ b. if b then x else moved size test ts base base x) (lt-ltb x base below)

pub across_past : (size : Tree → ℕ) (test : ℕ → Bool) (ts : Trees) (base x : ℕ) → base ≤ x → across size test ts base x ≡ moved size test ts base base x
across_past size test ts base x from = ap (λ b. if b then x else moved size test ts base base x) (never_true (nat_lt x base) (λ is. absurd (omega (arith, from, ltb-true x base is))))

pub across_rises : (size : Tree → ℕ) (test : ℕ → Bool) (ts : Trees) (base x y : ℕ) → x < y → across size test ts base x < across size test ts base y
across_rises size test ts base x y less = either (cases_lt x base) (cases_lt y base)
  where
    either : (x < base) ⊎ (base ≤ x) → (y < base) ⊎ (base ≤ y) → across size test ts base x < across size test ts base y
    either (inl a) (inl b) = omega (arith, less, across_below size test ts base x a, across_below size test ts base y b)
    either (inl a) (inr b) = omega (arith, a, across_below size test ts base x a, across_past size test ts base y b, moved_from size test ts base base y b)
    either (inr a) (inl b) = absurd (omega (arith, a, b, less))
    either (inr a) (inr b) = omega (arith, across_past size test ts base x a, across_past size test ts base y b, moved_rises size test ts base base x y a less)

pub across_once : (size : Tree → ℕ) (test : ℕ → Bool) (ts : Trees) (base x y : ℕ) → across size test ts base x ≡ across size test ts base y → x ≡ y
across_once size test ts base x y same = elim (cases_lt x y) [
  | inl less ↦ absurd (omega (arith, same, across_rises size test ts base x y less))
  | inr from ↦ elim (cases_lt y x) [
    | inl more ↦ absurd (omega (arith, same, across_rises size test ts base y x more))
    | inr other ↦ omega (arith, from, other)
  ]
]
