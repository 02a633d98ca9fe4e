-- Atoms that stand side by side in tree order, and are all after another or all not.
use Rattle.std.specs.Prelude.{◌≡◌, ℕ, zero, suc, ◌<◌, ◌≤◌, List, [], ◌∷◌, Bool, false, ◌&&◌, ◌⊎◌, Option, None, Some, nat_eq, nat_lt}
use Rattle.tf_flow.specs.declared.paths.Turn.{Turn}
use Rattle.tf_flow.specs.Outline.{Atom}
use Rattle.tf_model.specs.Before.{Flow, path_at, path_before}
use Rattle.tf_model.specs.Plan.{Outline, count, path}

-- in a flow the first place stands earlier than the second: the retry controller's before the items'
abbrev pub IsEarlierPlace : Option ℕ → Option ℕ → Type 0
IsEarlierPlace None None = ⊥
IsEarlierPlace None (Some v) = Unit {0}
IsEarlierPlace (Some u) None = ⊥
IsEarlierPlace (Some u) (Some v) = u < v

-- the first path is the second, or they part in a flow where the first goes on to an earlier place
abbrev pub IsPathUpTo : List Turn → List Turn → Type 0
IsPathUpTo [] [] = Unit {0}
IsPathUpTo [] (y ∷ ys) = ⊥
IsPathUpTo (x ∷ xs) [] = ⊥
IsPathUpTo (x ∷ xs) (y ∷ ys) =
    (x.flow ≡ y.flow) × (IsEarlierPlace x.item y.item ⊎ ((x.item ≡ y.item) × IsPathUpTo xs ys))

-- the paths of the atoms come in this order
abbrev pub IsAscending : Outline → Type 0
IsAscending plan = (i j : ℕ) → i ≤ j → j < count plan → IsPathUpTo (path plan i) (path plan j)

-- two paths have the same first so many turns
abbrev pub Agree : ℕ → List Turn → List Turn → Type 0
Agree zero xs ys = Unit {0}
Agree (suc turns) [] ys = ⊥
Agree (suc turns) (x ∷ xs) [] = ⊥
Agree (suc turns) (x ∷ xs) (y ∷ ys) = (x.flow ≡ y.flow) × (x.item ≡ y.item) × Agree turns xs ys

-- the place is the retry controller's, or an item up to this one
abbrev pub IsUpToItem : ℕ → Option ℕ → Type 0
IsUpToItem most None = Unit {0}
IsUpToItem most (Some v) = v ≤ most

-- two paths have the same first so many turns, and go on in one flow, the second to an item up to this one
abbrev pub GoesAlong : ℕ → ℕ → List Turn → List Turn → Type 0
GoesAlong turns most [] ys = ⊥
GoesAlong turns most (x ∷ xs) [] = ⊥
GoesAlong zero most (x ∷ xs) (y ∷ ys) = (x.flow ≡ y.flow) × IsUpToItem most y.item
GoesAlong (suc turns) most (x ∷ xs) (y ∷ ys) = (x.flow ≡ y.flow) × (x.item ≡ y.item) × GoesAlong turns most xs ys

-- the paths of the atoms after b and before the end go along with that of b
abbrev pub IsAlongUpTo : ℕ → ℕ → List Atom → ℕ → ℕ → Type 0
IsAlongUpTo turns most atoms b end =
    (k : ℕ) → b < k → k < end → GoesAlong turns most (path_at atoms b) (path_at atoms k)

-- item u isn't among those from v up to the last, and the test tells the same of all of these
abbrev pub IsSteady : ℕ → (ℕ → Bool) → ℕ → ℕ → Type 0
IsSteady u test v last = (w : ℕ) → v ≤ w → w ≤ last → (nat_eq u w ≡ false) × (test w ≡ test v)

-- item w of a linear flow of so many items stands later than item u
abbrev pub stands_later : ℕ → ℕ → ℕ → Bool
stands_later items u w = nat_lt u w && nat_lt w items

-- an atom with the first path is before all that stand from the second path on and go along with it up to this
-- item, or before none of them
abbrev pub IsAlike : List Flow → ℕ → List Turn → List Turn → ℕ → Type 0
IsAlike flows turns first second most =
    (other : List Turn) → IsPathUpTo second other → GoesAlong turns most second other
    → path_before flows first other ≡ path_before flows first second

-- the test tells the same of all numbers from one on up to before the end
abbrev pub TellsTheSame : (ℕ → Bool) → Bool → ℕ → ℕ → Type 0
TellsTheSame test on from end = (k : ℕ) → from ≤ k → k < end → test k ≡ on
