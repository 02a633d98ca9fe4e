-- The numbers, the parts and the priorities of a plan's atoms.
use Rattle.std.proofs.Common.{◌≡◌, ℕ, zero, ℤ, suc, ◌+◌, ◌<◌, ◌≤◌, List, [], ◌∷◌, ◌++◌, length, map, take, Bool, true, false, not, Option, Some, None, refl, sym, ap, ◌∙◌, slice_get, add-one, arith}
use Rattle.std.specs.Prelude.{option_map, int_lt}
use Rattle.std.proofs.Common.{get_or, subst}
use Rattle.std.proofs.Math.Seq.{take-suc}
use Rattle.std.proofs.lemmas.Int.{ints}
use Rattle.std.proofs.lemmas.Option.{slice_get-map, slice_get_past}
use Rattle.tf_flow.specs.declared.atoms.Task.{Task}
use Rattle.tf_flow.specs.Plan.{PlanValue}
use Rattle.tf_flow.specs.Plan as numbering
use Rattle.tf_flow.specs.declared.paths.Part.{Part as CodePart}
use Rattle.tf_flow.specs.Paths.{shown_part}
use Rattle.tf_flow.specs.Outline.{Part, a_task, Atom, part_of, priority_of}
use Rattle.tf_flow.specs.declared.paths.Turn.{Turn}
use Rattle.tf_model.specs.Before.{passes_flow}
use Rattle.tf_model.specs.Plan.{Outline, outline_of, count, holds, own_flow, last_flow}
use Rattle.tf_model.specs.Forced.{priority}
use Rattle.tf_machine.specs.Compiled.{priority_at, AreNoGreater}
use Rattle.tf_model.specs.Scope.{task_part, task_at}
use Rattle.tf_model.proofs.PlanLemmas.{path_told, atoms_counted}
use Rattle.tf_model.proofs.Told.{path_in, priority_in, task_in}
use Rattle.tf_numbers.proofs.ListLemmas.{take_whole}
use Rattle.tf_numbers.proofs.TruthLemmas.{not_true}

-- the task that an atom is, by what the plan has at its number
pub task_read : (plan : PlanValue) (a : ℕ) (t : Task) → numbering.part plan a ≡ Some (a_task t) → task_at (outline_of plan) a ≡ Some t
task_read plan a t is = by (slice_get (outline_of plan).atoms a) is
  where
    by : (o : Option Atom) → option_map part_of o ≡ Some (a_task t) → task_in o ≡ Some t
    by None told = absurd (cc)
    by (Some x) told = let same : x.part ≡ a_task t = cc in ap task_part same

-- ---- paths

-- a flow holds an atom where the atom's path passes it
pub holds_told : (plan : PlanValue) (g a : ℕ) (w : List Turn) → slice_get (numbering.paths plan) a ≡ Some w → passes_flow g w ≡ holds (outline_of plan) g a
unfolding holds
holds_told plan g a w is = ap (passes_flow g) (path_told plan a w is)

pub own_flow_told : (plan : PlanValue) (a : ℕ) (w : List Turn) → slice_get (numbering.paths plan) a ≡ Some w → last_flow w ≡ own_flow (outline_of plan) a
own_flow_told plan a w is = ap last_flow (path_told plan a w is)

-- a number past the last atom's stands in no flow
pub never_held : (plan : Outline) (g a : ℕ) → count plan ≤ a → holds plan g a ≡ false
unfolding holds
never_held plan g a past = ap (λ (o : Option Atom). passes_flow g (path_in o)) (slice_get_past plan.atoms a past)

pub no_own_flow : (plan : Outline) (a : ℕ) → count plan ≤ a → own_flow plan a ≡ None
no_own_flow plan a past = ap (λ (o : Option Atom). last_flow (path_in o)) (slice_get_past plan.atoms a past)

-- ---- priorities

-- the priorities of the atoms so far, with one more
priorities_on : (xs : List Atom) (k : ℕ) (p : Part) → option_map part_of (slice_get xs k) ≡ Some p → map priority_at (take k xs) ++ priority_of p ∷ [] ≡ map priority_at (take (suc k) xs)
priorities_on [] k p is = absurd (cc)
priorities_on (x ∷ xs) zero p is = let same : x.part ≡ p = cc in ap (λ (q : Part). priority_of q ∷ []) (sym same)
priorities_on (x ∷ xs) (suc k) p is = ap (λ (rest : List ℤ). priority_at x ∷ rest) (priorities_on xs k p is)

pub priorities_next : (plan : PlanValue) (k : ℕ) (p : CodePart) (done : List ℤ) → done ≡ map priority_at (take k (outline_of plan).atoms) → numbering.part plan k ≡ Some (shown_part p)
    → done ++ priority_of (shown_part p) ∷ [] ≡ map priority_at (take (k + 1) (outline_of plan).atoms)
priorities_next plan k p done is there =
    ap (λ (xs : List ℤ). xs ++ priority_of (shown_part p) ∷ []) is
    ∙ (priorities_on (outline_of plan).atoms k (shown_part p) there ∙ ap (λ (n : ℕ). map priority_at (take n (outline_of plan).atoms)) (sym (add-one k)))

pub priorities_all : (plan : PlanValue) (k : ℕ) (done : List ℤ) → done ≡ map priority_at (take k (outline_of plan).atoms) → length (numbering.atoms plan) ≤ k → done ≡ map priority_at (outline_of plan).atoms
priorities_all plan k done is whole = is ∙ ap (map priority_at) (take_whole (outline_of plan).atoms k (let counted = atoms_counted plan in omega (arith, counted)))

-- ---- the greatest priority

within_more : (old most : ℤ) (numbers : List ℤ) (n : ℤ) → int_lt most old ≡ false → int_lt most n ≡ false → AreNoGreater old numbers → AreNoGreater most (numbers ++ n ∷ [])
within_more old most [] n above last within = (last, tt)
within_more old most (m ∷ numbers) n above last (first, others) = (not_above old most m above first, within_more old most numbers n above last others)
  where
    not_above : (x y z : ℤ) → int_lt y x ≡ false → int_lt x z ≡ false → int_lt y z ≡ false
    not_above x y z first second = grind (arith, ints)

pub greater_next : (old : ℤ) (numbers : List ℤ) (k : ℕ) (d : ℤ) → k < length numbers → int_lt old (get_or numbers k d) ≡ true → AreNoGreater old (take k numbers) → AreNoGreater (get_or numbers k d) (take (k + 1) numbers)
greater_next old numbers k d below greater within =
    subst (AreNoGreater (get_or numbers k d)) (sym (ap (λ (n : ℕ). take n numbers) (add-one k) ∙ take-suc numbers k d below))
    (within_more old (get_or numbers k d) (take k numbers) (get_or numbers k d) (not_below old (get_or numbers k d) greater) (not_self (get_or numbers k d)) within)
  where
    not_below : (x y : ℤ) → int_lt x y ≡ true → int_lt y x ≡ false
    not_below x y is = grind (arith, ints)

    not_self : (x : ℤ) → int_lt x x ≡ false
    not_self x = grind (arith, ints)

pub no_greater_next : (old : ℤ) (numbers : List ℤ) (k : ℕ) (d : ℤ) → k < length numbers → int_lt old (get_or numbers k d) ≡ false → AreNoGreater old (take k numbers) → AreNoGreater old (take (k + 1) numbers)
no_greater_next old numbers k d below is within =
    subst (AreNoGreater old) (sym (ap (λ (n : ℕ). take n numbers) (add-one k) ∙ take-suc numbers k d below))
    (within_more old old (take k numbers) (get_or numbers k d) (not_self old) is within)
  where
    not_self : (x : ℤ) → int_lt x x ≡ false
    not_self x = grind (arith, ints)

pub all_within : (most : ℤ) (numbers : List ℤ) (k : ℕ) → length numbers ≤ k → AreNoGreater most (take k numbers) → AreNoGreater most numbers
all_within most numbers k past within = subst (AreNoGreater most) (take_whole numbers k past) within

not_past : (atoms : List Atom) (a : ℕ) → a < length atoms → slice_get atoms a ≡ None → ⊥
not_past [] a below out = absurd (omega (arith, below))
not_past (atom ∷ atoms) zero below out = absurd (cc)
not_past (atom ∷ atoms) (suc a) below out = not_past atoms a (omega (arith, below)) out

within_at : (most : ℤ) (numbers : List ℤ) (a : ℕ) (n : ℤ) → AreNoGreater most numbers → slice_get numbers a ≡ Some n → int_lt most n ≡ false
within_at most [] a n within is = absurd (cc)
within_at most (m ∷ numbers) zero n (first, others) is = let same : m ≡ n = cc in ap (int_lt most) (sym same) ∙ first
within_at most (m ∷ numbers) (suc a) n (first, others) is = within_at most numbers a n others is

below_top : (top p n : ℤ) → int_lt p top ≡ false → int_lt top n ≡ false → int_lt p n ≡ false
below_top top p n first second = grind (arith, ints)

pub none_outranks : (plan : Outline) (numbers : List ℤ) (most p : ℤ) (b : Bool) → numbers ≡ map priority_at plan.atoms → AreNoGreater most numbers → b ≡ int_lt p most → not b ≡ true → (a : ℕ) → a < count plan → int_lt p (priority plan a) ≡ false
none_outranks plan numbers most p b is within told lower a below = by (slice_get plan.atoms a) refl
  where
    by : (o : Option Atom) → slice_get plan.atoms a ≡ o → int_lt p (priority_in o) ≡ false
    by None out = absurd (not_past plan.atoms a below out)
    by (Some atom) here = below_top most p (priority_at atom) (sym told ∙ not_true b lower)
        (within_at most numbers a (priority_at atom) within (ap (λ (xs : List ℤ). slice_get xs a) is ∙ (slice_get-map priority_at plan.atoms a ∙ ap (option_map priority_at) here)))
