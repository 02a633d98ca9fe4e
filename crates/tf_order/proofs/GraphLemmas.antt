-- A graph tells of each atom what its plan says.
use Rattle.std.proofs.Common.{◌≡◌, ℕ, zero, suc, ◌<◌, ◌≤◌, List, [], ◌∷◌, ◌++◌, length, Bool, true, false, ◌&&◌, Option, Some, None, refl, sym, ap, ◌∙◌, inl, inr, map, slice_get, arith, eqb-true, eq-eqb}
use Rattle.std.specs.Prelude.{nat_eq, if◌then◌else◌}
use Rattle.std.proofs.lemmas.Bool.{cases_lt}
use Rattle.tf_flow.specs.Plan.{PlanValue}
use Rattle.tf_numbers.specs.Numbers.{which_below, numbers_below, has_number}
use Rattle.tf_flow.specs.Outline.{Atom}
use Rattle.tf_flow.specs.declared.paths.Turn.{Turn}
use Rattle.std.specs.Option.{unwrap_or}
use Rattle.tf_model.specs.Before.{Flow, no_flow, path_before}
use Rattle.tf_model.specs.Plan.{Outline, outline_of, count, path, is_before, is_task, last_flow}
use Rattle.tf_model.specs.Readiness.{same_flow, last_item}
use Rattle.tf_model.proofs.Told.{path_in, flow_in}
use Rattle.tf_model.specs.Scope.{is_earlier}
use Rattle.tf_order.specs.Graph.{GraphValue, IsGraphOf, predecessors_of, successors_of, direct_tasks_of, leads_to, leads_in}
use Rattle.tf_order.specs.Rows.{row_in, row_at}
use Rattle.std.proofs.lemmas.List.{map-append}
use Rattle.std.proofs.lemmas.Option.{slice_get_past}
use Rattle.tf_numbers.proofs.PairLemmas.{which_passes, passes_which}
use Rattle.tf_numbers.proofs.TruthLemmas.{same_truth}

-- ---- the rows of numbers

length_one_more : {X : Type 0} (xs : List X) (x : X) → length (xs ++ x ∷ []) ≡ suc (length xs)
length_one_more [] x = refl
length_one_more (y ∷ ys) x = ap suc (length_one_more ys x)

-- there are as many rows as numbers
pub rows_length : {X : Type 0} (f : ℕ → X) (n : ℕ) → length (map f (numbers_below n)) ≡ n
rows_length f zero = refl
rows_length f (suc n) = ap length (map-append f (numbers_below n) (n ∷ [])) ∙ (length_one_more (map f (numbers_below n)) (f n) ∙ ap suc (rows_length f n))

pub get_first : {X : Type 0} (xs : List X) (y : X) (k : ℕ) → k < length xs → slice_get (xs ++ y ∷ []) k ≡ slice_get xs k
get_first [] y k below = absurd (omega arith)
get_first (x ∷ xs) y zero below = refl
get_first (x ∷ xs) y (suc k) below = get_first xs y k (omega arith)

pub get_last : {X : Type 0} (xs : List X) (y : X) → slice_get (xs ++ y ∷ []) (length xs) ≡ Some y
get_last [] y = refl
get_last (x ∷ xs) y = get_last xs y

-- the row of a number
pub row_told : {X : Type 0} (f : ℕ → X) (n k : ℕ) → k < n → slice_get (map f (numbers_below n)) k ≡ Some (f k)
row_told {X = X} f zero k below = absurd (omega arith)
row_told {X = X} f (suc n) k below =
    ap (λ (rows : List X). slice_get rows k) (map-append f (numbers_below n) (n ∷ []))
    ∙ elim (cases_lt k n) [
      | inl before ↦ get_first (map f (numbers_below n)) (f n) k (rw (rows_length f n) before) ∙ row_told f n k before
      | inr from ↦ let same : k ≡ length (map f (numbers_below n)) = rw (rows_length f n) (omega arith) in
          let is : k ≡ n = omega arith in
          ap (slice_get (map f (numbers_below n) ++ f n ∷ [])) same ∙ (get_last (map f (numbers_below n)) (f n) ∙ ap (λ (m : ℕ). Some (f m)) (sym is))
    ]

-- a row of a number that has none is the empty one of the numbers past them
row_at_told : (f : ℕ → List ℕ) (n k : ℕ) → (n ≤ k → f k ≡ []) → row_at (map f (numbers_below n)) k ≡ f k
row_at_told f n k past = elim (cases_lt k n) [
  | inl below ↦ ap row_in (row_told f n k below)
  | inr from ↦ ap row_in (slice_get_past (map f (numbers_below n)) k (rw (rows_length f n) from)) ∙ sym (past from)
]

-- ---- atoms past the last one

-- none of the numbers passes
none_which : (n : ℕ) (test : ℕ → Bool) → ((k : ℕ) → test k ≡ false) → which_below n test ≡ []
none_which zero test each = refl
none_which (suc n) test each = ap (λ (rest : List ℕ). rest ++ (if test n then n ∷ [] else [])) (none_which n test each) ∙ ap (λ (b : Bool). if b then n ∷ [] else []) (each n)

no_way : (plan : Outline) (a : ℕ) → count plan ≤ a → path plan a ≡ []
no_way plan a past = ap (λ (o : Option Atom). path_in o) (slice_get_past plan.atoms a past)

before_none : (flows : List Flow) (w : List Turn) → path_before flows w [] ≡ false
before_none flows [] = refl
before_none flows (x ∷ xs) = refl

no_earlier : (plan : Outline) (a b : ℕ) → count plan ≤ a → is_earlier plan a b ≡ false
unfolding is_before
no_earlier plan a b past = ap (path_before plan.flows (path plan b)) (no_way plan a past) ∙ before_none plan.flows (path plan b)

pub no_later : (plan : Outline) (a b : ℕ) → count plan ≤ a → is_before plan a b ≡ false
unfolding is_before
no_later plan a b past = ap (λ (w : List Turn). path_before plan.flows w (path plan b)) (no_way plan a past)

-- an atom that isn't there is no task
no_place : (plan : Outline) (a b : ℕ) → count plan ≤ a → leads_to plan a b ≡ false
no_place plan a b past =
    ap (λ (w : List Turn). (is_task plan b && same_flow (last_flow (path plan b)) (last_flow w)) && leads_in (unwrap_or (flow_in plan (last_flow w)) no_flow) (last_item w) (last_item (path plan b))) (no_way plan a past)
    ∙ nothing (is_task plan b) (last_flow (path plan b))
  where
    nothing : (b : Bool) (g : Option ℕ) → (b && same_flow g None) && false ≡ false
    nothing true None = refl
    nothing true (Some g) = refl
    nothing false g = refl

-- ---- what the rows tell

pub predecessors_told : (graph : GraphValue) (plan : PlanValue) (a : ℕ) → IsGraphOf graph plan → row_at graph.predecessors a ≡ predecessors_of (outline_of plan) a
predecessors_told graph plan a is =
    ap (λ (rows : List (List ℕ)). row_at rows a) is.predecessors
    ∙ row_at_told (predecessors_of (outline_of plan)) (count (outline_of plan)) a (λ past. none_which (count (outline_of plan)) (is_earlier (outline_of plan) a) (λ b. no_earlier (outline_of plan) a b past))

pub successors_told : (graph : GraphValue) (plan : PlanValue) (a : ℕ) → IsGraphOf graph plan → row_at graph.successors a ≡ successors_of (outline_of plan) a
successors_told graph plan a is =
    ap (λ (rows : List (List ℕ)). row_at rows a) is.successors
    ∙ row_at_told (successors_of (outline_of plan)) (count (outline_of plan)) a (λ past. none_which (count (outline_of plan)) (is_before (outline_of plan) a) (λ b. no_later (outline_of plan) a b past))

pub direct_tasks_told : (graph : GraphValue) (plan : PlanValue) (a : ℕ) → IsGraphOf graph plan → row_at graph.direct_tasks a ≡ direct_tasks_of (outline_of plan) a
direct_tasks_told graph plan a is =
    ap (λ (rows : List (List ℕ)). row_at rows a) is.direct_tasks
    ∙ row_at_told (direct_tasks_of (outline_of plan)) (count (outline_of plan)) a (λ past. none_which (count (outline_of plan)) (leads_to (outline_of plan) a) (λ b. no_place (outline_of plan) a b past))

-- a number stands among those below n that pass where it passes, and all that pass are below n
pub listed_number : (n : ℕ) (test : ℕ → Bool) (k : ℕ) → (n ≤ k → test k ≡ false) → has_number (which_below n test) k ≡ test k
listed_number n test k past = same_truth (has_number (which_below n test) k) (test k)
    (λ is. let found = which_passes n test (nat_eq k) is in ap test (eqb-true k found.number found.passes) ∙ found.tested)
    (λ is. elim (cases_lt k n) [
      | inl below ↦ passes_which n test (nat_eq k) k below is (eq-eqb k k refl)
      | inr from ↦ let no : true ≡ false = sym is ∙ past from in absurd (cc)
    ])

-- the row of an atom tells what it is before
pub listed_before : (plan : PlanValue) (a b : ℕ) (row : List ℕ) (on : Bool) → row ≡ successors_of (outline_of plan) a
    → ((count : ℕ) → (test : ℕ → Bool) → row ≡ which_below count test → on ≡ has_number row b) → on ≡ is_before (outline_of plan) a b
listed_before plan a b row on is told =
    told (count (outline_of plan)) (is_before (outline_of plan) a) is
    ∙ (ap (λ (xs : List ℕ). has_number xs b) is
    ∙ listed_number (count (outline_of plan)) (is_before (outline_of plan) a) b (λ past. no_earlier (outline_of plan) b a past))
