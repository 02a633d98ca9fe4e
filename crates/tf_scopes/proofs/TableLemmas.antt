-- The table of sources, row by row.
use Rattle.std.proofs.Common.{◌≡◌, ℕ, zero, suc, ◌+◌, ◌<◌, List, [], ◌∷◌, ◌++◌, length, map, take, drop, Bool, true, false, Some, None, refl, sym, ap, ◌∙◌, arith, add-one, slice_get, slice_index_or, inl, inr}
use Rattle.std.proofs.lemmas.Bool.{cases_lt}
use Rattle.std.proofs.lemmas.List.{length-map}
use Rattle.tf_flow.specs.Tree.{first_some}
use Rattle.tf_flow.specs.Plan.{PlanValue}
use Rattle.tf_flow.specs.Plan as numbering
use Rattle.tf_flow.specs.Outline.{Part, arguments_of, name_of}
use Rattle.tf_flow.specs.declared.atoms.Arg.{Arg}
use Rattle.tf_model.specs.Plan.{Outline, outline_of, count, arguments}
use Rattle.tf_model.specs.Scope.{missing_argument, missing_of}
use Rattle.tf_numbers.specs.Numbers.{numbers_below}
use Rattle.tf_numbers.proofs.EquationLemmas.{ap2}
use Rattle.tf_numbers.proofs.ListLemmas.{map_append}
use Rattle.tf_scopes.specs.declared.sources.Source.{Source}
use Rattle.tf_scopes.specs.Providers.{IsOf}
use Rattle.tf_scopes.specs.Sources.{gives_nothing, source_of, source_of_argument, sources_of}
use Rattle.tf_scopes.proofs.PlaceLemmas.{first_kept, first_here}
use Rattle.tf_model.proofs.PlanLemmas.{arguments_are, name_is}
use Rattle.tf_scopes.proofs.SourceLemmas.{is_missing, not_missing, none_so_far}

-- ---- the arguments of an atom

arg_there : (xs : List Arg) (k : ℕ) (x : Arg) → k < length xs → x ≡ slice_index_or xs k x → slice_get xs k ≡ Some x
arg_there [] k x below is = absurd (omega arith)
arg_there (y ∷ ys) zero x below is = ap Some (sym is)
arg_there (y ∷ ys) (suc k) x below is = arg_there ys k x (omega arith) is

-- the argument at a place of the code's list is the outline's
pub arg_read : (plan : PlanValue) (a k : ℕ) (p : Part) (args : List Arg) (arg : Arg) → numbering.part plan a ≡ Some p → args ≡ arguments_of p → k < length args → arg ≡ slice_index_or args k arg → slice_get (arguments (outline_of plan) a) k ≡ Some arg
arg_read plan a k p args arg is same below there =
    ap (λ (xs : List Arg). slice_get xs k) (arguments_are plan a p is ∙ sym same) ∙ arg_there args k arg below there

pub missing_here : (plan : PlanValue) (a k : ℕ) (p : Part) (arg : Arg) (found : Source) (on : Bool) (name : List ℕ) → numbering.part plan a ≡ Some p → slice_get (arguments (outline_of plan) a) k ≡ Some arg → found ≡ source_of (outline_of plan) a arg.symbol
    → on ≡ gives_nothing found → on ≡ true → name ≡ name_of p → missing_of (outline_of plan) a ≡ first_some (missing_argument (outline_of plan) a) (drop k (arguments (outline_of plan) a))
    → missing_of (outline_of plan) a ≡ Some (record { atom = name; symbol = arg.symbol })
missing_here plan a k p arg found on name is there same told passes named so_far =
    so_far ∙ first_here (missing_argument (outline_of plan) a) (arguments (outline_of plan) a) k arg (record { atom = name; symbol = arg.symbol }) there
    (is_missing (outline_of plan) a arg (ap gives_nothing (sym same) ∙ (sym told ∙ passes))
    ∙ ap (λ (n : List ℕ). Some (record { atom = n; symbol = arg.symbol })) (name_is plan a p is ∙ sym named))

pub present_here : (plan : Outline) (a k : ℕ) (arg : Arg) (found : Source) (on : Bool) → slice_get (arguments plan a) k ≡ Some arg → found ≡ source_of plan a arg.symbol → on ≡ gives_nothing found → on ≡ false
    → missing_of plan a ≡ first_some (missing_argument plan a) (drop k (arguments plan a)) → missing_of plan a ≡ first_some (missing_argument plan a) (drop (k + 1) (arguments plan a))
present_here plan a k arg found on there same told fails so_far =
    so_far ∙ (first_kept (missing_argument plan a) (arguments plan a) k arg there (not_missing plan a arg (ap gives_nothing (sym same) ∙ (sym told ∙ fails)))
    ∙ ap (λ (n : ℕ). first_some (missing_argument plan a) (drop n (arguments plan a))) (sym (add-one k)))

map_more : (f : Arg → Source) (xs : List Arg) (k : ℕ) (x : Arg) → slice_get xs k ≡ Some x → map f (take k xs) ++ f x ∷ [] ≡ map f (take (suc k) xs)
map_more f [] k x is = absurd (cc)
map_more f (y ∷ ys) zero x is = let same : y ≡ x = cc in ap (λ (z : Arg). f z ∷ []) (sym same)
map_more f (y ∷ ys) (suc k) x is = ap (λ (zs : List Source). f y ∷ zs) (map_more f ys k x is)

pub source_more : (plan : Outline) (a k : ℕ) (arg : Arg) (found : Source) (old new : List Source) → slice_get (arguments plan a) k ≡ Some arg → found ≡ source_of plan a arg.symbol → old ≡ map (source_of_argument plan a) (take k (arguments plan a))
    → new ≡ old ++ found ∷ [] → new ≡ map (source_of_argument plan a) (take (k + 1) (arguments plan a))
source_more plan a k arg found old new there same is more =
    more ∙ (ap2 (λ (xs : List Source) (x : Source). xs ++ x ∷ []) is same
    ∙ (map_more (source_of_argument plan a) (arguments plan a) k arg there
    ∙ ap (λ (n : ℕ). map (source_of_argument plan a) (take n (arguments plan a))) (sym (add-one k))))

-- ---- the atoms of a plan

pub row_more : (plan : Outline) (k : ℕ) (row : List Source) (old new : List (List Source)) → old ≡ map (sources_of plan) (numbers_below k) → row ≡ sources_of plan k → new ≡ old ++ row ∷ [] → new ≡ map (sources_of plan) (numbers_below (k + 1))
row_more plan k row old new is same more =
    more ∙ (ap2 (λ (xs : List (List Source)) (x : List Source). xs ++ x ∷ []) is same
    ∙ (sym (map_append (sources_of plan) (numbers_below k) (k ∷ []))
    ∙ ap (λ (n : ℕ). map (sources_of plan) (numbers_below n)) (sym (add-one k))))

pub none_more : (plan : Outline) (k : ℕ) → first_some (missing_of plan) (numbers_below k) ≡ None → missing_of plan k ≡ None → first_some (missing_of plan) (numbers_below (k + 1)) ≡ None
none_more plan k before here = ap (λ (n : ℕ). first_some (missing_of plan) (numbers_below n)) (add-one k) ∙ none_so_far plan k before here

-- ---- reading the table

length_below : (n : ℕ) → length (numbers_below n) ≡ n
length_below zero = refl
length_below (suc n) = length_last (numbers_below n) n ∙ ap suc (length_below n)
  where
    length_last : (xs : List ℕ) (y : ℕ) → length (xs ++ y ∷ []) ≡ suc (length xs)
    length_last [] y = refl
    length_last (x ∷ xs) y = ap suc (length_last xs y)

pub rows_counted : (providers : List (List Source)) (plan : PlanValue) → IsOf providers plan → length providers ≡ count (outline_of plan)
rows_counted providers plan is = ap length is.rows ∙ (length-map (numbers_below (count (outline_of plan))) (sources_of (outline_of plan)) ∙ length_below (count (outline_of plan)))

get_first : {X : Type 0} (xs : List X) (y d : X) (k : ℕ) → k < length xs → slice_index_or (xs ++ y ∷ []) k d ≡ slice_index_or xs k d
get_first [] y d k below = absurd (omega arith)
get_first (x ∷ xs) y d zero below = refl
get_first (x ∷ xs) y d (suc k) below = get_first xs y d k (omega arith)

get_last : {X : Type 0} (xs : List X) (y d : X) (k : ℕ) → k ≡ length xs → slice_index_or (xs ++ y ∷ []) k d ≡ y
get_last [] y d zero is = refl
get_last [] y d (suc k) is = absurd (omega (arith, is))
get_last (x ∷ xs) y d zero is = absurd (omega (arith, is))
get_last (x ∷ xs) y d (suc k) is = get_last xs y d k (omega (arith, is))

numbers_length : (f : ℕ → List Source) (n : ℕ) → length (map f (numbers_below n)) ≡ n
numbers_length f n = length-map (numbers_below n) f ∙ length_below n

row_of : (f : ℕ → List Source) (n k : ℕ) (d : List Source) → k < n → slice_index_or (map f (numbers_below n)) k d ≡ f k
row_of f zero k d below = absurd (omega arith)
row_of f (suc n) k d below =
    ap (λ (rows : List (List Source)). slice_index_or rows k d) (map_append f (numbers_below n) (n ∷ []))
    ∙ elim (cases_lt k n) [
      | inl before ↦ let counted = numbers_length f n in get_first (map f (numbers_below n)) (f n) d k (omega (arith, counted)) ∙ row_of f n k d before
      | inr from ↦ let counted = numbers_length f n in let is : k ≡ n = omega arith in
          get_last (map f (numbers_below n)) (f n) d k (omega (arith, counted)) ∙ ap f (sym is)
    ]

pub row_is : (providers : List (List Source)) (plan : PlanValue) (a : ℕ) (row : List Source) → IsOf providers plan → a < count (outline_of plan) → row ≡ slice_index_or providers a row → row ≡ sources_of (outline_of plan) a
row_is providers plan a row is below there =
    there ∙ (ap (λ (rows : List (List Source)). slice_index_or rows a row) is.rows ∙ row_of (sources_of (outline_of plan)) (count (outline_of plan)) a row below)

source_at : (plan : Outline) (a : ℕ) (xs : List Arg) (k : ℕ) (arg : Arg) (d : Source) → slice_get xs k ≡ Some arg → slice_index_or (map (source_of_argument plan a) xs) k d ≡ source_of plan a arg.symbol
source_at plan a [] k arg d is = absurd (cc)
source_at plan a (x ∷ xs) zero arg d is = let same : x ≡ arg = cc in ap (source_of_argument plan a) same
source_at plan a (x ∷ xs) (suc k) arg d is = source_at plan a xs k arg d is

pub source_is : (plan : Outline) (a k : ℕ) (arg : Arg) (row : List Source) (found : Source) → row ≡ sources_of plan a → slice_get (arguments plan a) k ≡ Some arg → found ≡ slice_index_or row k found → found ≡ source_of plan a arg.symbol
source_is plan a k arg row found is there read =
    read ∙ (ap (λ (xs : List Source). slice_index_or xs k found) is ∙ source_at plan a (arguments plan a) k arg found there)

pub row_counted : (plan : Outline) (a : ℕ) (row : List Source) → row ≡ sources_of plan a → length row ≡ length (arguments plan a)
row_counted plan a row is = ap length is ∙ length-map (arguments plan a) (source_of_argument plan a)
