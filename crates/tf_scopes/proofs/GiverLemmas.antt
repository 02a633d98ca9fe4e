-- Who gives a symbol to an atom, read off the places of those that list it.
use Rattle.std.proofs.Common.{◌≡◌, ℕ, zero, suc, ◌<◌, ◌≤◌, List, [], ◌∷◌, ◌++◌, length, take, Bool, true, false, Option, Some, None, refl, sym, ap, ◌∙◌, arith, slice_get, slice_index_or}
use Rattle.std.specs.Prelude.{cond, filter, reverse, take_while, if◌then◌else◌}
use Rattle.std.specs.List.{filter_map, cons_option}
use Rattle.std.proofs.lemmas.List.Sums.{take_while-cons}
use Rattle.tf_flow.specs.Plan.{PlanValue}
use Rattle.tf_model.specs.Plan.{Outline, outline_of}
use Rattle.tf_model.specs.Scope.{is_earlier, lists_symbol}
use Rattle.tf_numbers.specs.Numbers.{which_below}
use Rattle.tf_numbers.proofs.ListLemmas.{nothing_after, take_whole}
use Rattle.tf_order.specs.Graph.{standing_of_plan}
use Rattle.tf_scopes.specs.Scope.{IsScopeIn, earlier_in}
use Rattle.tf_scopes.specs.declared.scope.Scope.{Scope}
use Rattle.tf_scopes.specs.Sources.{givers}
use Rattle.tf_scopes.specs.Standing.{is_other, standing_scope}
use Rattle.tf_scopes.specs.Symbols.{told, lists_in, lists_at}
use Rattle.tf_scopes.proofs.PlaceLemmas.{take_more, reverse_both}
use Rattle.tf_scopes.proofs.ScopeLemmas.{members_stand}

-- who stands at a place of the front, where that is before y
abbrev pub at_front : Outline → ℕ → List ℕ → ℕ → Option ℕ
at_front plan y front place = earlier_in plan y (slice_get front place)

-- ---- the front of a list

front_shorter : (test : ℕ → Bool) (xs : List ℕ) → length (take_while test xs) ≤ length xs
front_shorter test [] = omega arith
front_shorter test (x ∷ xs) = by_test (test x) (ap length (take_while-cons test x xs)) (front_shorter test xs)
  where
    by_test : (b : Bool) → length (take_while test (x ∷ xs)) ≡ length (cond b (x ∷ take_while test xs) []) → length (take_while test xs) ≤ length xs → length (take_while test (x ∷ xs)) ≤ suc (length xs)
    by_test true e less = omega (arith, e, less)
    by_test false e less = omega (arith, e)

front_at : (test : ℕ → Bool) (xs : List ℕ) (n b : ℕ) → slice_get (take_while test xs) n ≡ Some b → slice_get xs n ≡ Some b
front_at test [] n b is = is
front_at test (x ∷ xs) n b is = by_test (test x) n (sym (ap (λ (ys : List ℕ). slice_get ys n) (take_while-cons test x xs)) ∙ is) (λ m. front_at test xs m b)
  where
    by_test : (on : Bool) (n : ℕ) → slice_get (cond on (x ∷ take_while test xs) []) n ≡ Some b → ((m : ℕ) → slice_get (take_while test xs) m ≡ Some b → slice_get xs m ≡ Some b) → slice_get (x ∷ xs) n ≡ Some b
    by_test true zero e rest = e
    by_test true (suc m) e rest = rest m e
    by_test false n e rest = absurd (cc)

take_past : (xs : List ℕ) (n : ℕ) → slice_get xs n ≡ None → take (suc n) xs ≡ take n xs
take_past [] zero is = refl
take_past [] (suc n) is = refl
take_past (x ∷ xs) zero is = absurd (cc)
take_past (x ∷ xs) (suc n) is = ap (λ (ys : List ℕ). x ∷ ys) (take_past xs n is)

take_one : (xs : List ℕ) (n b : ℕ) → slice_get xs n ≡ Some b → take (suc n) xs ≡ take n xs ++ b ∷ []
take_one [] n b is = absurd (cc)
take_one (x ∷ xs) zero b is = let same : x ≡ b = cc in ap (λ (y : ℕ). y ∷ []) same
take_one (x ∷ xs) (suc n) b is = ap (λ (ys : List ℕ). x ∷ ys) (take_one xs n b is)

-- ---- the walk back over the places

append_one : (xs : List ℕ) (y : ℕ) (ys : List ℕ) → (xs ++ y ∷ []) ++ ys ≡ xs ++ y ∷ ys
append_one [] y ys = refl
append_one (x ∷ xs) y ys = ap (λ (zs : List ℕ). x ∷ zs) (append_one xs y ys)

back : (give : ℕ → Option ℕ) (places : List ℕ) (k : ℕ) → k < length places → filter_map give (reverse (take (suc k) places)) ≡ cons_option (give (slice_index_or places k 0)) (filter_map give (reverse (take k places)))
back give places k below = ap (filter_map give) (ap reverse (take_more places k below) ∙ reverse_both (take k places) (slice_index_or places k 0))

pub walk_kept : (give : ℕ → Option ℕ) (places found new whole : List ℕ) (left k x : ℕ) → found ++ filter_map give (reverse (take left places)) ≡ whole → left ≡ suc k → k < length places
    → give (slice_index_or places k 0) ≡ Some x → new ≡ found ++ x ∷ [] → new ++ filter_map give (reverse (take k places)) ≡ whole
walk_kept give places found new whole left k x is next below here more =
    ap (λ (xs : List ℕ). xs ++ filter_map give (reverse (take k places))) more
    ∙ (append_one found x (filter_map give (reverse (take k places)))
    ∙ (ap (λ (xs : List ℕ). found ++ xs) (sym (back give places k below ∙ ap (λ (o : Option ℕ). cons_option o (filter_map give (reverse (take k places)))) here))
    ∙ (ap (λ (n : ℕ). found ++ filter_map give (reverse (take n places))) (sym next)
    ∙ is)))

pub walk_left : (give : ℕ → Option ℕ) (places found whole : List ℕ) (left k : ℕ) → found ++ filter_map give (reverse (take left places)) ≡ whole → left ≡ suc k → k < length places
    → give (slice_index_or places k 0) ≡ None → found ++ filter_map give (reverse (take k places)) ≡ whole
walk_left give places found whole left k is next below here =
    ap (λ (xs : List ℕ). found ++ xs) (sym (back give places k below ∙ ap (λ (o : Option ℕ). cons_option o (filter_map give (reverse (take k places)))) here))
    ∙ (ap (λ (n : ℕ). found ++ filter_map give (reverse (take n places))) (sym next)
    ∙ is)

-- ---- the places give the members that list the symbol

one_listed : (lists : ℕ → Bool) (on e : Bool) (b : ℕ) (walked among : List ℕ) → lists b ≡ on → walked ≡ filter lists among
    → (if on then cons_option (if e then Some b else None) walked else walked) ≡ filter lists (cond e (b ∷ among) among)
one_listed lists true true b walked among told is = ap (λ (xs : List ℕ). b ∷ xs) is ∙ sym (ap (λ (on : Bool). cond on (b ∷ filter lists among) (filter lists among)) told)
one_listed lists true false b walked among told is = is
one_listed lists false true b walked among told is = is ∙ sym (ap (λ (on : Bool). cond on (b ∷ filter lists among) (filter lists among)) told)
one_listed lists false false b walked among told is = is

one_walked : (give : ℕ → Option ℕ) (before : List ℕ) (n : ℕ) (on : Bool) → filter_map give (reverse (before ++ (if on then n ∷ [] else []))) ≡ (if on then cons_option (give n) (filter_map give (reverse before)) else filter_map give (reverse before))
one_walked give before n true = ap (filter_map give) (reverse_both before n)
one_walked give before n false = ap (λ (xs : List ℕ). filter_map give (reverse xs)) (nothing_after before)

either_way : (on : Bool) (xs : List ℕ) → (if on then xs else xs) ≡ xs
either_way true xs = refl
either_way false xs = refl

-- the members among the first so many that stand in front, by the places below n
abbrev Walked : Outline → ℕ → List ℕ → List ℕ → List ℕ → ℕ → Type 0
Walked plan y symbol front places n = filter_map (at_front plan y front) (reverse places) ≡ filter (lists_symbol plan symbol) (filter (is_earlier plan y) (reverse (take n front)))

walked_more : (plan : Outline) (y : ℕ) (symbol front places : List ℕ) (n : ℕ) (on : Bool) (o : Option ℕ) → slice_get front n ≡ o → ((b : ℕ) → o ≡ Some b → on ≡ lists_symbol plan symbol b)
    → Walked plan y symbol front places n → Walked plan y symbol front (places ++ (if on then n ∷ [] else [])) (suc n)
walked_more plan y symbol front places n on None is told so_far =
    let walked : List ℕ = filter_map (at_front plan y front) (reverse places) in
    one_walked (at_front plan y front) places n on
    ∙ (ap (λ (p : Option ℕ). if on then cons_option (earlier_in plan y p) walked else walked) is
    ∙ (either_way on walked
    ∙ (so_far
    ∙ ap (λ (xs : List ℕ). filter (lists_symbol plan symbol) (filter (is_earlier plan y) (reverse xs))) (sym (take_past front n is)))))
walked_more plan y symbol front places n on (Some b) is told so_far =
    let walked : List ℕ = filter_map (at_front plan y front) (reverse places) in
    one_walked (at_front plan y front) places n on
    ∙ (ap (λ (p : Option ℕ). if on then cons_option (earlier_in plan y p) walked else walked) is
    ∙ (one_listed (lists_symbol plan symbol) on (is_earlier plan y b) b walked (filter (is_earlier plan y) (reverse (take n front))) (sym (told b refl)) so_far
    ∙ ap (λ (xs : List ℕ). filter (lists_symbol plan symbol) (filter (is_earlier plan y) xs)) (sym (ap reverse (take_one front n b is) ∙ reverse_both (take n front) b))))

walked_all : (plan : Outline) (y : ℕ) (symbol front : List ℕ) (n : ℕ) → ((k b : ℕ) → slice_get front k ≡ Some b → slice_get (standing_of_plan plan) k ≡ Some b) → Walked plan y symbol front (which_below n (lists_at plan symbol)) n
walked_all plan y symbol front zero there = refl
walked_all plan y symbol front (suc n) there =
    walked_more plan y symbol front (which_below n (lists_at plan symbol)) n (lists_at plan symbol n) (slice_get front n) refl
    (λ b is. ap (lists_in plan symbol) (there n b is))
    (walked_all plan y symbol front n there)

-- what the walk over a symbol's places gives is who gives the symbol
pub givers_walked : (scope : Scope) (plan : PlanValue) (symbol places : List ℕ) → IsScopeIn scope plan → places ≡ told scope.symbols.now symbol
    → filter_map (at_front (outline_of plan) scope.atom scope.front.now) (reverse places) ≡ givers (outline_of plan) scope.atom symbol
unfolding givers standing_scope
givers_walked scope plan symbol places is there =
    let outline : Outline = outline_of plan in
    let standing : List ℕ = standing_of_plan outline in
    let front : List ℕ = scope.front.now in
    let short : length front ≤ length standing = omega (arith, ap length is.front, front_shorter (is_other scope.atom) standing) in
    ap (λ (xs : List ℕ). filter_map (at_front outline scope.atom front) (reverse xs)) (there ∙ is.symbols symbol)
    ∙ (walked_all outline scope.atom symbol front (length standing) (λ k b e. front_at (is_other scope.atom) standing k b (sym (ap (λ (xs : List ℕ). slice_get xs k) is.front) ∙ e))
    ∙ ap (filter (lists_symbol outline symbol))
    (ap (λ (xs : List ℕ). filter (is_earlier outline scope.atom) (reverse xs)) (take_whole front (length standing) short ∙ is.front)
    ∙ sym (members_stand plan scope.atom is.graph.compiles is.atom)))
