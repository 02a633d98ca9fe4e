-- From where atoms take values, and which symbols are missing.
use Rattle.std.proofs.Common.{◌≡◌, ℕ, zero, suc, ◌+◌, ◌<◌, List, [], ◌∷◌, ◌++◌, Bool, true, false, not, ◌||◌, ◌&&◌, Option, Some, None, refl, sym, ap, ◌∙◌, inl, inr, arith}
use Rattle.std.specs.Prelude.{cond, filter, is_some, if◌then◌else◌}
use Rattle.std.specs.List.{position_from, list_any}
use Rattle.std.specs.Option.{option_or}
use Rattle.std.proofs.lemmas.Iterator.Adapters.{position_from-zero}
use Rattle.std.proofs.lemmas.Bool.{cases_lt}
use Rattle.tf_flow.specs.Tree.{same_name, is_among, first_some}
use Rattle.tf_flow.specs.Rules.{bind_symbols}
use Rattle.tf_flow.specs.declared.atoms.Arg.{Arg}
use Rattle.tf_flow.specs.declared.atoms.Bind.{Bind}
use Rattle.tf_numbers.specs.Numbers.{numbers_below}
use Rattle.tf_numbers.proofs.NumberLemmas.{turn_eq}
use Rattle.tf_numbers.proofs.EquationLemmas.{ap2}
use Rattle.tf_model.specs.Plan.{Outline, count, injects, atom_name}
use Rattle.tf_model.specs.Scope.{Missing, lists_symbol, bound, members, has_source, missing_argument, missing_of, missing_symbol}
use Rattle.tf_scopes.specs.declared.faults.ScopeFault.{ScopeFault}
use Rattle.tf_scopes.specs.declared.faults.ScopeFault.TheVariants as fault
use Rattle.tf_scopes.specs.Providers.{IsMissing}
use Rattle.tf_scopes.specs.Sources.{binds_symbol, place_bound, bound_at, givers, is_empty, gives_nothing, source_among, source_of}

-- ---- names

pub same_turn : (xs ys : List ℕ) → same_name xs ys ≡ same_name ys xs
same_turn [] [] = refl
same_turn [] (y ∷ ys) = refl
same_turn (x ∷ xs) [] = refl
same_turn (x ∷ xs) (y ∷ ys) = ap2 (λ (a b : Bool). a && b) (turn_eq x y) (same_turn xs ys)

-- ---- the place of a bind

-- the first place of a symbol, looked for from the start
pub position_from_start : (symbol : List ℕ) (binds : List Bind) → position_from (binds_symbol symbol) 0 binds ≡ place_bound binds symbol
position_from_start symbol binds = sym (position_from-zero (binds_symbol symbol) binds)

-- what the place of the first bind of a symbol tells, where places are counted from i on
pub record BoundFrom (symbol : List ℕ) (binds : List Bind) (i j : ℕ) : Type 0 where
  pub place : ℕ
  pub is : j ≡ i + place
  pub value : bound binds symbol ≡ bound_at binds place
  pub some : is_some (bound binds symbol) ≡ true
  pub among : is_among (bind_symbols binds) symbol ≡ true

abbrev Told : List ℕ → List Bind → ℕ → Option ℕ → Type 0
Told symbol binds i None = (bound binds symbol ≡ None) × (is_among (bind_symbols binds) symbol ≡ false)
Told symbol binds i (Some j) = BoundFrom symbol binds i j

told_more : (symbol : List ℕ) (bind : Bind) (binds : List Bind) (i : ℕ) (o : Option ℕ) → same_name bind.symbol symbol ≡ false → Told symbol binds (i + 1) o → Told symbol (bind ∷ binds) i o
told_more symbol bind binds i None off is = (
  ap (λ (b : Bool). if b then Some bind.value else bound binds symbol) off ∙ is.0,
  ap (λ (b : Bool). b || is_among (bind_symbols binds) symbol) (same_turn symbol bind.symbol ∙ off) ∙ is.1,
)
told_more symbol bind binds i (Some j) off is =
    let skip : bound (bind ∷ binds) symbol ≡ bound binds symbol = ap (λ (b : Bool). if b then Some bind.value else bound binds symbol) off in
    record {
      place = suc is.place;
      is = let there = is.is in omega (arith, there);
      value = skip ∙ is.value;
      some = ap is_some skip ∙ is.some;
      among = ap (λ (b : Bool). b || is_among (bind_symbols binds) symbol) (same_turn symbol bind.symbol ∙ off) ∙ is.among;
    }

told_here : (symbol : List ℕ) (bind : Bind) (binds : List Bind) (i : ℕ) → same_name bind.symbol symbol ≡ true → BoundFrom symbol (bind ∷ binds) i i
told_here symbol bind binds i on =
    let take : bound (bind ∷ binds) symbol ≡ Some bind.value = ap (λ (b : Bool). if b then Some bind.value else bound binds symbol) on in
    record {
      place = 0;
      is = omega arith;
      value = take;
      some = ap is_some take;
      among = ap (λ (b : Bool). b || is_among (bind_symbols binds) symbol) (same_turn symbol bind.symbol ∙ on);
    }

told_either : (symbol : List ℕ) (bind : Bind) (binds : List Bind) (i : ℕ) (o : Option ℕ) (b : Bool) → same_name bind.symbol symbol ≡ b → Told symbol binds (i + 1) o → Told symbol (bind ∷ binds) i (cond b (Some i) o)
told_either symbol bind binds i o true is rest = told_here symbol bind binds i is
told_either symbol bind binds i o false is rest = told_more symbol bind binds i o is rest

told_from : (symbol : List ℕ) (binds : List Bind) (i : ℕ) → Told symbol binds i (position_from (binds_symbol symbol) i binds)
told_from symbol [] i = (refl, refl)
told_from symbol (bind ∷ binds) i = told_either symbol bind binds i (position_from (binds_symbol symbol) (i + 1) binds) (same_name bind.symbol symbol) refl (told_from symbol binds (i + 1))

told_place : (symbol : List ℕ) (binds : List Bind) → Told symbol binds 0 (place_bound binds symbol)
told_place symbol binds = rw (position_from-zero (binds_symbol symbol) binds) (told_from symbol binds 0)

told_by : (symbol : List ℕ) (binds : List Bind) (o : Option ℕ) → place_bound binds symbol ≡ o → Told symbol binds 0 o
told_by symbol binds o is = rw (sym is) (told_place symbol binds)

pub bound_none : (symbol : List ℕ) (binds : List Bind) → place_bound binds symbol ≡ None → (bound binds symbol ≡ None) × (is_among (bind_symbols binds) symbol ≡ false)
bound_none symbol binds is = told_by symbol binds None is

pub bound_some : (symbol : List ℕ) (binds : List Bind) (i : ℕ) → place_bound binds symbol ≡ Some i → BoundFrom symbol binds 0 i
bound_some symbol binds i is = told_by symbol binds (Some i) is

-- ---- what has a source

filter_empty : (test : ℕ → Bool) (xs : List ℕ) → is_empty (filter test xs) ≡ not (list_any test xs)
filter_empty test [] = refl
filter_empty test (x ∷ xs) = by (test x) (filter_empty test xs)
  where
    by : (b : Bool) → is_empty (filter test xs) ≡ not (list_any test xs) → is_empty (cond b (x ∷ filter test xs) (filter test xs)) ≡ not (b || list_any test xs)
    by true is = refl
    by false is = is

nothing_by : (plan : Outline) (a : ℕ) (symbol : List ℕ) (o p : Option ℕ) → place_bound (injects plan a) symbol ≡ o → place_bound plan.store symbol ≡ p
    → gives_nothing (source_among o p (givers plan a symbol)) ≡ not (has_source plan a symbol)
unfolding givers
nothing_by plan a symbol (Some i) p first second =
    ap (λ (b : Bool). not (b || (is_among (bind_symbols plan.store) symbol || list_any (lists_symbol plan symbol) (members plan a)))) (sym (bound_some symbol (injects plan a) i first).among)
nothing_by plan a symbol None (Some j) first second =
    ap2 (λ (b c : Bool). not (b || (c || list_any (lists_symbol plan symbol) (members plan a)))) (sym (bound_none symbol (injects plan a) first).1) (sym (bound_some symbol plan.store j second).among)
nothing_by plan a symbol None None first second =
    filter_empty (lists_symbol plan symbol) (members plan a)
    ∙ ap2 (λ (b c : Bool). not (b || (c || list_any (lists_symbol plan symbol) (members plan a)))) (sym (bound_none symbol (injects plan a) first).1) (sym (bound_none symbol plan.store second).1)

-- a symbol has a source where something gives it
pub nothing_given : (plan : Outline) (a : ℕ) (symbol : List ℕ) → gives_nothing (source_of plan a symbol) ≡ not (has_source plan a symbol)
nothing_given plan a symbol = nothing_by plan a symbol (place_bound (injects plan a) symbol) (place_bound plan.store symbol) refl refl

missing_if : (plan : Outline) (a : ℕ) (arg : Arg) (b : Bool) → has_source plan a arg.symbol ≡ b → missing_argument plan a arg ≡ (if b then None else Some (record { atom = atom_name plan a; symbol = arg.symbol }))
missing_if plan a arg b is = ap (λ (c : Bool). if c then None else Some (record { atom = atom_name plan a; symbol = arg.symbol })) is

not_is : (b c : Bool) → c ≡ not b → b ≡ not c
not_is true c is = ap not (sym is)
not_is false c is = ap not (sym is)

pub is_missing : (plan : Outline) (a : ℕ) (arg : Arg) → gives_nothing (source_of plan a arg.symbol) ≡ true → missing_argument plan a arg ≡ Some (record { atom = atom_name plan a; symbol = arg.symbol })
is_missing plan a arg is = missing_if plan a arg false (not_is (has_source plan a arg.symbol) (gives_nothing (source_of plan a arg.symbol)) (nothing_given plan a arg.symbol) ∙ ap not is)

pub not_missing : (plan : Outline) (a : ℕ) (arg : Arg) → gives_nothing (source_of plan a arg.symbol) ≡ false → missing_argument plan a arg ≡ None
not_missing plan a arg is = missing_if plan a arg true (not_is (has_source plan a arg.symbol) (gives_nothing (source_of plan a arg.symbol)) (nothing_given plan a arg.symbol) ∙ ap not is)

-- ---- the atoms one after the other

first_both : {X Y : Type 0} (give : X → Option Y) (xs : List X) (x : X) → first_some give (xs ++ x ∷ []) ≡ option_or (first_some give xs) (give x)
first_both {X} {Y} give [] x = or_none (give x)
  where
    or_none : {Y : Type 0} (o : Option Y) → option_or o None ≡ o
    or_none None = refl
    or_none (Some y) = refl
first_both {X} {Y} give (y ∷ ys) x = ap (option_or (give y)) (first_both give ys x) ∙ or_chain (give y) (first_some give ys) (give x)
  where
    or_chain : {Y : Type 0} (o p q : Option Y) → option_or o (option_or p q) ≡ option_or (option_or o p) q
    or_chain None p q = refl
    or_chain (Some y) p q = refl

pub none_so_far : (plan : Outline) (k : ℕ) → first_some (missing_of plan) (numbers_below k) ≡ None → missing_of plan k ≡ None → first_some (missing_of plan) (numbers_below (suc k)) ≡ None
none_so_far plan k before here = first_both (missing_of plan) (numbers_below k) k ∙ ap2 (λ (o p : Option Missing). option_or o p) before here

first_at : (plan : Outline) (n k : ℕ) (m : Missing) → k < n → first_some (missing_of plan) (numbers_below k) ≡ None → missing_of plan k ≡ Some m → first_some (missing_of plan) (numbers_below n) ≡ Some m
first_at plan zero k m below before here = absurd (omega arith)
first_at plan (suc n) k m below before here = first_both (missing_of plan) (numbers_below n) n ∙ elim (cases_lt k n) [
  | inl sooner ↦ ap (λ (o : Option Missing). option_or o (missing_of plan n)) (first_at plan n k m sooner before here)
  | inr from ↦ let same : k ≡ n = omega arith in
      ap2 (λ (o p : Option Missing). option_or o p) (ap (λ (i : ℕ). first_some (missing_of plan) (numbers_below i)) (sym same) ∙ before) (ap (missing_of plan) (sym same) ∙ here)
]

-- the first atom of which a symbol is missing tells the plan's
pub missing_first : (plan : Outline) (k : ℕ) (found : ScopeFault) → k < count plan → first_some (missing_of plan) (numbers_below k) ≡ None → IsMissing (missing_of plan k) found → IsMissing (missing_symbol plan) found
missing_first plan k fault.Memory below before is = tt
missing_first plan k (fault.Missing atom symbol) below before is = first_at plan (count plan) k (record { atom = atom; symbol = symbol }) below before is
