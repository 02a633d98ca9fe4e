-- What an atom is given, argument after argument.
use Rattle.std.proofs.Common.{◌≡◌, ℕ, zero, suc, ◌+◌, ◌≤◌, List, [], ◌∷◌, ◌++◌, length, map, drop, true, false, Option, Some, None, refl, sym, ap, subst, ◌∙◌, add-one, slice_get}
use Rattle.std.proofs.lemmas.List.{length-map}
use Rattle.tf_flow.specs.declared.atoms.Arg.{Arg}
use Rattle.tf_values.specs.declared.value.Val.{Val}
use Rattle.tf_actions.specs.declared.orders.Given.{Given}
use Rattle.tf_actions.specs.declared.orders.Given.TheVariants as given
use Rattle.tf_actions.specs.declared.orders.Pair.{Pair}
use Rattle.tf_actions.specs.declared.outcomes.Action.{Action}
use Rattle.tf_actions.specs.declared.outcomes.Action.TheVariants as action
use Rattle.tf_model.specs.Plan.{Outline, arguments}
use Rattle.tf_model.specs.Scope.{symbol_value, given_arguments, argument_to_revert, given_for, or_nothing, or_missing}
use Rattle.tf_model.specs.History.{Snapshot}
use Rattle.tf_numbers.proofs.ListLemmas.{nothing_after, append_chain, drop_whole}
use Rattle.tf_scopes.specs.Given.{is_missed}

-- these arguments with their values before the others
abbrev pub with_pairs : List Pair → Given → Given
with_pairs pairs (given.Found others) = given.Found (pairs ++ others)
with_pairs pairs (given.Missing symbol) = given.Missing symbol

-- what is given for these arguments of atom a
abbrev pub given_from : Outline → Snapshot → ℕ → Action → List Arg → Given
given_from plan s a action.Execute args = given_arguments plan s a args
given_from plan s a action.Revert args = given.Found (map (argument_to_revert plan s a) args)

with_none : (g : Given) → with_pairs [] g ≡ g
with_none (given.Found others) = refl
with_none (given.Missing symbol) = refl

with_both : (ps qs : List Pair) (g : Given) → with_pairs ps (with_pairs qs g) ≡ with_pairs (ps ++ qs) g
with_both ps qs (given.Found others) = ap given.Found (sym (append_chain ps qs others))
with_both ps qs (given.Missing symbol) = refl

pub given_start : (plan : Outline) (s : Snapshot) (a : ℕ) (how : Action) (pairs : List Pair) → pairs ≡ [] → given_for plan s a how ≡ with_pairs pairs (given_from plan s a how (arguments plan a))
given_start plan s a action.Execute pairs is = sym (with_none (given_from plan s a action.Execute (arguments plan a))) ∙ ap (λ (ps : List Pair). with_pairs ps (given_from plan s a action.Execute (arguments plan a))) (sym is)
given_start plan s a action.Revert pairs is = sym (with_none (given_from plan s a action.Revert (arguments plan a))) ∙ ap (λ (ps : List Pair). with_pairs ps (given_from plan s a action.Revert (arguments plan a))) (sym is)

drop_here : (xs : List Arg) (k : ℕ) (x : Arg) → slice_get xs k ≡ Some x → drop k xs ≡ x ∷ drop (suc k) xs
drop_here [] k x is = absurd (cc)
drop_here (y ∷ ys) zero x is = let same : y ≡ x = cc in ap (λ (z : Arg). z ∷ ys) same
drop_here (y ∷ ys) (suc k) x is = drop_here ys k x is

-- one argument that isn't missed
given_one : (plan : Outline) (s : Snapshot) (a : ℕ) (how : Action) (arg : Arg) (args : List Arg) (o : Option Val) → symbol_value plan s a arg.symbol ≡ o → is_missed o how ≡ false
    → given_from plan s a how (arg ∷ args) ≡ with_pairs (record { name = arg.name; value = or_nothing o } ∷ []) (given_from plan s a how args)
given_one plan s a action.Execute arg args None is kept = absurd (cc)
given_one plan s a action.Execute arg args (Some v) is kept = ap (λ (p : Option Val). or_missing arg p (given_arguments plan s a args)) is ∙ one (given_arguments plan s a args)
  where
    one : (g : Given) → or_missing arg (Some v) g ≡ with_pairs (record { name = arg.name; value = v } ∷ []) g
    one (given.Found others) = refl
    one (given.Missing symbol) = refl
given_one plan s a action.Revert arg args o is kept =
    ap (λ (p : Option Val). given.Found (record { name = arg.name; value = or_nothing p } ∷ map (argument_to_revert plan s a) args)) is

-- one that is missed
given_missed : (plan : Outline) (s : Snapshot) (a : ℕ) (how : Action) (arg : Arg) (args : List Arg) (o : Option Val) → symbol_value plan s a arg.symbol ≡ o → is_missed o how ≡ true
    → given_from plan s a how (arg ∷ args) ≡ given.Missing arg.symbol
given_missed plan s a action.Execute arg args None is missed = ap (λ (p : Option Val). or_missing arg p (given_arguments plan s a args)) is
given_missed plan s a action.Execute arg args (Some v) is missed = absurd (cc)
given_missed plan s a action.Revert arg args None is missed = absurd (cc)
given_missed plan s a action.Revert arg args (Some v) is missed = absurd (cc)

pub given_next : (plan : Outline) (s : Snapshot) (a : ℕ) (how : Action) (k : ℕ) (arg : Arg) (o : Option Val) (v : Val) (old new : List Pair) → given_for plan s a how ≡ with_pairs old (given_from plan s a how (drop k (arguments plan a)))
    → slice_get (arguments plan a) k ≡ Some arg → o ≡ symbol_value plan s a arg.symbol → is_missed o how ≡ false → v ≡ or_nothing o → new ≡ old ++ record { name = arg.name; value = v } ∷ []
    → given_for plan s a how ≡ with_pairs new (given_from plan s a how (drop (k + 1) (arguments plan a)))
given_next plan s a how k arg o v old new before there is kept same more =
    before
    ∙ (ap (λ (args : List Arg). with_pairs old (given_from plan s a how args)) (drop_here (arguments plan a) k arg there)
    ∙ (ap (with_pairs old) (given_one plan s a how arg (drop (suc k) (arguments plan a)) o (sym is) kept)
    ∙ (with_both old (record { name = arg.name; value = or_nothing o } ∷ []) (given_from plan s a how (drop (suc k) (arguments plan a)))
    ∙ (ap (λ (w : Val). with_pairs (old ++ record { name = arg.name; value = w } ∷ []) (given_from plan s a how (drop (suc k) (arguments plan a)))) (sym same)
    ∙ (ap (λ (ps : List Pair). with_pairs ps (given_from plan s a how (drop (suc k) (arguments plan a)))) (sym more)
    ∙ ap (λ (n : ℕ). with_pairs new (given_from plan s a how (drop n (arguments plan a)))) (sym (add-one k)))))))

pub given_stop : (plan : Outline) (s : Snapshot) (a : ℕ) (how : Action) (k : ℕ) (arg : Arg) (o : Option Val) (old : List Pair) → given_for plan s a how ≡ with_pairs old (given_from plan s a how (drop k (arguments plan a)))
    → slice_get (arguments plan a) k ≡ Some arg → o ≡ symbol_value plan s a arg.symbol → is_missed o how ≡ true
    → given_for plan s a how ≡ given.Missing arg.symbol
given_stop plan s a how k arg o old before there is missed =
    before
    ∙ (ap (λ (args : List Arg). with_pairs old (given_from plan s a how args)) (drop_here (arguments plan a) k arg there)
    ∙ ap (with_pairs old) (given_missed plan s a how arg (drop (suc k) (arguments plan a)) o (sym is) missed))

from_none : (plan : Outline) (s : Snapshot) (a : ℕ) (how : Action) → given_from plan s a how [] ≡ given.Found []
from_none plan s a action.Execute = refl
from_none plan s a action.Revert = refl

pub given_all : (plan : Outline) (s : Snapshot) (a : ℕ) (how : Action) (k : ℕ) (pairs : List Pair) → given_for plan s a how ≡ with_pairs pairs (given_from plan s a how (drop k (arguments plan a)))
    → length (arguments plan a) ≤ k → given_for plan s a how ≡ given.Found pairs
given_all plan s a how k pairs before whole =
    before
    ∙ (ap (λ (args : List Arg). with_pairs pairs (given_from plan s a how args)) (drop_whole (arguments plan a) k whole)
    ∙ (ap (with_pairs pairs) (from_none plan s a how) ∙ ap given.Found (nothing_after pairs)))

-- ---- how much is given

-- the arguments that are given are as many
abbrev pub HasCount : ℕ → Given → Type 0
HasCount n (given.Found pairs) = length pairs ≡ n
HasCount n (given.Missing symbol) = Unit {0}

one_counted : (arg : Arg) (o : Option Val) (n : ℕ) (g : Given) → HasCount n g → HasCount (suc n) (or_missing arg o g)
one_counted arg None n g is = tt
one_counted arg (Some v) n (given.Found others) is = ap suc is
one_counted arg (Some v) n (given.Missing symbol) is = tt

to_execute_counted : (plan : Outline) (s : Snapshot) (a : ℕ) (args : List Arg) → HasCount (length args) (given_arguments plan s a args)
to_execute_counted plan s a [] = refl
to_execute_counted plan s a (arg ∷ args) = one_counted arg (symbol_value plan s a arg.symbol) (length args) (given_arguments plan s a args) (to_execute_counted plan s a args)

-- where an atom is given its arguments, they are as many as it has
pub given_counted : (plan : Outline) (s : Snapshot) (a : ℕ) (how : Action) → HasCount (length (arguments plan a)) (given_for plan s a how)
given_counted plan s a action.Execute = to_execute_counted plan s a (arguments plan a)
given_counted plan s a action.Revert = length-map (arguments plan a) (argument_to_revert plan s a)

pub pairs_counted : (plan : Outline) (s : Snapshot) (a : ℕ) (how : Action) (pairs : List Pair) → given_for plan s a how ≡ given.Found pairs → length pairs ≡ length (arguments plan a)
pairs_counted plan s a how pairs is = subst (HasCount (length (arguments plan a))) is (given_counted plan s a how)
