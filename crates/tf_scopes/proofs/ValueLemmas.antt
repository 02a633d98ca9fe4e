-- The value of a symbol by the source that is told of it.
use Rattle.std.proofs.Common.{◌≡◌, ℕ, suc, ◌<◌, List, [], ◌∷◌, inl, inr, eqb-true, Bool, true, false, ◌||◌, Option, Some, None, refl, sym, ap, ◌∙◌, arith, slice_get}
use Rattle.std.specs.Prelude.{cond, filter, if◌then◌else◌, is_some, nat_eq}
use Rattle.std.specs.List.{list_any, list_all}
use Rattle.std.specs.Option.{option_or}
use Rattle.tf_flow.specs.Limits.{provided}
use Rattle.tf_flow.specs.Tree.{same_name, is_among, first_some}
use Rattle.tf_flow.specs.Outline.{Atom}
use Rattle.tf_flow.specs.declared.atoms.Provides.{Provides}
use Rattle.tf_flow.specs.declared.atoms.Provides.TheVariants as provides
use Rattle.tf_states.specs.declared.record.Payload.{Payload}
use Rattle.tf_states.specs.declared.record.Payload.TheVariants as payload
use Rattle.tf_values.specs.declared.value.Val.{Val}
use Rattle.tf_numbers.specs.Numbers.{has_number}
use Rattle.tf_scopes.proofs.PlanLemmas.{before_is_atom}
use Rattle.tf_model.proofs.BeforeLemmas.{members_before}
use Rattle.tf_model.specs.Plan.{Outline, count, injects, provides_of}
use Rattle.tf_model.proofs.Told.{provides_in, listed_by}
use Rattle.tf_model.specs.Scope.{is_earlier, lists_symbol, bound, item_at, part_given, given_by_result, given_by_payload, given_by, members, symbol_value}
use Rattle.tf_model.specs.History.{Snapshot, is_success}
use Rattle.tf_numbers.proofs.EquationLemmas.{ap2}
use Rattle.tf_numbers.proofs.TruthLemmas.{neither_first, neither_second, or_either, true_first, true_second, and_first, and_second}
use Rattle.tf_scopes.specs.declared.sources.Source.{Source}
use Rattle.tf_scopes.specs.declared.sources.Source.TheVariants as source
use Rattle.tf_scopes.specs.Sources.{place_bound, bound_at, givers, source_among, source_of}
use Rattle.tf_scopes.proofs.SourceLemmas.{same_turn, bound_none, bound_some}

-- ---- an atom that doesn't list a symbol gives it nothing

no_part : (names : List (List ℕ)) (result : Val) (symbol : List ℕ) (k : ℕ) → is_among names symbol ≡ false → part_given names result symbol k ≡ None
no_part [] result symbol k off = refl
no_part (name ∷ names) result symbol k off =
    ap (λ (b : Bool). if b then item_at result k else part_given names result symbol (suc k)) (same_turn name symbol ∙ neither_first (same_name symbol name) (is_among names symbol) off)
    ∙ no_part names result symbol (suc k) (neither_second (same_name symbol name) (is_among names symbol) off)

no_result : (gives : Provides) (result : Val) (symbol : List ℕ) → is_among (provided gives) symbol ≡ false → given_by_result gives result symbol ≡ None
no_result provides.Nothing result symbol off = refl
no_result (provides.Whole name) result symbol off =
    ap (λ (b : Bool). if b then Some result else None) (same_turn name symbol ∙ neither_first (same_name symbol name) false off)
no_result (provides.Parts names) result symbol off = no_part names result symbol 0 off

no_payload : (gives : Provides) (held : Payload) (symbol : List ℕ) → is_among (provided gives) symbol ≡ false → given_by_payload gives held symbol ≡ None
no_payload gives (payload.Value result) symbol off = no_result gives result symbol off
no_payload gives payload.Empty symbol off = refl
no_payload gives (payload.Fault fault) symbol off = refl

unlisted : (o : Option Atom) (symbol : List ℕ) → listed_by o symbol ≡ false → is_among (provided (provides_in o)) symbol ≡ false
unlisted None symbol off = refl
unlisted (Some atom) symbol off = off

none_if : {X : Type 0} (b : Bool) (o : Option X) → o ≡ None → (if b then o else None) ≡ None
none_if true o is = is
none_if false o is = refl

gives_none : (plan : Outline) (s : Snapshot) (symbol : List ℕ) (b : ℕ) → lists_symbol plan symbol b ≡ false → given_by plan s symbol b ≡ None
gives_none plan s symbol b off =
    none_if (is_success (s.state b)) (given_by_payload (provides_of plan b) (s.payload b) symbol)
    (no_payload (provides_of plan b) (s.payload b) symbol (unlisted (slice_get plan.atoms b) symbol off))

-- ---- so only those that list it count

only_listed : {Y : Type 0} (give : ℕ → Option Y) (test : ℕ → Bool) (xs : List ℕ) → ((b : ℕ) → test b ≡ false → give b ≡ None) → first_some give xs ≡ first_some give (filter test xs)
only_listed give test [] none = refl
only_listed {Y} give test (x ∷ xs) none = by (test x) refl (only_listed give test xs none)
  where
    by : (b : Bool) → test x ≡ b → first_some give xs ≡ first_some give (filter test xs) → option_or (give x) (first_some give xs) ≡ first_some give (cond b (x ∷ filter test xs) (filter test xs))
    by true on is = ap (option_or (give x)) is
    by false off is = ap (λ (o : Option Y). option_or o (first_some give xs)) (none x off) ∙ is

-- ---- the value by the source

-- what a source says of the value
abbrev pub Says : Outline → Snapshot → ℕ → List ℕ → Source → Type 0
Says plan s y symbol (source.Injected place) = symbol_value plan s y symbol ≡ bound_at (injects plan y) place
Says plan s y symbol (source.Stored place) = symbol_value plan s y symbol ≡ bound_at plan.store place
Says plan s y symbol (source.Given among) = symbol_value plan s y symbol ≡ first_some (given_by plan s symbol) among

or_some : {X : Type 0} (o p : Option X) → is_some o ≡ true → option_or o p ≡ o
or_some None p is = absurd (cc)
or_some (Some x) p is = refl

says_by : (plan : Outline) (s : Snapshot) (y : ℕ) (symbol : List ℕ) (o p : Option ℕ) → place_bound (injects plan y) symbol ≡ o → place_bound plan.store symbol ≡ p
    → Says plan s y symbol (source_among o p (givers plan y symbol))
unfolding givers symbol_value
says_by plan s y symbol (Some i) p first second =
    let found = bound_some symbol (injects plan y) i first in
    or_some (bound (injects plan y) symbol) _ found.some ∙ (found.value ∙ ap (bound_at (injects plan y)) (let there = found.is in omega (arith, there)))
says_by plan s y symbol None (Some j) first second =
    let found = bound_some symbol plan.store j second in
    ap (λ (o : Option Val). option_or o (option_or (bound plan.store symbol) (first_some (given_by plan s symbol) (members plan y)))) (bound_none symbol (injects plan y) first).0
    ∙ (or_some (bound plan.store symbol) _ found.some ∙ (found.value ∙ ap (bound_at plan.store) (let there = found.is in omega (arith, there))))
says_by plan s y symbol None None first second =
    ap2 (λ (o p : Option Val). option_or o (option_or p (first_some (given_by plan s symbol) (members plan y)))) (bound_none symbol (injects plan y) first).0 (bound_none symbol plan.store second).0
    ∙ only_listed (given_by plan s symbol) (lists_symbol plan symbol) (members plan y) (gives_none plan s symbol)

says : (plan : Outline) (s : Snapshot) (y : ℕ) (symbol : List ℕ) → Says plan s y symbol (source_of plan y symbol)
says plan s y symbol = says_by plan s y symbol (place_bound (injects plan y) symbol) (place_bound plan.store symbol) refl refl

pub says_of : (plan : Outline) (s : Snapshot) (y : ℕ) (symbol : List ℕ) (found : Source) → found ≡ source_of plan y symbol → Says plan s y symbol found
says_of plan s y symbol found is = rw is (says plan s y symbol)

-- ---- what gives a value is an atom

any_kept : (p test : ℕ → Bool) (xs : List ℕ) → list_any p (filter test xs) ≡ true → list_any p xs ≡ true
any_kept p test [] is = is
any_kept p test (x ∷ xs) is = by (test x) is (any_kept p test xs)
  where
    by : (b : Bool) → list_any p (cond b (x ∷ filter test xs) (filter test xs)) ≡ true → (list_any p (filter test xs) ≡ true → list_any p xs ≡ true) → p x || list_any p xs ≡ true
    by true on rest = elim (or_either (p x) (list_any p (filter test xs)) on) [ inl here ↦ true_first (p x) (list_any p xs) here | inr there ↦ true_second (p x) (list_any p xs) (rest there) ]
    by false on rest = true_second (p x) (list_any p xs) (rest on)

passes_there : (test : ℕ → Bool) (xs : List ℕ) (k : ℕ) → list_all test xs ≡ true → has_number xs k ≡ true → test k ≡ true
passes_there test [] k all is = absurd (cc)
passes_there test (x ∷ xs) k all is = elim (or_either (nat_eq k x) (has_number xs k) is) [
  | inl here ↦ ap test (eqb-true k x here) ∙ and_first (test x) (list_all test xs) all
  | inr there ↦ passes_there test xs k (and_second (test x) (list_all test xs) all) there
]

pub giver_is_atom : (plan : Outline) (y : ℕ) (symbol : List ℕ) (k : ℕ) → has_number (givers plan y symbol) k ≡ true → k < count plan
unfolding givers
giver_is_atom plan y symbol k is =
    before_is_atom plan k y (passes_there (is_earlier plan y) (members plan y) k (members_before plan y) (any_kept (nat_eq k) (lists_symbol plan symbol) (members plan y) is))

given_by_case : (plan : Outline) (y : ℕ) (symbol : List ℕ) (among : List ℕ) (k : ℕ) (o p : Option ℕ) → source.Given among ≡ source_among o p (givers plan y symbol) → has_number among k ≡ true → k < count plan
given_by_case plan y symbol among k (Some i) p is on = absurd (cc)
given_by_case plan y symbol among k None (Some j) is on = absurd (cc)
given_by_case plan y symbol among k None None is on =
    let same : among ≡ givers plan y symbol = cc in
    giver_is_atom plan y symbol k (ap (λ (xs : List ℕ). has_number xs k) (sym same) ∙ on)

pub given_is_atom : (plan : Outline) (y : ℕ) (symbol : List ℕ) (among : List ℕ) (k : ℕ) → source.Given among ≡ source_of plan y symbol → has_number among k ≡ true → k < count plan
given_is_atom plan y symbol among k is on = given_by_case plan y symbol among k (place_bound (injects plan y) symbol) (place_bound plan.store symbol) is on
