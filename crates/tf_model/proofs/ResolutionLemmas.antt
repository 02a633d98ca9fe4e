-- The flow that a failure is resolved to holds the failed atom, and has a retry controller where it is to run again.
use Rattle.std.proofs.Common.{◌≡◌, ℕ, zero, suc, ◌<◌, List, [], ◌∷◌, length, map, Bool, true, false, not, ◌&&◌, Option, Some, None, refl, ap, ◌∙◌, ◌⊎◌, inl, inr, eq-eqb, arith, slice_get, subst}
use Rattle.std.specs.Prelude.{◌++◌, is_some, nat_eq, if◌then◌else◌}
use Rattle.std.specs.List.{list_any, list_all, AllByRecursion}
use Rattle.tf_states.specs.declared.record.Kind.{Kind}
use Rattle.tf_states.specs.declared.record.Kind.TheVariants as kind
use Rattle.tf_flow.specs.Plan.{PlanValue}
use Rattle.tf_flow.specs.Tree.{Tree, Trees, flow, Head, tree_of, trees_of, item_tree}
use Rattle.tf_flow.proofs.TreeLemmas.{tree_of-flow}
use Rattle.tf_flow.specs.Outline.{Atom, atoms_of}
use Rattle.tf_flow.specs.declared.paths.Turn.{Turn}
use Rattle.tf_model.specs.Before.{passes_flow}
use Rattle.tf_model.specs.Plan.{Outline, outline_of, holds, path, count, retry_of}
use Rattle.tf_model.specs.History.{Resolve, Snapshot}
use Rattle.tf_model.specs.Retries.{Controlled, controlled, controlled_on, enclosing, resolved, resolution_by, resolution, answer, is_outermost, is_revert}
use Rattle.tf_model.proofs.Told.{path_in}
use Rattle.tf_numbers.proofs.TruthLemmas.{or_either, and_first, and_second, true_first, true_second, true_both}
use Rattle.tf_numbers.proofs.PairLemmas.{any_in_both}
use Rattle.tf_model.proofs.PathLemmas.{IsPath, begins, paths_of}

abbrev is_of_flow : ℕ → Controlled → Bool
is_of_flow g c = nat_eq c.flow g

-- the whole flow, or one of these
abbrev IsAmong : List Controlled → ℕ → Type 0
IsAmong list g = (g ≡ 0) ⊎ (list_any (is_of_flow g) list ≡ true)

among_more : (here : Controlled) (outer : List Controlled) (g : ℕ) → IsAmong outer g → IsAmong (here ∷ outer) g
among_more here outer g is = elim is [ inl root ↦ inl root | inr there ↦ inr (true_second (nat_eq here.flow g) _ there) ]

this_one : (here : Controlled) (outer : List Controlled) → IsAmong (here ∷ outer) here.flow
this_one here outer = inr (true_first (nat_eq here.flow here.flow) _ (eq-eqb here.flow here.flow refl))

kept_or_here : (b : Bool) (here : Controlled) (outer : List Controlled) (p q : Resolve) → IsAmong (here ∷ outer) p.flow → IsAmong (here ∷ outer) q.flow → IsAmong (here ∷ outer) (if b then p else q).flow
kept_or_here true here outer p q one other = one
kept_or_here false here outer p q one other = other

resolved_among : (defer : Bool) (here : Controlled) (outer : List Controlled) (p : Resolve) (how : Kind) → IsAmong outer p.flow → IsAmong (here ∷ outer) (resolved defer here outer p how).flow
resolved_among defer here outer p kind.Retry is = this_one here outer
resolved_among defer here outer p kind.RevertAll is = inl refl
resolved_among defer here outer p kind.Revert is =
    kept_or_here defer here outer p _ (among_more here outer p.flow is)
    (kept_or_here (not (is_outermost outer) && not (is_revert p.kind)) here outer p (record { flow = here.flow; kind = kind.Revert }) (among_more here outer p.flow is) (this_one here outer))

resolution_among : (plan : Outline) (s : Snapshot) (list : List Controlled) → IsAmong list (resolution_by plan s list).flow
resolution_among plan s [] = inl refl
resolution_among plan s (here ∷ outer) = resolved_among plan.defer here outer (resolution_by plan s outer) (answer plan s here.retry) (resolution_among plan s outer)

one_controlled : (a g F : ℕ) (o : Option ℕ) → list_any (is_of_flow F) (controlled a g o) ≡ true → nat_eq g F ≡ true
one_controlled a g F None is = absurd (cc)
one_controlled a g F (Some r) is = by (nat_eq r a) is
  where
    by : (b : Bool) → list_any (is_of_flow F) (if b then [] else record { flow = g; retry = r } ∷ []) ≡ true → nat_eq g F ≡ true
    by true is = absurd (cc)
    by false is = elim (or_either (nat_eq g F) false is) [ inl here ↦ here | inr none ↦ absurd (cc) ]

on_path : (plan : Outline) (a F : ℕ) (turns : List Turn) → list_any (is_of_flow F) (controlled_on plan a turns) ≡ true → passes_flow F turns ≡ true
on_path plan a F [] is = absurd (cc)
on_path plan a F (turn ∷ turns) is = elim (any_in_both (is_of_flow F) (controlled_on plan a turns) (controlled a turn.flow (retry_of plan turn.flow)) is) [
  | inl below ↦ true_second (nat_eq turn.flow F) _ (on_path plan a F turns below)
  | inr here ↦ true_first (nat_eq turn.flow F) _ (one_controlled a turn.flow F (retry_of plan turn.flow) here)
]

-- the root holds each atom
there_is : (P : List Turn → Type 0) (xs : List Atom) (k : ℕ) → AllByRecursion (λ atom. P atom.path) xs → k < length xs → P (path_in (slice_get xs k))
there_is P [] k all below = absurd (omega arith)
there_is P (x ∷ xs) zero all below = all.0
there_is P (x ∷ xs) (suc k) all below = there_is P xs k all.1 (omega arith)

root_on_path : (head : Head) (items : Trees) (w : List Turn) → IsPath 0 (flow head items) w → passes_flow 0 w ≡ true
root_on_path head items w is = let first = begins head items 0 w is in ap (passes_flow 0) first.is ∙ true_first (nat_eq first.turn.flow 0) _ (eq-eqb first.turn.flow 0 first.flow)

root_holds_in : (t : Tree) (head : Head) (items : Trees) → t ≡ flow head items → (w : List Turn) → IsPath 0 t w → passes_flow 0 w ≡ true
root_holds_in t head items is w on = root_on_path head items w (subst (λ (u : Tree). IsPath 0 u w) is on)

pub root_holds : (plan : PlanValue) (a : ℕ) → a < count (outline_of plan) → holds (outline_of plan) 0 a ≡ true
unfolding holds
root_holds plan a below =
    root_holds_in (tree_of plan.root) (record { name = plan.root.name; kind = plan.root.kind; retry = plan.root.retry; links = plan.root.links }) (trees_of (map item_tree plan.root.items.items.items)) (tree_of-flow plan.root)
    (path (outline_of plan) a) (there_is (IsPath 0 (tree_of plan.root)) (atoms_of 0 (tree_of plan.root)) a (paths_of (tree_of plan.root) 0) below)

-- what a failure is resolved to holds it
pub resolution_holds : (plan : PlanValue) (s : Snapshot) (a : ℕ) → a < count (outline_of plan) → holds (outline_of plan) (resolution (outline_of plan) s a).flow a ≡ true
unfolding holds resolution
resolution_holds plan s a below = elim (resolution_among (outline_of plan) s (enclosing (outline_of plan) a)) [
  | inl root ↦ ap (λ (g : ℕ). passes_flow g (path (outline_of plan) a)) root ∙ root_holds plan a below
  | inr there ↦ on_path (outline_of plan) a (resolution (outline_of plan) s a).flow (path (outline_of plan) a) there
]

-- ---- a flow that is to run again has a retry controller

abbrev is_controlled : Outline → Controlled → Bool
is_controlled plan c = is_some (retry_of plan c.flow)

-- the flow of a resolve to run again has a retry controller
abbrev RunsAgain : Outline → Resolve → Type 0
RunsAgain plan p = p.kind ≡ kind.Retry → is_some (retry_of plan p.flow) ≡ true

either_runs : (plan : Outline) (b : Bool) (p q : Resolve) → RunsAgain plan p → RunsAgain plan q → RunsAgain plan (if b then p else q)
either_runs plan true p q one other = one
either_runs plan false p q one other = other

resolved_runs : (plan : Outline) (defer : Bool) (here : Controlled) (outer : List Controlled) (p : Resolve) (how : Kind)
    → is_some (retry_of plan here.flow) ≡ true → RunsAgain plan p → RunsAgain plan (resolved defer here outer p how)
resolved_runs plan defer here outer p kind.Retry is inner = λ again. is
resolved_runs plan defer here outer p kind.RevertAll is inner = λ again. absurd (cc)
resolved_runs plan defer here outer p kind.Revert is inner =
    either_runs plan defer p _ inner
    (either_runs plan (not (is_outermost outer) && not (is_revert p.kind)) p (record { flow = here.flow; kind = kind.Revert }) inner (λ again. absurd (cc)))

resolution_runs : (plan : Outline) (s : Snapshot) (list : List Controlled) → list_all (is_controlled plan) list ≡ true → RunsAgain plan (resolution_by plan s list)
resolution_runs plan s [] each = λ again. absurd (cc)
resolution_runs plan s (here ∷ outer) each =
    resolved_runs plan plan.defer here outer (resolution_by plan s outer) (answer plan s here.retry) (and_first (is_controlled plan here) _ each)
    (resolution_runs plan s outer (and_second (is_controlled plan here) _ each))

all_in_both : (test : Controlled → Bool) (xs ys : List Controlled) → list_all test xs ≡ true → list_all test ys ≡ true → list_all test (xs ++ ys) ≡ true
all_in_both test [] ys first second = second
all_in_both test (x ∷ xs) ys first second = true_both (test x) _ (and_first (test x) _ first) (all_in_both test xs ys (and_second (test x) _ first) second)

one_is_controlled : (plan : Outline) (a g : ℕ) (o : Option ℕ) → retry_of plan g ≡ o → list_all (is_controlled plan) (controlled a g o) ≡ true
one_is_controlled plan a g None is = refl
one_is_controlled plan a g (Some r) is = by (nat_eq r a)
  where
    by : (b : Bool) → list_all (is_controlled plan) (if b then [] else record { flow = g; retry = r } ∷ []) ≡ true
    by true = refl
    by false = true_both (is_some (retry_of plan g)) _ (ap is_some is) refl

all_controlled : (plan : Outline) (a : ℕ) (turns : List Turn) → list_all (is_controlled plan) (controlled_on plan a turns) ≡ true
all_controlled plan a [] = refl
all_controlled plan a (turn ∷ turns) =
    all_in_both (is_controlled plan) (controlled_on plan a turns) _ (all_controlled plan a turns) (one_is_controlled plan a turn.flow (retry_of plan turn.flow) refl)

pub resolution_is_controlled : (plan : Outline) (s : Snapshot) (a : ℕ) → (resolution plan s a).kind ≡ kind.Retry → is_some (retry_of plan (resolution plan s a).flow) ≡ true
unfolding resolution
resolution_is_controlled plan s a = resolution_runs plan s (enclosing plan a) (all_controlled plan a (path plan a))
