-- In a plan that is accepted no more than 16 flows and no more than 16 tests stand in one another.
use Rattle.std.proofs.Common.{◌≡◌, ℕ, ◌+◌, ◌≤◌, max, List, [], ◌∷◌, ◌++◌, map, Bool, true, false, Option, Some, None, refl, ap, ◌∙◌, arith}
use Rattle.std.specs.List.{AllByRecursion}
use Rattle.std.specs.Option.{option_or}
use Rattle.std.specs.Prelude.{if◌then◌else◌, nat_lt}
use Rattle.std.proofs.lemmas.Bool.{ltb-false}
use Rattle.tf_flow.specs.Limits.{measure, plan_len, capped, passing, deep_test, passing_nesting, passing_at, passed, limit_fault, too_large, limits}
use Rattle.tf_flow.specs.Outline.{Condition, is_same, is_below, is_above, negated, all_of, any_of, Conditions, no_conditions, condition, condition_of, decision_of, connection_of}
use Rattle.tf_flow.specs.Tree.{first_some, at_flow, level_of, retry_places, places, places_among, tree_order, Tree, task, flow, Trees, no_trees, tree, tree_of, nesting}
use Rattle.tf_flow.specs.Rules.{first_refusal, broken_rule}
use Rattle.tf_flow.specs.declared.atoms.Bind.{Bind}
use Rattle.tf_flow.specs.declared.deciders.Decider.{Decider}
use Rattle.tf_flow.specs.declared.deciders.Link.{Link}
use Rattle.tf_flow.specs.declared.faults.Limit.{Limit}
use Rattle.tf_flow.specs.declared.faults.Limit.TheVariants as limit
use Rattle.tf_flow.specs.declared.faults.PlanFault.TheVariants as fault
use Rattle.tf_flow.specs.declared.nested.Flow.{Flow}
use Rattle.tf_flow.specs.Plan.{as_written, all_as_written}
use Rattle.tf_flow.proofs.AlikeLemmas.{nesting_told}
use Rattle.tf_flow.proofs.MeasureLemmas.{condition_measure, conditions_measure, told}
use Rattle.tf_entries.specs.Plans.{IsTree}
use Rattle.tf_entries.proofs.PlanLemmas.{IsWithin, ShallowTree, ShallowTrees}
use Rattle.tf_entries.proofs.TestLemmas.{test_depth, deepest_test, IsShallow}
use Rattle.tf_numbers.proofs.OptionLemmas.{none_mapped, neither_there}

-- ---- the first of a list that gives something

pub none_first : {X Y : Type 0} (f : X → Option Y) (xs ys : List X) → first_some f (xs ++ ys) ≡ None → (first_some f xs ≡ None) × (first_some f ys ≡ None)
none_first f [] ys none = (refl, none)
none_first f (x ∷ xs) ys none =
    let first = neither_there (f x) (first_some f (xs ++ ys)) none in
    let others = none_first f xs ys first.1 in
    (ap (λ o. option_or o (first_some f xs)) first.0 ∙ others.0, others.1)

-- a count that doesn't pass its limit
pub none_passing : (most count : ℕ) → passing most count ≡ None → count ≤ most
none_passing most count none = ltb-false most count (by (nat_lt most count) none)
  where
    by : (b : Bool) → (if b then Some count else None) ≡ None → b ≡ false
    by true none = absurd (cc)
    by false none = refl

uncapped : (count : ℕ) → capped count ≤ 16 → count ≤ 16
uncapped count low = omega arith

-- ---- tests

mutual
  depth_told : (test : Condition) → (condition_measure test).nesting ≡ test_depth test
  depth_told (is_same name wanted) = refl
  depth_told (is_below name number) = refl
  depth_told (is_above name number) = refl
  depth_told (negated test) = ap (λ n. 1 + n) (depth_told test)
  depth_told (all_of tests) = ap (λ n. 1 + n) (deepest_told tests)
  depth_told (any_of tests) = ap (λ n. 1 + n) (deepest_told tests)

  deepest_told : (tests : Conditions) → (conditions_measure tests).nesting ≡ deepest_test tests
  deepest_told no_conditions = refl
  deepest_told (condition first others) = ap (λ n. max n (conditions_measure others).nesting) (depth_told first) ∙ ap (max (test_depth first)) (deepest_told others)

shallow_decider : (decider : Option Decider) → deep_test decider ≡ None → IsShallow (decision_of decider)
shallow_decider None none = tt
shallow_decider (Some decider) none =
    let low = uncapped (measure decider.test).nesting (none_passing 16 (capped (measure decider.test).nesting) none) in
    let same : (measure decider.test).nesting ≡ test_depth (condition_of decider.test) = ap (λ m. m.nesting) (told decider.test) ∙ depth_told (condition_of decider.test) in
    rw (← same) low

shallow_links : (links : List Link) → first_some passing_nesting links ≡ None → AllByRecursion (λ link. IsShallow link.decision) (map connection_of links)
shallow_links [] none = tt
shallow_links (link ∷ links) none =
    let first = neither_there (passing_nesting link) (first_some passing_nesting links) none in
    (shallow_decider link.decider first.0, shallow_links links first.1)

-- ---- flows

mutual
  shallow_tree : (t : Tree) → first_some (passing_at limit.Test) (places t) ≡ None → ShallowTree (as_written t)
  shallow_tree (task t) none = tt
  shallow_tree (flow head items) none =
      let first = neither_there (passing_at limit.Test (at_flow (level_of head items))) (first_some (passing_at limit.Test) (retry_places head.retry ++ places_among items)) none in
      let others = none_first (passing_at limit.Test) (retry_places head.retry) (places_among items) first.1 in
      (shallow_links head.links first.0, shallow_trees items others.1)

  shallow_trees : (ts : Trees) → first_some (passing_at limit.Test) (places_among ts) ≡ None → ShallowTrees (all_as_written ts)
  shallow_trees no_trees none = tt
  shallow_trees (tree first others) none =
      let both = none_first (passing_at limit.Test) (places first) (places_among others) none in
      (shallow_tree first both.0, shallow_trees others both.1)

-- ---- plans

module _ (root : Flow) (store : List Bind) (accepted : first_refusal root store ≡ None) where
  -- no limit is passed
  unpassed : first_some (limit_fault (capped (nesting (tree_of root))) (tree_order root) store) limits ≡ None
  unpassed = (neither_there (too_large (capped (nesting (tree_of root))) (tree_order root) store) (broken_rule root.name store (tree_order root)) accepted).0

  pub none_passed : (before others : List Limit) (which : Limit) → before ++ which ∷ others ≡ limits → passed (capped (nesting (tree_of root))) (tree_order root) store which ≡ None
  none_passed before others which is =
      let all : first_some (limit_fault (capped (nesting (tree_of root))) (tree_order root) store) (before ++ which ∷ others) ≡ None = ap (first_some (limit_fault (capped (nesting (tree_of root))) (tree_order root) store)) is ∙ unpassed in
      let here = none_first (limit_fault (capped (nesting (tree_of root))) (tree_order root) store) before (which ∷ others) all in
      none_mapped (λ n. fault.TooLarge which n) (passed (capped (nesting (tree_of root))) (tree_order root) store which)
      (neither_there (limit_fault (capped (nesting (tree_of root))) (tree_order root) store which) (first_some (limit_fault (capped (nesting (tree_of root))) (tree_order root) store) others) here.1).0

  low_nesting : nesting (tree_of root) ≤ 16
  low_nesting =
      uncapped (nesting (tree_of root)) (none_passing 16 (capped (nesting (tree_of root)))
      (none_passed [] (limit.Atoms ∷ limit.Flows ∷ limit.Links ∷ limit.Arguments ∷ limit.Injects ∷ limit.Provided ∷ limit.Words ∷ limit.Store ∷ limit.Test ∷ limit.Comparisons ∷ limit.Plan ∷ []) limit.Nesting refl))

  shallow_tests : ShallowTree (as_written (tree_of root))
  shallow_tests =
      shallow_tree (tree_of root)
      (none_passed (limit.Nesting ∷ limit.Atoms ∷ limit.Flows ∷ limit.Links ∷ limit.Arguments ∷ limit.Injects ∷ limit.Provided ∷ limit.Words ∷ limit.Store ∷ []) (limit.Comparisons ∷ limit.Plan ∷ []) limit.Test refl)

  -- the form of a plan is no longer than that of any plan
  pub short_plan : plan_len (tree_order root) store ≤ 1048576
  short_plan =
      let low = none_passing 1048576 (capped (plan_len (tree_order root) store))
      (none_passed (limit.Nesting ∷ limit.Atoms ∷ limit.Flows ∷ limit.Links ∷ limit.Arguments ∷ limit.Injects ∷ limit.Provided ∷ limit.Words ∷ limit.Store ∷ limit.Test ∷ limit.Comparisons ∷ []) [] limit.Plan refl) in
      omega arith

  -- an accepted flow within the limits of its parts
  pub within_limits : IsTree (as_written (tree_of root)) → IsWithin 16 (as_written (tree_of root))
  within_limits good = record { good = good; low = rw (← nesting_told (tree_of root)) low_nesting; shallow = shallow_tests }
