-- In a plan that is accepted two bytes can count each list but those of tests.
use Rattle.std.proofs.Common.{◌≡◌, ◌+◌, ◌<◌, ◌≤◌, ◌^◌, List, [], ◌∷◌, ◌++◌, length, map, Option, Some, None, refl, arith, length-append, filter}
use Rattle.std.specs.List.{sum_by}
use Rattle.std.proofs.lemmas.List.{length-map}
use Rattle.std.proofs.lemmas.List.Sums.{sum_by-cons, sum_by-append}
use Rattle.tf_flow.specs.Outline.{connection_of}
use Rattle.tf_flow.specs.Limits.{capped, passing, provided, undo_words, passing_at, link_count}
use Rattle.tf_flow.specs.Tree.{first_some, Place, at_flow, at_retry, at_task, level_of, retry_places, places, places_among, tree_order, is_atom, is_flow, Tree, task, flow, Trees, no_trees, tree, tree_of}
use Rattle.tf_flow.specs.Rules.{first_refusal}
use Rattle.tf_flow.specs.declared.atoms.Bind.{Bind}
use Rattle.tf_flow.specs.declared.atoms.Provides.{Provides}
use Rattle.tf_flow.specs.declared.atoms.Provides.TheVariants as provides
use Rattle.tf_flow.specs.declared.atoms.Retry.{Retry}
use Rattle.tf_flow.specs.declared.atoms.Task.{Task}
use Rattle.tf_flow.specs.declared.atoms.Undo.{Undo}
use Rattle.tf_flow.specs.declared.atoms.Undo.TheVariants as undo
use Rattle.tf_flow.specs.declared.faults.Limit.TheVariants as limit
use Rattle.tf_flow.specs.declared.nested.Flow.{Flow}
use Rattle.tf_flow.specs.Plan.{PlanValue, as_written, all_as_written}
use Rattle.tf_entries.specs.Plans.{ProvidesWithin, UndoWithin, TaskWithin, RetryWithin, IsProvides, IsUndo, IsTask, IsRetry, AnyCount, item_count, ControlWithin, TreeWithin, TreesWithin, IsControl, IsTree, AreTrees, IsPlan, KeepsLimits}
use Rattle.tf_entries.proofs.DepthLemmas.{none_first, none_passing, none_passed}
use Rattle.tf_numbers.proofs.OptionLemmas.{neither_there}

-- ---- what stands at several places

-- no limit of arguments, constants, provided names or words is passed, and links and places are few
record Small (order : List Place) : Type 0 where
  arguments : first_some (passing_at limit.Arguments) order ≡ None
  injects : first_some (passing_at limit.Injects) order ≡ None
  provides : first_some (passing_at limit.Provided) order ≡ None
  words : first_some (passing_at limit.Words) order ≡ None
  links : sum_by link_count order ≤ 4000
  size : length order ≤ 1500

small_prefix : (xs ys : List Place) → Small (xs ++ ys) → Small xs
small_prefix xs ys small =
    let links = small.links in
    let size = small.size in
    record {
      arguments = (none_first (passing_at limit.Arguments) xs ys small.arguments).0;
      injects = (none_first (passing_at limit.Injects) xs ys small.injects).0;
      provides = (none_first (passing_at limit.Provided) xs ys small.provides).0;
      words = (none_first (passing_at limit.Words) xs ys small.words).0;
      links = omega (arith, sum_by-append link_count xs ys);
      size = omega (arith, length-append xs ys);
    }

small_rest : (xs ys : List Place) → Small (xs ++ ys) → Small ys
small_rest xs ys small =
    let links = small.links in
    let size = small.size in
    record {
      arguments = (none_first (passing_at limit.Arguments) xs ys small.arguments).1;
      injects = (none_first (passing_at limit.Injects) xs ys small.injects).1;
      provides = (none_first (passing_at limit.Provided) xs ys small.provides).1;
      words = (none_first (passing_at limit.Words) xs ys small.words).1;
      links = omega (arith, sum_by-append link_count xs ys);
      size = omega (arith, length-append xs ys);
    }

-- ---- tasks and retry controllers

provides_few : (p : Provides) → length (provided p) ≤ 64 → ProvidesWithin AnyCount p → IsProvides p
provides_few provides.Nothing few good = tt
provides_few (provides.Whole name) few good = good
provides_few (provides.Parts names) few good = (omega arith, good.1)

undo_few : (u : Undo) → length (undo_words u) ≤ 64 → UndoWithin AnyCount u → IsUndo u
undo_few undo.Pass few good = tt
undo_few undo.Fail few good = tt
undo_few (undo.Run words) few good = (omega arith, good.1)

task_few : (t : Task) → Small (at_task t ∷ []) → TaskWithin AnyCount t → IsTask t
task_few t small good =
    let args : length t.args ≤ 64 = none_passing 64 (length t.args) (neither_there (passing 64 (length t.args)) None small.arguments).0 in
    let inject : length t.inject ≤ 64 = none_passing 64 (length t.inject) (neither_there (passing 64 (length t.inject)) None small.injects).0 in
    let provides : length (provided t.provides) ≤ 64 = none_passing 64 (length (provided t.provides)) (neither_there (passing 64 (length (provided t.provides))) None small.provides).0 in
    let words = neither_there (passing_at limit.Words (at_task t)) None small.words in
    let both = neither_there (passing 64 (length t.words)) (passing 64 (length (undo_words t.undo))) words.0 in
    let run : length t.words ≤ 64 = none_passing 64 (length t.words) both.0 in
    let undo : length (undo_words t.undo) ≤ 64 = none_passing 64 (length (undo_words t.undo)) both.1 in
    record {
      name = good.name;
      words = (omega arith, good.words.1);
      args = (omega arith, good.args.1);
      inject = (omega arith, good.inject.1);
      provides = provides_few t.provides provides good.provides;
      priority = good.priority;
      undo = undo_few t.undo undo good.undo;
    }

retry_few : (r : Retry) → Small (at_retry r ∷ []) → RetryWithin AnyCount r → IsRetry r
retry_few r small good =
    let args : length r.args ≤ 64 = none_passing 64 (length r.args) (neither_there (passing 64 (length r.args)) None small.arguments).0 in
    let inject : length r.inject ≤ 64 = none_passing 64 (length r.inject) (neither_there (passing 64 (length r.inject)) None small.injects).0 in
    let provides : length (provided r.provides) ≤ 64 = none_passing 64 (length (provided r.provides)) (neither_there (passing 64 (length (provided r.provides))) None small.provides).0 in
    record {
      name = good.name;
      kind = good.kind;
      args = (omega arith, good.args.1);
      inject = (omega arith, good.inject.1);
      provides = provides_few r.provides provides good.provides;
    }

control_few : (r : Option Retry) → Small (retry_places r) → ControlWithin AnyCount r → IsControl r
control_few None small good = tt
control_few (Some r) small good = retry_few r small good

-- ---- flows

some_places : (t : Tree) → 0 < length (places t)
some_places (task t) = omega arith
some_places (flow head items) = omega arith

few_items : (ts : Trees) → item_count (all_as_written ts) ≤ length (places_among ts)
few_items no_trees = omega arith
few_items (tree first others) = omega (arith, some_places first, few_items others, length-append (places first) (places_among others))

mutual
  tree_few : (t : Tree) → Small (places t) → TreeWithin AnyCount (as_written t) → IsTree (as_written t)
  tree_few (task t) small good = task_few t small good
  tree_few (flow head items) small good =
      let here = small_prefix (at_flow (level_of head items) ∷ []) (retry_places head.retry ++ places_among items) small in
      let inside = small_rest (at_flow (level_of head items) ∷ []) (retry_places head.retry ++ places_among items) small in
      let retry = small_prefix (retry_places head.retry) (places_among items) inside in
      let below = small_rest (retry_places head.retry) (places_among items) inside in
      let links = here.links in
      let size = below.size in
      let few : length (map connection_of head.links) < 2 ^ 16 = omega (arith, length-map head.links connection_of, sum_by-cons link_count (at_flow (level_of head items)) []) in (
        record { name = good.0.name; control = control_few head.retry retry good.0.control; links = (few, good.0.links.1) },
        omega (arith, few_items items),
        trees_few items below good.2,
      )

  trees_few : (ts : Trees) → Small (places_among ts) → TreesWithin AnyCount (all_as_written ts) → AreTrees (all_as_written ts)
  trees_few no_trees small good = tt
  trees_few (tree first others) small good =
      (tree_few first (small_prefix (places first) (places_among others) small) good.0, trees_few others (small_rest (places first) (places_among others) small) good.1)

-- ---- plans

both_kinds : (order : List Place) → length (filter is_atom order) + length (filter is_flow order) ≡ length order
both_kinds [] = refl
both_kinds (at_flow level ∷ order) = omega (arith, both_kinds order)
both_kinds (at_retry r ∷ order) = omega (arith, both_kinds order)
both_kinds (at_task t ∷ order) = omega (arith, both_kinds order)

module _ (root : Flow) (store : List Bind) (accepted : first_refusal root store ≡ None) where
  small_plan : Small (tree_order root)
  small_plan =
      let atoms = none_passing 1000 (length (filter is_atom (tree_order root)))
      (none_passed root store accepted (limit.Nesting ∷ []) (limit.Flows ∷ limit.Links ∷ limit.Arguments ∷ limit.Injects ∷ limit.Provided ∷ limit.Words ∷ limit.Store ∷ limit.Test ∷ limit.Comparisons ∷ limit.Plan ∷ []) limit.Atoms refl) in
      let flows = none_passing 500 (length (filter is_flow (tree_order root)))
      (none_passed root store accepted (limit.Nesting ∷ limit.Atoms ∷ []) (limit.Links ∷ limit.Arguments ∷ limit.Injects ∷ limit.Provided ∷ limit.Words ∷ limit.Store ∷ limit.Test ∷ limit.Comparisons ∷ limit.Plan ∷ []) limit.Flows refl) in
      let links = none_passing 4000 (capped (sum_by link_count (tree_order root)))
      (none_passed root store accepted (limit.Nesting ∷ limit.Atoms ∷ limit.Flows ∷ []) (limit.Arguments ∷ limit.Injects ∷ limit.Provided ∷ limit.Words ∷ limit.Store ∷ limit.Test ∷ limit.Comparisons ∷ limit.Plan ∷ []) limit.Links refl) in
      record {
        arguments = none_passed root store accepted (limit.Nesting ∷ limit.Atoms ∷ limit.Flows ∷ limit.Links ∷ []) (limit.Injects ∷ limit.Provided ∷ limit.Words ∷ limit.Store ∷ limit.Test ∷ limit.Comparisons ∷ limit.Plan ∷ []) limit.Arguments refl;
        injects = none_passed root store accepted (limit.Nesting ∷ limit.Atoms ∷ limit.Flows ∷ limit.Links ∷ limit.Arguments ∷ []) (limit.Provided ∷ limit.Words ∷ limit.Store ∷ limit.Test ∷ limit.Comparisons ∷ limit.Plan ∷ []) limit.Injects refl;
        provides = none_passed root store accepted (limit.Nesting ∷ limit.Atoms ∷ limit.Flows ∷ limit.Links ∷ limit.Arguments ∷ limit.Injects ∷ []) (limit.Words ∷ limit.Store ∷ limit.Test ∷ limit.Comparisons ∷ limit.Plan ∷ []) limit.Provided refl;
        words = none_passed root store accepted (limit.Nesting ∷ limit.Atoms ∷ limit.Flows ∷ limit.Links ∷ limit.Arguments ∷ limit.Injects ∷ limit.Provided ∷ []) (limit.Store ∷ limit.Test ∷ limit.Comparisons ∷ limit.Plan ∷ []) limit.Words refl;
        links = omega arith;
        size = omega (arith, both_kinds (tree_order root));
      }

  few_values : length store ≤ 256
  few_values =
      none_passing 256 (length store)
      (none_passed root store accepted (limit.Nesting ∷ limit.Atoms ∷ limit.Flows ∷ limit.Links ∷ limit.Arguments ∷ limit.Injects ∷ limit.Provided ∷ limit.Words ∷ []) (limit.Test ∷ limit.Comparisons ∷ limit.Plan ∷ []) limit.Store refl)

-- an accepted plan within the limits of its parts is one whose lists two bytes can count
pub counted_plan : (plan : PlanValue) → first_refusal plan.root plan.store ≡ None → KeepsLimits plan → IsPlan plan
counted_plan plan accepted good =
    let few = few_values plan.root plan.store accepted in
    record { root = tree_few (tree_of plan.root) (small_plan plan.root plan.store accepted) good.root; store = (omega arith, good.store.1) }
