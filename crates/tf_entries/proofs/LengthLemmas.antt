-- How many bytes the form of a plan has.
use Rattle.std.proofs.Common.{◌≡◌, ℕ, ◌+◌, ◌≤◌, List, [], ◌∷◌, ◌++◌, length, Option, Some, None, map, refl, sym, ap, ◌∙◌, arith, length-append, w16, w32, w64}
use Rattle.std.specs.Int.{to_be_bytes, cast_unsigned}
use Rattle.std.specs.List.{flat_map, sum_by}
use Rattle.std.proofs.lemmas.List.Sums.{sum_by-cons, sum_by-append}
use Rattle.tf_flow.specs.Limits.{name_len, text_len, arg_len, bind_len, provides_len, undo_len, task_len, retry_kind_len, retry_len, measure, decider_len, link_len, place_len, plan_len}
use Rattle.tf_flow.specs.Outline.{Condition, is_same, is_below, is_above, negated, all_of, any_of, Conditions, no_conditions, condition, condition_of, decision_of, connection_of}
use Rattle.tf_flow.specs.Tree.{Place, at_flow, at_retry, at_task, members_of, level_of, retry_places, places, places_among, tree_order, Tree, task, flow, Trees, no_trees, tree, tree_of}
use Rattle.tf_flow.specs.Plan.{PlanValue, as_written, all_as_written}
use Rattle.tf_flow.specs.Rules.{first_refusal}
use Rattle.tf_flow.specs.declared.atoms.Arg.{Arg}
use Rattle.tf_flow.specs.declared.atoms.Bind.{Bind}
use Rattle.tf_flow.specs.declared.atoms.Provides.{Provides}
use Rattle.tf_flow.specs.declared.atoms.Provides.TheVariants as provides
use Rattle.tf_flow.specs.declared.atoms.Retry.{Retry}
use Rattle.tf_flow.specs.declared.atoms.RetryKind.{RetryKind}
use Rattle.tf_flow.specs.declared.atoms.RetryKind.TheVariants as retry
use Rattle.tf_flow.specs.declared.atoms.Task.{Task}
use Rattle.tf_flow.specs.declared.atoms.Undo.{Undo}
use Rattle.tf_flow.specs.declared.atoms.Undo.TheVariants as undo
use Rattle.tf_flow.specs.declared.deciders.Decider.{Decider}
use Rattle.tf_flow.specs.declared.deciders.Link.{Link}
use Rattle.tf_flow.proofs.MeasureLemmas.{condition_measure, conditions_measure, told}
use Rattle.tf_values.specs.Scalars.{text_bytes, list_bytes}
use Rattle.tf_values.specs.Value.{byte_form}
use Rattle.tf_entries.specs.Plans.{arg_bytes, bind_bytes, provides_bytes, undo_bytes, task_kind_byte, task_bytes, retry_kind_bytes, retry_bytes, name_bytes, truth_byte, listed, item_count, flow_kind_byte, control_bytes, item_mark, tree_bytes, items_bytes, plan_bytes, condition_bytes, conditions_bytes, decision_bytes, connection_bytes}
use Rattle.tf_entries.proofs.DepthLemmas.{short_plan}

-- ---- parts

module _ {X : Type 0} (form : X → List ℕ) (len : X → ℕ) (each : (x : X) → length (form x) ≡ len x) where
  joined_len : (xs : List X) → length (flat_map form xs) ≡ sum_by len xs
  joined_len [] = refl
  joined_len (x ∷ xs) = length-append (form x) (flat_map form xs) ∙ ap (λ n. n + length (flat_map form xs)) (each x) ∙ ap (λ n. len x + n) (joined_len xs) ∙ sym (sum_by-cons len x xs)

  listed_len : (xs : List X) → length (listed form xs) ≡ 2 + sum_by len xs
  listed_len xs = let others = joined_len xs in omega arith

name_long : (name : List ℕ) → length (name_bytes name) ≡ name_len name
name_long name = omega arith

text_long : (text : List ℕ) → length (text_bytes text) ≡ text_len text
text_long text = omega arith

arg_long : (a : Arg) → length (arg_bytes a) ≡ arg_len a
arg_long a = let both = length-append (name_bytes a.name) (name_bytes a.symbol) in omega arith

bind_long : (b : Bind) → length (bind_bytes b) ≡ bind_len b
bind_long b = let both = length-append (name_bytes b.symbol) (byte_form b.value) in omega arith

provides_long : (p : Provides) → length (provides_bytes p) ≡ provides_len p
provides_long provides.Nothing = refl
provides_long (provides.Whole name) = omega arith
provides_long (provides.Parts names) = let len = listed_len name_bytes name_len name_long names in omega arith

undo_long : (u : Undo) → length (undo_bytes u) ≡ undo_len u
undo_long undo.Pass = refl
undo_long undo.Fail = refl
undo_long (undo.Run words) = let len = listed_len text_bytes text_len text_long words in omega arith

-- ---- tasks and retry controllers

task_long : (t : Task) → length (task_bytes t) ≡ task_len t
task_long t =
    let words = listed_len text_bytes text_len text_long t.words in
    let args = listed_len arg_bytes arg_len arg_long t.args in
    let inject = listed_len bind_bytes bind_len bind_long t.inject in
    let priority = length-append (to_be_bytes w32 (cast_unsigned w32 t.priority)) (undo_bytes t.undo) in
    let from_priority : List ℕ = to_be_bytes w32 (cast_unsigned w32 t.priority) ++ undo_bytes t.undo in
    let from_provides : List ℕ = provides_bytes t.provides ++ from_priority in
    let from_inject : List ℕ = listed bind_bytes t.inject ++ from_provides in
    let from_args : List ℕ = listed arg_bytes t.args ++ from_inject in
    let from_words : List ℕ = listed text_bytes t.words ++ from_args in
    omega (
      arith,
      words,
      args,
      inject,
      undo_long t.undo,
      provides_long t.provides,
      length-append (provides_bytes t.provides) from_priority,
      length-append (listed bind_bytes t.inject) from_provides,
      length-append (listed arg_bytes t.args) from_inject,
      length-append (listed text_bytes t.words) from_args,
      length-append (name_bytes t.name) (task_kind_byte t.kind ∷ from_words),
    )

retry_kind_long : (k : RetryKind) → length (retry_kind_bytes k) ≡ retry_kind_len k
retry_kind_long retry.AlwaysRevert = refl
retry_kind_long retry.AlwaysRevertAll = refl
retry_kind_long (retry.Times attempts all) = refl
retry_kind_long (retry.ForEach values all) = omega (arith, length-append (list_bytes values) (truth_byte all ∷ []))
retry_kind_long (retry.Parameterized all) = refl

retry_long : (r : Retry) → length (retry_bytes r) ≡ retry_len r
retry_long r =
    let from_inject : List ℕ = listed bind_bytes r.inject ++ provides_bytes r.provides in
    let from_args : List ℕ = listed arg_bytes r.args ++ from_inject in
    omega (
      arith,
      listed_len arg_bytes arg_len arg_long r.args,
      listed_len bind_bytes bind_len bind_long r.inject,
      provides_long r.provides,
      retry_kind_long r.kind,
      length-append (listed bind_bytes r.inject) (provides_bytes r.provides),
      length-append (listed arg_bytes r.args) from_inject,
      length-append (retry_kind_bytes r.kind) from_args,
      length-append (name_bytes r.name) (retry_kind_bytes r.kind ++ from_args),
    )

-- ---- tests and links

mutual
  condition_long : (test : Condition) → length (condition_bytes test) ≡ (condition_measure test).len
  condition_long (is_same name wanted) = omega (arith, length-append (name_bytes name) (byte_form wanted))
  condition_long (is_below name limit) = omega (arith, length-append (name_bytes name) (to_be_bytes w64 (cast_unsigned w64 limit)))
  condition_long (is_above name limit) = omega (arith, length-append (name_bytes name) (to_be_bytes w64 (cast_unsigned w64 limit)))
  condition_long (negated test) = omega (arith, condition_long test)
  condition_long (all_of tests) = omega (arith, conditions_long tests)
  condition_long (any_of tests) = omega (arith, conditions_long tests)

  conditions_long : (tests : Conditions) → length (conditions_bytes tests) ≡ (conditions_measure tests).len
  conditions_long no_conditions = refl
  conditions_long (condition first others) = omega (arith, condition_long first, conditions_long others, length-append (condition_bytes first) (conditions_bytes others))

decision_long : (d : Option Decider) → length (decision_bytes (decision_of d)) ≡ decider_len d
decision_long None = refl
decision_long (Some d) =
    let len : (measure d.test).len ≡ (condition_measure (condition_of d.test)).len = ap (λ m. m.len) (told d.test) in
    omega (arith, condition_long (condition_of d.test))

link_long : (link : Link) → length (connection_bytes (connection_of link)) ≡ link_len link
link_long link =
    omega (arith, decision_long link.decider, length-append (name_bytes link.to) (decision_bytes (decision_of link.decider)), length-append (name_bytes link.from) (name_bytes link.to ++ decision_bytes (decision_of link.decider)))

links_joined : (links : List Link) → length (flat_map connection_bytes (map connection_of links)) ≡ sum_by link_len links
links_joined [] = refl
links_joined (link ∷ links) =
    length-append (connection_bytes (connection_of link)) (flat_map connection_bytes (map connection_of links)) ∙ ap (λ n. n + length (flat_map connection_bytes (map connection_of links))) (link_long link)
    ∙ ap (λ n. link_len link + n) (links_joined links) ∙ sym (sum_by-cons link_len link links)

links_long : (links : List Link) → length (listed connection_bytes (map connection_of links)) ≡ 2 + sum_by link_len links
links_long links = omega (arith, links_joined links)

-- ---- flows

-- the bytes of what stands at several places
abbrev long : List Place → ℕ
long order = sum_by place_len order

control_long : (r : Option Retry) → length (control_bytes r) ≡ 1 + long (retry_places r)
control_long None = refl
control_long (Some r) = omega (arith, retry_long r, sum_by-cons place_len (at_retry r) [])

mutual
  tree_long : (t : Tree) → length (tree_bytes (as_written t)) ≡ long (places t)
  tree_long (task t) = omega (arith, task_long t, sum_by-cons place_len (at_task t) [])
  tree_long (flow head items) =
      let links : List ℕ = listed connection_bytes (map connection_of head.links) in
      let inside : List ℕ = to_be_bytes w16 (item_count (all_as_written items)) ++ items_bytes (all_as_written items) in
      omega (
        arith,
        links_long head.links,
        control_long head.retry,
        trees_long items,
        length-append inside links,
        length-append (control_bytes head.retry) (inside ++ links),
        length-append (name_bytes head.name) (flow_kind_byte head.kind ∷ (control_bytes head.retry ++ (inside ++ links))),
        sum_by-cons place_len (at_flow (level_of head items)) (retry_places head.retry ++ places_among items),
        sum_by-append place_len (retry_places head.retry) (places_among items),
      )

  -- with a mark for each
  trees_long : (ts : Trees) → length (items_bytes (all_as_written ts)) ≡ length (members_of ts) + long (places_among ts)
  trees_long no_trees = refl
  trees_long (tree first others) =
      omega (arith, tree_long first, trees_long others, length-append (item_mark (as_written first) ∷ tree_bytes (as_written first)) (items_bytes (all_as_written others)), sum_by-append place_len (places first) (places_among others))

-- ---- plans

pub plan_long : (plan : PlanValue) → length (plan_bytes plan) ≡ plan_len (tree_order plan.root) plan.store
plan_long plan =
    omega (
      arith,
      tree_long (tree_of plan.root),
      listed_len bind_bytes bind_len bind_long plan.store,
      length-append (listed bind_bytes plan.store) (truth_byte plan.defer ∷ []),
      length-append (tree_bytes (as_written (tree_of plan.root))) (listed bind_bytes plan.store ++ (truth_byte plan.defer ∷ [])),
    )

-- an accepted plan's form has 1 to 1,048,576 bytes
pub plan_bounds : (plan : PlanValue) → first_refusal plan.root plan.store ≡ None → (1 ≤ length (plan_bytes plan)) × (length (plan_bytes plan) ≤ 1048576)
plan_bounds plan accepted = (
  omega (arith, length-append (listed bind_bytes plan.store) (truth_byte plan.defer ∷ []), length-append (tree_bytes (as_written (tree_of plan.root))) (listed bind_bytes plan.store ++ (truth_byte plan.defer ∷ []))),
  rw (plan_long plan) (short_plan plan.root plan.store accepted),
)
