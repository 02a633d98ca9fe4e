-- The plan that a flow file spells, or the first reason why it spells none.
use Rattle.std.specs.Prelude.{List, [], ◌∷◌, ◌++◌, fold, if◌then◌else◌, ◌≡◌, ℕ, zero, suc, codes, Bool, not, ◌&&◌, Option, Some, None, Result, Ok, Err, ℤ}
use Rattle.tf_flow.specs.Tree.{same_name, tree_of}
use Rattle.tf_flow.specs.declared.atoms.Bind.{Bind}
use Rattle.std.specs.Str.{is_utf8}
use Rattle.tf_flow.specs.Outline.{Connection, Condition, is_same, is_below, is_above, negated, all_of, any_of, conditions_of, Decision}
use Rattle.tf_flow.specs.Rules.{first_refusal}
use Rattle.tf_flow.specs.declared.atoms.Retry.{Retry}
use Rattle.tf_flow.specs.declared.faults.Limit.TheVariants as limit
use Rattle.tf_flow.specs.declared.faults.PlanFault.{PlanFault}
use Rattle.tf_flow.specs.declared.faults.PlanFault.TheVariants as plan_fault
use Rattle.tf_flow.specs.declared.nested.Flow.{Flow}
use Rattle.tf_flow.specs.declared.nested.FlowKind.{FlowKind}
use Rattle.tf_flow.specs.declared.nested.FlowKind.TheVariants as pattern
use Rattle.tf_flow.specs.Plan.{WrittenTree, written_task, written_flow, written_trees, as_written, WrittenPlan}
use Rattle.tf_files.specs.document.Reading.{chain, has_key, known_only, required, optional, of_kind, array_of, name_form, binds_form, value_form}
use Rattle.tf_files.specs.document.Tasks.{retry_form, task_form}
use Rattle.tf_files.specs.declared.document.faults.FileFault.{FileFault}
use Rattle.tf_files.specs.declared.document.faults.FileFault.TheVariants as fault
use Rattle.toml.specs.Data.{Data, as_str, as_table, Members, as_integer}
use Rattle.toml.specs.Parse.{parse_document}
use Rattle.tf_flow.specs.declared.deciders.Depth.{Depth}
use Rattle.tf_flow.specs.declared.deciders.Depth.TheVariants as depth

-- ---- the deciders of links that the tables of a document spell

-- ---- the test of a decider that a table of a document spells, as a tree

-- ---- comparisons

-- an integer
abbrev pub integer_form : List ℕ → Data → Result ℤ FileFault
integer_form path found = of_kind path (as_integer found) Ok

-- the result of a name is this value
abbrev pub same_form : List ℕ → Members → Result Condition FileFault
same_form path members =
    known_only path (codes "result" ∷ codes "is" ∷ []) members
    (chain (required path (codes "result") members name_form) (λ name.
    chain (required path (codes "is") members value_form) (λ wanted. Ok (is_same name wanted))))

-- the result of a name is below this integer
abbrev pub below_form : List ℕ → Members → Result Condition FileFault
below_form path members =
    known_only path (codes "result" ∷ codes "below" ∷ []) members
    (chain (required path (codes "result") members name_form) (λ name.
    chain (required path (codes "below") members integer_form) (λ number. Ok (is_below name number))))

-- the result of a name is above this integer
abbrev pub above_form : List ℕ → Members → Result Condition FileFault
above_form path members =
    known_only path (codes "result" ∷ codes "above" ∷ []) members
    (chain (required path (codes "result") members name_form) (λ name.
    chain (required path (codes "above") members integer_form) (λ number. Ok (is_above name number))))

-- a comparison is the first of these whose key is there; where none is, the key `is` is missing
abbrev pub comparison_form : List ℕ → Members → Result Condition FileFault
comparison_form path members =
    if has_key (codes "is") members then same_form path members
    else if has_key (codes "below") members then below_form path members
    else if has_key (codes "above") members then above_form path members
    else same_form path members

-- ---- tests in tests

-- a test, where the tests of tables are read so
abbrev pub test_by : (List ℕ → Members → Result Condition FileFault) → List ℕ → Data → Result Condition FileFault
test_by inside path found = of_kind path (as_table found) (inside path)

-- the tests at the only key of a table
abbrev pub tests_by : (List ℕ → Members → Result Condition FileFault) → List ℕ → List ℕ → Members
    → Result (List Condition) FileFault
tests_by inside key path members =
    known_only path (key ∷ []) members (required path key members (array_of (test_by inside)))

-- each of several tests is true
abbrev pub all_by : (List ℕ → Members → Result Condition FileFault) → List ℕ → Members → Result Condition FileFault
all_by inside path members =
    chain (tests_by inside (codes "all") path members) (λ tests. Ok (all_of (conditions_of tests)))

-- one of several tests is true
abbrev pub any_by : (List ℕ → Members → Result Condition FileFault) → List ℕ → Members → Result Condition FileFault
any_by inside path members =
    chain (tests_by inside (codes "any") path members) (λ tests. Ok (any_of (conditions_of tests)))

-- a test isn't true
abbrev pub not_by : (List ℕ → Members → Result Condition FileFault) → List ℕ → Members → Result Condition FileFault
not_by inside path members =
    known_only path (codes "not" ∷ []) members
    (chain (required path (codes "not") members (test_by inside)) (λ test. Ok (negated test)))

-- the test of a table is the first of these whose key is there; where none is, it compares a result
abbrev pub row_by : (List ℕ → Members → Result Condition FileFault) → List ℕ → Members → Result Condition FileFault
row_by inside path members =
    if has_key (codes "all") members then all_by inside path members
    else if has_key (codes "any") members then any_by inside path members
    else if has_key (codes "not") members then not_by inside path members
    else comparison_form path members

-- the seventeenth test in one another
abbrev pub too_deep_test : FileFault
too_deep_test = fault.Plan (plan_fault.TooLarge limit.Test 17)

-- the test of a table, where so many tests may stand in one another: where none may, it is refused
-- before its keys are looked at
abbrev pub test_table : ℕ → List ℕ → Members → Result Condition FileFault
test_table zero path values = Err too_deep_test
test_table (suc left) path values = row_by (test_table left) path values

-- a test, where so many may stand in one another
abbrev pub test_within : ℕ → List ℕ → Data → Result Condition FileFault
test_within left = test_by (test_table left)

-- a test, in which fifteen more may stand in one another
abbrev pub test_form : List ℕ → Data → Result Condition FileFault
test_form = test_within 16

-- ---- the decider of a link that a table of a document spells

-- the depth that a word is
abbrev pub depth_named : List ℕ → List ℕ → Result Depth FileFault
depth_named path word =
    if same_name word (codes "ALL") then Ok depth.All
    else if same_name word (codes "FLOW") then Ok depth.Flow
    else if same_name word (codes "NEIGHBORS") then Ok depth.Neighbors
    else if same_name word (codes "ATOM") then Ok depth.Atom
    else Err (fault.BadChoice path)

-- a depth
abbrev pub depth_form : List ℕ → Data → Result Depth FileFault
depth_form path found = of_kind path (as_str found) (depth_named path)

-- the decider with this test in the link's table under the path: its depth is ALL where none is named
abbrev pub decider_form : List ℕ → Members → List ℕ → Data → Result (Option Decision) FileFault
decider_form path members place found =
    chain (test_form place found) (λ test.
    chain (optional path (codes "depth") members depth.All depth_form) (λ depth.
    Ok (Some record { condition = test; depth = depth })))

-- the decider of the link's table under the path; none where the key isn't there
abbrev pub decider_of : List ℕ → Members → Result (Option Decision) FileFault
decider_of path members = optional path (codes "decider") members None (decider_form path members)

-- ---- flows, their links and the document

-- ---- the values of a flow's store

-- a value is put under its symbol: in the place of the value that the symbol has, else behind the others
abbrev pub put : List Bind → Bind → List Bind
put [] bind = bind ∷ []
put (first ∷ others) bind =
    if same_name bind.symbol first.symbol then record { symbol = first.symbol; value = bind.value } ∷ others
    else first ∷ put others bind

-- the values of a file's store and then those that are set, each put under its symbol
abbrev pub store_with : List Bind → List Bind → List Bind
store_with store sets = fold put [] (store ++ sets)

-- ---- the plan that a flow file spells, or the first reason why it spells none

-- ---- links

-- the keys of a link; the depth of a decider is unknown where there is no decider
abbrev pub link_keys : Members → List (List ℕ)
link_keys members = if has_key (codes "decider") members
    then codes "from" ∷ codes "to" ∷ codes "decider" ∷ codes "depth" ∷ []
    else codes "from" ∷ codes "to" ∷ codes "decider" ∷ []

-- the link that the table under the path spells
abbrev pub link_table : List ℕ → Members → Result Connection FileFault
link_table path members =
    known_only path (link_keys members) members
    (chain (required path (codes "from") members name_form) (λ from.
    chain (required path (codes "to") members name_form) (λ to.
    chain (decider_of path members) (λ decision.
    Ok record { from = from; to = to; decision = decision }))))

-- a link
abbrev pub link_form : List ℕ → Data → Result Connection FileFault
link_form path found = of_kind path (as_table found) (link_table path)

-- links
abbrev pub links_form : List ℕ → Data → Result (List Connection) FileFault
links_form path found = array_of link_form path found

-- ---- flows

-- the kind of flow that a word is
abbrev pub pattern_named : List ℕ → List ℕ → Result FlowKind FileFault
pattern_named path word =
    if same_name word (codes "linear") then Ok pattern.Linear
    else if same_name word (codes "unordered") then Ok pattern.Unordered
    else if same_name word (codes "graph") then Ok pattern.Graph
    else Err (fault.BadChoice path)

-- a kind of flow
abbrev pub pattern_form : List ℕ → Data → Result FlowKind FileFault
pattern_form path found = of_kind path (as_str found) (pattern_named path)

-- the keys of a nested flow, and of the root
abbrev pub nested_keys : List (List ℕ)
nested_keys = codes "flow" ∷ codes "kind" ∷ codes "retry" ∷ codes "items" ∷ codes "links" ∷ []

abbrev pub root_keys : List (List ℕ)
root_keys = codes "name" ∷ codes "kind" ∷ codes "store" ∷ codes "retry" ∷ codes "items" ∷ codes "links" ∷ []

-- an item's table is that of a flow: it has the key `flow` and not the key `task`
abbrev pub is_flow_table : Members → Bool
is_flow_table members = has_key (codes "flow") members && not (has_key (codes "task") members)

-- the seventeenth flow in one another
abbrev pub too_deep : FileFault
too_deep = fault.Plan (plan_fault.TooLarge limit.Nesting 17)

-- the task of a table
abbrev pub task_item : List ℕ → Members → Result WrittenTree FileFault
task_item path members = chain (task_form path members) (λ t. Ok (written_task t))

-- the item of a table, where a nested flow is read so
abbrev pub item_table_by : (List ℕ → Members → Result WrittenTree FileFault) → List ℕ → Members
    → Result WrittenTree FileFault
item_table_by nested path members = if is_flow_table members then nested path members else task_item path members

-- an item
abbrev pub item_by : (List ℕ → Members → Result WrittenTree FileFault) → List ℕ → Data → Result WrittenTree FileFault
item_by nested path found = of_kind path (as_table found) (item_table_by nested path)

-- a flow's own retry controller
abbrev pub own_retry : List ℕ → Data → Result (Option Retry) FileFault
own_retry path found = chain (retry_form path found) (λ retry. Ok (Some retry))

-- what stands behind the name and the kind of a flow
abbrev pub inside_by : (List ℕ → Members → Result WrittenTree FileFault) → List ℕ → Members → List ℕ → FlowKind
    → Result WrittenTree FileFault
inside_by nested path members name kind =
    chain (optional path (codes "retry") members None own_retry) (λ retry.
    chain (optional path (codes "items") members [] (array_of (item_by nested))) (λ items.
    chain (optional path (codes "links") members [] links_form) (λ links.
    Ok (written_flow record { name = name; kind = kind; retry = retry; links = links } (written_trees items)))))

-- the nested flow of a table, where so many flows may still stand in one another: where none may, it is
-- refused before its keys are looked at
abbrev pub nested_flow : ℕ → List ℕ → Members → Result WrittenTree FileFault
nested_flow zero path values = Err too_deep
nested_flow (suc left) path values =
    known_only path nested_keys values
    (chain (required path (codes "flow") values name_form) (λ name.
    chain (required path (codes "kind") values pattern_form) (λ kind.
    inside_by (nested_flow left) path values name kind)))

-- the same of an item, of its table, and of what stands in a flow
abbrev pub item_form : ℕ → List ℕ → Data → Result WrittenTree FileFault
item_form left = item_by (nested_flow left)

abbrev pub item_table : ℕ → List ℕ → Members → Result WrittenTree FileFault
item_table left = item_table_by (nested_flow left)

abbrev pub flow_inside : ℕ → List ℕ → Members → List ℕ → FlowKind → Result WrittenTree FileFault
flow_inside left = inside_by (nested_flow left)

-- a root flow with a store
pub record Root : Type 0 where
  pub root : WrittenTree
  pub store : List Bind

-- the root flow of a document, in which fifteen more may stand in one another
abbrev pub root_form : Members → Result Root FileFault
root_form members =
    known_only [] root_keys members
    (chain (required [] (codes "name") members name_form) (λ name.
    chain (required [] (codes "kind") members pattern_form) (λ kind.
    chain (optional [] (codes "store") members [] binds_form) (λ store.
    chain (flow_inside 15 [] members name kind) (λ root.
    Ok record { root = root; store = store })))))

-- ---- plans

-- the plan of a root flow with the values of its store and those that are set
abbrev pub planned : List Bind → Bool → Root → Result WrittenPlan FileFault
planned sets defer made = Ok record { root = made.root; store = store_with made.store sets; defer = defer }

-- the members of the document that the bytes are, if they are one
abbrev pub document_of : List ℕ → Option Members
document_of bytes = if is_utf8 bytes then parse_document bytes else None

-- the plan of a document
abbrev pub documented : List Bind → Bool → Option Members → Result WrittenPlan FileFault
documented sets defer None = Err fault.NotToml
documented sets defer (Some members) = chain (root_form members) (planned sets defer)

-- the plan that the bytes of a flow file spell with these values set and reverts deferred or not, or the
-- first reason why they spell none: they are no TOML, or a part of the document can't stand there
abbrev pub flow_of : List ℕ → List Bind → Bool → Result WrittenPlan FileFault
flow_of bytes sets defer = documented sets defer (document_of bytes)

-- ---- refusals

-- a refusal of a plan as one of its file
abbrev pub plan_refusal : PlanFault → FileFault
plan_refusal plan_fault.Memory = fault.Memory
plan_refusal reason = fault.Plan reason

-- a flow that is written so passes a limit or breaks a rule of plans first by this
pub record IsBroken (plan : WrittenPlan) (reason : PlanFault) : Type 0 where
  pub root : Flow
  pub is_written : as_written (tree_of root) ≡ plan.root
  pub refused : first_refusal root plan.store ≡ Some reason

-- the first reason why a flow file gives no plan: it spells none, or the one that it spells passes a
-- limit or breaks a rule of plans; want of memory says nothing of it
pub data IsFirstReason (spelled : Result WrittenPlan FileFault) : FileFault → Type 0 where
  unspelled : (reason : FileFault) → spelled ≡ Err reason → IsFirstReason spelled reason
  broken : (plan : WrittenPlan) (reason : PlanFault) → spelled ≡ Ok plan → IsBroken plan reason
      → IsFirstReason spelled (fault.Plan reason)
  no_memory : IsFirstReason spelled fault.Memory
