-- How links, flows and plans are read.
use Rattle.std.specs.Prelude.{ℕ, zero, suc, ◌==◌, List, [], ◌∷◌, Bool, Option, Some, None, if◌then◌else◌}
use Rattle.std.specs.Int.{w64}
use Rattle.tf_flow.specs.Outline.{Condition, is_same, is_below, is_above, negated, all_of, any_of, conditions_of, Decision, Connection}
use Rattle.tf_flow.specs.Tree.{tree_of}
use Rattle.tf_flow.specs.declared.atoms.Bind.{Bind}
use Rattle.tf_flow.specs.declared.atoms.Retry.{Retry}
use Rattle.tf_flow.specs.declared.deciders.Depth.{Depth}
use Rattle.tf_flow.specs.declared.deciders.Depth.TheVariants as depth
use Rattle.tf_flow.specs.declared.faults.PlanFault.{PlanFault}
use Rattle.tf_flow.specs.declared.faults.PlanFault.TheVariants as plan_fault
use Rattle.tf_flow.specs.declared.nested.Flow.{Flow}
use Rattle.tf_flow.specs.declared.nested.FlowKind.{FlowKind}
use Rattle.tf_flow.specs.declared.nested.FlowKind.TheVariants as pattern
use Rattle.tf_flow.specs.Plan.{WrittenTree, written_task, written_flow, written_trees, as_written}
use Rattle.tf_values.specs.declared.faults.MakeFault.{MakeFault}
use Rattle.tf_values.specs.declared.faults.MakeFault.TheVariants as fault
use Rattle.tf_entries.specs.AtomReading.{read_truth, read_binds, read_task, read_retry}
use Rattle.tf_entries.specs.Reading.{chain, numbered, read_signed, read_name, read_value, read_list}

-- ---- tests

-- the result of a name is this value, is below this integer, is above it
abbrev pub read_same : List ℕ → Option (Condition × List ℕ)
read_same bytes =
    chain (read_name bytes) (λ name rest. chain (read_value rest) (λ wanted after. Some (is_same name wanted, after)))

abbrev pub read_below : List ℕ → Option (Condition × List ℕ)
read_below bytes =
    chain (read_name bytes)
    (λ name rest. chain (read_signed w64 rest) (λ limit after. Some (is_below name limit, after)))

abbrev pub read_above : List ℕ → Option (Condition × List ℕ)
read_above bytes =
    chain (read_name bytes)
    (λ name rest. chain (read_signed w64 rest) (λ limit after. Some (is_above name limit, after)))

-- a test isn't true, each of several is, one of them is, where the tests within are read so
abbrev pub read_not : (List ℕ → Option (Condition × List ℕ)) → List ℕ → Option (Condition × List ℕ)
read_not inside bytes = chain (inside bytes) (λ test rest. Some (negated test, rest))

abbrev pub read_all : (List ℕ → Option (Condition × List ℕ)) → List ℕ → Option (Condition × List ℕ)
read_all inside bytes = chain (read_list inside bytes) (λ tests rest. Some (all_of (conditions_of tests), rest))

abbrev pub read_any : (List ℕ → Option (Condition × List ℕ)) → List ℕ → Option (Condition × List ℕ)
read_any inside bytes = chain (read_list inside bytes) (λ tests rest. Some (any_of (conditions_of tests), rest))

-- a test of this tag
abbrev pub read_test_of : (List ℕ → Option (Condition × List ℕ)) → ℕ → List ℕ → Option (Condition × List ℕ)
read_test_of inside tag bytes =
    if tag == 0 then read_same bytes
    else if tag == 1 then read_below bytes
    else if tag == 2 then read_above bytes
    else if tag == 3 then read_not inside bytes
    else if tag == 4 then read_all inside bytes
    else if tag == 5 then read_any inside bytes
    else None

abbrev pub read_test_by : (List ℕ → Option (Condition × List ℕ)) → List ℕ → Option (Condition × List ℕ)
read_test_by inside [] = None
read_test_by inside (tag ∷ bytes) = read_test_of inside tag bytes

-- a test, where so many may stand in one another
abbrev pub read_test : ℕ → List ℕ → Option (Condition × List ℕ)
read_test zero bytes = None
read_test (suc left) bytes = read_test_by (read_test left) bytes

-- ---- links

-- the depth that has this number
abbrev pub depth_of : ℕ → Option Depth
depth_of n =
    if n == 0 then Some depth.All
    else if n == 1 then Some depth.Flow
    else if n == 2 then Some depth.Neighbors
    else if n == 3 then Some depth.Atom
    else None

abbrev pub read_depth : List ℕ → Option (Depth × List ℕ)
read_depth [] = None
read_depth (n ∷ rest) = numbered (depth_of n) rest

-- a decider
abbrev pub read_decided : List ℕ → Option (Option Decision × List ℕ)
read_decided bytes =
    chain (read_depth bytes)
    (λ depth rest. chain (read_test 16 rest)
    (λ condition after. Some (Some (record { condition = condition; depth = depth }), after)))

-- a decider, where there is one
abbrev pub read_decision_of : ℕ → List ℕ → Option (Option Decision × List ℕ)
read_decision_of tag bytes =
    if tag == 0 then Some (None, bytes)
    else if tag == 1 then read_decided bytes
    else None

abbrev pub read_decision : List ℕ → Option (Option Decision × List ℕ)
read_decision [] = None
read_decision (tag ∷ bytes) = read_decision_of tag bytes

-- a link
abbrev pub read_link : List ℕ → Option (Connection × List ℕ)
read_link bytes =
    chain (read_name bytes) (λ from after_from.
    chain (read_name after_from) (λ to after_to.
    chain (read_decision after_to) (λ decision rest.
    Some (record { from = from; to = to; decision = decision }, rest))))

unfoldable pub read_links : List ℕ → Option (List Connection × List ℕ)
read_links = read_list read_link

-- ---- flows

-- the kind of flow that has this number
abbrev pub flow_kind_of : ℕ → Option FlowKind
flow_kind_of n =
    if n == 0 then Some pattern.Linear
    else if n == 1 then Some pattern.Unordered
    else if n == 2 then Some pattern.Graph
    else None

abbrev pub read_flow_kind : List ℕ → Option (FlowKind × List ℕ)
read_flow_kind [] = None
read_flow_kind (n ∷ rest) = numbered (flow_kind_of n) rest

-- a flow's retry controller, where it has one
abbrev pub read_control_of : ℕ → List ℕ → Option (Option Retry × List ℕ)
read_control_of tag bytes =
    if tag == 0 then Some (None, bytes)
    else if tag == 1 then chain (read_retry bytes) (λ r rest. Some (Some r, rest))
    else None

abbrev pub read_control : List ℕ → Option (Option Retry × List ℕ)
read_control [] = None
read_control (tag ∷ bytes) = read_control_of tag bytes

-- an item, where nested flows are read so
abbrev pub read_item_of : (List ℕ → Option (WrittenTree × List ℕ)) → ℕ → List ℕ → Option (WrittenTree × List ℕ)
read_item_of nested tag bytes =
    if tag == 0 then chain (read_task bytes) (λ t rest. Some (written_task t, rest))
    else if tag == 1 then nested bytes
    else None

abbrev pub read_item : (List ℕ → Option (WrittenTree × List ℕ)) → List ℕ → Option (WrittenTree × List ℕ)
read_item nested [] = None
read_item nested (tag ∷ bytes) = read_item_of nested tag bytes

-- a flow, where the nested flows are read so
abbrev pub read_flow_by : (List ℕ → Option (WrittenTree × List ℕ)) → List ℕ → Option (WrittenTree × List ℕ)
read_flow_by nested bytes =
    chain (read_name bytes) (λ name after_name.
    chain (read_flow_kind after_name) (λ kind after_kind.
    chain (read_control after_kind) (λ retry after_retry.
    chain (read_list (read_item nested) after_retry) (λ items after_items.
    chain (read_links after_items) (λ links rest.
    Some (
      written_flow record { name = name; kind = kind; retry = retry; links = links }
          (written_trees items),
      rest,
    ))))))

-- a flow, where so many may stand in one another
abbrev pub read_flow : ℕ → List ℕ → Option (WrittenTree × List ℕ)
read_flow zero bytes = None
read_flow (suc left) bytes = read_flow_by (read_flow left) bytes

-- ---- plans

-- what a plan is written as
pub record PlanAsWritten : Type 0 where
  pub root : WrittenTree
  pub store : List Bind
  pub defer : Bool

-- what a flow, a store and the answer to whether reverts are deferred are written as
abbrev pub written_of : Flow → List Bind → Bool → PlanAsWritten
written_of root store defer = record { root = as_written (tree_of root); store = store; defer = defer }

-- a plan
abbrev pub read_plan : List ℕ → Option (PlanAsWritten × List ℕ)
read_plan bytes =
    chain (read_flow 16 bytes) (λ root after_root.
    chain (read_binds after_root) (λ store after_store.
    chain (read_truth after_store) (λ defer rest.
    Some (record { root = root; store = store; defer = defer }, rest))))

-- where a plan is refused for want of memory nothing is said of the bytes; else they are no plan's
abbrev pub fault_of : PlanFault → MakeFault
fault_of plan_fault.Memory = fault.Memory
fault_of reason = fault.No
