-- The byte form of a plan, and which plans are within the limits of their parts.
use Rattle.std.specs.Prelude.{ℕ, ◌<◌, ◌^◌, List, ◌∷◌, ◌++◌, length, Bool, true, false, ◌≡◌, [], FitsSigned, ◌+◌, Option, Some, None}
use Rattle.std.specs.Int.{to_be_bytes, w16, cast_unsigned, w32, w64}
use Rattle.std.specs.List.{flat_map, AllByRecursion}
use Rattle.tf_values.specs.Scalars.{text_bytes, list_bytes, IsElement, are_scalars}
use Rattle.tf_values.specs.Text.{is_name, is_text}
use Rattle.tf_values.specs.Value.{IsValue, byte_form}
use Rattle.tf_flow.specs.declared.atoms.Arg.{Arg}
use Rattle.tf_flow.specs.declared.atoms.Bind.{Bind}
use Rattle.tf_flow.specs.declared.atoms.Provides.{Provides}
use Rattle.tf_flow.specs.declared.atoms.Provides.TheVariants as provides
use Rattle.tf_flow.specs.declared.atoms.Retry.{Retry}
use Rattle.tf_flow.specs.declared.atoms.RetryKind.{RetryKind}
use Rattle.tf_flow.specs.declared.atoms.RetryKind.TheVariants as retry
use Rattle.tf_flow.specs.declared.atoms.Task.{Task}
use Rattle.tf_flow.specs.declared.atoms.TaskKind.{TaskKind}
use Rattle.tf_flow.specs.declared.atoms.TaskKind.TheVariants as kind
use Rattle.tf_flow.specs.declared.atoms.Undo.{Undo}
use Rattle.tf_flow.specs.declared.atoms.Undo.TheVariants as undo
use Rattle.tf_flow.specs.Outline.{Condition, is_same, is_below, is_above, negated, all_of, any_of, Conditions, no_conditions, condition, Decision, Connection}
use Rattle.tf_flow.specs.declared.deciders.Depth.{Depth}
use Rattle.tf_flow.specs.declared.deciders.Depth.TheVariants as depth
use Rattle.tf_flow.specs.Plan.{PlanValue, WrittenHead, WrittenTree, written_task, written_flow, WrittenTrees, nothing_written, written, as_written}
use Rattle.tf_flow.specs.Tree.{tree_of}
use Rattle.tf_flow.specs.declared.nested.FlowKind.{FlowKind}
use Rattle.tf_flow.specs.declared.nested.FlowKind.TheVariants as pattern

-- ---- parts that many forms have
-- Numbers are big-endian.

-- a name inside a form: its length in one byte, and its bytes
abbrev pub name_bytes : List ℕ → List ℕ
name_bytes name = length name ∷ name

-- a truth value inside a form
abbrev pub truth_byte : Bool → ℕ
truth_byte false = 0
truth_byte true = 1

-- a list inside a form: how many items it has in two bytes, and their forms
abbrev pub listed : {X : Type 0} → (X → List ℕ) → List X → List ℕ
listed form xs = to_be_bytes w16 (length xs) ++ flat_map form xs

-- a number that two bytes can hold, and any number
abbrev pub InTwoBytes : ℕ → Type 0
InTwoBytes count = count < 2 ^ 16

abbrev pub AnyCount : ℕ → Type 0
AnyCount count = Unit {0}

-- so many items as may be counted, each of which is good
abbrev pub AreCountable : {X : Type 0} → (ℕ → Type 0) → (X → Type 0) → List X → Type 0
AreCountable Counts Good xs = Counts (length xs) × AllByRecursion Good xs

-- so many items as two bytes can count
abbrev pub AreFew : {X : Type 0} → (X → Type 0) → List X → Type 0
AreFew Good xs = AreCountable InTwoBytes Good xs

-- ---- the byte forms of tasks and retry controllers, and which of them are within the limits of their parts

-- ---- bytes

-- an argument: its name and its symbol
abbrev pub arg_bytes : Arg → List ℕ
arg_bytes arg = name_bytes arg.name ++ name_bytes arg.symbol

-- a symbol and its value
abbrev pub bind_bytes : Bind → List ℕ
bind_bytes bind = name_bytes bind.symbol ++ byte_form bind.value

-- what an atom provides: nothing, a name, or names
abbrev pub provides_bytes : Provides → List ℕ
provides_bytes provides.Nothing = 0 ∷ []
provides_bytes (provides.Whole name) = 1 ∷ name_bytes name
provides_bytes (provides.Parts names) = 2 ∷ listed name_bytes names

-- what reverts a task: nothing, a failure, or a program's words
abbrev pub undo_bytes : Undo → List ℕ
undo_bytes undo.Pass = 0 ∷ []
undo_bytes undo.Fail = 1 ∷ []
undo_bytes (undo.Run words) = 2 ∷ listed text_bytes words

-- the number of a kind of task
abbrev pub task_kind_byte : TaskKind → ℕ
task_kind_byte kind.Echo = 0
task_kind_byte kind.Concat = 1
task_kind_byte kind.Sum = 2
task_kind_byte kind.Length = 3
task_kind_byte kind.Pick = 4
task_kind_byte kind.List = 5
task_kind_byte kind.Fail = 6
task_kind_byte kind.FailBelow = 7
task_kind_byte kind.FailUnless = 8
task_kind_byte kind.Command = 9

-- a task: its name, its kind, its words, arguments and constants, what it provides, its priority, and
-- what reverts it
abbrev pub task_bytes : Task → List ℕ
task_bytes t =
    name_bytes t.name ++
    (task_kind_byte t.kind ∷ (listed text_bytes t.words ++ (listed arg_bytes t.args ++ (listed bind_bytes t.inject
    ++ (provides_bytes t.provides ++ (to_be_bytes w32 (cast_unsigned w32 t.priority) ++ undo_bytes t.undo))))))

-- the number of a kind of retry controller, and what belongs to it: its attempts or its values, and
-- whether it answers with a reversion of the whole flow
abbrev pub retry_kind_bytes : RetryKind → List ℕ
retry_kind_bytes retry.AlwaysRevert = 0 ∷ []
retry_kind_bytes retry.AlwaysRevertAll = 1 ∷ []
retry_kind_bytes (retry.Times attempts all) = 2 ∷ (to_be_bytes w16 attempts ++ (truth_byte all ∷ []))
retry_kind_bytes (retry.ForEach values all) = 3 ∷ (list_bytes values ++ (truth_byte all ∷ []))
retry_kind_bytes (retry.Parameterized all) = 4 ∷ truth_byte all ∷ []

-- a retry controller: its name, its kind, its arguments and constants, and what it provides
abbrev pub retry_bytes : Retry → List ℕ
retry_bytes r =
    name_bytes r.name ++
    (retry_kind_bytes r.kind ++ (listed arg_bytes r.args ++ (listed bind_bytes r.inject ++ provides_bytes r.provides)))

-- ---- limits

abbrev pub IsName : List ℕ → Type 0
IsName name = is_name name ≡ true

abbrev pub IsText : List ℕ → Type 0
IsText text = is_text text ≡ true

abbrev pub IsArg : Arg → Type 0
IsArg arg = IsName arg.name × IsName arg.symbol

abbrev pub IsBind : Bind → Type 0
IsBind bind = IsName bind.symbol × IsValue bind.value

-- what follows speaks of lists of so many items as may be counted
abbrev pub ProvidesWithin : (ℕ → Type 0) → Provides → Type 0
ProvidesWithin Counts provides.Nothing = Unit {0}
ProvidesWithin Counts (provides.Whole name) = IsName name
ProvidesWithin Counts (provides.Parts names) = AreCountable Counts IsName names

abbrev pub UndoWithin : (ℕ → Type 0) → Undo → Type 0
UndoWithin Counts undo.Pass = Unit {0}
UndoWithin Counts undo.Fail = Unit {0}
UndoWithin Counts (undo.Run words) = AreCountable Counts IsText words

-- a task whose names, texts and values are within their limits
pub record TaskWithin (Counts : ℕ → Type 0) (t : Task) : Type 0 where
  pub name : IsName t.name
  pub words : AreCountable Counts IsText t.words
  pub args : AreCountable Counts IsArg t.args
  pub inject : AreCountable Counts IsBind t.inject
  pub provides : ProvidesWithin Counts t.provides
  pub priority : FitsSigned w32 t.priority
  pub undo : UndoWithin Counts t.undo

abbrev pub IsRetryKind : RetryKind → Type 0
IsRetryKind retry.AlwaysRevert = Unit {0}
IsRetryKind retry.AlwaysRevertAll = Unit {0}
IsRetryKind (retry.Times attempts all) = attempts < 2 ^ 16
IsRetryKind (retry.ForEach values all) = (are_scalars values ≡ true) × AllByRecursion IsElement values
IsRetryKind (retry.Parameterized all) = Unit {0}

-- the same of a retry controller
pub record RetryWithin (Counts : ℕ → Type 0) (r : Retry) : Type 0 where
  pub name : IsName r.name
  pub kind : IsRetryKind r.kind
  pub args : AreCountable Counts IsArg r.args
  pub inject : AreCountable Counts IsBind r.inject
  pub provides : ProvidesWithin Counts r.provides

-- those whose lists two bytes can count
abbrev pub IsProvides : Provides → Type 0
IsProvides p = ProvidesWithin InTwoBytes p

abbrev pub IsUndo : Undo → Type 0
IsUndo u = UndoWithin InTwoBytes u

abbrev pub IsTask : Task → Type 0
IsTask t = TaskWithin InTwoBytes t

abbrev pub IsRetry : Retry → Type 0
IsRetry r = RetryWithin InTwoBytes r

-- ---- the byte forms of tests and links, and which of them are within the limits of their parts

-- how many tests stand beside one another
abbrev pub condition_count : Conditions → ℕ
condition_count no_conditions = 0
condition_count (condition first others) = 1 + condition_count others

-- ---- bytes

-- a test: its tag, and a name with a value or a number, a test, or tests behind their number
abbrev mutual
  pub condition_bytes : Condition → List ℕ
  condition_bytes (is_same name wanted) = 0 ∷ (name_bytes name ++ byte_form wanted)
  condition_bytes (is_below name limit) = 1 ∷ (name_bytes name ++ to_be_bytes w64 (cast_unsigned w64 limit))
  condition_bytes (is_above name limit) = 2 ∷ (name_bytes name ++ to_be_bytes w64 (cast_unsigned w64 limit))
  condition_bytes (negated test) = 3 ∷ condition_bytes test
  condition_bytes (all_of tests) = 4 ∷ (to_be_bytes w16 (condition_count tests) ++ conditions_bytes tests)
  condition_bytes (any_of tests) = 5 ∷ (to_be_bytes w16 (condition_count tests) ++ conditions_bytes tests)

  -- one after another
  pub conditions_bytes : Conditions → List ℕ
  conditions_bytes no_conditions = []
  conditions_bytes (condition first others) = condition_bytes first ++ conditions_bytes others

-- the number of a depth
abbrev pub depth_byte : Depth → ℕ
depth_byte depth.All = 0
depth_byte depth.Flow = 1
depth_byte depth.Neighbors = 2
depth_byte depth.Atom = 3

-- a link without a decider, or a decider's depth and test
abbrev pub decision_bytes : Option Decision → List ℕ
decision_bytes None = 0 ∷ []
decision_bytes (Some decision) = 1 ∷ (depth_byte decision.depth ∷ condition_bytes decision.condition)

-- a link: the names of its ends, and its decider
abbrev pub connection_bytes : Connection → List ℕ
connection_bytes link = name_bytes link.from ++ (name_bytes link.to ++ decision_bytes link.decision)

-- ---- limits

-- a test whose names and values are within their limits, and in which two bytes can count the tests that
-- stand beside one another
abbrev mutual
  pub IsCondition : Condition → Type 0
  IsCondition (is_same name wanted) = IsName name × IsValue wanted
  IsCondition (is_below name limit) = IsName name × FitsSigned w64 limit
  IsCondition (is_above name limit) = IsName name × FitsSigned w64 limit
  IsCondition (negated test) = IsCondition test
  IsCondition (all_of tests) = (condition_count tests < 2 ^ 16) × AreConditions tests
  IsCondition (any_of tests) = (condition_count tests < 2 ^ 16) × AreConditions tests

  pub AreConditions : Conditions → Type 0
  AreConditions no_conditions = Unit {0}
  AreConditions (condition first others) = IsCondition first × AreConditions others

abbrev pub IsDecision : Option Decision → Type 0
IsDecision None = Unit {0}
IsDecision (Some decision) = IsCondition decision.condition

-- the same of a link
pub record IsConnection (link : Connection) : Type 0 where
  pub from : IsName link.from
  pub to : IsName link.to
  pub decision : IsDecision link.decision

-- ---- the byte form of a plan, and which plans are within the limits of their parts

-- how many items a flow has
abbrev pub item_count : WrittenTrees → ℕ
item_count nothing_written = 0
item_count (written first others) = 1 + item_count others

-- ---- bytes

-- the number of a kind of flow
abbrev pub flow_kind_byte : FlowKind → ℕ
flow_kind_byte pattern.Linear = 0
flow_kind_byte pattern.Unordered = 1
flow_kind_byte pattern.Graph = 2

-- the mark of a flow without a retry controller, or of one and the controller
abbrev pub control_bytes : Option Retry → List ℕ
control_bytes None = 0 ∷ []
control_bytes (Some r) = 1 ∷ retry_bytes r

-- an item is marked as a task or as a flow
abbrev pub item_mark : WrittenTree → ℕ
item_mark (written_task t) = 0
item_mark (written_flow head items) = 1

-- a task; or a flow: its name, its kind, its retry controller, its items behind their number, and its links
abbrev mutual
  pub tree_bytes : WrittenTree → List ℕ
  tree_bytes (written_task t) = task_bytes t
  tree_bytes (written_flow head items) =
      name_bytes head.name ++ (flow_kind_byte head.kind ∷ (control_bytes head.retry
      ++ ((to_be_bytes w16 (item_count items) ++ items_bytes items) ++ listed connection_bytes head.links)))

  -- items one after another, each behind its mark
  pub items_bytes : WrittenTrees → List ℕ
  items_bytes nothing_written = []
  items_bytes (written first others) = (item_mark first ∷ tree_bytes first) ++ items_bytes others

-- a plan: its flow, its store, and whether reverts are deferred
abbrev pub plan_bytes : PlanValue → List ℕ
plan_bytes plan =
    tree_bytes (as_written (tree_of plan.root)) ++ (listed bind_bytes plan.store ++ (truth_byte plan.defer ∷ []))

-- ---- limits

-- what follows speaks of lists of so many items as may be counted
abbrev pub ControlWithin : (ℕ → Type 0) → Option Retry → Type 0
ControlWithin Counts None = Unit {0}
ControlWithin Counts (Some r) = RetryWithin Counts r

-- what a flow has beside its items, with names, texts and values within their limits
pub record HeadWithin (Counts : ℕ → Type 0) (head : WrittenHead) : Type 0 where
  pub name : IsName head.name
  pub control : ControlWithin Counts head.retry
  pub links : AreCountable Counts IsConnection head.links

-- the same of all that stands in a flow
abbrev mutual
  pub TreeWithin : (ℕ → Type 0) → WrittenTree → Type 0
  TreeWithin Counts (written_task t) = TaskWithin Counts t
  TreeWithin Counts (written_flow head items) =
      HeadWithin Counts head × Counts (item_count items) × TreesWithin Counts items

  pub TreesWithin : (ℕ → Type 0) → WrittenTrees → Type 0
  TreesWithin Counts nothing_written = Unit {0}
  TreesWithin Counts (written first others) = TreeWithin Counts first × TreesWithin Counts others

-- those whose lists two bytes can count
abbrev pub IsControl : Option Retry → Type 0
IsControl r = ControlWithin InTwoBytes r

abbrev pub IsTree : WrittenTree → Type 0
IsTree t = TreeWithin InTwoBytes t

abbrev pub AreTrees : WrittenTrees → Type 0
AreTrees ts = TreesWithin InTwoBytes ts

-- a plan whose names, texts and values are within their limits, and whose lists two bytes can count
pub record IsPlan (plan : PlanValue) : Type 0 where
  pub root : IsTree (as_written (tree_of plan.root))
  pub store : AreFew IsBind plan.store

-- a plan whose names, texts and values are within their limits, which their types keep, and in whose
-- deciders two bytes can count the tests that stand beside one another
pub record KeepsLimits (plan : PlanValue) : Type 0 where
  pub root : TreeWithin AnyCount (as_written (tree_of plan.root))
  pub store : AreCountable AnyCount IsBind plan.store
