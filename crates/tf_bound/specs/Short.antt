-- The premise of the bound: each retry controller has an attempt, and lists have at most 1,024 items.
use Rattle.std.specs.Prelude.{◌≤◌, ℕ, List, Option, Some, None, length}
use Rattle.std.specs.List.{AllByRecursion}
use Rattle.tf_values.specs.declared.value.Val.{Val}
use Rattle.tf_values.specs.declared.value.Val.TheVariants as value
use Rattle.tf_flow.specs.declared.atoms.Bind.{Bind}
use Rattle.tf_flow.specs.declared.atoms.Retry.{Retry}
use Rattle.tf_flow.specs.Tree.{Tree, Trees, task, flow, no_trees, tree}
use Rattle.tf_states.specs.declared.record.Entry.{Entry}
use Rattle.tf_states.specs.declared.record.Payload.{Payload}
use Rattle.tf_states.specs.declared.record.Payload.TheVariants as payload
use Rattle.tf_states.specs.declared.record.What.{What}
use Rattle.tf_states.specs.declared.record.What.TheVariants as what
use Rattle.tf_model.specs.Plan.{Outline, injects}
use Rattle.tf_model.specs.History.{Snapshot}
use Rattle.tf_bound.specs.Costs.{HasAttempts}

-- a value that is a list has at most 1,024 items
abbrev pub IsShortValue : Val → Type 0
IsShortValue (value.List scalars) = length scalars ≤ 1024
IsShortValue other = Unit {0}

-- so has a value that a payload carries
abbrev pub IsShortPayload : Payload → Type 0
IsShortPayload (payload.Value v) = IsShortValue v
IsShortPayload payload.Empty = Unit {0}
IsShortPayload (payload.Fault fault) = Unit {0}

-- and one that is recorded
abbrev pub IsShortEvent : What → Type 0
IsShortEvent (what.Atom a state held) = IsShortPayload held
IsShortEvent (what.Flow state) = Unit {0}
IsShortEvent (what.Resolve named resolved) = Unit {0}
IsShortEvent (what.Restart again) = Unit {0}

-- the same of an entry, and of the entries of a history
abbrev pub IsShortEntry : Entry → Type 0
IsShortEntry e = IsShortEvent e.what

abbrev pub AreShort : List Entry → Type 0
AreShort entries = AllByRecursion IsShortEntry entries

-- the same of a value that is bound to a symbol, and of several
abbrev pub IsShortBind : Bind → Type 0
IsShortBind bind = IsShortValue bind.value

abbrev pub AreShortBinds : List Bind → Type 0
AreShortBinds binds = AllByRecursion IsShortBind binds

-- the same of the injects of a retry controller, where there is one, and of all atoms of a tree
abbrev pub IsShortControl : Option Retry → Type 0
IsShortControl None = Unit {0}
IsShortControl (Some r) = AreShortBinds r.inject

abbrev mutual
  pub IsShortTree : Tree → Type 0
  IsShortTree (task t) = AreShortBinds t.inject
  IsShortTree (flow head items) = IsShortControl head.retry × AreShortTrees items

  pub AreShortTrees : Trees → Type 0
  AreShortTrees no_trees = Unit {0}
  AreShortTrees (tree first others) = IsShortTree first × AreShortTrees others

-- the same of each payload that a snapshot has
abbrev pub ShowsShort : Snapshot → Type 0
ShowsShort s = (a : ℕ) → IsShortPayload (s.payload a)

-- a plan within its limits: each retry controller has an attempt at least, and the lists of the store and of the
-- injects are short
pub record IsWithinLimits (plan : Outline) : Type 0 where
  pub attempts : HasAttempts plan
  pub store : AreShortBinds plan.store
  pub injects : (a : ℕ) → AreShortBinds (injects plan a)
