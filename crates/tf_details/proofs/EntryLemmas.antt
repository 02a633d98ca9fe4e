-- What keeps its limits is short, and each entry of a history is one of its plan.
use Rattle.std.proofs.Common.{List, [], ◌∷◌, length, Option, Some, None, ⊎_elim}
use Rattle.std.proofs.lemmas.Bool.Decides.{leb_tells}
use Rattle.std.specs.List.{AllByRecursion}
use Rattle.std.specs.Prelude.{nat_le}
use Rattle.tf_numbers.proofs.TruthLemmas.{and_first}
use Rattle.tf_values.specs.Scalars.{list_bytes}
use Rattle.tf_values.specs.Value.{IsValue}
use Rattle.tf_values.specs.declared.value.Val.{Val}
use Rattle.tf_values.specs.declared.value.Val.TheVariants as value
use Rattle.tf_flow.specs.Plan.{PlanValue, as_written, all_as_written}
use Rattle.tf_flow.specs.Tree.{Tree, Trees, task, flow, no_trees, tree, tree_of}
use Rattle.tf_flow.specs.declared.atoms.Bind.{Bind}
use Rattle.tf_flow.specs.declared.atoms.Retry.{Retry}
use Rattle.tf_states.specs.declared.record.Entry.{Entry}
use Rattle.tf_states.specs.declared.record.Payload.{Payload}
use Rattle.tf_states.specs.declared.record.Payload.TheVariants as payload
use Rattle.tf_states.specs.declared.record.What.{What}
use Rattle.tf_states.specs.declared.record.What.TheVariants as what
use Rattle.tf_entries.specs.Plans.{IsBind, InTwoBytes, ControlWithin, IsTree, AreTrees}
use Rattle.tf_entries.specs.Entries.{HasItsPayload, IsPayload}
use Rattle.tf_model.specs.Plan.{outline_of}
use Rattle.tf_bound.specs.Short.{IsShortValue, IsShortPayload, IsShortEvent, AreShort, AreShortBinds, IsShortControl, IsShortTree, AreShortTrees, IsWithinLimits}
use Rattle.tf_bound.proofs.AcceptedLemmas.{accepted_within}
use Rattle.tf_bound.proofs.PastLemmas.{past_kept}
use Rattle.tf_details.specs.Elements.{AreForms, AreEntriesOf, IsHistoryOf}
use Rattle.tf_details.proofs.AmongLemmas.{past_entries}

-- ---- what keeps its limits is short

short_value : (v : Val) → IsValue v → IsShortValue v
short_value value.Nothing good = tt
short_value (value.Truth truth) good = tt
short_value (value.Int number) good = tt
short_value (value.Text text) good = tt
short_value (value.List scalars) good = ⊎_elim (λ is. is.1) (λ isnt. (let is = and_first (nat_le (length scalars) 1024) (nat_le (length (list_bytes scalars)) 131072) good.0 in let not = isnt.0 in absurd (cc))) (leb_tells (length scalars) 1024)

short_payload : (p : Payload) → IsPayload p → IsShortPayload p
short_payload payload.Empty good = tt
short_payload (payload.Value v) good = short_value v good
short_payload (payload.Fault fault) good = tt

short_event : (w : What) → HasItsPayload w → IsShortEvent w
short_event (what.Atom number state held) good = short_payload held good.2
short_event (what.Flow state) good = tt
short_event (what.Resolve number kind) good = tt
short_event (what.Restart number) good = tt

pub short_past : (past : List Entry) → AreForms past → AreShort past
short_past [] forms = tt
short_past (e ∷ past) forms = (short_event e.what forms.0.1, short_past past forms.1)

short_binds : (binds : List Bind) → AllByRecursion IsBind binds → AreShortBinds binds
short_binds [] good = tt
short_binds (bind ∷ binds) good = (short_value bind.value good.0.1, short_binds binds good.1)

short_control : (r : Option Retry) → ControlWithin InTwoBytes r → IsShortControl r
short_control None good = tt
short_control (Some r) good = short_binds r.inject good.inject.1

mutual
  short_tree : (t : Tree) → IsTree (as_written t) → IsShortTree t
  short_tree (task t) good = short_binds t.inject good.inject.1
  short_tree (flow head items) good = (short_control head.retry good.0.control, short_trees items good.2)

  short_trees : (ts : Trees) → AreTrees (all_as_written ts) → AreShortTrees ts
  short_trees no_trees good = tt
  short_trees (tree one others) good = (short_tree one good.0, short_trees others good.1)

pub within_limits : {plan : PlanValue} {past : List Entry} → IsHistoryOf plan past → IsWithinLimits (outline_of plan)
within_limits {plan} h = accepted_within plan h.accepted (short_binds plan.store h.limits.store.1) (short_tree (tree_of plan.root) h.limits.root)

-- each entry of a history is one of the plan
pub entries_of : {plan : PlanValue} {past : List Entry} → IsHistoryOf plan past → AreEntriesOf plan past
entries_of {plan} {past} h =
    past_entries plan past (λ before short legal. (past_kept plan before h.runs.0 (within_limits h) short legal).within) (short_past past h.forms) h.legal h.forms
