-- Short words for plans, entries and steps, with which worked runs are told.
use Rattle.std.specs.Prelude.{◌≡◌, ℕ, pos, List, [], ◌∷◌, codes, true, false, Option, Some, None}
use Rattle.tf_values.specs.declared.value.Val.{Val}
use Rattle.tf_values.specs.declared.value.Val.TheVariants as value
use Rattle.tf_flow.specs.declared.atoms.Arg.{Arg}
use Rattle.tf_flow.specs.declared.atoms.Bind.{Bind}
use Rattle.tf_flow.specs.declared.atoms.Provides.{Provides}
use Rattle.tf_flow.specs.declared.atoms.Provides.TheVariants as provides
use Rattle.tf_flow.specs.declared.atoms.Retry.{Retry}
use Rattle.tf_flow.specs.declared.atoms.RetryKind.{RetryKind}
use Rattle.tf_flow.specs.declared.atoms.TaskKind.{TaskKind}
use Rattle.tf_flow.specs.declared.atoms.TaskKind.TheVariants as kind
use Rattle.tf_flow.specs.declared.atoms.Undo.{Undo}
use Rattle.tf_flow.specs.declared.atoms.Undo.TheVariants as undo
use Rattle.tf_flow.specs.declared.deciders.Depth.{Depth}
use Rattle.tf_flow.specs.declared.nested.FlowKind.{FlowKind}
use Rattle.tf_flow.specs.Tree.{Tree, task, flow, trees_of}
use Rattle.tf_states.specs.declared.record.Entry.{Entry}
use Rattle.tf_states.specs.declared.record.Failure.{Failure}
use Rattle.tf_states.specs.declared.record.Kind.{Kind}
use Rattle.tf_states.specs.declared.record.Payload.TheVariants as payload
use Rattle.tf_states.specs.declared.record.What.{What}
use Rattle.tf_states.specs.declared.record.What.TheVariants as what
use Rattle.tf_states.specs.declared.state.AtomState.{AtomState}
use Rattle.tf_states.specs.declared.state.AtomState.TheVariants as atom
use Rattle.tf_states.specs.declared.state.FlowState.{FlowState}
use Rattle.tf_states.specs.declared.state.FlowState.TheVariants as flow_state
use Rattle.tf_flow.specs.Outline.{Condition, Connection, FlowPlace, atoms_of, flows_of}
use Rattle.tf_model.specs.Plan.{Outline, outline_with, outline_of_tree}
use Rattle.tf_model.specs.History.{Snapshot}
use Rattle.tf_model.specs.Forced.{forced, choice}
use Rattle.tf_model.specs.Steps.{Step, by_force, by_choice, by_end_of_task, by_turn, by_end, by_suspension, by_reset, is_hand, is_free, is_still, ends_task, turns_flow, end_entry, may_suspend, reset}

-- ---- plans

abbrev pub number : ℕ → Val
number n = value.Int (pos n)

abbrev pub same_arg : List ℕ → Arg
same_arg name = record { name = name; symbol = name }

abbrev pub bound_to : List ℕ → Val → Bind
bound_to symbol v = record { symbol = symbol; value = v }

abbrev pub work : List ℕ → TaskKind → List Arg → List Bind → Provides → Undo → Tree
work name how args inject gives back =
    task (record { name = name; kind = how; words = []; args = args; inject = inject; provides = gives; priority = pos 0; undo = back })

-- a task that gives a value; one that gives it to a symbol; one whose revert fails; and one that gives a symbol's value
abbrev pub echo : List ℕ → Val → Tree
echo name v = work name kind.Echo (same_arg (codes "value") ∷ []) (bound_to (codes "value") v ∷ []) provides.Nothing undo.Pass

abbrev pub echo_to : List ℕ → Val → List ℕ → Tree
echo_to name v symbol = work name kind.Echo (same_arg (codes "value") ∷ []) (bound_to (codes "value") v ∷ []) (provides.Whole symbol) undo.Pass

abbrev pub echo_for_good : List ℕ → Val → Tree
echo_for_good name v = work name kind.Echo (same_arg (codes "value") ∷ []) (bound_to (codes "value") v ∷ []) provides.Nothing undo.Fail

abbrev pub echo_of : List ℕ → List ℕ → Tree
echo_of name symbol = work name kind.Echo (same_arg symbol ∷ []) [] provides.Nothing undo.Pass

-- a task of a greater priority
abbrev pub urgent : List ℕ → Val → Tree
urgent name v =
    task (record { name = name; kind = kind.Echo; words = []; args = same_arg (codes "value") ∷ []; inject = bound_to (codes "value") v ∷ []; provides = provides.Nothing; priority = pos 1; undo = undo.Pass })

-- a task that raises a text; and one that fails where n is below a limit
abbrev pub fail : List ℕ → List ℕ → Tree
fail name text = work name kind.Fail (same_arg (codes "text") ∷ []) (bound_to (codes "text") (value.Text text) ∷ []) provides.Nothing undo.Pass

abbrev pub fail_below : List ℕ → ℕ → Tree
fail_below name limit =
    work name kind.FailBelow (same_arg (codes "n") ∷ same_arg (codes "limit") ∷ []) (bound_to (codes "limit") (number limit) ∷ []) provides.Nothing undo.Pass

abbrev pub controller : List ℕ → RetryKind → List Arg → List Bind → Provides → Option Retry
controller name how args inject gives = Some (record { name = name; kind = how; args = args; inject = inject; provides = gives })

abbrev pub flow_of_items : FlowKind → List ℕ → Option Retry → List Tree → Tree
flow_of_items how name control items = flow (record { name = name; kind = how; retry = control; links = [] }) (trees_of items)

abbrev pub plan_of : Tree → Outline
plan_of root = outline_of_tree root [] false

abbrev pub deferring_plan_of : Tree → Outline
deferring_plan_of root = outline_of_tree root [] true

abbrev pub link : List ℕ → List ℕ → Connection
link from to = record { from = from; to = to; decision = None }

abbrev pub decider : List ℕ → List ℕ → Condition → Depth → Connection
decider from to test how = record { from = from; to = to; decision = Some (record { condition = test; depth = how }) }

-- the links of the root flow
abbrev pub linked_by : List Connection → List FlowPlace → List FlowPlace
linked_by links [] = []
linked_by links (root ∷ others) = record root { links = links } ∷ others

abbrev pub linked_plan_of : Tree → List Connection → Outline
linked_plan_of root links = outline_with (atoms_of 0 root) (linked_by links (flows_of 0 0 root)) [] false

-- ---- entries

abbrev pub by : ℕ → What → Entry
by hand event = record { hand = hand; what = event }

abbrev pub to : ℕ → AtomState → What
to a state = what.Atom a state payload.Empty

abbrev pub gives : ℕ → Val → What
gives a v = what.Atom a atom.Success (payload.Value v)

abbrev pub fails : ℕ → Failure → What
fails a fault = what.Atom a atom.Failure (payload.Fault fault)

abbrev pub stays : ℕ → Failure → What
stays a fault = what.Atom a atom.RevertFailure (payload.Fault fault)

abbrev pub flow_to : FlowState → What
flow_to state = what.Flow state

abbrev pub resolves : ℕ → Kind → What
resolves g how = what.Resolve g how

abbrev pub again : ℕ → What
again a = what.Restart a

-- ---- steps

pub force : {plan : Outline} {s : Snapshot} {e : Entry} → is_hand e.hand ≡ true → forced plan s ≡ Some e.what → Step plan s e
force is how = record { hand = is; rule = by_force how }

pub take_up : {plan : Outline} {s : Snapshot} {e : Entry} → is_hand e.hand ≡ true → choice plan s ≡ Some e.what → is_free plan s e.hand ≡ true → Step plan s e
take_up is how free = record { hand = is; rule = by_choice how free }

pub finish : {plan : Outline} {s : Snapshot} {e : Entry} → is_hand e.hand ≡ true → ends_task s e.hand e.what ≡ true → Step plan s e
finish is how = record { hand = is; rule = by_end_of_task how }

pub turn : {plan : Outline} {s : Snapshot} {e : Entry} → is_hand e.hand ≡ true → turns_flow s.flow e.what ≡ true → Step plan s e
turn is how = record { hand = is; rule = by_turn how }

pub end : {plan : Outline} {s : Snapshot} {e : Entry} → is_hand e.hand ≡ true → end_entry plan s ≡ Some e.what → is_still plan s ≡ true → Step plan s e
end is how still = record { hand = is; rule = by_end how still }

pub suspend : {plan : Outline} {s : Snapshot} {e : Entry} → is_hand e.hand ≡ true → may_suspend plan s ≡ true → e.what ≡ what.Flow flow_state.Suspended → Step plan s e
suspend is how event = record { hand = is; rule = by_suspension how event }

pub put_back : {plan : Outline} {s : Snapshot} {e : Entry} → is_hand e.hand ≡ true → reset plan s ≡ Some e.what → Step plan s e
put_back is how = record { hand = is; rule = by_reset how }
