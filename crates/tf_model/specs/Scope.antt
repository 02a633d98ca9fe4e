-- From whom an atom takes the value of a symbol, and what a performer is asked for.
use Rattle.std.specs.Prelude.{ℕ, suc, List, [], ◌∷◌, Bool, not, ◌||◌, Option, Some, None, option_map, reverse, filter, map, flat_map, take_while, slice_get, if◌then◌else◌, false, nat_eq}
use Rattle.std.specs.List.{list_any}
use Rattle.std.specs.Option.{option_or, option_and_then}
use Rattle.tf_values.specs.declared.elements.Scalar.{Scalar}
use Rattle.tf_values.specs.declared.value.Val.{Val}
use Rattle.tf_values.specs.declared.value.Val.TheVariants as value
use Rattle.tf_values.specs.Value.{value_of}
use Rattle.tf_flow.specs.declared.atoms.Arg.{Arg}
use Rattle.tf_flow.specs.declared.atoms.Bind.{Bind}
use Rattle.tf_flow.specs.declared.atoms.Provides.{Provides}
use Rattle.tf_flow.specs.declared.atoms.Provides.TheVariants as provides
use Rattle.tf_flow.specs.Tree.{same_name, is_among, first_some}
use Rattle.tf_flow.specs.Rules.{bind_symbols}
use Rattle.tf_actions.specs.declared.orders.Given.{Given}
use Rattle.tf_actions.specs.declared.orders.Given.TheVariants as given
use Rattle.tf_actions.specs.declared.orders.Pair.{Pair}
use Rattle.tf_actions.specs.declared.outcomes.Action.{Action}
use Rattle.tf_actions.specs.declared.outcomes.Action.TheVariants as action
use Rattle.tf_states.specs.declared.record.Payload.{Payload}
use Rattle.tf_states.specs.declared.record.Payload.TheVariants as payload
use Rattle.tf_numbers.specs.Numbers.{numbers_below}
use Rattle.tf_flow.specs.declared.paths.Turn.{Turn}
use Rattle.tf_model.specs.Before.{flow_at, passes_item, provides_at, part_at}
use Rattle.tf_model.specs.Plan.{Outline, count, path, is_before, arguments, injects, provides_of, atom_name}
use Rattle.tf_model.specs.History.{Snapshot, is_success, snapshot, is_at_work}
use Rattle.tf_flow.specs.declared.atoms.Task.{Task}
use Rattle.tf_flow.specs.Outline.{Part, a_task, a_retry}
use Rattle.tf_actions.specs.declared.orders.Order.{Order}
use Rattle.tf_actions.specs.declared.outcomes.Outcome.{Outcome}
use Rattle.tf_actions.specs.declared.outcomes.Outcome.TheVariants as outcome
use Rattle.tf_states.specs.declared.record.Entry.{Entry}
use Rattle.tf_states.specs.declared.record.What.{What}
use Rattle.tf_states.specs.declared.record.What.TheVariants as what
use Rattle.tf_states.specs.declared.state.AtomState.TheVariants as atom

-- ---- from whom an atom takes the value of a symbol

-- a isn't in the item that the turn takes
abbrev pub is_elsewhere : Outline → Turn → ℕ → Bool
is_elsewhere plan turn a = not (passes_item turn.flow turn.item (path plan a))

-- a is before y
abbrev pub is_earlier : Outline → ℕ → ℕ → Bool
is_earlier plan y a = is_before plan a y

-- the members that y visits in one flow on its way: what stands in it before y's item in standing order,
-- from the nearest on, as far as it is before y; the flow's retry controller stands first and so comes last
abbrev pub members_in : Outline → ℕ → Turn → List ℕ
members_in plan y turn =
    filter (is_earlier plan y) (reverse (take_while (is_elsewhere plan turn) (flow_at plan.flows turn.flow).standing))

-- the members of y's scope: those of its own flow, then those of the flow around that, up to the root
unfoldable pub members : Outline → ℕ → List ℕ
members plan y = flat_map (members_in plan y) (reverse (path plan y))

-- b lists the symbol among those that it provides
abbrev pub lists_symbol : Outline → List ℕ → ℕ → Bool
lists_symbol plan symbol b = provides_at plan.atoms symbol b

-- the value bound to a symbol
abbrev pub bound : List Bind → List ℕ → Option Val
bound [] symbol = None
bound (bind ∷ binds) symbol = if same_name bind.symbol symbol then Some bind.value else bound binds symbol

-- the item at place k, as a value
abbrev pub item_value : List Scalar → ℕ → Option Val
item_value scalars k = option_map value_of (slice_get scalars k)

-- the item of a list value at place k
abbrev pub item_at : Val → ℕ → Option Val
item_at (value.List scalars) k = item_value scalars k
item_at v k = None

-- what the names of a list of names take from a result, by their places
abbrev pub part_given : List (List ℕ) → Val → List ℕ → ℕ → Option Val
part_given [] result symbol k = None
part_given (name ∷ names) result symbol k =
    if same_name name symbol then item_at result k else part_given names result symbol (suc k)

-- the value that a result gives a symbol
abbrev pub given_by_result : Provides → Val → List ℕ → Option Val
given_by_result provides.Nothing result symbol = None
given_by_result (provides.Whole name) result symbol = if same_name name symbol then Some result else None
given_by_result (provides.Parts names) result symbol = part_given names result symbol 0

-- the same of a payload: only a result gives values
abbrev pub given_by_payload : Provides → Payload → List ℕ → Option Val
given_by_payload gives (payload.Value result) symbol = given_by_result gives result symbol
given_by_payload gives payload.Empty symbol = None
given_by_payload gives (payload.Fault fault) symbol = None

-- the value that atom b gives a symbol, where it is SUCCESS
abbrev pub given_by : Outline → Snapshot → List ℕ → ℕ → Option Val
given_by plan s symbol b =
    if is_success (s.state b) then given_by_payload (provides_of plan b) (s.payload b) symbol else None

-- a symbol's value for y: y's inject, else the store's value, else what the first member gives that gives
-- one; where there is none, the symbol is missing
unfoldable pub symbol_value : Outline → Snapshot → ℕ → List ℕ → Option Val
symbol_value plan s y symbol =
    option_or (bound (injects plan y) symbol)
    (option_or (bound plan.store symbol) (first_some (given_by plan s symbol) (members plan y)))

-- one more argument before the others
abbrev pub with_argument : Arg → Val → Given → Given
with_argument arg v (given.Found others) = given.Found (record { name = arg.name; value = v } ∷ others)
with_argument arg v (given.Missing symbol) = given.Missing symbol

-- the argument with its value, or its symbol where that is missing
abbrev pub or_missing : Arg → Option Val → Given → Given
or_missing arg None others = given.Missing arg.symbol
or_missing arg (Some v) others = with_argument arg v others

-- the arguments with their values, or the first symbol that is missing
abbrev pub given_arguments : Outline → Snapshot → ℕ → List Arg → Given
given_arguments plan s a [] = given.Found []
given_arguments plan s a (arg ∷ args) =
    or_missing arg (symbol_value plan s a arg.symbol) (given_arguments plan s a args)

-- the value, or Nothing
abbrev pub or_nothing : Option Val → Val
or_nothing None = value.Nothing
or_nothing (Some v) = v

-- the argument with its value, or with Nothing
abbrev pub argument_to_revert : Outline → Snapshot → ℕ → Arg → Pair
argument_to_revert plan s a arg = record { name = arg.name; value = or_nothing (symbol_value plan s a arg.symbol) }

-- what atom a is given: to execute, its arguments with their values, or the first missing symbol in their
-- place; to revert, a missing value is Nothing
abbrev pub given_for : Outline → Snapshot → ℕ → Action → Given
given_for plan s a action.Execute = given_arguments plan s a (arguments plan a)
given_for plan s a action.Revert = given.Found (map (argument_to_revert plan s a) (arguments plan a))

-- an atom and a symbol that nobody gives it
pub record Missing : Type 0 where
  pub atom : List ℕ
  pub symbol : List ℕ

-- the symbol has an inject, a value of the store, or a member that lists it
abbrev pub has_source : Outline → ℕ → List ℕ → Bool
has_source plan a symbol =
    is_among (bind_symbols (injects plan a)) symbol
    || (is_among (bind_symbols plan.store) symbol || list_any (lists_symbol plan symbol) (members plan a))

-- the argument's symbol, where nobody gives it
abbrev pub missing_argument : Outline → ℕ → Arg → Option Missing
missing_argument plan a arg =
    if has_source plan a arg.symbol then None else Some (record { atom = atom_name plan a; symbol = arg.symbol })

-- the first such argument of atom a
abbrev pub missing_of : Outline → ℕ → Option Missing
missing_of plan a = first_some (missing_argument plan a) (arguments plan a)

-- the first symbol that is missing before a run: atoms in tree order, arguments in order
abbrev pub missing_symbol : Outline → Option Missing
missing_symbol plan = first_some (missing_of plan) (numbers_below (count plan))

-- ---- what a performer is asked for, and that the outcomes in a history are its own

-- the task that a part is
abbrev pub task_part : Part → Option Task
task_part (a_task t) = Some t
task_part (a_retry r) = None

-- the task of that number
abbrev pub task_at : Outline → ℕ → Option Task
task_at plan a = option_and_then task_part (part_at plan.atoms a)

-- the order to do so with task a, which is t, and these arguments
abbrev pub order_with : ℕ → Action → Given → Task → Order
order_with a how arguments t =
    record { atom = a; action = how; kind = t.kind; words = t.words; undo = t.undo; given = arguments }

-- the order to do so with a at this moment, where it is a task
unfoldable pub order_of : Outline → Snapshot → ℕ → Action → Option Order
order_of plan s a how = option_map (order_with a how (given_for plan s a how)) (task_at plan a)

-- the entry takes task a up: it starts it, or restarts it
abbrev pub takes_up : What → ℕ → Bool
takes_up (what.Atom entered state held) a = if nat_eq entered a then is_at_work state else false
takes_up (what.Restart again) a = nat_eq again a
takes_up (what.Flow state) a = false
takes_up (what.Resolve named resolved) a = false

-- the history before the entry that took task a up last
abbrev pub before_start : List Entry → ℕ → List Entry
before_start [] a = []
before_start (e ∷ past) a = if takes_up e.what a then past else before_start past a

-- the order of the last start of a, where it is a task
abbrev pub order_at : Outline → List Entry → ℕ → Action → Option Order
order_at plan past a how = order_of plan (snapshot plan (before_start past a)) a how

-- the order may have this outcome; nobody is asked for an atom that is no task
abbrev pub Allows : (Order → Outcome → Type 0) → Option Order → Outcome → Type 0
Allows gives None came = Unit {0}
Allows gives (Some order) came = gives order came

-- there is no order
abbrev pub IsUnasked : Option Order → Type 0
IsUnasked None = Unit {0}
IsUnasked (Some order) = ⊥

-- an end of a task carries an outcome that the order of its last start may have: a value, a failure, or nothing
-- where it was reverted
abbrev pub IsGiven : (Order → Outcome → Type 0) → Outline → List Entry → What → Type 0
IsGiven gives plan past (what.Atom a atom.Success (payload.Value result)) =
    Allows gives (order_at plan past a action.Execute) (outcome.Gave result)
IsGiven gives plan past (what.Atom a atom.Success other) = IsUnasked (order_at plan past a action.Execute)
IsGiven gives plan past (what.Atom a atom.Failure (payload.Fault fault)) =
    Allows gives (order_at plan past a action.Execute) (outcome.Failed fault)
IsGiven gives plan past (what.Atom a atom.Failure other) = IsUnasked (order_at plan past a action.Execute)
IsGiven gives plan past (what.Atom a atom.Reverted held) =
    Allows gives (order_at plan past a action.Revert) (outcome.Gave value.Nothing)
IsGiven gives plan past (what.Atom a atom.RevertFailure (payload.Fault fault)) =
    Allows gives (order_at plan past a action.Revert) (outcome.Failed fault)
IsGiven gives plan past (what.Atom a atom.RevertFailure other) = IsUnasked (order_at plan past a action.Revert)
IsGiven gives plan past other = Unit {0}

-- each end in the history carries such an outcome
abbrev pub HasOutcomes : (Order → Outcome → Type 0) → Outline → List Entry → Type 0
HasOutcomes gives plan [] = Unit {0}
HasOutcomes gives plan (e ∷ past) = IsGiven gives plan past e.what × HasOutcomes gives plan past
