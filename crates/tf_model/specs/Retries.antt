-- What a retry controller gives an attempt, what it answers a failure with, and what a failure is resolved to.
use Rattle.std.specs.Prelude.{ℕ, ◌+◌, pos, List, [], ◌∷◌, ◌++◌, codes, Bool, true, false, not, ◌&&◌, Option, Some, None, length, nat_lt, nat_eq, if◌then◌else◌}
use Rattle.std.specs.Option.{option_and_then}
use Rattle.tf_values.specs.declared.value.Val.{Val}
use Rattle.tf_values.specs.declared.value.Val.TheVariants as value
use Rattle.tf_flow.specs.declared.atoms.RetryKind.{RetryKind}
use Rattle.tf_flow.specs.declared.atoms.RetryKind.TheVariants as retry
use Rattle.tf_flow.specs.Tree.{same_name}
use Rattle.tf_actions.specs.declared.orders.Given.{Given}
use Rattle.tf_actions.specs.declared.orders.Given.TheVariants as given
use Rattle.tf_actions.specs.declared.orders.Pair.{Pair}
use Rattle.tf_actions.specs.declared.outcomes.Action.TheVariants as action
use Rattle.tf_states.specs.declared.record.Failure.TheVariants as failure
use Rattle.tf_states.specs.declared.record.Kind.{Kind}
use Rattle.tf_states.specs.declared.record.Kind.TheVariants as kind
use Rattle.tf_states.specs.declared.record.Payload.{Payload}
use Rattle.tf_states.specs.declared.record.Payload.TheVariants as payload
use Rattle.tf_states.specs.declared.record.What.{What}
use Rattle.tf_states.specs.declared.record.What.TheVariants as what
use Rattle.tf_states.specs.declared.state.AtomState.TheVariants as atom
use Rattle.tf_flow.specs.Outline.{Part, a_task, a_retry}
use Rattle.tf_flow.specs.declared.paths.Turn.{Turn}
use Rattle.tf_model.specs.Before.{part_at}
use Rattle.tf_model.specs.Plan.{Outline, path, retry_of}
use Rattle.tf_model.specs.History.{Resolve, Snapshot}
use Rattle.tf_model.specs.Scope.{item_value, given_for}

-- the kind of a retry controller
abbrev pub kind_of_part : Part → Option RetryKind
kind_of_part (a_task t) = None
kind_of_part (a_retry r) = Some r.kind

-- the kind of retry controller r
abbrev pub retry_kind : Outline → ℕ → Option RetryKind
retry_kind plan r = option_and_then kind_of_part (part_at plan.atoms r)

-- the argument of a name
abbrev pub argument_named : List Pair → List ℕ → Option Val
argument_named [] name = None
argument_named (argument ∷ others) name =
    if same_name argument.name name then Some argument.value else argument_named others name

-- an attempt without an item fails
abbrev pub item_or_exhausted : Option Val → Payload
item_or_exhausted None = payload.Fault failure.Exhausted
item_or_exhausted (Some v) = payload.Value v

-- item k of the argument `values`, which must be a list
abbrev pub item_of_values : Option Val → ℕ → Payload
item_of_values (Some (value.List scalars)) k = item_or_exhausted (item_value scalars k)
item_of_values other k = payload.Fault (failure.WrongKind (codes "values"))

-- of its arguments a parameterized retry controller goes through `values`
abbrev pub item_of_given : Given → ℕ → Payload
item_of_given (given.Missing symbol) k = payload.Fault (failure.Lookup symbol)
item_of_given (given.Found arguments) k = item_of_values (argument_named arguments (codes "values")) k

-- what the attempt after k others has: a value, or a failure
abbrev pub attempt_by : RetryKind → Given → ℕ → Payload
attempt_by retry.AlwaysRevert arguments k = payload.Value value.Nothing
attempt_by retry.AlwaysRevertAll arguments k = payload.Value value.Nothing
attempt_by (retry.Times attempts all) arguments k = payload.Value (value.Int (pos (k + 1)))
attempt_by (retry.ForEach values all) arguments k = item_or_exhausted (item_value values k)
attempt_by (retry.Parameterized all) arguments k = item_of_given arguments k

-- the same of a retry controller, where there is one
abbrev pub attempt_of : Option RetryKind → Given → ℕ → Payload
attempt_of None arguments k = payload.Empty
attempt_of (Some how) arguments k = attempt_by how arguments k

-- the payload with which the attempt of r that began last ends
unfoldable pub attempt : Outline → Snapshot → ℕ → Payload
attempt plan s r = attempt_of (retry_kind plan r) (given_for plan s r action.Execute) (s.attempts r)

-- the atom ends SUCCESS with a value, and FAILURE with a failure
abbrev pub ends_with : ℕ → Payload → What
ends_with a (payload.Value v) = what.Atom a atom.Success (payload.Value v)
ends_with a (payload.Fault fault) = what.Atom a atom.Failure (payload.Fault fault)
ends_with a payload.Empty = what.Atom a atom.Success payload.Empty

-- with no attempt left: REVERT, or REVERT_ALL where that is asked for
abbrev pub give_up : Bool → Kind
give_up all = if all then kind.RevertAll else kind.Revert

-- RETRY while m attempts are fewer than so many
abbrev pub try_again : ℕ → ℕ → Bool → Kind
try_again m limit all = if nat_lt m limit then kind.Retry else give_up all

-- RETRY while m attempts are fewer than the items of `values`
abbrev pub answer_by_values : Option Val → ℕ → Bool → Kind
answer_by_values (Some (value.List scalars)) m all = try_again m (length scalars) all
answer_by_values other m all = give_up all

-- with a missing symbol it gives up
abbrev pub answer_by_given : Given → ℕ → Bool → Kind
answer_by_given (given.Missing symbol) m all = give_up all
answer_by_given (given.Found arguments) m all = answer_by_values (argument_named arguments (codes "values")) m all

-- the answer after m attempts
abbrev pub answer_by : RetryKind → Given → ℕ → Kind
answer_by retry.AlwaysRevert arguments m = kind.Revert
answer_by retry.AlwaysRevertAll arguments m = kind.RevertAll
answer_by (retry.Times attempts all) arguments m = try_again m attempts all
answer_by (retry.ForEach values all) arguments m = try_again m (length values) all
answer_by (retry.Parameterized all) arguments m = answer_by_given arguments m all

-- the same of a retry controller, where there is one
abbrev pub answer_of : Option RetryKind → Given → ℕ → Kind
answer_of None arguments m = kind.Revert
answer_of (Some how) arguments m = answer_by how arguments m

-- what retry controller r answers where its flow failed
unfoldable pub answer : Outline → Snapshot → ℕ → Kind
answer plan s r = answer_of (retry_kind plan r) (given_for plan s r action.Execute) (s.attempts r)

-- a flow that has a retry controller
pub record Controlled : Type 0 where
  pub flow : ℕ
  pub retry : ℕ

-- flow g, where it has a retry controller other than a
abbrev pub controlled : ℕ → ℕ → Option ℕ → List Controlled
controlled a g None = []
controlled a g (Some r) = if nat_eq r a then [] else record { flow = g; retry = r } ∷ []

-- the flows on a path that have a retry controller other than a, the innermost first
abbrev pub controlled_on : Outline → ℕ → List Turn → List Controlled
controlled_on plan a [] = []
controlled_on plan a (turn ∷ turns) = controlled_on plan a turns ++ controlled a turn.flow (retry_of plan turn.flow)

-- the flows around a that have a retry controller other than a, the innermost first
abbrev pub enclosing : Outline → ℕ → List Controlled
enclosing plan a = controlled_on plan a (path plan a)

-- the kind is REVERT
abbrev pub is_revert : Kind → Bool
is_revert kind.Retry = false
is_revert kind.Revert = true
is_revert kind.RevertAll = false

-- the whole flow is reverted
abbrev pub revert_all : Resolve
revert_all = record { flow = 0; kind = kind.RevertAll }

-- no retry controller stands around those that were asked
abbrev pub is_outermost : List Controlled → Bool
is_outermost [] = true
is_outermost (first ∷ others) = false

-- what a retry controller's answer is resolved to, where p is the resolution of the controller itself: RETRY
-- runs its flow again; REVERT_ALL reverts the whole flow; with REVERT it is p where reverts are deferred, or
-- where another one stands around it and p's kind isn't REVERT; else its flow is reverted
abbrev pub resolved : Bool → Controlled → List Controlled → Resolve → Kind → Resolve
resolved defer here outer p kind.Retry = record { flow = here.flow; kind = kind.Retry }
resolved defer here outer p kind.RevertAll = revert_all
resolved defer here outer p kind.Revert =
    if defer then p
    else if not (is_outermost outer) && not (is_revert p.kind) then p
    else record { flow = here.flow; kind = kind.Revert }

-- the resolution by the retry controllers around a failure, the nearest first
abbrev pub resolution_by : Outline → Snapshot → List Controlled → Resolve
resolution_by plan s [] = revert_all
resolution_by plan s (here ∷ outer) =
    resolved plan.defer here outer (resolution_by plan s outer) (answer plan s here.retry)

-- what a failure of atom a is resolved to
unfoldable pub resolution : Outline → Snapshot → ℕ → Resolve
resolution plan s a = resolution_by plan s (enclosing plan a)
