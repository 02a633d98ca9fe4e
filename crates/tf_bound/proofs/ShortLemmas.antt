-- Where the lists of a plan and of a history are short, so is what a retry controller goes through.
use Rattle.std.proofs.Common.{ℕ, suc, List, [], ◌∷◌, ◌++◌, length, Bool, true, false, Option, Some, None, slice_get}
use Rattle.std.specs.Option.{option_or, option_map}
use Rattle.std.specs.Prelude.{if◌then◌else◌, nat_eq, nat_le}
use Rattle.std.proofs.lemmas.Bool.{leb-true}
use Rattle.tf_numbers.proofs.TruthLemmas.{and_first}
use Rattle.tf_values.specs.declared.elements.Scalar.{Scalar}
use Rattle.tf_values.specs.declared.elements.Scalar.TheVariants as scalar
use Rattle.tf_values.specs.declared.value.Val.{Val}
use Rattle.tf_values.specs.declared.value.Val.TheVariants as value
use Rattle.tf_values.specs.Value.{value_of, IsValue}
use Rattle.tf_flow.specs.declared.atoms.Arg.{Arg}
use Rattle.tf_flow.specs.declared.atoms.Bind.{Bind}
use Rattle.tf_flow.specs.declared.atoms.Provides.{Provides}
use Rattle.tf_flow.specs.declared.atoms.Provides.TheVariants as provides
use Rattle.tf_flow.specs.Tree.{same_name, first_some}
use Rattle.tf_actions.specs.declared.orders.Given.{Given}
use Rattle.tf_actions.specs.declared.orders.Given.TheVariants as given
use Rattle.tf_actions.specs.declared.orders.Pair.{Pair}
use Rattle.tf_actions.specs.declared.outcomes.Action.TheVariants as action
use Rattle.tf_states.specs.declared.record.Entry.{Entry}
use Rattle.tf_states.specs.declared.record.Payload.{Payload}
use Rattle.tf_states.specs.declared.record.Payload.TheVariants as payload
use Rattle.tf_states.specs.declared.record.What.{What}
use Rattle.tf_states.specs.declared.record.What.TheVariants as what
use Rattle.tf_states.specs.declared.state.AtomState.{AtomState}
use Rattle.tf_states.specs.declared.state.AtomState.TheVariants as atom
use Rattle.tf_model.specs.Plan.{Outline, injects, arguments, provides_of}
use Rattle.tf_model.specs.History.{Snapshot, later, held_after, payload_after, snapshot, state_of, payload_of, is_success}
use Rattle.tf_model.specs.Scope.{bound, item_at, part_given, given_by_result, given_by_payload, given_by, symbol_value, members, with_argument, or_missing, given_arguments, given_for}
use Rattle.tf_model.specs.Retries.{argument_named}
use Rattle.tf_bound.specs.Short.{IsShortValue, IsShortPayload, IsShortEvent, AreShort, AreShortBinds, ShowsShort, IsWithinLimits}

-- ---- what is found of a symbol

-- a value that was found is short
abbrev pub FoundShort : Option Val → Type 0
FoundShort None = Unit {0}
FoundShort (Some v) = IsShortValue v

either_short : (x y : Option Val) → FoundShort x → FoundShort y → FoundShort (option_or x y)
either_short None y first second = second
either_short (Some v) y first second = first

picked_short : (b : Bool) (x y : Option Val) → FoundShort x → FoundShort y → FoundShort (if b then x else y)
picked_short true x y first second = first
picked_short false x y first second = second

bound_short : (binds : List Bind) (symbol : List ℕ) → AreShortBinds binds → FoundShort (bound binds symbol)
bound_short [] symbol short = tt
bound_short (bind ∷ binds) symbol short = picked_short (same_name bind.symbol symbol) (Some bind.value) (bound binds symbol) short.0 (bound_short binds symbol short.1)

-- an item is no list
scalar_short : (x : Scalar) → IsShortValue (value_of x)
scalar_short scalar.Nothing = tt
scalar_short (scalar.Truth truth) = tt
scalar_short (scalar.Int number) = tt
scalar_short (scalar.Text text) = tt

mapped_short : (o : Option Scalar) → FoundShort (option_map value_of o)
mapped_short None = tt
mapped_short (Some x) = scalar_short x

item_short : (v : Val) (k : ℕ) → FoundShort (item_at v k)
item_short (value.List scalars) k = mapped_short (slice_get scalars k)
item_short value.Nothing k = tt
item_short (value.Truth truth) k = tt
item_short (value.Int number) k = tt
item_short (value.Text text) k = tt

part_short : (names : List (List ℕ)) (v : Val) (symbol : List ℕ) (k : ℕ) → FoundShort (part_given names v symbol k)
part_short [] v symbol k = tt
part_short (name ∷ names) v symbol k = picked_short (same_name name symbol) (item_at v k) (part_given names v symbol (suc k)) (item_short v k) (part_short names v symbol (suc k))

result_short : (gives : Provides) (v : Val) (symbol : List ℕ) → IsShortValue v → FoundShort (given_by_result gives v symbol)
result_short provides.Nothing v symbol short = tt
result_short (provides.Whole name) v symbol short = picked_short (same_name name symbol) (Some v) None short tt
result_short (provides.Parts names) v symbol short = part_short names v symbol 0

payload_short : (gives : Provides) (p : Payload) (symbol : List ℕ) → IsShortPayload p → FoundShort (given_by_payload gives p symbol)
payload_short gives (payload.Value v) symbol short = result_short gives v symbol short
payload_short gives payload.Empty symbol short = tt
payload_short gives (payload.Fault fault) symbol short = tt

given_short : (plan : Outline) (s : Snapshot) (symbol : List ℕ) (b : ℕ) → ShowsShort s → FoundShort (given_by plan s symbol b)
given_short plan s symbol b shows =
    picked_short (is_success (s.state b)) (given_by_payload (provides_of plan b) (s.payload b) symbol) None (payload_short (provides_of plan b) (s.payload b) symbol (shows b)) tt

first_short : (plan : Outline) (s : Snapshot) (symbol : List ℕ) (xs : List ℕ) → ShowsShort s → FoundShort (first_some (given_by plan s symbol) xs)
first_short plan s symbol [] shows = tt
first_short plan s symbol (x ∷ xs) shows = either_short (given_by plan s symbol x) (first_some (given_by plan s symbol) xs) (given_short plan s symbol x shows) (first_short plan s symbol xs shows)

symbol_short : (plan : Outline) (s : Snapshot) (y : ℕ) (symbol : List ℕ) → IsWithinLimits plan → ShowsShort s → FoundShort (symbol_value plan s y symbol)
unfolding symbol_value
symbol_short plan s y symbol limits shows =
    either_short (bound (injects plan y) symbol) _ (bound_short (injects plan y) symbol (limits.injects y))
    (either_short (bound plan.store symbol) (first_some (given_by plan s symbol) (members plan y)) (bound_short plan.store symbol limits.store) (first_short plan s symbol (members plan y) shows))

-- ---- what an atom is given

abbrev pub ArgumentsShort : List Pair → Type 0
ArgumentsShort [] = Unit {0}
ArgumentsShort (argument ∷ others) = IsShortValue argument.value × ArgumentsShort others

abbrev pub GivenShort : Given → Type 0
GivenShort (given.Missing symbol) = Unit {0}
GivenShort (given.Found arguments) = ArgumentsShort arguments

with_short : (arg : Arg) (v : Val) (others : Given) → IsShortValue v → GivenShort others → GivenShort (with_argument arg v others)
with_short arg v (given.Found others) short rest = (short, rest)
with_short arg v (given.Missing symbol) short rest = tt

or_missing_short : (arg : Arg) (o : Option Val) (others : Given) → FoundShort o → GivenShort others → GivenShort (or_missing arg o others)
or_missing_short arg None others short rest = tt
or_missing_short arg (Some v) others short rest = with_short arg v others short rest

arguments_short : (plan : Outline) (s : Snapshot) (a : ℕ) (args : List Arg) → IsWithinLimits plan → ShowsShort s → GivenShort (given_arguments plan s a args)
arguments_short plan s a [] limits shows = tt
arguments_short plan s a (arg ∷ args) limits shows =
    or_missing_short arg (symbol_value plan s a arg.symbol) (given_arguments plan s a args) (symbol_short plan s a arg.symbol limits shows) (arguments_short plan s a args limits shows)

pub executes_short : (plan : Outline) (s : Snapshot) (a : ℕ) → IsWithinLimits plan → ShowsShort s → GivenShort (given_for plan s a action.Execute)
executes_short plan s a limits shows = arguments_short plan s a (arguments plan a) limits shows

pub named_short : (pairs : List Pair) (name : List ℕ) → ArgumentsShort pairs → FoundShort (argument_named pairs name)
named_short [] name short = tt
named_short (argument ∷ others) name short = picked_short (same_name argument.name name) (Some argument.value) (argument_named others name) short.0 (named_short others name short.1)

-- ---- of a history

held_short : (to : AtomState) (carried : Payload) (from : AtomState) (before : Payload) → IsShortPayload carried → IsShortPayload before → IsShortPayload (held_after to carried from before)
held_short atom.Retrying carried from before new old = old
held_short atom.Running carried atom.Retrying before new old = old
held_short to carried from before new old = new

kept_short : (b : Bool) (p q : Payload) → IsShortPayload p → IsShortPayload q → IsShortPayload (if b then p else q)
kept_short true p q first second = first
kept_short false p q first second = second

after_short : (w : What) (a : ℕ) (was : AtomState) (before : Payload) → IsShortEvent w → IsShortPayload before → IsShortPayload (payload_after w a was before)
after_short (what.Atom entered to carried) a was before short old = kept_short (nat_eq entered a) (held_after to carried was before) before (held_short to carried was before short old) old
after_short (what.Flow state) a was before short old = old
after_short (what.Resolve named resolved) a was before short old = old
after_short (what.Restart again) a was before short old = old

-- one entry more
pub later_short : (plan : Outline) (e : Entry) (s : Snapshot) → IsShortEvent e.what → ShowsShort s → ShowsShort (later plan e s)
unfolding later
later_short plan e s short shows a = after_short e.what a (s.state a) (s.payload a) short (shows a)

past_short : (past : List Entry) (a : ℕ) → AreShort past → IsShortPayload (payload_of past a)
past_short [] a short = tt
past_short (e ∷ past) a short = after_short e.what a (state_of past a) (payload_of past a) short.0 (past_short past a short.1)

pub shows_short : (plan : Outline) (past : List Entry) → AreShort past → ShowsShort (snapshot plan past)
unfolding snapshot
shows_short plan past short a = past_short past a short

-- entries after others
pub both_short : (newer past : List Entry) → AreShort newer → AreShort past → AreShort (newer ++ past)
both_short [] past first second = second
both_short (e ∷ newer) past first second = (first.0, both_short newer past first.1 second)

pub part_of_short : (newer past : List Entry) → AreShort (newer ++ past) → AreShort past
part_of_short [] past short = short
part_of_short (e ∷ newer) past short = part_of_short newer past short.1

-- a value within the limits of values
pub value_short : (v : Val) → IsValue v → IsShortValue v
value_short value.Nothing is = tt
value_short (value.Truth truth) is = tt
value_short (value.Int number) is = tt
value_short (value.Text text) is = tt
value_short (value.List scalars) is = leb-true (length scalars) 1024 (and_first (nat_le (length scalars) 1024) _ is.0)
