-- What the types of messages keep: texts, names, values and numbers within their limits.
use Rattle.std.specs.Prelude.{◌≡◌, ℕ, ◌<◌, ◌^◌, List, true, FitsSigned}
use Rattle.std.specs.Int.{w32}
use Rattle.std.specs.List.{AllByRecursion}
use Rattle.tf_values.specs.Text.{is_name, is_text}
use Rattle.tf_values.specs.Value.{IsValue}
use Rattle.tf_states.specs.declared.record.Failure.{Failure}
use Rattle.tf_states.specs.declared.record.Failure.TheVariants as failure
use Rattle.tf_actions.specs.declared.orders.Pair.{Pair}
use Rattle.tf_wire.specs.declared.messages.Request.{Request}
use Rattle.tf_wire.specs.declared.messages.Response.{Response}
use Rattle.tf_wire.specs.declared.messages.Response.TheVariants as response

-- a word
abbrev pub IsWord : List ℕ → Type 0
IsWord word = is_text word ≡ true

-- an argument
abbrev pub IsArgument : Pair → Type 0
IsArgument pair = (is_name pair.name ≡ true) × IsValue pair.value

-- a failure
abbrev pub IsFailure : Failure → Type 0
IsFailure (failure.Raised text) = is_text text ≡ true
IsFailure (failure.WrongKind name) = is_name name ≡ true
IsFailure failure.Overflow = Unit {0}
IsFailure failure.Range = Unit {0}
IsFailure failure.TooLong = Unit {0}
IsFailure (failure.Lookup name) = is_name name ≡ true
IsFailure (failure.Exit status) = FitsSigned w32 status
IsFailure failure.Spawn = Unit {0}
IsFailure failure.NotText = Unit {0}
IsFailure failure.Lost = Unit {0}
IsFailure (failure.BadReply count) = count < 2 ^ 32
IsFailure failure.Exhausted = Unit {0}

-- the id, the words and the arguments of a request
pub record HasParts (request : Request) : Type 0 where
  pub id : request.id < 2 ^ 64
  pub words : AllByRecursion IsWord request.words
  pub args : AllByRecursion IsArgument request.args

-- what a response tells
abbrev pub HasPart : Response → Type 0
HasPart (response.Running id) = id < 2 ^ 64
HasPart (response.Success id result) = (id < 2 ^ 64) × IsValue result
HasPart (response.Failure id fault) = (id < 2 ^ 64) × IsFailure fault

-- the id of a response
abbrev pub id_in : Response → ℕ
id_in (response.Running id) = id
id_in (response.Success id result) = id
id_in (response.Failure id fault) = id
