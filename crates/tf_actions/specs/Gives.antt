-- Which outcomes an order may have, on this machine and on another; and which orders there are.
use Rattle.std.specs.Prelude.{◌≡◌, pos, List, true, Some, codes, ◌⊎◌, Bool, false, ◌≤◌, length, [], ◌∷◌, ◌++◌, Option, option_map}
use Rattle.tf_values.specs.declared.value.Val.{Val}
use Rattle.tf_values.specs.declared.value.Val.TheVariants as value
use Rattle.tf_values.specs.Text.{is_text}
use Rattle.tf_states.specs.declared.record.Failure.{Failure}
use Rattle.tf_states.specs.declared.record.Failure.TheVariants as failure
use Rattle.tf_flow.specs.declared.atoms.TaskKind.{TaskKind}
use Rattle.tf_flow.specs.declared.atoms.TaskKind.TheVariants as kind
use Rattle.tf_flow.specs.declared.atoms.Undo.{Undo}
use Rattle.tf_flow.specs.declared.atoms.Undo.TheVariants as undo
use Rattle.tf_actions.specs.declared.orders.Given.{Given}
use Rattle.tf_actions.specs.declared.orders.Given.TheVariants as given
use Rattle.tf_actions.specs.declared.orders.Order.{Order}
use Rattle.tf_actions.specs.declared.orders.Pair.{Pair}
use Rattle.tf_actions.specs.declared.outcomes.Action.{Action}
use Rattle.tf_actions.specs.declared.outcomes.Action.TheVariants as action
use Rattle.tf_actions.specs.declared.outcomes.Outcome.{Outcome}
use Rattle.tf_actions.specs.declared.outcomes.Outcome.TheVariants as outcome
use Rattle.tf_actions.specs.Built.{built}
use Rattle.tf_flow.specs.Rules.{least_arguments, has_wrong_words, runs_nothing}

-- ---- which outcomes an order may have

-- a program fails where it couldn't be run, ended with a status that isn't 0, or wrote too much or no text
abbrev pub IsProgramFailure : Failure → Type 0
IsProgramFailure failure.Spawn = Unit {0}
IsProgramFailure (failure.Exit status) = ¬ (status ≡ pos 0)
IsProgramFailure failure.TooLong = Unit {0}
IsProgramFailure failure.NotText = Unit {0}
IsProgramFailure other = ⊥

-- the value is a text of at most 65,536 bytes
abbrev pub IsTextValue : Val → Type 0
IsTextValue (value.Text text) = is_text text ≡ true
IsTextValue other = ⊥

-- a command gives a text, or fails as a program does
abbrev pub GivesText : Outcome → Type 0
GivesText (outcome.Gave result) = IsTextValue result
GivesText (outcome.Failed fault) = IsProgramFailure fault

-- a program that undoes gives nothing, or fails as a program does
abbrev pub GivesNothing : Outcome → Type 0
GivesNothing (outcome.Gave result) = result ≡ value.Nothing
GivesNothing (outcome.Failed fault) = IsProgramFailure fault

-- what a task that is executed may give: a built-in task gives one outcome
abbrev pub GivesExecuted : TaskKind → List Pair → Outcome → Type 0
GivesExecuted kind.Command pairs given = GivesText given
GivesExecuted other pairs given = built other pairs ≡ Some given

-- what a task that is reverted may give
abbrev pub GivesReverted : Undo → Outcome → Type 0
GivesReverted undo.Pass given = given ≡ outcome.Gave value.Nothing
GivesReverted undo.Fail given = given ≡ outcome.Failed (failure.Raised (codes "revert"))
GivesReverted (undo.Run words) given = GivesNothing given

-- what an action with its arguments may give; a missing symbol is looked up in vain
abbrev pub GivesFor : Action → Order → Given → Outcome → Type 0
GivesFor action.Execute order (given.Found pairs) result = GivesExecuted order.kind pairs result
GivesFor action.Revert order (given.Found pairs) result = GivesReverted order.undo result
GivesFor how order (given.Missing symbol) result = result ≡ outcome.Failed (failure.Lookup symbol)

-- the outcome relation: what an order may give
abbrev pub Gives : Order → Outcome → Type 0
Gives order result = GivesFor order.action order order.given result

-- ---- which outcomes an order may have where the hand is on another machine: the outcome relation of a remote hand

-- the undo runs a program
abbrev pub runs_program : Undo → Bool
runs_program (undo.Run words) = true
runs_program other = false

-- an action with what is given, and with that undo, is asked of the worker: an execution whose arguments were found,
-- and a revert that runs a program; every other order the hand answers itself
abbrev pub is_sent_so : Action → Given → Undo → Bool
is_sent_so action.Execute (given.Found pairs) undoes = true
is_sent_so action.Execute (given.Missing symbol) undoes = false
is_sent_so action.Revert found undoes = runs_program undoes

abbrev pub is_sent : Order → Bool
is_sent order = is_sent_so order.action order.given order.undo

-- the worker was lost, or its reply was no reply
abbrev pub is_far_failure : Outcome → Bool
is_far_failure (outcome.Failed failure.Lost) = true
is_far_failure (outcome.Failed (failure.BadReply count)) = true
is_far_failure other = false

-- an order that is sent may fail so
pub record FailsFar (order : Order) (came : Outcome) : Type 0 where
  pub sent : is_sent order ≡ true
  pub failed : is_far_failure came ≡ true

-- the outcome relation of a remote hand: what the order may give anywhere, or, where it is sent, that the worker was
-- lost or replied badly
abbrev pub GivesFar : Order → Outcome → Type 0
GivesFar order came = Gives order came ⊎ FailsFar order came

-- ---- orders that a performer can be asked for

-- an undo has at most 64 words
abbrev pub HasFewWords : Undo → Type 0
HasFewWords undo.Pass = Unit {0}
HasFewWords undo.Fail = Unit {0}
HasFewWords (undo.Run words) = length words ≤ 64

-- there are at most 64 arguments, and to execute at least those that the kind takes; a revert has its arguments
abbrev pub IsGivenEnough : Action → TaskKind → Given → Type 0
IsGivenEnough action.Execute kind (given.Found pairs) = (least_arguments kind ≤ length pairs) × (length pairs ≤ 64)
IsGivenEnough action.Execute kind (given.Missing symbol) = Unit {0}
IsGivenEnough action.Revert kind (given.Found pairs) = length pairs ≤ 64
IsGivenEnough action.Revert kind (given.Missing symbol) = ⊥

-- a command, and an undo that runs a program, have a word; other kinds have none; and no list has more than 64
pub record IsWhole (order : Order) : Type 0 where
  pub words : has_wrong_words order.kind order.words ≡ false
  pub few_words : length order.words ≤ 64
  pub undo : runs_nothing order.undo ≡ false
  pub few_undo_words : HasFewWords order.undo
  pub given : IsGivenEnough order.action order.kind order.given

-- ---- lists of what an object was asked for, where it keeps them

-- one more at the end; None, which tells nothing, stays None
abbrev pub told_with : {X : Type 0} → Option (List X) → X → Option (List X)
told_with told x = option_map (λ xs. xs ++ x ∷ []) told
