-- What a remote hand asks of its worker.
use Rattle.std.specs.Prelude.{ℕ, ◌+◌, ◌-◌, ◌^◌, min, List, []}
use Rattle.tf_flow.specs.declared.atoms.TaskKind.{TaskKind}
use Rattle.tf_flow.specs.declared.atoms.TaskKind.TheVariants as kind
use Rattle.tf_flow.specs.declared.atoms.Undo.{Undo}
use Rattle.tf_flow.specs.declared.atoms.Undo.TheVariants as undo
use Rattle.tf_actions.specs.declared.orders.Given.{Given}
use Rattle.tf_actions.specs.declared.orders.Given.TheVariants as given
use Rattle.tf_actions.specs.declared.orders.Order.{Order}
use Rattle.tf_actions.specs.declared.orders.Pair.{Pair}
use Rattle.tf_actions.specs.declared.outcomes.Action.{Action}
use Rattle.tf_actions.specs.declared.outcomes.Action.TheVariants as action
use Rattle.tf_wire.specs.Grammar.{request_data, frame_of}
use Rattle.tf_wire.specs.declared.messages.Request.{Request}

-- the kind that is asked for: what undoes a task is a command
abbrev pub kind_asked : Action → TaskKind → TaskKind
kind_asked action.Execute made = made
kind_asked action.Revert made = kind.Command

-- the words of the command that undoes
abbrev pub words_to_undo : Undo → List (List ℕ)
words_to_undo (undo.Run words) = words
words_to_undo other = []

-- the words that are sent
abbrev pub words_asked : Action → List (List ℕ) → Undo → List (List ℕ)
words_asked action.Execute words undoes = words
words_asked action.Revert words undoes = words_to_undo undoes

-- the arguments that are sent
abbrev pub pairs_asked : Given → List Pair
pairs_asked (given.Found pairs) = pairs
pairs_asked (given.Missing symbol) = []

-- the request of that id that names the order
abbrev pub request_for : Order → ℕ → Request
request_for order id = record {
  id = id;
  action = order.action;
  kind = kind_asked order.action order.kind;
  words = words_asked order.action order.words order.undo;
  args = pairs_asked order.given;
}

-- its frame
unfoldable pub frame_for : Order → ℕ → List ℕ
frame_for order id = frame_of (request_data (request_for order id))

-- the id of the request after the one of that id: a reader takes ids of 63 bits
abbrev pub next_id : ℕ → ℕ
next_id id = min (id + 1) (2 ^ 63 - 1)
