-- How a remote hand asks its worker.
use Rattle.std.specs.Prelude.{◌≡◌, ◌≢◌, ◌↔◌, ℕ, List, [], ◌++◌, true, Some, Result, IfOk}
use Rattle.serde_json.specs.Written.{compact_text}
use Rattle.tf_numbers.specs.Numbers.{Rises}
use Rattle.tf_ports.specs.Ports.{SeenLink}
use Rattle.tf_ports.specs.Transcript.{Passed, sent_with, SendsPrefix}
use Rattle.tf_states.specs.declared.record.Failure.TheVariants as failure
use Rattle.tf_actions.specs.Gives.{Gives, is_sent}
use Rattle.tf_actions.specs.declared.orders.Order.{Order}
use Rattle.tf_actions.specs.declared.outcomes.Outcome.{Outcome}
use Rattle.tf_actions.specs.declared.outcomes.Outcome.TheVariants as outcome
use Rattle.tf_wire.specs.Limits.{HasPart}
use Rattle.tf_wire.specs.Grammar.{request_data, response_data, names_differ, AreRequest, AreResponse, order_of}
use Rattle.tf_wire.specs.declared.messages.Response.{Response}
use Rattle.tf_wire.specs.declared.messages.Response.TheVariants as response
use Rattle.tf_workers.specs.Session.{Exchange, reply, told}
use Rattle.tf_remote.specs.Received.{Brings, IsGone}
use Rattle.tf_remote.specs.Replies.{IsReply, IsTakenFor}
use Rattle.tf_remote.specs.Requests.{pairs_asked, request_for, frame_for}

-- what the link was sent: the whole frame of the request, or, where the worker is lost, a prefix of it
abbrev pub IsSentFor : List ℕ → List Passed → List Passed → Outcome → Type 0
IsSentFor frame before now (outcome.Failed failure.Lost) = SendsPrefix before frame now
IsSentFor frame before now came = now ≡ sent_with before frame

-- some bytes came only where the whole frame had been sent before
abbrev pub IsWholeFirst : List ℕ → List Passed → List Passed → List ℕ → Type 0
IsWholeFirst frame before asked bytes = bytes ≢ [] → asked ≡ sent_with before frame

-- An order was asked of the worker. First the frame of its request was sent; so much had passed when it was asked. Then
-- the link gave some bytes, and nothing more was sent. The outcome is what these bytes are taken for.
pub record AsksWorker (order : Order) (id : ℕ) (before now : SeenLink) (came : Outcome) : Type 0 where
  pub asked : List Passed
  pub sent : IsSentFor (frame_for order id) before.transcript asked came
  pub bytes : List ℕ
  pub brings : Brings bytes (record before { transcript = asked }) now
  pub whole_first : IsWholeFirst (frame_for order id) before.transcript asked bytes
  pub taken_for : IsTakenFor order id (IsGone before now) bytes came

-- an order that is sent, and whose worker was lost
pub record IsLostOnTheWay (order : Order) (came : Outcome) : Type 0 where
  pub sent : is_sent order ≡ true
  pub lost : came ≡ outcome.Failed failure.Lost

-- memory ran out while an order was asked: first a prefix of the frame was sent, and then some bytes came
pub record RunsOutAsking (order : Order) (id : ℕ) (before now : SeenLink) : Type 0 where
  pub asked : List Passed
  pub sent : SendsPrefix before.transcript (frame_for order id) asked
  pub bytes : List ℕ
  pub brings : Brings bytes (record before { transcript = asked }) now
  pub whole_first : IsWholeFirst (frame_for order id) before.transcript asked bytes

-- the bytes of the frame behind its length are the request, where no argument's name stands twice
unfoldable pub IsRequestBack : Order → ℕ → Type 0
IsRequestBack order id =
    names_differ (pairs_asked order.given) ≡ true
    → AreRequest (compact_text (request_data (request_for order id))) (request_for order id)

-- whoever performs the order that the request names may give what the order itself may give, and nothing else
abbrev pub NamesOrder : Order → ℕ → Type 0
NamesOrder order id = (came : Outcome) → Gives (order_of (request_for order id)) came ↔ Gives order came

-- the link doesn't fail, and what it has left begins with these bytes
pub record HoldsReply (bytes behind : List ℕ) (before now : SeenLink) : Type 0 where
  pub left : before.left ≡ Some (bytes ++ behind)
  pub works : ¬ (Rises before.faults now.faults)

-- this outcome, or want of memory; and where it is the outcome, exactly these bytes are left
abbrev pub IsReplied : {E : Type 0} → List ℕ → Outcome → SeenLink → Result Outcome E → Type 0
IsReplied {E} behind came now result = IfOk result (λ outcome. (outcome ≡ came) × (now.left ≡ Some behind))

-- over a link that doesn't fail and holds a whole reply, the outcome is the reply's
abbrev pub TakesReply : {E : Type 0} → Order → ℕ → SeenLink → SeenLink → Result Outcome E → Type 0
TakesReply {E} order id before now result =
    (came : Outcome) (bytes behind : List ℕ) → IsReply order id came bytes → HoldsReply bytes behind before now
    → IsReplied behind came now result

-- the response keeps the limits of its type, and its text is read back as it, as the printer of responses promises of
-- each that it prints
pub record IsReadable (answer : Response) : Type 0 where
  pub part : HasPart answer
  pub reads : AreResponse (compact_text (response_data answer)) answer

-- both responses of an exchange are read back
pub record IsReadableExchange (exchange : Exchange) : Type 0 where
  pub running : IsReadable (response.Running exchange.request.id)
  pub outcome : IsReadable (told exchange.request.id exchange.outcome)

-- over a link that doesn't fail and holds the whole reply of a worker that serves, with an outcome that the order may
-- have, the outcome is the reply's
abbrev pub TakesServed : {E : Type 0} → Order → ℕ → SeenLink → SeenLink → Result Outcome E → Type 0
TakesServed {E} order id before now result =
    (exchange : Exchange) (behind : List ℕ) → exchange.request.id ≡ id → IsReadableExchange exchange
    → Gives order exchange.outcome
    → HoldsReply (reply exchange) behind before now → IsReplied behind exchange.outcome now result
