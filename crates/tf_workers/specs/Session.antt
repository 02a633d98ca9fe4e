-- What a worker answers: one exchange for each request. A session: what was read and answered of what a link gave, and
-- how it ended.
use Rattle.std.specs.Prelude.{ℕ, List, [], ◌∷◌, ◌++◌, ◌≡◌, ◌≤◌, map, length, Option, Some, None, option_map, ◌⊎◌}
use Rattle.std.specs.List.{AllByRecursion}
use Rattle.tf_actions.specs.declared.orders.Order.{Order}
use Rattle.tf_actions.specs.declared.outcomes.Outcome.{Outcome}
use Rattle.tf_wire.specs.Grammar.{response_data, frame_of, order_of, AreRequest}
use Rattle.tf_wire.specs.declared.messages.Request.{Request}
use Rattle.tf_wire.specs.declared.messages.Response.{Response}
use Rattle.tf_numbers.specs.Numbers.{Rises}
use Rattle.tf_ports.specs.Ports.{SeenLink, seen_link}
use Rattle.tf_ports.specs.Transcript.{Passed}
use Rattle.tf_sessions.specs.Talks.{Talk, TalkEndsAs, BeginsWithFrameSo}
use Rattle.tf_sessions.specs.declared.incoming.ServeEnd.{ServeEnd}
use Rattle.tf_actions.specs.declared.outcomes.Outcome.TheVariants as outcome
use Rattle.tf_wire.specs.declared.messages.Response.TheVariants as response
use Rattle.tf_sessions.specs.declared.incoming.ServeEnd.TheVariants as end

-- a request, and the outcome of the order that it names
pub record Exchange : Type 0 where
  pub request : Request
  pub outcome : Outcome

-- the order that the request of an exchange names
abbrev pub order_asked : Exchange → Order
order_asked exchange = order_of exchange.request

-- a response as its frame
unfoldable pub spoken : Response → List ℕ
spoken answer = frame_of (response_data answer)

-- the response that tells an outcome
abbrev pub told : ℕ → Outcome → Response
told id (outcome.Gave result) = response.Success id result
told id (outcome.Failed fault) = response.Failure id fault

-- the frame that says that the order of a request runs
abbrev pub running : Request → List ℕ
running request = spoken (response.Running request.id)

-- the whole reply: that the order runs, and then its outcome
abbrev pub reply : Exchange → List ℕ
reply exchange = running exchange.request ++ spoken (told exchange.request.id exchange.outcome)

-- the replies in order
abbrev pub replies : List Exchange → List (List ℕ)
replies exchanges = map reply exchanges

-- the replies in order, the last one without its outcome: what is sent before the hand is asked for the last order
abbrev pub up_to_running : List Exchange → List ℕ
up_to_running [] = []
up_to_running (last ∷ []) = running last.request
up_to_running (first ∷ (next ∷ others)) = reply first ++ up_to_running (next ∷ others)

-- what is seen of a link and a hand: what the link tells, and the hand's orders, None where it doesn't tell them
pub record Seen : Type 0 where
  pub link : SeenLink
  pub did : Option (List Order)

abbrev pub seen : {L P : Type 0} → (L → Option (List ℕ)) → (L → List Passed) → (L → ℕ) → (L → ℕ)
    → (P → Option (List Order)) → L → P → Seen
seen left transcript faults ends did link hand =
    record { link = seen_link left transcript faults ends link; did = did hand }

-- more orders at the end; None, which tells nothing, stays None
abbrev pub did_with : Option (List Order) → List Order → Option (List Order)
did_with did orders = option_map (λ before. before ++ orders) did

-- each frame spells the request of its exchange
abbrev pub AreRead : List (List ℕ) → List Exchange → Type 0
AreRead [] [] = Unit {0}
AreRead [] (exchange ∷ exchanges) = ⊥
AreRead (frame ∷ frames) [] = ⊥
AreRead (frame ∷ frames) (exchange ∷ exchanges) = AreRequest frame exchange.request × AreRead frames exchanges

-- the hand may give the outcome for the order that the request names
abbrev pub MayBeGiven : (Order → Outcome → Type 0) → Exchange → Type 0
MayBeGiven gives exchange = gives (order_asked exchange) exchange.outcome

-- the frame spells no request
abbrev pub SpellsNone : List ℕ → Type 0
SpellsNone frame = (request : Request) → ¬ (AreRequest frame request)

-- the request at the front was begun, or none was
abbrev pub IsBegun : List ℕ → Option Request → Type 0
IsBegun bytes None = Unit {0}
IsBegun bytes (Some request) = BeginsWithFrameSo (λ frame. AreRequest frame request) bytes

-- what is said to a request that was begun
abbrev pub begun_reply : Option Request → List ℕ
begun_reply None = []
begun_reply (Some request) = running request

-- The link gave some bytes. Of the frames at their front some were read as requests, and the hand was asked for the
-- orders that these name, each once and in order. At most one request behind them was read besides, to which no outcome
-- came. The link was sent a prefix of the replies, each before more came: whole up to where it says that the last order
-- of which the hand was asked runs.
pub record WorkerSession (gives : Order → Outcome → Type 0) (before now : Seen) : Type 0 where
  pub frames : List (List ℕ)
  pub exchanges : List Exchange
  pub read : AreRead frames exchanges
  pub gave : AllByRecursion (MayBeGiven gives) exchanges
  pub did : now.did ≡ did_with before.did (map order_asked exchanges)
  pub begun : Option Request
  pub talk : Talk before.link now.link frames (replies exchanges) (begun_reply begun)
  pub is_begun : IsBegun talk.behind begun
  pub said_running : length (up_to_running exchanges) ≤ talk.count

-- every request that was read was answered, unless the link failed or memory ran out
abbrev pub IsAnsweredAt : ServeEnd → (failed : Type 0) → Option Request → Type 0
IsAnsweredAt end.Ended failed begun = begun ≡ None
IsAnsweredAt end.Lost failed begun = failed ⊎ (begun ≡ None)
IsAnsweredAt (end.Bad at) failed begun = begun ≡ None
IsAnsweredAt end.Memory failed begun = Unit {0}

-- what serving a link promises; no count falls
pub record Serves (gives : Order → Outcome → Type 0) (before now : Seen) (how : ServeEnd) : Type 0 where
  pub session : WorkerSession gives before now
  pub ends_as : TalkEndsAs SpellsNone how session.talk
  pub answered : IsAnsweredAt how (Rises before.link.faults now.link.faults) session.begun
