-- A session while it goes on.
use Rattle.std.specs.Prelude.{◌≡◌, ℕ, ◌≤◌, List, [], ◌∷◌, map, length}
use Rattle.std.specs.List.{AllByRecursion}
use Rattle.tf_numbers.specs.Numbers.{Rises}
use Rattle.tf_actions.specs.declared.orders.Order.{Order}
use Rattle.tf_actions.specs.declared.outcomes.Outcome.{Outcome}
use Rattle.tf_wire.specs.Grammar.{AreRequest}
use Rattle.tf_wire.specs.declared.messages.Request.{Request}
use Rattle.tf_sessions.specs.Receiving.{IsStill}
use Rattle.tf_sessions.specs.Talks.{Stands, SendsAll, SendsPart}
use Rattle.tf_sessions.specs.declared.incoming.Incoming.{Incoming}
use Rattle.tf_workers.specs.Session.{Exchange, order_asked, running, reply, replies, Seen, did_with, AreRead, MayBeGiven, SpellsNone}
use Rattle.tf_workers.specs.declared.answering.Stop.{Stop}
use Rattle.tf_workers.specs.declared.answering.Stop.TheVariants as stop

-- every frame that was taken was answered, as an exchange, and the next one stands at its place
pub record HasAnsweredAll (gives : Order → Outcome → Type 0) (before now : Seen) (incoming : Incoming) : Type 0 where
  pub taken : List (List ℕ)
  pub exchanges : List Exchange
  pub read : AreRead taken exchanges
  pub gave : AllByRecursion (MayBeGiven gives) exchanges
  pub did : now.did ≡ did_with before.did (map order_asked exchanges)
  pub stands : Stands before.link now.link taken (replies exchanges) incoming

-- a frame was answered
pub record Answers (gives : Order → Outcome → Type 0) (frame : List ℕ) (before now : Seen) : Type 0 where
  pub exchange : Exchange
  pub read : AreRequest frame exchange.request
  pub gave : MayBeGiven gives exchange
  pub did : now.did ≡ did_with before.did (order_asked exchange ∷ [])
  pub says : SendsAll (reply exchange) before.link now.link

-- how far the answer to a frame came: nothing was said; it was begun; or the order was performed
pub data HasComeTo (gives : Order → Outcome → Type 0) (frame : List ℕ) (before now : Seen) : Type 0 where
  nothing : now.did ≡ before.did → IsStill before.link now.link → HasComeTo gives frame before now
  begun : (request : Request) → AreRequest frame request → now.did ≡ before.did
      → SendsPart (running request) before.link now.link → HasComeTo gives frame before now
  performed : (exchange : Exchange) → AreRequest frame exchange.request → MayBeGiven gives exchange
      → now.did ≡ did_with before.did (order_asked exchange ∷ [])
      → (part : SendsPart (reply exchange) before.link now.link)
      → length (running exchange.request) ≤ part.passed.count → HasComeTo gives frame before now

-- a frame that spells no request
pub record IsNoRequest (frame : List ℕ) (before now : Seen) : Type 0 where
  pub spells_none : SpellsNone frame
  pub did : now.did ≡ before.did
  pub still : IsStill before.link now.link

-- why a frame wasn't answered: it spells no request, the link failed, or memory ran out
abbrev pub StopsFor : (Order → Outcome → Type 0) → List ℕ → Seen → Seen → Stop → Type 0
StopsFor gives frame before now stop.Bad = IsNoRequest frame before now
StopsFor gives frame before now stop.Lost =
    HasComeTo gives frame before now × Rises before.link.faults now.link.faults
StopsFor gives frame before now stop.Memory = HasComeTo gives frame before now
