-- One more at the end: of exchanges, orders and replies.
use Rattle.std.proofs.Common.{◌≡◌, ℕ, ◌+◌, ◌≤◌, List, [], ◌∷◌, ◌++◌, length, map, Option, Some, None, refl, sym, ap, ◌∙◌, arith, append_assoc, append-nil, length-append}
use Rattle.std.proofs.lemmas.List.{map-append}
use Rattle.tf_actions.specs.declared.orders.Order.{Order}
use Rattle.tf_wire.specs.Grammar.{response_data, frame_of, AreRequest}
use Rattle.tf_wire.specs.declared.messages.Response.{Response}
use Rattle.tf_sessions.specs.Talks.{all_said}
use Rattle.tf_workers.specs.Session.{Exchange, order_asked, spoken, told, running, reply, replies, up_to_running, did_with, AreRead}

pub replies_more : (exchanges : List Exchange) (exchange : Exchange) → replies (exchanges ++ exchange ∷ []) ≡ replies exchanges ++ reply exchange ∷ []
replies_more exchanges exchange = map-append reply exchanges (exchange ∷ [])

pub read_more : (frames : List (List ℕ)) (exchanges : List Exchange) (frame : List ℕ) (exchange : Exchange) → AreRead frames exchanges → AreRequest frame exchange.request → AreRead (frames ++ frame ∷ []) (exchanges ++ exchange ∷ [])
read_more [] [] frame exchange read one = (one, tt)
read_more [] (e ∷ exchanges) frame exchange read one = absurd read
read_more (f ∷ frames) [] frame exchange read one = absurd read
read_more (f ∷ frames) (e ∷ exchanges) frame exchange read one = (read.0, read_more frames exchanges frame exchange read.1 one)

orders_more : (exchanges : List Exchange) (exchange : Exchange) → map order_asked (exchanges ++ exchange ∷ []) ≡ map order_asked exchanges ++ order_asked exchange ∷ []
orders_more [] exchange = refl
orders_more (e ∷ exchanges) exchange = ap (λ (orders : List Order). order_asked e ∷ orders) (orders_more exchanges exchange)

did_on : (did : Option (List Order)) (first second : List Order) → did_with (did_with did first) second ≡ did_with did (first ++ second)
did_on None first second = refl
did_on (Some orders) first second = ap Some (append_assoc orders first second)

-- the orders of one exchange more
pub did_more : (before now after : Option (List Order)) (exchanges : List Exchange) (exchange : Exchange)
    → now ≡ did_with before (map order_asked exchanges) → after ≡ did_with now (order_asked exchange ∷ []) → after ≡ did_with before (map order_asked (exchanges ++ exchange ∷ []))
did_more before now after exchanges exchange is more =
    more ∙ ap (λ (did : Option (List Order)). did_with did (order_asked exchange ∷ [])) is ∙ did_on before (map order_asked exchanges) (order_asked exchange ∷ []) ∙ ap (did_with before) (sym (orders_more exchanges exchange))

-- what is sent before the last outcome is a part of the whole dialogue
pub running_short : (exchanges : List Exchange) → length (up_to_running exchanges) ≤ length (all_said (replies exchanges))
running_short [] = omega arith
running_short (last ∷ []) = omega (arith, length-append (reply last) [], length-append (running last.request) (spoken (told last.request.id last.outcome)))
running_short (first ∷ (next ∷ others)) = omega (arith, running_short (next ∷ others), length-append (reply first) (up_to_running (next ∷ others)), length-append (reply first) (all_said (replies (next ∷ others))))

-- and is the dialogue before the last exchange, and that its order runs
pub running_more : (exchanges : List Exchange) (exchange : Exchange) → length (up_to_running (exchanges ++ exchange ∷ [])) ≡ length (all_said (replies exchanges)) + length (running exchange.request)
running_more [] exchange = omega arith
running_more (last ∷ []) exchange = omega (arith, length-append (reply last) (running exchange.request), length-append (reply last) [])
running_more (first ∷ (next ∷ others)) exchange =
    omega (arith, running_more (next ∷ others) exchange, length-append (reply first) (up_to_running ((next ∷ others) ++ exchange ∷ [])), length-append (reply first) (all_said (replies (next ∷ others))))

-- no order so far
pub did_none : (did : Option (List Order)) → did ≡ did_with did []
did_none None = refl
did_none (Some orders) = ap Some (sym (append-nil orders))

-- what is printed of a response is its frame
pub printed : (answer : Response) (bytes out empty : List ℕ) → bytes ≡ out → out ≡ empty ++ frame_of (response_data answer) → empty ≡ [] → bytes ≡ spoken answer
unfolding spoken
printed answer bytes out empty same is none = same ∙ is ∙ ap (λ (prefix : List ℕ). prefix ++ frame_of (response_data answer)) none
