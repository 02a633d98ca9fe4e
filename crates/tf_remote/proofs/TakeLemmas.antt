-- A link that holds a whole reply gives its outcome.
use Rattle.std.proofs.Common.{◌≡◌, ℕ, List, [], ◌++◌, Option, Some, None, Result, Ok, Err, inl, inr, refl, sym, ap, ◌∙◌, subst, append_assoc, append-nil}
use Rattle.std.specs.Prelude.{MatchResult}
use Rattle.serde_json.specs.Written.{compact_text}
use Rattle.tf_ports.specs.Ports.{SeenLink, left_before, IsNothingLeft}
use Rattle.tf_actions.specs.Gives.{Gives}
use Rattle.tf_actions.specs.declared.orders.Order.{Order}
use Rattle.tf_actions.specs.declared.outcomes.Outcome.{Outcome}
use Rattle.tf_actions.specs.declared.outcomes.Outcome.TheVariants as outcome
use Rattle.tf_wire.proofs.MessageLemmas.{one_response}
use Rattle.tf_wire.proofs.StreamLemmas.{frame_one, frame_is_not_bad}
use Rattle.tf_wire.specs.Grammar.{response_data, AreResponse}
use Rattle.tf_wire.specs.Stream.{IsFrame, framed}
use Rattle.tf_wire.specs.declared.messages.Response.TheVariants as response
use Rattle.tf_workers.specs.Session.{Exchange, spoken, told, running, reply}
use Rattle.tf_remote.specs.Asking.{AsksWorker, RunsOutAsking, HoldsReply, TakesReply, TakesServed, IsReadable, IsReadableExchange}
use Rattle.tf_remote.specs.Received.{IsGone, IsPart}
use Rattle.tf_remote.specs.Replies.{TellsRunning, TellsAny, IsFrameRefused, RunsAndThen, IsOutcomeFrame, IsReply}
use Rattle.tf_remote.proofs.LengthLemmas.{response_fits}
use Rattle.tf_remote.proofs.ReplyLemmas.{IsTaken, cases_of}
use Rattle.tf_remote.proofs.ReplyLemmas.IsTaken.{lost, bad, whole}

-- ---- one frame against another

-- bytes that are refused aren't the front of a stream that begins with a wanted frame
refused_clash : (wanted : List ℕ → Type 0) (bytes rest frame behind : List ℕ) → IsFrame frame → wanted frame → bytes ++ rest ≡ framed frame ++ behind → IsFrameRefused wanted bytes → ⊥
refused_clash wanted bytes rest frame behind is_frame good same refused = elim refused [
  | inl short ↦ frame_is_not_bad frame behind (bytes ++ rest) is_frame same record {
    stated = short.stated;
    behind = rest;
    fits = short.fits;
    is_bad = short.is_bad;
    front = ap (λ (prefix : List ℕ). prefix ++ rest) short.is;
  }
  | inr other ↦
      let one = frame_one other.frame frame rest behind other.is_frame is_frame (ap (λ (prefix : List ℕ). prefix ++ rest) (sym other.is) ∙ same) in
      other.other (subst wanted (sym one.0) good)
]

-- nor is less than a frame, where nothing follows it
part_clash : (bytes rest frame behind : List ℕ) → IsFrame frame → rest ≡ [] → bytes ++ rest ≡ framed frame ++ behind → IsPart bytes → ⊥
part_clash bytes rest frame behind is_frame none same part =
    part.no_frame record { frame = frame; behind = behind; is_frame = is_frame; front = sym (append-nil bytes) ∙ ap (λ (more : List ℕ). bytes ++ more) (sym none) ∙ same }

-- ---- the first frame and what follows, against a reply

-- where the first frame is there, it is the reply's
same_first : (id : ℕ) (next : ℕ → List ℕ → Type 0) (bytes rest first behind : List ℕ) → TellsRunning id first → bytes ++ rest ≡ framed first ++ behind → (one : RunsAndThen id next bytes)
    → one.behind ++ rest ≡ behind
same_first id next bytes rest first behind running same one =
    let spread : framed one.first ++ (one.behind ++ rest) ≡ framed first ++ behind =
    sym (append_assoc (framed one.first) one.behind rest) ∙ ap (λ (prefix : List ℕ). prefix ++ rest) (sym one.is) ∙ same in
    (frame_one one.first first (one.behind ++ rest) behind one.running.is_frame running.is_frame spread).1

-- a response tells one outcome
outcome_told : (id : ℕ) (x y : Outcome) → told id x ≡ told id y → x ≡ y
outcome_told id (outcome.Gave v) (outcome.Gave w) same = cc
outcome_told id (outcome.Gave v) (outcome.Failed fault) same = absurd (cc)
outcome_told id (outcome.Failed fault) (outcome.Gave v) same = absurd (cc)
outcome_told id (outcome.Failed fault) (outcome.Failed other) same = cc

-- ---- the outcome

-- what a reply's bytes are, and what follows them
record Whole (order : Order) (id : ℕ) (came : Outcome) (stream behind : List ℕ) : Type 0 where
  reply : List ℕ
  is_reply : IsReply order id came reply
  is : stream ≡ reply ++ behind

-- the stream, as its two frames and what follows
first_of : (order : Order) (id : ℕ) (came : Outcome) (stream behind : List ℕ) (w : Whole order id came stream behind) → stream ≡ framed w.is_reply.first ++ (w.is_reply.behind ++ behind)
first_of order id came stream behind w = w.is ∙ ap (λ (prefix : List ℕ). prefix ++ behind) w.is_reply.is ∙ append_assoc (framed w.is_reply.first) w.is_reply.behind behind

second_of : (order : Order) (id : ℕ) (came : Outcome) (stream behind : List ℕ) (w : Whole order id came stream behind) → w.is_reply.behind ++ behind ≡ framed w.is_reply.goes_on.frame ++ behind
second_of order id came stream behind w = ap (λ (prefix : List ℕ). prefix ++ behind) w.is_reply.goes_on.is

-- a link that gave these bytes had the reply before it: the outcome is the reply's, and what follows is left
taken : (order : Order) (id : ℕ) (gone : Type 0) (bytes rest behind : List ℕ) (x came : Outcome) → (gone → rest ≡ []) → Whole order id came (bytes ++ rest) behind → IsTaken order id gone bytes x → (x ≡ came) × (rest ≡ behind)
taken order id gone bytes rest behind x came ended w is = elim is [
  | lost far cut gone_now ↦ absurd (elim cut [
    | inl part ↦ part_clash bytes rest w.is_reply.first (w.is_reply.behind ++ behind) w.is_reply.running.is_frame (ended gone_now) (first_of order id came (bytes ++ rest) behind w) part
    | inr one ↦
        let more = same_first id (λ n b. IsPart b) bytes rest w.is_reply.first (w.is_reply.behind ++ behind) w.is_reply.running (first_of order id came (bytes ++ rest) behind w) one in
        part_clash one.behind rest w.is_reply.goes_on.frame behind w.is_reply.goes_on.tells.is_frame (ended gone_now) (more ∙ second_of order id came (bytes ++ rest) behind w) one.goes_on
  ])
  | bad far count refused ↦ absurd (elim refused [
    | inl first ↦ refused_clash (TellsRunning id) bytes rest w.is_reply.first (w.is_reply.behind ++ behind) w.is_reply.running.is_frame w.is_reply.running (first_of order id came (bytes ++ rest) behind w) first.1
    | inr one ↦
        let more = same_first id (λ n b. (count ≡ n) × IsFrameRefused (TellsAny order id) b) bytes rest w.is_reply.first (w.is_reply.behind ++ behind) w.is_reply.running (first_of order id came (bytes ++ rest) behind w) one in
        refused_clash (TellsAny order id) one.behind rest w.is_reply.goes_on.frame behind w.is_reply.goes_on.tells.is_frame record { came = came; tells = w.is_reply.goes_on.tells } (more ∙ second_of order id came (bytes ++ rest) behind w) one.goes_on.1
  ])
  | whole one ↦
      let more = same_first id (λ n b. IsOutcomeFrame order id x b) bytes rest w.is_reply.first (w.is_reply.behind ++ behind) w.is_reply.running (first_of order id came (bytes ++ rest) behind w) one in
      let same = frame_one one.goes_on.frame w.is_reply.goes_on.frame rest behind one.goes_on.tells.is_frame w.is_reply.goes_on.tells.is_frame
      (ap (λ (prefix : List ℕ). prefix ++ rest) (sym one.goes_on.is) ∙ more ∙ second_of order id came (bytes ++ rest) behind w) in
      let other : AreResponse w.is_reply.goes_on.frame (told id x) = subst (λ (frame : List ℕ). AreResponse frame (told id x)) same.0 one.goes_on.tells.reads in
      (outcome_told id x came (one_response w.is_reply.goes_on.frame (told id x) (told id came) other w.is_reply.goes_on.tells.reads), same.1)
]

-- ---- over a link

-- what a link gave stands at the front of what it had left
left_is : (left now : Option (List ℕ)) (bytes stream : List ℕ) → left ≡ left_before bytes now → left ≡ Some stream → (rest : List ℕ) × (now ≡ Some rest) × (bytes ++ rest ≡ stream)
left_is left None bytes stream came held = absurd (let clash : None ≡ Some stream = sym came ∙ held in cc)
left_is left (Some rest) bytes stream came held = let same : Some (bytes ++ rest) ≡ Some stream = sym came ∙ held in (rest, refl, cc)

-- the link is at its end only where nothing is left
gone_empty : (before now : SeenLink) (rest bytes behind : List ℕ) → now.left ≡ Some rest → HoldsReply bytes behind before now → IsGone before now → rest ≡ []
gone_empty before now rest bytes behind is holds gone = elim gone [
  | inl rose ↦ absurd (holds.works rose)
  | inr ended ↦ subst IsNothingLeft is ended.1
]

answered : (order : Order) (id : ℕ) (before now : SeenLink) (x came : Outcome) (bytes behind : List ℕ) → AsksWorker order id before now x → IsReply order id came bytes → HoldsReply bytes behind before now → (x ≡ came) × (now.left ≡ Some behind)
answered order id before now x came bytes behind asks is_reply holds =
    let left = left_is before.left now.left asks.bytes (bytes ++ behind) asks.brings.came holds.left in
    let found = taken order id (IsGone before now) asks.bytes left.0 behind x came (gone_empty before now left.0 bytes behind left.1 holds) record { reply = bytes; is_reply = is_reply; is = left.2 }
    (cases_of order id (IsGone before now) asks.bytes x asks.taken_for) in
    (found.0, left.1 ∙ ap Some found.1)

pub takes_reply : {E : Type 0} (order : Order) (id : ℕ) (before now : SeenLink) (result : Result Outcome E) → MatchResult result (AsksWorker order id before now) (λ _. RunsOutAsking order id before now) → TakesReply order id before now result
takes_reply {E} order id before now (Ok x) asks = λ came bytes behind is_reply holds. answered order id before now x came bytes behind asks is_reply holds
takes_reply {E} order id before now (Err e) out = λ came bytes behind is_reply holds. tt

-- ---- the reply of a worker that serves

tells_running : (id : ℕ) → IsReadable (response.Running id) → TellsRunning id (compact_text (response_data (response.Running id)))
tells_running id good = record { is_frame = response_fits (response.Running id) good.part; reads = good.reads }

served_is_reply : (order : Order) (id : ℕ) (exchange : Exchange) → exchange.request.id ≡ id → IsReadableExchange exchange → Gives order exchange.outcome → IsReply order id exchange.outcome (reply exchange)
unfolding spoken
served_is_reply order id exchange same good allowed =
    let P : ℕ → Type 0 = λ n. IsReply order n exchange.outcome (reply exchange) in subst P same record {
      first = compact_text (response_data (response.Running exchange.request.id));
      behind = spoken (told exchange.request.id exchange.outcome);
      running = tells_running exchange.request.id good.running;
      is = refl;
      goes_on = record {
        frame = compact_text (response_data (told exchange.request.id exchange.outcome));
        tells = record { is_frame = response_fits (told exchange.request.id exchange.outcome) good.outcome.part; reads = good.outcome.reads; allowed = allowed };
        is = refl;
      };
    }

pub takes_served : {E : Type 0} (order : Order) (id : ℕ) (before now : SeenLink) (result : Result Outcome E) → MatchResult result (AsksWorker order id before now) (λ _. RunsOutAsking order id before now) → TakesServed order id before now result
takes_served {E} order id before now result asks = λ exchange behind same good allowed holds.
    takes_reply order id before now result asks exchange.outcome (reply exchange) behind (served_is_reply order id exchange same good allowed) holds
