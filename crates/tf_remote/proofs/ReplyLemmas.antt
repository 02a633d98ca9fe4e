-- What the bytes of a reply are taken for.
use Rattle.std.proofs.Common.{◌≡◌, ℕ, ◌≤◌, List, [], ◌++◌, length, true, false, Result, Ok, Err, inl, inr, refl, sym, ap, ◌∙◌, subst, arith}
use Rattle.std.specs.Prelude.{IfOk, IfErr, MatchResult}
use Rattle.tf_numbers.specs.Numbers.{Rises}
use Rattle.tf_wire.specs.Grammar.{AreResponse}
use Rattle.tf_wire.specs.declared.messages.Response.{Response}
use Rattle.tf_wire.specs.declared.messages.Response.TheVariants as response
use Rattle.tf_workers.specs.Session.{told}
use Rattle.tf_remote.proofs.FrameLemmas.{short_part}
use Rattle.tf_ports.specs.Ports.{SeenLink}
use Rattle.tf_ports.specs.Transcript.{Passed, sent_with, SendsPrefix}
use Rattle.tf_ports.proofs.TranscriptLemmas.{whole_prefix, no_prefix}
use Rattle.tf_states.specs.declared.record.Failure.{Failure}
use Rattle.tf_states.specs.declared.record.Failure.TheVariants as failure
use Rattle.tf_actions.specs.declared.orders.Order.{Order}
use Rattle.tf_actions.specs.declared.outcomes.Outcome.{Outcome}
use Rattle.tf_actions.specs.declared.outcomes.Outcome.TheVariants as outcome
use Rattle.tf_actions.specs.Gives.{is_sent, is_far_failure, GivesFar}
use Rattle.tf_wire.specs.Stream.{framed}
use Rattle.tf_remote.specs.Asking.{IsSentFor, AsksWorker, RunsOutAsking}
use Rattle.tf_remote.specs.Received.{BringsSome, BringsAny, BringsFrame, IsGone, IsPart, StopsFrame}
use Rattle.tf_remote.specs.Replies.{TellsRunning, TellsOutcome, TellsAny, IsFrameRefused, RunsAndThen, IsOutcomeFrame, IsReply, IsBadReply, IsReplyCut, IsTakenFor, IsFirstFrame, TakesFor}
use Rattle.tf_remote.specs.Stopped.{IsStopTaken, IsUnread}
use Rattle.tf_remote.specs.declared.receiving.Stop.{Stop}
use Rattle.tf_remote.specs.declared.receiving.Stop.TheVariants as stop
use Rattle.tf_remote.specs.Requests.{frame_for}
use Rattle.tf_remote.proofs.ByteLemmas.{brings_more, brings_none, brings_any, brings_behind, gone_later}
use Rattle.tf_remote.proofs.NearLemmas.{near_is_not_far}

-- ---- the cases of an outcome

-- a failure that no remote hand answers by itself
fault_taken : (order : Order) (id : ℕ) (gone : Type 0) (bytes : List ℕ) (fault : Failure) → is_far_failure (outcome.Failed fault) ≡ false → IsReply order id (outcome.Failed fault) bytes → IsTakenFor order id gone bytes (outcome.Failed fault)
fault_taken order id gone bytes (failure.Raised text) near reply = reply
fault_taken order id gone bytes (failure.WrongKind name) near reply = reply
fault_taken order id gone bytes failure.Overflow near reply = reply
fault_taken order id gone bytes failure.Range near reply = reply
fault_taken order id gone bytes failure.TooLong near reply = reply
fault_taken order id gone bytes (failure.Lookup name) near reply = reply
fault_taken order id gone bytes (failure.Exit status) near reply = reply
fault_taken order id gone bytes failure.Spawn near reply = reply
fault_taken order id gone bytes failure.NotText near reply = reply
fault_taken order id gone bytes failure.Lost near reply = absurd (cc)
fault_taken order id gone bytes (failure.BadReply count) near reply = absurd (cc)
fault_taken order id gone bytes failure.Exhausted near reply = reply

-- a whole reply is taken for its outcome
reply_taken : (order : Order) (id : ℕ) (gone : Type 0) (bytes : List ℕ) (came : Outcome) → is_far_failure came ≡ false → IsReply order id came bytes → IsTakenFor order id gone bytes came
reply_taken order id gone bytes (outcome.Gave v) near reply = reply
reply_taken order id gone bytes (outcome.Failed fault) near reply = fault_taken order id gone bytes fault near reply

-- what bytes that are taken for an outcome are
pub data IsTaken (order : Order) (id : ℕ) (gone : Type 0) (bytes : List ℕ) (came : Outcome) : Type 0 where
  lost : is_far_failure came ≡ true → IsReplyCut id bytes → gone → IsTaken order id gone bytes came
  bad : is_far_failure came ≡ true → (count : ℕ) → IsBadReply order id count bytes → IsTaken order id gone bytes came
  whole : IsReply order id came bytes → IsTaken order id gone bytes came

fault_cases : (order : Order) (id : ℕ) (gone : Type 0) (bytes : List ℕ) (fault : Failure) → IsTakenFor order id gone bytes (outcome.Failed fault) → IsTaken order id gone bytes (outcome.Failed fault)
fault_cases order id gone bytes (failure.Raised text) taken = whole taken
fault_cases order id gone bytes (failure.WrongKind name) taken = whole taken
fault_cases order id gone bytes failure.Overflow taken = whole taken
fault_cases order id gone bytes failure.Range taken = whole taken
fault_cases order id gone bytes failure.TooLong taken = whole taken
fault_cases order id gone bytes (failure.Lookup name) taken = whole taken
fault_cases order id gone bytes (failure.Exit status) taken = whole taken
fault_cases order id gone bytes failure.Spawn taken = whole taken
fault_cases order id gone bytes failure.NotText taken = whole taken
fault_cases order id gone bytes failure.Lost taken = lost refl taken.0 taken.1
fault_cases order id gone bytes (failure.BadReply count) taken = bad refl count taken
fault_cases order id gone bytes failure.Exhausted taken = whole taken

pub cases_of : (order : Order) (id : ℕ) (gone : Type 0) (bytes : List ℕ) (came : Outcome) → IsTakenFor order id gone bytes came → IsTaken order id gone bytes came
cases_of order id gone bytes (outcome.Gave v) taken = whole taken
cases_of order id gone bytes (outcome.Failed fault) taken = fault_cases order id gone bytes fault taken

-- ---- a reply is received

-- the first frame stopped
pub first_stops : (order : Order) (id : ℕ) (before now : SeenLink) (why : Stop) (came : Outcome) → StopsFrame IsPart (IsFrameRefused (TellsRunning id)) before now why → IsStopTaken why 0 came → TakesFor order id before now came
first_stops order id before now stop.Refused came stops is = subst (TakesFor order id before now) (sym is) record { bytes = stops.bytes; brings = stops.brings; taken_for = inl (refl, stops.is) }
first_stops order id before now stop.Lost came stops is = subst (TakesFor order id before now) (sym is) record { bytes = stops.0.bytes; brings = stops.0.brings; taken_for = (inl stops.0.is, stops.1) }
first_stops order id before now stop.Memory came stops is = absurd is

pub first_any : (id : ℕ) (before now : SeenLink) (why : Stop) → why ≡ stop.Memory → StopsFrame IsPart (IsFrameRefused (TellsRunning id)) before now why → BringsAny before now
first_any id before now why is stops = let P : Stop → Type 0 = λ s. StopsFrame IsPart (IsFrameRefused (TellsRunning id)) before now s in subst P is stops

-- the first frame, and something behind it
goes_on : (id count : ℕ) (first behind : List ℕ) (next : ℕ → List ℕ → Type 0) (one : IsFirstFrame id count first) → next (length (framed one.frame)) behind → RunsAndThen id next (first ++ behind)
goes_on id count first behind next one more = record {
  first = one.frame;
  behind = behind;
  running = one.running;
  is = ap (λ (bytes : List ℕ). bytes ++ behind) one.is;
  goes_on = more;
}

count_of : (id count : ℕ) (first : List ℕ) (one : IsFirstFrame id count first) → count ≡ length (framed one.frame)
count_of id count first one = one.is_count ∙ ap length one.is

-- the second frame stopped
pub second_stops : (order : Order) (id count : ℕ) (before now after : SeenLink) (why : Stop) (came : Outcome) → BringsSome (IsFirstFrame id count) before now → StopsFrame IsPart (IsFrameRefused (TellsAny order id)) now after why
    → IsStopTaken why count came → TakesFor order id before after came
second_stops order id count before now after stop.Refused came one stops is = subst (TakesFor order id before after) (sym is) record {
  bytes = one.bytes ++ stops.bytes;
  brings = brings_more one.bytes stops.bytes before now after one.brings stops.brings;
  taken_for = inr (goes_on id count one.bytes stops.bytes (λ n behind. (count ≡ n) × IsFrameRefused (TellsAny order id) behind) one.is (count_of id count one.bytes one.is, stops.is));
}
second_stops order id count before now after stop.Lost came one stops is = subst (TakesFor order id before after) (sym is) record {
  bytes = one.bytes ++ stops.0.bytes;
  brings = brings_more one.bytes stops.0.bytes before now after one.brings stops.0.brings;
  taken_for = (inr (goes_on id count one.bytes stops.0.bytes (λ n behind. IsPart behind) one.is stops.0.is), gone_later before now after one.brings.faults one.brings.ends stops.1);
}
second_stops order id count before now after stop.Memory came one stops is = absurd is

pub second_any : (order : Order) (id count : ℕ) (before now after : SeenLink) (why : Stop) → why ≡ stop.Memory → BringsSome (IsFirstFrame id count) before now → StopsFrame IsPart (IsFrameRefused (TellsAny order id)) now after why → BringsAny before after
second_any order id count before now after why is one stops =
    let P : Stop → Type 0 = λ s. StopsFrame IsPart (IsFrameRefused (TellsAny order id)) now after s in
    let more : BringsAny now after = subst P is stops in brings_any (one.bytes ++ more.bytes) before after (brings_more one.bytes more.bytes before now after one.brings more.brings)

-- what the order comes to whose first frame stopped, and whose second
pub first_result : {E : Type 0} (result : Result Outcome E) (order : Order) (id : ℕ) (before now : SeenLink) (why : Stop) → MatchResult result (IsStopTaken why 0) (λ _. why ≡ stop.Memory)
    → StopsFrame IsPart (IsFrameRefused (TellsRunning id)) before now why → IfOk result (TakesFor order id before now) × IfErr result (λ _. BringsAny before now)
first_result {E} (Ok came) order id before now why is stops = (first_stops order id before now why came stops is, tt)
first_result {E} (Err e) order id before now why is stops = (tt, first_any id before now why is stops)

pub second_result : {E : Type 0} (result : Result Outcome E) (order : Order) (id count : ℕ) (before now after : SeenLink) (why : Stop) → MatchResult result (IsStopTaken why count) (λ _. why ≡ stop.Memory)
    → BringsSome (IsFirstFrame id count) before now → StopsFrame IsPart (IsFrameRefused (TellsAny order id)) now after why → IfOk result (TakesFor order id before after) × IfErr result (λ _. BringsAny before after)
second_result {E} (Ok came) order id count before now after why is one stops = (second_stops order id count before now after why came one stops is, tt)
second_result {E} (Err e) order id count before now after why is one stops = (tt, second_any order id count before now after why is one stops)

-- both frames came
pub reply_comes : (order : Order) (id count : ℕ) (before now after : SeenLink) (came : Outcome) → BringsSome (IsFirstFrame id count) before now → BringsSome (IsOutcomeFrame order id came) now after → TakesFor order id before after came
reply_comes order id count before now after came one two = record {
  bytes = one.bytes ++ two.bytes;
  brings = brings_more one.bytes two.bytes before now after one.brings two.brings;
  taken_for = reply_taken order id (IsGone before after) (one.bytes ++ two.bytes) came (near_is_not_far order came two.is.tells.allowed)
      (goes_on id count one.bytes two.bytes (λ n behind. IsOutcomeFrame order id came behind) one.is two.is);
}

-- ---- an order is asked

fault_sent : (frame : List ℕ) (before now : List Passed) (fault : Failure) → now ≡ sent_with before frame → IsSentFor frame before now (outcome.Failed fault)
fault_sent frame before now (failure.Raised text) is = is
fault_sent frame before now (failure.WrongKind name) is = is
fault_sent frame before now failure.Overflow is = is
fault_sent frame before now failure.Range is = is
fault_sent frame before now failure.TooLong is = is
fault_sent frame before now (failure.Lookup name) is = is
fault_sent frame before now (failure.Exit status) is = is
fault_sent frame before now failure.Spawn is = is
fault_sent frame before now failure.NotText is = is
fault_sent frame before now failure.Lost is = whole_prefix before now frame is
fault_sent frame before now (failure.BadReply count) is = is
fault_sent frame before now failure.Exhausted is = is

whole_sent : (frame : List ℕ) (before now : List Passed) (came : Outcome) → now ≡ sent_with before frame → IsSentFor frame before now came
whole_sent frame before now (outcome.Gave v) is = is
whole_sent frame before now (outcome.Failed fault) is = fault_sent frame before now fault is

fault_later : (order : Order) (id : ℕ) (gone later : Type 0) (bytes : List ℕ) (fault : Failure) → (gone → later) → IsTakenFor order id gone bytes (outcome.Failed fault) → IsTakenFor order id later bytes (outcome.Failed fault)
fault_later order id gone later bytes (failure.Raised text) on taken = taken
fault_later order id gone later bytes (failure.WrongKind name) on taken = taken
fault_later order id gone later bytes failure.Overflow on taken = taken
fault_later order id gone later bytes failure.Range on taken = taken
fault_later order id gone later bytes failure.TooLong on taken = taken
fault_later order id gone later bytes (failure.Lookup name) on taken = taken
fault_later order id gone later bytes (failure.Exit status) on taken = taken
fault_later order id gone later bytes failure.Spawn on taken = taken
fault_later order id gone later bytes failure.NotText on taken = taken
fault_later order id gone later bytes failure.Lost on taken = (taken.0, on taken.1)
fault_later order id gone later bytes (failure.BadReply count) on taken = taken
fault_later order id gone later bytes failure.Exhausted on taken = taken

taken_later : (order : Order) (id : ℕ) (gone later : Type 0) (bytes : List ℕ) (came : Outcome) → (gone → later) → IsTakenFor order id gone bytes came → IsTakenFor order id later bytes came
taken_later order id gone later bytes (outcome.Gave v) on taken = taken
taken_later order id gone later bytes (outcome.Failed fault) on taken = fault_later order id gone later bytes fault on taken

-- the frame was sent, and the reply came
pub asked : (order : Order) (id : ℕ) (frame : List ℕ) (before now after : SeenLink) (came : Outcome) → frame ≡ frame_for order id → now.transcript ≡ sent_with before.transcript frame → now.left ≡ before.left
    → before.faults ≤ now.faults → before.ends ≤ now.ends → TakesFor order id now after came → AsksWorker order id before after came
asked order id frame before now after came named sent left faults ends takes =
    let whole : now.transcript ≡ sent_with before.transcript (frame_for order id) = sent ∙ ap (sent_with before.transcript) named in record {
      asked = now.transcript;
      sent = whole_sent (frame_for order id) before.transcript now.transcript came whole;
      bytes = takes.bytes;
      brings = brings_behind takes.bytes before now after left faults ends takes.brings;
      whole_first = λ some. whole;
      taken_for = taken_later order id (IsGone now after) (IsGone before after) takes.bytes came (gone_later before now after faults ends) takes.taken_for;
    }

-- the frame was sent, and memory ran out
pub asked_in_vain : (order : Order) (id : ℕ) (frame : List ℕ) (before now after : SeenLink) → frame ≡ frame_for order id → now.transcript ≡ sent_with before.transcript frame → now.left ≡ before.left
    → before.faults ≤ now.faults → before.ends ≤ now.ends → BringsAny now after → RunsOutAsking order id before after
asked_in_vain order id frame before now after named sent left faults ends came =
    let whole : now.transcript ≡ sent_with before.transcript (frame_for order id) = sent ∙ ap (sent_with before.transcript) named in record {
      asked = now.transcript;
      sent = whole_prefix before.transcript now.transcript (frame_for order id) whole;
      bytes = came.bytes;
      brings = brings_behind came.bytes before now after left faults ends came.brings;
      whole_first = λ some. whole;
    }

-- an order that was asked has an outcome that it may have
pub asked_gives : (order : Order) (id : ℕ) (before now : SeenLink) (came : Outcome) → is_sent order ≡ true → AsksWorker order id before now came → GivesFar order came
asked_gives order id before now came sent asks = elim (cases_of order id (IsGone before now) asks.bytes came asks.taken_for) [
  | lost far cut gone ↦ inr record { sent = sent; failed = far }
  | bad far count refused ↦ inr record { sent = sent; failed = far }
  | whole reply ↦ inl reply.goes_on.tells.allowed
]

-- the frame was sent, and this came of it
pub ask_result : {E : Type 0} (result : Result Outcome E) (order : Order) (id : ℕ) (frame : List ℕ) (before now after : SeenLink) → frame ≡ frame_for order id → now.transcript ≡ sent_with before.transcript frame → now.left ≡ before.left
    → before.faults ≤ now.faults → before.ends ≤ now.ends → IfOk result (TakesFor order id now after) → IfErr result (λ _. BringsAny now after) → MatchResult result (AsksWorker order id before after) (λ _. RunsOutAsking order id before after)
ask_result {E} (Ok came) order id frame before now after named sent left faults ends takes any = asked order id frame before now after came named sent left faults ends takes
ask_result {E} (Err e) order id frame before now after named sent left faults ends takes any = asked_in_vain order id frame before now after named sent left faults ends any

-- an outcome of an order that was asked is one that it may have
pub gives_result : {E : Type 0} (result : Result Outcome E) (order : Order) (id : ℕ) (before now : SeenLink) → is_sent order ≡ true → MatchResult result (AsksWorker order id before now) (λ _. RunsOutAsking order id before now) → IfOk result (GivesFar order)
gives_result {E} (Ok came) order id before now sent asks = asked_gives order id before now came sent asks
gives_result {E} (Err e) order id before now sent asks = tt

-- nothing was sent, and memory ran out
pub nothing_asked : (order : Order) (id : ℕ) (before : SeenLink) → RunsOutAsking order id before before
nothing_asked order id before = record {
  asked = before.transcript;
  sent = no_prefix before.transcript before.transcript (frame_for order id) refl;
  bytes = [];
  brings = brings_none before before refl refl (omega arith) (omega arith);
  whole_first = λ some. absurd (some refl);
}

-- the link couldn't send
pub lost_at_once : (order : Order) (id : ℕ) (frame : List ℕ) (before now : SeenLink) → frame ≡ frame_for order id → SendsPrefix before.transcript frame now.transcript → now.left ≡ before.left
    → before.faults ≤ now.faults → before.ends ≤ now.ends → Rises before.faults now.faults → AsksWorker order id before now (outcome.Failed failure.Lost)
lost_at_once order id frame before now named sent left faults ends rose = record {
  asked = now.transcript;
  sent = subst (λ (whole_frame : List ℕ). SendsPrefix before.transcript whole_frame now.transcript) named sent;
  bytes = [];
  brings = brings_none (record before { transcript = now.transcript }) now left refl faults ends;
  whole_first = λ some. absurd (some refl);
  taken_for = (inl (short_part [] (omega arith)), inl rose);
}

-- ---- what a frame tells

-- a frame that spells no response tells no outcome
unread_on : (P Q : Type 0) (why : Stop) → (P → Q) → IsUnread P why → IsUnread Q why
unread_on P Q stop.Refused on is = on is
unread_on P Q stop.Lost on is = absurd is
unread_on P Q stop.Memory on is = tt

pub unread_outcome : (order : Order) (id : ℕ) (frame : List ℕ) (why : Stop) → IsUnread ((answer : Response) → ¬ (AreResponse frame answer)) why → IsUnread (¬ (TellsAny order id frame)) why
unread_outcome order id frame why is = unread_on ((answer : Response) → ¬ (AreResponse frame answer)) (¬ (TellsAny order id frame)) why (λ none any. none (told id any.came) any.tells.reads) is

-- a whole frame that isn't the wanted one stops a reply
other_stops : (wanted : List ℕ → Type 0) (frame : List ℕ) (before now : SeenLink) (why : Stop) → BringsFrame frame before now → IsUnread (¬ (wanted frame)) why → StopsFrame IsPart (IsFrameRefused wanted) before now why
other_stops wanted frame before now stop.Refused came is = record { bytes = framed frame; brings = came.brings; is = inr record { frame = frame; is_frame = came.is_frame; is = refl; other = is } }
other_stops wanted frame before now stop.Lost came is = absurd is
other_stops wanted frame before now stop.Memory came is = brings_any (framed frame) before now came.brings

pub unread_running : (id : ℕ) (frame items : List ℕ) (before now : SeenLink) (why : Stop) → frame ≡ items → BringsFrame items before now → IsUnread ((answer : Response) → ¬ (AreResponse frame answer)) why
    → StopsFrame IsPart (IsFrameRefused (TellsRunning id)) before now why
unread_running id frame items before now why same came is =
    other_stops (TellsRunning id) frame before now why (subst (λ (f : List ℕ). BringsFrame f before now) (sym same) came)
    (unread_on ((answer : Response) → ¬ (AreResponse frame answer)) (¬ (TellsRunning id frame)) why (λ none tells. none (response.Running id) tells.reads) is)

-- what the second frame tells
pub outcome_result : (result : Result Outcome Stop) (order : Order) (id : ℕ) (frame items : List ℕ) (before now : SeenLink) → frame ≡ items → BringsFrame items before now
    → MatchResult result (λ outcome. TellsOutcome order id outcome frame) (IsUnread (¬ (TellsAny order id frame))) → MatchResult result (λ outcome. BringsSome (IsOutcomeFrame order id outcome) before now) (StopsFrame IsPart (IsFrameRefused (TellsAny order id)) before now)
outcome_result (Ok came) order id frame items before now same brings tells = record {
  bytes = framed items;
  brings = brings.brings;
  is = record { frame = frame; tells = tells; is = ap framed (sym same) };
}
outcome_result (Err why) order id frame items before now same brings is = other_stops (TellsAny order id) frame before now why (subst (λ (f : List ℕ). BringsFrame f before now) (sym same) brings) is
