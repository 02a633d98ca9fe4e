-- A session one step further, and how it is over.
use Rattle.std.proofs.Common.{◌≡◌, ℕ, ◌+◌, ◌≤◌, List, [], ◌∷◌, ◌++◌, length, Some, None, Result, Ok, Err, inl, inr, refl, sym, ◌∙◌, subst, arith}
use Rattle.std.specs.Prelude.{MatchResult}
use Rattle.tf_numbers.specs.Numbers.{Rises}
use Rattle.tf_ports.specs.Ports.{SeenLink}
use Rattle.tf_ports.specs.Transcript.{received_in}
use Rattle.tf_actions.specs.declared.orders.Order.{Order}
use Rattle.tf_actions.specs.declared.outcomes.Outcome.{Outcome}
use Rattle.tf_wire.specs.Stream.{KeepsStream, counted}
use Rattle.tf_sessions.specs.Receiving.{TakesIn, HasNothingMore}
use Rattle.tf_sessions.specs.Talks.{all_said, Stands, Talk}
use Rattle.tf_sessions.specs.declared.incoming.Incoming.{Incoming}
use Rattle.tf_sessions.specs.declared.incoming.ServeEnd.{ServeEnd}
use Rattle.tf_sessions.specs.declared.incoming.ServeEnd.TheVariants as end
use Rattle.tf_sessions.proofs.FrameLemmas.{behind_of, cut_of, all_more, Taking, next_of}
use Rattle.tf_sessions.proofs.TalkLemmas.{starts as stands_first, takes_in, stands_still, stands_answered, talk_of, talk_begun, talk_replied, EndedTalk, is_over, over_none, rises_on}
use Rattle.tf_workers.specs.Session.{running, reply, replies, up_to_running, Seen, MayBeGiven, SpellsNone, WorkerSession, IsAnsweredAt, Serves}
use Rattle.tf_workers.specs.Progress.{HasAnsweredAll, Answers, HasComeTo, StopsFor}
use Rattle.tf_workers.specs.Progress.HasComeTo.{nothing, begun, performed}
use Rattle.tf_workers.specs.declared.answering.Stop.TheVariants as stop
use Rattle.tf_workers.proofs.ListLemmas.{replies_more, read_more, running_short, running_more, did_none, did_more}

-- ---- a session goes on

-- nothing came yet
pub starts : (gives : Order → Outcome → Type 0) (now : Seen) (incoming : Incoming) → KeepsStream incoming.frames [] [] → incoming.place ≡ 0 → incoming.refused ≡ None → HasAnsweredAll gives now now incoming
starts gives now incoming keeps first free = record {
  taken = [];
  exchanges = [];
  read = tt;
  gave = tt;
  did = did_none now.did;
  stands = stands_first now.link incoming keeps first free;
}

-- one exchange more
pub answered : (gives : Order → Outcome → Type 0) (before now after : Seen) (old new : Incoming) (frame : List ℕ) → Taking old.frames new.frames frame → new.refused ≡ old.refused → new.place ≡ counted (counted (old.place + 4) + length frame)
    → Answers gives frame now after → HasAnsweredAll gives before now old → HasAnsweredAll gives before after new
answered gives before now after old new frame taking free place one on = record {
  taken = on.taken ++ frame ∷ [];
  exchanges = on.exchanges ++ one.exchange ∷ [];
  read = read_more on.taken on.exchanges frame one.exchange on.read one.read;
  gave = all_more (MayBeGiven gives) on.exchanges one.exchange on.gave one.gave;
  did = did_more before.did now.did after.did on.exchanges one.exchange on.did one.did;
  stands = subst (λ (said : List (List ℕ)). Stands before.link after.link (on.taken ++ frame ∷ []) said new) (sym (replies_more on.exchanges one.exchange))
      (stands_answered before.link now.link after.link on.taken (replies on.exchanges) old new frame (reply one.exchange) taking free place one.says on.stands);
}

-- ---- it is over

-- a talk in which so many bytes were sent
record Said (before now : SeenLink) (frames said : List (List ℕ)) (least : ℕ) : Type 0 where
  talk : Talk before now frames said []
  long : least ≤ talk.count

-- with what was answered
abbrev whole_session : (gives : Order → Outcome → Type 0) (before now after : Seen) (incoming : Incoming) → after.did ≡ now.did → (on : HasAnsweredAll gives before now incoming)
    → (talk : Talk before.link after.link on.taken (replies on.exchanges) []) → length (all_said (replies on.exchanges)) ≤ talk.count → WorkerSession gives before after
whole_session gives before now after incoming did on talk long = record {
  frames = on.taken;
  exchanges = on.exchanges;
  read = on.read;
  gave = on.gave;
  did = did ∙ on.did;
  begun = None;
  talk = talk;
  is_begun = tt;
  said_running = let whole : length (up_to_running on.exchanges) ≤ talk.count = omega (arith, long, running_short on.exchanges) in whole;
}

none_begun : (how : ServeEnd) (failed : Type 0) → IsAnsweredAt how failed None
none_begun end.Ended failed = refl
none_begun end.Lost failed = inr refl
none_begun (end.Bad at) failed = refl
none_begun end.Memory failed = tt

ended : (gives : Order → Outcome → Type 0) (before now after : Seen) (incoming : Incoming) (how : ServeEnd) → after.did ≡ now.did → (on : HasAnsweredAll gives before now incoming)
    → EndedTalk before.link now.link after.link on.taken (replies on.exchanges) SpellsNone how → Serves gives before after how
ended gives before now after incoming how did on e = record {
  session = whole_session gives before now after incoming did on e.talk e.counts;
  ends_as = e.ends_as;
  answered = none_begun how (Rises before.link.faults after.link.faults);
}

-- what comes is taken in, or the session is over
pub received_or_over : (r : Result (Unit {0}) ServeEnd) (gives : Order → Outcome → Type 0) (before now after : Seen) (old mid new : Incoming) → mid ≡ old → old.frames.waiting ≡ [] → after.did ≡ now.did
    → MatchResult r (λ _. TakesIn mid new now.link after.link) (HasNothingMore mid now.link after.link) → HasAnsweredAll gives before now old → MatchResult r (λ _. HasAnsweredAll gives before after new) (Serves gives before after)
received_or_over (Ok u) gives before now after old mid new same empty did takes on = record {
  taken = on.taken;
  exchanges = on.exchanges;
  read = on.read;
  gave = on.gave;
  did = did ∙ on.did;
  stands = takes_in before.link now.link after.link on.taken (replies on.exchanges) old new empty (subst (λ (kept : Incoming). TakesIn kept new now.link after.link) same takes) on.stands;
}
received_or_over (Err how) gives before now after old mid new same empty did why on =
    ended gives before now after old how did on
    (is_over before.link now.link after.link on.taken (replies on.exchanges) SpellsNone old how empty (subst (λ (kept : Incoming). HasNothingMore kept now.link after.link how) same why) on.stands)

-- ---- a frame isn't answered

reached : (gives : Order → Outcome → Type 0) (before now after : Seen) (old new : Incoming) (frame : List ℕ) → Taking old.frames new.frames frame → (on : HasAnsweredAll gives before now old) → HasComeTo gives frame now after → WorkerSession gives before after
reached gives before now after old new frame taking on (nothing did still) =
    let stands = stands_still before.link now.link after.link on.taken (replies on.exchanges) old still on.stands in
    let given = received_in on.stands.passed in
    whole_session gives before now after old did on
    (talk_of before.link after.link after.link on.taken (replies on.exchanges) old (behind_of old.frames given on.taken on.stands.keeps) stands (cut_of old.frames given on.taken on.stands.keeps)) (omega arith)
reached gives before now after old new frame taking on (begun request spells did part) = record {
  frames = on.taken;
  exchanges = on.exchanges;
  read = on.read;
  gave = on.gave;
  did = did ∙ on.did;
  begun = Some request;
  talk = talk_begun before.link now.link after.link on.taken (replies on.exchanges) old new frame (running request) taking on.stands part;
  is_begun =
      let next = next_of old.frames new.frames frame (received_in on.stands.passed) on.taken taking.is on.stands.keeps in
      record { frame = frame; behind = next.behind; is_frame = next.is_frame; prefix = refl; is_so = spells };
  said_running = let whole : length (up_to_running on.exchanges) ≤ length (all_said (replies on.exchanges)) + part.passed.count = omega (arith, running_short on.exchanges) in whole;
}
reached gives before now after old new frame taking on (performed exchange spells gave did part whole) =
    let said = replies on.exchanges in
    let talk : Talk before.link after.link (on.taken ++ frame ∷ []) (said ++ reply exchange ∷ []) [] =
    talk_replied before.link now.link after.link on.taken said old new frame (reply exchange) taking on.stands part in
    let more : Said before.link after.link (on.taken ++ frame ∷ []) (replies (on.exchanges ++ exchange ∷ [])) (length (up_to_running (on.exchanges ++ exchange ∷ []))) =
    subst (λ (all : List (List ℕ)). Said before.link after.link (on.taken ++ frame ∷ []) all (length (up_to_running (on.exchanges ++ exchange ∷ [])))) (sym (replies_more on.exchanges exchange))
    record {
      talk = talk;
      long =
          let all : length (up_to_running (on.exchanges ++ exchange ∷ [])) ≤ length (all_said said) + part.passed.count = omega (arith, whole, running_more on.exchanges exchange) in
          all;
    } in record {
      frames = on.taken ++ frame ∷ [];
      exchanges = on.exchanges ++ exchange ∷ [];
      read = read_more on.taken on.exchanges frame exchange on.read spells;
      gave = all_more (MayBeGiven gives) on.exchanges exchange on.gave gave;
      did = did_more before.did now.did after.did on.exchanges exchange on.did did;
      begun = None;
      talk = more.talk;
      is_begun = tt;
      said_running = more.long;
    }

pub stopped_lost : (gives : Order → Outcome → Type 0) (before now after : Seen) (old new : Incoming) (frame : List ℕ) → Taking old.frames new.frames frame → StopsFor gives frame now after stop.Lost → HasAnsweredAll gives before now old → Serves gives before after end.Lost
stopped_lost gives before now after old new frame taking why on =
    let rose : Rises before.link.faults after.link.faults = rises_on before.link.faults now.link.faults after.link.faults on.stands.faults why.1 in record {
      session = reached gives before now after old new frame taking on why.0;
      ends_as = inl rose;
      answered = inl rose;
    }

pub stopped_memory : (gives : Order → Outcome → Type 0) (before now after : Seen) (old new : Incoming) (frame : List ℕ) → Taking old.frames new.frames frame → StopsFor gives frame now after stop.Memory → HasAnsweredAll gives before now old → Serves gives before after end.Memory
stopped_memory gives before now after old new frame taking why on = record { session = reached gives before now after old new frame taking on why; ends_as = tt; answered = tt }

pub stopped_bad : (gives : Order → Outcome → Type 0) (before now after : Seen) (old new : Incoming) (frame : List ℕ) → Taking old.frames new.frames frame → StopsFor gives frame now after stop.Bad → HasAnsweredAll gives before now old → Serves gives before after (end.Bad old.place)
stopped_bad gives before now after old new frame taking why on =
    ended gives before now after old (end.Bad old.place) why.did on
    (over_none before.link now.link after.link on.taken (replies on.exchanges) SpellsNone old new frame taking why.spells_none why.still on.stands)

-- the longest session ends for want of memory
pub gives_up : (gives : Order → Outcome → Type 0) (before now : Seen) (incoming : Incoming) → HasAnsweredAll gives before now incoming → Serves gives before now end.Memory
gives_up gives before now incoming on =
    let given = received_in on.stands.passed in record {
      session = whole_session gives before now now incoming refl on
          (talk_of before.link now.link now.link on.taken (replies on.exchanges) incoming (behind_of incoming.frames given on.taken on.stands.keeps) on.stands (cut_of incoming.frames given on.taken on.stands.keeps)) (omega arith);
      ends_as = tt;
      answered = tt;
    }
