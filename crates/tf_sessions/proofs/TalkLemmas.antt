-- A session one step further, and how it is over.
use Rattle.std.proofs.Common.{◌≡◌, ℕ, ◌+◌, ◌<◌, ◌≤◌, List, [], ◌∷◌, ◌++◌, length, take, map, Option, Some, None, inl, inr, refl, sym, ap, ◌∙◌, subst, arith, append_assoc, append-nil, length-append}
use Rattle.std.proofs.lemmas.Grind.{flat_map-append}
use Rattle.std.proofs.lemmas.List.{take_all, take-append-le}
use Rattle.std.proofs.Math.Seq.{take-append-add}
use Rattle.tf_numbers.specs.Numbers.{Rises}
use Rattle.tf_ports.specs.Ports.{SeenLink, left_before}
use Rattle.tf_ports.specs.Transcript.{Passed, sent_with, received_with, received_in, sent_in}
use Rattle.tf_ports.specs.Transcript.Passed.{received, sent_byte}
use Rattle.tf_ports.proofs.TranscriptLemmas.{received_with_sent, sent_with_sent, received_with_received, sent_with_received, held_with_sent, held_with_received, held_so}
use Rattle.tf_wire.specs.Stream.{KeptFrames, counted, KeepsStream, framed, joined, SplitsInto, BeginsWithFrame}
use Rattle.tf_wire.proofs.StreamLemmas.{bad_stays, cut_on, short_is_no_frame, short_is_no_bad_length}
use Rattle.tf_sessions.specs.Receiving.{IsKnown, IsStill, TakesIn, HasNothingMore}
use Rattle.tf_sessions.specs.Talks.{all_said, AllAnswered, AnswersFirst, SendsAll, SendsPart, Stands, Talk, TalkEndsAs}
use Rattle.tf_sessions.specs.declared.incoming.Incoming.{Incoming}
use Rattle.tf_sessions.specs.declared.incoming.ServeEnd.{ServeEnd}
use Rattle.tf_sessions.specs.declared.incoming.ServeEnd.TheVariants as end
use Rattle.tf_sessions.proofs.FrameLemmas.{behind_of, cut_of, cut_rest, cut_bad, known_taken, place_more, Taking, next_of}

-- ---- counts

pub rises_on : (a b c : ℕ) → a ≤ b → Rises b c → Rises a c
rises_on a b c le rises = omega (arith, le, rises)

pub le_on : (a b c : ℕ) → a ≤ b → b ≤ c → a ≤ c
le_on a b c first second = omega (arith, first, second)

-- ---- what a link had left

came_on : (left : Option (List ℕ)) (first second : List ℕ) → left_before first (left_before second left) ≡ left_before (first ++ second) left
came_on None first second = refl
came_on (Some bytes) first second = ap Some (sym (append_assoc first second bytes))

came_more : (before now after : Option (List ℕ)) (first second : List ℕ) → before ≡ left_before first now → now ≡ left_before second after → before ≡ left_before (first ++ second) after
came_more before now after first second is more = is ∙ ap (left_before first) more ∙ came_on after first second

came_none : (left : Option (List ℕ)) → left ≡ left_before [] left
came_none None = refl
came_none (Some bytes) = refl

-- ---- replies

pub said_more : (replies : List (List ℕ)) (reply : List ℕ) → all_said (replies ++ reply ∷ []) ≡ all_said replies ++ reply
said_more replies reply = flat_map-append (λ (r : List ℕ). r) replies (reply ∷ []) ∙ ap (λ (last : List ℕ). all_said replies ++ last) (append-nil reply)

one_more : {X Y : Type 0} (xs : List X) (ys : List Y) (x : X) (y : Y) → length ys ≡ length xs → length (ys ++ y ∷ []) ≡ length (xs ++ x ∷ [])
one_more xs ys x y same = omega (arith, same, length-append xs (x ∷ []), length-append ys (y ∷ []))

-- all that came whole had been answered then
answered_now : (frames replies : List (List ℕ)) (passed : List Passed) (rest : List ℕ) → length replies ≡ length frames → received_in passed ≡ joined frames ++ rest → ¬ (BeginsWithFrame rest) → sent_in passed ≡ all_said replies → AllAnswered frames replies passed
answered_now frames replies passed rest as_many came none sent = record {
  count = length frames;
  few = omega arith;
  rest = rest;
  came = came ∙ ap (λ (some : List (List ℕ)). joined some ++ rest) (sym (take_all (length frames) frames (omega arith)));
  none_whole = none;
  sent = sent ∙ ap all_said (sym (take_all (length frames) replies (omega (arith, as_many))));
}

-- it had been where one frame more is answered later
answered_later : (frames replies : List (List ℕ)) (frame reply : List ℕ) → length replies ≡ length frames → (passed : List Passed) → AllAnswered frames replies passed → AllAnswered (frames ++ frame ∷ []) (replies ++ reply ∷ []) passed
answered_later frames replies frame reply as_many passed all = record {
  count = all.count;
  few = omega (arith, all.few, length-append frames (frame ∷ []));
  rest = all.rest;
  came = all.came ∙ ap (λ (some : List (List ℕ)). joined some ++ all.rest) (sym (take-append-le all.count frames (frame ∷ []) all.few));
  none_whole = all.none_whole;
  sent = all.sent ∙ ap all_said (sym (take-append-le all.count replies (reply ∷ []) (omega (arith, all.few, as_many))));
}

pub first_later : (frames replies : List (List ℕ)) (frame reply : List ℕ) (passed : List Passed) → length replies ≡ length frames → AnswersFirst frames replies passed → AnswersFirst (frames ++ frame ∷ []) (replies ++ reply ∷ []) passed
first_later frames replies frame reply passed as_many first =
    held_so (AllAnswered frames replies) (AllAnswered (frames ++ frame ∷ []) (replies ++ reply ∷ [])) (answered_later frames replies frame reply as_many) [] passed first

-- ---- a session goes on

-- nothing came yet
pub starts : (now : SeenLink) (incoming : Incoming) → KeepsStream incoming.frames [] [] → incoming.place ≡ 0 → incoming.refused ≡ None → Stands now now [] [] incoming
starts now incoming keeps first free =
    let short : length incoming.frames.rest < 4 = omega (arith, simp length-append at (ap length keeps.cut.is)) in record {
      passed = [];
      went = sym (append-nil now.transcript);
      left = came_none now.left;
      as_many = refl;
      sent = refl;
      answers_first = tt;
      keeps = keeps;
      is_known = subst (IsKnown incoming.frames) (sym free) (short_is_no_frame incoming.frames.rest short, short_is_no_bad_length incoming.frames.rest short);
      is_place = first;
      faults = omega arith;
      ends = omega arith;
    }

module _ (before now after : SeenLink) (frames replies : List (List ℕ)) where
  -- where no frame waits, all that came whole was answered
  all_now : (incoming : Incoming) → incoming.frames.waiting ≡ [] → incoming.refused ≡ None → (on : Stands before now frames replies incoming) → AllAnswered frames replies on.passed
  all_now incoming empty free on =
      let known : IsKnown incoming.frames None = subst (IsKnown incoming.frames) free on.is_known in
      let cut = cut_rest incoming.frames (received_in on.passed) frames empty known.1 on.keeps in
      answered_now frames replies on.passed incoming.frames.rest on.as_many cut.is known.0 on.sent

  -- a piece came
  pub takes_in : (old new : Incoming) → old.frames.waiting ≡ [] → TakesIn old new now after → Stands before now frames replies old → Stands before after frames replies new
  takes_in old new empty takes on =
      let fed = takes.feeds (received_in on.passed) frames on.keeps in record {
        passed = received_with on.passed takes.piece;
        went = takes.brings.passed ∙ ap (λ (t : List Passed). received_with t takes.piece) on.went ∙ append_assoc before.transcript on.passed (received takes.piece ∷ []);
        left =
            came_more before.left now.left after.left (received_in on.passed) takes.piece on.left takes.brings.left
            ∙ ap (λ (given : List ℕ). left_before given after.left) (sym (received_with_received on.passed takes.piece));
        as_many = on.as_many;
        sent = sent_with_received on.passed takes.piece ∙ on.sent;
        answers_first = held_with_received (AllAnswered frames replies) on.passed takes.piece on.answers_first (all_now old empty takes.unrefused on);
        keeps = subst (λ (given : List ℕ). KeepsStream new.frames given frames) (sym (received_with_received on.passed takes.piece)) fed.0;
        is_known = fed.1;
        is_place = takes.place ∙ on.is_place;
        faults = le_on before.faults now.faults after.faults on.faults takes.brings.faults;
        ends = le_on before.ends now.ends after.ends on.ends takes.brings.ends;
      }

  -- nothing passed
  abbrev pub stands_still : (incoming : Incoming) → IsStill now after → Stands before now frames replies incoming → Stands before after frames replies incoming
  stands_still incoming still on = record {
    passed = on.passed;
    went = still.passed ∙ on.went;
    left = on.left ∙ ap (left_before (received_in on.passed)) (sym still.left);
    as_many = on.as_many;
    sent = on.sent;
    answers_first = on.answers_first;
    keeps = on.keeps;
    is_known = on.is_known;
    is_place = on.is_place;
    faults = le_on before.faults now.faults after.faults on.faults still.faults;
    ends = le_on before.ends now.ends after.ends on.ends still.ends;
  }

  -- one frame more was taken and answered
  pub stands_answered : (old new : Incoming) (frame reply : List ℕ) → Taking old.frames new.frames frame → new.refused ≡ old.refused → new.place ≡ counted (counted (old.place + 4) + length frame)
      → SendsAll reply now after → Stands before now frames replies old → Stands before after (frames ++ frame ∷ []) (replies ++ reply ∷ []) new
  stands_answered old new frame reply taking free place says on = record {
    passed = sent_with on.passed reply;
    went = says.passed ∙ ap (λ (t : List Passed). sent_with t reply) on.went ∙ append_assoc before.transcript on.passed (map sent_byte reply);
    left = on.left ∙ ap (left_before (received_in on.passed)) (sym says.left) ∙ ap (λ (given : List ℕ). left_before given after.left) (sym (received_with_sent on.passed reply));
    as_many = one_more frames replies frame reply on.as_many;
    sent = sent_with_sent on.passed reply ∙ ap (λ (said : List ℕ). said ++ reply) on.sent ∙ sym (said_more replies reply);
    answers_first = held_with_sent (AllAnswered (frames ++ frame ∷ []) (replies ++ reply ∷ [])) on.passed reply (first_later frames replies frame reply on.passed on.as_many on.answers_first);
    keeps = subst (λ (given : List ℕ). KeepsStream new.frames given (frames ++ frame ∷ [])) (sym (received_with_sent on.passed reply)) (taking.keeps (received_in on.passed) frames on.keeps);
    is_known = subst (IsKnown new.frames) (sym free) (known_taken new.frames frame old.refused (subst (λ (kept : KeptFrames). IsKnown kept old.refused) taking.is on.is_known));
    is_place = place ∙ place_more frames frame old.place on.is_place;
    faults = le_on before.faults now.faults after.faults on.faults says.faults;
    ends = le_on before.ends now.ends after.ends on.ends says.ends;
  }

  -- ---- it is over

  -- with what was answered
  abbrev pub talk_of : (incoming : Incoming) (behind : List ℕ) (on : Stands before now frames replies incoming) → SplitsInto (received_in on.passed) frames behind → Talk before now frames replies []
  talk_of incoming behind on cut = record {
    passed = on.passed;
    went = on.went;
    left = on.left;
    behind = behind;
    cut = cut;
    count = length (all_said replies);
    sent = on.sent ∙ sym (take_all (length (all_said replies)) (all_said replies) (omega arith)) ∙ ap (take (length (all_said replies))) (sym (append-nil (all_said replies)));
    answers_first = on.answers_first;
    faults = on.faults;
    ends = on.ends;
  }

  -- with a part of what was said last: these frames and replies, of which the others are the first, and what was begun
  abbrev pub talk_part : (incoming : Incoming) (later said : List (List ℕ)) (begun bytes behind : List ℕ) (on : Stands before now frames replies incoming) → SplitsInto (received_in on.passed) later behind
      → AnswersFirst later said on.passed → all_said replies ++ bytes ≡ all_said said ++ begun → SendsPart bytes now after → Talk before after later said begun
  talk_part incoming later said begun bytes behind on cut first same part =
      let k = part.passed.count in
      let some = take k bytes in record {
        passed = sent_with on.passed some;
        went = part.passed.prefix ∙ ap (λ (t : List Passed). sent_with t some) on.went ∙ append_assoc before.transcript on.passed (map sent_byte some);
        left = on.left ∙ ap (left_before (received_in on.passed)) (sym part.left) ∙ ap (λ (given : List ℕ). left_before given after.left) (sym (received_with_sent on.passed some));
        behind = behind;
        cut = subst (λ (given : List ℕ). SplitsInto given later behind) (sym (received_with_sent on.passed some)) cut;
        count = length (all_said replies) + k;
        sent =
            sent_with_sent on.passed some ∙ ap (λ (whole : List ℕ). whole ++ some) on.sent ∙ sym (take-append-add (all_said replies) bytes k)
            ∙ ap (take (length (all_said replies) + k)) same;
        answers_first = held_with_sent (AllAnswered later said) on.passed some first;
        faults = le_on before.faults now.faults after.faults on.faults part.faults;
        ends = le_on before.ends now.ends after.ends on.ends part.ends;
      }

  -- a frame was taken whose reply was begun
  abbrev pub talk_begun : (old new : Incoming) (frame begun : List ℕ) (taking : Taking old.frames new.frames frame) (on : Stands before now frames replies old) → SendsPart begun now after → Talk before after frames replies begun
  talk_begun old new frame begun taking on part =
      let next = next_of old.frames new.frames frame (received_in on.passed) frames taking.is on.keeps in
      talk_part old frames replies begun begun (framed frame ++ next.behind) on next.cut on.answers_first refl part

  -- a frame was taken, and a part of its reply was sent
  abbrev pub talk_replied : (old new : Incoming) (frame reply : List ℕ) (taking : Taking old.frames new.frames frame) (on : Stands before now frames replies old) → SendsPart reply now after → Talk before after (frames ++ frame ∷ []) (replies ++ reply ∷ []) []
  talk_replied old new frame reply taking on part =
      let keeps = taking.keeps (received_in on.passed) frames on.keeps in
      talk_part old (frames ++ frame ∷ []) (replies ++ reply ∷ []) [] reply (behind_of new.frames (received_in on.passed) (frames ++ frame ∷ []) keeps) on (cut_of new.frames (received_in on.passed) (frames ++ frame ∷ []) keeps)
      (first_later frames replies frame reply on.passed on.as_many on.answers_first) (sym (append-nil (all_said (replies ++ reply ∷ [])) ∙ said_more replies reply)) part

  -- a talk, and how it ended
  pub record EndedTalk (is_none : List ℕ → Type 0) (how : ServeEnd) : Type 0 where
    pub talk : Talk before after frames replies []
    pub counts : length (all_said replies) ≤ talk.count
    pub ends_as : TalkEndsAs is_none how talk

module _ (before now after : SeenLink) (frames replies : List (List ℕ)) (is_none : List ℕ → Type 0) where
  -- nothing more is taken in
  pub is_over : (incoming : Incoming) (how : ServeEnd) → incoming.frames.waiting ≡ [] → HasNothingMore incoming now after how → Stands before now frames replies incoming → EndedTalk before now after frames replies is_none how
  is_over incoming end.Ended empty why on =
      let known : IsKnown incoming.frames None = subst (IsKnown incoming.frames) why.1 on.is_known in
      let still = stands_still before now after frames replies incoming why.0.still on in record {
        talk = talk_of before after after frames replies incoming incoming.frames.rest still (cut_rest incoming.frames (received_in on.passed) frames empty known.1 on.keeps);
        counts = omega arith;
        ends_as = (on.sent, why.2, record { rose = rises_on before.ends now.ends after.ends on.ends why.0.rose; nothing_left = why.0.nothing_left });
      }
  is_over incoming end.Lost empty (inl failed) on =
      let still = stands_still before now after frames replies incoming failed.0 on in record {
        talk = talk_of before after after frames replies incoming (behind_of incoming.frames (received_in on.passed) frames on.keeps) still (cut_of incoming.frames (received_in on.passed) frames on.keeps);
        counts = omega arith;
        ends_as = inl (rises_on before.faults now.faults after.faults on.faults failed.1);
      }
  is_over incoming end.Lost empty (inr ended) on =
      let known : IsKnown incoming.frames None = subst (IsKnown incoming.frames) ended.1 on.is_known in
      let still = stands_still before now after frames replies incoming ended.0.still on in record {
        talk = talk_of before after after frames replies incoming incoming.frames.rest still (cut_rest incoming.frames (received_in on.passed) frames empty known.1 on.keeps);
        counts = omega arith;
        ends_as = inr (
          on.sent,
          record { some = ended.2; no_frame = known.0; not_bad = known.1 },
          record { rose = rises_on before.ends now.ends after.ends on.ends ended.0.rose; nothing_left = ended.0.nothing_left },
        );
      }
  is_over incoming (end.Bad at) empty why on =
      let known : IsKnown incoming.frames (Some at) = subst (IsKnown incoming.frames) why.1 on.is_known in
      let still = stands_still before now after frames replies incoming why.0 on in record {
        talk = talk_of before after after frames replies incoming (incoming.frames.rest ++ on.keeps.dropped) still (cut_bad incoming.frames (received_in on.passed) frames empty on.keeps);
        counts = omega arith;
        ends_as = (
          on.sent,
          known.1 ∙ on.keeps.is_place ∙ ap (λ (waiting : List (List ℕ)). counted (length (joined (frames ++ waiting)))) empty ∙ ap (λ (some : List (List ℕ)). counted (length (joined some))) (append-nil frames),
          inr (bad_stays incoming.frames.rest on.keeps.dropped known.0),
        );
      }
  is_over incoming end.Memory empty out on = record {
    talk = record {
      passed = received_with on.passed out.piece;
      went = out.brings.passed ∙ ap (λ (t : List Passed). received_with t out.piece) on.went ∙ append_assoc before.transcript on.passed (received out.piece ∷ []);
      left =
          came_more before.left now.left after.left (received_in on.passed) out.piece on.left out.brings.left
          ∙ ap (λ (given : List ℕ). left_before given after.left) (sym (received_with_received on.passed out.piece));
      behind = behind_of incoming.frames (received_in on.passed) frames on.keeps ++ out.piece;
      cut = subst (λ (given : List ℕ). SplitsInto given frames (behind_of incoming.frames (received_in on.passed) frames on.keeps ++ out.piece)) (sym (received_with_received on.passed out.piece))
          (cut_on (received_in on.passed) out.piece frames (behind_of incoming.frames (received_in on.passed) frames on.keeps) (cut_of incoming.frames (received_in on.passed) frames on.keeps));
      count = length (all_said replies);
      sent = sent_with_received on.passed out.piece ∙ on.sent ∙ sym (take_all (length (all_said replies)) (all_said replies) (omega arith)) ∙ ap (take (length (all_said replies))) (sym (append-nil (all_said replies)));
      answers_first = held_with_received (AllAnswered frames replies) on.passed out.piece on.answers_first (all_now before now after frames replies incoming empty out.unrefused on);
      faults = le_on before.faults now.faults after.faults on.faults out.brings.faults;
      ends = le_on before.ends now.ends after.ends on.ends out.brings.ends;
    };
    counts = omega arith;
    ends_as = tt;
  }

  -- a frame was taken that is no request
  pub over_none : (old new : Incoming) (frame : List ℕ) → Taking old.frames new.frames frame → is_none frame → IsStill now after → Stands before now frames replies old → EndedTalk before now after frames replies is_none (end.Bad old.place)
  over_none old new frame taking none still on =
      let next = next_of old.frames new.frames frame (received_in on.passed) frames taking.is on.keeps in
      let stands = stands_still before now after frames replies old still on in record {
        talk = talk_of before after after frames replies old (framed frame ++ next.behind) stands next.cut;
        counts = omega arith;
        ends_as = (on.sent, on.is_place, inl record { frame = frame; behind = next.behind; is_frame = next.is_frame; prefix = refl; is_so = none });
      }
