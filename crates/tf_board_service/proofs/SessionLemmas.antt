-- A session goes on from frame to frame, and ends.
use Rattle.std.proofs.Common.{◌≡◌, ℕ, ◌+◌, List, [], ◌∷◌, ◌++◌, length, Option, Some, None, inl, inr, refl, sym, ap, ◌∙◌, subst, arith, append-nil, append_assoc, length-append}
use Rattle.std.specs.Prelude.{◌⊎◌}
use Rattle.std.proofs.lemmas.List.{map-append}
use Rattle.tf_ports.specs.Ports.{SeenLink, seen_link}
use Rattle.tf_ports.specs.Transcript.{Passed, received_in}
use Rattle.tf_wire.specs.Stream.{KeptFrames, counted, KeepsStream, IsFrame, framed}
use Rattle.tf_sessions.specs.Receiving.{HasNothingMore, IsStill, TakesIn}
use Rattle.tf_sessions.specs.Talks.{Stands, Talk, TalkEndsAs}
use Rattle.tf_sessions.specs.declared.incoming.Incoming.{Incoming}
use Rattle.tf_sessions.specs.declared.incoming.ServeEnd.{ServeEnd}
use Rattle.tf_sessions.proofs.FrameLemmas.{Taking, next_of}
use Rattle.tf_sessions.proofs.TalkLemmas.{is_over, over_none, rises_on, stands_answered, starts, takes_in, talk_of, talk_replied}
use Rattle.tf_board.specs.declared.commands.Command.{Command}
use Rattle.tf_board.specs.declared.calls.BoardRequest.{BoardRequest}
use Rattle.tf_shared_board.specs.Shared.{followed_by}
use Rattle.tf_shared_board.specs.declared.calls.Made.{Made}
use Rattle.tf_board_service.specs.Sessions.{call_made, Exchange, MadeBy, NeverFall, as_list, calls_by, first_of, told, replies, reply_frame, AreRead, IsMoreAt, IsNextCall, SpellsNone, board_request_in, talk_end}
use Rattle.tf_board_service.specs.Turns.{AnswersFrame, HasAnsweredAll, HasNoReply, HasTaken, HasWaited, IsOver, LosesReply, SaysNothing, SoFar, StopsFrame}
use Rattle.tf_board_service.specs.declared.replies.BoardReply.{BoardReply}
use Rattle.tf_board_service.specs.declared.sessions.SessionEnd.{SessionEnd}
use Rattle.tf_board_service.specs.declared.sessions.SessionEnd.TheVariants as end
use Rattle.tf_board_service.proofs.OwnLemmas.{own_call}
use Rattle.tf_board_service.proofs.PointLemmas.{by_own, call_now, first_stays, followed_length, followed_on, made_more, made_stays, made_unsaid, newer_of, points_more, points_stay, replies_stay, told_now}

-- nobody made a call
pub waited_none : (number : ℕ) (calls : List Made) → HasWaited number calls calls
waited_none number calls = record { others = []; is = sym (append-nil calls); apart = tt }

-- one request more was read
read_more : (frames : List (List ℕ)) (exchanges : List Exchange) (frame : List ℕ) (e : Exchange) → AreRead frames exchanges → board_request_in frame ≡ Some e.request → AreRead (frames ++ frame ∷ []) (exchanges ++ e ∷ [])
read_more [] [] frame e read one = (one, tt)
read_more [] (x ∷ exchanges) frame e read one = absurd read
read_more (f ∷ frames) [] frame e read one = absurd read
read_more (f ∷ frames) (x ∷ exchanges) frame e read one = (read.0, read_more frames exchanges frame e read.1 one)

-- nothing passed over a link
still : (now : SeenLink) → IsStill now now
still now = record { left = refl; passed = refl; faults = omega arith; ends = omega arith }

-- where no call was made but those of the requests that were answered
none_more : (number : ℕ) (past : List Command) (behind : List ℕ) (how : SessionEnd) → IsMoreAt how number past behind []
none_more number past behind end.Ended = refl
none_more number past behind end.Lost = refl
none_more number past behind (end.Bad at) = refl
none_more number past behind end.Halted = inl refl

-- a talk that is over, and the calls besides those of its requests
record OverTalk (number : ℕ) (past : List Command) (before now : SeenLink) (frames said : List (List ℕ)) (more : List Made) (how : SessionEnd) : Type 0 where
  talk : Talk before now frames said []
  ends_as : TalkEndsAs SpellsNone (talk_end how) talk
  is_more : IsMoreAt how number past talk.behind more

module _ (number : ℕ) (past : List Command) where
  -- the session is over
  over_of : (calls : List Made) (before now : SeenLink) (points : List ℕ) (frames : List (List ℕ)) (exchanges : List Exchange) (more : List Made) (how : SessionEnd) → SoFar number past calls points frames exchanges more
      → OverTalk number (followed_by past calls) before now frames (replies (followed_by past calls) exchanges) more how → IsOver number past calls before now points how
  over_of calls before now points frames exchanges more how far over = record {
    serves = record {
      frames = frames;
      exchanges = exchanges;
      read = far.read;
      points_are = far.points_are;
      rising = far.rising;
      talk = over.talk;
      more = more;
      made = far.made;
    };
    ends_as = (over.ends_as, over.is_more);
  }

  -- ---- calls are added

  -- the commands with more calls are some commands before those from then
  newer_on : (old new more : List Made) → new ≡ old ++ more → (newer : List Command) × (followed_by past new ≡ newer ++ followed_by past old) × (length newer ≡ length more)
  newer_on old new more is =
      let r = newer_of (followed_by past old) more in
      (r.0, ap (λ (l : List Made). followed_by past l) is ∙ followed_on past old more ∙ r.1, r.2)

  -- a session's replies stay as they were sent
  replies_on : (old new more : List Made) (exchanges : List Exchange) → new ≡ old ++ more → NeverFall number (followed_by past old) (length past) exchanges → replies (followed_by past old) exchanges ≡ replies (followed_by past new) exchanges
  replies_on old new more exchanges is rising =
      let r = newer_on old new more is in
      sym (ap (λ (p : List Command). replies p exchanges) r.1 ∙ replies_stay number (followed_by past old) r.0 (length past) exchanges rising)

  -- others made calls, and a session's requests stay as they were answered
  far_waited : (old new : List Made) (points : List ℕ) (frames : List (List ℕ)) (exchanges : List Exchange) (more : List Made) → HasWaited number old new → SoFar number past old points frames exchanges more → SoFar number past new points frames exchanges more
  far_waited old new points frames exchanges more w far =
      let J : List Command = followed_by past old in
      let r = newer_on old new w.others w.is in record {
        read = far.read;
        points_are = far.points_are;
        rising = subst (λ (p : List Command). NeverFall number p (length past) exchanges) (sym r.1) (points_stay number J r.0 (length past) exchanges far.rising);
        made = subst (λ (p : List Command). MadeBy number p (length past) new exchanges more) (sym r.1)
            (subst (λ (l : List Made). MadeBy number (r.0 ++ J) (length past) l exchanges more) (sym w.is) (made_stays number J old r.0 w.others (length past) (length past) exchanges more w.apart far.rising far.made));
      }

  module _ (old new : List Made) (before now : SeenLink) (points : List ℕ) (w : HasWaited number old new) where
    next_waited : (behind : List ℕ) (more : List Made) → IsNextCall number (followed_by past old) behind more → IsNextCall number (followed_by past new) behind more
    next_waited behind more next =
        let r = newer_on old new w.others w.is in record {
          request = next.request;
          point = next.point;
          within = omega (arith, next.within, ap length r.1, length-append r.0 (followed_by past old));
          begins = next.begins;
          call = next.call;
          makes = ap (λ (p : List Command). call_made number (first_of next.point p) next.request) r.1
              ∙ ap (λ (p : List Command). call_made number p next.request) (first_stays next.point r.0 (followed_by past old) next.within) ∙ next.makes;
          is = next.is;
        }

    more_waited : (how : SessionEnd) (behind : List ℕ) (more : List Made) → IsMoreAt how number (followed_by past old) behind more → IsMoreAt how number (followed_by past new) behind more
    more_waited end.Ended behind more is = is
    more_waited end.Lost behind more is = is
    more_waited (end.Bad at) behind more is = is
    more_waited end.Halted behind more (inl none) = inl none
    more_waited end.Halted behind more (inr next) = inr (next_waited behind more next)

    pub over_waited : (how : SessionEnd) → IsOver number past old before now points how → IsOver number past new before now points how
    over_waited how over =
        let s = over.serves in
        let far : SoFar number past old points s.frames s.exchanges s.more = record { read = s.read; points_are = s.points_are; rising = s.rising; made = s.made } in
        over_of new before now points s.frames s.exchanges s.more how (far_waited old new points s.frames s.exchanges s.more w far)
        (subst (λ (said : List (List ℕ)). OverTalk number (followed_by past new) before now s.frames said s.more how) (replies_on old new w.others s.exchanges w.is s.rising)
        record { talk = s.talk; ends_as = over.ends_as.0; is_more = more_waited how s.talk.behind s.more over.ends_as.1 })

  -- ---- one request more

  module _ (old new : List Made) (points : List ℕ) (frames : List (List ℕ)) (exchanges : List Exchange) (frame : List ℕ) (new_points : List ℕ) (reply : BoardReply)
      (taken : HasTaken number past frame old new points new_points reply) (had : SoFar number past old points frames exchanges []) where
    abbrev mid : List Made
    mid = taken.turn.mid

    abbrev J : List Command
    J = followed_by past mid

    abbrev one : Exchange
    one = record { request = taken.asked; point = taken.point }

    far : SoFar number past mid points frames exchanges []
    far = far_waited old mid points frames exchanges [] taken.turn.waited had

    abbrev mine : List Made
    mine = as_list (call_made number J taken.asked)

    grown : (newer : List Command) × (followed_by past new ≡ newer ++ J) × (length newer ≡ length mine)
    grown = newer_on mid new mine taken.turn.is

    replies_more : replies (followed_by past new) (exchanges ++ one ∷ []) ≡ replies (followed_by past old) exchanges ++ reply_frame reply ∷ []
    replies_more =
        ap (λ (p : List Command). replies p (exchanges ++ one ∷ [])) grown.1
        ∙ map-append (told (grown.0 ++ J)) exchanges (one ∷ [])
        ∙ ap (λ (l : List (List ℕ)). l ++ told (grown.0 ++ J) one ∷ []) (replies_stay number J grown.0 (length past) exchanges far.rising ∙ sym (replies_on old mid taken.turn.waited.others exchanges taken.turn.waited.is had.rising))
        ∙ ap (λ (last : List ℕ). replies (followed_by past old) exchanges ++ last ∷ []) (told_now number J grown.0 one taken.turn.point_is ∙ ap reply_frame (sym taken.turn.reply_is))

    far_more : SoFar number past new new_points (frames ++ frame ∷ []) (exchanges ++ one ∷ []) []
    far_more = record {
      read = read_more frames exchanges frame one had.read taken.read;
      points_are = taken.points ∙ ap (λ (l : List ℕ). l ++ taken.point ∷ []) had.points_are ∙ sym (map-append (λ (e : Exchange). e.point) exchanges (one ∷ []));
      rising = subst (λ (p : List Command). NeverFall number p (length past) (exchanges ++ one ∷ [])) (sym grown.1) (points_more number J grown.0 (length past) exchanges one far.rising taken.turn.point_is grown.2);
      made =
          subst (λ (p : List Command). MadeBy number p (length past) new (exchanges ++ one ∷ []) []) (sym grown.1)
          (subst (λ (l : List Made). MadeBy number (grown.0 ++ J) (length past) l (exchanges ++ one ∷ []) []) (sym taken.turn.is)
          (made_more number J mid grown.0 (length past) (length past) exchanges one (own_call number J taken.asked) far.rising taken.turn.point_is (followed_length past mid) far.made));
    }

  module _ (old new : List Made) (before now after : SeenLink) (points new_points : List ℕ) (kept rest : Incoming) (frame : List ℕ) (taking : Taking kept.frames rest.frames frame) (on : HasAnsweredAll number past old before now points kept) where
    abbrev said : List (List ℕ)
    said = replies (followed_by past old) on.exchanges

    -- it was answered
    pub answered : rest.refused ≡ kept.refused → rest.place ≡ counted (counted (kept.place + 4) + length frame) → AnswersFrame number past frame old new points new_points now after → HasAnsweredAll number past new before after new_points rest
    answered free place a = record {
      taken = on.taken ++ frame ∷ [];
      exchanges = on.exchanges ++ record { request = a.taken.asked; point = a.taken.point } ∷ [];
      so_far = far_more old new points on.taken on.exchanges frame new_points a.reply a.taken on.so_far;
      stands = subst (λ (all : List (List ℕ)). Stands before after (on.taken ++ frame ∷ []) all rest) (sym (replies_more old new points on.taken on.exchanges frame new_points a.reply a.taken on.so_far))
          (stands_answered before now after on.taken said kept rest frame (reply_frame a.reply) taking free place a.says on.stands);
    }

    -- the link couldn't send its reply
    stopped_lost : LosesReply number past frame old new points new_points now after → IsOver number past new before after new_points end.Lost
    stopped_lost a =
        let exchanges : List Exchange = on.exchanges ++ record { request = a.taken.asked; point = a.taken.point } ∷ [] in
        over_of new before after new_points (on.taken ++ frame ∷ []) exchanges [] end.Lost (far_more old new points on.taken on.exchanges frame new_points a.reply a.taken on.so_far)
        (subst (λ (all : List (List ℕ)). OverTalk number (followed_by past new) before after (on.taken ++ frame ∷ []) all [] end.Lost) (sym (replies_more old new points on.taken on.exchanges frame new_points a.reply a.taken on.so_far))
        record {
          talk = talk_replied before now after on.taken said kept rest frame (reply_frame a.reply) taking on.stands a.part;
          ends_as = inl (rises_on before.faults now.faults after.faults on.stands.faults a.rose);
          is_more = refl;
        })

    -- nothing was said, and no call was made
    unchanged : (how : SessionEnd) → SaysNothing points new_points now after → new ≡ old → IsOver number past old before now points how → IsOver number past new before after new_points how
    unchanged how none same over =
        subst (λ (l : List Made). IsOver number past l before after new_points how) (sym same)
        (subst (λ (s : SeenLink). IsOver number past old before s new_points how) (sym none.link) (subst (λ (p : List ℕ). IsOver number past old before now p how) (sym none.points) over))

    -- it spells no request
    stopped_bad : SaysNothing points new_points now after → new ≡ old → SpellsNone frame → IsOver number past new before after new_points (end.Bad kept.place)
    stopped_bad none same bad =
        let over = over_none before now now on.taken said SpellsNone kept rest frame taking bad (still now) on.stands in
        unchanged (end.Bad kept.place) none same (over_of old before now points on.taken on.exchanges [] (end.Bad kept.place) on.so_far record { talk = over.talk; ends_as = over.ends_as; is_more = refl })

    -- it has no reply, where these are the calls now
    halted_with : (calls later more : List Made) → calls ≡ old ++ later → SoFar number past calls points on.taken on.exchanges more
        → ((behind : List ℕ) → IsFrame frame → IsMoreAt end.Halted number (followed_by past calls) (framed frame ++ behind) more) → IsOver number past calls before now points end.Halted
    halted_with calls later more grown far so =
        let next = next_of kept.frames rest.frames frame (received_in on.stands.passed) on.taken taking.is on.stands.keeps in
        over_of calls before now points on.taken on.exchanges more end.Halted far
        (subst (λ (all : List (List ℕ)). OverTalk number (followed_by past calls) before now on.taken all more end.Halted) (replies_on old calls later on.exchanges grown on.so_far.rising)
        record { talk = talk_of before now now on.taken said kept (framed frame ++ next.behind) on.stands next.cut; ends_as = tt; is_more = so next.behind next.is_frame })

    -- no call was made for it
    halted_none : (calls : List Made) → HasWaited number old calls → IsOver number past calls before now points end.Halted
    halted_none calls w = halted_with calls w.others [] w.is (far_waited old calls points on.taken on.exchanges [] w on.so_far) (λ behind is. inl refl)

    -- its call was made
    halted_made : (mid : List Made) (asked : BoardRequest) (m : Made) → HasWaited number old mid → board_request_in frame ≡ Some asked → call_made number (followed_by past mid) asked ≡ Some m → new ≡ mid ++ m ∷ []
        → IsOver number past new before now points end.Halted
    halted_made mid asked m w read call is =
        let J : List Command = followed_by past mid in
        let r = newer_on mid new (m ∷ []) is in
        let far = far_waited old mid points on.taken on.exchanges [] w on.so_far in
        let own : calls_by number (m ∷ []) ≡ m ∷ [] = subst (λ (o : Option Made). calls_by number (as_list o) ≡ as_list o) call (by_own number (call_made number J asked) (own_call number J asked)) in
        let now_call : call_made number (first_of (length J) (followed_by past new)) asked ≡ Some m =
        ap (λ (p : List Command). call_made number (first_of (length J) p) asked) r.1 ∙ call_now number J r.0 record { request = asked; point = length J } refl ∙ call in
        halted_with new (w.others ++ m ∷ []) (m ∷ []) (is ∙ ap (λ (l : List Made). l ++ m ∷ []) w.is ∙ append_assoc old w.others (m ∷ []))
        record {
          read = far.read;
          points_are = far.points_are;
          rising = subst (λ (p : List Command). NeverFall number p (length past) on.exchanges) (sym r.1) (points_stay number J r.0 (length past) on.exchanges far.rising);
          made = subst (λ (p : List Command). MadeBy number p (length past) new on.exchanges (m ∷ [])) (sym r.1)
              (subst (λ (l : List Made). MadeBy number (r.0 ++ J) (length past) l on.exchanges (m ∷ [])) (sym is) (made_unsaid number J mid r.0 (m ∷ []) (length past) (length past) on.exchanges own far.rising far.made));
        }
        (λ behind whole. inr record {
          request = asked;
          point = length J;
          within = omega (arith, ap length r.1, length-append r.0 J);
          begins = record { frame = frame; behind = behind; is_frame = whole; prefix = refl; is_so = read };
          call = m;
          makes = now_call;
          is = refl;
        })

    -- its turn was taken, but it has no reply
    halted_in : HasNoReply number past frame old new → IsOver number past new before now points end.Halted
    halted_in unsaid =
        let t = unsaid.turn in
        let none : t.mine ≡ [] → IsOver number past new before now points end.Halted = λ is.
        subst (λ (l : List Made). IsOver number past l before now points end.Halted) (sym (t.is ∙ ap (λ (l : List Made). t.mid ++ l) is ∙ append-nil t.mid)) (halted_none t.mid t.waited) in
        by none (call_made number (followed_by past t.mid) unsaid.asked) refl t.perhaps
      where
        by : (unsaid.turn.mine ≡ [] → IsOver number past new before now points end.Halted) → (o : Option Made) → call_made number (followed_by past unsaid.turn.mid) unsaid.asked ≡ o
            → (unsaid.turn.mine ≡ []) ⊎ (unsaid.turn.mine ≡ as_list (call_made number (followed_by past unsaid.turn.mid) unsaid.asked)) → IsOver number past new before now points end.Halted
        by none o is (inl nothing) = none nothing
        by none None is (inr same) = none (same ∙ ap as_list is)
        by none (Some m) is (inr same) = halted_made unsaid.turn.mid unsaid.asked m unsaid.turn.waited unsaid.read is (unsaid.turn.is ∙ ap (λ (l : List Made). unsaid.turn.mid ++ l) (same ∙ ap as_list is))

    -- the board is halted, or memory ran out
    stopped_halted : SaysNothing points new_points now after → (new ≡ old) ⊎ HasNoReply number past frame old new → IsOver number past new before after new_points end.Halted
    stopped_halted none (inl same) = unchanged end.Halted none same (halted_none old (waited_none number old))
    stopped_halted none (inr unsaid) =
        subst (λ (s : SeenLink). IsOver number past new before s new_points end.Halted) (sym none.link) (subst (λ (p : List ℕ). IsOver number past new before now p end.Halted) (sym none.points) (halted_in unsaid))

    -- why it wasn't answered
    pub stopped : (how : SessionEnd) → StopsFrame number past frame kept.place old new points new_points now after how → IsOver number past new before after new_points how
    stopped end.Ended why = absurd why
    stopped end.Lost why = stopped_lost why
    stopped (end.Bad at) why = subst (λ (n : ℕ). IsOver number past new before after new_points (end.Bad n)) (sym why.3) (stopped_bad why.0 why.1 why.2)
    stopped end.Halted why = stopped_halted why.0 why.1

  -- ---- no frame waits

  -- where the frames are as they were
  pub on_same : (calls : List Made) (before now : SeenLink) (points : List ℕ) (old new : Incoming) → new.frames ≡ old.frames → new.place ≡ old.place → new.refused ≡ old.refused → HasAnsweredAll number past calls before now points old → HasAnsweredAll number past calls before now points new
  on_same calls before now points old new frames place refused on =
      subst (λ (f : KeptFrames). HasAnsweredAll number past calls before now points record { frames = f; place = new.place; refused = new.refused }) (sym frames)
      (subst (λ (p : ℕ). HasAnsweredAll number past calls before now points record { frames = old.frames; place = p; refused = new.refused }) (sym place)
      (subst (λ (r : Option ℕ). HasAnsweredAll number past calls before now points record { frames = old.frames; place = old.place; refused = r }) (sym refused) on))

  module _ (calls : List Made) (before now after : SeenLink) (points : List ℕ) (incoming : Incoming) (empty : incoming.frames.waiting ≡ []) (on : HasAnsweredAll number past calls before now points incoming) where
    -- a piece came
    pub received : (new : Incoming) → TakesIn incoming new now after → HasAnsweredAll number past calls before after points new
    received new takes = record {
      taken = on.taken;
      exchanges = on.exchanges;
      so_far = on.so_far;
      stands = takes_in before now after on.taken (replies (followed_by past calls) on.exchanges) incoming new empty takes on.stands;
    }

    -- nothing more comes
    pub over : (how : SessionEnd) (why : ServeEnd) → talk_end how ≡ why → HasNothingMore incoming now after why → IsOver number past calls before after points how
    over how why same nothing =
        let all = replies (followed_by past calls) on.exchanges in
        let ended = is_over before now after on.taken all SpellsNone incoming (talk_end how) empty (subst (HasNothingMore incoming now after) (sym same) nothing) on.stands in
        over_of calls before after points on.taken on.exchanges [] how on.so_far record { talk = ended.talk; ends_as = ended.ends_as; is_more = none_more number (followed_by past calls) ended.talk.behind how }

  -- ---- nothing came yet

  pub begins : (now : SeenLink) (incoming : Incoming) → KeepsStream incoming.frames [] [] → incoming.place ≡ 0 → incoming.refused ≡ None → HasAnsweredAll number past [] now now [] incoming
  begins now incoming keeps first free = record {
    taken = [];
    exchanges = [];
    so_far = record { read = tt; points_are = refl; rising = omega arith; made = record { calls_are = refl; at_points = tt } };
    stands = starts now incoming keeps first free;
  }

-- a link that was ended is seen as it was
pub seen_ended : {L : Type 0} (left : L → Option (List ℕ)) (transcript : L → List Passed) (faults ends : L → ℕ) (old new : L) → (left new ≡ left old) × (transcript new ≡ transcript old) → (faults new ≡ faults old) × (ends new ≡ ends old)
    → seen_link left transcript faults ends new ≡ seen_link left transcript faults ends old
seen_ended left transcript faults ends old new same counts =
    ap (λ (l : Option (List ℕ)). made l (transcript new) (faults new) (ends new)) same.0 ∙ ap (λ (t : List Passed). made (left old) t (faults new) (ends new)) same.1
    ∙ ap (λ (n : ℕ). made (left old) (transcript old) n (ends new)) counts.0 ∙ ap (λ (n : ℕ). made (left old) (transcript old) (faults old) n) counts.1
  where
    made : Option (List ℕ) → List Passed → ℕ → ℕ → SeenLink
    made l t f e = record { left = l; transcript = t; faults = f; ends = e }
