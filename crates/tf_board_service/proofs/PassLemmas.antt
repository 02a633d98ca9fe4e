-- What a session gives back to the turnstile, and what its pass has seen then.
use Rattle.std.proofs.Common.{◌≡◌, ◌≢◌, ◌<◌, ◌+◌, ℕ, zero, suc, List, [], ◌∷◌, ◌++◌, length, map, Option, Some, None, inl, inr, refl, sym, ap, subst, ◌∙◌, arith, append-nil, append_assoc, slice_index_or}
use Rattle.std.specs.List.{All, AllByRecursion}
use Rattle.std.proofs.lemmas.List.{append_cancel_left, map-append}
use Rattle.std.proofs.lemmas.List.Elements.{recursion_from_All}
use Rattle.tf_desk.specs.State.{DeskState}
use Rattle.tf_board.specs.declared.commands.Command.{Command}
use Rattle.tf_turnstile.specs.Numbered.{IsLater, IsLonger, NoneBy}
use Rattle.tf_turnstile.specs.Passes.{TurnstileValue, PassValue, MayGive}
use Rattle.tf_turnstile.proofs.NumberedLemmas.{longer_same}
use Rattle.tf_shared_board.specs.Shared.{carried, numbered, followed_by, SharedValue, IsMade, IsShared}
use Rattle.tf_shared_board.specs.declared.calls.Made.{Made}
use Rattle.tf_board_service.specs.Sessions.{Answers, Makes, MakesNoCall, call_made, as_list, reply_of}
use Rattle.tf_board_service.specs.Serving.{IsServing, ServingValue, made_since}
use Rattle.tf_board_service.specs.Turning.{seen_calls, start_past}
use Rattle.tf_board_service.specs.Turns.{HasReplied, HasStopped, HasWaited}
use Rattle.tf_board_service.specs.declared.replies.BoardReply.{BoardReply}
use Rattle.tf_board.specs.declared.calls.BoardRequest.{BoardRequest}
use Rattle.tf_shared_board.proofs.CallLemmas.{length-followed, length-numbered}
use Rattle.tf_board_service.proofs.OwnLemmas.{own_call}
use Rattle.tf_board_service.proofs.TurnLemmas.{since_is}

-- ---- what is given back

module _ {K : Type 0} where
  -- no call was added
  pub longer_none : (n : ℕ) (old new : SharedValue K) → new.made ≡ old.made → IsLonger n (numbered old.made) (numbered new.made)
  longer_none n old new same = subst (λ (l : List Made). IsLonger n (numbered old.made) (numbered l)) (sym same) (longer_same n (numbered old.made))

  -- the value may be given that has what may never change, and calls of this number more
  pub gives_turn : (old pass : PassValue (ServingValue K) Made) (number : ℕ) (s kept : ServingValue K) → old.number ≡ number → pass ≡ record old { seen = pass.seen; taken = Some s } → kept.begun ≡ s.begun
      → IsLonger number (numbered s.now.made) (numbered kept.now.made) → MayGive (λ (c : ServingValue K). c.begun) (λ (c : ServingValue K). numbered c.now.made) pass kept
  gives_turn old pass number s kept is taken same longer = record {
    taken = s;
    has = ap (λ (p : PassValue (ServingValue K) Made). p.taken) taken;
    same = same;
    longer = subst (λ (n : ℕ). IsLonger n (numbered s.now.made) (numbered kept.now.made)) (sym (ap (λ (p : PassValue (ServingValue K) Made). p.number) taken ∙ is)) longer;
  }

module _ {K : Type 0} (state : K → DeskState) where
  -- how many commands there are
  pub counted : (s : SharedValue K) → IsShared state s → length s.start.past + length (numbered s.made) ≡ length s.board.past
  counted s shared = omega (arith, ap length shared.begins, length-followed s.start.past s.made, length-numbered s.made)

  -- a call was added
  longer_one : (m : Made) (old new : SharedValue K) → IsMade state m old new → IsLonger m.number (numbered old.made) (numbered new.made)
  longer_one m old new made =
      let only : All (λ (e : ℕ × Made). e.0 ≡ m.number) (carried m ∷ []) = λ k d h. elim k as (λ n. n < 1 → (slice_index_or (carried m ∷ []) n d).0 ≡ m.number) [ zero ↦ λ _. refl | suc n ↦ λ lt. absurd (omega (arith, lt)) ] h in
      record { mine = carried m ∷ []; begins = ap (λ (s : SharedValue K). numbered s.made) made.now ∙ map-append carried old.made (m ∷ []); own = only }

  longer_makes : (number : ℕ) (o : Option Made) (old new : SharedValue K) → ((m : Made) → o ≡ Some m → m.number ≡ number) → Makes state o old new → IsLonger number (numbered old.made) (numbered new.made)
  longer_makes number None old new own same = longer_none number old new (ap (λ (s : SharedValue K). s.made) same)
  longer_makes number (Some m) old new own made = subst (λ (n : ℕ). IsLonger n (numbered old.made) (numbered new.made)) (own m refl) (longer_one m old new made.0)

  -- a turn to answer a request
  pub longer_answers : (number : ℕ) (asked : BoardRequest) (old new : SharedValue K) (result : Option BoardReply) → Answers state number asked old new result → IsLonger number (numbered old.made) (numbered new.made)
  longer_answers number asked old new (Some reply) answers = longer_makes number (call_made number old.board.past asked) old new (own_call number old.board.past asked) answers.2
  longer_answers number asked old new None stops =
      subst (λ (l : List Made). IsLonger number (numbered old.made) (numbered l)) (sym stops.none.made)
      (elim stops.before [
        | inl same ↦ longer_none number old stops.mid (ap (λ (s : SharedValue K). s.made) same)
        | inr makes ↦ longer_makes number (call_made number old.board.past asked) old stops.mid (own_call number old.board.past asked) makes
      ])

-- ---- calls with their numbers, and without

pub unnumbered : (calls : List Made) → map (λ e. e.1) (numbered calls) ≡ calls
unnumbered [] = refl
unnumbered (m ∷ calls) = ap (λ (l : List Made). m ∷ l) (unnumbered calls)

-- of calls of which some were seen, the rest
seen_rest : (seen since : List (ℕ × Made)) (calls : List Made) → numbered calls ≡ seen ++ since → (rest : List Made) × (calls ≡ map (λ e. e.1) seen ++ rest) × (since ≡ numbered rest)
seen_rest [] since calls is = (calls, refl, sym is)
seen_rest (e ∷ seen) since [] is = absurd (cc)
seen_rest (e ∷ seen) since (m ∷ calls) is =
    let one : carried m ≡ e = cc in
    let more : numbered calls ≡ seen ++ since = cc in
    let r = seen_rest seen since calls more in
    (r.0, ap (λ (l : List Made). m ∷ l) r.1 ∙ ap (λ (x : Made). x ∷ (map (λ p. p.1) seen ++ r.0)) (ap (λ (p : ℕ × Made). p.1) one), r.2)

-- none of them carries that number
none_apart : (number : ℕ) (calls : List Made) → AllByRecursion (λ e. e.0 ≢ number) (numbered calls) → AllByRecursion (λ m. m.number ≢ number) calls
none_apart number [] all = tt
none_apart number (m ∷ calls) all = (all.0, none_apart number calls all.1)

-- what was seen, and then others' calls
pub later_waited : (number : ℕ) (seen now : List (ℕ × Made)) (calls : List Made) → IsLater number seen now → numbered calls ≡ now → HasWaited number (map (λ e. e.1) seen) calls
later_waited number seen now calls later is =
    let r = seen_rest seen later.since calls (is ∙ later.begins) in
    let none : NoneBy number (numbered r.0) = subst (λ (l : List (ℕ × Made)). NoneBy number l) r.2 later.others in
    record { others = r.0; is = r.1; apart = none_apart number r.0 (recursion_from_All (λ (e : ℕ × Made). e.0 ≢ number) (numbered r.0) none) }

-- ---- a turn

-- all calls since the start have been seen
pub all_seen : {K : Type 0} (state : K → DeskState) (start s : ServingValue K) (seen : List (ℕ × Made)) → start.now ≡ start.begun → s.begun ≡ start.begun → numbered s.now.made ≡ numbered start.now.made ++ seen → IsServing state s
    → numbered (made_since s.begun s.now) ≡ seen
all_seen {K} state start s seen fresh begun is kept =
    let first : s.begun.made ≡ start.now.made = ap (λ (x : SharedValue K). x.made) (begun ∙ sym fresh) in
    append_cancel_left (numbered start.now.made) (numbered (made_since s.begun s.now)) seen
    (ap (λ (l : List Made). numbered l ++ numbered (made_since s.begun s.now)) (sym first) ∙ sym (map-append carried s.begun.made (made_since s.begun s.now)) ∙ ap numbered (sym kept.made) ∙ is)

module _ {K : Type 0} (state : K → DeskState) (turnstile : TurnstileValue (ServingValue K)) (number : ℕ) (old : PassValue (ServingValue K) Made) (mid : List (ℕ × Made)) (new : PassValue (ServingValue K) Made) (c k : ServingValue K)
    (fresh : turnstile.start.now ≡ turnstile.start.begun) (later : IsLater number old.seen mid) (from : c.begun ≡ turnstile.start.begun) (same : k.begun ≡ c.begun)
    (had : numbered c.now.made ≡ numbered turnstile.start.now.made ++ mid) (has : numbered k.now.made ≡ numbered turnstile.start.now.made ++ new.seen) (kept_c : IsServing state c) (kept_k : IsServing state k) where
  abbrev before : List Made
  before = made_since c.begun c.now

  abbrev after : List Made
  after = made_since k.begun k.now

  -- the calls that the pass has seen then
  new_calls : seen_calls new ≡ after
  new_calls = ap (λ (l : List (ℕ × Made)). map (λ e. e.1) l) (sym (all_seen state turnstile.start k new.seen fresh (same ∙ from) has kept_k)) ∙ unnumbered after

  waited : HasWaited number (seen_calls old) before
  waited = later_waited number old.seen mid before later (all_seen state turnstile.start c mid fresh from had kept_c)

  -- these calls were added in this turn
  added : (mine : List Made) → k.now.made ≡ c.now.made ++ mine → seen_calls new ≡ before ++ mine
  added mine is =
      let made : k.now.made ≡ k.begun.made ++ (before ++ mine) =
      is ∙ ap (λ (l : List Made). l ++ mine) kept_c.made ∙ append_assoc c.begun.made before mine ∙ ap (λ (s : SharedValue K). s.made ++ (before ++ mine)) (sym same) in
      new_calls ∙ since_is k.begun k.now (before ++ mine) made

  -- the commands then are those of the start and of the calls
  past_c : c.now.board.past ≡ followed_by (start_past turnstile) before
  past_c = kept_c.list ∙ ap (λ (s : SharedValue K). followed_by s.board.past before) from

  -- no call was
  pub turned_none : MakesNoCall state c.now k.now → HasWaited number (seen_calls old) (seen_calls new)
  turned_none none = subst (HasWaited number (seen_calls old)) (sym (added [] (none.made ∙ sym (append-nil c.now.made)) ∙ append-nil before)) waited

  makes_list : (o : Option Made) (s : SharedValue K) → Makes state o c.now s → s.made ≡ c.now.made ++ as_list o
  makes_list None s is = ap (λ (x : SharedValue K). x.made) is ∙ sym (append-nil c.now.made)
  makes_list (Some m) s made = ap (λ (x : SharedValue K). x.made) made.0.now

  here : (asked : BoardRequest) → as_list (call_made number c.now.board.past asked) ≡ as_list (call_made number (followed_by (start_past turnstile) before) asked)
  here asked = ap (λ (p : List Command). as_list (call_made number p asked)) past_c

  -- a request was answered
  pub turned_replied : (asked : BoardRequest) (point : ℕ) (reply : BoardReply) → point ≡ length c.now.board.past → Answers state number asked c.now k.now (Some reply)
      → HasReplied (start_past turnstile) number asked (seen_calls old) (seen_calls new) point reply
  turned_replied asked point reply is answers = record {
    mid = before;
    waited = waited;
    point_is = is ∙ ap length past_c;
    reply_is = answers.0 ∙ ap (λ (p : List Command). reply_of p asked) past_c;
    is = added (as_list (call_made number c.now.board.past asked)) (makes_list (call_made number c.now.board.past asked) k.now answers.2) ∙ ap (λ (l : List Made). before ++ l) (here asked);
  }

  -- it wasn't
  pub turned_stopped : (asked : BoardRequest) → Answers state number asked c.now k.now None → HasStopped (start_past turnstile) number asked (seen_calls old) (seen_calls new)
  turned_stopped asked stops = elim stops.before [
    | inl same_mid ↦ record {
      mid = before;
      waited = waited;
      mine = [];
      perhaps = inl refl;
      is = added [] (stops.none.made ∙ ap (λ (s : SharedValue K). s.made) same_mid ∙ sym (append-nil c.now.made));
    }
    | inr makes ↦ record {
      mid = before;
      waited = waited;
      mine = as_list (call_made number c.now.board.past asked);
      perhaps = inr (here asked);
      is = added (as_list (call_made number c.now.board.past asked)) (stops.none.made ∙ makes_list (call_made number c.now.board.past asked) stops.mid makes);
    }
  ]
