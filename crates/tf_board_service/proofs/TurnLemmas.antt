-- What the type of a shared board that sessions hand round keeps.
use Rattle.std.proofs.Common.{◌≡◌, ◌≤◌, ℕ, List, [], ◌∷◌, ◌++◌, length, drop, Option, Some, None, inl, inr, refl, sym, ap, subst, ◌∙◌, arith, append-nil, append_assoc}
use Rattle.std.specs.Prelude.{IfSome, IsSome}
use Rattle.tf_numbers.specs.Numbers.{Rises}
use Rattle.tf_desk.specs.State.{DeskState, anything, GoesOn}
use Rattle.tf_desk.proofs.StateLemmas.{goes_none, goes_on}
use Rattle.tf_board.specs.Board.{BoardValue}
use Rattle.tf_board.specs.declared.commands.Command.{Command}
use Rattle.tf_shared_board.specs.Shared.{followed_by, made_command, SharedValue, HasCause, IsMade, halt_or_memory}
use Rattle.tf_shared_board.specs.declared.calls.BoardHalt.{BoardHalt}
use Rattle.tf_shared_board.specs.declared.calls.BoardHalt.TheVariants as halt
use Rattle.tf_shared_board.specs.declared.calls.Made.{Made}
use Rattle.tf_shared_board.proofs.CallLemmas.{followed_more}
use Rattle.tf_board_service.specs.Sessions.{Answers, Makes, MakesNoCall, StopsAfter, call_made}
use Rattle.tf_board_service.specs.Serving.{IsServing, ServingValue, made_since}
use Rattle.tf_board_service.specs.declared.replies.BoardReply.{BoardReply}
use Rattle.tf_board.specs.declared.calls.BoardRequest.{BoardRequest}

-- what comes after a list's beginning
drop_begun : {A : Type 0} (xs ys : List A) → drop (length xs) (xs ++ ys) ≡ ys
drop_begun [] ys = refl
drop_begun (x ∷ xs) ys = drop_begun xs ys

-- the calls since are those that were added
pub since_is : {K : Type 0} (old new : SharedValue K) (added : List Made) → new.made ≡ old.made ++ added → made_since old new ≡ added
since_is old new added is = ap (λ (l : List Made). drop (length old.made) l) is ∙ drop_begun old.made added

module _ {K : Type 0} (state : K → DeskState) where
  -- what it keeps, where these calls were added
  serving_of : (c : ServingValue K) (added : List Made) → c.now.made ≡ c.begun.made ++ added → c.now.board.past ≡ followed_by c.begun.board.past added
      → c.now.start ≡ c.begun.start → GoesOn anything (state c.begun.board.journal.desk) (state c.now.board.journal.desk) → (c.begun.halt ≡ None → IfSome c.now.halt (HasCause state c.begun.board c.now.board))
      → ((halt : BoardHalt) → c.begun.halt ≡ Some halt → (c.now.halt ≡ Some halt) × (added ≡ [])) → IsServing state c
  serving_of c added made list start goes cause stays =
      let same : made_since c.begun c.now ≡ added = since_is c.begun c.now added made in
      record {
        made = made ∙ ap (λ (l : List Made). c.begun.made ++ l) (sym same);
        list = list ∙ ap (λ (l : List Made). followed_by c.begun.board.past l) (sym same);
        start = start;
        goes = goes;
        cause = cause;
        stays = λ h is. ((stays h is).0, same ∙ (stays h is).1);
      }

  -- a cause stays one as the board goes on, where it is the same in the end
  rises_since : (start old new : ℕ) → start ≤ old → Rises old new → Rises start new
  rises_since start old new le rises = omega (arith, le, rises)

  -- a cause since now is one since the call began
  cause_since : (begun old new : BoardValue K) (h : BoardHalt) → GoesOn anything (state begun.journal.desk) (state old.journal.desk) → HasCause state old new h → HasCause state begun new h
  cause_since begun old new halt.Disk goes cause = rises_since _ _ _ goes.on_disk.disk_faults cause
  cause_since begun old new (halt.Full size need) goes cause = cause
  cause_since begun old new halt.Memory goes cause = tt

  -- the call begins
  pub kept_begun : (s : SharedValue K) → IsServing state record { begun = s; now = s }
  kept_begun s =
      serving_of record { begun = s; now = s } [] (sym (append-nil s.made)) refl refl goes_none
      (λ is. subst (λ (h : Option BoardHalt). IfSome h (HasCause state s.board s.board)) (sym is) tt) (λ h is. (is, refl))

  -- no call was made
  pub kept_none : (c : ServingValue K) (new : SharedValue K) → IsServing state c → MakesNoCall state c.now new → IsServing state (record c { now = new })
  kept_none c new k n =
      serving_of (record c { now = new }) (made_since c.begun c.now) (n.made ∙ k.made) (n.past ∙ k.list) (n.start ∙ k.start)
      (goes_on {during = anything} k.goes n.goes (λ told image text left. tt) (λ told image text left. tt)) (λ is. by c.now.halt refl (k.cause is))
      (λ h is. (let s = k.stays h is in (n.stays h s.0, s.1)))
    where
      since : (h : Option BoardHalt) → IfSome h (HasCause state c.now.board new.board) → IfSome h (HasCause state c.begun.board new.board)
      since None cause = tt
      since (Some h) cause = cause_since c.begun.board c.now.board new.board h k.goes cause

      by : (o : Option BoardHalt) → c.now.halt ≡ o → IfSome o (HasCause state c.begun.board c.now.board) → IfSome new.halt (HasCause state c.begun.board new.board)
      by None is cause = since new.halt (n.cause is)
      by (Some h) is cause =
          subst (λ (o : Option BoardHalt). IfSome o (HasCause state c.begun.board new.board)) (sym (n.stays h is))
          (subst (λ (b : BoardValue K). HasCause state c.begun.board b h) (sym (n.still h is)) cause)

  -- a call was made
  pub kept_one : (m : Made) (c : ServingValue K) (new : SharedValue K) → IsServing state c → IsMade state m c.now new → GoesOn anything (state c.now.board.journal.desk) (state new.board.journal.desk) → IsServing state (record c { now = new })
  kept_one m c new k made goes =
      serving_of (record c { now = new }) (made_since c.begun c.now ++ m ∷ [])
      (ap (λ (s : SharedValue K). s.made) made.now ∙ ap (λ (l : List Made). l ++ m ∷ []) k.made ∙ append_assoc c.begun.made (made_since c.begun c.now) (m ∷ []))
      (ap (λ (b : BoardValue K). b.past) made.recorded.now ∙ ap (λ (l : List Command). made_command m ∷ l) k.list ∙ sym (followed_more c.begun.board.past (made_since c.begun c.now) m))
      (ap (λ (s : SharedValue K). s.start) made.now ∙ k.start)
      (goes_on {during = anything} k.goes goes (λ told image text left. tt) (λ told image text left. tt))
      (λ is. subst (λ (h : Option BoardHalt). IfSome h (HasCause state c.begun.board new.board)) (sym (ap (λ (s : SharedValue K). s.halt) made.now ∙ made.going)) tt)
      (λ h is. (let clash : Some h ≡ None = sym (k.stays h is).0 ∙ made.going in absurd (cc)))

  -- a call was made, or none
  kept_makes : (o : Option Made) (c : ServingValue K) (new : SharedValue K) → IsServing state c → Makes state o c.now new → IsServing state (record c { now = new })
  kept_makes None c new k same = subst (λ (s : SharedValue K). IsServing state (record c { now = s })) (sym same) k
  kept_makes (Some m) c new k made = kept_one m c new k made.0 made.1

  -- a request was answered, or wasn't
  pub kept_answers : (number : ℕ) (asked : BoardRequest) (c : ServingValue K) (new : SharedValue K) (result : Option BoardReply) → IsServing state c → Answers state number asked c.now new result → IsServing state (record c { now = new })
  kept_answers number asked c new (Some reply) k answers = kept_makes (call_made number c.now.board.past asked) c new k answers.2
  kept_answers number asked c new None k stops = elim stops.before [
    | inl same ↦ kept_none c new k (subst (λ (s : SharedValue K). MakesNoCall state s new) same stops.none)
    | inr makes ↦ kept_none (record c { now = stops.mid }) new (kept_makes (call_made number c.now.board.past asked) c stops.mid k makes) stops.none
  ]

  -- halted for want of memory, unless it was
  pub halts_none : (old new : SharedValue K) → new ≡ record old { halt = halt_or_memory old.halt } → MakesNoCall state old new
  halts_none old new is = subst (λ (s : SharedValue K). MakesNoCall state old s) (sym is) record {
    start = refl;
    made = refl;
    past = refl;
    goes = goes_none;
    stays = λ h here. ap halt_or_memory here;
    still = λ h here. refl;
    cause = λ none. subst (λ (o : Option BoardHalt). IfSome (halt_or_memory o) (HasCause state old.board old.board)) (sym none) tt;
  }

  -- it is halted then
  pub halts_some : (old new : SharedValue K) → new ≡ record old { halt = halt_or_memory old.halt } → IsSome new.halt
  halts_some old new is = subst (λ (s : SharedValue K). IsSome s.halt) (sym is) (by old.halt)
    where
      by : (o : Option BoardHalt) → IsSome (halt_or_memory o)
      by None = refl
      by (Some h) = refl

  -- it is halted without a call
  pub stops_unasked : (o : Option Made) (old new : SharedValue K) → new ≡ record old { halt = halt_or_memory old.halt } → StopsAfter state o old new
  stops_unasked o old new is = record { mid = old; before = inl refl; none = halts_none old new is; halted = halts_some old new is }
