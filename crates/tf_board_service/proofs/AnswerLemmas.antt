-- How a request is answered.
use Rattle.std.proofs.Common.{◌≡◌, ◌≢◌, ◌<◌, ◌≤◌, ◌+◌, ◌-◌, ℕ, zero, suc, List, [], ◌∷◌, ◌++◌, length, map, take, drop, Option, Some, None, inl, inr, refl, sym, ap, subst, ◌∙◌, arith, length-append, append-nil}
use Rattle.std.specs.Prelude.{◌⊎◌, Result, Ok, Err, IfOk, IfSome, IsSome, is_some, true, false, slice_get, slice_range}
use Rattle.std.specs.List.{flat_map}
use Rattle.tf_values.specs.declared.faults.Memory.{Memory}
use Rattle.tf_desk.specs.Crash.{Pairs}
use Rattle.tf_desk.specs.State.{DeskState, anything, GoesOn}
use Rattle.tf_desk.proofs.StateLemmas.{goes_none, goes_within}
use Rattle.tf_report.specs.Lines.{job_line}
use Rattle.tf_report.specs.declared.job_lines.JobLine.{JobLine}
use Rattle.tf_board.specs.Board.{BoardValue}
use Rattle.tf_board.specs.Does.{call_text, fault_text, fault_of, asked_for, refuses_call, id_named, job_of}
use Rattle.tf_board.specs.declared.commands.Command.{Command}
use Rattle.tf_board.specs.declared.faults.BoardFault.{BoardFault}
use Rattle.tf_board.specs.declared.faults.BoardFault.TheVariants as fault
use Rattle.tf_board.specs.declared.rules.Refusal.{Refusal}
use Rattle.tf_board.specs.declared.rules.Refusal.TheVariants as refusal
use Rattle.tf_shared_board.specs.Shared.{FailsToAsk, IsRule, IsRuled, fault_for, SharedValue, HasCause, IsMade, Halts, halt_or_memory}
use Rattle.tf_shared_board.specs.declared.calls.BoardHalt.{BoardHalt}
use Rattle.tf_shared_board.specs.declared.calls.BoardHalt.TheVariants as halt
use Rattle.tf_board.specs.declared.calls.JobCall.{JobCall}
use Rattle.tf_shared_board.specs.declared.calls.Made.{Made}
use Rattle.tf_board_service.specs.Sessions.{Answers, CallsSo, Makes, MakesNoCall, OrHalts, StopsAfter, call_made, unless_refused, call_reply, first_lines, reply_of, says, without_name, without_feed, list_line}
use Rattle.tf_board_service.specs.declared.replies.BoardReply.{BoardReply}
use Rattle.tf_board_service.specs.declared.replies.BoardReply.TheVariants as reply
use Rattle.tf_board.specs.declared.calls.BoardRequest.{BoardRequest}
use Rattle.tf_board.specs.declared.calls.BoardRequest.TheVariants as request
use Rattle.tf_board_service.proofs.TurnLemmas.{halts_none, halts_some, stops_unasked}

-- ---- messages of rules

-- the message of a rule has more than the program's name and a line feed
pub long_rule : (f : BoardFault) → IsRule f → 11 ≤ length (fault_text f)
unfolding fault_text
long_rule (fault.NoJob id) rule = omega arith
long_rule (fault.Gone id) rule = omega arith
long_rule (fault.Claimed owner) rule = omega arith
long_rule (fault.NotOwner owner) rule = omega arith
long_rule fault.Disk rule = absurd rule
long_rule (fault.Full size need) rule = absurd rule
long_rule fault.Halted rule = absurd rule
long_rule fault.Memory rule = absurd rule

-- a board that is halted is no rule
pub rule_goes : (f : BoardFault) → IsRule f → f ≢ fault.Halted
rule_goes f rule is = subst IsRule is rule

-- the fault of a refusal is one of a rule
pub rule_of : (why : Refusal) (id : List ℕ) (f : BoardFault) → f ≡ fault_of why id → IsRule f
rule_of why id f is = subst IsRule (sym is) (by why)
  where
    by : (w : Refusal) → IsRule (fault_of w id)
    by refusal.NoJob = tt
    by refusal.Gone = tt
    by (refusal.Claimed owner) = tt
    by (refusal.NotOwner owner) = tt

-- ---- the last call

at_end : {X : Type 0} (xs : List X) (x : X) → slice_get (xs ++ x ∷ []) (length xs) ≡ Some x
at_end [] x = refl
at_end (y ∷ ys) x = at_end ys x

-- what stands last in a list
pub last_of : {X : Type 0} (xs : List X) (x : X) → slice_get (xs ++ x ∷ []) (length (xs ++ x ∷ []) - 1) ≡ Some x
last_of {X} xs x =
    let place : length xs ≡ length (xs ++ x ∷ []) - 1 = omega (arith, length-append xs (x ∷ [])) in
    subst (λ (n : ℕ). slice_get (xs ++ x ∷ []) n ≡ Some x) place (at_end xs x)

-- a list at whose end something stands isn't empty
pub some_made : {X : Type 0} (xs : List X) (x : X) (ys : List X) → ys ≡ xs ++ x ∷ [] → ys ≢ []
some_made [] x ys is none = (let clash : x ∷ [] ≡ [] = sym is ∙ none in absurd (cc))
some_made (y ∷ xs) x ys is none = (let clash : y ∷ (xs ++ x ∷ []) ≡ [] = sym is ∙ none in absurd (cc))

-- ---- lists of jobs

-- the text of a single line
single_line : (j : JobLine) → without_feed (flat_map job_line (j ∷ [])) ≡ list_line j
single_line j = ap without_feed (append-nil (job_line j))

-- one more line
more_line : (list : List JobLine) (n : ℕ) → n < length list → map list_line (take (suc n) list) ≡ map list_line (take n list) ++ without_feed (flat_map job_line (take 1 (drop n list))) ∷ []
more_line [] n below = absurd (omega (arith, below))
more_line (x ∷ []) zero below = ap (λ (l : List ℕ). l ∷ []) (sym (single_line x))
more_line (x ∷ (y ∷ ys)) zero below = ap (λ (l : List ℕ). l ∷ []) (sym (single_line x))
more_line (x ∷ xs) (suc n) below = ap (λ (l : List (List ℕ)). list_line x ∷ l) (more_line xs n (omega (arith, below)))

-- a list cut at either of two numbers between which it ends
pub take_cut : {X : Type 0} (xs : List X) (m n : ℕ) → m ≤ n → (m < n → length xs ≤ m) → take m xs ≡ take n xs
take_cut [] zero zero le ends = refl
take_cut [] zero (suc n) le ends = refl
take_cut [] (suc m) zero le ends = refl
take_cut [] (suc m) (suc n) le ends = refl
take_cut (x ∷ xs) zero zero le ends = refl
take_cut (x ∷ xs) zero (suc n) le ends = absurd (omega (arith, ends (omega arith)))
take_cut (x ∷ xs) (suc m) zero le ends = absurd (omega (arith, le))
take_cut {X} (x ∷ xs) (suc m) (suc n) le ends = ap (λ (l : List X). x ∷ l) (take_cut xs m n (omega (arith, le)) (λ lt. omega (arith, ends (omega (arith, lt)))))

-- one more line, with the text of a job
pub line_more : (list : List JobLine) (n : ℕ) (text : List ℕ) → n < length list → text ≡ without_feed (flat_map job_line (slice_range list n (n + 1)))
    → map list_line (take (n + 1) list) ≡ map list_line (take n list) ++ text ∷ []
line_more list n text below is =
    let one : (n + 1) - n ≡ 1 = omega arith in
    let next : suc n ≡ n + 1 = omega arith in
    subst (λ (m : ℕ). map list_line (take m list) ≡ map list_line (take n list) ++ text ∷ []) next
    (more_line list n below ∙ ap (λ (m : ℕ). map list_line (take n list) ++ without_feed (flat_map job_line (take m (drop n list))) ∷ []) (sym one) ∙ ap (λ (t : List ℕ). map list_line (take n list) ++ t ∷ []) (sym is))

-- the first lines
pub first_are : (list : List JobLine) (n : ℕ) → n ≤ 1000 → (n < 1000 → length list ≤ n) → map list_line (take n list) ≡ first_lines list
first_are list n few ends = ap (map list_line) (take_cut list n 1000 few ends)

-- what isn't there is none
pub none_of : {X : Type 0} (o : Option X) → is_some o ≡ false → o ≡ None
none_of None is = refl
none_of (Some x) is = (let clash : true ≡ false = is in absurd (cc))

-- ---- a call

module _ {K : Type 0} (state : K → DeskState) where
  -- it was made
  pub calls_made : (number job : ℕ) (asked : JobCall) (old new : SharedValue K) (result : Result BoardReply Memory) → IsMade state (record { number = number; job = job; call = asked }) old new
      → GoesOn anything (state old.board.journal.desk) (state new.board.journal.desk) → IfOk result (λ r. r ≡ says (call_text asked job)) → CallsSo state number asked old new result
  calls_made number job asked old new result made goes told =
      let call : call_made number old.board.past (request.Call asked) ≡ Some (record { number = number; job = job; call = asked })
      = ap (λ (o : Option Refusal). unless_refused o (record { number = number; job = job_of old.board.past asked; call = asked })) made.allowed
      ∙ ap (λ (n : ℕ). Some (record { number = number; job = n; call = asked })) (sym made.job_is) in
      let makes : Makes state (call_made number old.board.past (request.Call asked)) old new
      = subst (λ (o : Option Made). Makes state o old new) (sym call) (made, goes) in
      by result makes told
    where
      by : (r : Result BoardReply Memory) → Makes state (call_made number old.board.past (request.Call asked)) old new → IfOk r (λ x. x ≡ says (call_text asked job)) → CallsSo state number asked old new r
      by (Ok x) makes told = record {
        replied = (told ∙ ap (λ (n : ℕ). says (call_text asked n)) made.job_is ∙ sym (ap (λ (o : Option Refusal). call_reply o old.board.past asked) made.allowed), makes);
        failed = tt;
      }
      by (Err e) makes told = record { replied = tt; failed = inl makes }

  -- it is refused
  pub calls_refused : (number : ℕ) (asked : JobCall) (old new : SharedValue K) (f : BoardFault) (result : Result BoardReply Memory) → new ≡ old
      → IsRuled (refuses_call old.board.past asked) (id_named asked) old.board new.board f → IfOk result (λ r. r ≡ reply.Refused (without_name (fault_text f))) → CallsSo state number asked old new result
  calls_refused number asked old new f result same ruled told = by result told
    where
      none : call_made number old.board.past (request.Call asked) ≡ None
      none = ap (λ (o : Option Refusal). unless_refused o (record { number = number; job = job_of old.board.past asked; call = asked })) ruled.refused_is

      makes : Makes state (call_made number old.board.past (request.Call asked)) old new
      makes = subst (λ (o : Option Made). Makes state o old new) (sym none) same

      by : (r : Result BoardReply Memory) → IfOk r (λ x. x ≡ reply.Refused (without_name (fault_text f))) → CallsSo state number asked old new r
      by (Ok x) told = record {
        replied = (
          told ∙ ap (λ (g : BoardFault). reply.Refused (without_name (fault_text g))) ruled.fault_is ∙ sym (ap (λ (o : Option Refusal). call_reply o old.board.past asked) ruled.refused_is),
          makes,
        );
        failed = tt;
      }
      by (Err e) told = record { replied = tt; failed = inl makes }

  -- a board that halts so keeps its commands
  failed_past : (refused : Option Refusal) (id : List ℕ) (added : Command) (old new : BoardValue K) (h : BoardHalt) → FailsToAsk state refused id added old new (fault_for h) → new.past ≡ old.past
  failed_past refused id added old new halt.Disk fails = ap (λ (b : BoardValue K). b.past) fails.1.halted.now
  failed_past refused id added old new (halt.Full size need) fails = ap (λ (b : BoardValue K). b.past) fails.1.now
  failed_past refused id added old new halt.Memory fails = ap (λ (b : BoardValue K). b.past) fails

  -- and the halt has its cause
  failed_cause : (refused : Option Refusal) (id : List ℕ) (added : Command) (old new : BoardValue K) (h : BoardHalt) → FailsToAsk state refused id added old new (fault_for h) → HasCause state old new h
  failed_cause refused id added old new halt.Disk fails = fails.1.halted.rose
  failed_cause refused id added old new (halt.Full size need) fails =
      record { command = added; size_is = fails.1.size_is ∙ ap (λ (b : BoardValue K). b.journal.size) (sym fails.1.now); need_is = fails.1.need_is; over = fails.1.over }
  failed_cause refused id added old new halt.Memory fails = tt

  -- a call at which it halts, or before which it was halted, made none
  halts_call : (asked : JobCall) (h : BoardHalt) (old new : SharedValue K) → Halts state asked h old new → GoesOn anything (state old.board.journal.desk) (state new.board.journal.desk) → MakesNoCall state old new
  halts_call asked h old new halts goes = by halts.cause
    where
      halted : new.halt ≡ Some h
      halted = ap (λ (s : SharedValue K). s.halt) halts.now

      by : ((old.halt ≡ Some h) × (new.board ≡ old.board)) ⊎ ((old.halt ≡ None)
          × FailsToAsk state (refuses_call old.board.past asked) (id_named asked) (asked_for old.board.past asked) old.board new.board (fault_for h)) → MakesNoCall state old new
      by (inl was) = record {
        start = ap (λ (s : SharedValue K). s.start) halts.now;
        made = ap (λ (s : SharedValue K). s.made) halts.now;
        past = ap (λ (b : BoardValue K). b.past) was.1;
        goes = goes;
        stays = λ other is. halted ∙ sym was.0 ∙ is;
        still = λ other is. was.1;
        cause = λ is. (let clash : Some h ≡ None = sym was.0 ∙ is in absurd (cc));
      }
      by (inr now) = record {
        start = ap (λ (s : SharedValue K). s.start) halts.now;
        made = ap (λ (s : SharedValue K). s.made) halts.now;
        past = failed_past _ _ _ old.board new.board h now.1;
        goes = goes;
        stays = λ other is. (let clash : Some other ≡ None = sym is ∙ now.0 in absurd (cc));
        still = λ other is. (let clash : Some other ≡ None = sym is ∙ now.0 in absurd (cc));
        cause = λ is. subst (λ (o : Option BoardHalt). IfSome o (HasCause state old.board new.board)) (sym halted) (failed_cause _ _ _ old.board new.board h now.1);
      }

  -- it isn't made, since the board is halted
  pub calls_halted : {during : Pairs} (number : ℕ) (asked : JobCall) (h : BoardHalt) (old new : SharedValue K) (memory : Memory) → Halts state asked h old new → GoesOn during (state old.board.journal.desk) (state new.board.journal.desk)
      → CallsSo state number asked old new (Err memory)
  calls_halted number asked h old new memory halts goes = record { replied = tt; failed = inr (halts_call asked h old new halts (goes_within {during = anything} goes (λ told image text left. tt))) }

  -- the commands were looked at after what a call did
  pub calls_wide : {during : Pairs} (old new : SharedValue K) → GoesOn during (state old.board.journal.desk) (state new.board.journal.desk) → GoesOn anything (state old.board.journal.desk) (state new.board.journal.desk)
  calls_wide old new goes = goes_within {during = anything} goes (λ told image text left. tt)

  -- ---- a request

  -- it was halted before
  pub stops_halted : (o : Option Made) (old : SharedValue K) → IsSome old.halt → StopsAfter state o old old
  stops_halted o old is = record {
    mid = old;
    before = inl refl;
    none = record {
      start = refl;
      made = refl;
      past = refl;
      goes = goes_none;
      stays = λ h here. here;
      still = λ h here. refl;
      cause = λ none. subst (λ (o : Option BoardHalt). IfSome o (HasCause state old.board old.board)) (sym none) tt;
    };
    halted = is;
  }

  -- no call was made, and then it was halted for want of memory, unless it was
  none_then : (old mid : SharedValue K) → MakesNoCall state old mid → MakesNoCall state old (record mid { halt = halt_or_memory mid.halt })
  none_then old mid n = record {
    start = n.start;
    made = n.made;
    past = n.past;
    goes = n.goes;
    stays = λ h is. ap halt_or_memory (n.stays h is);
    still = n.still;
    cause = λ is. by mid.halt (n.cause is);
  }
    where
      by : (o : Option BoardHalt) → IfSome o (HasCause state old.board mid.board) → IfSome (halt_or_memory o) (HasCause state old.board mid.board)
      by None cause = tt
      by (Some h) cause = cause

  -- a call was asked for
  pub answers_called : (number : ℕ) (asked : JobCall) (old mid new : SharedValue K) (r : Result BoardReply Memory) (result : Option BoardReply) → old.halt ≡ None → CallsSo state number asked old mid r → OrHalts r mid new result
      → Answers state number (request.Call asked) old new result
  answers_called number asked old mid new (Ok told) result going calls ends =
      subst (Answers state number (request.Call asked) old new) (sym ends.0)
      (subst (λ (s : SharedValue K). Answers state number (request.Call asked) old s (Some told)) (sym ends.1) (calls.replied.0, going, calls.replied.1))
  answers_called number asked old mid new (Err memory) result going calls ends =
      subst (Answers state number (request.Call asked) old new) (sym ends.0)
      (elim calls.failed [
        | inl makes ↦ record { mid = mid; before = inr makes; none = halts_none state mid new ends.1; halted = halts_some state mid new ends.1 }
        | inr none ↦ record {
          mid = old;
          before = inl refl;
          none = subst (λ (s : SharedValue K). MakesNoCall state old s) (sym ends.1) (none_then old mid none);
          halted = halts_some state mid new ends.1;
        }
      ])

  -- something was asked that is read off
  pub answers_told : (number : ℕ) (asked : BoardRequest) (old new : SharedValue K) (r : Result BoardReply Memory) (result : Option BoardReply) → call_made number old.board.past asked ≡ None → old.halt ≡ None
      → IfOk r (λ x. x ≡ reply_of old.board.past asked) → OrHalts r old new result → Answers state number asked old new result
  answers_told number asked old new (Ok told) result none going is ends =
      subst (Answers state number asked old new) (sym ends.0) (is, going, subst (λ (o : Option Made). Makes state o old new) (sym none) ends.1)
  answers_told number asked old new (Err memory) result none going is ends =
      subst (Answers state number asked old new) (sym ends.0) (stops_unasked state (call_made number old.board.past asked) old new ends.1)
