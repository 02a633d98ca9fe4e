-- What is known of all sessions once the turnstile is closed.
use Rattle.std.proofs.Common.{◌≡◌, ◌<◌, ◌≤◌, ℕ, zero, suc, Bool, true, false, List, [], ◌∷◌, ◌++◌, length, map, take, drop, slice_index_or, Option, refl, sym, ap, subst, ◌∙◌, arith, append-nil}
use Rattle.std.specs.Prelude.{IsSome}
use Rattle.std.specs.List.{All}
use Rattle.std.proofs.lemmas.List.{get_or-map, length-map}
use Rattle.tf_desk.specs.State.{DeskState}
use Rattle.tf_board.specs.Board.{AreOfBoard}
use Rattle.tf_board.specs.declared.commands.Command.{Command}
use Rattle.tf_shared_board.specs.Shared.{carried, numbered, SharedValue}
use Rattle.tf_shared_board.specs.declared.calls.Made.{Made}
use Rattle.tf_turnstile.specs.Numbered.{AreNumberedBelow, IsLater}
use Rattle.tf_turnstile.specs.Passes.{TurnstileValue, PassValue, IsIdle, AreAll, AreNew, HasGrown}
use Rattle.tf_ports.specs.Ports.{SeenLink, seen_link}
use Rattle.tf_ports.specs.Transcript.{Passed}
use Rattle.tf_board_service.specs.Serving.{IsServing, ServingValue, made_since}
use Rattle.tf_board_service.specs.Sessions.{HaltsWith, IsServed, is_halted}
use Rattle.tf_board_service.specs.Served.{AreServed}
use Rattle.tf_board_service.specs.Turning.{HasServed, IsAppointed, IsFresh, seen_calls, start_past}
use Rattle.tf_board_service.specs.Turns.{HasWaited, IsOver}
use Rattle.tf_board_service.specs.declared.sessions.Session.{Session}
use Rattle.tf_board_service.proofs.PassLemmas.{all_seen, later_waited}
use Rattle.tf_board_service.proofs.SessionLemmas.{over_waited}

-- ---- lists

-- what was there before more came
pub take_prefix : {X : Type 0} (xs zs : List X) → take (length xs) (xs ++ zs) ≡ xs
take_prefix [] [] = refl
take_prefix [] (z ∷ zs) = refl
take_prefix (x ∷ xs) zs = ap (λ l. x ∷ l) (take_prefix xs zs)

-- an element of a list, whatever stands for one past its end
pub item_at : {X : Type 0} (xs : List X) (i : ℕ) → i < length xs → X
item_at [] i below = absurd (omega arith)
item_at (x ∷ xs) zero below = x
item_at (x ∷ xs) (suc i) below = item_at xs i (omega arith)

-- of two lists joined, the first where the second is empty
pub first_all : {X : Type 0} (xs ys zs : List X) → ys ≡ [] → xs ++ ys ≡ zs → xs ≡ zs
first_all {X} xs ys zs none is = sym (append-nil xs) ∙ ap (λ (l : List X). xs ++ l) (sym none) ∙ is

-- a list whose first was removed
pub removed_first : {X : Type 0} (xs ys : List X) (x : X) → 0 < length xs → x ≡ slice_index_or xs 0 x → ys ≡ take 0 xs ++ drop 1 xs → xs ≡ x ∷ ys
removed_first [] ys x some is left = absurd (omega (arith, some))
removed_first {X} (z ∷ []) ys x some is left = ap (λ (l : List X). z ∷ l) (sym left) ∙ ap (λ (v : X). v ∷ ys) (sym is)
removed_first {X} (z ∷ (v ∷ zs)) ys x some is left = ap (λ (l : List X). z ∷ l) (sym left) ∙ ap (λ (u : X). u ∷ ys) (sym is)

-- what stands at a place of a mapped list
at_mapped : {W X : Type 0} (f : W → X) (xs : List W) (ys : List X) (i : ℕ) (w : W) (d : X) → map f xs ≡ ys → i < length xs → slice_index_or ys i d ≡ f (slice_index_or xs i w)
at_mapped {W} {X} f xs ys i w d is below = ap (λ (l : List X). slice_index_or l i d) (sym is) ∙ get_or-map f xs i w d below

-- each call carries a number below this one
below_all : (bound : ℕ) (calls : List Made) → AreNumberedBelow bound (numbered calls) → All (λ m. m.number < bound) calls
below_all bound calls all i d below =
    subst (λ (e : ℕ × Made). e.0 < bound) (get_or-map carried calls i d (carried d) below) (all i (carried d) (omega (arith, below, length-map calls carried)))

module _ {K W L : Type 0} (state : K → DeskState) (turnstile : TurnstileValue (ServingValue K)) (pass_of : W → PassValue (ServingValue K) Made) (link_of : W → L) (session_of : W → Session)
    (left : L → Option (List ℕ)) (transcript : L → List Passed) (faults ends : L → ℕ) where
  abbrev see : L → SeenLink
  see link = seen_link left transcript faults ends link

  -- each has a pass as it is made
  pub all_hired : (workers : List W) (passes : List (PassValue (ServingValue K) Made)) → map pass_of workers ≡ passes → AreNew turnstile passes → IsFresh turnstile → length workers ≤ 64
      → (i : ℕ) (d : W) → i < length workers → IsAppointed turnstile i (pass_of (slice_index_or workers i d))
  all_hired workers passes is new fresh few i d below =
      let long : length passes ≡ length workers = ap length (sym is) ∙ length-map workers pass_of in
      record {
        fresh = fresh;
        few = omega (arith, below, few);
        made = sym (at_mapped pass_of workers passes i d (pass_of d) is below) ∙ new.each i (pass_of d) (omega (arith, below, long));
      }

  module _ (old new : List W) (long : length new ≡ length old) (served : (i : ℕ) (d : W) → i < length old
      → HasServed turnstile i (see (link_of (slice_index_or old i d))) (see (link_of (slice_index_or new i d))) (session_of (slice_index_or new i d)).points (session_of (slice_index_or new i d)).end (pass_of (slice_index_or new i d)))
      (passes : List (PassValue (ServingValue K) Made)) (back : passes ≡ map pass_of new) where
    pass_count : length passes ≡ length old
    pass_count = ap length back ∙ length-map new pass_of ∙ long

    -- all passes are back
    pub all_back : length old ≡ turnstile.passes → AreAll turnstile passes
    all_back count = record {
      count = pass_count ∙ count;
      each = λ i d below.
          (let here : i < length new = omega (arith, below, pass_count, long) in
          let w : W = item_at new i here in
          subst (λ (p : PassValue (ServingValue K) Made). IsIdle turnstile i p) (sym (at_mapped pass_of new passes i w d (sym back) here)) (served i w (omega (arith, here, long))).idle);
    }

    module _ (s : ServingValue K) (grown : HasGrown (λ c. numbered c.now.made) turnstile passes s) (fresh : IsFresh turnstile) (same : s.begun ≡ turnstile.start.begun) (kept : IsServing state s) where
      all_added : numbered (made_since s.begun s.now) ≡ grown.added
      all_added = all_seen state turnstile.start s grown.added fresh same grown.history kept

      -- after what a pass has seen come calls of others alone
      waited_at : (i : ℕ) (w : W) → i < length old → HasWaited i (seen_calls (pass_of (slice_index_or new i w))) (made_since s.begun s.now)
      waited_at i w below =
          let pass : PassValue (ServingValue K) Made = pass_of (slice_index_or new i w) in
          let at : slice_index_or passes i (pass_of w) ≡ pass = at_mapped pass_of new passes i w (pass_of w) (sym back) (omega (arith, below, long)) in
          let seen : IsLater pass.number pass.seen grown.added
          = subst (λ (p : PassValue (ServingValue K) Made). IsLater p.number p.seen grown.added) at (grown.seen i (pass_of w) (omega (arith, below, pass_count))) in
          let later : IsLater i pass.seen grown.added = subst (λ (n : ℕ). IsLater n pass.seen grown.added) (served i w below).idle.number_is seen in
          later_waited i pass.seen grown.added (made_since s.begun s.now) later all_added

      module _ (now : SharedValue K) (end : IsServing state record { begun = s.begun; now = now }) (made : now.made ≡ s.now.made) (halted : Bool) (none : halted ≡ false → All (λ w. is_halted (session_of w).end ≡ false) new)
          (stops : halted ≡ true → IsSome now.halt) where
        calls_are : made_since turnstile.start.begun now ≡ made_since s.begun s.now
        calls_are = ap (λ (b : SharedValue K). made_since b now) (sym same) ∙ ap (λ (l : List Made). drop (length s.begun.made) l) made

        -- what is kept, of the board when the turnstile was made
        served_since : IsServing state record { begun = turnstile.start.begun; now = now }
        served_since = subst (λ (b : SharedValue K). IsServing state record { begun = b; now = now }) same end

        -- what one session did
        over_at : (i : ℕ) (w : W) → i < length old
            → IsServed i (length (start_past turnstile)) now.board.past (made_since turnstile.start.begun now) (see (link_of (slice_index_or old i w))) (see (link_of (slice_index_or new i w))) (session_of (slice_index_or new i w))
        over_at i w below =
            let pass : PassValue (ServingValue K) Made = pass_of (slice_index_or new i w) in
            let one : Session = session_of (slice_index_or new i w) in
            let before : SeenLink = see (link_of (slice_index_or old i w)) in
            let after : SeenLink = see (link_of (slice_index_or new i w)) in
            let whole : IsOver i (start_past turnstile) (made_since s.begun s.now) before after one.points one.end =
            over_waited i (start_past turnstile) (seen_calls pass) (made_since s.begun s.now) before after one.points (waited_at i w below) one.end (served i w below).over in
            let moved : IsOver i (start_past turnstile) (made_since turnstile.start.begun now) before after one.points one.end =
            subst (λ (l : List Made). IsOver i (start_past turnstile) l before after one.points one.end) (sym calls_are) whole in
            subst (λ (past : List Command). IsServed i (length (start_past turnstile)) past (made_since turnstile.start.begun now) before after one) (sym served_since.list) moved

        one_served : (links returned : List L) (sessions : List Session) → map link_of old ≡ links → returned ≡ map link_of new → sessions ≡ map session_of new → (i : ℕ) (d : L) (e : Session) → i < length old
            → IsServed i (length (start_past turnstile)) now.board.past (made_since turnstile.start.begun now) (see (slice_index_or links i d)) (see (slice_index_or returned i d)) (slice_index_or sessions i e)
        one_served links returned sessions first last told i d e below =
            let here : i < length new = omega (arith, below, long) in
            let w : W = item_at new i here in
            let past = now.board.past in
            let calls = made_since turnstile.start.begun now in
            let n = length (start_past turnstile) in
            subst (λ (k : L). IsServed i n past calls (see k) (see (slice_index_or returned i d)) (slice_index_or sessions i e)) (sym (at_mapped link_of old links i w d first below))
            (subst (λ (k : L). IsServed i n past calls (see (link_of (slice_index_or old i w))) (see k) (slice_index_or sessions i e)) (sym (at_mapped link_of new returned i w d (sym last) here))
            (subst (λ (o : Session). IsServed i n past calls (see (link_of (slice_index_or old i w))) (see (link_of (slice_index_or new i w))) o) (sym (at_mapped session_of new sessions i w e (sym told) here)) (over_at i w below)))

        -- where one is halted the board is
        all_halted : (sessions : List Session) → sessions ≡ map session_of new → HaltsWith now.halt sessions
        all_halted sessions told i e below is =
            let here : i < length new = omega (arith, below, ap length told, length-map new session_of) in
            let w : W = item_at new i here in
            let one : is_halted (session_of (slice_index_or new i w)).end ≡ true = ap (λ (o : Session). is_halted o.end) (sym (at_mapped session_of new sessions i w e (sym told) here)) ∙ is in
            by halted refl w here one
          where
            by : (b : Bool) → halted ≡ b → (w : W) → i < length new → is_halted (session_of (slice_index_or new i w)).end ≡ true → IsSome now.halt
            by true on w here one = stops on
            by false on w here one = (let no : is_halted (session_of (slice_index_or new i w)).end ≡ false = none on i w here in let clash : true ≡ false = sym one ∙ no in absurd (cc))

        -- what a service leaves
        pub whole_end : length old ≡ turnstile.passes → (links returned : List L) (sessions : List Session) → map link_of old ≡ links → returned ≡ map link_of new → sessions ≡ map session_of new → AreOfBoard now.board.past
            → AreServed state left transcript faults ends turnstile.start.begun now links returned sessions
        whole_end count links returned sessions first last told legal =
            let many : length links ≡ length old = ap length (sym first) ∙ length-map old link_of in
            record {
              board = served_since;
              legal = legal;
              each = λ i d e below. one_served links returned sessions first last told i d e (omega (arith, below, many));
              numbers = subst (λ (n : ℕ). All (λ m. m.number < n) (made_since turnstile.start.begun now)) (sym (many ∙ count))
                  (subst (λ (l : List Made). All (λ m. m.number < turnstile.passes) l) (sym calls_are)
                  (below_all turnstile.passes (made_since s.begun s.now) (subst (λ (l : List (ℕ × Made)). AreNumberedBelow turnstile.passes l) (sym all_added) grown.numbers)));
              halted = all_halted sessions told;
              links = ap length last ∙ length-map new link_of ∙ long ∙ sym many;
              count = ap length told ∙ length-map new session_of ∙ long ∙ sym many;
            }
