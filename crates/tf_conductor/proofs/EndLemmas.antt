-- What is known of all conductors once the turnstile is closed.
use Rattle.std.proofs.Common.{◌≡◌, ◌<◌, ◌≤◌, ℕ, zero, suc, Bool, true, false, List, [], ◌∷◌, ◌++◌, length, map, take, drop, slice_index_or, Option, Some, None, refl, sym, ap, subst, ◌∙◌, inl, inr, arith, append-nil}
use Rattle.std.specs.Prelude.{IsSome, slice_get}
use Rattle.std.specs.List.{All}
use Rattle.std.proofs.lemmas.List.{get_or-map, length-map}
use Rattle.std.proofs.lemmas.Option.{slice_get_cases, slice_get_within}
use Rattle.tf_desk.specs.State.{DeskState}
use Rattle.tf_values.specs.declared.value.Val.{Val}
use Rattle.tf_board.specs.Board.{AreOfBoard}
use Rattle.tf_board.specs.declared.commands.Command.{Command}
use Rattle.tf_shared_board.specs.Shared.{numbered, SharedValue}
use Rattle.tf_shared_board.specs.declared.calls.BoardHalt.{BoardHalt}
use Rattle.tf_shared_board.specs.declared.calls.Made.{Made}
use Rattle.tf_turnstile.specs.Numbered.{IsLater}
use Rattle.tf_turnstile.specs.Passes.{TurnstileValue, PassValue, IsIdle, AreAll, AreNew, HasGrown}
use Rattle.tf_conductor.specs.Conducted.{IsConductedBy}
use Rattle.tf_conductor.specs.Conducting.{ConductingValue, conducting_origin, IsConducting, made_since}
use Rattle.tf_conductor.specs.Rounds.{AllClaimed, AreDifferent, EndsConducting, HasConducted, calls_by, is_claimed, nothing, GiveSame}
use Rattle.tf_conductor.specs.Working.{HasTurned, HasWorkedAs, HasWorkedOn, IsAppointed, seen_calls, start_past}
use Rattle.tf_conductor.specs.declared.runners.Ran.{Ran}
use Rattle.tf_conductor.proofs.RoundLemmas.{conducted_none, conducted_turned}
use Rattle.tf_conductor.proofs.SeenLemmas.{all_seen, later_turned}
use Rattle.tf_conductor.proofs.StepLemmas.{claimed_on}

-- ---- lists

-- an element of a list, whatever stands for one past its end
pub item_at : {X : Type 0} (xs : List X) (i : ℕ) → i < length xs → X
item_at [] i below = absurd (omega arith)
item_at (x ∷ xs) zero below = x
item_at (x ∷ xs) (suc i) below = item_at xs i (omega arith)

-- of two lists joined, the first where the second is empty
pub first_all : {X : Type 0} (xs ys zs : List X) → ys ≡ [] → xs ++ ys ≡ zs → xs ≡ zs
first_all {X} xs ys zs none is = sym (append-nil xs) ∙ ap (λ (l : List X). xs ++ l) (sym none) ∙ is

-- what was there before more came
pub take_prefix : {X : Type 0} (xs zs : List X) → take (length xs) (xs ++ zs) ≡ xs
take_prefix [] [] = refl
take_prefix [] (z ∷ zs) = refl
take_prefix (x ∷ xs) zs = ap (λ l. x ∷ l) (take_prefix xs zs)

-- what stands at a place of a mapped list
at_mapped : {W X : Type 0} (f : W → X) (xs : List W) (ys : List X) (i : ℕ) (w : W) (d : X) → map f xs ≡ ys → i < length xs → slice_index_or ys i d ≡ f (slice_index_or xs i w)
at_mapped {W} {X} f xs ys i w d is below = ap (λ (l : List X). slice_index_or l i d) (sym is) ∙ get_or-map f xs i w d below

-- none isn't some
none_there : (o : Option BoardHalt) → o ≡ None → IsSome o → ⊥
none_there None is there = cc
none_there (Some h) is there = cc

-- how many the same owners are
pub sym_length : (owners first : List (List ℕ)) (n : ℕ) → owners ≡ first → length owners ≡ n → length first ≡ n
sym_length owners first n same long = sym (ap length same) ∙ long

-- there is an owner at a place
owner_at : (owners : List (List ℕ)) (i : ℕ) → i < length owners → (owner : List ℕ) × (slice_get owners i ≡ Some owner)
owner_at owners i below =
    elim (slice_get_cases owners i).1 [
      | inl there ↦ (there.0, there.2)
      | inr out ↦ absurd (omega (arith, out.0, below))
    ]

module _ {K W P : Type 0} (state : K → DeskState) (turnstile : TurnstileValue (ConductingValue K)) (pass_of : W → PassValue (ConductingValue K) Made) (runner_of : W → P) (halted_of : W → Bool)
    (gives : P → Val → Ran → Type 0) (did : P → Option (List (Val × Ran))) where
  -- each has a pass as it is made
  pub all_hired : (owners : List (List ℕ)) (workers : List W) (passes : List (PassValue (ConductingValue K) Made)) → map pass_of workers ≡ passes → AreNew turnstile passes → turnstile.start.now ≡ turnstile.start.begun
      → owners ≡ turnstile.start.owners → AreDifferent owners → length owners ≡ length workers → length workers ≤ 64 → (i : ℕ) (d : W) → i < length workers → IsAppointed turnstile owners i (pass_of (slice_index_or workers i d))
  all_hired owners workers passes is new fresh same different many few i d below =
      let long : length passes ≡ length workers = ap length (sym is) ∙ length-map workers pass_of in
      record {
        fresh = fresh;
        apart = subst AreDifferent same different;
        owners_are = same;
        below = omega (arith, below, many);
        few = omega (arith, below, few);
        made = sym (at_mapped pass_of workers passes i d (pass_of d) is below) ∙ new.each i (pass_of d) (omega (arith, below, long));
      }

  module _ (old new : List W) (long : length new ≡ length old) (worked : (i : ℕ) (d : W) → i < length old
      → HasWorkedAs turnstile i (gives (runner_of (slice_index_or old i d))) (gives (runner_of (slice_index_or new i d))) (did (runner_of (slice_index_or old i d))) (did (runner_of (slice_index_or new i d))) (pass_of (slice_index_or new i d)) (halted_of (slice_index_or new i d)))
      (many : length turnstile.start.owners ≡ length old) (passes : List (PassValue (ConductingValue K) Made)) (back : passes ≡ map pass_of new) where
    idle_at : (i : ℕ) (d : W) → i < length old → IsIdle turnstile i (pass_of (slice_index_or new i d))
    idle_at i d below = (let o = owner_at turnstile.start.owners i (omega (arith, below, many)) in ((worked i d below).worked o.0 o.1).idle)

    claimed_at : (i : ℕ) (d : W) → i < length old → halted_of (slice_index_or new i d) ≡ false → AllClaimed (start_past turnstile) (seen_calls (pass_of (slice_index_or new i d)))
    claimed_at i d below = (let o = owner_at turnstile.start.owners i (omega (arith, below, many)) in ((worked i d below).worked o.0 o.1).all)

    pass_count : length passes ≡ length old
    pass_count = ap length back ∙ length-map new pass_of ∙ long

    -- all passes are back
    pub all_back : length old ≡ turnstile.passes → AreAll turnstile passes
    all_back count = record {
      count = pass_count ∙ count;
      each = λ i d below.
          (let here : i < length new = omega (arith, below, pass_count, long) in
          let w : W = item_at new i here in
          subst (λ (p : PassValue (ConductingValue K) Made). IsIdle turnstile i p) (sym (at_mapped pass_of new passes i w d (sym back) here)) (idle_at i w (omega (arith, here, long))));
    }

    module _ (s : ConductingValue K) (grown : HasGrown (λ c. numbered c.now.made) turnstile passes s) (fresh : turnstile.start.now ≡ turnstile.start.begun) (same : conducting_origin s ≡ conducting_origin turnstile.start) (kept : IsConducting state s) where
      begun_s : s.begun ≡ turnstile.start.begun
      begun_s = ap (λ (o : SharedValue K × List (List ℕ)). o.0) same

      -- after what a pass has seen come calls of others alone
      turned_at : (i : ℕ) (w : W) → i < length old → HasTurned i (seen_calls (pass_of (slice_index_or new i w))) (made_since s.begun s.now) []
      turned_at i w below =
          let pass : PassValue (ConductingValue K) Made = pass_of (slice_index_or new i w) in
          let at : slice_index_or passes i (pass_of w) ≡ pass = at_mapped pass_of new passes i w (pass_of w) (sym back) (omega (arith, below, long)) in
          let seen : IsLater pass.number pass.seen grown.added
          = subst (λ (p : PassValue (ConductingValue K) Made). IsLater p.number p.seen grown.added) at (grown.seen i (pass_of w) (omega (arith, below, pass_count))) in
          let later : IsLater i pass.seen grown.added = subst (λ (n : ℕ). IsLater n pass.seen grown.added) (idle_at i w below).number_is seen in
          let r = later_turned i pass.seen grown.added (made_since s.begun s.now) later (all_seen state turnstile.start s grown.added fresh begun_s grown.history kept) in
          record { others = r.0; is = r.1 ∙ ap (λ (l : List Made). seen_calls pass ++ l) (sym (append-nil r.0)); apart = r.2 }

      module _ (now : SharedValue K) (halt : Option BoardHalt) (halted : Bool) (none : halted ≡ false → All (λ w. halted_of w ≡ false) new) (stops : halted ≡ true → IsSome halt) (made : now.made ≡ s.now.made) where
        calls_are : made_since turnstile.start.begun now ≡ made_since s.begun s.now
        calls_are = ap (λ (b : SharedValue K). made_since b now) (sym begun_s) ∙ ap (λ (l : List Made). drop (length s.begun.made) l) made

        went_on : halt ≡ None → halted ≡ false
        went_on is = by halted refl
          where
            by : (b : Bool) → halted ≡ b → halted ≡ false
            by false on = on
            by true on = absurd (none_there halt is (stops on))

        -- what one conductor did
        pub one_ended : (runners : List P) (returned : List P) → map runner_of old ≡ runners → returned ≡ map runner_of new → (i : ℕ) (d : P) (owner : List ℕ) → slice_get turnstile.start.owners i ≡ Some owner
            → EndsConducting (gives (slice_index_or runners i d)) (did (slice_index_or runners i d)) (start_past turnstile) i owner (did (slice_index_or returned i d)) (made_since turnstile.start.begun now) halt
        one_ended runners returned before after i d owner place =
            let below : i < length old = omega (arith, slice_get_within turnstile.start.owners i owner place, many) in
            let here : i < length new = omega (arith, below, long) in
            let w : W = item_at new i here in
            let did_it : HasWorkedOn turnstile i owner (gives (runner_of (slice_index_or old i w))) (did (runner_of (slice_index_or old i w))) (did (runner_of (slice_index_or new i w))) (pass_of (slice_index_or new i w)) (halted_of (slice_index_or new i w))
            = (worked i w below).worked owner place in
            let all : EndsConducting (gives (runner_of (slice_index_or old i w))) (did (runner_of (slice_index_or old i w))) (start_past turnstile) i owner (did (runner_of (slice_index_or new i w))) (made_since turnstile.start.begun now) halt = record {
              begun = did_it.begun;
              conducted = subst (λ (l : List Made). HasConducted (gives (runner_of (slice_index_or old i w))) (did (runner_of (slice_index_or old i w))) (start_past turnstile) i owner (did (runner_of (slice_index_or new i w))) l did_it.begun) (sym calls_are)
                  (conducted_turned _ _ (start_past turnstile) i owner _ _ _ did_it.begun did_it.conducted (turned_at i w below));
              whole = λ is. did_it.whole (none (went_on is) i w here);
            } in
            subst (λ (p : P). EndsConducting (gives p) (did p) (start_past turnstile) i owner (did (slice_index_or returned i d)) (made_since turnstile.start.begun now) halt) (sym (at_mapped runner_of old runners i w d before below))
            (subst (λ (p : P). EndsConducting (gives (runner_of (slice_index_or old i w))) (did (runner_of (slice_index_or old i w))) (start_past turnstile) i owner (did p) (made_since turnstile.start.begun now) halt) (sym (at_mapped runner_of new returned i w d (sym after) here)) all)

        -- all jobs have a claim
        pub all_ended : 1 ≤ length old → halt ≡ None → AllClaimed (start_past turnstile) (made_since turnstile.start.begun now)
        all_ended some is job unclaimed =
            let here : 0 < length new = omega (arith, some, long) in
            let w : W = item_at new 0 here in
            let turned = turned_at 0 w (omega (arith, some)) in
            let seen = claimed_at 0 w (omega (arith, some)) (none (went_on is) 0 w here) job unclaimed in
            ap (λ (l : List Made). is_claimed l job) (calls_are ∙ turned.is) ∙ claimed_on (seen_calls (pass_of (slice_index_or new 0 w))) (turned.others ++ []) job seen

        pub one_same : (runners : List P) (returned : List P) → map runner_of old ≡ runners → returned ≡ map runner_of new → (i : ℕ) (d : P) → i < length old → GiveSame (gives (slice_index_or runners i d)) (gives (slice_index_or returned i d))
        one_same runners returned before after i d below =
            let here : i < length new = omega (arith, below, long) in
            let w : W = item_at new i here in
            subst (λ (p : P). GiveSame (gives p) (gives (slice_index_or returned i d))) (sym (at_mapped runner_of old runners i w d before below))
            (subst (λ (p : P). GiveSame (gives (runner_of (slice_index_or old i w))) (gives p)) (sym (at_mapped runner_of new returned i w d (sym after) here)) (worked i w below).same)

        -- what conductors leave
        pub whole_end : (owners : List (List ℕ)) → owners ≡ turnstile.start.owners → 1 ≤ length old → (runners returned : List P) → map runner_of old ≡ runners → returned ≡ map runner_of new
            → IsConducting state (record { begun = s.begun; now = now; owners = s.owners }) → AreOfBoard now.board.past → halt ≡ now.halt → IsConductedBy state gives did owners turnstile.start.begun now halt runners returned
        whole_end owners same_owners some runners returned first last board legal is = record {
          board = subst (λ (o : SharedValue K × List (List ℕ)). IsConducting state (record { begun = o.0; now = now; owners = o.1 })) (same ∙ ap (λ (o : List (List ℕ)). (turnstile.start.begun, o)) (sym same_owners)) board;
          legal = legal;
          halt_is = is;
          each = λ i d owner place. one_ended runners returned first last i d owner (ap (λ (o : List (List ℕ)). slice_get o i) (sym same_owners) ∙ place);
          all = all_ended some;
          count = ap length last ∙ length-map new runner_of ∙ long ∙ sym (length-map old runner_of) ∙ ap length first;
          same = λ i d below. one_same runners returned first last i d (omega (arith, below, ap length first, length-map old runner_of));
        }

-- ---- no conductor has begun

pub none_ended : (gives : Val → Ran → Type 0) (told : Option (List (Val × Ran))) (past : List Command) (number : ℕ) (owner : List ℕ) (calls : List Made) (halt : Option BoardHalt) → calls ≡ [] → IsSome halt
    → EndsConducting gives told past number owner told calls halt
none_ended gives told past number owner calls halt none is = record {
  begun = nothing;
  conducted = conducted_none gives told past number owner calls (ap (calls_by number) none);
  whole = λ no. refl;
}
