-- How forced entries follow one another.
use Rattle.std.proofs.Common.{◌≡◌, ◌<◌, inl, inr, ◌⊎◌, ⊎_elim, ℕ, Bool, true, false, ◌&&◌, List, [], ◌∷◌, ◌++◌, length, Option, Some, None, refl, ap, ◌∙◌, sym, subst}
use Rattle.std.proofs.lemmas.Bool.{lt-ltb}
use Rattle.std.specs.Prelude.{option_map, is_none, Result, Ok, Err, OnErr, IfOk}
use Rattle.tf_hands.specs.declared.starts.Start.{Start}
use Rattle.tf_hands.proofs.LeaveLemmas.{forced_free}
use Rattle.tf_book.specs.SessionInvariant.{is_logged}
use Rattle.tf_book.specs.Recording.{past_after}
use Rattle.tf_book.specs.declared.faults.Halt.{Halt}
use Rattle.tf_model.specs.History.{flow_suspends, flow_of, snapshot, Snapshot}
use Rattle.tf_states.specs.declared.record.Entry.{Entry}
use Rattle.tf_states.specs.declared.record.What.{What}
use Rattle.tf_states.specs.declared.record.What.TheVariants as what
use Rattle.tf_states.specs.declared.state.FlowState.{FlowState}
use Rattle.tf_states.specs.declared.state.FlowState.TheVariants as flow
use Rattle.tf_hands.specs.Hands.{by_hand, is_of_flow}
use Rattle.tf_hands.proofs.ForcedLemmas.{forced_within}
use Rattle.tf_model.specs.Forced.{forced, choice, end_of}
use Rattle.tf_model.specs.Plan.{Outline}
use Rattle.tf_model.specs.Steps.{Step, by_force, by_end, by_suspension, LegalPast, is_free, is_still, may_suspend}
use Rattle.tf_book.specs.Turns.{is_to_stop, AreForced, IsForcedBy, IsForcedOn, IsStartedSo, RanOn, RanUntilStop, HasRested, IsClosedOr, stays, ended, suspended, end_now, suspending_after, HasStopped, IsStoppedOr, HandRests, nothing_to_take, at_end, to_suspend, suspending, HandRestsAs, IsLessAfterStart, IsTurn, IsHaltedTurn, starting, forcing, resting}
use Rattle.tf_book.specs.declared.turn.Turn.{Turn}
use Rattle.tf_book.specs.declared.turn.Turn.TheVariants as turn
use Rattle.tf_bound.proofs.SessionLemmas.{flow_shown}

-- what is forced may follow, by any hand
pub forced_step : (plan : Outline) (s : Snapshot) (hand : ℕ) (w : What) → hand < 64 → forced plan s ≡ Some w → Step plan s (by_hand hand w)
forced_step plan s hand w below is = record { hand = lt-ltb hand 64 below; rule = by_force is }

-- the flow's state stays where an entry isn't of it
pub flow_stays : (hand : ℕ) (w : What) (past : List Entry) → is_of_flow w ≡ false → flow_of (by_hand hand w ∷ past) ≡ flow_of past
flow_stays hand (what.Flow state) past is = absurd (cc)
flow_stays hand (what.Atom a state held) past is = refl
flow_stays hand (what.Resolve named resolved) past is = refl
flow_stays hand (what.Restart again) past is = refl

pub forced_stays : (plan : Outline) (hand : ℕ) (past : List Entry) (w : What) → forced plan (snapshot plan past) ≡ Some w → flow_of (by_hand hand w ∷ past) ≡ flow_of past
forced_stays plan hand past w is = flow_stays hand w past (forced_within plan (snapshot plan past) w is)

-- nothing was forced yet
pub forced_none : (plan : Outline) (hand : ℕ) (asked : Bool) (limit : Option ℕ) (past : List Entry) → IsForcedOn plan hand asked limit past past
forced_none plan hand asked limit past = record { entries = []; are = tt; is = refl }

-- one more
pub forced_more : (plan p : Outline) (hand : ℕ) (asked : Bool) (limit : Option ℕ) (past mid after : List Entry) → p ≡ plan → is_to_stop asked limit (length mid) ≡ false
    → IsForcedOn plan hand asked limit past mid → IsForcedBy p hand mid after → IsForcedOn plan hand asked limit past after
forced_more plan p hand asked limit past mid after same on_going on one = record {
  entries = by_hand hand one.event ∷ on.entries;
  are = (
    refl,
    subst (λ (m : List Entry). forced plan (snapshot plan m) ≡ Some one.event) on.is (subst (λ (x : Outline). forced x (snapshot x mid) ≡ Some one.event) same one.is_forced),
    subst (λ (m : List Entry). is_to_stop asked limit (length m) ≡ false) on.is on_going,
    on.are,
  );
  is = one.is ∙ ap (λ (m : List Entry). by_hand hand one.event ∷ m) on.is;
}

-- one more, or none
pub forced_cut : (plan p : Outline) (hand : ℕ) (asked : Bool) (limit : Option ℕ) (past mid after : List Entry) → p ≡ plan → is_to_stop asked limit (length mid) ≡ false
    → IsForcedOn plan hand asked limit past mid → IsForcedBy p hand mid after ⊎ (after ≡ mid) → IsForcedOn plan hand asked limit past after
forced_cut plan p hand asked limit past mid after same on_going on (inl one) = forced_more plan p hand asked limit past mid after same on_going on one
forced_cut plan p hand asked limit past mid after same on_going on (inr same_past) = subst (λ (m : List Entry). IsForcedOn plan hand asked limit past m) (sym same_past) on

-- no more is forced
pub forced_out : (plan p : Outline) (hand : ℕ) (asked : Bool) (limit : Option ℕ) (past mid after : List Entry) → p ≡ plan → is_to_stop asked limit (length mid) ≡ false
    → IsForcedOn plan hand asked limit past mid → flow_of mid ≡ flow.Running → after ≡ mid → forced p (snapshot p mid) ≡ None → RanOn plan hand asked limit past after
forced_out plan p hand asked limit past mid after same on_going on running same_past none = subst (λ (m : List Entry). RanOn plan hand asked limit past m) (sym same_past) (record {
  on = on;
  running = running;
  unforced = subst (λ (x : Outline). forced x (snapshot x mid) ≡ None) same none;
  unstopped = on_going;
})

all_three : (a b c : Bool) → a ≡ true → b ≡ true → c ≡ true → a && (b && c) ≡ true
all_three true true true x y z = refl
all_three true true false x y z = absurd (cc)
all_three true false c x y z = absurd (cc)
all_three false b c x y z = absurd (cc)

suspends_here : (plan : Outline) (past : List Entry) → is_still plan (snapshot plan past) ≡ true → end_of plan (snapshot plan past) ≡ None → flow_of past ≡ flow.Suspending → may_suspend plan (snapshot plan past) ≡ true
unfolding may_suspend
suspends_here plan past still endless is =
    all_three (flow_suspends (snapshot plan past).flow) (is_still plan (snapshot plan past)) (is_none (end_of plan (snapshot plan past)))
    (ap flow_suspends (flow_shown plan past ∙ is)) still (ap is_none endless)

-- the flow's end may follow where nothing is in flight, and in SUSPENDING a suspension where there is no end
pub last_step : (plan : Outline) (past : List Entry) (hand : ℕ) (state : FlowState) → hand < 64 → is_still plan (snapshot plan past) ≡ true
    → (end_of plan (snapshot plan past) ≡ Some state) ⊎ ((end_of plan (snapshot plan past) ≡ None) × (flow_of past ≡ flow.Suspending) × (state ≡ flow.Suspended))
    → Step plan (snapshot plan past) (by_hand hand (what.Flow state))
last_step plan past hand state below still (inl ends) = record { hand = lt-ltb hand 64 below; rule = by_end (ap (option_map (λ (f : FlowState). what.Flow f)) ends) still }
last_step plan past hand state below still (inr is) =
    record { hand = lt-ltb hand 64 below; rule = by_suspension (suspends_here plan past still is.0 is.1) (ap (λ (f : FlowState). what.Flow f) is.2) }

-- the flow's end was to be recorded
pub cut_end : (plan : Outline) (hand : ℕ) (past after : List Entry) (state : FlowState) (r : Result (Unit {0}) Halt) → is_still plan (snapshot plan past) ≡ true → end_of plan (snapshot plan past) ≡ Some state
    → after ≡ past_after (by_hand hand (what.Flow state)) past r → IsClosedOr plan hand past after
cut_end plan hand past after state r still ends is = by (is_logged r) refl
  where
    by : (b : Bool) → is_logged r ≡ b → IsClosedOr plan hand past after
    by true recorded = ended state (record { still = still; ends = ends; is = is ∙ (rw recorded refl) })
    by false unrecorded = stays (is ∙ (rw unrecorded refl))

-- the suspension was to be recorded
pub cut_suspension : (plan : Outline) (hand : ℕ) (past after : List Entry) (r : Result (Unit {0}) Halt) → is_still plan (snapshot plan past) ≡ true → end_of plan (snapshot plan past) ≡ None → flow_of past ≡ flow.Suspending
    → after ≡ past_after (by_hand hand (what.Flow flow.Suspended)) past r → IsClosedOr plan hand past after
cut_suspension plan hand past after r still endless winds is = by (is_logged r) refl
  where
    by : (b : Bool) → is_logged r ≡ b → IsClosedOr plan hand past after
    by true recorded = suspended (record { suspending = winds; still = still; endless = endless; is = is ∙ (rw recorded refl) })
    by false unrecorded = stays (is ∙ (rw unrecorded refl))

-- a hand that has nothing in flight has nothing after forced entries
free_through : (plan : Outline) (hand h : ℕ) (asked : Bool) (limit : Option ℕ) (past entries : List Entry) → LegalPast plan (entries ++ past) → AreForced plan hand asked limit entries past
    → is_free plan (snapshot plan (entries ++ past)) h ≡ is_free plan (snapshot plan past) h
free_through plan hand h asked limit past [] legal are = refl
free_through plan hand h asked limit past (e ∷ entries) legal are =
    forced_free plan (entries ++ past) e.hand h e.what legal.1 are.1 ∙ free_through plan hand h asked limit past entries legal.1 are.3

pub free_forced : (plan : Outline) (hand h : ℕ) (asked : Bool) (limit : Option ℕ) (past between : List Entry) → LegalPast plan between → IsForcedOn plan hand asked limit past between
    → is_free plan (snapshot plan past) h ≡ true → is_free plan (snapshot plan between) h ≡ true
free_forced plan hand h asked limit past between legal on free =
    ap (λ (m : List Entry). is_free plan (snapshot plan m) h) on.is ∙ free_through plan hand h asked limit past on.entries (subst (LegalPast plan) on.is legal) on.are ∙ free

pub free_on : (plan : Outline) (hand h : ℕ) (asked : Bool) (limit : Option ℕ) (past between : List Entry) → LegalPast plan between → RanOn plan hand asked limit past between
    → is_free plan (snapshot plan past) h ≡ true → is_free plan (snapshot plan between) h ≡ true
free_on plan hand h asked limit past between legal ran free = free_forced plan hand h asked limit past between legal ran.on free

-- a failure's property in other words
pub err_so : {A B : Type 0} (r : Result A B) (P Q : Type 0) → (P → Q) → OnErr r P → OnErr r Q
err_so (Ok u) P Q follows is = tt
err_so (Err h) P Q follows is = follows is

-- a turn that was halted as it took a task up
pub halted_start : (plan p : Outline) (hand : ℕ) (asked : Bool) (limit : Option ℕ) (past between after : List Entry) (start : Start) → p ≡ plan → RanOn plan hand asked limit past between
    → IsStartedSo p hand between after start ⊎ (after ≡ between) → IsHaltedTurn plan hand asked limit past after
halted_start plan p hand asked limit past between after start same ran (inl is) = starting between start ran (subst (λ (x : Outline). IsStartedSo x hand between after start) same is)
halted_start plan p hand asked limit past between after start same ran (inr is) = forcing (subst (λ (m : List Entry). IsForcedOn plan hand asked limit past m) (sym is) ran.on)

-- and one that was halted as it found nothing to take up
pub halted_rest : (plan p : Outline) (hand : ℕ) (asked : Bool) (limit : Option ℕ) (past between after : List Entry) → p ≡ plan → RanOn plan hand asked limit past between
    → choice p (snapshot p between) ≡ None → IsClosedOr p hand between after → IsHaltedTurn plan hand asked limit past after
halted_rest plan p hand asked limit past between after same ran unchosen closed =
    resting between (nothing_to_take (record { ran = ran; unchosen = subst (λ (x : Outline). choice x (snapshot x between) ≡ None) same unchosen })) (subst (λ (x : Outline). IsClosedOr x hand between after) same closed)

pub halted_wind : (plan : Outline) (hand : ℕ) (asked : Bool) (limit : Option ℕ) (past after : List Entry) → flow_of past ≡ flow.Suspending → IsClosedOr plan hand past after
    → IsHaltedTurn plan hand asked limit past after
halted_wind plan hand asked limit past after is closed = resting past (suspending is refl) closed

-- ---- stopping

-- the same limit under another name
pub stops_same : (asked : Bool) (l m : Option ℕ) (n : ℕ) (b : Bool) → l ≡ m → is_to_stop asked l n ≡ b → is_to_stop asked m n ≡ b
stops_same asked l m n b same is = subst (λ (x : Option ℕ). is_to_stop asked x n ≡ b) same is

-- a success's property in other words
pub ok_so : {A B : Type 0} (r : Result A B) (P Q : A → Type 0) → ((a : A) → P a → Q a) → IfOk r P → IfOk r Q
ok_so (Ok a) P Q follows is = follows a is
ok_so (Err h) P Q follows is = tt

-- SUSPENDING was to be recorded
pub cut_suspending : (plan : Outline) (hand : ℕ) (past after : List Entry) (r : Result (Unit {0}) Halt) → after ≡ past_after (by_hand hand (what.Flow flow.Suspending)) past r
    → IsClosedOr plan hand (suspending_after hand past) after ⊎ (after ≡ past)
cut_suspending plan hand past after r is = by (is_logged r) refl
  where
    by : (b : Bool) → is_logged r ≡ b → IsClosedOr plan hand (suspending_after hand past) after ⊎ (after ≡ past)
    by true recorded = inl (stays (is ∙ (rw recorded refl)))
    by false unrecorded = inr (is ∙ (rw unrecorded refl))

-- a turn that stops gives no order
pub stopped_less : (plan : Outline) (hand : ℕ) (past after : List Entry) (answer : Turn) (old new : ℕ) → HasStopped plan hand past after answer → IsLessAfterStart old new answer
stopped_less plan hand past after (turn.Start order) old new has = absurd (⊎_elim (λ is. is.1) (λ is. is.1) has)
stopped_less plan hand past after turn.Idle old new has = tt
stopped_less plan hand past after (turn.Ended state) old new has = tt
stopped_less plan hand past after turn.Suspended old new has = tt

-- an end that may be recorded
pub ends_now : (plan : Outline) (s : Snapshot) (state : FlowState) → end_now plan s ≡ Some state → (is_still plan s ≡ true) × (end_of plan s ≡ Some state)
ends_now plan s state is = by (is_still plan s) refl
  where
    by : (b : Bool) → is_still plan s ≡ b → (is_still plan s ≡ true) × (end_of plan s ≡ Some state)
    by true still = let here : end_now plan s ≡ end_of plan s = rw still refl in (still, sym here ∙ is)
    by false moves = let here : end_now plan s ≡ None = rw moves refl in let none : None ≡ Some state = sym here ∙ is in absurd (cc)

-- a turn that stopped
pub stopped_turn : (plan p : Outline) (hand : ℕ) (asked : Bool) (limit : Option ℕ) (past between after : List Entry) (answer : Turn) → p ≡ plan → RanUntilStop plan hand asked limit past between
    → HasStopped p hand between after answer → IsTurn plan hand asked limit past after answer
stopped_turn plan p hand asked limit past between after answer same ran has =
    rests_so answer (⊎_elim (λ is. at_rest between (at_end ran is.0) is.1)
    (λ is. at_rest (suspending_after hand between) (to_suspend (record { before = between; ran = ran; endless = is.0; is = refl })) is.1)
    (subst (λ (x : Outline). HasStopped x hand between after answer) same has))
  where
    at_rest : (at : List Entry) → HandRests plan hand asked limit past at → HasRested plan hand at after answer → HandRestsAs plan hand asked limit past after answer
    at_rest at rests rested = record { between = at; rests = rests; rested = rested }

    rests_so : (t : Turn) → HandRestsAs plan hand asked limit past after t → IsTurn plan hand asked limit past after t
    rests_so (turn.Start order) is = absurd is.rested
    rests_so turn.Idle is = is
    rests_so (turn.Ended state) is = inl is
    rests_so turn.Suspended is = inl is

-- and one that was halted meanwhile
pub stopped_cut : (plan p : Outline) (hand : ℕ) (asked : Bool) (limit : Option ℕ) (past between after : List Entry) → p ≡ plan → RanUntilStop plan hand asked limit past between
    → IsStoppedOr p hand between after → IsHaltedTurn plan hand asked limit past after
stopped_cut plan p hand asked limit past between after same ran has =
    ⊎_elim (λ is. resting between (at_end ran is.0) is.1)
    (λ is. ⊎_elim (λ closed. resting (suspending_after hand between) (to_suspend (record { before = between; ran = ran; endless = is.0; is = refl })) closed)
    (λ same_past. forcing (subst (λ (m : List Entry). IsForcedOn plan hand asked limit past m) (sym same_past) ran.on)) is.1)
    (subst (λ (x : Outline). IsStoppedOr x hand between after) same has)

-- what was recorded after SUSPENDING, by other names of the same
pub closed_so : (plan p : Outline) (hand : ℕ) (mid between after : List Entry) → p ≡ plan → mid ≡ between → IsClosedOr p hand mid after → IsClosedOr plan hand between after
closed_so plan p hand mid between after same same_past closed =
    subst (λ (m : List Entry). IsClosedOr plan hand m after) same_past (subst (λ (x : Outline). IsClosedOr x hand mid after) same closed)
