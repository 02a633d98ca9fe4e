-- What a turn of a hand records, as part of a session.
use Rattle.std.proofs.Common.{◌≡◌, ◌≢◌, inl, inr, ◌⊎◌, ⊎_elim, ℕ, Bool, true, false, List, [], ◌∷◌, ◌++◌, length, Option, Some, refl, ap, ◌∙◌, sym, subst, append_assoc}
use Rattle.std.specs.Prelude.{not, nat_lt, reverse}
use Rattle.std.specs.List.{list_all}
use Rattle.tf_numbers.specs.Numbers.{Rises}
use Rattle.tf_actions.specs.declared.orders.Order.{Order}
use Rattle.tf_actions.specs.declared.outcomes.Outcome.{Outcome}
use Rattle.tf_states.specs.declared.record.Entry.{Entry}
use Rattle.tf_states.specs.declared.record.What.{What}
use Rattle.tf_states.specs.declared.record.What.TheVariants as what
use Rattle.tf_states.specs.declared.state.FlowState.{FlowState}
use Rattle.tf_states.specs.declared.state.FlowState.TheVariants as flow
use Rattle.tf_hands.specs.Hands.{start_entry, by_hand, HasOrder, IsAlone}
use Rattle.tf_hands.specs.declared.starts.Start.{Start}
use Rattle.tf_numbers.proofs.OptionLemmas.{only_if}
use Rattle.tf_numbers.proofs.TruthLemmas.{clash, not_true, true_both, true_second, and_first}
use Rattle.tf_hands.proofs.ForcedLemmas.{forced_no_end, forced_within, forced_inner}
use Rattle.tf_hands.proofs.ChoiceLemmas.{start_no_end, start_within, start_inner, choice_order}
use Rattle.tf_hands.proofs.FlightLemmas.{still_free}
use Rattle.tf_hands.proofs.GivenLemmas.{no_end_given}
use Rattle.tf_hands.proofs.OtherLemmas.{idle_free}
use Rattle.tf_hands.proofs.RestLemmas.{alone_still, own_alone, still_alone}
use Rattle.tf_model.proofs.StepLemmas.{end_is}
use Rattle.tf_model.specs.Forced.{forced, forced_if_running, is_active, is_unhurt}
use Rattle.tf_model.specs.History.{flow_of, snapshot, Snapshot, flow_runs, flow_suspends}
use Rattle.tf_model.specs.Plan.{Outline}
use Rattle.tf_model.specs.Steps.{whole, entering, has_ended, is_last, LegalPast, is_still, is_free}
use Rattle.tf_book.specs.Turns.{is_reached, is_to_stop, AreForced, IsForcedOn, TakesUp, IsStarted, IsEndOf, IsSuspensionOf, IsClosedOr, stays, ended, suspended, suspending_after, HandRests, nothing_to_take, at_end, to_suspend, suspending, HandRestsAs, WasOver, IsTurn, IsHaltedTurn, forcing, starting, resting, IsTurnAsked, IsHaltedTurnAsked}
use Rattle.tf_book.specs.declared.turn.Turn.{Turn}
use Rattle.tf_book.specs.declared.turn.Turn.TheVariants as turn
use Rattle.tf_book.proofs.ForceLemmas.{flow_stays, forced_stays, free_forced}
use Rattle.tf_book.specs.declared.faults.Halt.{Halt}
use Rattle.tf_engines.specs.declared.engine.How.{How}
use Rattle.tf_engines.specs.Runs.{is_of, suspends, IsSession, HasRun, HaltsAs, IsUnderWay, Winds, StandsBetween, going_on, winding, stopped}
use Rattle.tf_engines.proofs.StopLemmas.{reached_more, unreached, stopped_by, answered_asked, due_none}
use Rattle.tf_engines.proofs.RunLemmas.{counted, goes_more, halts_so}
use Rattle.tf_engines.proofs.StandLemmas.{stands_goes, stands_winds, stands_stopped, stands_session, running_winds}

-- ---- the flow in a turn

runs_so : (f : FlowState) → flow_runs f ≡ true → f ≡ flow.Running
runs_so flow.Running is = refl
runs_so f is = absurd (cc)

-- an entry is forced in RUNNING alone
forced_runs : (plan : Outline) (past : List Entry) (w : What) → forced plan (snapshot plan past) ≡ Some w → flow_of past ≡ flow.Running
unfolding forced is_active snapshot
forced_runs plan past w is =
    let s : Snapshot = snapshot plan past in
    runs_so (flow_of past) (and_first (flow_runs s.flow) (is_unhurt plan s) (only_if (is_active plan s) (forced_if_running plan s) w is).0)

pub ended_last : (state : FlowState) → has_ended state ≡ true → (is_last state ≡ true) × (not (suspends (what.Flow state)) ≡ true) × (state ≢ flow.Suspended)
ended_last flow.Success is = (refl, refl, λ same. cc)
ended_last flow.Failure is = (refl, refl, λ same. cc)
ended_last flow.Reverted is = (refl, refl, λ same. cc)
ended_last state is = absurd (cc)

not_over : (past after : List Entry) (state : FlowState) → flow_of past ≡ flow.Running → WasOver past after state → ⊥
not_over past after state running over =
    let same : flow.Running ≡ state = sym running ∙ over.0 in
    let last : is_last flow.Running ≡ true = ap is_last same ∙ over.1 in
    absurd (cc)

-- ---- turns of one hand

module _ (hand : ℕ) where
  entry_of : (e : Entry) → e.hand ≡ hand → by_hand hand e.what ≡ e
  entry_of e is = ap (λ (h : ℕ). by_hand h e.what) (sym is)

  forced_flow : (plan : Outline) (past entries : List Entry) (stop : Bool) (kept : Option ℕ) → AreForced plan hand stop kept entries past → flow_of (entries ++ past) ≡ flow_of past
  forced_flow plan past [] stop kept are = refl
  forced_flow plan past (e ∷ entries) stop kept are =
      ap (λ (x : Entry). flow_of (x ∷ (entries ++ past))) (sym (entry_of e are.0)) ∙ forced_stays plan hand (entries ++ past) e.what are.1 ∙ forced_flow plan past entries stop kept are.3

  on_flow : (plan : Outline) (past after : List Entry) (stop : Bool) (kept : Option ℕ) → IsForcedOn plan hand stop kept past after → flow_of after ≡ flow_of past
  on_flow plan past after stop kept is = ap flow_of is.is ∙ forced_flow plan past is.entries stop kept is.are

  alone_forced : (plan : Outline) (past entries : List Entry) (stop : Bool) (kept : Option ℕ) → AreForced plan hand stop kept entries past → IsAlone plan past hand → IsAlone plan (entries ++ past) hand
  alone_forced plan past [] stop kept are alone = alone
  alone_forced plan past (e ∷ entries) stop kept are alone = own_alone plan (entries ++ past) e hand are.0 (alone_forced plan past entries stop kept are.3 alone)

  alone_on : (plan : Outline) (past between : List Entry) (stop : Bool) (kept : Option ℕ) → IsForcedOn plan hand stop kept past between → IsAlone plan past hand → IsAlone plan between hand
  alone_on plan past between stop kept is alone = subst (λ (l : List Entry). IsAlone plan l hand) (sym is.is) (alone_forced plan past is.entries stop kept is.are alone)

  -- ---- a start

  pub has_started : (plan : Outline) (past after : List Entry) (stop : Bool) (kept : Option ℕ) (order : Order) → IsStarted plan hand stop kept past after order → HasOrder plan after hand order
  has_started plan past after stop kept order is =
      subst (λ (l : List Entry). HasOrder plan l hand order) (sym is.takes.is) (choice_order plan is.between hand is.start order is.takes.chosen is.takes.action is.takes.asked)

  pub alone_started : (plan : Outline) (past after : List Entry) (stop : Bool) (kept : Option ℕ) (order : Order) → is_still plan (snapshot plan past) ≡ true → IsStarted plan hand stop kept past after order
      → IsAlone plan after hand
  alone_started plan past after stop kept order still is =
      subst (λ (l : List Entry). IsAlone plan l hand) (sym is.takes.is)
      (own_alone plan is.between (by_hand hand (start_entry is.start)) hand refl (alone_on plan past is.between stop kept is.ran.on (still_alone plan past hand still)))

  up_flow : (plan : Outline) (past after : List Entry) (start : Start) (order : Order) → TakesUp plan hand past after start order → flow_of after ≡ flow_of past
  up_flow plan past after start order takes = ap flow_of takes.is ∙ flow_stays hand (start_entry start) past (start_within start)

  pub runs_started : (plan : Outline) (past after : List Entry) (stop : Bool) (kept : Option ℕ) (order : Order) → IsStarted plan hand stop kept past after order → flow_of after ≡ flow.Running
  runs_started plan past after stop kept order is = up_flow plan is.between after is.start order is.takes ∙ is.ran.running

  -- ---- a hand that finds nothing to take up

  rests_alone : (plan : Outline) (past between : List Entry) (stop : Bool) (kept : Option ℕ) → HandRests plan hand stop kept past between → IsAlone plan past hand → IsAlone plan between hand
  rests_alone plan past between stop kept (nothing_to_take nothing) alone = alone_on plan past between stop kept nothing.ran.on alone
  rests_alone plan past between stop kept (at_end ran ends) alone = alone_on plan past between stop kept ran.on alone
  rests_alone plan past between stop kept (to_suspend s) alone =
      subst (λ (l : List Entry). IsAlone plan l hand) (sym s.is) (own_alone plan s.before (by_hand hand (what.Flow flow.Suspending)) hand refl (alone_on plan past s.before stop kept s.ran.on alone))
  rests_alone plan past between stop kept (suspending winds same) alone = subst (λ (l : List Entry). IsAlone plan l hand) (sym same) alone

  rests_free : (plan : Outline) (past between : List Entry) (stop : Bool) (kept : Option ℕ) → LegalPast plan between → HandRests plan hand stop kept past between
      → is_free plan (snapshot plan past) hand ≡ true → is_free plan (snapshot plan between) hand ≡ true
  rests_free plan past between stop kept legal (nothing_to_take nothing) free = free_forced plan hand hand stop kept past between legal nothing.ran.on free
  rests_free plan past between stop kept legal (at_end ran ends) free = free_forced plan hand hand stop kept past between legal ran.on free
  rests_free plan past between stop kept legal (to_suspend s) free =
      let turned : Entry = by_hand hand (what.Flow flow.Suspending) in
      let later : LegalPast plan (turned ∷ s.before) = subst (LegalPast plan) s.is legal in
      subst (λ (l : List Entry). is_free plan (snapshot plan l) hand ≡ true) (sym s.is)
      (idle_free plan s.before turned hand refl (free_forced plan hand hand stop kept past s.before later.1 s.ran.on free))
  rests_free plan past between stop kept legal (suspending winds same) free = subst (λ (l : List Entry). is_free plan (snapshot plan l) hand ≡ true) (sym same) free

  -- a free hand that waits is still free, and something is in flight
  pub idle_turn : (plan : Outline) (past after : List Entry) (stop : Bool) (kept : Option ℕ) → LegalPast plan after → is_free plan (snapshot plan past) hand ≡ true → HandRestsAs plan hand stop kept past after turn.Idle
      → (is_still plan (snapshot plan after) ≡ false) × (is_free plan (snapshot plan after) hand ≡ true)
  idle_turn plan past after stop kept legal free is =
      let same : is.between ≡ after = sym is.rested.1 in (
        subst (λ (l : List Entry). is_still plan (snapshot plan l) ≡ false) same is.rested.0,
        subst (λ (l : List Entry). is_free plan (snapshot plan l) hand ≡ true) same (rests_free plan past is.between stop kept (subst (LegalPast plan) is.rested.1 legal) is.rests free),
      )

  -- where nothing is in flight it doesn't wait
  pub never_waits : (plan : Outline) (past after : List Entry) (stop : Bool) (kept : Option ℕ) → is_still plan (snapshot plan past) ≡ true → LegalPast plan after → HandRestsAs plan hand stop kept past after turn.Idle → ⊥
  never_waits plan past after stop kept still legal is =
      let waits = idle_turn plan past after stop kept legal (still_free plan (snapshot plan past) hand still) is in
      let alone : IsAlone plan after hand = subst (λ (l : List Entry). IsAlone plan l hand) (sym is.rested.1) (rests_alone plan past is.between stop kept is.rests (still_alone plan past hand still)) in
      clash (is_still plan (snapshot plan after)) (alone_still plan after hand alone waits.1) waits.0

  -- ---- the end

  pub turn_stops : (plan : Outline) (past after : List Entry) (kept : Option ℕ) (asks_then asks_now : ℕ) (state : FlowState) → flow_of past ≡ flow.Running
      → IsTurnAsked plan hand kept asks_then asks_now past after (turn.Ended state) → (flow_of after ≡ state) × (has_ended state ≡ true)
  turn_stops plan past after kept asks_then asks_now state running t =
      ⊎_elim (λ is. (ap flow_of is.rested.is, (end_is plan (snapshot plan is.between) state is.rested.ends).1)) (λ over. absurd (not_over past after state running over)) t.is

  pub turn_is_suspended : (plan : Outline) (past after : List Entry) (kept : Option ℕ) (asks_then asks_now : ℕ) → IsTurnAsked plan hand kept asks_then asks_now past after turn.Suspended → flow_of after ≡ flow.Suspended
  turn_is_suspended plan past after kept asks_then asks_now t = ⊎_elim (λ is. ap flow_of is.rested.is) (λ over. ap flow_of over.2 ∙ over.0) t.is

-- ---- what a turn of a hand leaves of a session

module _ (hand number : ℕ) (below : nat_lt hand number ≡ true) (gives : Order → Outcome → Type 0) (limit : Option ℕ) (plan : Outline) (before : List Entry) where
  goes_forced : (past entries : List Entry) (stop : Bool) (kept : Option ℕ) → AreForced plan hand stop kept entries past → IsUnderWay gives number limit plan before past kept → IsUnderWay gives number limit plan before (entries ++ past) kept
  goes_forced past [] stop kept are on = on
  goes_forced past (e ∷ entries) stop kept are on =
      subst (λ (x : Entry). IsUnderWay gives number limit plan before (x ∷ (entries ++ past)) kept) (entry_of hand e are.0)
      (goes_more gives hand number limit plan before (entries ++ past) kept e.what below (forced_within plan (snapshot plan (entries ++ past)) e.what are.1) (forced_inner plan (snapshot plan (entries ++ past)) e.what are.1)
      (no_end_given gives plan (entries ++ past) e.what (forced_no_end plan (snapshot plan (entries ++ past)) e.what are.1))
      (λ reached. absurd (unreached stop kept (length (entries ++ past)) are.2 reached))
      (goes_forced past entries stop kept are.3 on))

  goes_on_forced : (past after : List Entry) (stop : Bool) (kept : Option ℕ) → IsForcedOn plan hand stop kept past after → IsUnderWay gives number limit plan before past kept → IsUnderWay gives number limit plan before after kept
  goes_on_forced past after stop kept is on = subst (λ (l : List Entry). IsUnderWay gives number limit plan before l kept) (sym is.is) (goes_forced past is.entries stop kept is.are on)

  goes_up : (past after : List Entry) (stop : Bool) (kept : Option ℕ) (start : Start) (order : Order) → is_to_stop stop kept (length past) ≡ false → TakesUp plan hand past after start order
      → IsUnderWay gives number limit plan before past kept → IsUnderWay gives number limit plan before after kept
  goes_up past after stop kept start order going takes on =
      subst (λ (l : List Entry). IsUnderWay gives number limit plan before l kept) (sym takes.is)
      (goes_more gives hand number limit plan before past kept (start_entry start) below (start_within start) (start_inner start) (no_end_given gives plan past (start_entry start) (start_no_end plan start))
      (λ reached. absurd (unreached stop kept (length past) going reached)) on)

  pub goes_started : (past after : List Entry) (stop : Bool) (kept : Option ℕ) (order : Order) → IsStarted plan hand stop kept past after order
      → IsUnderWay gives number limit plan before past kept → IsUnderWay gives number limit plan before after kept
  goes_started past after stop kept order is on = goes_up is.between after stop kept is.start order is.ran.unstopped is.takes (goes_on_forced past is.between stop kept is.ran.on on)

  module _ (asked : Type 0) where
    -- a session that stops with this last entry
    closes : (between after : List Entry) (state : FlowState) → is_last state ≡ true → not (suspends (what.Flow state)) ≡ true
        → (state ≡ flow.Suspended → flow_of between ≡ flow.Suspending) → LegalPast plan after → after ≡ by_hand hand (what.Flow state) ∷ between → Winds gives asked number limit plan before between
        → IsSession gives asked number limit plan before after (Some state)
    closes between after state last goes from legal is w =
        let tail : List Entry = w.inner ++ reverse (entering (flow_of before)) in
        let same : after ≡ by_hand hand (what.Flow state) ∷ (w.inner ++ (reverse (entering (flow_of before)) ++ before)) = is ∙ ap (λ (l : List Entry). by_hand hand (what.Flow state) ∷ l) w.recorded in
        record {
          entries = by_hand hand (what.Flow state) ∷ tail;
          recorded = same ∙ ap (λ (l : List Entry). by_hand hand (what.Flow state) ∷ l) (sym (append_assoc w.inner (reverse (entering (flow_of before))) before));
          session = whole hand state w.inner last w.inside w.begun (subst (LegalPast plan) same legal);
          given = (tt, w.given);
          hands = true_both (nat_lt hand number) (list_all (is_of number) tail) below w.hands;
          due = ((λ is_so. absurd (clash (suspends (what.Flow state)) is_so (not_true (suspends (what.Flow state)) goes))), w.due);
          within = ((λ entered reached. true_second (flow_suspends state) (is_last state) last), w.within);
          suspended = λ stops.
              (let here : state ≡ flow.Suspended = cc in
              record {
                cause = ⊎_elim (λ told. inl told) (λ reached. inr (reached_more limit (length tail) reached)) (w.cause (from here));
                hand = hand;
                before = tail;
                last = ap (λ (f : FlowState). by_hand hand (what.Flow f) ∷ tail) here;
              });
        }

    -- it stands in that state then
    stopped_so : (after : List Entry) (kept : Option ℕ) (state : FlowState) → is_last state ≡ true → flow_of after ≡ state → IsSession gives asked number limit plan before after (Some state)
        → StandsBetween gives asked number limit plan before after kept
    stopped_so after kept state last at session = stopped (ap is_last at ∙ last) (subst (λ (f : FlowState). IsSession gives asked number limit plan before after (Some f)) (sym at) session)

    ended_stands : (between after : List Entry) (kept : Option ℕ) (state : FlowState) → LegalPast plan after → IsEndOf plan hand between after state → Winds gives asked number limit plan before between
        → StandsBetween gives asked number limit plan before after kept
    ended_stands between after kept state legal is w =
        let last = ended_last state (end_is plan (snapshot plan between) state is.ends).1 in
        stopped_so after kept state last.0 (ap flow_of is.is) (closes between after state last.0 last.1 (λ here. absurd (last.2 here)) legal is.is w)

    suspended_stands : (between after : List Entry) (kept : Option ℕ) → LegalPast plan after → IsSuspensionOf plan hand between after → Winds gives asked number limit plan before between
        → StandsBetween gives asked number limit plan before after kept
    suspended_stands between after kept legal is w =
        stopped_so after kept flow.Suspended refl (ap flow_of is.is) (closes between after flow.Suspended refl refl (λ here. is.suspending) legal is.is w)

    -- after SUSPENDING it is wound up
    suspending_winds : (past : List Entry) (stop : Bool) (kept : Option ℕ) → (stop ≡ true → asked) → is_to_stop stop kept (length past) ≡ true
        → IsUnderWay gives number limit plan before past kept → Winds gives asked number limit plan before (suspending_after hand past)
    suspending_winds past stop kept was stops on =
        let first : List Entry = reverse (entering (flow_of before)) in
        let tail : List Entry = on.inner ++ first in
        let why : asked ⊎ (is_reached limit (length tail) ≡ true) = stopped_by stop asked limit kept (length before) (length tail) (length past) was on.limited (counted before past on.inner first on.recorded) stops in
        record {
          inner = by_hand hand (what.Flow flow.Suspending) ∷ on.inner;
          recorded = ap (λ (l : List Entry). by_hand hand (what.Flow flow.Suspending) ∷ l) on.recorded;
          inside = on.inside;
          begun = on.begun;
          given = (tt, on.given);
          hands = true_both (nat_lt hand number) (list_all (is_of number) tail) below on.hands;
          due = ((λ is. why), due_none asked limit tail on.unsuspended);
          within = ((λ entered reached. refl), on.within);
          cause = λ winds. ⊎_elim (λ told. inl told) (λ reached. inr (reached_more limit (length tail) reached)) why;
        }

    -- how it stands where a hand finds nothing to take up
    record Rested (between : List Entry) (kept : Option ℕ) : Type 0 where
      stands : StandsBetween gives asked number limit plan before between kept
      winds : Winds gives asked number limit plan before between

    rested_running : (past between : List Entry) (stop : Bool) (kept : Option ℕ) → IsForcedOn plan hand stop kept past between → flow_of between ≡ flow.Running
        → StandsBetween gives asked number limit plan before past kept → IsUnderWay gives number limit plan before between kept
    rested_running past between stop kept on running s =
        goes_on_forced past between stop kept on (stands_goes gives asked number limit plan before past kept (sym (on_flow hand plan past between stop kept on) ∙ running) s)

    rested_so : (between : List Entry) (kept : Option ℕ) → flow_of between ≡ flow.Running → IsUnderWay gives number limit plan before between kept → Rested between kept
    rested_so between kept running on = record { stands = going_on running on; winds = running_winds gives asked number limit plan before between kept running on }

    rested : (past between : List Entry) (stop : Bool) (kept : Option ℕ) → (stop ≡ true → asked) → HandRests plan hand stop kept past between → StandsBetween gives asked number limit plan before past kept → Rested between kept
    rested past between stop kept was (nothing_to_take nothing) s = rested_so between kept nothing.ran.running (rested_running past between stop kept nothing.ran.on nothing.ran.running s)
    rested past between stop kept was (at_end ran ends) s = rested_so between kept ran.running (rested_running past between stop kept ran.on ran.running s)
    rested past between stop kept was (to_suspend w) s =
        let winds = suspending_winds w.before stop kept was w.ran.stops (rested_running past w.before stop kept w.ran.on w.ran.running s) in
        subst (λ (l : List Entry). Rested l kept) (sym w.is) (record { stands = winding refl winds; winds = winds })
    rested past between stop kept was (suspending winds same) s =
        subst (λ (l : List Entry). Rested l kept) (sym same) (record { stands = s; winds = stands_winds gives asked number limit plan before past kept winds s })

    turn_by : (past after : List Entry) (stop : Bool) (kept : Option ℕ) (answer : Turn) → (stop ≡ true → asked) → LegalPast plan after → IsTurn plan hand stop kept past after answer
        → StandsBetween gives asked number limit plan before past kept → StandsBetween gives asked number limit plan before after kept
    turn_by past after stop kept (turn.Start order) was legal is s =
        let from : flow_of past ≡ flow.Running = sym (on_flow hand plan past is.0.between stop kept is.0.ran.on) ∙ is.0.ran.running in
        going_on (runs_started hand plan past after stop kept order is.0) (goes_started past after stop kept order is.0 (stands_goes gives asked number limit plan before past kept from s))
    turn_by past after stop kept turn.Idle was legal is s =
        subst (λ (l : List Entry). StandsBetween gives asked number limit plan before l kept) (sym is.rested.1) (rested past is.between stop kept was is.rests s).stands
    turn_by past after stop kept (turn.Ended state) was legal is s =
        ⊎_elim (λ r. ended_stands r.between after kept state legal r.rested (rested past r.between stop kept was r.rests s).winds)
        (λ over. subst (λ (l : List Entry). StandsBetween gives asked number limit plan before l kept) (sym over.2) s) is
    turn_by past after stop kept turn.Suspended was legal is s =
        ⊎_elim (λ r. suspended_stands r.between after kept legal r.rested (rested past r.between stop kept was r.rests s).winds)
        (λ over. subst (λ (l : List Entry). StandsBetween gives asked number limit plan before l kept) (sym over.2) s) is

    -- what is forced: something in RUNNING, or nothing
    forcing_stands : (past entries : List Entry) (stop : Bool) (kept : Option ℕ) → AreForced plan hand stop kept entries past → StandsBetween gives asked number limit plan before past kept
        → StandsBetween gives asked number limit plan before (entries ++ past) kept
    forcing_stands past [] stop kept are s = s
    forcing_stands past (e ∷ entries) stop kept are s =
        let middle : flow_of (entries ++ past) ≡ flow.Running = forced_runs plan (entries ++ past) e.what are.1 in
        let from : flow_of past ≡ flow.Running = sym (forced_flow hand plan past entries stop kept are.3) ∙ middle in
        going_on (forced_flow hand plan past (e ∷ entries) stop kept are ∙ from) (goes_forced past (e ∷ entries) stop kept are (stands_goes gives asked number limit plan before past kept from s))

    closed_stands : (between after : List Entry) (kept : Option ℕ) → LegalPast plan after → IsClosedOr plan hand between after → Rested between kept → StandsBetween gives asked number limit plan before after kept
    closed_stands between after kept legal (stays same) r = subst (λ (l : List Entry). StandsBetween gives asked number limit plan before l kept) (sym same) r.stands
    closed_stands between after kept legal (ended state is) r = ended_stands between after kept state legal is r.winds
    closed_stands between after kept legal (suspended is) r = suspended_stands between after kept legal is r.winds

    halted_by : (past after : List Entry) (stop : Bool) (kept : Option ℕ) → (stop ≡ true → asked) → LegalPast plan after → IsHaltedTurn plan hand stop kept past after
        → StandsBetween gives asked number limit plan before past kept → StandsBetween gives asked number limit plan before after kept
    halted_by past after stop kept was legal (forcing is) s = subst (λ (l : List Entry). StandsBetween gives asked number limit plan before l kept) (sym is.is) (forcing_stands past is.entries stop kept is.are s)
    halted_by past after stop kept was legal (starting between start ran is) s =
        going_on (up_flow hand plan between after start is.order is.takes ∙ ran.running)
        (goes_up between after stop kept start is.order ran.unstopped is.takes (rested_running past between stop kept ran.on ran.running s))
    halted_by past after stop kept was legal (resting between rests closed) s = closed_stands between after kept legal closed (rested past between stop kept was rests s)

    -- ---- the same, where the count of stops tells whether one was asked for

    pub turn_stands : (past after : List Entry) (kept : Option ℕ) (asks_then asks_now : ℕ) (answer : Turn) → (Rises asks_then asks_now → asked) → LegalPast plan after
        → IsTurnAsked plan hand kept asks_then asks_now past after answer → StandsBetween gives asked number limit plan before past kept → StandsBetween gives asked number limit plan before after kept
    turn_stands past after kept asks_then asks_now answer so legal t s =
        turn_by past after t.stop kept answer (λ told. so (answered_asked t.stop asks_then asks_now t.answered told)) legal t.is s

    pub halted_stands : (past after : List Entry) (kept : Option ℕ) (asks_then asks_now : ℕ) → (Rises asks_then asks_now → asked) → LegalPast plan after
        → IsHaltedTurnAsked plan hand kept asks_then asks_now past after → StandsBetween gives asked number limit plan before past kept → StandsBetween gives asked number limit plan before after kept
    halted_stands past after kept asks_then asks_now so legal t s =
        halted_by past after t.stop kept (λ told. so (answered_asked t.stop asks_then asks_now t.answered told)) legal t.is s

  -- ---- turns in RUNNING

  pub turn_ended : (past after : List Entry) (kept : Option ℕ) (asks_then asks_now : ℕ) (state : FlowState) → flow_of past ≡ flow.Running → LegalPast plan after
      → IsTurnAsked plan hand kept asks_then asks_now past after (turn.Ended state) → IsUnderWay gives number limit plan before past kept
      → IsSession gives (Rises asks_then asks_now) number limit plan before after (Some state)
  turn_ended past after kept asks_then asks_now state running legal t on =
      let stops = turn_stops hand plan past after kept asks_then asks_now state running t in
      let last : is_last (flow_of after) ≡ true = ap is_last stops.0 ∙ (ended_last state stops.1).0 in
      subst (λ (f : FlowState). IsSession gives (Rises asks_then asks_now) number limit plan before after (Some f)) stops.0
      (stands_stopped gives (Rises asks_then asks_now) number limit plan before after kept last
      (turn_stands (Rises asks_then asks_now) past after kept asks_then asks_now (turn.Ended state) (λ so. so) legal t (going_on running on)))

  pub turn_suspended : (past after : List Entry) (kept : Option ℕ) (asks_then asks_now : ℕ) → flow_of past ≡ flow.Running → LegalPast plan after
      → IsTurnAsked plan hand kept asks_then asks_now past after turn.Suspended → IsUnderWay gives number limit plan before past kept
      → IsSession gives (Rises asks_then asks_now) number limit plan before after (Some flow.Suspended)
  turn_suspended past after kept asks_then asks_now running legal t on =
      let stops = turn_is_suspended hand plan past after kept asks_then asks_now t in
      subst (λ (f : FlowState). IsSession gives (Rises asks_then asks_now) number limit plan before after (Some f)) stops
      (stands_stopped gives (Rises asks_then asks_now) number limit plan before after kept (ap is_last stops)
      (turn_stands (Rises asks_then asks_now) past after kept asks_then asks_now turn.Suspended (λ so. so) legal t (going_on running on)))

  pub halted_run : (past after : List Entry) (kept : Option ℕ) (asks_then asks_now : ℕ) (cause : Option Halt) (answer : How) → HaltsAs cause answer → flow_of past ≡ flow.Running → LegalPast plan after
      → IsHaltedTurnAsked plan hand kept asks_then asks_now past after → IsUnderWay gives number limit plan before past kept → HasRun gives (Rises asks_then asks_now) number limit plan before after answer
  halted_run past after kept asks_then asks_now cause answer halts running legal t on =
      let session = stands_session gives (Rises asks_then asks_now) number limit plan before after kept legal
      (halted_stands (Rises asks_then asks_now) past after kept asks_then asks_now (λ so. so) legal t (going_on running on)) in
      halts_so gives (Rises asks_then asks_now) number limit plan before after cause answer halts session.0 session.1
