-- What a turn of one of several hands adds to the history, and what the hand knows after it.
use Rattle.std.proofs.Common.{◌≡◌, ⊎_elim, ℕ, Bool, true, false, not, List, [], ◌∷◌, ◌++◌, Option, Some, None, refl, ap, ◌∙◌, sym, subst, eq-eqb, inl, inr, ◌⊎◌}
use Rattle.std.specs.Prelude.{nat_eq, is_none}
use Rattle.std.specs.List.{list_all}
use Rattle.tf_numbers.proofs.BelowLemmas.{not_all}
use Rattle.tf_numbers.proofs.TruthLemmas.{true_both}
use Rattle.tf_actions.specs.declared.orders.Order.{Order}
use Rattle.tf_actions.specs.declared.outcomes.Outcome.{Outcome}
use Rattle.tf_states.specs.declared.record.Entry.{Entry}
use Rattle.tf_states.specs.declared.record.What.{What}
use Rattle.tf_states.specs.declared.record.What.TheVariants as what
use Rattle.tf_states.specs.declared.state.FlowState.{FlowState}
use Rattle.tf_states.specs.declared.state.FlowState.TheVariants as flow
use Rattle.tf_hands.specs.Hands.{start_entry, ended_from, by_hand, is_resuming, orders}
use Rattle.tf_hands.specs.declared.starts.Start.{Start}
use Rattle.tf_hands.proofs.EntryLemmas.{within_resumes}
use Rattle.tf_hands.proofs.ForcedLemmas.{forced_within}
use Rattle.tf_hands.proofs.ChoiceLemmas.{start_within}
use Rattle.tf_hands.proofs.EndLemmas.{ended_within, end_frees}
use Rattle.tf_hands.proofs.FlightLemmas.{free_at}
use Rattle.tf_model.proofs.StepLemmas.{end_is}
use Rattle.tf_model.specs.History.{flow_of, snapshot}
use Rattle.tf_model.specs.Plan.{Outline, count}
use Rattle.tf_model.specs.Steps.{has_ended, is_last, LegalPast, is_idle, is_still, is_free}
use Rattle.tf_book.specs.Turns.{AreForced, IsForcedOn, TakesUp, IsEndOf, IsSuspensionOf, IsClosedOr, stays, ended, suspended, HandRests, nothing_to_take, at_end, to_suspend, suspending, IsTurn, IsHaltedTurn, forcing, starting, resting, IsTurnAsked, IsHaltedTurnAsked, IsFinished}
use Rattle.tf_book.specs.declared.turn.Turn.{Turn}
use Rattle.tf_book.specs.declared.turn.Turn.TheVariants as turn
use Rattle.tf_engines.specs.Asked.{HasDone}
use Rattle.tf_engines.specs.Working.{is_by, IsAdded, next_by, IsHeldByOther, HasNext, HasDoneNext}
use Rattle.tf_engines.proofs.OrderLemmas.{started_to_do, rested_done, ended_done, suspended_done}
use Rattle.tf_engines.proofs.TurnLemmas.{ended_last, has_started, idle_turn}

module _ (hand : ℕ) where
  -- ---- what is added

  by_this : (w : What) → is_resuming w ≡ false → is_by hand (by_hand hand w) ≡ true
  by_this w goes = true_both (nat_eq hand hand) (not (is_resuming w)) (eq-eqb hand hand refl) (ap not goes)

  add_none : (past : List Entry) → IsAdded hand past past
  add_none past = record { more = []; is = refl; by = refl }

  pub add_same : (past after : List Entry) → after ≡ past → IsAdded hand past after
  add_same past after same = subst (λ (l : List Entry). IsAdded hand past l) (sym same) (add_none past)

  add_one : (past mid after : List Entry) (w : What) → is_resuming w ≡ false → after ≡ by_hand hand w ∷ mid → IsAdded hand past mid → IsAdded hand past after
  add_one past mid after w goes is added = record {
    more = by_hand hand w ∷ added.more;
    is = is ∙ ap (λ (l : List Entry). by_hand hand w ∷ l) added.is;
    by = true_both (is_by hand (by_hand hand w)) (list_all (is_by hand) added.more) (by_this w goes) added.by;
  }

  add_forced : (plan : Outline) (past entries : List Entry) (stop : Bool) (kept : Option ℕ) → AreForced plan hand stop kept entries past → list_all (is_by hand) entries ≡ true
  add_forced plan past [] stop kept are = refl
  add_forced plan past (e ∷ entries) stop kept are =
      true_both (is_by hand e) (list_all (is_by hand) entries)
      (true_both (nat_eq e.hand hand) (not (is_resuming e.what)) (eq-eqb e.hand hand are.0) (ap not (within_resumes e.what (forced_within plan (snapshot plan (entries ++ past)) e.what are.1))))
      (add_forced plan past entries stop kept are.3)

  add_on : (plan : Outline) (past after : List Entry) (stop : Bool) (kept : Option ℕ) → IsForcedOn plan hand stop kept past after → IsAdded hand past after
  add_on plan past after stop kept is = record { more = is.entries; is = is.is; by = add_forced plan past is.entries stop kept is.are }

  add_up : (plan : Outline) (past mid after : List Entry) (start : Start) (order : Order) → TakesUp plan hand mid after start order → IsAdded hand past mid → IsAdded hand past after
  add_up plan past mid after start order takes added = add_one past mid after (start_entry start) (within_resumes (start_entry start) (start_within start)) takes.is added

  add_rests : (plan : Outline) (past between : List Entry) (stop : Bool) (kept : Option ℕ) → HandRests plan hand stop kept past between → IsAdded hand past between
  add_rests plan past between stop kept (nothing_to_take nothing) = add_on plan past between stop kept nothing.ran.on
  add_rests plan past between stop kept (at_end ran ends) = add_on plan past between stop kept ran.on
  add_rests plan past between stop kept (to_suspend s) = add_one past s.before between (what.Flow flow.Suspending) refl s.is (add_on plan past s.before stop kept s.ran.on)
  add_rests plan past between stop kept (suspending winds same) = add_same past between same

  last_goes : (state : FlowState) → has_ended state ≡ true → is_resuming (what.Flow state) ≡ false
  last_goes flow.Resuming is = absurd (cc)
  last_goes state is = refl

  add_end : (plan : Outline) (past between after : List Entry) (state : FlowState) → IsEndOf plan hand between after state → IsAdded hand past between → IsAdded hand past after
  add_end plan past between after state is added = add_one past between after (what.Flow state) (last_goes state (end_is plan (snapshot plan between) state is.ends).1) is.is added

  add_suspension : (plan : Outline) (past between after : List Entry) → IsSuspensionOf plan hand between after → IsAdded hand past between → IsAdded hand past after
  add_suspension plan past between after is added = add_one past between after (what.Flow flow.Suspended) refl is.is added

  add_turn : (plan : Outline) (past after : List Entry) (stop : Bool) (kept : Option ℕ) (answer : Turn) → IsTurn plan hand stop kept past after answer → IsAdded hand past after
  add_turn plan past after stop kept (turn.Start order) is = add_up plan past is.0.between after is.0.start order is.0.takes (add_on plan past is.0.between stop kept is.0.ran.on)
  add_turn plan past after stop kept turn.Idle is = subst (λ (l : List Entry). IsAdded hand past l) (sym is.rested.1) (add_rests plan past is.between stop kept is.rests)
  add_turn plan past after stop kept (turn.Ended state) is =
      ⊎_elim (λ r. add_end plan past r.between after state r.rested (add_rests plan past r.between stop kept r.rests)) (λ over. add_same past after over.2) is
  add_turn plan past after stop kept turn.Suspended is =
      ⊎_elim (λ r. add_suspension plan past r.between after r.rested (add_rests plan past r.between stop kept r.rests)) (λ over. add_same past after over.2) is

  add_closed : (plan : Outline) (past between after : List Entry) → IsClosedOr plan hand between after → IsAdded hand past between → IsAdded hand past after
  add_closed plan past between after (stays same) added = subst (λ (l : List Entry). IsAdded hand past l) (sym same) added
  add_closed plan past between after (ended state is) added = add_end plan past between after state is added
  add_closed plan past between after (suspended is) added = add_suspension plan past between after is added

  add_halted : (plan : Outline) (past after : List Entry) (stop : Bool) (kept : Option ℕ) → IsHaltedTurn plan hand stop kept past after → IsAdded hand past after
  add_halted plan past after stop kept (forcing is) = add_on plan past after stop kept is
  add_halted plan past after stop kept (starting between start ran is) = add_up plan past between after start is.order is.takes (add_on plan past between stop kept ran.on)
  add_halted plan past after stop kept (resting between rests closed) = add_closed plan past between after closed (add_rests plan past between stop kept rests)

  pub turn_adds : (plan : Outline) (past after : List Entry) (kept : Option ℕ) (asks_then asks_now : ℕ) (answer : Turn) → IsTurnAsked plan hand kept asks_then asks_now past after answer → IsAdded hand past after
  turn_adds plan past after kept asks_then asks_now answer t = add_turn plan past after t.stop kept answer t.is

  pub halted_adds : (plan : Outline) (past after : List Entry) (kept : Option ℕ) (asks_then asks_now : ℕ) → IsHaltedTurnAsked plan hand kept asks_then asks_now past after → IsAdded hand past after
  halted_adds plan past after kept asks_then asks_now t = add_halted plan past after t.stop kept t.is

  pub finished_adds : (plan : Outline) (past after : List Entry) (came : Outcome) → IsFinished plan hand came past after → IsAdded hand past after
  finished_adds plan past after came is =
      let w : What = ended_from is.task ((snapshot plan past).state is.task) came in
      add_one past past after w (within_resumes w (ended_within is.task ((snapshot plan past).state is.task) came)) is.is (add_none past)

  pub finished_or_adds : (plan : Outline) (past after : List Entry) (came : Outcome) → IsFinished plan hand came past after ⊎ (after ≡ past) → IsAdded hand past after
  finished_or_adds plan past after came (inl is) = finished_adds plan past after came is
  finished_or_adds plan past after came (inr same) = add_same past after same

  -- ---- what the hand knows then

  some_of : (o : Option ℕ) → is_none o ≡ false → (n : ℕ) × (o ≡ Some n)
  some_of None is = absurd (cc)
  some_of (Some n) is = (n, refl)

  -- something is in flight, and not with a free hand: so it is with another one
  held_by_other : (plan : Outline) (past : List Entry) → is_still plan (snapshot plan past) ≡ false → is_free plan (snapshot plan past) hand ≡ true → IsHeldByOther plan past hand
  unfolding is_still snapshot
  held_by_other plan past busy free =
      let found = not_all (count plan) (is_idle (snapshot plan past)) busy in
      let held = some_of ((snapshot plan past).hand found.number) found.fails in
      record {
        task = found.number;
        other = held.0;
        below = found.below;
        held = held.1;
        apart = λ same. free_at plan (snapshot plan past) hand found.number free found.below (held.1 ∙ ap Some same);
      }

  next_of : (plan : Outline) (past after : List Entry) (stop : Bool) (kept : Option ℕ) (answer : Turn) → LegalPast plan after → is_free plan (snapshot plan past) hand ≡ true
      → IsTurn plan hand stop kept past after answer → HasNext plan after hand (next_by answer)
  next_of plan past after stop kept (turn.Start order) legal free is = (has_started hand plan past after stop kept order is.0, is.1)
  next_of plan past after stop kept turn.Idle legal free is =
      let waits = idle_turn hand plan past after stop kept legal free is in (waits.1, held_by_other plan after waits.0 waits.1)
  next_of plan past after stop kept (turn.Ended state) legal free is =
      ⊎_elim (λ r. ap (λ (l : List Entry). is_last (flow_of l)) r.rested.is ∙ (ended_last state (end_is plan (snapshot plan r.between) state r.rested.ends).1).0)
      (λ over. ap (λ (l : List Entry). is_last (flow_of l)) over.2 ∙ ap is_last over.0 ∙ over.1) is
  next_of plan past after stop kept turn.Suspended legal free is =
      ⊎_elim (λ r. ap (λ (l : List Entry). is_last (flow_of l)) r.rested.is) (λ over. ap (λ (l : List Entry). is_last (flow_of l)) over.2 ∙ ap is_last over.0) is

  pub turn_next : (plan : Outline) (past after : List Entry) (kept : Option ℕ) (asks_then asks_now : ℕ) (answer : Turn) → LegalPast plan after → is_free plan (snapshot plan past) hand ≡ true
      → IsTurnAsked plan hand kept asks_then asks_now past after answer → HasNext plan after hand (next_by answer)
  turn_next plan past after kept asks_then asks_now answer legal free t = next_of plan past after t.stop kept answer legal free t.is

  -- and which orders it was given
  pub turn_done : (told : Option (List Order)) (base : List Order) (did : Option (List Order)) (plan : Outline) (past after : List Entry) (kept : Option ℕ) (asks_then asks_now : ℕ) (answer : Turn)
      → IsTurnAsked plan hand kept asks_then asks_now past after answer → HasDone told base did (orders plan hand past) → HasDoneNext told base did (orders plan hand after) (next_by answer)
  turn_done told base did plan past after kept asks_then asks_now (turn.Start order) t has = started_to_do hand told base did plan past after t.stop kept order t.is.0 has
  turn_done told base did plan past after kept asks_then asks_now turn.Idle t has = rested_done hand told base did plan past after t.stop kept t.is has
  turn_done told base did plan past after kept asks_then asks_now (turn.Ended state) t has = ended_done hand told base did plan past after kept asks_then asks_now state t has
  turn_done told base did plan past after kept asks_then asks_now turn.Suspended t has = suspended_done hand told base did plan past after kept asks_then asks_now t has

  -- a hand whose task has ended is free
  pub finished_free : (plan : Outline) (past after : List Entry) (came : Outcome) → LegalPast plan past → IsFinished plan hand came past after → is_free plan (snapshot plan after) hand ≡ true
  finished_free plan past after came legal is =
      subst (λ (l : List Entry). is_free plan (snapshot plan l) hand ≡ true) (sym is.is) (end_frees plan past hand is.task came legal is.held)
