-- How a session stands between two turns.
use Rattle.std.proofs.Common.{◌≡◌, inl, inr, ◌⊎◌, ⊎_elim, ℕ, true, false, ◌||◌, List, ◌∷◌, ◌++◌, length, Option, Some, None, refl, ap, ◌∙◌, sym, subst, append_assoc}
use Rattle.std.specs.Prelude.{nat_lt, reverse}
use Rattle.std.specs.List.{list_all}
use Rattle.tf_actions.specs.Laws.{RevertsToNothing}
use Rattle.tf_actions.specs.declared.orders.Order.{Order}
use Rattle.tf_actions.specs.declared.outcomes.Outcome.{Outcome}
use Rattle.tf_states.specs.declared.record.Entry.{Entry}
use Rattle.tf_states.specs.declared.record.What.{What}
use Rattle.tf_states.specs.declared.state.FlowState.{FlowState}
use Rattle.tf_states.specs.declared.state.FlowState.TheVariants as flow
use Rattle.tf_hands.specs.Hands.{ended_from, by_hand, is_of_flow, HasOrder}
use Rattle.tf_hands.proofs.EndLemmas.{ended_within, ended_inner, end_ends, end_given}
use Rattle.tf_hands.proofs.FlightLemmas.{still_no_order}
use Rattle.tf_hands.proofs.RestLemmas.{away_still}
use Rattle.tf_model.specs.History.{flow_of, snapshot, flow_runs, flow_suspends}
use Rattle.tf_model.specs.Scope.{IsGiven}
use Rattle.tf_model.specs.Plan.{Outline}
use Rattle.tf_model.specs.Steps.{halted, entering, is_inner_entry, is_inner, is_last, LegalPast}
use Rattle.tf_numbers.proofs.TruthLemmas.{clash, not_true, true_both}
use Rattle.tf_book.specs.Turns.{is_reached, IsFinished}
use Rattle.tf_book.proofs.ForceLemmas.{flow_stays}
use Rattle.tf_engines.specs.Runs.{is_of, suspends, winds_up, IsSuspended, IsSession, IsUnderWay, Winds, StandsBetween, going_on, winding, stopped}
use Rattle.tf_engines.proofs.StopLemmas.{reached_more, due_none, due_later, session_later, end_winds}
use Rattle.tf_engines.proofs.RunLemmas.{none_last, within_goes, goes_session, goes_finished, runs_after}

pub running_apart : (past : List Entry) (P : Type 0) → flow_of past ≡ flow.Running → flow_of past ≡ flow.Suspending → P
running_apart past P running winds = let no : flow.Running ≡ flow.Suspending = sym running ∙ winds in absurd (cc)

running_last : (past : List Entry) (P : Type 0) → flow_of past ≡ flow.Running → is_last (flow_of past) ≡ true → P
running_last past P running last = let no : false ≡ true = ap is_last (sym running) ∙ last in absurd (cc)

suspending_last : (past : List Entry) (P : Type 0) → flow_of past ≡ flow.Suspending → is_last (flow_of past) ≡ true → P
suspending_last past P winds last = let no : false ≡ true = ap is_last (sym winds) ∙ last in absurd (cc)

module _ (gives : Order → Outcome → Type 0) (asked : Type 0) (number : ℕ) (limit : Option ℕ) (plan : Outline) (before : List Entry) where
  -- in RUNNING it goes on
  pub stands_goes : (past : List Entry) (kept : Option ℕ) → flow_of past ≡ flow.Running → StandsBetween gives asked number limit plan before past kept → IsUnderWay gives number limit plan before past kept
  stands_goes past kept running (going_on is on) = on
  stands_goes past kept running (winding is w) = running_apart past (IsUnderWay gives number limit plan before past kept) running is
  stands_goes past kept running (stopped last s) = running_last past (IsUnderWay gives number limit plan before past kept) running last

  -- in SUSPENDING it is wound up
  pub stands_winds : (past : List Entry) (kept : Option ℕ) → flow_of past ≡ flow.Suspending → StandsBetween gives asked number limit plan before past kept → Winds gives asked number limit plan before past
  stands_winds past kept winds (going_on is on) = running_apart past (Winds gives asked number limit plan before past) is winds
  stands_winds past kept winds (winding is w) = w
  stands_winds past kept winds (stopped last s) = suspending_last past (Winds gives asked number limit plan before past) winds last

  -- in a last state it has stopped
  pub stands_stopped : (past : List Entry) (kept : Option ℕ) → is_last (flow_of past) ≡ true → StandsBetween gives asked number limit plan before past kept
      → IsSession gives asked number limit plan before past (Some (flow_of past))
  stands_stopped past kept last (going_on is on) = running_last past (IsSession gives asked number limit plan before past (Some (flow_of past))) is last
  stands_stopped past kept last (winding is w) = suspending_last past (IsSession gives asked number limit plan before past (Some (flow_of past))) is last
  stands_stopped past kept last (stopped is s) = s

  -- a session that was halted before its last entry
  winds_session : (past : List Entry) → LegalPast plan past → Winds gives asked number limit plan before past → IsSession gives asked number limit plan before past None
  winds_session past legal w = record {
    entries = w.inner ++ reverse (entering (flow_of before));
    recorded = w.recorded ∙ sym (append_assoc w.inner (reverse (entering (flow_of before))) before);
    session = halted w.inner w.begun w.inside (subst (LegalPast plan) w.recorded legal);
    given = w.given;
    hands = w.hands;
    due = w.due;
    within = w.within;
    suspended = λ is. none_last flow.Suspended (IsSuspended asked limit (w.inner ++ reverse (entering (flow_of before)))) is;
  }

  -- however it stands, what was recorded is a session
  pub stands_session : (past : List Entry) (kept : Option ℕ) → LegalPast plan past → StandsBetween gives asked number limit plan before past kept
      → (stop : Option FlowState) × IsSession gives asked number limit plan before past stop
  stands_session past kept legal (going_on is on) = (None, goes_session gives asked number limit plan before past kept legal on)
  stands_session past kept legal (winding is w) = (None, winds_session past legal w)
  stands_session past kept legal (stopped last s) = (Some (flow_of past), s)

  -- in RUNNING nothing has begun to be wound up
  pub running_winds : (past : List Entry) (kept : Option ℕ) → flow_of past ≡ flow.Running → IsUnderWay gives number limit plan before past kept → Winds gives asked number limit plan before past
  running_winds past kept running on = record {
    inner = on.inner;
    recorded = on.recorded;
    inside = on.inside;
    begun = on.begun;
    given = on.given;
    hands = on.hands;
    due = due_none asked limit (on.inner ++ reverse (entering (flow_of before))) on.unsuspended;
    within = on.within;
    cause = λ winds. running_apart past (asked ⊎ (is_reached limit (length (on.inner ++ reverse (entering (flow_of before)))) ≡ true)) running winds;
  }

  -- ---- one more entry while it is wound up

  winds_more : (hand : ℕ) (past : List Entry) (w : What) → nat_lt hand number ≡ true → is_of_flow w ≡ false → is_inner w ≡ true → IsGiven gives plan past w → winds_up plan w ≡ true
      → Winds gives asked number limit plan before past → Winds gives asked number limit plan before (by_hand hand w ∷ past)
  winds_more hand past w below within inner given winds had =
      let first : List Entry = reverse (entering (flow_of before)) in
      let entries : List Entry = had.inner ++ first in
      let is : past ≡ entries ++ before = had.recorded ∙ sym (append_assoc had.inner first before) in
      record {
        inner = by_hand hand w ∷ had.inner;
        recorded = ap (λ (l : List Entry). by_hand hand w ∷ l) had.recorded;
        inside = true_both (is_inner w) (list_all is_inner_entry had.inner) inner had.inside;
        begun = had.begun;
        given = (subst (λ (l : List Entry). IsGiven gives plan l w) is given, had.given);
        hands = true_both (nat_lt hand number) (list_all (is_of number) entries) below had.hands;
        due = ((λ so. absurd (clash (suspends w) so (not_true (suspends w) (within_goes w within)))), had.due);
        within = ((λ entered reached. winds), had.within);
        cause = λ state. ⊎_elim (λ told. inl told) (λ reached. inr (reached_more limit (length entries) reached)) (had.cause (sym (flow_stays hand w past within) ∙ state));
      }

  -- where it has stopped no hand has an order
  stopped_none : (past : List Entry) (hand : ℕ) (order : Order) → LegalPast plan past → is_last (flow_of past) ≡ true → HasOrder plan past hand order → ⊥
  stopped_none past hand order legal last has = still_no_order plan past hand order (away_still plan past legal (away (flow_of past) last)) has
    where
      away : (f : FlowState) → is_last f ≡ true → flow_runs f || flow_suspends f ≡ false
      away flow.Running is = absurd (cc)
      away flow.Suspending is = absurd (cc)
      away f is = refl

  -- the end of the task that a hand had an order for
  pub finished_stands : (hand : ℕ) (past after : List Entry) (kept : Option ℕ) (order : Order) (came : Outcome) → nat_lt hand number ≡ true → RevertsToNothing gives → LegalPast plan past
      → HasOrder plan past hand order → gives order came → IsFinished plan hand came past after → StandsBetween gives asked number limit plan before past kept → StandsBetween gives asked number limit plan before after kept
  finished_stands hand past after kept order came below law legal has gave is (going_on runs on) =
      going_on (runs_after hand plan past after came is ∙ runs) (goes_finished gives hand number limit plan before past after kept order came below law legal has gave is on)
  finished_stands hand past after kept order came below law legal has gave is (winding suspends w) =
      winding (runs_after hand plan past after came is ∙ suspends)
      (subst (λ (l : List Entry). Winds gives asked number limit plan before l) (sym is.is)
      (winds_more hand past (ended_from is.task ((snapshot plan past).state is.task) came) below (ended_within is.task ((snapshot plan past).state is.task) came)
      (ended_inner is.task ((snapshot plan past).state is.task) came) (end_given gives plan past hand is.task order came law legal is.held has gave)
      (end_winds plan (ended_from is.task ((snapshot plan past).state is.task) came) (end_ends plan past hand is.task came legal is.held)) w))
  finished_stands hand past after kept order came below law legal has gave is (stopped last s) = absurd (stopped_none past hand order legal last has)

-- ---- a stop that was asked for still was later

winds_later : (gives : Order → Outcome → Type 0) (asked later : Type 0) (number : ℕ) (limit : Option ℕ) (plan : Outline) (before past : List Entry) → (asked → later)
    → Winds gives asked number limit plan before past → Winds gives later number limit plan before past
winds_later gives asked later number limit plan before past so w = record {
  inner = w.inner;
  recorded = w.recorded;
  inside = w.inside;
  begun = w.begun;
  given = w.given;
  hands = w.hands;
  due = due_later asked later limit (w.inner ++ reverse (entering (flow_of before))) so w.due;
  within = w.within;
  cause = λ state. ⊎_elim (λ told. inl (so told)) (λ reached. inr reached) (w.cause state);
}

pub stands_later : (gives : Order → Outcome → Type 0) (asked later : Type 0) (number : ℕ) (limit : Option ℕ) (plan : Outline) (before past : List Entry) (kept : Option ℕ) → (asked → later)
    → StandsBetween gives asked number limit plan before past kept → StandsBetween gives later number limit plan before past kept
stands_later gives asked later number limit plan before past kept so (going_on is on) = going_on is on
stands_later gives asked later number limit plan before past kept so (winding is w) = winding is (winds_later gives asked later number limit plan before past so w)
stands_later gives asked later number limit plan before past kept so (stopped last s) = stopped last (session_later gives asked later number limit plan before past (Some (flow_of past)) so s)
