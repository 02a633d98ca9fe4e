-- What is in flight is at work, at each moment of a run.
use Rattle.std.proofs.Common.{◌≡◌, ℕ, List, [], ◌∷◌, Bool, true, false, ◌&&◌, ◌||◌, Option, Some, None, refl, sym, ap, ◌∙◌, subst, eqb-true}
use Rattle.std.specs.Prelude.{if◌then◌else◌, nat_eq}
use Rattle.tf_states.specs.declared.record.Entry.{Entry}
use Rattle.tf_states.specs.declared.record.What.{What}
use Rattle.tf_states.specs.declared.record.What.TheVariants as what
use Rattle.tf_states.specs.declared.state.AtomState.{AtomState}
use Rattle.tf_states.specs.declared.state.AtomState.TheVariants as atom
use Rattle.tf_states.specs.declared.state.FlowState.{FlowState}
use Rattle.tf_states.specs.declared.state.FlowState.TheVariants as flow
use Rattle.tf_model.specs.Plan.{Outline, is_task}
use Rattle.tf_model.specs.History.{Snapshot, later, is_at_work, hand_after, snapshot, flow_runs, flow_suspends}
use Rattle.tf_model.specs.Steps.{LegalPast, is_hand}
use Rattle.tf_model.proofs.HistoryLemmas.{one_more}
use Rattle.tf_numbers.proofs.TruthLemmas.{and_first, and_second}
use Rattle.tf_hands.specs.Hands.{Busy, FlightFacts}
use Rattle.tf_hands.proofs.FitLemmas.{MayWork, StateFits, Turning, goes_on, resumes, is_free_of_work, Fits, step_fits}

-- the snapshot after what a hand recorded
abbrev after : Outline → Snapshot → ℕ → What → Snapshot
after plan s hand w = later plan (record { hand = hand; what = w }) s

-- ---- what is in flight

works_by : (plan : Outline) (s : Snapshot) (hand a : ℕ) (state : AtomState) → StateFits plan s hand a state → is_task plan a && is_at_work state ≡ true → MayWork s hand
works_by plan s hand a atom.Running fits is = fits.0 (and_first (is_task plan a) _ is)
works_by plan s hand a atom.Reverting fits is = fits (and_first (is_task plan a) _ is)
works_by plan s hand a state fits is = let no = and_second (is_task plan a) _ is in absurd (cc)

-- who is in flight after an atom entered a state
entered_busy : (plan : Outline) (s : Snapshot) (hand a b h : ℕ) (state : AtomState) (x : Bool) → nat_eq a b ≡ x → FlightFacts plan s → StateFits plan s hand a state
    → (if x then (if is_task plan b && is_at_work state then Some hand else None) else s.hand b) ≡ Some h
    → (is_hand h ≡ true) × (is_task plan b ≡ true) × (is_at_work (if x then state else s.state b) ≡ true) × (flow_runs s.flow || flow_suspends s.flow ≡ true)
entered_busy plan s hand a b h state true same facts fits is = by (is_task plan b && is_at_work state) refl is
  where
    by : (y : Bool) → (is_task plan b && is_at_work state) ≡ y → (if y then Some hand else None) ≡ Some h
        → (is_hand h ≡ true) × (is_task plan b ≡ true) × (is_at_work state ≡ true) × (flow_runs s.flow || flow_suspends s.flow ≡ true)
    by true works has =
        let who : hand ≡ h = cc in
        let may = works_by plan s hand b state (subst (λ (k : ℕ). StateFits plan s hand k state) (eqb-true a b same) fits) works in
        (ap is_hand (sym who) ∙ may.0, and_first (is_task plan b) (is_at_work state) works, and_second (is_task plan b) (is_at_work state) works, may.1)
    by false works has = absurd (cc)
entered_busy plan s hand a b h state false other facts fits is =
    let busy = facts.busy b h is in (busy.numbered, busy.task, busy.at_work, busy.goes)

restarted_busy : (plan : Outline) (s : Snapshot) (hand a b h : ℕ) (x : Bool) → nat_eq a b ≡ x → FlightFacts plan s → Busy plan s a hand → (if x then Some hand else s.hand b) ≡ Some h → Busy plan s b h
restarted_busy plan s hand a b h true same facts busy is =
    let who : hand ≡ h = cc in subst (λ (k : ℕ). Busy plan s b k) who (subst (λ (k : ℕ). Busy plan s k hand) (eqb-true a b same) busy)
restarted_busy plan s hand a b h false other facts busy is = facts.busy b h is

-- what is in flight after the flow entered a state was so before
turned_hand : (plan : Outline) (hand a h : ℕ) (state : FlowState) (before : Option ℕ) → hand_after plan hand (what.Flow state) a before ≡ Some h → before ≡ Some h
turned_hand plan hand a h flow.Resuming before is = absurd (cc)
turned_hand plan hand a h flow.Pending before is = is
turned_hand plan hand a h flow.Running before is = is
turned_hand plan hand a h flow.Success before is = is
turned_hand plan hand a h flow.Failure before is = is
turned_hand plan hand a h flow.Reverted before is = is
turned_hand plan hand a h flow.Suspending before is = is
turned_hand plan hand a h flow.Suspended before is = is

turned_facts : (plan : Outline) (s : Snapshot) (hand : ℕ) (state : FlowState) → FlightFacts plan s → Turning s state → FlightFacts plan (after plan s hand (what.Flow state))
unfolding later
turned_facts plan s hand _ facts (goes_on state goes) = record {
  busy = λ b h is. let busy = facts.busy b h (turned_hand plan hand b h state (s.hand b) is) in record { numbered = busy.numbered; task = busy.task; at_work = busy.at_work; goes = goes };
}
turned_facts plan s hand _ facts resumes = record { busy = λ b h is. absurd (cc) }
turned_facts plan s hand _ facts (is_free_of_work state free) = record {
  busy = λ b h is. absurd (free b h (turned_hand plan hand b h state (s.hand b) is));
}

facts_kept : (plan : Outline) (s : Snapshot) (hand : ℕ) (w : What) → FlightFacts plan s → Fits plan s hand w → FlightFacts plan (after plan s hand w)
unfolding later
facts_kept plan s hand (what.Atom a state held) facts fits = record {
  busy = λ b h is. let parts = entered_busy plan s hand a b h state (nat_eq a b) refl facts fits.1 is in record { numbered = parts.0; task = parts.1; at_work = parts.2; goes = parts.3 };
}
facts_kept plan s hand (what.Flow state) facts fits = turned_facts plan s hand state facts fits
facts_kept plan s hand (what.Resolve named resolved) facts fits = record {
  busy = λ b h is. let busy = facts.busy b h is in record { numbered = busy.numbered; task = busy.task; at_work = busy.at_work; goes = busy.goes };
}
facts_kept plan s hand (what.Restart a) facts fits = record {
  busy = λ b h is. let new = restarted_busy plan s hand a b h (nat_eq a b) refl facts fits.1 is in record { numbered = new.numbered; task = new.task; at_work = new.at_work; goes = new.goes };
}

-- it is so after each legal history
pub past_facts : (plan : Outline) (past : List Entry) → LegalPast plan past → FlightFacts plan (snapshot plan past)
unfolding snapshot
past_facts plan [] legal = record { busy = λ a h is. absurd (cc) }
past_facts plan (e ∷ past) legal =
    let before = past_facts plan past legal.1 in
    subst (FlightFacts plan) (sym (one_more plan e past)) (facts_kept plan (snapshot plan past) e.hand e.what before (step_fits plan (snapshot plan past) e before legal.0))
