-- What the end of a run is: the flow's last entry records the end of the history before it.
use Rattle.std.proofs.Common.{◌≡◌, ℕ, List, [], ◌∷◌, true, false, not, Option, Some, None, refl, sym, ap, ◌∙◌, subst}
use Rattle.std.specs.Prelude.{◌&&◌, option_map}
use Rattle.std.specs.List.{list_all}
use Rattle.tf_flow.specs.Plan.{PlanValue}
use Rattle.tf_states.specs.declared.record.Entry.{Entry}
use Rattle.tf_states.specs.declared.record.What.{What}
use Rattle.tf_states.specs.declared.record.What.TheVariants as what
use Rattle.tf_states.specs.declared.state.AtomState.{AtomState}
use Rattle.tf_states.specs.declared.state.AtomState.TheVariants as atom
use Rattle.tf_states.specs.declared.state.FlowState.{FlowState}
use Rattle.tf_states.specs.declared.state.FlowState.TheVariants as flow
use Rattle.tf_numbers.proofs.OptionLemmas.{only_if}
use Rattle.tf_numbers.proofs.TruthLemmas.{true_both, clash}
use Rattle.tf_numbers.specs.Numbers.{all_below, first_below}
use Rattle.tf_model.specs.Forced.{choice, end_of, taken_up}
use Rattle.tf_model.specs.Plan.{compile_refusal, Outline, outline_of, count}
use Rattle.tf_model.specs.History.{flow_of, snapshot, Snapshot, flow_after, flow_is_reverted}
use Rattle.tf_model.specs.Steps.{has_ended, Rule, by_force, by_choice, by_end_of_task, by_turn, by_end, by_suspension, by_reset, LegalPast, ends_task, may_turn, reset, put_back_or_rest, is_put_back_at, is_settled_at}
use Rattle.tf_facts.proofs.PastLemmas.{reversion_completed}
use Rattle.tf_hands.specs.Hands.{is_of_flow}
use Rattle.tf_hands.proofs.ForcedLemmas.{forced_within}
use Rattle.tf_commands.specs.Books.{is_beside_flow, EndsBy, HasReached}
use Rattle.tf_commands.proofs.RegionLemmas.{all_settled}
use Rattle.tf_hands.proofs.TakenLemmas.{taken_of}

-- what takes a task up isn't of the flow
taken_beside : (state : AtomState) (a : ℕ) → is_of_flow (taken_up state a) ≡ false
taken_beside atom.Pending a = refl
taken_beside atom.Running a = refl
taken_beside atom.Success a = refl
taken_beside atom.Failure a = refl
taken_beside atom.Reverting a = refl
taken_beside atom.Reverted a = refl
taken_beside atom.RevertFailure a = refl
taken_beside atom.Ignore a = refl
taken_beside atom.Retrying a = refl

chosen_beside : (plan : Outline) (s : Snapshot) (w : What) → choice plan s ≡ Some w → is_of_flow w ≡ false
chosen_beside plan s w is = let taken = taken_of plan s w is in ap is_of_flow (sym taken.how) ∙ taken_beside (s.state taken.number) taken.number

-- what puts a flow back doesn't end it
rested_pending : (o : Option ℕ) (state : FlowState) → put_back_or_rest o ≡ what.Flow state → has_ended state ≡ false
rested_pending None state is = let same : flow.Pending ≡ state = cc in ap has_ended (sym same)
rested_pending (Some a) state is = absurd (cc)

reset_pending : (plan : Outline) (s : Snapshot) (state : FlowState) → reset plan s ≡ Some (what.Flow state) → has_ended state ≡ false
unfolding reset
reset_pending plan s state is =
    let parts = only_if (flow_is_reverted s.flow && all_below (count plan) (is_settled_at s)) (Some (put_back_or_rest (first_below (count plan) (is_put_back_at s)))) (what.Flow state) is in
    rested_pending (first_below (count plan) (is_put_back_at s)) state (let same : put_back_or_rest (first_below (count plan) (is_put_back_at s)) ≡ what.Flow state = cc in same)

-- what turns a flow by its state alone doesn't end it
turned_going : (from to : FlowState) → may_turn from to ≡ true → has_ended to ≡ false
turned_going from flow.Pending may = refl
turned_going from flow.Running may = refl
turned_going from flow.Suspending may = refl
turned_going from flow.Suspended may = refl
turned_going from flow.Resuming may = refl
turned_going flow.Pending flow.Success may = absurd (cc)
turned_going flow.Running flow.Success may = absurd (cc)
turned_going flow.Success flow.Success may = absurd (cc)
turned_going flow.Failure flow.Success may = absurd (cc)
turned_going flow.Reverted flow.Success may = absurd (cc)
turned_going flow.Suspending flow.Success may = absurd (cc)
turned_going flow.Suspended flow.Success may = absurd (cc)
turned_going flow.Resuming flow.Success may = absurd (cc)
turned_going flow.Pending flow.Failure may = absurd (cc)
turned_going flow.Running flow.Failure may = absurd (cc)
turned_going flow.Success flow.Failure may = absurd (cc)
turned_going flow.Failure flow.Failure may = absurd (cc)
turned_going flow.Reverted flow.Failure may = absurd (cc)
turned_going flow.Suspending flow.Failure may = absurd (cc)
turned_going flow.Suspended flow.Failure may = absurd (cc)
turned_going flow.Resuming flow.Failure may = absurd (cc)
turned_going flow.Pending flow.Reverted may = absurd (cc)
turned_going flow.Running flow.Reverted may = absurd (cc)
turned_going flow.Success flow.Reverted may = absurd (cc)
turned_going flow.Failure flow.Reverted may = absurd (cc)
turned_going flow.Reverted flow.Reverted may = absurd (cc)
turned_going flow.Suspending flow.Reverted may = absurd (cc)
turned_going flow.Suspended flow.Reverted may = absurd (cc)
turned_going flow.Resuming flow.Reverted may = absurd (cc)

ended_so : (o : Option FlowState) (state : FlowState) → option_map what.Flow o ≡ Some (what.Flow state) → o ≡ Some state
ended_so None state is = absurd (cc)
ended_so (Some found) state is = let same : found ≡ state = cc in ap Some same

-- an entry that ends the flow records the end
rule_ends : (plan : Outline) (s : Snapshot) (hand : ℕ) (state : FlowState) → Rule plan s (record { hand = hand; what = what.Flow state }) → has_ended state ≡ true → end_of plan s ≡ Some state
unfolding ends_task
rule_ends plan s hand state (by_force is) ended = absurd (clash true refl (forced_within plan s (what.Flow state) is))
rule_ends plan s hand state (by_choice is free) ended = absurd (clash true refl (chosen_beside plan s (what.Flow state) is))
rule_ends plan s hand state (by_end_of_task is) ended = absurd (cc)
rule_ends plan s hand state (by_turn is) ended = absurd (clash (has_ended state) ended (turned_going s.flow state is))
rule_ends plan s hand state (by_end is still) ended = ended_so (end_of plan s) state is
rule_ends plan s hand state (by_suspension may is) ended =
    let same : state ≡ flow.Suspended = cc in absurd (clash (has_ended state) ended (ap has_ended same))
rule_ends plan s hand state (by_reset is) ended = absurd (clash (has_ended state) ended (reset_pending plan s state is))

-- one entry more that isn't of the flow
later_ends : (plan : Outline) (past : List Entry) (e : Entry) (last : FlowState) → is_of_flow e.what ≡ false → EndsBy plan past last → EndsBy plan (e ∷ past) last
later_ends plan past e last beside ends = record {
  since = e ∷ ends.since;
  hand = ends.hand;
  earlier = ends.earlier;
  splits = ap (λ (p : List Entry). e ∷ p) ends.splits;
  is_last = true_both (is_beside_flow e) (list_all is_beside_flow ends.since) (ap not beside) ends.is_last;
  ends = ends.ends;
}

-- one entry more, of a history whose end is recorded, if it had one
beside_ends : (plan : Outline) (past : List Entry) (e : Entry) (w : What) → e.what ≡ w → is_of_flow w ≡ false → flow_of (e ∷ past) ≡ flow_of past
    → (has_ended (flow_of past) ≡ true → EndsBy plan past (flow_of past)) → has_ended (flow_of (e ∷ past)) ≡ true → EndsBy plan (e ∷ past) (flow_of (e ∷ past))
beside_ends plan past e w is beside same before ended =
    subst (λ (f : FlowState). EndsBy plan (e ∷ past) f) (sym same)
    (later_ends plan past e (flow_of past) (ap is_of_flow is ∙ beside) (before (ap has_ended (sym same) ∙ ended)))

flow_ends : (plan : Outline) (past : List Entry) (e : Entry) (state : FlowState) → e.what ≡ what.Flow state → flow_of (e ∷ past) ≡ state → Rule plan (snapshot plan past) e
    → has_ended (flow_of (e ∷ past)) ≡ true → EndsBy plan (e ∷ past) (flow_of (e ∷ past))
flow_ends plan past e state is same rule ended =
    let recorded : e ≡ record { hand = e.hand; what = what.Flow state } = ap (λ (v : What). record { hand = e.hand; what = v }) is in
    subst (λ (f : FlowState). EndsBy plan (e ∷ past) f) (sym same) (record {
      since = [];
      hand = e.hand;
      earlier = past;
      splits = ap (λ (x : Entry). x ∷ past) recorded;
      is_last = refl;
      ends = rule_ends plan (snapshot plan past) e.hand state (subst (λ (x : Entry). Rule plan (snapshot plan past) x) recorded rule) (ap has_ended (sym same) ∙ ended);
    })

flow_so : (past : List Entry) (e : Entry) (w : What) → e.what ≡ w → flow_of (e ∷ past) ≡ flow_after w (flow_of past)
flow_so past e w is = ap (λ (v : What). flow_after v (flow_of past)) is

entry_ends : (plan : Outline) (past : List Entry) (e : Entry) (w : What) → e.what ≡ w → Rule plan (snapshot plan past) e
    → (has_ended (flow_of past) ≡ true → EndsBy plan past (flow_of past)) → has_ended (flow_of (e ∷ past)) ≡ true → EndsBy plan (e ∷ past) (flow_of (e ∷ past))
entry_ends plan past e (what.Flow state) is rule before ended = flow_ends plan past e state is (flow_so past e (what.Flow state) is) rule ended
entry_ends plan past e (what.Atom a state held) is rule before ended =
    beside_ends plan past e (what.Atom a state held) is refl (flow_so past e (what.Atom a state held) is) before ended
entry_ends plan past e (what.Resolve named resolved) is rule before ended =
    beside_ends plan past e (what.Resolve named resolved) is refl (flow_so past e (what.Resolve named resolved) is) before ended
entry_ends plan past e (what.Restart again) is rule before ended = beside_ends plan past e (what.Restart again) is refl (flow_so past e (what.Restart again) is) before ended

ends_by : (plan : Outline) (past : List Entry) → LegalPast plan past → has_ended (flow_of past) ≡ true → EndsBy plan past (flow_of past)
ends_by plan [] legal ended = absurd (cc)
ends_by plan (e ∷ past) legal ended = entry_ends plan past e e.what refl legal.0.rule (ends_by plan past legal.1) ended

-- how a legal history stands whose flow is in that state
pub reached_by : (plan : PlanValue) (past : List Entry) (last : FlowState) → compile_refusal plan ≡ None → LegalPast (outline_of plan) past → flow_of past ≡ last → HasReached (outline_of plan) past last
reached_by plan past last compiles legal is = record {
  end = λ ended. subst (λ (f : FlowState). EndsBy (outline_of plan) past f) is (ends_by (outline_of plan) past legal (ap has_ended is ∙ ended));
  completed = λ reverted. reversion_completed plan past compiles legal (is ∙ reverted);
  undone = λ reverted none. all_settled plan past none legal (reversion_completed plan past compiles legal (is ∙ reverted));
}
