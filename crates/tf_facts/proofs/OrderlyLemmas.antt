-- Which entries revert an atom, and where they stand.
use Rattle.std.proofs.Common.{◌≡◌, ℕ, List, [], ◌∷◌, true, false, ◌&&◌, ◌||◌, Option, Some, None, refl, sym, ap, ◌∙◌, inl, inr, eqb-true}
use Rattle.std.specs.Option.{option_map}
use Rattle.std.specs.Prelude.{is_none, nat_eq}
use Rattle.tf_states.specs.declared.record.Entry.{Entry}
use Rattle.tf_states.specs.declared.record.Payload.{Payload}
use Rattle.tf_states.specs.declared.record.Payload.TheVariants as payload
use Rattle.tf_states.specs.declared.record.What.{What}
use Rattle.tf_states.specs.declared.record.What.TheVariants as what
use Rattle.tf_states.specs.declared.state.AtomState.{AtomState}
use Rattle.tf_states.specs.declared.state.AtomState.TheVariants as atom
use Rattle.tf_states.specs.declared.state.FlowState.{FlowState}
use Rattle.tf_states.specs.declared.state.FlowState.TheVariants as flow
use Rattle.tf_flow.specs.declared.deciders.Depth.{Depth}
use Rattle.tf_numbers.specs.Numbers.{all_below, first_below, is_number}
use Rattle.tf_model.specs.Plan.{Outline, count, is_before, is_retry}
use Rattle.tf_model.specs.History.{Snapshot, is_at_work, snapshot, is_pending, is_reverting, is_settled, flow_runs, flow_suspends, flow_is_reverted}
use Rattle.tf_model.specs.Readiness.{can_revert, refused}
use Rattle.tf_model.specs.Retries.{attempt, ends_with}
use Rattle.tf_model.specs.Forced.{forced, forced_if_running, is_active, is_to_put_back, put_back_or_run, ignore_or_self, ignore_by, is_to_ignore, reverting_entry, candidate_if_running, choice, candidate_entry, taken_up, is_best, is_candidate, end_of}
use Rattle.tf_model.specs.Steps.{Rule, by_force, by_choice, by_end_of_task, by_turn, by_end, by_suspension, by_reset, LegalPast, ends_task, ends_as, turns_flow, end_entry, reset, put_back_or_rest, is_put_back_at, is_settled_at}
use Rattle.tf_model.specs.Laws.{enters_by}
use Rattle.tf_numbers.proofs.TruthLemmas.{and_first, and_second, clash}
use Rattle.tf_facts.specs.Facts.{HasOrderlyReverts}
use Rattle.tf_facts.proofs.MoveLemmas.{runs, reverts}
use Rattle.tf_facts.proofs.CaseLemmas.{by_first, forced_by}
use Rattle.tf_numbers.proofs.OptionLemmas.{only_if, if_some}
use Rattle.tf_facts.proofs.StepLemmas.{ready_part}

-- where it reverts an atom, all that is after the atom is settled
abbrev IsOrderly : Outline → Snapshot → What → Type 0
IsOrderly plan s w = (a b : ℕ) → enters_by is_reverting a w ≡ true → is_before plan a b ≡ true → is_settled (s.state b) ≡ true

-- an atom enters another state
other_state : (plan : Outline) (s : Snapshot) (a : ℕ) (x : AtomState) (held : Payload) → is_reverting x ≡ false → IsOrderly plan s (what.Atom a x held)
other_state plan s a x held isnt b c enters before = let no_revert : false ≡ true = sym isnt ∙ and_second (nat_eq a b) (is_reverting x) enters in absurd (cc)

attempt_orderly : (plan : Outline) (s : Snapshot) (r : ℕ) (p : Payload) → IsOrderly plan s (ends_with r p)
attempt_orderly plan s r (payload.Value v) = other_state plan s r atom.Success (payload.Value v) refl
attempt_orderly plan s r (payload.Fault fault) = other_state plan s r atom.Failure (payload.Fault fault) refl
attempt_orderly plan s r payload.Empty = other_state plan s r atom.Success payload.Empty refl

again_orderly : (plan : Outline) (s : Snapshot) (r : ℕ) (o : Option ℕ) → IsOrderly plan s (put_back_or_run r o)
again_orderly plan s r None = other_state plan s r atom.Running payload.Empty refl
again_orderly plan s r (Some a) = other_state plan s a atom.Pending payload.Empty refl

self_orderly : (plan : Outline) (s : Snapshot) (v : ℕ) (o : Option ℕ) → IsOrderly plan s (ignore_or_self v o)
self_orderly plan s v None = other_state plan s v atom.Ignore payload.Empty refl
self_orderly plan s v (Some a) = other_state plan s a atom.Ignore payload.Empty refl

ignore_orderly : (plan : Outline) (s : Snapshot) (v : ℕ) (how : Option Depth) → IsOrderly plan s (ignore_by plan s v how)
ignore_orderly plan s v None = other_state plan s v atom.Ignore payload.Empty refl
ignore_orderly plan s v (Some how) = self_orderly plan s v (first_below (count plan) (is_to_ignore plan s v how))

revert_orderly : (plan : Outline) (s : Snapshot) (a : ℕ) → can_revert plan s a ≡ true → IsOrderly plan s (reverting_entry a)
revert_orderly plan s a can b c enters before =
    let same : a ≡ b = eqb-true a b (and_first (nat_eq a b) _ enters) in
    (reverts plan s a can).settled c (ap (λ (n : ℕ). is_before plan n c) same ∙ before)

forced_orderly : (plan : Outline) (s : Snapshot) (w : What) → forced plan s ≡ Some w → IsOrderly plan s w
unfolding forced
forced_orderly plan s w is = forced_by plan s (IsOrderly plan s) (record {
  attempt = λ r below test. attempt_orderly plan s r (attempt plan s r);
  again = λ r below test. again_orderly plan s r (first_below (count plan) (is_to_put_back plan s r));
  reverted = λ r below test. other_state plan s r atom.Reverted payload.Empty refl;
  resolution = λ none a below test b c enters. absurd (cc);
  retrying = λ r below test. other_state plan s r atom.Retrying payload.Empty refl;
  revert = λ r below test. revert_orderly plan s r (and_second (is_retry plan r) _ test);
  ignore = λ none v below test. ignore_orderly plan s v (refused plan s v);
  run = λ none r below test. other_state plan s r atom.Running payload.Empty refl;
}) w (only_if (is_active plan s) (forced_if_running plan s) w is).1

-- a task that is neither at work nor PENDING is taken up since it can revert
revert_part : (plan : Outline) (s : Snapshot) (a : ℕ) (x : AtomState) → s.state a ≡ x → is_at_work x ≡ false → is_pending x ≡ false → is_candidate plan s a ≡ true → can_revert plan s a ≡ true
revert_part plan s a x was idle isnt is = elim (ready_part plan s a is (ap is_at_work was ∙ idle)) [
  | inl can ↦ absurd (clash (is_pending (s.state a)) (ap is_pending (runs plan s a can).pending) (ap is_pending was ∙ isnt))
  | inr can ↦ can
]

-- what is executed is taken up since it can revert
taken_orderly : (plan : Outline) (s : Snapshot) (a : ℕ) (x : AtomState) → s.state a ≡ x → is_candidate plan s a ≡ true → IsOrderly plan s (taken_up x a)
taken_orderly plan s a atom.Running was is = λ b c enters. absurd (cc)
taken_orderly plan s a atom.Reverting was is = λ b c enters. absurd (cc)
taken_orderly plan s a atom.Pending was is = other_state plan s a atom.Running payload.Empty refl
taken_orderly plan s a atom.Success was is = revert_orderly plan s a (revert_part plan s a atom.Success was refl refl is)
taken_orderly plan s a atom.Failure was is = revert_orderly plan s a (revert_part plan s a atom.Failure was refl refl is)
taken_orderly plan s a atom.Reverted was is = revert_orderly plan s a (revert_part plan s a atom.Reverted was refl refl is)
taken_orderly plan s a atom.RevertFailure was is = revert_orderly plan s a (revert_part plan s a atom.RevertFailure was refl refl is)
taken_orderly plan s a atom.Ignore was is = revert_orderly plan s a (revert_part plan s a atom.Ignore was refl refl is)
taken_orderly plan s a atom.Retrying was is = revert_orderly plan s a (revert_part plan s a atom.Retrying was refl refl is)

choice_orderly : (plan : Outline) (s : Snapshot) (w : What) → choice plan s ≡ Some w → IsOrderly plan s w
unfolding choice candidate_if_running
choice_orderly plan s w is = by_first plan (IsOrderly plan s) (is_best plan s) (candidate_entry s) w
    (only_if (is_active plan s && is_none (forced plan s)) (candidate_if_running plan s) w is).1
    (λ a below test. taken_orderly plan s a (s.state a) refl (and_first (is_candidate plan s a) _ test))

end_orderly : (plan : Outline) (s : Snapshot) (a : ℕ) (x to : AtomState) (held : Payload) → ends_as x to held ≡ true → IsOrderly plan s (what.Atom a to held)
end_orderly plan s a x atom.Reverting held is = absurd (never x held is)
  where
    never : (x : AtomState) (held : Payload) → ends_as x atom.Reverting held ≡ true → ⊥
    never atom.Running held is = cc
    never atom.Reverting held is = cc
    never x held is = cc
end_orderly plan s a x atom.Pending held is = other_state plan s a atom.Pending held refl
end_orderly plan s a x atom.Running held is = other_state plan s a atom.Running held refl
end_orderly plan s a x atom.Success held is = other_state plan s a atom.Success held refl
end_orderly plan s a x atom.Failure held is = other_state plan s a atom.Failure held refl
end_orderly plan s a x atom.Reverted held is = other_state plan s a atom.Reverted held refl
end_orderly plan s a x atom.RevertFailure held is = other_state plan s a atom.RevertFailure held refl
end_orderly plan s a x atom.Ignore held is = other_state plan s a atom.Ignore held refl
end_orderly plan s a x atom.Retrying held is = other_state plan s a atom.Retrying held refl

ends_orderly : (plan : Outline) (s : Snapshot) (hand : ℕ) (w : What) → ends_task s hand w ≡ true → IsOrderly plan s w
unfolding ends_task
ends_orderly plan s hand (what.Atom a to held) is =
    end_orderly plan s a (s.state a) to held (and_second (is_number (s.hand a) hand) _ (and_second (flow_runs s.flow || flow_suspends s.flow) _ is))
ends_orderly plan s hand (what.Flow state) is = λ b c enters. absurd (cc)
ends_orderly plan s hand (what.Resolve named resolved) is = λ b c enters. absurd (cc)
ends_orderly plan s hand (what.Restart again) is = λ b c enters. absurd (cc)

turn_orderly : (plan : Outline) (s : Snapshot) (w : What) → turns_flow s.flow w ≡ true → IsOrderly plan s w
turn_orderly plan s (what.Flow state) is = λ b c enters. absurd (cc)
turn_orderly plan s (what.Atom a to held) is = absurd (cc)
turn_orderly plan s (what.Resolve named resolved) is = absurd (cc)
turn_orderly plan s (what.Restart again) is = absurd (cc)

flow_orderly : (plan : Outline) (s : Snapshot) (w : What) (f : FlowState) → what.Flow f ≡ w → IsOrderly plan s w
flow_orderly plan s w f is b c enters = let no_atom : false ≡ true = ap (enters_by is_reverting b) is ∙ enters in absurd (cc)

close_orderly : (plan : Outline) (s : Snapshot) (w : What) → end_entry plan s ≡ Some w → IsOrderly plan s w
close_orderly plan s w is = of (end_of plan s) is
  where
    of : (o : Option FlowState) → option_map what.Flow o ≡ Some w → IsOrderly plan s w
    of None gives = absurd (cc)
    of (Some f) gives = let same : what.Flow f ≡ w = cc in flow_orderly plan s w f same

rest_orderly : (plan : Outline) (s : Snapshot) (o : Option ℕ) (w : What) → put_back_or_rest o ≡ w → IsOrderly plan s w
rest_orderly plan s None w is = flow_orderly plan s w flow.Pending is
rest_orderly plan s (Some a) w is = λ b c enters. other_state plan s a atom.Pending payload.Empty refl b c (ap (enters_by is_reverting b) is ∙ enters)

reset_orderly : (plan : Outline) (s : Snapshot) (w : What) → reset plan s ≡ Some w → IsOrderly plan s w
unfolding reset
reset_orderly plan s w is =
    rest_orderly plan s (first_below (count plan) (is_put_back_at s)) w
    (if_some (flow_is_reverted s.flow && all_below (count plan) (is_settled_at s)) (put_back_or_rest (first_below (count plan) (is_put_back_at s))) w is).1

step_orderly : (plan : Outline) (s : Snapshot) (e : Entry) → Rule plan s e → IsOrderly plan s e.what
step_orderly plan s e (by_force is) = forced_orderly plan s e.what is
step_orderly plan s e (by_choice is free) = choice_orderly plan s e.what is
step_orderly plan s e (by_end_of_task is) = ends_orderly plan s e.hand e.what is
step_orderly plan s e (by_turn is) = turn_orderly plan s e.what is
step_orderly plan s e (by_end is still) = close_orderly plan s e.what is
step_orderly plan s e (by_suspension is event) = flow_orderly plan s e.what flow.Suspended (sym event)
step_orderly plan s e (by_reset is) = reset_orderly plan s e.what is

-- each REVERTING entry of a legal history stands where all that is after its atom was settled
pub past_orderly : (plan : Outline) (past : List Entry) → LegalPast plan past → HasOrderlyReverts plan past
unfolding snapshot
past_orderly plan [] legal = tt
past_orderly plan (e ∷ past) legal = (step_orderly plan (snapshot plan past) e legal.0.rule, past_orderly plan past legal.1)
