-- Each entry that may follow has the payload that its state names.
use Rattle.std.proofs.Common.{◌≡◌, ◌<◌, ℕ, Bool, true, false, ◌&&◌, ◌||◌, Option, Some, None, refl, sym, subst}
use Rattle.std.proofs.lemmas.Bool.{ltb-true}
use Rattle.std.specs.Option.{option_map}
use Rattle.std.specs.Prelude.{is_none, slice_get}
use Rattle.tf_flow.specs.declared.atoms.RetryKind.{RetryKind}
use Rattle.tf_flow.specs.declared.atoms.RetryKind.TheVariants as retry
use Rattle.tf_flow.specs.declared.deciders.Depth.{Depth}
use Rattle.tf_flow.specs.Outline.{Part, a_task, a_retry, Atom, is_retry_part}
use Rattle.tf_numbers.specs.Numbers.{first_below, is_number}
use Rattle.tf_numbers.proofs.OptionLemmas.{only_if, if_some}
use Rattle.tf_numbers.proofs.TruthLemmas.{and_first, and_second}
use Rattle.tf_actions.specs.declared.orders.Given.{Given}
use Rattle.tf_actions.specs.declared.orders.Given.TheVariants as given
use Rattle.tf_values.specs.declared.value.Val.{Val}
use Rattle.tf_values.specs.declared.value.Val.TheVariants as value
use Rattle.tf_states.specs.declared.record.Entry.{Entry}
use Rattle.tf_states.specs.declared.record.Payload.{Payload}
use Rattle.tf_states.specs.declared.record.Payload.TheVariants as payload
use Rattle.tf_states.specs.declared.record.What.{What}
use Rattle.tf_states.specs.declared.record.What.TheVariants as what
use Rattle.tf_states.specs.declared.state.AtomState.{AtomState}
use Rattle.tf_states.specs.declared.state.AtomState.TheVariants as atom
use Rattle.tf_states.specs.declared.state.FlowState.{FlowState}
use Rattle.tf_facts.proofs.CaseLemmas.{forced_by}
use Rattle.tf_model.specs.Plan.{Outline, count, is_retry}
use Rattle.tf_model.specs.History.{Snapshot, flow_runs, flow_suspends, is_running}
use Rattle.tf_model.specs.Retries.{kind_of_part, item_or_exhausted, item_of_values, item_of_given, attempt_by, attempt_of, attempt, ends_with}
use Rattle.tf_model.specs.Scope.{item_value}
use Rattle.tf_model.specs.Readiness.{refused}
use Rattle.tf_model.specs.Forced.{forced, forced_if_running, is_active, is_to_put_back, put_back_or_run, is_to_ignore, ignore_by, ignore_or_self, choice, candidate_if_running, candidate_entry, taken_up, is_best, end_of}
use Rattle.tf_model.proofs.Told.{is_retry_in, kind_in}
use Rattle.tf_model.specs.Steps.{Step, Rule, by_force, by_choice, by_end_of_task, by_turn, by_end, by_suspension, by_reset, ends_task, ends_as, turns_flow, end_entry, reset, put_back_or_rest, is_put_back_at}
use Rattle.tf_entries.specs.Entries.{is_payload_of, has_its_payload}

-- the event has its payload
abbrev Has : What → Type 0
Has w = has_its_payload w ≡ true

-- an attempt carries a value or a failure
abbrev is_carried : Payload → Bool
is_carried payload.Empty = false
is_carried (payload.Value v) = true
is_carried (payload.Fault fault) = true

item_carried : (o : Option Val) → is_carried (item_or_exhausted o) ≡ true
item_carried None = refl
item_carried (Some v) = refl

values_carried : (o : Option Val) (k : ℕ) → is_carried (item_of_values o k) ≡ true
values_carried (Some (value.List scalars)) k = item_carried (item_value scalars k)
values_carried (Some value.Nothing) k = refl
values_carried (Some (value.Truth t)) k = refl
values_carried (Some (value.Int n)) k = refl
values_carried (Some (value.Text t)) k = refl
values_carried None k = refl

given_carried : (arguments : Given) (k : ℕ) → is_carried (item_of_given arguments k) ≡ true
given_carried (given.Missing symbol) k = refl
given_carried (given.Found arguments) k = values_carried _ k

attempt_carried : (how : RetryKind) (arguments : Given) (k : ℕ) → is_carried (attempt_by how arguments k) ≡ true
attempt_carried retry.AlwaysRevert arguments k = refl
attempt_carried retry.AlwaysRevertAll arguments k = refl
attempt_carried (retry.Times attempts all) arguments k = refl
attempt_carried (retry.ForEach values all) arguments k = item_carried (item_value values k)
attempt_carried (retry.Parameterized all) arguments k = given_carried arguments k

part_carried : (p : Part) (arguments : Given) (k : ℕ) → is_retry_part p ≡ true → is_carried (attempt_of (kind_of_part p) arguments k) ≡ true
part_carried (a_task t) arguments k is = absurd (cc)
part_carried (a_retry r) arguments k is = attempt_carried r.kind arguments k

kind_carried : (a : Option Atom) (arguments : Given) (k : ℕ) → is_retry_in a ≡ true → is_carried (attempt_of (kind_in a) arguments k) ≡ true
kind_carried None arguments k is = absurd (cc)
kind_carried (Some atom) arguments k is = part_carried atom.part arguments k is

ends_has : (a : ℕ) (held : Payload) → is_carried held ≡ true → Has (ends_with a held)
ends_has a (payload.Value v) is = refl
ends_has a (payload.Fault fault) is = refl
ends_has a payload.Empty is = absurd (cc)

attempt_has : (plan : Outline) (s : Snapshot) (r : ℕ) → is_retry plan r ≡ true → Has (ends_with r (attempt plan s r))
unfolding attempt
attempt_has plan s r is = ends_has r _ (kind_carried (slice_get plan.atoms r) _ (s.attempts r) is)

again_has : (r : ℕ) (o : Option ℕ) → Has (put_back_or_run r o)
again_has r None = refl
again_has r (Some a) = refl

self_has : (v : ℕ) (o : Option ℕ) → Has (ignore_or_self v o)
self_has v None = refl
self_has v (Some a) = refl

ignore_has : (plan : Outline) (s : Snapshot) (v : ℕ) (how : Option Depth) → Has (ignore_by plan s v how)
ignore_has plan s v None = refl
ignore_has plan s v (Some how) = self_has v (first_below (count plan) (is_to_ignore plan s v how))

forced_has : (plan : Outline) (s : Snapshot) (w : What) → forced_if_running plan s ≡ Some w → Has w
forced_has plan s = forced_by plan s Has (record {
  attempt = λ r below test. attempt_has plan s r (and_first (is_retry plan r) (is_running (s.state r)) test);
  again = λ r below test. again_has r (first_below (count plan) (is_to_put_back plan s r));
  reverted = λ r below test. refl;
  resolution = λ none a below test. refl;
  retrying = λ r below test. refl;
  revert = λ r below test. refl;
  ignore = λ none v below test. ignore_has plan s v (refused plan s v);
  run = λ none r below test. refl;
})

taken_has : (x : AtomState) (a : ℕ) → Has (taken_up x a)
taken_has atom.Running a = refl
taken_has atom.Reverting a = refl
taken_has atom.Pending a = refl
taken_has atom.Success a = refl
taken_has atom.Failure a = refl
taken_has atom.Reverted a = refl
taken_has atom.RevertFailure a = refl
taken_has atom.Ignore a = refl
taken_has atom.Retrying a = refl

chosen_has : (plan : Outline) (s : Snapshot) (w : What) → choice plan s ≡ Some w → Has w
unfolding choice candidate_if_running
chosen_has plan s w is = of (first_below (count plan) (is_best plan s)) (only_if (is_active plan s && is_none (forced plan s)) (candidate_if_running plan s) w is).1
  where
    of : (o : Option ℕ) → option_map (candidate_entry s) o ≡ Some w → Has w
    of None gives = absurd (cc)
    of (Some a) gives = let same : candidate_entry s a ≡ w = cc in subst Has same (taken_has (s.state a) a)

ended_has : (x to : AtomState) (held : Payload) → ends_as x to held ≡ true → is_payload_of to held ≡ true
ended_has atom.Running atom.Success (payload.Value v) is = refl
ended_has atom.Running atom.Failure (payload.Fault f) is = refl
ended_has atom.Reverting atom.Reverted payload.Empty is = refl
ended_has atom.Reverting atom.RevertFailure (payload.Fault f) is = refl
ended_has x to held is = absurd (cc)

ends_have : (s : Snapshot) (hand : ℕ) (w : What) → ends_task s hand w ≡ true → Has w
unfolding ends_task
ends_have s hand (what.Atom a to held) is = ended_has (s.state a) to held (and_second (is_number (s.hand a) hand) _ (and_second (flow_runs s.flow || flow_suspends s.flow) _ is))
ends_have s hand (what.Flow state) is = refl
ends_have s hand (what.Resolve named how) is = refl
ends_have s hand (what.Restart again) is = refl

turns_have : (from : FlowState) (w : What) → turns_flow from w ≡ true → Has w
turns_have from (what.Flow f) is = refl
turns_have from (what.Atom a state held) is = absurd (cc)
turns_have from (what.Resolve named how) is = refl
turns_have from (what.Restart again) is = refl

closes_has : (plan : Outline) (s : Snapshot) (w : What) → end_entry plan s ≡ Some w → Has w
closes_has plan s w is = of (end_of plan s) is
  where
    of : (o : Option FlowState) → option_map what.Flow o ≡ Some w → Has w
    of None gives = absurd (cc)
    of (Some f) gives = let same : what.Flow f ≡ w = cc in subst Has same refl

reset_has : (plan : Outline) (s : Snapshot) (w : What) → reset plan s ≡ Some w → Has w
unfolding reset
reset_has plan s w is = subst Has (if_some _ (put_back_or_rest (first_below (count plan) (is_put_back_at s))) w is).1 (of (first_below (count plan) (is_put_back_at s)))
  where
    of : (o : Option ℕ) → Has (put_back_or_rest o)
    of None = refl
    of (Some b) = refl

rule_has : (plan : Outline) (s : Snapshot) (e : Entry) → Rule plan s e → Has e.what
unfolding forced
rule_has plan s e (by_force is) = forced_has plan s e.what (only_if (is_active plan s) (forced_if_running plan s) e.what is).1
rule_has plan s e (by_choice is free) = chosen_has plan s e.what is
rule_has plan s e (by_end_of_task is) = ends_have s e.hand e.what is
rule_has plan s e (by_turn is) = turns_have s.flow e.what is
rule_has plan s e (by_end is still) = closes_has plan s e.what is
rule_has plan s e (by_suspension is event) = subst Has (sym event) refl
rule_has plan s e (by_reset is) = reset_has plan s e.what is

-- an entry that may follow has the payload that its state names
pub step_has_payload : (plan : Outline) (s : Snapshot) (e : Entry) → Step plan s e → has_its_payload e.what ≡ true
step_has_payload plan s e step = rule_has plan s e step.rule

-- and its hand is one of 64
pub step_has_hand : (plan : Outline) (s : Snapshot) (e : Entry) → Step plan s e → e.hand < 64
step_has_hand plan s e step = ltb-true e.hand 64 step.hand
