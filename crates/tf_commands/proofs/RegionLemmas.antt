-- In a plan without retry controllers the whole flow is reverted, so that a completed reversion leaves every atom settled.
use Rattle.std.proofs.Common.{◌≡◌, ℕ, ◌<◌, List, [], ◌∷◌, ◌++◌, Bool, true, false, ◌&&◌, Option, Some, None, refl, sym, ap, ◌∙◌, subst, eqb-true}
use Rattle.std.specs.Prelude.{if◌then◌else◌, option_map, is_none, find}
use Rattle.std.specs.List.{list_all}
use Rattle.std.specs.Option.{option_or}
use Rattle.tf_flow.specs.Plan.{PlanValue}
use Rattle.tf_flow.specs.declared.paths.Turn.{Turn}
use Rattle.tf_flow.specs.declared.deciders.Depth.{Depth}
use Rattle.tf_states.specs.declared.record.Entry.{Entry}
use Rattle.tf_states.specs.declared.record.Kind.{Kind}
use Rattle.tf_states.specs.declared.record.Payload.{Payload}
use Rattle.tf_states.specs.declared.record.Payload.TheVariants as payload
use Rattle.tf_states.specs.declared.record.What.{What}
use Rattle.tf_states.specs.declared.record.What.TheVariants as what
use Rattle.tf_states.specs.declared.state.AtomState.{AtomState}
use Rattle.tf_states.specs.declared.state.AtomState.TheVariants as atom
use Rattle.tf_states.specs.declared.state.FlowState.{FlowState}
use Rattle.tf_states.specs.declared.state.FlowState.TheVariants as flow
use Rattle.tf_facts.specs.Facts.{CompletedReversion}
use Rattle.tf_numbers.proofs.BelowLemmas.{any_at}
use Rattle.tf_numbers.proofs.TruthLemmas.{and_first, and_second}
use Rattle.tf_numbers.specs.Numbers.{all_below, first_below}
use Rattle.tf_model.specs.Before.{Flow, find_flow, has_flow_number}
use Rattle.tf_model.specs.Forced.{taken_up, end_of, forced, forced_if_running, is_active, first_entry, forced_attempt, is_attempting, attempt_entry, forced_again, is_beginning_again, again_entry, is_to_put_back, put_back_or_run, forced_reverted, is_undone_retry, reverted_entry, forced_resolution, is_unresolved, resolution_entry, forced_retrying, is_to_begin_again, retrying_entry, forced_revert, is_retry_to_revert, reverting_entry, forced_ignore, is_refused, is_to_ignore, ignore_or_self, ignore_by, ignore_entry, forced_run, is_retry_to_run, running_entry}
use Rattle.tf_model.specs.Readiness.{refused, is_region, is_marked_from, marks_from}
use Rattle.tf_model.specs.History.{snapshot, mark_of, state_of, Resolve, Snapshot, mark_after, begun_again, is_retry_of, is_settled, flow_is_reverted}
use Rattle.tf_model.specs.Plan.{Outline, outline_of, count, holds, is_retry, own_flow, path, retry_of}
use Rattle.tf_model.specs.Retries.{attempt, ends_with, Controlled, controlled, controlled_on, resolution_by, resolution}
use Rattle.tf_model.proofs.Told.{retry_in}
use Rattle.tf_model.specs.Steps.{Rule, by_force, by_choice, by_end_of_task, by_turn, by_end, by_suspension, by_reset, LegalPast, ends_task, turns_flow, reset, put_back_or_rest, is_put_back_at, is_settled_at}
use Rattle.tf_model.proofs.ResolutionLemmas.{root_holds}
use Rattle.tf_hands.proofs.TakenLemmas.{taken_of}
use Rattle.tf_commands.specs.Books.{has_no_retry, has_no_retries}

-- ---- every failure is resolved to the root

none_of : (o : Option ℕ) → is_none o ≡ true → o ≡ None
none_of None is = refl
none_of (Some r) is = absurd (cc)

either_none : (b : Bool) (f : Flow) (o : Option Flow) → has_no_retry f ≡ true → retry_in o ≡ None → retry_in (if b then Some f else o) ≡ None
either_none true f o first others = none_of f.place.retry first
either_none false f o first others = others

found_none : (flows : List Flow) (g : ℕ) → list_all has_no_retry flows ≡ true → retry_in (find (has_flow_number g) flows) ≡ None
found_none [] g none = refl
found_none (f ∷ fs) g none =
    either_none (has_flow_number g f) f (find (has_flow_number g) fs) (and_first (has_no_retry f) (list_all has_no_retry fs) none)
    (found_none fs g (and_second (has_no_retry f) (list_all has_no_retry fs) none))

no_retry_at : (flows : List Flow) (g : ℕ) → list_all has_no_retry flows ≡ true → retry_in (find_flow flows g) ≡ None
no_retry_at flows g none = found_none flows g none

controlled_none : (a g : ℕ) (o : Option ℕ) → o ≡ None → controlled a g o ≡ []
controlled_none a g None is = refl
controlled_none a g (Some r) is = absurd (cc)

none_on : (plan : Outline) (a : ℕ) (turns : List Turn) → has_no_retries plan ≡ true → controlled_on plan a turns ≡ []
none_on plan a [] none = refl
none_on plan a (turn ∷ turns) none =
    ap (λ (cs : List Controlled). cs ++ controlled a turn.flow (retry_of plan turn.flow)) (none_on plan a turns none)
    ∙ controlled_none a turn.flow (retry_of plan turn.flow) (no_retry_at plan.flows turn.flow none)

root_resolved : (plan : Outline) (s : Snapshot) (a : ℕ) → has_no_retries plan ≡ true → (resolution plan s a).flow ≡ 0
unfolding resolution
root_resolved plan s a none = ap (λ (cs : List Controlled). (resolution_by plan s cs).flow) (none_on plan a (path plan a) none)

-- ---- what is recorded resolves the root, where it resolves a flow

abbrev ResolvesRoot : What → Type 0
ResolvesRoot (what.Resolve named kind) = named ≡ 0
ResolvesRoot (what.Atom a state held) = Unit {0}
ResolvesRoot (what.Flow state) = Unit {0}
ResolvesRoot (what.Restart again) = Unit {0}

first_root : (plan : Outline) (test : ℕ → Bool) (entry : ℕ → What) (w : What) → ((a : ℕ) → ResolvesRoot (entry a)) → first_entry plan test entry ≡ Some w → ResolvesRoot w
first_root plan test entry w each is = by (first_below (count plan) test) is
  where
    by : (o : Option ℕ) → option_map entry o ≡ Some w → ResolvesRoot w
    by None is = absurd (cc)
    by (Some a) is = let same : entry a ≡ w = cc in subst ResolvesRoot same (each a)

either_root : (o p : Option What) (w : What) → (o ≡ Some w → ResolvesRoot w) → (p ≡ Some w → ResolvesRoot w) → option_or o p ≡ Some w → ResolvesRoot w
either_root None p w first second is = second is
either_root (Some v) p w first second is = first is

ends_root : (r : ℕ) (p : Payload) → ResolvesRoot (ends_with r p)
ends_root r (payload.Value v) = tt
ends_root r (payload.Fault f) = tt
ends_root r payload.Empty = tt

put_back_root : (r : ℕ) (o : Option ℕ) → ResolvesRoot (put_back_or_run r o)
put_back_root r None = tt
put_back_root r (Some a) = tt

ignored_root : (v : ℕ) (o : Option ℕ) → ResolvesRoot (ignore_or_self v o)
ignored_root v None = tt
ignored_root v (Some a) = tt

ignore_root : (plan : Outline) (s : Snapshot) (v : ℕ) (o : Option Depth) → ResolvesRoot (ignore_by plan s v o)
ignore_root plan s v None = tt
ignore_root plan s v (Some how) = ignored_root v (first_below (count plan) (is_to_ignore plan s v how))

case_attempt : (plan : Outline) (s : Snapshot) (w : What) → forced_attempt plan s ≡ Some w → ResolvesRoot w
unfolding forced_attempt
case_attempt plan s w is = first_root plan (is_attempting plan s) (attempt_entry plan s) w (λ r. ends_root r (attempt plan s r)) is

case_again : (plan : Outline) (s : Snapshot) (w : What) → forced_again plan s ≡ Some w → ResolvesRoot w
unfolding forced_again
case_again plan s w is = first_root plan (is_beginning_again plan s) (again_entry plan s) w (λ r. put_back_root r (first_below (count plan) (is_to_put_back plan s r))) is

case_reverted : (plan : Outline) (s : Snapshot) (w : What) → forced_reverted plan s ≡ Some w → ResolvesRoot w
unfolding forced_reverted
case_reverted plan s w is = first_root plan (is_undone_retry plan s) reverted_entry w (λ r. tt) is

case_resolution : (plan : Outline) (s : Snapshot) (w : What) → has_no_retries plan ≡ true → forced_resolution plan s ≡ Some w → ResolvesRoot w
unfolding forced_resolution
case_resolution plan s w none is = first_root plan (is_unresolved s) (resolution_entry plan s) w (λ a. root_resolved plan s a none) is

case_retrying : (plan : Outline) (s : Snapshot) (w : What) → forced_retrying plan s ≡ Some w → ResolvesRoot w
unfolding forced_retrying
case_retrying plan s w is = first_root plan (is_to_begin_again plan s) retrying_entry w (λ r. tt) is

case_revert : (plan : Outline) (s : Snapshot) (w : What) → forced_revert plan s ≡ Some w → ResolvesRoot w
unfolding forced_revert
case_revert plan s w is = first_root plan (is_retry_to_revert plan s) reverting_entry w (λ r. tt) is

case_ignore : (plan : Outline) (s : Snapshot) (w : What) → forced_ignore plan s ≡ Some w → ResolvesRoot w
unfolding forced_ignore
case_ignore plan s w is = first_root plan (is_refused plan s) (ignore_entry plan s) w (λ v. ignore_root plan s v (refused plan s v)) is

case_run : (plan : Outline) (s : Snapshot) (w : What) → forced_run plan s ≡ Some w → ResolvesRoot w
unfolding forced_run
case_run plan s w is = first_root plan (is_retry_to_run plan s) running_entry w (λ r. tt) is

running_root : (plan : Outline) (s : Snapshot) (w : What) → has_no_retries plan ≡ true → forced_if_running plan s ≡ Some w → ResolvesRoot w
unfolding forced_if_running
running_root plan s w none is =
    either_root (forced_attempt plan s) _ w (case_attempt plan s w)
    (either_root (forced_again plan s) _ w (case_again plan s w)
    (either_root (forced_reverted plan s) _ w (case_reverted plan s w)
    (either_root (forced_resolution plan s) _ w (case_resolution plan s w none)
    (either_root (forced_retrying plan s) _ w (case_retrying plan s w)
    (either_root (forced_revert plan s) _ w (case_revert plan s w)
    (either_root (forced_ignore plan s) (forced_run plan s) w (case_ignore plan s w) (case_run plan s w))))))) is

forced_root : (plan : Outline) (s : Snapshot) (w : What) → has_no_retries plan ≡ true → forced plan s ≡ Some w → ResolvesRoot w
unfolding forced
forced_root plan s w none is = by (is_active plan s) is
  where
    by : (b : Bool) → (if b then forced_if_running plan s else None) ≡ Some w → ResolvesRoot w
    by true is = running_root plan s w none is
    by false is = absurd (cc)

taken_root : (x : AtomState) (a : ℕ) → ResolvesRoot (taken_up x a)
taken_root atom.Pending a = tt
taken_root atom.Running a = tt
taken_root atom.Success a = tt
taken_root atom.Failure a = tt
taken_root atom.Reverting a = tt
taken_root atom.Reverted a = tt
taken_root atom.RevertFailure a = tt
taken_root atom.Ignore a = tt
taken_root atom.Retrying a = tt

ends_none : (s : Snapshot) (hand named : ℕ) (kind : Kind) → ends_task s hand (what.Resolve named kind) ≡ true → ⊥
unfolding ends_task
ends_none s hand named kind is = cc

end_root : (s : Snapshot) (hand : ℕ) (w : What) → ends_task s hand w ≡ true → ResolvesRoot w
end_root s hand (what.Resolve named kind) is = absurd (ends_none s hand named kind is)
end_root s hand (what.Atom a state held) is = tt
end_root s hand (what.Flow state) is = tt
end_root s hand (what.Restart again) is = tt

turn_root : (from : FlowState) (w : What) → turns_flow from w ≡ true → ResolvesRoot w
turn_root from (what.Resolve named kind) is = absurd (cc)
turn_root from (what.Atom a state held) is = tt
turn_root from (what.Flow state) is = tt
turn_root from (what.Restart again) is = tt

close_root : (o : Option FlowState) (w : What) → option_map what.Flow o ≡ Some w → ResolvesRoot w
close_root None w is = absurd (cc)
close_root (Some state) w is = let same : what.Flow state ≡ w = cc in subst ResolvesRoot same tt

rest_root : (o : Option ℕ) → ResolvesRoot (put_back_or_rest o)
rest_root None = tt
rest_root (Some a) = tt

reset_root : (plan : Outline) (s : Snapshot) (w : What) → reset plan s ≡ Some w → ResolvesRoot w
unfolding reset
reset_root plan s w is = by (flow_is_reverted s.flow && all_below (count plan) (is_settled_at s)) is
  where
    by : (b : Bool) → (if b then Some (put_back_or_rest (first_below (count plan) (is_put_back_at s))) else None) ≡ Some w → ResolvesRoot w
    by true is = let same : put_back_or_rest (first_below (count plan) (is_put_back_at s)) ≡ w = cc in subst ResolvesRoot same (rest_root (first_below (count plan) (is_put_back_at s)))
    by false is = absurd (cc)

rule_root : (plan : Outline) (s : Snapshot) (e : Entry) → has_no_retries plan ≡ true → Rule plan s e → ResolvesRoot e.what
rule_root plan s e none (by_force is) = forced_root plan s e.what none is
rule_root plan s e none (by_choice is free) = let taken = taken_of plan s e.what is in subst ResolvesRoot taken.how (taken_root (s.state taken.number) taken.number)
rule_root plan s e none (by_end_of_task is) = end_root s e.hand e.what is
rule_root plan s e none (by_turn is) = turn_root s.flow e.what is
rule_root plan s e none (by_end is still) = close_root (end_of plan s) e.what is
rule_root plan s e none (by_suspension may is) = subst ResolvesRoot (sym is) tt
rule_root plan s e none (by_reset is) = reset_root plan s e.what is

-- ---- marks

-- the mark, where there is one, comes from a resolve of the root
abbrev IsOfRoot : Option Resolve → Type 0
IsOfRoot None = Unit {0}
IsOfRoot (Some m) = m.flow ≡ 0

resolved_mark : (b : Bool) (named : ℕ) (kind : Kind) (before : Option Resolve) → named ≡ 0 → IsOfRoot before → IsOfRoot (if b then Some (record { flow = named; kind = kind }) else before)
resolved_mark true named kind before root is = root
resolved_mark false named kind before root is = is

again_mark : (b : Bool) (own : Option ℕ) (before : Option Resolve) → IsOfRoot before → IsOfRoot (if b then begun_again own before else before)
again_mark false own before is = is
again_mark true own None is = tt
again_mark true own (Some m) is = by (is_retry_of own m)
  where
    by : (b : Bool) → IsOfRoot (if b then None else Some m)
    by true = tt
    by false = is

mark_so : (plan : Outline) (w : What) (a : ℕ) (before : Option Resolve) → ResolvesRoot w → IsOfRoot before → IsOfRoot (mark_after plan w a before)
unfolding mark_after
mark_so plan (what.Resolve named kind) a before root is = resolved_mark (holds plan named a) named kind before root is
mark_so plan (what.Atom entered atom.Running held) a before root is = again_mark (is_retry plan entered) (own_flow plan entered) before is
mark_so plan (what.Atom entered atom.Pending held) a before root is = is
mark_so plan (what.Atom entered atom.Success held) a before root is = is
mark_so plan (what.Atom entered atom.Failure held) a before root is = is
mark_so plan (what.Atom entered atom.Reverting held) a before root is = is
mark_so plan (what.Atom entered atom.Reverted held) a before root is = is
mark_so plan (what.Atom entered atom.RevertFailure held) a before root is = is
mark_so plan (what.Atom entered atom.Ignore held) a before root is = is
mark_so plan (what.Atom entered atom.Retrying held) a before root is = is
mark_so plan (what.Flow flow.Pending) a before root is = tt
mark_so plan (what.Flow flow.Running) a before root is = is
mark_so plan (what.Flow flow.Success) a before root is = is
mark_so plan (what.Flow flow.Failure) a before root is = is
mark_so plan (what.Flow flow.Reverted) a before root is = is
mark_so plan (what.Flow flow.Suspending) a before root is = is
mark_so plan (what.Flow flow.Suspended) a before root is = is
mark_so plan (what.Flow flow.Resuming) a before root is = is
mark_so plan (what.Restart again) a before root is = is

marks_root : (plan : Outline) (past : List Entry) → has_no_retries plan ≡ true → LegalPast plan past → (a : ℕ) → IsOfRoot (mark_of plan past a)
marks_root plan [] none legal a = tt
marks_root plan (e ∷ past) none legal a =
    mark_so plan e.what a (mark_of plan past a) (rule_root plan (snapshot plan past) e none legal.0.rule) (marks_root plan past none legal.1 a)

-- ---- regions

from_root : (g : ℕ) (o : Option Resolve) → IsOfRoot o → marks_from g o ≡ true → 0 ≡ g
from_root g None root is = absurd (cc)
from_root g (Some m) root is = sym root ∙ eqb-true m.flow g is

root_region : (plan : Outline) (past : List Entry) (g : ℕ) → has_no_retries plan ≡ true → LegalPast plan past → is_region plan (snapshot plan past) g ≡ true → 0 ≡ g
unfolding snapshot
root_region plan past g none legal is =
    let marked = any_at (count plan) (is_marked_from (snapshot plan past) g) is in
    from_root g (mark_of plan past marked.number) (marks_root plan past none legal marked.number) marked.passes

-- a completed reversion of a plan without retry controllers leaves every atom settled
pub all_settled : (plan : PlanValue) (past : List Entry) → has_no_retries (outline_of plan) ≡ true → LegalPast (outline_of plan) past → CompletedReversion (outline_of plan) past → (a : ℕ) → a < count (outline_of plan) → is_settled (state_of past a) ≡ true
all_settled plan past none legal completed a below =
    let region : is_region (outline_of plan) (snapshot (outline_of plan) past) completed.region.flow ≡ true = completed.region.region in
    let root : 0 ≡ completed.region.flow = root_region (outline_of plan) past completed.region.flow none legal region in
    completed.settled completed.region.flow a region (subst (λ (g : ℕ). holds (outline_of plan) g a ≡ true) root (root_holds plan a below))
