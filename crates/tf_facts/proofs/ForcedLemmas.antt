-- Each forced entry keeps what every moment has.
use Rattle.std.proofs.Common.{◌≡◌, ◌≢◌, ℕ, true, false, not, ◌&&◌, ◌||◌, Option, Some, None, refl, sym, ap, ◌∙◌, ◌⊎◌, inl, inr, eq-eqb}
use Rattle.std.specs.Prelude.{nat_eq}
use Rattle.tf_states.specs.declared.record.Payload.{Payload}
use Rattle.tf_states.specs.declared.record.Payload.TheVariants as payload
use Rattle.tf_states.specs.declared.record.What.{What}
use Rattle.tf_states.specs.declared.record.What.TheVariants as what
use Rattle.tf_states.specs.declared.state.AtomState.{AtomState}
use Rattle.tf_states.specs.declared.state.AtomState.TheVariants as atom
use Rattle.tf_states.specs.declared.state.FlowState.{FlowState}
use Rattle.tf_states.specs.declared.state.FlowState.TheVariants as flow
use Rattle.tf_flow.specs.declared.deciders.Depth.{Depth}
use Rattle.std.proofs.lemmas.Bool.{ne_eqb}
use Rattle.tf_numbers.specs.Numbers.{first_below}
use Rattle.tf_model.specs.Plan.{Outline, count, holds, is_retry, own_flow}
use Rattle.tf_model.specs.History.{Resolve, Snapshot, is_again, is_pending, is_running, is_success, is_failure, is_reverting, is_settled, is_put_back, flow_runs, flow_suspends, flow_is_reverted}
use Rattle.tf_model.specs.Readiness.{can_run, can_revert, refused}
use Rattle.tf_model.specs.Retries.{attempt, ends_with, resolution}
use Rattle.tf_model.specs.Forced.{holds_with, is_of_its_flow, forced_if_running, forced, is_active, is_to_put_back, put_back_or_run, is_marked_again, is_settled_beside, is_to_begin_again, retrying_entry, reverting_entry, ignore_by, ignore_or_self, is_to_ignore, ignored_entry}
use Rattle.tf_numbers.proofs.TruthLemmas.{and_first, and_second, true_first, true_both, clash, either_way, not_true}
use Rattle.tf_numbers.proofs.BelowLemmas.{found_passes, all_at, none_at}
use Rattle.tf_facts.specs.Facts.{is_undoing}
use Rattle.tf_facts.proofs.LayoutLemmas.{IsLaidOut, held_below}
use Rattle.tf_facts.proofs.CoreLemmas.{Core, retrying_is, kept}
use Rattle.tf_facts.proofs.ChangeLemmas.{runs_to_success, runs_to_failure, retrying_runs, reverts_to_reverted, may_ignore, may_revert, may_begin_again, may_put_back, settled_behind, put_back_apart, unmarked_after}
use Rattle.tf_facts.proofs.MoveLemmas.{after, Keeps, enters_kept, run_kept, runs, reverts, pending_is, none_is, then_second, turns, flowless_clears_none}
use Rattle.tf_numbers.proofs.OptionLemmas.{is_this_number, only_if}
use Rattle.tf_facts.proofs.RegionLemmas.{resolve_kept, anew_kept}
use Rattle.tf_facts.proofs.CaseLemmas.{forced_by}

-- ---- states by their tests

pub running_is : (x : AtomState) → is_running x ≡ true → x ≡ atom.Running
running_is atom.Running is = refl
running_is x is = absurd (cc)

pub reverting_is : (x : AtomState) → is_reverting x ≡ true → x ≡ atom.Reverting
reverting_is atom.Reverting is = refl
reverting_is x is = absurd (cc)

pub success_is : (x : AtomState) → is_success x ≡ true → x ≡ atom.Success
success_is atom.Success is = refl
success_is x is = absurd (cc)

pub failure_is : (x : AtomState) → is_failure x ≡ true → x ≡ atom.Failure
failure_is atom.Failure is = refl
failure_is x is = absurd (cc)

attempt_kept : (plan : Outline) (s : Snapshot) → flow_is_reverted s.flow ≡ false → (r : ℕ) (p : Payload) → s.state r ≡ atom.Running → Keeps plan s (ends_with r p)
attempt_kept plan s going r (payload.Value v) is = enters_kept plan s r atom.Running atom.Success (payload.Value v) is refl (λ core. runs_to_success plan s going r)
attempt_kept plan s going r (payload.Fault fault) is = enters_kept plan s r atom.Running atom.Failure (payload.Fault fault) is refl (λ core. runs_to_failure plan s going r)
attempt_kept plan s going r payload.Empty is = enters_kept plan s r atom.Running atom.Success payload.Empty is refl (λ core. runs_to_success plan s going r)

-- another atom of r's flow, where the flow is known
beside_is : (plan : Outline) (r g b : ℕ) → own_flow plan r ≡ Some g → is_of_its_flow plan r b ≡ true → (holds plan g b ≡ true) × (b ≢ r)
beside_is plan r g b own is = (
  ap (λ (o : Option ℕ). holds_with plan o b) (sym own) ∙ and_first (holds_with plan (own_flow plan r) b) _ is,
  λ same. clash (nat_eq b r) (eq-eqb b r same) (not_true (nat_eq b r) (and_second (holds_with plan (own_flow plan r) b) _ is)),
)

is_beside : (plan : Outline) (r g b : ℕ) → own_flow plan r ≡ Some g → holds plan g b ≡ true → b ≢ r → is_of_its_flow plan r b ≡ true
is_beside plan r g b own held other =
    true_both (holds_with plan (own_flow plan r) b) _ (ap (λ (o : Option ℕ). holds_with plan o b) own ∙ held) (ap not (ne_eqb b r other))

-- a flow in which an atom stands
record OwnFlow (plan : Outline) (a : ℕ) : Type 0 where
  flow : ℕ
  is : own_flow plan a ≡ Some flow

put_back_kept : (plan : Outline) (s : Snapshot) → IsLaidOut plan → (r g b : ℕ) → is_retry plan r ≡ true → s.state r ≡ atom.Retrying → own_flow plan r ≡ Some g
    → holds plan g b ≡ true → b ≢ r → is_put_back (s.state b) ≡ true → Keeps plan s (what.Atom b atom.Pending payload.Empty)
put_back_kept plan s layout r g b controller retrying own held other back =
    enters_kept plan s b (s.state b) atom.Pending payload.Empty refl refl
    (λ core. may_put_back plan s b (s.state b) back
    (settled_behind plan s layout core r g b controller retrying own held (λ same. other (sym same)))
    (put_back_apart plan s layout core r g b controller retrying own held (λ same. other (sym same))))

own_flow_or_none : (plan : Outline) (a : ℕ) → OwnFlow plan a ⊎ (own_flow plan a ≡ None)
own_flow_or_none plan a = by (own_flow plan a) refl
  where
    by : (o : Option ℕ) → own_flow plan a ≡ o → OwnFlow plan a ⊎ (own_flow plan a ≡ None)
    by None is = inr is
    by (Some g) is = inl (record { flow = g; is = is })

again_kept : (plan : Outline) (s : Snapshot) → IsLaidOut plan → flow_is_reverted s.flow ≡ false → (r : ℕ) → is_retry plan r ≡ true → s.state r ≡ atom.Retrying → (o : Option ℕ)
    → first_below (count plan) (is_to_put_back plan s r) ≡ o → Keeps plan s (put_back_or_run r o)
again_kept plan s layout going r controller retrying None found = elim (own_flow_or_none plan r) [
  | inl home ↦ anew_kept plan s layout going r home.flow payload.Empty controller retrying home.is
      (λ b held other. elim (either_way (is_put_back (s.state b))) [
        | inr isnt ↦ isnt
        | inl back ↦ absurd (clash (is_to_put_back plan s r b)
            (true_both (is_of_its_flow plan r b) _ (is_beside plan r home.flow b home.is held other) back)
            (none_at (count plan) (is_to_put_back plan s r) b found (held_below plan home.flow b held)))
      ])
  | inr none ↦ λ hand core. kept plan s (after plan hand (what.Atom r atom.Running payload.Empty) s) r atom.Retrying atom.Running core
      (turns plan s hand r atom.Retrying atom.Running payload.Empty retrying (λ b. flowless_clears_none plan r b payload.Empty (s.mark b) none)) (retrying_runs plan s going r)
]
again_kept plan s layout going r controller retrying (Some b) found =
    let test = found_passes (count plan) (is_to_put_back plan s r) b found in
    let beside = and_first (is_of_its_flow plan r b) _ test in
    elim (own_flow_or_none plan r) [
      | inl home ↦
          let inside = beside_is plan r home.flow b home.is beside in
          put_back_kept plan s layout r home.flow b controller retrying home.is inside.0 inside.1 (and_second (is_of_its_flow plan r b) _ test)
      | inr none ↦ absurd (clash (holds_with plan (own_flow plan r) b) (and_first (holds_with plan (own_flow plan r) b) _ beside) (ap (λ (o : Option ℕ). holds_with plan o b) none))
    ]

pub undone_kept : (plan : Outline) (s : Snapshot) (a : ℕ) (held : Payload) → s.state a ≡ atom.Reverting → Keeps plan s (what.Atom a atom.Reverted held)
undone_kept plan s a held is = enters_kept plan s a atom.Reverting atom.Reverted held is refl (λ core. reverts_to_reverted plan s a (λ below. core.undone a below (ap is_undoing is)))

-- the mark of a retry controller that is to begin again
record MarkedAgain (plan : Outline) (s : Snapshot) (r : ℕ) : Type 0 where
  resolve : Resolve
  is : s.mark r ≡ Some resolve
  home : own_flow plan r ≡ Some resolve.flow

marked_again : (plan : Outline) (s : Snapshot) (r : ℕ) → is_marked_again (own_flow plan r) (s.mark r) ≡ true → MarkedAgain plan s r
marked_again plan s r is = by (s.mark r) refl is
  where
    by : (o : Option Resolve) → s.mark r ≡ o → is_marked_again (own_flow plan r) o ≡ true → MarkedAgain plan s r
    by None was again = absurd (cc)
    by (Some m) was again = record { resolve = m; is = was; home = is_this_number (own_flow plan r) m.flow (and_second (is_again m.kind) _ again) }

begin_again_kept : (plan : Outline) (s : Snapshot) → IsLaidOut plan → flow_is_reverted s.flow ≡ false → (r : ℕ) → is_to_begin_again plan s r ≡ true → Keeps plan s (retrying_entry r)
begin_again_kept plan s layout going r test =
    let state = and_first (is_retry plan r && is_success (s.state r)) _ test in
    let asked = and_second (is_retry plan r && is_success (s.state r)) _ test in
    let mark = marked_again plan s r (and_first (is_marked_again (own_flow plan r) (s.mark r)) _ asked) in
    enters_kept plan s r atom.Success atom.Retrying payload.Empty (success_is (s.state r) (and_second (is_retry plan r) _ state)) refl
    (λ core. may_begin_again plan s layout core going r mark.resolve.flow mark.resolve (and_first (is_retry plan r) _ state) mark.is refl mark.home
    (λ b held other. then_second (is_of_its_flow plan r b) (is_settled (s.state b))
    (all_at (count plan) (is_settled_beside plan s r) b (and_second (is_marked_again (own_flow plan r) (s.mark r)) _ asked) (held_below plan mark.resolve.flow b held))
    (is_beside plan r mark.resolve.flow b mark.home held other)))

pub revert_kept : (plan : Outline) (s : Snapshot) → IsLaidOut plan → flow_is_reverted s.flow ≡ false → (a : ℕ) → can_revert plan s a ≡ true → Keeps plan s (reverting_entry a)
revert_kept plan s layout going a can =
    let ready = reverts plan s a can in
    enters_kept plan s a (s.state a) atom.Reverting payload.Empty refl refl (λ core. may_revert plan s layout core going a (s.state a) ready.executed ready.marked ready.settled)

ignored_kept : (plan : Outline) (s : Snapshot) (b : ℕ) → s.state b ≡ atom.Pending → (Core plan s → s.mark b ≡ None) → Keeps plan s (ignored_entry b)
ignored_kept plan s b pending unmarked = enters_kept plan s b atom.Pending atom.Ignore payload.Empty pending refl (λ core. may_ignore plan s b (unmarked core))

ignore_kept : (plan : Outline) (s : Snapshot) → IsLaidOut plan → flow_is_reverted s.flow ≡ false → (v : ℕ) → can_run plan s v ≡ true → (how : Depth) (o : Option ℕ)
    → first_below (count plan) (is_to_ignore plan s v how) ≡ o → Keeps plan s (ignore_or_self v o)
ignore_kept plan s layout going v can how None found = let ready = runs plan s v can in ignored_kept plan s v ready.pending (λ core. ready.unmarked)
ignore_kept plan s layout going v can how (Some b) found =
    let ready = runs plan s v can in
    let rest = and_second (not (nat_eq v b)) _ (found_passes (count plan) (is_to_ignore plan s v how) b found) in
    ignored_kept plan s b (pending_is (s.state b) (and_first (is_pending (s.state b)) _ rest))
    (λ core. elim (layout.ignored v how b (and_second (is_pending (s.state b)) _ rest)) [
      | inl same ↦ ap s.mark (sym same) ∙ ready.unmarked
      | inr before ↦ unmarked_after plan s layout core going v b ready.pending ready.unmarked before
    ])

depth_kept : (plan : Outline) (s : Snapshot) → IsLaidOut plan → flow_is_reverted s.flow ≡ false → (v : ℕ) → can_run plan s v ≡ true → (how : Option Depth) → Keeps plan s (ignore_by plan s v how)
depth_kept plan s layout going v can None = let ready = runs plan s v can in ignored_kept plan s v ready.pending (λ core. ready.unmarked)
depth_kept plan s layout going v can (Some how) = ignore_kept plan s layout going v can how (first_below (count plan) (is_to_ignore plan s v how)) refl

-- what is forced keeps what every moment has
forced_running_kept : (plan : Outline) (s : Snapshot) → IsLaidOut plan → flow_is_reverted s.flow ≡ false → (w : What) → forced_if_running plan s ≡ Some w → Keeps plan s w
forced_running_kept plan s layout going = forced_by plan s (Keeps plan s) (record {
  attempt = λ r below test. attempt_kept plan s going r (attempt plan s r) (running_is (s.state r) (and_second (is_retry plan r) _ test));
  again = λ r below test. again_kept plan s layout going r (and_first (is_retry plan r) _ test) (retrying_is (s.state r) (and_second (is_retry plan r) _ test)) (first_below (count plan) (is_to_put_back plan s r)) refl;
  reverted = λ r below test. undone_kept plan s r payload.Empty (reverting_is (s.state r) (and_second (is_retry plan r) _ test));
  resolution = λ none a below test. resolve_kept plan s layout going a (resolution plan s a) (failure_is (s.state a) (and_first (is_failure (s.state a)) _ test))
      (none_is (s.mark a) (and_second (is_failure (s.state a)) _ test)) (layout.resolved s a below);
  retrying = λ r below test. begin_again_kept plan s layout going r test;
  revert = λ r below test. revert_kept plan s layout going r (and_second (is_retry plan r) _ test);
  ignore = λ none v below test. depth_kept plan s layout going v (and_first (can_run plan s v) _ test) (refused plan s v);
  run = λ none r below test. run_kept plan s going r payload.Empty (and_second (is_retry plan r) _ test);
})

pub flow_going : (x : FlowState) → flow_runs x || flow_suspends x ≡ true → flow_is_reverted x ≡ false
flow_going flow.Running is = refl
flow_going flow.Suspending is = refl
flow_going x is = absurd (cc)

pub active_going : (plan : Outline) (s : Snapshot) → is_active plan s ≡ true → flow_is_reverted s.flow ≡ false
unfolding is_active
active_going plan s is = flow_going s.flow (true_first (flow_runs s.flow) _ (and_first (flow_runs s.flow) _ is))

pub forced_kept : (plan : Outline) (s : Snapshot) → IsLaidOut plan → (w : What) → forced plan s ≡ Some w → Keeps plan s w
unfolding forced
forced_kept plan s layout w is =
    let parts = only_if (is_active plan s) (forced_if_running plan s) w is in
    forced_running_kept plan s layout (active_going plan s parts.0) w parts.1
