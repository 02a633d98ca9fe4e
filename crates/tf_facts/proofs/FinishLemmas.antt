-- The end of a run in which nothing can be done any more.
use Rattle.std.proofs.Common.{◌≡◌, ℕ, ◌<◌, Bool, true, false, not, ◌&&◌, ◌||◌, Option, Some, None, refl, sym, ap, ◌∙◌, ◌⊎◌, inl, inr}
use Rattle.std.specs.Prelude.{if◌then◌else◌, is_none, is_some}
use Rattle.tf_states.specs.declared.record.What.{What}
use Rattle.tf_states.specs.declared.state.AtomState.{AtomState}
use Rattle.tf_states.specs.declared.state.AtomState.TheVariants as atom
use Rattle.tf_states.specs.declared.state.FlowState.{FlowState}
use Rattle.tf_states.specs.declared.state.FlowState.TheVariants as flow
use Rattle.tf_numbers.specs.Numbers.{all_below, any_below}
use Rattle.tf_model.specs.Plan.{Outline, count, is_before, is_retry, is_task}
use Rattle.tf_model.specs.History.{Resolve, Snapshot, is_at_work, is_pending, is_success, is_failure, is_revert_failure, is_executed, is_done, flow_runs, flow_suspends}
use Rattle.tf_model.specs.Readiness.{can_run, can_revert, is_unmarked, is_to_revert, lets_run}
use Rattle.tf_model.specs.Forced.{forced_if_running, forced, is_active, is_unhurt, is_unhurt_at, is_retry_to_run, candidate_if_running, choice, is_candidate, is_interrupted, is_done_at, is_at_rest, calm_end, end_of}
use Rattle.tf_model.specs.Scope.{is_earlier}
use Rattle.tf_model.specs.Steps.{is_idle, is_still}
use Rattle.tf_numbers.proofs.TruthLemmas.{and_first, true_first, true_second, true_both, clash, either_way, not_true, or_of_not, and_false}
use Rattle.tf_model.proofs.BeforeLemmas.{never_before_itself, before_chain}
use Rattle.tf_facts.specs.Facts.{is_undoing}
use Rattle.tf_facts.proofs.LayoutLemmas.{IsLaidOut, task_or_retry, held_below}
use Rattle.tf_numbers.proofs.BelowLemmas.{all_at, all_of, any_at, any_of, not_all, Last, none_or_last}
use Rattle.tf_facts.proofs.CoreLemmas.{Core, AtRest, marked_where}
use Rattle.tf_facts.proofs.MoveLemmas.{none_is}
use Rattle.tf_facts.proofs.CalmLemmas.{NothingLeft, unforced, no_candidate, none_at_work, none_executed, none_failed, marked_settled}

-- nothing can be done where the rules find nothing
nothing_left : (plan : Outline) (s : Snapshot) → forced_if_running plan s ≡ None → candidate_if_running plan s ≡ None → is_still plan s ≡ true → is_unhurt plan s ≡ true → NothingLeft plan s
unfolding is_still
nothing_left plan s not_forced no_choice still unhurt = record {
  unforced = unforced plan s not_forced;
  candidates = no_candidate plan s no_choice;
  still = λ a below. all_at (count plan) (is_idle s) a still below;
  unhurt = λ a below. not_true (is_revert_failure (s.state a)) (all_at (count plan) (is_unhurt_at s) a unhurt below);
}

-- ---- every atom is at rest

not_to_revert : (plan : Outline) (s : Snapshot) → IsLaidOut plan → Core plan s → NothingLeft plan s → (a : ℕ) → a < count plan → is_success (s.state a) && is_to_revert (s.mark a) ≡ false
not_to_revert plan s layout core nothing a below = elim (either_way (is_none (s.mark a))) [
  | inl unmarked ↦ ap (λ (o : Option Resolve). is_success (s.state a) && is_to_revert o) (none_is (s.mark a) unmarked) ∙ and_false (is_success (s.state a))
  | inr marked ↦ no_success (s.state a) (is_to_revert (s.mark a)) (none_executed plan s layout core nothing a below marked)
]
  where
    no_success : (x : AtomState) (b : Bool) → is_executed x ≡ false → is_success x && b ≡ false
    no_success atom.Success b is = absurd (cc)
    no_success x b is = refl

at_rest : (plan : Outline) (s : Snapshot) → IsLaidOut plan → Core plan s → NothingLeft plan s → all_below (count plan) (is_at_rest s) ≡ true
at_rest plan s layout core nothing = all_of (count plan) (is_at_rest s) (λ a below.
    true_both (not (is_at_work (s.state a))) _ (ap not (none_at_work plan s nothing a below))
    (true_both (not (is_failure (s.state a))) _ (ap not (none_failed plan s layout core nothing a below)) (ap not (not_to_revert plan s layout core nothing a below))))

-- ---- an end is there

if_none : (b : Bool) (x : Option What) → b ≡ true → (if b then x else None) ≡ None → x ≡ None
if_none true x holds is = is
if_none false x holds is = absurd (cc)

end_by : (begun unhurt calm : Bool) (c : Option FlowState) → begun ≡ true → (unhurt ≡ true → (calm ≡ true) × (is_some c ≡ true))
    → is_some (if begun then (if unhurt then (if calm then c else None) else Some flow.Failure) else None) ≡ true
end_by true true true c is gives = (gives refl).1
end_by true true false c is gives = let wrong : false ≡ true = (gives refl).0 in absurd (cc)
end_by true false calm c is gives = refl
end_by false unhurt calm c is gives = absurd (cc)

calm_by : (done rests : Bool) → rests ≡ true → is_some (if done then Some flow.Success else if rests then Some flow.Reverted else None) ≡ true
calm_by true rests is = refl
calm_by false true is = refl
calm_by false false is = absurd (cc)

calm_ends : (plan : Outline) (s : Snapshot) → IsLaidOut plan → Core plan s → NothingLeft plan s → candidate_if_running plan s ≡ None → is_some (calm_end plan s) ≡ true
unfolding calm_end
calm_ends plan s layout core nothing no_choice =
    calm_by (all_below (count plan) (is_done_at s)) _ (true_both (is_none (candidate_if_running plan s)) _ (ap is_none no_choice) (at_rest plan s layout core nothing))

-- a run that goes on, in which nothing is forced, no task may be taken up and nothing is in flight, has an end
pub has_end : (plan : Outline) (s : Snapshot) → IsLaidOut plan → Core plan s → flow_runs s.flow ≡ true → forced plan s ≡ None → choice plan s ≡ None → is_still plan s ≡ true → is_some (end_of plan s) ≡ true
unfolding end_of forced choice is_active
has_end plan s layout core going not_forced no_choice still =
    end_by (flow_runs s.flow || flow_suspends s.flow) (is_unhurt plan s) (is_none (forced_if_running plan s)) (calm_end plan s)
    (true_first (flow_runs s.flow) (flow_suspends s.flow) going)
    (λ unhurt.
    let active : flow_runs s.flow && is_unhurt plan s ≡ true = true_both (flow_runs s.flow) _ going unhurt in
    let none : forced_if_running plan s ≡ None = if_none (flow_runs s.flow && is_unhurt plan s) (forced_if_running plan s) active not_forced in
    let no_task : candidate_if_running plan s ≡ None = if_none _ (candidate_if_running plan s) (true_both (flow_runs s.flow && is_unhurt plan s) _ active (ap is_none not_forced)) no_choice in
    (ap is_none none, calm_ends plan s layout core (nothing_left plan s none no_task still unhurt) no_task))

-- ---- a run that ends REVERTED

-- what an end REVERTED asks for
record Reverts (unhurt calm done rests : Bool) : Type 0 where
  is_unhurt_too : unhurt ≡ true
  is_calm : calm ≡ true
  not_done : done ≡ false
  at_rest_too : rests ≡ true

reverts_by : (begun unhurt calm done rests : Bool)
    → (if begun then (if unhurt then (if calm then (if done then Some flow.Success else if rests then Some flow.Reverted else None) else None) else Some flow.Failure) else None) ≡ Some flow.Reverted
    → Reverts unhurt calm done rests
reverts_by true true true false true is = record { is_unhurt_too = refl; is_calm = refl; not_done = refl; at_rest_too = refl }
reverts_by true true true true rests is = absurd (some_end flow.Success is refl)
  where
    some_end : (f : FlowState) → Some f ≡ Some flow.Reverted → f ≡ flow.Success → ⊥
    some_end f is same = let other : f ≡ flow.Reverted = cc in let wrong : flow.Success ≡ flow.Reverted = sym same ∙ other in cc
reverts_by true true true false false is = absurd (cc)
reverts_by true true false done rests is = absurd (cc)
reverts_by true false calm done rests is = absurd (let wrong : flow.Failure ≡ flow.Reverted = cc in cc)
reverts_by false unhurt calm done rests is = absurd (cc)

none_given : (o : Option What) → is_none o ≡ true → o ≡ None
none_given None is = refl
none_given (Some w) is = absurd (cc)

pending_or_done : (x : AtomState) → is_at_work x ≡ false → is_failure x ≡ false → is_undoing x ≡ false → (is_pending x ≡ true) ⊎ (is_done x ≡ true)
pending_or_done atom.Pending works failed undoing = inl refl
pending_or_done atom.Success works failed undoing = inr refl
pending_or_done atom.Ignore works failed undoing = inr refl
pending_or_done x works failed undoing = absurd (cc)

abbrev is_waiting : Snapshot → ℕ → Bool
is_waiting s a = is_pending (s.state a)

-- where no atom is marked, each is PENDING or done
waits_or_done : (plan : Outline) (s : Snapshot) → IsLaidOut plan → Core plan s → NothingLeft plan s → ((a : ℕ) → a < count plan → is_none (s.mark a) ≡ true) → (a : ℕ) → a < count plan
    → (is_waiting s a ≡ true) ⊎ (is_done (s.state a) ≡ true)
waits_or_done plan s layout core nothing unmarked a below =
    pending_or_done (s.state a) (none_at_work plan s nothing a below) (none_failed plan s layout core nothing a below)
    (elim (either_way (is_undoing (s.state a))) [
      | inr isnt ↦ isnt
      | inl undoing ↦ absurd (clash (is_none (s.mark a)) (unmarked a below) (core.undone a below undoing))
    ])

-- where no atom is marked, none is PENDING
no_first_waiting : (plan : Outline) (s : Snapshot) → IsLaidOut plan → Core plan s → NothingLeft plan s → ((a : ℕ) → a < count plan → is_none (s.mark a) ≡ true)
    → Last (count plan) (is_earlier plan) (is_waiting s) → ⊥
unfolding can_run
no_first_waiting plan s layout core nothing unmarked m =
    let can : can_run plan s m.number ≡ true = true_both (is_pending (s.state m.number) && is_unmarked s m.number) _
    (true_both (is_pending (s.state m.number)) _ m.passes (unmarked m.number m.below))
    (all_of (count plan) (lets_run plan s m.number) (λ x below. or_of_not (is_before plan x m.number) (is_done (s.state x))
    (λ before. elim (waits_or_done plan s layout core nothing unmarked x below) [
      | inl waits ↦ absurd (clash (is_before plan x m.number) before (m.last x below waits))
      | inr done ↦ done
    ]))) in
    elim (task_or_retry plan m.number m.below) [
      | inl task ↦ clash (is_candidate plan s m.number)
          (true_second (is_interrupted plan s m.number) _ (true_both (is_task plan m.number) _ task (true_first (can_run plan s m.number) (can_revert plan s m.number) can)))
          (nothing.candidates m.number m.below)
      | inr retry ↦ clash (is_retry_to_run plan s m.number) (true_both (is_retry plan m.number) _ retry can) (nothing.unforced.run m.number m.below)
    ]

all_done : (plan : Outline) (s : Snapshot) → IsLaidOut plan → Core plan s → NothingLeft plan s → ((a : ℕ) → a < count plan → is_none (s.mark a) ≡ true) → (a : ℕ) → a < count plan → is_done (s.state a) ≡ true
all_done plan s layout core nothing unmarked a below =
    elim (none_or_last (count plan) (is_earlier plan) (is_waiting s) (λ x y z first second. before_chain plan layout.ordered z y x second first) (never_before_itself plan)) [
      | inr m ↦ absurd (no_first_waiting plan s layout core nothing unmarked m)
      | inl none ↦ elim (waits_or_done plan s layout core nothing unmarked a below) [
        | inl waits ↦ absurd (clash (is_waiting s a) waits (none a below))
        | inr done ↦ done
      ]
    ]

abbrev is_marked : Snapshot → ℕ → Bool
is_marked s a = not (is_none (s.mark a))

-- where an atom isn't done, one is marked, and what is marked is settled
rests : (plan : Outline) (s : Snapshot) → IsLaidOut plan → Core plan s → NothingLeft plan s → all_below (count plan) (is_done_at s) ≡ false → AtRest plan s
rests plan s layout core nothing not_done = elim (either_way (any_below (count plan) (is_marked s))) [
  | inl some_one ↦
      let found = any_at (count plan) (is_marked s) some_one in
      record {
        number = found.number;
        marked = not_true (is_none (s.mark found.number)) found.passes;
        settled = λ b marked.
            let mark = marked_where s b marked in
            marked_settled plan s layout core nothing b (held_below plan mark.resolve.flow b (core.whole b mark.resolve mark.is).0) marked;
      }
  | inr none ↦
      let unmarked : (a : ℕ) → a < count plan → is_none (s.mark a) ≡ true = λ a below. elim (either_way (is_none (s.mark a))) [
        | inl is ↦ is
        | inr marked ↦ absurd (clash (any_below (count plan) (is_marked s)) (any_of (count plan) (is_marked s) a below (ap not marked)) none)
      ] in
      let found = not_all (count plan) (is_done_at s) not_done in
      absurd (clash (is_done (s.state found.number)) (all_done plan s layout core nothing unmarked found.number found.below) found.fails)
]

-- at an end REVERTED an atom is marked, and all that are marked are settled
pub end_rests : (plan : Outline) (s : Snapshot) → IsLaidOut plan → Core plan s → is_still plan s ≡ true → end_of plan s ≡ Some flow.Reverted → AtRest plan s
unfolding end_of calm_end
end_rests plan s layout core still is =
    let asked = reverts_by (flow_runs s.flow || flow_suspends s.flow) (is_unhurt plan s) (is_none (forced_if_running plan s)) (all_below (count plan) (is_done_at s))
    (is_none (candidate_if_running plan s) && all_below (count plan) (is_at_rest s)) is in
    let none : forced_if_running plan s ≡ None = none_given (forced_if_running plan s) asked.is_calm in
    let no_task : candidate_if_running plan s ≡ None = none_given (candidate_if_running plan s) (and_first (is_none (candidate_if_running plan s)) _ asked.at_rest_too) in
    rests plan s layout core (nothing_left plan s none no_task still asked.is_unhurt_too) asked.not_done
