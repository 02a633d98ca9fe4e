-- Which entry a session couldn't record.
use Rattle.std.proofs.Common.{◌≡◌, ◌<◌, inl, inr, ◌⊎◌, ⊎_elim, ℕ, Bool, true, false, List, ◌∷◌, Option, Some, None, refl, ap, ◌∙◌, sym, subst}
use Rattle.std.proofs.lemmas.Bool.{lt-ltb}
use Rattle.std.specs.Prelude.{Result, Ok, Err, OnOk, OnErr, IfSome, nat_lt, ◌||◌}
use Rattle.tf_actions.specs.declared.orders.Order.{Order}
use Rattle.tf_actions.specs.declared.outcomes.Outcome.{Outcome}
use Rattle.tf_states.specs.declared.record.Entry.{Entry}
use Rattle.tf_states.specs.declared.state.FlowState.{FlowState}
use Rattle.tf_states.specs.declared.state.FlowState.TheVariants as flow
use Rattle.tf_actions.specs.Laws.{RevertsToNothing}
use Rattle.tf_hands.proofs.EndLemmas.{end_given}
use Rattle.tf_hands.proofs.FactLemmas.{past_facts}
use Rattle.tf_hands.proofs.FlightLemmas.{task_held}
use Rattle.tf_hands.proofs.GivenLemmas.{no_end_given}
use Rattle.tf_hands.specs.Hands.{task_of, end_by}
use Rattle.tf_model.specs.History.{flow_of, snapshot, flow_runs, flow_suspends}
use Rattle.tf_model.specs.Plan.{Outline, outline_of}
use Rattle.tf_model.specs.Steps.{has_ended, LegalPast}
use Rattle.tf_book.specs.Book.{BookValue, outline}
use Rattle.tf_book.specs.Turns.{IsTried, IsNoEndBy, HasTried, HasTriedToEnd, IsFinished}
use Rattle.tf_book.specs.declared.faults.Halt.{Halt}
use Rattle.tf_book.specs.declared.faults.Halt.TheVariants as halt
use Rattle.tf_book.proofs.TriedLemmas.{unhalted_tried, none_tried, tried_so}
use Rattle.tf_engines.specs.Runs.{MayRecord, MightRecord, is_of}
use Rattle.tf_engines.specs.Working.{HasOutcome}

goes_open : (f : FlowState) → flow_runs f || flow_suspends f ≡ true → has_ended f ≡ false
goes_open flow.Running is = refl
goes_open flow.Suspending is = refl
goes_open f is = absurd (cc)

module _ (gives : Order → Outcome → Type 0) (hand number : ℕ) (below : hand < number) where
  -- what ends no task may be recorded by the hand
  no_end_may : (plan : Outline) (past : List Entry) (e : Entry) → IsNoEndBy hand plan past e → MayRecord gives number plan past e
  no_end_may plan past e is = record {
    given = no_end_given gives plan past e.what is.no_end;
    hand = ap (λ (h : ℕ). nat_lt h number) is.by ∙ lt-ltb hand number below;
    unended = is.unended;
  }

  -- so may the end of its task, with an outcome that its order may have
  end_may : (plan : Outline) (past after : List Entry) (came : Outcome) (e : Entry) → RevertsToNothing gives → LegalPast plan past → HasOutcome gives plan past hand came
      → IsFinished plan hand came past (e ∷ after) → MayRecord gives number plan after e
  unfolding snapshot
  end_may plan past after came e law legal has is =
      subst (λ (l : List Entry). MayRecord gives number plan l e) (sym here) (subst (λ (x : Entry). MayRecord gives number plan past x) (sym same) (record {
        given = end_given gives plan past hand is.task has.order came law legal is.held has.has has.gave;
        hand = lt-ltb hand number below;
        unended = goes_open (flow_of past) ((past_facts plan past legal).busy is.task hand (task_held plan (snapshot plan past) hand is.task is.held)).goes;
      }))
    where
      same : e ≡ end_by (snapshot plan past) hand came is.task
      same = (let both : e ∷ after ≡ end_by (snapshot plan past) hand came is.task ∷ past = is.is in cc)

      here : after ≡ past
      here = (let both : e ∷ after ≡ end_by (snapshot plan past) hand came is.task ∷ past = is.is in cc)

  -- a turn of the hand, or where it enters
  pub turn_failed : {K A B : Type 0} (old new : BookValue K) (r : Result A B) → OnOk r (new.halt ≡ None) → OnErr r (old.halt ≡ None → HasTried hand new)
      → ((cause : Halt) → old.halt ≡ Some cause → new ≡ old) → MightRecord gives number old → MightRecord gives number new
  turn_failed old new (Ok u) sound tried halted was = unhalted_tried _ new.halt new.failed sound
  turn_failed {K} old new (Err f) sound tried halted was = by old.halt refl
    where
      by : (h : Option Halt) → old.halt ≡ h → MightRecord gives number new
      by None is = tried_so _ _ new.halt new.failed (λ e so. no_end_may (outline new) new.past e so) (tried is)
      by (Some cause) is = subst (λ (b : BookValue K). MightRecord gives number b) (sym (halted cause is)) was

  -- the end of its task
  pub end_failed : {K A B : Type 0} (old new : BookValue K) (came : Outcome) (r : Result A B) → RevertsToNothing gives → LegalPast (outline old) old.past → HasOutcome gives (outline old) old.past hand came
      → new.plan ≡ old.plan → OnOk r (new.halt ≡ None) → OnErr r (old.halt ≡ None → HasTriedToEnd hand came old new)
      → ((cause : Halt) → old.halt ≡ Some cause → new ≡ old) → MightRecord gives number old → MightRecord gives number new
  end_failed old new came (Ok u) law legal has plan sound tried halted was = unhalted_tried _ new.halt new.failed sound
  end_failed {K} old new came (Err f) law legal has plan sound tried halted was = by old.halt refl
    where
      by : (h : Option Halt) → old.halt ≡ h → MightRecord gives number new
      by None is =
          tried_so _ _ new.halt new.failed
          (λ e so. subst (λ (p : Outline). MayRecord gives number p new.past e) (sym (ap outline_of plan)) (end_may (outline old) old.past new.past came e law legal has so))
          (tried is)
      by (Some cause) is = subst (λ (b : BookValue K). MightRecord gives number b) (sym (halted cause is)) was

module _ (gives : Order → Outcome → Type 0) (number : ℕ) where
  -- a book that isn't halted
  pub unhalted_might : {K : Type 0} (b : BookValue K) → b.halt ≡ None → MightRecord gives number b
  unhalted_might b is = unhalted_tried _ b.halt b.failed is

  -- one that was halted for want of memory, or not at all
  pub memory_might : {K : Type 0} (b now : BookValue K) → now ≡ record b { halt = now.halt } → (now.halt ≡ b.halt) ⊎ (now.halt ≡ Some halt.Memory)
      → MightRecord gives number b → MightRecord gives number now
  memory_might {K} b now same (inl is) was =
      subst (λ (x : BookValue K). MightRecord gives number x) (sym (same ∙ ap (λ (h : Option Halt). record b { halt = h }) is)) was
  memory_might b now same (inr is) was = none_tried _ now.halt now.failed is
