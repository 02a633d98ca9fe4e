-- How a run goes on, and how it stops.
use Rattle.std.proofs.Common.{◌≡◌, ◌≤◌, inl, inr, ◌⊎◌, ℕ, ◌+◌, true, false, List, [], ◌∷◌, ◌++◌, length, Option, Some, None, refl, ap, ◌∙◌, sym, subst, arith, append_assoc, length-append}
use Rattle.std.specs.Prelude.{IsSome, not, nat_lt, reverse}
use Rattle.std.specs.List.{list_all}
use Rattle.tf_flow.specs.Plan.{PlanValue}
use Rattle.tf_actions.specs.Laws.{RevertsToNothing}
use Rattle.tf_actions.specs.declared.orders.Order.{Order}
use Rattle.tf_actions.specs.declared.outcomes.Outcome.{Outcome}
use Rattle.tf_states.specs.declared.record.Entry.{Entry}
use Rattle.tf_states.specs.declared.record.What.{What}
use Rattle.tf_states.specs.declared.record.What.TheVariants as what
use Rattle.tf_states.specs.declared.state.FlowState.{FlowState}
use Rattle.tf_states.specs.declared.state.FlowState.TheVariants as flow
use Rattle.tf_hands.specs.Hands.{end_by, ended_from, by_hand, is_of_flow, HasOrder, IsAlone}
use Rattle.tf_hands.proofs.EndLemmas.{ended_within, ended_inner, end_ends, end_frees, end_given}
use Rattle.tf_hands.proofs.RestLemmas.{alone_still, own_alone}
use Rattle.tf_bound.specs.Short.{AreShort}
use Rattle.tf_model.specs.Plan.{entry_bound, Outline, outline_of}
use Rattle.tf_model.specs.History.{flow_of, snapshot}
use Rattle.tf_model.specs.Scope.{IsGiven}
use Rattle.tf_model.specs.Steps.{Session, halted, entering, is_inner_entry, is_inner, LegalPast, is_still}
use Rattle.tf_numbers.proofs.TruthLemmas.{true_both}
use Rattle.tf_book.specs.Book.{BookValue}
use Rattle.tf_book.specs.Turns.{is_reached, IsFinished}
use Rattle.tf_book.proofs.ForceLemmas.{flow_stays}
use Rattle.tf_book.specs.declared.faults.Halt.{Halt}
use Rattle.tf_engines.specs.declared.engine.How.{How}
use Rattle.tf_engines.specs.declared.engine.How.TheVariants as how
use Rattle.tf_engines.specs.Runs.{is_of, suspends, is_unsuspended, winds_up, IsSuspended, IsSession, HasRun, HaltsAs, IsUnderWay}
use Rattle.tf_engines.proofs.StopLemmas.{reaches, due_none, end_winds}

-- what never stopped didn't stop in a last state
pub none_last : (last : FlowState) (P : Type 0) → None ≡ Some last → P
none_last last P is = absurd (cc)

-- what isn't of the flow doesn't suspend it
pub within_goes : (w : What) → is_of_flow w ≡ false → not (suspends w) ≡ true
within_goes (what.Flow state) is = absurd (cc)
within_goes (what.Atom a state held) is = refl
within_goes (what.Resolve named resolved) is = refl
within_goes (what.Restart again) is = refl

-- how many entries the history has, beside those of the session
pub counted : (before past inner first : List Entry) → past ≡ inner ++ (first ++ before) → length past ≡ length (inner ++ first) + length before
counted before past inner first is = ap length (is ∙ sym (append_assoc inner first before)) ∙ length-append (inner ++ first) before

-- one more entry inside a session, which winds it up where it is to stop
pub goes_more : (gives : Order → Outcome → Type 0) (hand number : ℕ) (limit : Option ℕ) (plan : Outline) (before past : List Entry) (kept : Option ℕ) (w : What) → nat_lt hand number ≡ true → is_of_flow w ≡ false → is_inner w ≡ true → IsGiven gives plan past w
    → (is_reached kept (length past) ≡ true → winds_up plan w ≡ true) → IsUnderWay gives number limit plan before past kept → IsUnderWay gives number limit plan before (by_hand hand w ∷ past) kept
goes_more gives hand number limit plan before past kept w below within inner given winds on =
    let first : List Entry = reverse (entering (flow_of before)) in
    let entries : List Entry = on.inner ++ first in
    let is : past ≡ entries ++ before = on.recorded ∙ sym (append_assoc on.inner first before) in
    record {
      inner = by_hand hand w ∷ on.inner;
      recorded = ap (λ (l : List Entry). by_hand hand w ∷ l) on.recorded;
      inside = true_both (is_inner w) (list_all is_inner_entry on.inner) inner on.inside;
      begun = on.begun;
      given = (subst (λ (l : List Entry). IsGiven gives plan l w) is given, on.given);
      hands = true_both (nat_lt hand number) (list_all (is_of number) entries) below on.hands;
      unsuspended = true_both (not (suspends w)) (list_all is_unsuspended entries) (within_goes w within) on.unsuspended;
      within = ((λ entered reached. winds (reaches limit kept (length before) (length entries) (length past) on.limited (counted before past on.inner first on.recorded) reached)), on.within);
      limited = on.limited;
    }

-- a run that goes on is a session that was halted
pub goes_session : (gives : Order → Outcome → Type 0) (asked : Type 0) (number : ℕ) (limit : Option ℕ) (plan : Outline) (before past : List Entry) (kept : Option ℕ) → LegalPast plan past
    → IsUnderWay gives number limit plan before past kept → IsSession gives asked number limit plan before past None
goes_session gives asked number limit plan before past kept legal on = record {
  entries = on.inner ++ reverse (entering (flow_of before));
  recorded = on.recorded ∙ sym (append_assoc on.inner (reverse (entering (flow_of before))) before);
  session = halted on.inner on.begun on.inside (subst (LegalPast plan) on.recorded legal);
  given = on.given;
  hands = on.hands;
  due = due_none asked limit (on.inner ++ reverse (entering (flow_of before))) on.unsuspended;
  within = on.within;
  suspended = λ is. none_last flow.Suspended (IsSuspended asked limit (on.inner ++ reverse (entering (flow_of before)))) is;
}

-- an answer that tells a halt
pub halts_so : (gives : Order → Outcome → Type 0) (asked : Type 0) (number : ℕ) (limit : Option ℕ) (plan : Outline) (before after : List Entry) (cause : Option Halt) (answer : How) → HaltsAs cause answer
    → (stop : Option FlowState) → IsSession gives asked number limit plan before after stop → HasRun gives asked number limit plan before after answer
halts_so gives asked number limit plan before after cause answer is stop session = subst (λ (h : How). HasRun gives asked number limit plan before after h) (sym is.told) (stop, session)

-- the end of the task that the hand had an order for
pub goes_finished : (gives : Order → Outcome → Type 0) (hand number : ℕ) (limit : Option ℕ) (plan : Outline) (before past after : List Entry) (kept : Option ℕ) (order : Order) (came : Outcome) → nat_lt hand number ≡ true → RevertsToNothing gives → LegalPast plan past
    → HasOrder plan past hand order → gives order came → IsFinished plan hand came past after → IsUnderWay gives number limit plan before past kept → IsUnderWay gives number limit plan before after kept
goes_finished gives hand number limit plan before past after kept order came below law legal has gave is on =
    subst (λ (l : List Entry). IsUnderWay gives number limit plan before l kept) (sym is.is)
    (goes_more gives hand number limit plan before past kept (ended_from is.task ((snapshot plan past).state is.task) came) below (ended_within is.task ((snapshot plan past).state is.task) came) (ended_inner is.task ((snapshot plan past).state is.task) came)
    (end_given gives plan past hand is.task order came law legal is.held has gave)
    (λ reached. end_winds plan (ended_from is.task ((snapshot plan past).state is.task) came) (end_ends plan past hand is.task came legal is.held)) on)

-- then nothing is in flight
pub still_after : (hand : ℕ) (plan : Outline) (past after : List Entry) (came : Outcome) → LegalPast plan past → IsAlone plan past hand → IsFinished plan hand came past after → is_still plan (snapshot plan after) ≡ true
still_after hand plan past after came legal alone is =
    subst (λ (l : List Entry). is_still plan (snapshot plan l) ≡ true) (sym is.is)
    (alone_still plan (end_by (snapshot plan past) hand came is.task ∷ past) hand (own_alone plan past (end_by (snapshot plan past) hand came is.task) hand refl alone) (end_frees plan past hand is.task came legal is.held))

pub runs_after : (hand : ℕ) (plan : Outline) (past after : List Entry) (came : Outcome) → IsFinished plan hand came past after → flow_of after ≡ flow_of past
runs_after hand plan past after came is =
    ap flow_of is.is ∙ flow_stays hand (ended_from is.task ((snapshot plan past).state is.task) came) past (ended_within is.task ((snapshot plan past).state is.task) came)

-- there is a number where one is told
pub told_some : {A : Type 0} (o : Option A) (a : A) → o ≡ Some a → IsSome o
told_some (Some b) a is = refl
told_some None a is = absurd (cc)

-- the end may have been recorded as the run was halted
pub finished_or_not : (gives : Order → Outcome → Type 0) (asked : Type 0) (hand number : ℕ) (limit : Option ℕ) (plan : Outline) (before past after : List Entry) (kept : Option ℕ) (order : Order) (came : Outcome) → nat_lt hand number ≡ true → RevertsToNothing gives
    → LegalPast plan past → LegalPast plan after → HasOrder plan past hand order → gives order came → IsFinished plan hand came past after ⊎ (after ≡ past) → IsUnderWay gives number limit plan before past kept
    → IsSession gives asked number limit plan before after None
finished_or_not gives asked hand number limit plan before past after kept order came below law legal later has gave (inl is) on =
    goes_session gives asked number limit plan before after kept later (goes_finished gives hand number limit plan before past after kept order came below law legal has gave is on)
finished_or_not gives asked hand number limit plan before past after kept order came below law legal later has gave (inr is) on =
    goes_session gives asked number limit plan before after kept later (subst (λ (l : List Entry). IsUnderWay gives number limit plan before l kept) (sym is) on)

-- a book that isn't halted after a call wasn't before
pub was_sound : {K : Type 0} (old new : BookValue K) → new.halt ≡ None → ((cause : Halt) → old.halt ≡ Some cause → new ≡ old) → old.halt ≡ None
was_sound {K} old new sound kept = by old.halt refl
  where
    by : (h : Option Halt) → old.halt ≡ h → old.halt ≡ None
    by None is = is
    by (Some cause) is = sym (ap (λ (b : BookValue K). b.halt) (kept cause is)) ∙ sound

-- ---- how long a run is

short_prefix : (newer past : List Entry) → AreShort (newer ++ past) → AreShort newer
short_prefix [] past are = tt
short_prefix (e ∷ newer) past are = (are.0, short_prefix newer past are.1)

session_bounded : (gives : Order → Outcome → Type 0) (asked : Type 0) (number : ℕ) (limit : Option ℕ) (plan : PlanValue) (before after : List Entry) (stop : Option FlowState)
    → ((entries : List Entry) (last : Option FlowState) → AreShort entries → Session (outline_of plan) before entries last → length entries ≤ entry_bound plan)
    → AreShort after → IsSession gives asked number limit (outline_of plan) before after stop → length after ≤ length before + entry_bound plan
session_bounded gives asked number limit plan before after stop bound short is =
    omega (arith, bound is.entries stop (short_prefix is.entries before (subst (λ (l : List Entry). AreShort l) is.recorded short)) is.session, ap length is.recorded, length-append is.entries before)

-- a run records at most as many entries as any session of its plan may
pub ran_bounded : (gives : Order → Outcome → Type 0) (asked : Type 0) (number : ℕ) (limit : Option ℕ) (plan : PlanValue) (before after : List Entry) (h : How)
    → ((entries : List Entry) (last : Option FlowState) → AreShort entries → Session (outline_of plan) before entries last → length entries ≤ entry_bound plan)
    → AreShort after → HasRun gives asked number limit (outline_of plan) before after h → length after ≤ length before + entry_bound plan
ran_bounded gives asked number limit plan before after (how.Ended state) bound short ran = session_bounded gives asked number limit plan before after (Some state) bound short ran
ran_bounded gives asked number limit plan before after how.Suspended bound short ran = session_bounded gives asked number limit plan before after (Some flow.Suspended) bound short ran
ran_bounded gives asked number limit plan before after (how.Halted cause) bound short ran = session_bounded gives asked number limit plan before after ran.0 bound short ran.1
