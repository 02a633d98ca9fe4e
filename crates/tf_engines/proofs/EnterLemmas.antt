-- How a session is entered.
use Rattle.std.proofs.Common.{◌≡◌, ◌≤◌, ℕ, Bool, true, false, ◌&&◌, List, [], ◌∷◌, ◌++◌, length, Option, Some, None, refl, ap, ◌∙◌, sym, subst, arith, length-append}
use Rattle.std.specs.Prelude.{nat_eq, nat_lt, reverse}
use Rattle.std.specs.List.{list_all}
use Rattle.std.proofs.lemmas.Bool.{eqb-true}
use Rattle.std.proofs.lemmas.List.Folds.{list_all-append}
use Rattle.std.proofs.lemmas.List.{reverse-append, length-reverse}
use Rattle.tf_actions.specs.declared.orders.Order.{Order}
use Rattle.tf_actions.specs.declared.outcomes.Outcome.{Outcome}
use Rattle.tf_states.specs.declared.record.Entry.{Entry}
use Rattle.tf_states.specs.declared.record.What.{What}
use Rattle.tf_states.specs.declared.record.What.TheVariants as what
use Rattle.tf_states.specs.declared.state.FlowState.{FlowState}
use Rattle.tf_states.specs.declared.state.FlowState.TheVariants as flow
use Rattle.tf_numbers.proofs.TruthLemmas.{true_both, and_first, and_second}
use Rattle.tf_hands.specs.Hands.{is_of_flow}
use Rattle.tf_hands.proofs.RestLemmas.{entered_still}
use Rattle.tf_model.specs.History.{flow_of, snapshot}
use Rattle.tf_model.specs.Scope.{IsGiven}
use Rattle.tf_model.specs.Plan.{Outline}
use Rattle.tf_model.specs.Steps.{already_ended, entered, entering, has_ended, LegalPast, is_still}
use Rattle.tf_book.specs.Turns.{limit_from, entering_by, IsEntering}
use Rattle.tf_book.specs.declared.faults.Halt.{Halt}
use Rattle.tf_engines.specs.declared.engine.How.{How}
use Rattle.tf_engines.specs.Runs.{AreGiven, is_of, is_unsuspended, AreWithin, IsSuspended, IsSession, HasRun, HaltsAs, IsUnderWay, IsBetweenTurns}
use Rattle.tf_engines.proofs.StopLemmas.{due_none}
use Rattle.tf_engines.proofs.RunLemmas.{none_last, halts_so}

pub same_entering : (f : FlowState) → entering_by 0 f ≡ entering f
same_entering flow.Pending = refl
same_entering flow.Suspended = refl
same_entering flow.Running = refl
same_entering flow.Suspending = refl
same_entering flow.Resuming = refl
same_entering flow.Success = refl
same_entering flow.Failure = refl
same_entering flow.Reverted = refl

-- an entry by hand 0 of the flow that doesn't suspend it
is_turning : Entry → Bool
is_turning e = nat_eq e.hand 0 && (is_unsuspended e && is_of_flow e.what)

entering_turns : (f : FlowState) → list_all is_turning (entering f) ≡ true
unfolding is_turning
entering_turns flow.Pending = refl
entering_turns flow.Suspended = refl
entering_turns flow.Running = refl
entering_turns flow.Suspending = refl
entering_turns flow.Resuming = refl
entering_turns flow.Success = refl
entering_turns flow.Failure = refl
entering_turns flow.Reverted = refl

all_prefix : (p : Entry → Bool) (some others : List Entry) → list_all p (some ++ others) ≡ true → list_all p some ≡ true
all_prefix p some others all = and_first (list_all p some) (list_all p others) (sym (list_all-append p some others) ∙ all)

all_reverse : (p : Entry → Bool) (xs : List Entry) → list_all p xs ≡ true → list_all p (reverse xs) ≡ true
all_reverse p [] all = refl
all_reverse p (x ∷ xs) all =
    ap (list_all p) (reverse-append (x ∷ []) xs) ∙ list_all-append p (reverse xs) (x ∷ [])
    ∙ true_both (list_all p (reverse xs)) (p x && true) (all_reverse p xs (and_second (p x) (list_all p xs) all)) (true_both (p x) true (and_first (p x) (list_all p xs) all) refl)

flow_given : (gives : Order → Outcome → Type 0) (plan : Outline) (past : List Entry) (w : What) → is_of_flow w ≡ true → IsGiven gives plan past w
flow_given gives plan past (what.Flow state) is = tt
flow_given gives plan past (what.Atom a state held) is = absurd (cc)
flow_given gives plan past (what.Resolve named resolved) is = absurd (cc)
flow_given gives plan past (what.Restart again) is = absurd (cc)

-- so it is of any number of hands
first_of : (number : ℕ) (e : Entry) → nat_lt 0 number ≡ true → nat_eq e.hand 0 ≡ true → is_of number e ≡ true
first_of number e some is = ap (λ (h : ℕ). nat_lt h number) (eqb-true e.hand 0 is) ∙ some

turning_goes : (gives : Order → Outcome → Type 0) (number : ℕ) (plan : Outline) (past entries : List Entry) → nat_lt 0 number ≡ true → list_all is_turning entries ≡ true
    → AreGiven gives plan past entries × (list_all (is_of number) entries ≡ true) × (list_all is_unsuspended entries ≡ true)
unfolding is_turning
turning_goes gives number plan past [] some all = (tt, refl, refl)
turning_goes gives number plan past (e ∷ entries) some all =
    let first = and_first (is_turning e) (list_all is_turning entries) all in
    let goes = turning_goes gives number plan past entries some (and_second (is_turning e) (list_all is_turning entries) all) in
    let rest = and_second (nat_eq e.hand 0) (is_unsuspended e && is_of_flow e.what) first in (
      (flow_given gives plan (entries ++ past) e.what (and_second (is_unsuspended e) (is_of_flow e.what) rest), goes.0),
      true_both (is_of number e) (list_all (is_of number) entries) (first_of number e some (and_first (nat_eq e.hand 0) (is_unsuspended e && is_of_flow e.what) first)) goes.1,
      true_both (is_unsuspended e) (list_all is_unsuspended entries) (and_first (is_unsuspended e) (is_of_flow e.what) rest) goes.2,
    )

entering_goes : (gives : Order → Outcome → Type 0) (number : ℕ) (plan : Outline) (past : List Entry) (f : FlowState) → nat_lt 0 number ≡ true
    → AreGiven gives plan past (reverse (entering f)) × (list_all (is_of number) (reverse (entering f)) ≡ true) × (list_all is_unsuspended (reverse (entering f)) ≡ true)
entering_goes gives number plan past f some = turning_goes gives number plan past (reverse (entering f)) some (all_reverse is_turning (entering f) (entering_turns f))

given_prefix : (gives : Order → Outcome → Type 0) (number : ℕ) (plan : Outline) (past : List Entry) (f : FlowState) (some others : List Entry) → nat_lt 0 number ≡ true → entering f ≡ some ++ others
    → AreGiven gives plan past (reverse some) × (list_all (is_of number) (reverse some) ≡ true) × (list_all is_unsuspended (reverse some) ≡ true)
given_prefix gives number plan past f some others any prefix =
    turning_goes gives number plan past (reverse some) any (all_reverse is_turning some (all_prefix is_turning some others (ap (list_all is_turning) (sym prefix) ∙ entering_turns f)))

-- all entries are among those with which the session was entered
entered_within : (plan : Outline) (limit : Option ℕ) (first : ℕ) (entries : List Entry) → length entries ≤ first → AreWithin plan limit first entries
entered_within plan limit first [] fits = tt
entered_within plan limit first (e ∷ entries) fits = ((λ behind reached. absurd (omega (arith, fits, behind))), entered_within plan limit first entries (omega (arith, fits)))

pub entered_goes : (gives : Order → Outcome → Type 0) (number : ℕ) (limit : Option ℕ) (plan : Outline) (past after : List Entry) (kept : Option ℕ) → nat_lt 0 number ≡ true → kept ≡ limit_from limit (length past) → has_ended (flow_of past) ≡ false
    → after ≡ reverse (entering_by 0 (flow_of past)) ++ past → IsUnderWay gives number limit plan past after kept
entered_goes gives number limit plan past after kept some limited begun is =
    let goes = entering_goes gives number plan past (flow_of past) some in
    record {
      inner = [];
      recorded = is ∙ ap (λ (l : List Entry). reverse l ++ past) (same_entering (flow_of past));
      inside = refl;
      begun = begun;
      given = goes.0;
      hands = goes.1;
      unsuspended = goes.2;
      within = entered_within plan limit (length (entering (flow_of past))) (reverse (entering (flow_of past))) (omega (arith, length-reverse (entering (flow_of past))));
      limited = limited;
    }

pub entering_runs : (past : List Entry) (f : FlowState) → has_ended f ≡ false → flow_of (reverse (entering f) ++ past) ≡ flow.Running
entering_runs past flow.Pending begun = refl
entering_runs past flow.Suspended begun = refl
entering_runs past flow.Running begun = refl
entering_runs past flow.Suspending begun = refl
entering_runs past flow.Resuming begun = refl
entering_runs past f begun = absurd (cc)

pub entered_going : (plan : Outline) (past after : List Entry) (halt : Option Halt) → halt ≡ None → LegalPast plan after → (has_ended (flow_of past) ≡ false) × (after ≡ reverse (entering_by 0 (flow_of past)) ++ past)
    → IsBetweenTurns plan after halt
entered_going plan past after halt sound legal is =
    let same : after ≡ reverse (entering (flow_of past)) ++ past = is.1 ∙ ap (λ (l : List Entry). reverse l ++ past) (same_entering (flow_of past)) in
    record {
      sound = sound;
      running = ap flow_of same ∙ entering_runs past (flow_of past) is.0;
      still = subst (λ (l : List Entry). is_still plan (snapshot plan l) ≡ true) (sym same) (entered_still plan past is.0 (subst (LegalPast plan) same legal));
    }

-- the flow had ended
pub ended_before : (gives : Order → Outcome → Type 0) (asked : Type 0) (number : ℕ) (limit : Option ℕ) (plan : Outline) (past after : List Entry) (state : FlowState) → LegalPast plan past
    → (flow_of past ≡ state) × (has_ended state ≡ true) × (after ≡ past) → IsSession gives asked number limit plan past after (Some state)
ended_before gives asked number limit plan past after state legal is = subst (λ (f : FlowState). IsSession gives asked number limit plan past after (Some f)) is.0 (record {
  entries = [];
  recorded = is.2;
  session = already_ended (ap has_ended is.0 ∙ is.1) legal;
  given = tt;
  hands = refl;
  due = tt;
  within = tt;
  suspended = λ stops. (let here : flow_of past ≡ flow.Suspended = cc in let no : false ≡ true = ap has_ended (sym here) ∙ ap has_ended is.0 ∙ is.1 in absurd (cc));
})

-- it was halted while it entered
pub cut_before : (gives : Order → Outcome → Type 0) (asked : Type 0) (number : ℕ) (limit : Option ℕ) (plan : Outline) (past after : List Entry) (cause : Option Halt) (answer : How) → nat_lt 0 number ≡ true → HaltsAs cause answer → LegalPast plan after
    → IsEntering 0 past after → HasRun gives asked number limit plan past after answer
cut_before gives asked number limit plan past after cause answer any halts legal is =
    let prefix : entering (flow_of past) ≡ is.some ++ is.others = sym (same_entering (flow_of past)) ∙ is.prefix in
    let goes = given_prefix gives number plan past (flow_of past) is.some is.others any prefix in
    halts_so gives asked number limit plan past after cause answer halts None (record {
      entries = reverse is.some;
      recorded = is.is;
      session = entered is.some is.others prefix (subst (LegalPast plan) is.is legal);
      given = goes.0;
      hands = goes.1;
      due = due_none asked limit (reverse is.some) goes.2;
      within = entered_within plan limit (length (entering (flow_of past))) (reverse is.some)
          (omega (arith, length-reverse is.some, ap (λ (l : List Entry). length l) prefix, length-append is.some is.others));
      suspended = λ stops. none_last flow.Suspended (IsSuspended asked limit (reverse is.some)) stops;
    })

-- of a flow that had ended nothing is recorded
pub ended_entering : (past after : List Entry) (state : FlowState) → (flow_of past ≡ state) × (has_ended state ≡ true) × (after ≡ past) → IsEntering 0 past after
ended_entering past after state is = record { some = []; others = entering_by 0 (flow_of past); prefix = refl; is = is.2 }
