-- How a session of several hands is entered, or ends at once.
use Rattle.std.proofs.Common.{◌≡◌, ◌≤◌, ℕ, true, false, List, [], ◌++◌, length, Option, None, refl, ap, ◌∙◌, subst, arith}
use Rattle.std.specs.Prelude.{reverse}
use Rattle.std.proofs.lemmas.Bool.{lt-ltb}
use Rattle.tf_desk.specs.State.{DeskState}
use Rattle.tf_numbers.specs.Numbers.{Rises}
use Rattle.tf_actions.specs.declared.orders.Order.{Order}
use Rattle.tf_actions.specs.declared.outcomes.Outcome.{Outcome}
use Rattle.tf_states.specs.declared.record.Entry.{Entry}
use Rattle.tf_states.specs.declared.state.FlowState.{FlowState}
use Rattle.tf_model.specs.History.{flow_of}
use Rattle.tf_model.specs.Plan.{outline_of}
use Rattle.tf_model.specs.Steps.{has_ended, LegalPast}
use Rattle.tf_flow.specs.Plan.{PlanValue}
use Rattle.tf_book.specs.Book.{BookValue, outline}
use Rattle.tf_book.specs.SessionInvariant.{SessionInvariant}
use Rattle.tf_book.specs.Turns.{entering_by, IsEntering, limit_from}
use Rattle.tf_engines.specs.declared.engine.How.{How}
use Rattle.tf_engines.specs.declared.engine.How.TheVariants as how
use Rattle.tf_engines.specs.Runs.{HaltsAs, StandsAs, going_on, MightRecord}
use Rattle.tf_engines.specs.Shared.{SharedValue, IsJustEntered, IsShared}
use Rattle.tf_engines.proofs.FailLemmas.{unhalted_might}
use Rattle.tf_engines.specs.Working.{IsRun}
use Rattle.tf_engines.proofs.EnterLemmas.{same_entering, entered_goes, entered_going, ended_before, cut_before}

module _ {K : Type 0} where
  -- the entries with which it is entered were recorded
  pub is_fresh : (s : SharedValue K) → s.now.plan ≡ s.start.plan → LegalPast (outline s.now) s.now.past
      → (has_ended (flow_of s.start.past) ≡ false) × (s.now.past ≡ reverse (entering_by 0 (flow_of s.start.past)) ++ s.start.past) → IsJustEntered s
  is_fresh s plan legal is =
      let here : LegalPast (outline s.start) s.now.past = subst (λ (p : PlanValue). LegalPast (outline_of p) s.now.past) plan legal in
      record {
        begun = is.0;
        fresh = is.1 ∙ ap (λ (l : List Entry). reverse l ++ s.start.past) (same_entering (flow_of s.start.past));
        still = (entered_going (outline s.start) s.start.past s.now.past None refl here is).still;
      }

module _ {K : Type 0} (state : K → DeskState) (gives : Order → Outcome → Type 0) where
  -- a session that was entered
  pub entered_shared : (s : SharedValue K) → 1 ≤ s.number → s.number ≤ 64
      → ((earlier : BookValue K) → SessionInvariant state earlier s.start → SessionInvariant state earlier s.now)
      → s.now.plan ≡ s.start.plan → (state s.now.journal.desk).asks ≡ (state s.start.journal.desk).asks → s.now.limit ≡ limit_from s.limit (length s.start.past) → s.now.halt ≡ None → LegalPast (outline s.now) s.now.past
      → (has_ended (flow_of s.start.past) ≡ false) × (s.now.past ≡ reverse (entering_by 0 (flow_of s.start.past)) ++ s.start.past)
      → IsShared state gives s
  entered_shared s some few keeps plan asks limit sound legal is =
      let here : LegalPast (outline s.start) s.now.past = subst (λ (p : PlanValue). LegalPast (outline_of p) s.now.past) plan legal in
      record {
        keeps = keeps;
        plan = plan;
        failed = unhalted_might gives s.number s.now sound;
        asks = omega (arith, asks);
        stands = going_on (entered_going (outline s.start) s.start.past s.now.past None refl here is).running
            (entered_goes gives s.number s.limit (outline s.start) s.start.past s.now.past s.now.limit (lt-ltb 0 s.number (omega (arith, some))) limit is.0 is.1);
        inside = record { later = []; recorded = (is_fresh s plan legal is).fresh; unresumed = refl };
        number = few;
      }

  -- a flow that had ended
  pub ended_run : (number : ℕ) (limit : Option ℕ) (start now : BookValue K) (last : FlowState)
      → ((earlier : BookValue K) → SessionInvariant state earlier start → SessionInvariant state earlier now)
      → now.plan ≡ start.plan → (state now.journal.desk).asks ≡ (state start.journal.desk).asks → now.halt ≡ None → LegalPast (outline start) start.past
      → (flow_of start.past ≡ last) × (has_ended last ≡ true) × (now.past ≡ start.past) → IsRun state gives number limit start now (how.Ended last)
  ended_run number limit start now last keeps plan asks sound legal is = record {
    keeps = keeps;
    stops = (sound, ap flow_of is.2 ∙ is.0, is.1);
    plan = plan;
    failed = λ was. unhalted_might gives number now sound;
    ran = ended_before gives (Rises (state start.journal.desk).asks (state now.journal.desk).asks) number limit (outline start) start.past now.past last legal is;
    asks = omega (arith, asks);
  }

  -- a book that was halted before, or while it was entered
  pub cut_run : (number : ℕ) (limit : Option ℕ) (start now : BookValue K) (answer : How) → 1 ≤ number
      → ((earlier : BookValue K) → SessionInvariant state earlier start → SessionInvariant state earlier now)
      → now.plan ≡ start.plan → (state now.journal.desk).asks ≡ (state start.journal.desk).asks → HaltsAs now.halt answer → StandsAs now.halt (flow_of now.past) answer → LegalPast (outline now) now.past
      → (start.halt ≡ None → MightRecord gives number now) → IsEntering 0 start.past now.past → IsRun state gives number limit start now answer
  cut_run number limit start now answer some keeps plan asks halts stands legal failed is = record {
    keeps = keeps;
    stops = stands;
    plan = plan;
    failed = failed;
    ran = cut_before gives (Rises (state start.journal.desk).asks (state now.journal.desk).asks) number limit (outline start) start.past now.past now.halt answer (lt-ltb 0 number (omega (arith, some))) halts
        (subst (λ (p : PlanValue). LegalPast (outline_of p) now.past) plan legal) is;
    asks = omega (arith, asks);
  }
