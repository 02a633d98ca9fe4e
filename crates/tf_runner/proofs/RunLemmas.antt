-- How the run of a plan of which nothing is kept may end.
use Rattle.std.proofs.Common.{◌≡◌, ◌≢◌, ℕ, Bool, true, false, List, [], ◌∷◌, ◌++◌, Option, Some, None, Result, Ok, Err, refl, sym, ap, ◌∙◌, subst, ⊎_elim, append-nil, arith}
use Rattle.std.specs.Prelude.{◌&&◌, not, IfOk}
use Rattle.std.specs.List.{list_all}
use Rattle.tf_accept.specs.Accepted.{GivesNone, GivesPlan, IsReason, is_want_of_memory}
use Rattle.tf_accept.specs.declared.accepting.Refusal.{Refusal}
use Rattle.tf_accept.specs.declared.accepting.Refusal.TheVariants as refusal
use Rattle.tf_actions.specs.declared.orders.Order.{Order}
use Rattle.tf_actions.specs.declared.outcomes.Outcome.{Outcome}
use Rattle.tf_numbers.specs.Numbers.{Rises}
use Rattle.tf_desk.specs.State.{DeskState}
use Rattle.tf_book.specs.Book.{BookValue, outline, begun_contents}
use Rattle.tf_book.specs.SessionInvariant.{HasCause, HasFailed, IsFullFor, SessionInvariant}
use Rattle.tf_book.specs.Turns.{HasOne, IsTried}
use Rattle.tf_book.specs.declared.faults.Halt.{Halt}
use Rattle.tf_book.specs.declared.faults.Halt.TheVariants as book_halt
use Rattle.tf_details.specs.Elements.{Contents, with_entries}
use Rattle.tf_engines.specs.Runs.{AreDue, HasRun, IsSession, MayRecord, MightRecord, is_unsuspended, suspends}
use Rattle.tf_engines.specs.declared.engine.How.TheVariants as how
use Rattle.tf_flow.specs.Plan.{PlanTree, PlanValue, plan_tree}
use Rattle.tf_flow.specs.declared.atoms.Bind.{Bind}
use Rattle.tf_model.specs.Plan.{outline_of}
use Rattle.tf_states.specs.declared.record.Entry.{Entry}
use Rattle.tf_states.specs.declared.state.FlowState.{FlowState}
use Rattle.tf_states.specs.declared.state.FlowState.TheVariants as flow
use Rattle.tf_values.specs.declared.faults.Memory.{Memory}
use Rattle.tf_conductor.specs.declared.runners.Ran.{Ran}
use Rattle.tf_conductor.specs.declared.runners.Ran.TheVariants as ran
use Rattle.tf_runner.specs.Conducts.{BytesRunTo, PlanRunsTo, RunsAlone, ended, filled, planned, refused, run_contents, succeeded}
use Rattle.tf_runner.specs.Working.{IsCalm, LeftBy, ran_by}

-- where nobody is asked for a stop, and there is no limit, nobody suspends the flow
pub none_suspends : {asked : Type 0} (entries : List Entry) → ¬ asked → AreDue asked None entries → list_all is_unsuspended entries ≡ true
none_suspends [] none due = refl
none_suspends {asked} (e ∷ entries) none due = by (suspends e.what) refl (none_suspends entries none due.1)
  where
    by : (b : Bool) → suspends e.what ≡ b → list_all is_unsuspended entries ≡ true → list_all is_unsuspended (e ∷ entries) ≡ true
    by false is rest = ap (λ (b : Bool). not b && list_all is_unsuspended entries) is ∙ rest
    by true is rest = absurd (⊎_elim (λ was. none was) (λ reached. (let clash : false ≡ true = reached in cc)) (due.0 is))

module _ (gives : Order → Outcome → Type 0) {asked : Type 0} (none : ¬ asked) (plan : PlanValue) (after : List Entry) where
  -- a session of one hand
  abbrev pub runs_alone : {stop : Option FlowState} → IsSession gives asked 1 None (outline_of plan) [] after stop → RunsAlone gives (plan_tree plan) stop
  runs_alone s = record { value = plan; same = refl; entries = s.entries; session = s.session; given = s.given; hands = s.hands; unsuspended = none_suspends s.entries none s.due }

  -- it isn't suspended
  pub unsuspended_alone : IsSession gives asked 1 None (outline_of plan) [] after (Some flow.Suspended) → ⊥
  unsuspended_alone s = ⊎_elim (λ was. none was) (λ reached. (let clash : false ≡ true = reached in cc)) (s.suspended refl).cause

  -- its next entry would have made the book too long
  pub filled_alone : {stop : Option FlowState} (s : IsSession gives asked 1 None (outline_of plan) [] after stop) (failed : Option Entry) (size need : ℕ)
      → HasOne (MayRecord gives 1 (outline_of plan) after) failed → IsFullFor (HasFailed failed) (run_contents plan after) plan after size need → PlanRunsTo gives (plan_tree plan) ran.Left
  filled_alone {stop} s failed size need one full =
      let same : after ≡ s.entries = s.recorded ∙ append-nil s.entries in
      let is : HasOne (MayRecord gives 1 (outline_of plan) after) (Some full.entry) = subst (HasOne (MayRecord gives 1 (outline_of plan) after)) full.so one in
      let whole : IsFullFor (MayRecord gives 1 (outline_of plan) after) (run_contents plan after) plan after size need
      = record { entry = full.entry; so = is; step = full.step; form = full.form; size_is = full.size_is; need_is = full.need_is; over = full.over } in
      filled stop (runs_alone s) size need (subst (λ (l : List Entry). IsFullFor (MayRecord gives 1 (outline_of plan) l) (run_contents plan l) plan l size need) same whole)

-- ---- how a run ends, by the answer

if_ok_so : {A : Type 0} {P Q : A → Type 0} (r : Result A Memory) → IfOk r P → ((a : A) → P a → Q a) → IfOk r Q
if_ok_so (Ok a) is so = so a is
if_ok_so (Err e) is so = tt

module _ (gives : Order → Outcome → Type 0) {asked : Type 0} (none : ¬ asked) (plan : PlanValue) (past after : List Entry) (empty : past ≡ []) where
  -- the flow stopped in this state
  pub ended_so : (last : FlowState) → HasRun gives asked 1 None (outline_of plan) past after (how.Ended last) → PlanRunsTo gives (plan_tree plan) (ran_by last)
  ended_so last run = by last (subst (λ (p : List Entry). IsSession gives asked 1 None (outline_of plan) p after (Some last)) empty run)
    where
      other : (state : FlowState) → state ≢ flow.Success → IsSession gives asked 1 None (outline_of plan) [] after (Some state) → PlanRunsTo gives (plan_tree plan) ran.Left
      other state apart s = ended state apart (runs_alone gives none plan after s)

      by : (state : FlowState) → IsSession gives asked 1 None (outline_of plan) [] after (Some state) → PlanRunsTo gives (plan_tree plan) (ran_by state)
      by flow.Success s = succeeded (runs_alone gives none plan after s)
      by flow.Pending s = other flow.Pending (λ is. cc) s
      by flow.Running s = other flow.Running (λ is. cc) s
      by flow.Failure s = other flow.Failure (λ is. cc) s
      by flow.Reverted s = other flow.Reverted (λ is. cc) s
      by flow.Suspending s = other flow.Suspending (λ is. cc) s
      by flow.Suspended s = other flow.Suspended (λ is. cc) s
      by flow.Resuming s = other flow.Resuming (λ is. cc) s

  -- it isn't suspended
  pub suspended_so : HasRun gives asked 1 None (outline_of plan) past after how.Suspended → ⊥
  suspended_so run = unsuspended_alone gives none plan after (subst (λ (p : List Entry). IsSession gives asked 1 None (outline_of plan) p after (Some flow.Suspended)) empty run)

  -- it was halted for this cause
  pub halted_so : (why : Halt) (failed : Option Entry) (result : Result Ran Memory) (old now : DeskState) → HasRun gives asked 1 None (outline_of plan) past after (how.Halted why)
      → IsTried (MayRecord gives 1 (outline_of plan) after) (Some why) failed → HasCause (run_contents plan after) plan after old now failed (Some why) → IfOk result (LeftBy why) → IfOk result (PlanRunsTo gives (plan_tree plan))
  halted_so why failed result old now run tried cause left = if_ok_so result left (λ r is. by why tried cause is)
    where
      session : IsSession gives asked 1 None (outline_of plan) [] after run.0
      session = subst (λ (p : List Entry). IsSession gives asked 1 None (outline_of plan) p after run.0) empty run.1

      by : (w : Halt) → IsTried (MayRecord gives 1 (outline_of plan) after) (Some w) failed → HasCause (run_contents plan after) plan after old now failed (Some w) → {r : Ran} → LeftBy w r → PlanRunsTo gives (plan_tree plan) r
      by (book_halt.Full size need) one full {r} is = subst (PlanRunsTo gives (plan_tree plan)) (sym is) (filled_alone gives none plan after session failed size need one full)
      by book_halt.Disk one full is = absurd is
      by book_halt.Out one full is = absurd is
      by book_halt.Memory one full is = absurd is

-- where no count of faults rises, neither the disk nor the output failed
pub calm_so : (why : Halt) (plan : PlanValue) (after : List Entry) (old now : DeskState) (failed : Option Entry) → HasCause (run_contents plan after) plan after old now failed (Some why)
    → ¬ (Rises old.disk_faults now.disk_faults) → ¬ (Rises old.out_faults now.out_faults) → IsCalm why
calm_so book_halt.Disk plan after old now failed cause disk out = disk cause
calm_so book_halt.Out plan after old now failed cause disk out = out cause
calm_so (book_halt.Full size need) plan after old now failed cause disk out = tt
calm_so book_halt.Memory plan after old now failed cause disk out = tt

-- ---- the bytes of a file

-- they give a plan, which was run
pub planned_so : (gives : Order → Outcome → Type 0) (bytes : List ℕ) (sets : List Bind) (plan : PlanTree) (result : Result Ran Memory) → sets ≡ [] → GivesPlan sets false None bytes plan
    → IfOk result (PlanRunsTo gives plan) → IfOk result (BytesRunTo gives bytes)
planned_so gives bytes sets plan result none so runs = if_ok_so result runs (λ r is. planned plan r (subst (λ (s : List Bind). GivesPlan s false None bytes plan) none so) is)

-- they give none
pub refused_so : (gives : Order → Outcome → Type 0) (bytes : List ℕ) (sets : List Bind) (reason : Refusal) → sets ≡ [] → is_want_of_memory reason ≡ false → IsReason sets false None bytes reason → BytesRunTo gives bytes ran.Left
refused_so gives bytes sets refusal.Memory none apart is = (let clash : true ≡ false = apart in absurd (cc))
refused_so gives bytes sets (refusal.File fault) none apart is = refused (refusal.File fault) (subst (λ (s : List Bind). GivesNone s false None bytes (refusal.File fault)) none is)
refused_so gives bytes sets (refusal.Compile fault) none apart is = refused (refusal.Compile fault) (subst (λ (s : List Bind). GivesNone s false None bytes (refusal.Compile fault)) none is)
refused_so gives bytes sets (refusal.Scope fault) none apart is = refused (refusal.Scope fault) (subst (λ (s : List Bind). GivesNone s false None bytes (refusal.Scope fault)) none is)
refused_so gives bytes sets (refusal.Target fault) none apart is = refused (refusal.Target fault) (subst (λ (s : List Bind). GivesNone s false None bytes (refusal.Target fault)) none is)

-- ---- a book that was halted

module _ {K : Type 0} (state : K → DeskState) (start now : BookValue K) (why : Halt) (s : SessionInvariant state start now) (is : now.halt ≡ Some why) (none : start.past ≡ [])
    (begun : start.contents ≡ begun_contents [] start.plan) where
  -- the book would hold just the run
  holds_run : now.contents ≡ run_contents start.plan now.past
  holds_run =
      let recorded : now.past ≡ s.entries = s.recorded ∙ ap (λ (l : List Entry). s.entries ++ l) none ∙ append-nil s.entries in
      s.held ∙ ap (λ (c : Contents). with_entries c s.entries) begun ∙ ap (run_contents start.plan) (sym recorded)

  cause_of : HasCause (run_contents start.plan now.past) start.plan now.past (state start.journal.desk) (state now.journal.desk) now.failed (Some why)
  cause_of =
      subst (λ (c : Contents). HasCause c start.plan now.past (state start.journal.desk) (state now.journal.desk) now.failed (Some why)) holds_run
      (subst (λ (h : Option Halt). HasCause now.contents start.plan now.past (state start.journal.desk) (state now.journal.desk) now.failed h) is s.cause)

  -- no count of faults rises
  pub halted_calm : ¬ (Rises (state start.journal.desk).disk_faults (state now.journal.desk).disk_faults) → ¬ (Rises (state start.journal.desk).out_faults (state now.journal.desk).out_faults) → IsCalm why
  halted_calm disk out = calm_so why start.plan now.past (state start.journal.desk) (state now.journal.desk) now.failed cause_of disk out

  -- the run ends so
  pub halted_book : (gives : Order → Outcome → Type 0) {asked : Type 0} (result : Result Ran Memory) → ¬ asked → now.plan ≡ start.plan → MightRecord gives 1 now
      → HasRun gives asked 1 None (outline start) start.past now.past (how.Halted why) → IfOk result (LeftBy why) → IfOk result (PlanRunsTo gives (plan_tree start.plan))
  halted_book gives result unasked same tried run left =
      let so : IsTried (MayRecord gives 1 (outline_of start.plan) now.past) (Some why) now.failed
      = subst (λ (p : PlanValue). IsTried (MayRecord gives 1 (outline_of p) now.past) (Some why) now.failed) same (subst (λ (h : Option Halt). IsTried (MayRecord gives 1 (outline now) now.past) h now.failed) is tried) in
      halted_so gives unasked start.plan start.past now.past none why now.failed result (state start.journal.desk) (state now.journal.desk) run so cause_of left

-- nothing doesn't rise
pub never_rises : (old new : ℕ) → old ≡ 0 → new ≡ 0 → ¬ (Rises old new)
never_rises old new was is rose = omega (arith, was, is, rose)
