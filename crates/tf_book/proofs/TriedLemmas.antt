-- Which entry was tried where a call was halted.
use Rattle.std.proofs.Common.{◌≡◌, ℕ, true, false, List, Option, Some, None, refl, ap, sym, subst, ◌⊎◌, ⊎_elim}
use Rattle.std.specs.Prelude.{Result, Ok, Err, is_none, ◌||◌, ◌&&◌}
use Rattle.tf_flow.specs.Plan.{PlanValue}
use Rattle.tf_states.specs.declared.record.Entry.{Entry}
use Rattle.tf_states.specs.declared.record.What.{What}
use Rattle.tf_states.specs.declared.record.What.TheVariants as what
use Rattle.tf_states.specs.declared.state.FlowState.{FlowState}
use Rattle.tf_states.specs.declared.state.FlowState.TheVariants as flow
use Rattle.tf_numbers.proofs.OptionLemmas.{only_if}
use Rattle.tf_numbers.proofs.TruthLemmas.{and_first}
use Rattle.tf_hands.specs.Hands.{start_entry, by_hand}
use Rattle.tf_hands.specs.declared.starts.Start.{Start}
use Rattle.tf_hands.proofs.ForcedLemmas.{forced_no_end}
use Rattle.tf_hands.proofs.ChoiceLemmas.{start_no_end}
use Rattle.tf_model.proofs.StepLemmas.{end_is}
use Rattle.tf_model.specs.Forced.{choice, candidate_if_running, end_of, forced, is_active, is_unhurt}
use Rattle.tf_model.specs.History.{flow_of, snapshot, Snapshot, flow_runs, flow_suspends}
use Rattle.tf_model.specs.Plan.{Outline}
use Rattle.tf_model.specs.Steps.{has_ended}
use Rattle.tf_details.specs.Elements.{Contents}
use Rattle.tf_book.specs.Book.{BookValue, outline}
use Rattle.tf_book.specs.Recording.{halt_after, failed_after, past_after, contents_after}
use Rattle.tf_book.specs.Turns.{HasOne, IsTried, IsNoEndBy}
use Rattle.tf_book.specs.SessionInvariant.{MayFollow, nothing_more, one_more, HasFailed, IsFullFor}
use Rattle.tf_book.specs.declared.faults.Halt.{Halt}
use Rattle.tf_book.specs.declared.faults.Halt.TheVariants as halt

-- ---- one entry

-- an entry that may be tried was to be recorded
pub tried_by : {K : Type 0} (so : Outline → List Entry → Entry → Type 0) (old new : BookValue K) (e : Entry) (r : Result (Unit {0}) Halt)
    → new ≡ record old { past = past_after e old.past r; contents = contents_after e old.contents r; journal = new.journal; halt = halt_after r; failed = failed_after e old.failed r }
    → so (outline old) old.past e → IsTried (so (outline new) new.past) new.halt new.failed
tried_by {K} so old new e r same is = subst (λ (b : BookValue K). IsTried (so (outline b) b.past) b.halt b.failed) (sym same) (by r)
  where
    by : (r : Result (Unit {0}) Halt) → IsTried (so (outline old) (past_after e old.past r)) (halt_after r) (failed_after e old.failed r)
    by (Ok u) = tt
    by (Err halt.Out) = tt
    by (Err halt.Memory) = tt
    by (Err halt.Disk) = is
    by (Err (halt.Full size need)) = is

-- a book that was halted for want of memory tried none
pub none_tried : (is_so : Entry → Type 0) (halted : Option Halt) (failed : Option Entry) → halted ≡ Some halt.Memory → IsTried is_so halted failed
none_tried is_so (Some halt.Memory) failed is = tt
none_tried is_so halted failed is = absurd (cc)

-- nor did one that isn't halted
pub unhalted_tried : (is_so : Entry → Type 0) (halted : Option Halt) (failed : Option Entry) → halted ≡ None → IsTried is_so halted failed
unhalted_tried is_so None failed is = tt
unhalted_tried is_so (Some h) failed is = absurd (cc)

-- ---- where the flow hadn't ended

runs_open : (f : FlowState) → flow_runs f ≡ true → has_ended f ≡ false
runs_open flow.Running is = refl
runs_open f is = absurd (cc)

goes_open : (f : FlowState) → flow_runs f || flow_suspends f ≡ true → has_ended f ≡ false
goes_open flow.Running is = refl
goes_open flow.Suspending is = refl
goes_open f is = absurd (cc)

-- ---- what a hand tries that ends no task

-- what is forced
pub force_tried : (hand : ℕ) (plan : Outline) (past : List Entry) (w : What) → flow_of past ≡ flow.Running → forced plan (snapshot plan past) ≡ Some w
    → IsNoEndBy hand plan past (by_hand hand w)
force_tried hand plan past w running is =
    record { by = refl; no_end = forced_no_end plan (snapshot plan past) w is; unended = ap has_ended running }

-- a start
pub start_tried : (hand : ℕ) (plan : Outline) (past : List Entry) (start : Start) → choice plan (snapshot plan past) ≡ Some (start_entry start)
    → IsNoEndBy hand plan past (by_hand hand (start_entry start))
unfolding choice is_active snapshot
start_tried hand plan past start is =
    let s : Snapshot = snapshot plan past in
    let both = (only_if (is_active plan s && is_none (forced plan s)) (candidate_if_running plan s) (start_entry start) is).0 in
    record {
      by = refl;
      no_end = start_no_end plan start;
      unended = runs_open (flow_of past) (and_first (flow_runs s.flow) (is_unhurt plan s) (and_first (is_active plan s) (is_none (forced plan s)) both));
    }

-- a last entry of the flow
pub close_tried : (hand : ℕ) (plan : Outline) (past : List Entry) (state : FlowState)
    → (end_of plan (snapshot plan past) ≡ Some state) ⊎ (flow_of past ≡ flow.Suspending)
    → IsNoEndBy hand plan past (by_hand hand (what.Flow state))
unfolding snapshot
close_tried hand plan past state ends = record {
  by = refl;
  no_end = refl;
  unended = ⊎_elim (λ is. goes_open (flow_of past) (end_is plan (snapshot plan past) state is).0) (λ suspending. ap has_ended suspending) ends;
}

-- ---- what is known of the entry

-- it is the one that is there
pub one_is : (is_so : Entry → Type 0) (failed : Option Entry) (e : Entry) → failed ≡ Some e → HasOne is_so failed → is_so e
one_is is_so failed e same one = subst (λ (f : Option Entry). HasOne is_so f) same one

-- there is one
pub one_of : (is_so : Entry → Type 0) (failed : Option Entry) → HasOne is_so failed → (e : Entry) × is_so e
one_of is_so None one = absurd one
one_of is_so (Some e) one = (e, one)

-- what is so of the entry is so in a wider sense
pub tried_so : (P Q : Entry → Type 0) (halted : Option Halt) (failed : Option Entry) → ((e : Entry) → P e → Q e) → IsTried P halted failed → IsTried Q halted failed
tried_so P Q None failed so tried = tt
tried_so P Q (Some halt.Out) failed so tried = tt
tried_so P Q (Some halt.Memory) failed so tried = tt
tried_so P Q (Some halt.Disk) None so tried = tried
tried_so P Q (Some halt.Disk) (Some e) so tried = so e tried
tried_so P Q (Some (halt.Full size need)) None so tried = tried
tried_so P Q (Some (halt.Full size need)) (Some e) so tried = so e tried

-- so is a pending entry
pub follows_so : (is_so : Entry → Type 0) (failed : Option Entry) {plan : PlanValue} {past pending : List Entry} → HasOne is_so failed → MayFollow (HasFailed failed) plan past pending
    → MayFollow is_so plan past pending
follows_so is_so failed one nothing_more = nothing_more
follows_so is_so failed one (one_more e step form same) = one_more e step form (one_is is_so failed e same one)

-- and one for which the journal is full
pub full_so : (is_so : Entry → Type 0) (failed : Option Entry) {contents : Contents} {plan : PlanValue} {past : List Entry} {size need : ℕ} → HasOne is_so failed
    → IsFullFor (HasFailed failed) contents plan past size need → IsFullFor is_so contents plan past size need
full_so is_so failed one f = record {
  entry = f.entry;
  so = one_is is_so failed f.entry f.so one;
  step = f.step;
  form = f.form;
  size_is = f.size_is;
  need_is = f.need_is;
  over = f.over;
}
