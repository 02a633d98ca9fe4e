-- A run that may be suspended for one reason may be so for a wider one.
use Rattle.std.proofs.Common.{ℕ, List, [], ◌∷◌, Option, inl, inr, ⊎_elim}
use Rattle.tf_desk.specs.State.{DeskState}
use Rattle.tf_flow.specs.Plan.{PlanTree, PlanValue}
use Rattle.tf_actions.specs.declared.orders.Order.{Order}
use Rattle.tf_actions.specs.declared.outcomes.Outcome.{Outcome}
use Rattle.tf_states.specs.declared.record.Entry.{Entry}
use Rattle.tf_states.specs.declared.state.FlowState.{FlowState}
use Rattle.tf_engines.specs.Runs.{AreDue, IsSuspended, IsSession}
use Rattle.tf_details.specs.Elements.{Element, Contents}
use Rattle.tf_book.specs.Book.{begun_contents}
use Rattle.tf_commands.specs.Books.{Promised, RunsAnew, overfull, ran, Runs, unopened, forbidden, too_many, unhired_run, hired_run, Resumes, unfound_again, unhired_again, resumed, Ran}
use Rattle.tf_commands.specs.declared.running.Request.{Request}
use Rattle.tf_model.specs.Plan.{Outline}
use Rattle.tf_ports.specs.Ports.{GivenBack, CrewTold}

due_more : (few more : Type 0) (limit : Option ℕ) → (few → more) → (entries : List Entry) → AreDue few limit entries → AreDue more limit entries
due_more few more limit widens [] due = tt
due_more few more limit widens (e ∷ entries) due = (λ is. ⊎_elim (λ asked. inl (widens asked)) (λ reached. inr reached) (due.0 is), due_more few more limit widens entries due.1)

suspended_more : (few more : Type 0) (limit : Option ℕ) → (few → more) → (entries : List Entry) → IsSuspended few limit entries → IsSuspended more limit entries
suspended_more few more limit widens entries s = record {
  cause = ⊎_elim (λ asked. inl (widens asked)) (λ reached. inr reached) s.cause;
  hand = s.hand;
  before = s.before;
  last = s.last;
}

pub session_more : (gives : Order → Outcome → Type 0) (few more : Type 0) (number : ℕ) (limit : Option ℕ) (plan : Outline) (before after : List Entry) (stop : Option FlowState) → (few → more)
    → IsSession gives few number limit plan before after stop → IsSession gives more number limit plan before after stop
session_more gives few more number limit plan before after stop widens s = record {
  entries = s.entries;
  recorded = s.recorded;
  session = s.session;
  given = s.given;
  hands = s.hands;
  due = due_more few more limit widens s.entries s.due;
  within = s.within;
  suspended = λ is. suspended_more few more limit widens s.entries (s.suspended is);
}

pub ran_more : (gives : Order → Outcome → Type 0) (request : Request) (few more : Type 0) (contents : Contents) (plan : PlanValue) (before entries : List Entry) (stop : Option FlowState)
    (shown now : Option (List ℕ)) (closing : List ℕ) (status : ℕ) → (few → more)
    → Ran gives request few contents plan before entries stop shown now closing status → Ran gives request more contents plan before entries stop shown now closing status
ran_more gives request few more contents plan before entries stop shown now closing status widens r = record {
  steps = record {
    session = r.steps.session;
    hands = r.steps.hands;
    due = due_more few more request.limit widens entries r.steps.due;
    within = r.steps.within;
    suspended = λ is. suspended_more few more request.limit widens entries (r.steps.suspended is);
  };
  bound = r.bound;
  outcomes = r.outcomes;
  text = r.text;
  end = r.end;
}

pub promised_more : (gives : Order → Outcome → Type 0) (request : Request) (few more : Type 0) (back : GivenBack) (name : List ℕ) (contents : Contents) (plan : PlanValue) (before : List Entry) (entry now : DeskState) (status : ℕ) → (few → more)
    → Promised gives request few back name contents plan before entry now status
    → Promised gives request more back name contents plan before entry now status
promised_more gives request few more back name contents plan before entry now status widens p = record {
  entries = p.entries;
  stop = p.stop;
  closing = p.closing;
  ran = ran_more gives request few more contents plan before p.entries p.stop entry.shown now.shown p.closing status widens p.ran;
  orders_given = p.orders_given;
  lasts = p.lasts;
}

pub anew_more : (gives : Order → Outcome → Type 0) (request : Request) (few more : Type 0) (back : GivenBack) (name : List ℕ) (elements : List Element) (plan : PlanValue) (entry now : DeskState) (status : ℕ) → (few → more)
    → RunsAnew gives request few back name elements plan entry now status
    → RunsAnew gives request more back name elements plan entry now status
anew_more gives request few more back name elements plan entry now status widens (overfull size need fresh full r) = overfull size need fresh full r
anew_more gives request few more back name elements plan entry now status widens (ran p) =
    ran (promised_more gives request few more back name (begun_contents elements plan) plan [] entry now status widens p)

pub runs_more : (gives : Order → Outcome → Type 0) (request : Request) (few more : Type 0) (name : List ℕ) (crew crew_after : CrewTold) (entry now : DeskState) (tree : PlanTree) (status : ℕ) → (few → more)
    → Runs gives request few name crew crew_after entry now tree status
    → Runs gives request more name crew crew_after entry now tree status
runs_more gives request few more name crew crew_after entry now tree status widens (unopened same u) = unopened same u
runs_more gives request few more name crew crew_after entry now tree status widens (forbidden elements plan number same stays found is r) = forbidden elements plan number same stays found is r
runs_more gives request few more name crew crew_after entry now tree status widens (too_many elements plan same stays found none many r) = too_many elements plan same stays found none many r
runs_more gives request few more name crew crew_after entry now tree status widens (unhired_run elements plan same found place u) = unhired_run elements plan same found place u
runs_more gives request few more name crew crew_after entry now tree status widens (hired_run elements plan same found place hires a) =
    hired_run elements plan same found place hires (anew_more gives request few more crew_after.back name elements plan entry now status widens a)

pub resumes_more : (gives : Order → Outcome → Type 0) (request : Request) (few more : Type 0) (name : List ℕ) (wanted : Option (List ℕ)) (crew crew_after : CrewTold) (entry now : DeskState) (status : ℕ) → (few → more)
    → Resumes gives request few name wanted crew crew_after entry now status
    → Resumes gives request more name wanted crew crew_after entry now status
resumes_more gives request few more name wanted crew crew_after entry now status widens (unfound_again same is) = unfound_again same is
resumes_more gives request few more name wanted crew crew_after entry now status widens (unhired_again contents plan past held going is) = unhired_again contents plan past held going is
resumes_more gives request few more name wanted crew crew_after entry now status widens (resumed contents plan past can held back hires p) =
    resumed contents plan past can held back hires (promised_more gives request few more back name contents plan past entry now status widens p)
