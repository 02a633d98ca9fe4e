-- What holds of every legal history.
use Rattle.std.proofs.Common.{◌≡◌, ℕ, List, [], ◌∷◌, ◌++◌, Bool, true, false, Option, Some, None, refl, sym, ap, ◌∙◌, inl, inr, subst, eqb-true, eq-eqb}
use Rattle.std.specs.Prelude.{if◌then◌else◌, is_none, is_some, nat_eq}
use Rattle.tf_states.specs.declared.record.Entry.{Entry}
use Rattle.tf_states.specs.declared.record.What.{What}
use Rattle.tf_states.specs.declared.record.What.TheVariants as what
use Rattle.tf_states.specs.declared.state.AtomState.{AtomState}
use Rattle.tf_states.specs.declared.state.AtomState.TheVariants as atom
use Rattle.tf_states.specs.declared.state.FlowState.{FlowState}
use Rattle.tf_states.specs.declared.state.FlowState.TheVariants as flow
use Rattle.tf_flow.specs.Plan.{PlanValue}
use Rattle.tf_model.specs.Plan.{Outline, outline_of, count, holds, is_retry, compile_refusal}
use Rattle.tf_model.specs.History.{Resolve, Snapshot, state_after, snapshot, state_of, flow_of, is_settled, flow_runs, flow_is_reverted}
use Rattle.tf_model.specs.Readiness.{marks_from, is_marked_from, is_region}
use Rattle.tf_model.specs.Forced.{forced, choice, end_of}
use Rattle.tf_model.specs.Steps.{LegalPast, is_idle, is_still, Session}
use Rattle.tf_model.specs.Laws.{atom_may, is_allowed}
use Rattle.tf_model.proofs.StepLemmas.{past_allowed}
use Rattle.tf_model.proofs.HistoryLemmas.{one_more, session_legal, session_state}
use Rattle.tf_facts.specs.Facts.{Facts, InFlight, OpenAtom, CompletedReversion, started_in, started_after, was_started}
use Rattle.tf_facts.proofs.LayoutLemmas.{IsLaidOut, laid_out, held_below}
use Rattle.tf_numbers.proofs.TruthLemmas.{clash, either_way}
use Rattle.tf_numbers.proofs.BelowLemmas.{any_at, any_of, not_all}
use Rattle.tf_facts.proofs.CoreLemmas.{Core, AtRest, marked_where, after_region, alone_retrying}
use Rattle.tf_facts.proofs.StepLemmas.{step_kept}
use Rattle.tf_facts.proofs.FinishLemmas.{has_end}
use Rattle.tf_facts.proofs.OrderlyLemmas.{past_orderly}

-- ---- every moment of every legal history

start_core : (plan : Outline) → Core plan (snapshot plan [])
unfolding snapshot
start_core plan = record {
  order = λ a b before unsettled. absurd (cc);
  whole = λ c m is. absurd (cc);
  opens = λ c m is. absurd (cc);
  before = λ going c m is. absurd (cc);
  undone = λ c below undoing. absurd (cc);
  controllers = λ c retrying. absurd (cc);
  rest = λ reverted. absurd (cc);
}

pub past_core : (plan : Outline) → IsLaidOut plan → (past : List Entry) → LegalPast plan past → Core plan (snapshot plan past)
past_core plan layout [] legal = start_core plan
past_core plan layout (e ∷ past) legal = subst (Core plan) (sym (one_more plan e past)) (step_kept plan (snapshot plan past) e layout legal.0.rule (past_core plan layout past legal.1))

-- ---- regions by marks

-- an atom marked from flow g
record MarkedFrom (plan : Outline) (s : Snapshot) (g : ℕ) : Type 0 where
  number : ℕ
  resolve : Resolve
  is : s.mark number ≡ Some resolve
  from : resolve.flow ≡ g

marked_from : (plan : Outline) (s : Snapshot) (g : ℕ) → is_region plan s g ≡ true → MarkedFrom plan s g
marked_from plan s g region = let found = any_at (count plan) (is_marked_from s g) region in by found.number (s.mark found.number) refl found.passes
  where
    by : (a : ℕ) (o : Option Resolve) → s.mark a ≡ o → marks_from g o ≡ true → MarkedFrom plan s g
    by a None was is = absurd (cc)
    by a (Some m) was is = record { number = a; resolve = m; is = was; from = eqb-true m.flow g is }

region_of : (plan : Outline) (s : Snapshot) → Core plan s → (a : ℕ) (m : Resolve) → s.mark a ≡ Some m → is_region plan s m.flow ≡ true
region_of plan s core a m is =
    any_of (count plan) (is_marked_from s m.flow) a (held_below plan m.flow a (core.whole a m is).0) (ap (marks_from m.flow) is ∙ eq-eqb m.flow m.flow refl)

-- an atom of a region is marked
region_marks : (plan : Outline) (s : Snapshot) → Core plan s → (g a : ℕ) → is_region plan s g ≡ true → holds plan g a ≡ true → is_none (s.mark a) ≡ false
region_marks plan s core g a region inside =
    let mark = marked_from plan s g region in
    ap is_none ((core.whole mark.number mark.resolve mark.is).1 a (ap (λ (h : ℕ). holds plan h a) mark.from ∙ inside))

facts_of : (plan : Outline) (s : Snapshot) → IsLaidOut plan → Core plan s → Facts plan s
facts_of plan s layout core = record {
  order = core.order;
  whole_marks = core.whole;
  open_atom = λ g region. let mark = marked_from plan s g region in subst (OpenAtom plan s) mark.from (core.opens mark.number mark.resolve mark.is);
  after_region = λ g y x region inside outside.
      let mark = marked_from plan s g region in
      after_region plan s layout core mark.number mark.resolve mark.is y x (ap (λ (h : ℕ). holds plan h y) mark.from ∙ inside) (ap (λ (h : ℕ). holds plan h x) mark.from ∙ outside);
  before_region = λ going g y x region inside outside.
      let mark = marked_from plan s g region in
      core.before going mark.number mark.resolve mark.is y x (ap (λ (h : ℕ). holds plan h y) mark.from ∙ inside) (ap (λ (h : ℕ). holds plan h x) mark.from ∙ outside);
  undone_by_mark = core.undone;
  alone_retrying = λ r g b. alone_retrying plan s layout core r g b;
}

pub facts_hold : (plan : PlanValue) (past : List Entry) → compile_refusal plan ≡ None → LegalPast (outline_of plan) past → Facts (outline_of plan) (snapshot (outline_of plan) past)
facts_hold plan past compiles legal =
    let layout = laid_out plan compiles in
    facts_of (outline_of plan) (snapshot (outline_of plan) past) layout (past_core (outline_of plan) layout past legal)

-- ---- no run gets stuck

flow_is : (plan : Outline) (past : List Entry) (f : FlowState) → flow_of past ≡ f → (snapshot plan past).flow ≡ f
unfolding snapshot
flow_is plan past f is = is

pub never_stuck : (plan : PlanValue) (past : List Entry) → compile_refusal plan ≡ None → LegalPast (outline_of plan) past → flow_of past ≡ flow.Running
    → forced (outline_of plan) (snapshot (outline_of plan) past) ≡ None → choice (outline_of plan) (snapshot (outline_of plan) past) ≡ None
    → is_still (outline_of plan) (snapshot (outline_of plan) past) ≡ true → is_some (end_of (outline_of plan) (snapshot (outline_of plan) past)) ≡ true
never_stuck plan past compiles legal running =
    let layout = laid_out plan compiles in
    has_end (outline_of plan) (snapshot (outline_of plan) past) layout (past_core (outline_of plan) layout past legal) (ap flow_runs (flow_is (outline_of plan) past flow.Running running))

in_flight : (plan : Outline) (s : Snapshot) → is_still plan s ≡ false → InFlight plan s
unfolding is_still
in_flight plan s isnt = let found = not_all (count plan) (is_idle s) isnt in record { number = found.number; below = found.below; flying = found.fails }

pub waits_for_one : (plan : PlanValue) (past : List Entry) → compile_refusal plan ≡ None → LegalPast (outline_of plan) past → flow_of past ≡ flow.Running
    → forced (outline_of plan) (snapshot (outline_of plan) past) ≡ None → choice (outline_of plan) (snapshot (outline_of plan) past) ≡ None
    → end_of (outline_of plan) (snapshot (outline_of plan) past) ≡ None → InFlight (outline_of plan) (snapshot (outline_of plan) past)
waits_for_one plan past compiles legal running not_forced no_choice no_end =
    elim (either_way (is_still (outline_of plan) (snapshot (outline_of plan) past))) [
      | inr isnt ↦ in_flight (outline_of plan) (snapshot (outline_of plan) past) isnt
      | inl still ↦ absurd (clash (is_some (end_of (outline_of plan) (snapshot (outline_of plan) past)))
          (never_stuck plan past compiles legal running not_forced no_choice still) (ap is_some no_end))
    ]

-- ---- completed reversion

-- PENDING or IGNORE: not started since
abbrev is_unstarted : AtomState → Bool
is_unstarted atom.Pending = true
is_unstarted atom.Ignore = true
is_unstarted x = false

-- what enters IGNORE was PENDING
ignored_was : (b : Bool) (x : AtomState) → atom_may b x atom.Ignore ≡ true → is_unstarted x ≡ true
ignored_was true atom.Pending may = refl
ignored_was false atom.Pending may = refl
ignored_was b x may = absurd (cc)

unstarted_in : (b : Bool) (x to : AtomState) (before : Bool) → atom_may b x to ≡ true → (is_unstarted x ≡ true → before ≡ false) → is_unstarted to ≡ true → started_in to before ≡ false
unstarted_in b x atom.Pending before may was is = refl
unstarted_in b x atom.Ignore before may was is = was (ignored_was b x may)
unstarted_in b x to before may was is = absurd (cc)

unstarted_after : (plan : Outline) (s : Snapshot) (w : What) (a : ℕ) (before : Bool) → is_allowed plan s w ≡ true → (is_unstarted (s.state a) ≡ true → before ≡ false)
    → is_unstarted (state_after w a (s.state a)) ≡ true → started_after w a before ≡ false
unstarted_after plan s (what.Atom entered to held) a before may was is = by (nat_eq entered a) refl is
  where
    by : (c : Bool) → nat_eq entered a ≡ c → is_unstarted (if c then to else s.state a) ≡ true → (if c then started_in to before else before) ≡ false
    by true same now = unstarted_in (is_retry plan entered) (s.state entered) to before may (λ there. was (ap (λ (n : ℕ). is_unstarted (s.state n)) (sym (eqb-true entered a same)) ∙ there)) now
    by false same now = was now
unstarted_after plan s (what.Flow f) a before may was is = was is
unstarted_after plan s (what.Resolve named resolved) a before may was is = was is
unstarted_after plan s (what.Restart again) a before may was is = was is

unstarted : (plan : Outline) (past : List Entry) → LegalPast plan past → (a : ℕ) → is_unstarted (state_of past a) ≡ true → was_started past a ≡ false
unfolding snapshot
unstarted plan [] legal a is = refl
unstarted plan (e ∷ past) legal a is =
    unstarted_after plan (snapshot plan past) e.what a (was_started past a) (past_allowed plan (e ∷ past) legal).0 (unstarted plan past legal.1 a) is

started_reverted : (x : AtomState) → is_settled x ≡ true → is_unstarted x ≡ false → x ≡ atom.Reverted
started_reverted atom.Reverted settled isnt = refl
started_reverted x settled isnt = absurd (cc)

completed : (plan : Outline) (past : List Entry) → LegalPast plan past → Core plan (snapshot plan past) → AtRest plan (snapshot plan past) → CompletedReversion plan past
unfolding snapshot
completed plan past legal core rest =
    let mark = marked_where (snapshot plan past) rest.number rest.marked in
    let settled = λ (g a : ℕ) (region : is_region plan (snapshot plan past) g ≡ true) (inside : holds plan g a ≡ true). rest.settled a (region_marks plan (snapshot plan past) core g a region inside) in
    record {
      region = record { flow = mark.resolve.flow; region = region_of plan (snapshot plan past) core rest.number mark.resolve mark.is };
      settled = settled;
      reverted = λ g a region inside started. started_reverted (state_of past a) (settled g a region inside) (elim (either_way (is_unstarted (state_of past a))) [
        | inr isnt ↦ isnt
        | inl is ↦ absurd (clash (was_started past a) started (unstarted plan past legal a is))
      ]);
      orderly = past_orderly plan past legal;
    }

pub reversion_completed : (plan : PlanValue) (past : List Entry) → compile_refusal plan ≡ None → LegalPast (outline_of plan) past → flow_of past ≡ flow.Reverted → CompletedReversion (outline_of plan) past
reversion_completed plan past compiles legal reverted =
    let layout = laid_out plan compiles in
    let core = past_core (outline_of plan) layout past legal in
    completed (outline_of plan) past legal core (core.rest (ap flow_is_reverted (flow_is (outline_of plan) past flow.Reverted reverted)))

-- a run that stopped REVERTED
pub session_completed : (plan : PlanValue) (before entries : List Entry) → compile_refusal plan ≡ None → Session (outline_of plan) before entries (Some flow.Reverted)
    → CompletedReversion (outline_of plan) (entries ++ before)
session_completed plan before entries compiles session =
    reversion_completed plan (entries ++ before) compiles (session_legal (outline_of plan) before entries (Some flow.Reverted) session) (session_state (outline_of plan) before entries flow.Reverted session)
