-- The tables show one entry more, where each of their parts does.
use Rattle.std.proofs.Common.{◌≡◌, ℕ, ◌<◌, List, length, Bool, true, false, Option, Some, None, refl, sym, ap, ◌∙◌, inl, inr, slice_get, subst}
use Rattle.std.specs.Prelude.{if◌then◌else◌, nat_eq, option_map, ◌&&◌}
use Rattle.std.proofs.Math.Path.{fun_ext}
use Rattle.std.proofs.lemmas.Bool.{cases_lt}
use Rattle.std.proofs.lemmas.Option.{slice_get-get_or}
use Rattle.tf_states.specs.declared.record.AtomView.{AtomView}
use Rattle.tf_states.specs.declared.record.Payload.{Payload}
use Rattle.tf_states.specs.declared.record.What.TheVariants as what
use Rattle.tf_states.specs.declared.state.AtomState.{AtomState}
use Rattle.tf_states.specs.declared.state.AtomState.TheVariants as atom
use Rattle.tf_states.specs.declared.state.FlowState.{FlowState}
use Rattle.tf_states.specs.declared.state.FlowState.TheVariants as flow
use Rattle.tf_machine.specs.declared.tables.Change.TheVariants as change
use Rattle.tf_machine.specs.declared.tables.Mark.{Mark}
use Rattle.tf_machine.specs.declared.tables.Place.{Place}
use Rattle.tf_model.specs.Plan.{Outline, count, holds, is_task, is_retry, own_flow}
use Rattle.tf_model.specs.History.{Resolve, Snapshot, later, state_after, payload_after, hand_after, mark_after, attempts_after, is_at_work, begun_again, is_running}
use Rattle.tf_model.specs.Forced.{is_marked_again}
use Rattle.tf_machine.specs.Tables.{hand_in, mark_in, attempts_told, resolve_of, shown_of}
use Rattle.tf_machine.specs.Changes.{AreChanged, first_place, changed, turned, cleared, marked, begun}
use Rattle.tf_machine.proofs.PlanLemmas.{never_held}

-- two snapshots are the same where their parts are
pub same_snapshot : (s t : Snapshot) → ((a : ℕ) → s.state a ≡ t.state a) → ((a : ℕ) → s.payload a ≡ t.payload a) → ((a : ℕ) → s.hand a ≡ t.hand a)
    → ((a : ℕ) → s.mark a ≡ t.mark a) → ((a : ℕ) → s.attempts a ≡ t.attempts a) → s.flow ≡ t.flow → s ≡ t
same_snapshot s t states payloads hands marks attempts flows =
    ap (λ (f : ℕ → AtomState). record { state = f; payload = s.payload; hand = s.hand; mark = s.mark; attempts = s.attempts; flow = s.flow }) (fun_ext states)
    ∙ (ap (λ (f : ℕ → Payload). record { state = t.state; payload = f; hand = s.hand; mark = s.mark; attempts = s.attempts; flow = s.flow }) (fun_ext payloads)
    ∙ (ap (λ (f : ℕ → Option ℕ). record { state = t.state; payload = t.payload; hand = f; mark = s.mark; attempts = s.attempts; flow = s.flow }) (fun_ext hands)
    ∙ (ap (λ (f : ℕ → Option Resolve). record { state = t.state; payload = t.payload; hand = t.hand; mark = f; attempts = s.attempts; flow = s.flow }) (fun_ext marks)
    ∙ (ap (λ (f : ℕ → ℕ). record { state = t.state; payload = t.payload; hand = t.hand; mark = t.mark; attempts = f; flow = s.flow }) (fun_ext attempts)
    ∙ ap (λ (f : FlowState). record { state = t.state; payload = t.payload; hand = t.hand; mark = t.mark; attempts = t.attempts; flow = f }) flows))))

-- ---- an atom enters a state

-- what a place tells after each was changed
told_changed : {Y : Type 0} (f : Option Place → Y) (change : ℕ → Place → Place) (g : Y → Y) (old new : List Place) (a : ℕ) → AreChanged change old new → f None ≡ g (f None)
    → ((p : Place) → f (Some (change a p)) ≡ g (f (Some p))) → f (slice_get new a) ≡ g (f (slice_get old a))
told_changed {Y = Y} f change g old new a are none each = ap f (are.each a) ∙ by (slice_get old a)
  where
    by : (o : Option Place) → f (option_map (change a) o) ≡ g (f o)
    by None = none
    by (Some p) = each p

gone_again : (own : Option ℕ) (o : Option Resolve) (b : Bool) → is_marked_again own o ≡ b → (if b then None else o) ≡ begun_again own o
gone_again own None true is = refl
gone_again own None false is = refl
gone_again own (Some m) b is = ap (λ (c : Bool). if c then None else Some m) (sym is)

begun_mark : (own : Option ℕ) (p : Place) → mark_in (Some (begun own p)) ≡ begun_again own (option_map resolve_of p.mark)
begun_mark own p = by (is_marked_again own (option_map resolve_of p.mark)) refl
  where
    told : (b : Bool) → mark_in (Some (if b then marked None p else p)) ≡ (if b then None else option_map resolve_of p.mark)
    told true = refl
    told false = refl

    by : (b : Bool) → is_marked_again own (option_map resolve_of p.mark) ≡ b → mark_in (Some (begun own p)) ≡ begun_again own (option_map resolve_of p.mark)
    by b is = ap (λ (c : Bool). mark_in (Some (if c then marked None p else p))) is ∙ (told b ∙ gone_again own (option_map resolve_of p.mark) b is)

-- where an atom enters a state, a retry controller that begins to run clears the marks of its own flow
cleared_mark : (plan : Outline) (i a : ℕ) (state : AtomState) (held : Payload) (p : Place) → mark_in (Some (cleared plan i state p)) ≡ mark_after plan (what.Atom i state held) a (option_map resolve_of p.mark)
unfolding mark_after
cleared_mark plan i a atom.Running held p = by (is_retry plan i)
  where
    by : (b : Bool) → mark_in (Some (if b then begun (own_flow plan i) p else p)) ≡ (if b then begun_again (own_flow plan i) (option_map resolve_of p.mark) else option_map resolve_of p.mark)
    by true = begun_mark (own_flow plan i) p
    by false = refl
cleared_mark plan i a atom.Pending held p = refl
cleared_mark plan i a atom.Success held p = refl
cleared_mark plan i a atom.Failure held p = refl
cleared_mark plan i a atom.Reverting held p = refl
cleared_mark plan i a atom.Reverted held p = refl
cleared_mark plan i a atom.RevertFailure held p = refl
cleared_mark plan i a atom.Ignore held p = refl
cleared_mark plan i a atom.Retrying held p = refl

none_cleared : (plan : Outline) (i a : ℕ) (state : AtomState) (held : Payload) → None ≡ mark_after plan (what.Atom i state held) a None
unfolding mark_after
none_cleared plan i a atom.Running held = by (is_retry plan i)
  where
    by : (b : Bool) → None ≡ (if b then begun_again (own_flow plan i) None else None)
    by true = refl
    by false = refl
none_cleared plan i a atom.Pending held = refl
none_cleared plan i a atom.Success held = refl
none_cleared plan i a atom.Failure held = refl
none_cleared plan i a atom.Reverting held = refl
none_cleared plan i a atom.Reverted held = refl
none_cleared plan i a atom.RevertFailure held = refl
none_cleared plan i a atom.Ignore held = refl
none_cleared plan i a atom.Retrying held = refl

-- it changes marks alone
cleared_else : {Y : Type 0} (f : Place → Y) (plan : Outline) (i : ℕ) (state : AtomState) (p : Place) → f (marked None p) ≡ f p → f (cleared plan i state p) ≡ f p
cleared_else {Y = Y} f plan i state p same = by (is_running state && is_retry plan i) (is_marked_again (own_flow plan i) (option_map resolve_of p.mark))
  where
    by : (b c : Bool) → f (if b then (if c then marked None p else p) else p) ≡ f p
    by true true = same
    by true false = refl
    by false c = refl

hand_entered : (plan : Outline) (i a hand : ℕ) (state : AtomState) (held : Payload) (before given : Option ℕ) → given ≡ (if is_task plan i && is_at_work state then Some hand else None)
    → (if nat_eq i a then given else before) ≡ hand_after plan hand (what.Atom i state held) a before
hand_entered plan i a hand state held before given is = by (nat_eq i a) refl
  where
    by : (b : Bool) → nat_eq i a ≡ b → (if b then given else before) ≡ (if b then (if is_task plan a && is_at_work state then Some hand else None) else before)
    by true same = is ∙ ap (λ (k : ℕ). if is_task plan k && is_at_work state then Some hand else None) (Rattle.std.proofs.Common.eqb-true i a same)
    by false same = refl

pub entered_later : (plan : Outline) (s : Snapshot) (views : List AtomView) (mid new : List Place) (state_now : FlowState) (hand i : ℕ) (state : AtomState) (held : Payload) (given : Option ℕ)
    → given ≡ (if is_task plan i && is_at_work state then Some hand else None)
    → AreChanged (λ a. cleared plan i state) mid new
    → ((a : ℕ) → (shown_of views mid state_now).state a ≡ state_after (what.Atom i state held) a (s.state a))
    → ((a : ℕ) → (shown_of views mid state_now).payload a ≡ payload_after (what.Atom i state held) a (s.state a) (s.payload a))
    → ((a : ℕ) → (shown_of views mid state_now).hand a ≡ (if nat_eq i a then given else s.hand a))
    → ((a : ℕ) → (shown_of views mid state_now).mark a ≡ s.mark a)
    → ((a : ℕ) → (shown_of views mid state_now).attempts a ≡ attempts_after (what.Atom i state held) a (s.attempts a))
    → state_now ≡ s.flow
    → shown_of views new state_now ≡ later plan (record { hand = hand; what = what.Atom i state held }) s
unfolding later
entered_later plan s views mid new state_now hand i state held given is are states payloads hands marks attempts flows =
    same_snapshot (shown_of views new state_now) (later plan (record { hand = hand; what = what.Atom i state held }) s) states payloads
    (λ a. told_changed hand_in (λ b. cleared plan i state) (λ h. h) mid new a are refl (λ p. cleared_else (λ (q : Place). q.hand) plan i state p refl) ∙ (hands a ∙ hand_entered plan i a hand state held (s.hand a) given is))
    (λ a. told_changed mark_in (λ b. cleared plan i state) (mark_after plan (what.Atom i state held) a) mid new a are (none_cleared plan i a state held) (cleared_mark plan i a state held)
    ∙ ap (mark_after plan (what.Atom i state held) a) (marks a))
    (λ a. told_changed attempts_told (λ b. cleared plan i state) (λ n. n) mid new a are refl (λ p. cleared_else (λ (q : Place). q.attempts) plan i state p refl) ∙ attempts a)
    flows

-- ---- an atom is taken up again

pub taken_later : (plan : Outline) (s t : Snapshot) (hand i : ℕ)
    → ((a : ℕ) → t.state a ≡ s.state a) → ((a : ℕ) → t.payload a ≡ s.payload a) → ((a : ℕ) → t.hand a ≡ (if nat_eq i a then Some hand else s.hand a))
    → ((a : ℕ) → t.mark a ≡ s.mark a) → ((a : ℕ) → t.attempts a ≡ s.attempts a) → t.flow ≡ s.flow
    → t ≡ later plan (record { hand = hand; what = what.Restart i }) s
unfolding later mark_after
taken_later plan s t hand i states payloads hands marks attempts flows =
    same_snapshot t (later plan (record { hand = hand; what = what.Restart i }) s) states payloads hands marks attempts flows

-- ---- the flow enters a state

hand_turned : (plan : Outline) (hand a : ℕ) (state : FlowState) (p : Place) → hand_in (Some (turned state p)) ≡ hand_after plan hand (what.Flow state) a p.hand
hand_turned plan hand a flow.Pending p = refl
hand_turned plan hand a flow.Running p = refl
hand_turned plan hand a flow.Success p = refl
hand_turned plan hand a flow.Failure p = refl
hand_turned plan hand a flow.Reverted p = refl
hand_turned plan hand a flow.Suspending p = refl
hand_turned plan hand a flow.Suspended p = refl
hand_turned plan hand a flow.Resuming p = refl

none_turned : (plan : Outline) (hand a : ℕ) (state : FlowState) → None ≡ hand_after plan hand (what.Flow state) a None
none_turned plan hand a flow.Pending = refl
none_turned plan hand a flow.Running = refl
none_turned plan hand a flow.Success = refl
none_turned plan hand a flow.Failure = refl
none_turned plan hand a flow.Reverted = refl
none_turned plan hand a flow.Suspending = refl
none_turned plan hand a flow.Suspended = refl
none_turned plan hand a flow.Resuming = refl

mark_turned : (plan : Outline) (a : ℕ) (state : FlowState) (p : Place) → mark_in (Some (turned state p)) ≡ mark_after plan (what.Flow state) a (option_map resolve_of p.mark)
unfolding mark_after
mark_turned plan a flow.Pending p = refl
mark_turned plan a flow.Running p = refl
mark_turned plan a flow.Success p = refl
mark_turned plan a flow.Failure p = refl
mark_turned plan a flow.Reverted p = refl
mark_turned plan a flow.Suspending p = refl
mark_turned plan a flow.Suspended p = refl
mark_turned plan a flow.Resuming p = refl

unmarked_turned : (plan : Outline) (a : ℕ) (state : FlowState) → None ≡ mark_after plan (what.Flow state) a None
unfolding mark_after
unmarked_turned plan a flow.Pending = refl
unmarked_turned plan a flow.Running = refl
unmarked_turned plan a flow.Success = refl
unmarked_turned plan a flow.Failure = refl
unmarked_turned plan a flow.Reverted = refl
unmarked_turned plan a flow.Suspending = refl
unmarked_turned plan a flow.Suspended = refl
unmarked_turned plan a flow.Resuming = refl

attempts_turned : (state : FlowState) (p : Place) → (turned state p).attempts ≡ p.attempts
attempts_turned flow.Pending p = refl
attempts_turned flow.Running p = refl
attempts_turned flow.Success p = refl
attempts_turned flow.Failure p = refl
attempts_turned flow.Reverted p = refl
attempts_turned flow.Suspending p = refl
attempts_turned flow.Suspended p = refl
attempts_turned flow.Resuming p = refl

pub turned_later : (plan : Outline) (views : List AtomView) (old new : List Place) (before state : FlowState) (hand : ℕ) → AreChanged (λ a. turned state) old new
    → shown_of views new state ≡ later plan (record { hand = hand; what = what.Flow state }) (shown_of views old before)
unfolding later
turned_later plan views old new before state hand are =
    same_snapshot (shown_of views new state) (later plan (record { hand = hand; what = what.Flow state }) (shown_of views old before)) (λ a. refl) (λ a. refl)
    (λ a. told_changed hand_in (λ b. turned state) (hand_after plan hand (what.Flow state) a) old new a are (none_turned plan hand a state) (hand_turned plan hand a state))
    (λ a. told_changed mark_in (λ b. turned state) (mark_after plan (what.Flow state) a) old new a are (unmarked_turned plan a state) (mark_turned plan a state))
    (λ a. told_changed attempts_told (λ b. turned state) (λ n. n) old new a are refl (attempts_turned state))
    refl

-- ---- a failure is resolved

-- what the named flow holds is marked
resolved_mark : (plan : Outline) (old new : List Place) (mark : Mark) (a : ℕ) → length old ≡ count plan → AreChanged (changed plan (change.Resolve mark)) old new
    → mark_in (slice_get new a) ≡ mark_after plan (what.Resolve mark.flow mark.kind) a (mark_in (slice_get old a))
unfolding mark_after
resolved_mark plan old new mark a all are = ap mark_in (are.each a) ∙ by (slice_get old a) refl
  where
    told : (p : Place) (b : Bool) → mark_in (Some (if b then marked (Some mark) p else p)) ≡ (if b then Some (resolve_of mark) else option_map resolve_of p.mark)
    told p true = refl
    told p false = refl

    by : (o : Option Place) → slice_get old a ≡ o → mark_in (option_map (changed plan (change.Resolve mark) a) o) ≡ (if holds plan mark.flow a then Some (resolve_of mark) else mark_in o)
    by (Some p) at = told p (holds plan mark.flow a)
    by None at = elim (cases_lt a (count plan)) [
      | inl below ↦ let there = slice_get-get_or old a first_place (subst (λ (n : ℕ). a < n) (sym all) below) in absurd (cc)
      | inr past ↦ sym (ap (λ (b : Bool). if b then Some (resolve_of mark) else None) (never_held plan mark.flow a past))
    ]

resolved_else : {Y : Type 0} (f : Place → Y) (plan : Outline) (mark : Mark) (a : ℕ) (p : Place) → f (marked (Some mark) p) ≡ f p → f (changed plan (change.Resolve mark) a p) ≡ f p
resolved_else {Y = Y} f plan mark a p same = by (holds plan mark.flow a)
  where
    by : (b : Bool) → f (if b then marked (Some mark) p else p) ≡ f p
    by true = same
    by false = refl

pub resolved_later : (plan : Outline) (views : List AtomView) (old new : List Place) (state : FlowState) (hand : ℕ) (mark : Mark) → length old ≡ count plan → AreChanged (changed plan (change.Resolve mark)) old new
    → shown_of views new state ≡ later plan (record { hand = hand; what = what.Resolve mark.flow mark.kind }) (shown_of views old state)
unfolding later
resolved_later plan views old new state hand mark all are =
    same_snapshot (shown_of views new state) (later plan (record { hand = hand; what = what.Resolve mark.flow mark.kind }) (shown_of views old state)) (λ a. refl) (λ a. refl)
    (λ a. told_changed hand_in (changed plan (change.Resolve mark)) (λ h. h) old new a are refl (λ p. resolved_else (λ (q : Place). q.hand) plan mark a p refl))
    (λ a. resolved_mark plan old new mark a all are)
    (λ a. told_changed attempts_told (changed plan (change.Resolve mark)) (λ n. n) old new a are refl (λ p. resolved_else (λ (q : Place). q.attempts) plan mark a p refl))
    refl
