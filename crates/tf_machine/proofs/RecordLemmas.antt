-- The tables after a step show one entry more.
use Rattle.std.proofs.Common.{◌≡◌, ℕ, List, ◌++◌, length, take, drop, Option, Some, sym, ap, ◌∙◌, arith}
use Rattle.std.specs.Prelude.{if◌then◌else◌, nat_eq, ◌&&◌, None}
use Rattle.tf_states.specs.declared.record.AtomView.{AtomView}
use Rattle.tf_states.specs.declared.record.Entry.{Entry}
use Rattle.tf_states.specs.declared.record.Payload.{Payload}
use Rattle.tf_states.specs.declared.record.What.{What}
use Rattle.tf_states.specs.declared.record.What.TheVariants as what
use Rattle.tf_states.specs.declared.state.AtomState.{AtomState}
use Rattle.tf_states.specs.declared.state.FlowState.{FlowState}
use Rattle.tf_machine.specs.declared.tables.Change.TheVariants as change
use Rattle.tf_machine.specs.declared.tables.Mark.{Mark}
use Rattle.tf_machine.specs.declared.tables.Place.{Place}
use Rattle.tf_model.specs.Plan.{Outline, count, is_task}
use Rattle.tf_model.specs.History.{Snapshot, later, is_at_work, state_after, payload_after, attempts_after}
use Rattle.tf_numbers.proofs.ListLemmas.{nothing_after, drop_whole, take_whole}
use Rattle.tf_machine.specs.Tables.{shown_of}
use Rattle.tf_machine.specs.Changes.{AreChanged, changed, cleared, turned}
use Rattle.tf_machine.proofs.LaterLemmas.{entered_later, taken_later, turned_later, resolved_later}

-- what is written back into a table of as many
pub written_back : {X : Type 0} (n : ℕ) (old new : List X) → length old ≡ n → length new ≡ length old → take n (new ++ drop (length new) old) ≡ new
written_back {X} n old new whole as_many =
    ap (λ (rest : List X). take n (new ++ rest)) (drop_whole old (length new) (omega (arith, as_many)))
    ∙ (ap (take n) (nothing_after new) ∙ take_whole new n (omega (arith, whole, as_many)))

-- an entry by what it records
by_event : (plan : Outline) (s : Snapshot) (e : Entry) (w : What) → e.what ≡ w → later plan (record { hand = e.hand; what = w }) s ≡ later plan e s
by_event plan s e w is = ap (λ (v : What). later plan (record { hand = e.hand; what = v }) s) (sym is)

pub entered_recorded : (plan : Outline) (s : Snapshot) (views : List AtomView) (mid new : List Place) (flow_now : FlowState) (e : Entry) (i : ℕ) (state : AtomState) (held : Payload) (given : Option ℕ)
    → e.what ≡ what.Atom i state held → given ≡ (if is_task plan i && is_at_work state then Some e.hand else None)
    → AreChanged (λ a. cleared plan i state) mid new
    → ((a : ℕ) → (shown_of views mid flow_now).state a ≡ state_after (what.Atom i state held) a (s.state a))
    → ((a : ℕ) → (shown_of views mid flow_now).payload a ≡ payload_after (what.Atom i state held) a (s.state a) (s.payload a))
    → ((a : ℕ) → (shown_of views mid flow_now).hand a ≡ (if nat_eq i a then given else s.hand a))
    → ((a : ℕ) → (shown_of views mid flow_now).mark a ≡ s.mark a)
    → ((a : ℕ) → (shown_of views mid flow_now).attempts a ≡ attempts_after (what.Atom i state held) a (s.attempts a))
    → flow_now ≡ s.flow → shown_of views new flow_now ≡ later plan e s
entered_recorded plan s views mid new flow_now e i state held given event is are states payloads hands marks attempts flows =
    entered_later plan s views mid new flow_now e.hand i state held given is are states payloads hands marks attempts flows ∙ by_event plan s e (what.Atom i state held) event

pub taken_recorded : (plan : Outline) (s t : Snapshot) (e : Entry) (i : ℕ) → e.what ≡ what.Restart i
    → ((a : ℕ) → t.state a ≡ s.state a) → ((a : ℕ) → t.payload a ≡ s.payload a) → ((a : ℕ) → t.hand a ≡ (if nat_eq i a then Some e.hand else s.hand a))
    → ((a : ℕ) → t.mark a ≡ s.mark a) → ((a : ℕ) → t.attempts a ≡ s.attempts a) → t.flow ≡ s.flow → t ≡ later plan e s
taken_recorded plan s t e i event states payloads hands marks attempts flows =
    taken_later plan s t e.hand i states payloads hands marks attempts flows ∙ by_event plan s e (what.Restart i) event

pub turned_recorded : (plan : Outline) (views : List AtomView) (old new : List Place) (before state : FlowState) (e : Entry) → e.what ≡ what.Flow state → AreChanged (λ a. turned state) old new
    → shown_of views new state ≡ later plan e (shown_of views old before)
turned_recorded plan views old new before state e event are = turned_later plan views old new before state e.hand are ∙ by_event plan (shown_of views old before) e (what.Flow state) event

pub resolved_recorded : (plan : Outline) (views : List AtomView) (old new : List Place) (state : FlowState) (e : Entry) (mark : Mark) → length old ≡ count plan → e.what ≡ what.Resolve mark.flow mark.kind
    → AreChanged (changed plan (change.Resolve mark)) old new → shown_of views new state ≡ later plan e (shown_of views old state)
resolved_recorded plan views old new state e mark all event are =
    resolved_later plan views old new state e.hand mark all are ∙ by_event plan (shown_of views old state) e (what.Resolve mark.flow mark.kind) event
