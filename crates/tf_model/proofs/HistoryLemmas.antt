-- What holds of every history, and of every legal one.
use Rattle.std.proofs.Common.{◌≡◌, ℕ, List, [], ◌∷◌, ◌++◌, Bool, true, false, ◌&&◌, Option, Some, refl, sym, ap, ◌∙◌, ◌⊎◌, inl, inr, eqb-true, append_assoc}
use Rattle.std.specs.Prelude.{if◌then◌else◌, nat_eq, reverse}
use Rattle.tf_states.specs.declared.record.Entry.{Entry}
use Rattle.tf_states.specs.declared.record.Payload.{Payload}
use Rattle.tf_states.specs.declared.record.What.{What}
use Rattle.tf_states.specs.declared.record.What.TheVariants as what
use Rattle.tf_states.specs.declared.state.AtomState.{AtomState}
use Rattle.tf_states.specs.declared.state.AtomState.TheVariants as atom
use Rattle.tf_states.specs.declared.state.FlowState.{FlowState}
use Rattle.tf_model.specs.Plan.{Outline, is_retry}
use Rattle.tf_model.specs.History.{Snapshot, later, state_after, payload_after, held_after, snapshot, state_of, payload_of, flow_of, is_pending, is_running, is_success}
use Rattle.tf_model.specs.Steps.{LegalPast, Session, already_ended, entered, halted, whole, entering}
use Rattle.tf_model.specs.Laws.{atom_may, is_allowed, enters_by, puts_back, success_payload, last_success}
use Rattle.tf_model.proofs.StepLemmas.{past_allowed}
use Rattle.tf_numbers.proofs.TruthLemmas.{and_first, and_second, true_first, true_second}

-- one entry more changes the snapshot as `later` says
pub one_more : (plan : Outline) (e : Entry) (past : List Entry) → snapshot plan (e ∷ past) ≡ later plan e (snapshot plan past)
unfolding snapshot later
one_more plan e past = refl

-- the beginning of a legal history is legal
pub legal_before : (plan : Outline) (newer past : List Entry) → LegalPast plan (newer ++ past) → LegalPast plan past
legal_before plan [] past legal = legal
legal_before plan (e ∷ newer) past legal = legal_before plan newer past legal.1

-- ---- the last result

success_held : (b : Bool) (state was : AtomState) (held before last : Payload) (c : AtomState) → (is_success c ≡ true → before ≡ last)
    → is_success (if b then state else c) ≡ true → (if b then held_after state held was before else before) ≡ (if b && is_success state then held else last)
success_held true atom.Success was held before last c each is = refl
success_held true state was held before last c each is = absurd (cc)
success_held false state was held before last c each is = each is

success_after : (w : What) (a : ℕ) (c : AtomState) (before last : Payload) → (is_success c ≡ true → before ≡ last)
    → is_success (state_after w a c) ≡ true → payload_after w a c before ≡ success_payload w a last
success_after (what.Atom number state held) a c before last each is = success_held (nat_eq number a) state c held before last c each is
success_after (what.Flow state) a c before last each is = each is
success_after (what.Resolve named resolved) a c before last each is = each is
success_after (what.Restart again) a c before last each is = each is

-- an atom that is SUCCESS has what its last SUCCESS entry carries
pub success_kept : (past : List Entry) (a : ℕ) → is_success (state_of past a) ≡ true → payload_of past a ≡ last_success past a
success_kept [] a is = absurd (cc)
success_kept (e ∷ past) a is = success_after e.what a (state_of past a) (payload_of past a) (last_success past a) (success_kept past a) is

-- ---- between two starts of a task

-- the event puts a back to PENDING, or a was PENDING before it too, where a is PENDING after it
pending_by : (b : Bool) (state c : AtomState) → is_pending (if b then state else c) ≡ true → (b && is_pending state ≡ true) ⊎ (is_pending c ≡ true)
pending_by true state c is = inl is
pending_by false state c is = inr is

pending_after : (w : What) (a : ℕ) (c : AtomState) → is_pending (state_after w a c) ≡ true → (enters_by is_pending a w ≡ true) ⊎ (is_pending c ≡ true)
pending_after (what.Atom number state held) a c is = pending_by (nat_eq number a) state c is
pending_after (what.Flow state) a c is = inr is
pending_after (what.Resolve named resolved) a c is = inr is
pending_after (what.Restart again) a c is = inr is

-- where a is PENDING, one of the newer entries put it back, or it was PENDING before them
pending_since : (newer past : List Entry) (a : ℕ) → is_pending (state_of (newer ++ past) a) ≡ true → (puts_back newer a ≡ true) ⊎ (is_pending (state_of past a) ≡ true)
pending_since [] past a is = inr is
pending_since (e ∷ newer) past a is = elim (pending_after e.what a (state_of (newer ++ past) a) is) [
  | inl now ↦ inl (true_first (enters_by is_pending a e.what) (puts_back newer a) now)
  | inr was ↦ elim (pending_since newer past a was) [
    | inl later ↦ inl (true_second (enters_by is_pending a e.what) (puts_back newer a) later)
    | inr before ↦ inr before
  ]
]

-- an event that starts a: after it a is RUNNING
started : (w : What) (a : ℕ) (c : AtomState) → enters_by is_running a w ≡ true → is_pending (state_after w a c) ≡ false
started (what.Atom number state held) a c is = runs (nat_eq number a) state is
  where
    runs : (b : Bool) (x : AtomState) → b && is_running x ≡ true → is_pending (if b then x else c) ≡ false
    runs true atom.Running is = refl
    runs true x is = absurd (cc)
    runs false x is = absurd (cc)
started (what.Flow state) a c is = absurd (cc)
started (what.Resolve named resolved) a c is = absurd (cc)
started (what.Restart again) a c is = absurd (cc)

-- a task that may go to RUNNING is PENDING
task_starts : (plan : Outline) (s : Snapshot) (w : What) (a : ℕ) → is_retry plan a ≡ false → enters_by is_running a w ≡ true → is_allowed plan s w ≡ true → is_pending (s.state a) ≡ true
task_starts plan s (what.Atom number state held) a is starts may =
    let same : number ≡ a = eqb-true number a (and_first (nat_eq number a) (is_running state) starts) in
    begins (is_retry plan number) (s.state a) state (ap (is_retry plan) same ∙ is) (and_second (nat_eq number a) (is_running state) starts)
    (ap (λ (n : ℕ). atom_may (is_retry plan number) (s.state n) state) (sym same) ∙ may)
  where
    begins : (b : Bool) (x y : AtomState) → b ≡ false → is_running y ≡ true → atom_may b x y ≡ true → is_pending x ≡ true
    begins true x y which runs may = absurd (cc)
    begins false atom.Pending y which runs may = refl
    begins false x atom.Running which runs may = absurd (cc)
    begins false x y which runs may = absurd (cc)
task_starts plan s (what.Flow state) a is starts may = absurd (cc)
task_starts plan s (what.Resolve named resolved) a is starts may = absurd (cc)
task_starts plan s (what.Restart again) a is starts may = absurd (cc)

-- between two RUNNING entries of one task stands a PENDING entry of it
pub put_back_between : (plan : Outline) (second first : Entry) (newer past : List Entry) (a : ℕ) → is_retry plan a ≡ false → LegalPast plan (second ∷ (newer ++ (first ∷ past)))
    → enters_by is_running a second.what ≡ true → enters_by is_running a first.what ≡ true → puts_back newer a ≡ true
unfolding snapshot
put_back_between plan second first newer past a is legal starts begun =
    let was : is_pending (state_of (newer ++ (first ∷ past)) a) ≡ true = task_starts plan (snapshot plan (newer ++ (first ∷ past))) second.what a is starts (past_allowed plan (second ∷ (newer ++ (first ∷ past))) legal).0 in
    elim (pending_since newer (first ∷ past) a was) [
      | inl between ↦ between
      | inr before ↦ let no : is_pending (state_of (first ∷ past) a) ≡ false = started first.what a (state_of past a) begun in absurd (cc)
    ]

-- ---- sessions

-- a run that stopped in a state has left the flow in it, and what it recorded is legal after what stood before
pub session_legal : (plan : Outline) (before entries : List Entry) (last : Option FlowState) → Session plan before entries last → LegalPast plan (entries ++ before)
session_legal plan before entries last (already_ended is legal) = legal
session_legal plan before entries last (entered some others is legal) = legal
session_legal plan before entries last (halted inner not_ended all legal) = rw (append_assoc inner (reverse (entering (flow_of before))) before) legal
session_legal plan before entries last (whole hand f inner is all not_ended legal) = rw (append_assoc inner (reverse (entering (flow_of before))) before) legal

-- and the flow is in that state
pub session_state : (plan : Outline) (before entries : List Entry) (last : FlowState) → Session plan before entries (Some last) → flow_of (entries ++ before) ≡ last
session_state plan before entries last session = stops plan before entries (Some last) last session refl
  where
    stops : (plan : Outline) (before entries : List Entry) (o : Option FlowState) (last : FlowState) → Session plan before entries o → o ≡ Some last → flow_of (entries ++ before) ≡ last
    stops plan before entries o last (already_ended is legal) same = let this : flow_of before ≡ last = cc in this
    stops plan before entries o last (entered some others is legal) same = absurd (cc)
    stops plan before entries o last (halted inner not_ended all legal) same = absurd (cc)
    stops plan before entries o last (whole hand f inner is all not_ended legal) same = let this : f ≡ last = cc in this
