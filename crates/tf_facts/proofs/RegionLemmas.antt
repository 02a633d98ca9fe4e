-- Which changes of marks and of the flow keep what every moment has.
use Rattle.std.proofs.Common.{◌≡◌, ◌≢◌, ℕ, ◌<◌, Bool, true, false, Option, Some, None, refl, sym, ap, ◌∙◌, ◌⊎◌, inl, inr, subst}
use Rattle.std.specs.Prelude.{if◌then◌else◌, is_none}
use Rattle.tf_states.specs.declared.record.Payload.{Payload}
use Rattle.tf_states.specs.declared.record.What.TheVariants as what
use Rattle.tf_states.specs.declared.state.AtomState.{AtomState}
use Rattle.tf_states.specs.declared.state.AtomState.TheVariants as atom
use Rattle.tf_states.specs.declared.state.FlowState.{FlowState}
use Rattle.tf_states.specs.declared.state.FlowState.TheVariants as flow
use Rattle.tf_model.specs.Plan.{Outline, count, holds, is_retry, own_flow}
use Rattle.tf_model.specs.History.{Resolve, Snapshot, later, state_after, mark_after, begun_again, is_again, is_retry_of, is_done, is_settled, is_put_back, is_retrying, flow_is_reverted}
use Rattle.tf_numbers.proofs.TruthLemmas.{and_second, clash, either_way}
use Rattle.tf_facts.specs.Facts.{is_open, is_undoing}
use Rattle.tf_facts.proofs.LayoutLemmas.{IsLaidOut, before_below}
use Rattle.tf_numbers.proofs.NumberLemmas.{same_or_other}
use Rattle.tf_facts.proofs.CoreLemmas.{Core, AtRest, Turned, kept, marked_where, one_mark, not_none, alone_retrying}
use Rattle.tf_facts.proofs.ChangeLemmas.{retrying_runs}
use Rattle.tf_facts.proofs.MoveLemmas.{after, Keeps, entered_here, stays_there}
use Rattle.tf_numbers.proofs.OptionLemmas.{is_this_number}

-- ---- neither states nor marks change

pub still_kept : (plan : Outline) (s t : Snapshot) → Core plan s → ((b : ℕ) → t.state b ≡ s.state b) → ((b : ℕ) → t.mark b ≡ s.mark b)
    → (flow_is_reverted t.flow ≡ false → flow_is_reverted s.flow ≡ false)
    → (flow_is_reverted t.flow ≡ true → AtRest plan s) → Core plan t
still_kept plan s t core states marks flows rest = record {
  order = λ a b before unsettled. ap is_done (states a) ∙ core.order a b before (ap is_settled (sym (states b)) ∙ unsettled);
  whole = λ c m is. let old = core.whole c m (sym (marks c) ∙ is) in (old.0, λ b held. marks b ∙ old.1 b held);
  opens = λ c m is. let o = core.opens c m (sym (marks c) ∙ is) in record { number = o.number; inside = o.inside; opened = ap is_open (states o.number) ∙ o.opened };
  before = λ going c m is y x inside outside before. ap is_done (states x) ∙ core.before (flows going) c m (sym (marks c) ∙ is) y x inside outside before;
  undone = λ c below undoing. ap is_none (marks c) ∙ core.undone c below (ap is_undoing (sym (states c)) ∙ undoing);
  controllers = λ c retrying. core.controllers c (ap is_retrying (sym (states c)) ∙ retrying);
  rest = λ reverted. let old = rest reverted in record {
    number = old.number;
    marked = ap is_none (marks old.number) ∙ old.marked;
    settled = λ b marked. ap is_settled (states b) ∙ old.settled b (ap is_none (sym (marks b)) ∙ marked);
  };
}

-- ---- a flow is resolved

-- the marks of a flow become those of its resolve, and nothing else changes
pub record Resolved (plan : Outline) (s t : Snapshot) (m : Resolve) : Type 0 where
  pub states : (b : ℕ) → t.state b ≡ s.state b
  pub inside : (b : ℕ) → holds plan m.flow b ≡ true → t.mark b ≡ Some m
  pub outside : (b : ℕ) → holds plan m.flow b ≡ false → t.mark b ≡ s.mark b
  pub flow : t.flow ≡ s.flow

-- a mark that was there before, and stays in all of its flow
record Older (plan : Outline) (s : Snapshot) (m n : Resolve) (c : ℕ) : Type 0 where
  was : s.mark c ≡ Some n
  apart : (b : ℕ) → holds plan n.flow b ≡ true → holds plan m.flow b ≡ false

older : (plan : Outline) (s : Snapshot) → IsLaidOut plan → Core plan s → (a : ℕ) (m n : Resolve) (c : ℕ) → s.mark a ≡ None → holds plan m.flow a ≡ true → holds plan m.flow c ≡ false
    → s.mark c ≡ Some n → Older plan s m n c
older plan s layout core a m n c unmarked held outside was = record {
  was = was;
  apart = λ b inside. elim (either_way (holds plan m.flow b)) [
    | inr out ↦ out
    | inl both ↦ elim (layout.nested m.flow n.flow b both inside) [
      | inl within ↦ absurd (clash (holds plan m.flow c) (within c (core.whole c n was).0) outside)
      | inr around ↦ absurd (not_none s a n ((core.whole c n was).1 a (around a held)) unmarked)
    ]
  ];
}

new_or_older : (plan : Outline) (s t : Snapshot) → IsLaidOut plan → Core plan s → (a : ℕ) (m n : Resolve) (c : ℕ) → s.mark a ≡ None → holds plan m.flow a ≡ true → Resolved plan s t m
    → t.mark c ≡ Some n → (m ≡ n) ⊎ Older plan s m n c
new_or_older plan s t layout core a m n c unmarked held change is = elim (either_way (holds plan m.flow c)) [
  | inl inside ↦ inl (one_mark t c m n (change.inside c inside) is)
  | inr outside ↦ inr (older plan s layout core a m n c unmarked held outside (sym (change.outside c outside) ∙ is))
]

pub resolved_kept : (plan : Outline) (s t : Snapshot) → IsLaidOut plan → Core plan s → flow_is_reverted s.flow ≡ false → (a : ℕ) (m : Resolve) → s.state a ≡ atom.Failure → s.mark a ≡ None → holds plan m.flow a ≡ true
    → Resolved plan s t m → Core plan t
resolved_kept plan s t layout core went a m failed unmarked held change = record {
  order = λ p q before unsettled. ap is_done (change.states p) ∙ core.order p q before (ap is_settled (sym (change.states q)) ∙ unsettled);
  whole = λ c n is. elim (new_or_older plan s t layout core a m n c unmarked held change is) [
    | inl same ↦ subst (λ (k : Resolve). (holds plan k.flow c ≡ true) × ((b : ℕ) → holds plan k.flow b ≡ true → t.mark b ≡ Some k)) same (
      elim (either_way (holds plan m.flow c)) [
        | inl inside ↦ inside
        | inr outside ↦ ap (λ (k : Resolve). holds plan k.flow c) same ∙ (core.whole c n (sym (change.outside c outside) ∙ is)).0
      ],
      change.inside,
    )
    | inr old ↦ ((core.whole c n old.was).0, λ b inside. change.outside b (old.apart b inside) ∙ (core.whole c n old.was).1 b inside)
  ];
  opens = λ c n is. elim (new_or_older plan s t layout core a m n c unmarked held change is) [
    | inl same ↦ record { number = a; inside = ap (λ (k : Resolve). holds plan k.flow a) (sym same) ∙ held; opened = ap is_open (change.states a ∙ failed) }
    | inr old ↦ let o = core.opens c n old.was in record { number = o.number; inside = o.inside; opened = ap is_open (change.states o.number) ∙ o.opened }
  ];
  before = λ going c n is y x inside outside before. ap is_done (change.states x) ∙ elim (new_or_older plan s t layout core a m n c unmarked held change is) [
    | inl same ↦
        let y_in : holds plan m.flow y ≡ true = ap (λ (k : Resolve). holds plan k.flow y) same ∙ inside in
        let x_out : holds plan m.flow x ≡ false = ap (λ (k : Resolve). holds plan k.flow x) same ∙ outside in
        core.order x a ((layout.alike m.flow a y x held y_in x_out).0 ∙ before) (ap is_settled failed)
    | inr old ↦ core.before (ap flow_is_reverted (sym change.flow) ∙ going) c n old.was y x inside outside before
  ];
  undone = λ c below undoing. elim (either_way (holds plan m.flow c)) [
    | inl inside ↦ ap is_none (change.inside c inside)
    | inr outside ↦ ap is_none (change.outside c outside) ∙ core.undone c below (ap is_undoing (sym (change.states c)) ∙ undoing)
  ];
  controllers = λ c retrying. core.controllers c (ap is_retrying (sym (change.states c)) ∙ retrying);
  rest = λ reverted. absurd (clash (flow_is_reverted s.flow) (ap flow_is_reverted (sym change.flow) ∙ reverted) went);
}

marked_in : (plan : Outline) (m : Resolve) (held : Bool) (was : Option Resolve) → held ≡ true → (if held then Some m else was) ≡ Some m
marked_in plan m true was is = refl
marked_in plan m false was is = absurd (cc)

marked_out : (plan : Outline) (m : Resolve) (held : Bool) (was : Option Resolve) → held ≡ false → (if held then Some m else was) ≡ was
marked_out plan m true was is = absurd (cc)
marked_out plan m false was is = refl

resolves : (plan : Outline) (s : Snapshot) (hand : ℕ) (m : Resolve) → Resolved plan s (after plan hand (what.Resolve m.flow m.kind) s) m
unfolding later mark_after
resolves plan s hand m = record {
  states = λ b. refl;
  inside = λ b held. marked_in plan m (holds plan m.flow b) (s.mark b) held;
  outside = λ b out. marked_out plan m (holds plan m.flow b) (s.mark b) out;
  flow = refl;
}

pub resolve_kept : (plan : Outline) (s : Snapshot) → IsLaidOut plan → flow_is_reverted s.flow ≡ false → (a : ℕ) (m : Resolve) → s.state a ≡ atom.Failure → s.mark a ≡ None → holds plan m.flow a ≡ true
    → Keeps plan s (what.Resolve m.flow m.kind)
resolve_kept plan s layout going a m failed unmarked held hand core =
    resolved_kept plan s (after plan hand (what.Resolve m.flow m.kind) s) layout core going a m failed unmarked held (resolves plan s hand m)

-- ---- a retry controller begins another attempt

begun_some : (own : Option ℕ) (o : Option Resolve) (n : Resolve) → begun_again own o ≡ Some n → (o ≡ Some n) × (is_retry_of own n ≡ false)
begun_some own None n is = absurd (cc)
begun_some own (Some m) n is = by (is_retry_of own m) refl is
  where
    by : (c : Bool) → is_retry_of own m ≡ c → (if c then None else Some m) ≡ Some n → (Some m ≡ Some n) × (is_retry_of own n ≡ false)
    by true which is = absurd (cc)
    by false which is = let same : m ≡ n = cc in (is, ap (is_retry_of own) (sym same) ∙ which)

begun_stays : (own : Option ℕ) (o : Option Resolve) (n : Resolve) → o ≡ Some n → is_retry_of own n ≡ false → begun_again own o ≡ Some n
begun_stays own o n is other = ap (begun_again own) is ∙ rw other refl

-- the marks of a flow's resolve to run again go, and nothing else changes
pub record Cleared (plan : Outline) (s t : Snapshot) (own : Option ℕ) : Type 0 where
  pub states : (b : ℕ) → t.state b ≡ s.state b
  pub marks : (b : ℕ) → t.mark b ≡ begun_again own (s.mark b)
  pub flow : t.flow ≡ s.flow

pub cleared_kept : (plan : Outline) (s t : Snapshot) → Core plan s → flow_is_reverted s.flow ≡ false → (own : Option ℕ) (g : ℕ) → own ≡ Some g → ((b : ℕ) → holds plan g b ≡ true → is_undoing (s.state b) ≡ false)
    → Cleared plan s t own → Core plan t
cleared_kept plan s t core went own g home none_undoing change = record {
  order = λ p q before unsettled. ap is_done (change.states p) ∙ core.order p q before (ap is_settled (sym (change.states q)) ∙ unsettled);
  whole = λ c n is.
      let old = begun_some own (s.mark c) n (sym (change.marks c) ∙ is) in
      ((core.whole c n old.0).0, λ b held. change.marks b ∙ begun_stays own (s.mark b) n ((core.whole c n old.0).1 b held) old.1);
  opens = λ c n is.
      let o = core.opens c n (begun_some own (s.mark c) n (sym (change.marks c) ∙ is)).0 in
      record { number = o.number; inside = o.inside; opened = ap is_open (change.states o.number) ∙ o.opened };
  before = λ going c n is y x inside outside before.
      ap is_done (change.states x)
      ∙ core.before (ap flow_is_reverted (sym change.flow) ∙ going) c n (begun_some own (s.mark c) n (sym (change.marks c) ∙ is)).0 y x inside outside before;
  undone = λ c below undoing.
      let was : is_undoing (s.state c) ≡ true = ap is_undoing (sym (change.states c)) ∙ undoing in
      let mark = marked_where s c (core.undone c below was) in
      elim (either_way (is_retry_of own mark.resolve)) [
        | inr stays ↦ ap is_none (change.marks c ∙ begun_stays own (s.mark c) mark.resolve mark.is stays)
        | inl goes ↦
            let flow : Some mark.resolve.flow ≡ Some g = sym (is_this_number own mark.resolve.flow (and_second (is_again mark.resolve.kind) _ goes)) ∙ home in
            let same : mark.resolve.flow ≡ g = cc in
            absurd (clash (is_undoing (s.state c)) was (none_undoing c (ap (λ (h : ℕ). holds plan h c) (sym same) ∙ (core.whole c mark.resolve mark.is).0)))
      ];
  controllers = λ c retrying. core.controllers c (ap is_retrying (sym (change.states c)) ∙ retrying);
  rest = λ reverted. absurd (clash (flow_is_reverted s.flow) (ap flow_is_reverted (sym change.flow) ∙ reverted) went);
}

not_undoing : (x : AtomState) → is_settled x ≡ true → is_put_back x ≡ false → is_undoing x ≡ false
not_undoing atom.Pending settled back = refl
not_undoing x settled back = absurd (cc)

run_clears : (plan : Outline) (r b : ℕ) (held : Payload) (m : Option Resolve) → is_retry plan r ≡ true → mark_after plan (what.Atom r atom.Running held) b m ≡ begun_again (own_flow plan r) m
unfolding mark_after
run_clears plan r b held m controller = by (is_retry plan r) controller
  where
    by : (c : Bool) → c ≡ true → (if c then begun_again (own_flow plan r) m else m) ≡ begun_again (own_flow plan r) m
    by true is = refl
    by false is = absurd (cc)

-- the snapshot with other states
abbrev with_states : Snapshot → (ℕ → AtomState) → Snapshot
with_states s states = record { state = states; payload = s.payload; hand = s.hand; mark = s.mark; attempts = s.attempts; flow = s.flow }

pub anew_kept : (plan : Outline) (s : Snapshot) → IsLaidOut plan → flow_is_reverted s.flow ≡ false → (r g : ℕ) (held : Payload) → is_retry plan r ≡ true → s.state r ≡ atom.Retrying → own_flow plan r ≡ Some g
    → ((b : ℕ) → holds plan g b ≡ true → b ≢ r → is_put_back (s.state b) ≡ false) → Keeps plan s (what.Atom r atom.Running held)
unfolding later
anew_kept plan s layout going r g held controller retrying own none_back hand core =
    let middle : Snapshot = with_states s (λ b. state_after (what.Atom r atom.Running held) b (s.state b)) in
    let turn : Turned s middle r atom.Retrying atom.Running = record {
      was = retrying;
      is = entered_here r atom.Running (s.state r);
      others = λ b other. stays_there r b atom.Running (s.state b) other;
      marks = λ b. refl;
      flow = refl;
    } in
    cleared_kept plan middle (after plan hand (what.Atom r atom.Running held) s) (kept plan s middle r atom.Retrying atom.Running core turn (retrying_runs plan s going r)) going (own_flow plan r) g own
    (λ b inside. elim (same_or_other b r) [
      | inl here ↦ ap is_undoing (ap middle.state here ∙ turn.is)
      | inr beside ↦ ap is_undoing (turn.others b beside) ∙ not_undoing (s.state b)
          (alone_retrying plan s layout core r g b (ap is_retrying retrying) own inside (λ same. beside (sym same))) (none_back b inside beside)
    ])
    (record { states = λ b. refl; marks = λ b. run_clears plan r b held (s.mark b) controller; flow = refl })

-- ---- the flow turns

abbrev rests : FlowState → Bool
rests flow.Pending = true
rests f = false

flow_marks : (plan : Outline) (b : ℕ) (f : FlowState) (m : Option Resolve) → rests f ≡ false → mark_after plan (what.Flow f) b m ≡ m
unfolding mark_after
flow_marks plan b flow.Pending m is = absurd (cc)
flow_marks plan b flow.Running m is = refl
flow_marks plan b flow.Suspending m is = refl
flow_marks plan b flow.Suspended m is = refl
flow_marks plan b flow.Resuming m is = refl
flow_marks plan b flow.Success m is = refl
flow_marks plan b flow.Failure m is = refl
flow_marks plan b flow.Reverted m is = refl

-- to another state than PENDING, from another than REVERTED
pub turn_kept : (plan : Outline) (s : Snapshot) (f : FlowState) → rests f ≡ false → flow_is_reverted s.flow ≡ false → (Core plan s → flow_is_reverted f ≡ true → AtRest plan s) → Keeps plan s (what.Flow f)
unfolding later
turn_kept plan s f isnt going rest hand core =
    still_kept plan s (after plan hand (what.Flow f) s) core (λ b. refl) (λ b. flow_marks plan b f (s.mark b) isnt) (λ now. going) (rest core)

-- a task is taken up again
pub restart_kept : (plan : Outline) (s : Snapshot) (a : ℕ) → Keeps plan s (what.Restart a)
unfolding later mark_after
restart_kept plan s a hand core = still_kept plan s (after plan hand (what.Restart a) s) core (λ b. refl) (λ b. refl) (λ now. now) core.rest

-- the flow is put back, where all is PENDING
pub rest_kept : (plan : Outline) (s : Snapshot) → ((a : ℕ) → a < count plan → s.state a ≡ atom.Pending) → Keeps plan s (what.Flow flow.Pending)
unfolding later mark_after
rest_kept plan s pending hand core = record {
  order = λ a b before unsettled. absurd (clash (is_settled (s.state b)) (ap is_settled (pending b (before_below plan a b before))) unsettled);
  whole = λ c m is. absurd (cc);
  opens = λ c m is. absurd (cc);
  before = λ going c m is. absurd (cc);
  undone = λ c below undoing. absurd (clash (is_undoing (s.state c)) undoing (ap is_undoing (pending c below)));
  controllers = core.controllers;
  rest = λ reverted. absurd (cc);
}
