-- Which changes of one atom are allowed.
use Rattle.std.proofs.Common.{◌≡◌, ◌≢◌, ℕ, ◌<◌, true, false, Some, None, refl, sym, ap, ◌∙◌, inl, inr}
use Rattle.std.specs.Prelude.{is_none}
use Rattle.tf_states.specs.declared.state.AtomState.{AtomState}
use Rattle.tf_states.specs.declared.state.AtomState.TheVariants as atom
use Rattle.tf_model.specs.Plan.{Outline, count, is_before, holds, is_retry, own_flow}
use Rattle.tf_model.specs.History.{Resolve, Snapshot, is_done, is_settled, is_executed, is_put_back, flow_is_reverted}
use Rattle.tf_model.proofs.BeforeLemmas.{never_before_itself, before_chain}
use Rattle.tf_facts.proofs.LayoutLemmas.{IsLaidOut, own_holds}
use Rattle.tf_numbers.proofs.TruthLemmas.{clash, either_way}
use Rattle.tf_numbers.proofs.NumberLemmas.{same_or_other}
use Rattle.tf_facts.proofs.CoreLemmas.{Core, Allows, marked_or_not, marked_where, not_none, regions_unordered, after_region, settled_after}

-- a task or a retry controller at work ends
pub runs_to_success : (plan : Outline) (s : Snapshot) → flow_is_reverted s.flow ≡ false → (a : ℕ) → Allows plan s a atom.Running atom.Success
runs_to_success plan s going a = record {
  earlier = λ to from. absurd (cc);
  later = λ to from. absurd (cc);
  closed = λ to from. absurd (cc);
  apart = λ same to from. absurd (cc);
  marked = λ below to. absurd (cc);
  controller = λ to. absurd (cc);
  resting = λ reverted. absurd (clash (flow_is_reverted s.flow) reverted going);
}

pub runs_to_failure : (plan : Outline) (s : Snapshot) → flow_is_reverted s.flow ≡ false → (a : ℕ) → Allows plan s a atom.Running atom.Failure
runs_to_failure plan s going a = record {
  earlier = λ to from. absurd (cc);
  later = λ to from. absurd (cc);
  closed = λ to from. absurd (cc);
  apart = λ same to from. absurd (cc);
  marked = λ below to. absurd (cc);
  controller = λ to. absurd (cc);
  resting = λ reverted. absurd (clash (flow_is_reverted s.flow) reverted going);
}

-- what is being reverted ends; it was marked
pub reverts_to_reverted : (plan : Outline) (s : Snapshot) (a : ℕ) → (a < count plan → is_none (s.mark a) ≡ false) → Allows plan s a atom.Reverting atom.Reverted
reverts_to_reverted plan s a marked = record {
  earlier = λ to from. absurd (cc);
  later = λ to from. absurd (cc);
  closed = λ to from. absurd (cc);
  apart = λ going to from. absurd (cc);
  marked = λ below to. marked below;
  controller = λ to. absurd (cc);
  resting = λ reverted. refl;
}

pub reverts_to_failure : (plan : Outline) (s : Snapshot) → flow_is_reverted s.flow ≡ false → (a : ℕ) → (a < count plan → is_none (s.mark a) ≡ false) → Allows plan s a atom.Reverting atom.RevertFailure
reverts_to_failure plan s going a marked = record {
  earlier = λ to from. absurd (cc);
  later = λ to from. absurd (cc);
  closed = λ to from. absurd (cc);
  apart = λ same to from. absurd (cc);
  marked = λ below to. marked below;
  controller = λ to. absurd (cc);
  resting = λ reverted. absurd (clash (flow_is_reverted s.flow) reverted going);
}

-- an unmarked atom runs where all before it is done
pub may_run : (plan : Outline) (s : Snapshot) → flow_is_reverted s.flow ≡ false → (a : ℕ) → s.mark a ≡ None → ((x : ℕ) → is_before plan x a ≡ true → is_done (s.state x) ≡ true)
    → Allows plan s a atom.Pending atom.Running
may_run plan s going a unmarked done = record {
  earlier = λ to from. done;
  later = λ to from. absurd (cc);
  closed = λ to from. unmarked;
  apart = λ same to from. absurd (cc);
  marked = λ below to. absurd (cc);
  controller = λ to. absurd (cc);
  resting = λ reverted. absurd (clash (flow_is_reverted s.flow) reverted going);
}

-- what isn't marked may be ignored
pub may_ignore : (plan : Outline) (s : Snapshot) (a : ℕ) → s.mark a ≡ None → Allows plan s a atom.Pending atom.Ignore
may_ignore plan s a unmarked = record {
  earlier = λ to from. absurd (cc);
  later = λ to from. absurd (cc);
  closed = λ to from. unmarked;
  apart = λ going to from. absurd (cc);
  marked = λ below to. absurd (cc);
  controller = λ to. absurd (cc);
  resting = λ reverted. refl;
}

-- what is after an unmarked PENDING atom isn't marked either
pub unmarked_after : (plan : Outline) (s : Snapshot) → IsLaidOut plan → Core plan s → flow_is_reverted s.flow ≡ false → (v b : ℕ) → s.state v ≡ atom.Pending → s.mark v ≡ None
    → is_before plan v b ≡ true → s.mark b ≡ None
unmarked_after plan s layout core going v b pending unmarked before = elim (marked_or_not s b) [
  | inr none ↦ none
  | inl mark ↦
      let outside : holds plan mark.resolve.flow v ≡ false = elim (either_way (holds plan mark.resolve.flow v)) [
        | inr out ↦ out
        | inl held ↦ absurd (not_none s v mark.resolve ((core.whole b mark.resolve mark.is).1 v held) unmarked)
      ] in
      absurd (clash (is_done (s.state v)) (core.before going b mark.resolve mark.is b v (core.whole b mark.resolve mark.is).0 outside before) (ap is_done pending))
]

executed_unsettled : (x : AtomState) → is_executed x ≡ true → is_settled x ≡ false
executed_unsettled atom.Success is = refl
executed_unsettled atom.Failure is = refl
executed_unsettled x is = absurd (cc)

-- a marked atom is reverted where all after it is settled
pub may_revert : (plan : Outline) (s : Snapshot) → IsLaidOut plan → Core plan s → flow_is_reverted s.flow ≡ false → (a : ℕ) (from : AtomState) → is_executed from ≡ true → is_none (s.mark a) ≡ false
    → ((x : ℕ) → is_before plan a x ≡ true → is_settled (s.state x) ≡ true) → Allows plan s a from atom.Reverting
may_revert plan s layout core going a from executed marked settled =
    let mark = marked_where s a marked in
    record {
      earlier = λ to was. absurd (clash (is_settled from) was (executed_unsettled from executed));
      later = λ to was. settled;
      closed = λ to was. absurd (cc);
      apart = λ same to was. regions_unordered plan s layout core going a mark.resolve mark.is;
      marked = λ below to. marked;
      controller = λ to. absurd (cc);
      resting = λ reverted. absurd (clash (flow_is_reverted s.flow) reverted going);
    }

-- a retry controller begins again where its own flow's mark says so and all else in the flow is settled
pub may_begin_again : (plan : Outline) (s : Snapshot) → IsLaidOut plan → Core plan s → flow_is_reverted s.flow ≡ false → (r g : ℕ) (m : Resolve) → is_retry plan r ≡ true → s.mark r ≡ Some m → m.flow ≡ g
    → own_flow plan r ≡ Some g → ((b : ℕ) → holds plan g b ≡ true → b ≢ r → is_settled (s.state b) ≡ true)
    → Allows plan s r atom.Success atom.Retrying
may_begin_again plan s layout core going r g m controller marked flow own settled = record {
  earlier = λ to from. absurd (cc);
  later = λ to from b before. elim (either_way (holds plan g b)) [
    | inl held ↦ settled b held (λ same. clash (is_before plan r r) (ap (is_before plan r) (sym same) ∙ before) (never_before_itself plan r))
    | inr outside ↦ after_region plan s layout core r m marked r b (ap (λ (h : ℕ). holds plan h r) flow ∙ own_holds plan r g own) (ap (λ (h : ℕ). holds plan h b) flow ∙ outside) before
  ];
  closed = λ to from. absurd (cc);
  apart = λ same to from. regions_unordered plan s layout core going r m marked;
  marked = λ below to. ap is_none marked;
  controller = λ to. controller;
  resting = λ reverted. absurd (clash (flow_is_reverted s.flow) reverted going);
}

-- a retry controller that begins again runs
pub retrying_runs : (plan : Outline) (s : Snapshot) → flow_is_reverted s.flow ≡ false → (r : ℕ) → Allows plan s r atom.Retrying atom.Running
retrying_runs plan s going r = record {
  earlier = λ to from. absurd (cc);
  later = λ to from. absurd (cc);
  closed = λ to from. absurd (cc);
  apart = λ same to from. absurd (cc);
  marked = λ below to. absurd (cc);
  controller = λ to. absurd (cc);
  resting = λ reverted. absurd (clash (flow_is_reverted s.flow) reverted going);
}

-- REVERTED or IGNORE becomes PENDING where, after IGNORE, what is after it is settled and it is before no region
pub may_put_back : (plan : Outline) (s : Snapshot) (b : ℕ) (from : AtomState) → is_put_back from ≡ true
    → ((x : ℕ) → is_before plan b x ≡ true → is_settled (s.state x) ≡ true)
    → (flow_is_reverted s.flow ≡ false → (y : ℕ) (n : Resolve) → s.mark y ≡ Some n → holds plan n.flow b ≡ false → is_before plan b y ≡ false)
    → Allows plan s b from atom.Pending
may_put_back plan s b from back settled apart = record {
  earlier = λ to was. absurd (cc);
  later = λ to was. settled;
  closed = λ to was. absurd (cc);
  apart = λ going to was. apart going;
  marked = λ below to. absurd (cc);
  controller = λ to. absurd (cc);
  resting = λ reverted. refl;
}

-- what a retry controller that begins again puts back: what is after it is settled
pub settled_behind : (plan : Outline) (s : Snapshot) → IsLaidOut plan → Core plan s → (r g b : ℕ) → is_retry plan r ≡ true → s.state r ≡ atom.Retrying → own_flow plan r ≡ Some g
    → holds plan g b ≡ true → r ≢ b → (x : ℕ) → is_before plan b x ≡ true → is_settled (s.state x) ≡ true
settled_behind plan s layout core r g b controller retrying own held other x before =
    elim (same_or_other r x) [
      | inl same ↦
          let back : is_before plan b r ≡ true = ap (is_before plan b) same ∙ before in
          absurd (clash (is_before plan r r) (before_chain plan layout.ordered r b r (layout.retry_first r g b controller own held other) back) (never_before_itself plan r))
      | inr beyond ↦ elim (either_way (holds plan g x)) [
        | inl inside ↦ settled_after plan s core.order r x (layout.retry_first r g x controller own inside beyond) (ap is_done retrying)
        | inr outside ↦ settled_after plan s core.order r x ((layout.alike g r b x (own_holds plan r g own) held outside).1 ∙ before) (ap is_done retrying)
      ]
    ]

-- and it is before no region that doesn't hold it
pub put_back_apart : (plan : Outline) (s : Snapshot) → IsLaidOut plan → Core plan s → (r g b : ℕ) → is_retry plan r ≡ true → s.state r ≡ atom.Retrying → own_flow plan r ≡ Some g
    → holds plan g b ≡ true → r ≢ b → flow_is_reverted s.flow ≡ false → (y : ℕ) (n : Resolve) → s.mark y ≡ Some n → holds plan n.flow b ≡ false → is_before plan b y ≡ false
put_back_apart plan s layout core r g b controller retrying own held other going y n marked outside =
    elim (either_way (is_before plan b y)) [
      | inr isnt ↦ isnt
      | inl before ↦
          let r_out : holds plan n.flow r ≡ false = elim (either_way (holds plan n.flow r)) [
            | inr out ↦ out
            | inl inside ↦ absurd (clash (holds plan n.flow b) (layout.own_within r g n.flow b own inside held) outside)
          ] in
          let y_in : holds plan n.flow y ≡ true = (core.whole y n marked).0 in
          let other_y : r ≢ y = λ same. clash (holds plan n.flow y) y_in (ap (holds plan n.flow) (sym same) ∙ r_out) in
          let r_before : is_before plan r y ≡ true = elim (either_way (holds plan g y)) [
            | inl inside ↦ layout.retry_first r g y controller own inside other_y
            | inr out ↦ (layout.alike g r b y (own_holds plan r g own) held out).1 ∙ before
          ] in
          absurd (clash (is_done (s.state r)) (core.before going y n marked y r y_in r_out r_before) (ap is_done retrying))
    ]
