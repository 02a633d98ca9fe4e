-- What each step keeps, and what follows from it.
use Rattle.std.proofs.Common.{◌≡◌, ◌≢◌, ℕ, ◌<◌, true, false, Option, Some, None, refl, sym, ap, ◌∙◌, ◌⊎◌, inl, inr, subst}
use Rattle.std.specs.Prelude.{is_none}
use Rattle.tf_states.specs.declared.state.AtomState.{AtomState}
use Rattle.tf_states.specs.declared.state.AtomState.TheVariants as atom
use Rattle.tf_model.specs.Plan.{Outline, count, is_before, holds, is_retry, own_flow}
use Rattle.tf_model.specs.History.{Resolve, Snapshot, is_done, is_settled, is_retrying, flow_is_reverted}
use Rattle.tf_model.proofs.BeforeLemmas.{never_before_itself}
use Rattle.tf_facts.specs.Facts.{is_open, is_undoing, IsInOrder, HasWholeMarks, OpenAtom}
use Rattle.tf_facts.proofs.LayoutLemmas.{IsLaidOut}
use Rattle.tf_numbers.proofs.TruthLemmas.{clash, either_way}
use Rattle.tf_numbers.proofs.NumberLemmas.{same_or_other}

-- an atom is marked, and all that are marked are settled
pub record AtRest (plan : Outline) (s : Snapshot) : Type 0 where
  pub number : ℕ
  pub marked : is_none (s.mark number) ≡ false
  pub settled : (b : ℕ) → is_none (s.mark b) ≡ false → is_settled (s.state b) ≡ true

-- what every moment has; a region is told by a mark that comes from it
pub record Core (plan : Outline) (s : Snapshot) : Type 0 where
  pub order : IsInOrder plan s
  pub whole : HasWholeMarks plan s
  pub opens : (a : ℕ) (m : Resolve) → s.mark a ≡ Some m → OpenAtom plan s m.flow
  pub before : flow_is_reverted s.flow ≡ false → (a : ℕ) (m : Resolve) → s.mark a ≡ Some m
      → (y x : ℕ) → holds plan m.flow y ≡ true → holds plan m.flow x ≡ false → is_before plan x y ≡ true → is_done (s.state x) ≡ true
  pub undone : (a : ℕ) → a < count plan → is_undoing (s.state a) ≡ true → is_none (s.mark a) ≡ false
  pub controllers : (a : ℕ) → is_retrying (s.state a) ≡ true → is_retry plan a ≡ true
  pub rest : flow_is_reverted s.flow ≡ true → AtRest plan s

-- ---- states

pub open_not_done : (x : AtomState) → is_open x ≡ true → is_done x ≡ false
open_not_done atom.Success is = absurd (cc)
open_not_done atom.Ignore is = absurd (cc)
open_not_done x is = refl

pub retrying_is : (x : AtomState) → is_retrying x ≡ true → x ≡ atom.Retrying
retrying_is atom.Retrying is = refl
retrying_is x is = absurd (cc)

-- the mark of an atom that isn't EXECUTE
pub record Marked (s : Snapshot) (a : ℕ) : Type 0 where
  pub resolve : Resolve
  pub is : s.mark a ≡ Some resolve

pub marked_or_not : (s : Snapshot) (a : ℕ) → Marked s a ⊎ (s.mark a ≡ None)
marked_or_not s a = by (s.mark a) refl
  where
    by : (o : Option Resolve) → s.mark a ≡ o → Marked s a ⊎ (s.mark a ≡ None)
    by None is = inr is
    by (Some m) is = inl (record { resolve = m; is = is })

pub marked_where : (s : Snapshot) (a : ℕ) → is_none (s.mark a) ≡ false → Marked s a
marked_where s a isnt = elim (marked_or_not s a) [ inl is ↦ is | inr none ↦ absurd (clash (is_none (s.mark a)) (ap is_none none) isnt) ]

pub one_mark : (s : Snapshot) (a : ℕ) (m n : Resolve) → s.mark a ≡ Some m → s.mark a ≡ Some n → m ≡ n
one_mark s a m n one other = let both : Some m ≡ Some n = sym one ∙ other in cc

pub not_none : (s : Snapshot) (a : ℕ) (m : Resolve) → s.mark a ≡ Some m → s.mark a ≡ None → ⊥
not_none s a m one other = let both : Some m ≡ None = sym one ∙ other in cc

-- ---- what follows

-- what is after an atom that isn't done is settled
pub settled_after : (plan : Outline) (s : Snapshot) → IsInOrder plan s → (a b : ℕ) → is_before plan a b ≡ true → is_done (s.state a) ≡ false → is_settled (s.state b) ≡ true
settled_after plan s order a b before not_done =
    elim (either_way (is_settled (s.state b))) [ inl is ↦ is | inr isnt ↦ absurd (clash (is_done (s.state a)) (order a b before isnt) not_done) ]

-- what is after an atom of a region, and outside it, is settled
pub after_region : (plan : Outline) (s : Snapshot) → IsLaidOut plan → Core plan s → (a : ℕ) (m : Resolve) → s.mark a ≡ Some m
    → (y x : ℕ) → holds plan m.flow y ≡ true → holds plan m.flow x ≡ false → is_before plan y x ≡ true → is_settled (s.state x) ≡ true
after_region plan s layout core a m is y x inside outside before =
    let o = core.opens a m is in
    settled_after plan s core.order o.number x ((layout.alike m.flow o.number y x o.inside inside outside).1 ∙ before) (open_not_done (s.state o.number) o.opened)

-- all other atoms of the flow of a retry controller that begins again are settled
pub alone_retrying : (plan : Outline) (s : Snapshot) → IsLaidOut plan → Core plan s → (r g b : ℕ) → is_retrying (s.state r) ≡ true
    → own_flow plan r ≡ Some g → holds plan g b ≡ true → r ≢ b → is_settled (s.state b) ≡ true
alone_retrying plan s layout core r g b retrying own inside other =
    settled_after plan s core.order r b (layout.retry_first r g b (core.controllers r retrying) own inside other) (ap is_done (retrying_is (s.state r) retrying))

-- no atom of a region is before an atom of a region that doesn't hold it
pub regions_unordered : (plan : Outline) (s : Snapshot) → IsLaidOut plan → Core plan s → flow_is_reverted s.flow ≡ false → (a : ℕ) (m : Resolve) → s.mark a ≡ Some m
    → (y : ℕ) (n : Resolve) → s.mark y ≡ Some n → holds plan n.flow a ≡ false → is_before plan a y ≡ false
regions_unordered plan s layout core going a m a_is y n y_is outside =
    elim (either_way (is_before plan a y)) [
      | inr isnt ↦ isnt
      | inl before ↦
          let o = core.opens a m a_is in
          let y_out : holds plan m.flow y ≡ false = elim (either_way (holds plan m.flow y)) [
            | inr isnt ↦ isnt
            | inl held ↦
                let same : n ≡ m = one_mark s y n m y_is ((core.whole a m a_is).1 y held) in
                absurd (clash (holds plan n.flow a) (ap (λ (k : Resolve). holds plan k.flow a) same ∙ (core.whole a m a_is).0) outside)
          ] in
          let o_out : holds plan n.flow o.number ≡ false = elim (either_way (holds plan n.flow o.number)) [
            | inr isnt ↦ isnt
            | inl held ↦
                let same : n ≡ m = one_mark s o.number n m ((core.whole y n y_is).1 o.number held) ((core.whole a m a_is).1 o.number o.inside) in
                absurd (clash (holds plan n.flow a) (ap (λ (k : Resolve). holds plan k.flow a) same ∙ (core.whole a m a_is).0) outside)
          ] in
          let o_before : is_before plan o.number y ≡ true = (layout.alike m.flow o.number a y o.inside (core.whole a m a_is).0 y_out).1 ∙ before in
          absurd (clash (is_done (s.state o.number)) (core.before going y n y_is y o.number (core.whole y n y_is).0 o_out o_before) (open_not_done (s.state o.number) o.opened))
    ]

-- ---- one atom changes

-- atom a goes from a state to another, and no mark and no other atom's state changes
pub record Turned (s t : Snapshot) (a : ℕ) (from to : AtomState) : Type 0 where
  pub was : s.state a ≡ from
  pub is : t.state a ≡ to
  pub others : (b : ℕ) → b ≢ a → t.state b ≡ s.state b
  pub marks : (b : ℕ) → t.mark b ≡ s.mark b
  pub flow : t.flow ≡ s.flow

-- what the change asks for
pub record Allows (plan : Outline) (s : Snapshot) (a : ℕ) (from to : AtomState) : Type 0 where
  pub earlier : is_settled to ≡ false → is_settled from ≡ true → (x : ℕ) → is_before plan x a ≡ true → is_done (s.state x) ≡ true
  pub later : is_done to ≡ false → is_done from ≡ true → (x : ℕ) → is_before plan a x ≡ true → is_settled (s.state x) ≡ true
  pub closed : is_open to ≡ false → is_open from ≡ true → s.mark a ≡ None
  pub apart : flow_is_reverted s.flow ≡ false → is_done to ≡ false → is_done from ≡ true
      → (y : ℕ) (n : Resolve) → s.mark y ≡ Some n → holds plan n.flow a ≡ false → is_before plan a y ≡ false
  pub marked : a < count plan → is_undoing to ≡ true → is_none (s.mark a) ≡ false
  pub controller : is_retrying to ≡ true → is_retry plan a ≡ true
  pub resting : flow_is_reverted s.flow ≡ true → is_settled to ≡ true

order_kept : (plan : Outline) (s t : Snapshot) (a : ℕ) (from to : AtomState) → Core plan s → Turned s t a from to → Allows plan s a from to → IsInOrder plan t
order_kept plan s t a from to core turn allows p q before unsettled =
    elim (same_or_other p a) [
      | inl here ↦ elim (same_or_other q a) [
        | inl there ↦ absurd (clash (is_before plan a a) (ap (λ (n : ℕ). is_before plan n a) (sym here) ∙ (ap (is_before plan p) (sym there) ∙ before)) (never_before_itself plan a))
        | inr beyond ↦
            let old : is_settled (s.state q) ≡ false = ap is_settled (sym (turn.others q beyond)) ∙ unsettled in
            let from_a : is_before plan a q ≡ true = ap (λ (n : ℕ). is_before plan n q) (sym here) ∙ before in
            ap is_done (ap t.state here ∙ turn.is) ∙ elim (either_way (is_done to)) [
              | inl done ↦ done
              | inr not_done ↦ absurd (clash (is_settled (s.state q))
                  (allows.later not_done (ap is_done (sym turn.was) ∙ core.order a q from_a old) q from_a) old)
            ]
      ]
      | inr beside ↦ ap is_done (turn.others p beside) ∙ elim (same_or_other q a) [
        | inl there ↦
            let to_a : is_before plan p a ≡ true = ap (is_before plan p) (sym there) ∙ before in
            let not_now : is_settled to ≡ false = ap is_settled (sym turn.is) ∙ (ap (λ (n : ℕ). is_settled (t.state n)) (sym there) ∙ unsettled) in
            elim (either_way (is_settled from)) [
              | inl settled ↦ allows.earlier not_now settled p to_a
              | inr was_not ↦ core.order p a to_a (ap is_settled turn.was ∙ was_not)
            ]
        | inr beyond ↦ core.order p q before (ap is_settled (sym (turn.others q beyond)) ∙ unsettled)
      ]
    ]

opens_kept : (plan : Outline) (s t : Snapshot) (a : ℕ) (from to : AtomState) → Core plan s → Turned s t a from to → Allows plan s a from to
    → (c : ℕ) (m : Resolve) → t.mark c ≡ Some m → OpenAtom plan t m.flow
opens_kept plan s t a from to core turn allows c m is =
    let old : s.mark c ≡ Some m = sym (turn.marks c) ∙ is in
    let o = core.opens c m old in
    elim (same_or_other o.number a) [
      | inr beside ↦ record { number = o.number; inside = o.inside; opened = ap is_open (turn.others o.number beside) ∙ o.opened }
      | inl here ↦
          let held : holds plan m.flow a ≡ true = ap (holds plan m.flow) (sym here) ∙ o.inside in
          let was_open : is_open from ≡ true = ap is_open (sym turn.was) ∙ (ap (λ (n : ℕ). is_open (s.state n)) (sym here) ∙ o.opened) in
          elim (either_way (is_open to)) [
            | inl stays ↦ record { number = a; inside = held; opened = ap is_open turn.is ∙ stays }
            | inr closes ↦ absurd (not_none s a m ((core.whole c m old).1 a held) (allows.closed closes was_open))
          ]
    ]

before_kept : (plan : Outline) (s t : Snapshot) (a : ℕ) (from to : AtomState) → Core plan s → Turned s t a from to → Allows plan s a from to
    → flow_is_reverted t.flow ≡ false → (c : ℕ) (m : Resolve) → t.mark c ≡ Some m
    → (y x : ℕ) → holds plan m.flow y ≡ true → holds plan m.flow x ≡ false → is_before plan x y ≡ true → is_done (t.state x) ≡ true
before_kept plan s t a from to core turn allows going c m is y x inside outside before =
    let old : s.mark c ≡ Some m = sym (turn.marks c) ∙ is in
    let went : flow_is_reverted s.flow ≡ false = ap flow_is_reverted (sym turn.flow) ∙ going in
    let done : is_done (s.state x) ≡ true = core.before went c m old y x inside outside before in
    elim (same_or_other x a) [
      | inr beside ↦ ap is_done (turn.others x beside) ∙ done
      | inl here ↦ ap is_done (ap t.state here ∙ turn.is) ∙ elim (either_way (is_done to)) [
        | inl stays ↦ stays
        | inr ends ↦ absurd (clash (is_before plan a y)
            (ap (λ (n : ℕ). is_before plan n y) (sym here) ∙ before)
            (allows.apart went ends (ap is_done (sym turn.was) ∙ (ap (λ (n : ℕ). is_done (s.state n)) (sym here) ∙ done)) y m ((core.whole c m old).1 y inside)
            (ap (holds plan m.flow) (sym here) ∙ outside)))
      ]
    ]

rest_kept : (plan : Outline) (s t : Snapshot) (a : ℕ) (from to : AtomState) → Core plan s → Turned s t a from to → Allows plan s a from to → flow_is_reverted t.flow ≡ true → AtRest plan t
rest_kept plan s t a from to core turn allows reverted =
    let was : flow_is_reverted s.flow ≡ true = ap flow_is_reverted (sym turn.flow) ∙ reverted in
    let old = core.rest was in
    record {
      number = old.number;
      marked = ap is_none (turn.marks old.number) ∙ old.marked;
      settled = λ b marked. elim (same_or_other b a) [
        | inl here ↦ ap is_settled (ap t.state here ∙ turn.is) ∙ allows.resting was
        | inr beside ↦ ap is_settled (turn.others b beside) ∙ old.settled b (ap is_none (sym (turn.marks b)) ∙ marked)
      ];
    }

pub kept : (plan : Outline) (s t : Snapshot) (a : ℕ) (from to : AtomState) → Core plan s → Turned s t a from to → Allows plan s a from to → Core plan t
kept plan s t a from to core turn allows = record {
  order = order_kept plan s t a from to core turn allows;
  whole = λ c m is.
      let old = core.whole c m (sym (turn.marks c) ∙ is) in
      (old.0, λ b held. turn.marks b ∙ old.1 b held);
  opens = opens_kept plan s t a from to core turn allows;
  before = before_kept plan s t a from to core turn allows;
  undone = λ c below undoing. ap is_none (turn.marks c) ∙ elim (same_or_other c a) [
    | inl here ↦ ap (λ (n : ℕ). is_none (s.mark n)) here ∙ allows.marked (subst (λ (n : ℕ). n < count plan) here below) (ap is_undoing (sym turn.is) ∙ (ap (λ (n : ℕ). is_undoing (t.state n)) (sym here) ∙ undoing))
    | inr beside ↦ core.undone c below (ap is_undoing (sym (turn.others c beside)) ∙ undoing)
  ];
  controllers = λ c retrying. elim (same_or_other c a) [
    | inl here ↦ ap (is_retry plan) here ∙ allows.controller (ap is_retrying (sym (ap t.state here ∙ turn.is)) ∙ retrying)
    | inr beside ↦ core.controllers c (ap is_retrying (sym (turn.others c beside)) ∙ retrying)
  ];
  rest = rest_kept plan s t a from to core turn allows;
}
