-- Why a line can't be has one answer.
use Rattle.std.proofs.Common.{◌≡◌, ◌≢◌, ℕ, ◌+◌, List, length, Bool, true, false, ◌&&◌, Option, Some, None, refl, sym, ap, subst, ◌∙◌}
use Rattle.std.specs.Prelude.{is_none, if◌then◌else◌}
use Rattle.tf_flow.specs.Plan.{PlanValue}
use Rattle.tf_flow.specs.Rules.{first_refusal}
use Rattle.tf_states.specs.declared.record.Entry.{Entry}
use Rattle.tf_states.specs.declared.record.What.{What}
use Rattle.tf_states.specs.declared.record.What.TheVariants as what
use Rattle.tf_actions.specs.declared.outcomes.Action.{Action}
use Rattle.tf_model.specs.Forced.{choice, candidate_if_running, forced, enters, is_active}
use Rattle.tf_model.specs.History.{snapshot, Snapshot}
use Rattle.tf_model.specs.Plan.{Outline, outline_of}
use Rattle.tf_model.specs.Steps.{Step}
use Rattle.tf_hands.specs.Hands.{start_entry, begun, action_in}
use Rattle.tf_hands.specs.declared.starts.Start.{Start}
use Rattle.tf_audit.specs.Names.{AreNamed}
use Rattle.tf_audit.specs.Verdicts.{IsLineOf, IsFaulty}
use Rattle.tf_audit.specs.declared.verdicts.Why.{Why}
use Rattle.tf_audit.specs.declared.verdicts.Why.TheVariants as why
use Rattle.tf_audit.proofs.EntryLemmas.{line_one}

-- ---- what should stand there is one thing

start_parts : (a b : ℕ) (r q : Bool) (x y : Action) → (if r then what.Restart a else enters a (begun x)) ≡ (if q then what.Restart b else enters b (begun y)) → (a ≡ b) × (r ≡ q)
start_parts a b true true x y is = let atoms : a ≡ b = cc in (atoms, refl)
start_parts a b false false x y is = let atoms : a ≡ b = cc in (atoms, refl)
start_parts a b true false x y is = absurd (cc)
start_parts a b false true x y is = absurd (cc)

start_one : (s t : Start) (snap : Snapshot) → start_entry s ≡ start_entry t → s.action ≡ action_in (snap.state s.atom) → t.action ≡ action_in (snap.state t.atom) → s ≡ t
start_one s t snap is first second =
    let parts = start_parts s.atom t.atom s.restart t.restart s.action t.action is in
    let actions : s.action ≡ t.action = first ∙ (ap (λ (a : ℕ). action_in (snap.state a)) parts.0 ∙ sym second) in
    (λ i. record { atom = parts.0 i; action = actions i; restart = parts.1 i })

-- while something is forced no task may be taken up
forced_first : (active : Bool) (w x : What) (is_forced found : Option What) → is_forced ≡ Some w → (if active && is_none is_forced then found else None) ≡ Some x → ⊥
forced_first true w x None found some is = cc
forced_first true w x (Some v) found some is = cc
forced_first false w x is_forced found some is = cc

unchosen : (plan : Outline) (s : Snapshot) (w x : What) → forced plan s ≡ Some w → choice plan s ≡ Some x → ⊥
unfolding choice
unchosen plan s w x some is = forced_first (is_active plan s) w x (forced plan s) (candidate_if_running plan s) some is

not_both : {A : Type 0} (o : Option A) (a : A) → o ≡ None → o ≡ Some a → ⊥
not_both o a none some = let both : None ≡ Some a = sym none ∙ some in cc

some_one : {A : Type 0} (o : Option A) (a b : A) → o ≡ Some a → o ≡ Some b → a ≡ b
some_one o a b first second = let both : Some a ≡ Some b = sym first ∙ second in cc

module _ (plan : PlanValue) (accepted : first_refusal plan.root plan.store ≡ None) (named : AreNamed (outline_of plan)) (past : List Entry) (text : List ℕ) where
  -- a line has one number
  misplaced : (n : ℕ) (e f : Entry) → IsLineOf (outline_of plan) n e text → n ≢ length past + 1 → IsLineOf (outline_of plan) (length past + 1) f text → ⊥
  misplaced n e f said other here = other (line_one plan accepted named n (length past + 1) e f text said here).0

  -- and one entry, which either may follow or may not
  undecided : (e f : Entry) → IsLineOf (outline_of plan) (length past + 1) e text → IsLineOf (outline_of plan) (length past + 1) f text → ¬ (Step (outline_of plan) (snapshot (outline_of plan) past) e)
      → Step (outline_of plan) (snapshot (outline_of plan) past) f → ⊥
  undecided e f said here unfit fits =
      unfit (subst (λ (x : Entry). Step (outline_of plan) (snapshot (outline_of plan) past) x) (sym (line_one plan accepted named (length past + 1) (length past + 1) e f text said here).1) fits)

  pub because_one : (b c : Why) → IsFaulty (outline_of plan) past text b → IsFaulty (outline_of plan) past text c → b ≡ c
  because_one why.Unreadable why.Unreadable one two = refl
  because_one why.Unreadable why.Number one (b_n, b_e, b_said, b_other) = absurd (one b_n b_e b_said)
  because_one why.Unreadable (why.Forced b_w) one (b_e, b_said, (b_unfit, b_is)) = absurd (one (length past + 1) b_e b_said)
  because_one why.Unreadable (why.First b_s) one (b_e, b_said, (b_unfit, b_is)) = absurd (one (length past + 1) b_e b_said)
  because_one why.Unreadable why.NoStep one (b_e, b_said, (b_unfit, b_is)) = absurd (one (length past + 1) b_e b_said)
  because_one why.Unreadable why.Value one (b_e, b_said, (b_fits, b_wrong)) = absurd (one (length past + 1) b_e b_said)
  because_one why.Number why.Unreadable (a_n, a_e, a_said, a_other) two = absurd (two a_n a_e a_said)
  because_one why.Number why.Number (a_n, a_e, a_said, a_other) (b_n, b_e, b_said, b_other) = refl
  because_one why.Number (why.Forced b_w) (a_n, a_e, a_said, a_other) (b_e, b_said, (b_unfit, b_is)) = absurd (misplaced a_n a_e b_e a_said a_other b_said)
  because_one why.Number (why.First b_s) (a_n, a_e, a_said, a_other) (b_e, b_said, (b_unfit, b_is)) = absurd (misplaced a_n a_e b_e a_said a_other b_said)
  because_one why.Number why.NoStep (a_n, a_e, a_said, a_other) (b_e, b_said, (b_unfit, b_is)) = absurd (misplaced a_n a_e b_e a_said a_other b_said)
  because_one why.Number why.Value (a_n, a_e, a_said, a_other) (b_e, b_said, (b_fits, b_wrong)) = absurd (misplaced a_n a_e b_e a_said a_other b_said)
  because_one (why.Forced a_w) why.Unreadable (a_e, a_said, (a_unfit, a_is)) two = absurd (two (length past + 1) a_e a_said)
  because_one (why.Forced a_w) why.Number (a_e, a_said, (a_unfit, a_is)) (b_n, b_e, b_said, b_other) = absurd (misplaced b_n b_e a_e b_said b_other a_said)
  because_one (why.Forced a_w) (why.Forced b_w) (a_e, a_said, (a_unfit, a_is)) (b_e, b_said, (b_unfit, b_is)) = ap why.Forced (some_one (forced (outline_of plan) (snapshot (outline_of plan) past)) a_w b_w a_is b_is)
  because_one (why.Forced a_w) (why.First b_s) (a_e, a_said, (a_unfit, a_is)) (b_e, b_said, (b_unfit, b_is)) = absurd (unchosen (outline_of plan) (snapshot (outline_of plan) past) a_w (start_entry b_s) a_is b_is.0)
  because_one (why.Forced a_w) why.NoStep (a_e, a_said, (a_unfit, a_is)) (b_e, b_said, (b_unfit, b_is)) = absurd (not_both (forced (outline_of plan) (snapshot (outline_of plan) past)) a_w b_is.0 a_is)
  because_one (why.Forced a_w) why.Value (a_e, a_said, (a_unfit, a_is)) (b_e, b_said, (b_fits, b_wrong)) = absurd (undecided a_e b_e a_said b_said a_unfit b_fits)
  because_one (why.First a_s) why.Unreadable (a_e, a_said, (a_unfit, a_is)) two = absurd (two (length past + 1) a_e a_said)
  because_one (why.First a_s) why.Number (a_e, a_said, (a_unfit, a_is)) (b_n, b_e, b_said, b_other) = absurd (misplaced b_n b_e a_e b_said b_other a_said)
  because_one (why.First a_s) (why.Forced b_w) (a_e, a_said, (a_unfit, a_is)) (b_e, b_said, (b_unfit, b_is)) = absurd (unchosen (outline_of plan) (snapshot (outline_of plan) past) b_w (start_entry a_s) b_is a_is.0)
  because_one (why.First a_s) (why.First b_s) (a_e, a_said, (a_unfit, a_is)) (b_e, b_said, (b_unfit, b_is)) = ap why.First (start_one a_s b_s (snapshot (outline_of plan) past) (some_one (choice (outline_of plan) (snapshot (outline_of plan) past)) (start_entry a_s) (start_entry b_s) a_is.0 b_is.0) a_is.1 b_is.1)
  because_one (why.First a_s) why.NoStep (a_e, a_said, (a_unfit, a_is)) (b_e, b_said, (b_unfit, b_is)) = absurd (not_both (choice (outline_of plan) (snapshot (outline_of plan) past)) (start_entry a_s) b_is.1 a_is.0)
  because_one (why.First a_s) why.Value (a_e, a_said, (a_unfit, a_is)) (b_e, b_said, (b_fits, b_wrong)) = absurd (undecided a_e b_e a_said b_said a_unfit b_fits)
  because_one why.NoStep why.Unreadable (a_e, a_said, (a_unfit, a_is)) two = absurd (two (length past + 1) a_e a_said)
  because_one why.NoStep why.Number (a_e, a_said, (a_unfit, a_is)) (b_n, b_e, b_said, b_other) = absurd (misplaced b_n b_e a_e b_said b_other a_said)
  because_one why.NoStep (why.Forced b_w) (a_e, a_said, (a_unfit, a_is)) (b_e, b_said, (b_unfit, b_is)) = absurd (not_both (forced (outline_of plan) (snapshot (outline_of plan) past)) b_w a_is.0 b_is)
  because_one why.NoStep (why.First b_s) (a_e, a_said, (a_unfit, a_is)) (b_e, b_said, (b_unfit, b_is)) = absurd (not_both (choice (outline_of plan) (snapshot (outline_of plan) past)) (start_entry b_s) a_is.1 b_is.0)
  because_one why.NoStep why.NoStep (a_e, a_said, (a_unfit, a_is)) (b_e, b_said, (b_unfit, b_is)) = refl
  because_one why.NoStep why.Value (a_e, a_said, (a_unfit, a_is)) (b_e, b_said, (b_fits, b_wrong)) = absurd (undecided a_e b_e a_said b_said a_unfit b_fits)
  because_one why.Value why.Unreadable (a_e, a_said, (a_fits, a_wrong)) two = absurd (two (length past + 1) a_e a_said)
  because_one why.Value why.Number (a_e, a_said, (a_fits, a_wrong)) (b_n, b_e, b_said, b_other) = absurd (misplaced b_n b_e a_e b_said b_other a_said)
  because_one why.Value (why.Forced b_w) (a_e, a_said, (a_fits, a_wrong)) (b_e, b_said, (b_unfit, b_is)) = absurd (undecided b_e a_e b_said a_said b_unfit a_fits)
  because_one why.Value (why.First b_s) (a_e, a_said, (a_fits, a_wrong)) (b_e, b_said, (b_unfit, b_is)) = absurd (undecided b_e a_e b_said a_said b_unfit a_fits)
  because_one why.Value why.NoStep (a_e, a_said, (a_fits, a_wrong)) (b_e, b_said, (b_unfit, b_is)) = absurd (undecided b_e a_e b_said a_said b_unfit a_fits)
  because_one why.Value why.Value (a_e, a_said, (a_fits, a_wrong)) (b_e, b_said, (b_fits, b_wrong)) = refl
