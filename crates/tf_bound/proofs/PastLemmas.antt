-- What holds at every moment of every legal history.
use Rattle.std.proofs.Common.{◌≡◌, ℕ, List, [], ◌∷◌, true, false, Option, Some, None, refl, sym, ap, ◌∙◌, inl, inr, subst}
use Rattle.tf_states.specs.declared.record.Entry.{Entry}
use Rattle.tf_flow.specs.Plan.{PlanValue}
use Rattle.tf_model.specs.Plan.{Outline, outline_of, holds, own_flow, compile_refusal}
use Rattle.tf_model.specs.History.{Snapshot, later, snapshot, is_done, is_settled}
use Rattle.tf_model.specs.Forced.{holds_with}
use Rattle.tf_model.specs.Steps.{Step, LegalPast}
use Rattle.tf_numbers.proofs.TruthLemmas.{and_first, clash, either_way}
use Rattle.tf_model.proofs.HistoryLemmas.{one_more}
use Rattle.tf_facts.specs.Facts.{IsInOrder}
use Rattle.tf_facts.proofs.LayoutLemmas.{IsLaidOut, laid_out}
use Rattle.tf_facts.proofs.PastLemmas.{past_core}
use Rattle.tf_bound.specs.Kept.{IsGuarded, IsCounted, IsMarkedWithin, IsKept, IsBounded}
use Rattle.tf_bound.specs.Short.{IsShortEvent, AreShort, ShowsShort, IsWithinLimits}
use Rattle.tf_bound.proofs.BeginLemmas.{not_itself}
use Rattle.tf_bound.proofs.PlaceLemmas.{controller_stands}
use Rattle.tf_bound.proofs.ShortLemmas.{shows_short, later_short}
use Rattle.tf_bound.proofs.CountLemmas.{ControlsStand, rule_asks}
use Rattle.tf_bound.proofs.KeepLemmas.{within_kept, counted_kept}

-- ---- guarded

-- where all that is before an unsettled atom is done, so is each retry controller of a flow that holds one
pub order_guards : (plan : Outline) (s : Snapshot) → IsLaidOut plan → IsInOrder plan s → IsGuarded plan s
order_guards plan s layout order r a retry undone inside = elim (either_way (is_settled (s.state a))) [
  | inl is ↦ is
  | inr isnt ↦ by (own_flow plan r) refl isnt
]
  where
    by : (o : Option ℕ) → own_flow plan r ≡ o → is_settled (s.state a) ≡ false → is_settled (s.state a) ≡ true
    by None home isnt = absurd (clash (holds_with plan (own_flow plan r) a) (and_first (holds_with plan (own_flow plan r) a) _ inside) (ap (λ (o : Option ℕ). holds_with plan o a) home))
    by (Some g) home isnt =
        let held : holds plan g a ≡ true = ap (λ (o : Option ℕ). holds_with plan o a) (sym home) ∙ and_first (holds_with plan (own_flow plan r) a) _ inside in
        absurd (clash (is_done (s.state r)) (order r a (layout.retry_first r g a retry home held (λ same. not_itself plan r a inside (sym same))) isnt) undone)

pub past_guarded : (plan : PlanValue) (past : List Entry) → compile_refusal plan ≡ None → LegalPast (outline_of plan) past → IsGuarded (outline_of plan) (snapshot (outline_of plan) past)
past_guarded plan past compiles legal =
    let layout = laid_out plan compiles in
    order_guards (outline_of plan) (snapshot (outline_of plan) past) layout (past_core (outline_of plan) layout past legal).order

-- ---- counted, and within the plan

-- attempts are counted, and what is marked or in flight is within the plan
record BothKept (plan : Outline) (s : Snapshot) : Type 0 where
  counted : IsCounted plan s
  within : IsMarkedWithin plan s

start_kept : (plan : Outline) → BothKept plan (snapshot plan [])
unfolding snapshot
start_kept plan = record {
  counted = record {
    success = λ r is. absurd (cc);
    retrying = λ r is. absurd (cc);
    again = λ r retry is. absurd (cc);
  };
  within = record {
    marked = λ a m is. absurd (cc);
    flying = λ a hand is. absurd (cc);
  };
}

-- a step keeps both
one_kept : (plan : Outline) (s : Snapshot) (e : Entry) → IsLaidOut plan → ControlsStand plan → IsWithinLimits plan → ShowsShort s → Step plan s e → BothKept plan s → BothKept plan (later plan e s)
one_kept plan s e layout stands limits shows step kept =
    let asks = rule_asks plan s e layout stands limits shows step.rule in
    record { counted = counted_kept plan s e.hand e.what limits.attempts asks kept.counted; within = within_kept plan s e.hand e.what asks kept.within }

both_kept : (plan : Outline) → IsLaidOut plan → ControlsStand plan → IsWithinLimits plan → (past : List Entry) → LegalPast plan past → AreShort past → BothKept plan (snapshot plan past)
both_kept plan layout stands limits [] legal short = start_kept plan
both_kept plan layout stands limits (e ∷ past) legal short =
    subst (BothKept plan) (sym (one_more plan e past))
    (one_kept plan (snapshot plan past) e layout stands limits (shows_short plan past short.1) legal.0 (both_kept plan layout stands limits past legal.1 short.1))

-- ---- entry by entry

-- before a run
pub first_bounded : (plan : Outline) → IsWithinLimits plan → IsBounded plan (snapshot plan [])
first_bounded plan limits =
    let kept = start_kept plan in
    record { limits = limits; short = shows_short plan [] tt; counted = kept.counted; within = kept.within }

-- one entry more
pub next_bounded : (plan : PlanValue) (s : Snapshot) (e : Entry) → compile_refusal plan ≡ None → IsShortEvent e.what → Step (outline_of plan) s e → IsBounded (outline_of plan) s
    → IsBounded (outline_of plan) (later (outline_of plan) e s)
next_bounded plan s e compiles short step bounded =
    let kept = one_kept (outline_of plan) s e (laid_out plan compiles) (controller_stands plan) bounded.limits bounded.short step (record { counted = bounded.counted; within = bounded.within }) in
    record { limits = bounded.limits; short = later_short (outline_of plan) e s short bounded.short; counted = kept.counted; within = kept.within }

-- after a history
pub past_bounded : (plan : PlanValue) (past : List Entry) → compile_refusal plan ≡ None → IsWithinLimits (outline_of plan) → AreShort past → LegalPast (outline_of plan) past
    → IsBounded (outline_of plan) (snapshot (outline_of plan) past)
past_bounded plan past compiles limits short legal =
    let kept = both_kept (outline_of plan) (laid_out plan compiles) (controller_stands plan) limits past legal short in
    record { limits = limits; short = shows_short (outline_of plan) past short; counted = kept.counted; within = kept.within }

-- where all that is before an unsettled atom is done
pub bounded_kept : (plan : PlanValue) (s : Snapshot) → compile_refusal plan ≡ None → IsInOrder (outline_of plan) s → IsBounded (outline_of plan) s → IsKept (outline_of plan) s
bounded_kept plan s compiles order bounded =
    record { guarded = order_guards (outline_of plan) s (laid_out plan compiles) order; counted = bounded.counted; within = bounded.within }

-- ---- all of it

pub past_kept : (plan : PlanValue) (past : List Entry) → compile_refusal plan ≡ None → IsWithinLimits (outline_of plan) → AreShort past → LegalPast (outline_of plan) past
    → IsKept (outline_of plan) (snapshot (outline_of plan) past)
past_kept plan past compiles limits short legal =
    let kept = both_kept (outline_of plan) (laid_out plan compiles) (controller_stands plan) limits past legal short in
    record { guarded = past_guarded plan past compiles legal; counted = kept.counted; within = kept.within }
