-- A run records at most as many entries as its plan's bound.
use Rattle.std.proofs.Common.{◌≡◌, ◌≢◌, ℕ, suc, ◌+◌, ◌<◌, ◌≤◌, List, [], ◌∷◌, ◌++◌, length, true, false, Option, Some, None, refl, sym, ap, ◌∙◌, subst, arith, append_assoc, length-append}
use Rattle.std.specs.Prelude.{reverse}
use Rattle.std.specs.List.{list_all}
use Rattle.std.proofs.lemmas.List.{length-reverse}
use Rattle.tf_states.specs.declared.record.Entry.{Entry}
use Rattle.tf_states.specs.declared.record.What.{What}
use Rattle.tf_states.specs.declared.record.What.TheVariants as what
use Rattle.tf_states.specs.declared.state.FlowState.{FlowState}
use Rattle.tf_states.specs.declared.state.FlowState.TheVariants as flow
use Rattle.tf_flow.specs.Plan.{PlanValue}
use Rattle.tf_flow.specs.Tree.{tree_of}
use Rattle.tf_model.specs.Plan.{Outline, outline_of, count, compile_refusal, cost, entry_bound}
use Rattle.tf_model.specs.History.{Snapshot, later, flow_after, snapshot, flow_of}
use Rattle.tf_model.specs.Forced.{forced, choice}
use Rattle.tf_model.specs.Steps.{Step, LegalPast, ends_task, Session, already_ended, entered, halted, whole, entering, has_ended, is_last, is_inner, is_inner_entry}
use Rattle.tf_numbers.proofs.TruthLemmas.{and_first, and_second}
use Rattle.tf_model.proofs.HistoryLemmas.{one_more, legal_before}
use Rattle.tf_model.proofs.ResolutionLemmas.{resolution_holds}
use Rattle.tf_bound.specs.Costs.{HasAttempts, each, most, sum_below}
use Rattle.tf_bound.specs.Owed.{owed, turn, left}
use Rattle.tf_bound.specs.Kept.{IsCounted, IsKept}
use Rattle.tf_bound.specs.Short.{AreShort, IsWithinLimits}
use Rattle.tf_bound.proofs.SumLemmas.{sum_at_most}
use Rattle.tf_bound.proofs.RoomLemmas.{weighed, lives_at_most}
use Rattle.tf_bound.proofs.BeginLemmas.{owed_capped}
use Rattle.tf_bound.proofs.StepFallLemmas.{is_going, active_falls, chosen_falls, ends_falls, step_falls}
use Rattle.tf_bound.proofs.ShortLemmas.{both_short, part_of_short}
use Rattle.tf_bound.proofs.PastLemmas.{past_kept}

-- ---- what is owed at a moment is at most what the root costs, and 2

turn_at_most : (state : FlowState) → turn state ≤ 2
turn_at_most flow.Running = omega arith
turn_at_most flow.Suspending = omega arith
turn_at_most flow.Pending = omega arith
turn_at_most flow.Suspended = omega arith
turn_at_most flow.Resuming = omega arith
turn_at_most flow.Success = omega arith
turn_at_most flow.Failure = omega arith
turn_at_most flow.Reverted = omega arith

pub left_at_most : (plan : PlanValue) (s : Snapshot) → HasAttempts (outline_of plan) → IsCounted (outline_of plan) s → left plan s ≤ cost (tree_of plan.root) + 2
left_at_most plan s tried counted =
    let capped : sum_below (count (outline_of plan)) (owed plan s) ≤ sum_below (count (outline_of plan)) (most plan)
    = sum_at_most (count (outline_of plan)) (owed plan s) (most plan) (λ a below. owed_capped (outline_of plan) (each plan) s a counted) in
    let lives : sum_below (count (outline_of plan)) (most plan) ≤ cost (tree_of plan.root) = lives_at_most plan tried in
    let two : turn s.flow ≤ 2 = turn_at_most s.flow in
    omega (arith, capped, lives, two)

-- an entry past the entering ones makes less owed
pub falls : (plan : PlanValue) (s : Snapshot) (e : Entry) → HasAttempts (outline_of plan) → IsKept (outline_of plan) s → is_going s.flow ≡ true → e.what ≢ what.Flow flow.Resuming
    → Step (outline_of plan) s e → left plan (later (outline_of plan) e s) < left plan s
falls plan s e tried kept going isnt step = step_falls (outline_of plan) (each plan) s e (weighed plan tried) (resolution_holds plan) kept going isnt step.rule

pub forced_less : (plan : PlanValue) (s : Snapshot) (hand : ℕ) (w : What) → HasAttempts (outline_of plan) → IsKept (outline_of plan) s → forced (outline_of plan) s ≡ Some w
    → left plan (later (outline_of plan) (record { hand = hand; what = w }) s) < left plan s
forced_less plan s hand w tried kept is = active_falls (outline_of plan) (each plan) s (weighed plan tried) (resolution_holds plan) kept w is hand

pub chosen_less : (plan : PlanValue) (s : Snapshot) (hand : ℕ) (w : What) → HasAttempts (outline_of plan) → IsKept (outline_of plan) s → choice (outline_of plan) s ≡ Some w
    → left plan (later (outline_of plan) (record { hand = hand; what = w }) s) < left plan s
chosen_less plan s hand w tried kept is = chosen_falls (outline_of plan) (each plan) s kept.guarded kept.within w is hand

pub ended_less : (plan : PlanValue) (s : Snapshot) (hand : ℕ) (w : What) → HasAttempts (outline_of plan) → IsKept (outline_of plan) s → ends_task s hand w ≡ true
    → left plan (later (outline_of plan) (record { hand = hand; what = w }) s) < left plan s
ended_less plan s hand w tried kept is = ends_falls (outline_of plan) (each plan) s hand w kept.guarded kept.within is hand

-- beside three entries what is left is within the bound
pub entered_at_most : (plan : PlanValue) (s : Snapshot) → HasAttempts (outline_of plan) → IsCounted (outline_of plan) s → 3 + left plan s ≤ entry_bound plan
entered_at_most plan s tried counted = let most : left plan s ≤ cost (tree_of plan.root) + 2 = left_at_most plan s tried counted in omega (arith, most)

-- ---- the entries past those with which a run enters

inner_isnt : (w : What) → is_inner w ≡ true → w ≢ what.Flow flow.Resuming
inner_isnt w is same = let no : false ≡ true = ap is_inner (sym same) ∙ is in cc

stays_going : (w : What) (state : FlowState) → is_inner w ≡ true → is_going state ≡ true → is_going (flow_after w state) ≡ true
stays_going (what.Atom a to held) state is going = going
stays_going (what.Resolve named how) state is going = going
stays_going (what.Restart again) state is going = going
stays_going (what.Flow flow.Suspending) state is going = refl
stays_going (what.Flow f) state is going = absurd (cc)

-- the flow goes on, and what is left has fallen by at least their number
record Spent (plan : PlanValue) (base inner : List Entry) : Type 0 where
  going : is_going (flow_of (inner ++ base)) ≡ true
  less : length inner + left plan (snapshot (outline_of plan) (inner ++ base)) ≤ left plan (snapshot (outline_of plan) base)

pub flow_shown : (plan : Outline) (past : List Entry) → (snapshot plan past).flow ≡ flow_of past
unfolding snapshot
flow_shown plan past = refl

one_spent : (plan : PlanValue) (past : List Entry) (e : Entry) → compile_refusal plan ≡ None → IsWithinLimits (outline_of plan) → AreShort past → LegalPast (outline_of plan) (e ∷ past) → is_going (flow_of past) ≡ true
    → e.what ≢ what.Flow flow.Resuming → left plan (snapshot (outline_of plan) (e ∷ past)) < left plan (snapshot (outline_of plan) past)
one_spent plan past e compiles limits short legal going isnt =
    subst (λ (s : Snapshot). left plan s < left plan (snapshot (outline_of plan) past)) (sym (one_more (outline_of plan) e past))
    (falls plan (snapshot (outline_of plan) past) e limits.attempts (past_kept plan past compiles limits short legal.1) (ap is_going (flow_shown (outline_of plan) past) ∙ going) isnt legal.0)

spent : (plan : PlanValue) (base inner : List Entry) → compile_refusal plan ≡ None → IsWithinLimits (outline_of plan) → AreShort (inner ++ base) → LegalPast (outline_of plan) (inner ++ base) → is_going (flow_of base) ≡ true
    → list_all is_inner_entry inner ≡ true → Spent plan base inner
spent plan base [] compiles limits short legal going inside = record { going = going; less = omega arith }
spent plan base (e ∷ inner) compiles limits short legal going inside =
    let before = spent plan base inner compiles limits short.1 legal.1 going (and_second (is_inner_entry e) _ inside) in
    let is : is_inner e.what ≡ true = and_first (is_inner_entry e) _ inside in
    let less : left plan (snapshot (outline_of plan) (e ∷ (inner ++ base))) < left plan (snapshot (outline_of plan) (inner ++ base))
    = one_spent plan (inner ++ base) e compiles limits short.1 legal before.going (inner_isnt e.what is) in
    record { going = stays_going e.what (flow_of (inner ++ base)) is before.going; less = omega (arith, before.less, less) }

-- ---- the entries with which a run enters

enters_running : (before : List Entry) (state : FlowState) → has_ended state ≡ false → flow_of (reverse (entering state) ++ before) ≡ flow.Running
enters_running before flow.Pending is = refl
enters_running before flow.Suspended is = refl
enters_running before flow.Running is = refl
enters_running before flow.Suspending is = refl
enters_running before flow.Resuming is = refl
enters_running before state is = absurd (cc)

enters_at_most : (state : FlowState) → length (entering state) ≤ 3
enters_at_most flow.Pending = omega arith
enters_at_most flow.Suspended = omega arith
enters_at_most flow.Running = omega arith
enters_at_most flow.Suspending = omega arith
enters_at_most flow.Resuming = omega arith
enters_at_most flow.Success = omega arith
enters_at_most flow.Failure = omega arith
enters_at_most flow.Reverted = omega arith

-- the entries past the entering ones are at most as many as the root costs, and 2
inner_at_most : (plan : PlanValue) (before inner : List Entry) → compile_refusal plan ≡ None → IsWithinLimits (outline_of plan) → AreShort (inner ++ (reverse (entering (flow_of before)) ++ before)) → has_ended (flow_of before) ≡ false
    → list_all is_inner_entry inner ≡ true → LegalPast (outline_of plan) (inner ++ (reverse (entering (flow_of before)) ++ before))
    → (is_going (flow_of (inner ++ (reverse (entering (flow_of before)) ++ before))) ≡ true)
    × (length inner + left plan (snapshot (outline_of plan) (inner ++ (reverse (entering (flow_of before)) ++ before))) ≤ cost (tree_of plan.root) + 2)
inner_at_most plan before inner compiles limits short isnt inside legal =
    let base = reverse (entering (flow_of before)) ++ before in
    let going : is_going (flow_of base) ≡ true = ap is_going (enters_running before (flow_of before) isnt) in
    let all = spent plan base inner compiles limits short legal going inside in
    let most : left plan (snapshot (outline_of plan) base) ≤ cost (tree_of plan.root) + 2
    = left_at_most plan (snapshot (outline_of plan) base) limits.attempts (past_kept plan base compiles limits (part_of_short inner base short) (legal_before (outline_of plan) inner base legal)).counted in
    (all.going, omega (arith, all.less, most))

-- ---- a run

-- an entry by which a run stops isn't RESUMING
last_isnt : (f : FlowState) → is_last f ≡ true → what.Flow f ≢ what.Flow flow.Resuming
last_isnt f is same = let equal : f ≡ flow.Resuming = cc in let no : false ≡ true = ap is_last (sym equal) ∙ is in cc

-- with the entries with which a run enters
with_entering : (plan : PlanValue) (before : List Entry) (n : ℕ) → n ≤ cost (tree_of plan.root) + 2 → n + length (reverse (entering (flow_of before))) ≤ entry_bound plan
with_entering plan before n most =
    let same : length (reverse (entering (flow_of before))) ≡ length (entering (flow_of before)) = length-reverse (entering (flow_of before)) in
    let three : length (entering (flow_of before)) ≤ 3 = enters_at_most (flow_of before) in
    omega (arith, most, same, three)

-- so many entries, and what is left after them
abbrev spends : PlanValue → List Entry → List Entry → ℕ
spends plan entries past = length entries + left plan (snapshot (outline_of plan) past)

-- what a run that was halted recorded
halted_at_most : (plan : PlanValue) (before inner : List Entry) → compile_refusal plan ≡ None → IsWithinLimits (outline_of plan) → AreShort (inner ++ (reverse (entering (flow_of before)) ++ before)) → has_ended (flow_of before) ≡ false
    → list_all is_inner_entry inner ≡ true → LegalPast (outline_of plan) (inner ++ (reverse (entering (flow_of before)) ++ before))
    → spends plan (inner ++ reverse (entering (flow_of before))) (inner ++ (reverse (entering (flow_of before)) ++ before)) ≤ entry_bound plan
halted_at_most plan before inner compiles limits short isnt inside legal =
    let past = inner ++ (reverse (entering (flow_of before)) ++ before) in
    let all = inner_at_most plan before inner compiles limits short isnt inside legal in
    let most : (length inner + left plan (snapshot (outline_of plan) past)) + length (reverse (entering (flow_of before))) ≤ entry_bound plan
    = with_entering plan before (length inner + left plan (snapshot (outline_of plan) past)) all.1 in
    omega (arith, length-append inner (reverse (entering (flow_of before))), most)

-- what a run that stopped recorded: its last entry falls too
whole_at_most : (plan : PlanValue) (before inner : List Entry) (e : Entry) → compile_refusal plan ≡ None → IsWithinLimits (outline_of plan) → AreShort (inner ++ (reverse (entering (flow_of before)) ++ before)) → has_ended (flow_of before) ≡ false
    → list_all is_inner_entry inner ≡ true → LegalPast (outline_of plan) (e ∷ (inner ++ (reverse (entering (flow_of before)) ++ before))) → e.what ≢ what.Flow flow.Resuming
    → spends plan (e ∷ (inner ++ reverse (entering (flow_of before)))) (e ∷ (inner ++ (reverse (entering (flow_of before)) ++ before))) ≤ entry_bound plan
whole_at_most plan before inner e compiles limits short isnt inside legal last =
    let past = inner ++ (reverse (entering (flow_of before)) ++ before) in
    let all = inner_at_most plan before inner compiles limits short isnt inside legal.1 in
    let less : left plan (snapshot (outline_of plan) (e ∷ past)) < left plan (snapshot (outline_of plan) past) = one_spent plan past e compiles limits short legal all.0 last in
    let most : (length inner + 1 + left plan (snapshot (outline_of plan) (e ∷ past))) + length (reverse (entering (flow_of before))) ≤ entry_bound plan
    = with_entering plan before (length inner + 1 + left plan (snapshot (outline_of plan) (e ∷ past))) (omega (arith, all.1, less)) in
    omega (arith, length-append inner (reverse (entering (flow_of before))), most)

-- what is left at any moment
moment_at_most : (plan : PlanValue) (past : List Entry) → compile_refusal plan ≡ None → IsWithinLimits (outline_of plan) → AreShort past → LegalPast (outline_of plan) past
    → left plan (snapshot (outline_of plan) past) ≤ cost (tree_of plan.root) + 2
moment_at_most plan past compiles limits short legal = left_at_most plan (snapshot (outline_of plan) past) limits.attempts (past_kept plan past compiles limits short legal).counted

-- a run's entries and what is left after them are together within the bound
pub session_spends : (plan : PlanValue) (before entries : List Entry) (last : Option FlowState) → compile_refusal plan ≡ None → IsWithinLimits (outline_of plan) → AreShort before → AreShort entries
    → Session (outline_of plan) before entries last → length entries + left plan (snapshot (outline_of plan) (entries ++ before)) ≤ entry_bound plan
session_spends plan before entries last compiles limits old new (already_ended is legal) =
    let most : left plan (snapshot (outline_of plan) before) ≤ cost (tree_of plan.root) + 2 = moment_at_most plan before compiles limits old legal in
    omega (arith, most)
session_spends plan before entries last compiles limits old new (entered some others is legal) =
    let both : length (entering (flow_of before)) ≡ length some + length others = ap length is ∙ length-append some others in
    let three : length (entering (flow_of before)) ≤ 3 = enters_at_most (flow_of before) in
    let same : length (reverse some) ≡ length some = length-reverse some in
    let most : left plan (snapshot (outline_of plan) (reverse some ++ before)) ≤ cost (tree_of plan.root) + 2
    = moment_at_most plan (reverse some ++ before) compiles limits (both_short (reverse some) before new old) legal in
    omega (arith, both, three, same, most)
session_spends plan before entries last compiles limits old new (halted inner isnt inside legal) =
    subst (λ (past : List Entry). length (inner ++ reverse (entering (flow_of before))) + left plan (snapshot (outline_of plan) past) ≤ entry_bound plan)
    (sym (append_assoc inner (reverse (entering (flow_of before))) before))
    (halted_at_most plan before inner compiles limits
    (subst AreShort (append_assoc inner (reverse (entering (flow_of before))) before) (both_short (inner ++ reverse (entering (flow_of before))) before new old)) isnt inside legal)
session_spends plan before entries last compiles limits old new (whole hand f inner is inside isnt legal) =
    subst (λ (past : List Entry). suc (length (inner ++ reverse (entering (flow_of before)))) + left plan (snapshot (outline_of plan) (record { hand = hand; what = what.Flow f } ∷ past)) ≤ entry_bound plan)
    (sym (append_assoc inner (reverse (entering (flow_of before))) before))
    (whole_at_most plan before inner (record { hand = hand; what = what.Flow f }) compiles limits
    (subst AreShort (append_assoc inner (reverse (entering (flow_of before))) before) (both_short (inner ++ reverse (entering (flow_of before))) before new.1 old)) isnt inside legal (last_isnt f is))

pub session_at_most : (plan : PlanValue) (before entries : List Entry) (last : Option FlowState) → compile_refusal plan ≡ None → IsWithinLimits (outline_of plan) → AreShort before → AreShort entries
    → Session (outline_of plan) before entries last → length entries ≤ entry_bound plan
session_at_most plan before entries last compiles limits old new session =
    let both : length entries + left plan (snapshot (outline_of plan) (entries ++ before)) ≤ entry_bound plan = session_spends plan before entries last compiles limits old new session in
    omega (arith, both)
