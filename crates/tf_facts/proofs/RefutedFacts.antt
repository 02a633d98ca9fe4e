-- Moments and histories that no legal run has: each is refused by what it breaks.
use Rattle.std.proofs.Common.{◌≡◌, ℕ, zero, suc, List, [], ◌∷◌, true, false, Option, Some, None, refl, arith}
use Rattle.std.specs.Prelude.{codes, reverse, slice_index_or}
use Rattle.tf_flow.specs.declared.atoms.Provides.TheVariants as provides
use Rattle.tf_flow.specs.declared.atoms.RetryKind.TheVariants as retry
use Rattle.tf_flow.specs.declared.nested.FlowKind.TheVariants as kind
use Rattle.tf_states.specs.declared.record.Entry.{Entry}
use Rattle.tf_states.specs.declared.record.Kind.TheVariants as resolved
use Rattle.tf_states.specs.declared.record.Payload.TheVariants as payload
use Rattle.tf_states.specs.declared.state.AtomState.{AtomState}
use Rattle.tf_states.specs.declared.state.AtomState.TheVariants as atom
use Rattle.tf_states.specs.declared.state.FlowState.TheVariants as flow
use Rattle.tf_model.specs.Plan.{Outline, is_before, holds}
use Rattle.tf_model.specs.History.{Resolve, Snapshot, mark_after, snapshot}
use Rattle.tf_model.proofs.RowWords.{number, echo, controller, flow_of_items, plan_of, by, to, gives, flow_to, resolves}
use Rattle.tf_facts.specs.Facts.{is_open, IsInOrder, HasWholeMarks, HasOpenAtoms, IsSettledAfter, IsDoneBefore, IsUndoneByMark, IsAloneRetrying, HasOrderlyReverts, InForce, IsSettledWithin, IsUndoneWithin}

-- a task, a flow with a retry controller and a task, and a task, one after another
abbrev middle_plan : Outline
middle_plan = plan_of (flow_of_items kind.Linear (codes "main") None (
    echo (codes "p") (number 1)
    ∷ flow_of_items kind.Linear (codes "f") (controller (codes "r") (retry.Times 2 false) [] [] provides.Nothing) (echo (codes "a") (number 2) ∷ [])
    ∷ echo (codes "q") (number 3)
    ∷ []))

abbrev middle_revert : Option Resolve
middle_revert = Some (record { flow = 1; kind = resolved.Revert })

-- the states of the four, and the mark of the flow's two
abbrev states : AtomState → AtomState → AtomState → AtomState → ℕ → AtomState
states p r a q n = slice_index_or (p ∷ r ∷ a ∷ q ∷ []) n atom.Pending

abbrev marks : Option Resolve → Option Resolve → ℕ → Option Resolve
marks r a n = slice_index_or (None ∷ r ∷ a ∷ []) n None

abbrev moment : (ℕ → AtomState) → (ℕ → Option Resolve) → Snapshot
moment state mark = record { state = state; payload = λ n. payload.Empty; hand = λ n. None; mark = mark; attempts = λ n. 0; flow = flow.Running }

-- the last is RUNNING though the first is PENDING
pub runs_too_early : IsInOrder middle_plan (moment (states atom.Pending atom.Success atom.Success atom.Running) (marks None None)) → ⊥
unfolding is_before
runs_too_early order = let wrong : false ≡ true = order 0 3 refl refl in cc

-- one of the flow's two is marked, the other isn't
pub half_marked : HasWholeMarks middle_plan (moment (states atom.Success atom.Success atom.Failure atom.Pending) (marks None middle_revert)) → ⊥
unfolding holds
half_marked whole = let wrong : None ≡ middle_revert = (whole 2 (record { flow = 1; kind = resolved.Revert }) refl).1 1 refl in cc

-- both are marked, and SUCCESS
pub nothing_open : HasOpenAtoms middle_plan (moment (states atom.Success atom.Success atom.Success atom.Pending) (marks middle_revert middle_revert)) → ⊥
unfolding holds
nothing_open opens = let found = opens 1 refl in none found.number found.inside found.opened
  where
    none : (n : ℕ) → holds middle_plan 1 n ≡ true → is_open (states atom.Success atom.Success atom.Success atom.Pending n) ≡ true → ⊥
    none zero inside opened = cc
    none (suc zero) inside opened = cc
    none (suc (suc zero)) inside opened = cc
    none (suc (suc (suc zero))) inside opened = cc
    none (suc (suc (suc (suc n)))) inside opened = cc

-- a flow is to be reverted while what is after it is RUNNING
pub runs_after_region : IsSettledAfter middle_plan (moment (states atom.Success atom.Success atom.Failure atom.Running) (marks middle_revert middle_revert)) → ⊥
unfolding holds is_before
runs_after_region settled = let wrong : false ≡ true = settled 1 2 3 refl refl refl refl in cc

-- it is to be reverted though what is before it never ran
pub waits_before_region : IsDoneBefore middle_plan (moment (states atom.Pending atom.Success atom.Failure atom.Pending) (marks middle_revert middle_revert)) → ⊥
unfolding holds is_before
waits_before_region done = let wrong : false ≡ true = done 1 2 0 refl refl refl refl in cc

-- a task is REVERTING that nothing was resolved for
pub reverting_unmarked : IsUndoneByMark middle_plan (moment (states atom.Success atom.Success atom.Reverting atom.Pending) (marks None None)) → ⊥
reverting_unmarked undone = let wrong : true ≡ false = undone 2 (omega arith) refl in cc

-- a retry controller begins again while its flow's task is RUNNING
pub retrying_beside_running : IsAloneRetrying middle_plan (moment (states atom.Success atom.Retrying atom.Running atom.Pending) (marks middle_revert middle_revert)) → ⊥
unfolding holds
retrying_beside_running alone = let wrong : false ≡ true = alone 1 1 2 refl refl refl (λ same. cc) in cc

-- ---- histories that end REVERTED

-- nothing was resolved
pub reverted_without_region : InForce middle_plan (snapshot middle_plan (by 0 (flow_to flow.Reverted) ∷ by 0 (flow_to flow.Running) ∷ [])) → ⊥
unfolding snapshot mark_after
reverted_without_region found = let wrong : false ≡ true = found.region in cc

-- what was resolved to be reverted is still SUCCESS
abbrev left_over : List Entry
left_over = reverse (by 0 (flow_to flow.Running) ∷ by 0 (to 2 atom.Running) ∷ by 0 (gives 2 (number 2)) ∷ by 0 (resolves 1 resolved.Revert) ∷ by 0 (flow_to flow.Reverted) ∷ [])

pub reverted_with_success : IsSettledWithin middle_plan left_over → ⊥
unfolding snapshot mark_after holds
reverted_with_success settled = let wrong : false ≡ true = settled 1 2 refl refl in cc

-- what was started there is IGNORE
abbrev passed_over : List Entry
passed_over = reverse (by 0 (flow_to flow.Running) ∷ by 0 (to 2 atom.Running) ∷ by 0 (to 2 atom.Ignore) ∷ by 0 (resolves 1 resolved.Revert) ∷ by 0 (flow_to flow.Reverted) ∷ [])

pub started_and_ignored : IsUndoneWithin middle_plan passed_over → ⊥
unfolding snapshot mark_after holds
started_and_ignored undone = let wrong : atom.Ignore ≡ atom.Reverted = undone 1 2 refl refl refl in cc

-- the first is reverted while the last is SUCCESS
abbrev out_of_order : List Entry
out_of_order = reverse (by 0 (flow_to flow.Running) ∷ by 0 (gives 0 (number 1)) ∷ by 0 (gives 3 (number 3)) ∷ by 0 (to 0 atom.Reverting) ∷ [])

pub reverted_out_of_order : HasOrderlyReverts middle_plan out_of_order → ⊥
unfolding is_before
reverted_out_of_order orderly = let wrong : false ≡ true = orderly.0 0 3 refl refl in cc
