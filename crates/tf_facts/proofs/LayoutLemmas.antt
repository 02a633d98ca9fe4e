-- What the order of a plan's atoms and its flows give to a run.
use Rattle.std.proofs.Common.{◌≡◌, ◌≢◌, ℕ, zero, suc, ◌<◌, List, [], ◌∷◌, length, slice_get, true, false, Some, None, refl, ◌⊎◌, inl, inr, arith}
use Rattle.tf_flow.specs.declared.deciders.Depth.{Depth}
use Rattle.tf_flow.specs.Plan.{PlanValue}
use Rattle.tf_flow.specs.Outline.{Part, a_task, a_retry, Atom}
use Rattle.tf_flow.specs.declared.paths.Turn.{Turn}
use Rattle.tf_model.specs.Before.{Flow, path_before, passes_flow}
use Rattle.tf_model.specs.Plan.{Outline, outline_of, count, path, is_before, holds, is_retry, is_task, own_flow, compile_refusal}
use Rattle.tf_model.specs.History.{Snapshot}
use Rattle.tf_model.specs.Retries.{resolution}
use Rattle.tf_model.specs.Readiness.{ignores}
use Rattle.tf_model.proofs.Told.{path_in, is_retry_in, is_task_in}
use Rattle.tf_model.specs.Laws.{AreOrdered}
use Rattle.tf_model.proofs.PathLemmas.{alike_in}
use Rattle.tf_model.proofs.RetryLemmas as retries
use Rattle.tf_model.proofs.NestingLemmas.{nested_in, own_flow_in}
use Rattle.tf_model.proofs.OrderLemmas.{plan_ordered}
use Rattle.tf_model.proofs.ResolutionLemmas.{resolution_holds}
use Rattle.tf_model.proofs.IgnoredLemmas.{ignored_after}

-- ---- truth values and numbers

-- ---- what the plan gives

-- how atoms and flows stand to one another, and where a resolution and what a refused task ignores lie
pub record IsLaidOut (plan : Outline) : Type 0 where
  pub alike : (g a b x : ℕ) → holds plan g a ≡ true → holds plan g b ≡ true → holds plan g x ≡ false
      → (is_before plan x a ≡ is_before plan x b) × (is_before plan a x ≡ is_before plan b x)
  pub retry_first : (r g b : ℕ) → is_retry plan r ≡ true → own_flow plan r ≡ Some g → holds plan g b ≡ true → r ≢ b → is_before plan r b ≡ true
  pub own_within : (a own g b : ℕ) → own_flow plan a ≡ Some own → holds plan g a ≡ true → holds plan own b ≡ true → holds plan g b ≡ true
  pub nested : (g h shared : ℕ) → holds plan g shared ≡ true → holds plan h shared ≡ true
      → ((a : ℕ) → holds plan h a ≡ true → holds plan g a ≡ true) ⊎ ((a : ℕ) → holds plan g a ≡ true → holds plan h a ≡ true)
  pub ordered : AreOrdered plan.flows
  pub resolved : (s : Snapshot) (a : ℕ) → a < count plan → holds plan (resolution plan s a).flow a ≡ true
  pub ignored : (v : ℕ) (how : Depth) (a : ℕ) → ignores plan v how a ≡ true → (v ≡ a) ⊎ (is_before plan v a ≡ true)

pub laid_out : (plan : PlanValue) → compile_refusal plan ≡ None → IsLaidOut (outline_of plan)
laid_out plan compiles = record {
  alike = alike_in plan;
  retry_first = retries.retry_first plan;
  own_within = own_flow_in plan;
  nested = nested_in plan;
  ordered = plan_ordered plan compiles;
  resolved = resolution_holds plan;
  ignored = λ v how a. ignored_after plan v how a compiles;
}

-- ---- numbers that an atom has

has_path : (xs : List Atom) (k : ℕ) (turn : Turn) (rest : List Turn) → path_in (slice_get xs k) ≡ turn ∷ rest → k < length xs
has_path [] k turn rest is = absurd (cc)
has_path (x ∷ xs) zero turn rest is = omega arith
has_path (x ∷ xs) (suc k) turn rest is = let below : k < length xs = has_path xs k turn rest is in omega (arith, below)

later_path : (flows : List Flow) (xs ys : List Turn) (P : Type 0) → path_before flows xs ys ≡ true → ((turn : Turn) (rest : List Turn) → ys ≡ turn ∷ rest → P) → P
later_path flows [] ys P is each = absurd (cc)
later_path flows (x ∷ xs) [] P is each = absurd (cc)
later_path flows (x ∷ xs) (y ∷ ys) P is each = each y ys refl

-- what an atom is before, is an atom
pub before_below : (plan : Outline) (a b : ℕ) → is_before plan a b ≡ true → b < count plan
unfolding is_before
before_below plan a b is = later_path plan.flows (path plan a) (path plan b) (b < count plan) is (λ turn rest found. has_path plan.atoms b turn rest found)

-- what is before an atom, is an atom
pub before_below_first : (plan : Outline) (a b : ℕ) → is_before plan a b ≡ true → a < count plan
unfolding is_before
before_below_first plan a b is = on_path (path plan a) refl is
  where
    on_path : (turns : List Turn) → path plan a ≡ turns → path_before plan.flows turns (path plan b) ≡ true → a < count plan
    on_path [] was before = absurd (cc)
    on_path (turn ∷ turns) was before = has_path plan.atoms a turn turns was

-- what a flow holds, is an atom
pub held_below : (plan : Outline) (g a : ℕ) → holds plan g a ≡ true → a < count plan
unfolding holds
held_below plan g a is = on_path (path plan a) refl is
  where
    on_path : (turns : List Turn) → path plan a ≡ turns → passes_flow g turns ≡ true → a < count plan
    on_path [] was on = absurd (cc)
    on_path (turn ∷ turns) was on = has_path plan.atoms a turn turns was

-- the flow in which an atom stands holds it
pub own_holds : (plan : Outline) (a g : ℕ) → own_flow plan a ≡ Some g → holds plan g a ≡ true
unfolding holds
own_holds plan a g is = retries.passes_last g (path plan a) is

-- an atom is a task or a retry controller
pub task_or_retry : (plan : Outline) (a : ℕ) → a < count plan → (is_task plan a ≡ true) ⊎ (is_retry plan a ≡ true)
task_or_retry plan a below = one plan.atoms a below
  where
    of_part : (p : Part) (path : List Turn) → (is_task_in (Some (record { path = path; part = p })) ≡ true) ⊎ (is_retry_in (Some (record { path = path; part = p })) ≡ true)
    of_part (a_task t) path = inl refl
    of_part (a_retry r) path = inr refl

    one : (xs : List Atom) (k : ℕ) → k < length xs → (is_task_in (slice_get xs k) ≡ true) ⊎ (is_retry_in (slice_get xs k) ≡ true)
    one [] k in_it = absurd (omega arith)
    one (x ∷ xs) zero in_it = of_part x.part x.path
    one (x ∷ xs) (suc k) in_it = one xs k (omega arith)
