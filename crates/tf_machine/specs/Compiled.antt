-- A plan with what is compiled of it.
use Rattle.std.specs.Prelude.{◌≡◌, ℕ, ℤ, List, [], ◌∷◌, length, Bool, true, false, ◌<◌, ◌≤◌, Option, Some, None, map, int_lt, slice_get}
use Rattle.tf_flow.specs.Plan.{PlanValue}
use Rattle.tf_order.specs.Graph.{GraphValue, IsGraphOf}
use Rattle.tf_flow.specs.Outline.{Atom, priority_of}
use Rattle.tf_model.specs.Readiness.{refused}
use Rattle.tf_machine.specs.declared.compiled.Span.{Span}
use Rattle.tf_model.specs.Forced.{holds_with}
use Rattle.tf_model.specs.Plan.{Outline, outline_of, count, holds}
use Rattle.tf_model.specs.History.{Snapshot}
use Rattle.tf_model.specs.Scope.{missing_symbol}
use Rattle.tf_scopes.specs.declared.sources.Source.{Source}
use Rattle.tf_scopes.specs.Providers.{IsOf}

-- the priority of an atom
abbrev pub priority_at : Atom → ℤ
priority_at atom = priority_of atom.part

-- of each atom it is told whether a link with a decider leads to it: where it is false, nothing refuses the atom
pub record AreDecided (plan : Outline) (decided : List Bool) : Type 0 where
  pub as_many : length decided ≡ count plan
  pub never : (a : ℕ) → slice_get decided a ≡ Some false → (s : Snapshot) → refused plan s a ≡ None

-- none of the numbers is greater
abbrev pub AreNoGreater : ℤ → List ℤ → Type 0
AreNoGreater most [] = Unit {0}
AreNoGreater most (n ∷ numbers) = (int_lt most n ≡ false) × AreNoGreater most numbers

-- an atom is one of those of a span
abbrev pub IsInSpan : Span → ℕ → Type 0
IsInSpan span a = (span.first ≤ a) × (a < span.end)

-- among the atoms of a span are all that a flow holds
pub record IsSpanOf (plan : Outline) (flow : ℕ) (span : Span) : Type 0 where
  pub within : span.end ≤ count plan
  pub each : (a : ℕ) → holds plan flow a ≡ true → IsInSpan span a

-- the same of a flow, if one is named
pub record IsSpanAround (plan : Outline) (flow : Option ℕ) (span : Span) : Type 0 where
  pub within : span.end ≤ count plan
  pub each : (a : ℕ) → holds_with plan flow a ≡ true → IsInSpan span a

-- each span that stands at the number of a flow is that of the flow
abbrev pub AreSpans : Outline → List Span → Type 0
AreSpans plan spans = (flow : ℕ) (span : Span) → slice_get spans flow ≡ Some span → IsSpanOf plan flow span

-- the graph is the plan's, so is what tells from where its atoms take their values, and no symbol is missing; the
-- priorities are those of its atoms, and none is greater than the greatest; and it is told which of them are decided
-- on, and among which atoms are those of each flow
pub record IsCompiled (plan : PlanValue) (order : GraphValue) (sources : List (List Source)) (numbers : List ℤ)
    (most : ℤ) (marks : List Bool) (found : List Span) : Type 0 where
  pub graph : IsGraphOf order plan
  pub providers : IsOf sources plan
  pub complete : missing_symbol (outline_of plan) ≡ None
  pub priorities : numbers ≡ map priority_at (outline_of plan).atoms
  pub greatest : AreNoGreater most numbers
  pub decided : AreDecided (outline_of plan) marks
  pub spans : AreSpans (outline_of plan) found
