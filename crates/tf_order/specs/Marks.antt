-- The items of a flow that ways lead through, and the atoms that serve one another within an item.
use Rattle.std.specs.Prelude.{ℕ, List, Bool, ◌&&◌, Some, nat_lt, not, nat_eq}
use Rattle.tf_flow.specs.Outline.{Atom}
use Rattle.tf_flow.specs.declared.paths.Turn.{Turn}
use Rattle.tf_model.specs.Before.{Flow, takes_item, passes_item, path_before, path_at, is_inside}
use Rattle.tf_links.specs.Links.{leads}

-- the turn takes item u of the flow, which is below the count
abbrev pub marks_turn : ℕ → ℕ → Turn → ℕ → Bool
marks_turn flow count turn u = nat_lt u count && takes_item flow (Some u) turn

-- the path leads through item u of the flow, which is below the count
abbrev pub marks : ℕ → ℕ → List Turn → ℕ → Bool
marks flow count path u = nat_lt u count && passes_item flow (Some u) path

-- the other atom stands in the item, and is before a
abbrev pub serves_in : List Atom → List Flow → ℕ → ℕ → ℕ → ℕ → Bool
serves_in atoms inner g v a other =
    is_inside atoms g v other && path_before inner (path_at atoms other) (path_at atoms a)

-- the row of u has the item
abbrev pub leads_to_item : List (List ℕ) → ℕ → ℕ → Bool
leads_to_item rows item u = leads rows u item

-- another number than this one
abbrev pub is_other : ℕ → ℕ → Bool
is_other item u = not (nat_eq u item)
