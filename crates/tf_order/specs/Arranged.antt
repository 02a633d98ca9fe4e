-- Flows that are arranged already, by their numbers.
use Rattle.std.specs.Prelude.{◌≡◌, ℕ, List, Bool, false, ◌&&◌, Option, Some, None, nat_lt, slice_get}
use Rattle.tf_flow.specs.declared.nested.FlowKind.{FlowKind}
use Rattle.tf_flow.specs.declared.nested.FlowKind.TheVariants as kind
use Rattle.tf_numbers.specs.Numbers.{has_pair}
use Rattle.tf_model.specs.Before.{Flow, find_flow}
use Rattle.tf_order.specs.declared.arranged.Arranged.{Arranged}
use Rattle.tf_links.specs.Links.{leads}

-- item u comes before item v, by kind: where it stands earlier, never, or where it reaches it
abbrev pub comes_by : FlowKind → ℕ → List (List ℕ) → ℕ → ℕ → Bool
comes_by kind.Linear count reach u v = nat_lt u v && nat_lt v count
comes_by kind.Unordered count reach u v = false
comes_by kind.Graph count reach u v = leads reach u v

-- item u of the flow comes before item v
abbrev pub comes_before : Arranged → ℕ → ℕ → Bool
comes_before flow u v = comes_by flow.kind flow.links.count flow.reach.items u v

-- the flow is arranged as the definition says
pub record IsArranged (flow : Arranged) (f : Flow) : Type 0 where
  pub kind : flow.kind ≡ f.place.kind
  pub order : (u v : ℕ) → comes_before flow u v ≡ has_pair f.order u v
  pub linked : (u v : ℕ) → leads flow.links.rows u v ≡ has_pair f.linked u v
  pub standing : flow.standing.items ≡ f.standing

-- the flow of a number is there in both, or in none
abbrev pub IsShownAt : Option (Option Arranged) → Option Flow → Type 0
IsShownAt None None = Unit {0}
IsShownAt (Some None) None = Unit {0}
IsShownAt (Some (Some flow)) (Some f) = IsArranged flow f
IsShownAt None (Some f) = ⊥
IsShownAt (Some None) (Some f) = ⊥
IsShownAt (Some (Some flow)) None = ⊥

-- the table has these flows, each at its number
abbrev pub ShowsFlows : List (Option Arranged) → List Flow → Type 0
ShowsFlows table flows = (g : ℕ) → IsShownAt (slice_get table g) (find_flow flows g)
