-- The flow in which an atom stands itself.
use Rattle.std.proofs.Common.{◌≡◌, ℕ, List, [], map, Option, Some, None, refl, sym, ap, ◌∙◌}
use Rattle.tf_flow.specs.declared.nested.Flow.{Flow as FlowValue}
use Rattle.tf_flow.specs.declared.paths.Turn.{Turn}
use Rattle.tf_flow.specs.Outline.{connection_of}
use Rattle.tf_flow.specs.Plan.{PlanValue}
use Rattle.tf_flow.specs.Plan as numbering
use Rattle.tf_flow.specs.Rules.{is_graph}
use Rattle.tf_flow.specs.Tree.{Tree, tree_of}
use Rattle.tf_model.specs.Before.{Flow, no_flow}
use Rattle.tf_model.specs.Plan.{outline_of, own_flow, last_flow}
use Rattle.tf_model.proofs.Told.{flow_in, found_home, connections_in}
use Rattle.tf_order.specs.Paths.{flow_of_turn}
use Rattle.tf_order.proofs.PathLemmas.{last_turn_flow}
use Rattle.std.specs.Prelude.{slice_get, length, ◌-◌, Bool, false}
use Rattle.std.specs.Option.{unwrap_or}
use Rattle.tf_rules.specs.Flows.{tree_at, home_tree}
use Rattle.tf_rules.proofs.FlowLemmas.{Fits, flow_there, flow_nowhere, links_of_flow, kind_of_flow, parts_of}
use Rattle.tf_model.proofs.PlanLemmas.{path_told}

-- whether a flow that may be there is a graph
abbrev pub is_graph_in : Option Flow → Bool
is_graph_in o = is_graph (unwrap_or o no_flow).place.kind

-- the last turn of an atom's path leads into its own flow
pub own_told : (plan : PlanValue) (a : ℕ) (w : List Turn) (found : Option Turn) → slice_get (numbering.paths plan) a ≡ Some w → found ≡ slice_get w (length w - 1) → flow_of_turn found ≡ own_flow (outline_of plan) a
own_told plan a w found is told = sym (last_turn_flow w found told) ∙ ap last_flow (path_told plan a w is)

nowhere_by : (plan : PlanValue) (o : Option ℕ) → tree_at plan o ≡ None → flow_in (outline_of plan) o ≡ None
nowhere_by plan None is = refl
nowhere_by plan (Some g) is = flow_nowhere plan g is

-- the flow of that number in the outline
record FoundBy (plan : PlanValue) (o : Option ℕ) (t : Tree) : Type 0 where
  flow : Flow
  number : ℕ
  is : flow_in (outline_of plan) o ≡ Some flow
  fits : Fits (parts_of plan) number flow.place t

found_by : (plan : PlanValue) (o : Option ℕ) (t : Tree) → tree_at plan o ≡ Some t → FoundBy plan o t
found_by plan None t is = absurd (cc)
found_by plan (Some g) t is = let found = flow_there plan g t is in record { flow = found.flow; number = g; is = found.is; fits = found.fits }

pub no_links : (plan : PlanValue) (a : ℕ) → home_tree plan a ≡ None → connections_in (found_home (outline_of plan) a) ≡ []
no_links plan a is = ap connections_in (nowhere_by plan (own_flow (outline_of plan) a) is)

pub links_told : (plan : PlanValue) (a : ℕ) (f : FlowValue) → home_tree plan a ≡ Some (tree_of f) → connections_in (found_home (outline_of plan) a) ≡ map connection_of f.links
links_told plan a f is =
    let found = found_by plan (own_flow (outline_of plan) a) (tree_of f) is in
    ap connections_in found.is ∙ (found.fits.links ∙ ap (map connection_of) (links_of_flow f))

pub no_graph : (plan : PlanValue) (a : ℕ) → home_tree plan a ≡ None → is_graph_in (found_home (outline_of plan) a) ≡ false
no_graph plan a is = ap is_graph_in (nowhere_by plan (own_flow (outline_of plan) a) is)

pub graph_told : (plan : PlanValue) (a : ℕ) (f : FlowValue) → home_tree plan a ≡ Some (tree_of f) → is_graph_in (found_home (outline_of plan) a) ≡ is_graph f.kind
graph_told plan a f is =
    let found = found_by plan (own_flow (outline_of plan) a) (tree_of f) is in
    let kinds : Some found.flow.place.kind ≡ Some f.kind = found.fits.kind ∙ kind_of_flow f in
    let same : found.flow.place.kind ≡ f.kind = cc in
    ap is_graph_in found.is ∙ ap is_graph same
