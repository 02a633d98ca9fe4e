-- What is found of a plan while it is compiled: its flows as they are arranged, their faults, and rows of numbers.
use Rattle.tf_flow.specs.Paths.{shown_part}
use Rattle.std.specs.Prelude.{◌≡◌, ℕ, zero, suc, ◌+◌, ◌<◌, ◌≤◌, ◌⊎◌, List, [], ◌∷◌, ◌++◌, Bool, true, false, ◌&&◌, Option, Some, None, length, drop, map, nat_eq, slice_get, slice_index_or, slice_range, if◌then◌else◌}
use Rattle.tf_flow.specs.declared.nested.FlowKind.{FlowKind}
use Rattle.tf_flow.specs.declared.nested.FlowKind.TheVariants as kind
use Rattle.tf_numbers.specs.Numbers.{numbers_below, has_number, which_below}
use Rattle.tf_flow.specs.Outline.{Atom, FlowPlace, is_task_part}
use Rattle.tf_model.specs.Before.{Flow, flow_at, no_flow, arranged, provides_at}
use Rattle.tf_model.specs.Readiness.{last_item, same_flow}
use Rattle.tf_model.specs.Plan.{CompileRefusal, refusal_among, Outline as PlanOutline, outline_with, count, is_before, last_flow}
use Rattle.tf_order.specs.declared.arranged.Arranged.{Arranged}
use Rattle.tf_order.specs.declared.faults.CompileFault.{CompileFault}
use Rattle.tf_order.specs.declared.index.NameIndex.{NameIndex}
use Rattle.tf_flow.specs.declared.listing.AtomPlace.{AtomPlace}
use Rattle.tf_flow.specs.declared.listing.Outline.{Outline}
use Rattle.tf_flow.specs.declared.paths.Turn.{Turn}
use Rattle.tf_order.specs.Arranged.{ShowsFlows}
use Rattle.tf_order.specs.Graph.{GraphValue, leads_in, predecessors_of, successors_of, direct_tasks_of, standing_of_plan}
use Rattle.tf_order.specs.Index.{told}
use Rattle.tf_links.specs.Links.{leads}
use Rattle.tf_order.specs.Looked.{told_in}
use Rattle.tf_flow.specs.Listing.{shown_atoms, shown_levels}
use Rattle.tf_order.specs.Rows.{row_at}
use Rattle.tf_order.specs.Intervals.{TellsTheSame}
use Rattle.tf_order.specs.Paths.{flow_of_turn, item_of_turn}

-- the fault at a place, where there is such a place
abbrev pub fault_in : Option (Option CompileFault) → Option CompileFault
fault_in None = None
fault_in (Some fault) = fault

-- the refusal that the fault of a flow tells
abbrev pub told_at : List (Option CompileFault) → ℕ → Option CompileRefusal
told_at faults g = told_in (fault_in (slice_get faults g))

-- the flows from a number on were looked at: the table has them as they are arranged, and the faults
-- tell their refusals
pub record AreLooked (atoms : List Atom) (places : List FlowPlace) (from : ℕ) (table : List (Option Arranged))
    (faults : List (Option CompileFault)) : Type 0 where
  pub height : length table ≡ length places
  pub fault_height : length faults ≡ length places
  pub shows : ShowsFlows table (arranged atoms (drop from places))
  pub told : (g : ℕ) → told_at faults g ≡ refusal_among atoms g (arranged atoms (drop from places))

-- the plan of the atoms and flows that were found; what it has in its store is not asked here
unfoldable pub plan_seen : Outline → PlanOutline
plan_seen outline = outline_with (shown_atoms outline.atoms.items) (shown_levels outline.levels.items) [] false

-- item u leads to item v, by kind: to the next one, to none, or to those in its row of links
abbrev pub leads_by_rows : FlowKind → List (List ℕ) → ℕ → ℕ → Bool
leads_by_rows kind.Linear rows u v = nat_eq (u + 1) v
leads_by_rows kind.Unordered rows u v = false
leads_by_rows kind.Graph rows u v = leads rows u v

-- item u of a flow that is arranged leads to item v
abbrev pub item_leads : Arranged → ℕ → ℕ → Bool
item_leads flow u v = leads_by_rows flow.kind flow.links.rows u v

-- the flow of a number; where there is no number, one with nothing in it
abbrev pub flow_in_flows : List Flow → Option ℕ → Flow
flow_in_flows flows None = no_flow
flow_in_flows flows (Some g) = flow_at flows g

-- the atom is a task of the flow into which the turn leads, and the turn's place leads to its place
abbrev pub leads_from : List Flow → Option Turn → AtomPlace → Bool
leads_from flows from atom =
    (is_task_part (shown_part atom.part) && same_flow (last_flow atom.path) (flow_of_turn from))
    && leads_in (flow_in_flows flows (flow_of_turn from)) (item_of_turn from) (last_item atom.path)

-- each number of the list is below another
abbrev pub AllBelow : ℕ → List ℕ → Type 0
AllBelow most numbers = (k : ℕ) → has_number numbers k ≡ true → k < most

-- how many atoms were found
abbrev pub atoms_found : Outline → ℕ
atoms_found outline = length outline.atoms.items

-- the number, where the test is true
abbrev pub number_if : Bool → ℕ → List ℕ
number_if on n = if on then n ∷ [] else []

-- the row of a number has more at its end, and the other rows stay
pub record RowAdded (at : ℕ) (more : List ℕ) (old new : List (List ℕ)) : Type 0 where
  pub height : length new ≡ length old
  pub told : (k : ℕ) → row_at new k ≡ (if nat_eq at k then row_at old k ++ more else row_at old k)

-- the row has the numbers below a that pass the test; or it is open: it has those below the number at which it
-- was opened, and all from there on up to before a pass
pub record IsRowUpTo (test : ℕ → Bool) (a : ℕ) (on : Bool) (row : List ℕ) (from : ℕ) : Type 0 where
  pub whole : on ≡ false → row ≡ which_below a test
  pub begun : on ≡ true → row ≡ which_below from test
  pub earlier : on ≡ true → from ≤ a
  pub all : on ≡ true → TellsTheSame test true from a

-- the rows from one up to before the end have those before them among the atoms below a, or are open
abbrev pub AreRowsUpTo : PlanOutline → ℕ → (ℕ → Bool) → ℕ → ℕ → List (List ℕ) → List ℕ → Type 0
AreRowsUpTo plan a on first end rows opened =
    (k : ℕ) → first ≤ k → k < end → IsRowUpTo (λ x. is_before plan x k) a (on k) (row_at rows k)
    (slice_index_or opened k 0)

-- the atom that stands before a in tree order is before k; none stands before the first
abbrev pub is_after_last : PlanOutline → ℕ → ℕ → Bool
is_after_last plan zero k = false
is_after_last plan (suc a) k = is_before plan a k

-- the rows below b, of so many, have those up to the atom a, and the others those up to before it; those are open
-- that the last one comes before
pub record AreRowsAt (plan : PlanOutline) (count a b : ℕ) (rows : List (List ℕ)) (opened : List ℕ) : Type 0 where
  pub height : length rows ≡ count
  pub width : length opened ≡ count
  pub done : AreRowsUpTo plan (suc a) (is_before plan a) 0 b rows opened
  pub left : AreRowsUpTo plan a (is_after_last plan a) b count rows opened

-- the numbers from one place up to before the end are this one, and the others stay
pub record AreSet (number from end : ℕ) (old new : List ℕ) : Type 0 where
  pub height : length new ≡ length old
  pub inside : (k : ℕ) → from ≤ k → k < end → slice_index_or new k 0 ≡ number
  pub outside : (k : ℕ) → (k < from) ⊎ (end ≤ k) → slice_index_or new k 0 ≡ slice_index_or old k 0

-- each row from one up to before the end has at its end the numbers from where it was opened up to before this one, and
-- the other rows stay
pub record AreClosed (numbers : List ℕ) (number from end : ℕ) (opened : List ℕ) (old new : List (List ℕ)) : Type 0 where
  pub height : length new ≡ length old
  pub inside : (k : ℕ) → from ≤ k → k < end
      → row_at new k ≡ row_at old k ++ slice_range numbers (slice_index_or opened k 0) number
  pub outside : (k : ℕ) → (k < from) ⊎ (end ≤ k) → row_at new k ≡ row_at old k

-- a row for each of so many numbers
pub record AreRows (count : ℕ) (row : ℕ → List ℕ) (rows : List (List ℕ)) : Type 0 where
  pub height : length rows ≡ count
  pub told : (k : ℕ) → k < count → row_at rows k ≡ row k

-- the lists of a graph are those of the plan
pub record AreTables (graph : GraphValue) (plan : PlanOutline) : Type 0 where
  pub predecessors : graph.predecessors ≡ map (predecessors_of plan) (numbers_below (count plan))
  pub successors : graph.successors ≡ map (successors_of plan) (numbers_below (count plan))
  pub direct_tasks : graph.direct_tasks ≡ map (direct_tasks_of plan) (numbers_below (count plan))
  pub standing : graph.standing ≡ standing_of_plan plan

-- who provides a symbol is told
abbrev pub AreProviders : Outline → NameIndex → Type 0
AreProviders outline index =
    (symbol : List ℕ) → told index symbol
    ≡ which_below (length outline.atoms.items) (provides_at (shown_atoms outline.atoms.items) symbol)

-- so many places with nothing in them
pub record AreNone {X : Type 0} (count : ℕ) (places : List (Option X)) : Type 0 where
  pub height : length places ≡ count
  pub none : (k : ℕ) → k < count → slice_get places k ≡ Some None
