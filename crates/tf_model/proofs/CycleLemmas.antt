-- Which cycle of links is reported.
use Rattle.std.proofs.Common.{◌≡◌, ℕ, ◌<◌, List, length, map, Option, None, Some, refl, sym}
use Rattle.std.specs.Prelude.{option_map}
use Rattle.tf_flow.specs.Outline.{atoms_of, flows_of}
use Rattle.tf_flow.specs.Plan.{PlanValue}
use Rattle.tf_flow.specs.Tree.{tree_of}
use Rattle.tf_links.specs.Graphs.{shortest_cycle, AreBelow, Chain}
use Rattle.tf_links.proofs.ReachLawLemmas.{chain_of, chain_reaches}
use Rattle.tf_numbers.specs.Numbers.{first_below}
use Rattle.tf_numbers.proofs.BelowLemmas.{found_passes, found_below, first_before, none_at}
use Rattle.tf_numbers.proofs.TruthLemmas.{clash}
use Rattle.tf_model.specs.Before.{Flow, find_flow, item_name}
use Rattle.tf_model.specs.Plan.{cycle, cycle_of, cycle_through, is_back, outline_of}
use Rattle.tf_model.specs.Laws.{IsFirstCycle}
use Rattle.tf_model.proofs.OrderLemmas.{IsArranged, each_arranged}

-- a flow's linked pairs are pairs of its items
among_items : (f : Flow) → IsArranged f → AreBelow (length f.place.items) f.linked
among_items f is = record { first = is.from; second = is.within }

arranged_flow : (plan : PlanValue) (g : ℕ) (f : Flow) → find_flow (outline_of plan).flows g ≡ Some f → AreBelow (length f.place.items) f.linked
arranged_flow plan g f found = among_items f (each_arranged (atoms_of 0 (tree_of plan.root)) (flows_of 0 0 (tree_of plan.root)) g f found)

pub cycle_is_first : (plan : PlanValue) (g : ℕ) (f : Flow) (names : List (List ℕ)) → find_flow (outline_of plan).flows g ≡ Some f → cycle_of f ≡ Some (cycle names) → IsFirstCycle f names
cycle_is_first plan g f names found is = by (first_below (length f.place.items) (is_back (length f.place.items) f.linked)) refl is
  where
    by : (o : Option ℕ) → first_below (length f.place.items) (is_back (length f.place.items) f.linked) ≡ o
        → option_map (cycle_through f.place (length f.place.items) f.linked) o ≡ Some (cycle names) → IsFirstCycle f names
    by None at is = absurd (cc)
    by (Some v) at is = record {
      item = v;
      within = found_below (length f.place.items) (is_back (length f.place.items) f.linked) v at;
      on = chain_of (length f.place.items) f.linked v v (found_passes (length f.place.items) (is_back (length f.place.items) f.linked) v at);
      first = λ u before chain. clash (is_back (length f.place.items) f.linked u) (chain_reaches (length f.place.items) f.linked (arranged_flow plan g f found) u u chain)
          (first_before (length f.place.items) (is_back (length f.place.items) f.linked) v u at before);
      named = let same : map (item_name f.place) (shortest_cycle (length f.place.items) f.linked v) ≡ names = cc in sym same;
    }

pub none_goes_round : (plan : PlanValue) (g : ℕ) (f : Flow) → find_flow (outline_of plan).flows g ≡ Some f → cycle_of f ≡ None → (u : ℕ) → u < length f.place.items → Chain f.linked u u → ⊥
none_goes_round plan g f found is u below chain = by (first_below (length f.place.items) (is_back (length f.place.items) f.linked)) refl is
  where
    by : (o : Option ℕ) → first_below (length f.place.items) (is_back (length f.place.items) f.linked) ≡ o
        → option_map (cycle_through f.place (length f.place.items) f.linked) o ≡ None → ⊥
    by None at is = clash (is_back (length f.place.items) f.linked u) (chain_reaches (length f.place.items) f.linked (arranged_flow plan g f found) u u chain)
        (none_at (length f.place.items) (is_back (length f.place.items) f.linked) u at below)
    by (Some v) at is = cc
