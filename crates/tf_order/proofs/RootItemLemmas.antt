-- Which items of the root flow come before one of them.
use Rattle.std.proofs.Common.{◌≡◌, ◌∙◌, ℕ, ◌+◌, List, [], ◌∷◌, ◌++◌, map, length, drop, Bool, Option, refl, sym, ap, subst, add-one}
use Rattle.std.proofs.lemmas.List.{map-append}
use Rattle.tf_flow.specs.Items.{item_list}
use Rattle.tf_flow.specs.Outline.{FlowPlace, atoms_of, flows_of}
use Rattle.tf_flow.specs.Plan.{PlanValue}
use Rattle.tf_flow.specs.Tree.{tree_of}
use Rattle.tf_flow.specs.Listing.{shown_atoms, shown_levels}
use Rattle.tf_flow.specs.declared.listing.Outline.{Outline}
use Rattle.tf_model.specs.Before.{Flow, item_before, arranged}
use Rattle.tf_model.specs.Plan.{outline_of, root_item_before}
use Rattle.tf_numbers.proofs.EquationLemmas.{ap2}
use Rattle.tf_numbers.specs.Numbers.{numbers_below}
use Rattle.tf_order.specs.Arranged.{ShowsFlows}
use Rattle.tf_order.specs.Tables.{AreLooked}
use Rattle.tf_order.specs.declared.arranged.Arranged.{Arranged}
use Rattle.tf_order.specs.declared.faults.CompileFault.{CompileFault}

pub marks_more : (f : ℕ → Bool) (n : ℕ) (marks new : List Bool) (mark : Bool) → marks ≡ map f (numbers_below n) → mark ≡ f n → new ≡ marks ++ mark ∷ [] → new ≡ map f (numbers_below (n + 1))
marks_more f n marks new mark is mark_is pushed =
    pushed
    ∙ (ap2 (λ (xs : List Bool) (m : Bool). xs ++ m ∷ []) is mark_is
    ∙ (sym (map-append f (numbers_below n) (n ∷ []))
    ∙ ap (λ (k : ℕ). map f (numbers_below k)) (sym (add-one n))))

pub marks_whole : (f : ℕ → Bool) (n m : ℕ) (marks : List Bool) → marks ≡ map f (numbers_below n) → n ≡ m → marks ≡ map f (numbers_below m)
marks_whole f n m marks is same = is ∙ ap (λ (k : ℕ). map f (numbers_below k)) same

drop_none : (ps : List FlowPlace) → drop 0 ps ≡ ps
drop_none [] = refl
drop_none (p ∷ ps) = refl

-- what is told of all flows that the table shows is told of the plan's
pub marks_of_plan : (plan : PlanValue) (outline : Outline) (table : List (Option Arranged)) (faults : List (Option CompileFault)) (item count : ℕ) (marks : List Bool)
    → shown_atoms outline.atoms.items ≡ atoms_of 0 (tree_of plan.root) → shown_levels outline.levels.items ≡ flows_of 0 0 (tree_of plan.root)
    → AreLooked (shown_atoms outline.atoms.items) (shown_levels outline.levels.items) 0 table faults
    → ((flows : List Flow) → ShowsFlows table flows → marks ≡ map (λ u. item_before flows 0 u item) (numbers_below count))
    → count ≡ length (item_list plan.root.items)
    → marks ≡ map (root_item_before (outline_of plan) item) (numbers_below (length (item_list plan.root.items)))
marks_of_plan plan outline table faults item count marks atoms_are levels_are looked told counted =
    let shows : ShowsFlows table (arranged (shown_atoms outline.atoms.items) (shown_levels outline.levels.items)) =
    subst (λ (ps : List FlowPlace). ShowsFlows table (arranged (shown_atoms outline.atoms.items) ps)) (drop_none (shown_levels outline.levels.items)) looked.shows in
    let plan_shows : ShowsFlows table (outline_of plan).flows = subst (ShowsFlows table) (ap2 arranged atoms_are levels_are) shows in
    told (outline_of plan).flows plan_shows ∙ ap (λ (n : ℕ). map (root_item_before (outline_of plan) item) (numbers_below n)) counted
