-- What a refused atom ignores besides itself.
use Rattle.std.proofs.Common.{◌≡◌, ◌≢◌, ℕ, ◌<◌, List, [], Bool, true, false, ◌&&◌, ◌||◌, Option, Some, None, refl, sym, ap, ◌∙◌, eqb-true, eq-eqb}
use Rattle.std.specs.Prelude.{nat_eq}
use Rattle.std.specs.List.{list_any}
use Rattle.tf_numbers.specs.Numbers.{which_below}
use Rattle.tf_numbers.proofs.PairLemmas.{passes_which, which_passes}
use Rattle.tf_numbers.proofs.TruthLemmas.{same_truth, true_first, never_true, second_false}
use Rattle.tf_flow.specs.declared.deciders.Depth.{Depth}
use Rattle.tf_flow.specs.declared.nested.FlowKind.{FlowKind}
use Rattle.tf_flow.specs.declared.nested.FlowKind.TheVariants as kind
use Rattle.tf_flow.specs.Outline.{atoms_of, flows_of}
use Rattle.tf_flow.specs.Plan.{PlanValue}
use Rattle.tf_flow.specs.Rules.{is_graph}
use Rattle.tf_flow.specs.Tree.{tree_of}
use Rattle.tf_model.specs.Before.{Flow}
use Rattle.tf_model.specs.Readiness.{home, is_sibling, is_neighbor, linked_places, last_item, ignores, ignores_other}
use Rattle.tf_model.specs.Plan.{Outline, outline_of, count, own_flow, path}
use Rattle.tf_model.proofs.Told.{flow_in, found_home, linked_in}
use Rattle.tf_model.proofs.OrderLemmas.{each_arranged}
use Rattle.tf_order.specs.Graph.{leads_in, leads_by_kind, leads_to, direct_tasks_of}
use Rattle.tf_rules.proofs.HomeLemmas.{is_graph_in}
use Rattle.tf_model.proofs.IgnoredLemmas.{unlinked_by}

pub itself : (plan : Outline) (v : ℕ) (how : Depth) (a : ℕ) → v ≡ a → true ≡ ignores plan v how a
unfolding ignores
itself plan v how a same = sym (true_first (nat_eq v a) (ignores_other plan v how a) (eq-eqb v a same))

another : (plan : Outline) (v : ℕ) (how : Depth) (a : ℕ) → v ≢ a → ignores plan v how a ≡ ignores_other plan v how a
unfolding ignores
another plan v how a other = ap (λ (b : Bool). b || ignores_other plan v how a) (never_true (nat_eq v a) (λ on. other (eqb-true v a on)))

pub by_depth : (plan : Outline) (v : ℕ) (how which : Depth) (a : ℕ) → v ≢ a → how ≡ which → ignores plan v how a ≡ ignores_other plan v which a
by_depth plan v how which a other is = another plan v how a other ∙ ap (λ (d : Depth). ignores_other plan v d a) is

pub both_hold : (b c d : Bool) → b ≡ true → c ≡ d → c ≡ b && d
both_hold true c d is same = same
both_hold false c d is same = absurd (cc)

pub first_fails : (b d : Bool) → b ≡ false → false ≡ b && d
first_fails true d is = absurd (cc)
first_fails false d is = refl

-- ---- the neighbors

unlinked : (plan : PlanValue) (o : Option ℕ) (p : Option Flow) → flow_in (outline_of plan) o ≡ p → is_graph_in p ≡ false → linked_in (flow_in (outline_of plan) o) ≡ []
unlinked plan None p is other = refl
unlinked plan (Some g) None is other = ap linked_in is
unlinked plan (Some g) (Some f) is other = ap linked_in is ∙ (each_arranged (atoms_of 0 (tree_of plan.root)) (flows_of 0 0 (tree_of plan.root)) g f is).unlinked other

-- no link leads from what stands in no graph flow
pub no_neighbor : (plan : PlanValue) (v a : ℕ) → is_graph_in (found_home (outline_of plan) v) ≡ false → false ≡ is_neighbor (outline_of plan) v a
no_neighbor plan v a other =
    sym (second_false (is_sibling (outline_of plan) v a) _
    (unlinked_by (linked_in (found_home (outline_of plan) v)) (last_item (path (outline_of plan) v)) (last_item (path (outline_of plan) a))
    (unlinked plan (own_flow (outline_of plan) v) (found_home (outline_of plan) v) refl other)))

leads_by_link : (f : Flow) (from to : Option ℕ) → is_graph f.place.kind ≡ true → leads_in f from to ≡ linked_places f.linked from to
leads_by_link f from to is = by f.place.kind is
  where
    by : (how : FlowKind) → is_graph how ≡ true → leads_by_kind how f.linked from to ≡ linked_places f.linked from to
    by kind.Linear on = absurd (cc)
    by kind.Unordered on = absurd (cc)
    by kind.Graph on = refl

-- in a graph flow the place leads where a link leads
leads_neighbor : (plan : Outline) (v a : ℕ) → is_graph_in (found_home plan v) ≡ true → leads_to plan v a ≡ is_neighbor plan v a
leads_neighbor plan v a is = ap (λ (b : Bool). is_sibling plan v a && b) (leads_by_link (home plan v) (last_item (path plan v)) (last_item (path plan a)) is)

listed : (n : ℕ) (test : ℕ → Bool) (a : ℕ) → a < n → list_any (λ y. nat_eq y a) (which_below n test) ≡ test a
listed n test a below = same_truth (list_any (λ y. nat_eq y a) (which_below n test)) (test a)
    (λ on. let passes = which_passes n test (λ y. nat_eq y a) on in ap test (sym (eqb-true passes.number a passes.passes)) ∙ passes.tested)
    (λ on. passes_which n test (λ y. nat_eq y a) a below on (eq-eqb a a refl))

pub neighbor_listed : (plan : PlanValue) (v a : ℕ) (tasks : List ℕ) (on : Bool) → a < count (outline_of plan) → is_graph_in (found_home (outline_of plan) v) ≡ true → tasks ≡ direct_tasks_of (outline_of plan) v
    → on ≡ list_any (λ y. nat_eq y a) tasks → on ≡ is_neighbor (outline_of plan) v a
neighbor_listed plan v a tasks on below is told has =
    has ∙ (ap (list_any (λ y. nat_eq y a)) told ∙ (listed (count (outline_of plan)) (leads_to (outline_of plan) v) a below ∙ leads_neighbor (outline_of plan) v a is))
