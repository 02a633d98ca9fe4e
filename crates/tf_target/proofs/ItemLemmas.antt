-- Items by their names, the links between them, and the order of a graph's items.
use Rattle.std.proofs.Common.{◌≡◌, ◌∙◌, ℕ, zero, suc, ◌+◌, ◌-◌, ◌<◌, List, [], ◌∷◌, ◌++◌, map, length, Bool, true, false, ◌&&◌, ◌||◌, Option, Some, None, filter, refl, sym, ap, arith, eqb-true, slice_get}
use Rattle.std.specs.Prelude.{nat_eq, if◌then◌else◌}
use Rattle.std.specs.Option.{option_map_or}
use Rattle.std.specs.List.{list_any}
use Rattle.tf_flow.specs.Outline.{Connection, connection_of, Atom, a_retry, flow_count, retry_count, atom_count, atoms_among_count, retry_atoms, item_of, items_of}
use Rattle.tf_flow.specs.Tree.{member_of, Tree, task, flow, Trees, no_trees, tree}
use Rattle.tf_flow.specs.Rules.{is_graph}
use Rattle.tf_flow.specs.declared.atoms.Retry.{Retry}
use Rattle.tf_flow.specs.declared.deciders.Link.{Link}
use Rattle.tf_flow.specs.declared.nested.FlowKind.{FlowKind}
use Rattle.tf_flow.specs.declared.nested.FlowKind.TheVariants as kind
use Rattle.tf_links.specs.Graphs.{reached}
use Rattle.tf_model.specs.Before.{name_of_item, item_order}
use Rattle.tf_numbers.specs.Numbers.{Pair}
use Rattle.tf_numbers.proofs.TruthLemmas.{never_true, clash, true_first, true_second}
use Rattle.tf_target.specs.Target.{names_among}
use Rattle.tf_target.proofs.MoveLemmas.{size_of}
use Rattle.tf_target.proofs.PartLemmas.{AtomsMoved, atom_kept}

-- the retry controller is the first atom of both
pub control_moved : (fl at it : ℕ → ℕ) (r : Option Retry) (xs ys : List Atom) → fl 0 ≡ 0 → ((x : ℕ) → x < 0 + retry_count r → at x ≡ x) → AtomsMoved fl at it (0 + retry_count r) (0 + retry_count r) xs ys
    → AtomsMoved fl at it 0 0 (retry_atoms 0 r ++ xs) (retry_atoms 0 r ++ ys)
control_moved fl at it None xs ys root own rest = rest
control_moved fl at it (Some r) xs ys root own rest =
    atom_kept 0 0 record { path = record { flow = 0; item = None } ∷ []; part = a_retry r } record { path = record { flow = 0; item = None } ∷ []; part = a_retry r } xs ys (own 0 (omega arith))
    (ap (λ (g : ℕ). record { path = record { flow = g; item = None } ∷ []; part = a_retry r }) (sym root)) rest

pub atoms_sized : (ts : Trees) → atoms_among_count ts ≡ size_of atom_count ts
atoms_sized no_trees = refl
atoms_sized (tree first others) = ap (λ n. atom_count first + n) (atoms_sized others)

-- an item's name is among the names
pub item_listed : (ts : Trees) (n a u : ℕ) (p : List ℕ → Bool) → u < length (items_of n a ts) → p (option_map_or name_of_item (slice_get (items_of n a ts) u) []) ≡ true → list_any p (names_among ts) ≡ true
item_listed no_trees n a u p below is = absurd (omega (arith, below))
item_listed (tree first others) n a zero p below is = true_first (p (member_of first).name) (list_any p (names_among others)) (sym (ap p (named first n a)) ∙ is)
  where
    named : (t : Tree) (n a : ℕ) → (item_of n a t).name ≡ (member_of t).name
    named (task t) n a = refl
    named (flow head items) n a = refl
item_listed (tree first others) n a (suc u) p below is =
    true_second (p (member_of first).name) (list_any p (names_among others)) (item_listed others (n + flow_count first) (a + atom_count first) u p (omega (arith, below)) is)

-- the links that join two names that are kept are kept
pub links_kept : (names from to : List ℕ → Bool) (links : List Link) (test : Link → Bool) → ((link : Link) → from link.from && to link.to ≡ true → test link ≡ true)
    → list_any (λ (l : Connection). from l.from && to l.to) (map connection_of links) ≡ list_any (λ (l : Connection). from l.from && to l.to) (map connection_of (filter test links))
links_kept names from to [] test each = refl
links_kept names from to (link ∷ links) test each = either (test link) refl (links_kept names from to links test each)
  where
    either : (b : Bool) → test link ≡ b → list_any (λ (l : Connection). from l.from && to l.to) (map connection_of links) ≡ list_any (λ (l : Connection). from l.from && to l.to) (map connection_of (filter test links))
        → (from link.from && to link.to) || list_any (λ (l : Connection). from l.from && to l.to) (map connection_of links) ≡ list_any (λ (l : Connection). from l.from && to l.to) (map connection_of (if b then link ∷ filter test links else filter test links))
    either true is rest = ap (λ b. (from link.from && to link.to) || b) rest
    either false is rest = ap (λ b. b || list_any (λ (l : Connection). from l.from && to l.to) (map connection_of links)) (never_true (from link.from && to link.to) (λ on. clash (test link) (each link on) is)) ∙ rest

pub not_first : (g : ℕ) → nat_eq 0 (suc g) ≡ false
not_first g = never_true (nat_eq 0 (suc g)) (λ is. absurd (omega (arith, eqb-true 0 (suc g) is)))

pub order_of_graph : (how : FlowKind) (n : ℕ) (linked : List Pair) → is_graph how ≡ true → item_order how n linked ≡ reached n linked
order_of_graph kind.Linear n linked is = absurd (cc)
order_of_graph kind.Unordered n linked is = absurd (cc)
order_of_graph kind.Graph n linked is = refl
