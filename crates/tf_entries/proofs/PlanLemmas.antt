-- Flows and plans are read where they stand, and only where they stand.
use Rattle.std.proofs.Common.{◌≡◌, ◌≢◌, ℕ, zero, suc, ◌-◌, ◌<◌, ◌≤◌, ◌^◌, List, [], ◌∷◌, ◌++◌, length, Option, Some, None, refl, sym, ap, subst, ◌∙◌, append-nil, arith, w16}
use Rattle.std.specs.Int.{to_be_bytes}
use Rattle.std.specs.List.{flat_map, AllByRecursion}
use Rattle.tf_flow.specs.Outline.{Connection}
use Rattle.tf_flow.specs.declared.atoms.Bind.{Bind}
use Rattle.tf_flow.specs.declared.atoms.Retry.{Retry}
use Rattle.tf_flow.specs.declared.nested.FlowKind.{FlowKind}
use Rattle.tf_flow.specs.declared.nested.FlowKind.TheVariants as pattern
use Rattle.tf_flow.specs.Plan.{WrittenHead, WrittenTree, written_task, written_flow, WrittenTrees, nothing_written, written, written_trees}
use Rattle.tf_flow.proofs.AlikeLemmas.{written_nesting, deepest_written}
use Rattle.tf_entries.specs.AtomReading.{read_truth, read_binds}
use Rattle.tf_entries.specs.Plans.{bind_bytes, IsBind, IsTask, name_bytes, truth_byte, listed, AreFew, item_count, flow_kind_byte, control_bytes, item_mark, tree_bytes, items_bytes, IsControl, IsTree, AreTrees, connection_bytes, IsConnection}
use Rattle.tf_entries.specs.PlanReading.{read_links, flow_kind_of, read_flow_kind, read_control_of, read_control, read_item_of, read_item, read_flow, PlanAsWritten, read_plan}
use Rattle.tf_entries.specs.Reading.{chain, read_list, whole}
use Rattle.tf_entries.proofs.AtomLemmas.{binds_read, task_read, retry_read}
use Rattle.tf_entries.proofs.FieldLemmas.{number_read, found_at, truth_read, list_read}
use Rattle.tf_entries.proofs.NumberLemmas.{name_read}
use Rattle.tf_entries.proofs.ReadingLemmas.{Reads, same_read, began, went_on, went_past, on_tag, no_tag, bare, with_part, joined, ends_with, whole_of, whole_is}
use Rattle.tf_entries.proofs.TestLemmas.{IsShallow, IsLink, links_read}

-- ---- kinds and retry controllers

flow_kind_back : (k : FlowKind) → flow_kind_of (flow_kind_byte k) ≡ Some k
flow_kind_back pattern.Linear = refl
flow_kind_back pattern.Unordered = refl
flow_kind_back pattern.Graph = refl

flow_kind_there : (n : ℕ) (k : FlowKind) → flow_kind_of n ≡ Some k → n ≡ flow_kind_byte k
flow_kind_there n k is =
    on_tag (n ≡ flow_kind_byte k) n 0 _ _ k is (λ at found. found_at flow_kind_byte pattern.Linear k n 0 at refl found)
    (λ is1. on_tag (n ≡ flow_kind_byte k) n 1 _ _ k is1 (λ at found. found_at flow_kind_byte pattern.Unordered k n 1 at refl found)
    (λ is2. on_tag (n ≡ flow_kind_byte k) n 2 _ _ k is2 (λ at found. found_at flow_kind_byte pattern.Graph k n 2 at refl found)
    (no_tag (n ≡ flow_kind_byte k) k)))

flow_kind_read : Reads (λ k. flow_kind_byte k ∷ []) (λ k. Unit {0}) read_flow_kind
flow_kind_read = number_read flow_kind_byte flow_kind_of flow_kind_back flow_kind_there read_flow_kind refl (λ n rest. refl)

control_again : (r : Option Retry) (rest : List ℕ) → IsControl r → read_control (control_bytes r ++ rest) ≡ Some (r, rest)
control_again None rest good = refl
control_again (Some r) rest good = went_on retry_read (λ x after. Some (Some x, after)) r rest good

abbrev IsControlAt : ℕ → List ℕ → Option Retry → List ℕ → Type 0
IsControlAt tag bytes r rest = IsControl r × (tag ∷ bytes ≡ control_bytes r ++ rest)

control_of_sound : (tag : ℕ) (bytes : List ℕ) (r : Option Retry) (rest : List ℕ) → read_control_of tag bytes ≡ Some (r, rest) → IsControlAt tag bytes r rest
control_of_sound tag bytes r rest is =
    on_tag (IsControlAt tag bytes r rest) tag 0 _ _ (r, rest) is (λ at found. bare control_bytes IsControl None 0 tt refl tag bytes r rest at found)
    (λ is1. on_tag (IsControlAt tag bytes r rest) tag 1 _ _ (r, rest) is1 (λ at found. with_part retry_read control_bytes IsControl Some 1 (λ x good. good) (λ x. refl) tag bytes r rest at found)
    (no_tag (IsControlAt tag bytes r rest) (r, rest)))

control_sound : (bytes : List ℕ) (r : Option Retry) (rest : List ℕ) → read_control bytes ≡ Some (r, rest) → IsControl r × (bytes ≡ control_bytes r ++ rest)
control_sound [] r rest is = absurd (cc)
control_sound (tag ∷ bytes) r rest is = control_of_sound tag bytes r rest is

control_read : Reads control_bytes IsControl read_control
control_read = record { again = control_again; sound = control_sound }

-- ---- items beside one another

abbrev pub tree_list : WrittenTrees → List WrittenTree
tree_list nothing_written = []
tree_list (written first others) = first ∷ tree_list others

-- an item behind its mark
abbrev pub marked_bytes : WrittenTree → List ℕ
marked_bytes item = item_mark item ∷ tree_bytes item

items_again : (items : WrittenTrees) → written_trees (tree_list items) ≡ items
items_again nothing_written = refl
items_again (written first others) = ap (written first) (items_again others)

pub items_back : (items : List WrittenTree) → tree_list (written_trees items) ≡ items
items_back [] = refl
items_back (first ∷ others) = ap (λ more. first ∷ more) (items_back others)

pub items_count : (items : WrittenTrees) → item_count items ≡ length (tree_list items)
items_count nothing_written = refl
items_count (written first others) = omega (arith, items_count others)

items_joined : (items : WrittenTrees) → items_bytes items ≡ flat_map marked_bytes (tree_list items)
items_joined nothing_written = refl
items_joined (written first others) = ap (λ more. marked_bytes first ++ more) (items_joined others)

-- items behind their number
abbrev pub counted_items : WrittenTrees → List ℕ
counted_items items = to_be_bytes w16 (item_count items) ++ items_bytes items

pub items_listed : (items : WrittenTrees) → counted_items items ≡ listed marked_bytes (tree_list items)
items_listed items = ap (λ (n : ℕ). to_be_bytes w16 n ++ items_bytes items) (items_count items) ∙ ap (λ more. to_be_bytes w16 (length (tree_list items)) ++ more) (items_joined items)

-- ---- flows in one another

abbrev AreShallow : List Connection → Type 0
AreShallow links = AllByRecursion (λ link. IsShallow link.decision) links

-- the tests of deciders aren't too deep
abbrev mutual
  pub ShallowTree : WrittenTree → Type 0
  ShallowTree (written_task t) = Unit {0}
  ShallowTree (written_flow head items) = AreShallow head.links × ShallowTrees items

  pub ShallowTrees : WrittenTrees → Type 0
  ShallowTrees nothing_written = Unit {0}
  ShallowTrees (written first others) = ShallowTree first × ShallowTrees others

-- what may stand where so many flows may still stand in one another
pub record IsWithin (left : ℕ) (tree : WrittenTree) : Type 0 where
  pub good : IsTree tree
  pub low : written_nesting tree ≤ left
  pub shallow : ShallowTree tree

abbrev pub IsFlow : WrittenTree → Type 0
IsFlow (written_task t) = ⊥
IsFlow (written_flow head items) = Unit {0}

abbrev IsFlowWithin : ℕ → WrittenTree → Type 0
IsFlowWithin left tree = IsFlow tree × IsWithin left tree

all_links : (links : List Connection) → AllByRecursion IsConnection links → AreShallow links → AllByRecursion IsLink links
all_links [] good shallow = tt
all_links (link ∷ links) good shallow = ((good.0, shallow.0), all_links links good.1 shallow.1)

good_links : (links : List Connection) → AllByRecursion IsLink links → AllByRecursion IsConnection links
good_links [] good = tt
good_links (link ∷ links) good = (good.0.0, good_links links good.1)

shallow_links : (links : List Connection) → AllByRecursion IsLink links → AreShallow links
shallow_links [] good = tt
shallow_links (link ∷ links) good = (good.0.1, shallow_links links good.1)

all_items : (left : ℕ) (items : WrittenTrees) → AreTrees items → deepest_written items ≤ left → ShallowTrees items → AllByRecursion (IsWithin left) (tree_list items)
all_items left nothing_written good low shallow = tt
all_items left (written first others) good low shallow = (record { good = good.0; low = omega arith; shallow = shallow.0 }, all_items left others good.1 (omega arith) shallow.1)

-- what several items are, when each was read
record AreItems (left : ℕ) (items : List WrittenTree) : Type 0 where
  good : AreTrees (written_trees items)
  low : deepest_written (written_trees items) ≤ left
  shallow : ShallowTrees (written_trees items)

items_sound : (left : ℕ) (items : List WrittenTree) → AllByRecursion (IsWithin left) items → AreItems left items
items_sound left [] good = record { good = tt; low = omega arith; shallow = tt }
items_sound left (first ∷ others) good =
    let low = good.0.low in
    let more = items_sound left others good.1 in
    let more_low = more.low in
    record { good = (good.0.good, more.good); low = omega arith; shallow = (good.0.shallow, more.shallow) }

-- what is read behind each part of a flow
abbrev behind_items : List ℕ → FlowKind → Option Retry → List WrittenTree → List ℕ → Option (WrittenTree × List ℕ)
behind_items name kind retry items bytes = chain (read_links bytes) (λ links rest. Some (written_flow record { name = name; kind = kind; retry = retry; links = links } (written_trees items), rest))

abbrev behind_control : ℕ → List ℕ → FlowKind → Option Retry → List ℕ → Option (WrittenTree × List ℕ)
behind_control left name kind retry bytes = chain (read_list (read_item (read_flow left)) bytes) (behind_items name kind retry)

abbrev behind_kind : ℕ → List ℕ → FlowKind → List ℕ → Option (WrittenTree × List ℕ)
behind_kind left name kind bytes = chain (read_control bytes) (behind_control left name kind)

abbrev behind_name : ℕ → List ℕ → List ℕ → Option (WrittenTree × List ℕ)
behind_name left name bytes = chain (read_flow_kind bytes) (behind_kind left name)

module _ (left : ℕ) (inside : Reads tree_bytes (IsFlowWithin left) (read_flow left)) where
  item_again : (item : WrittenTree) (rest : List ℕ) → IsWithin left item → read_item (read_flow left) (marked_bytes item ++ rest) ≡ Some (item, rest)
  item_again (written_task t) rest good = went_on task_read (λ x after. Some (written_task x, after)) t rest good.good
  item_again (written_flow head items) rest good = inside.again (written_flow head items) rest (tt, good)

  abbrev IsItemAt : ℕ → List ℕ → WrittenTree → List ℕ → Type 0
  IsItemAt tag bytes item rest = IsWithin left item × (tag ∷ bytes ≡ marked_bytes item ++ rest)

  nested_item : (bytes : List ℕ) (item : WrittenTree) (rest : List ℕ) → IsFlowWithin left item → bytes ≡ tree_bytes item ++ rest → IsItemAt 1 bytes item rest
  nested_item bytes (written_task t) rest good prefix = absurd good.0
  nested_item bytes (written_flow head items) rest good prefix = (good.1, ap (λ more. 1 ∷ more) prefix)

  task_within : (t : _) → IsTask t → IsWithin left (written_task t)
  task_within t good = record { good = good; low = omega arith; shallow = tt }

  item_of_sound : (tag : ℕ) (bytes : List ℕ) (item : WrittenTree) (rest : List ℕ) → read_item_of (read_flow left) tag bytes ≡ Some (item, rest) → IsItemAt tag bytes item rest
  item_of_sound tag bytes item rest is =
      on_tag (IsItemAt tag bytes item rest) tag 0 _ _ (item, rest) is (λ at found. with_part task_read marked_bytes (IsWithin left) written_task 0 task_within (λ t. refl) tag bytes item rest at found)
      (λ is1. on_tag (IsItemAt tag bytes item rest) tag 1 _ _ (item, rest) is1
      (λ at found. let flow = inside.sound bytes item rest found in subst (λ (n : ℕ). IsItemAt n bytes item rest) (sym at) (nested_item bytes item rest flow.0 flow.1))
      (no_tag (IsItemAt tag bytes item rest) (item, rest)))

  item_sound : (bytes : List ℕ) (item : WrittenTree) (rest : List ℕ) → read_item (read_flow left) bytes ≡ Some (item, rest) → IsWithin left item × (bytes ≡ marked_bytes item ++ rest)
  item_sound [] item rest is = absurd (cc)
  item_sound (tag ∷ bytes) item rest is = item_of_sound tag bytes item rest is

  item_read : Reads marked_bytes (IsWithin left) (read_item (read_flow left))
  item_read = record { again = item_again; sound = item_sound }

  over_again : (tree : WrittenTree) (rest : List ℕ) → IsFlowWithin (suc left) tree → read_flow (suc left) (tree_bytes tree ++ rest) ≡ Some (tree, rest)
  over_again (written_task t) rest good = absurd good.0
  over_again (written_flow head items) rest good =
      let low = good.1.low in
      let within = all_items left items good.1.good.2 (omega arith) good.1.shallow.1 in
      let few : length (tree_list items) < 2 ^ 16 = subst (λ (n : ℕ). n < 2 ^ 16) (items_count items) good.1.good.1 in
      ap (λ form. read_flow (suc left) ((name_bytes head.name ++ (flow_kind_byte head.kind ∷ (control_bytes head.retry ++ (form ++ listed connection_bytes head.links)))) ++ rest)) (items_listed items)
      ∙ went_past name_read (behind_name left) head.name (flow_kind_byte head.kind ∷ (control_bytes head.retry ++ (listed marked_bytes (tree_list items) ++ listed connection_bytes head.links))) rest good.1.good.0.name
      ∙ went_past flow_kind_read (behind_kind left head.name) head.kind (control_bytes head.retry ++ (listed marked_bytes (tree_list items) ++ listed connection_bytes head.links)) rest tt
      ∙ went_past control_read (behind_control left head.name head.kind) head.retry (listed marked_bytes (tree_list items) ++ listed connection_bytes head.links) rest good.1.good.0.control
      ∙ went_past (list_read item_read) (behind_items head.name head.kind head.retry) (tree_list items) (listed connection_bytes head.links) rest (few, within)
      ∙ went_on links_read (λ links after. Some (written_flow record { name = head.name; kind = head.kind; retry = head.retry; links = links } (written_trees (tree_list items)), after)) head.links rest
      (good.1.good.0.links.0, all_links head.links good.1.good.0.links.1 good.1.shallow.0)
      ∙ ap (λ found. Some (written_flow head found, rest)) (items_again items)

  over_sound : (bytes : List ℕ) (tree : WrittenTree) (rest : List ℕ) → read_flow (suc left) bytes ≡ Some (tree, rest) → IsFlowWithin (suc left) tree × (bytes ≡ tree_bytes tree ++ rest)
  over_sound bytes tree rest is =
      let n = began name_read (behind_name left) bytes tree rest is in
      let k = began flow_kind_read (behind_kind left n.first) n.behind tree rest n.goes in
      let r = began control_read (behind_control left n.first k.first) k.behind tree rest k.goes in
      let i = began (list_read item_read) (behind_items n.first k.first r.first) r.behind tree rest r.goes in
      let l = began links_read (λ links after. Some (written_flow record { name = n.first; kind = k.first; retry = r.first; links = links } (written_trees i.first), after)) i.behind tree rest i.goes in
      let head : WrittenHead = record { name = n.first; kind = k.first; retry = r.first; links = l.first } in
      let same = same_read (written_flow head (written_trees i.first)) tree l.behind rest l.goes in
      let are = items_sound left i.first i.good.1 in
      let low = are.low in
      let few : item_count (written_trees i.first) < 2 ^ 16 = subst (λ (m : ℕ). m < 2 ^ 16) (sym (items_count (written_trees i.first) ∙ ap length (items_back i.first))) i.good.0 in
      let form : counted_items (written_trees i.first) ≡ listed marked_bytes i.first = items_listed (written_trees i.first) ∙ ap (listed marked_bytes) (items_back i.first) in
      subst (λ x. IsFlowWithin (suc left) x × (bytes ≡ tree_bytes x ++ rest)) same.0 (
        (
          tt,
          record {
            good = (record { name = n.good; control = r.good; links = (l.good.0, good_links l.first l.good.1) }, few, are.good);
            low = omega arith;
            shallow = (shallow_links l.first l.good.1, are.shallow);
          },
        ),
        joined bytes (name_bytes n.first) n.behind (flow_kind_byte k.first ∷ (control_bytes r.first ++ (listed marked_bytes i.first ++ listed connection_bytes l.first))) rest n.prefix
            (joined n.behind (flow_kind_byte k.first ∷ []) k.behind (control_bytes r.first ++ (listed marked_bytes i.first ++ listed connection_bytes l.first)) rest k.prefix
            (joined k.behind (control_bytes r.first) r.behind (listed marked_bytes i.first ++ listed connection_bytes l.first) rest r.prefix
            (joined r.behind (listed marked_bytes i.first) i.behind (listed connection_bytes l.first) rest i.prefix
            (ends_with i.behind (listed connection_bytes l.first) l.behind rest l.prefix same.1))))
            ∙ ap (λ items. (name_bytes n.first ++ (flow_kind_byte k.first ∷ (control_bytes r.first ++ (items ++ listed connection_bytes l.first)))) ++ rest) (sym form),
      )

  over_read : Reads tree_bytes (IsFlowWithin (suc left)) (read_flow (suc left))
  over_read = record { again = over_again; sound = over_sound }

none_within : (tree : WrittenTree) → IsFlowWithin 0 tree → ⊥
none_within (written_task t) good = good.0
none_within (written_flow head items) good = let low = good.1.low in absurd (omega arith)

flow_read : (left : ℕ) → Reads tree_bytes (IsFlowWithin left) (read_flow left)
flow_read zero = record { again = λ tree rest good. absurd (none_within tree good); sound = λ bytes tree rest is. absurd (cc) }
flow_read (suc left) = over_read left (flow_read left)

-- ---- plans

-- the bytes of what a plan is written as
abbrev pub written_bytes : PlanAsWritten → List ℕ
written_bytes plan = tree_bytes plan.root ++ (listed bind_bytes plan.store ++ (truth_byte plan.defer ∷ []))

-- what a plan may be written as, before its rules are looked at
pub record IsWrittenPlan (plan : PlanAsWritten) : Type 0 where
  pub flow : IsFlow plan.root
  pub root : IsWithin 16 plan.root
  pub store : AreFew IsBind plan.store

abbrev behind_store : WrittenTree → List Bind → List ℕ → Option (PlanAsWritten × List ℕ)
behind_store root store bytes = chain (read_truth bytes) (λ defer rest. Some (record { root = root; store = store; defer = defer }, rest))

abbrev behind_root : WrittenTree → List ℕ → Option (PlanAsWritten × List ℕ)
behind_root root bytes = chain (read_binds bytes) (behind_store root)

plan_read : Reads written_bytes IsWrittenPlan read_plan
plan_read = record {
  again = λ plan rest good.
      went_past (flow_read 16) behind_root plan.root (listed bind_bytes plan.store ++ (truth_byte plan.defer ∷ [])) rest (good.flow, good.root)
      ∙ went_past binds_read (behind_store plan.root) plan.store (truth_byte plan.defer ∷ []) rest good.store
      ∙ went_on truth_read (λ defer after. Some (record { root = plan.root; store = plan.store; defer = defer }, after)) plan.defer rest tt;
  sound = λ bytes plan rest is.
      let r = began (flow_read 16) behind_root bytes plan rest is in
      let s = began binds_read (behind_store r.first) r.behind plan rest r.goes in
      let d = began truth_read (λ defer after. Some (record { root = r.first; store = s.first; defer = defer }, after)) s.behind plan rest s.goes in
      let made : PlanAsWritten = record { root = r.first; store = s.first; defer = d.first } in
      let same = same_read made plan d.behind rest d.goes in
      subst (λ x. IsWrittenPlan x × (bytes ≡ written_bytes x ++ rest)) same.0 (
        record { flow = r.good.0; root = r.good.1; store = s.good },
        joined bytes (tree_bytes r.first) r.behind (listed bind_bytes s.first ++ (truth_byte d.first ∷ [])) rest r.prefix
            (joined r.behind (listed bind_bytes s.first) s.behind (truth_byte d.first ∷ []) rest s.prefix
            (ends_with s.behind (truth_byte d.first ∷ []) d.behind rest d.prefix same.1)),
      );
}

-- what has this form is read
pub plan_found : (plan : PlanAsWritten) → IsWrittenPlan plan → whole (read_plan (written_bytes plan)) ≡ Some plan
plan_found plan good = ap (λ bytes. whole (read_plan bytes)) (sym (append-nil (written_bytes plan))) ∙ whole_of (read_plan (written_bytes plan ++ [])) plan (plan_read.again plan [] good)

-- what is read has this form
pub plan_made : (bytes : List ℕ) (plan : PlanAsWritten) → whole (read_plan bytes) ≡ Some plan → IsWrittenPlan plan × (written_bytes plan ≡ bytes)
plan_made bytes plan is =
    let found = plan_read.sound bytes plan [] (whole_is (read_plan bytes) plan is) in
    (found.0, sym (found.1 ∙ append-nil (written_bytes plan)))

-- ---- what the code reads

-- one less within a flow
pub flow_below : (left : ℕ) (bytes : List ℕ) → left ≢ 0 → read_flow (suc (left - 1)) bytes ≡ read_flow left bytes
flow_below left bytes some = let more : suc (left - 1) ≡ left = omega (arith, some) in ap (λ n. read_flow n bytes) more
