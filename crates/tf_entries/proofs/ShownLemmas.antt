-- What lists of tests, links and items are written as.
use Rattle.std.proofs.Common.{◌≡◌, ℕ, ◌<◌, ◌^◌, List, [], ◌∷◌, ◌++◌, length, map, refl, sym, ap, subst, ◌∙◌, append_assoc, w16}
use Rattle.std.specs.Int.{to_be_bytes}
use Rattle.std.specs.List.{flat_map, AllByRecursion}
use Rattle.std.proofs.lemmas.List.{length-map}
use Rattle.tf_flow.proofs.ConditionLemmas.{condition_of-all, condition_of-any}
use Rattle.tf_flow.specs.Outline.{Condition, conditions_of, condition_of, connection_of}
use Rattle.tf_flow.specs.declared.deciders.Test.{Test}
use Rattle.tf_flow.specs.declared.deciders.Test.TheVariants as test
use Rattle.tf_flow.specs.declared.deciders.Tests.{Tests}
use Rattle.tf_flow.specs.declared.nested.Flow.{Flow}
use Rattle.tf_flow.specs.declared.nested.Item.{Item}
use Rattle.tf_flow.specs.Tree.{tree_of}
use Rattle.tf_flow.specs.Plan.{WrittenTree, written_trees, as_written, item_as_written}
use Rattle.tf_flow.proofs.WrittenLemmas.{flow_written}
use Rattle.tf_entries.specs.Plans.{IsName, name_bytes, listed, AreFew, item_count, flow_kind_byte, control_bytes, tree_bytes, IsControl, IsTree, AreTrees, condition_count, condition_bytes, connection_bytes, IsCondition, AreConditions, IsConnection}
use Rattle.tf_entries.specs.Shown.{test_bytes, IsTest, link_bytes, IsLink, item_bytes, IsItem}
use Rattle.tf_entries.proofs.PlanLemmas.{marked_bytes, counted_items, items_back, items_count, items_listed}
use Rattle.tf_entries.proofs.TestLemmas.{list_count, list_back, counted_tests, counted_list}

-- ---- lists

module _ {X Y : Type 0} (shown : Y → X) where
  map_bytes : (form : X → List ℕ) (ys : List Y) → flat_map form (map shown ys) ≡ flat_map (λ y. form (shown y)) ys
  map_bytes form [] = refl
  map_bytes form (y ∷ ys) = ap (λ more. form (shown y) ++ more) (map_bytes form ys)

  -- a list of what is shown is written as the list that shows it
  pub map_listed : (form : X → List ℕ) (ys : List Y) → listed form (map shown ys) ≡ listed (λ y. form (shown y)) ys
  map_listed form ys = ap (λ (n : ℕ). to_be_bytes w16 n ++ flat_map form (map shown ys)) (length-map ys shown) ∙ ap (λ more. to_be_bytes w16 (length ys) ++ more) (map_bytes form ys)

  map_good : (Good : X → Type 0) (ys : List Y) → AllByRecursion (λ y. Good (shown y)) ys → AllByRecursion Good (map shown ys)
  map_good Good [] good = tt
  map_good Good (y ∷ ys) good = (good.0, map_good Good ys good.1)

  pub map_is_listed : (Good : X → Type 0) (ys : List Y) → AreFew (λ y. Good (shown y)) ys → AreFew Good (map shown ys)
  map_is_listed Good ys good = (subst (λ (n : ℕ). n < 2 ^ 16) (sym (length-map ys shown)) good.0, map_good Good ys good.1)

-- ---- tests

tests_form : (tests : List Test) → counted_tests (conditions_of (map condition_of tests)) ≡ listed test_bytes tests
tests_form tests =
    counted_list (conditions_of (map condition_of tests)) ∙ ap (listed condition_bytes) (list_back (map condition_of tests)) ∙ map_listed condition_of condition_bytes tests

all_good : (tests : List Condition) → AllByRecursion IsCondition tests → AreConditions (conditions_of tests)
all_good [] good = tt
all_good (first ∷ others) good = (good.0, all_good others good.1)

few_tests : (tests : List Test) → length tests < 2 ^ 16 → condition_count (conditions_of (map condition_of tests)) < 2 ^ 16
few_tests tests few =
    subst (λ (n : ℕ). n < 2 ^ 16) (sym (list_count (conditions_of (map condition_of tests)) ∙ ap length (list_back (map condition_of tests)) ∙ length-map tests condition_of)) few

pub all_bytes : (tests : Tests) → test_bytes (test.All tests) ≡ 4 ∷ listed test_bytes tests.items.items
all_bytes tests = ap condition_bytes (condition_of-all tests) ∙ ap (λ more. 4 ∷ more) (tests_form tests.items.items)

pub any_bytes : (tests : Tests) → test_bytes (test.Any tests) ≡ 5 ∷ listed test_bytes tests.items.items
any_bytes tests = ap condition_bytes (condition_of-any tests) ∙ ap (λ more. 5 ∷ more) (tests_form tests.items.items)

pub all_is_test : (tests : Tests) → AreFew IsTest tests.items.items → IsTest (test.All tests)
all_is_test tests good =
    subst IsCondition (sym (condition_of-all tests)) (few_tests tests.items.items good.0, all_good (map condition_of tests.items.items) (map_good condition_of IsCondition tests.items.items good.1))

pub any_is_test : (tests : Tests) → AreFew IsTest tests.items.items → IsTest (test.Any tests)
any_is_test tests good =
    subst IsCondition (sym (condition_of-any tests)) (few_tests tests.items.items good.0, all_good (map condition_of tests.items.items) (map_good condition_of IsCondition tests.items.items good.1))

-- ---- flows

items_form : (items : List Item) → counted_items (written_trees (map item_as_written items)) ≡ listed item_bytes items
items_form items =
    items_listed (written_trees (map item_as_written items)) ∙ ap (listed marked_bytes) (items_back (map item_as_written items)) ∙ map_listed item_as_written marked_bytes items

all_trees : (items : List WrittenTree) → AllByRecursion IsTree items → AreTrees (written_trees items)
all_trees [] good = tt
all_trees (first ∷ others) good = (good.0, all_trees others good.1)

few_items : (items : List Item) → length items < 2 ^ 16 → item_count (written_trees (map item_as_written items)) < 2 ^ 16
few_items items few =
    subst (λ (n : ℕ). n < 2 ^ 16) (sym (items_count (written_trees (map item_as_written items)) ∙ ap length (items_back (map item_as_written items)) ∙ length-map items item_as_written)) few

-- a flow's name, kind and retry controller, and then its items and its links
pub flow_bytes : (f : Flow) → tree_bytes (as_written (tree_of f)) ≡ (name_bytes f.name ++ (flow_kind_byte f.kind ∷ control_bytes f.retry)) ++ (listed item_bytes f.items.items.items ++ listed link_bytes f.links)
flow_bytes f =
    ap tree_bytes (flow_written f)
    ∙ ap (λ items. name_bytes f.name ++ (flow_kind_byte f.kind ∷ (control_bytes f.retry ++ (items ++ listed connection_bytes (map connection_of f.links))))) (items_form f.items.items.items)
    ∙ ap (λ links. name_bytes f.name ++ (flow_kind_byte f.kind ∷ (control_bytes f.retry ++ (listed item_bytes f.items.items.items ++ links)))) (map_listed connection_of connection_bytes f.links)
    ∙ sym (append_assoc (name_bytes f.name) (flow_kind_byte f.kind ∷ control_bytes f.retry) (listed item_bytes f.items.items.items ++ listed link_bytes f.links))

pub flow_is_tree : (f : Flow) → IsName f.name → IsControl f.retry → AreFew IsItem f.items.items.items → AreFew IsLink f.links → IsTree (as_written (tree_of f))
flow_is_tree f name control items links =
    subst IsTree (sym (flow_written f)) (
      record { name = name; control = control; links = map_is_listed connection_of IsConnection f.links links },
      few_items f.items.items.items items.0,
      all_trees (map item_as_written f.items.items.items) (map_good item_as_written IsTree f.items.items.items items.1),
    )
