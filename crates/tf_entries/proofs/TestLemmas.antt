-- Tests and links are read where they stand, and only where they stand.
use Rattle.std.proofs.Common.{◌≡◌, ◌≢◌, ℕ, zero, suc, ◌+◌, ◌-◌, ◌<◌, ◌≤◌, ◌^◌, max, List, [], ◌∷◌, ◌++◌, length, Option, Some, None, refl, sym, ap, subst, ◌∙◌, arith, w16, w64}
use Rattle.std.specs.Int.{to_be_bytes, cast_unsigned}
use Rattle.std.specs.List.{flat_map, AllByRecursion}
use Rattle.tf_flow.proofs.ConditionLemmas.{condition_of-is, condition_of-below, condition_of-above, condition_of-not, condition_of-all, condition_of-any}
use Rattle.tf_flow.specs.Outline.{Condition, is_same, is_below, is_above, negated, all_of, any_of, Conditions, no_conditions, condition, conditions_of, Decision, Connection}
use Rattle.tf_flow.specs.declared.deciders.Depth.{Depth}
use Rattle.tf_flow.specs.declared.deciders.Depth.TheVariants as depth
use Rattle.tf_values.specs.Value.{byte_form}
use Rattle.tf_entries.specs.Plans.{name_bytes, listed, AreFew, condition_count, condition_bytes, conditions_bytes, depth_byte, decision_bytes, connection_bytes, IsCondition, AreConditions, IsDecision, IsConnection}
use Rattle.tf_entries.specs.PlanReading.{read_same, read_below, read_above, read_all, read_any, read_test_of, read_test, depth_of, read_depth, read_decided, read_decision_of, read_decision, read_link, read_links}
use Rattle.tf_entries.specs.Reading.{chain, read_signed, read_name, read_value}
use Rattle.tf_entries.proofs.FieldLemmas.{number_read, found_at, list_read}
use Rattle.tf_entries.proofs.NumberLemmas.{signed_64, name_read}
use Rattle.tf_entries.proofs.ReadingLemmas.{Reads, same_read, began, went_on, went_past, on_tag, no_tag, bare, with_part, joined, ends_with}
use Rattle.tf_entries.proofs.ValueLemmas.{value_read}

-- ---- tests beside one another

abbrev pub condition_list : Conditions → List Condition
condition_list no_conditions = []
condition_list (condition first others) = first ∷ condition_list others

listed_again : (tests : Conditions) → conditions_of (condition_list tests) ≡ tests
listed_again no_conditions = refl
listed_again (condition first others) = ap (condition first) (listed_again others)

pub list_count : (tests : Conditions) → condition_count tests ≡ length (condition_list tests)
list_count no_conditions = refl
list_count (condition first others) = omega (arith, list_count others)

list_bytes : (tests : Conditions) → conditions_bytes tests ≡ flat_map condition_bytes (condition_list tests)
list_bytes no_conditions = refl
list_bytes (condition first others) = ap (λ more. condition_bytes first ++ more) (list_bytes others)

-- tests behind their number
abbrev pub counted_tests : Conditions → List ℕ
counted_tests tests = to_be_bytes w16 (condition_count tests) ++ conditions_bytes tests

pub counted_list : (tests : Conditions) → counted_tests tests ≡ listed condition_bytes (condition_list tests)
counted_list tests = ap (λ (n : ℕ). to_be_bytes w16 n ++ conditions_bytes tests) (list_count tests) ∙ ap (λ more. to_be_bytes w16 (length (condition_list tests)) ++ more) (list_bytes tests)

pub list_back : (tests : List Condition) → condition_list (conditions_of tests) ≡ tests
list_back [] = refl
list_back (first ∷ others) = ap (λ more. first ∷ more) (list_back others)

-- ---- tests in one another

-- how many tests stand in one another
abbrev mutual
  pub test_depth : Condition → ℕ
  test_depth (is_same name wanted) = 1
  test_depth (is_below name limit) = 1
  test_depth (is_above name limit) = 1
  test_depth (negated test) = 1 + test_depth test
  test_depth (all_of tests) = 1 + deepest_test tests
  test_depth (any_of tests) = 1 + deepest_test tests

  pub deepest_test : Conditions → ℕ
  deepest_test no_conditions = 0
  deepest_test (condition first others) = max (test_depth first) (deepest_test others)

-- a test within the limits in which no more than that many stand in one another
abbrev pub IsTest : ℕ → Condition → Type 0
IsTest left test = IsCondition test × (test_depth test ≤ left)

all_tests : (left : ℕ) (tests : Conditions) → AreConditions tests → deepest_test tests ≤ left → AllByRecursion (IsTest left) (condition_list tests)
all_tests left no_conditions good low = tt
all_tests left (condition first others) good low = ((good.0, omega arith), all_tests left others good.1 (omega arith))

tests_again : (left : ℕ) (tests : Conditions) → condition_count tests < 2 ^ 16 → AreConditions tests → deepest_test tests ≤ left → AreFew (IsTest left) (condition_list tests)
tests_again left tests few good low = (omega (arith, list_count tests), all_tests left tests good low)

good_tests : (left : ℕ) (tests : List Condition) → AllByRecursion (IsTest left) tests → AreConditions (conditions_of tests)
good_tests left [] good = tt
good_tests left (first ∷ others) good = (good.0.0, good_tests left others good.1)

low_tests : (left : ℕ) (tests : List Condition) → AllByRecursion (IsTest left) tests → deepest_test (conditions_of tests) ≤ left
low_tests left [] good = omega arith
low_tests left (first ∷ others) good = let low = good.0.1 in omega (arith, low_tests left others good.1)

-- what several tests are, when each was read
record AreTests (left : ℕ) (tests : List Condition) : Type 0 where
  few : condition_count (conditions_of tests) < 2 ^ 16
  good : AreConditions (conditions_of tests)
  low : deepest_test (conditions_of tests) ≤ left
  form : counted_tests (conditions_of tests) ≡ listed condition_bytes tests

tests_sound : (left : ℕ) (tests : List Condition) → AreFew (IsTest left) tests → AreTests left tests
tests_sound left tests good = record {
  few = subst (λ (n : ℕ). n < 2 ^ 16) (sym (list_count (conditions_of tests) ∙ ap length (list_back tests))) good.0;
  good = good_tests left tests good.1;
  low = low_tests left tests good.1;
  form = counted_list (conditions_of tests) ∙ ap (listed condition_bytes) (list_back tests);
}

some_depth : (test : Condition) → 0 < test_depth test
some_depth (is_same name wanted) = omega arith
some_depth (is_below name limit) = omega arith
some_depth (is_above name limit) = omega arith
some_depth (negated test) = omega arith
some_depth (all_of tests) = omega arith
some_depth (any_of tests) = omega arith

-- a test with its form
abbrev IsTestAt : ℕ → ℕ → List ℕ → Condition → List ℕ → Type 0
IsTestAt left tag bytes test rest = IsTest left test × (tag ∷ bytes ≡ condition_bytes test ++ rest)

abbrev behind_same : List ℕ → List ℕ → Option (Condition × List ℕ)
behind_same name rest = chain (read_value rest) (λ wanted after. Some (is_same name wanted, after))

abbrev behind_below : List ℕ → List ℕ → Option (Condition × List ℕ)
behind_below name rest = chain (read_signed w64 rest) (λ limit after. Some (is_below name limit, after))

abbrev behind_above : List ℕ → List ℕ → Option (Condition × List ℕ)
behind_above name rest = chain (read_signed w64 rest) (λ limit after. Some (is_above name limit, after))

same_sound : (left : ℕ) (bytes : List ℕ) (test : Condition) (rest : List ℕ) → read_same bytes ≡ Some (test, rest) → IsTestAt (suc left) 0 bytes test rest
same_sound left bytes test rest is =
    let n = began name_read behind_same bytes test rest is in
    let v = began value_read (λ wanted after. Some (is_same n.first wanted, after)) n.behind test rest n.goes in
    let same = same_read (is_same n.first v.first) test v.behind rest v.goes in
    subst (λ t. IsTestAt (suc left) 0 bytes t rest) same.0 (
      ((n.good, v.good), omega arith),
      ap (λ more. 0 ∷ more) (joined bytes (name_bytes n.first) n.behind (byte_form v.first) rest n.prefix (ends_with n.behind (byte_form v.first) v.behind rest v.prefix same.1)),
    )

below_sound : (left : ℕ) (bytes : List ℕ) (test : Condition) (rest : List ℕ) → read_below bytes ≡ Some (test, rest) → IsTestAt (suc left) 1 bytes test rest
below_sound left bytes test rest is =
    let n = began name_read behind_below bytes test rest is in
    let v = began signed_64 (λ limit after. Some (is_below n.first limit, after)) n.behind test rest n.goes in
    let same = same_read (is_below n.first v.first) test v.behind rest v.goes in
    subst (λ t. IsTestAt (suc left) 1 bytes t rest) same.0 (
      ((n.good, v.good), omega arith),
      ap (λ more. 1 ∷ more) (joined bytes (name_bytes n.first) n.behind (to_be_bytes w64 (cast_unsigned w64 v.first)) rest n.prefix (ends_with n.behind (to_be_bytes w64 (cast_unsigned w64 v.first)) v.behind rest v.prefix same.1)),
    )

above_sound : (left : ℕ) (bytes : List ℕ) (test : Condition) (rest : List ℕ) → read_above bytes ≡ Some (test, rest) → IsTestAt (suc left) 2 bytes test rest
above_sound left bytes test rest is =
    let n = began name_read behind_above bytes test rest is in
    let v = began signed_64 (λ limit after. Some (is_above n.first limit, after)) n.behind test rest n.goes in
    let same = same_read (is_above n.first v.first) test v.behind rest v.goes in
    subst (λ t. IsTestAt (suc left) 2 bytes t rest) same.0 (
      ((n.good, v.good), omega arith),
      ap (λ more. 2 ∷ more) (joined bytes (name_bytes n.first) n.behind (to_be_bytes w64 (cast_unsigned w64 v.first)) rest n.prefix (ends_with n.behind (to_be_bytes w64 (cast_unsigned w64 v.first)) v.behind rest v.prefix same.1)),
    )

module _ (left : ℕ) (inside : Reads condition_bytes (IsTest left) (read_test left)) where
  over_again : (test : Condition) (rest : List ℕ) → IsTest (suc left) test → read_test (suc left) (condition_bytes test ++ rest) ≡ Some (test, rest)
  over_again (is_same name wanted) rest good =
      went_past name_read behind_same name (byte_form wanted) rest good.0.0 ∙ went_on value_read (λ v after. Some (is_same name v, after)) wanted rest good.0.1
  over_again (is_below name limit) rest good =
      went_past name_read behind_below name (to_be_bytes w64 (cast_unsigned w64 limit)) rest good.0.0 ∙ went_on signed_64 (λ v after. Some (is_below name v, after)) limit rest good.0.1
  over_again (is_above name limit) rest good =
      went_past name_read behind_above name (to_be_bytes w64 (cast_unsigned w64 limit)) rest good.0.0 ∙ went_on signed_64 (λ v after. Some (is_above name v, after)) limit rest good.0.1
  over_again (negated test) rest good = let low = good.1 in went_on inside (λ t after. Some (negated t, after)) test rest (good.0, omega arith)
  over_again (all_of tests) rest good =
      let low = good.1 in
      ap (λ form. read_all (read_test left) (form ++ rest)) (counted_list tests)
      ∙ went_on (list_read inside) (λ ts after. Some (all_of (conditions_of ts), after)) (condition_list tests) rest (tests_again left tests good.0.0 good.0.1 (omega arith))
      ∙ ap (λ ts. Some (all_of ts, rest)) (listed_again tests)
  over_again (any_of tests) rest good =
      let low = good.1 in
      ap (λ form. read_any (read_test left) (form ++ rest)) (counted_list tests)
      ∙ went_on (list_read inside) (λ ts after. Some (any_of (conditions_of ts), after)) (condition_list tests) rest (tests_again left tests good.0.0 good.0.1 (omega arith))
      ∙ ap (λ ts. Some (any_of ts, rest)) (listed_again tests)

  all_sound : (bytes : List ℕ) (test : Condition) (rest : List ℕ) → read_all (read_test left) bytes ≡ Some (test, rest) → IsTestAt (suc left) 4 bytes test rest
  all_sound bytes test rest is =
      let b = began (list_read inside) (λ ts after. Some (all_of (conditions_of ts), after)) bytes test rest is in
      let are = tests_sound left b.first b.good in
      let low = are.low in
      let same = same_read (all_of (conditions_of b.first)) test b.behind rest b.goes in
      subst (λ t. IsTestAt (suc left) 4 bytes t rest) same.0 (
        ((are.few, are.good), omega arith),
        ap (λ more. 4 ∷ more) (ends_with bytes (listed condition_bytes b.first) b.behind rest b.prefix same.1 ∙ ap (λ form. form ++ rest) (sym are.form)),
      )

  any_sound : (bytes : List ℕ) (test : Condition) (rest : List ℕ) → read_any (read_test left) bytes ≡ Some (test, rest) → IsTestAt (suc left) 5 bytes test rest
  any_sound bytes test rest is =
      let b = began (list_read inside) (λ ts after. Some (any_of (conditions_of ts), after)) bytes test rest is in
      let are = tests_sound left b.first b.good in
      let low = are.low in
      let same = same_read (any_of (conditions_of b.first)) test b.behind rest b.goes in
      subst (λ t. IsTestAt (suc left) 5 bytes t rest) same.0 (
        ((are.few, are.good), omega arith),
        ap (λ more. 5 ∷ more) (ends_with bytes (listed condition_bytes b.first) b.behind rest b.prefix same.1 ∙ ap (λ form. form ++ rest) (sym are.form)),
      )

  at_test_tag : (tag k : ℕ) (bytes : List ℕ) (test : Condition) (rest : List ℕ) → tag ≡ k → IsTestAt (suc left) k bytes test rest → IsTestAt (suc left) tag bytes test rest
  at_test_tag tag k bytes test rest at is = subst (λ (n : ℕ). IsTestAt (suc left) n bytes test rest) (sym at) is

  test_of_sound : (tag : ℕ) (bytes : List ℕ) (test : Condition) (rest : List ℕ) → read_test_of (read_test left) tag bytes ≡ Some (test, rest) → IsTestAt (suc left) tag bytes test rest
  test_of_sound tag bytes test rest is =
      on_tag (IsTestAt (suc left) tag bytes test rest) tag 0 _ _ (test, rest) is (λ at found. at_test_tag tag 0 bytes test rest at (same_sound left bytes test rest found))
      (λ is1. on_tag (IsTestAt (suc left) tag bytes test rest) tag 1 _ _ (test, rest) is1 (λ at found. at_test_tag tag 1 bytes test rest at (below_sound left bytes test rest found))
      (λ is2. on_tag (IsTestAt (suc left) tag bytes test rest) tag 2 _ _ (test, rest) is2 (λ at found. at_test_tag tag 2 bytes test rest at (above_sound left bytes test rest found))
      (λ is3. on_tag (IsTestAt (suc left) tag bytes test rest) tag 3 _ _ (test, rest) is3
      (λ at found. with_part inside condition_bytes (IsTest (suc left)) negated 3 (λ t good. let low = good.1 in (good.0, omega arith)) (λ t. refl) tag bytes test rest at found)
      (λ is4. on_tag (IsTestAt (suc left) tag bytes test rest) tag 4 _ _ (test, rest) is4 (λ at found. at_test_tag tag 4 bytes test rest at (all_sound bytes test rest found))
      (λ is5. on_tag (IsTestAt (suc left) tag bytes test rest) tag 5 _ _ (test, rest) is5 (λ at found. at_test_tag tag 5 bytes test rest at (any_sound bytes test rest found))
      (no_tag (IsTestAt (suc left) tag bytes test rest) (test, rest)))))))

  over_sound : (bytes : List ℕ) (test : Condition) (rest : List ℕ) → read_test (suc left) bytes ≡ Some (test, rest) → IsTest (suc left) test × (bytes ≡ condition_bytes test ++ rest)
  over_sound [] test rest is = absurd (cc)
  over_sound (tag ∷ bytes) test rest is = test_of_sound tag bytes test rest is

  over_read : Reads condition_bytes (IsTest (suc left)) (read_test (suc left))
  over_read = record { again = over_again; sound = over_sound }

test_read : (left : ℕ) → Reads condition_bytes (IsTest left) (read_test left)
test_read zero = record { again = λ test rest good. let low = good.1 in absurd (omega (arith, some_depth test)); sound = λ bytes test rest is. absurd (cc) }
test_read (suc left) = over_read left (test_read left)

-- ---- links

depth_back : (d : Depth) → depth_of (depth_byte d) ≡ Some d
depth_back depth.All = refl
depth_back depth.Flow = refl
depth_back depth.Neighbors = refl
depth_back depth.Atom = refl

depth_there : (n : ℕ) (d : Depth) → depth_of n ≡ Some d → n ≡ depth_byte d
depth_there n d is =
    on_tag (n ≡ depth_byte d) n 0 _ _ d is (λ at found. found_at depth_byte depth.All d n 0 at refl found)
    (λ is1. on_tag (n ≡ depth_byte d) n 1 _ _ d is1 (λ at found. found_at depth_byte depth.Flow d n 1 at refl found)
    (λ is2. on_tag (n ≡ depth_byte d) n 2 _ _ d is2 (λ at found. found_at depth_byte depth.Neighbors d n 2 at refl found)
    (λ is3. on_tag (n ≡ depth_byte d) n 3 _ _ d is3 (λ at found. found_at depth_byte depth.Atom d n 3 at refl found)
    (no_tag (n ≡ depth_byte d) d))))

depth_read : Reads (λ d. depth_byte d ∷ []) (λ d. Unit {0}) read_depth
depth_read = number_read depth_byte depth_of depth_back depth_there read_depth refl (λ n rest. refl)

-- in a decider's test no more than 16 stand in one another
abbrev pub IsShallow : Option Decision → Type 0
IsShallow None = Unit {0}
IsShallow (Some decision) = test_depth decision.condition ≤ 16

abbrev IsDecided : Option Decision → Type 0
IsDecided decision = IsDecision decision × IsShallow decision

abbrev behind_depth : Depth → List ℕ → Option (Option Decision × List ℕ)
behind_depth d rest = chain (read_test 16 rest) (λ condition after. Some (Some (record { condition = condition; depth = d }), after))

decision_again : (d : Option Decision) (rest : List ℕ) → IsDecided d → read_decision (decision_bytes d ++ rest) ≡ Some (d, rest)
decision_again None rest good = refl
decision_again (Some d) rest good =
    went_past depth_read behind_depth d.depth (condition_bytes d.condition) rest tt
    ∙ went_on (test_read 16) (λ condition after. Some (Some (record { condition = condition; depth = d.depth }), after)) d.condition rest (good.0, good.1)

abbrev IsDecidedAt : ℕ → List ℕ → Option Decision → List ℕ → Type 0
IsDecidedAt tag bytes d rest = IsDecided d × (tag ∷ bytes ≡ decision_bytes d ++ rest)

decided_sound : (bytes : List ℕ) (d : Option Decision) (rest : List ℕ) → read_decided bytes ≡ Some (d, rest) → IsDecidedAt 1 bytes d rest
decided_sound bytes d rest is =
    let k = began depth_read behind_depth bytes d rest is in
    let t = began (test_read 16) (λ condition after. Some (Some (record { condition = condition; depth = k.first }), after)) k.behind d rest k.goes in
    let made : Decision = record { condition = t.first; depth = k.first } in
    let same = same_read (Some made) d t.behind rest t.goes in
    subst (λ x. IsDecidedAt 1 bytes x rest) same.0 (
      (t.good.0, t.good.1),
      ap (λ more. 1 ∷ more) (joined bytes (depth_byte k.first ∷ []) k.behind (condition_bytes t.first) rest k.prefix (ends_with k.behind (condition_bytes t.first) t.behind rest t.prefix same.1)),
    )

decision_of_sound : (tag : ℕ) (bytes : List ℕ) (d : Option Decision) (rest : List ℕ) → read_decision_of tag bytes ≡ Some (d, rest) → IsDecidedAt tag bytes d rest
decision_of_sound tag bytes d rest is =
    on_tag (IsDecidedAt tag bytes d rest) tag 0 _ _ (d, rest) is (λ at found. bare decision_bytes IsDecided None 0 (tt, tt) refl tag bytes d rest at found)
    (λ is1. on_tag (IsDecidedAt tag bytes d rest) tag 1 _ _ (d, rest) is1 (λ at found. subst (λ (n : ℕ). IsDecidedAt n bytes d rest) (sym at) (decided_sound bytes d rest found))
    (no_tag (IsDecidedAt tag bytes d rest) (d, rest)))

decision_sound : (bytes : List ℕ) (d : Option Decision) (rest : List ℕ) → read_decision bytes ≡ Some (d, rest) → IsDecided d × (bytes ≡ decision_bytes d ++ rest)
decision_sound [] d rest is = absurd (cc)
decision_sound (tag ∷ bytes) d rest is = decision_of_sound tag bytes d rest is

decision_read : Reads decision_bytes IsDecided read_decision
decision_read = record { again = decision_again; sound = decision_sound }

-- a link within the limits, with a decider whose test isn't too deep
abbrev pub IsLink : Connection → Type 0
IsLink link = IsConnection link × IsShallow link.decision

abbrev behind_to : List ℕ → List ℕ → List ℕ → Option (Connection × List ℕ)
behind_to from to bytes = chain (read_decision bytes) (λ decision rest. Some (record { from = from; to = to; decision = decision }, rest))

abbrev behind_from : List ℕ → List ℕ → Option (Connection × List ℕ)
behind_from from bytes = chain (read_name bytes) (behind_to from)

link_read : Reads connection_bytes IsLink read_link
link_read = record {
  again = λ link rest good.
      went_past name_read behind_from link.from (name_bytes link.to ++ decision_bytes link.decision) rest good.0.from
      ∙ went_past name_read (behind_to link.from) link.to (decision_bytes link.decision) rest good.0.to
      ∙ went_on decision_read (λ decision after. Some (record { from = link.from; to = link.to; decision = decision }, after)) link.decision rest (good.0.decision, good.1);
  sound = λ bytes link rest is.
      let f = began name_read behind_from bytes link rest is in
      let t = began name_read (behind_to f.first) f.behind link rest f.goes in
      let d = began decision_read (λ decision after. Some (record { from = f.first; to = t.first; decision = decision }, after)) t.behind link rest t.goes in
      let made : Connection = record { from = f.first; to = t.first; decision = d.first } in
      let same = same_read made link d.behind rest d.goes in
      subst (λ x. IsLink x × (bytes ≡ connection_bytes x ++ rest)) same.0 (
        (record { from = f.good; to = t.good; decision = d.good.0 }, d.good.1),
        joined bytes (name_bytes f.first) f.behind (name_bytes t.first ++ decision_bytes d.first) rest f.prefix
            (joined f.behind (name_bytes t.first) t.behind (decision_bytes d.first) rest t.prefix
            (ends_with t.behind (decision_bytes d.first) d.behind rest d.prefix same.1)),
      );
}

pub links_read : Reads (listed connection_bytes) (AreFew IsLink) read_links
unfolding read_links
links_read = list_read link_read

-- ---- what the code reads

-- one less within a test
pub test_below : (left : ℕ) (bytes : List ℕ) → left ≢ 0 → read_test (suc (left - 1)) bytes ≡ read_test left bytes
test_below left bytes some = let more : suc (left - 1) ≡ left = omega (arith, some) in ap (λ n. read_test n bytes) more

-- the tree of each kind of test
pub ruleset tests_as_trees = (condition_of-is, condition_of-below, condition_of-above, condition_of-not, condition_of-all, condition_of-any)
