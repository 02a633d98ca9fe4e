-- What is counted of a test is counted of its tree; and of tests, one more at a time.
use Rattle.std.proofs.Common.{◌≡◌, ◌∙◌, ℕ, ◌+◌, ◌<◌, max, List, [], ◌∷◌, ◌++◌, map, length, take, get_or, refl, ap, sym, rules, arith}
use Rattle.std.proofs.lemmas.List.{take_more}
use Rattle.tf_flow.specs.Limits.{Measure, measure, measure_all, name_len, value_len, comparison, beside, around, together}
use Rattle.tf_flow.specs.Outline.{Condition, is_same, is_below, is_above, negated, all_of, any_of, Conditions, no_conditions, condition, conditions_of, condition_of}
use Rattle.tf_flow.specs.declared.deciders.Test.{Test, the_lemmas, Row_of-Test, end_of-Test, more_of-Test, items-the_row-Test}
use Rattle.tf_flow.specs.declared.deciders.Test.TheVariants.{outs-All', outs-Any'}
use Rattle.tf_flow.specs.declared.deciders.Test.TheVariants as test

-- what is counted of a test, by its tree
abbrev mutual
  pub condition_measure : Condition → Measure
  condition_measure (is_same name wanted) = comparison (name_len name + value_len wanted)
  condition_measure (is_below name limit) = comparison (name_len name + 8)
  condition_measure (is_above name limit) = comparison (name_len name + 8)
  condition_measure (negated test) = around 1 (condition_measure test)
  condition_measure (all_of tests) = around 3 (conditions_measure tests)
  condition_measure (any_of tests) = around 3 (conditions_measure tests)

  pub conditions_measure : Conditions → Measure
  conditions_measure no_conditions = record { nesting = 0; comparisons = 0; len = 0 }
  conditions_measure (condition first others) = beside (condition_measure first) (conditions_measure others)

-- what is counted of a test is counted of its tree
mutual
  pub told : (t : Test) → measure t ≡ condition_measure (condition_of t)
  told (test.Is name wanted) = search (rules, the_lemmas)
  told (test.Below name wanted) = search (rules, the_lemmas)
  told (test.Above name wanted) = search (rules, the_lemmas)
  told (test.Not' p inside) =
      let counted : measure (test.Not' p inside) ≡ around 1 (measure inside) = search (rules, the_lemmas) in
      let shown : condition_of (test.Not' p inside) ≡ negated (condition_of inside) = search (rules, the_lemmas) in
      counted ∙ ap (around 1) (told inside) ∙ ap condition_measure (sym shown)
  told (test.All' n row) =
      let outs = outs-All' n row in
      let counted : measure (test.All' n row) ≡ around 3 (together (map measure (items-the_row-Test _ row))) = search (rules, the_lemmas, outs) in
      let shown : condition_of (test.All' n row) ≡ all_of (conditions_of (map condition_of (items-the_row-Test _ row))) = search (rules, the_lemmas, outs) in
      counted ∙ ap (around 3) (told_row _ row) ∙ ap condition_measure (sym shown)
  told (test.Any' n row) =
      let outs = outs-Any' n row in
      let counted : measure (test.Any' n row) ≡ around 3 (together (map measure (items-the_row-Test _ row))) = search (rules, the_lemmas, outs) in
      let shown : condition_of (test.Any' n row) ≡ any_of (conditions_of (map condition_of (items-the_row-Test _ row))) = search (rules, the_lemmas, outs) in
      counted ∙ ap (around 3) (told_row _ row) ∙ ap condition_measure (sym shown)

  told_row : (n : _) (row : Row_of-Test n) → together (map measure (items-the_row-Test n row)) ≡ conditions_measure (conditions_of (map condition_of (items-the_row-Test n row)))
  told_row n end_of-Test = refl
  told_row n (more_of-Test t rest) = ap (λ m. beside m (together (map measure (items-the_row-Test _ rest)))) (told t) ∙ ap (beside (condition_measure (condition_of t))) (told_row _ rest)

-- ---- one more at a time

nesting_push : (tests : List Test) (test : Test) → (measure_all (tests ++ test ∷ [])).nesting ≡ max (measure_all tests).nesting (measure test).nesting
nesting_push [] test = omega arith
nesting_push (t ∷ tests) test = omega (arith, nesting_push tests test)

comparisons_push : (tests : List Test) (test : Test) → (measure_all (tests ++ test ∷ [])).comparisons ≡ (measure_all tests).comparisons + (measure test).comparisons
comparisons_push [] test = omega arith
comparisons_push (t ∷ tests) test = omega (arith, comparisons_push tests test)

len_push : (tests : List Test) (test : Test) → (measure_all (tests ++ test ∷ [])).len ≡ (measure_all tests).len + (measure test).len
len_push [] test = omega arith
len_push (t ∷ tests) test = omega (arith, len_push tests test)

-- the front of a list, and the test after it
prefix : (tests : List Test) (i : ℕ) (test : Test) → i < length tests → test ≡ get_or tests i test → take (i + 1) tests ≡ take i tests ++ test ∷ []
prefix tests i test within is = take_more tests i test within ∙ ap (λ (t : Test). take i tests ++ t ∷ []) (sym is)

pub nesting_more : (tests : List Test) (i : ℕ) (test : Test) → i < length tests → test ≡ get_or tests i test → (measure_all (take (i + 1) tests)).nesting ≡ max (measure_all (take i tests)).nesting (measure test).nesting
nesting_more tests i test within is = ap (λ (ts : List Test). (measure_all ts).nesting) (prefix tests i test within is) ∙ nesting_push (take i tests) test

pub comparisons_more : (tests : List Test) (i : ℕ) (test : Test) → i < length tests → test ≡ get_or tests i test → (measure_all (take (i + 1) tests)).comparisons ≡ (measure_all (take i tests)).comparisons + (measure test).comparisons
comparisons_more tests i test within is = ap (λ (ts : List Test). (measure_all ts).comparisons) (prefix tests i test within is) ∙ comparisons_push (take i tests) test

pub len_more : (tests : List Test) (i : ℕ) (test : Test) → i < length tests → test ≡ get_or tests i test → (measure_all (take (i + 1) tests)).len ≡ (measure_all (take i tests)).len + (measure test).len
len_more tests i test within is = ap (λ (ts : List Test). (measure_all ts).len) (prefix tests i test within is) ∙ len_push (take i tests) test
