-- The tree of a test, level by level.
use Rattle.std.proofs.Common.{◌≡◌, ℕ, ℤ, List, map, Box, Global, rules}
use Rattle.tf_values.specs.declared.value.Val.{Val}
use Rattle.tf_flow.specs.declared.deciders.Test.{Test, the_lemmas}
use Rattle.tf_flow.specs.declared.deciders.Test.TheVariants as test
use Rattle.tf_flow.specs.declared.deciders.Tests.{Tests}
use Rattle.tf_flow.specs.Outline.{is_same, is_below, is_above, negated, all_of, any_of, condition_of, conditions_of}

pub condition_of-is : (name : List ℕ) (wanted : Val) → condition_of (test.Is name wanted) ≡ is_same name wanted
condition_of-is name wanted = search (rules, the_lemmas)

pub condition_of-below : (name : List ℕ) (limit : ℤ) → condition_of (test.Below name limit) ≡ is_below name limit
condition_of-below name limit = search (rules, the_lemmas)

pub condition_of-above : (name : List ℕ) (limit : ℤ) → condition_of (test.Above name limit) ≡ is_above name limit
condition_of-above name limit = search (rules, the_lemmas)

pub condition_of-not : (inside : Box Test Global) → condition_of (test.Not inside) ≡ negated (condition_of inside.value)
condition_of-not inside = search (rules, the_lemmas)

pub condition_of-all : (tests : Tests) → condition_of (test.All tests) ≡ all_of (conditions_of (map condition_of tests.items.items))
condition_of-all tests = search (rules, the_lemmas)

pub condition_of-any : (tests : Tests) → condition_of (test.Any tests) ≡ any_of (conditions_of (map condition_of tests.items.items))
condition_of-any tests = search (rules, the_lemmas)
