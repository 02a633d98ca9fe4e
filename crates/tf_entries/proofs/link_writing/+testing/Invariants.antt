use Rattle.std.proofs.Common.{◌≡◌, ◌++◌, take}
use Rattle.std.specs.List.{flat_map, AllByRecursion}
use Rattle.tf_entries.specs.Shown.{test_bytes, IsTest}
use Rattle.tf_entries.proofs.link_writing.+testing.Given as goal

abbrev pub invariant-each_test-loop-test : goal.invariant-each_test-loop-test
invariant-each_test-loop-test l = record {
  appended : l.out.items ≡ l.initial.out.items ++ flat_map test_bytes (take l.test-index l.tests);
  good : AllByRecursion IsTest (take l.test-index l.tests);
}
