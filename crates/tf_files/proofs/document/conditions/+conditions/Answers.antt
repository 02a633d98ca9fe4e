use Rattle.std.proofs.Common.{map, [], ◌∷◌}
use Rattle.std.proofs.lemmas.List.{map-append}
use Rattle.tf_flow.specs.Outline.{condition_of}
use Rattle.tf_files.specs.FlowFile.{test_within}
use Rattle.tf_files.specs.document.Places.{place_of}
use Rattle.tf_files.specs.document.Reading.{each}
use Rattle.tf_files.proofs.ReadingLemmas.{each_turn}
use Rattle.toml.specs.View.{items_view}
use Rattle.tf_files.proofs.document.conditions.+conditions.Goals as goal

pub each_test-loop-number-preserved : goal.each_test-loop-number-preserved
each_test-loop-number-preserved t c = rw c.in_ok-push.ensures.items
    (rw (map-append condition_of c.loop-number.tests.items (c.in_ok-test.test ∷ [])) (each_turn (test_within c.args.left) c.args.path.now c.loop-number.number c.args.items.now c.index-items-number.result (place_of c.item_at-field.result) c.item_at-field.result.value.now
    (map condition_of c.loop-number.tests.items) (condition_of c.in_ok-test.test) (each (test_within c.args.left) c.args.path.now 0 (items_view c.args.items.now))
    c.loop-number-test.true c.index-items-number.is c.item_at-field.ensures.place c.item_at-field.ensures.value c.in_ok-test.ensures.ok c.loop-number.invariant))
