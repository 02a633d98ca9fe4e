use Rattle.std.proofs.Common.{map, [], ◌∷◌}
use Rattle.std.proofs.lemmas.List.{map-append}
use Rattle.tf_flow.specs.Outline.{connection_of}
use Rattle.tf_files.proofs.ReadingLemmas.{each_turn}
use Rattle.tf_files.specs.document.Places.{place_of}
use Rattle.tf_files.specs.document.Reading.{each}
use Rattle.tf_files.specs.FlowFile.{link_form}
use Rattle.toml.specs.View.{items_view}
use Rattle.tf_files.proofs.links.each_link.Goals as goal

pub loop-number-preserved : goal.loop-number-preserved
loop-number-preserved c = rw c.in_ok-add.ensures
    (rw (map-append connection_of c.loop-number.links.items (c.in_ok-link.link ∷ [])) (each_turn link_form c.args.path.now c.loop-number.number c.args.array.now c.index-array-number.result (place_of c.item_at-field.result) c.item_at-field.result.value.now
    (map connection_of c.loop-number.links.items) (connection_of c.in_ok-link.link) (each link_form c.args.path.now 0 (items_view c.args.array.now))
    c.loop-number-test.true c.index-array-number.is c.item_at-field.ensures.place c.item_at-field.ensures.value c.in_ok-link.ensures.ok c.loop-number.invariant))
