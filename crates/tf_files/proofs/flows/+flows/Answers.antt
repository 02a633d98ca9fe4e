use Rattle.std.proofs.Common.{◌≡◌, map, [], ◌∷◌, codes, IfSome, option_map, subst}
use Rattle.std.proofs.lemmas.List.{map-append}
use Rattle.tf_files.proofs.ReadingLemmas.{each_turn, optional_refuses}
use Rattle.tf_files.specs.document.Places.{place_of}
use Rattle.tf_files.specs.document.Reading.{each, array_of, below}
use Rattle.tf_files.specs.declared.document.fields.Field.{Field}
use Rattle.toml.specs.Data.{get_member}
use Rattle.tf_files.specs.FlowFile.{item_form}
use Rattle.tf_flow.specs.Plan.{item_as_written}
use Rattle.toml.specs.View.{view, items_view, table_view}
use Rattle.tf_files.proofs.flows.+flows.Goals as goal

pub each_item-loop-number-preserved : goal.each_item-loop-number-preserved
each_item-loop-number-preserved t c = rw c.in_ok-add.ensures
    (rw (map-append item_as_written c.loop-number.items.items (c.in_ok-item.item ∷ [])) (each_turn (item_form c.args.left) c.args.path.now c.loop-number.number c.args.array.now c.index-array-number.result (place_of c.item_at-field.result) c.item_at-field.result.value.now
    (map item_as_written c.loop-number.items.items) (item_as_written c.in_ok-item.item) (each (item_form c.args.left) c.args.path.now 0 (items_view c.args.array.now))
    c.loop-number-test.true c.index-array-number.is c.item_at-field.ensures.place c.item_at-field.ensures.value c.in_ok-item.ensures.ok c.loop-number.invariant))

pub items_at-returns-in-Some-clause-refused : goal.items_at-returns-in-Some-clause-refused
items_at-returns-in-Some-clause-refused t c =
    optional_refuses c.items_form.result c.args.path.now (codes "items") (table_view c.args.table.now) [] (array_of (item_form c.args.left)) (place_of c.in-Some.field) (view c.in-Some.field.value.now)
    (subst (λ o. IfSome o (λ (field : Field). place_of field ≡ below c.args.path.now (codes "items"))) c.in-Some.is c.optional.ensures.place)
    (subst (λ o. option_map (λ (field : Field). view field.value.now) o ≡ get_member (codes "items") (table_view c.args.table.now)) c.in-Some.is c.optional.ensures.found)
    c.items_form.ensures.refused
