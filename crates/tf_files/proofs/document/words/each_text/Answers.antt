use Rattle.toml.specs.View.{items_view}
use Rattle.tf_files.specs.document.Places.{place_of}
use Rattle.tf_files.specs.document.Reading.{each, text_form}
use Rattle.tf_files.proofs.ReadingLemmas.{each_turn}
use Rattle.tf_files.proofs.document.words.each_text.Goals as goal

pub loop-number-preserved : goal.loop-number-preserved
loop-number-preserved c =
    rw c.in_ok-push.ensures.items
    (each_turn text_form c.args.path.now c.loop-number.number c.args.items.now c.index-items-number.result (place_of c.item_at-field.result) c.item_at-field.result.value.now c.loop-number.texts.items c.in_ok-text_form.field-0 (each text_form c.args.path.now 0 (items_view c.args.items.now))
    c.loop-number-test.true c.index-items-number.is c.item_at-field.ensures.place c.item_at-field.ensures.value c.in_ok-text_form.ensures.ok c.loop-number.invariant)
