use Rattle.std.proofs.Common.{refl}
use Rattle.std.specs.Fmt.{decimal}
use Rattle.toml.specs.View.{items_view}
use Rattle.tf_files.specs.document.Places.{place_of}
use Rattle.tf_files.specs.document.Reading.{below, each, name_form}
use Rattle.tf_files.proofs.ReadingLemmas.{each_turn}
use Rattle.tf_files.proofs.document.values.each_name.Goals as goal

pub loop-number-preserved : goal.loop-number-preserved
loop-number-preserved c =
    rw c.in_ok-push.ensures.items
    (each_turn name_form (place_of c.args.array.now) c.loop-number.number c.args.items.now c.index-items-number.result (below (place_of c.args.array.now) (decimal c.loop-number.number)) c.index-items-number.result c.loop-number.names.items c.in_ok-name_below.field-0 (each name_form (place_of c.args.array.now) 0 (items_view c.args.items.now))
    c.loop-number-test.true c.index-items-number.is refl refl c.in_ok-name_below.ensures.ok c.loop-number.invariant)
