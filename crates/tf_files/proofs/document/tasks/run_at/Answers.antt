use Rattle.std.proofs.Common.{[], codes}
use Rattle.toml.specs.View.{view, table_view}
use Rattle.tf_files.specs.document.Reading.{texts_form}
use Rattle.tf_files.specs.document.Places.{place_of}
use Rattle.tf_files.proofs.ReadingLemmas.{optional_refuses}
use Rattle.tf_files.proofs.document.tasks.run_at.Goals as goal

pub returns-in-Some-clause-refused : goal.returns-in-Some-clause-refused
returns-in-Some-clause-refused c =
    optional_refuses c.texts_form.result c.args.path.now (codes "run") (table_view c.args.table.now) [] texts_form (place_of c.in-Some.field) (view c.in-Some.field.value.now)
    (rw c.in-Some.is at c.optional.ensures.place) (rw c.in-Some.is at c.optional.ensures.found) c.texts_form.ensures.refused
