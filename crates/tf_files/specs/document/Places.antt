-- Where a value stands whose path isn't made yet: one step below a path.
use Rattle.std.specs.Prelude.{ℕ, List}
use Rattle.std.specs.Fmt.{decimal}
use Rattle.tf_files.specs.document.Reading.{below}
use Rattle.tf_files.specs.declared.document.fields.Field.{Field}
use Rattle.tf_files.specs.declared.document.fields.Step.{Step}
use Rattle.tf_files.specs.declared.document.fields.Step.TheVariants as step

-- the bytes of a step: those of a key, or an item's number
abbrev pub step_bytes : Step → List ℕ
step_bytes (step.Key key) = key.now
step_bytes (step.Item number) = decimal number

-- the path of a value
abbrev pub place_of : Field → List ℕ
place_of field = below field.above.now (step_bytes field.step)
