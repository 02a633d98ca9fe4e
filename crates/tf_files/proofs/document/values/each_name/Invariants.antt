use Rattle.std.proofs.Common.{◌≡◌}
use Rattle.toml.specs.View.{items_view}
use Rattle.tf_files.specs.document.Places.{place_of}
use Rattle.tf_files.specs.document.Reading.{each, name_form}
use Rattle.tf_files.proofs.ReadingLemmas.{after, each_from}
use Rattle.tf_files.proofs.document.values.each_name.Given as goal

-- the names made, followed by those of what is left, are those of all
abbrev pub invariant-loop-number : goal.invariant-loop-number
invariant-loop-number l = after l.names.items (each_from name_form (place_of l.array) l.number l.items) ≡ each name_form (place_of l.array) 0 (items_view l.items)
