use Rattle.std.proofs.Common.{◌≡◌}
use Rattle.toml.specs.View.{members_view}
use Rattle.tf_files.specs.document.Places.{place_of}
use Rattle.tf_files.specs.document.Reading.{binds_of}
use Rattle.tf_files.proofs.ReadingLemmas.{after}
use Rattle.tf_files.proofs.document.values.binds_of.Given as goal

-- the symbols made, followed by those of what is left, are those of all
abbrev pub invariant-loop-key : goal.invariant-loop-key
invariant-loop-key l = after l.binds.items (binds_of (place_of l.field) (members_view l.key-iterator)) ≡ binds_of (place_of l.field) (members_view l.table.entries)
