use Rattle.std.proofs.Common.{◌≡◌}
use Rattle.toml.specs.View.{members_view}
use Rattle.tf_files.specs.document.Places.{place_of}
use Rattle.tf_files.specs.document.Tasks.{rebounds_of}
use Rattle.tf_files.proofs.ReadingLemmas.{after}
use Rattle.tf_files.proofs.document.rebinds.rebounds_of.Given as goal

-- the arguments made, followed by those of what is left, are those of all
abbrev pub invariant-loop-key : goal.invariant-loop-key
invariant-loop-key l = after l.args.items (rebounds_of (place_of l.field) (members_view l.key-iterator)) ≡ rebounds_of (place_of l.field) (members_view l.table.entries)
