use Rattle.std.proofs.Common.{◌≡◌, map}
use Rattle.tf_files.specs.document.Reading.{unknown_key}
use Rattle.toml.specs.View.{members_view}
use Rattle.tf_files.proofs.document.fields.unknown_key.Given as goal

abbrev pub invariant-loop-key : goal.invariant-loop-key
invariant-loop-key l = unknown_key (map (λ key. key.now) l.known) (members_view l.key-iterator) ≡ unknown_key (map (λ key. key.now) l.known) (members_view l.table.entries)
