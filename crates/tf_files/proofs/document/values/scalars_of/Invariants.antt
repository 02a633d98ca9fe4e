use Rattle.std.proofs.Common.{◌≡◌, ◌++◌, drop, option_map}
use Rattle.toml.specs.View.{items_view}
use Rattle.tf_files.specs.document.Reading.{scalars_of}
use Rattle.tf_files.proofs.document.values.scalars_of.Given as goal

-- the scalars made, followed by those of what is left, are those of all
abbrev pub invariant-loop-item : goal.invariant-loop-item
invariant-loop-item l = option_map (λ rest. l.scalars.items ++ rest) (scalars_of (items_view (drop l.item-index l.items))) ≡ scalars_of (items_view l.items)
