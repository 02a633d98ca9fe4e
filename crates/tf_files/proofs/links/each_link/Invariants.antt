use Rattle.std.proofs.Common.{◌≡◌, map}
use Rattle.tf_flow.specs.Outline.{connection_of}
use Rattle.tf_files.specs.document.Reading.{each}
use Rattle.tf_files.proofs.ReadingLemmas.{after, each_from}
use Rattle.tf_files.specs.FlowFile.{link_form}
use Rattle.toml.specs.View.{items_view}
use Rattle.tf_files.proofs.links.each_link.Given as goal

-- the links made, followed by those of what is left, are those of all
abbrev pub invariant-loop-number : goal.invariant-loop-number
invariant-loop-number l = after (map connection_of l.links.items) (each_from link_form l.path l.number l.array) ≡ each link_form l.path 0 (items_view l.array)
