use Rattle.std.proofs.Common.{◌≡◌}
use Rattle.toml.specs.View.{items_view}
use Rattle.tf_files.specs.document.Reading.{each, text_form}
use Rattle.tf_files.proofs.ReadingLemmas.{after, each_from}
use Rattle.tf_files.proofs.document.words.each_text.Given as goal

-- the texts made, followed by those of what is left, are those of all
abbrev pub invariant-loop-number : goal.invariant-loop-number
invariant-loop-number l = after l.texts.items (each_from text_form l.path l.number l.items) ≡ each text_form l.path 0 (items_view l.items)
