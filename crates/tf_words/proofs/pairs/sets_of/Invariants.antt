use Rattle.std.proofs.Common.{◌≡◌, [], drop}
use Rattle.tf_words.specs.Held.{texts_in}
use Rattle.tf_words.specs.Verbs.{sets_behind}
use Rattle.tf_words.proofs.pairs.sets_of.Given as goal

abbrev pub invariant-loop-word : goal.invariant-loop-word
invariant-loop-word l = sets_behind [] (texts_in l.words) ≡ sets_behind l.sets.items (texts_in (drop l.word-index l.words))
