use Rattle.std.proofs.Common.{◌≡◌, ◌++◌, take, drop, option_map}
use Rattle.tf_words.specs.Verbs.{Halves, halves_of}
use Rattle.tf_words.proofs.pairs.halves_of.Given as goal

abbrev pub invariant-loop-len : goal.invariant-loop-len
invariant-loop-len l = halves_of l.word ≡ option_map (λ (halves : Halves). record halves { name = take l.len l.word ++ halves.name }) (halves_of (drop l.len l.word))
