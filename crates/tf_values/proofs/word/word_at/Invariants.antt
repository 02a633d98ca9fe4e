use Rattle.std.proofs.Common.{◌≡◌, true, take}
use Rattle.tf_values.specs.Word.{is_word}
use Rattle.tf_values.proofs.word.word_at.Given as goal

abbrev pub invariant-loop-len : goal.invariant-loop-len
invariant-loop-len l = is_word (take l.len l.bytes) ≡ true
