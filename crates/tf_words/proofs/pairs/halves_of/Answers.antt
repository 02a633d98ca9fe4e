use Rattle.std.proofs.lemmas.List.{take_rest}
use Rattle.std.proofs.Common.{◌+◌, arith}
use Rattle.tf_words.proofs.PairLemmas.{text_behind}
use Rattle.tf_words.proofs.pairs.halves_of.Goals as goal

pub returns-then-byte-eq61-clause-text : goal.returns-then-byte-eq61-clause-text
returns-then-byte-eq61-clause-text c = λ text.
    rw (take_rest c.args.word.now (c.loop-len.len + 1)) (text_behind c.args.word.now c.loop-len.len text (omega arith) c.if-byte-eq61.true)
