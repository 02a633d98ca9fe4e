use Rattle.std.proofs.Common.{sym}
use Rattle.tf_words.proofs.NumberLemmas.{filled_text}
use Rattle.tf_words.proofs.word.Word.is_filled.Goals as goal

pub returns : goal.returns
returns c = rw (← c.as_str-text.ensures) (filled_text c.as_str-text.result.now c.as_str-text.utf8 (sym c.if-is_empty.ensures))
