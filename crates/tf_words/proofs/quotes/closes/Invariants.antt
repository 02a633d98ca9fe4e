use Rattle.std.proofs.Common.{◌≡◌, drop, is_some}
use Rattle.tf_words.specs.declared.quotes.Inside.TheVariants as at
use Rattle.tf_words.specs.Verbs.{text_from}
use Rattle.tf_words.proofs.quotes.closes.Given as goal

abbrev pub invariant-loop-byte : goal.invariant-loop-byte
invariant-loop-byte l = is_some (text_from at.Bytes l.inner) ≡ is_some (text_from l.place (drop l.byte-index l.inner))
