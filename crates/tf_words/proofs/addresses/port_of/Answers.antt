use Rattle.std.proofs.Common.{sym}
use Rattle.tf_words.proofs.AddressLemmas.{count_utf8}
use Rattle.tf_words.proofs.addresses.port_of.Goals as goal

pub returns-in_default : goal.returns-in_default
returns-in_default c = absurd (count_utf8 c.args.word.now (sym c.if-not-is_count.ensures) c.in_default.ensures.cases.0)
