use Rattle.tf_audit.proofs.WordLemmas.{cut_there, cut_nowhere}
use Rattle.tf_audit.proofs.words.cut.Goals as goal

pub returns-in-Some : goal.returns-in-Some
returns-in-Some c = cut_there c.args.bytes.now c.prefix.result.0.now c.prefix.result.1.now c.in-Some.behind.now _ c.prefix.ensures.whole c.prefix.ensures.word c.prefix.ensures.end c.in-Some.ensures.cases.0

pub returns-in-None : goal.returns-in-None
returns-in-None c = cut_nowhere c.args.bytes.now c.prefix.result.0.now c.prefix.result.1.now c.prefix.result.1.now c.prefix.ensures.whole c.prefix.ensures.word c.prefix.ensures.end c.in-None.ensures.cases
