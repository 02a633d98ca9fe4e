use Rattle.std.proofs.Common.{refl}
use Rattle.tf_links.proofs.NumberLemmas.{none_other, one_other}
use Rattle.tf_links.proofs.bits.Bits.first_other.Goals as goal

pub returns-in-None-clause-none : goal.returns-in-None-clause-none
returns-in-None-clause-none c = λ same. none_other c.args.self.now c.args.on c.args.number c.others.result c.others.ensures (c.in-None.ensures.none refl)

pub returns-in-Some-clause-some : goal.returns-in-Some-clause-some
returns-in-Some-clause-some c = one_other c.args.self.now c.args.on c.args.number c.others.result c.in-Some.bit c.others.ensures c.in-Some.ensures.some
