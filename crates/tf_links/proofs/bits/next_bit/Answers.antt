use Rattle.std.proofs.Common.{◌/◌, ◌^◌, refl}
use Rattle.tf_links.proofs.NumberLemmas.{first_bit}
use Rattle.tf_links.proofs.bits.next_bit.Goals as goal

pub returns-clause-some : goal.returns-clause-some
returns-clause-some c = first_bit c.args.word c.args.bit (c.args.word / 2 ^ c.args.bit) refl c.if-rest-eq0.false c.ranges.word.fits
