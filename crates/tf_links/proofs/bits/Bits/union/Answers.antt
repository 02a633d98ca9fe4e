use Rattle.std.proofs.Common.{◌≡◌, ◌≤◌, length, arith, ap}
use Rattle.std.proofs.lemmas.Grind.{common_steps}
use Rattle.tf_links.proofs.BitLemmas.{joined_all}
use Rattle.tf_links.proofs.bits.Bits.union.Goals as goal

pub returns-clause-set : goal.returns-clause-set
returns-clause-set c =
    let count : length c.args.self.now ≤ c.loop-i.i = let v : length c.self.inside.words.items ≡ length c.args.self.now = ap length c.self.view_is in grind (arith, common_steps) in
    let same : length c.args.other.now ≡ length c.args.self.now = omega (arith, c.requires) in
    joined_all c.args.self.now c.args.other.now c.loop-i.self-inside.words.items c.loop-i.i c.loop-i.invariant.joined count same
