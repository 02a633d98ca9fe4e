use Rattle.std.proofs.Common.{arith, ap, length}
use Rattle.tf_engines.specs.Shared.{SharedValue}
use Rattle.tf_engines.proofs.SeenLemmas.{length-numbered}
use Rattle.tf_engines.proofs.shared.SharedKept.count.Goals as goal

pub returns : goal.returns
returns g c = omega (arith, length-numbered c.args.self.now.now.past, ap (λ (s : SharedValue _). length s.now.past) c.self.view_is, c.count.ensures)
