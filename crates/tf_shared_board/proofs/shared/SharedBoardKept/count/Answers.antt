use Rattle.std.proofs.Common.{length, ap, subst, arith}
use Rattle.tf_shared_board.specs.Shared.{SharedValue, IsShared}
use Rattle.tf_shared_board.proofs.CallLemmas.{length-followed, length-numbered}
use Rattle.tf_shared_board.proofs.shared.SharedBoardKept.count.Goals as goal

pub returns : goal.returns
returns g c =
    let now = c.args.self.now in
    let s = subst (λ (v : SharedValue _). IsShared g.K.Desk.state v) c.self.view_is c.self.invariant in
    omega (arith, c.count.ensures.count, ap (λ (v : SharedValue _). length v.board.past) c.self.view_is, ap length s.begins, length-followed now.start.past now.made, length-numbered now.made)
