use Rattle.std.proofs.Common.{subst, arith}
use Rattle.tf_board.specs.Board.{BoardValue, IsSound}
use Rattle.tf_board.proofs.SeekingLemmas.{few_commands}
use Rattle.tf_board.proofs.board.Board.count.Goals as goal

pub returns-clause-few : goal.returns-clause-few
returns-clause-few g c =
    let s = subst (λ (b : BoardValue _). IsSound g.K.Desk.state c.self.inside.kept b) c.self.view_is c.self.invariant in
    omega (arith, few_commands c.args.self.now.past, s.size, s.limit)
