use Rattle.std.proofs.Common.{subst, refl}
use Rattle.tf_board.specs.Board.{BoardValue, IsSound}
use Rattle.tf_board.specs.declared.faults.BoardFault.TheVariants as fault
use Rattle.tf_board.proofs.BoardLemmas.{records_same}
use Rattle.tf_board.proofs.board.Board.post.Goals as goal

pub returns-in_default-clause-records : goal.returns-in_default-clause-records
returns-in_default-clause-records g c =
    let D = g.K.Desk in
    let s = subst (λ (b : BoardValue _). IsSound D.state c.self.inside.kept b) c.self.view_is c.self.invariant in
    records_same D.state c.self.inside.kept c.args.self.now c.args.self.now _ fault.Memory s refl refl
