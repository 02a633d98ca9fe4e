use Rattle.std.proofs.Common.{List, None, [], subst, sym}
use Rattle.tf_board.specs.Board.{BoardValue}
use Rattle.tf_shared_board.specs.Shared.{IsShared}
use Rattle.tf_shared_board.specs.declared.calls.Made.{Made}
use Rattle.tf_shared_board.proofs.ShareLemmas.{kept_new}
use Rattle.tf_shared_board.proofs.shared.SharedBoard.make.Goals as goal

pub invariant_of-result : goal.invariant_of-result
invariant_of-result g c =
    let state = g.K.Desk.state in
    subst (λ (l : List Made). IsShared state record { start = c.of-start.result.value; board = c.args.board; made = l; halt = None }) (sym c.new.ensures.items)
    (subst (λ (b : BoardValue _). IsShared state record { start = b; board = c.args.board; made = []; halt = None }) (sym c.of-start.ensures) (kept_new state c.args.board c.requires))
